-- Bits in words, by division and remainder.
use Rattle.std.specs.Prelude.{ℕ, zero, suc, ◌+◌, ◌-◌, ◌/◌, ◌%◌, ◌≤◌, ◌<◌, ◌≡◌, Bool, true, false, List, [], ◌∷◌, ◌++◌, map, eqb, ltb, length, get_or, take, drop, replicate, set}
use Rattle.model.specs.Lists.{count}
use Rattle.words.specs.Slices.{SameBut}

-- the first k bits of a word, the lowest first
unfoldable pub word_bits : ℕ → ℕ → List Bool
word_bits zero w = []
word_bits (suc k) w = eqb (w % 2) 1 ∷ word_bits k (w / 2)

-- the bits of words, 32 to a word
unfoldable pub bits_of : List ℕ → List Bool
bits_of [] = []
bits_of (w ∷ ws) = word_bits 32 w ++ bits_of ws

-- the bits of a slice from a word on
unfoldable pub bits_from : ℕ → List ℕ → List Bool
bits_from base ws = bits_of (drop base ws)

-- how many bits are ones
unfoldable pub ones_of : List Bool → ℕ
ones_of bs = count (λ (b : Bool). b) bs

-- the n-th bit from a word on is set, and nothing else changed
pub record SetBit (base n : ℕ) (before after : List ℕ) : Type 0 where
  pub bits : bits_from base after ≡ set (bits_from base before) n true
  pub same : SameBut (base + n / 32) 1 before after

-- whether a word is not zero
abbrev pub is_nonzero : ℕ → Bool
is_nonzero w = ltb 0 w

-- a column of words before 64 words that are all zero
pub record Unmarked (column size base : ℕ) (ws : List ℕ) : Type 0 where
  pub apart : column + size ≤ base
  pub few : size ≤ 2048
  pub space : base + 64 ≤ length ws
  pub clear : (i : ℕ) → base ≤ i → i < base + 64 → get_or ws i 0 ≡ 0

-- the bits from a word on are those of the column's words, and past them as they were
pub record Marked (column size base : ℕ) (before after : List ℕ) : Type 0 where
  pub bits : bits_from base after ≡ map is_nonzero (take size (drop column before)) ++ drop size (bits_from base before)
  pub same : SameBut base 64 before after

-- the first of the 64 words of the run's slice that hold the bits of the met names
abbrev pub met_column : ℕ
met_column = 7168

-- the row of bits of the met names, and how many they are
pub record Met (named : ℕ) (before after : List ℕ) (r : ℕ) : Type 0 where
  pub row : take 2048 (bits_from met_column after) ≡ map is_nonzero (take named before) ++ replicate (2048 - named) false
  pub ones : r ≡ ones_of (take 2048 (bits_from met_column after))
  pub met : r ≡ count is_nonzero (take named before)
  pub same : SameBut met_column 64 before after
