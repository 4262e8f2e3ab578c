-- The name table in a lent slice: 8 columns of 2,048 words. By name number: where the name starts in the file (from word 0),
-- its length, its head code with the mark of an excluded name; by rank in byte order: the number. The other columns belong to
-- other crates.
use Rattle.std.specs.Prelude.{ℕ, zero, suc, ◌+◌, ◌-◌, ◌%◌, ◌≤◌, ◌<◌, ◌≡◌, Bool, true, false, cond, List, [], ◌∷◌, ◌++◌, length, take, drop, get_or, set, leb, ltb, Option, None as none, Some as some, Result, Ok, Err}
use Rattle.model.specs.Lists.{count, part}
use Rattle.model.specs.Names.{Name, order, same, mem}
use Rattle.std.specs.declared.cmp.Ordering.{Ordering as Order}
use Rattle.std.specs.declared.cmp.Ordering.TheVariants.{Less as Before, Equal as Same, Greater as After}
use Rattle.model.specs.Reading.{most_names}
use Rattle.model.specs.Outcome.{most_bytes, working_words}
use Rattle.model.specs.Summaries.{exclude_names}
use Rattle.names.specs.Known.{head_code, excluded_mark, head_word}
use Rattle.names.specs.declared.Spelled.{Spelled}
use Rattle.names.specs.declared.Spelled.TheVariants as spelled

-- the columns, by their first word
abbrev pub length_column : ℕ
length_column = 2048

abbrev pub index_column : ℕ
index_column = 4096

abbrev pub code_column : ℕ
code_column = 6144

-- where a name starts in the file
abbrev pub name_start : List ℕ → ℕ → ℕ
name_start w n = get_or w n 0

-- its length
abbrev pub name_length : List ℕ → ℕ → ℕ
name_length w n = get_or w (length_column + n) 0

-- the word of its head code
abbrev pub code_word : List ℕ → ℕ → ℕ
code_word w n = get_or w (code_column + n) 0

-- its head code
abbrev pub name_code : List ℕ → ℕ → ℕ
name_code w n = code_word w n % excluded_mark

-- the number that stands at a rank of the byte-order index
abbrev pub ranked : List ℕ → ℕ → ℕ
ranked w r = get_or w (index_column + r) 0

-- the name of a number: the part of the file that its row says
unfoldable pub name_of : List ℕ → List ℕ → ℕ → Name
name_of file w n = part file (name_start w n) (name_start w n + name_length w n)

-- the names of a table with `named` names, by number
unfoldable pub table_names : List ℕ → List ℕ → ℕ → List Name
table_names file w zero = []
table_names file w (suc named) = table_names file w named ++ (name_of file w named ∷ [])

-- a table of `named` names of the file
pub record Table (file w : List ℕ) (named : ℕ) : Type 0 where
  pub room : working_words ≤ length w
  pub short : length file ≤ most_bytes
  pub few : named ≤ most_names
  -- each row is a part of the file
  pub inside : (n : ℕ) → n < named → name_start w n + name_length w n ≤ length file
  -- the index lists numbers, each of them, and their names in ascending order
  pub numbers : (r : ℕ) → r < named → ranked w r < named
  pub each : (n : ℕ) → n < named → (r : ℕ) × (r < named) × (ranked w r ≡ n)
  pub ascending : (r q : ℕ) → r < q → q < named
      → order (name_of file w (ranked w r)) (name_of file w (ranked w q)) ≡ Before
  -- the head codes
  pub codes : (n : ℕ) → n < named → name_code w n ≡ head_code (name_of file w n)

-- the place of the first equal name in a list that starts at place n
unfoldable pub place_from : ℕ → List Name → Name → Option ℕ
place_from n [] name = none
place_from n (m ∷ ms) name = let other = place_from (n + 1) ms name in cond (same m name) (some n) other

-- whether a name is excluded: its word is marked
unfoldable pub is_excluded : List ℕ → ℕ → Bool
is_excluded w n = leb excluded_mark (code_word w n)

-- the excluded names of a table are those of a list
abbrev pub Excludes : List Name → List ℕ → List ℕ → ℕ → Type 0
Excludes exclude file w named = (n : ℕ) → n < named → is_excluded w n ≡ mem (name_of file w n) exclude

-- the slice with a name excluded; nothing else changes
unfoldable pub excluded_at : List ℕ → ℕ → List ℕ
excluded_at w n = set w (code_column + n) (name_code w n + excluded_mark)

-- a table with no fewer names: those before are excluded as before, of the others those of `exclude_names` are; past the limit
-- nothing is said
pub record Tells (file w w' : List ℕ) (named named' : ℕ) : Type 0 where
  pub old : (n : ℕ) → n < named → is_excluded w' n ≡ is_excluded w n
  pub new : (n : ℕ) → named ≤ n → n < named' → named' ≤ most_names → is_excluded w' n ≡ mem (name_of file w' n) exclude_names

-- whether the order is that of a name before another
unfoldable pub is_before : Order → Bool
is_before Before = true
is_before Same = false
is_before After = false

-- where a name belongs in byte order: how many names stand before it
unfoldable pub rank_among : List Name → Name → ℕ
rank_among names name = count (λ m. is_before (order m name)) names

-- a look_up's answer: the name's number, or the rank where it belongs
unfoldable pub found_or : Option ℕ → ℕ → Result ℕ ℕ
found_or none rank = Err rank
found_or (some n) rank = Ok n

-- the number of a name in a list of names, or the rank where it belongs
unfoldable pub look_up : List Name → Name → Result ℕ ℕ
look_up names name = found_or (place_from 0 names name) (rank_among names name)

-- the slice with the number `named` put into the index at a rank, the later ranks moved up by one
unfoldable pub index_with : List ℕ → ℕ → ℕ → List ℕ
index_with w named rank =
    take (index_column + rank) w
    ++ (named ∷ take (named - rank) (drop (index_column + rank) w))
    ++ drop (index_column + named + 1) w

-- the slice with one name more: its row, the word of its head code, its place in the index; nothing else changes
unfoldable pub entered : List ℕ → List ℕ → ℕ → ℕ → ℕ → ℕ → List ℕ
entered file w named a e rank =
    set (set (set (index_with w named rank) named a) (length_column + named) (e - a)) (code_column + named) (head_word (part file a e))

-- what spelling a name comes to, by what the look_up found: at 2,048 names the table is full
unfoldable pub spell_answer : ℕ → Result ℕ ℕ → Spelled
spell_answer named (Ok n) = spelled.Known n
spell_answer named (Err rank) = cond (ltb named most_names) (spelled.New named) spelled.Full

-- the slice then: only a new name changes it, and a full table changes nothing
unfoldable pub spell_table : List ℕ → List ℕ → ℕ → ℕ → ℕ → Result ℕ ℕ → List ℕ
spell_table file w named a e (Ok n) = w
spell_table file w named a e (Err rank) = cond (ltb named most_names) (entered file w named a e rank) w
