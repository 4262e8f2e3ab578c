-- What the functions of this crate rest on, said of plain lists: parts of a file, the first mark in one, fields, names, numbers, byte order, lines.
use Prim.Native.Nat.{ℕ, zero, suc, ◌+◌, ◌-◌, ◌*◌, ◌≤◌, ◌<◌, min, zero-le, suc-le-suc, compare, Ordering}
use native.Mathlib.Numerals.{one-add}
use native.Mathlib.Nat.{zero-add, add-zero, not-suc-le-zero}
use native.Mathlib.Omega.{arith}
use mathlib.Core.Path.{◌≡◌, refl, sym, ap, ap₂, ◌∙◌}
use mathlib.Core.Logic.{◌↔◌}
use mathlib.Core.Bool.{Bool, true, false, cond, ◌&&◌, and-true, and-false, true≢false, false≢true}
use mathlib.Core.List.{List, [], ◌∷◌}
use Rattle.std.specs.Prelude.{Option, None as none, Some as some, Ok, Err, Result as Outcome}
use lib.ListN.{length, take, drop, get_or, length-take, length-drop, drop_of_length-le}
use lib.Seq.{drop-drop}
use lib.Pointwise.{pointwise}
use Rattle.std.specs.Ordering.{nat_cmp, MatchOrdering}
use Rattle.std.proofs.lemmas.Cmp.{ranked}
use lib.Dec.{leb, ltb, eqb, is_le, compare_is_eq}
use borrow.Author.Tests.{eq-eqb, ne_eqb, eqb-true, le-leb, lt-leb, lt-ltb, le-ltb, ltb-true, leb-true, leb-false}
use Rattle.model.specs.Lists.{all, when, ◌>>=◌, part}
use Rattle.model.specs.Names.{Name, order, by_byte, same, is_same, starts_with, ends_with}
use Rattle.model.specs.Lines.{Line, lines, line_cons, Field, fields, field_cons, is_name_byte, is_name, is_digit, decimal, number}
use Rattle.model.specs.Reading.{Result, ok, refused, need, name_field, number_field, term_field, next, ◌>>=◌ as ◌>>=ᴿ◌}
use Rattle.std.specs.declared.cmp.Ordering.{Ordering as Order}
use Rattle.std.specs.declared.cmp.Ordering.TheVariants.{Less as Before, Equal as Same, Greater as After}
use Rattle.model.specs.declared.Refusal.{Refusal}
use Rattle.model.specs.declared.Refusal.TheVariants as refusal
use Rattle.model.proofs.PartLaws.{part_all, part_cons, part_drop, part_length, part_nil, part_rest, part_take}
use Rattle.text.specs.declared.Comparison.{Comparison}
use Rattle.text.specs.declared.Cursor.{Cursor}
use Rattle.text.specs.declared.Part.{Part}
use Rattle.text.specs.Parts.{before, mark_at, shared, comparison, Placed, fields_left, field_at, as_name, sized_name, name_at, valued, at_most, as_number, number_at, as_term, term_at, field_result, number_result}

-- ---- parts

-- the part from 0 more on is the part
part_start : (s : List ℕ) (a e : ℕ) → part s (a + 0) e ≡ part s a e
part_start s a e = rw (add-zero a)

-- ---- the fields of a list

-- the fields after the byte that ends the first, if there is such a byte
fields_after : List ℕ → List Field
fields_after [] = []
fields_after (b ∷ bs) = fields bs

-- the fields are the bytes before the first comma, and the fields after it
fields_split : (l : List ℕ) → fields l ≡ take (before 0x2c l) l ∷ fields_after (drop (before 0x2c l) l)
unfolding fields field_cons before fields_after
fields_split [] = refl
fields_split (b ∷ bs) = go (eqb b 0x2c) (before 0x2c bs) (fields bs) (fields_split bs)
  where
    go : (t : Bool) (n : ℕ) (fs : List Field) → fs ≡ take n bs ∷ fields_after (drop n bs)
        → cond t ([] ∷ fields bs) (field_cons b fs)
        ≡ take (cond t 0 (1 + n)) (b ∷ bs) ∷ fields_after (drop (cond t 0 (1 + n)) (b ∷ bs))
    go true n fs e = refl
    go false n fs e = rw (e, one-add n)

-- a comma adds a field, and no other byte does
fields_cons : (b : ℕ) (bs : List ℕ) → length (fields (b ∷ bs)) ≡ cond (eqb b 0x2c) 1 0 + length (fields bs)
unfolding fields field_cons
fields_cons b bs = go (eqb b 0x2c)
  where
    go : (t : Bool) → length (cond t ([] ∷ fields bs) (field_cons b (fields bs))) ≡ cond t 1 0 + length (fields bs)
    go true = rw (one-add (length (fields bs)))
    go false = rw (fields_split bs) (omega arith)

-- ---- tests of a byte

-- a comma is not of a name
pub byte_comma : (b : ℕ) → b ≡ 0x2c → is_name_byte b ≡ false
unfolding is_name_byte
byte_comma b h = rw h

-- a byte of a name is no comma
pub byte_other : (b : ℕ) → is_name_byte b ≡ true → b ≡ 0x2c → ⊥
byte_other b h e = true≢false (sym h ∙ byte_comma b e)

-- another byte up to the comma is of a name if it is in the range
pub byte_below : (b : ℕ) → b ≤ 0x2c → (b ≡ 0x2c → ⊥) → is_name_byte b ≡ leb 0x21 b
unfolding is_name_byte
byte_below b h n = rw (le-leb b 0x7e (omega arith), ne_eqb b 0x2c n, and-true, and-true)

-- and so is one above the comma
pub byte_above : (b : ℕ) → 0x2c < b → is_name_byte b ≡ leb b 0x7e
unfolding is_name_byte
byte_above b h = rw (le-leb 0x21 b (omega arith), ne_eqb b 0x2c (λ e. omega arith), and-true)

-- a byte below `0` is no digit
pub digit_low : (b : ℕ) → b < 0x30 → is_digit b ≡ false
unfolding is_digit
digit_low b h = rw (lt-leb 0x30 b h)

-- a byte above `9` is no digit
pub digit_high : (b : ℕ) → 0x39 < b → is_digit b ≡ false
unfolding is_digit
digit_high b h = rw (lt-leb b 0x39 h, and-false)

-- a byte from `0` to `9` is a digit
pub digit_good : (b : ℕ) → 0x30 ≤ b → b ≤ 0x39 → is_digit b ≡ true
unfolding is_digit
digit_good b low high = rw (le-leb 0x30 b low, le-leb b 0x39 high)

-- ---- numbers

-- a value that is too large stays so
pub valued_large : (n : ℕ) (l : List ℕ) → 65535 < n → valued n l ≡ none
unfolding valued decimal when
valued_large n [] h = rw (lt-leb n 65535 h)
valued_large n (b ∷ bs) h = go (is_digit b) (decimal (n * 10 + (b - 0x30)) bs) (valued_large (n * 10 + (b - 0x30)) bs (omega arith))
  where
    go : (t : Bool) (o : Option ℕ) → (o >>= λ m. when (leb m 65535) m) ≡ none → (cond t o none >>= λ m. when (leb m 65535) m) ≡ none
    go true o e = e
    go false o e = refl

-- no byte more: the number is the value so far
pub valued_end : (n : ℕ) → n ≤ 65535 → valued n [] ≡ some n
unfolding valued decimal when
valued_end n k = rw (le-leb n 65535 k)

-- a byte that is a digit goes into the value
pub valued_on : (n b : ℕ) → is_digit b ≡ true → (l : List ℕ) → valued n (b ∷ l) ≡ valued (n * 10 + (b - 0x30)) l
unfolding valued decimal
valued_on n b d l = rw d

-- a byte that is no digit: no number
pub valued_bad : (n b : ℕ) → is_digit b ≡ false → (l : List ℕ) → valued n (b ∷ l) ≡ none
unfolding valued decimal
valued_bad n b d l = rw d

-- a digit that makes the value too large: no number
pub valued_past : (n b : ℕ) → is_digit b ≡ true → 65535 < n * 10 + (b - 0x30) → (l : List ℕ) → valued n (b ∷ l) ≡ none
valued_past n b d h l = valued_on n b d l ∙ valued_large (n * 10 + (b - 0x30)) l h

-- bytes that make no value are no number
pub number_bad : (l : List ℕ) → valued 0 l ≡ none → number l ≡ none
unfolding number valued decimal when is_digit
number_bad [] h = refl
number_bad (b ∷ bs) h = go bs (eqb b 0x30) refl h
  where
    go : (bs : List ℕ) (t : Bool) → eqb b 0x30 ≡ t → valued 0 (b ∷ bs) ≡ none
        → cond t (when (leb (length bs) 0) 0) (valued 0 (b ∷ bs)) ≡ none
    go bs false d h = h
    go (c ∷ cs) true d h = rw (lt-leb (suc (length cs)) 0 (omega arith))
    go [] true d h = let e = eqb-true b 0x30 d in rw e at h

-- bytes that make a value are that number, where there is one and no zero leads others
pub number_value : (l : List ℕ) (n : ℕ) → 0 < length l → (get_or l 0 0 ≡ 0x30 → length l ≤ 1) → valued 0 l ≡ some n
    → number l ≡ some n
unfolding number valued decimal when is_digit
number_value [] n h z v = absurd (not-suc-le-zero h)
number_value (b ∷ bs) n h z v = go bs (eqb b 0x30) refl z v
  where
    go : (bs : List ℕ) (t : Bool) → eqb b 0x30 ≡ t → (b ≡ 0x30 → length (b ∷ bs) ≤ 1) → valued 0 (b ∷ bs) ≡ some n
        → cond t (when (leb (length bs) 0) 0) (valued 0 (b ∷ bs)) ≡ some n
    go bs false d z v = v
    go (c ∷ cs) true d z v = absurd (omega (arith, z (eqb-true b 0x30 d)))
    go [] true d z v = let e = eqb-true b 0x30 d in rw e at v

-- ---- a part from i up to e with bytes left: what the byte at i says

module _ (s : List ℕ) (i e : ℕ) (h : i < e) (k : e ≤ length s) where
  -- the byte is the mark: it is found
  pub mark_here : (mark : ℕ) → get_or s i 0 ≡ mark → mark_at mark s i e ≡ i
  unfolding mark_at before
  mark_here mark b = rw (part_cons s i e h k, eq-eqb (get_or s i 0) mark b) (omega arith)

  -- the byte is not the mark: the search goes on
  pub mark_on : (mark : ℕ) → (get_or s i 0 ≡ mark → ⊥) → mark_at mark s i e ≡ mark_at mark s (i + 1) e
  unfolding mark_at before
  mark_on mark b = rw (part_cons s i e h k, ne_eqb (get_or s i 0) mark b) (omega arith)

  -- the byte is a comma: one field more than after it
  pub count_comma : get_or s i 0 ≡ 0x2c → length (fields (part s i e)) ≡ 1 + length (fields (part s (i + 1) e))
  count_comma b = rw (part_cons s i e h k, fields_cons (get_or s i 0) (part s (i + 1) e), eq-eqb (get_or s i 0) 0x2c b)

  -- the byte is no comma: as many fields as after it
  pub count_on : (get_or s i 0 ≡ 0x2c → ⊥) → length (fields (part s i e)) ≡ length (fields (part s (i + 1) e))
  count_on b = rw (part_cons s i e h k, fields_cons (get_or s i 0) (part s (i + 1) e), ne_eqb (get_or s i 0) 0x2c b) (omega arith)

  -- the byte passes the test: the others decide
  pub all_on : (test : ℕ → Bool) → test (get_or s i 0) ≡ true → all test (part s i e) ≡ all test (part s (i + 1) e)
  unfolding all
  all_on test b = rw (part_cons s i e h k, b)

  -- the byte is `0`: the part is a number if nothing follows
  number_zero : get_or s i 0 ≡ 0x30 → number (part s i e) ≡ when (leb (e - (i + 1)) 0) 0
  unfolding number
  number_zero b = rw (part_cons s i e h k, eq-eqb (get_or s i 0) 0x30 b, part_length s (i + 1) e k)

  -- `0` before another byte: no number
  pub number_leading : get_or s i 0 ≡ 0x30 → (e - i ≡ 1 → ⊥) → number (part s i e) ≡ none
  unfolding when
  number_leading b n = rw (number_zero b, lt-leb (e - (i + 1)) 0 (omega arith))

-- a search that goes on n bytes after i, where the byte there is not the mark
pub mark_step : (mark : ℕ) (s : List ℕ) (at i n e : ℕ) → i + n < e → e ≤ length s → mark_at mark s at e ≡ mark_at mark s (i + n) e
    → (get_or s (i + n) 0 ≡ mark → ⊥) → mark_at mark s at e ≡ mark_at mark s (i + suc n) e
mark_step mark s at i n e h k d b =
    let next : i + n + 1 ≡ i + suc n = omega arith in
    rw (← next) (d ∙ mark_on s (i + n) e h k mark b)

-- ---- a part from i up to e with no byte left

module _ (s : List ℕ) (i e : ℕ) (h : e ≤ i) where
  -- the search for a mark is at its end
  pub mark_end : (mark : ℕ) → i ≤ e → mark_at mark s i e ≡ e
  unfolding mark_at before
  mark_end mark k = rw (part_nil s i e h) (omega arith)

  -- one field is left, the empty one
  pub count_end : length (fields (part s i e)) ≡ 1
  unfolding fields
  count_end = rw (part_nil s i e h)

  -- every byte passes a test
  pub all_end : (test : ℕ → Bool) → all test (part s i e) ≡ true
  unfolding all
  all_end test = rw (part_nil s i e h)

  -- the part is no number
  pub number_empty : number (part s i e) ≡ none
  unfolding number
  number_empty = rw (part_nil s i e h)

-- a part whose bytes make a value is that number, where it has one and no zero leads others
pub number_part : (s : List ℕ) (a e n : ℕ) → a < e → e ≤ length s → (get_or s a 0 ≡ 0x30 → e - a ≤ 1)
    → valued 0 (part s a e) ≡ some n → number (part s a e) ≡ some n
number_part s a e n h k z v =
    let size = part_length s a e k in
    let first : get_or (part s a e) 0 0 ≡ get_or s a 0 = rw (part_cons s a e h k) in
    number_value (part s a e) n (omega arith) (λ d. omega (arith, z (sym first ∙ d))) v

-- ---- names

-- a field with a byte that may not stand in a name is none
name_byte : (f : Field) → all is_name_byte f ≡ false → is_name f ≡ false
unfolding is_name
name_byte f h = rw (h, and-false)

-- ---- byte order

-- a smaller first byte comes first
by_less : (o : Ordering) (rest : Order) → is_le o ≡ true → compare_is_eq o ≡ false → by_byte o rest ≡ Before
unfolding by_byte
by_less Ordering.lt rest p q = refl
by_less Ordering.eq rest p q = absurd (true≢false q)
by_less Ordering.gt rest p q = absurd (false≢true p)

-- of equal first bytes the others decide
by_equal : (o : Ordering) (rest : Order) → compare_is_eq o ≡ true → by_byte o rest ≡ rest
unfolding by_byte
by_equal Ordering.lt rest p = absurd (false≢true p)
by_equal Ordering.eq rest p = refl
by_equal Ordering.gt rest p = absurd (false≢true p)

-- a larger first byte comes after
by_more : (o : Ordering) (rest : Order) → is_le o ≡ false → by_byte o rest ≡ After
unfolding by_byte
by_more Ordering.lt rest p = absurd (true≢false p)
by_more Ordering.eq rest p = absurd (true≢false p)
by_more Ordering.gt rest p = refl

-- a first byte that differs: not the same
by_other : (o : Ordering) (rest : Order) → compare_is_eq o ≡ false → is_same (by_byte o rest) ≡ false
unfolding by_byte is_same
by_other Ordering.lt rest p = refl
by_other Ordering.eq rest p = absurd (true≢false p)
by_other Ordering.gt rest p = refl

-- where the others are not the same, the whole is not
by_rest : (o : Ordering) (rest : Order) → is_same rest ≡ false → is_same (by_byte o rest) ≡ false
unfolding by_byte is_same
by_rest Ordering.lt rest p = refl
by_rest Ordering.eq rest p = p
by_rest Ordering.gt rest p = refl

-- two names are the same where std's comparison of slices says so
pub same_pointwise : (n m : Name) → pointwise eqb n m ≡ same n m
unfolding same order is_same by_byte
same_pointwise [] [] = refl
same_pointwise [] (c ∷ m) = refl
same_pointwise (a ∷ n) [] = refl
same_pointwise (a ∷ n) (c ∷ m) = go (compare a c) (same_pointwise n m)
  where
    go : (o : Ordering) → pointwise eqb n m ≡ is_same (order n m) → (compare_is_eq o && pointwise eqb n m) ≡ is_same (by_byte o (order n m))
    go Ordering.lt h = refl
    go Ordering.eq h = h
    go Ordering.gt h = refl

-- names of two lengths are not the same
pub same_lengths : (n m : Name) → (length n ≡ length m → ⊥) → same n m ≡ false
unfolding same order is_same
same_lengths [] [] h = absurd (h refl)
same_lengths [] (b ∷ bs) h = refl
same_lengths (a ∷ bs) [] h = refl
same_lengths (a ∷ bs) (c ∷ cs) h = by_rest (compare a c) (order bs cs) (same_lengths bs cs (λ e. h (ap suc e)))

-- a part of another length than the word is not the word
pub same_sized : (s : List ℕ) (a e : ℕ) (word : Name) → e ≤ length s → (length word ≡ e - a → ⊥) → same (part s a e) word ≡ false
same_sized s a e word k h = same_lengths (part s a e) word (rw (part_length s a e k) (λ d. h (sym d)))

-- a part against a word, as both stand where a loop begins
pub same_start : (s : List ℕ) (a e : ℕ) (word : Name) → same (part s a e) word ≡ same (part s (a + 0) e) (part word 0 (length word))
same_start s a e word = rw (part_start s a e, part_all word)

-- the part of s from p up to e against the part of t from q up to f
module _ (s t : List ℕ) (p e q f : ℕ) where
  -- both parts are over
  order_same : e ≤ p → f ≤ q → order (part s p e) (part t q f) ≡ Same
  unfolding order
  order_same h l = rw (part_nil s p e h, part_nil t q f l)

  -- parts that are over are the same
  pub same_end : e ≤ p → f ≤ q → same (part s p e) (part t q f) ≡ true
  unfolding same is_same
  same_end h l = rw (order_same h l)

  module _ (h : p < e) (k : e ≤ length s) (l : q < f) (m : f ≤ length t) where
    -- the first bytes of the parts, and then the others
    order_cons : order (part s p e) (part t q f) ≡ by_byte (compare (get_or s p 0) (get_or t q 0)) (order (part s (p + 1) e) (part t (q + 1) f))
    unfolding order
    order_cons = rw (part_cons s p e h k, part_cons t q f l m)

    -- the bytes are equal: whether the parts are the same is said by the next two positions
    pub same_on : (p' q' : ℕ) → p' ≡ p + 1 → q' ≡ q + 1 → get_or s p 0 ≡ get_or t q 0
        → same (part s p e) (part t q f) ≡ same (part s p' e) (part t q' f)
    unfolding same
    same_on p' q' x y d =
        rw (x, y, order_cons)
        (ap is_same
        (by_equal (compare (get_or s p 0) (get_or t q 0)) (order (part s (p + 1) e) (part t (q + 1) f))
        (eq-eqb (get_or s p 0) (get_or t q 0) d)))

    -- the bytes differ: the parts are not the same
    pub same_differ : (get_or s p 0 ≡ get_or t q 0 → ⊥) → same (part s p e) (part t q f) ≡ false
    unfolding same
    same_differ d =
        rw order_cons
        (by_other (compare (get_or s p 0) (get_or t q 0)) (order (part s (p + 1) e) (part t (q + 1) f))
        (ne_eqb (get_or s p 0) (get_or t q 0) d))

-- ---- bytes that two lists share at their starts

-- there are no more than the first list has
shared_first : (n m : List ℕ) → shared n m ≤ length n
unfolding shared
shared_first [] m = omega arith
shared_first (b ∷ bs) [] = omega arith
shared_first (b ∷ bs) (c ∷ cs) = go (eqb b c) (shared_first bs cs)
  where
    go : (t : Bool) → shared bs cs ≤ length bs → cond t (1 + shared bs cs) 0 ≤ suc (length bs)
    go true h = omega arith
    go false h = omega arith

-- nor than the second has
shared_second : (n m : List ℕ) → shared n m ≤ length m
unfolding shared
shared_second [] m = omega arith
shared_second (b ∷ bs) [] = omega arith
shared_second (b ∷ bs) (c ∷ cs) = go (eqb b c) (shared_second bs cs)
  where
    go : (t : Bool) → shared bs cs ≤ length cs → cond t (1 + shared bs cs) 0 ≤ suc (length cs)
    go true h = omega arith
    go false h = omega arith

-- a byte more is shared where the first bytes are equal, and only there
shared_cons : (k a d : ℕ) (n x : List ℕ) → (suc k ≤ shared (a ∷ n) (d ∷ x)) ↔ ((a ≡ d) × (k ≤ shared n x))
unfolding shared
shared_cons k a d n x = (go (eqb a d) refl, λ (e, h). rw (eq-eqb a d e) (omega arith))
  where
    go : (t : Bool) → eqb a d ≡ t → suc k ≤ cond t (1 + shared n x) 0 → (a ≡ d) × (k ≤ shared n x)
    go true e h = (eqb-true a d e, omega arith)
    go false e h = absurd (omega arith)

-- a list before another has no larger first byte, and where these are equal the others are in that order
before_cons : (a b : ℕ) (n m : List ℕ) → order (a ∷ n) (b ∷ m) ≡ Before → (a ≤ b) × (a ≡ b → order n m ≡ Before)
unfolding order
before_cons a b n m p = (go (leb a b) refl, λ e. sym (by_equal (compare a b) (order n m) (eq-eqb a b e)) ∙ p)
  where
    go : (t : Bool) → leb a b ≡ t → a ≤ b
    go true d = leb-true a b d
    go false d =
        let after = by_more (compare a b) (order n m) d in
        let z : ◌≡◌ {A = ℕ} 0 1 = cc in
        absurd (omega arith)

-- a list between two others in byte order shares with any list what they both share with it
pub shared_between : (k : ℕ) (u m v x : List ℕ) → order u m ≡ Before → order m v ≡ Before → k ≤ shared u x → k ≤ shared v x
    → k ≤ shared m x
unfolding order shared
shared_between zero u m v x p q g h = zero-le
shared_between (suc k) [] m v x p q g h = absurd (omega arith)
shared_between (suc k) (a ∷ u) m v [] p q g h = absurd (omega arith)
shared_between (suc k) (a ∷ u) m [] (d ∷ x) p q g h = absurd (omega arith)
shared_between (suc k) (a ∷ u) [] (c ∷ v) (d ∷ x) p q g h = let z : ◌≡◌ {A = ℕ} 0 1 = cc in absurd (omega arith)
shared_between (suc k) (a ∷ u) (b ∷ m) (c ∷ v) (d ∷ x) p q g h =
    let (a≡d, more_u) = (shared_cons k a d u x).0 g in
    let (c≡d, more_v) = (shared_cons k c d v x).0 h in
    let (a≤b, rest_p) = before_cons a b u m p in
    let (b≤c, rest_q) = before_cons b c m v q in
    (shared_cons k b d m x).1
    (omega arith, shared_between k u m v x (rest_p (omega arith)) (rest_q (omega arith)) more_u more_v)

-- a comparison behind k bytes that are shared, as that of the whole
behind : ℕ → Comparison → Comparison
behind k c = record { order = c.order; shared = k + c.shared }

-- bytes that are shared do not change how the lists stand to each other
compared_behind : (k : ℕ) (n m : List ℕ) → k ≤ shared n m → comparison n m ≡ behind k (comparison (drop k n) (drop k m))
unfolding comparison behind shared order
compared_behind zero n m h = rw (zero-add (shared n m))
compared_behind (suc k) [] m h = absurd (omega arith)
compared_behind (suc k) (b ∷ bs) [] h = absurd (omega arith)
compared_behind (suc k) (b ∷ bs) (c ∷ cs) h = go (eqb b c) refl h (compared_behind k bs cs)
  where
    made : Order → ℕ → Comparison
    made o n = record { order = o; shared = n }

    go : (t : Bool) → eqb b c ≡ t → suc k ≤ cond t (1 + shared bs cs) 0
        → (k ≤ shared bs cs → comparison bs cs ≡ behind k (comparison (drop k bs) (drop k cs)))
        → made (by_byte (compare b c) (order bs cs)) (cond t (1 + shared bs cs) 0)
        ≡ behind (suc k) (comparison (drop k bs) (drop k cs))
    go true d h later =
        let same = later (omega arith) in
        let more : 1 + shared bs cs ≡ suc k + shared (drop k bs) (drop k cs) =
        omega (arith, ap (λ (x : Comparison). x.shared) same) in
        ap₂ made (by_equal (compare b c) (order bs cs) d ∙ ap (λ (x : Comparison). x.order) same) more
    go false d h later = absurd (omega arith)

module _ (s t : List ℕ) (a e b f i : ℕ) (k : e ≤ length s) (l : f ≤ length t) (past : i ≤ shared (part s a e) (part t b f)) where
  -- the shared bytes lie within both parts
  pub shared_within : (i ≤ e - a) × (i ≤ f - b)
  shared_within = (
    omega (arith, shared_first (part s a e) (part t b f), part_length s a e k),
    omega (arith, shared_second (part s a e) (part t b f), part_length t b f l),
  )

  -- the parts stand to each other as what is left of them does
  left : comparison (part s a e) (part t b f) ≡ behind i (comparison (part s (a + i) e) (part t (b + i) f))
  left = compared_behind i (part s a e) (part t b f) past ∙ rw (part_drop s a e i, part_drop t b f i)

  -- where no more is shared, the order of what is left is the order
  last : (o : Order) → order (part s (a + i) e) (part t (b + i) f) ≡ o → shared (part s (a + i) e) (part t (b + i) f) ≡ 0
      → comparison (part s a e) (part t b f) ≡ record { order = o; shared = i }
  unfolding behind comparison
  last o p q = left ∙ rw (p, q, add-zero i)

  -- the first part is over, and the second is not
  pub compared_shorter : e ≤ a + i → b + i < f → comparison (part s a e) (part t b f) ≡ record { order = Before; shared = i }
  unfolding order shared
  compared_shorter h g =
      last Before
      (rw (part_nil s (a + i) e h, part_cons t (b + i) f g l))
      (rw (part_nil s (a + i) e h))

  -- the second part is over, and the first is not
  pub compared_longer : a + i < e → f ≤ b + i → comparison (part s a e) (part t b f) ≡ record { order = After; shared = i }
  unfolding order shared
  compared_longer h g =
      last After
      (rw (part_cons s (a + i) e h k, part_nil t (b + i) f g))
      (rw (part_cons s (a + i) e h k, part_nil t (b + i) f g))

  -- both parts are over
  pub compared_same : e ≤ a + i → f ≤ b + i → comparison (part s a e) (part t b f) ≡ record { order = Same; shared = i }
  unfolding shared
  compared_same h g = last Same (order_same s t (a + i) e (b + i) f h g) (rw (part_nil s (a + i) e h))

  -- one part is over: their lengths decide
  pub compared_sizes : {o : Order} → o ≡ nat_cmp (e - a) (f - b) → min (e - a) (f - b) ≤ i
      → comparison (part s a e) (part t b f) ≡ record { order = o; shared = i }
  compared_sizes {o} d n = go o (ranked (e - a) (f - b) o d)
    where
      go : (o : Order) → MatchOrdering o (e - a < f - b) (e - a ≡ f - b) (f - b < e - a) → comparison (part s a e) (part t b f) ≡ record { order = o; shared = i }
      go Before m = let w = shared_within in compared_shorter (omega arith) (omega arith)
      go Same m = let w = shared_within in compared_same (omega arith) (omega arith)
      go After m = let w = shared_within in compared_longer (omega arith) (omega arith)

  module _ (h : a + i < e) (g : b + i < f) where
    -- the next bytes differ: no more is shared
    shared_differ : (get_or s (a + i) 0 ≡ get_or t (b + i) 0 → ⊥) → shared (part s (a + i) e) (part t (b + i) f) ≡ 0
    unfolding shared
    shared_differ d = rw (part_cons s (a + i) e h k, part_cons t (b + i) f g l, ne_eqb (get_or s (a + i) 0) (get_or t (b + i) 0) d)

    -- the first part has the smaller byte
    pub compared_less : get_or s (a + i) 0 < get_or t (b + i) 0
        → comparison (part s a e) (part t b f) ≡ record { order = Before; shared = i }
    compared_less d =
        let x = get_or s (a + i) 0 in
        let y = get_or t (b + i) 0 in
        last Before
        (order_cons s t (a + i) e (b + i) f h k g l
        ∙ by_less (compare x y) (order (part s (a + i + 1) e) (part t (b + i + 1) f))
        (le-leb x y (omega arith))
        (ne_eqb x y (λ z. omega arith)))
        (shared_differ (λ z. omega arith))

    -- the first part has the larger byte
    pub compared_more : get_or t (b + i) 0 < get_or s (a + i) 0
        → comparison (part s a e) (part t b f) ≡ record { order = After; shared = i }
    compared_more d =
        let x = get_or s (a + i) 0 in
        let y = get_or t (b + i) 0 in
        last After
        (order_cons s t (a + i) e (b + i) f h k g l
        ∙ by_more (compare x y) (order (part s (a + i + 1) e) (part t (b + i + 1) f)) (lt-leb x y d))
        (shared_differ (λ z. omega arith))

    -- the next bytes differ: their order is that of the parts
    pub compared_bytes : {o : Order} → o ≡ nat_cmp (get_or s (a + i) 0) (get_or t (b + i) 0) → (get_or s (a + i) 0 ≡ get_or t (b + i) 0 → ⊥)
        → comparison (part s a e) (part t b f) ≡ record { order = o; shared = i }
    compared_bytes {o} d n = go o (ranked (get_or s (a + i) 0) (get_or t (b + i) 0) o d)
      where
        go : (o : Order) → MatchOrdering o (get_or s (a + i) 0 < get_or t (b + i) 0) (get_or s (a + i) 0 ≡ get_or t (b + i) 0) (get_or t (b + i) 0 < get_or s (a + i) 0)
            → comparison (part s a e) (part t b f) ≡ record { order = o; shared = i }
        go Before m = compared_less m
        go Same m = absurd (n m)
        go After m = compared_more m

    -- the next bytes are equal: one more is shared
    pub shared_on : get_or s (a + i) 0 ≡ get_or t (b + i) 0 → i + 1 ≤ shared (part s a e) (part t b f)
    unfolding shared comparison behind
    shared_on d =
        let one : shared (part s (a + i) e) (part t (b + i) f) ≡ 1 + shared (part s (a + i + 1) e) (part t (b + i + 1) f) =
        rw (part_cons s (a + i) e h k, part_cons t (b + i) f g l, eq-eqb (get_or s (a + i) 0) (get_or t (b + i) 0) d) in
        omega (arith, one, ap (λ (c : Comparison). c.shared) left)

-- a part with too few bytes does not begin with the word
pub starts_short : (s : List ℕ) (a e : ℕ) (word : Name) → e ≤ length s → e - a < length word → starts_with (part s a e) word ≡ false
unfolding starts_with
starts_short s a e word k h =
    same_lengths (take (length word) (part s a e)) word (rw (length-take, part_length s a e k) (λ d. omega arith))

-- a part with bytes enough begins with the word if its first bytes are the word
pub starts_part : (s : List ℕ) (a e : ℕ) (word : Name) → a + length word ≤ e
    → starts_with (part s a e) word ≡ same (part s a (a + length word)) word
unfolding starts_with
starts_part s a e word h = rw (part_take s a e (length word) h)

-- a part with too few bytes does not end with the word
pub ends_short : (s : List ℕ) (a e : ℕ) (word : Name) → e ≤ length s → e - a < length word → ends_with (part s a e) word ≡ false
unfolding ends_with
ends_short s a e word k h =
    same_lengths (drop (length (part s a e) - length word) (part s a e)) word
    (rw (length-drop, part_length s a e k) (λ d. omega arith))

-- a part with bytes enough ends with the word if its last bytes are the word
pub ends_part : (s : List ℕ) (a e : ℕ) (word : Name) → e ≤ length s → a ≤ e → length word ≤ e - a
    → ends_with (part s a e) word ≡ same (part s (e - length word) e) word
unfolding ends_with
ends_part s a e word k h l =
    let n : a + (e - a - length word) ≡ e - length word = omega arith in
    rw (part_length s a e k, part_drop s a e (e - a - length word), n)

-- ---- the first mark in a part

-- no more bytes stand before the mark than there are
before_le : (mark : ℕ) (l : List ℕ) → before mark l ≤ length l
unfolding before
before_le mark [] = omega arith
before_le mark (b ∷ bs) = go (eqb b mark) (before_le mark bs)
  where
    go : (t : Bool) → before mark bs ≤ length bs → cond t 0 (1 + before mark bs) ≤ suc (length bs)
    go true h = omega arith
    go false h = omega arith

-- the first mark, at m, is not before the part
pub mark_from : (m mark : ℕ) (s : List ℕ) (at e : ℕ) → m ≡ mark_at mark s at e → at ≤ m
unfolding mark_at
mark_from m mark s at e d = omega arith

-- the first mark, at m, is not after the part's end
pub mark_to : (m mark : ℕ) (s : List ℕ) (at e : ℕ) → m ≡ mark_at mark s at e → at ≤ e → e ≤ length s → m ≤ e
unfolding mark_at
mark_to m mark s at e d h k = omega (arith, before_le mark (part s at e), part_length s at e k)

-- the bytes from the mark on
mark_back : (mark : ℕ) (s : List ℕ) (at e : ℕ) → drop (before mark (part s at e)) (part s at e) ≡ part s (mark_at mark s at e) e
unfolding mark_at
mark_back mark s at e = part_drop s at e (before mark (part s at e))

-- the bytes before the mark
mark_front : (mark : ℕ) (s : List ℕ) (at e : ℕ) → at ≤ e → e ≤ length s
    → take (before mark (part s at e)) (part s at e) ≡ part s at (mark_at mark s at e)
unfolding mark_at
mark_front mark s at e h k =
    part_take s at e (before mark (part s at e)) (omega (arith, before_le mark (part s at e), part_length s at e k))

-- the fields after the comma at m, if m is not the end
after_part : (s : List ℕ) (m e : ℕ) → e ≤ length s
    → fields_after (part s m e) ≡ cond (leb (m + 1) e) (fields (part s (m + 1) e)) []
unfolding fields_after
after_part s m e k = go (leb (m + 1) e) refl
  where
    go : (t : Bool) → leb (m + 1) e ≡ t → fields_after (part s m e) ≡ cond t (fields (part s (m + 1) e)) []
    go true d = rw (part_cons s m e (omega (arith, leb-true (m + 1) e d)) k)
    go false d = rw (part_nil s m e (omega (arith, leb-false (m + 1) e d)))

-- the fields of a part: the bytes up to the comma at m, then the fields after it
fields_part : (s : List ℕ) (at e m : ℕ) → at ≤ e → e ≤ length s → m ≡ mark_at 0x2c s at e
    → fields (part s at e) ≡ part s at m ∷ cond (leb (m + 1) e) (fields (part s (m + 1) e)) []
fields_part s at e m h k d =
    rw (d, fields_split (part s at e), mark_front 0x2c s at e h k, mark_back 0x2c s at e, after_part s (mark_at 0x2c s at e) e k)

-- ---- a walk over the bytes of the first field of a part

-- a byte that passes the test: the others decide
pub passes : (test : ℕ → Bool) (b : ℕ) → test b ≡ true → (l : List ℕ) → all test (b ∷ l) ≡ all test l
unfolding all
passes test b h l = rw h

-- a byte that fails it: the list does
pub fails : (test : ℕ → Bool) (b : ℕ) → test b ≡ false → (l : List ℕ) → all test (b ∷ l) ≡ false
unfolding all
fails test b h l = rw h

module _ {A : Type 0} (s : List ℕ) (at e : ℕ) (asked : List ℕ → A) where
  -- a walk that stands at i: what is asked of the field from `at` on is what is left to ask from i on
  pub record Walk (i : ℕ) (left : List ℕ → A) : Type 0 where
    pub from : at ≤ i
    pub upto : i ≤ e
    pub stop : mark_at 0x2c s at e ≡ mark_at 0x2c s i e
    pub said : asked (part s at (mark_at 0x2c s at e)) ≡ left (part s i (mark_at 0x2c s i e))

  -- at its start
  pub walk_start : at ≤ e → Walk at asked
  walk_start h = record { from = omega arith; upto = h; stop = refl; said = refl }

  -- at its end: the field ends there
  pub walk_end : (i : ℕ) (left : List ℕ → A) → Walk i left → e ≤ i → (e ≡ mark_at 0x2c s at e) × (asked (part s at e) ≡ left [])
  walk_end i left w h =
      let m : mark_at 0x2c s i e ≡ e = mark_end s i e h 0x2c w.upto in
      let k : mark_at 0x2c s at e ≡ e = w.stop ∙ m in
      (sym k, (rw (k, m) at w.said) ∙ ap left (part_nil s i e h))

  module _ (i : ℕ) (left : List ℕ → A) (w : Walk i left) (h : i < e) (k : e ≤ length s) where
    -- at a comma: the field ends there
    pub walk_comma : get_or s i 0 ≡ 0x2c → (i ≡ mark_at 0x2c s at e) × (asked (part s at i) ≡ left [])
    walk_comma b =
        let m : mark_at 0x2c s i e ≡ i = mark_here s i e h k 0x2c b in
        let n : mark_at 0x2c s at e ≡ i = w.stop ∙ m in
        (sym n, (rw (n, m) at w.said) ∙ ap left (part_nil s i i (omega arith)))

    -- at another byte: it comes before the rest of the field
    walk_cons : (get_or s i 0 ≡ 0x2c → ⊥)
        → asked (part s at (mark_at 0x2c s at e)) ≡ left (get_or s i 0 ∷ part s (i + 1) (mark_at 0x2c s (i + 1) e))
    walk_cons b =
        let m = mark_at 0x2c s (i + 1) e in
        let on : mark_at 0x2c s i e ≡ m = mark_on s i e h k 0x2c b in
        let low = mark_from m 0x2c s (i + 1) e refl in
        let high = mark_to m 0x2c s (i + 1) e refl (omega arith) k in
        (rw on at w.said) ∙ ap left (part_cons s i m (omega arith) (omega arith))

    -- at another byte that goes into what is left: on
    pub walk_on : (get_or s i 0 ≡ 0x2c → ⊥) → (more : List ℕ → A) → ((l : List ℕ) → left (get_or s i 0 ∷ l) ≡ more l)
        → Walk (i + 1) more
    walk_on b more f =
        record {
          from = omega arith;
          upto = omega arith;
          stop = w.stop ∙ mark_on s i e h k 0x2c b;
          said = walk_cons b ∙ f (part s (i + 1) (mark_at 0x2c s (i + 1) e));
        }

    -- at another byte that decides
    pub walk_out : (get_or s i 0 ≡ 0x2c → ⊥) → (x : A) → ((l : List ℕ) → left (get_or s i 0 ∷ l) ≡ x)
        → asked (part s at (mark_at 0x2c s at e)) ≡ x
    walk_out b x f = walk_cons b ∙ f (part s (i + 1) (mark_at 0x2c s (i + 1) e))

-- ---- lines

-- whether a list has an element
some_left : List ℕ → Bool
some_left [] = false
some_left (b ∷ bs) = true

-- the line of the first n bytes, and the lines after the byte that ends it
lines_at : ℕ → List ℕ → List Line
lines_at n l = record { bytes = take n l; ended = some_left (drop n l) } ∷ lines (drop 1 (drop n l))

-- the lines of bytes that are not none: the first 0A parts them
lines_split : (l : List ℕ) → 0 < length l → lines l ≡ lines_at (before 0x0a l) l
unfolding lines line_cons before some_left lines_at
lines_split [] h = absurd (not-suc-le-zero h)
lines_split (b ∷ bs) h = go bs (eqb b 0x0a) (lines_split bs)
  where
    go : (bs : List ℕ) (t : Bool) → (0 < length bs → lines bs ≡ lines_at (before 0x0a bs) bs)
        → cond t (record { bytes = []; ended = true } ∷ lines bs) (line_cons b (lines bs)) ≡ lines_at (cond t 0 (1 + before 0x0a bs)) (b ∷ bs)
    go bs true more = refl
    go [] false more = refl
    go (c ∷ cs) false more = rw (more (suc-le-suc zero-le), one-add (before 0x0a (c ∷ cs)))

-- the lines from a position on: the bytes up to the 0A at e, and the lines after it
lines_part : (s : List ℕ) (at e : ℕ) → at < length s → e ≡ mark_at 0x0a s at (length s)
    → lines (drop at s) ≡ record { bytes = part s at e; ended = some_left (part s e (length s)) } ∷ lines (drop (e + 1) s)
unfolding lines_at
lines_part s at e h d =
    let m = mark_at 0x0a s at (length s) in
    ap lines (sym (part_rest s at))
    ∙ lines_split (part s at (length s)) (rw (part_length s at (length s) (omega arith)) (omega arith))
    ∙ rw (d, mark_front 0x0a s at (length s) (omega arith) (omega arith), mark_back 0x0a s at (length s), part_rest s m, drop-drop 1 m s)

-- a line that a 0A ends, at e
pub line_ended : (s : List ℕ) (at e : ℕ) → at < length s → e ≡ mark_at 0x0a s at (length s) → e < length s
    → lines (drop at s) ≡ record { bytes = part s at e; ended = true } ∷ lines (drop (e + 1) s)
unfolding some_left
line_ended s at e h d k = lines_part s at e h d ∙ rw (part_cons s e (length s) k (omega arith))

-- the last line, that no 0A ends
pub line_last : (s : List ℕ) (at e : ℕ) → at < length s → e ≡ mark_at 0x0a s at (length s) → e ≡ length s
    → lines (drop at s) ≡ record { bytes = part s at e; ended = false } ∷ []
unfolding some_left lines
line_last s at e h d k =
    lines_part s at e h d
    ∙ rw (part_nil s e (length s) (omega arith), drop_of_length-le s {i = e + 1} (omega arith))

-- no line is left
pub line_none : (s : List ℕ) (at : ℕ) → length s ≤ at → lines (drop at s) ≡ []
unfolding lines
line_none s at h = rw (drop_of_length-le s {i = at} h)

-- ---- cursors

-- a cursor past its end has no field
pub field_none : (s : List ℕ) (c : Cursor) → c.end < c.at → field_at s c ≡ Err refusal.Form
unfolding field_at
field_none s c h = rw (lt-leb c.at c.end h)

-- a cursor that is not past its end has a field, up to m
pub field_some : (s : List ℕ) (c : Cursor) (m : ℕ) → c.at ≤ c.end → m ≡ mark_at 0x2c s c.at c.end
    → field_at s c ≡ Ok (record { start = c.at; end = m; next = record { at = m + 1; end = c.end } })
unfolding field_at
field_some s c m h k = rw (k, le-leb c.at c.end h)

-- a cursor past its end has no fields left
pub left_none : (s : List ℕ) (c : Cursor) → c.end < c.at → fields_left s c ≡ []
unfolding fields_left
left_none s c h = rw (lt-leb c.at c.end h)

-- a cursor that is not past its end has the fields of the part before it left
pub left_some : (s : List ℕ) (c : Cursor) → c.at ≤ c.end → fields_left s c ≡ fields (part s c.at c.end)
unfolding fields_left
left_some s c h = rw (le-leb c.at c.end h)

-- no field is answered
module _ (s : List ℕ) (c : Cursor) (r : Refusal) (h : field_at s c ≡ Err r) where
  -- no name is answered
  pub name_refused : name_at s c ≡ Err r
  unfolding name_at as_name
  name_refused = rw h

  -- no number is answered
  pub number_refused : (limit : ℕ) → number_at limit s c ≡ Err r
  unfolding number_at as_number
  number_refused limit = rw h

-- the next field ends at m
module _ (s : List ℕ) (c : Cursor) (m : ℕ) (h : c.at ≤ c.end) (k : m ≡ mark_at 0x2c s c.at c.end) where
  -- its bytes may stand in a name: its length decides
  pub name_sized : m ≤ length s → all is_name_byte (part s c.at m) ≡ true → sized_name c.at m c.end ≡ name_at s c
  unfolding name_at as_name sized_name is_name
  name_sized l t = rw (field_some s c m h k, t, part_length s c.at m l, and-true)

  -- one may not
  pub name_bad : all is_name_byte (part s c.at m) ≡ false → Err refusal.Name ≡ name_at s c
  unfolding name_at as_name
  name_bad t = rw (field_some s c m h k, name_byte (part s c.at m) t)

  -- a number is asked of it
  pub number_read : (limit : ℕ)
      → at_most limit (record { at = m + 1; end = c.end }) (number (part s c.at m)) ≡ number_at limit s c
  unfolding number_at as_number
  number_read limit = rw (field_some s c m h k)

  -- its bytes make no value
  pub number_none : (limit : ℕ) → valued 0 (part s c.at m) ≡ none → Err refusal.Number ≡ number_at limit s c
  unfolding at_most
  number_none limit d = rw (number_bad (part s c.at m) d) at (number_read limit)

-- what a number field answers
module _ (limit : ℕ) (next : Cursor) (o : Option ℕ) where
  -- no number
  pub most_none : o ≡ none → Err refusal.Number ≡ at_most limit next o
  unfolding at_most
  most_none d = rw d

  -- a number of at most `limit`
  pub most_good : (v : ℕ) → o ≡ some v → v ≤ limit → Ok (v, next) ≡ at_most limit next o
  unfolding at_most
  most_good v d k = rw (d, le-leb v limit k)

  -- a larger number
  pub most_over : (v : ℕ) → o ≡ some v → limit < v → Err refusal.Number ≡ at_most limit next o
  unfolding at_most
  most_over v d k = rw (d, lt-leb v limit k)

module _ (count : ℕ) (s : List ℕ) (c : Cursor) where
  -- where no number is answered, no term is
  pub term_refused : (r : Refusal) → number_at 65535 s c ≡ Err r → term_at count s c ≡ Err r
  unfolding term_at as_term
  term_refused r h = rw h

  -- a number below `count` is a term
  pub term_good : (v : ℕ) (n : Cursor) → number_at 65535 s c ≡ Ok (v, n) → v < count → term_at count s c ≡ Ok (v, n)
  unfolding term_at as_term
  term_good v n h k = rw (h, lt-ltb v count k)

  -- a number from `count` on is no term
  pub term_over : (v : ℕ) (n : Cursor) → number_at 65535 s c ≡ Ok (v, n) → count ≤ v → term_at count s c ≡ Err refusal.Term
  unfolding term_at as_term
  term_over v n h k = rw (h, le-ltb v count k)

-- a function of a choice is the choice of what it gives
choice : {A B : Type 0} (f : A → B) (t : Bool) (x y : A) → f (cond t x y) ≡ cond t (f x) (f y)
choice f true x y = refl
choice f false x y = refl

module _ {A : Type 0} where
  -- a value, with the fields after it
  with_rest : List Field → Result A → Result (A × List Field)
  with_rest fs r = r >>=ᴿ λ a. ok (a, fs)

  -- a field and those after it, the field judged
  judged : (Field → Result A) → Result (Field × List Field) → Result (A × List Field)
  judged judge (ok f) = with_rest f.1 (judge f.0)
  judged judge (refused r) = refused r

  -- the next field is judged as it is read
  next_judged : (judge : Field → Result A) (fs : List Field) → next judge fs ≡ judged judge (next ok fs)
  unfolding next judged with_rest
  next_judged judge [] = refl
  next_judged judge (f ∷ fs) = refl

-- a field taken for a name
as_name_law : (s : List ℕ) (step : Outcome Part Refusal) → field_result s (as_name s step) ≡ judged name_field (field_result s step)
unfolding field_result as_name judged with_rest name_field
as_name_law s (Err r) = refl
as_name_law s (Ok p) =
    let t = is_name (part s p.start p.end) in
    choice (field_result s) t (Ok p) (Err refusal.Name)
    ∙ sym (choice (with_rest (fields_left s p.next)) t (ok (part s p.start p.end)) (refused refusal.Name))

-- a field taken for a number
as_number_law : (limit : ℕ) (s : List ℕ) (step : Outcome Part Refusal)
    → number_result s (as_number limit s step) ≡ judged (number_field limit) (field_result s step)
unfolding field_result number_result as_number at_most judged with_rest number_field need
as_number_law limit s (Err r) = refl
as_number_law limit s (Ok p) = go (number (part s p.start p.end))
  where
    go : (o : Option ℕ)
        → number_result s (at_most limit p.next o)
        ≡ with_rest (fields_left s p.next) (need refusal.Number o >>=ᴿ λ m. cond (leb m limit) (ok m) (refused refusal.Number))
    go none = refl
    go (some m) =
        choice (number_result s) (leb m limit) (Ok (m, p.next)) (Err refusal.Number)
        ∙ sym (choice (with_rest (fields_left s p.next)) (leb m limit) (ok m) (refused refusal.Number))

-- a number, where it names one of `count` terms
narrowed : ℕ → Result (ℕ × List Field) → Result (ℕ × List Field)
narrowed count (ok n) = cond (ltb n.0 count) (ok n) (refused refusal.Term)
narrowed count (refused r) = refused r

-- a number taken for a term
as_term_law : (count : ℕ) (s : List ℕ) (step : Outcome (ℕ × Cursor) Refusal) → number_result s (as_term count step) ≡ narrowed count (number_result s step)
unfolding number_result as_term narrowed
as_term_law count s (Err r) = refl
as_term_law count s (Ok (m, n)) = choice (number_result s) (ltb m count) (Ok (m, n)) (Err refusal.Term)

-- a term field is a number field that is narrowed
term_judged : (count : ℕ) (r : Result (Field × List Field)) → narrowed count (judged (number_field 65535) r) ≡ judged (term_field count) r
unfolding narrowed judged with_rest term_field
term_judged count (refused r) = refl
term_judged count (ok f) = go (number_field 65535 f.0)
  where
    go : (v : Result ℕ)
        → narrowed count (with_rest f.1 v)
        ≡ with_rest f.1 (v >>=ᴿ λ n. cond (ltb n count) (ok n) (refused refusal.Term))
    go (refused r) = refl
    go (ok n) = sym (choice (with_rest f.1) (ltb n count) (ok n) (refused refusal.Term))

module _ (s : List ℕ) (c : Cursor) (p : Placed s c) where
  -- the next field, and the fields after it
  pub field_law : field_result s (field_at s c) ≡ next ok (fields_left s c)
  unfolding field_result next fields_left
  field_law = go (leb c.at c.end) refl
    where
      go : (t : Bool) → leb c.at c.end ≡ t → field_result s (field_at s c) ≡ next ok (cond t (fields (part s c.at c.end)) [])
      go true d =
          let h = leb-true c.at c.end d in
          let m = mark_at 0x2c s c.at c.end in
          rw (field_some s c m h refl, fields_part s c.at c.end m h p.inside refl)
      go false d = rw (field_none s c (leb-false c.at c.end d))

  -- the next field, a name, and the fields after it
  pub name_law : field_result s (name_at s c) ≡ next name_field (fields_left s c)
  unfolding name_at
  name_law = as_name_law s (field_at s c) ∙ ap (judged name_field) (field_law) ∙ sym (next_judged name_field (fields_left s c))

  -- the next field, a number, and the fields after it
  pub number_law : (limit : ℕ) → number_result s (number_at limit s c) ≡ next (number_field limit) (fields_left s c)
  unfolding number_at
  number_law limit =
      as_number_law limit s (field_at s c)
      ∙ ap (judged (number_field limit)) (field_law)
      ∙ sym (next_judged (number_field limit) (fields_left s c))

  -- the next field, a term, and the fields after it
  pub term_law : (count : ℕ) → number_result s (term_at count s c) ≡ next (term_field count) (fields_left s c)
  unfolding term_at
  term_law count =
      as_term_law count s (number_at 65535 s c)
      ∙ ap (narrowed count) (number_law 65535 ∙ next_judged (number_field 65535) (fields_left s c))
      ∙ term_judged count (next ok (fields_left s c))
      ∙ sym (next_judged (term_field count) (fields_left s c))

-- ---- what a step of a cursor answers

-- a cursor that stands further on in the same line
pub record Onward (s : List ℕ) (c n : Cursor) : Type 0 where
  pub further : c.at < n.at
  pub bounded : n.at ≤ c.end + 1
  pub stays : n.end ≡ c.end
  pub placed : Placed s n

-- a field that was read: it starts at the cursor, lies in the file, and the next cursor stands past it
pub record Stepped (s : List ℕ) (c : Cursor) (f : Part) : Type 0 where
  pub start : f.start ≡ c.at
  pub ordered : f.start ≤ f.end
  pub inside : f.end ≤ length s
  pub past : f.next.at ≡ f.end + 1
  pub onward : Onward s c f.next

-- no refusal is an answer
apart : {A : Type 0} (r : Refusal) (a : A) → ◌≡◌ {A = Outcome A Refusal} (Err r) (Ok a) → ⊥
apart r a h = let z : ◌≡◌ {A = ℕ} 0 1 = cc in omega arith

-- the parts of a number that is answered
answered : (m v : ℕ) (a b : Cursor) → ◌≡◌ {A = Outcome (ℕ × Cursor) Refusal} (Ok (m, a)) (Ok (v, b)) → (m ≡ v) × (a ≡ b)
answered m v a b h =
    let pair : ◌≡◌ {A = ℕ × Cursor} (m, a) (v, b) = cc in
    (ap (λ (q : ℕ × Cursor). q.0) pair, ap (λ (q : ℕ × Cursor). q.1) pair)

-- a choice that is not the second is the first
chosen : {A : Type 0} (t : Bool) (x y z : A) → (y ≡ z → ⊥) → cond t x y ≡ z → (t ≡ true) × (x ≡ z)
chosen true x y z other h = (refl, h)
chosen false x y z other h = absurd (other h)

-- a name that is answered is a field that was answered, and is a name
as_name_part : (s : List ℕ) (step : Outcome Part Refusal) (p : Part) → as_name s step ≡ Ok p
    → (step ≡ Ok p) × (is_name (part s p.start p.end) ≡ true)
unfolding as_name
as_name_part s (Err r) p h = absurd (apart r p h)
as_name_part s (Ok q) p h =
    let (d, k) = chosen (is_name (part s q.start q.end)) (Ok q) (Err refusal.Name) (Ok p) (apart refusal.Name p) h in
    let x : q ≡ p = cc in
    (k, rw (← x) d)

-- a number that is answered is that of a field that was answered, and at most `limit`
as_number_part : (limit : ℕ) (s : List ℕ) (step : Outcome Part Refusal) (v : ℕ) (n : Cursor) → as_number limit s step ≡ Ok (v, n)
    → (p : Part) × (step ≡ Ok p) × (p.next ≡ n) × (v ≤ limit)
unfolding as_number at_most
as_number_part limit s (Err r) v n h = absurd (apart r (v, n) h)
as_number_part limit s (Ok p) v n h =
    let (k, l) = go (number (part s p.start p.end)) h in
    (p, refl, k, l)
  where
    go : (o : Option ℕ) → at_most limit p.next o ≡ Ok (v, n) → (p.next ≡ n) × (v ≤ limit)
    go none h = absurd (apart refusal.Number (v, n) h)
    go (some m) h =
        let (d, k) = chosen (leb m limit) (Ok (m, p.next)) (Err refusal.Number) (Ok (v, n)) (apart refusal.Number (v, n)) h in
        let (x, y) = answered m v p.next n k in
        (y, omega (arith, leb-true m limit d))

-- a term that is answered is a number that was answered, and below `count`
as_term_part : (count : ℕ) (step : Outcome (ℕ × Cursor) Refusal) (v : ℕ) (n : Cursor) → as_term count step ≡ Ok (v, n)
    → (step ≡ Ok (v, n)) × (v < count)
unfolding as_term
as_term_part count (Err r) v n h = absurd (apart r (v, n) h)
as_term_part count (Ok (m, n')) v n h =
    let (d, k) = chosen (ltb m count) (Ok (m, n')) (Err refusal.Term) (Ok (v, n)) (apart refusal.Term (v, n)) h in
    let (x, y) = answered m v n' n k in
    (k, omega (arith, ltb-true m count d))

module _ (s : List ℕ) (c : Cursor) (p : Placed s c) where
  -- a field that is answered was read
  pub field_next : (f : Part) → field_at s c ≡ Ok f → Stepped s c f
  field_next f h = go (leb c.at c.end) refl
    where
      go : (t : Bool) → leb c.at c.end ≡ t → Stepped s c f
      go true d =
          let k = leb-true c.at c.end d in
          let m = mark_at 0x2c s c.at c.end in
          let made : Part = record { start = c.at; end = m; next = record { at = m + 1; end = c.end } } in
          let w : ◌≡◌ {A = Outcome Part Refusal} (Ok f) (Ok made) = sym h ∙ field_some s c m k refl in
          let x : f ≡ made = cc in
          rw x
          (let low = mark_from m 0x2c s c.at c.end refl in
          let high = mark_to m 0x2c s c.at c.end refl k p.inside in
          omega arith)
      go false d = absurd (apart refusal.Form f (sym (field_none s c (leb-false c.at c.end d)) ∙ h))

  -- a name that is answered was read, and is a name
  pub name_next : (f : Part) → name_at s c ≡ Ok f → Stepped s c f × (is_name (part s f.start f.end) ≡ true)
  unfolding name_at
  name_next f h =
      let (k, d) = as_name_part s (field_at s c) f h in
      (field_next f k, d)

  -- a number that is answered is at most `limit`, and the next cursor stands further on
  pub number_next : (limit v : ℕ) (n : Cursor) → number_at limit s c ≡ Ok (v, n) → Onward s c n × (v ≤ limit)
  unfolding number_at
  number_next limit v n h =
      let (f, k, e, l) = as_number_part limit s (field_at s c) v n h in
      (rw e at (field_next f k).onward, l)

  -- a term that is answered is below `count`, and the next cursor stands further on
  pub term_next : (count v : ℕ) (n : Cursor) → term_at count s c ≡ Ok (v, n) → Onward s c n × (v < count)
  unfolding term_at
  term_next count v n h =
      let (k, l) = as_term_part count (number_at 65535 s c) v n h in
      ((number_next 65535 v n k).0, l)
