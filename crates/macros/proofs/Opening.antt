-- The macro column, name after name.
use Prim.Native.Nat.{ℕ, zero, suc, ◌+◌, ◌-◌, ◌≤◌, ◌<◌}
use native.Mathlib.Omega.{arith}
use mathlib.Core.Path.{◌≡◌, refl, sym, ap, ◌∙◌, subst}
use mathlib.Core.Bool.{Bool, true, false, cond, ◌&&◌}
use mathlib.Core.Logic.{◌⊎◌, ⊎_elim}
use mathlib.Core.List.{List}
use lib.ListN.{length, get_or, set, length-set}
use lib.Seq.{get_or-set_same, get_or-set_other}
use lib.Dec.{eqb, leb, ltb}
use borrow.Author.Tests.{lt-ltb, le-ltb, le-leb, lt-leb, ltb-true, leb-true}
use Rattle.model.specs.Reading.{most_names, most_records}
use Rattle.model.specs.Outcome.{working_words}
use Rattle.names.specs.Table.{name_code}
use Rattle.terms.proofs.Laws.{equal}
use Rattle.records.specs.Columns.{record_kind, def_kind, taken_column, macro_column, taken_at}
use Rattle.records.specs.Filing.{newest}
use Rattle.macros.specs.Macros.{opened_word, first_macro, macro_count, first_opened, opened, start_word, is_def, macro_word, Found, found_word, word_from, MacrosOpened}
use Rattle.records.proofs.Chaining.{newest_here, newest_other, newest_low}

-- ---- the numbers that the macros of the start open to

-- those among the names before the n-th
pub record Finding (names found : List ℕ) (n : ℕ) : Type 0 where
  pub size : length found ≡ macro_count
  pub numbers : (j : ℕ) → j < macro_count → get_or found j 0 ≡ newest (name_code names) (first_opened + j) n

-- none yet
pub finding_none : (names : List ℕ) {found : List ℕ} → length found ≡ macro_count → ((j : ℕ) → get_or found j 0 ≡ 0) → Finding names found 0
unfolding newest
finding_none names size zeros = record { size = size; numbers = λ j l. zeros j }

module _ {names found : List ℕ} {n : ℕ} (f : Finding names found n) {c : ℕ} (is : c ≡ name_code names n) where
  -- a name that no macro of the start opens to
  pub finding_other : (c < first_opened) ⊎ (first_opened + macro_count ≤ c) → Finding names found (n + 1)
  finding_other h = record {
    size = f.size;
    numbers = λ j l. f.numbers j l ∙ sym (newest_other (name_code names) (first_opened + j) n
        (λ e. ⊎_elim (λ (q : c < first_opened). omega arith) (λ (q : first_opened + macro_count ≤ c). omega arith) h));
  }

  -- one that a macro opens to
  pub finding_one : first_opened ≤ c → c < first_opened + macro_count → Finding names (set found (c - first_opened) (n + 1)) (n + 1)
  finding_one low high =
      let place = c - first_opened in
      let back : first_opened + place ≡ c = omega arith in
      record {
        size = simp length-set f.size;
        numbers = λ j l. ⊎_elim
            (λ (e : j ≡ place). rw (e, back)
            (get_or-set_same found place (n + 1) 0 (omega (arith, f.size)) ∙ sym (newest_here (name_code names) c n (sym is))))
            (λ (e : j ≡ place → ⊥).
            get_or-set_other found place j (n + 1) 0 e ∙ f.numbers j l
            ∙ sym (newest_other (name_code names) (first_opened + j) n (λ z. e (omega arith))))
            (equal j place);
      }

-- those among all
pub finding_end : {names found : List ℕ} {n named : ℕ} → Finding names found n → n ≤ named → named ≤ n → Found names named found
finding_end {names} {n = n} {named} f a b =
    let e : n ≡ named = omega arith in
    record { size = f.size; numbers = λ j l. f.numbers j l ∙ ap (newest (name_code names) (first_opened + j)) e }

-- they are few
pub found_low : {names found : List ℕ} {named : ℕ} → Found names named found → named ≤ most_names → (j : ℕ) → j < macro_count → get_or found j 0 ≤ most_names
found_low {names} {named = named} f few j l = rw (f.numbers j l) (omega (arith, newest_low (name_code names) (first_opened + j) named))

-- ---- the word of a macro of the start

-- the number for a code of theirs is low
pub number_low : (found : List ℕ) {c m : ℕ} → m ≡ get_or found (c - first_macro) 0 → ((j : ℕ) → j < macro_count → get_or found j 0 ≤ most_names) → first_macro ≤ c
    → c < first_opened → m ≤ most_names
number_low found {c} e h low high = rw e (h (c - first_macro) (omega arith))

module _ (found : List ℕ) (c : ℕ) where
  -- a code below theirs
  pub word_below : c < first_macro → (0 ≡ found_word found c) × (0 < 4294967296)
  unfolding found_word
  word_below h = (rw (lt-leb first_macro c h), omega arith)

  -- a code above theirs
  pub word_above : first_opened ≤ c → (0 ≡ found_word found c) × (0 < 4294967296)
  unfolding found_word
  word_above h = (rw (le-ltb c first_opened h, le-leb first_macro c (omega arith)), omega arith)

  module _ {m : ℕ} (low : first_macro ≤ c) (high : c < first_opened) (is : m ≡ get_or found (c - first_macro) 0) where
    word_of : found_word found c ≡ opened m
    unfolding found_word
    word_of = rw (le-leb first_macro c low, lt-ltb c first_opened high, is)

    -- the table has no name that it opens to
    pub word_missing : m ≡ 0 → (0 ≡ found_word found c) × (0 < 4294967296)
    unfolding opened
    word_missing e = (sym (word_of ∙ ap opened e), omega arith)

    -- it has one
    pub word_there : (m ≡ 0 → ⊥) → m ≤ most_names → (opened_word + (m - 1) ≡ found_word found c) × (opened_word + (m - 1) < 4294967296)
    unfolding opened
    word_there d few = (sym (word_of ∙ go m d), omega arith)
      where
        go : (m : ℕ) → (m ≡ 0 → ⊥) → opened m ≡ opened_word + (m - 1)
        go zero d = absurd (d refl)
        go (suc m) d = omega arith

-- the words are those of the table
found_start : {names found : List ℕ} {named : ℕ} → Found names named found → (c : ℕ) → found_word found c ≡ start_word names named c
unfolding found_word start_word
found_start {names} {found} {named} f c = go (leb first_macro c) refl (ltb c first_opened) refl
  where
    go : (a : Bool) → leb first_macro c ≡ a → (b : Bool) → ltb c first_opened ≡ b
        → cond (leb first_macro c && ltb c first_opened) (opened (get_or found (c - first_macro) 0)) 0
        ≡ cond (leb first_macro c && ltb c first_opened) (opened (newest (name_code names) (c + macro_count) named)) 0
    go true p true q =
        let low = leb-true first_macro c p in
        let high = ltb-true c first_opened q in
        let e : first_opened + (c - first_macro) ≡ c + macro_count = omega arith in
        ap (λ m. cond (leb first_macro c && ltb c first_opened) (opened m) 0)
        (f.numbers (c - first_macro) (omega arith) ∙ ap (λ d. newest (name_code names) d named) e)
    go true p false q = rw (p, q)
    go false p b q = rw p

-- ---- whether a def took a name

pub not_def : (recs : List ℕ) {t : ℕ} → t ≡ 0 → false ≡ is_def recs t
unfolding is_def
not_def recs e = rw e

pub def_by : (recs : List ℕ) {t w : ℕ} → (t ≡ 0 → ⊥) → w ≡ record_kind recs (t - 1) → eqb w def_kind ≡ is_def recs t
unfolding is_def
def_by recs {t} d e = rw (lt-ltb 0 t (omega arith), e)

-- ---- the word of a name

module _ (names recs found : List ℕ) (n : ℕ) {t : ℕ} {b : Bool} (taken : t ≡ taken_at names n) (def : b ≡ is_def recs t) where
  -- a def's
  pub word_def : b ≡ true → t ≤ most_records → (t ≡ word_from names recs found n) × (t < 4294967296)
  unfolding word_from
  word_def e l = (sym (go t taken (sym def ∙ e)), omega arith)
    where
      go : (t : ℕ) → t ≡ taken_at names n → is_def recs t ≡ true → word_from names recs found n ≡ t
      go t p q = rw (← p, q)

  -- another's
  pub word_other : b ≡ false → {c w : ℕ} → c ≡ name_code names n → (w ≡ found_word found c) × (w < 4294967296)
      → (w ≡ word_from names recs found n) × (w < 4294967296)
  unfolding word_from
  word_other e {c} {w} is (h, l) = (h ∙ sym (go t c taken (sym def ∙ e) is), l)
    where
      go : (t c : ℕ) → t ≡ taken_at names n → is_def recs t ≡ false → c ≡ name_code names n → word_from names recs found n ≡ found_word found c
      go t c p q r = rw (← p, q, ← r)

-- ---- the column

-- no word yet
pub opens_none : (names recs : List ℕ) (named : ℕ) → MacrosOpened names recs names named 0
opens_none names recs named = record { same = record { same_length = refl; same_words = λ i h. refl }; macros = λ m h. absurd (omega arith) }

-- one word more
module _ {names recs names' found : List ℕ} {named n : ℕ} (o : MacrosOpened names recs names' named n) (f : Found names named found) (low : n < named)
    (few : named ≤ most_names) where
  -- the words that it depends on are those at entry
  word_same : word_from names' recs found n ≡ macro_word names recs named n
  unfolding word_from macro_word
  word_same =
      rw (o.same.same_words (taken_column + n) (λ a b. omega arith), o.same.same_words (6144 + n) (λ a b. omega arith), found_start f (name_code names n))

  pub opens_more : {w : ℕ} → working_words ≤ length names → w ≡ word_from names' recs found n → MacrosOpened names recs (set names' (macro_column + n) w) named (n + 1)
  opens_more {w} room is =
      let other : (i : ℕ) → (i ≡ macro_column + n → ⊥) → get_or (set names' (macro_column + n) w) i 0
      ≡ get_or names' i 0 = λ i d. get_or-set_other names' (macro_column + n) i w 0 d in
      record {
        same = record {
          same_length = simp length-set o.same.same_length;
          same_words = λ i h. other i (λ z. h (omega arith) (omega arith)) ∙ o.same.same_words i h;
        };
        macros = λ m h. ⊎_elim
            (λ (e : m ≡ n). rw e (get_or-set_same names' (macro_column + n) w 0 (omega (arith, o.same.same_length)) ∙ is ∙ word_same))
            (λ (e : m ≡ n → ⊥). other (macro_column + m) (λ z. e (omega arith)) ∙ o.macros m (omega arith))
            (equal m n);
      }

  -- the record that took the name is one
  pub taken_low : ((m : ℕ) → m < named → taken_at names m ≤ most_records) → taken_at names' n ≤ most_records
  taken_low h = rw (o.same.same_words (taken_column + n) (λ a b. omega arith)) (h n low)

-- the last word
pub opens_end : {names recs names' : List ℕ} {named n : ℕ} → MacrosOpened names recs names' named n → n ≤ named → named ≤ n → MacrosOpened names recs names' named named
opens_end {names} {recs} {names'} {named} {n} o a b = let e : n ≡ named = omega arith in subst (λ m. MacrosOpened names recs names' named m) e o
