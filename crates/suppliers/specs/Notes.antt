-- The pass after a run that finds the supplier of each name, on numbers: each scanned record is noted for the names that it has
-- and that were first met in the round which scanned it, unless a record on a lower line is noted already.
use Rattle.std.specs.Prelude.{ℕ, zero, suc, ◌+◌, ◌-◌, ◌≤◌, ◌<◌, ◌≡◌, Bool, true, cond, ◌&&◌, ◌||◌, T, ltb, eqb, length, get_or, set}
use mathlib.Core.List.{List, Memᴰ}
use Rattle.model.specs.Lists.{fold_left}
use Rattle.model.specs.Reading.{most_names, most_records}
use Rattle.model.specs.Outcome.{working_words}
use Rattle.model.specs.declared.Asked.{Asked}
use Rattle.model.specs.declared.Counts.{Counts}
use Rattle.words.specs.Slices.{SameBut, Zeroed}
use Rattle.records.specs.Columns.{record_line}
use Rattle.firing.specs.Held.{Held}
use Rattle.firing.specs.Met.{reached_column, run_end, is_reached}
use Rattle.firing.specs.Firing.{opened_all}
use Rattle.firing.specs.Tables.{starts_at, held_of}

-- the first word of the column of suppliers, by name: one more than the record, 0 where none is noted
abbrev pub supplier_column : ℕ
supplier_column = run_end

-- whether a record goes before the one that a word notes, by their lines
unfoldable pub goes_before : (ℕ → ℕ) → ℕ → ℕ → Bool
goes_before line i word = cond (eqb word 0) true (ltb (line i) (line (word - 1)))

-- a record noted as the supplier of a name
unfoldable pub note : (ℕ → ℕ) → ℕ → List ℕ → ℕ → List ℕ
note line i w n =
    cond (eqb (get_or w n 0) (suc (get_or w (reached_column + i) 0)) && goes_before line i (get_or w (supplier_column + n) 0))
    (set w (supplier_column + n) (suc i))
    w

-- of names, one after the other
unfoldable pub notes : (ℕ → ℕ) → ℕ → List ℕ → List ℕ → List ℕ
notes line i w ns = fold_left (note line i) w ns

-- whether a record was scanned: in round 1, by the test, or after it was reached
unfoldable pub was_scanned : (ℕ → Bool) → List ℕ → ℕ → Bool
was_scanned starts w i = starts i || is_reached w i

-- the pass over the first m records
unfoldable pub noted_suppliers : Held → (ℕ → ℕ) → (ℕ → Bool) → ℕ → List ℕ → List ℕ
noted_suppliers h line starts zero w = w
noted_suppliers h line starts (suc m) w =
    let before = noted_suppliers h line starts m w in
    cond (was_scanned starts before m) (notes line m before (opened_all h.opens (h.frees m))) before

-- a scanned record that has a name, of the round before that of the name's first meeting
pub record Supplying (h : Held) (starts : ℕ → Bool) (w : List ℕ) (i n : ℕ) : Type 0 where
  pub scanned : T (was_scanned starts w i)
  pub has : Memᴰ n (opened_all h.opens (h.frees i))
  pub in_time : get_or w n 0 ≡ suc (get_or w (reached_column + i) 0)

-- what stands in the column after the pass over m records: none of them supplies the name, or one that does and is on the lowest
-- line
pub data NotedSupplier (h : Held) (line : ℕ → ℕ) (starts : ℕ → Bool) (w : List ℕ) (m n word : ℕ) : Type 0 where
  nobody : word ≡ 0 → ((i : ℕ) → i < m → Supplying h starts w i n → ⊥) → NotedSupplier h line starts w m n word
  lowest : (i : ℕ) → word ≡ suc i → i < m → Supplying h starts w i n
      → ((j : ℕ) → j < m → Supplying h starts w j n → line i ≤ line j)
      → NotedSupplier h line starts w m n word

-- what a note asks of the slices: the words of the column are 0 or name a record
pub record Notable (recs run : List ℕ) : Type 0 where
  pub record_room : working_words ≤ length recs
  pub room : working_words ≤ length run
  pub small : (n : ℕ) → n < most_names → get_or run (supplier_column + n) 0 ≤ most_records

-- the run's slice before and after the pass: its column cleared, then the records noted
pub record SuppliersNoted (names recs lists : List ℕ) (k : Counts) (a : Asked) (before after : List ℕ) : Type 0 where
  pub cleared : List ℕ
  pub zeroed : Zeroed supplier_column most_names before cleared
  pub is_noted : after ≡ noted_suppliers (held_of names recs lists k a) (record_line recs) (starts_at recs a) k.records cleared
  pub same : SameBut supplier_column most_names before after
