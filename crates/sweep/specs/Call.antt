-- What a call of `sweep` leaves, and what its parts leave to each other.
use Rattle.std.specs.Prelude.{ℕ, zero, suc, ◌≤◌, ◌≡◌, List, [], ◌∷◌, ◌++◌, map, length, take, drop}
use Rattle.model.specs.Reading.{most_records, most_asks}
use Rattle.model.specs.Outcome.{Position, Outcome, outcome, padded, working_words, answer, result_after}
use Rattle.model.specs.Outcome as outcomes
use Rattle.model.specs.Sweep.{sweep_answer}
use Rattle.model.specs.Working.{Working, sizes, works_after}
use Rattle.model.specs.declared.Asked.{Asked}
use Rattle.model.specs.declared.Counts.{Counts}
use Rattle.model.specs.declared.Swept.{Swept}
use Rattle.model.specs.declared.Verdict.TheVariants.{Accepted, Refused}
use Rattle.words.specs.Slices.{SameBut}
use Rattle.records.specs.States.{asked_at}
use Rattle.macros.specs.Macros.{Filled}
use Rattle.scan.specs.Runs.{tables_run}
use Rattle.sweeping.specs.Swept.{tables_sweep}
use Rattle.filter.specs.Call.{position_of}
use Rattle.filter.specs.Call as first
use Rattle.sweep.specs.declared.Tally.{Tally}

-- a call: the file and the slices lent, the answer, the slices left
pub record Call : Type 0 where
  pub file : List ℕ
  pub lent : Working
  pub out : List ℕ
  pub answer : Swept
  pub left : Working
  pub out' : List ℕ

-- what the first engine comes to on it
abbrev pub comes_to : Call → Outcome
comes_to c = outcome c.file (sizes c.lent) (length c.out)

-- everything that a call leaves: the answer, the result slice, the working slices
pub record Exact (c : Call) : Type 0 where
  pub answered : c.answer ≡ sweep_answer c.file (sizes c.lent) (length c.out)
  pub result : c.out' ≡ result_after (comes_to c) c.out
  pub slices : c.left ≡ works_after (sizes c.lent) c.lent

-- the answer of an outcome, the passes of its positions given
unfoldable pub telling : Outcome → List ℕ → Swept
telling (outcomes.refusal_at r place) passes =
    record { verdict = Refused r; place = place; kept = padded []; passes = padded [] }
telling (outcomes.lists ps) passes =
    record { verdict = Accepted; place = 0; kept = padded (map (λ p. length p.kept) ps); passes = padded passes }

-- the passes of the ask at a position over filled tables
unfoldable pub passes_at : List ℕ → List ℕ → List ℕ → List ℕ → Counts → ℕ → ℕ
passes_at file names recs lists k i = (tables_sweep file names recs lists k (asked_at recs i)).passes

-- those of the asks before the n-th position
unfoldable pub passes_before : List ℕ → List ℕ → List ℕ → List ℕ → Counts → ℕ → List ℕ
passes_before file names recs lists k zero = []
passes_before file names recs lists k (suc n) =
    passes_before file names recs lists k n ++ (passes_at file names recs lists k n ∷ [])

-- the list of a position in a slice, from a place on, its count and its passes; no other word changes
pub record ListedAt (p : Position) (many : ℕ) (at : ℕ) (lines lines' : List ℕ) (r : Tally) : Type 0 where
  pub kept : r.kept ≡ length p.kept
  pub passes : r.passes ≡ many
  pub listed : take r.kept (drop at lines') ≡ p.kept
  pub same : SameBut at r.kept lines lines'
  pub fits : r.kept ≤ most_records

-- the answer of positions and their passes; their lists stand end to end at the start of a slice, as the first engine's
pub record Replied (ps : List Position) (passes : List ℕ) (a : Swept) (total : ℕ) (lines : List ℕ) : Type 0 where
  pub told : a ≡ telling (outcomes.lists ps) passes
  pub listed : first.Replied ps (answer (outcomes.lists ps)) total lines

-- an answer and the result slice at exit are those of an outcome and passes
pub record Gives (o : Outcome) (passes out : List ℕ) (a : Swept) (out' : List ℕ) : Type 0 where
  pub told : a ≡ telling o passes
  pub result : out' ≡ result_after o out

-- what the sweeps and the lists ask: tables filled from the file, slices for the lists and the run, no more positions than a
-- file may have, no list of more lines than a file has records, and sweeps that reach what runs do
pub record SweepsOver (file names refs recs lists run : List ℕ) (k : Counts) : Type 0 where
  pub filled : Filled file names recs lists k
  pub list_room : working_words ≤ length refs
  pub room : working_words ≤ length run
  pub few_asks : k.asks ≤ most_asks
  pub fits : (a : Asked) → length (position_of file names recs lists k a).kept ≤ most_records
  pub same : (a : Asked) → (tables_sweep file names recs lists k a).reached ≡ (tables_run file names recs lists k a).reached
