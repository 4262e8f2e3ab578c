-- What the fields of a record line say, and what reading a line comes to: the tables with it, or the refusal that `model` gives.
use Rattle.std.specs.Prelude.{ℕ, ◌≡◌, Bool, List, eqb}
use Rattle.model.specs.Names.{Name}
use Rattle.model.specs.Lines.{Field}
use Rattle.model.specs.Reading.{Result, ok, refused, ◌>>=◌, next, end, name_field, number_field, term_field, group_field, Content, assume, root, State}
use Rattle.model.specs.Outcome.{working_words}
use Rattle.model.specs.declared.Counts.{Counts}
use Rattle.model.specs.declared.Refusal.{Refusal}
use Rattle.model.specs.Steps.{Step}
use Rattle.model.specs.Steps as step
use Rattle.words.specs.Slices.{SameBut}
use Rattle.names.specs.Table.{name_of}
use Rattle.records.specs.States.{state_of}
use Rattle.records.specs.Adding.{Standing, judge, Adds}

-- the n-th line by what its fields say: a refused field, then 5, then the limits
unfoldable pub judged : ℕ → State → Result Content → Result State
judged n s said = said >>= judge n s

-- the last field of a line, one of `count` terms
unfoldable pub last_field : ℕ → List Field → Result ℕ
last_field count fs = next (term_field count) fs >>= λ (t, fs₁). end t fs₁

-- what an `assume` says after its name
unfoldable pub rest_of_assume : Bool → ℕ → Name → List Field → Result Content
rest_of_assume grouped count m fs = do
  (flag, fs₁) ← next (number_field 1) fs
  (group, fs₂) ← group_field grouped fs₁
  t ← last_field count fs₂
  ok (assume m (eqb flag 1) group t)

-- what a `root` says after its query
unfoldable pub rest_of_root : ℕ → ℕ → List Field → Result Content
rest_of_root count q fs = do
  (m, fs₁) ← next name_field fs
  t ← last_field count fs₁
  ok (root q m t)

-- the counts with so many names
abbrev pub with_names : Counts → ℕ → Counts
with_names k named = record {
  asks = k.asks;
  grouped = k.grouped;
  hides = k.hides;
  names = named;
  references = k.references;
  terms = k.terms;
  records = k.records;
  entries = k.entries;
  uses = k.uses;
  mark = k.mark;
}

-- what reading the flag, the group and the term of a fact comes to, its name spelled
pub data AddsFact (file names refs rows recs lists names' rows' recs' lists' : List ℕ) (k : Counts) (n i : ℕ) (fs : List Field) (r : Step) : Type 0 where
  fact_adds : (flag group : ℕ) {t : ℕ} → ((m : Name) → rest_of_assume k.grouped k.terms m fs ≡ ok (assume m (eqb flag 1) group t))
      → Adds file names refs rows recs lists names' rows' recs' lists' k n (assume (name_of file names i) (eqb flag 1) group t) r
      → AddsFact file names refs rows recs lists names' rows' recs' lists' k n i fs r
  fact_stops : {x : Refusal} → ((m : Name) → rest_of_assume k.grouped k.terms m fs ≡ refused x) → r ≡ step.Refused x
      → AddsFact file names refs rows recs lists names' rows' recs' lists' k n i fs r

-- what a line comes to: the tables with it, or its refusal
pub data Reads (file names' refs' rows' recs' lists' : List ℕ) (n : ℕ) (s : State) (said : Result Content) : Step → Type 0 where
  goes_on : {k' : Counts} → judged n s said ≡ ok (state_of file names' refs' rows' recs' lists' k')
      → Standing file names' refs' rows' recs' lists' k'
      → Reads file names' refs' rows' recs' lists' n s said (step.On k')
  stops : {x : Refusal} → judged n s said ≡ refused x → Reads file names' refs' rows' recs' lists' n s said (step.Refused x)

-- the words past those that a call uses stay
pub record Past (names refs rows recs lists names' refs' rows' recs' lists' : List ℕ) : Type 0 where
  pub name_words : SameBut 0 working_words names names'
  pub reference_words : SameBut 0 working_words refs refs'
  pub row_words : SameBut 0 working_words rows rows'
  pub record_words : SameBut 0 working_words recs recs'
  pub list_words : SameBut 0 working_words lists lists'

-- what reading the n-th line leaves in the slices and answers
pub record LineRead (file names refs rows recs lists names' refs' rows' recs' lists' : List ℕ) (k : Counts) (n : ℕ) (said : Result Content) (r : Step) : Type 0 where
  pub reads : Reads file names' refs' rows' recs' lists' n (state_of file names refs rows recs lists k) said r
  pub past : Past names refs rows recs lists names' refs' rows' recs' lists'
