-- The record lines as `read_line` has them: what is left of a line after its name, and the record that it adds.
use Prim.Native.Nat.{ℕ, ◌<◌}
use mathlib.Core.Path.{◌≡◌, refl, ◌∙◌}
use mathlib.Core.Bool.{Bool}
use mathlib.Core.List.{List, [], ◌∷◌}
use lib.Dec.{eqb}
use Rattle.model.specs.Summaries.{exclude_names}
use Rattle.model.specs.Lists.{collect}
use Rattle.model.specs.Names.{Name}
use Rattle.model.specs.Lines.{Field}
use Rattle.model.specs.Terms.{Term}
use Rattle.model.specs.Reading.{Result, ok, refused, next, name_field, Content, head, hide, hidden_by, assume, fun, def, root, content, spelled, taken_by, summarize_decl}
use Rattle.model.specs.declared.Counts.{Counts}
use Rattle.model.specs.declared.LineKind.TheVariants as kind
use Rattle.model.specs.declared.Refusal.{Refusal}
use Rattle.model.specs.Steps.{Step}
use Rattle.model.specs.Steps as step
use Rattle.text.specs.declared.Cursor.{Cursor}
use Rattle.text.specs.Parts.{fields_left}
use Rattle.names.specs.Table.{name_of}
use Rattle.fields.specs.declared.RecordKind.{RecordKind}
use Rattle.fields.specs.Wording.{record_line_kind}
use Rattle.fields.specs.Spelling.{Begun, table_there, ReadsName}
use Rattle.fields.proofs.Spelling.{NameRead, reads_not}
use Rattle.records.specs.States.{state_of}
use Rattle.records.specs.Adding.{Standing, Adds, Untouched}
use Rattle.records.proofs.Judging.{repeats_none}
use Rattle.filing.specs.Lines.{with_names, last_field, rest_of_root, AddsFact, fact_adds, fact_stops, Reads, LineRead}
use Rattle.filing.proofs.Naming.{not_taken, record_reads, reads_refused, table_past, spelled_past, past_none, past_names, past_then}
use Rattle.filing.proofs.Saying.{end_none, one_said, fun_is, hide_is, def_said, assume_said, root_is}

-- ---- the name that a record spells and takes

fun_name : (x : Name) → spelled (fun x) ≡ x ∷ []
unfolding spelled
fun_name x = refl

hide_name : (x : Name) → spelled (head (hide x)) ≡ x ∷ []
unfolding spelled hidden_by
hide_name x = refl

def_name : (t : ℕ) (x : Name) → spelled (def x t) ≡ x ∷ []
unfolding spelled
def_name t x = refl

assume_name : (flag : Bool) (group t : ℕ) (x : Name) → spelled (assume x flag group t) ≡ x ∷ []
unfolding spelled
assume_name flag group t x = refl

root_name : (q t : ℕ) (x : Name) → spelled (root q x t) ≡ x ∷ []
unfolding spelled
root_name q t x = refl

fun_takes : (exclude : List Name) (terms : List Term) (n : ℕ) (x : Name) → collect taken_by (summarize_decl exclude terms n (fun x)) ≡ x ∷ []
unfolding collect taken_by summarize_decl
fun_takes exclude terms n x = refl

hide_takes : (exclude : List Name) (terms : List Term) (n : ℕ) (x : Name) → collect taken_by (summarize_decl exclude terms n (head (hide x))) ≡ []
unfolding collect summarize_decl
hide_takes exclude terms n x = refl

def_takes : (exclude : List Name) (terms : List Term) (n t : ℕ) (x : Name) → collect taken_by (summarize_decl exclude terms n (def x t)) ≡ x ∷ []
unfolding collect taken_by summarize_decl
def_takes exclude terms n t x = refl

assume_takes : (exclude : List Name) (terms : List Term) (n : ℕ) (flag : Bool) (group t : ℕ) (x : Name)
    → collect taken_by (summarize_decl exclude terms n (assume x flag group t)) ≡ x ∷ []
unfolding collect taken_by summarize_decl Rattle.model.specs.Summaries.summarize_assumption
assume_takes exclude terms n flag group t x = refl

root_takes : (exclude : List Name) (terms : List Term) (n q t : ℕ) (x : Name) → collect taken_by (summarize_decl exclude terms n (root q x t)) ≡ []
unfolding collect summarize_decl
root_takes exclude terms n q t x = refl

-- ---- the lines

-- a name is read from the table
pub begins : {file names refs rows recs lists : List ℕ} {k : Counts} → Standing file names refs rows recs lists k → Begun file names k.names
begins st = table_there st.tables.name_table

-- nothing is written where fields are refused
pub line_not : (file names refs rows recs lists : List ℕ) (k : Counts) (n : ℕ) {said : Result Content} (x : Refusal) → said ≡ refused x
    → LineRead file names refs rows recs lists names refs rows recs lists k n said (step.Refused x)
line_not file names refs rows recs lists k n x e = record { reads = reads_refused x e; past = past_none names refs rows recs lists }

-- what the fields say, said otherwise
pub line_said : {file names refs rows recs lists names' refs' rows' recs' lists' : List ℕ} {k : Counts} {n : ℕ} {said other : Result Content} {r : Step}
    → said ≡ other
    → LineRead file names refs rows recs lists names' refs' rows' recs' lists' k n other r
    → LineRead file names refs rows recs lists names' refs' rows' recs' lists' k n said r
line_said e l = rw e l

-- a record line by its kind
pub record_line : {file names refs rows recs lists names' refs' rows' recs' lists' : List ℕ} {k : Counts} {n : ℕ} (grouped : Bool) (count : ℕ)
    (fs : List Field) {kind known : RecordKind} {r : Step} → kind ≡ known
    → LineRead file names refs rows recs lists names' refs' rows' recs' lists' k n (content (record_line_kind known) grouped count fs) r
    → LineRead file names refs rows recs lists names' refs' rows' recs' lists' k n (content (record_line_kind kind) grouped count fs) r
record_line grouped count fs e l = rw e l

module _ {file names refs rows recs lists : List ℕ} {k : Counts} (n : ℕ) {c : Cursor} (st : Standing file names refs rows recs lists k) where
  -- the name is refused
  pub name_not : {names' : List ℕ} {w : Result (ℕ × ℕ × Cursor)} {x : Refusal} {said : Result Content} → ReadsName file names names' k.names c w → w ≡ refused x
      → (next name_field (fields_left file c) ≡ refused x → said ≡ refused x)
      → LineRead file names refs rows recs lists names' refs rows recs lists k n said (step.Refused x)
  name_not {x = x} r e says =
      let (d, q) = reads_not r e in
      record { reads = reads_refused x (says d); past = past_names refs rows recs lists (table_past q) }

  module _ {names' : List ℕ} {named' i : ℕ} {last : Cursor} (r : NameRead file names names' k.names named' i c last) where
    -- a field after the name is refused
    pub rest_not : {said : Result Content} (x : Refusal) → said ≡ refused x
        → LineRead file names refs rows recs lists names' refs rows recs lists k n said (step.Refused x)
    rest_not x e = record { reads = reads_refused x e; past = past_names refs rows recs lists (spelled_past r.spelled.longer) }

    module _ {names'' rows'' recs'' lists'' : List ℕ} {next : Counts} {s : Step} (q : next ≡ with_names k named')
        (u : Untouched names' rows recs lists names'' rows'' recs'' lists'') where
      -- a `fun`
      pub fun_line : last.end < last.at → Adds file names' refs rows recs lists names'' rows'' recs'' lists'' next n (fun (name_of file names' i)) s
          → LineRead file names refs rows recs lists names'' refs rows'' recs'' lists'' k n (content kind.Fun k.grouped k.terms (fields_left file c)) s
      fun_line h a = record {
        reads = record_reads n st r.spelled fun fun_name
            (not_taken n st r.spelled (fun r.name) (fun_name r.name) (fun_takes _ _ n r.name))
            (one_said (fields_left file c) fun (fun_is k.grouped k.terms (fields_left file c)) r.said (end_none (fun r.name) file last h)) q a;
        past = past_then refs (spelled_past r.spelled.longer) u;
      }

      -- a `hide`
      pub hide_line : last.end < last.at → Adds file names' refs rows recs lists names'' rows'' recs'' lists'' next n (head (hide (name_of file names' i))) s
          → LineRead file names refs rows recs lists names'' refs rows'' recs'' lists'' k n (content kind.Hide k.grouped k.terms (fields_left file c)) s
      hide_line h a = record {
        reads = record_reads n st r.spelled (λ x. head (hide x)) hide_name
            (λ l. repeats_none n (state_of file names refs rows recs lists k) (head (hide r.name)) (hide_takes _ _ n r.name))
            (one_said (fields_left file c) (λ x. head (hide x)) (hide_is k.grouped k.terms (fields_left file c)) r.said
            (end_none (head (hide r.name)) file last h)) q a;
        past = past_then refs (spelled_past r.spelled.longer) u;
      }

      -- a `def`
      pub def_line : {t : ℕ} → last_field k.terms (fields_left file last) ≡ ok t
          → Adds file names' refs rows recs lists names'' rows'' recs'' lists'' next n (def (name_of file names' i) t) s
          → LineRead file names refs rows recs lists names'' refs rows'' recs'' lists'' k n (content kind.Def k.grouped k.terms (fields_left file c)) s
      def_line {t} h a = record {
        reads = record_reads n st r.spelled (λ x. def x t) (def_name t)
            (not_taken n st r.spelled (def r.name t) (def_name t r.name) (def_takes _ _ n t r.name))
            (def_said k.grouped k.terms (fields_left file c) r.said h) q a;
        past = past_then refs (spelled_past r.spelled.longer) u;
      }

      -- a `root`
      pub root_line : {query t : ℕ} → last_field k.terms (fields_left file last) ≡ ok t
          → Adds file names' refs rows recs lists names'' rows'' recs'' lists'' next n (root query (name_of file names' i) t) s
          → LineRead file names refs rows recs lists names'' refs rows'' recs'' lists'' k n (rest_of_root k.terms query (fields_left file c)) s
      root_line {query} {t} h a = record {
        reads = record_reads n st r.spelled (λ x. root query x t) (root_name query t)
            (λ l. repeats_none n (state_of file names refs rows recs lists k) (root query r.name t) (root_takes _ _ n query t r.name))
            (root_is k.terms query (fields_left file c) r.said h) q a;
        past = past_then refs (spelled_past r.spelled.longer) u;
      }

      -- an `assume`
      pub assume_line : AddsFact file names' refs rows recs lists names'' rows'' recs'' lists'' next n i (fields_left file last) s
          → LineRead file names refs rows recs lists names'' refs rows'' recs'' lists'' k n (content kind.Assume k.grouped k.terms (fields_left file c)) s
      assume_line a = record { reads = go (rw q at a); past = past_then refs (spelled_past r.spelled.longer) u }
        where
          go : AddsFact file names' refs rows recs lists names'' rows'' recs'' lists'' (with_names k named') n i (fields_left file last) s
              → Reads file names'' refs rows'' recs'' lists'' n (state_of file names refs rows recs lists k) (content kind.Assume k.grouped k.terms (fields_left file c)) s
          go (fact_adds flag group {t} e b) =
              record_reads n st r.spelled (λ x. assume x (eqb flag 1) group t) (assume_name (eqb flag 1) group t)
              (not_taken n st r.spelled (assume r.name (eqb flag 1) group t) (assume_name (eqb flag 1) group t r.name)
              (assume_takes _ _ n (eqb flag 1) group t r.name))
              (assume_said k.grouped k.terms (fields_left file c) r.said ∙ e r.name) refl b
          go (fact_stops {x} e b) = rw b (reads_refused x (assume_said k.grouped k.terms (fields_left file c) r.said ∙ e r.name))
