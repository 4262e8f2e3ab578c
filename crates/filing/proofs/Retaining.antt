-- `retain` lines as `read_line` has them.
use Prim.Native.Nat.{ℕ, ◌≤◌, ◌<◌}
use mathlib.Core.Path.{◌≡◌, refl, sym, ap, ◌∙◌}
use mathlib.Core.Bool.{Bool}
use mathlib.Core.List.{List, [], append-nil}
use Rattle.model.specs.Lists.{collect, fold_left}
use Rattle.model.specs.Names.{Name}
use Rattle.model.specs.Lines.{Field}
use Rattle.model.specs.Terms.{Term}
use Rattle.model.specs.Reading.{Result, ok, refused, ◌>>=◌, rest, name_field, retain, content, spell, spelled, trimmed, summarize_decl, taken_by, add_line, most_names}
use Rattle.model.specs.declared.Counts.{Counts}
use Rattle.model.specs.declared.LineKind.TheVariants as kind
use Rattle.model.specs.declared.Refusal.{Refusal}
use Rattle.model.specs.declared.Refusal.TheVariants as refusal
use Rattle.model.specs.Steps.{Step}
use Rattle.model.specs.Steps as step
use Rattle.model.proofs.ResultLaws.{ok_eq, not_ok}
use Rattle.laws.proofs.ReadingLaws.{past_names as many_names}
use Rattle.text.specs.declared.Cursor.{Cursor}
use Rattle.names.specs.Table.{table_names}
use Rattle.fields.specs.Spelling.{Naming, Longer, spell_fields, SpellsRest, all_spelt, rest_not}
use Rattle.fields.proofs.Spelling.{naming_table, naming_past, spell_law}
use Rattle.records.specs.States.{state_of}
use Rattle.records.specs.Adding.{Standing, judge, Adds, Untouched}
use Rattle.records.specs.Adding as adds
use Rattle.records.proofs.Judging.{judged_beyond, repeats_none}
use Rattle.filing.specs.Lines.{with_names, judged, Reads, goes_on, stops, LineRead}
use Rattle.filing.proofs.Naming.{state_spelled, standing_spelled, retained, few_names, reads_refused, table_past, spelled_past, past_names, past_then}

-- a retain takes no name
retain_takes : (exclude : List Name) (ts : List Term) (n : ℕ) (ms : List Name) → collect taken_by (summarize_decl exclude ts n (retain ms)) ≡ []
unfolding collect taken_by summarize_decl
retain_takes exclude ts n ms = refl

-- the names that were spelled, as the line says them
retain_said : (grouped : Bool) (count : ℕ) (ns : List Name) (fs : List Field) {ls : List Name} → spell_fields ns fs ≡ ok ls
    → (ms : List Name) × (content kind.Retain grouped count fs ≡ ok (retain ms)) × (fold_left spell ns ms ≡ ls)
unfolding content
retain_said grouped count ns fs {ls} e = go (rest name_field fs) refl (sym (spell_law ns fs) ∙ e)
  where
    go : (r : Result (List Name)) → rest name_field fs ≡ r → (r >>= λ ms. ok (fold_left spell ns ms)) ≡ ok ls
        → (ms : List Name) × ((rest name_field fs >>= λ names. ok (retain names)) ≡ ok (retain ms)) × (fold_left spell ns ms ≡ ls)
    go (ok ms) q x = (ms, rw q refl, ok_eq x)
    go (refused y) q x = absurd (not_ok x)

retain_refused : (grouped : Bool) (count : ℕ) (ns : List Name) (fs : List Field) {x : Refusal} → spell_fields ns fs ≡ refused x → content kind.Retain grouped count fs ≡ refused x
unfolding content
retain_refused grouped count ns fs {x} e = go (rest name_field fs) (sym (spell_law ns fs) ∙ e)
  where
    go : (r : Result (List Name)) → (r >>= λ ms. ok (fold_left spell ns ms)) ≡ refused x → (r >>= λ names. ok (retain names)) ≡ refused x
    go (ok ms) q = absurd (not_ok (sym q))
    go (refused y) q = cc

module _ {file names refs rows recs lists names' : List ℕ} {k : Counts} (n : ℕ) (st : Standing file names refs rows recs lists k) where
  -- the names then, as those of the model
  retain_there : {named' : ℕ} {ns : List Name} (ms : List Name) → Naming file names' named' ns → Longer file names names' k.names named'
      → fold_left spell (table_names file names k.names) ms ≡ ns → named' ≤ most_names
      → judge n (state_of file names refs rows recs lists k) (retain ms) ≡ judge n (state_of file names' refs rows recs lists (with_names k named')) (retain [])
  unfolding state_of
  retain_there ms naming longer e h =
      retained n (state_of file names refs rows recs lists k) ms
      ∙ ap (λ t. judge n t (retain [])) (sym (state_spelled st longer ((naming_table naming h).1 ∙ sym e)))

  -- more names than may be
  retain_crowded : {named' : ℕ} {ns : List Name} (ms : List Name) → Naming file names' named' ns → fold_left spell (table_names file names k.names) ms ≡ ns
      → most_names < named' → judge n (state_of file names refs rows recs lists k) (retain ms) ≡ refused refusal.FullNames
  unfolding state_of add_line spelled trimmed
  retain_crowded ms naming e h =
      judged_beyond n (state_of file names refs rows recs lists k) (retain ms)
      (repeats_none n (state_of file names refs rows recs lists k) (retain ms) (retain_takes _ _ n ms))
      (many_names (rw (append-nil ms, e) (naming_past naming h)))

module _ {file names refs rows recs lists names' : List ℕ} {k : Counts} (n : ℕ) {fs : List Field} (st : Standing file names refs rows recs lists k) where
  -- the tables with the names spelled
  pub rest_standing : {u : Result (ℕ × Cursor)} {named' : ℕ} {after : Cursor} {next : Counts} → SpellsRest file names names' k.names fs u → u ≡ ok (named', after)
      → next ≡ with_names k named' → next.names ≤ most_names → Standing file names' refs rows recs lists next
  rest_standing {u} {named'} {after} {next} r e q = go (rw e at r) q
    where
      go : SpellsRest file names names' k.names fs (ok (named', after)) → next ≡ with_names k named'
          → next.names ≤ most_names → Standing file names' refs rows recs lists next
      go (all_spelt run naming longer) d = rw d (λ h. standing_spelled st longer (naming_table naming h).0)

  -- a `retain`
  pub retain_line : {u : Result (ℕ × Cursor)} {named' : ℕ} {after : Cursor} {next : Counts} {recs'' : List ℕ} {f : Step}
      → SpellsRest file names names' k.names fs u → u ≡ ok (named', after) → next ≡ with_names k named'
      → Adds file names' refs rows recs lists names' rows recs'' lists next n (retain []) f → Untouched names' rows recs lists names' rows recs'' lists
      → LineRead file names refs rows recs lists names' refs rows recs'' lists k n (content kind.Retain k.grouped k.terms fs) f
  unfolding judged
  retain_line {u} {named'} {after} {next} {recs''} r e q a x = go (rw e at r) (rw q at a)
    where
      reads : {f : Step} {ns : List Name} (ms : List Name) → Naming file names' named' ns → Longer file names names' k.names named'
          → content kind.Retain k.grouped k.terms fs ≡ ok (retain ms) → fold_left spell (table_names file names k.names) ms ≡ ns
          → Adds file names' refs rows recs lists names' rows recs'' lists (with_names k named') n (retain []) f
          → Reads file names' refs rows recs'' lists n (state_of file names refs rows recs lists k) (content kind.Retain k.grouped k.terms fs) f
      reads ms naming longer d z (adds.full h) = stops {x = refusal.FullNames} (rw d (retain_crowded n st ms naming z h))
      reads ms naming longer d z (adds.stops {x} h j) = stops {x = x} (rw d (retain_there n st ms naming longer z h ∙ j))
      reads ms naming longer d z (adds.added {k'} j y) = goes_on {k' = k'}
          (rw d (retain_there n st ms naming longer z (few_names file names' refs rows recs lists k named' n (retain []) j y) ∙ j)) y

      go : {f : Step} → SpellsRest file names names' k.names fs (ok (named', after))
          → Adds file names' refs rows recs lists names' rows recs'' lists (with_names k named') n (retain []) f
          → LineRead file names refs rows recs lists names' refs rows recs'' lists k n (content kind.Retain k.grouped k.terms fs) f
      go (all_spelt {ns} run naming longer) b =
          let (ms, d, z) = retain_said k.grouped k.terms (table_names file names k.names) fs run in
          record { reads = reads ms naming longer d z b; past = past_then refs (spelled_past longer) x }

  -- a name is refused
  pub retain_not : {u : Result (ℕ × Cursor)} {x : Refusal} → SpellsRest file names names' k.names fs u → u ≡ refused x
      → LineRead file names refs rows recs lists names' refs rows recs lists k n (content kind.Retain k.grouped k.terms fs) (step.Refused x)
  retain_not {u} {x} r e = go (rw e at r)
    where
      go : SpellsRest file names names' k.names fs (refused x)
          → LineRead file names refs rows recs lists names' refs rows recs lists k n (content kind.Retain k.grouped k.terms fs) (step.Refused x)
      go (rest_not d y) = record {
        reads = reads_refused x (retain_refused k.grouped k.terms (table_names file names k.names) fs d);
        past = past_names refs rows recs lists (table_past y);
      }
