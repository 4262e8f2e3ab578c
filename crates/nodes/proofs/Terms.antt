-- Laws of term lines: from the fields that were read to the tables with the line's term, for every kind of line.
use Prim.Native.Nat.{ℕ, zero, suc, ◌+◌, ◌-◌, ◌*◌, ◌/◌, ◌%◌, ◌≤◌, ◌<◌}
use native.Mathlib.Omega.{arith}
use Rattle.std.specs.Prelude.{⊤}
use mathlib.Core.Path.{◌≡◌, refl, ap, ap₂, ◌∙◌}
use mathlib.Core.Logic.{⊎_elim}
use mathlib.Core.List.{List, [], ◌∷◌, ◌++◌, Memᴰ}
use lib.ListN.{length, get_or}
use Rattle.model.specs.Lists.{fold_left, part}
use Rattle.model.specs.Names.{Name}
use Rattle.model.specs.Terms.{Node, add_term, references}
use Rattle.model.specs.Reading.{Result, ok, refused, term, content, spell, spelled_by, most_names, most_terms, most_references}
use Rattle.model.specs.declared.Counts.{Counts}
use Rattle.model.specs.declared.LineKind.{LineKind}
use Rattle.model.specs.declared.Refusal.{Refusal}
use Rattle.model.proofs.PartLaws.{part_same}
use Rattle.text.specs.declared.Cursor.{Cursor}
use Rattle.text.specs.Parts.{Placed, fields_left}
use Rattle.names.specs.Table.{name_of, table_names}
use Rattle.terms.specs.Rows.{row_start, row_end, row_kind, row_op, row_head, row_extra, op_of_code, make_node, node_of, nodes_below, terms_of, Rows}
use Rattle.terms.proofs.Laws.{below}
use Rattle.terms.proofs.Table.{rows_named, terms_named}
use Rattle.additions.specs.Additions.{Addition, with_row, rows_after, references_pushed, Pushed, AddsTerm}
use Rattle.additions.proofs.Laws.{added_in, added_full}
use Rattle.additions.proofs.Lines.{pushed_none, pushed_one}
use Rattle.words.specs.Slices.{SameBut}
use Rattle.words.proofs.Slices.{same_self, same_then, same_set}
use Rattle.rules.specs.Views.{Tables, terms_in}
use Rattle.fields.specs.declared.TermKind.{TermKind}
use Rattle.model.specs.Steps.{Step}
use Rattle.model.specs.Steps as step
use Rattle.fields.specs.Wording.{term_kind}
use Rattle.fields.specs.Pushing.{push_all, Pushable}
use Rattle.fields.specs.Spelling.{name_columns, Naming, Longer}
use Rattle.nodes.specs.Growing.{WithinLimits, by_names, by_references, by_none, grown_to, Stands, rows_marks_start, Kept, Passes, names_passed, terms_passed, references_passed, grown, over, not_read, ReadsTerm}
use Rattle.fields.proofs.Spelling.{naming_table, naming_past, naming_few}
use Rattle.fields.proofs.Runs.{Ran, ran_kept, ran_agrees, ran_words}

-- ---- tables

-- the terms of a table stay where its references do
terms_agree : {refs rows : List ℕ} {used many named : ℕ} (refs' : List ℕ) (name : ℕ → Name) → Rows refs rows used many named
    → length refs' ≡ length refs
    → ((i : ℕ) → i < used → get_or refs' i 0 ≡ get_or refs i 0) → terms_of name refs' rows used many ≡ terms_of name refs rows used many
unfolding terms_of nodes_below node_of
terms_agree {refs} {rows} {used} {many} refs' name r size agrees = ap (fold_left add_term []) (go many (omega arith))
  where
    go : (n : ℕ) → n ≤ many → nodes_below name refs' rows used many n ≡ nodes_below name refs rows used many n
    go zero l = refl
    go (suc n) l =
        let in_use = r.in_use n (omega arith) in
        let room = r.ref_room in
        let few = r.few_references in
        let s = row_start rows n in
        let e = row_end rows used many n in
        ap₂ (λ ns ws. ns ++ (make_node (row_kind rows n) (op_of_code (row_op rows n)) (name (row_head rows n)) ws (row_extra rows n) ∷ []))
        (go n (omega arith))
        (part_same refs refs' (e - s) s e refl (omega arith) (omega arith) (λ i h. agrees i (omega arith)))

-- words behind the table
pushed_words : {refs rows : List ℕ} {start used many named : ℕ} (ws : List ℕ) → Pushed refs rows start used many named
    → ((w : ℕ) → Memᴰ w ws → w % 4096 < many) → used + length ws ≤ most_references
    → Pushed (push_all refs used ws) rows start (used + length ws) many named
unfolding push_all
pushed_words {used = used} [] p s h = let e : used + 0 ≡ used = omega arith in rw e p
pushed_words {refs} {rows} {start} {used} {many} {named} (w ∷ ws) p s h =
    let e : used + suc (length ws) ≡ used + 1 + length ws = omega arith in
    let d : w % 4096 + 4096 * (w / 4096) ≡ w = omega arith in
    let one : Pushed (references_pushed refs used w) rows start (used + 1) many named =
    rw d at (pushed_one (w % 4096) (w / 4096) p (s w (Memᴰ.head refl)) (omega arith)) in
    rw e (pushed_words {refs = references_pushed refs used w} ws one (λ u m. s u (Memᴰ.tail m)) (omega arith))

-- a row is written into the columns of the rows
row_kept : (rows : List ℕ) (many word start extra : ℕ) → SameBut 0 rows_marks_start rows (rows_after rows many word start extra)
unfolding with_row
row_kept rows many word start extra = ⊎_elim
    (λ (l : many < most_terms). rw (added_in rows many word start extra l).1
    (same_then (same_then
    (same_set 0 rows_marks_start rows many word (omega arith) (omega arith))
    (same_set 0 rows_marks_start _ (4096 + many) start (omega arith) (omega arith)))
    (same_set 0 rows_marks_start _ (8192 + many) extra (omega arith) (omega arith))))
    (λ (l : most_terms ≤ many). rw (added_full rows many word start extra l).1 (same_self 0 rows_marks_start rows))
    (below many most_terms)

-- ---- limits

-- none is passed
under_both : {named used : ℕ} {r : Result ⊤} → WithinLimits named used r → r ≡ ok tt
    → (named ≤ most_names) × (used ≤ most_references)
under_both {named} {used} d e = go (rw e at d)
  where
    go : WithinLimits named used (ok tt) → (named ≤ most_names) × (used ≤ most_references)
    go (by_none a b) = (a, b)

-- nor is where the tables are right
pub under_start : {file names refs rows : List ℕ} {named used many : ℕ} → Tables file names refs rows named used many
    → WithinLimits named used (ok tt)
under_start t = by_none t.name_table.few t.term_table.few_references

-- ---- a line that was read

-- references may be pushed behind the tables
pub pushable_start : {file names refs rows : List ℕ} {named used many : ℕ} {c : Cursor} → Tables file names refs rows named used many
    → Placed file c → Pushable file refs used many c
pushable_start t p = record {
  room = t.term_table.ref_room;
  few = t.term_table.few_rows;
  bounded = omega (arith, t.term_table.few_references);
  placed = p;
}

-- the fields of a term line, read: they say a node, its names are spelled, the words of its references pushed
pub record LineRead (file names refs names' refs' : List ℕ) (k : Counts) (kind : LineKind) (c : Cursor) (named' end : ℕ) (node : Node) (words : List ℕ)
    : Type 0 where
  pub says : content kind k.grouped k.terms (fields_left file c) ≡ ok (term node)
  pub naming : Naming file names' named' (fold_left spell (table_names file names k.names) (spelled_by node))
  pub longer : Longer file names names' k.names named'
  pub ran : Ran k.terms refs refs' k.references end words
  pub count : length words ≡ length (references node)

module _ {file names refs rows names' refs' : List ℕ} {k : Counts} {kind : LineKind} {c : Cursor} where
  -- a field that is refused
  pub line_not : {x : Refusal} → content kind k.grouped k.terms (fields_left file c) ≡ refused x → SameBut 0 name_columns names names'
      → SameBut 0 most_references refs refs'
      → ReadsTerm file names refs rows names' refs' rows k kind c (step.Refused x)
  line_not {x} e a b = record { grows = not_read {x = x} e; kept = record { names_kept = a; refs_kept = b; rows_kept = same_self 0 rows_marks_start rows } }

  module _ {named' end : ℕ} {node : Node} {words : List ℕ} (t : Stands file names refs rows k)
      (b : LineRead file names refs names' refs' k kind c named' end node words)
      {r : Result ⊤} (d : WithinLimits named' end r) where
    -- the slices but the rows
    line_kept : {rows' : List ℕ} → SameBut 0 rows_marks_start rows rows' → Kept names refs rows names' refs' rows'
    line_kept r = record { names_kept = b.longer.kept; refs_kept = ran_kept b.ran; rows_kept = r }

    -- names or references past their limit
    pub line_over : {x : Refusal} → r ≡ refused x
        → ReadsTerm file names refs rows names' refs' rows k kind c (step.Refused x)
    line_over {x} e = record {
      grows = over {x = x} b.says (go (rw e at d));
      kept = line_kept (same_self 0 rows_marks_start rows);
    }
      where
        go : {x : Refusal} → WithinLimits named' end (refused x)
            → Passes file names refs rows names' refs' rows k node x
        go (by_names h) = names_passed (naming_past b.naming h)
        go (by_references h l) = references_passed (naming_few b.naming h) (omega (arith, b.ran.ends, b.count))

    module _ (e : r ≡ ok tt) where
      -- no limit is passed
      pub line_few : (named' ≤ most_names) × (end ≤ most_references)
      line_few = under_both d e

      -- the references are in the slice
      pub line_long : end ≤ length refs'
      line_long = omega (arith, line_few.1, (ran_kept b.ran).same_length, t.term_table.ref_room)

      -- the references stand behind the table
      pub line_pushed : Pushed refs' rows k.references end k.terms named'
      line_pushed =
          let table = rows_named b.longer.more line_few.0 t.term_table in
          rw (b.ran.is, b.ran.ends) (pushed_words words (pushed_none table) b.ran.small (omega (arith, b.ran.ends, line_few.1)))

      -- they are the words of the line
      pub line_words : part refs' k.references end ≡ words
      line_words = ran_words b.ran t.term_table.ref_room line_few.1

      -- the line's row is added
      pub line_added : {rows' : List ℕ} {a : Addition} {f : Step} {word extra : ℕ} {make : (ℕ → Name) → Node} → f ≡ grown_to a k named' end
          → AddsTerm refs' rows rows' k.references end k.terms named' word extra make a → make (name_of file names') ≡ node
          → ReadsTerm file names refs rows names' refs' rows' k kind c f
      unfolding grown_to terms_in
      line_added {word = word} {extra} g w is = record {
        grows = ⊎_elim
            (λ (q : k.terms < most_terms).
            let (table, spelt) = naming_table b.naming line_few.0 in
            rw (g, w.answer, (added_in rows k.terms word k.references extra q).0) (grown b.says (record {
              tables = record { name_table = table; term_table = w.table q };
              spelt = spelt;
              terms = w.terms q (name_of file names')
                  ∙ ap₂ add_term
                  (terms_agree refs' (name_of file names') t.term_table (ran_kept b.ran).same_length (ran_agrees b.ran)
                  ∙ terms_named (name_of file names') (name_of file names) b.longer.same t.term_table)
                  is;
              used = omega (arith, b.ran.ends, b.count);
              longer = b.longer;
            })))
            (λ (q : most_terms ≤ k.terms). rw (g, w.answer, (added_full rows k.terms word k.references extra q).0)
            (over b.says (terms_passed (naming_few b.naming line_few.0) q)))
            (below k.terms most_terms);
        kept = line_kept (rw w.row_words (row_kept rows k.terms word k.references extra));
      }

-- a kind said otherwise
pub reads_kind : {file names refs rows names' refs' rows' : List ℕ} {k : Counts} {c : Cursor} {f : Step} (kind kind' : TermKind) → kind ≡ kind'
    → ReadsTerm file names refs rows names' refs' rows' k (term_kind kind') c f → ReadsTerm file names refs rows names' refs' rows' k (term_kind kind) c f
reads_kind kind kind' e r = rw e r
