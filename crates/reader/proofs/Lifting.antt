-- Term lines, ask lines and `also` as `read_line` has them.
use Prim.Native.Nat.{ℕ, ◌+◌}
use native.Mathlib.Omega.{arith}
use mathlib.Core.Path.{◌≡◌, refl, ap, ◌∙◌}
use mathlib.Core.Bool.{◌||◌, or-false}
use mathlib.Core.Logic.{inl, inr}
use mathlib.Core.List.{List, [], append-nil}
use lib.ListN.{length, length-append}
use Rattle.model.specs.Summaries.{exclude_names}
use Rattle.model.specs.Lists.{any, collect, fold_left, sum}
use Rattle.model.specs.Names.{Name}
use Rattle.model.specs.Terms.{Node, Term, add_term, references}
use Rattle.model.specs.Reading.{Result, refused, Content, Head, head, term, content, State, spell, spelled, spelled_by, trimmed, heads, is_grouped, nodes, summarize_decl, root_of, taken_by, add_line}
use Rattle.model.specs.Outcome.{working_words}
use Rattle.model.specs.declared.Counts.{Counts}
use Rattle.model.specs.declared.LineKind.{LineKind}
use Rattle.model.specs.declared.Refusal.{Refusal}
use Rattle.model.specs.Steps.{Step}
use Rattle.laws.proofs.ReadingLaws.{Lowest, past_names as many_names, past_terms}
use Rattle.text.specs.declared.Cursor.{Cursor}
use Rattle.text.specs.Parts.{fields_left}
use Rattle.rules.specs.Views.{terms_in}
use Rattle.nodes.specs.Growing.{with_term, Grown, Passes, names_passed, terms_passed, references_passed, Kept, Grows, grown, over, not_read, ReadsTerm}
use Rattle.words.proofs.Slices.{same_self, same_wider}
use Rattle.records.specs.States.{state_of}
use Rattle.records.specs.Adding.{Standing, judge}
use Rattle.records.proofs.Recording.{hidden_stay, decls_stay, roots_stay}
use Rattle.records.proofs.Judging.{judged_beyond, judged_within, repeats_none}
use Rattle.records.proofs.Appending.{terms_length, standing_within}
use Rattle.records.proofs.Asking.{head_standing, head_state, head_same}
use Rattle.records.specs.Writing.{with_ask}
use Rattle.filing.specs.Lines.{judged, Reads, goes_on, stops, LineRead}
use Rattle.filing.proofs.Naming.{same_records, standing_spelled, reads_refused, past_none, past_records}
use Rattle.reader.specs.Lines.{Asks, asks, not_asked}

-- ---- a term line

-- a term line takes no name
term_takes : (exclude : List Name) (ts : List Term) (n : ℕ) (node : Node) → collect taken_by (summarize_decl exclude ts n (term node)) ≡ []
unfolding collect summarize_decl
term_takes exclude ts n node = refl

-- the state with a term line
term_line : (n : ℕ) (s : State) (node : Node) → add_line exclude_names n s (term node) ≡ record {
  asks = s.asks;
  grouped = s.grouped;
  hidden = s.hidden;
  terms = add_term s.terms node;
  names = fold_left spell s.names (spelled_by node);
  decls = s.decls;
  roots = s.roots;
  references = s.references + length (references node);
  entries = s.entries;
  uses = s.uses;
}
unfolding add_line heads nodes spelled trimmed summarize_decl root_of fold_left collect sum any
term_line n s node =
    let a : s.entries + 0 ≡ s.entries = omega arith in
    let b : s.uses + (0 + 0) ≡ s.uses = omega arith in
    rw (
      append-nil s.asks,
      or-false s.grouped,
      append-nil s.hidden,
      append-nil (spelled_by node),
      append-nil s.decls,
      append-nil s.roots,
      append-nil (references node),
      a,
      b,
    )

-- one term more
one_more : (ts : List Term) (node : Node) → length (add_term ts node) ≡ length ts + 1
unfolding add_term
one_more ts node = simp length-append

module _ {file names refs rows recs lists names' refs' rows' : List ℕ} {k : Counts} (n : ℕ) (st : Standing file names refs rows recs lists k) where
  -- the state then
  grown_state : {node : Node} {named' used' : ℕ} → Grown file names refs rows names' refs' rows' k node named' used'
      → add_line exclude_names n (state_of file names refs rows recs lists k) (term node) ≡ state_of file names' refs' rows' recs lists (with_term k named' used')
  unfolding state_of with_term
  grown_state {node} g =
      term_line n (state_of file names refs rows recs lists k) node
      ∙ rw (
        g.terms,
        g.spelt,
        g.used,
        hidden_stay (same_records st g.longer) st.recorded k.records (omega arith),
        decls_stay (same_records st g.longer) st.recorded k.records (omega arith),
        roots_stay (same_records st g.longer) st.recorded k.records (omega arith),
      )

  -- the lowest limit that is passed
  line_beyond : {node : Node} {x : Refusal} → Passes file names refs rows names' refs' rows' k node x
      → Lowest (add_line exclude_names n (state_of file names refs rows recs lists k) (term node)) x
  unfolding state_of
  line_beyond {node} (names_passed h) = rw (term_line n (state_of file names refs rows recs lists k) node) (many_names h)
  line_beyond {node} (terms_passed l h) =
      let terms = terms_in file names refs rows k.references k.terms in
      rw (term_line n (state_of file names refs rows recs lists k) node) (past_terms (λ p. omega arith)
      (inl (omega (arith, one_more terms node, terms_length file names refs rows k.references k.terms))))
  line_beyond {node} (references_passed l h) =
      rw (term_line n (state_of file names refs rows recs lists k) node) (past_terms (λ p. omega arith) (inr h))

  -- the line is refused with it
  grown_beyond : {node : Node} {x : Refusal} → Passes file names refs rows names' refs' rows' k node x
      → judge n (state_of file names refs rows recs lists k) (term node) ≡ refused x
  grown_beyond {node} p = judged_beyond n (state_of file names refs rows recs lists k) (term node)
      (repeats_none n (state_of file names refs rows recs lists k) (term node) (term_takes _ _ n node))
      (line_beyond p)

  -- the tables stand
  grown_standing : {node : Node} {named' used' : ℕ} → Grown file names refs rows names' refs' rows' k node named' used'
      → Kept names refs rows names' refs' rows'
      → Standing file names' refs' rows' recs lists (with_term k named' used')
  unfolding with_term
  grown_standing g kept =
      let s = standing_spelled st g.longer g.tables.name_table in
      record {
        tables = g.tables;
        recorded = s.recorded;
        termed = λ i l q. omega (arith, s.termed i l q);
        fresh = record {
          row_marks = λ t l. rw (kept.rows_kept.same_words (12288 + t) (λ a b. omega arith)) (st.fresh.row_marks t l);
          name_marks = s.fresh.name_marks;
        };
        few_marks = s.few_marks;
        stocked = s.stocked;
        hiding = s.hiding;
      }

  -- what reading a term line comes to
  term_reads : {said : Result Content} {f : Step} → Kept names refs rows names' refs' rows' → Grows file names refs rows names' refs' rows' k said f
      → Reads file names' refs' rows' recs lists n (state_of file names refs rows recs lists k) said f
  unfolding judged
  term_reads kept (grown {node} {named'} {used'} e g) = goes_on {k' = with_term k named' used'}
      (rw e (judged_within n (state_of file names refs rows recs lists k) (term node)
      (repeats_none n (state_of file names refs rows recs lists k) (term node) (term_takes _ _ n node))
      (grown_state g) (standing_within (grown_standing g kept))))
      (grown_standing g kept)
  term_reads kept (over {node} {x} e p) = stops {x = x} (rw e (grown_beyond p))
  term_reads kept (not_read {x} e) = reads_refused x e

  pub term_read : {said : LineKind} {c : Cursor} {f : Step} → ReadsTerm file names refs rows names' refs' rows' k said c f
      → LineRead file names refs rows recs lists names' refs' rows' recs lists k n (content said k.grouped k.terms (fields_left file c)) f
  term_read r = record {
    reads = term_reads r.kept r.grows;
    past = record {
      name_words = same_wider 0 working_words (omega arith) (omega arith) r.kept.names_kept;
      reference_words = r.kept.refs_kept;
      row_words = same_wider 0 working_words (omega arith) (omega arith) r.kept.rows_kept;
      record_words = same_self 0 working_words recs;
      list_words = same_self 0 working_words lists;
    };
  }

-- ---- an ask line or an also line

-- a line of the head takes no name
head_takes : (exclude : List Name) (ts : List Term) (n : ℕ) (h : Head) → collect taken_by (summarize_decl exclude ts n (head h)) ≡ []
unfolding collect summarize_decl
head_takes exclude ts n h = refl

module _ {file names refs rows recs lists recs' : List ℕ} {k : Counts} (n : ℕ) (st : Standing file names refs rows recs lists k) where
  -- what reading it comes to
  pub ask_read : {said : Result Content} {f : Step} → Asks recs recs' k said f
      → LineRead file names refs rows recs lists names refs rows recs' lists k n said f
  unfolding judged
  ask_read (asks {h} e a) = record {
    reads = goes_on {k' = with_ask k (k.grouped || is_grouped h)}
        (ap (λ r. judged n (state_of file names refs rows recs lists k) r) e
        ∙ judged_within n (state_of file names refs rows recs lists k) (head h)
        (repeats_none n (state_of file names refs rows recs lists k) (head h) (head_takes _ _ n h))
        (head_state st recs' n h a) (standing_within (head_standing st recs' h a (k.grouped || is_grouped h))))
        (head_standing st recs' h a (k.grouped || is_grouped h));
    past = past_records names refs rows lists (same_wider 0 working_words (omega arith) (omega arith) (head_same recs recs' k h a));
  }
  ask_read (not_asked {x} e z) = rw z (record { reads = reads_refused x e; past = past_none names refs rows recs lists })
