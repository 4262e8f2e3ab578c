-- `reader::read_file` meets its contract: by the loop over lines, then the macro column.
use native.Mathlib.Omega.{arith}
use Rattle.text.proofs.Laws.{mark_from, mark_to}
use Rattle.macros.proofs.Filling.{standing_opens}
use Rattle.filing.proofs.Naming.{past_none}
use Rattle.model.specs.declared.Refusal.TheVariants as refusal
use Rattle.reader.specs.Lines.{at_line, read_stops}
use Rattle.reader.proofs.Lines.{past_more, no_lines, on_first, cleared_standing, on_open, on_next, on_refused, no_terms, opened_read, lower}
use Rattle.reader.proofs.read_file.Goals as goal

pub returns-then-file-eq0 : goal.returns-then-file-eq0
returns-then-file-eq0 c = record { reads = read_stops {x = at_line refusal.Form 1} (no_lines _ c.if-file-eq0.true); past = past_none _ _ _ _ _; terms = no_terms }

pub loop-from-init : goal.loop-from-init
loop-from-init c =
    (on_first c.requires (cleared_standing c.requires) c.if-file-eq0.false, past_none _ _ _ _ _)

pub find-end-requires : goal.find-end-requires
find-end-requires c = (c.loop-from.invariant.0.inside, omega arith)

pub shape_of-names-then-end-file : goal.shape_of-names-then-end-file
shape_of-names-then-end-file c =
    c.loop-from.invariant.1.name_words.same_length

pub shape_of-refs-then-end-file : goal.shape_of-refs-then-end-file
shape_of-refs-then-end-file c =
    c.loop-from.invariant.1.reference_words.same_length

pub shape_of-rows-then-end-file : goal.shape_of-rows-then-end-file
shape_of-rows-then-end-file c =
    c.loop-from.invariant.1.row_words.same_length

pub shape_of-recs-then-end-file : goal.shape_of-recs-then-end-file
shape_of-recs-then-end-file c =
    c.loop-from.invariant.1.record_words.same_length

pub shape_of-lists-then-end-file : goal.shape_of-lists-then-end-file
shape_of-lists-then-end-file c =
    c.loop-from.invariant.1.list_words.same_length

pub returns-then-end-file : goal.returns-then-end-file
returns-then-end-file c =
    record {
      reads = on_open c.loop-from.invariant.0 c.loop-from-test.true c.find-end.ensures c.if-end-file.true;
      past = c.loop-from.invariant.1;
      terms = no_terms;
    }

pub read_line-requires : goal.read_line-requires
read_line-requires c = (
  c.loop-from.invariant.0.standing,
  mark_from _ _ _ _ _ c.find-end.ensures,
  mark_to _ _ _ _ _ c.find-end.ensures c.loop-from.invariant.0.inside (omega arith),
  omega (arith, c.loop-from.invariant.0.counts, c.loop-from.invariant.0.inside, c.loop-from.invariant.0.short),
)

pub shape_of-names-in-Err : goal.shape_of-names-in-Err
shape_of-names-in-Err c =
    (past_more c.loop-from.invariant.1 c.read_line.ensures.past).name_words.same_length

pub shape_of-refs-in-Err : goal.shape_of-refs-in-Err
shape_of-refs-in-Err c =
    (past_more c.loop-from.invariant.1 c.read_line.ensures.past).reference_words.same_length

pub shape_of-rows-in-Err : goal.shape_of-rows-in-Err
shape_of-rows-in-Err c =
    (past_more c.loop-from.invariant.1 c.read_line.ensures.past).row_words.same_length

pub shape_of-recs-in-Err : goal.shape_of-recs-in-Err
shape_of-recs-in-Err c =
    (past_more c.loop-from.invariant.1 c.read_line.ensures.past).record_words.same_length

pub shape_of-lists-in-Err : goal.shape_of-lists-in-Err
shape_of-lists-in-Err c =
    (past_more c.loop-from.invariant.1 c.read_line.ensures.past).list_words.same_length

pub returns-in-Err : goal.returns-in-Err
returns-in-Err c =
    record {
      reads = on_refused c.loop-from.invariant.0 c.loop-from-test.true c.find-end.ensures
          (lower _ _ (mark_to _ _ _ _ _ c.find-end.ensures c.loop-from.invariant.0.inside (omega arith)) c.if-end-file.false)
          c.read_line.ensures.reads c.in-Err.is;
      past = past_more c.loop-from.invariant.1 c.read_line.ensures.past;
      terms = no_terms;
    }

pub overflow_cast-result : goal.overflow_cast-result
overflow_cast-result c =
    omega (arith, c.loop-from.invariant.0.counts, c.loop-from.invariant.0.inside, c.loop-from.invariant.0.short)

pub overflow_cast-result-in-Err : goal.overflow_cast-result-in-Err
overflow_cast-result-in-Err c =
    omega (arith, c.loop-from.invariant.0.counts, c.loop-from.invariant.0.inside, c.loop-from.invariant.0.short)

pub overflow_add-n : goal.overflow_add-n
overflow_add-n c =
    omega (arith, c.loop-from.invariant.0.counts, c.loop-from.invariant.0.inside, c.loop-from.invariant.0.short)

pub overflow_add-from : goal.overflow_add-from
overflow_add-from c =
    omega (arith, mark_to _ _ _ _ _ c.find-end.ensures c.loop-from.invariant.0.inside (omega arith), c.loop-from.invariant.0.short)

pub loop-from-smaller : goal.loop-from-smaller
loop-from-smaller c =
    omega (arith, mark_from _ _ _ _ _ c.find-end.ensures, c.loop-from-test.true)

pub loop-from-preserved : goal.loop-from-preserved
loop-from-preserved c = (
  on_next c.loop-from.invariant.0 c.loop-from-test.true c.find-end.ensures
      (lower _ _ (mark_to _ _ _ _ _ c.find-end.ensures c.loop-from.invariant.0.inside (omega arith)) c.if-end-file.false)
      c.read_line.ensures.reads c.in-Ok.is,
  past_more c.loop-from.invariant.1 c.read_line.ensures.past,
)

pub open_macros-requires : goal.open_macros-requires
open_macros-requires c =
    standing_opens c.loop-from.invariant.0.standing

pub shape_of-names : goal.shape_of-names
shape_of-names c =
    (opened_read c.loop-from.invariant.0 c.loop-from-test.false c.loop-from.invariant.1
    c.open_macros.ensures).past.name_words.same_length

pub shape_of-refs : goal.shape_of-refs
shape_of-refs c =
    c.loop-from.invariant.1.reference_words.same_length

pub shape_of-rows : goal.shape_of-rows
shape_of-rows c =
    c.loop-from.invariant.1.row_words.same_length

pub shape_of-recs : goal.shape_of-recs
shape_of-recs c =
    c.loop-from.invariant.1.record_words.same_length

pub shape_of-lists : goal.shape_of-lists
shape_of-lists c =
    c.loop-from.invariant.1.list_words.same_length

pub returns : goal.returns
returns c =
    opened_read c.loop-from.invariant.0 c.loop-from-test.false c.loop-from.invariant.1 c.open_macros.ensures
