-- `summary::finish` meets its contract: the free names that were gathered.
use native.Mathlib.Omega.{arith}
use mathlib.Core.Path.{sym, ap}
use Rattle.gather.proofs.Room.{room_some, room_none, err_is}
use Rattle.summary.specs.Steps.{finished}
use Rattle.summary.proofs.finish.Goals as goal

pub overflow_cast-mark : goal.overflow_cast-mark
overflow_cast-mark c =
    omega (arith, c.requires.4)

pub gather_term-requires : goal.gather_term-requires
gather_term-requires c =
    (c.requires.0, c.requires.1, c.requires.2, c.requires.3, omega (arith, c.requires.6), omega (arith, c.requires.7))

pub overflow_sub-result : goal.overflow_sub-result
overflow_sub-result c =
    omega (arith, c.requires.5)

pub overflow_add-result : goal.overflow_add-result
overflow_add-result c =
    omega (arith, c.requires.4)

pub returns-in_err-n : goal.returns-in_err-n
returns-in_err-n c =
    let (none, uses) = room_none _ _ c.ok_or.ensures.value c.in_err-n.was in
    rw (err_is c.from_residual.ensures.1, uses) (record {
      walked = c.gather_term.result;
      answer = ap (finished c.args.kind c.args.end c.args.total c.args.mark) (sym none);
      free_names = c.gather_term.ensures.set;
      slices = c.gather_term.ensures.slices;
      words_as = c.gather_term.ensures.walk;
    })

pub shape_of-names-in_err-n : goal.shape_of-names-in_err-n
shape_of-names-in_err-n c = (returns-in_err-n c).slices.names_same.same_length

pub shape_of-rows-in_err-n : goal.shape_of-rows-in_err-n
shape_of-rows-in_err-n c = (returns-in_err-n c).slices.rows_same.same_length

pub shape_of-lists-in_err-n : goal.shape_of-lists-in_err-n
shape_of-lists-in_err-n c = (returns-in_err-n c).slices.lists_same.same_length

pub returns : goal.returns
returns c =
    record {
      walked = c.gather_term.result;
      answer = ap (finished c.args.kind c.args.end c.args.total c.args.mark) (sym (room_some _ _ c.ok_or.ensures.value c.in_ok-n.was));
      free_names = c.gather_term.ensures.set;
      slices = c.gather_term.ensures.slices;
      words_as = c.gather_term.ensures.walk;
    }

pub shape_of-names : goal.shape_of-names
shape_of-names c = (returns c).slices.names_same.same_length

pub shape_of-rows : goal.shape_of-rows
shape_of-rows c = (returns c).slices.rows_same.same_length

pub shape_of-lists : goal.shape_of-lists
shape_of-lists c = (returns c).slices.lists_same.same_length
