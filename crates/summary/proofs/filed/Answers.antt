-- `summary::filed` meets its contract: the disjuncts that were filed are a kind.
use mathlib.Core.Path.{sym, ap}
use Rattle.gather.proofs.Room.{room_some, room_none, err_is}
use Rattle.summary.specs.Steps.{sorted_of}
use Rattle.summary.proofs.filed.Goals as goal

pub returns-in_err-f : goal.returns-in_err-f
returns-in_err-f c =
    let (none, entries) = room_none _ _ c.ok_or.ensures.value c.in_err-f.was in
    rw (err_is c.from_residual.ensures.1, entries) (ap (sorted_of c.args.named) (sym none))

pub returns : goal.returns
returns c = ap (sorted_of c.args.named) (sym (room_some _ _ c.ok_or.ensures.value c.in_ok-f.was))
