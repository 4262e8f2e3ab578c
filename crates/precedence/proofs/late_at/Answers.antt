-- `precedence::late_at` meets its contract.
use Rattle.precedence.proofs.Sorts.{late_not, late_sort}
use Rattle.precedence.proofs.late_at.Goals as goal

pub returns-then-at-i : goal.returns-then-at-i
returns-then-at-i c =
    late_not _ _ c.args.refs.now _ c.args.n _ c.at.ensures c.if-at-i.true

pub returns : goal.returns
returns c =
    late_sort _ _ c.args.refs.now _ c.args.n _ c.at.ensures c.if-at-i.false c.sort_at.ensures
