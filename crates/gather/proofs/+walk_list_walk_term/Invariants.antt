-- A term's measure is twice its number and one, a list's twice the greatest of its terms and one more. The loop's invariant: the names of
-- the terms up to `i` are added, and the slices are those of the walk up to there.
use Prim.Native.Nat.{◌+◌, ◌-◌, ◌*◌}
use Rattle.std.specs.Prelude.{Some as some}
use Rattle.gather.specs.Walks.{Among, Walks, list_part, Follows}
use Rattle.gather.proofs.Walking.{top}
use Rattle.gather.proofs.+walk_list_walk_term.Given as goal

abbrev pub decreases-walk_list : goal.decreases-walk_list
decreases-walk_list l = 2 * top l.refs.now l.a (l.e - l.a)

abbrev pub decreases-walk_term : goal.decreases-walk_term
decreases-walk_term l = 2 * l.t + 1

abbrev pub invariant-walk_list-loop-i : goal.invariant-walk_list-loop-i
invariant-walk_list-loop-i l =
    Walks (Among l.initial.names l.refs l.initial.rows l.used l.many l.a l.i) l.initial.names l.refs l.initial.rows l.initial.lists l.names l.rows l.lists l.used l.many l.mark l.count l.room (some l.n)
    × Follows (list_part l.refs l.used l.many l.a l.i) l.initial.names l.initial.rows l.initial.lists l.names l.rows l.lists l.mark l.count l.room (some l.n)
