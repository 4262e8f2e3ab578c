-- `reasons::lists_name` meets its contract. The loop's invariant: the entries that are left have the answer.
use Prim.Native.Nat.{◌<◌, ◌≤◌}
use native.Mathlib.Omega.{arith}
use mathlib.Core.Path.{sym, ◌∙◌}
use Rattle.reasons.proofs.Listed.{listed_start, listed_here, listed_next, listed_end}
use Rattle.reasons.proofs.lists_name.Goals as goal

pub loop-j-init : goal.loop-j-init
loop-j-init c = listed_start c.args.tables.now.recs.now c.args.tables.now.lists.now c.args.i c.args.n c.at-a.ensures c.at-e.ensures

pub returns-then-x-n : goal.returns-then-x-n
returns-then-x-n c =
    let inside : c.loop-j.j < c.at-e.result = omega arith in
    let room = c.requires.list_room in
    let high = c.requires.high in
    sym (c.loop-j.invariant ∙ listed_here _ _ _ _ _ inside (omega arith) c.at-x.ensures c.if-x-n.true)

pub loop-j-preserved : goal.loop-j-preserved
loop-j-preserved c =
    let inside : c.loop-j.j < c.at-e.result = omega arith in
    let room = c.requires.list_room in
    let high = c.requires.high in
    c.loop-j.invariant ∙ listed_next _ _ _ _ _ inside (omega arith) c.at-x.ensures c.if-x-n.false

pub returns : goal.returns
returns c =
    let over : c.at-e.result ≤ c.loop-j.j = omega arith in
    sym (c.loop-j.invariant ∙ listed_end _ _ _ _ over)
