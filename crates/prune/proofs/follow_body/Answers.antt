-- `prune::follow_body` meets its contract. The loop's invariant: what is left to follow.
use Prim.Native.Nat.{◌<◌, ◌≤◌}
use native.Mathlib.Omega.{arith}
use Rattle.prune.proofs.Bodies.{names_fit, body_start, body_name, body_next, body_end}
use Rattle.prune.proofs.follow_body.Goals as goal

pub loop-j-init : goal.loop-j-init
loop-j-init c =
    body_start c.requires.0 c.requires.1 c.at-a.ensures c.at-e.ensures c.requires.2

pub at-requires : goal.at-requires
at-requires c =
    let inside : c.loop-j.j < c.at-e.result = omega arith in
    let fits = names_fit c.requires.0 c.requires.1 c.at-a.ensures c.at-e.ensures c.requires.2 in
    omega (arith, fits, inside)

pub follow_name-to-requires : goal.follow_name-to-requires
follow_name-to-requires c =
    let inside : c.loop-j.j < c.at-e.result = omega arith in
    let name = body_name c.requires.0 c.requires.1 c.at-a.ensures c.at-e.ensures c.requires.2
    inside c.at.ensures in
    (name, c.loop-j.invariant.room)

pub loop-j-preserved : goal.loop-j-preserved
loop-j-preserved c =
    let inside : c.loop-j.j < c.at-e.result = omega arith in
    body_next c.requires.0 c.requires.1 c.at-a.ensures c.at-e.ensures c.requires.2 c.loop-j.invariant
    inside c.at.ensures c.follow_name-to.ensures

pub shape_of-run : goal.shape_of-run
shape_of-run c =
    c.loop-j.invariant.same_length

pub returns : goal.returns
returns c =
    let over : c.at-e.result ≤ c.loop-j.j = omega arith in
    body_end c.requires.0 c.requires.1 c.at-a.ensures c.at-e.ensures c.requires.2 c.loop-j.invariant
    over
