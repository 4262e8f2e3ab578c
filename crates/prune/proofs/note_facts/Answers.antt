-- `prune::note_facts` meets its contract. The loop's invariant: what is left to note.
use Prim.Native.Nat.{◌<◌, ◌≤◌}
use native.Mathlib.Omega.{arith}
use Rattle.prune.proofs.Noting.{notes_then, facts_start, fact_there, facts_next, facts_end}
use Rattle.prune.proofs.note_facts.Goals as goal

pub loop-j-init : goal.loop-j-init
loop-j-init c = facts_start _ _ _ _

pub note_record-requires : goal.note_record-requires
note_record-requires c =
    let inside : c.loop-j.j < c.args.count = omega arith in
    let small = c.requires.2 _ inside in
    let there = fact_there c.requires.0 c.requires.1 c.loop-j.invariant c.at-i.ensures in
    (notes_then c.requires.0 c.loop-j.invariant.same_length, omega (arith, small, there), omega (arith, c.requires.1, inside))

pub loop-j-preserved : goal.loop-j-preserved
loop-j-preserved c =
    let inside : c.loop-j.j < c.args.count = omega arith in
    let small = c.requires.2 _ inside in
    let there = fact_there c.requires.0 c.requires.1 c.loop-j.invariant c.at-i.ensures in
    facts_next c.requires.0 c.requires.1 c.loop-j.invariant inside c.at-i.ensures (omega (arith, small, there))
    c.note_record.ensures

pub shape_of-run : goal.shape_of-run
shape_of-run c =
    c.loop-j.invariant.same_length

pub returns : goal.returns
returns c =
    let over : c.args.count ≤ c.loop-j.j = omega arith in
    facts_end c.requires.0 c.requires.1 c.loop-j.invariant over
