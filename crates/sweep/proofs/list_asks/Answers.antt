-- `sweep::list_asks` meets its contract. The loop's invariant: the answer and the lists are those of the positions passed.
use Prim.Native.Nat.{◌+◌, ◌≤◌, ◌<◌}
use native.Mathlib.Omega.{arith}
use mathlib.Core.Path.{◌≡◌}
use Rattle.model.specs.Reading.{most_records, most_asks}
use Rattle.model.specs.Outcome.{working_words}
use Rattle.words.proofs.Slices.{same_self, same_then}
use Rattle.sweep.proofs.Laws.{lists_first, lists_next, lists_on, lists_last}
use Rattle.sweep.proofs.Answers.{sweeps_on, positions_none, positions_next}
use Rattle.sweep.proofs.list_asks.Goals as goal

pub loop-i-init : goal.loop-i-init
loop-i-init c = record {
  on = positions_none _ _ _ _ _ (lists_first _);
  refs = same_self _ _ _;
  run = same_self _ _ _;
}

pub list_ask-one-requires : goal.list_ask-one-requires
list_ask-one-requires c =
    let inv = c.loop-i.invariant in
    let test = c.loop-i-test.true in (
      sweeps_on c.requires inv.refs inv.run,
      test,
      omega (arith, inv.on.listed.few, test, c.requires.few_asks),
    )

pub loop-i-preserved : goal.loop-i-preserved
loop-i-preserved c =
    let inv = c.loop-i.invariant in
    let test = c.loop-i-test.true in
    let one = c.list_ask-one.ensures.listed in
    let low : c.loop-i.i < most_asks = omega (arith, test, c.requires.few_asks) in
    let fits : c.loop-i.total + most_records ≤ working_words = omega (arith, inv.on.listed.few, test, c.requires.few_asks) in record {
      on = positions_next _ _ _ _ _ _ (lists_next inv.on low (omega (arith, fits, inv.refs.same_length, c.requires.list_room)) one);
      refs = lists_on inv.refs fits one;
      run = same_then inv.run c.list_ask-one.ensures.rest;
    }

pub returns : goal.returns
returns c =
    let inv = c.loop-i.invariant in
    let all : c.loop-i.i ≡ c.args.tables.now.k.asks = omega (arith, c.loop-i.auto.i-end, c.loop-i-test.false) in
    record { replied = lists_last (rw all at inv.on) c.requires.few_asks; rest = (inv.refs, inv.run) }
