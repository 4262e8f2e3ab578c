-- `names::look_up` meets its contract. The loop's invariant: the search stands at `low` and `high`, with the bytes that are shared
-- there.
use Prim.Native.Nat.{◌+◌, ◌-◌, ◌/◌, ◌<◌}
use mathlib.Core.Path.{sym, ap, ◌∙◌}
use Rattle.model.proofs.SetLaws.{order_same}
use Rattle.std.specs.Prelude.{Ok}
use Rattle.names.proofs.Laws.{met_order, met_shared, search_start, search_shares, search_above, search_below, look_up_at, look_up_missing}
use native.Mathlib.Omega.{arith}
use Rattle.names.proofs.look_up.Goals as goal

pub loop-low-init : goal.loop-low-init
loop-low-init c = search_start _ _ _ _

pub at-n-requires : goal.at-n-requires
at-n-requires c = omega (arith, c.requires.0.room)

pub compare-met-requires : goal.compare-met-requires
compare-met-requires c =
    let table = c.requires.0 in
    let now = c.loop-low in
    let middle = now.low + (now.high - now.low) / 2 in
    let at = c.at-n in
    let known : at.result < c.args.named = rw at.ensures (table.numbers middle (omega arith)) in (
      omega (arith, table.room, table.few),
      table.inside at.result known,
      c.requires.1,
      c.requires.2,
      rw at.ensures (search_shares table now.invariant middle (omega arith) (omega arith) _ (omega arith) (omega arith)),
    )

pub loop-low-preserved-in-Less : goal.loop-low-preserved-in-Less
loop-low-preserved-in-Less c =
    let table = c.requires.0 in
    let now = c.loop-low in
    let middle = now.low + (now.high - now.low) / 2 in
    let read = c.at-n.ensures in
    let said = c.compare-met.ensures in
    let order = met_order _ _ middle _ _ _ _ read said c.in-Less.is in
    search_above table now.invariant middle (omega arith) (omega arith) _ order (met_shared _ _ middle _ _ _ read said)

pub returns-in-Equal : goal.returns-in-Equal
returns-in-Equal c =
    let table = c.requires.0 in
    let now = c.loop-low in
    let middle = now.low + (now.high - now.low) / 2 in
    let read = c.at-n.ensures in
    let said = c.compare-met.ensures in
    let order = met_order _ _ middle _ _ _ _ read said c.in-Equal.is in
    ap Ok read ∙ sym (look_up_at table middle _ (omega arith) (order_same order))

pub loop-low-preserved : goal.loop-low-preserved
loop-low-preserved c =
    let table = c.requires.0 in
    let now = c.loop-low in
    let middle = now.low + (now.high - now.low) / 2 in
    let read = c.at-n.ensures in
    let said = c.compare-met.ensures in
    let order = met_order _ _ middle _ _ _ _ read said c.in-Greater.is in
    search_below table now.invariant middle (omega arith) (omega arith) _ order (met_shared _ _ middle _ _ _ read said)

pub returns : goal.returns
returns c =
    let now = c.loop-low in
    let table = c.requires.0 in
    let inv = now.invariant in
    sym (look_up_missing table now.low _ (omega arith) inv.before (λ q h l. inv.after q (omega arith) l))
