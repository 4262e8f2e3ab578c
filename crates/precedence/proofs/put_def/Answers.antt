-- `precedence::put_def` meets its contract.
use native.Mathlib.Omega.{arith}
use mathlib.Core.Path.{ap}
use lib.ListN.{length}
use Rattle.prune.proofs.Writing.{lists_length}
use Rattle.precedence.proofs.Stamps.{body_stamped, body_stamps, def_none, none_stamped}
use Rattle.prune.proofs.Rows.{rows_nothing}
use Rattle.precedence.proofs.Putting.{body_put}
use Rattle.precedence.proofs.put_def.Goals as goal

pub returns-then-at-ne-DEF : goal.returns-then-at-ne-DEF
returns-then-at-ne-DEF c =
    record { listed = rows_nothing _ _ (def_none _ _ _ _ _ c.at.ensures c.if-at-ne-DEF.true); stamped = none_stamped _ _ c.requires.4 }

pub stamp_body-requires : goal.stamp_body-requires
stamp_body-requires c =
    (c.requires.0.recorded, c.requires.0.index.few, c.requires.1, c.requires.3)

pub put_body-requires : goal.put_body-requires
put_body-requires c =
    let same = body_stamped c.args.tables.now.recs.now c.args.tables.now.lists.now c.args.refs.now c.requires.0.index c.requires.4 c.requires.1 c.stamp_body.ensures c.at.ensures c.if-at-ne-DEF.false in
    let stamped = body_stamps c.args.tables.now.recs.now c.args.tables.now.lists.now c.args.refs.now c.requires.0.index c.requires.4 c.requires.1 c.stamp_body.ensures c.requires.0.recorded c.requires.3 in (
      c.requires.0.index,
      c.requires.0.recorded.room,
      omega (arith, c.requires.1, stamped.same.same_length),
      c.requires.2,
      omega (arith, c.requires.3, c.requires.0.recorded.few),
      omega (arith, c.requires.5, ap length same),
    )

pub shape_of-refs : goal.shape_of-refs
shape_of-refs c =
    (body_stamps c.args.tables.now.recs.now c.args.tables.now.lists.now c.args.refs.now c.requires.0.index c.requires.4 c.requires.1 c.stamp_body.ensures c.requires.0.recorded c.requires.3).same.same_length

pub shape_of-run : goal.shape_of-run
shape_of-run c = lists_length c.put_body.ensures

pub returns : goal.returns
returns c =
    let same = body_stamped c.args.tables.now.recs.now c.args.tables.now.lists.now c.args.refs.now c.requires.0.index c.requires.4 c.requires.1 c.stamp_body.ensures c.at.ensures c.if-at-ne-DEF.false in
    record { listed = body_put same c.put_body.ensures; stamped = body_stamps c.args.tables.now.recs.now c.args.tables.now.lists.now c.args.refs.now c.requires.0.index c.requires.4 c.requires.1 c.stamp_body.ensures c.requires.0.recorded c.requires.3 }
