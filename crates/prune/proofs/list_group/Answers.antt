-- `prune::list_group` meets its contract.
use native.Mathlib.Omega.{arith}
use mathlib.Core.Path.{◌∙◌}
use Rattle.prune.proofs.Writing.{lists_length}
use Rattle.prune.proofs.Groups.{noted_fit, noted_apart, records_apart, added_fit, group_listed}
use Rattle.prune.proofs.list_group.Goals as goal

pub list_kind-noted-requires : goal.list_kind-noted-requires
list_kind-noted-requires c =
    let fits = noted_fit c.args.tables.now.names.now c.args.tables.now.recs.now c.args.tables.now.k.names c.args.kind
    c.args.stamps c.args.run.now c.args.m c.requires.2 c.requires.5 c.requires.6 in
    (c.requires.0, c.requires.1, c.requires.2, c.requires.3, c.requires.4, fits)

pub list_added-requires : goal.list_added-requires
list_added-requires c =
    let apart = noted_apart c.args.tables.now.names.now c.args.tables.now.recs.now c.args.tables.now.k.names c.args.kind
    c.args.stamps c.args.run.now c.args.m c.requires.2 c.requires.5 c.requires.6
    c.list_kind-noted.ensures in
    let fits = added_fit c.args.tables.now.names.now c.args.tables.now.recs.now c.args.tables.now.k.names c.args.kind
    c.args.stamps c.args.run.now c.args.m c.requires.2 c.requires.5 c.requires.6
    c.list_kind-noted.ensures in
    (c.requires.1, omega (arith, c.requires.2, apart.size), records_apart apart c.requires.2 c.requires.5, fits)

pub shape_of-run : goal.shape_of-run
shape_of-run c =
    lists_length c.list_added.ensures ∙ lists_length c.list_kind-noted.ensures

pub returns : goal.returns
returns c =
    group_listed c.args.tables.now.names.now c.args.tables.now.recs.now c.args.tables.now.k.names c.args.kind
    c.args.stamps c.args.run.now c.args.m c.requires.2 c.requires.5 c.requires.6
    c.list_kind-noted.ensures c.list_added.ensures
