-- `prune::list_groups` meets its contract.
use native.Mathlib.Omega.{arith}
use mathlib.Core.Path.{◌∙◌}
use Rattle.prune.proofs.Writing.{lists_length}
use Rattle.prune.proofs.Stamps.{linked_apart}
use Rattle.prune.proofs.Groups.{records_apart, defs_fit, defs_apart, funs_fit, groups_listed}
use Rattle.prune.proofs.list_groups.Goals as goal

pub list_group-defs-requires : goal.list_group-defs-requires
list_group-defs-requires c =
    let fits = defs_fit c.args.tables.now.names.now c.args.tables.now.recs.now c.args.stamps c.args.run.now
    c.args.m c.requires.0 c.requires.2 c.requires.5 c.requires.6 in
    (c.requires.0, c.requires.1, c.requires.2, c.requires.3, c.requires.4, c.requires.5, fits)

pub list_group-requires : goal.list_group-requires
list_group-requires c =
    let apart = defs_apart c.args.tables.now.names.now c.args.tables.now.recs.now c.args.stamps c.args.run.now
    c.args.m c.requires.0 c.requires.2 c.requires.5 c.requires.6
    c.list_group-defs.ensures in (
      c.requires.0,
      c.requires.1,
      omega (arith, c.requires.2, apart.size),
      linked_apart c.requires.0 apart c.requires.3,
      c.requires.4,
      records_apart apart c.requires.2 c.requires.5,
      funs_fit c.args.tables.now.names.now c.args.tables.now.recs.now c.args.stamps c.args.run.now
          c.args.m c.requires.0 c.requires.2 c.requires.5 c.requires.6 c.list_group-defs.ensures,
    )

pub shape_of-run : goal.shape_of-run
shape_of-run c =
    lists_length c.list_group.ensures ∙ lists_length c.list_group-defs.ensures

pub returns : goal.returns
returns c =
    groups_listed c.args.tables.now.names.now c.args.tables.now.recs.now c.args.stamps c.args.run.now
    c.args.m c.requires.0 c.requires.2 c.requires.5 c.requires.6
    c.list_group-defs.ensures c.list_group.ensures
