-- `prune::list_decls` meets its contract.
use native.Mathlib.Omega.{arith}
use mathlib.Core.Path.{◌∙◌}
use Rattle.prune.proofs.Writing.{lists_length}
use Rattle.prune.proofs.Stamps.{linked_apart, defs_fit, defs_apart, funs_fit, decls_listed}
use Rattle.prune.proofs.list_decls.Goals as goal

pub list_kind-defs-requires : goal.list_kind-defs-requires
list_kind-defs-requires c =
    let fits = defs_fit c.args.tables.now.names.now c.args.tables.now.recs.now c.args.stamps c.args.run.now c.args.m c.requires.0
    c.requires.5 in
    (c.requires.0, c.requires.1, c.requires.2, c.requires.3, c.requires.4, fits)

pub list_kind-requires : goal.list_kind-requires
list_kind-requires c =
    let apart = defs_apart c.args.tables.now.names.now c.args.tables.now.recs.now c.args.stamps c.args.run.now c.args.m
    c.requires.0 c.requires.5 c.list_kind-defs.ensures in (
      c.requires.0,
      c.requires.1,
      omega (arith, c.requires.2, apart.size),
      linked_apart c.requires.0 apart c.requires.3,
      c.requires.4,
      funs_fit c.args.tables.now.names.now c.args.tables.now.recs.now c.args.stamps c.args.run.now c.args.m c.requires.0
          c.requires.5 c.list_kind-defs.ensures,
    )

pub shape_of-run : goal.shape_of-run
shape_of-run c =
    lists_length c.list_kind.ensures ∙ lists_length c.list_kind-defs.ensures

pub returns : goal.returns
returns c =
    decls_listed c.args.tables.now.names.now c.args.tables.now.recs.now c.args.stamps c.args.run.now c.args.m c.requires.0
    c.requires.5 c.list_kind-defs.ensures c.list_kind.ensures
