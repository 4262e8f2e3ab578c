-- `prune::list_facts` meets its contract.
use native.Mathlib.Omega.{arith}
use Rattle.prune.proofs.Writing.{lists_length}
use mathlib.Core.Path.{◌∙◌}
use Rattle.prune.proofs.Facts.{reached_fit, ambients_after, facts_listed}
use Rattle.prune.proofs.list_facts.Goals as goal

pub list_reached-reached-requires : goal.list_reached-reached-requires
list_reached-reached-requires c = (
  c.requires.0,
  c.requires.2,
  reached_fit c.args.tables.now.names.now c.args.tables.now.recs.now c.args.run.now c.args.tables.now.k c.args.a c.requires.4,
)

pub list_ambients-requires : goal.list_ambients-requires
list_ambients-requires c =
    let fits = ambients_after c.args.tables.now.names.now c.args.tables.now.recs.now c.args.run.now c.args.tables.now.k c.args.a c.requires.4
    c.list_reached-reached.ensures in
    (c.requires.1, omega (arith, c.requires.2, lists_length c.list_reached-reached.ensures), c.requires.3, fits)

pub shape_of-run : goal.shape_of-run
shape_of-run c =
    lists_length c.list_ambients.ensures ∙ lists_length c.list_reached-reached.ensures

pub returns : goal.returns
returns c =
    facts_listed c.args.tables.now.names.now c.args.tables.now.recs.now c.args.run.now c.args.tables.now.k c.args.a c.list_reached-reached.ensures
    c.list_ambients.ensures
