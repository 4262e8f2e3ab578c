-- `rules::tables::TermTables::ambient_refinement_payload` meets its contract: the second argument of a squash of two, or the type itself.
use Rattle.model.specs.Summaries.{ambient_refinement_payload, at}
use Rattle.rules.proofs.Meaning.{squash_law}
use borrow.Author.Rules.{rules}
use Rattle.rules.proofs.tables.TermTables.ambient_refinement_payload.Goals as goal

pub returns-in_default-clause-payload : goal.returns-in_default-clause-payload
unfolding ambient_refinement_payload at
returns-in_default-clause-payload c = search (rules, squash_law c.args.self.now.tables c.requires)

pub returns-clause-payload : goal.returns-clause-payload
unfolding ambient_refinement_payload at
returns-clause-payload c = search (rules, squash_law c.args.self.now.tables c.requires)
