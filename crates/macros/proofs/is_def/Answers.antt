-- `macros::is_def` meets its contract.
use Rattle.macros.proofs.Opening.{not_def, def_by}
use Rattle.macros.proofs.is_def.Goals as goal

pub returns-then-taken-eq0 : goal.returns-then-taken-eq0
returns-then-taken-eq0 c = not_def _ c.if-taken-eq0.true

pub returns : goal.returns
returns c = def_by _ c.if-taken-eq0.false c.at.ensures
