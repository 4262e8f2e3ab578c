-- `records::is_also` meets its contract.
use Rattle.records.proofs.Chains.{first_asks, also_by}
use Rattle.records.proofs.is_also.Goals as goal

pub returns-then-i-eq0 : goal.returns-then-i-eq0
returns-then-i-eq0 c = first_asks _ _ c.if-i-eq0.true

pub returns : goal.returns
returns c = also_by _ _ c.if-i-eq0.false
