-- `records::takes_part` meets its contract.
use Rattle.records.proofs.Taking.{no_part, part_by}
use Rattle.records.proofs.takes_part.Goals as goal

pub returns-then-at-ne-ASSUME : goal.returns-then-at-ne-ASSUME
returns-then-at-ne-ASSUME c = no_part _ _ _ c.at.ensures c.if-at-ne-ASSUME.true

pub returns : goal.returns
returns c =
    part_by _ _ _ c.at.ensures c.if-at-ne-ASSUME.false c.at-2.ensures (c.admits.ensures _ _)
