-- `nodes::within_limits` meets its contract.
use Rattle.nodes.specs.Growing.{by_names, by_references, by_none}
use Rattle.nodes.proofs.within_limits.Goals as goal

pub returns-then-named-gt-MOST_NAMES : goal.returns-then-named-gt-MOST_NAMES
returns-then-named-gt-MOST_NAMES c = by_names c.if-named-gt-MOST_NAMES.true

pub returns-then-used-gt-MOST_REFERENCES : goal.returns-then-used-gt-MOST_REFERENCES
returns-then-used-gt-MOST_REFERENCES c = by_references c.if-named-gt-MOST_NAMES.false c.if-used-gt-MOST_REFERENCES.true

pub returns : goal.returns
returns c = by_none c.if-named-gt-MOST_NAMES.false c.if-used-gt-MOST_REFERENCES.false
