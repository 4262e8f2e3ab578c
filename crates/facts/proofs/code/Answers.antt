-- `facts::code` meets its contract.
use native.Mathlib.Omega.{arith}
use Rattle.facts.proofs.Coding.{code_drop, code_ambient, code_root, code_triggers}
use Rattle.facts.proofs.code.Goals as goal

pub returns-then-root : goal.returns-then-root
returns-then-root c = code_root c.in-Ambient.is c.if-root.true

pub overflow_add-result : goal.overflow_add-result
overflow_add-result c = omega (arith, code_triggers c.in-Triggers.is, c.requires)

pub returns-in-Drop : goal.returns-in-Drop
returns-in-Drop c = code_drop c.in-Drop.is

pub returns-else-root : goal.returns-else-root
returns-else-root c = code_ambient c.in-Ambient.is c.if-root.false

pub returns-in-Triggers : goal.returns-in-Triggers
returns-in-Triggers c = code_triggers c.in-Triggers.is
