-- `cases::run_all` is safe and ends. The loop's invariant: the bytes that are held lie in the window.
use Rattle.std.proofs.Common.{◌≤◌, ◌≡◌, length}
use Rattle.cases.proofs.run_all.Given as goal

abbrev pub invariant-loop : goal.invariant-loop
invariant-loop g l = (l.from ≤ l.to) × (l.to ≤ length l.window) × (length l.window ≡ 262144)
