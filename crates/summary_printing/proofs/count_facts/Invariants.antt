-- `summary_printing::count_facts` is safe and ends. The loop's invariant: the facts are at most as many as the records passed.
use Prim.Native.Nat.{◌≤◌}
use Rattle.summary_printing.proofs.count_facts.Given as goal

abbrev pub invariant-loop-i : goal.invariant-loop-i
invariant-loop-i l = l.count ≤ l.i
