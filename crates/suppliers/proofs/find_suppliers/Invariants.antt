-- `suppliers::find_suppliers` meets its contract. The loop's invariant: the records so far are noted.
use Rattle.suppliers.proofs.Passing.{Passed}
use Rattle.suppliers.proofs.find_suppliers.Given as goal

abbrev pub invariant-loop-i : goal.invariant-loop-i
invariant-loop-i l = Passed l.tables.names.now l.tables.recs.now l.tables.lists.now l.tables.k l.a l.initial.run l.run l.i
