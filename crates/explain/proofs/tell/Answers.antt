-- `explain::tell` meets its contract.
use native.Mathlib.Omega.{arith}
use Rattle.firing.proofs.Joining.{laid}
use Rattle.explain.proofs.Telling.{explainable, tells_rows}
use Rattle.explain.proofs.tell.Goals as goal

pub run_ask-requires : goal.run_ask-requires
run_ask-requires c = (c.requires.filled, c.requires.asked, omega (arith, c.requires.room))

pub find_suppliers-requires : goal.find_suppliers-requires
find_suppliers-requires c =
    (laid c.requires.filled, c.requires.asked, omega (arith, c.requires.room, c.run_ask.ensures.same.same_length))

pub put_rows-rows-requires : goal.put_rows-rows-requires
put_rows-rows-requires c =
    explainable c.requires c.run_ask.ensures c.find_suppliers.ensures

pub count_met-met-requires : goal.count_met-met-requires
count_met-met-requires c =
    (omega (arith, c.requires.room, c.run_ask.ensures.same.same_length, c.find_suppliers.ensures.same.same_length), c.requires.filled.table.few)

pub shape_of-run : goal.shape_of-run
shape_of-run c =
    (tells_rows c.requires c.run_ask.ensures c.find_suppliers.ensures c.put_rows-rows.ensures
    c.count_met-met.ensures).run_words.same_length

pub returns : goal.returns
returns c =
    tells_rows c.requires c.run_ask.ensures c.find_suppliers.ensures c.put_rows-rows.ensures c.count_met-met.ensures
