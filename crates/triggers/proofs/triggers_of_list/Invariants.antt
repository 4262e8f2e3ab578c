-- `triggers::triggers_of_list` meets its contract. The loop's invariant: the triggers of the terms before `i` are filed.
use Rattle.model.specs.Lists.{part}
use Rattle.terms.specs.Rows.{terms_of_words}
use Rattle.triggers.specs.Entries.{filed_sets}
use Rattle.triggers.specs.Filings.{filing, file_parts}
use Rattle.triggers.proofs.Filing.{Comes}
use Rattle.triggers.proofs.Grouping.{list_sets, list_count}
use Rattle.triggers.proofs.triggers_of_list.Given as goal

abbrev pub invariant-loop-i : goal.invariant-loop-i
invariant-loop-i l =
    Comes l.initial.names l.initial.rows l.initial.lists l.names l.rows l.lists l.named l.mark l.at (list_sets l.refs l.initial.rows l.used l.many l.a l.i)
    (file_parts l.refs l.used l.many (filing l.initial.names l.initial.rows l.initial.lists l.mark l.at) (terms_of_words (part l.refs l.a l.i))) (list_count l.refs l.initial.rows l.a l.i) (filed_sets l.count l.end)
