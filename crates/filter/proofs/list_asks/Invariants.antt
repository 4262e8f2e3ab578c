-- `filter::list_asks` meets its contract. The loop's invariant: the answer and the lists are those of the positions passed, and
-- the chain of the last of them stands in the run's slice.
use Rattle.model.specs.Outcome.{working_words}
use Rattle.words.specs.Slices.{SameBut}
use Rattle.filter.specs.Call.{positions_of}
use Rattle.filter.proofs.Laws.{ListsOn}
use Rattle.filter.proofs.Answers.{StandsBefore}
use Rattle.filter.proofs.list_asks.Given as goal

abbrev pub invariant-loop-i : goal.invariant-loop-i
invariant-loop-i l = record {
  on : ListsOn (positions_of l.file l.tables.names.now l.tables.recs.now l.tables.lists.now l.tables.k l.i) l.i l.a l.total l.refs;
  refs : SameBut 0 working_words l.initial.refs l.refs;
  run : SameBut 0 working_words l.initial.run l.run;
  stands : StandsBefore l.file l.tables.names.now l.tables.recs.now l.tables.lists.now l.tables.k l.i l.run l.before;
}
