-- `facts::behind_records` meets its contract.
use borrow.Author.Tests.{le-leb, lt-leb}
use Rattle.model.specs.Reading.{most_records}
use Rattle.facts.specs.Refusing.{behind_records}
use Rattle.facts.proofs.behind_records.Goals as goal

pub returns-then-records-ge-MOST_RECORDS : goal.returns-then-records-ge-MOST_RECORDS
unfolding behind_records
returns-then-records-ge-MOST_RECORDS c = rw (le-leb most_records _ c.if-records-ge-MOST_RECORDS.true)

pub returns : goal.returns
unfolding behind_records
returns c = rw (lt-leb most_records _ c.if-records-ge-MOST_RECORDS.false)
