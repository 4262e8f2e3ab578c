-- `facts::over_refusal` meets its contract.
use Rattle.facts.specs.Refusing.{over_refusal}
use Rattle.facts.proofs.over_refusal.Goals as goal

pub returns-in-Names : goal.returns-in-Names
unfolding over_refusal
returns-in-Names c = rw c.in-Names.is

pub returns-in-Entries : goal.returns-in-Entries
unfolding over_refusal
returns-in-Entries c = rw c.in-Entries.is c.behind_records.ensures

pub returns-in-Uses : goal.returns-in-Uses
unfolding over_refusal
returns-in-Uses c = rw c.in-Uses.is c.behind_records-in-Uses.ensures
