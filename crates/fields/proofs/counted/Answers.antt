-- `fields::counted` meets its contract.
use mathlib.Core.Path.{refl}
use Rattle.fields.specs.Wording.{well_counted}
use Rattle.fields.proofs.Words.{count_free, count_fixed}
use Rattle.fields.proofs.counted.Goals as goal

pub returns-in-Some : goal.returns-in-Some
returns-in-Some c = λ s p. rw c.in-Ok.is (count_fixed s _ _ (c.fixed_count.ensures s p) c.count_fields.ensures c.in-Some.is)

pub returns-in-None : goal.returns-in-None
returns-in-None c = λ s p. rw c.in-Ok.is (count_free s _ _ (c.fixed_count.ensures s p) c.in-None.is)

pub returns-in-Err : goal.returns-in-Err
unfolding well_counted
returns-in-Err c = λ s p. rw c.in-Err.is refl
