-- `additions::push` meets its contract: the test tells full references.
use Rattle.additions.proofs.Laws.{pushed_in, pushed_full, answer_in, answer_full}
use mathlib.Core.Path.{sym}
use Rattle.additions.proofs.push.Goals as goal

pub returns-then-used-ge-MOST_REFERENCES : goal.returns-then-used-ge-MOST_REFERENCES
returns-then-used-ge-MOST_REFERENCES c = record { answer = sym (answer_full _ c.if-used-ge-MOST_REFERENCES.true); refs = sym (pushed_full _ _ _ c.if-used-ge-MOST_REFERENCES.true) }

pub returns : goal.returns
returns c = record { answer = sym (answer_in _ c.if-used-ge-MOST_REFERENCES.false); refs = sym (pushed_in _ _ _ c.if-used-ge-MOST_REFERENCES.false) }
