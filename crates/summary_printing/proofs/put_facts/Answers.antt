-- `summary_printing::put_facts` is safe and ends.
use mathlib.Core.Path.{◌∙◌, sym}
use Rattle.summary_printing.proofs.Laws.{printable}
use Rattle.summary_printing.proofs.put_facts.Goals as goal

pub put-requires : goal.put-requires
put-requires g c =
    printable c.requires.0 c.loop-i-test.true c.requires.1 (sym c.at.ensures ∙ c.if-at-eq-ASSUME.true)
