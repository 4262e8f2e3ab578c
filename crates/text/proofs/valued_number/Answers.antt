-- `text::valued_number` meets its contract.
use native.Mathlib.Omega.{arith}
use Rattle.text.proofs.Laws.{number_empty, number_leading, number_part, most_none, most_good, most_over}
use Rattle.text.proofs.valued_number.Goals as goal
use Rattle.text.proofs.valued_number.Goals.{then-several+else-s-at-eq48, else-several}

pub returns-then-stop-at : goal.returns-then-stop-at
returns-then-stop-at c = most_none _ _ _ (number_empty c.args.s.now c.args.at c.args.stop (omega arith))

pub returns-then-s-at-eq48 : goal.returns-then-s-at-eq48
returns-then-s-at-eq48 c =
    let pre = c.requires in
    most_none _ _ _ (number_leading _ _ _ (omega arith) pre.1 c.if-s-at-eq48.true (λ e. omega arith))

pub returns-then-n-limit : goal.returns-then-n-limit
returns-then-n-limit c =
    let pre = c.requires in
    let number = number_part _ _ _ _ (omega arith) pre.1
    (λ zero. elim c.if-several.branch [ then-several+else-s-at-eq48 w ↦ absurd (w.if-s-at-eq48.false zero) | else-several w ↦ w.if-several.false ])
    pre.3
    in
    most_good _ _ _ _ number c.if-n-limit.true

pub returns : goal.returns
returns c =
    let pre = c.requires in
    let number = number_part _ _ _ _ (omega arith) pre.1
    (λ zero. elim c.if-several.branch [ then-several+else-s-at-eq48 w ↦ absurd (w.if-s-at-eq48.false zero) | else-several w ↦ w.if-several.false ])
    pre.3
    in
    most_over _ _ _ _ number c.if-n-limit.false
