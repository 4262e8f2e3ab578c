-- `summary::file_token` meets its contract: the token, and the name that it trims to.
use native.Mathlib.Omega.{arith}
use borrow.Author.Tests.{not-false, not-true}
use Rattle.model.specs.Names.{bytes}
use Rattle.summary.proofs.Token.{token_inside, token_ends, token_asks, token_one, token_over, token_known_small, token_new_small, token_known, token_new, token_full}
use Rattle.summary.proofs.file_token.Goals as goal

pub overflow_add-e : goal.overflow_add-e
overflow_add-e c =
    omega (arith, token_inside c.requires.0 c.requires.1 c.at-a.ensures c.at.ensures, c.requires.0.short)

pub ends_with-requires : goal.ends_with-requires
ends_with-requires c =
    (omega arith, token_inside c.requires.0 c.requires.1 c.at-a.ensures c.at.ensures)

pub returns-then-at-ge-ENTRIES_END : goal.returns-then-at-ge-ENTRIES_END
unfolding bytes
returns-then-at-ge-ENTRIES_END c =
    let no = token_ends c.requires.0 c.requires.1 c.at-a.ensures c.at.ensures c.ends_with.ensures
    (not-true _ c.if-not-ends_with.true-raw) in
    token_over c.requires.0 c.requires.1 c.at-a.ensures c.at.ensures no c.if-at-ge-ENTRIES_END.true

pub returns-then-not-ends_with : goal.returns-then-not-ends_with
unfolding bytes
returns-then-not-ends_with c =
    let no = token_ends c.requires.0 c.requires.1 c.at-a.ensures c.at.ensures c.ends_with.ensures
    (not-true _ c.if-not-ends_with.true-raw) in
    token_one c.requires.0 c.requires.1 c.at-a.ensures c.at.ensures no c.if-at-ge-ENTRIES_END.false c.requires.3

pub overflow_sub-e : goal.overflow_sub-e
unfolding bytes
overflow_sub-e c =
    let yes = token_ends c.requires.0 c.requires.1 c.at-a.ensures c.at.ensures c.ends_with.ensures
    (not-false _ c.if-not-ends_with.false-raw) in
    (token_asks c.requires.0 c.requires.1 c.at-a.ensures c.at.ensures yes).0

pub spell-requires : goal.spell-requires
unfolding bytes
spell-requires c =
    let yes = token_ends c.requires.0 c.requires.1 c.at-a.ensures c.at.ensures c.ends_with.ensures
    (not-false _ c.if-not-ends_with.false-raw) in (
      c.requires.0,
      (token_asks c.requires.0 c.requires.1 c.at-a.ensures c.at.ensures yes).1,
      (token_asks c.requires.0 c.requires.1 c.at-a.ensures c.at.ensures yes).2,
    )

pub put_two-requires : goal.put_two-requires
unfolding bytes
put_two-requires c =
    let yes = token_ends c.requires.0 c.requires.1 c.at-a.ensures c.at.ensures c.ends_with.ensures (not-false _ c.if-not-ends_with.false-raw) in (
      omega (arith, c.requires.1, c.requires.0.few),
      token_known_small c.requires.0 c.requires.1 c.at-a.ensures c.at.ensures yes c.spell.ensures.answer c.spell.ensures.table
          c.in-Known.is,
      c.requires.2,
      c.requires.3,
    )

pub put_two-requires-in-New : goal.put_two-requires-in-New
unfolding bytes
put_two-requires-in-New c =
    let yes = token_ends c.requires.0 c.requires.1 c.at-a.ensures c.at.ensures c.ends_with.ensures (not-false _ c.if-not-ends_with.false-raw) in (
      omega (arith, c.requires.1, c.requires.0.few),
      token_new_small c.requires.0 c.requires.1 c.at-a.ensures c.at.ensures yes c.spell.ensures.answer c.spell.ensures.table
          c.in-New.is,
      c.requires.2,
      c.requires.3,
    )

pub returns-in-Known : goal.returns-in-Known
unfolding bytes
returns-in-Known c =
    let yes = token_ends c.requires.0 c.requires.1 c.at-a.ensures c.at.ensures c.ends_with.ensures (not-false _ c.if-not-ends_with.false-raw) in
    token_known c.requires.0 c.requires.1 c.at-a.ensures c.at.ensures yes c.spell.ensures.answer c.spell.ensures.table
    c.in-Known.is c.requires.3 c.put_two.ensures

pub returns-in-New : goal.returns-in-New
unfolding bytes
returns-in-New c =
    let yes = token_ends c.requires.0 c.requires.1 c.at-a.ensures c.at.ensures c.ends_with.ensures (not-false _ c.if-not-ends_with.false-raw) in
    token_new c.requires.0 c.requires.1 c.at-a.ensures c.at.ensures yes c.spell.ensures.answer c.spell.ensures.table
    c.in-New.is c.requires.3 c.put_two-in-New.ensures

pub returns-in-Full : goal.returns-in-Full
unfolding bytes
returns-in-Full c =
    let yes = token_ends c.requires.0 c.requires.1 c.at-a.ensures c.at.ensures c.ends_with.ensures (not-false _ c.if-not-ends_with.false-raw) in
    token_full c.requires.0 c.requires.1 c.at-a.ensures c.at.ensures yes c.spell.ensures.answer c.spell.ensures.table
    c.in-Full.is
