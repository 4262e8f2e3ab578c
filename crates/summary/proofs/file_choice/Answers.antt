-- `summary::file_choice` meets its contract, choice by choice.
use native.Mathlib.Omega.{arith}
use Rattle.summary.proofs.Sorting.{begun_opened}
use Rattle.summary.proofs.Choosing.{within_one, within_two, within_groups, within_refinement, within_token, within_parts, choose_one, choose_two, choose_groups, choose_refinement, choose_token, choose_nothing, choose_parts, choose_drop, choose_ambient}
use Rattle.summary.proofs.file_choice.Goals as goal

pub file_term-requires : goal.file_term-requires
file_term-requires c = (
  c.requires.0.term_table,
  begun_opened c.requires.2 (omega arith) (omega arith),
  within_one c.args.named c.args.many c.in-One.is c.requires.1,
)

pub file_terms-requires : goal.file_terms-requires
file_terms-requires c = (
  c.requires.0.term_table,
  begun_opened c.requires.2 (omega arith) (omega arith),
  (within_two c.args.named c.args.many c.in-Two.is c.requires.1).0,
  (within_two c.args.named c.args.many c.in-Two.is c.requires.1).1,
)

pub triggers_of_term-requires : goal.triggers_of_term-requires
triggers_of_term-requires c = (
  c.requires.0.term_table,
  begun_opened c.requires.2 (omega arith) (omega arith),
  within_groups c.args.named c.args.many c.in-Groups.is c.requires.1,
)

pub file_refinement-requires : goal.file_refinement-requires
file_refinement-requires c =
    (c.requires.0.term_table, c.requires.2, within_refinement c.args.named c.args.many c.in-Refinement.is c.requires.1)

pub file_token-requires : goal.file_token-requires
file_token-requires c = (
  c.requires.0.name_table,
  within_token c.args.named c.args.many c.in-Token.is c.requires.1,
  c.requires.2.low,
  c.requires.2.room,
)

pub file_parts-requires : goal.file_parts-requires
file_parts-requires c =
    (c.requires.0.term_table, c.requires.2, within_parts c.args.named c.args.many c.in-Parts.is c.requires.1)

pub returns-in-One : goal.returns-in-One
returns-in-One c =
    let both = choose_one c.requires.0 c.in-One.is c.file_term.ensures.sets c.file_term.ensures.slices c.file_term.ensures.words
    c.filed.ensures in
    record { kinds = both.0; words = both.1 }

pub returns-in-Two : goal.returns-in-Two
returns-in-Two c =
    let both = choose_two c.requires.0 c.in-Two.is c.file_terms.ensures.sets c.file_terms.ensures.slices c.file_terms.ensures.words
    c.filed-in-Two.ensures in
    record { kinds = both.0; words = both.1 }

pub returns-in-Groups : goal.returns-in-Groups
returns-in-Groups c =
    let both = choose_groups c.requires.0 c.in-Groups.is c.triggers_of_term.ensures.sets c.triggers_of_term.ensures.slices
    c.triggers_of_term.ensures.words c.filed-in-Groups.ensures in
    record { kinds = both.0; words = both.1 }

pub returns-in-Refinement : goal.returns-in-Refinement
returns-in-Refinement c =
    let both = choose_refinement c.requires.0 c.in-Refinement.is c.file_refinement.ensures.kinds c.file_refinement.ensures.words in
    record { kinds = both.0; words = both.1 }

pub returns-in-Token : goal.returns-in-Token
returns-in-Token c =
    let both = choose_token c.requires.0 c.requires.2 c.in-Token.is c.file_token.ensures in
    record { kinds = both.0; words = both.1 }

pub returns-in-Nothing : goal.returns-in-Nothing
returns-in-Nothing c =
    let both = choose_nothing c.requires.0 c.requires.2 c.in-Nothing.is in
    record { kinds = both.0; words = both.1 }

pub returns-in-Parts : goal.returns-in-Parts
returns-in-Parts c =
    let both = choose_parts c.requires.0 c.in-Parts.is c.file_parts.ensures.kinds c.file_parts.ensures.words in
    record { kinds = both.0; words = both.1 }

pub returns-in-Drop : goal.returns-in-Drop
returns-in-Drop c =
    let both = choose_drop c.requires.0 c.requires.2 c.in-Drop.is in
    record { kinds = both.0; words = both.1 }

pub returns-in-Ambient : goal.returns-in-Ambient
returns-in-Ambient c =
    let both = choose_ambient c.requires.0 c.requires.2 c.in-Ambient.is in
    record { kinds = both.0; words = both.1 }
