-- `triggers::triggers_of_term` meets its contract. The loop's invariant: the term is an `all`, the groups before `g` are filed, and their references end at `a`.
use Prim.Native.Nat.{◌+◌}
use mathlib.Core.List.{map}
use Rattle.model.specs.Lists.{fold_left}
use Rattle.model.specs.Summaries.{group_names}
use Rattle.terms.specs.Rows.{row_start, row_end, groups_of_words, terms_of, bare_of}
use Rattle.terms.proofs.Groups.{Before}
use Rattle.triggers.specs.Entries.{filed_sets}
use Rattle.triggers.specs.Filings.{filing, file_list}
use Rattle.triggers.proofs.Marked.{All, patterns}
use Rattle.triggers.proofs.Filing.{Comes}
use Rattle.triggers.proofs.triggers_of_term.Given as goal

abbrev pub invariant-loop-g : goal.invariant-loop-g
invariant-loop-g l =
    All l.refs l.initial.rows l.used l.many l.t l.groups (bare_of l.initial.rows l.t) l.e
    × Before l.refs (row_start l.initial.rows (bare_of l.initial.rows l.t) + 1) (row_end l.initial.rows l.used l.many (bare_of l.initial.rows l.t)) l.g l.a
    × Comes l.initial.names l.initial.rows l.initial.lists l.names l.rows l.lists l.named l.mark l.at (λ exclude name. map (group_names exclude (terms_of name l.refs l.initial.rows l.used l.many))
    (groups_of_words (patterns l.refs l.initial.rows l.used l.many (bare_of l.initial.rows l.t)) l.g))
    (fold_left (file_list l.refs l.used l.many) (filing l.initial.names l.initial.rows l.initial.lists l.mark l.at) (groups_of_words (patterns l.refs l.initial.rows l.used l.many (bare_of l.initial.rows l.t)) l.g)) l.g
    (filed_sets l.g l.end)
