-- `front::open_file` meets its contract.
use mathlib.Core.Path.{sym, ◌∙◌}
use Rattle.front.proofs.Slices.{long}
use Rattle.front.proofs.Laws.{opening_7, opening_9}
use Rattle.front.proofs.open_file.Goals as goal

pub too_short-requires : goal.too_short-requires
too_short-requires c = tt

pub returns-then-too_short : goal.returns-then-too_short
returns-then-too_short c =
    opening_7 _ _ (sym c.too_short.ensures ∙ c.if-too_short.true)

pub close_file-requires : goal.close_file-requires
close_file-requires c =
    long _ (sym c.too_short.ensures ∙ c.if-too_short.false)

pub returns-then-file-gt-MOST_BYTES : goal.returns-then-file-gt-MOST_BYTES
returns-then-file-gt-MOST_BYTES c =
    opening_9 _ (long _ (sym c.too_short.ensures ∙ c.if-too_short.false)) c.if-file-gt-MOST_BYTES.true c.close_file.ensures

pub open_lines-requires : goal.open_lines-requires
open_lines-requires c =
    (long _ (sym c.too_short.ensures ∙ c.if-too_short.false), c.if-file-gt-MOST_BYTES.false)

pub returns : goal.returns
returns c =
    c.open_lines.ensures
