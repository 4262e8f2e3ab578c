-- `printing::record_name` meets its contract.
use mathlib.Core.Path.{refl, sym, ◌∙◌}
use Rattle.model.specs.Names.{bytes}
use Rattle.text.proofs.Laws.{mark_from, mark_to}
use Rattle.printing.proofs.Parts.{part_short, record_none, record_root, record_other}
use native.Mathlib.Omega.{arith}
use Rattle.printing.proofs.record_name.Goals as goal

pub returns-then-comma-end : goal.returns-then-comma-end
returns-then-comma-end c = (
  record_none _ _ _ _ c.find-comma.ensures (omega arith),
  part_short _ c.args.end c.args.end c.requires.1,
  (c.args.end, c.args.end, record { bytes = refl; block = refl; offset = omega arith }),
)

pub same_text-requires : goal.same_text-requires
same_text-requires c =
    let end = mark_to _ _ _ _ _ c.find-comma.ensures c.requires.0 c.requires.1 in
    (mark_from _ _ _ _ _ c.find-comma.ensures, omega arith)

pub overflow_add-comma : goal.overflow_add-comma
overflow_add-comma c =
    let end = mark_to _ _ _ _ _ c.find-comma.ensures c.requires.0 c.requires.1 in
    omega arith

pub second_field-requires : goal.second_field-requires
second_field-requires c =
    let end = mark_to _ _ _ _ _ c.find-comma.ensures c.requires.0 c.requires.1 in
    (omega arith, omega arith)

pub returns-then-same_text : goal.returns-then-same_text
unfolding bytes
returns-then-same_text c =
    let end = mark_to _ _ _ _ _ c.find-comma.ensures c.requires.0 c.requires.1 in
    let (field, short, lies) = c.second_field.ensures in
    (field ∙ record_root _ _ _ _ c.requires.1 c.find-comma.ensures (omega arith) (sym c.same_text.ensures ∙ c.if-same_text.true), short, lies)

pub returns : goal.returns
unfolding bytes
returns c =
    let end = mark_to _ _ _ _ _ c.find-comma.ensures c.requires.0 c.requires.1 in
    let (field, short, lies) = c.second_field-2.ensures in
    (field ∙ record_other _ _ _ _ c.requires.1 c.find-comma.ensures (omega arith) (sym c.same_text.ensures ∙ c.if-same_text.false), short, lies)
