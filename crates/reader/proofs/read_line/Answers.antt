-- `reader::read_line` meets its contract: by its first field, its kind, the number of its fields, and the fields after.
use Rattle.model.proofs.ResultLaws.{refused_is}
use mathlib.Core.Path.{sym, ◌∙◌}
use Rattle.model.specs.declared.Refusal.TheVariants as refusal
use Rattle.filing.proofs.Recording.{line_not, line_said}
use Rattle.reader.proofs.Lines.{fields_first, field_there, field_placed, kind_known, kind_unknown, parse_on, parse_count, parse_not, placing, form_counted, terms_counted, ask_fits, also_fits}
use Rattle.reader.proofs.read_line.Goals as goal

pub field-requires : goal.field-requires
field-requires c =
    record { inside = c.requires.2; short = c.requires.0.tables.name_table.short }

pub line_kind-requires : goal.line_kind-requires
line_kind-requires c = (
  (field_placed c.requires.1 c.requires.2 c.requires.0.tables.name_table.short c.field.ensures c.in_ok-first.was).1,
  (field_placed c.requires.1 c.requires.2 c.requires.0.tables.name_table.short c.field.ensures c.in_ok-first.was).2,
)

pub counted-requires : goal.counted-requires
counted-requires c =
    (c.requires.1, c.requires.2, c.requires.0.tables.name_table.short)

pub returns-in_err-kind : goal.returns-in_err-kind
returns-in_err-kind c =
    rw (refused_is c.from_residual-in_err-kind.ensures.1)
    (line_not _ _ _ _ _ _ _ _ _ (parse_not _ (fields_first _ _ _ c.requires.1 c.requires.2 c.requires.0.tables.name_table.short c.field.ensures c.in_ok-first.was)
    (kind_unknown (c.line_kind.ensures _ (placing c.requires.0)) c.in_err-kind.was)))

pub returns-then-not-counted : goal.returns-then-not-counted
returns-then-not-counted c =
    line_not _ _ _ _ _ _ _ _ refusal.Form (parse_count _ (fields_first _ _ _ c.requires.1 c.requires.2
    c.requires.0.tables.name_table.short c.field.ensures c.in_ok-first.was) (form_counted _ _ _ _ _ _ _) (terms_counted _ _ _ _ _ _ _) _
    (kind_known (c.line_kind.ensures _ (placing c.requires.0)) c.in_ok-kind.was) (sym c.if-not-counted.true ∙ c.counted.ensures _ (placing c.requires.0)))

pub read_kind-requires : goal.read_kind-requires
read_kind-requires c =
    let p = placing c.requires.0 in
    let known = kind_known (c.line_kind.ensures _ p) c.in_ok-kind.was in (
      c.requires.0,
      (field_placed c.requires.1 c.requires.2 c.requires.0.tables.name_table.short c.field.ensures c.in_ok-first.was).0,
      c.requires.3,
      ask_fits _ _ p known,
      also_fits _ _ p known,
    )

pub returns : goal.returns
returns c =
    line_said (parse_on _ (fields_first _ _ _ c.requires.1 c.requires.2 c.requires.0.tables.name_table.short
    c.field.ensures c.in_ok-first.was) (form_counted _ _ _ _ _ _ _) (terms_counted _ _ _ _ _ _ _) _
    (kind_known (c.line_kind.ensures _ (placing c.requires.0)) c.in_ok-kind.was)
    (sym c.if-not-counted.false ∙ c.counted.ensures _ (placing c.requires.0)))
    c.read_kind.ensures

pub returns-in_err-first : goal.returns-in_err-first
returns-in_err-first c =
    absurd (field_there _ _ _ c.requires.1 c.requires.2 c.requires.0.tables.name_table.short c.field.ensures c.in_err-first.was)
