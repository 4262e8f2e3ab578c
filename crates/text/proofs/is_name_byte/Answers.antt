-- `text::is_name_byte` meets its contract.
use mathlib.Core.Path.{sym}
use Rattle.text.proofs.Laws.{byte_comma, byte_below, byte_above}
use Rattle.text.proofs.is_name_byte.Goals as goal

pub returns-then-b-eq44 : goal.returns-then-b-eq44
returns-then-b-eq44 c = sym (byte_comma _ c.if-b-eq44.true)

pub returns-then-b-le44 : goal.returns-then-b-le44
returns-then-b-le44 c = sym (byte_below _ c.if-b-le44.true c.if-b-eq44.false)

pub returns : goal.returns
returns c = sym (byte_above _ c.if-b-le44.false)
