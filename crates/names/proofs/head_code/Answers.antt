-- `names::head_code` meets its contract.
use mathlib.Core.Path.{refl}
use Rattle.model.specs.Names.{bytes}
use Rattle.model.specs.Summaries.{common_names}
use Rattle.names.specs.Known.{known_names, behind_lengths, known_text}
use Rattle.names.proofs.head_code.Goals as goal

pub code_in-requires : goal.code_in-requires
unfolding known_text behind_lengths known_names common_names bytes
code_in-requires c =
    let pre = c.requires in
    (pre.0, pre.1, refl)
