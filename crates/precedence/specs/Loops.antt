-- What the loops that put rows ask of the tables, and what they leave in the slices of the references and of the run.
use Rattle.std.specs.Prelude.{ℕ, ◌≤◌, ◌<◌, List, get_or}
use Rattle.model.specs.Reading.{most_names}
use Rattle.model.specs.declared.Counts.{Counts}
use Rattle.words.specs.Slices.{SameBut}
use Rattle.records.specs.Filing.{Records}
use Rattle.prune.specs.Loops.{Index}

-- tables whose bodies can be looked up
pub record Checkable (names recs lists : List ℕ) (k : Counts) : Type 0 where
  pub index : Index names k.names
  pub recorded : Records recs lists k.names k.records k.entries k.uses

-- no name has a stamp above this
abbrev pub StampsBelow : List ℕ → ℕ → Type 0
StampsBelow refs s = (n : ℕ) → n < most_names → get_or refs n 0 ≤ s

-- names stamped, none above this
pub record StampedTo (before after : List ℕ) (s : ℕ) : Type 0 where
  pub below : StampsBelow after s
  pub same : SameBut 0 most_names before after
