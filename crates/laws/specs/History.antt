-- The states of document 01's rounds, without fuel.
use Rattle.std.specs.Prelude.{not, List, [], ◌∷◌, T}
use Rattle.model.specs.Lists.{is_nil}
use Rattle.model.specs.Names.{Name}
use Rattle.model.specs.Summaries.{Fact}
use Rattle.model.specs.Reading.{Ask}
use Rattle.model.specs.Pruning.{Map}
use Rattle.model.specs.Rounds.{Run, triggered, after_round, next_scanned}

-- the states of the rounds from a state on, itself first, then one at the end of each round; and the last of them
pub data IsHistory (a : Ask) (ms : Map (List Name)) (fs : List Fact) : Run → List Name → List Run → Run → Type 0 where
  last : {r : Run} {scanned : List Name}
      → T (is_nil (triggered ms fs r scanned))
      → IsHistory a ms fs r scanned (r ∷ after_round a ms fs r scanned ∷ []) (after_round a ms fs r scanned)
  more : {r end : Run} {scanned : List Name} {h : List Run}
      → T (not (is_nil (triggered ms fs r scanned)))
      → IsHistory a ms fs (after_round a ms fs r scanned) (next_scanned a ms fs r scanned) h end
      → IsHistory a ms fs r scanned (r ∷ h) end
