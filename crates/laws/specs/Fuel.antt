-- Fuel never runs out: the rounds end for their own reason.
use Rattle.std.specs.Prelude.{not, List, T}
use Rattle.model.specs.Lists.{is_nil}
use Rattle.model.specs.Names.{Name}
use Rattle.model.specs.Summaries.{Fact}
use Rattle.model.specs.Reading.{Ask}
use Rattle.model.specs.Pruning.{Map}
use Rattle.model.specs.Rounds.{Run, triggered, after_round, next_scanned}

-- document 01's rounds, without fuel: "The run ends with the round that triggers none, which is counted"
pub data Ends (a : Ask) (ms : Map (List Name)) (fs : List Fact) : Run → List Name → Run → Type 0 where
  last : {r : Run} {scanned : List Name}
      → T (is_nil (triggered ms fs r scanned)) → Ends a ms fs r scanned (after_round a ms fs r scanned)
  more : {r end : Run} {scanned : List Name}
      → T (not (is_nil (triggered ms fs r scanned)))
      → Ends a ms fs (after_round a ms fs r scanned) (next_scanned a ms fs r scanned) end
      → Ends a ms fs r scanned end
