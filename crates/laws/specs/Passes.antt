-- Fuel never runs out: the passes of the sweep end for their own reason.
use Rattle.std.specs.Prelude.{ℕ, suc, ◌≡◌, List}
use Rattle.model.specs.Names.{Name}
use Rattle.model.specs.Summaries.{Fact}
use Rattle.model.specs.Reading.{Ask}
use Rattle.model.specs.Pruning.{Map}
use Rattle.model.specs.Sweep.{Sweep, pass}

-- the passes of document 02, Change 10, without fuel, and how many: "repeats until a pass adds none", which is counted. A pass that
-- adds none leaves the facts reached as they were, any other does not
pub data Sweeps (a : Ask) (ms : Map (List Name)) (fs : List Fact) : ℕ → Sweep → Sweep → Type 0 where
  last : {s : Sweep} → (pass a ms fs s).reached ≡ s.reached → Sweeps a ms fs 1 s (pass a ms fs s)
  more : {n : ℕ} {s end : Sweep} → ((pass a ms fs s).reached ≡ s.reached → ⊥) → Sweeps a ms fs n (pass a ms fs s) end → Sweeps a ms fs (suc n) s end
