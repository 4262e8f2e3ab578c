-- Fuel never runs out: `scan` of Pruning.fst ends for its own reason.
use Rattle.std.specs.Prelude.{ℕ, ◌+◌, Bool, not, List, [], ◌∷◌, T, length}
use Rattle.model.specs.Lists.{is_nil}
use Rattle.model.specs.Names.{Name}
use Rattle.model.specs.Pruning.{Passumption, Ctxt, find_assumptions_waiting_on_trigger, trigger_pending, new_syms, pending, to_scan}

-- the calls of `remove_trigger_for` over these symbols: each symbol's fold makes one for each assumption that waits on it then
unfoldable pub calls : List Name → List Passumption × Ctxt → ℕ
calls [] x = 0
calls (lid ∷ lids) x = length (find_assumptions_waiting_on_trigger lid x.1) + calls lids (trigger_pending x lid)

-- the calls of one entry of `scan`
abbrev pub calls_in : List Passumption → Ctxt → ℕ
calls_in ds c = calls (new_syms ds c) ([], c)

-- `scan` of Pruning.fst, without fuel: it ends where nothing is triggered, else it goes on with what was reached; with the
-- number of times that it is entered, and of its calls of `remove_trigger_for`
pub data Scans (pretyping_axioms : Bool) : List Passumption → Ctxt → Ctxt → ℕ → ℕ → Type 0 where
  done : {ds : List Passumption} {c : Ctxt}
      → T (is_nil (pending ds c).0) → Scans pretyping_axioms ds c (pending ds c).1 1 (calls_in ds c)
  more : {ds : List Passumption} {c end : Ctxt} {entered called : ℕ}
      → T (not (is_nil (pending ds c).0))
      → Scans pretyping_axioms (to_scan pretyping_axioms ds c).0 (to_scan pretyping_axioms ds c).1 end entered called
      → Scans pretyping_axioms ds c end (1 + entered) (calls_in ds c + called)
