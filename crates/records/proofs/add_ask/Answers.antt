-- `records::add_ask` meets its contract.
use native.Mathlib.Omega.{arith}
use mathlib.Core.Path.{refl}
use lib.ListN.{length-set}
use Rattle.records.proofs.Asking.{ask_put}
use Rattle.records.proofs.add_ask.Goals as goal

pub bounds-recs-i-2 : goal.bounds-recs-i-2
bounds-recs-i-2 c = simp length-set (omega arith)

pub bounds-recs-i-3 : goal.bounds-recs-i-3
bounds-recs-i-3 c = simp length-set (omega arith)

pub bounds-recs-i-4 : goal.bounds-recs-i-4
bounds-recs-i-4 c = simp length-set (omega arith)

pub returns : goal.returns
returns c = record { counts = refl; ask = ask_put _ _ _ _ _ _ c.requires.0 c.requires.1 }
