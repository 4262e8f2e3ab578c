-- The kept facts: the reached ones, then the ambients.
use Prim.Native.Nat.{ℕ, ◌+◌, ◌≤◌}
use native.Mathlib.Omega.{arith}
use mathlib.Core.Path.{◌≡◌}
use mathlib.Core.List.{List}
use lib.ListN.{length, length-append}
use Rattle.model.specs.Reading.{most_records}
use Rattle.model.specs.declared.Asked.{Asked}
use Rattle.model.specs.declared.Counts.{Counts}
use Rattle.prune.specs.Listing.{reached_records, ambient_records, fact_records}
use Rattle.prune.specs.Loops.{KeptBehind}
use Rattle.prune.proofs.Writing.{lists_both}

module _ (names recs run : List ℕ) (k : Counts) (a : Asked) where
  -- how many they are
  facts_length : length (fact_records names recs run k a) ≡ length (reached_records names run k.names) + length (ambient_records recs k a)
  unfolding fact_records
  facts_length = length-append (reached_records names run k.names) (ambient_records recs k a)

  pub reached_fit : length (fact_records names recs run k a) ≤ most_records → length (reached_records names run k.names) ≤ most_records
  reached_fit f = let e = facts_length in omega arith

  pub ambients_after : length (fact_records names recs run k a) ≤ most_records → {v : List ℕ} {to : ℕ}
      → KeptBehind run 0 (reached_records names run k.names) v to → to + length (ambient_records recs k a) ≤ most_records
  ambients_after f p = let e = facts_length in let c = p.count in omega arith

  pub facts_listed : {v u : List ℕ} {mid to : ℕ} → KeptBehind run 0 (reached_records names run k.names) v mid
      → KeptBehind v mid (ambient_records recs k a) u to → KeptBehind run 0 (fact_records names recs run k a) u to
  unfolding fact_records
  facts_listed p q = lists_both p q
