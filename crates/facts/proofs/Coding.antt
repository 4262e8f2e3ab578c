-- Laws of the code of a fact's kind, and of a row with it.
use Prim.Native.Nat.{ℕ, suc, ◌+◌, ◌≤◌}
use native.Mathlib.Omega.{arith}
use mathlib.Core.Path.{◌≡◌, refl}
use mathlib.Core.Bool.{Bool, true, false}
use mathlib.Core.List.{List}
use Rattle.model.specs.declared.AsumKind.{AsumKind}
use Rattle.model.specs.declared.AsumKind.TheVariants as asum
use Rattle.model.specs.declared.Counts.{Counts}
use Rattle.records.specs.Columns.{kind_of_code, code_of}
use Rattle.records.specs.Writing.{Small, Rowed}

-- the kind that a code stands for
pub code_kind : (k : AsumKind) → kind_of_code (code_of k) ≡ k
unfolding code_of kind_of_code
code_kind asum.Drop = refl
code_kind (asum.Ambient false) = refl
code_kind (asum.Ambient true) = refl
code_kind (asum.Triggers n) = let e : 3 + n ≡ suc (suc (suc n)) = omega arith in rw e

-- codes by case
pub code_drop : {k : AsumKind} → k ≡ asum.Drop → 0 ≡ code_of k
unfolding code_of
code_drop e = rw e

pub code_ambient : {k : AsumKind} {b : Bool} → k ≡ asum.Ambient b → b ≡ false → 1 ≡ code_of k
unfolding code_of
code_ambient e f = rw (e, f)

pub code_root : {k : AsumKind} {b : Bool} → k ≡ asum.Ambient b → b ≡ true → 2 ≡ code_of k
unfolding code_of
code_root e f = rw (e, f)

pub code_triggers : {k : AsumKind} {n : ℕ} → k ≡ asum.Triggers n → 3 + n ≡ code_of k
unfolding code_of
code_triggers e = rw e

-- the code of a kind with at most so many disjuncts
pub code_low : (a : AsumKind) (e : ℕ) → ((m : ℕ) → a ≡ asum.Triggers m → m ≤ e) → code_of a ≤ 3 + e
unfolding code_of
code_low asum.Drop e h = omega arith
code_low (asum.Ambient false) e h = omega arith
code_low (asum.Ambient true) e h = omega arith
code_low (asum.Triggers n) e h = omega (arith, h n refl)

-- a row for the same counts and code
pub small_as : {k k' next : Counts} {kind line name term flag code word group : ℕ} → next ≡ k' → word ≡ code → Small k k' kind line name term flag code group
    → Small k next kind line name term flag word group
small_as e f s = rw (e, f) s

pub rowed_as : {recs recs' : List ℕ} {k k' : Counts} {kind line name term flag code word group : ℕ} → word ≡ code
    → Rowed recs recs' k k' kind line name term flag word group
    → Rowed recs recs' k k' kind line name term flag code group
rowed_as f s = rw f at s
