-- The answer: the fact's summary, or the first limit that it passes.
use Prim.Native.Nat.{ℕ, ◌≤◌, ◌<◌}
use native.Mathlib.Omega.{arith}
use mathlib.Core.Path.{◌≡◌, refl, sym}
use mathlib.Core.Bool.{Bool, true, false, cond}
use lib.Dec.{ltb}
use borrow.Author.Tests.{lt-ltb, le-ltb, ltb-false}
use Rattle.model.specs.declared.AsumKind.{AsumKind}
use Rattle.summary.specs.declared.Limit.{Limit}
use Rattle.summary.specs.declared.Limit.TheVariants as limit
use Rattle.summary.specs.declared.Summary.{Summary}
use Rattle.summary.specs.Facts.{limited}
use Rattle.std.specs.Prelude.{Result, Ok, Err}

-- a limit is no summary
pub over_none : {l : Limit} {s : Summary} → ◌≡◌ {A = Result Summary Limit} (Err l) (Ok s) → ⊥
over_none p = let z : ◌≡◌ {A = ℕ} 0 1 = cc in omega arith

-- an answer has one summary
pub done_one : {s s' : Summary} → ◌≡◌ {A = Result Summary Limit} (Ok s) (Ok s') → s ≡ s'
done_one p = cc

-- the limits in their order
module _ (x : Summary) where
  -- too many names
  pub over_names : 2048 < x.named → Err limit.Names ≡ limited x
  unfolding limited
  over_names n = rw (lt-ltb 2048 x.named n)

  -- too many entries
  pub over_entries : x.named ≤ 2048 → 2048 < x.entries → Err limit.Entries ≡ limited x
  unfolding limited
  over_entries n e = rw (le-ltb 2048 x.named n, lt-ltb 2048 x.entries e)

  -- too many uses
  pub over_uses : x.named ≤ 2048 → x.entries ≤ 2048 → 6144 < x.uses → Err limit.Uses ≡ limited x
  unfolding limited
  over_uses n e u = rw (le-ltb 2048 x.named n, le-ltb 2048 x.entries e, lt-ltb 6144 x.uses u)

  -- none of these
  pub within_limits : x.named ≤ 2048 → x.entries ≤ 2048 → x.uses ≤ 6144 → Ok x ≡ limited x
  unfolding limited
  within_limits n e u = rw (le-ltb 2048 x.named n, le-ltb 2048 x.entries e, le-ltb 6144 x.uses u)

-- a summary by its fields
pub summary_is : (s : Summary) {kind : AsumKind} {e u n m : ℕ} → s.kind ≡ kind → s.entries ≡ e → s.uses ≡ u → s.named ≡ n → s.mark ≡ m
    → s ≡ record { kind = kind; entries = e; uses = u; named = n; mark = m }
summary_is s a b c d e = rw (sym a, sym b, sym c, sym d, sym e) refl

-- what an answer says that is a summary
pub limited_done : (x : Summary) {s : Summary} → Ok s ≡ limited x → (s ≡ x) × (s.named ≤ 2048) × (s.entries ≤ 2048) × (s.uses ≤ 6144)
unfolding limited
limited_done x {s} p = names (ltb 2048 x.named) refl p
  where
    uses : (b : Bool) → ltb 6144 x.uses ≡ b → x.named ≤ 2048 → x.entries ≤ 2048
        → Ok s ≡ cond b (Err limit.Uses) (Ok x) → (s ≡ x) × (s.named ≤ 2048) × (s.entries ≤ 2048) × (s.uses ≤ 6144)
    uses true q n e r = absurd (over_none (sym r))
    uses false q n e r = let is = done_one r in rw is (refl, n, e, ltb-false 6144 x.uses q)

    filed : (b : Bool) → ltb 2048 x.entries ≡ b → x.named ≤ 2048
        → Ok s ≡ cond b (Err limit.Entries) (cond (ltb 6144 x.uses) (Err limit.Uses) (Ok x))
        → (s ≡ x) × (s.named ≤ 2048) × (s.entries ≤ 2048) × (s.uses ≤ 6144)
    filed true q n r = absurd (over_none (sym r))
    filed false q n r = uses (ltb 6144 x.uses) refl n (ltb-false 2048 x.entries q) r

    names : (b : Bool) → ltb 2048 x.named ≡ b → Ok s
        ≡ cond b (Err limit.Names) (cond (ltb 2048 x.entries) (Err limit.Entries)
        (cond (ltb 6144 x.uses) (Err limit.Uses) (Ok x))) → (s ≡ x) × (s.named ≤ 2048) × (s.entries ≤ 2048) × (s.uses ≤ 6144)
    names true q r = absurd (over_none (sym r))
    names false q r = filed (ltb 2048 x.entries) refl (ltb-false 2048 x.named q) r
