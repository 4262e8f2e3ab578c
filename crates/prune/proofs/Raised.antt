-- Stamps to which following adds: what is listed by the stamps of the items stays, and so do their chains.
use Prim.Native.Nat.{ℕ, zero, suc, ◌+◌, ◌≤◌, ◌<◌}
use native.Mathlib.Omega.{arith}
use mathlib.Core.Path.{◌≡◌, refl, sym, ◌∙◌, ap, ap₂}
use mathlib.Core.Logic.{◌⊎◌, inl, inr, ⊎_elim}
use mathlib.Core.List.{List, [], ◌∷◌, ◌++◌, append-nil, Memᴰ}
use lib.Dec.{eqb}
use lib.ListN.{get_or}
use borrow.Author.Tests.{ne_eqb}
use Rattle.model.specs.Lists.{keep, collect}
use Rattle.model.specs.Reading.{most_names}
use Rattle.model.proofs.ListLaws.{keep_cong, collect_cong}
use Rattle.terms.proofs.Laws.{equal}
use Rattle.records.specs.Columns.{def_kind, fun_kind}
use Rattle.records.specs.Filing.{newest}
use Rattle.firing.specs.Held.{upto}
use Rattle.firing.proofs.Numbers.{upto_elim}
use Rattle.prune.specs.Listing.{most_stamps, from, picked, kind_at, stamp_records, kind_records, decl_records, followed_stamp, added_at, added_records, of_kind, group_records, groups_records}
use Rattle.prune.specs.Follow.{StampsGrown, StampsClosed}
use Rattle.prune.specs.Loops.{below_column, highest_column, Linked}
use Rattle.prune.proofs.Ranges.{from_below}
use Rattle.prune.proofs.Takers.{one_zero}

-- a stamp as it was, or that of the names that bodies add where there was none
abbrev pub Raised : ℕ → ℕ → Type 0
Raised before after = (after ≡ before) ⊎ ((before ≡ 0) × (after ≡ followed_stamp))

pub grown_raised : {named : ℕ} {body : ℕ → List ℕ} {before after : ℕ → ℕ} → StampsGrown named body before after
    → (n : ℕ) → n < named → Raised (before n) (after n)
grown_raised {before = before} {after} g n h =
    ⊎_elim
    (λ (e : before n ≡ 0). ⊎_elim
    (λ (z : after n ≡ 0). inl (z ∙ sym e))
    (λ (z : after n ≡ 0 → ⊥). inr (e, g.new n h e (omega (arith, z)))) (equal (after n) 0))
    (λ (d : before n ≡ 0 → ⊥). inl (g.old n h (omega (arith, d)))) (equal (before n) 0)

-- a stamp of an item is the same in both
alike : {x y : ℕ} (s : ℕ) → Raised x y → 0 < s → s ≤ most_stamps → eqb y s ≡ eqb x s
alike s (inl e) p h = ap (λ z. eqb z s) e
alike {x} {y} s (inr (e, f)) p h = ne_eqb y s (λ q. omega arith) ∙ sym (ne_eqb x s (λ q. omega arith))

module _ {f g : ℕ → ℕ} (named : ℕ) (raised : (r : ℕ) → r < named → Raised (f r) (g r)) where
  -- the ranks of an item's stamp
  newest_raised : (s : ℕ) → 0 < s → s ≤ most_stamps → (n : ℕ) → n ≤ named → newest g s n ≡ newest f s n
  unfolding newest
  newest_raised s p l zero h = refl
  newest_raised s p l (suc n) h = rw (alike s (raised n (omega arith)) p l, newest_raised s p l n (omega arith))

  -- their chains
  pub linked_raised : {w v : List ℕ} → Linked f named w → named ≤ most_names
      → ((j : ℕ) → below_column ≤ j → j < highest_column + most_stamps → get_or v j 0 ≡ get_or w j 0) → Linked g named v
  linked_raised {w} {v} c few words = record {
    last = λ s h. words (highest_column + s) (omega arith) (omega arith) ∙ c.last s h
        ∙ sym (newest_raised (s + 1) (omega arith) (omega arith) named (omega arith));
    below = λ r h p l.
        let e : g r ≡ f r = ⊎_elim (λ x. x) (λ x. let y = x.1 in absurd (omega arith)) (raised r h) in
        words (below_column + r) (omega arith) (omega arith) ∙ c.below r h (omega arith) (omega arith)
        ∙ ap (λ (s : ℕ). newest f s r) (sym e) ∙ sym (newest_raised (g r) p l r (omega arith));
  }

  -- what is listed by the items' stamps
  pub kinds_raised : (names recs : List ℕ) (kind s : ℕ) → s ≤ most_stamps
      → kind_records names recs named g kind s ≡ kind_records names recs named f kind s
  unfolding kind_records stamp_records
  kinds_raised names recs kind s h =
      collect_cong (λ j. picked (kind_at names recs kind) (keep (λ r. eqb (g r) (j + 1)) (upto named)))
      (λ j. picked (kind_at names recs kind) (keep (λ r. eqb (f r) (j + 1)) (upto named))) (upto s)
      (λ j m. ap (picked (kind_at names recs kind))
      (keep_cong (λ r. eqb (g r) (j + 1)) (λ r. eqb (f r) (j + 1)) (upto named)
      (λ r i. let b = upto_elim s m in alike (j + 1) (raised r (upto_elim named i)) (omega arith) (omega arith))))

-- ---- without what bodies add

-- nothing is picked
picked_none : (pick : ℕ → ℕ) (l : List ℕ) → ((r : ℕ) → Memᴰ r l → pick r ≡ 0) → picked pick l ≡ []
unfolding picked collect
picked_none pick [] h = refl
picked_none pick (r ∷ l) h = ap₂ ◌++◌ (one_zero (pick r) (h r (Memᴰ.head refl))) (picked_none pick l (λ q m. h q (Memᴰ.tail m)))

-- definitions and declarations with what bodies add, by the stamps of the ranks
abbrev pub groups_by : List ℕ → List ℕ → ℕ → (ℕ → ℕ) → ℕ → List ℕ
groups_by names recs named stamp s = groups_records names recs named stamp (added_records names named stamp) s

module _ (names recs : List ℕ) (named : ℕ) (stamp : ℕ → ℕ) (low : (r : ℕ) → r < named → stamp r ≤ most_stamps) where
  pub none_added : added_records names named stamp ≡ []
  unfolding added_at
  none_added =
      picked_none (added_at names stamp) (from 0 named)
      (λ r m. let b = low r (from_below named m) in rw (ne_eqb (stamp r) followed_stamp (λ e. omega arith)))

  group_none : (s kind : ℕ)
      → group_records names recs named stamp (added_records names named stamp) s kind
      ≡ kind_records names recs named stamp kind s
  unfolding group_records of_kind keep
  group_none s kind =
      ap (λ (l : List ℕ). kind_records names recs named stamp kind s ++ of_kind recs kind l) none_added
      ∙ append-nil (kind_records names recs named stamp kind s)

  pub groups_none : (s : ℕ) → groups_by names recs named stamp s ≡ decl_records names recs named stamp s
  unfolding groups_records decl_records
  groups_none s = ap₂ ◌++◌ (group_none s def_kind) (group_none s fun_kind)

-- bodies followed from stamps that are the same
pub follows_same : {named : ℕ} {body : ℕ → List ℕ} {f g after : ℕ → ℕ} → ((n : ℕ) → n < named → g n ≡ f n) → StampsClosed named body f after
    → StampsClosed named body g after
follows_same same h = record {
  grown = record {
    old = λ n l p. let e = same n l in h.grown.old n l (omega arith) ∙ sym e;
    new = λ n l z p. let e = same n l in h.grown.new n l (omega arith) p;
    least = λ has start on. h.grown.least has (λ n l p. let e = same n l in start n l (omega arith)) on;
  };
  closed = h.closed;
}
