-- Ranks put on the chains of their stamps.
use Prim.Native.Nat.{ℕ, ◌+◌, ◌-◌, ◌≤◌, ◌<◌}
use native.Mathlib.Omega.{arith}
use mathlib.Core.Path.{◌≡◌, refl, sym, ◌∙◌, ap, subst}
use mathlib.Core.Logic.{⊎_elim}
use mathlib.Core.List.{List}
use lib.ListN.{length, get_or, set}
use lib.Seq.{lt-length-set, get_or-set_same, get_or-set_other}
use Rattle.model.specs.Reading.{most_names}
use Rattle.model.specs.Outcome.{working_words}
use Rattle.names.specs.Table.{ranked}
use Rattle.words.specs.Slices.{SameBut, Zeroed}
use Rattle.words.proofs.Slices.{same_then, same_wider, same_set}
use Rattle.terms.proofs.Laws.{equal}
use Rattle.records.specs.Filing.{newest}
use Rattle.records.proofs.Chaining.{newest_cong, newest_here, newest_other}
use Rattle.prune.specs.Listing.{most_stamps}
use Rattle.prune.specs.Loops.{below_column, highest_column, stamp_column, stamp_in, Index, Linked, Links}

-- ---- chains stay

-- where the stamps and the words of the chains are the same
pub linked_same : {f g : ℕ → ℕ} {n : ℕ} {w v : List ℕ} → Linked f n w → ((r : ℕ) → r < n → g r ≡ f r)
    → ((j : ℕ) → below_column ≤ j → get_or v j 0 ≡ get_or w j 0) → n ≤ most_names → Linked g n v
linked_same {f} {g} {n} {w} {v} c stamps words few = record {
  last = λ s h. words (highest_column + s) (omega arith) ∙ c.last s h ∙ sym (newest_cong g f (s + 1) n stamps);
  below = λ r h p l.
      let e = stamps r h in
      words (below_column + r) (omega arith) ∙ c.below r h (omega arith) (omega arith) ∙ ap (λ (s : ℕ). newest f s r) (sym e)
      ∙ sym (newest_cong g f (g r) r (λ d l. stamps d (omega arith)));
}

-- ---- a rank put on a chain

-- the ranks below r are on their chains
pub record LinksTo (names : List ℕ) (named : ℕ) (w₀ w : List ℕ) (r : ℕ) : Type 0 where
  pub high : r ≤ named
  pub same : SameBut below_column (most_names + most_stamps) w₀ w
  pub linked : Linked (stamp_in names w₀) r w

module _ {names : List ℕ} {named : ℕ} (index : Index names named) where
  -- the chains are cleared
  pub links_start : {before w : List ℕ} → Zeroed highest_column most_stamps before w → LinksTo names named w w 0
  unfolding newest
  links_start z = record {
    high = omega arith;
    same = record { same_length = refl; same_words = λ i h. refl };
    linked = record { last = λ s h. z.zero (highest_column + s) (omega arith) (omega arith); below = λ r h p l. absurd (omega arith) };
  }

  module _ {before w₀ w : List ℕ} {r : ℕ} (z : Zeroed highest_column most_stamps before w₀) (room : working_words ≤ length before)
      (stamps : (q : ℕ) → q < named → stamp_in names before q ≤ most_stamps) (c : LinksTo names named w₀ w r) (h : r < named) {n x : ℕ}
      (e : n ≡ ranked names r) (d : x ≡ get_or w (stamp_column + n) 0) where
    size_is : length w ≡ length before
    size_is = c.same.same_length ∙ z.same.same_length

    -- the stamp is that of the start
    stamp_is : x ≡ stamp_in names w₀ r
    stamp_is = d ∙ c.same.same_words (stamp_column + n) (λ a b. omega arith) ∙ ap (λ (m : ℕ). get_or w₀ (stamp_column + m) 0) e

    pub stamp_low : x ≤ most_stamps
    stamp_low =
        let a = stamps r h in
        let b = stamp_is in
        let y = z.same.same_words (stamp_column + ranked names r) (λ p q. omega arith) in
        omega arith

    -- the words of its chain are in the slice
    pub last_in : (x ≡ 0 → ⊥) → highest_column + (x - 1) < length w
    last_in p = let a = stamp_low in let b = size_is in omega (arith, p)

    pub last_still : (x ≡ 0 → ⊥) → highest_column + (x - 1) < length (set w (below_column + r) (get_or w (highest_column + (x - 1)) 0))
    last_still p = lt-length-set w (below_column + r) (get_or w (highest_column + (x - 1)) 0) (last_in p)

    pub below_in : below_column + r < length w
    below_in = let a = index.few in let b = size_is in omega arith

    -- a name without a stamp
    pub links_skip : x ≡ 0 → LinksTo names named w₀ w (r + 1)
    links_skip o = record {
      high = omega arith;
      same = c.same;
      linked = record {
        last = λ s l. c.linked.last s l ∙ sym (newest_other (stamp_in names w₀) (s + 1) r (λ q. let b = stamp_is in omega arith));
        below = λ q l p d. ⊎_elim
            (λ (y : q ≡ r).
            let b = stamp_is in
            let g : 0 < stamp_in names w₀ r = subst (λ (m : ℕ). 0 < stamp_in names w₀ m) y p in
            absurd (omega arith))
            (λ (y : q ≡ r → ⊥). c.linked.below q (omega (arith, y)) p d) (equal q r);
      };
    }

    -- a name with one
    pub links_next : (x ≡ 0 → ⊥)
        → LinksTo names named w₀ (set (set w (below_column + r) (get_or w (highest_column + (x - 1)) 0)) (highest_column + (x - 1)) (r + 1)) (r + 1)
    links_next o =
        let few = index.few in
        let low = stamp_low in
        let pos : 0 < x = omega (arith, o) in
        let st : x - 1 + 1 ≡ stamp_in names w₀ r = (let b = stamp_is in omega arith) in
        let v : List ℕ = set w (below_column + r) (get_or w (highest_column + (x - 1)) 0) in
        record {
          high = omega arith;
          same = same_then c.same
              (same_then (same_set below_column (most_names + most_stamps) w (below_column + r) (get_or w (highest_column + (x - 1)) 0) (omega arith) (omega arith))
              (same_set below_column (most_names + most_stamps) v (highest_column + (x - 1)) (r + 1) (omega arith) (omega arith)));
          linked = record {
            last = λ s l. ⊎_elim
                (λ (y : s ≡ x - 1).
                rw y (get_or-set_same v (highest_column + (x - 1)) (r + 1) 0 (last_still o)
                ∙ sym (newest_here (stamp_in names w₀) (x - 1 + 1) r (sym st))))
                (λ (y : s ≡ x - 1 → ⊥).
                get_or-set_other v (highest_column + (x - 1)) (highest_column + s) (r + 1) 0 (λ q. y (omega arith))
                ∙ get_or-set_other w (below_column + r) (highest_column + s) (get_or w (highest_column + (x - 1)) 0) 0 (λ q. omega arith)
                ∙ c.linked.last s l ∙ sym (newest_other (stamp_in names w₀) (s + 1) r (λ q. y (omega arith))))
                (equal s (x - 1));
            below = λ q l p d.
                get_or-set_other v (highest_column + (x - 1)) (below_column + q) (r + 1) 0 (λ y. omega arith)
                ∙ ⊎_elim
                (λ (y : q ≡ r).
                rw y (get_or-set_same w (below_column + r) (get_or w (highest_column + (x - 1)) 0) 0 below_in ∙ c.linked.last (x - 1) (omega arith)
                ∙ ap (λ (m : ℕ). newest (stamp_in names w₀) m r) st))
                (λ (y : q ≡ r → ⊥).
                get_or-set_other w (below_column + r) (below_column + q) (get_or w (highest_column + (x - 1)) 0) 0 (λ k. y (omega arith))
                ∙ c.linked.below q (omega (arith, y)) p d)
                (equal q r);
          };
        }

  pub links_end : {before w₀ w : List ℕ} {r : ℕ} → Zeroed highest_column most_stamps before w₀ → LinksTo names named w₀ w r → named ≤ r
      → Links names before w named
  links_end {before} {w₀} {w} {r} z c h =
      let b = c.high in
      let e : r ≡ named = omega arith in
      record {
        linked = linked_same (subst (λ (n : ℕ). Linked (stamp_in names w₀) n w) e c.linked)
            (λ q l. sym (z.same.same_words (stamp_column + ranked names q) (λ a d. omega arith)))
            (λ j l. refl) index.few;
        same = same_then (same_wider below_column (most_names + most_stamps) (omega arith) (omega arith) z.same) c.same;
      }
