-- The stamps of the names of a body.
use Prim.Native.Nat.{ℕ, ◌+◌, ◌≤◌, ◌<◌}
use native.Mathlib.Omega.{arith}
use mathlib.Core.Path.{◌≡◌, refl, sym, ◌∙◌, ap}
use mathlib.Core.Bool.{Bool, true, false, cond, ◌||◌}
use mathlib.Core.List.{List, [], ◌∷◌, Memᴰ}
use lib.Dec.{eqb}
use lib.ListN.{length, get_or, set, length-set}
use lib.Seq.{get_or-set_same, get_or-set_other}
use borrow.Author.Tests.{eqb-true, eqb-false, eq-eqb, ne_eqb}
use Rattle.model.specs.Lists.{any, part}
use Rattle.model.specs.Reading.{most_names}
use Rattle.model.specs.Outcome.{working_words}
use Rattle.model.proofs.ListLaws.{collect_cong}
use Rattle.model.proofs.PartLaws.{part_cons, part_nil}
use Rattle.words.specs.Slices.{SameBut, Zeroed}
use Rattle.words.proofs.Slices.{same_self, same_then, same_set}
use Rattle.names.specs.Table.{ranked}
use Rattle.records.specs.Columns.{record_kind, uses_end, def_kind}
use Rattle.records.specs.States.{uses_at}
use Rattle.records.specs.Filing.{Records}
use Rattle.prune.specs.Listing.{from, is_among}
use Rattle.prune.specs.Loops.{Index}
use Rattle.prune.proofs.Ranges.{from_below}
use Rattle.prune.proofs.Noting.{uses_small}
use Rattle.precedence.specs.Sorts.{late_at, rank_row, body_rows, def_rows, has_stamp, stamps}
use Rattle.precedence.specs.Loops.{StampsBelow, StampedTo}

-- ---- words stamped

stamps_length : (s : ℕ) (w ns : List ℕ) → length (stamps s w ns) ≡ length w
unfolding stamps
stamps_length s w [] = refl
stamps_length s w (n ∷ ns) = stamps_length s (set w n s) ns ∙ length-set w n s

-- the word of a name: the stamp, if it is one of them
stamps_at : (s : ℕ) (w ns : List ℕ) (n : ℕ) → n < length w → get_or (stamps s w ns) n 0 ≡ cond (is_among n ns) s (get_or w n 0)
unfolding stamps is_among any
stamps_at s w [] n h = refl
stamps_at s w (m ∷ ns) n h =
    stamps_at s (set w m s) ns n (let l = length-set w m s in omega arith) ∙ go (eqb m n) refl (is_among n ns)
  where
    go : (b : Bool) → eqb m n ≡ b → (c : Bool) → cond c s (get_or (set w m s) n 0) ≡ cond (b || c) s (get_or w n 0)
    go true e true = refl
    go true e false = let q : m ≡ n = eqb-true m n e in rw q (get_or-set_same w n s 0 h)
    go false e true = refl
    go false e false = get_or-set_other w m n s 0 (λ q. eqb-false m n e (sym q))

-- only words of names change
stamps_same : (s most : ℕ) (w ns : List ℕ) → ((n : ℕ) → Memᴰ n ns → n < most) → SameBut 0 most w (stamps s w ns)
unfolding stamps
stamps_same s most w [] low = same_self 0 most w
stamps_same s most w (n ∷ ns) low =
    same_then (same_set 0 most w n s (omega arith) (let h = low n (Memᴰ.head refl) in omega arith))
    (stamps_same s most (set w n s) ns (λ m i. low m (Memᴰ.tail i)))

module _ (refs ns : List ℕ) (i : ℕ) (below : StampsBelow refs i) (room : working_words ≤ length refs) where
  -- the names with the stamp are those stamped
  pub stamped_is : (n : ℕ) → n < most_names → has_stamp (stamps (i + 1) refs ns) i n ≡ is_among n ns
  stamped_is n h = ap (λ (x : ℕ). eqb x (i + 1)) (stamps_at (i + 1) refs ns n (omega arith)) ∙ go (is_among n ns)
    where
      go : (b : Bool) → eqb (cond b (i + 1) (get_or refs n 0)) (i + 1) ≡ b
      go true = eq-eqb (i + 1) (i + 1) refl
      go false = let l = below n h in ne_eqb (get_or refs n 0) (i + 1) (λ e. omega arith)

  -- none is above it
  stamped_below : StampsBelow (stamps (i + 1) refs ns) (i + 1)
  stamped_below n h = rw (stamps_at (i + 1) refs ns n (omega arith)) (go (is_among n ns))
    where
      go : (b : Bool) → cond b (i + 1) (get_or refs n 0) ≤ i + 1
      go true = omega arith
      go false = let l = below n h in omega arith

-- ---- a body stamped name after name

-- the names from j on are left
pub record StampTo (lists refs₀ : List ℕ) (s a e : ℕ) (refs : List ℕ) (j : ℕ) : Type 0 where
  pub left : stamps s refs₀ (part lists a e) ≡ stamps s refs (part lists j e)
  pub same_length : length refs ≡ length refs₀

pub stamp_start : (lists refs : List ℕ) (s a e : ℕ) → StampTo lists refs s a e refs a
stamp_start lists refs s a e = record { left = refl; same_length = refl }

pub stamp_next : {lists refs₀ : List ℕ} {s a e : ℕ} {refs : List ℕ} {j n : ℕ} → StampTo lists refs₀ s a e refs j → j < e → e ≤ length lists
    → n ≡ get_or lists j 0 → StampTo lists refs₀ s a e (set refs n s) (j + 1)
unfolding stamps
stamp_next {lists} {refs₀} {s} {a} {e} {refs} {j} {n} g h room q =
    record {
      left = g.left ∙ ap (stamps s refs) (part_cons lists j e h room) ∙ ap (λ (m : ℕ). stamps s (set refs m s) (part lists (j + 1) e)) (sym q);
      same_length = length-set refs n s ∙ g.same_length;
    }

pub stamp_end : {lists refs₀ : List ℕ} {s a e : ℕ} {refs : List ℕ} {j b f : ℕ} → StampTo lists refs₀ s a e refs j → e ≤ j → a ≡ b → e ≡ f
    → refs ≡ stamps s refs₀ (part lists b f)
unfolding stamps
stamp_end {lists} {s = s} {e = e} {refs} {j} g h p q = sym (g.left ∙ ap (stamps s refs) (part_nil lists j e h)) ∙ rw (p, q)

-- ---- a def and its body

module _ {recs lists : List ℕ} {named records filed uses : ℕ} (x : Records recs lists named records filed uses) {i : ℕ} (h : i < records) where
  -- where its free names end
  pub uses_fit : {e : ℕ} → e ≡ uses_end recs i → e ≤ length lists
  uses_fit q = let a = x.uses_in i h in let b = x.few_uses in let c = x.lists_room in omega arith

  -- they are names
  pub use_low : {e j n : ℕ} → e ≡ uses_end recs i → j < e → n ≡ get_or lists j 0 → n < named
  use_low {e} {j} q l p = let a = x.uses_in i h in let b = x.use_words j (omega arith) in omega arith

module _ (recs lists refs : List ℕ) {names : List ℕ} {named i : ℕ} {refs' : List ℕ} (index : Index names named) (below : StampsBelow refs i)
    (room : working_words ≤ length refs) (stamped : refs' ≡ stamps (i + 1) refs (uses_at recs lists i)) where
  -- the rows of the names with its stamp are those of its body
  pub body_stamped : {x : ℕ} → x ≡ record_kind recs i → x ≡ def_kind
      → body_rows names recs (has_stamp refs' i) named i ≡ def_rows names recs lists named i
  unfolding body_rows def_rows rank_row late_at
  body_stamped {x} q d =
      rw (stamped, ← q, eq-eqb x def_kind d)
      (collect_cong (rank_row names recs (has_stamp (stamps (i + 1) refs (uses_at recs lists i)) i) i) (rank_row names recs (λ n. is_among n (uses_at recs lists i)) i) (from 0 named)
      (λ r m. same r (from_below named m)))
    where
      same : (r : ℕ) → r < named → rank_row names recs (has_stamp (stamps (i + 1) refs (uses_at recs lists i)) i) i r
          ≡ rank_row names recs (λ n. is_among n (uses_at recs lists i)) i r
      same r h =
          let l = index.numbers r h in
          let f = index.few in
          rw (stamped_is refs (uses_at recs lists i) i below room (ranked names r) (omega arith))

  -- the names stamped
  pub body_stamps : {records filed uses : ℕ} → Records recs lists named records filed uses → i < records → StampedTo refs refs' (i + 1)
  body_stamps x h =
      let f = index.few in
      rw stamped
      (record {
        below = stamped_below refs (uses_at recs lists i) i below room;
        same = stamps_same (i + 1) most_names refs (uses_at recs lists i) (λ n m. let l = uses_small x h m in omega arith);
      })

-- another record has no rows, and stamps nothing
pub def_none : (names recs lists : List ℕ) (named i : ℕ) {x : ℕ} → x ≡ record_kind recs i → (x ≡ def_kind → ⊥) → def_rows names recs lists named i ≡ []
unfolding def_rows
def_none names recs lists named i {x} q d = rw (← q, ne_eqb x def_kind d)

pub none_stamped : (refs : List ℕ) (i : ℕ) → StampsBelow refs i → StampedTo refs refs (i + 1)
none_stamped refs i below =
    record { below = λ n h. let l = below n h in omega arith; same = same_self 0 most_names refs }

-- one record after another
pub stamped_then : {u v w : List ℕ} {s t : ℕ} → StampedTo u v s → StampedTo v w t → StampedTo u w t
stamped_then a b = record { below = b.below; same = same_then a.same b.same }

-- cleared, no name has a stamp
pub stamps_cleared : {before after : List ℕ} → Zeroed 0 most_names before after → StampedTo after after 0
stamps_cleared {after = after} z =
    record { below = λ n h. let e = z.zero n (omega arith) (omega arith) in omega arith; same = same_self 0 most_names after }
