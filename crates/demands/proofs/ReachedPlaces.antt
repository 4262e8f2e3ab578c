-- Of two reached facts of a file the one with the lower name stands first in the list, and no other.
use Prim.Native.Nat.{ℕ}
use mathlib.Core.Path.{◌≡◌, refl, sym, ◌∙◌, ap, subst}
use mathlib.Core.Logic.{◌⊎◌, inl, inr}
use mathlib.Core.List.Memᴰ
use mathlib.Core.List.{List, [], ◌∷◌, ◌++◌, map, map-append, append_assoc, Memᴰ}
use Rattle.model.specs.Names.{order}
use Rattle.std.specs.declared.cmp.Ordering.TheVariants.{Less as Before}
use Rattle.model.specs.Summaries.{Fact}
use Rattle.model.specs.Reading.{Ask, State}
use Rattle.model.specs.Rounds.{facts}
use Rattle.model.specs.Kept.{ambients, kept_facts}
use Rattle.model.specs.Bodies.{kept_followed}
use Rattle.model.proofs.ListLaws.{map_intro}
use Rattle.model.proofs.SetLaws.{Ascending, ascending_tail, ascending_head, order_trans, order_irrefl, mem_intro}
use Rattle.demands.specs.LinesRead.{LinesRead, records_for, Distinct}
use Rattle.demands.specs.Demand2.{followed_list}
use Rattle.demands.specs.Sequence.{reached_for, StandsBefore, first, later}
use Rattle.demands.proofs.Distinct.{distinct_head, distinct_tail}
use Rattle.demands.proofs.Facts.{fact_names}
use Rattle.demands.proofs.ListedLaws.{reached_ascending}
use Rattle.demands.proofs.Background.{well_for}
use Rattle.demands.proofs.Bodies.{followed_once}

-- a number stands before another after the first, or is the first
before_cons : {k m n : ℕ} {l : List ℕ} → StandsBefore (k ∷ l) m n → ((k ≡ m) × Memᴰ n l) ⊎ StandsBefore l m n
before_cons (first i) = inl (refl, i)
before_cons (later b) = inr b

before_left : {m n : ℕ} {l : List ℕ} → StandsBefore l m n → Memᴰ m l
before_left (first i) = Memᴰ.head refl
before_left (later b) = Memᴰ.tail (before_left b)

before_right : {m n : ℕ} {l : List ℕ} → StandsBefore l m n → Memᴰ n l
before_right (first i) = Memᴰ.tail i
before_right (later b) = Memᴰ.tail (before_right b)

-- the line of a fact
abbrev fact_line : Fact → ℕ
fact_line f = f.line

-- facts listed by name: one before another has the lower name
stands_order : (rest : List ℕ) (fs : List Fact) → Ascending (fact_names fs) → Distinct (map fact_line fs ++ rest) → {f g : Fact} → Memᴰ f fs → Memᴰ g fs
    → StandsBefore (map fact_line fs ++ rest) f.line g.line → order f.name g.name ≡ Before
stands_order rest [] asc once i j b = absurd (Memᴰ.not-nil i)
stands_order rest (x ∷ fs) asc once {f} {g} i j b =
    go (stands_order rest fs (ascending_tail asc) (distinct_tail once) {f = f} {g = g}) (Memᴰ.cases_cons i) (Memᴰ.cases_cons j) (before_cons b)
  where
    tail : List ℕ
    tail = map fact_line fs ++ rest

    new : {n : ℕ} → n ≡ x.line → Memᴰ n tail → ⊥
    new e k = distinct_head once (Memᴰ.cast (sym e) k)

    in_tail : {h : Fact} → Memᴰ h fs → Memᴰ h.line tail
    in_tail k = Memᴰ.append_left rest (map_intro fact_line k)

    go : (Memᴰ f fs → Memᴰ g fs → StandsBefore tail f.line g.line → order f.name g.name ≡ Before)
        → (f ≡ x) ⊎ Memᴰ f fs → (g ≡ x) ⊎ Memᴰ g fs → ((x.line ≡ f.line) × Memᴰ g.line tail) ⊎ StandsBefore tail f.line g.line
        → order f.name g.name ≡ Before
    go below (inl p) (inl q) (inl (e, k)) = absurd (new (ap fact_line q) k)
    go below (inl p) (inr q) (inl (e, k)) = rw p (ascending_head asc g.name (mem_intro (map_intro (λ (f : Fact). f.name) q)))
    go below (inr p) q (inl (e, k)) = absurd (new (sym e) (in_tail p))
    go below (inl p) q (inr c) = absurd (new (ap fact_line p) (before_left c))
    go below (inr p) (inl q) (inr c) = absurd (new (ap fact_line q) (before_right c))
    go below (inr p) (inr q) (inr c) = below p q c

-- and one with the lower name stands before the other
order_stands : (rest : List ℕ) (fs : List Fact) → Ascending (fact_names fs) → {f g : Fact} → Memᴰ f fs → Memᴰ g fs
    → order f.name g.name ≡ Before → StandsBefore (map fact_line fs ++ rest) f.line g.line
order_stands rest [] asc i j o = absurd (Memᴰ.not-nil i)
order_stands rest (x ∷ fs) asc {f} {g} i j o = go (order_stands rest fs (ascending_tail asc) {f = f} {g = g}) (Memᴰ.cases_cons i) (Memᴰ.cases_cons j)
  where
    go : (Memᴰ f fs → Memᴰ g fs → order f.name g.name ≡ Before → StandsBefore (map fact_line fs ++ rest) f.line g.line)
        → (f ≡ x) ⊎ Memᴰ f fs → (g ≡ x) ⊎ Memᴰ g fs → StandsBefore (x.line ∷ (map fact_line fs ++ rest)) f.line g.line
    go below (inl p) (inl q) = absurd (order_irrefl o (ap (λ (f : Fact). f.name) (p ∙ sym q)))
    go below (inl p) (inr q) = rw p (first (Memᴰ.append_left rest (map_intro fact_line q)))
    go below (inr p) (inl q) =
        absurd (order_irrefl (order_trans f.name g.name f.name o (rw q (ascending_head asc f.name (mem_intro (map_intro (λ (f : Fact). f.name) p))))) refl)
    go below (inr p) (inr q) = later (below p q o)

-- the lines of facts, parted
split_front : (fs gs : List Fact) (rest : List ℕ) → map fact_line (fs ++ gs) ++ rest ≡ map fact_line fs ++ (map fact_line gs ++ rest)
split_front fs gs rest = ap (◌++ rest) (map-append fact_line fs gs) ∙ append_assoc (map fact_line fs) (map fact_line gs) rest

module _ (file : List ℕ) (s : State) (e : LinesRead file s) (a : Ask) where
  -- the reached facts stand first
  reached_first : (rest : List ℕ) × (followed_list a s ≡ map fact_line (reached_for a s) ++ rest)
  unfolding kept_followed kept_facts
  reached_first = (_, split_front (reached_for a s) (ambients a (facts (records_for a s))) _)

  -- of two reached facts, the one that stands before the other has the lower name
  pub listed_order : {f g : Fact} → Memᴰ f (reached_for a s) → Memᴰ g (reached_for a s) → StandsBefore (followed_list a s) f.line g.line → order f.name g.name ≡ Before
  listed_order {f} {g} i j b =
      let (rest, is) = reached_first in
      stands_order rest (reached_for a s) (reached_ascending a (records_for a s) s.roots (well_for file s e a))
      (subst Distinct is (followed_once file s e a)) i j (subst (λ l. StandsBefore l f.line g.line) is b)

  -- and back
  pub order_listed : {f g : Fact} → Memᴰ f (reached_for a s) → Memᴰ g (reached_for a s) → order f.name g.name ≡ Before → StandsBefore (followed_list a s) f.line g.line
  order_listed {f} {g} i j o =
      let (rest, is) = reached_first in
      subst (λ l. StandsBefore l f.line g.line) (sym is)
      (order_stands rest (reached_for a s) (reached_ascending a (records_for a s) s.roots (well_for file s e a)) i j o)
