-- Adding names to a slice, each once: what one step comes to, and several one after the other.
use Prim.Native.Nat.{ℕ, ◌+◌, ◌-◌, ◌≤◌, ◌<◌}
use native.Mathlib.Omega.{arith}
use mathlib.Core.Path.{◌≡◌, refl, sym, ap, ◌∙◌}
use mathlib.Core.Logic.{◌⊎◌, inl, inr, ⊎_elim}
use mathlib.Core.List.{List}
use lib.ListN.{length, get_or, set}
use lib.Seq.{get_or-set_same, get_or-set_other}
use Rattle.words.proofs.Slices.{same_self, same_then, same_wider, same_set}
use Rattle.std.specs.Prelude.{Option, None as none, Some as some}
use Rattle.gather.specs.Sets.{name_mark, ended}
use Rattle.terms.proofs.Laws.{equal}
use Rattle.gather.specs.Walks.{MarkedListed, Comes, whole, over, Steps}

module _ {P : ℕ → Type 0} {names lists : List ℕ} {mark count room : ℕ} where
  -- nothing is added: every name of the set has the mark
  pub steps_stay : count ≤ room → ((k : ℕ) → P k → name_mark names k ≡ mark) → Steps P names lists names lists mark count room (some count)
  unfolding ended
  steps_stay h all = record {
    names_same = same_self 8192 2048 names;
    lists_same = same_self count (count - count) lists;
    name_marks = λ k l. inr refl;
    grows = omega arith;
    fits = h;
    listed = λ from l r. r;
    sound = λ k l e. inl e;
    comes = whole all;
  }

  -- nothing is added: there is no room for a name of the set
  pub steps_over : {k : ℕ} → count ≤ room → room ≤ count → P k → k < 2048 → (name_mark names k ≡ mark → ⊥)
      → Steps P names lists names lists mark count room none
  unfolding ended
  steps_over h g p l n = record {
    names_same = same_self 8192 2048 names;
    lists_same = same_self count (room - count) lists;
    name_marks = λ k l. inr refl;
    grows = omega arith;
    fits = omega arith;
    listed = λ from l r. let e : count ≡ room = omega arith in rw e at r;
    sound = λ k l e. inl e;
    comes = over p l n;
  }

-- a slice of names with one name more
module _ (names lists : List ℕ) (mark count k : ℕ) (small : k < 2048) (long : 16384 ≤ length names) (room : count < length lists)
    (new : name_mark names k ≡ mark → ⊥) where
  -- the name has the mark
  mark_same : name_mark (set names (8192 + k) mark) k ≡ mark
  mark_same = get_or-set_same names (8192 + k) mark 0 (omega arith)

  -- the mark of any other name stays
  mark_other : (m : ℕ) → (m ≡ k → ⊥) → name_mark (set names (8192 + k) mark) m ≡ name_mark names m
  mark_other m n = get_or-set_other names (8192 + k) (8192 + m) mark 0 (λ e. n (omega arith))

  -- the name stands at the count
  lists_same : get_or (set lists count k) count 0 ≡ k
  lists_same = get_or-set_same lists count k 0 room

  -- the words before it stay
  lists_other : (i : ℕ) → i < count → get_or (set lists count k) i 0 ≡ get_or lists i 0
  lists_other i h = get_or-set_other lists count i k 0 (λ e. omega arith)

  -- the slice lists the name too
  listed_more : (from : ℕ) → from ≤ count → MarkedListed names lists mark from count → MarkedListed (set names (8192 + k) mark) (set lists count k) mark from (count + 1)
  listed_more from h r = record {
    place = λ m l e. place m l e (equal m k);
    small = λ i a b. small' i a (equal i count) b;
    marked = λ i a b. marked' i a (equal i count) b;
    once = λ i j a b c. once' i j a b c (equal j count);
  }
    where
      place : (m : ℕ) → m < 2048 → name_mark (set names (8192 + k) mark) m ≡ mark → (m ≡ k) ⊎ (m ≡ k → ⊥)
          → (i : ℕ) × ((from ≤ i) × (i < count + 1) × (get_or (set lists count k) i 0 ≡ m))
      place m l e (inl f) = (count, (h, omega arith, lists_same ∙ sym f))
      place m l e (inr f) = let (i, (a, b, g)) = r.place m l (sym (mark_other m f) ∙ e) in (i, (a, omega arith, lists_other i b ∙ g))

      small' : (i : ℕ) → from ≤ i → (i ≡ count) ⊎ (i ≡ count → ⊥) → i < count + 1 → get_or (set lists count k) i 0 < 2048
      small' i a (inl e) b = rw (e, lists_same) small
      small' i a (inr e) b =
          let l : i < count = omega arith in
          rw (lists_other i l) (r.small i a l)

      marked' : (i : ℕ) → from ≤ i → (i ≡ count) ⊎ (i ≡ count → ⊥) → i < count + 1 → name_mark (set names (8192 + k) mark) (get_or (set lists count k) i 0) ≡ mark
      marked' i a (inl e) b = rw (e, lists_same) mark_same
      marked' i a (inr e) b =
          let l : i < count = omega arith in
          rw (lists_other i l) (mark_other (get_or lists i 0) (λ f. new (rw f at (r.marked i a l))) ∙ r.marked i a l)

      once' : (i j : ℕ) → from ≤ i → i < j → j < count + 1 → (j ≡ count) ⊎ (j ≡ count → ⊥) → get_or (set lists count k) i 0 ≡ get_or (set lists count k) j 0 → ⊥
      once' i j a b c (inl e) f =
          let l : i < count = omega arith in
          let g : get_or lists i 0 ≡ k = sym (lists_other i l) ∙ f ∙ ap (λ n. get_or (set lists count k) n 0) e ∙ lists_same in
          new (rw g at (r.marked i a l))
      once' i j a b c (inr e) f =
          let l : j < count = omega arith in
          r.once i j a b l (sym (lists_other i (omega arith)) ∙ f ∙ lists_other j l)

-- one name is added: the set's only one
pub steps_one : {P : ℕ → Type 0} {names lists : List ℕ} {mark count room : ℕ} (k : ℕ) → k < 2048 → 16384 ≤ length names → count < room → room ≤ length lists
    → (name_mark names k ≡ mark → ⊥) → P k → ((m : ℕ) → P m → k ≡ m)
    → Steps P names lists (set names (8192 + k) mark) (set lists count k) mark count room (some (count + 1))
unfolding ended
steps_one {P} {names} {lists} {mark} {count} {room} k small long low high new p only =
    let same = mark_same names lists mark count k small long (omega arith) new in
    let other = mark_other names lists mark count k small long (omega arith) new in
    record {
      names_same = same_set 8192 2048 names (8192 + k) mark (omega arith) (omega arith);
      lists_same = same_set count (count + 1 - count) lists count k (omega arith) (omega arith);
      name_marks = λ m l. ⊎_elim (λ e. inl (rw e same)) (λ n. inr (other m n)) (equal m k);
      grows = omega arith;
      fits = omega arith;
      listed = listed_more names lists mark count k small long (omega arith) new;
      sound = λ m l e. ⊎_elim (λ f. inr (rw f p)) (λ n. inl (sym (other m n) ∙ e)) (equal m k);
      comes = whole (λ m q. rw (← (only m q)) same);
    }

-- a name with the mark keeps it
pub steps_kept : {P : ℕ → Type 0} {names lists names' lists' : List ℕ} {mark count room : ℕ} {r : Option ℕ} → Steps P names lists names' lists' mark count room r
    → (k : ℕ) → k < 2048 → name_mark names k ≡ mark → name_mark names' k ≡ mark
steps_kept s k l e = ⊎_elim (λ f. f) (λ f. f ∙ e) (s.name_marks k l)

module _ {P Q : ℕ → Type 0} where
  -- what comes of a set comes of one with the same names
  comes_as : {names : List ℕ} {mark : ℕ} {r : Option ℕ} → ((k : ℕ) → P k → Q k) → ((k : ℕ) → Q k → P k) → Comes P names mark r → Comes Q names mark r
  comes_as f g (whole a) = whole (λ k q. a k (g k q))
  comes_as f g (over p l n) = over (f _ p) l n

  -- the same of a set with the same names
  pub steps_as : {names lists names' lists' : List ℕ} {mark count room : ℕ} {r : Option ℕ} → ((k : ℕ) → P k → Q k) → ((k : ℕ) → Q k → P k)
      → Steps P names lists names' lists' mark count room r → Steps Q names lists names' lists' mark count room r
  steps_as f g s = record {
    names_same = s.names_same;
    lists_same = s.lists_same;
    name_marks = s.name_marks;
    grows = s.grows;
    fits = s.fits;
    listed = s.listed;
    sound = λ k l e. ⊎_elim inl (λ p. inr (f k p)) (s.sound k l e);
    comes = comes_as f g s.comes;
  }

  -- a name without room is one of a larger set
  comes_full : {names : List ℕ} {mark : ℕ} → ((k : ℕ) → P k → Q k) → Comes P names mark none → Comes Q names mark none
  comes_full f (over p l n) = over (f _ p) l n

  -- where there is no room for a set there is none for a larger one
  pub steps_full : {names lists names' lists' : List ℕ} {mark count room : ℕ} → ((k : ℕ) → P k → Q k) → Steps P names lists names' lists' mark count room none
      → Steps Q names lists names' lists' mark count room none
  steps_full f s = record {
    names_same = s.names_same;
    lists_same = s.lists_same;
    name_marks = s.name_marks;
    grows = s.grows;
    fits = s.fits;
    listed = s.listed;
    sound = λ k l e. ⊎_elim inl (λ p. inr (f k p)) (s.sound k l e);
    comes = comes_full f s.comes;
  }

  -- what comes of two sets, one after the other
  comes_more : {names names' : List ℕ} {mark n : ℕ} {r : Option ℕ} → ((k : ℕ) → P k → k < 2048)
      → ((k : ℕ) → k < 2048 → name_mark names k ≡ mark → name_mark names' k ≡ mark)
      → Comes P names mark (some n) → Comes Q names' mark r → Comes (λ k. P k ⊎ Q k) names' mark r
  comes_more b kept (whole a) (whole c) = whole (λ k s. ⊎_elim (λ p. kept k (b k p) (a k p)) (c k) s)
  comes_more b kept (whole a) (over q l n) = over (inr q) l n

  -- one set after another
  pub steps_then : {names lists names' lists' names'' lists'' : List ℕ} {mark count n room : ℕ} {r : Option ℕ} → ((k : ℕ) → P k → k < 2048)
      → Steps P names lists names' lists' mark count room (some n) → Steps Q names' lists' names'' lists'' mark n room r
      → Steps (λ k. P k ⊎ Q k) names lists names'' lists'' mark count room r
  unfolding ended
  steps_then {count} {n} {room} {r} b s t =
      let g : count ≤ n = s.grows in
      let m : n ≤ ended room r = t.grows in
      record {
        names_same = same_then s.names_same t.names_same;
        lists_same = same_then (same_wider count (ended room r - count) (omega arith) (omega arith) s.lists_same)
            (same_wider count (ended room r - count) g (omega arith) t.lists_same);
        name_marks = λ k l. ⊎_elim inl (λ e. ⊎_elim (λ f. inl (e ∙ f)) (λ f. inr (e ∙ f)) (s.name_marks k l)) (t.name_marks k l);
        grows = omega (arith, t.grows);
        fits = t.fits;
        listed = λ from l r. t.listed from (omega arith) (s.listed from l r);
        sound = λ k l e. ⊎_elim (λ f. ⊎_elim inl (λ p. inr (inl p)) (s.sound k l f)) (λ q. inr (inr q)) (t.sound k l e);
        comes = comes_more b (steps_kept t) s.comes t.comes;
      }
