-- Entries visited, one after the other: what it does to the state and the slice.
use Prim.Native.Nat.{ℕ, ◌+◌, ◌≤◌, ◌<◌}
use native.Mathlib.Omega.{arith}
use mathlib.Core.Path.{◌≡◌, refl, sym, ◌∙◌, ap}
use mathlib.Core.Bool.{Bool, true, false, not, ◌&&◌, ◌||◌, or_assoc}
use mathlib.Core.Logic.{◌⊎◌, inl, inr, ⊎_elim}
use mathlib.Core.List.Memᴰ
use mathlib.Core.List.{List, [], ◌∷◌, ◌++◌, Memᴰ}
use lib.Dec.{T, not_T, T_not, ltb, lt→ltb}
use lib.ListN.{length, get_or, set, length-set, length-append}
use lib.Seq.{get_or-set_same, get_or-set_other}
use Rattle.model.specs.Lists.{any, all, fold_left}
use Rattle.model.specs.Reading.{most_names, most_records}
use Rattle.model.proofs.ListLaws.{any_cong, any_append, all_intro, all_elim, T_ext, T_and, T_dec, branch}
use Rattle.terms.proofs.Laws.{equal, below}
use Rattle.firing.specs.Held.{Held, Fits}
use Rattle.firing.specs.Met.{reached_column, work_column, run_end, is_met, is_reached, unreached}
use Rattle.firing.specs.Firing.{fires_on}
use Rattle.scan.specs.Steps.{Going, work_room, reach_record, counted, visit, visits_of, Room}
use Rattle.firing.proofs.Numbers.{not_not, count_less, count_some}

all_cong : (p q : ℕ → Bool) (l : List ℕ) → ((n : ℕ) → Memᴰ n l → p n ≡ q n) → all p l ≡ all q l
all_cong p q l e =
    T_ext (λ t. all_intro q l (λ n m. rw (e n m) at (all_elim p t m))) (λ t. all_intro p l (λ n m. rw (e n m) (all_elim q t m)))

-- firing asks only of the names
fires_same : (h : Held) → Fits h → (w v : List ℕ) → ((n : ℕ) → n < most_names → get_or w n 0 ≡ get_or v n 0) → (i : ℕ) → i < h.records
    → fires_on h (is_met w) i ≡ fires_on h (is_met v) i
unfolding fires_on is_met
fires_same h fits w v e i l =
    any_cong (all (is_met w)) (all (is_met v)) (h.disjuncts i)
    (λ d m. all_cong (is_met w) (is_met v) d
    (λ n k. let s = fits.disjuncts_small i n d l m k in let few = fits.few_names in ap (ltb 0) (e n (omega arith))))

-- from one state to another entries were visited
pub record Fired (h : Held) (g₀ g : Going) (es : List ℕ) : Type 0 where
  pub same_length : length g.run ≡ length g₀.run
  pub met_same : (n : ℕ) → n < most_names → get_or g.run n 0 ≡ get_or g₀.run n 0
  pub far_same : (k : ℕ) → run_end ≤ k → get_or g.run k 0 ≡ get_or g₀.run k 0
  pub from_same : g.scan.from ≡ g₀.scan.from
  pub rounds_same : g.scan.rounds ≡ g₀.scan.rounds
  pub visits_up : g.scan.visits ≡ g₀.scan.visits + length es
  pub triggered_is : g.scan.triggered ≡ (g₀.scan.triggered || any (λ e. fires_on h (is_met g₀.run) (h.entry_fact e)) es)
  pub reached_old : (i : ℕ) → i < most_records → T (is_reached g₀.run i) → T (is_reached g.run i)
  pub reached_in : (e : ℕ) → Memᴰ e es → T (fires_on h (is_met g₀.run) (h.entry_fact e)) → T (h.retains (h.entry_fact e))
      → T (is_reached g.run (h.entry_fact e))
  pub reached_from : (i : ℕ) → i < most_records → T (is_reached g.run i)
      → T (is_reached g₀.run i)
      ⊎ ((e : ℕ) × Memᴰ e es × (h.entry_fact e ≡ i) × T (fires_on h (is_met g₀.run) i) × T (h.retains i))
  -- the round in which a record is reached stands in its word
  pub reached_kept : (i : ℕ) → i < most_records → T (is_reached g₀.run i)
      → get_or g.run (reached_column + i) 0 ≡ get_or g₀.run (reached_column + i) 0
  pub reached_now : (i : ℕ) → i < most_records → T (is_reached g.run i) → T (not (is_reached g₀.run i))
      → get_or g.run (reached_column + i) 0 ≡ g₀.scan.rounds
  pub to_up : g.scan.to + unreached g.run ≡ g₀.scan.to + unreached g₀.run
  pub to_le : g₀.scan.to ≤ g.scan.to
  pub work_old : (k : ℕ) → k < g₀.scan.to → get_or g.run (work_column + k) 0 ≡ get_or g₀.run (work_column + k) 0
  pub work_new : (k : ℕ) → g₀.scan.to ≤ k → k < g.scan.to
      → (get_or g.run (work_column + k) 0 < most_records)
      × T (is_reached g.run (get_or g.run (work_column + k) 0))
      × T (not (is_reached g₀.run (get_or g.run (work_column + k) 0)))
  pub work_all : (i : ℕ) → i < most_records → T (is_reached g.run i) → T (not (is_reached g₀.run i))
      → (k : ℕ) × (g₀.scan.to ≤ k) × (k < g.scan.to) × (get_or g.run (work_column + k) 0 ≡ i)

pub room_then : {h : Held} {g₀ g : Going} {es : List ℕ} → Room g₀ → Fired h g₀ g es → Room g
room_then room f =
    record {
      fits = let a = f.to_up in let c = room.fits in omega arith;
      long = let b = f.same_length in let c = room.long in omega arith;
    }

not_back : (a b : Bool) → (T a → T b) → T (not b) → T (not a)
not_back a b f t = not_T a (λ u. T_not b t (f u))

third : (a b c : Bool) → T (not (a && (b && not c))) → T a → T b → T c
third true true true t u v = tt
third true true false t u v = absurd t
third true false c t u v = absurd v
third false b c t u v = absurd u

pub or_none : (b : Bool) → (b || false) ≡ b
or_none true = refl
or_none false = refl

-- ---- no entry, and more entries

fired_none : (h : Held) (g : Going) → Fired h g g []
unfolding any
fired_none h g =
    record {
      same_length = refl;
      met_same = λ n l. refl;
      far_same = λ k l. refl;
      from_same = refl;
      rounds_same = refl;
      visits_up = omega arith;
      triggered_is = rw (or_none);
      reached_old = λ i l t. t;
      reached_in = λ d m t u. absurd (Memᴰ.not-nil m);
      reached_from = λ i l t. inl t;
      reached_kept = λ i l t. refl;
      reached_now = λ i l t u. absurd (T_not (is_reached g.run i) u t);
      to_up = refl;
      to_le = omega arith;
      work_old = λ k l. refl;
      work_new = λ k a b. absurd (omega arith);
      work_all = λ i l t u. absurd (T_not (is_reached g.run i) u t);
    }

fired_then : {h : Held} {g₀ g₁ g₂ : Going} {es fs : List ℕ} → Fits h → ((e : ℕ) → Memᴰ e (es ++ fs) → e < h.entries)
    → Fired h g₀ g₁ es → Fired h g₁ g₂ fs → Fired h g₀ g₂ (es ++ fs)
fired_then {h} {g₀} {g₁} {g₂} {es} {fs} fits within a b =
    record {
      same_length = b.same_length ∙ a.same_length;
      met_same = λ n l. b.met_same n l ∙ a.met_same n l;
      far_same = λ k l. b.far_same k l ∙ a.far_same k l;
      from_same = b.from_same ∙ a.from_same;
      rounds_same = b.rounds_same ∙ a.rounds_same;
      visits_up = let x = a.visits_up in let y = b.visits_up in omega (arith, length-append es fs);
      triggered_is = b.triggered_is ∙ rw (a.triggered_is, or_assoc, any_append, any_cong _ _ fs (λ e m. same e (fits.fact_small e (small e m))));
      reached_old = λ i l t. b.reached_old i l (a.reached_old i l t);
      reached_in = λ e m f t. ⊎_elim
          (λ n. old e (within e m) (a.reached_in e n f t))
          (λ n. b.reached_in e n (rw (same e (fits.fact_small e (small e n))) f) t)
          (Memᴰ.append_cases es m);
      reached_from = λ i l t. ⊎_elim
          (λ u. ⊎_elim inl (λ (e, m, k, f, v). inr (e, Memᴰ.append_left fs m, k, f, v)) (a.reached_from i l u))
          (λ (e, m, k, f, v).
          inr (e, Memᴰ.append_right es m, k, rw (← k) (rw (same e (fits.fact_small e (small e m))) at (rw (← k) at f)), v))
          (b.reached_from i l t);
      reached_kept = λ i l t. b.reached_kept i l (a.reached_old i l t) ∙ a.reached_kept i l t;
      reached_now = λ i l t u. ⊎_elim
          (λ v. b.reached_kept i l v ∙ a.reached_now i l v u)
          (λ v. b.reached_now i l t v ∙ a.rounds_same)
          (T_dec (is_reached g₁.run i));
      to_up = b.to_up ∙ a.to_up;
      to_le = let x = a.to_le in let y = b.to_le in omega arith;
      work_old = λ k l. let x = a.to_le in b.work_old k (omega arith) ∙ a.work_old k l;
      work_new = λ k l m. ⊎_elim
          (λ s. let (x, t, u) = a.work_new k l s in rw (b.work_old k s) (x, b.reached_old _ x t, u))
          (λ s.
          let (x, t, u) = b.work_new k s m in
          let i : ℕ = get_or g₂.run (work_column + k) 0 in
          (x, t, not_back (is_reached g₀.run i) (is_reached g₁.run i) (a.reached_old _ x) u))
          (below k g₁.scan.to);
      work_all = λ i l t u. ⊎_elim
          (λ v. let (k, x, y, z) = a.work_all i l v u in let le = b.to_le in (k, x, omega arith, b.work_old k y ∙ z))
          (λ v. let (k, x, y, z) = b.work_all i l t v in let le = a.to_le in (k, omega arith, y, z))
          (T_dec (is_reached g₁.run i));
    }
  where
    same : (e : ℕ) → h.entry_fact e < h.records
        → fires_on h (is_met g₁.run) (h.entry_fact e) ≡ fires_on h (is_met g₀.run) (h.entry_fact e)
    same e l = fires_same h fits g₁.run g₀.run a.met_same (h.entry_fact e) l

    small : (e : ℕ) → Memᴰ e fs → e < h.entries
    small e m = within e (Memᴰ.append_right es m)

    old : (e : ℕ) → e < h.entries → T (is_reached g₁.run (h.entry_fact e)) → T (is_reached g₂.run (h.entry_fact e))
    old e l t = b.reached_old (h.entry_fact e) (let x = fits.fact_small e l in let y = fits.few_records in omega arith) t

-- ---- one entry

-- a record reached in a list of words: its mark, and itself at the end of the worklist
record Reaches (w v : List ℕ) (i t r : ℕ) : Type 0 where
  pub same_length : length v ≡ length w
  pub low : (n : ℕ) → n < most_names → get_or v n 0 ≡ get_or w n 0
  pub far : (k : ℕ) → run_end ≤ k → get_or v k 0 ≡ get_or w k 0
  pub own : get_or v (reached_column + i) 0 ≡ r
  pub others : (j : ℕ) → j < most_records → (j ≡ i → ⊥) → get_or v (reached_column + j) 0 ≡ get_or w (reached_column + j) 0
  pub last : get_or v (work_column + t) 0 ≡ i
  pub before : (k : ℕ) → k < t → get_or v (work_column + k) 0 ≡ get_or w (work_column + k) 0

reaches : (w : List ℕ) (i t r : ℕ) → i < most_records → t < work_room → run_end ≤ length w
    → Reaches w (set (set w (reached_column + i) r) (work_column + t) i) i t r
reaches w i t r l few m =
    let w₁ = set w (reached_column + i) r in
    let other : (n : ℕ) → (n ≡ reached_column + i → ⊥) → (n ≡ work_column + t → ⊥) → get_or (set w₁ (work_column + t) i) n 0 ≡ get_or w n 0 =
    λ n d e. get_or-set_other w₁ (work_column + t) n i 0 e ∙ get_or-set_other w (reached_column + i) n r 0 d in
    record {
      same_length = length-set w₁ (work_column + t) i ∙ length-set w (reached_column + i) r;
      low = λ n k. other n (λ e. omega (arith, e)) (λ e. omega (arith, e));
      far = λ n k. other n (λ e. omega (arith, e)) (λ e. omega (arith, e));
      own = get_or-set_other w₁ (work_column + t) (reached_column + i) i 0 (λ e. omega (arith, e))
          ∙ get_or-set_same w (reached_column + i) r 0 (omega arith);
      others = λ j k d. other (reached_column + j) (λ e. d (omega (arith, e))) (λ e. omega (arith, e));
      last = get_or-set_same w₁ (work_column + t) i 0 (rw (length-set w (reached_column + i) r) (omega arith));
      before = λ k b. other (work_column + k) (λ e. omega (arith, e)) (λ e. omega (arith, e));
    }

-- what that does to the records reached
module _ {w v : List ℕ} {i t r : ℕ} (c : Reaches w v i t r) (p : 0 < r) where
  own_reached : T (is_reached v i)
  unfolding is_reached
  own_reached = rw c.own (lt→ltb 0 r p)

  other_reached : (j : ℕ) → j < most_records → (j ≡ i → ⊥) → is_reached v j ≡ is_reached w j
  unfolding is_reached
  other_reached j l d = ap (ltb 0) (c.others j l d)

  fewer_unreached : i < most_records → T (not (is_reached w i)) → unreached v + 1 ≡ unreached w
  unfolding unreached
  fewer_unreached l u =
      count_less (λ j. not (is_reached w j)) (λ j. not (is_reached v j)) most_records i l u
      (not_not (is_reached v i) own_reached) (λ j k d. ap not (other_reached j k d))

module _ (h : Held) (fits : Fits h) (g : Going) (p : 0 < g.scan.rounds) (room : Room g) (e : ℕ) (l : e < h.entries) where
  small : h.entry_fact e < most_records
  small = let x = fits.fact_small e l in let y = fits.few_records in omega arith

  -- its fact is not reached by it
  only_counted : (f : Bool) → fires_on h (is_met g.run) (h.entry_fact e) ≡ f
      → (T f → T (h.retains (h.entry_fact e)) → T (is_reached g.run (h.entry_fact e)))
      → Fired h g (counted f g) (e ∷ [])
  unfolding counted any
  only_counted f s k =
      record {
        same_length = refl;
        met_same = λ n l. refl;
        far_same = λ k l. refl;
        from_same = refl;
        rounds_same = refl;
        visits_up = refl;
        triggered_is = rw (s, or_none);
        reached_old = λ i l t. t;
        reached_in = λ d m t u. ⊎_elim
            (λ (q : d ≡ e). rw q (k (rw (q, s) at t) (rw q at u)))
            (λ n. absurd (Memᴰ.not-nil n)) (Memᴰ.cases_cons m);
        reached_from = λ i l t. inl t;
        reached_kept = λ i l t. refl;
        reached_now = λ i l t u. absurd (T_not (is_reached g.run i) u t);
        to_up = refl;
        to_le = omega arith;
        work_old = λ k l. refl;
        work_new = λ k a b. absurd (omega arith);
        work_all = λ i l t u. absurd (T_not (is_reached g.run i) u t);
      }

  -- there is a place behind the worklist while a record is not reached
  a_place : T (not (is_reached g.run (h.entry_fact e))) → g.scan.to < work_room
  unfolding unreached
  a_place u =
      let some_left = count_some (λ j. not (is_reached g.run j)) most_records (h.entry_fact e) small u in
      let x = room.fits in
      omega arith

  -- its fact is reached
  also_reached : T (fires_on h (is_met g.run) (h.entry_fact e)) → T (h.retains (h.entry_fact e)) → T (not (is_reached g.run (h.entry_fact e)))
      → Fired h g (reach_record (counted (fires_on h (is_met g.run) (h.entry_fact e)) g) (h.entry_fact e)) (e ∷ [])
  unfolding counted reach_record any
  also_reached f t u =
      let i = h.entry_fact e in
      let v = set (set g.run (reached_column + i) g.scan.rounds) (work_column + g.scan.to) i in
      let c = reaches g.run i g.scan.to g.scan.rounds small (a_place u) room.long in
      let own = own_reached c p in
      let other : (j : ℕ) → j < most_records → (j ≡ i → ⊥) → is_reached v j ≡ is_reached g.run j = other_reached c p in
      record {
        same_length = c.same_length;
        met_same = c.low;
        far_same = c.far;
        from_same = refl;
        rounds_same = refl;
        visits_up = refl;
        triggered_is = rw (or_none);
        reached_old = λ j k s. ⊎_elim (λ q. rw q own) (λ d. rw (other j k d) s) (equal j i);
        reached_in = λ d m s z. ⊎_elim (λ (q : d ≡ e). rw q own) (λ n. absurd (Memᴰ.not-nil n)) (Memᴰ.cases_cons m);
        reached_from = λ j k s. ⊎_elim
            (λ (q : j ≡ i). inr (e, Memᴰ.head refl, sym q, rw q f, rw q t)) (λ d. inl (rw (other j k d) at s)) (equal j i);
        reached_kept = λ j k s. ⊎_elim
            (λ (q : j ≡ i). absurd (T_not (is_reached g.run i) u (rw q at s))) (λ d. c.others j k d) (equal j i);
        reached_now = λ j k s z. ⊎_elim
            (λ (q : j ≡ i). rw q c.own) (λ d. absurd (T_not (is_reached g.run j) z (rw (other j k d) at s))) (equal j i);
        to_up = let x = fewer_unreached c p small u in omega arith;
        to_le = omega arith;
        work_old = c.before;
        work_new = λ k a b. let s : k ≡ g.scan.to = omega arith in rw (s, c.last) (small, own, u);
        work_all = λ j k s z. ⊎_elim
            (λ (q : j ≡ i). (g.scan.to, omega arith, omega arith, c.last ∙ sym q))
            (λ d. absurd (T_not (is_reached g.run j) z (rw (other j k d) at s))) (equal j i);
      }

  pub visit_fired : Fired h g (visit h g e) (e ∷ [])
  unfolding visit
  visit_fired =
      let f = fires_on h (is_met g.run) (h.entry_fact e) in
      let t = h.retains (h.entry_fact e) in
      let r = is_reached g.run (h.entry_fact e) in
      branch (λ x. Fired h g x (e ∷ [])) (f && (t && not r)) _ _
      (λ x. let (a, y) = (T_and f (t && not r)).0 x in let (b, c) = (T_and t (not r)).0 y in also_reached a b c)
      (λ x. only_counted f refl (third f t r x))

-- ---- entries one after the other

module _ (h : Held) (fits : Fits h) where
  pub visits_fired : (g : Going) → 0 < g.scan.rounds → Room g → (es : List ℕ) → ((e : ℕ) → Memᴰ e es → e < h.entries)
      → Fired h g (visits_of h g es) es
  unfolding visits_of fold_left
  visits_fired g p room [] small = fired_none h g
  visits_fired g p room (e ∷ es) small =
      let one = visit_fired h fits g p room e (small e (Memᴰ.head refl)) in
      let same = one.rounds_same in
      fired_then fits small one (visits_fired (visit h g e) (omega arith) (room_then room one) es (λ d m. small d (Memᴰ.tail m)))
