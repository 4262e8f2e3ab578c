-- The start of a run: the columns set to zero, the roots on the worklist.
use Prim.Native.Nat.{ℕ, zero, suc, ◌+◌, ◌-◌, ◌≤◌, ◌<◌}
use native.Mathlib.Omega.{arith}
use native.Mathlib.Numerals.{add-one}
use mathlib.Core.Path.{◌≡◌, refl, sym, ◌∙◌, ap, subst}
use mathlib.Core.Bool.{Bool, true, false, cond, not, ◌&&◌}
use mathlib.Core.Logic.{◌⊎◌, inl, inr, ⊎_elim}
use mathlib.Core.List.Memᴰ
use mathlib.Core.List.{List, [], ◌∷◌, ◌++◌, Memᴰ}
use lib.Dec.{T, T_not, ltb}
use lib.ListN.{length, get_or, set, length-set}
use lib.Seq.{get_or-set_same, get_or-set_other}
use borrow.Author.Tests.{ltb-true}
use Rattle.model.specs.Reading.{most_records}
use Rattle.model.proofs.ListLaws.{true_T, false_T}
use Rattle.model.proofs.PartLaws.{part_nil, part_snoc, part_agree}
use Rattle.terms.proofs.Laws.{equal}
use Rattle.firing.specs.Held.{Held, Fits, upto}
use Rattle.firing.specs.Met.{reached_column, work_column, run_end, is_met, is_reached, zeroed_to}
use Rattle.scan.specs.Steps.{Going, going, work_room, items, Ready}
use Rattle.scan.specs.Starts.{first_scan, push, pushed}
use Rattle.scan.specs.declared.Scan.{Scan}
use Rattle.firing.proofs.Numbers.{count_none}
use Rattle.firing.proofs.Clearing.{clear_length, clear_zero, few_unreached, few_unmet, none_met, none_reached}

-- ---- the worklist

-- a state with another end of the worklist
abbrev with_end : Scan → ℕ → Scan
with_end s to = record { from = s.from; to = to; visits = s.visits; rounds = s.rounds; triggered = s.triggered }

-- the first i records are looked at
pub record Adding (test : ℕ → Bool) (s : Scan) (w₀ : List ℕ) (i to : ℕ) (w : List ℕ) : Type 0 where
  pub few : to ≤ s.to + i
  pub same_length : length w ≡ length w₀
  pub goes : going (with_end s to) w ≡ pushed test i (going s w₀)

module _ {test : ℕ → Bool} {s : Scan} {w₀ : List ℕ} where
  pub add_start : Adding test s w₀ 0 s.to w₀
  unfolding pushed
  add_start = record { few = omega arith; same_length = refl; goes = refl }

  module _ {i to : ℕ} {w : List ℕ} (a : Adding test s w₀ i to w) {b : Bool} (p : b ≡ test i) where
    pub add_skip : b ≡ false → Adding test s w₀ (i + 1) to w
    unfolding pushed
    add_skip q =
        let few = a.few in
        record { few = omega arith; same_length = a.same_length; goes = rw (add-one i, ← p, q) a.goes }

    pub add_next : b ≡ true → Adding test s w₀ (i + 1) (to + 1) (set w (work_column + to) i)
    unfolding pushed push
    add_next q =
        let few = a.few in
        record {
          few = omega arith;
          same_length = length-set w (work_column + to) i ∙ a.same_length;
          goes = rw (add-one i, ← p, q, ← a.goes);
        }

  pub add_end : {i to count : ℕ} {w : List ℕ} → Adding test s w₀ i to w → i ≡ count → going (with_end s to) w ≡ pushed test count (going s w₀)
  add_end {to = to} {w = w} a e =
      subst (λ n. going (with_end s to) w ≡ pushed test n (going s w₀)) e a.goes

-- the worklist with these records behind it
pub record Pushed (test : ℕ → Bool) (n : ℕ) (g v : Going) : Type 0 where
  pub from_same : v.scan.from ≡ g.scan.from
  pub visits_same : v.scan.visits ≡ g.scan.visits
  pub rounds_same : v.scan.rounds ≡ g.scan.rounds
  pub to_le : g.scan.to ≤ v.scan.to
  pub few : v.scan.to ≤ g.scan.to + n
  pub same_length : length v.run ≡ length g.run
  pub low : (j : ℕ) → j < work_column → get_or v.run j 0 ≡ get_or g.run j 0
  pub far : (j : ℕ) → run_end ≤ j → get_or v.run j 0 ≡ get_or g.run j 0
  pub every : (i : ℕ) → i < n → T (test i) → Memᴰ i (items v)
  pub only : (i : ℕ) → Memᴰ i (items v) → Memᴰ i (items g) ⊎ ((i < n) × T (test i))

-- what a record behind the worklist does to what the next round scans
push_items : (g : Going) (i : ℕ) → g.scan.from ≤ g.scan.to → work_column + g.scan.to < length g.run → items (push g i) ≡ items g ++ (i ∷ [])
unfolding items push
push_items g i l m =
    let v = set g.run (work_column + g.scan.to) i in
    let e : work_column + (g.scan.to + 1) ≡ work_column + g.scan.to + 1 = omega arith in
    rw (
      e,
      part_snoc v (work_column + g.scan.from) (work_column + g.scan.to) (omega arith) (rw (length-set g.run (work_column + g.scan.to) i) m),
      get_or-set_same g.run (work_column + g.scan.to) i 0 m,
    )
    (ap (λ l. l ++ (i ∷ []))
    (part_agree g.run v (work_column + g.scan.to - (work_column + g.scan.from)) (work_column + g.scan.from) (work_column + g.scan.to) refl
    (omega arith) (rw (length-set g.run (work_column + g.scan.to) i) (omega arith))
    (λ j a b. get_or-set_other g.run (work_column + g.scan.to) j i 0 (λ q. omega arith))))

-- one record more
push_one : (test : ℕ → Bool) (n : ℕ) {g v : Going} → Pushed test n g v → T (test n) → g.scan.from ≤ g.scan.to → g.scan.to + suc n ≤ work_room
    → run_end ≤ length g.run → Pushed test (suc n) g (push v n)
unfolding push
push_one test n {g} {v} p t a b c =
    let few = p.few in
    let le = p.to_le in
    let same = p.same_length in
    let from = p.from_same in
    let all = push_items v n (omega arith) (omega arith) in
    let other : (j : ℕ) → (j ≡ work_column + v.scan.to → ⊥) → get_or (set v.run (work_column + v.scan.to) n) j 0 ≡ get_or v.run j 0 =
    λ j d. get_or-set_other v.run (work_column + v.scan.to) j n 0 d in
    record {
      from_same = p.from_same;
      visits_same = p.visits_same;
      rounds_same = p.rounds_same;
      to_le = omega arith;
      few = omega arith;
      same_length = length-set v.run (work_column + v.scan.to) n ∙ same;
      low = λ j l. other j (λ q. omega arith) ∙ p.low j l;
      far = λ j l. other j (λ q. omega arith) ∙ p.far j l;
      every = λ i l u. subst (λ l. Memᴰ i l) (sym all)
          (⊎_elim (λ (q : i ≡ n). Memᴰ.append_right (items v) (Memᴰ.head q))
          (λ d. Memᴰ.append_left (n ∷ []) (p.every i (omega (arith, d)) u)) (equal i n));
      only = λ i m. ⊎_elim
          (λ k. ⊎_elim inl (λ (l, u). inr (omega arith, u)) (p.only i k))
          (λ k. ⊎_elim (λ (q : i ≡ n). inr (omega arith, rw q t)) (λ z. absurd (Memᴰ.not-nil z)) (Memᴰ.cases_cons k))
          (Memᴰ.append_cases (items v) (subst (λ l. Memᴰ i l) all m));
    }

pub pushed_is : (test : ℕ → Bool) (n : ℕ) (g : Going) → g.scan.from ≤ g.scan.to → g.scan.to + n ≤ work_room → run_end ≤ length g.run
    → Pushed test n g (pushed test n g)
unfolding pushed
pushed_is test zero g a b c =
    record {
      from_same = refl;
      visits_same = refl;
      rounds_same = refl;
      to_le = omega arith;
      few = omega arith;
      same_length = refl;
      low = λ j l. refl;
      far = λ j l. refl;
      every = λ i l t. absurd (omega arith);
      only = λ i m. inl m;
    }
pushed_is test (suc n) g a b c = go (test n) refl (pushed_is test n g a (omega arith) c)
  where
    go : (d : Bool) → test n ≡ d → Pushed test n g (pushed test n g) → Pushed test (suc n) g (cond d (push (pushed test n g) n) (pushed test n g))
    go false e p =
        let few = p.few in
        record {
          from_same = p.from_same;
          visits_same = p.visits_same;
          rounds_same = p.rounds_same;
          to_le = p.to_le;
          few = omega arith;
          same_length = p.same_length;
          low = p.low;
          far = p.far;
          every = λ i l t. ⊎_elim (λ (q : i ≡ n). absurd (T_not (test n) (false_T e) (rw q at t))) (λ d. p.every i (omega (arith, d)) t) (equal i n);
          only = λ i m. ⊎_elim inl (λ (l, t). inr (omega arith, t)) (p.only i m);
        }
    go true e p = push_one test n p (true_T e) a b c

-- the worklist behind a state that is known
pub roots_on : (test : ℕ → Bool) (n : ℕ) {g₀ g v : Going} → g ≡ g₀ → v ≡ pushed test n g → v ≡ pushed test n g₀
roots_on test n e p = p ∙ ap (pushed test n) e

-- ---- the state before round 1

pub no_items : (w : List ℕ) (i : ℕ) → Memᴰ i (items (going first_scan w)) → ⊥
unfolding items
no_items w i m = Memᴰ.not-nil (rw (part_nil w work_column work_column (omega arith)) at m)

-- nothing is met or reached, and what the next round scans are the records of which the test holds
pub record Begun (h : Held) (test : ℕ → Bool) (g : Going) : Type 0 where
  pub ready : Ready h g
  pub rounds_none : g.scan.rounds ≡ 0
  pub none_met : (n : ℕ) → n < h.named → T (not (is_met g.run n))
  pub none_reached : (i : ℕ) → i < h.records → T (not (is_reached g.run i))
  pub item_elim : (i : ℕ) → Memᴰ i (items g) → (i < h.records) × T (test i)
  pub item_intro : (i : ℕ) → i < h.records → T (test i) → Memᴰ i (items g)

pub begun : (h : Held) → Fits h → (test : ℕ → Bool) (w : List ℕ) → run_end ≤ length w
    → Begun h test (pushed test h.records (going first_scan (zeroed_to work_column w)))
begun h fits test w long =
    go (pushed test h.records g₀)
    (pushed_is test h.records g₀ (omega arith) (omega (arith, fits.few_records)) (rw (clear_length work_column w) long))
  where
    g₀ : Going
    g₀ = going first_scan (zeroed_to work_column w)

    go : (g : Going) → Pushed test h.records g₀ g → Begun h test g
    go g p =
        let few_n = fits.few_names in
        let few_r = fits.few_records in
        let few_to = p.few in
        let len : length g.run ≡ length w = p.same_length ∙ clear_length work_column w in
        let zeros : (i : ℕ) → i < work_column → ◌≡◌ {A = ℕ} (get_or g.run i 0) 0 = λ i l. p.low i l ∙ clear_zero work_column w (omega arith) i l in
        let no_met : (n : ℕ) → n < h.named → T (not (is_met g.run n)) = λ n l. none_met g.run n (zeros n (omega arith)) in
        let no_reached : (i : ℕ) → i < most_records → T (not (is_reached g.run i)) =
        λ i l. none_reached g.run i (zeros (reached_column + i) (omega arith)) in
        let scans : (i : ℕ) → Memᴰ i (items g) → (i < h.records) × T (test i) =
        λ i m. ⊎_elim (λ k. absurd (no_items (zeroed_to work_column w) i k)) (λ q. q) (p.only i m) in
        record {
          ready = record {
            room = record { fits = let m = few_unreached g.run in omega arith; long = omega arith };
            ends = let a = p.from_same in omega arith;
            few_rounds = let a = p.rounds_same in let b = few_unmet h.named g.run in omega arith;
            low = λ n l. let z = zeros n (omega arith) in omega arith;
            visits_are = p.visits_same
                ∙ sym (count_none (λ e. ltb (h.entry_name e) h.named && is_met g.run (h.entry_name e)) (upto h.entries)
                (λ e. each no_met (h.entry_name e) (ltb (h.entry_name e) h.named) refl));
            items_small = λ i m. (scans i m).0;
            only_facts = λ i l r. absurd (T_not (is_reached g.run i) (no_reached i l) r);
          };
          rounds_none = p.rounds_same;
          none_met = no_met;
          none_reached = λ i l. no_reached i (omega arith);
          item_elim = scans;
          item_intro = p.every;
        }
      where
        each : ((n : ℕ) → n < h.named → T (not (is_met g.run n))) → (n : ℕ) (b : Bool) → ltb n h.named ≡ b → T (not (b && is_met g.run n))
        each no_met n true e = no_met n (ltb-true n h.named e)
        each no_met n false e = tt
