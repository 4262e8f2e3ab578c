-- The names met at a round's end, and the facts that fire on them, are those of `model`.
use Prim.Native.Nat.{ℕ, ◌≤◌, ◌<◌}
use native.Mathlib.Omega.{arith}
use mathlib.Core.Path.{◌≡◌, refl, sym, ◌∙◌, ap}
use mathlib.Core.Bool.{Bool, ◌||◌}
use mathlib.Core.Logic.{◌↔◌, inl, inr, ⊎_elim}
use mathlib.Core.List.Memᴰ
use mathlib.Core.List.{List, [], ◌∷◌, map, Memᴰ}
use lib.Dec.{T}
use lib.ListN.{length}
use Rattle.model.specs.Lists.{any, all, collect}
use Rattle.model.specs.Names.{Name, mem, from_list}
use Rattle.model.specs.Summaries.{Fact}
use Rattle.model.specs.Reading.{Ask}
use Rattle.model.specs.Pruning.{Map}
use Rattle.model.specs.Rounds.{Run, met_from, met_after, lies_within}
use Rattle.model.proofs.ListLaws.{T_ext, any_cong, all_intro, all_elim, collect_intro, collect_elim, map_intro, map_elim}
use Rattle.model.proofs.SetLaws.{mem_intro, mem_elim, mem_from_list, mem_union}
use Rattle.laws.proofs.MetLaws.{opened, met_intro, met_elim}
use Rattle.firing.specs.Held.{Held, Fits, Holds, set_of}
use Rattle.firing.specs.Met.{is_met, marks, is_reached}
use Rattle.firing.specs.Firing.{opened_all, scanned_by, fires_on}
use Rattle.firing.proofs.Marks.{met_old, met_in, met_cases}

-- what a record meets are names
pub opened_small : (h : Held) → Fits h → (i n : ℕ) → i < h.records → Memᴰ n (opened_all h.opens (h.frees i)) → n < h.named
unfolding opened_all
opened_small h fits i n l m =
    let (b, z, s) = collect_elim (λ n. n ∷ h.opens n) (h.frees i) m in
    let x = fits.frees_small i b l z in
    ⊎_elim (λ (q : n ≡ b). omega arith) (λ q. fits.opens_small b n x q) (Memᴰ.cases_cons s)

-- the name of a record
abbrev pub label : Held → (ℕ → Name) → ℕ → Name
label h name i = name (h.row_name i)

-- the names of the records reached
abbrev pub reached_set : Held → (ℕ → Name) → List ℕ → List Name
reached_set h name w = set_of (label h name) (is_reached w) h.records

-- of the names of the table those are in the list that are marked; a starting macro may open to a name that is in no table
abbrev pub Agrees : Held → (ℕ → Name) → List ℕ → List Name → Type 0
Agrees h name w names = (n : ℕ) → n < h.named → mem (name n) names ≡ is_met w n

any_map : {A B : Type 0} (p : B → Bool) (f : A → B) (l : List A) → any p (map f l) ≡ any (λ x. p (f x)) l
unfolding any
any_map p f [] = refl
any_map p f (x ∷ l) = ap (λ b. p (f x) || b) (any_map p f l)

module _ {h : Held} {name : ℕ → Name} {a : Ask} {ms : Map (List Name)} {fs : List Fact} {fact : ℕ → Fact} (fits : Fits h)
    (holds : Holds h name a ms fs fact) where
  -- a disjunct lies within names that agree where its numbers are marked
  within_at : (w : List ℕ) (met : List Name) → Agrees h name w met → (ns : List ℕ) → ((n : ℕ) → Memᴰ n ns → n < h.named)
      → lies_within met (from_list (map name ns)) ≡ all (is_met w) ns
  unfolding lies_within
  within_at w met agrees ns small =
      T_ext
      (λ t. all_intro (is_met w) ns (λ n m. rw (agrees n (small n m)) at
      (all_elim (λ k. mem k met) t (mem_elim ((mem_from_list (name n) (map name ns)).1 (mem_intro (map_intro name m)))))))
      (λ t. all_intro (λ k. mem k met) (from_list (map name ns))
      (λ k m.
      let (n, i, e) = map_elim name ns (mem_elim ((mem_from_list k (map name ns)).0 (mem_intro m))) in
      rw (← e, agrees n (small n i)) (all_elim (is_met w) t i)))

  -- a fact has a disjunct within them where its record fires
  pub fires_at : (w : List ℕ) (met : List Name) → Agrees h name w met → (i : ℕ) → i < h.records → T (h.takes_part i)
      → any (lies_within met) (fact i).triggers ≡ fires_on h (is_met w) i
  unfolding fires_on
  fires_at w met agrees i l t =
      rw (holds.fact_disjuncts i l t, any_map (lies_within met) (λ ns. from_list (map name ns)) (h.disjuncts i))
      (any_cong (λ ns. lies_within met (from_list (map name ns))) (all (is_met w)) (h.disjuncts i)
      (λ d m. within_at w met agrees d (λ n k. fits.disjuncts_small i n d l m k)))

  -- the names met at the end of a round that scans items
  pub met_round : (r : ℕ) (w is : List ℕ) (run : Run) (scanned : List Name) → 0 < r → h.named ≤ length w → ((i : ℕ) → Memᴰ i is → i < h.records)
      → Agrees h name w run.met → ((k : Name) → Memᴰ k scanned ↔ Memᴰ k (map name (collect h.frees is)))
      → Agrees h name (marks r w (scanned_by h is)) (met_after ms run scanned)
  unfolding met_after opened scanned_by opened_all
  met_round r w is run scanned p long small before free n l =
      T_ext
      (λ t. ⊎_elim (λ u. from_scanned (met_elim ms scanned u)) (λ u. met_old r w S n (rw (before n l) at u))
      ((mem_union (name n) (met_from ms scanned) run.met).0 t))
      (λ t. (mem_union (name n) (met_from ms scanned) run.met).1
      (⊎_elim (λ u. inr (rw (before n l) u)) (λ m. inl (to_scanned m)) (met_cases r w S n t)))
    where
      S : List ℕ
      S = collect (λ i. collect (λ n. n ∷ h.opens n) (h.frees i)) is

      into : {i b : ℕ} → Memᴰ i is → Memᴰ b (h.frees i) → Memᴰ n (b ∷ h.opens b) → T (is_met (marks r w S) n)
      into {i} {b} x y z =
          met_in r w S p (omega arith)
          (collect_intro (λ i. collect (λ n. n ∷ h.opens n) (h.frees i)) x (collect_intro (λ n. n ∷ h.opens n) y z))

      from_scanned : (k : Name) × Memᴰ k scanned × Memᴰ (name n) (opened ms k) → T (is_met (marks r w S) n)
      from_scanned (nm, i, o) =
          let (b, j, e) = map_elim name (collect h.frees is) ((free nm).0 i) in
          let (d, x, y) = collect_elim h.frees is j in
          let lb = fits.frees_small d b (small d x) y in
          ⊎_elim
          (λ (q : name n ≡ nm). into x y (Memᴰ.head (holds.injective n b l lb (q ∙ sym e))))
          (λ q. into x y (Memᴰ.tail ((holds.macro b n lb l).0 (rw (← e) at q))))
          (Memᴰ.cases_cons o)

      to_scanned : Memᴰ n S → T (mem (name n) (met_from ms scanned))
      to_scanned m =
          let (d, x, y) = collect_elim (λ i. collect (λ n. n ∷ h.opens n) (h.frees i)) is m in
          let (b, z, s) = collect_elim (λ n. n ∷ h.opens n) (h.frees d) y in
          let lb = fits.frees_small d b (small d x) z in
          met_intro ms ((free (name b)).1 (map_intro name (collect_intro h.frees x z)))
          (⊎_elim (λ (q : n ≡ b). Memᴰ.head (ap name q)) (λ q. Memᴰ.tail ((holds.macro b n lb l).1 q)) (Memᴰ.cases_cons s))
