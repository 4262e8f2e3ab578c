-- The round of a fact, the scanned items, and the supplier of a name, of an ask whose records are well formed.
use Prim.Native.Nat.{ℕ, zero, suc, ◌≤◌, ◌<◌}
use native.Mathlib.Omega.{arith}
use mathlib.Core.Path.{◌≡◌, refl, sym, ◌∙◌, ap, subst}
use mathlib.Core.Logic.{◌↔◌, ◌⊎◌, inl, inr, ⊎_elim}
use mathlib.Core.Bool.{Bool, true, false, cond, not, ◌&&◌, ◌||◌}
use mathlib.Core.List.Memᴰ
use mathlib.Core.List.{List, [], ◌∷◌, map, Memᴰ}
use Rattle.std.specs.Prelude.{Option, None as none, Some as some}
use lib.Dec.{T, T_not, ltb, eqb, ltb→lt, lt→ltb, eqb→eq, eqb_refl, not_T}
use Rattle.model.specs.Lists.{any, keep, collect, fold_left}
use Rattle.model.specs.Names.{Name, mem}
use Rattle.model.specs.Summaries.{Fact}
use Rattle.model.specs.Reading.{Ask, Root, State}
use Rattle.model.specs.Pruning.{Map}
use Rattle.model.specs.Rounds.{Run, facts, macros, met_from, first_scanned, goal_roots, ambient_roots, end_of, round_of, round_met}
use Rattle.model.specs.Kept.{reached_facts}
use Rattle.model.specs.Reasons.{Item, item, first_items, reached_items, scanned_items, earlier, sooner, earliest, supplier}
use Rattle.model.proofs.ListLaws.{T_and, T_or, T_dec, keep_intro, keep_elim, map_intro, map_elim}
use Rattle.laws.proofs.BackgroundLaws.{goal_root_elim, goal_root_intro, ambient_root_elim, ambient_root_intro}
use Rattle.laws.proofs.MetLaws.{opened, met_intro, met_elim, met_within, met_append, met_collected, collected_met, met_with, with_first, with_fact, with_elim}
use Rattle.laws.proofs.ReachedLaws.{reached_by}
use Rattle.laws.proofs.HistoryLaws.{history_start, history_end}
use Rattle.demands.specs.LinesRead.{records_for}
use Rattle.demands.specs.WellFormed.{WellFormed}
use Rattle.demands.specs.Demand3.{run_of}
use Rattle.demands.specs.History.{history_for}
use Rattle.demands.specs.Reasons.{ReachedBy, ItsRound, RoundExact, Scanned, root, ambient_root, reached_fact, Has, NotLater, Supplies, FirstMet, LowestIn}
use Rattle.demands.proofs.ListedLaws.{reached_facts_intro, reached_facts_elim}
use Rattle.demands.proofs.HistoryLaws.{le_or_lt, reached_later, met_exactly, reached_why, triggered_reached, reached_retainable}
use Rattle.demands.proofs.History.{from_its_round}

-- ---- names that items have

-- the names met from free names are those that an item with them has
pub has_met : (a : Ask) (s : State) (free : List Name) (n : Name) → Has a s free n → T (mem n (met_from (macros (records_for a s)) free))
unfolding opened
has_met a s free n (inl i) = met_intro (macros (records_for a s)) i (Memᴰ.head refl)
has_met a s free n (inr (m, i, j)) = met_intro (macros (records_for a s)) i (Memᴰ.tail j)

pub met_has : (a : Ask) (s : State) (free : List Name) (n : Name) → T (mem n (met_from (macros (records_for a s)) free)) → Has a s free n
unfolding opened
met_has a s free n t =
    let (m, i, o) = met_elim (macros (records_for a s)) free t in
    ⊎_elim (λ e. inl (Memᴰ.cast e i)) (λ j. inr (m, i, j)) (Memᴰ.cases_cons o)

-- ---- the earliest of some items

-- an item is no later than another
abbrev pub BeforeItem : Item → Item → Type 0
BeforeItem i j = NotLater i.line i.round j.line j.round

earlier_first : (i j : Item) → T (earlier i j) → BeforeItem i j
unfolding earlier
earlier_first i j t = ⊎_elim
    (λ u. inl (ltb→lt i.round j.round u))
    (λ u. let (x, y) = (T_and (eqb i.round j.round) (ltb i.line j.line)).0 u in
    let l = ltb→lt i.line j.line y in
    inr (eqb→eq i.round j.round x, omega arith))
    ((T_or (ltb i.round j.round) (eqb i.round j.round && ltb i.line j.line)).0 t)

-- two items, one no later than the other
either_first : (i j : Item) → BeforeItem i j ⊎ T (earlier j i)
unfolding earlier
either_first i j =
    let all = ltb j.round i.round || (eqb j.round i.round && ltb j.line i.line) in
    ⊎_elim inr (λ u. inl (go u)) (T_dec all)
  where
    go : T (not (ltb j.round i.round || (eqb j.round i.round && ltb j.line i.line))) → BeforeItem i j
    go u = ⊎_elim
        (λ (l : i.round < j.round). inl l)
        (λ (l : j.round ≤ i.round). ⊎_elim
        (λ (m : i.round ≤ j.round). let e : i.round ≡ j.round = omega arith in ⊎_elim
        (λ (p : i.line ≤ j.line). inr (e, p))
        (λ (p : j.line < i.line). absurd (T_not (ltb j.round i.round || (eqb j.round i.round && ltb j.line i.line)) u
        ((T_or (ltb j.round i.round) (eqb j.round i.round && ltb j.line i.line)).1
        (inr ((T_and (eqb j.round i.round) (ltb j.line i.line)).1
        (subst (λ z. T (eqb j.round z)) (sym e) (eqb_refl j.round), lt→ltb j.line i.line p))))))
        (le_or_lt i.line j.line))
        (λ (m : j.round < i.round). absurd (T_not (ltb j.round i.round || (eqb j.round i.round && ltb j.line i.line)) u
        ((T_or (ltb j.round i.round) (eqb j.round i.round && ltb j.line i.line)).1 (inl (lt→ltb j.round i.round m)))))
        (le_or_lt i.round j.round))
        (⊎_elim (λ (l : j.round ≤ i.round). inr l) (λ (l : i.round < j.round). inl l) (le_or_lt j.round i.round))

pub first_refl : (i : Item) → BeforeItem i i
first_refl i = inr (refl, omega arith)

pub first_trans : (i j k : Item) → BeforeItem i j → BeforeItem j k → BeforeItem i k
first_trans i j k (inl p) (inl q) = inl (omega arith)
first_trans i j k (inl p) (inr (e, q)) = inl (omega arith)
first_trans i j k (inr (d, p)) (inl q) = inl (omega arith)
first_trans i j k (inr (d, p)) (inr (e, q)) = inr (omega arith, omega arith)

-- the earlier of two items is one of them, and no later than either
sooner_exact : (i j : Item) → ((sooner i j ≡ i) ⊎ (sooner i j ≡ j)) × BeforeItem (sooner i j) i × BeforeItem (sooner i j) j
unfolding sooner
sooner_exact i j = go (earlier j i) refl
  where
    go : (b : Bool) → earlier j i ≡ b → ((cond b j i ≡ i) ⊎ (cond b j i ≡ j)) × BeforeItem (cond b j i) i × BeforeItem (cond b j i) j
    go true e = (inr refl, earlier_first j i (rw e tt), first_refl j)
    go false e = (inl refl, first_refl i, ⊎_elim (λ p. p) (λ t. absurd (rw e at t)) (either_first i j))

-- the fold finds a member, or its start, that is no later than any of them
fold_sooner : (i : Item) (is : List Item)
    → ((fold_left sooner i is ≡ i) ⊎ Memᴰ (fold_left sooner i is) is) × BeforeItem (fold_left sooner i is) i
    × ((j : Item) → Memᴰ j is → BeforeItem (fold_left sooner i is) j)
unfolding fold_left
fold_sooner i [] = (inl refl, first_refl i, λ j m. absurd (Memᴰ.not-nil m))
fold_sooner i (j ∷ is) =
    let (x, y, z) = fold_sooner (sooner i j) is in
    let (p, q, r) = sooner_exact i j in
    let found = fold_left sooner (sooner i j) is in (
      ⊎_elim (λ e. ⊎_elim (λ d. inl (e ∙ d)) (λ d. inr (Memᴰ.head (e ∙ d))) p) (λ m. inr (Memᴰ.tail m)) x,
      first_trans found (sooner i j) i y q,
      λ k m. ⊎_elim (λ e. subst (λ (k : Item). BeforeItem found k) (sym e) (first_trans found (sooner i j) j y r)) (z k) (Memᴰ.cases_cons m),
    )

-- the supplier of a name among some items, with what the answer says
pub data Supplied (is : List Item) (n : Name) : Option Item → Type 0 where
  nobody : ((i : Item) → Memᴰ i is → T (mem n i.names) → ⊥) → Supplied is n none
  somebody : {i : Item} → Memᴰ i is → T (mem n i.names)
      → ((j : Item) → Memᴰ j is → T (mem n j.names) → BeforeItem i j) → Supplied is n (some i)

pub supplied : (is : List Item) (n : Name) → Supplied is n (supplier is n)
unfolding supplier earliest
supplied is n = go (keep has is) (λ i m t. keep_intro has m t) (λ i m. keep_elim has is m)
  where
    has : Item → Bool
    has i = mem n i.names

    go : (l : List Item) → ((i : Item) → Memᴰ i is → T (has i) → Memᴰ i l) → ((i : Item) → Memᴰ i l → Memᴰ i is × T (has i))
        → Supplied is n (earliest l)
    go [] f g = nobody (λ i m t. Memᴰ.not-nil (f i m t))
    go (i ∷ l) f g =
        let (x, y, z) = fold_sooner i l in
        let (p, q) = g (fold_left sooner i l) (⊎_elim (λ e. Memᴰ.head e) (λ m. Memᴰ.tail m) x) in
        somebody p q (λ j m t. ⊎_elim (λ e. subst (λ (j : Item). BeforeItem (fold_left sooner i l) j) (sym e) y) (z j) (Memᴰ.cases_cons (f j m t)))

-- ---- the round of a fact

-- a number that is not 0 is one more than another
pred : (n : ℕ) → (n ≡ 0 → ⊥) → (m : ℕ) × (n ≡ suc m)
pred zero h = absurd (h refl)
pred (suc m) h = (m, refl)

module _ (a : Ask) (s : State) (wf : WellFormed (records_for a s) s.roots) where
  -- the states of its run, and its rounds
  abbrev states : List Run
  states = history_for a s

  abbrev turns : ℕ
  turns = (run_of a s).rounds

  -- a fact reached at the end is reached at the end of its round, and at no earlier end
  module _ (f : Fact) (r : ReachedBy a s f) where
    pub round_in_run : round_of states f ≤ turns
    round_in_run =
        ((from_its_round a s wf turns (omega arith)).reached f).0
        (subst (λ (r : Run). T (mem f.name r.reached)) (sym (history_end a (records_for a s) s.roots)) r.is_reached)

    reached_in_round : T (mem f.name (end_of states (round_of states f)).reached)
    reached_in_round = ((from_its_round a s wf (round_of states f) round_in_run).reached f).1 (omega arith)

    not_reached_before : (k : ℕ) → k < round_of states f → T (mem f.name (end_of states k).reached) → ⊥
    not_reached_before k l t = let b = round_in_run in omega (arith, ((from_its_round a s wf k (omega arith)).reached f).0 t)

    not_zero : round_of states f ≡ 0 → ⊥
    unfolding mem any
    not_zero q =
        subst (λ (r : Run). T (mem f.name r.reached)) (history_start a (records_for a s) s.roots)
        (subst (λ k. T (mem f.name (end_of states k).reached)) q reached_in_round)

    -- the round that reaches it is the one that first triggers it
    pub its_round : ItsRound a s f (round_of states f)
    its_round =
        let (k, q) = pred (round_of states f) not_zero in
        let b = round_in_run in
        record {
          before = k;
          is = q;
          in_run = b;
          triggered = ⊎_elim (λ t. t) (λ t. absurd (not_reached_before k (omega arith) t))
              (reached_why a (records_for a s) s.roots wf k (omega arith) r.is_fact (subst (λ j. T (mem f.name (end_of states j).reached)) q reached_in_round));
          first = λ j l t. not_reached_before (suc j) (omega arith)
              (triggered_reached a (records_for a s) s.roots wf j (omega arith) r.is_fact (reached_retainable a (records_for a s) s.roots wf r.is_fact r.is_reached) t);
        }

    -- it has one round
    pub one_round : {k : ℕ} → ItsRound a s f k → k ≡ round_of states f
    one_round {k} x =
        let q = its_round in
        ⊎_elim
        (λ (h : x.before < q.before). absurd (q.first x.before h x.triggered))
        (λ (h : q.before ≤ x.before). ⊎_elim
        (λ (l : x.before ≤ q.before). x.is ∙ (let e : suc x.before ≡ suc q.before = omega arith in e) ∙ sym q.is)
        (λ (l : q.before < x.before). absurd (x.first q.before l q.triggered))
        (le_or_lt x.before q.before))
        (⊎_elim (λ (h : q.before ≤ x.before). inr h) (λ (h : x.before < q.before). inl h) (le_or_lt q.before x.before))

    pub round_exact : RoundExact a s f
    round_exact = record { round = round_of states f; is_round = its_round; reached_from = λ k l. (from_its_round a s wf k l).reached f }

  -- ---- the scanned items

  abbrev opens : Map (List Name)
  opens = macros (records_for a s)

  abbrev first_names : List Name
  first_names = first_scanned a (facts (records_for a s)) s.roots

  -- the facts that are listed as reached
  pub listed_reached : {f : Fact} → Memᴰ f (reached_facts (facts (records_for a s)) (run_of a s).reached) → ReachedBy a s f
  listed_reached i = let (j, t) = reached_facts_elim (facts (records_for a s)) (run_of a s).reached i in record { is_fact = j; is_reached = t }

  pub reached_listed : {f : Fact} → ReachedBy a s f → Memᴰ f (reached_facts (facts (records_for a s)) (run_of a s).reached)
  reached_listed r = reached_facts_intro (facts (records_for a s)) (run_of a s).reached r.is_fact r.is_reached

  -- an item of the list is a scanned item
  pub item_scanned : {i : Item} → Memᴰ i (scanned_items a (records_for a s) s.roots)
      → (free : List Name) × Scanned a s i.line i.round free × (i.names ≡ met_from opens free)
  unfolding scanned_items first_items reached_items
  item_scanned {i} m = ⊎_elim
      (λ j. ⊎_elim
      (λ j. let (r, k, e) = map_elim (λ (r : Root). item opens r.line 0 r.free_names) (goal_roots a s.roots) j in
      let (l, q) = goal_root_elim a s.roots k in
      (r.free_names, root r l q (ap (λ (i : Item). i.line) (sym e)) (ap (λ (i : Item). i.round) (sym e)) refl, ap (λ (i : Item). i.names) (sym e)))
      (λ j. let (f, k, e) = map_elim (λ (f : Fact). item opens f.line 0 f.free_names) (ambient_roots a (facts (records_for a s))) j in
      let (l, q, u) = ambient_root_elim a (facts (records_for a s)) k in
      (f.free_names, ambient_root f l q u (ap (λ (i : Item). i.line) (sym e)) (ap (λ (i : Item). i.round) (sym e)) refl, ap (λ (i : Item). i.names) (sym e)))
      (Memᴰ.append_cases (map (λ (r : Root). item opens r.line 0 r.free_names) (goal_roots a s.roots)) j))
      (λ j. let (f, k, q) = map_elim (λ (f : Fact). item opens f.line (round_of states f) f.free_names) (reached_facts (facts (records_for a s)) (run_of a s).reached) j in
      let x = listed_reached k in (
        f.free_names,
        reached_fact f x (subst (ItsRound a s f) (ap (λ (i : Item). i.round) q) (its_round f x)) (ap (λ (i : Item). i.line) (sym q)) refl,
        ap (λ (i : Item). i.names) (sym q),
      ))
      (Memᴰ.append_cases (first_items a (records_for a s) s.roots) m)

  -- items with the same line, round and free names
  same_item : {line line' round round' : ℕ} {free free' : List Name} → line ≡ line' → round ≡ round' → free ≡ free'
      → item opens line round free ≡ item opens line' round' free'
  same_item p e n = rw (p, e, n)

  -- a scanned item is in the list
  pub scanned_item : {line round : ℕ} {free : List Name} → Scanned a s line round free
      → Memᴰ (item opens line round free) (scanned_items a (records_for a s) s.roots)
  unfolding scanned_items first_items reached_items
  scanned_item (root r i q p e n) =
      Memᴰ.append_left _ (Memᴰ.append_left _
      (Memᴰ.cast (same_item p e n) (map_intro (λ (r : Root). item opens r.line 0 r.free_names) (goal_root_intro a s.roots i q))))
  scanned_item (ambient_root f i q u p e n) =
      Memᴰ.append_left _ (Memᴰ.append_right (map (λ (r : Root). item opens r.line 0 r.free_names) (goal_roots a s.roots))
      (Memᴰ.cast (same_item p e n) (map_intro (λ (f : Fact). item opens f.line 0 f.free_names) (ambient_root_intro a (facts (records_for a s)) i q u))))
  scanned_item (reached_fact f x r p n) =
      Memᴰ.append_right (first_items a (records_for a s) s.roots)
      (Memᴰ.cast (same_item p (one_round f x r) n)
      (map_intro (λ (f : Fact). item opens f.line (round_of states f) f.free_names) (reached_listed x)))

  -- ---- the names met, by the items

  -- a name met at the end of a round is that of an item scanned by then
  pub met_item : (k : ℕ) → k < turns → (n : Name) → T (mem n (end_of states (suc k)).met)
      → (line : ℕ) × (round : ℕ) × (free : List Name) × Scanned a s line round free × Has a s free n × (round ≤ k)
  unfolding first_scanned
  met_item k l n t = ⊎_elim
      (λ u. ⊎_elim
      (λ v. let (r, i, w) = collected_met opens (λ (r : Root). r.free_names) (goal_roots a s.roots) n v in
      let (j, q) = goal_root_elim a s.roots i in
      (r.line, 0, r.free_names, root r j q refl refl refl, met_has a s r.free_names n w, omega arith))
      (λ v. let (f, i, w) = collected_met opens (λ (f : Fact). f.free_names) (ambient_roots a (facts (records_for a s))) n v in
      let (j, q, x) = ambient_root_elim a (facts (records_for a s)) i in
      (f.line, 0, f.free_names, ambient_root f j q x refl refl refl, met_has a s f.free_names n w, omega arith))
      (met_append opens (collect (λ (r : Root). r.free_names) (goal_roots a s.roots)) (collect (λ (f : Fact). f.free_names) (ambient_roots a (facts (records_for a s)))) n u))
      (λ (f, i, u, w).
      let x : ReachedBy a s f = record { is_fact = i; is_reached = in_end f u } in
      (f.line, round_of states f, f.free_names, reached_fact f x (its_round f x) refl refl, met_has a s f.free_names n w, ((from_its_round a s wf k (omega arith)).reached f).0 u))
      (with_elim opens (facts (records_for a s)) first_names (reached_by (end_of states k)) n ((met_exactly a (records_for a s) s.roots wf k l n).0 t))
    where
      in_end : (f : Fact) → T (reached_by (end_of states k) f) → T (reached_by (run_of a s) f)
      in_end f u =
          subst (λ (r : Run). T (mem f.name r.reached)) (history_end a (records_for a s) s.roots)
          (reached_later a (records_for a s) s.roots wf k turns (omega arith) (omega arith) f.name u)

  -- the names of the first items are met from the first names
  first_met_from : (n : Name) {line round : ℕ} {free : List Name} (k : ℕ) → k < turns → Scanned a s line round free → round ≤ k
      → T (mem n (met_from opens free)) → T (mem n (met_with opens (facts (records_for a s)) first_names (reached_by (end_of states k))))
  unfolding first_scanned
  first_met_from n k l (root r i q p e f) b t =
      with_first opens (facts (records_for a s)) first_names (reached_by (end_of states k)) n
      (met_within opens (collect (λ (r : Root). r.free_names) (goal_roots a s.roots)) first_names (λ m j. Memᴰ.append_left _ j) n
      (met_collected opens (λ (r : Root). r.free_names) (goal_root_intro a s.roots i q) n (rw f at t)))
  first_met_from n k l (ambient_root f i q u p e g) b t =
      with_first opens (facts (records_for a s)) first_names (reached_by (end_of states k)) n
      (met_within opens (collect (λ (f : Fact). f.free_names) (ambient_roots a (facts (records_for a s)))) first_names (λ m j. Memᴰ.append_right (collect (λ (r : Root). r.free_names) (goal_roots a s.roots)) j) n
      (met_collected opens (λ (f : Fact). f.free_names) (ambient_root_intro a (facts (records_for a s)) i q u) n (rw g at t)))
  first_met_from n k l (reached_fact f x r p g) b t =
      with_fact opens (facts (records_for a s)) first_names (reached_by (end_of states k)) x.is_fact
      (((from_its_round a s wf k (omega arith)).reached f).1 (subst (λ z. z ≤ k) (one_round f x r) b)) n (rw g at t)

  -- and a name of such an item is met
  pub item_met : (k : ℕ) → k < turns → (n : Name) {line round : ℕ} {free : List Name} → Scanned a s line round free → Has a s free n → round ≤ k
      → T (mem n (end_of states (suc k)).met)
  item_met k l n {free} i h b = (met_exactly a (records_for a s) s.roots wf k l n).1 (first_met_from n k l i b (has_met a s free n h))

  -- ---- the supplier

  -- no name is met before round 1
  none_met : (n : Name) → T (mem n (end_of states 0).met) → ⊥
  unfolding mem any
  none_met n t = subst (λ (r : Run). T (mem n r.met)) (history_start a (records_for a s) s.roots) t

  -- what the definition gives is the supplier
  supplies : {i : Item} {n : Name} → Memᴰ i (scanned_items a (records_for a s) s.roots) → T (mem n i.names)
      → ((j : Item) → Memᴰ j (scanned_items a (records_for a s) s.roots) → T (mem n j.names) → BeforeItem i j) → Supplies a s n i.line i.round
  supplies {i} {n} m t least =
      let (free, x, e) = item_scanned m in
      record {
        free = free;
        is_scanned = x;
        has = met_has a s free n (subst (λ l. T (mem n l)) e t);
        lowest = λ line' round' free' y h. least (item opens line' round' free') (scanned_item y) (has_met a s free' n h);
      }

  -- a name that a scanned item has is supplied
  pub supplier_exact : {line round : ℕ} {free : List Name} (n : Name) → Scanned a s line round free → Has a s free n
      → (i : Item) × (supplier (scanned_items a (records_for a s) s.roots) n ≡ some i) × Supplies a s n i.line i.round
  supplier_exact {line} {round} {free} n x h = go (supplied (scanned_items a (records_for a s) s.roots) n) refl
    where
      go : {o : Option Item} → Supplied (scanned_items a (records_for a s) s.roots) n o → supplier (scanned_items a (records_for a s) s.roots) n ≡ o
          → (i : Item) × (supplier (scanned_items a (records_for a s) s.roots) n ≡ some i) × Supplies a s n i.line i.round
      go (nobody none_has) e = absurd (none_has (item opens line round free) (scanned_item x) (has_met a s free n h))
      go (somebody {i} m t least) e = (i, e, supplies m t least)

  -- what the definition gives is the supplier
  pub supplier_is : {i : Item} (n : Name) → supplier (scanned_items a (records_for a s) s.roots) n ≡ some i → Supplies a s n i.line i.round
  supplier_is {i} n e = go (supplied (scanned_items a (records_for a s) s.roots) n) e
    where
      go : {o : Option Item} → Supplied (scanned_items a (records_for a s) s.roots) n o → o ≡ some i → Supplies a s n i.line i.round
      go (nobody none_has) e = let z : ◌≡◌ {A = ℕ} 0 1 = cc in absurd (omega arith)
      go (somebody {i = j} m t least) e = let z : j ≡ i = cc in subst (λ (i : Item). Supplies a s n i.line i.round) z (supplies m t least)

  -- a name has one supplier
  pub one_supplier : {n : Name} {line line' round round' : ℕ} → Supplies a s n line round → Supplies a s n line' round' → (line ≡ line') × (round ≡ round')
  one_supplier {line} {line'} {round} {round'} x y =
      go (x.lowest line' round' y.free y.is_scanned y.has) (y.lowest line round x.free x.is_scanned x.has)
    where
      go : NotLater line round line' round' → NotLater line' round' line round → (line ≡ line') × (round ≡ round')
      go (inl p) (inl q) = absurd (omega arith)
      go (inl p) (inr q) = absurd (omega arith)
      go (inr p) (inl q) = absurd (omega arith)
      go (inr p) (inr q) = (omega arith, omega arith)

  -- a name met by the end of a round is supplied in a lower one
  pub supplied_before : (k : ℕ) → k ≤ turns → {n : Name} → T (mem n (end_of states k).met) → {line round : ℕ} → Supplies a s n line round → round < k
  supplied_before zero l {n} t x = absurd (none_met n t)
  supplied_before (suc k) l {n} t {line} {round} x =
      let (line', round', free', y, h, b) = met_item k (omega arith) n t in
      go (x.lowest line' round' free' y h) b
    where
      go : {line' round' : ℕ} → NotLater line round line' round' → round' ≤ k → round < suc k
      go (inl p) b = omega arith
      go (inr p) b = omega arith

  -- a name met by the end of a round is supplied
  pub met_supplied : (k : ℕ) → k ≤ turns → (n : Name) → T (mem n (end_of states k).met)
      → (i : Item) × (supplier (scanned_items a (records_for a s) s.roots) n ≡ some i) × Supplies a s n i.line i.round
  met_supplied zero l n t = absurd (none_met n t)
  met_supplied (suc k) l n t =
      let (line, round, free, y, h, b) = met_item k (omega arith) n t in
      supplier_exact n y h

  -- no item scanned before the round of a name's first meeting has it
  pub not_scanned_before : {n : Name} {k : ℕ} → FirstMet a s n k → {line round : ℕ} {free : List Name} → Scanned a s line round free → Has a s free n → k ≤ round
  not_scanned_before {n} {k} m {line} {round} {free} x h = go k m.in_run m.not_before (le_or_lt k round)
    where
      go : (k : ℕ) → k < turns → T (not (mem n (end_of states k).met)) → (k ≤ round) ⊎ (round < k) → k ≤ round
      go k l u (inl b) = b
      go zero l u (inr b) = absurd (omega arith)
      go (suc k) l u (inr b) = absurd (T_not (mem n (end_of states (suc k)).met) u (item_met k (omega arith) n x h (omega arith)))

  -- so the supplier is the lowest of the items of that round
  pub supplier_found : {n : Name} {k : ℕ} → FirstMet a s n k → (line round : ℕ) → Supplies a s n line round ↔ ((round ≡ k) × LowestIn a s n k line)
  supplier_found {n} {k} m line round = (
    λ x.
        let r = m.in_run in
        let lo = supplied_before (suc k) (omega arith) m.is_met x in
        let hi = not_scanned_before m x.is_scanned x.has in
        let e : round ≡ k = omega arith in (
          e,
          record {
            free = x.free;
            is_scanned = subst (λ r. Scanned a s line r x.free) e x.is_scanned;
            has = x.has;
            lowest = λ line' free' y h. line_le e (x.lowest line' k free' y h);
          },
        ),
    λ (e, x).
        record {
          free = x.free;
          is_scanned = subst (λ r. Scanned a s line r x.free) (sym e) x.is_scanned;
          has = x.has;
          lowest = λ line' round' free' y h. ⊎_elim
              (λ (b : round' ≤ k).
              let c = not_scanned_before m y h in
              let d : round' ≡ k = omega arith in
              inr (e ∙ sym d, x.lowest line' free' (subst (λ r. Scanned a s line' r free') d y) h))
              (λ (b : k < round'). inl (omega arith))
              (le_or_lt round' k);
        },
  )
    where
      line_le : {line' : ℕ} → round ≡ k → NotLater line round line' k → line ≤ line'
      line_le e (inl p) = absurd (omega arith)
      line_le e (inr p) = p.1

  -- ---- the round of a name

  -- a name that is met at the end is first met in its round
  pub first_met_in : (n : Name) → T (mem n (run_of a s).met) → (k : ℕ) × (round_met states n ≡ suc k) × FirstMet a s n k
  first_met_in n t =
      let b = ((from_its_round a s wf turns (omega arith)).met n).0 (subst (λ (r : Run). T (mem n r.met)) (sym (history_end a (records_for a s) s.roots)) t) in
      let u = ((from_its_round a s wf (round_met states n) b).met n).1 (omega arith) in
      let (k, q) = pred (round_met states n) (λ z. none_met n (subst (λ j. T (mem n (end_of states j).met)) z u)) in (
        k,
        q,
        record {
          in_run = omega arith;
          is_met = subst (λ j. T (mem n (end_of states j).met)) q u;
          not_before = not_T (mem n (end_of states k).met) (λ v. omega (arith, ((from_its_round a s wf k (omega arith)).met n).0 v));
        },
      )
