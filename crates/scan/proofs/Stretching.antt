-- A run that goes on over the tables that the reader filled.
use Prim.Native.Nat.{ℕ, zero, suc, ◌+◌, ◌-◌, ◌≤◌, ◌<◌}
use native.Mathlib.Omega.{arith}
use mathlib.Core.Path.{◌≡◌, refl, sym, ◌∙◌, ap, subst}
use mathlib.Core.Bool.{Bool, true, false, cond, not, ◌&&◌}
use mathlib.Core.Logic.{◌↔◌}
use mathlib.Core.List.{List, [], ◌∷◌, map, Memᴰ}
use lib.Dec.{T, eqb, ltb}
use lib.ListN.{length, get_or, drop}
use Rattle.model.specs.Lists.{any, collect}
use Rattle.model.specs.Names.{Name, mem, from_list}
use Rattle.model.specs.Reading.{Ask, Summary, Root, no_ambients, most_names, most_records, most_entries, most_asks}
use Rattle.model.specs.Rounds.{Run, facts, asks_for, run, visits}
use Rattle.model.specs.Also.{with_queries, also_scanned, stretch, chain, stretch_visits}
use Rattle.model.specs.Outcome.{position}
use Rattle.model.specs.declared.AsumKind.TheVariants.{Ambient}
use Rattle.model.specs.declared.Asked.{Asked}
use Rattle.model.specs.declared.Counts.{Counts}
use Rattle.model.proofs.ListLaws.{T_and, keep_intro, keep_elim, keep_cong, count_cong, collect_intro, collect_elim, map_intro, map_elim}
use Rattle.laws.proofs.BackgroundLaws.{background_groups, background_with}
use Rattle.laws.proofs.StretchLaws.{later, stretch_visited, first_visits, chain_with}
use Rattle.names.specs.Table.{name_of}
use Rattle.words.specs.Slices.{SameBut}
use Rattle.options.specs.OptionsOf.{asks}
use Rattle.records.specs.Columns.{record_kind, record_name, record_flag, summary_code, root_kind, code_of, ask_room, ask_query}
use Rattle.records.specs.States.{uses_at, decls_of, roots_of, background_of, takes_part, queries_of, ask_of}
use Rattle.records.proofs.Chains.{no_queries, one_query}
use Rattle.macros.specs.Macros.{Filled}
use Rattle.firing.specs.Held.{Held, upto, set_of}
use Rattle.firing.specs.Tables.{waits_on, held_of, starts_at}
use Rattle.firing.specs.Met.{run_end, work_column, reached_column, is_met, is_reached, unmet, zeroed_to}
use Rattle.scan.specs.Steps.{Going, going, Ready, Rounds}
use Rattle.scan.specs.Starts.{first_scan, pushed}
use Rattle.scan.specs.Runs.{tables_run, Ran}
use Rattle.scan.specs.Chains.{root_for, emptied, before_last, tables_chain, ChainStands, WentOn}
use Rattle.scan.specs.declared.Scan.{Scan}
use Rattle.firing.proofs.Numbers.{upto_elim, count_upto}
use Rattle.records.proofs.Taking.{part_groups}
use Rattle.scan.proofs.Visits.{or_none}
use Rattle.scan.proofs.Running.{Over, count_visits, rounds_same}
use Rattle.firing.proofs.Clearing.{few_unmet}
use Rattle.scan.proofs.Starting.{begun}
use Rattle.firing.proofs.Background.{roots_elim, roots_intro}
use Rattle.firing.proofs.Joining.{laid, holds}
use Rattle.firing.proofs.Starting.{free_in, free_out}
use Rattle.scan.proofs.GoingOn.{Rested, rounds_rested, BegunAgain, begun_again, stretch_over}

-- ---- the queries of an ask

-- the last, and those before it
pub last_query : (recs : List ℕ) (first n : ℕ) → first < n → queries_of recs first n ≡ ask_query recs (n - 1) ∷ queries_of recs first (n - 1)
last_query recs first zero l = absurd (omega arith)
last_query recs first (suc n) l = let e : suc n - 1 ≡ n = omega arith in rw e (one_query recs first n (omega arith))

-- the one of an ask line
pub one_asked : (recs : List ℕ) (first n : ℕ) → n ≡ first + 1 → queries_of recs first n ≡ ask_query recs (n - 1) ∷ []
one_asked recs first n e =
    last_query recs first n (omega arith) ∙ ap (λ qs. ask_query recs (n - 1) ∷ qs) (no_queries recs first (n - 1) (omega arith))

-- they are no more than the positions
pub queries_few : (recs : List ℕ) (first n : ℕ) → length (queries_of recs first n) ≤ n
unfolding queries_of
queries_few recs first zero = omega arith
queries_few recs first (suc n) = go (ltb n first) (queries_few recs first n)
  where
    go : (b : Bool) → length (queries_of recs first n) ≤ n → length (cond b [] (ask_query recs n ∷ queries_of recs first n)) ≤ suc n
    go true l = omega arith
    go false l = omega arith

-- ---- the chain of an ask

module _ (a : Ask) (decls : List Summary) (roots : List Root) where
  -- that of one query more goes on by its stretch
  chain_more : (q : ℕ) (l : List ℕ) → 0 < length l → chain a decls roots (q ∷ l) ≡ stretch a decls roots (chain a decls roots l) q
  unfolding chain
  chain_more q [] n = absurd (omega arith)
  chain_more q (p ∷ l) n = refl

-- that of one query is its run
chain_one : (options groups : ℕ) (decls : List Summary) (roots : List Root) (q : ℕ) (qs : List ℕ) → qs ≡ q ∷ []
    → chain (asks qs options groups) decls roots qs ≡ run (asks qs options groups) decls roots
unfolding chain with_queries
chain_one options groups decls roots q qs e = rw e

-- ---- the records that a stretch starts with

-- the ask of the last query alone, with option 1
abbrev pub alone : ℕ → ℕ → Asked
alone end groups = record { first = end - 1; end = end; options = 1; groups = groups }

-- it starts with the roots of the query
alone_starts : (recs : List ℕ) (end groups : ℕ) → 0 < end → (i : ℕ) → starts_at recs (alone end groups) i ≡ root_for recs (ask_query recs (end - 1)) i
unfolding starts_at root_for asks_for no_ambients any
alone_starts recs end groups l i =
    rw (one_asked recs (end - 1) end (omega arith), or_none (eqb (record_flag recs i) (ask_query recs (end - 1))))
    (pick (eqb (record_kind recs i) root_kind) (eqb (record_flag recs i) (ask_query recs (end - 1)))
    (eqb (summary_code recs i) (code_of (Ambient true))) (takes_part recs (asks (ask_query recs (end - 1) ∷ []) 1 groups) i))
  where
    pick : (b c d e : Bool) → cond b c (d && (e && false)) ≡ (b && c)
    pick true c d e = refl
    pick false c false e = refl
    pick false c true false = refl
    pick false c true true = refl

-- two tests that agree put the same records behind the worklist
pushed_alike : (test other : ℕ → Bool) → ((i : ℕ) → test i ≡ other i) → (n : ℕ) (g : Going) → pushed test n g ≡ pushed other n g
unfolding pushed
pushed_alike test other same zero g = refl
pushed_alike test other same (suc n) g = rw (same n, pushed_alike test other same n g)

module _ {file names recs lists : List ℕ} {k : Counts} (x : Filled file names recs lists k) where
  abbrev name : ℕ → Name
  name = name_of file names

  abbrev decls : List Summary
  decls = decls_of name recs lists k.records

  -- the background of an ask
  abbrev there : Asked → List Summary
  there a = background_of name recs lists (ask_of recs a) k.records

  abbrev roots : List Root
  roots = roots_of name recs lists k.records

  -- what the first round of the stretch of q scans
  scanned_at : (a : Asked) (q : ℕ) (is : List ℕ) → ((i : ℕ) → Memᴰ i is → (i < k.records) × T (root_for recs q i))
      → ((i : ℕ) → i < k.records → T (root_for recs q i) → Memᴰ i is)
      → (y : Name) → Memᴰ y (also_scanned q roots) ↔ Memᴰ y (map name (collect (uses_at recs lists) is))
  unfolding also_scanned root_for
  scanned_at a q is only every y = (
    λ m.
        let (z, u, v) = collect_elim (λ (r : Root). r.free_names) _ m in
        let (s, t) = keep_elim (λ (r : Root). eqb r.query q) roots u in
        let (i, l, c, e) = roots_elim name recs lists k.records s in
        let flag : T (eqb (record_flag recs i) q) = subst (λ (r : Root). T (eqb r.query q)) e t in
        let (b, p, d) = map_elim name (uses_at recs lists i) (free_in x a i (subst (λ (r : Root). Memᴰ y r.free_names) e v)) in
        subst (λ d. Memᴰ d (map name (collect (uses_at recs lists) is))) d
        (map_intro name (collect_intro (uses_at recs lists)
        (every i l ((T_and (eqb (record_kind recs i) root_kind) (eqb (record_flag recs i) q)).1 (c, flag))) p)),
    λ m.
        let (n, p, d) = map_elim name (collect (uses_at recs lists) is) m in
        let (i, j, b) = collect_elim (uses_at recs lists) is p in
        let (l, t) = only i j in
        let (u, v) = (T_and (eqb (record_kind recs i) root_kind) (eqb (record_flag recs i) q)).0 t in
        collect_intro (λ (r : Root). r.free_names)
        (keep_intro (λ (r : Root). eqb r.query q) (roots_intro name recs lists k.records i l u) v)
        (free_out x a i (subst (λ d. Memᴰ d (map name (uses_at recs lists i))) d (map_intro name b))),
  )

  -- ---- where a chain stands

  -- by the rounds on numbers that ended there
  stands_at : (a : Asked) (n : ℕ) {s : Scan} {w : List ℕ}
      → Over (held_of names recs lists k a) name (facts (there a)) (later n (tables_chain file names recs lists k (ask_of recs a))) (going s w)
      → Rested (held_of names recs lists k a) (length (queries_of recs a.first a.end)) (going s w)
      → ChainStands file names recs lists k (ask_of recs a) w s
  unfolding held_of
  stands_at a n o rested = record {
    long = rested.long;
    met = λ n l. sym (o.met_is n l);
    reached = sym o.reached_is;
    only_facts = λ i l t. rested.only_facts i l t;
    low = rested.low;
    few_rounds = rested.few_rounds;
    visits = sym o.visits_are;
  }

  -- a chain that stands there can go on with the same groups
  rests : {a : Ask} {w : List ℕ} {s : Scan} → ChainStands file names recs lists k a w s → (b : Asked) → b.groups ≡ a.groups → Rested (held_of names recs lists k b) (length a.queries) (going s w)
  unfolding held_of
  rests {a} {w} stands b e = record {
    long = stands.long;
    few_rounds = stands.few_rounds;
    low = stands.low;
    visits_are = stands.visits
        ∙ ap (λ l. visits (tables_chain file names recs lists k a).met (facts l)) (background_groups a (ask_of recs b) decls (sym e))
        ∙ count_visits ((laid x).fits b) (holds x b) w _ (λ n l. sym (stands.met n l));
    only_facts = λ i l t. let (u, v) = stands.only_facts i l t in (u, rw (part_groups recs (ask_of recs b) a e i) v);
  }

  -- its visits are few
  pub stands_visits : {a : Ask} {w : List ℕ} {s : Scan} → ChainStands file names recs lists k a w s → s.visits ≤ most_entries
  unfolding held_of
  stands_visits {a} {w} stands =
      omega (
        arith,
        (rests stands (alone 0 a.groups) refl).visits_are,
        count_upto (λ e. ltb (waits_on recs lists (alone 0 a.groups) e) k.names && is_met w (waits_on recs lists (alone 0 a.groups) e)) k.entries,
        x.recorded.few_entries,
      )

  -- and so are its rounds
  pub stands_rounds : (a : Asked) {w : List ℕ} {s : Scan} → ChainStands file names recs lists k (ask_of recs a) w s → a.end ≤ ask_room
      → s.rounds ≤ most_names + most_asks
  stands_rounds a stands few = omega (arith, stands.few_rounds, queries_few recs a.first a.end)

  -- what is written behind the columns of the run leaves it there
  pub stands_kept : {a : Ask} {w v : List ℕ} {s : Scan} {n : ℕ} → ChainStands file names recs lists k a w s → SameBut run_end n w v → ChainStands file names recs lists k a v s
  unfolding is_met is_reached unmet set_of
  stands_kept {a} {w} {v} stands same =
      let few_n = x.table.few in
      let few_r = x.recorded.few in
      let word : (i : ℕ) → i < run_end → get_or v i 0 ≡ get_or w i 0 = λ i l. same.same_words i (λ m. absurd (omega arith)) in
      let met : (n : ℕ) → n < k.names → is_met v n ≡ is_met w n = λ n l. ap (ltb 0) (word n (omega arith)) in
      let reached : (i : ℕ) → i < most_records → is_reached v i ≡ is_reached w i = λ i l. ap (ltb 0) (word (reached_column + i) (omega arith)) in
      let unmet_same : unmet k.names v ≡ unmet k.names w =
      count_cong (λ n. not (is_met v n)) (λ n. not (is_met w n)) (upto k.names) (λ n m. ap not (met n (upto_elim k.names m))) in
      record {
        long = omega (arith, stands.long, same.same_length);
        met = λ n l. met n l ∙ stands.met n l;
        reached = ap (λ l. from_list (map (λ i. name_of file names (record_name recs i)) l))
            (keep_cong (is_reached v) (is_reached w) (upto k.records) (λ i m. let l = upto_elim k.records m in reached i (omega arith)))
            ∙ stands.reached;
        only_facts = λ i l t. stands.only_facts i l (rw (reached i l) at t);
        low = λ n l. omega (arith, word n (omega arith), stands.low n l);
        few_rounds = omega (arith, stands.few_rounds);
        visits = stands.visits;
      }

  -- ---- the run of an ask line, the first of its chain

  module _ (a : Asked) (one : a.end ≡ a.first + 1) where
    run_is : tables_chain file names recs lists k (ask_of recs a) ≡ tables_run file names recs lists k a
    unfolding tables_chain tables_run
    run_is = chain_one a.options a.groups (there a) roots (ask_query recs (a.end - 1)) (queries_of recs a.first a.end) (one_asked recs a.first a.end one)

    pub ran_stands : {before after : List ℕ} {s : Scan} → Ran file names recs lists k a before after s → run_end ≤ length before
        → ChainStands file names recs lists k (ask_of recs a) after s
    unfolding held_of
    ran_stands {before} ran long =
        let h = held_of names recs lists k a in
        let g = pushed (starts_at recs a) k.records (going first_scan (zeroed_to work_column before)) in
        let b = begun h ((laid x).fits a) (starts_at recs a) before long in
        let rested = rounds_rested ((laid x).fits a) ran.words b.ready 0
        (let none = b.rounds_none in omega (arith, few_unmet k.names g.run, x.table.few)) in
        let lines : length (queries_of recs a.first a.end) ≡ 1 = ap length (one_asked recs a.first a.end one) in
        record {
          long = rested.long;
          met = λ n l. ran.met n l ∙ ap (λ (r : Run). mem (name n) r.met) (sym run_is);
          reached = ran.reached ∙ ap (λ (r : Run). r.reached) (sym run_is);
          only_facts = λ i l t. rested.only_facts i l t;
          low = rested.low;
          few_rounds = omega (arith, rested.few_rounds);
          visits = ran.visits ∙ ap (λ (r : Run). visits r.met (facts (there a))) (sym run_is);
        }

    -- its visits and rounds are those of the position
    pub ran_position : {before after : List ℕ} {s : Scan} → Ran file names recs lists k a before after s
        → (s.visits ≡ (position decls roots (ask_of recs a)).visits) × (s.rounds ≡ (position decls roots (ask_of recs a)).rounds)
    unfolding position tables_chain chain
    ran_position ran =
        let met = (tables_chain file names recs lists k (ask_of recs a)).met in (
          ran.visits
              ∙ ap (λ (r : Run). visits r.met (facts (there a))) (sym run_is)
              ∙ sym (first_visits met (facts (there a)))
              ∙ ap (λ l. stretch_visits (chain (ask_of recs a) (there a) roots (drop 1 l)).met met (facts (there a)))
              (sym (one_asked recs a.first a.end one)),
          ran.rounds ∙ ap (λ (r : Run). r.rounds) (sym run_is),
        )

  -- ---- the stretch of an also line

  -- the chain before it is that of its ask without the last query
  before_is : (a : Asked)
      → tables_chain file names recs lists k (ask_of recs (before_last a)) ≡ chain (ask_of recs a) (there a) roots (queries_of recs a.first (a.end - 1))
  unfolding tables_chain with_queries
  before_is a =
      let qs = queries_of recs a.first (a.end - 1) in
      ap (λ l. chain (ask_of recs (before_last a)) l roots qs) (background_with (ask_of recs a) qs decls)
      ∙ chain_with (ask_of recs a) (there a) roots qs qs

  -- the visits and rounds that it adds are those of the position
  pub went_position : (a : Asked) → a.first < a.end → {before after : List ℕ} {s r : Scan} → WentOn file names recs lists k a before s after r
      → (r.visits ≡ s.visits + (position decls roots (ask_of recs a)).visits) × (r.rounds ≡ s.rounds + (position decls roots (ask_of recs a)).rounds)
  unfolding position tables_chain
  went_position a l {s = s} went =
      let met = (tables_chain file names recs lists k (ask_of recs a)).met in (
        went.visits
            ∙ ap (λ (r : Run). s.visits + stretch_visits r.met met (facts (there a))) (before_is a)
            ∙ ap (λ l. s.visits + stretch_visits (chain (ask_of recs a) (there a) roots (drop 1 l)).met met (facts (there a)))
            (sym (last_query recs a.first a.end l)),
        went.rounds,
      )

  module _ (a : Asked) (few : a.end ≤ ask_room) (more : a.first + 1 < a.end) {w : List ℕ} {s : Scan}
      (stands : ChainStands file names recs lists k (ask_of recs (before_last a)) w s) where
    abbrev h : Held
    h = held_of names recs lists k a

    abbrev q : ℕ
    q = ask_query recs (a.end - 1)

    abbrev qs : List ℕ
    qs = queries_of recs a.first (a.end - 1)

    -- the chain with the last query
    chain_is : tables_chain file names recs lists k (ask_of recs a)
        ≡ stretch (ask_of recs a) (there a) roots (tables_chain file names recs lists k (ask_of recs (before_last a))) q
    unfolding tables_chain
    chain_is =
        let some = ap length (last_query recs a.first (a.end - 1) (omega arith)) in
        ap (chain (ask_of recs a) (there a) roots) (last_query recs a.first a.end (omega arith))
        ∙ chain_more (ask_of recs a) (there a) roots q qs (omega arith)
        ∙ ap (λ (r : Run). stretch (ask_of recs a) (there a) roots r q) (sym (before_is a))

    again : BegunAgain ((laid x).fits a) (root_for recs q) (length qs) (going s w) (pushed (root_for recs q) k.records (going (emptied s) w))
    unfolding held_of
    again = begun_again ((laid x).fits a) (root_for recs q) (length qs) s w (rests stands a refl) (omega (arith, queries_few recs a.first (a.end - 1)))

    module _ {g : Going} (is : g ≡ pushed (starts_at recs (alone a.end a.groups)) k.records (going (emptied s) w)) where
      from_roots : g ≡ pushed (root_for recs q) k.records (going (emptied s) w)
      from_roots = is ∙ pushed_alike _ _ (alone_starts recs a.end a.groups (omega arith)) k.records (going (emptied s) w)

      pub also_ready : Ready h g
      also_ready = subst (λ g. Ready h g) (sym from_roots) again.ready

      pub went_on : {r : Scan} {v : List ℕ} → Rounds h g (going r v) → WentOn file names recs lists k a w s v r
      unfolding held_of
      went_on {r} {v} from_g =
          let rounds = subst (λ g. Rounds h g (going r v)) from_roots from_g in
          let before = tables_chain file names recs lists k (ask_of recs (before_last a)) in
          let after = tables_chain file names recs lists k (ask_of recs a) in
          let o : Over h name (facts (there a)) (later s.rounds after) (going r v) =
          subst (λ (c : Run). Over h name (facts (there a)) (later s.rounds c) (going r v)) (sym chain_is)
          (stretch_over (there a) ((laid x).fits a) (holds x a) roots before (λ n l. sym (stands.met n l)) (sym stands.reached) again q
          (scanned_at a q _ again.item_elim again.item_intro) rounds) in
          let lines : length (queries_of recs a.first a.end) ≡ length qs + 1 =
          let e = ap length (last_query recs a.first a.end (omega arith)) in omega arith in
          record {
            stands = stands_at a s.rounds o
                (subst (λ n. Rested h n (going r v)) (sym lines) (rounds_rested ((laid x).fits a) rounds again.ready (length qs) again.few_rounds));
            rounds = sym o.rounds_are;
            visits = sym o.visits_are
                ∙ subst (λ (c : Run). visits c.met (facts (there a)) ≡ visits before.met (facts (there a)) + stretch_visits before.met c.met (facts (there a)))
                (sym chain_is) (stretch_visited (ask_of recs a) (there a) roots before q)
                ∙ ap (λ n. n + stretch_visits before.met after.met (facts (there a)))
                (ap (λ l. visits before.met (facts l)) (background_groups (ask_of recs a) (ask_of recs (before_last a)) decls refl) ∙ sym stands.visits);
            same = rounds_same ((laid x).fits a) rounds again.ready again.same_length again.far;
            words = rounds;
          }
