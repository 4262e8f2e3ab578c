-- The demands of a call of reasons.
use Prim.Native.Nat.{ℕ, suc, ◌≤◌, ◌<◌}
use native.Mathlib.Omega.{arith}
use mathlib.Core.Path.{◌≡◌, refl, sym, ◌∙◌, ap}
use mathlib.Core.Logic.{◌↔◌, ◌⊎◌, inl, inr, ⊎_elim}
use mathlib.Core.List.{List, [], ◌∷◌}
use lib.ListN.{length, take, drop, length-append}
use Rattle.model.specs.Lines.{lines}
use Rattle.model.specs.Summaries.{exclude_names}
use Rattle.model.specs.Reading.{Ask, State}
use Rattle.model.specs.Outcome.{refusal_number, stopped, opened, front}
use Rattle.model.specs.Working.{sizes}
use Rattle.model.specs.Reasons.{rows, met_number}
use Rattle.model.specs.Explaining.{Explanation, refusal_at, no_position, told, row_table, why, table_after}
use Rattle.model.specs.declared.Refusal.{Refusal}
use Rattle.model.specs.declared.Refusal.TheVariants as refusal
use Rattle.model.specs.declared.Row.{Row}
use Rattle.model.specs.declared.Verdict.TheVariants as verdict
use Rattle.laws.proofs.ReadingLaws.{file_read}
use Rattle.demands.specs.Demand1.{OfFront, line, LinesJudged}
use Rattle.demands.specs.Asks.{asks_on}
use Rattle.demands.specs.LinesRead.{LinesRead, At}
use Rattle.demands.specs.Explaining.{When15}
use Rattle.demands.proofs.Demand1.{clash, front_stops, file_opened}
use Rattle.demands.proofs.Asks.{asks_exact}
use Rattle.demands.proofs.Spelling.{names_in_order}
use Rattle.demands.proofs.Explaining.{explains, table_exact}
use Rattle.demands.proofs.Reasons.{rows_exact, one_row_each, rows_in_order, supplier_lower, chains_end, met_exact}
use Rattle.front.specs.Demand.{verdict_number}
use Rattle.front.proofs.Verdicts.{not_both, one_refusal, by_number, numbered, number_of}
use Rattle.front.proofs.Demand.{Tells, front_demand}
use Rattle.explain.specs.Call.{reasons_in_numbers}
use Rattle.explain.specs.declared.Reasons.{Reasons}
use Rattle.why.specs.Call.{Call, comes_to, Exact}
use Rattle.why.specs.Demands.{all_slices, Accepts, Refuses, Demand1, filled, ToldOf, Demands, DemandsMet, KeptPromise}

-- 15 is no refusal of the front
not_15 : {r : Refusal} → OfFront r → r ≡ refusal.Position → ⊥
not_15 o e = go (rw e at o)
  where
    go : OfFront refusal.Position → ⊥
    go (line o) = elim o [ ]

module _ (c : Call) (exact : Exact c) where
  abbrev e : Explanation
  e = comes_to c

  -- the number and the place are those of the verdict
  number_is : c.answer.refusal ≡ verdict_number (why e).verdict
  unfolding reasons_in_numbers
  number_is = ap (λ (r : Reasons). r.refusal) exact.answered

  place_is : c.answer.place ≡ (why e).place
  unfolding reasons_in_numbers
  place_is = ap (λ (r : Reasons). r.place) exact.answered

  refuses : (r : Refusal) (n : ℕ) → Refuses c (refusal_number r) n ↔ (((why e).verdict ≡ verdict.Refused r) × ((why e).place ≡ n))
  refuses r n = (
    λ (p, q). (by_number (why e).verdict r (sym number_is ∙ p), sym place_is ∙ q),
    λ (p, q). (number_is ∙ ap verdict_number p ∙ number_of r, place_is ∙ q),
  )

  -- the three things that it comes to
  data Comes : Type 0 where
    stops : (r : Refusal) (n : ℕ) → e ≡ refusal_at r n → OfFront r → Comes
    lacks : e ≡ no_position → Comes
    tells : (given : List Row) (met : ℕ) → e ≡ told given met → Comes

  comes : Comes
  comes = go e refl
    where
      go : (x : Explanation) → e ≡ x → Comes
      go (refusal_at r n) q =
          stops r n q (front_stops c.file (all_slices c) r n (((explains c.file c.position (sizes c.lent) (length c.table)).refused r n).0 q))
      go no_position q = lacks q
      go (told given met) q = tells given met q

  -- a refusal of the front
  front_told : Tells (Refuses c) c.file (all_slices c)
  unfolding why
  front_told r n o =
      let x = (explains c.file c.position (sizes c.lent) (length c.table)).refused r n in (
        λ p. x.0 (to comes ((refuses r n).0 p)),
        λ q. let y = x.1 q in (refuses r n).1 (ap (λ (x : Explanation). (why x).verdict) y, ap (λ (x : Explanation). (why x).place) y),
      )
    where
      to : Comes → ((why e).verdict ≡ verdict.Refused r) × ((why e).place ≡ n) → e ≡ refusal_at r n
      to (stops q m is u) (v, w) =
          let same : q ≡ r = one_refusal (sym (ap (λ (x : Explanation). (why x).verdict) is) ∙ v) in
          let place : m ≡ n = sym (ap (λ (x : Explanation). (why x).place) is) ∙ w in
          is ∙ ap (λ (z : Refusal). refusal_at z m) same ∙ ap (refusal_at r) place
      to (lacks is) (v, w) = absurd (not_15 o (sym (one_refusal (sym (ap (λ (x : Explanation). (why x).verdict) is) ∙ v))))
      to (tells given met is) (v, w) = absurd (not_both (ap (λ (x : Explanation). (why x).verdict) is) v)

  -- each field of the answer is that of what it comes to
  refusal_of : {x : Explanation} → e ≡ x → c.answer.refusal ≡ verdict_number (why x).verdict
  refusal_of is = number_is ∙ ap (λ (x : Explanation). verdict_number (why x).verdict) is

  place_of : {x : Explanation} → e ≡ x → c.answer.place ≡ (why x).place
  place_of is = place_is ∙ ap (λ (x : Explanation). (why x).place) is

  counts_of : {x : Explanation} → e ≡ x → (c.answer.met ≡ (why x).met) × (c.answer.rows ≡ (why x).rows)
  unfolding reasons_in_numbers
  counts_of is = (
    ap (λ (r : Reasons). r.met) exact.answered ∙ ap (λ (x : Explanation). (why x).met) is,
    ap (λ (r : Reasons). r.rows) exact.answered ∙ ap (λ (x : Explanation). (why x).rows) is,
  )

  table_of : {x : Explanation} → e ≡ x → c.table' ≡ table_after x c.table
  table_of is = exact.table ∙ ap (λ (x : Explanation). table_after x c.table) is

  -- a refusal of the front has its number, 15 its own, and rows none
  number_of_front : {r : Refusal} {n : ℕ} → e ≡ refusal_at r n → c.answer.refusal ≡ refusal_number r
  unfolding why verdict_number
  number_of_front is = refusal_of is

  number_of_15 : e ≡ no_position → c.answer.refusal ≡ 15
  unfolding why verdict_number refusal_number
  number_of_15 is = refusal_of is

  accepts : {given : List Row} {met : ℕ} → e ≡ told given met → Accepts c
  unfolding why verdict_number
  accepts is = refusal_of is

  refused_none : {r : Refusal} {n : ℕ} → e ≡ refusal_at r n → (c.answer.met ≡ 0) × (c.answer.rows ≡ 0) × (c.table' ≡ c.table)
  unfolding why table_after
  refused_none is = ((counts_of is).0, (counts_of is).1, table_of is)

  lacks_none : e ≡ no_position → (c.answer.met ≡ 0) × (c.answer.rows ≡ 0) × (c.table' ≡ c.table)
  unfolding why table_after
  lacks_none is = ((counts_of is).0, (counts_of is).1, table_of is)

  none_left : (Accepts c → ⊥) → (c.answer.met ≡ 0) × (c.answer.rows ≡ 0) × (c.table' ≡ c.table)
  none_left other = go comes
    where
      go : Comes → (c.answer.met ≡ 0) × (c.answer.rows ≡ 0) × (c.table' ≡ c.table)
      go (stops r n is o) = refused_none is
      go (lacks is) = lacks_none is
      go (tells given met is) = absurd (other (accepts is))

  -- where an ask stands at the position the call accepts, and nowhere else
  There : Type 0
  There =
      LinesJudged c.file (all_slices c)
      × ((s : State) × LinesRead c.file s × ((k : ℕ) × (c.position ≡ suc k) × (k < length s.asks)))

  accepted_there : Comes → Accepts c → There
  unfolding There
  accepted_there (stops r n is o) p = absurd (omega (arith, number_of_front is, (numbered o).0))
  accepted_there (lacks is) p = absurd (omega (arith, number_of_15 is))
  accepted_there (tells given met is) p =
      let (judged, (s, read, (a, (k, e, at), g, m, fits))) =
      ((explains c.file c.position (sizes c.lent) (length c.table)).rows_told given met).0 is in
      (judged, (s, read, (k, e, omega (arith, at.place, ap length at.are, length-append at.before (a ∷ at.after)))))

  there_accepted : Comes → There → Accepts c
  unfolding There
  there_accepted (stops r n is o) (judged, (s, read, place)) =
      absurd (apart ((file_opened c.file (all_slices c) s).1 (judged, read))
      (((explains c.file c.position (sizes c.lent) (length c.table)).refused r n).0 is))
    where
      apart : front c.file (all_slices c) ≡ opened s → front c.file (all_slices c) ≡ stopped r n → ⊥
      apart x y = clash (cc)
  there_accepted (lacks is) (judged, (s, read, (k, e, low))) =
      let (judged', (s', read', p)) = (explains c.file c.position (sizes c.lent) (length c.table)).refused_15.0 is in
      let same = one ((file_opened c.file (all_slices c) s).1 (judged, read)) ((file_opened c.file (all_slices c) s').1 (judged', read')) in
      absurd (⊎_elim (λ z. omega (arith, e)) (λ (h : length s'.asks < c.position). omega (arith, e, low, ap (λ (s : State). length s.asks) same)) p)
    where
      one : {u v : State} → front c.file (all_slices c) ≡ opened u → front c.file (all_slices c) ≡ opened v → u ≡ v
      one x y = cc
  there_accepted (tells given met is) t = accepts is

  demand_1 : Demand1 c
  unfolding why There
  demand_1 = record {
    refusals = ways comes;
    told = (accepted_there comes, there_accepted comes);
    front = front_demand (Refuses c) c.file (row_table (length c.table) ∷ []) c.lent c.left front_told exact.slices;
    refused_15 = λ place. (to place comes, from place);
    no_counts = λ other. let n = none_left other in (n.0, n.1);
    no_row = λ other. (none_left other).2;
  }
    where
      ways : Comes → Accepts c ⊎ (((r : Refusal) × OfFront r × Refuses c (refusal_number r) c.answer.place) ⊎ Refuses c 15 0)
      ways (stops r n is o) = inr (inl (r, o, (number_of_front is, refl)))
      ways (lacks is) = inr (inr (number_of_15 is, place_of is))
      ways (tells given met is) = inl (accepts is)

      to : (place : ℕ) → Comes → Refuses c 15 place → (place ≡ 0) × When15 c.file c.position (sizes c.lent) (length c.table)
      to place (stops r n is o) (p, q) = absurd (omega (arith, number_of_front is, (numbered o).1))
      to place (lacks is) (p, q) =
          (sym q ∙ place_of is, (explains c.file c.position (sizes c.lent) (length c.table)).refused_15.0 is)
      to place (tells given met is) (p, q) = absurd (omega (arith, accepts is))

      from : (place : ℕ) → (place ≡ 0) × When15 c.file c.position (sizes c.lent) (length c.table) → Refuses c 15 place
      from place (z, w) =
          let is = (explains c.file c.position (sizes c.lent) (length c.table)).refused_15.1 w in
          (number_of_15 is, place_of is ∙ sym z)

  -- what is told of the ask at the position
  told_of : (s : State) (a : Ask) (given : List Row) (met : ℕ) → LinesRead c.file s → given ≡ rows a s → met ≡ met_number a s
      → length given ≤ length c.table → e ≡ told given met → ToldOf c s a
  unfolding why
  told_of s a given met read g m fits is =
      let (sized, first, past) = table_exact (told given met) c.table fits in
      let many : c.answer.rows ≡ length given = (counts_of is).1 in
      let same = table_of is in
      let all : filled c ≡ rows a s = ap (λ (n : ℕ). take n c.table') many ∙ ap (take (length given)) same ∙ first ∙ g in
      record {
        rows_are = all;
        counted_rows = many ∙ ap length g;
        place = place_of is;
        spelled = names_in_order c.file s read;
        past = ap (λ (n : ℕ). drop n c.table') many ∙ ap (drop (length given)) same ∙ past ∙ sym (ap (λ (n : ℕ). drop n c.table) many);
        exact = λ r. let x = rows_exact c.file s read a r in (λ i. x.0 (rw all at i), λ q. rw all (x.1 q));
        one_row = one_row_each c.file s read a;
        lower = λ r q. supplier_lower c.file s read a r q;
        in_order = rw all (rows_in_order c.file s read a);
        grounded = chains_end c.file s read a;
        met = (counts_of is).0 ∙ m;
        met_counted = met_exact c.file s read a;
      }

  demands : Demands c
  demands = record { demand_1 = demand_1; accepted = λ p. go p comes }
    where
      go : Accepts c → Comes → (s : State) × LinesRead c.file s × (s.asks ≡ asks_on (lines c.file)) × ((a : Ask)
          × ((k : ℕ) × (c.position ≡ suc k) × At s.asks k a) × ToldOf c s a)
      go p (stops r n is o) = absurd (omega (arith, number_of_front is, (numbered o).0))
      go p (lacks is) = absurd (omega (arith, number_of_15 is))
      go p (tells given met is) =
          let (judged, (s, read, (a, there, g, m, fits))) =
          ((explains c.file c.position (sizes c.lent) (length c.table)).rows_told given met).0 is in
          (s, read, asks_exact (lines c.file) s (file_read exclude_names c.file s read), (a, there, told_of s a given met read g m fits is))

pub demands_met : DemandsMet
demands_met c exact = demands c exact

-- what a call leaves keeps the promise
pub promise : (c : Call) → Exact c → KeptPromise c
promise c exact = record { exact = exact; demands = demands_met c exact }
