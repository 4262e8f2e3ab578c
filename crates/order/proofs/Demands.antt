-- The demands of a call of the order check.
use Prim.Native.Nat.{ℕ, ◌≤◌}
use native.Mathlib.Omega.{arith}
use mathlib.Core.Path.{◌≡◌, refl, sym, ◌∙◌, ap}
use mathlib.Core.Logic.{◌↔◌, ◌⊎◌, inl, inr}
use mathlib.Core.List.{List, [], ◌∷◌}
use lib.ListN.{length, take, drop}
use Rattle.model.specs.Reading.{State}
use Rattle.model.specs.Outcome.{refusal_number}
use Rattle.model.specs.Precedence.{late_rows}
use Rattle.model.specs.Checking.{Checked, refusal_at, listed_rows, ordered, table_after}
use Rattle.model.specs.declared.Refusal.{Refusal}
use Rattle.model.specs.declared.Refusal.TheVariants as refusal
use Rattle.model.specs.declared.Row.{Row}
use Rattle.model.specs.declared.Verdict.TheVariants as verdict
use Rattle.demands.specs.LinesRead.{LinesRead}
use Rattle.demands.specs.Demand1.{OfFront, LinesJudged}
use Rattle.demands.proofs.Demand1.{not_8}
use Rattle.demands.proofs.Spelling.{names_in_order}
use Rattle.demands.proofs.Checking.{check_exact, rows_kept}
use Rattle.demands.proofs.Precedence.{late_rows_exact, late_rows_in_order, late_rows_bound, no_circle, declared_before}
use Rattle.front.specs.Demand.{verdict_number}
use Rattle.front.proofs.Verdicts.{not_both, one_refusal, by_number, numbered, number_of}
use Rattle.front.proofs.Demand.{Tells, front_demand}
use Rattle.precedence.specs.Call.{check_in_numbers}
use Rattle.precedence.specs.declared.Late.{Late}
use Rattle.order.specs.Call.{Call, comes_to, Exact}
use Rattle.order.specs.Demands.{works, Accepts, Refuses, Demand1, written, Lists, Demands, DemandsMet, KeptPromise}

-- a list of no length has no member
none_long : (rs : List Row) → length rs ≡ 0 → rs ≡ []
none_long [] e = refl
none_long (r ∷ rs) e = absurd (omega arith)

module _ (c : Call) (exact : Exact c) where
  abbrev e : Checked
  e = comes_to c

  -- each field of the answer is that of what it comes to
  number_is : c.answer.refusal ≡ verdict_number (ordered e).verdict
  unfolding check_in_numbers
  number_is = ap (λ (r : Late). r.refusal) exact.answered

  place_is : c.answer.place ≡ (ordered e).place
  unfolding check_in_numbers
  place_is = ap (λ (r : Late). r.place) exact.answered

  refusal_of : {x : Checked} → e ≡ x → c.answer.refusal ≡ verdict_number (ordered x).verdict
  refusal_of is = number_is ∙ ap (λ (x : Checked). verdict_number (ordered x).verdict) is

  place_of : {x : Checked} → e ≡ x → c.answer.place ≡ (ordered x).place
  place_of is = place_is ∙ ap (λ (x : Checked). (ordered x).place) is

  count_of : {x : Checked} → e ≡ x → c.answer.rows ≡ (ordered x).rows
  unfolding check_in_numbers
  count_of is = ap (λ (r : Late). r.rows) exact.answered ∙ ap (λ (x : Checked). (ordered x).rows) is

  table_of : {x : Checked} → e ≡ x → c.table' ≡ table_after x c.table
  table_of is = exact.table ∙ ap (λ (x : Checked). table_after x c.table) is

  -- the two things that it comes to
  data Comes : Type 0 where
    stops : (r : Refusal) (n : ℕ) → e ≡ refusal_at r n → (r ≡ refusal.Room) ⊎ OfFront r → Comes
    lists : (given : List Row) → e ≡ listed_rows given → Comes

  comes : Comes
  comes = go e refl
    where
      go : (x : Checked) → e ≡ x → Comes
      go (refusal_at r n) q = stops r n q ((check_exact c.file (works c) (length c.table)).own_refusal r n q)
      go (listed_rows given) q = lists given q

  refuses : (r : Refusal) (n : ℕ) → Refuses c (refusal_number r) n ↔ (((ordered e).verdict ≡ verdict.Refused r) × ((ordered e).place ≡ n))
  refuses r n = (
    λ (p, q). (by_number (ordered e).verdict r (sym number_is ∙ p), sym place_is ∙ q),
    λ (p, q). (number_is ∙ ap verdict_number p ∙ number_of r, place_is ∙ q),
  )

  -- a refusal is what it comes to
  refusal_is : (r : Refusal) (n : ℕ) → Refuses c (refusal_number r) n ↔ (e ≡ refusal_at r n)
  unfolding ordered
  refusal_is r n = (
    λ p. to comes ((refuses r n).0 p),
    λ is. (refuses r n).1 (ap (λ (x : Checked). (ordered x).verdict) is, ap (λ (x : Checked). (ordered x).place) is),
  )
    where
      to : Comes → ((ordered e).verdict ≡ verdict.Refused r) × ((ordered e).place ≡ n) → e ≡ refusal_at r n
      to (stops q m is u) (v, w) =
          let same : q ≡ r = one_refusal (sym (ap (λ (x : Checked). (ordered x).verdict) is) ∙ v) in
          let place : m ≡ n = sym (ap (λ (x : Checked). (ordered x).place) is) ∙ w in
          is ∙ ap (λ (z : Refusal). refusal_at z m) same ∙ ap (refusal_at r) place
      to (lists given is) (v, w) = absurd (not_both (ap (λ (x : Checked). (ordered x).verdict) is) v)

  front_told : Tells (Refuses c) c.file (works c)
  front_told r n o =
      let x = (check_exact c.file (works c) (length c.table)).refused r n (not_8 o) in
      (λ p. x.0 ((refusal_is r n).0 p), λ q. (refusal_is r n).1 (x.1 q))

  -- the numbers
  number_of_refusal : {r : Refusal} {n : ℕ} → e ≡ refusal_at r n → c.answer.refusal ≡ refusal_number r
  unfolding ordered verdict_number
  number_of_refusal is = refusal_of is

  eight : refusal_number refusal.Room ≡ 8
  unfolding refusal_number
  eight = refl

  some_number : {r : Refusal} → (r ≡ refusal.Room) ⊎ OfFront r → 1 ≤ refusal_number r
  some_number (inl q) = rw q (omega (arith, eight))
  some_number (inr o) = (numbered o).0

  accepts : {given : List Row} → e ≡ listed_rows given → Accepts c
  unfolding ordered verdict_number
  accepts is = refusal_of is

  refused_none : {r : Refusal} {n : ℕ} → e ≡ refusal_at r n → (c.answer.rows ≡ 0) × (c.table' ≡ c.table)
  unfolding ordered table_after
  refused_none is = (count_of is, table_of is)

  none_left : (Accepts c → ⊥) → (c.answer.rows ≡ 0) × (c.table' ≡ c.table)
  none_left other = go comes
    where
      go : Comes → (c.answer.rows ≡ 0) × (c.table' ≡ c.table)
      go (stops r n is o) = refused_none is
      go (lists given is) = absurd (other (accepts is))

  demand_1 : Demand1 c
  demand_1 = record {
    refusals = ways comes;
    listed = (to comes, from comes);
    front = front_demand (Refuses c) c.file [] c.lent c.left front_told exact.slices;
    refused_8 = λ place.
        let x = (check_exact c.file (works c) (length c.table)).refused_8 place in
        let y = refusal_is refusal.Room place in
        (λ p. x.0 (y.0 (rw eight p)), λ w. rw eight at (y.1 (x.1 w)));
    no_rows = λ other. (none_left other).0;
    no_row = λ other. (none_left other).1;
  }
    where
      ways : Comes → Accepts c ⊎ (((r : Refusal) × OfFront r × Refuses c (refusal_number r) c.answer.place) ⊎ Refuses c 8 c.answer.place)
      ways (stops r n is (inl q)) = inr (inr (number_of_refusal is ∙ ap refusal_number q ∙ eight, refl))
      ways (stops r n is (inr o)) = inr (inl (r, o, (number_of_refusal is, refl)))
      ways (lists given is) = inl (accepts is)

      to : Comes → Accepts c
          → LinesJudged c.file (works c) × ((s : State) × LinesRead c.file s × (length (late_rows s) ≤ length c.table))
      to (stops r n is o) p = absurd (omega (arith, number_of_refusal is, some_number o))
      to (lists given is) p =
          let (judged, (s, read, g, fits)) = ((check_exact c.file (works c) (length c.table)).rows_listed given).0 is in
          (judged, (s, read, rw g at fits))

      from : Comes
          → LinesJudged c.file (works c) × ((s : State) × LinesRead c.file s × (length (late_rows s) ≤ length c.table))
          → Accepts c
      from k (judged, (s, read, fits)) =
          accepts (((check_exact c.file (works c) (length c.table)).rows_listed (late_rows s)).1 (judged, (s, read, refl, fits)))

  lists_rows : (s : State) (given : List Row) → LinesRead c.file s → given ≡ late_rows s → length given ≤ length c.table
      → e ≡ listed_rows given → Lists c s
  unfolding ordered
  lists_rows s given read g fits is =
      let (sized, first, past) = rows_kept (listed_rows given) c.table fits in
      let many : c.answer.rows ≡ length given = count_of is in
      let same = table_of is in
      let all : written c ≡ late_rows s = ap (λ (n : ℕ). take n c.table') many ∙ ap (take (length given)) same ∙ first ∙ g in
      record {
        rows_are = all;
        counted = many ∙ ap length g;
        place = place_of is;
        past = ap (λ (n : ℕ). drop n c.table') many ∙ ap (drop (length given)) same ∙ past ∙ sym (ap (λ (n : ℕ). drop n c.table) many);
        spelled = names_in_order c.file s read;
        exact = λ r. let x = late_rows_exact c.file s read r in (λ i. x.0 (rw all at i), λ q. rw all (x.1 q));
        in_order = rw all (late_rows_in_order c.file s read);
        few = omega (arith, many, ap length g, (late_rows_bound c.file s read).1);
        no_circle = λ none d. no_circle c.file s read (λ r i. none r (rw all i)) d;
        declared_before = λ zero. declared_before c.file s read (none_long (late_rows s) (sym (ap length g) ∙ sym many ∙ zero));
      }

  demands : Demands c
  demands = record { demand_1 = demand_1; accepted = λ p. go p comes }
    where
      go : Accepts c → Comes → (s : State) × LinesRead c.file s × Lists c s
      go p (stops r n is o) = absurd (omega (arith, number_of_refusal is, some_number o))
      go p (lists given is) =
          let (judged, (s, read, g, fits)) = ((check_exact c.file (works c) (length c.table)).rows_listed given).0 is in
          (s, read, lists_rows s given read g fits is)

pub demands_met : DemandsMet
demands_met c exact = demands c exact

-- what a call leaves keeps the promise
pub promise : (c : Call) → Exact c → KeptPromise c
promise c exact = record { exact = exact; demands = demands_met c exact }
