-- What the functions that meet the first names, pass and sweep cite.
use Prim.Native.Nat.{ℕ, ◌+◌, ◌≤◌, ◌<◌}
use native.Mathlib.Omega.{arith}
use native.Mathlib.Numerals.{add-one}
use mathlib.Core.Path.{◌≡◌, refl, sym, ◌∙◌, ap, subst}
use mathlib.Core.Bool.{Bool, true, false}
use mathlib.Core.List.{List}
use lib.ListN.{length, set, length-set}
use Rattle.model.specs.Reading.{most_records}
use Rattle.model.specs.declared.Asked.{Asked}
use Rattle.model.specs.declared.Counts.{Counts}
use Rattle.words.specs.Slices.{Zeroed}
use Rattle.firing.specs.Held.{Held, Fits}
use Rattle.firing.specs.Met.{reached_column, work_column, run_end, marks, unreached, zeroed_to}
use Rattle.firing.specs.Firing.{opened_all}
use Rattle.firing.specs.Tables.{held_of, Laid, starts_at}
use Rattle.firing.proofs.Marks.{marks_length}
use Rattle.firing.proofs.Clearing.{zeroed_is, clear_length, few_unreached}
use Rattle.sweeping.specs.Sweeping.{Sweeping, sweeping, joins, joined, pass_record, passed, pass_all, Passes, last, more, met_of}
use Rattle.sweeping.specs.Swept.{met_first}
use Rattle.sweeping.proofs.Passing.{met_behind, pass_behind, pass_fewer}

-- ---- the first names

-- the first i records are looked at
pub record Meeting (h : Held) (test : ℕ → Bool) (w₀ : List ℕ) (i : ℕ) (w : List ℕ) : Type 0 where
  pub same_length : length w ≡ length w₀
  pub met : w ≡ met_of h test i w₀

module _ {h : Held} {test : ℕ → Bool} {w₀ : List ℕ} where
  pub meet_start : {w : List ℕ} → w ≡ w₀ → Meeting h test w₀ 0 w
  unfolding met_of
  meet_start e = record { same_length = ap length e; met = e }

  module _ {i : ℕ} {w : List ℕ} (m : Meeting h test w₀ i w) {b : Bool} (p : b ≡ test i) where
    pub meet_skip : b ≡ false → Meeting h test w₀ (i + 1) w
    unfolding met_of
    meet_skip q = record { same_length = m.same_length; met = rw (add-one i, ← p, q) m.met }

    pub meet_next : {v : List ℕ} → b ≡ true → v ≡ marks 1 w (opened_all h.opens (h.frees i)) → Meeting h test w₀ (i + 1) v
    unfolding met_of
    meet_next q e =
        record {
          same_length = ap length e ∙ marks_length 1 w (opened_all h.opens (h.frees i)) ∙ m.same_length;
          met = rw (add-one i, ← p, q, ← m.met) e;
        }

  pub meet_end : {i count : ℕ} {w : List ℕ} → Meeting h test w₀ i w → i ≡ count → w ≡ met_of h test count w₀
  meet_end {w = w} m e = subst (λ n. w ≡ met_of h test n w₀) e m.met

-- the columns set to zero and the names met are the slice before the first pass
pub first_names : (names recs lists : List ℕ) (k : Counts) (a : Asked) {w v u : List ℕ} {i : ℕ} → run_end ≤ length w → Zeroed 0 work_column w v
    → Meeting (held_of names recs lists k a) (starts_at recs a) v i u → i ≡ k.records → u ≡ met_first names recs lists k a w
unfolding met_first
first_names names recs lists k a {w} {v} long z m l =
    meet_end m l ∙ ap (met_of (held_of names recs lists k a) (starts_at recs a) k.records) (zeroed_is work_column w v (omega arith) z)

-- it is as long
pub first_length : {names recs lists : List ℕ} {k : Counts} → Laid names recs lists k → (a : Asked) (w : List ℕ) {u : List ℕ}
    → u ≡ met_first names recs lists k a w → length u ≡ length w
unfolding met_first held_of
first_length {recs = recs} {k = k} laid a w e =
    ap length e ∙ (met_behind (laid.fits a) (starts_at recs a) k.records (omega arith) (zeroed_to work_column w)).same_length ∙ clear_length work_column w

-- ---- a pass

-- the first i records are passed
pub record Passing (h : Held) (w₀ : List ℕ) (i : ℕ) (w : List ℕ) (added : Bool) : Type 0 where
  pub same_length : length w ≡ length w₀
  pub goes : (n : ℕ) → sweeping w n added ≡ passed h i (sweeping w₀ n false)

module _ {h : Held} {w₀ : List ℕ} where
  pub pass_start : Passing h w₀ 0 w₀ false
  unfolding passed
  pass_start = record { same_length = refl; goes = λ n. refl }

  module _ {i : ℕ} {w : List ℕ} {added : Bool} (m : Passing h w₀ i w added) {b : Bool} (p : b ≡ joins h w i) where
    pub pass_skip : b ≡ false → Passing h w₀ (i + 1) w added
    unfolding passed pass_record
    pass_skip q =
        record { same_length = m.same_length; goes = λ n. rw (add-one i, ← m.goes n, ← p, q) }

    pub pass_next : {v : List ℕ} → b ≡ true → v ≡ marks 1 (set w (reached_column + i) 1) (opened_all h.opens (h.frees i))
        → Passing h w₀ (i + 1) v true
    unfolding passed pass_record joined
    pass_next {v} q e =
        record {
          same_length = ap length e ∙ marks_length 1 (set w (reached_column + i) 1) (opened_all h.opens (h.frees i))
              ∙ length-set w (reached_column + i) 1 ∙ m.same_length;
          goes = λ n. rw (add-one i, ← m.goes n, ← p, q, e);
        }

  pub pass_end : {i : ℕ} {w : List ℕ} {added : Bool} → Passing h w₀ i w added → i ≡ h.records
      → (n : ℕ) (b : Bool) → sweeping w (n + 1) added ≡ pass_all h (sweeping w₀ n b)
  unfolding pass_all
  pass_end {w = w} {added} m e n b =
      subst (λ j. sweeping w (n + 1) added ≡ passed h j (sweeping w₀ (n + 1) false)) e (m.goes (n + 1))

-- ---- pass after pass

-- the slice before a pass, which would be the last but one of so many
pub record SweepingOn (h : Held) (w₀ w : List ℕ) (passes : ℕ) : Type 0 where
  pub earlier : ℕ
  pub added : Bool
  pub one_more : passes ≡ earlier + 1
  pub same_length : length w ≡ length w₀
  pub long : run_end ≤ length w
  pub few : passes + unreached w ≤ most_records + 1
  pub leads : {end : Sweeping} → Passes h (sweeping w earlier added) end → Passes h (sweeping w₀ 0 false) end

pub on_start : {h : Held} {w₀ : List ℕ} → run_end ≤ length w₀ → SweepingOn h w₀ w₀ 1
on_start {w₀ = w₀} long =
    record {
      earlier = 0;
      added = false;
      one_more = refl;
      same_length = refl;
      long = long;
      few = let few = few_unreached w₀ in omega arith;
      leads = λ p. p;
    }

module _ {h : Held} (fits : Fits h) {w₀ w v : List ℕ} {passes : ℕ} (on : SweepingOn h w₀ w passes) {b : Bool}
    (next : (n : ℕ) (c : Bool) → sweeping v (n + 1) b ≡ pass_all h (sweeping w n c)) where
  -- the state before the pass
  here : Sweeping
  here = sweeping w on.earlier on.added

  passed_to : pass_all h here ≡ sweeping v passes b
  unfolding here
  passed_to = sym (next on.earlier on.added) ∙ ap (λ n. sweeping v n b) (sym on.one_more)

  slice_is : (pass_all h here).run ≡ v
  slice_is = ap (λ (s : Sweeping). s.run) passed_to

  added_is : (pass_all h here).added ≡ b
  added_is = ap (λ (s : Sweeping). s.added) passed_to

  pub on_length : length v ≡ length w₀
  unfolding here
  on_length = ap length (sym slice_is) ∙ (pass_behind fits here).same_length ∙ on.same_length

  -- fewer records are not reached after a pass that adds one
  pub on_less : b ≡ true → unreached v < unreached w
  unfolding here
  on_less e = subst (λ u. unreached u < unreached w) slice_is (pass_fewer fits here on.long (added_is ∙ e))

  pub on_next : b ≡ true → SweepingOn h w₀ v (passes + 1)
  unfolding here
  on_next e =
      let less = on_less e in
      let few = on.few in
      let long = on.long in
      let same = on.same_length in
      let now = on_length in
      record {
        earlier = passes;
        added = b;
        one_more = refl;
        same_length = on_length;
        long = omega arith;
        few = omega arith;
        leads = λ {end} p. on.leads (more (added_is ∙ e) (subst (λ s. Passes h s end) (sym passed_to) p));
      }

  pub on_end : b ≡ false → Passes h (sweeping w₀ 0 false) (sweeping v passes false)
  unfolding here
  on_end e = on.leads (subst (λ s. Passes h here s) (passed_to ∙ ap (sweeping v passes) e) (last (added_is ∙ e)))

  pub on_few : passes ≤ most_records + 1
  on_few = let few = on.few in omega arith
