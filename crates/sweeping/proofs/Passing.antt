-- What a pass on numbers does to the slice: the records reached, those not reached, what it leaves.
use Prim.Native.Nat.{ℕ, zero, suc, ◌+◌, ◌≤◌, ◌<◌}
use native.Mathlib.Omega.{arith}
use mathlib.Core.Path.{◌≡◌, refl, ◌∙◌, ap}
use mathlib.Core.Bool.{Bool, true, false, cond, not, ◌&&◌}
use mathlib.Core.List.{List}
use lib.Dec.{T, ltb}
use lib.ListN.{length, get_or, set, length-set}
use lib.Seq.{get_or-set_same, get_or-set_other}
use Rattle.model.specs.Reading.{most_records}
use Rattle.model.proofs.ListLaws.{T_and, branch, cond_case}
use Rattle.firing.specs.Held.{Held, Fits}
use Rattle.firing.specs.Met.{reached_column, work_column, run_end, is_reached, marks, unreached}
use Rattle.firing.specs.Firing.{opened_all}
use Rattle.firing.proofs.Numbers.{not_not, count_less}
use Rattle.firing.proofs.Marks.{marks_length, marks_out}
use Rattle.firing.proofs.Meeting.{opened_small}
use Rattle.sweeping.specs.Sweeping.{Sweeping, sweeping, joins, joined, pass_record, passed, pass_all, Passes, last, more, fires_now, met_of}

-- two slices that are the same behind the two columns
pub record SameBehind (w v : List ℕ) : Type 0 where
  pub same_length : length v ≡ length w
  pub far : (j : ℕ) → work_column ≤ j → get_or v j 0 ≡ get_or w j 0

pub behind_same : {w : List ℕ} → SameBehind w w
behind_same = record { same_length = refl; far = λ j x. refl }

pub behind_trans : {w v u : List ℕ} → SameBehind w v → SameBehind v u → SameBehind w u
behind_trans p q = record { same_length = q.same_length ∙ p.same_length; far = λ j l. q.far j l ∙ p.far j l }

module _ {h : Held} (fits : Fits h) where
  -- a record met
  marks_behind : (w : List ℕ) (i : ℕ) → i < h.records → SameBehind w (marks 1 w (opened_all h.opens (h.frees i)))
  marks_behind w i l =
      record {
        same_length = marks_length 1 w (opened_all h.opens (h.frees i));
        far = λ j x. marks_out 1 w (opened_all h.opens (h.frees i)) j (λ m. let few = fits.few_names in let y = opened_small h fits i j l m in omega arith);
      }

  -- ---- a record added

  module _ (w : List ℕ) (i : ℕ) (l : i < h.records) where
    pub joined_behind : SameBehind w (joined h w i)
    unfolding joined
    joined_behind =
        behind_trans
        (record {
          same_length = length-set w (reached_column + i) 1;
          far = λ j x. let few = fits.few_records in get_or-set_other w (reached_column + i) j 1 0 (λ e. omega arith);
        })
        (marks_behind (set w (reached_column + i) 1) i l)

    joined_high : (j : ℕ) → get_or (joined h w i) (reached_column + j) 0 ≡ get_or (set w (reached_column + i) 1) (reached_column + j) 0
    unfolding joined
    joined_high j =
        marks_out 1 (set w (reached_column + i) 1) (opened_all h.opens (h.frees i)) (reached_column + j)
        (λ x. let few = fits.few_names in let y = opened_small h fits i (reached_column + j) l x in omega arith)

    pub joined_self : run_end ≤ length w → T (is_reached (joined h w i) i)
    unfolding is_reached
    joined_self long =
        let few = fits.few_records in
        rw (joined_high i, get_or-set_same w (reached_column + i) 1 0 (omega arith)) tt

    pub joined_other : (j : ℕ) → (j ≡ i → ⊥) → is_reached (joined h w i) j ≡ is_reached w j
    unfolding is_reached
    joined_other j d = ap (ltb 0) (joined_high j ∙ get_or-set_other w (reached_column + i) (reached_column + j) 1 0 (λ e. d (omega arith)))

    -- one record fewer is not reached
    joined_fewer : run_end ≤ length w → T (joins h w i) → unreached (joined h w i) + 1 ≡ unreached w
    unfolding unreached joins
    joined_fewer long t =
        let few = fits.few_records in
        let (x, u) = (T_and (h.takes_part i) (h.retains i && (not (is_reached w i) && fires_now h w i))).0 t in
        let (y, v) = (T_and (h.retains i) (not (is_reached w i) && fires_now h w i)).0 u in
        let (z, r) = (T_and (not (is_reached w i)) (fires_now h w i)).0 v in
        count_less (λ j. not (is_reached w j)) (λ j. not (is_reached (joined h w i) j)) most_records i (omega arith) z
        (not_not (is_reached (joined h w i) i) (joined_self long)) (λ j k d. ap not (joined_other j d))

  -- ---- the records passed

  pub passed_behind : (n : ℕ) → n ≤ h.records → (s : Sweeping) → SameBehind s.run (passed h n s).run
  unfolding passed pass_record
  passed_behind zero l s = behind_same
  passed_behind (suc n) l s =
      behind_trans (passed_behind n (omega arith) s)
      (cond_case (λ (t : Sweeping). SameBehind (passed h n s).run t.run) (joins h (passed h n s).run n)
      (joined_behind (passed h n s).run n (omega arith)) behind_same)

  -- each record added is one fewer that is not reached
  passed_fewer : (n : ℕ) → n ≤ h.records → (s : Sweeping) → run_end ≤ length s.run → s.added ≡ false
      → unreached (passed h n s).run + cond (passed h n s).added 1 0 ≤ unreached s.run
  unfolding passed pass_record
  passed_fewer zero l s long e = rw e (omega arith)
  passed_fewer (suc n) l s long e =
      branch (λ (t : Sweeping). unreached t.run + cond t.added 1 0 ≤ unreached s.run) (joins h (passed h n s).run n)
      (sweeping (joined h (passed h n s).run n) (passed h n s).passes true) (passed h n s)
      (λ t.
      let same = (passed_behind n (omega arith) s).same_length in
      let before = passed_fewer n (omega arith) s long e in
      let fewer = joined_fewer (passed h n s).run n (omega arith) (omega arith) t in
      omega arith)
      (λ t. passed_fewer n (omega arith) s long e)

  -- a pass
  pub pass_behind : (s : Sweeping) → SameBehind s.run (pass_all h s).run
  unfolding pass_all
  pass_behind s = passed_behind h.records (omega arith) (sweeping s.run (s.passes + 1) false)

  pub pass_fewer : (s : Sweeping) → run_end ≤ length s.run → (pass_all h s).added ≡ true → unreached (pass_all h s).run < unreached s.run
  unfolding pass_all
  pass_fewer s long e =
      let few = passed_fewer h.records (omega arith) (sweeping s.run (s.passes + 1) false) long refl in
      omega (arith, rw e at few)

  -- passes write in the two columns only
  pub passes_behind : {s end : Sweeping} → Passes h s end → SameBehind s.run end.run
  passes_behind (last {s} e) = pass_behind s
  passes_behind (more {s} e p) = behind_trans (pass_behind s) (passes_behind p)

  -- so does meeting the first names
  pub met_behind : (test : ℕ → Bool) (n : ℕ) → n ≤ h.records → (w : List ℕ) → SameBehind w (met_of h test n w)
  unfolding met_of
  met_behind test zero l w = behind_same
  met_behind test (suc n) l w =
      behind_trans (met_behind test n (omega arith) w)
      (cond_case (SameBehind (met_of h test n w)) (test n) (marks_behind (met_of h test n w) n (omega arith)) behind_same)
