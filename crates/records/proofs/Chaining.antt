-- Laws of the newest number, and of chains that stay.
use Prim.Native.Nat.{ℕ, zero, suc, ◌+◌, ◌≤◌, ◌<◌}
use native.Mathlib.Numerals.{add-one}
use native.Mathlib.Omega.{arith}
use mathlib.Core.Path.{◌≡◌, refl, sym, ap, ◌∙◌}
use mathlib.Core.Logic.{⊎_elim}
use mathlib.Core.List.{List}
use borrow.Author.Tests.{eq-eqb, ne_eqb}
use Rattle.model.specs.Reading.{most_names}
use Rattle.terms.proofs.Laws.{equal}
use Rattle.records.specs.Columns.{entry_name, next_entry, first_entry}
use Rattle.records.specs.Filing.{newest, Chained}

-- the newest number of functions that agree
pub newest_cong : (f g : ℕ → ℕ) (n e : ℕ) → ((d : ℕ) → d < e → f d ≡ g d) → newest f n e ≡ newest g n e
unfolding newest
newest_cong f g n zero h = refl
newest_cong f g n (suc e) h = rw (h e (omega arith), newest_cong f g n e (λ d l. h d (omega arith)))

-- one number more, of n
pub newest_here : (f : ℕ → ℕ) (n e : ℕ) → f e ≡ n → newest f n (e + 1) ≡ e + 1
unfolding newest
newest_here f n e h = rw (add-one e, eq-eqb (f e) n h)

-- one number more, of another
pub newest_other : (f : ℕ → ℕ) (n e : ℕ) → (f e ≡ n → ⊥) → newest f n (e + 1) ≡ newest f n e
unfolding newest
newest_other f n e h = rw (add-one e, ne_eqb (f e) n h)

-- the newest number is among those looked at
pub newest_low : (f : ℕ → ℕ) (n e : ℕ) → newest f n e ≤ e
unfolding newest
newest_low f n zero = omega arith
newest_low f n (suc e) = ⊎_elim
    (λ (h : f e ≡ n). rw (eq-eqb (f e) n h) (omega arith))
    (λ (h : f e ≡ n → ⊥). rw (ne_eqb (f e) n h) (omega (arith, newest_low f n e)))
    (equal (f e) n)

-- chains stay where the words of their entries and the first entries do
pub chained_kept : {names lists names' lists' : List ℕ} {filed : ℕ} → Chained names lists filed
    → ((n : ℕ) → n < most_names → first_entry names' n ≡ first_entry names n)
    → ((e : ℕ) → e < filed → entry_name lists' e ≡ entry_name lists e) → ((e : ℕ) → e < filed → next_entry lists' e ≡ next_entry lists e)
    → Chained names' lists' filed
chained_kept {names} {lists} {names'} {lists'} {filed} c first same next = record {
  first = λ n l. first n l ∙ c.first n l ∙ sym (newest_cong (entry_name lists') (entry_name lists) n filed same);
  next = λ e l h.
      next e l ∙ c.next e l (rw (← (same e l)) h) ∙ ap (λ n. newest (entry_name lists) n e) (sym (same e l))
      ∙ sym (newest_cong (entry_name lists') (entry_name lists) (entry_name lists' e) e (λ d k. same d (omega arith)));
}
