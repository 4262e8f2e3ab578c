-- Adding the head of a term: what each way through `gather_head` comes to.
use Prim.Native.Nat.{ℕ, ◌+◌, ◌≤◌, ◌<◌}
use mathlib.Core.Path.{◌≡◌, sym, ap, ◌∙◌}
use mathlib.Core.Bool.{true, false, true≢false}
use mathlib.Core.List.{List}
use lib.ListN.{set}
use Rattle.model.proofs.ListLaws.{T_true, true_T}
use Rattle.std.specs.Prelude.{None as none, Some as some}
use Rattle.terms.specs.Rows.{row_kind, row_head, has_head}
use Rattle.names.specs.Table.{is_excluded}
use Rattle.gather.specs.Sets.{name_mark}
use Rattle.gather.specs.Walks.{Own, Heads, Steps}
use Rattle.gather.proofs.Steps.{steps_stay, steps_over, steps_one}

module _ {names rows lists : List ℕ} {t count room : ℕ} (h : Heads names rows lists t count room) (mark : ℕ) where
  -- the row has no head
  pub head_none : has_head (row_kind rows t) ≡ false → Steps (Own names rows t) names lists names lists mark count room (some count)
  head_none e = steps_stay h.low (λ k p. absurd (true≢false (sym (T_true (has_head (row_kind rows t)) p.headed) ∙ e)))

  module _ (n : ℕ) (is : n ≡ row_head rows t) where
    -- the head does not count
    pub head_excluded : is_excluded names n ≡ true → Steps (Own names rows t) names lists names lists mark count room (some count)
    head_excluded e = steps_stay h.low (λ k p.
        let f : n ≡ k = is ∙ p.is in
        absurd (true≢false (sym e ∙ ap (is_excluded names) f ∙ p.counts.counted)))

    -- the head is there already
    pub head_there : name_mark names n ≡ mark → Steps (Own names rows t) names lists names lists mark count room (some count)
    head_there e = steps_stay h.low (λ k p.
        let f : n ≡ k = is ∙ p.is in
        rw (← f) e)

    module _ (has : has_head (row_kind rows t) ≡ true) (counted : is_excluded names n ≡ false) (new : name_mark names n ≡ mark → ⊥) where
      -- the head is the number of a name
      head_small : n < 2048
      head_small = rw is (h.head_small (true_T has))

      -- the head is the term's own
      head_own : Own names rows t n
      head_own = record { headed = true_T has; is = sym is; counts = record { small = head_small; counted = counted } }

      -- there is no room for the head
      pub head_over : room ≤ count → Steps (Own names rows t) names lists names lists mark count room none
      head_over e = steps_over h.low e head_own head_small new

      -- the head is added
      pub head_added : count < room → Steps (Own names rows t) names lists (set names (8192 + n) mark) (set lists count n) mark count room (some (count + 1))
      head_added e = steps_one n head_small h.name_room e h.high new head_own (λ m p. is ∙ p.is)
