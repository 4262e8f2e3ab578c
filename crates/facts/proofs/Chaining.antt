-- Laws of the chains of entries, entry after entry.
use Prim.Native.Nat.{ℕ, ◌+◌, ◌%◌, ◌≤◌, ◌<◌}
use native.Mathlib.Omega.{arith}
use mathlib.Core.Path.{◌≡◌, refl, sym, ap, ◌∙◌, subst}
use mathlib.Core.Logic.{⊎_elim}
use mathlib.Core.List.{List}
use lib.ListN.{length, get_or, set, length-set}
use lib.Seq.{get_or-set_same, get_or-set_other}
use Rattle.model.specs.Reading.{most_names, most_entries}
use Rattle.model.specs.Outcome.{working_words}
use Rattle.words.specs.Slices.{SameBut}
use Rattle.terms.proofs.Laws.{equal}
use Rattle.triggers.specs.Entries.{entries_base, last_flag, no_name}
use Rattle.records.specs.Columns.{fact_column, next_column, first_column, taken_column, entry_name, entry_fact, next_entry, first_entry}
use Rattle.records.specs.Filing.{Chained}
use Rattle.records.proofs.Chaining.{newest_here, newest_other, chained_kept}
use Rattle.facts.specs.Putting.{Chains}

-- a name taken leaves the chains
pub chained_taken : {names lists : List ℕ} {filed : ℕ} (i v : ℕ) → i < most_names → Chained names lists filed → Chained (set names (taken_column + i) v) lists filed
chained_taken {names} i v h c = chained_kept c (λ n l. get_or-set_other names (taken_column + i) (first_column + n) v 0 (λ q. omega arith)) (λ e l. refl)
    (λ e l. refl)

-- no entry yet
pub chain_start : {names lists : List ℕ} {from : ℕ} (fact : ℕ) → Chained names lists from → Chains names lists names lists from from fact
chain_start fact c = record {
  chained = c;
  names_same = record { same_length = refl; same_words = λ i h. refl };
  lists_length = refl;
  lists_words = λ i g h. refl;
  facts = λ e a b. absurd (omega arith);
}

module _ {names lists names' lists' : List ℕ} {from e fact : ℕ} (c : Chains names lists names' lists' from e fact) (low : from ≤ e) (high : e < most_entries) where
  -- one entry more: its fact is written, the next entry on its name is the first until then, and it is the first now
  chain_more : {names'' lists'' : List ℕ} → SameBut first_column most_names names' names'' → length lists'' ≡ length lists'
      → ((i : ℕ) → (i ≡ fact_column + e → ⊥) → (i ≡ next_column + e → ⊥) → get_or lists'' i 0 ≡ get_or lists' i 0)
      → entry_fact lists'' e ≡ fact → (entry_name lists' e < no_name → next_entry lists'' e ≡ first_entry names' (entry_name lists' e))
      → ((n : ℕ) → n < most_names → (entry_name lists' e ≡ n → ⊥) → first_entry names'' n ≡ first_entry names' n)
      → (entry_name lists' e < no_name → first_entry names'' (entry_name lists' e) ≡ e + 1)
      → Chains names lists names'' lists'' from (e + 1) fact
  chain_more {names''} {lists''} names_same size same here link others first =
      let name : (d : ℕ) → d < most_entries → entry_name lists'' d ≡ entry_name lists' d =
      λ d k. ap (λ w. w % last_flag) (same (entries_base + d) (λ z. omega arith) (λ z. omega arith)) in
      let kept : Chained names' lists'' e =
      chained_kept c.chained (λ n k. refl) (λ d k. name d (omega arith)) (λ d k. same (next_column + d) (λ z. omega arith) (λ z. omega arith)) in
      record {
        chained = record {
          first = λ n k. ⊎_elim
              (λ (q : entry_name lists' e ≡ n).
              ap (first_entry names'') (sym q) ∙ first (omega arith) ∙ sym (newest_here (entry_name lists'') n e (name e high ∙ q)))
              (λ (q : entry_name lists' e ≡ n → ⊥).
              others n k q ∙ kept.first n k ∙ sym (newest_other (entry_name lists'') n e (λ z. q (sym (name e high) ∙ z))))
              (equal (entry_name lists' e) n);
          next = λ d k h. ⊎_elim
              (λ (q : d ≡ e).
              let s : entry_name lists' e < no_name = rw (q, name e high) at h in
              rw (q, name e high) (link s ∙ kept.first (entry_name lists' e) s))
              (λ (q : d ≡ e → ⊥). kept.next d (omega arith) h)
              (equal d e);
        };
        names_same = record {
          same_length = names_same.same_length ∙ c.names_same.same_length;
          same_words = λ i h. names_same.same_words i h ∙ c.names_same.same_words i h;
        };
        lists_length = size ∙ c.lists_length;
        lists_words = λ i a b.
            same i (λ z. a (omega arith) (omega arith)) (λ z. b (omega arith) (omega arith))
            ∙ c.lists_words i (λ x y. a x (omega arith)) (λ x y. b x (omega arith));
        facts = λ d a b. ⊎_elim
            (λ (q : d ≡ e). rw q here)
            (λ (q : d ≡ e → ⊥). same (fact_column + d) (λ z. omega arith) (λ z. omega arith) ∙ c.facts d a (omega arith))
            (equal d e);
      }

  module _ (room : working_words ≤ length lists) (n : ℕ) (is : n ≡ entry_name lists' e) where
    -- the entry of an empty disjunct
    pub chain_none : no_name ≤ n → Chains names lists names' (set lists' (fact_column + e) fact) from (e + 1) fact
    chain_none h =
        chain_more (record { same_length = refl; same_words = λ i k. refl }) (simp length-set)
        (λ i a b. get_or-set_other lists' (fact_column + e) i fact 0 a)
        (get_or-set_same lists' (fact_column + e) fact 0 (omega (arith, c.lists_length)))
        (λ k. absurd (omega arith)) (λ m k q. refl) (λ k. absurd (omega arith))

    -- the entry of a name
    pub chain_one : working_words ≤ length names → n < no_name
        → Chains names lists (set names' (first_column + n) (e + 1)) (set (set lists' (fact_column + e) fact) (next_column + e) (first_entry names' n)) from
        (e + 1) fact
    chain_one name_room h =
        let mid = set lists' (fact_column + e) fact in
        let w = first_entry names' n in
        let size : length mid ≡ length lists' = simp length-set in
        let first : first_entry (set names' (first_column + n) (e + 1)) n ≡ e + 1 =
        get_or-set_same names' (first_column + n) (e + 1) 0 (omega (arith, c.names_same.same_length)) in
        let other : (i : ℕ) → (i ≡ first_column + n → ⊥) → get_or (set names' (first_column + n) (e + 1)) i 0 ≡ get_or names' i 0 =
        λ i d. get_or-set_other names' (first_column + n) i (e + 1) 0 d in
        chain_more (record { same_length = simp length-set; same_words = λ i k. other i (λ z. k (omega arith) (omega arith)) }) (simp length-set)
        (λ i a b. get_or-set_other mid (next_column + e) i w 0 b ∙ get_or-set_other lists' (fact_column + e) i fact 0 a)
        (get_or-set_other mid (next_column + e) (fact_column + e) w 0 (λ z. omega arith)
        ∙ get_or-set_same lists' (fact_column + e) fact 0 (omega (arith, c.lists_length)))
        (λ k. rw (← is) (get_or-set_same mid (next_column + e) w 0 (omega (arith, c.lists_length))))
        (λ m k q. other (first_column + m) (λ z. q (sym is ∙ omega arith)))
        (λ k. rw (← is) first)

-- the last entry
pub chain_end : {names lists names' lists' : List ℕ} {from e to fact : ℕ} → Chains names lists names' lists' from e fact → e ≤ to → to ≤ e
    → Chains names lists names' lists' from to fact
chain_end {names} {lists} {names'} {lists'} {from} {e} {to} {fact} c a b = let z : e ≡ to = omega arith in subst (λ k. Chains names lists names' lists' from k fact) z c
