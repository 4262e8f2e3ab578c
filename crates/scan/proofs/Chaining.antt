-- What the proofs of the loops over entries cite.
use Prim.Native.Nat.{ℕ, ◌+◌, ◌-◌, ◌*◌, ◌≤◌, ◌<◌}
use native.Mathlib.Omega.{arith}
use native.Mathlib.Numerals.{add-one}
use mathlib.Core.Path.{◌≡◌, refl, sym, ◌∙◌, ap, subst}
use mathlib.Core.Bool.{Bool, true, false, ◌&&◌}
use mathlib.Core.List.{List, [], ◌∷◌, append-nil}
use lib.Dec.{eqb, ltb}
use lib.ListN.{length, get_or}
use borrow.Author.Tests.{eq-eqb, ne_eqb}
use Rattle.model.specs.Lists.{keep, fold_left}
use Rattle.model.specs.Reading.{most_names, most_entries}
use Rattle.model.specs.declared.Asked.{Asked}
use Rattle.model.specs.declared.Counts.{Counts}
use Rattle.model.proofs.ListLaws.{fold_left_append}
use Rattle.records.specs.Columns.{entry_name, entry_fact, next_entry, first_entry}
use Rattle.records.specs.States.{takes_part, ask_of}
use Rattle.records.specs.Filing.{newest}
use Rattle.records.proofs.Chaining.{newest_low}
use Rattle.firing.specs.Held.{Held, upto, waiting}
use Rattle.firing.specs.Tables.{waits_on, held_of, Laid}
use Rattle.scan.specs.Steps.{Going, visit, visits_of, visited, visit_phase, Room, Steady}
use Rattle.firing.proofs.Numbers.{count_upto}
use Rattle.firing.proofs.Newest.{newest_value}
use Rattle.scan.proofs.Visited.{newest_waiting, waiting_first, waiting_skip, visited_elim, visited_length}
use Rattle.firing.proofs.Waiting.{owner_part, waits_is, waits_not, waits_part}
use Rattle.scan.proofs.Visits.{Fired, room_then, visit_fired, visits_fired}

-- ---- the chain of a name

-- it is visited down to entry p
pub record VisitedTo (names recs lists : List ℕ) (k : Counts) (a : Asked) (g₀ : Going) (n : ℕ) (g : Going) (p : ℕ) : Type 0 where
  pub left : visits_of (held_of names recs lists k a) g₀ (waiting (held_of names recs lists k a) n k.entries)
      ≡ visits_of (held_of names recs lists k a) g (waiting (held_of names recs lists k a) n p)
  pub rounds_same : g.scan.rounds ≡ g₀.scan.rounds
  pub same_length : length g.run ≡ length g₀.run
  pub room : Room g
  pub small : p ≤ k.entries
  pub name_low : n < most_names
  pub on_name : 0 < p → entry_name lists (p - 1) ≡ n
  pub visits : g.scan.visits + p ≤ g₀.scan.visits + k.entries

module _ {names recs lists : List ℕ} {k : Counts} (laid : Laid names recs lists k) (a : Asked) where
  abbrev h : Held
  h = held_of names recs lists k a

  -- an entry that waits on a name is on it
  waits_there : (n : ℕ) → n < most_names → (d : ℕ) → waits_on recs lists a d ≡ n → entry_name lists d ≡ n
  waits_there n l d e = (waits_part recs lists a d (omega arith)).1 ∙ e

  pub chain_start : (g : Going) (n p : ℕ) → Steady g → n < k.names → p ≡ first_entry names n → VisitedTo names recs lists k a g n g p
  unfolding held_of
  chain_start g n p steady l e =
      let q : p ≡ newest (entry_name lists) n k.entries = e ∙ laid.first n l in
      let le = newest_low (entry_name lists) n k.entries in
      record {
        left = ap (visits_of h g) (newest_waiting h n (entry_name lists) (waits_there n (let f = laid.few_names in omega arith)) k.entries ∙ ap (waiting h n) (sym q));
        rounds_same = refl;
        same_length = refl;
        room = steady.room;
        small = omega arith;
        name_low = let f = laid.few_names in omega arith;
        on_name = λ z. subst (λ x. entry_name lists (x - 1) ≡ n) (sym q) (newest_value (entry_name lists) n k.entries (omega arith));
        visits = omega arith;
      }

  module _ {g₀ g : Going} {n p : ℕ} (steady : Steady g₀) (c : VisitedTo names recs lists k a g₀ n g p) where
    pub chain_steady : g₀.scan.visits ≤ 2 * most_entries → Steady g
    chain_steady b =
        let x = steady.started in
        let y = steady.few_rounds in
        let z = c.rounds_same in
        let v = c.visits in
        let f = laid.few_entries in
        record { room = c.room; started = omega arith; few_rounds = omega arith; few_visits = omega arith }

    -- the next entry
    next_is : {q : ℕ} → 0 < p → q ≡ next_entry lists (p - 1) → q ≡ newest (entry_name lists) n (p - 1)
    next_is {q} l e =
        let small = c.small in
        let on = c.on_name l in
        let low = c.name_low in
        e ∙ laid.next (p - 1) (omega arith) (omega arith) ∙ ap (λ z. newest (entry_name lists) z (p - 1)) on

    pub chain_less : {q : ℕ} → 0 < p → q ≡ next_entry lists (p - 1) → q < p
    unfolding held_of
    chain_less {q} l e = let m = next_is l e in let le = newest_low (entry_name lists) n (p - 1) in omega arith

    -- an entry of a fact that takes part is visited
    pub chain_next : {v : Going} {q i : ℕ} {b : Bool} → 0 < p → q ≡ next_entry lists (p - 1) → i ≡ entry_fact lists (p - 1)
        → b ≡ takes_part recs (ask_of recs a) i → b ≡ true → v ≡ visit (held_of names recs lists k a) g (p - 1)
        → VisitedTo names recs lists k a g₀ n v q
    unfolding held_of visits_of fold_left
    chain_next {v} {q} l e owner part does goes =
        let small = c.small in
        let on = c.on_name l in
        let started = steady.started in
        let same = c.rounds_same in
        let one = visit_fired h (laid.fits a) g (omega arith) c.room (p - 1) (omega arith) in
        let f = subst (λ x. Fired h g x ((p - 1) ∷ [])) (sym goes) one in
        let m : q ≡ newest (entry_name lists) n (p - 1) = next_is l e in
        let le = newest_low (entry_name lists) n (p - 1) in
        let up = f.visits_up in
        let vis = c.visits in
        record {
          left = c.left
              ∙ ap (visits_of h g) (waiting_first h n p l (waits_is recs lists a (p - 1) (owner_part recs lists a (p - 1) owner part does) ∙ on)
              ∙ ap (λ es. (p - 1) ∷ es) (newest_waiting h n (entry_name lists) (waits_there n c.name_low) (p - 1) ∙ ap (waiting h n) (sym m)))
              ∙ ap (λ x. visits_of h x (waiting h n q)) (sym goes);
          rounds_same = f.rounds_same ∙ same;
          same_length = f.same_length ∙ c.same_length;
          room = room_then c.room f;
          small = omega arith;
          name_low = c.name_low;
          on_name = λ z. subst (λ x. entry_name lists (x - 1) ≡ n) (sym m) (newest_value (entry_name lists) n (p - 1) (omega arith));
          visits = omega arith;
        }

    -- one of another fact is passed over
    pub chain_skip : {q i : ℕ} {b : Bool} → 0 < p → q ≡ next_entry lists (p - 1) → i ≡ entry_fact lists (p - 1)
        → b ≡ takes_part recs (ask_of recs a) i → b ≡ false → VisitedTo names recs lists k a g₀ n g q
    unfolding held_of
    chain_skip {q} l e owner part does_not =
        let small = c.small in
        let m : q ≡ newest (entry_name lists) n (p - 1) = next_is l e in
        let le = newest_low (entry_name lists) n (p - 1) in
        let vis = c.visits in
        let low = c.name_low in
        let none = waits_not recs lists a (p - 1) (owner_part recs lists a (p - 1) owner part does_not) in
        record {
          left = c.left
              ∙ ap (visits_of h g) (waiting_skip h n p l (λ z. omega (arith, none))
              ∙ newest_waiting h n (entry_name lists) (waits_there n low) (p - 1)
              ∙ ap (waiting h n) (sym m));
          rounds_same = c.rounds_same;
          same_length = c.same_length;
          room = c.room;
          small = omega arith;
          name_low = low;
          on_name = λ z. subst (λ x. entry_name lists (x - 1) ≡ n) (sym m) (newest_value (entry_name lists) n (p - 1) (omega arith));
          visits = omega arith;
        }

    pub chain_end : p ≡ 0 → g ≡ visits_of (held_of names recs lists k a) g₀ (waiting (held_of names recs lists k a) n k.entries)
    unfolding visits_of fold_left waiting upto keep
    chain_end z = sym (c.left ∙ ap (λ p. visits_of h g (waiting h n p)) z)

-- ---- the names first met in the round

-- the names below n are swept
pub record Swept (names recs lists : List ℕ) (k : Counts) (a : Asked) (g₀ : Going) (n : ℕ) (g : Going) : Type 0 where
  pub goes : g ≡ visits_of (held_of names recs lists k a) g₀ (visited (held_of names recs lists k a) g₀.scan.rounds g₀.run n)

module _ {names recs lists : List ℕ} {k : Counts} (laid : Laid names recs lists k) (a : Asked) where
  abbrev t : Held
  t = held_of names recs lists k a

  pub sweep_start : (g : Going) → Swept names recs lists k a g 0 g
  unfolding visited visits_of fold_left
  sweep_start g = record { goes = refl }

  module _ {g₀ g : Going} {n : ℕ} (steady : Steady g₀) (c : Swept names recs lists k a g₀ n g) where
    pub sweep_fired : Fired t g₀ g (visited t g₀.scan.rounds g₀.run n)
    unfolding held_of
    sweep_fired =
        subst (λ x. Fired t g₀ x (visited t g₀.scan.rounds g₀.run n)) (sym c.goes)
        (visits_fired t (laid.fits a) g₀ steady.started steady.room (visited t g₀.scan.rounds g₀.run n)
        (λ e m. (visited_elim t g₀.scan.rounds g₀.run n m).0))

    pub sweep_visits : g.scan.visits ≤ g₀.scan.visits + most_entries
    unfolding held_of
    sweep_visits =
        let f = sweep_fired.visits_up in
        let l = visited_length t g₀.scan.rounds g₀.run n in
        let m = count_upto (λ e. ltb (waits_on recs lists a e) n && eqb (get_or g₀.run (waits_on recs lists a e) 0) g₀.scan.rounds) k.entries in
        let few = laid.few_entries in
        omega arith

    pub sweep_steady : g₀.scan.visits ≤ most_entries → Steady g
    sweep_steady l =
        let f = sweep_fired in
        let v = sweep_visits in
        let same = f.rounds_same in
        let x = steady.started in
        let y = steady.few_rounds in
        record { room = room_then steady.room f; started = omega arith; few_rounds = omega arith; few_visits = omega arith }

    -- the round of a name is that at the start of the sweep
    word_same : n < k.names → (x : ℕ) → x ≡ get_or g.run n 0 → x ≡ get_or g₀.run n 0
    word_same l x e = e ∙ sweep_fired.met_same n (let f = laid.few_names in omega arith)

    pub sweep_skip : n < k.names → (x : ℕ) → x ≡ get_or g.run n 0 → (x ≡ g₀.scan.rounds → ⊥) → Swept names recs lists k a g₀ (n + 1) g
    unfolding visited
    sweep_skip l x e d =
        record { goes = rw (add-one n, ne_eqb (get_or g₀.run n 0) g₀.scan.rounds (λ z. d (word_same l x e ∙ z)), append-nil) c.goes }

    pub sweep_next : {v : Going} → n < k.names → (x : ℕ) → x ≡ get_or g.run n 0 → x ≡ g₀.scan.rounds
        → v ≡ visits_of t g (waiting t n k.entries) → Swept names recs lists k a g₀ (n + 1) v
    unfolding visited visits_of held_of
    sweep_next {v} l x e d goes =
        record {
          goes = rw (
            add-one n,
            eq-eqb (get_or g₀.run n 0) g₀.scan.rounds (sym (word_same l x e) ∙ d),
            fold_left_append (visit t) g₀ (visited t g₀.scan.rounds g₀.run n) (waiting t n k.entries),
            ← c.goes,
          ) goes;
        }

  pub sweep_end : {g₀ g : Going} {n : ℕ} → Swept names recs lists k a g₀ n g → n ≡ k.names → g ≡ visit_phase t g₀
  unfolding visit_phase held_of
  sweep_end {g₀} {g} {n} c e =
      subst (λ n. g ≡ visits_of t g₀ (visited t g₀.scan.rounds g₀.run n)) e c.goes
