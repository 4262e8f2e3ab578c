-- What the proofs of the meeting phase, the round and the rounds cite.
use Prim.Native.Nat.{ℕ, ◌+◌, ◌≤◌, ◌<◌}
use native.Mathlib.Omega.{arith}
use mathlib.Core.Path.{◌≡◌, refl, sym, ◌∙◌, ap, subst}
use mathlib.Core.Bool.{true, false, ◌&&◌}
use mathlib.Core.List.{List}
use lib.Dec.{ltb}
use lib.ListN.{length, get_or}
use Rattle.model.specs.Lists.{collect, part}
use Rattle.model.specs.Reading.{most_names, most_entries}
use Rattle.model.specs.declared.Asked.{Asked}
use Rattle.model.specs.declared.Counts.{Counts}
use Rattle.model.proofs.PartLaws.{part_cons, part_nil, part_intro}
use Rattle.firing.specs.Held.{Held}
use Rattle.firing.specs.Tables.{waits_on, held_of, record_meets, Laid}
use Rattle.firing.specs.Met.{work_column, is_met, marks, unmet}
use Rattle.firing.specs.Firing.{scanned_by}
use Rattle.scan.specs.Steps.{Going, going, items, met_phase, visit_phase, round, Rounds, last, more, Steady, Ready}
use Rattle.scan.specs.declared.Scan.{Scan}
use Rattle.firing.proofs.Numbers.{count_upto}
use Rattle.firing.proofs.Marks.{marks_nil, marks_append, marks_length, marks_out}
use Rattle.firing.proofs.Meeting.{opened_small}
use Rattle.scan.proofs.Round.{met_room, then_unmet, then_ready, then_length}

-- ---- meeting

-- the items before j are met, where an item meets these names
pub record Scanned (meets : ℕ → List ℕ) (s : Scan) (w₀ : List ℕ) (j : ℕ) (w : List ℕ) : Type 0 where
  pub left : marks (s.rounds + 1) w₀ (collect meets (part w₀ (work_column + s.from) (work_column + s.to)))
      ≡ marks (s.rounds + 1) w (collect meets (part w₀ (work_column + j) (work_column + s.to)))
  pub same_length : length w ≡ length w₀
  pub high : (i : ℕ) → most_names ≤ i → get_or w i 0 ≡ get_or w₀ i 0

pub scan_start : (meets : ℕ → List ℕ) (s : Scan) (w : List ℕ) → Scanned meets s w s.from w
scan_start meets s w = record { left = refl; same_length = refl; high = λ j k. refl }

module _ {names recs lists : List ℕ} {k : Counts} (laid : Laid names recs lists k) (a : Asked) {s : Scan} {w₀ : List ℕ}
    (ready : Ready (held_of names recs lists k a) (going s w₀)) where
  abbrev meets : ℕ → List ℕ
  meets = record_meets names recs lists

  -- the item at j
  pub scan_item : {j i : ℕ} {w : List ℕ} → Scanned meets s w₀ j w → s.from ≤ j → j < s.to → i ≡ get_or w (work_column + j) 0 → i < k.records
  unfolding held_of items
  scan_item {j} {i} {w} z lo l e =
      let x = ready.room.fits in
      let y = ready.room.long in
      let same : i ≡ get_or w₀ (work_column + j) 0 = e ∙ z.high (work_column + j) (omega arith) in
      subst (λ i. i < k.records) (sym same)
      (ready.items_small (get_or w₀ (work_column + j) 0)
      (part_intro w₀ (work_column + s.from) (work_column + s.to) (work_column + j) (omega arith) (omega arith) (omega arith)))

  pub scan_next : {j i : ℕ} {w v : List ℕ} → Scanned meets s w₀ j w → s.from ≤ j → j < s.to → i ≡ get_or w (work_column + j) 0
      → v ≡ marks (s.rounds + 1) w (meets i) → Scanned meets s w₀ (j + 1) v
  unfolding collect held_of
  scan_next {j} {i} {w} {v} z lo l e g =
      let x = ready.room.fits in
      let y = ready.room.long in
      let small = scan_item z lo l e in
      let r = s.rounds + 1 in
      let here = meets i in
      let f : i ≡ get_or w₀ (work_column + j) 0 = e ∙ z.high (work_column + j) (omega arith) in
      let next : work_column + j + 1 ≡ work_column + (j + 1) = omega arith in
      record {
        left = z.left
            ∙ rw (
              part_cons w₀ (work_column + j) (work_column + s.to) (omega arith) (omega arith),
              next,
              ← f,
              marks_append r w here (collect meets (part w₀ (work_column + (j + 1)) (work_column + s.to))),
              ← g,
            );
        same_length = ap length g ∙ marks_length r w here ∙ z.same_length;
        high = λ m o. ap (λ (v : List ℕ). get_or v m 0) g
            ∙ marks_out r w here m (λ q. let y = opened_small (held_of names recs lists k a) (laid.fits a) i m small q in let few = laid.few_names in omega arith)
            ∙ z.high m o;
      }

pub scan_end : (names recs lists : List ℕ) (k : Counts) (a : Asked) {s : Scan} {w₀ w : List ℕ} {j : ℕ}
    → Scanned (record_meets names recs lists) s w₀ j w → s.to ≤ j
    → going (record { from = s.to; to = s.to; visits = s.visits; rounds = s.rounds + 1; triggered = false }) w
    ≡ met_phase (held_of names recs lists k a) (going s w₀)
unfolding met_phase items scanned_by collect held_of
scan_end names recs lists k a {s} {w₀} {w} {j} z l =
    ap (going (record { from = s.to; to = s.to; visits = s.visits; rounds = s.rounds + 1; triggered = false }))
    (sym (z.left ∙ rw (part_nil w₀ (work_column + j) (work_column + s.to) (omega arith)) (marks_nil (s.rounds + 1) w)))

-- ---- a round

module _ {names recs lists : List ℕ} {k : Counts} (laid : Laid names recs lists k) (a : Asked) {g : Going} (ready : Ready (held_of names recs lists k a) g) where
  abbrev t : Held
  t = held_of names recs lists k a

  few_visits : g.scan.visits ≤ most_entries
  unfolding held_of
  few_visits =
      let v = ready.visits_are in
      let m = count_upto (λ e. ltb (waits_on recs lists a e) k.names && is_met g.run (waits_on recs lists a e)) k.entries in
      let f = laid.few_entries in
      omega arith

  -- the state when the names are met
  pub met_steady : {m : Going} → m ≡ met_phase t g → Steady m × (m.scan.visits ≤ most_entries)
  unfolding met_phase
  met_steady {m} e =
      subst (λ (x : Going). Steady x × (x.scan.visits ≤ most_entries)) (sym e)
      (let f = ready.few_rounds in
      let v = few_visits in
      (record { room = met_room t (laid.fits a) g ready; started = omega arith; few_rounds = omega arith; few_visits = omega arith }, v))

pub round_is : (h : Held) (g : Going) {m v : Going} → m ≡ met_phase h g → v ≡ visit_phase h m → v ≡ round h g
unfolding round
round_is h g e f = f ∙ ap (visit_phase h) e

-- ---- the rounds

-- the rounds so far: those that come end those from the start
pub record GoingOn (h : Held) (g₀ g : Going) : Type 0 where
  pub ready : Ready h g
  pub rest : (end : Going) → Rounds h g end → Rounds h g₀ end
  pub same_length : length g.run ≡ length g₀.run

pub on_start : {h : Held} {g : Going} → Ready h g → GoingOn h g g
on_start r = record { ready = r; rest = λ end x. x; same_length = refl }

module _ {names recs lists : List ℕ} {k : Counts} (laid : Laid names recs lists k) (a : Asked) {g₀ g v : Going} (on : GoingOn (held_of names recs lists k a) g₀ g)
    (goes : v ≡ round (held_of names recs lists k a) g) where
  abbrev u : Held
  u = held_of names recs lists k a

  went : v.scan.triggered ≡ true → (round u g).scan.triggered ≡ true
  went t = sym (ap (λ (x : Going). x.scan.triggered) goes) ∙ t

  pub on_next : v.scan.triggered ≡ true → GoingOn u g₀ v
  on_next t =
      subst (λ x. GoingOn u g₀ x) (sym goes)
      (record {
        ready = then_ready u (laid.fits a) g on.ready (went t);
        rest = λ end x. on.rest end (more (went t) x);
        same_length = then_length u (laid.fits a) g on.ready ∙ on.same_length;
      })

  -- a name is met in each round that triggers a fact
  pub on_less : v.scan.triggered ≡ true → unmet k.names v.run < unmet k.names g.run
  unfolding held_of
  on_less t =
      subst (λ (x : Going). unmet k.names x.run < unmet k.names g.run) (sym goes) (then_unmet u (laid.fits a) g on.ready (went t))

  pub on_end : v.scan.triggered ≡ false → Rounds u g₀ v
  on_end t =
      subst (λ x. Rounds u g₀ x) (sym goes)
      (on.rest (round u g) (last (sym (ap (λ (x : Going). x.scan.triggered) goes) ∙ t)))

  pub on_length : length v.run ≡ length g₀.run
  on_length = ap (λ (x : Going). length x.run) goes ∙ then_length u (laid.fits a) g on.ready ∙ on.same_length
