-- Change 2, of the call: what it comes to, each exactly when, and the table as it is left.
use Prim.Native.Nat.{ℕ, zero, suc, ◌≤◌, ◌<◌}
use native.Mathlib.Omega.{arith}
use mathlib.Core.Path.{◌≡◌, refl, ◌∙◌, ap, subst}
use mathlib.Core.Logic.{◌↔◌, ◌⊎◌, inl, inr, ⊎_elim}
use mathlib.Core.List.Memᴰ
use mathlib.Core.List.{List, [], ◌∷◌, ◌++◌}
use Rattle.std.specs.Prelude.{Option, None as none, Some as some}
use lib.ListN.{length, drop}
use lib.Seq.{take_at, drop_at}
use Rattle.model.specs.Reading.{Ask, State}
use Rattle.model.specs.Outcome.{Lent, Front, stopped, opened, front}
use Rattle.model.specs.Reasons.{rows, met_number}
use Rattle.model.specs.Explaining.{refusal_at, no_position, told, row_table, nth_ask, reasons, explained, explanation, table_after}
use Rattle.model.specs.declared.Refusal.{Refusal}
use Rattle.model.specs.declared.Row.{Row}
use Rattle.demands.specs.LinesRead.{LinesRead, At}
use Rattle.demands.specs.Demand1.{LinesJudged}
use Rattle.demands.specs.Explaining.{ShortTable, with_table, Explained, TableExact}
use Rattle.demands.proofs.Demand1.{clash, file_opened}
use Rattle.demands.proofs.HistoryLaws.{le_or_lt}
use Rattle.demands.proofs.Asks.{at_member}
use Rattle.demands.proofs.Slices.{front_length}
use Rattle.demands.proofs.Reasons.{rows_fit}

-- 7 covers a table below 2,048 rows
pub short_table : ShortTable
short_table table works = (
  λ (l, i, h). ⊎_elim (λ e. inl (subst (λ (l : Lent). l.size < l.least) e h)) (λ j. inr (l, j, h)) (Memᴰ.cases_cons i),
  λ p. ⊎_elim (λ h. (row_table table, Memᴰ.head refl, h)) (λ (l, i, h). (l, Memᴰ.tail i, h)) p,
)

-- ---- the ask at a position

-- one element more before a list
at_later : {A : Type 0} {l : List A} {i : ℕ} {x : A} (y : A) → At l i x → At (y ∷ l) (suc i) x
at_later y p = record { before = y ∷ p.before; after = p.after; are = ap (y ∷◌) p.are; place = ap suc p.place }

at_earlier : {A : Type 0} {l : List A} {i : ℕ} {x y : A} → At (y ∷ l) (suc i) x → At l i x
at_earlier {A} {l} {i} {x} {y} p = go p.before p.are p.place
  where
    go : (before : List A) → y ∷ l ≡ before ++ (x ∷ p.after) → length before ≡ suc i → At l i x
    go [] e h = absurd (omega arith)
    go (z ∷ before) e h = record { before = before; after = p.after; are = cc; place = omega arith }

-- no ask is there exactly where the position is 0 or past the last
pub ask_none : (asks : List Ask) (position : ℕ) → (nth_ask asks position ≡ none) ↔ ((position ≡ 0) ⊎ (length asks < position))
unfolding nth_ask
ask_none [] zero = (λ e. inl refl, λ p. refl)
ask_none [] (suc n) = (λ e. inr (omega arith), λ p. refl)
ask_none (a ∷ asks) zero = (λ e. inl refl, λ p. refl)
ask_none (a ∷ asks) (suc zero) = (
  λ e. absurd (clash cc),
  λ p. absurd (⊎_elim (λ h. omega arith) (λ h. omega arith) p),
)
ask_none (a ∷ asks) (suc (suc n)) = (
  λ e. ⊎_elim (λ h. absurd (omega arith)) (λ h. inr (omega arith)) ((ask_none asks (suc n)).0 e),
  λ p. (ask_none asks (suc n)).1 (⊎_elim (λ h. absurd (omega arith)) (λ h. inr (omega arith)) p),
)

-- an ask is there exactly where it stands at the position, counted from 1
pub ask_some : (asks : List Ask) (position : ℕ) (a : Ask) → (nth_ask asks position ≡ some a) ↔ ((k : ℕ) × (position ≡ suc k) × At asks k a)
unfolding nth_ask
ask_some [] position a = (
  λ e. absurd (clash cc),
  λ (k, e, p). absurd (Memᴰ.not-nil (at_member p)),
)
ask_some (b ∷ asks) zero a = (λ e. absurd (clash cc), λ (k, e, p). absurd (omega arith))
ask_some (b ∷ asks) (suc zero) a = (
  λ e. (0, refl, record { before = []; after = asks; are = ap (◌∷ asks) (let z : b ≡ a = cc in z); place = refl }),
  λ (k, e, p). ap some (first p.after p.before p.are (p.place ∙ (let z : k ≡ 0 = omega arith in z))),
)
  where
    first : (after before : List Ask) → b ∷ asks ≡ before ++ (a ∷ after) → length before ≡ 0 → b ≡ a
    first after [] e h = cc
    first after (y ∷ before) e h = absurd (omega arith)
ask_some (b ∷ asks) (suc (suc n)) a = (
  λ e. let (k, q, p) = (ask_some asks (suc n) a).0 e in (suc k, ap suc q, at_later b p),
  λ (k, q, p). (ask_some asks (suc n) a).1 (n, refl, at_earlier (subst (λ k. At (b ∷ asks) k a) (let z : k ≡ suc n = omega arith in z) p)),
)

-- ---- what the call comes to

module _ (position : ℕ) where
  -- a refusal of the front is the call's
  refused_front : (f : Front) (r : Refusal) (n : ℕ) → (explained position f ≡ refusal_at r n) ↔ (f ≡ stopped r n)
  unfolding explained reasons
  refused_front (stopped x place) r n = (λ e. let y : x ≡ r = cc in let z : place ≡ n = cc in rw (y, z), λ e. let y : x ≡ r = cc in let z : place ≡ n = cc in rw (y, z))
  refused_front (opened s) r n = (λ e. absurd (go (nth_ask s.asks position) e), λ e. absurd (clash cc))
    where
      go : (o : Option Ask) → reasons s o ≡ refusal_at r n → ⊥
      go none e = clash cc
      go (some a) e = clash cc

  -- 15 is given of an open file without an ask at the position
  refused_position : (f : Front) → (explained position f ≡ no_position) ↔ ((s : State) × (f ≡ opened s) × (nth_ask s.asks position ≡ none))
  unfolding explained reasons
  refused_position (stopped r place) = (λ e. absurd (clash cc), λ (s, e, q). absurd (clash cc))
  refused_position (opened s) = (
    λ e. (s, refl, go (nth_ask s.asks position) e),
    λ (u, e, q). let z : u ≡ s = cc in ap (reasons s) (subst (λ (u : State). nth_ask u.asks position ≡ none) z q),
  )
    where
      go : (o : Option Ask) → reasons s o ≡ no_position → o ≡ none
      go none e = refl
      go (some a) e = absurd (clash cc)

  -- the rows are given of an open file with an ask there
  told_position : (f : Front) (given : List Row) (met : ℕ) → (explained position f ≡ told given met)
      ↔ ((s : State) × (f ≡ opened s) × ((a : Ask) × (nth_ask s.asks position ≡ some a) × (given ≡ rows a s) × (met ≡ met_number a s)))
  unfolding explained reasons
  told_position (stopped r place) given met = (λ e. absurd (clash cc), λ (s, e, q). absurd (clash cc))
  told_position (opened s) given met = (
    λ e. (s, refl, go (nth_ask s.asks position) e),
    λ (u, e, (a, q, x, y)). let z : u ≡ s = cc in back u z a q x y,
  )
    where
      go : (o : Option Ask) → reasons s o ≡ told given met → (a : Ask) × (o ≡ some a) × (given ≡ rows a s) × (met ≡ met_number a s)
      go none e = absurd (clash cc)
      go (some a) e = (a, refl, (let z : given ≡ rows a s = cc in z), (let z : met ≡ met_number a s = cc in z))

      back : (u : State) → u ≡ s → (a : Ask) → nth_ask u.asks position ≡ some a → given ≡ rows a u → met ≡ met_number a u
          → reasons s (nth_ask s.asks position) ≡ told given met
      back u z a q x y = rw (← z, q, x, y)

-- the call comes to what it does exactly when
pub explains : Explained
unfolding explanation
explains file position works table =
    let lent = with_table table works in
    let f = front file lent in
    record {
      refused = λ r n. refused_front position f r n;
      refused_15 = (
        λ e. let (s, o, q) = (refused_position position f).0 e in
            let (judged, accepted) = (file_opened file lent s).0 o in
            (judged, (s, accepted, (ask_none s.asks position).0 q)),
        λ (judged, (s, accepted, p)).
            (refused_position position f).1 (s, (file_opened file lent s).1 (judged, accepted), (ask_none s.asks position).1 p),
      );
      rows_told = λ given met. (
        λ e. let (s, o, (a, q, x, y)) = (told_position position f given met).0 e in
            let (judged, accepted) = (file_opened file lent s).0 o in
            (judged, (s, accepted, (a, (ask_some s.asks position a).0 q, x, y, room judged (rows_few s accepted a given x)))),
        λ (judged, (s, accepted, (a, p, x, y, h))).
            (told_position position f given met).1 (s, (file_opened file lent s).1 (judged, accepted), (a, (ask_some s.asks position a).1 p, x, y)),
      );
    }
  where
    rows_few : (s : State) → LinesRead file s → (a : Ask) (given : List Row) → given ≡ rows a s → length given ≤ 2048
    rows_few s accepted a given x = rw x (rows_fit file s accepted a)

    room : {n : ℕ} → LinesJudged file (with_table table works) → n ≤ 2048 → n ≤ table
    room j h = ⊎_elim (λ (l : 2048 ≤ table). omega arith) (λ (l : table < 2048). absurd (j.long_slices ((short_table table works).1 (inl l)))) (le_or_lt 2048 table)

-- the table after a call
pub table_exact : TableExact
unfolding table_after
table_exact (refusal_at r place) table = refl
table_exact no_position table = refl
table_exact (told given met) table =
    λ h. (front_length given table (length given) refl h, take_at given (drop (length given) table) (length given) refl, drop_at given (drop (length given) table) (length given) refl)
