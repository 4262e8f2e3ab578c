-- What the core tells and leaves: a refusal of the front, 15, or the rows in words of the run's slice.
use Prim.Native.Nat.{ℕ, zero, suc, ◌+◌, ◌*◌, ◌-◌, ◌≤◌, ◌<◌}
use native.Mathlib.Omega.{arith}
use mathlib.Core.Path.{◌≡◌, refl, sym, ◌∙◌, ap, subst}
use mathlib.Core.Bool.{Bool, true, false}
use mathlib.Core.Logic.{◌⊎◌}
use mathlib.Core.List.{List, [], ◌∷◌, ◌++◌, append_assoc}
use Rattle.std.specs.Prelude.{None as none, Some as some}
use lib.Dec.{ltb}
use lib.ListN.{length, get_or, take}
use borrow.Author.Tests.{ltb-true, ltb-false}
use Rattle.model.specs.Outcome.{Lent, working_words, stopped, front}
use Rattle.model.specs.Working.{Working, six, sizes, works_after}
use Rattle.model.specs.Reasons.{rows, met_number}
use Rattle.model.specs.Explaining.{Explanation, refusal_at, no_position, told, most_rows, row_table, nth_ask, reasons, explained, explanation, why}
use Rattle.model.specs.declared.Asked.{Asked}
use Rattle.model.specs.declared.Counts.{Counts}
use Rattle.model.specs.declared.Refusal.{Refusal}
use Rattle.model.specs.declared.Refusal.TheVariants as refusal
use Rattle.model.specs.declared.Row.{Row}
use Rattle.model.specs.declared.Why.{Why}
use Rattle.demands.specs.LinesRead.{At}
use Rattle.demands.proofs.Demand1.{file_opened}
use Rattle.demands.proofs.Explaining.{ask_none, ask_some}
use Rattle.words.specs.Slices.{Zeroed, Copied}
use Rattle.words.proofs.Slices.{same_then, same_wider}
use Rattle.records.specs.States.{ask_at, asks_of, ask_of, asked_at, state_of}
use Rattle.records.proofs.Asking.{asks_length}
use Rattle.records.proofs.Chains.{asked_is}
use Rattle.front.specs.Opening.{Long, Rest, Zeros, TablesZero, state_in, OpenFile, RefusedFile}
use Rattle.front.proofs.Slices.{rest_self, rest_long, rest_then, slice_cleared, works_cleared, zeros_rest, front_own, left_own, front_short, left_untouched}
use Rattle.front.proofs.Laws.{open_read, few_asks, closed_file, rest_work}
use Rattle.rows.specs.Rows.{words_of}
use Rattle.rows.specs.Left.{RowsLeft}
use Rattle.rows.proofs.Laws.{Small}
use Rattle.rows.proofs.Leaving.{none_left, rows_begin, front_cleared}
use Rattle.explain.specs.Call.{rows_told, TellsRows, MovesRows, HeldOpen, ExplainsTo, PositionTold, FoundReasons, reasons_in_numbers}
use Rattle.explain.specs.declared.Reasons.{Reasons}
use Rattle.explain.proofs.SmallLines.{rows_small}

-- ---- the ask at a position of the tables

-- each stands at its place
at_asks : (recs : List ℕ) (n i : ℕ) → i < n → At (asks_of recs n) i (ask_at recs i)
unfolding asks_of
at_asks recs zero i h = absurd (omega arith)
at_asks recs (suc n) i h = go (λ l. at_asks recs n i l) (ltb i n) refl
  where
    go : (i < n → At (asks_of recs n) i (ask_at recs i)) → (b : Bool) → ltb i n ≡ b → At (asks_of recs (suc n)) i (ask_at recs i)
    go earlier true e =
        let p = earlier (ltb-true i n e) in
        record {
          before = p.before;
          after = p.after ++ (ask_at recs n ∷ []);
          are = ap (◌++ (ask_at recs n ∷ [])) p.are ∙ append_assoc p.before (ask_at recs i ∷ p.after) (ask_at recs n ∷ []);
          place = p.place;
        }
    go earlier false e =
        let l = ltb-false i n e in
        let is : n ≡ i = omega arith in
        subst (λ j. At (asks_of recs (suc n)) j (ask_at recs j)) is
        (record { before = asks_of recs n; after = []; are = refl; place = asks_length recs n })

-- there is none at 0 or past the last
no_ask : (recs : List ℕ) (n position : ℕ) → (position ≡ 0) ⊎ (n < position) → nth_ask (asks_of recs n) position ≡ none
no_ask recs n position p = (ask_none (asks_of recs n) position).1 (rw (asks_length recs n) p)

-- and one at any other position
an_ask : (recs : List ℕ) (n i : ℕ) → i < n → nth_ask (asks_of recs n) (suc i) ≡ some (ask_of recs (asked_at recs i))
an_ask recs n i h = (ask_some (asks_of recs n) (suc i) _).1 (i, refl, rw (asked_is recs i) (at_asks recs n i h))

-- ---- what the call comes to

module _ (file : List ℕ) (position : ℕ) (lent : Working) (room : ℕ) where
  -- a table that is too short is 7
  short_told : room < most_rows → explanation file position (sizes lent) room ≡ refusal_at refusal.Working 0
  unfolding explanation explained
  short_told h = rw (front_short file (row_table room) (sizes lent) h)

  module _ (long : most_rows ≤ room) where
    -- a refusal of the front is the call's
    stopped_told : {r : Refusal} {place : ℕ} → front file (sizes lent) ≡ stopped r place
        → explanation file position (sizes lent) room ≡ refusal_at r place
    unfolding explanation explained
    stopped_told e = rw (front_own file (row_table room) (sizes lent) long, e)

    -- an open file has the reasons of its ask at the position
    open_told : {held : Working} {k : Counts} → OpenFile file lent held k
        → explanation file position (sizes lent) room
        ≡ reasons (state_in file held k) (nth_ask (asks_of held.recs k.asks) position)
    unfolding explanation explained state_of
    open_told f = rw (front_own file (row_table room) (sizes lent) long, f.state)

-- ---- what is left

-- slices that 7 counts beside these and that are long enough change nothing
left_with : {works more : List Lent} {lent left : Working} {rs : List Row} → works_after more lent ≡ works_after works lent
    → RowsLeft works lent left rs → RowsLeft more lent left rs
left_with e l = record {
  names = l.names ∙ sym (ap (λ (w : Working). w.names) e);
  refs = l.refs ∙ sym (ap (λ (w : Working). w.refs) e);
  rows = l.rows ∙ sym (ap (λ (w : Working). w.rows) e);
  recs = l.recs ∙ sym (ap (λ (w : Working). w.recs) e);
  lists = l.lists ∙ sym (ap (λ (w : Working). w.lists) e);
  inside = l.inside;
  stand = l.stand;
  cleared = λ run z. l.cleared run z ∙ sym (ap (λ (w : Working). w.run) e);
}

-- moving rows changes no word past those that a call uses
pub moves_rest : {n : ℕ} {u left : Working} → MovesRows n u left → Rest u left
moves_rest m = record {
  on_names = m.names.same;
  on_refs = m.refs.same;
  on_rows = m.rows_cleared.same;
  on_recs = m.recs.same;
  on_lists = m.lists.same;
  on_run = m.run;
}

-- with rows they are those of the end but for the words of the rows
module _ {lent u left : Working} {n : ℕ} (long : Long lent) (rest : Rest lent u) (moved : MovesRows n u left) (few : n ≤ most_rows) where
  -- the run's slice, once these words are cleared
  run_cleared : (run : List ℕ) → Zeroed 0 (2 * n) left.run run → Zeroed 0 working_words u.run run
  run_cleared run z = front_cleared (omega arith) moved.run moved.cleared z

  some_left : (rs : List Row) → n ≡ length rs → take (2 * n) u.refs ≡ words_of rs
      → Small rs → RowsLeft (sizes lent) lent left rs
  some_left rs count stand small =
      let is = works_cleared lent long in
      let size = moved.run.same_length in
      let lies = rest.on_run.same_length in
      record {
        names = slice_cleared _ _ _ rest.on_names moved.names long.on_names ∙ sym (ap (λ (w : Working). w.names) is);
        refs = slice_cleared _ _ _ rest.on_refs moved.refs long.on_refs ∙ sym (ap (λ (w : Working). w.refs) is);
        rows = slice_cleared _ _ _ rest.on_rows moved.rows_cleared long.on_rows ∙ sym (ap (λ (w : Working). w.rows) is);
        recs = slice_cleared _ _ _ rest.on_recs moved.recs long.on_recs ∙ sym (ap (λ (w : Working). w.recs) is);
        lists = slice_cleared _ _ _ rest.on_lists moved.lists long.on_lists ∙ sym (ap (λ (w : Working). w.lists) is);
        inside = omega (arith, long.on_run, size, lies, few, count);
        stand = rows_begin u.refs left.run rs count (omega (arith, long.on_run, size, lies, few)) stand moved.moved small;
        cleared = λ run z.
            slice_cleared _ _ _ rest.on_run (run_cleared run (subst (λ m. Zeroed 0 (2 * m) left.run run) (sym count) z)) long.on_run
            ∙ sym (ap (λ (w : Working). w.run) is);
      }

-- ---- the contracts

module _ {file : List ℕ} {position : ℕ} {lent : Working} {room : ℕ} {a : Why} where
  -- a refusal has no rows
  refused_explains : {held : Working} {r : Refusal} {place : ℕ} → explanation file position (sizes lent) room ≡ refusal_at r place
      → a ≡ why (refusal_at r place) → held ≡ works_after (row_table room ∷ sizes lent) lent → Rest lent held
      → ExplainsTo file position lent room a held
  unfolding why rows_told
  refused_explains e is left rest = record {
    answered = is ∙ ap why (sym e);
    fits = rw is (omega arith);
    left = rw e (none_left left);
    rest = rest;
  }

  -- 7 for the table
  pub short_explains : room < most_rows → a ≡ why (refusal_at refusal.Working 0) → ExplainsTo file position lent room a lent
  short_explains h is =
      refused_explains (short_told file position lent room h) is (left_untouched (row_table room) (sizes lent) lent h) (rest_self lent)

  -- a refusal of the front
  pub stopped_explains : {held : Working} {r : Refusal} {place : ℕ} → most_rows ≤ room → RefusedFile file lent held r place → Rest lent held
      → a ≡ why (refusal_at r place) → ExplainsTo file position lent room a held
  stopped_explains h f rest is =
      refused_explains (stopped_told file position lent room h f.stops) is
      (f.left ∙ sym (left_own (row_table room) (sizes lent) lent h)) rest

-- 15
pub position_none : {file : List ℕ} {position : ℕ} {k : Counts} {held left : Working} {a : Why}
    → (position ≡ 0) ⊎ (k.asks < position) → Zeros held left → a ≡ why (refusal_at refusal.Position 0)
    → PositionTold file position k held left a
unfolding why rows_told reasons
position_none {file} {position} {k} {held} {left} {a} p z is = record {
  told_at = λ lent room f h.
      let e : explanation file position (sizes lent) room ≡ no_position =
      open_told file position lent room h f ∙ ap (reasons (state_in file held k)) (no_ask held.recs k.asks position p) in
      record {
        answered = is ∙ ap why (sym e);
        fits = rw is (omega arith);
        left = rw e (none_left (closed_file f (rest_self held) z ∙ sym (left_own (row_table room) (sizes lent) lent h)));
        rest = rest_then f.rest (zeros_rest z);
      };
  rest = zeros_rest z;
}

-- the rows
pub position_some : {file : List ℕ} {position i : ℕ} {k : Counts} {w0 w1 w2 w3 w4 w5 v1 v5 : List ℕ} {left : Working} {a : Why}
    → HeldOpen file (six w0 w1 w2 w3 w4 w5) k → position ≡ suc i → i < k.asks
    → TellsRows file w0 w3 w4 k (asked_at w3 i) w1 v1 w5 v5 a → MovesRows a.rows (six w0 v1 w2 w3 w4 v5) left
    → PositionTold file position k (six w0 w1 w2 w3 w4 w5) left a
unfolding why rows_told reasons state_of
position_some {file} {position} {i} {k} {w0} {w1} {w2} {w3} {w4} {w5} {v1} {v5} {left} {a} h is low t m =
    let held = six w0 w1 w2 w3 w4 w5 in
    let s = state_in file held k in
    let x = ask_of w3 (asked_at w3 i) in
    let work : Rest held (six w0 v1 w2 w3 w4 v5) = rest_work t.row_words t.run_words in
    let moved : Rest (six w0 v1 w2 w3 w4 v5) left = moves_rest m in
    record {
      told_at = λ lent room f l.
          let there : nth_ask (asks_of w3 k.asks) position ≡ some x = rw is (an_ask w3 k.asks i low) in
          let e : explanation file position (sizes lent) room ≡ told (rows x s) (met_number x s) =
          open_told file position lent room l f ∙ ap (reasons s) there in
          let count : a.rows ≡ length (rows x s) = ap (λ (w : Why). w.rows) (t.answered w2) in
          record {
            answered = t.answered w2 ∙ ap why (sym e);
            fits = omega (arith, t.few, l);
            left = rw e (left_with (left_own (row_table room) (sizes lent) lent l)
                (some_left f.long (rest_then f.rest work) m t.few (rows x s) count (t.stand w2) (rows_small file s h.read h.small x)));
            rest = rest_then f.rest (rest_then work moved);
          };
      rest = rest_then work moved;
    }

-- the same by the position itself
pub position_told : {file : List ℕ} {position : ℕ} {k : Counts} {a : Asked} {w0 w1 w2 w3 w4 w5 v1 v5 : List ℕ} {left : Working} {r : Why}
    → HeldOpen file (six w0 w1 w2 w3 w4 w5) k → (position ≡ 0 → ⊥) → position ≤ k.asks → a ≡ asked_at w3 (position - 1)
    → TellsRows file w0 w3 w4 k a w1 v1 w5 v5 r → MovesRows r.rows (six w0 v1 w2 w3 w4 v5) left
    → PositionTold file position k (six w0 w1 w2 w3 w4 w5) left r
position_told {file} {position} {k} {a} {w0} {w1} {w2} {w3} {w4} {w5} {v1} {v5} {left} {r} h nonzero low is t m =
    position_some h (go position nonzero) (omega (arith, go position nonzero))
    (subst (λ (x : Asked). TellsRows file w0 w3 w4 k x w1 v1 w5 v5 r) is t) m
  where
    go : (n : ℕ) → (n ≡ 0 → ⊥) → n ≡ suc (n - 1)
    go zero other = absurd (other refl)
    go (suc n) other = omega arith

-- what the core asks of an open file
pub held_open : {file : List ℕ} {lent held : Working} {k : Counts} → OpenFile file lent held k → HeldOpen file held k
held_open {file} {lent} {held} {k} f = record {
  filled = f.filled;
  long = rest_long f.long f.rest;
  few_asks = few_asks f;
  small = ((file_opened file (sizes lent) (state_in file held k)).0 f.state).0.fits;
  read = open_read f;
}

-- rows moved and all else cleared
pub moves_rows : {n : ℕ} {w0 w1 w2 w3 w4 w5 x v0 v1 v2 v3 v4 v5 : List ℕ} → n ≤ most_rows → Zeroed 0 working_words w5 x
    → Copied w1 0 0 (2 * n) x v5 → TablesZero (six w0 w1 w2 w3 w4 []) (six v0 v1 v2 v3 v4 [])
    → MovesRows n (six w0 w1 w2 w3 w4 w5) (six v0 v1 v2 v3 v4 v5)
moves_rows {n} {w1 = w1} {v5 = v5} few z d t = record {
  names = t.on_names;
  refs = t.on_refs;
  rows_cleared = t.on_rows;
  recs = t.on_recs;
  lists = t.on_lists;
  moved = λ i h.
      let e : 0 + i ≡ i = omega arith in
      ap (λ j. get_or v5 j 0) (sym e) ∙ d.words i h ∙ ap (λ j. get_or w1 j 0) e;
  cleared = λ i low high. d.same.same_words i (λ a b. omega arith) ∙ z.zero i (omega arith) (omega arith);
  run = same_then z.same (same_wider 0 working_words (omega arith) (omega arith) d.same);
}

-- as many rows as the call tells
pub told_count : (e : Explanation) → (why e).rows ≡ length (rows_told e)
unfolding why rows_told
told_count (refusal_at r place) = refl
told_count no_position = refl
told_count (told given met) = refl

-- the same in numbers
pub found : {file : List ℕ} {position : ℕ} {lent held : Working} {room : ℕ} {a : Why} {r : Reasons}
    → ExplainsTo file position lent room a held → r ≡ reasons_in_numbers a → FoundReasons file position lent room r held
unfolding reasons_in_numbers
found {file} {position} {lent} {room = room} {a} x is =
    let n : a.rows ≡ length (rows_told (explanation file position (sizes lent) room)) = ap (λ (w : Why). w.rows) x.answered ∙ told_count _ in
    record {
      answered = is ∙ ap reasons_in_numbers x.answered;
      fits = rw is x.fits;
      held_rows = rw is (omega (arith, n, x.left.inside));
      left = x.left;
    }
