-- What the core tells and leaves: a refusal of the front, 8, or the rows in words of the run's slice.
use Prim.Native.Nat.{ℕ, ◌*◌, ◌-◌, ◌≤◌, ◌<◌}
use native.Mathlib.Omega.{arith}
use mathlib.Core.Path.{◌≡◌, refl, sym, ◌∙◌, ap}
use mathlib.Core.Bool.{Bool, true, false, cond}
use mathlib.Core.List.{List, [], ◌∷◌, ◌++◌}
use lib.Dec.{eqb}
use lib.ListN.{length}
use borrow.Author.Tests.{le-leb, lt-leb}
use Rattle.model.specs.Lists.{collect}
use Rattle.model.specs.Reading.{most_uses}
use Rattle.model.specs.Outcome.{working_words}
use Rattle.model.specs.Working.{Working, six, sizes}
use Rattle.model.specs.Checking.{Checked, refusal_at, listed_rows, checked, rows_fitting, check, ordered}
use Rattle.model.specs.declared.Counts.{Counts}
use Rattle.model.specs.declared.Ordered.{Ordered}
use Rattle.model.specs.declared.Refusal.{Refusal}
use Rattle.model.specs.declared.Refusal.TheVariants as refusal
use Rattle.model.specs.declared.Row.{Row}
use Rattle.model.specs.declared.Verdict.TheVariants.{Accepted}
use Rattle.demands.proofs.Precedence.{late_rows_bound}
use Rattle.demands.proofs.Checking.{open_check, stopped_check}
use Rattle.words.specs.Slices.{SameBut, Zeroed}
use Rattle.words.proofs.Slices.{same_then, same_wider}
use Rattle.records.specs.Columns.{record_kind, def_kind}
use Rattle.records.specs.States.{uses_at}
use Rattle.macros.specs.Macros.{Filled}
use Rattle.front.specs.Opening.{Long, Rest, Zeros, TablesZero, state_in, OpenFile, RefusedFile}
use Rattle.front.proofs.Slices.{rest_long, rest_then, slice_cleared, works_cleared, zeros_rest, left_cleared}
use Rattle.front.proofs.Laws.{open_read, rest_work}
use Rattle.rows.specs.Rows.{rows_held}
use Rattle.rows.specs.Left.{RowsLeft}
use Rattle.rows.proofs.Laws.{Small, words_length}
use Rattle.rows.proofs.Leaving.{none_left, rows_begin, front_cleared}
use Rattle.prune.specs.Listing.{from, is_among}
use Rattle.prune.proofs.Writing.{column_same}
use Rattle.prune.proofs.Rows.{rows_count, rows_words_put}
use Rattle.prune.proofs.Linking.{index_filled}
use Rattle.std.specs.Prelude.{Option, None, Some}
use Rattle.names.specs.Table.{ranked}
use Rattle.precedence.specs.declared.Sort.{Sort}
use Rattle.precedence.specs.Sorts.{late_at, sorted_row, rank_row, body_rows, def_rows, all_late}
use Rattle.precedence.specs.Call.{rows_of_check, LatePut, LateTables, ListsRows, Orders, FoundRows, check_in_numbers}
use Rattle.precedence.specs.declared.Late.{Late}
use Rattle.precedence.proofs.Sorts.{sort_small}
use Rattle.precedence.proofs.Listing.{late_is}

-- ---- the third numbers are small

small_append : (rs qs : List Row) → Small rs → Small qs → Small (rs ++ qs)
small_append [] qs s t = t
small_append (r ∷ rs) qs s t = (s.0, small_append rs qs s.1 t)

small_collect : (rows : ℕ → List Row) (l : List ℕ) → ((r : ℕ) → Small (rows r)) → Small (collect rows l)
unfolding collect
small_collect rows [] h = tt
small_collect rows (r ∷ l) h = small_append (rows r) (collect rows l) (h r) (small_collect rows l h)

rank_small : (names recs : List ℕ) (free : ℕ → Bool) (i r : ℕ) → Small (rank_row names recs free i r)
unfolding rank_row sorted_row
rank_small names recs free i r = go (late_at names recs free i (ranked names r))
  where
    go : (s : Option Sort) → Small (sorted_row recs i (ranked names r) s)
    go None = tt
    go (Some s) = let l = sort_small s in (omega arith, tt)

def_small : (names recs lists : List ℕ) (named i : ℕ) → Small (def_rows names recs lists named i)
unfolding def_rows body_rows
def_small names recs lists named i = go (eqb (record_kind recs i) def_kind)
  where
    free : ℕ → Bool
    free n = is_among n (uses_at recs lists i)

    go : (b : Bool) → Small (cond b (collect (rank_row names recs free i) (from 0 named)) [])
    go true = small_collect (rank_row names recs free i) (from 0 named) (rank_small names recs free i)
    go false = tt

pub late_small : (names recs lists : List ℕ) (k : Counts) → Small (all_late names recs lists k)
unfolding all_late
late_small names recs lists k =
    small_collect (def_rows names recs lists k.names) (from 0 k.records) (def_small names recs lists k.names)

-- ---- the tables of an open file

pub open_late : {file : List ℕ} {lent held : Working} {k : Counts} → OpenFile file lent held k → LateTables held k
open_late {file} {lent} {held} {k} f = record {
  checkable = record {
    index = index_filled x;
    recorded = x.recorded;
  };
  long = rest_long f.long f.rest;
  few = omega (arith, (late_rows_bound file (state_in file held k) (open_read f)).1, ap length (late_is x held.refs held.rows));
}
  where
    x : Filled file held.names held.recs held.lists k
    x = f.filled

-- what the call comes to over it
pub open_checked : {file : List ℕ} {lent held : Working} {k : Counts} (room : ℕ) → OpenFile file lent held k
    → check file (sizes lent) room ≡ rows_fitting room (listed_rows (all_late held.names held.recs held.lists k))
unfolding checked
open_checked {file} {lent} {held} {k} room f =
    open_check file (sizes lent) room f.state
    ∙ ap (λ (rs : List Row). rows_fitting room (listed_rows rs)) (late_is f.filled held.refs held.rows)

-- ---- what is left

module _ {rs : List Row} {refs refs' run run' : List ℕ} {count : ℕ} (p : LatePut rs refs refs' run run' count) where
  -- as many as were put
  pub put_count : count ≡ length rs
  put_count = rows_count rs count p.put

  -- they change no other words
  pub put_same : length rs ≤ most_uses → SameBut 0 working_words run run'
  put_same few = let b = words_length rs in same_wider 0 working_words (omega arith) (omega arith) (column_same {size = 2 * most_uses} p.put (omega arith))

  pub put_stamps : SameBut 0 working_words refs refs'
  put_stamps = same_wider 0 working_words (omega arith) (omega arith) p.stamped

  module _ (few : length rs ≤ most_uses) (room : working_words ≤ length run) (small : Small rs) {left : List ℕ}
      (z : Zeroed (2 * count) (working_words - 2 * count) run' left) where
    -- the rows stand in the words that are left
    pub put_stand : rows_held (length rs) left ≡ rs
    put_stand =
        let n = put_count in
        let a = z.same.same_length in
        let b = (put_same few).same_length in
        rows_begin run' left rs n (omega arith) (rows_words_put rs count p.put (omega arith)) (λ i h. z.same.same_words i (λ u v. omega arith)) small

    -- with them cleared, the slice is
    pub put_cleared : (last : List ℕ) → Zeroed 0 (2 * length rs) left last → Zeroed 0 working_words run' last
    put_cleared last y =
        let n = put_count in
        front_cleared (omega arith) (same_wider 0 working_words (omega arith) (omega arith) z.same)
        (λ i low high. z.zero i (omega arith) (omega arith)) y

-- ---- the rows listed, or 8

-- rows that fit are listed, and others are 8
fitting_listed : (rs : List Row) (room : ℕ) → length rs ≤ room → rows_fitting room (listed_rows rs) ≡ listed_rows rs
unfolding rows_fitting
fitting_listed rs room h = rw (le-leb (length rs) room h)

fitting_short : (rs : List Row) (room : ℕ) → room < length rs → rows_fitting room (listed_rows rs) ≡ refusal_at refusal.Room (length rs)
unfolding rows_fitting
fitting_short rs room h = rw (lt-leb (length rs) room h)

-- a refused answer has no rows
no_rows : (r : Refusal) (place : ℕ) → (ordered (refusal_at r place)).rows ≡ 0
unfolding ordered
no_rows r place = refl

refused_rows : (r : Refusal) (place : ℕ) → rows_of_check (refusal_at r place) ≡ []
unfolding rows_of_check
refused_rows r place = refl

-- the slices with the rows put
pub put_rest : {rs : List Row} {refs refs' run run' : List ℕ} {count : ℕ} {names rows recs lists : List ℕ} → LatePut rs refs refs' run run' count
    → length rs ≤ most_uses → Rest (six names refs rows recs lists run) (six names refs' rows recs lists run')
put_rest p few = rest_work (put_stamps p) (put_same p few)

-- a table that is too short
pub short_listed : {rs : List Row} {refs refs' run run' : List ℕ} {count : ℕ} {names rows recs lists : List ℕ} {left : Working} {room : ℕ} {r : Ordered}
    → LatePut rs refs refs' run run' count → length rs ≤ most_uses → room < count
    → Zeros (six names refs' rows recs lists run') left → r ≡ ordered (refusal_at refusal.Room count)
    → ListsRows rs room (six names refs rows recs lists run) left r
short_listed {rs} {refs} {refs'} {run} {run'} {count} {names} {rows} {recs} {lists} {left} {room} {r} p few h z e = record {
  answered = e ∙ ap (λ (n : ℕ). ordered (refusal_at refusal.Room n)) n ∙ sym (ap ordered short);
  fits = let a : r.rows ≡ 0 = ap (λ (o : Ordered). o.rows) e ∙ no_rows refusal.Room count in omega arith;
  stands = λ lent long rest.
      rw (short, refused_rows refusal.Room (length rs)) (none_left (left_cleared long (rest_then rest worked) z));
  rest = rest_then worked (zeros_rest z);
}
  where
    n : count ≡ length rs
    n = put_count p

    short : rows_fitting room (listed_rows rs) ≡ refusal_at refusal.Room (length rs)
    short = fitting_short rs room (omega (arith, n, h))

    worked : Rest (six names refs rows recs lists run) (six names refs' rows recs lists run')
    worked = put_rest p few

-- the answer of rows
listed_answer : (rs : List Row) {n : ℕ} → n ≡ length rs → record { verdict = Accepted; place = 0; rows = n } ≡ ordered (listed_rows rs)
unfolding ordered
listed_answer rs e = rw e

listed_given : (rs : List Row) → rows_of_check (listed_rows rs) ≡ rs
unfolding rows_of_check
listed_given rs = refl

module _ {rs : List Row} {refs refs' run run' : List ℕ} {count : ℕ} (p : LatePut rs refs refs' run run' count) (few : length rs ≤ most_uses)
    {names rows recs lists v0 v1 v2 v3 v4 v5 : List ℕ} (t : TablesZero (six names refs' rows recs lists []) (six v0 v1 v2 v3 v4 []))
    (z : Zeroed (2 * count) (working_words - 2 * count) run' v5) where
  -- the words past those that a call uses stay
  pub listed_rest : Rest (six names refs rows recs lists run) (six v0 v1 v2 v3 v4 v5)
  listed_rest = record {
    on_names = t.on_names.same;
    on_refs = same_then (put_stamps p) t.on_refs.same;
    on_rows = t.on_rows.same;
    on_recs = t.on_recs.same;
    on_lists = t.on_lists.same;
    on_run = same_then (put_same p few) (same_wider 0 working_words (omega arith) (let n = put_count p in omega arith) z.same);
  }

  module _ (small : Small rs) where
    -- the rows stand, and all else is cleared
    listed_left : (lent : Working) → Long lent → Rest lent (six names refs rows recs lists run)
        → RowsLeft (sizes lent) lent (six v0 v1 v2 v3 v4 v5) rs
    listed_left lent long rest =
        let room = (rest_long long rest).on_run in
        let n = put_count p in
        let a = z.same.same_length in
        let b = (put_same p few).same_length in
        let e = works_cleared lent long in
        record {
          names = slice_cleared lent.names names v0 rest.on_names t.on_names long.on_names ∙ sym (ap (λ (w : Working). w.names) e);
          refs =
              slice_cleared lent.refs refs' v1 (same_then rest.on_refs (put_stamps p)) t.on_refs long.on_refs
              ∙ sym (ap (λ (w : Working). w.refs) e);
          rows = slice_cleared lent.rows rows v2 rest.on_rows t.on_rows long.on_rows ∙ sym (ap (λ (w : Working). w.rows) e);
          recs = slice_cleared lent.recs recs v3 rest.on_recs t.on_recs long.on_recs ∙ sym (ap (λ (w : Working). w.recs) e);
          lists = slice_cleared lent.lists lists v4 rest.on_lists t.on_lists long.on_lists ∙ sym (ap (λ (w : Working). w.lists) e);
          inside = omega arith;
          stand = put_stand p few room small z;
          cleared = λ last y.
              slice_cleared lent.run run' last (same_then rest.on_run (put_same p few)) (put_cleared p few room small z last y) long.on_run
              ∙ sym (ap (λ (w : Working). w.run) e);
        }

    pub rows_listed : {room : ℕ} → count ≤ room
        → ListsRows rs room (six names refs rows recs lists run) (six v0 v1 v2 v3 v4 v5) (record { verdict = Accepted; place = 0; rows = count })
    rows_listed {room} h = record {
      answered = listed_answer rs n ∙ sym (ap ordered fitting);
      fits = h;
      stands = λ lent long rest. rw (fitting, listed_given rs) (listed_left lent long rest);
      rest = listed_rest;
    }
      where
        n : count ≡ length rs
        n = put_count p

        fitting : rows_fitting room (listed_rows rs) ≡ listed_rows rs
        fitting = fitting_listed rs room (omega (arith, n, h))

-- ---- the call

-- a file that is open
pub open_orders : {file : List ℕ} {lent held left : Working} {k : Counts} {room : ℕ} {r : Ordered} → OpenFile file lent held k
    → ListsRows (all_late held.names held.recs held.lists k) room held left r → Orders file lent room r left
open_orders {lent = lent} {room = room} f l =
    let e = open_checked room f in
    record {
      answered = l.answered ∙ sym (ap ordered e);
      fits = l.fits;
      left = rw e (l.stands lent f.long f.rest);
      rest = rest_then f.rest l.rest;
    }

-- one that is refused
pub refused_orders : {file : List ℕ} {lent held : Working} {refusal : Refusal} {place room : ℕ} {r : Ordered} → RefusedFile file lent held refusal place
    → Rest lent held → r ≡ ordered (refusal_at refusal place) → Orders file lent room r held
refused_orders {file} {lent} {held} {refusal} {place} {room} {r} f rest e =
    let stops = stopped_check file (sizes lent) room f.stops in
    record {
      answered = e ∙ sym (ap ordered stops);
      fits = let a : r.rows ≡ 0 = ap (λ (o : Ordered). o.rows) e ∙ no_rows refusal place in omega arith;
      left = rw (stops, refused_rows refusal place) (none_left f.left);
      rest = rest;
    }

-- as many rows as the call lists
pub ordered_count : (c : Checked) → (ordered c).rows ≡ length (rows_of_check c)
unfolding ordered rows_of_check
ordered_count (refusal_at r place) = refl
ordered_count (listed_rows rs) = refl

-- the answer in numbers
pub found_rows : {file : List ℕ} {lent held : Working} {room : ℕ} {o : Ordered} {r : Late} → Orders file lent room o held → r ≡ check_in_numbers o
    → FoundRows file lent room r held
unfolding check_in_numbers
found_rows {file} {lent} {held} {room} {o} {r} x e =
    let n : r.rows ≡ o.rows = ap (λ (l : Late). l.rows) e in
    let m : o.rows ≡ length (rows_of_check (check file (sizes lent) room)) = ap (λ (o : Ordered). o.rows) x.answered ∙ ordered_count _ in
    record {
      told = e ∙ ap check_in_numbers x.answered;
      fits = omega (arith, n, x.fits);
      held_rows = omega (arith, n, m, x.left.inside);
      left = x.left;
    }
