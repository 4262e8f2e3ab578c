-- What `gather_term` and `gather_list` rest on: a walk under a new mark.
use Prim.Native.Nat.{ℕ, ◌≤◌, ◌<◌}
use native.Mathlib.Omega.{arith}
use mathlib.Core.Path.{◌≡◌, sym}
use mathlib.Core.Logic.{◌↔◌}
use mathlib.Core.List.Memᴰ
use mathlib.Core.List.{List, Memᴰ}
use lib.ListN.{length}
use Rattle.model.specs.Lists.{part}
use Rattle.model.specs.Names.{Name}
use Rattle.model.specs.Summaries.{free_top_level_names, group_names}
use Rattle.model.proofs.PartLaws.{part_elim, part_intro}
use Rattle.std.specs.Prelude.{Option}
use Rattle.terms.specs.Rows.{terms_of_words, terms_of, Rows}
use Rattle.gather.specs.Sets.{row_mark, name_mark, Fresh, Named, ended, Gathers, Gathered}
use Rattle.gather.specs.Walks.{Free, Among, WalkReady, References, Steps, Walks, MarkedListed}
use Rattle.terms.proofs.Table.{rows_named}
use Rattle.gather.proofs.Naming.{occurs_named, term_set, list_set, start_listed, steps_gathers}

-- no name has a new mark yet
fresh_name : {names rows : List ℕ} {mark : ℕ} → Fresh names rows mark → (k : ℕ) → k < 2048 → name_mark names k ≡ mark → ⊥
fresh_name new k l e = let h = new.name_marks k l in omega arith

-- and no row
pub fresh_row : {names refs rows : List ℕ} {used many named mark t : ℕ} → Rows refs rows used many named → Fresh names rows mark
    → t < many → row_mark rows t ≡ mark → ⊥
fresh_row {t} r new l e =
    let few = r.few_rows in
    let h = new.row_marks t (omega arith) in
    omega arith

-- the names with the mark are those in the slice
marks_of : {P : ℕ → Type 0} {names lists names' lists' : List ℕ} {mark from room : ℕ} {answer : Option ℕ} → ((k : ℕ) → k < 2048 → name_mark names k ≡ mark → ⊥)
    → room ≤ length lists
    → Steps P names lists names' lists' mark from room answer → (k : ℕ) → k < 2048 → (name_mark names' k ≡ mark) ↔ Memᴰ k (part lists' from (ended room answer))
marks_of {names'} {lists'} {mark} {from} {room} {answer} fresh high s k l =
    let w : MarkedListed names' lists' mark from (ended room answer) = s.listed from (omega arith) (start_listed fresh) in
    let fits : ended room answer ≤ length lists' = omega (arith, s.lists_same.same_length, s.fits) in (
      λ e. let (i, (a, b, q)) = w.place k l e in Memᴰ.cast (sym q) (part_intro lists' from (ended room answer) i fits a b),
      λ m. let p = part_elim {l = lists'} {a = from} {e = ended room answer} fits m in rw p.is at (w.marked p.place p.low p.high),
    )

module _ {names refs rows lists : List ℕ} {used many named mark from room : ℕ} (r : Rows refs rows used many named) (new : Fresh names rows mark) where
  -- the slices are ready for a walk
  pub ready_start : 16384 ≤ length names → from ≤ room → room ≤ length lists → WalkReady names refs rows lists used many mark from room
  ready_start long low high =
      let few = r.few_rows in
      let less = r.few_names in
      record {
        table = rows_named (omega arith) (omega arith) r;
        name_room = long;
        closed = record { marked = λ t k l e f. let h = new.row_marks t (omega arith) in let z : ⊥ = omega arith in absurd z };
        low = low;
        high = high;
      }

  module _ {names' rows' lists' : List ℕ} {answer : Option ℕ} (low : from ≤ room) (high : room ≤ length lists) where
    -- a walk of a term gathers its names
    pub gathers_term : {t : ℕ} → t < many → Walks (Free names refs rows used many t) names refs rows lists names' rows' lists' used many mark from room answer
        → (exclude : List Name) (name : ℕ → Name) → Named exclude name names named
        → Gathers name named (free_top_level_names exclude (terms_of name refs rows used many) t) from room lists' answer
    gathers_term {t} l w exclude name d =
        steps_gathers names lists names' lists' mark from room named low high (fresh_name new) (λ k f. (occurs_named r l f.occurs, f.counts.small))
        d.distinct (term_set name r d t l) w.steps

    -- a walk of a list gathers its names
    pub gathers_list : {a e : ℕ} → References refs used many a e
        → Walks (Among names refs rows used many a e) names refs rows lists names' rows' lists' used many mark from room answer
        → (exclude : List Name) (name : ℕ → Name) → Named exclude name names named
        → Gathers name named (group_names exclude (terms_of name refs rows used many) (terms_of_words (part refs a e))) from room lists' answer
    gathers_list g w exclude name d =
        steps_gathers names lists names' lists' mark from room named low high (fresh_name new)
        (λ k f. (occurs_named r (g.in_table f.place f.low f.high) f.free.occurs, f.free.counts.small)) d.distinct (list_set name r d g)
        w.steps

    -- what a walk leaves in the slices
    pub gathered_of : {P : ℕ → Type 0} → Walks P names refs rows lists names' rows' lists' used many mark from room answer
        → Gathered names rows lists names' rows' lists' mark from room answer
    gathered_of w = record {
      names_same = w.steps.names_same;
      rows_same = w.rows_same;
      lists_same = w.steps.lists_same;
      grows = w.steps.grows;
      fits = w.steps.fits;
      small = (w.steps.listed from (omega arith) (start_listed (fresh_name new))).small;
      name_marks = w.steps.name_marks;
      row_marks = w.row_marks;
      marks = marks_of (fresh_name new) high w.steps;
    }
