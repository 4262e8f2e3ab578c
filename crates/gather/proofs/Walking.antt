-- What the walks rest on: a change of marks leaves the table, and sets of names come one after the other.
use Prim.Native.Nat.{ℕ, zero, suc, ◌+◌, ◌-◌, ◌*◌, ◌%◌, max, ◌≤◌, ◌<◌}
use native.Mathlib.Omega.{arith}
use mathlib.Core.Path.{◌≡◌, refl, sym, ap, ◌∙◌}
use mathlib.Core.Bool.{Bool, true, false, cond}
use mathlib.Core.Logic.{◌⊎◌, inl, inr, ⊎_elim}
use mathlib.Core.List.{List}
use lib.ListN.{length, get_or, set}
use lib.Seq.{get_or-set_same, get_or-set_other}
use lib.Dec.{T, ltb}
use borrow.Author.Tests.{ltb-true}
use Rattle.std.specs.Prelude.{Option, None as none, Some as some}
use Rattle.terms.specs.Rows.{row_kind, row_head, row_start, row_extra, row_end, has_body, bare_of, Rows}
use Rattle.words.specs.Slices.{SameBut}
use Rattle.names.specs.Table.{is_excluded}
use Rattle.names.proofs.Excluded.{excluded_kept}
use Rattle.gather.specs.Sets.{row_mark, name_mark, ended}
use Rattle.gather.specs.Walks.{Occurs, own, under, NameCounts, Own, Free, Among, Heads, MarksClosed, WalkReady, References, Comes, whole, Steps, Walks}
use Rattle.terms.proofs.Laws.{equal}
use Rattle.words.proofs.Slices.{same_self, same_back, same_then, same_set}
use Rattle.gather.proofs.Steps.{steps_stay, steps_kept, steps_as, steps_full, steps_then}

-- ---- a change of marks

module _ {rows rows' : List ℕ} (s : SameBut 12288 4096 rows rows') where
  -- the words before the marks stay
  pub word_same : (i : ℕ) → i < 12288 → get_or rows' i 0 ≡ get_or rows i 0
  word_same i h = s.same_words i (λ a b. omega arith)

  -- a row's kind stays
  pub kind_same : (t : ℕ) → t < 4096 → row_kind rows' t ≡ row_kind rows t
  unfolding row_kind
  kind_same t h = ap (◌% 8) (word_same t (omega arith))

  -- a row's head stays
  pub head_same : (t : ℕ) → t < 4096 → row_head rows' t ≡ row_head rows t
  unfolding row_head
  head_same t h = rw (word_same t (omega arith))

  -- where a row's references start stays
  pub start_same : (t : ℕ) → t < 4096 → row_start rows' t ≡ row_start rows t
  start_same t h = word_same (4096 + t) (omega arith)

  -- a row's groups or the term under its labels stay
  pub extra_same : (t : ℕ) → t < 4096 → row_extra rows' t ≡ row_extra rows t
  extra_same t h = word_same (8192 + t) (omega arith)

  -- where a row's references end stays
  pub end_same : (used many t : ℕ) → many ≤ 4096 → t < many → row_end rows' used many t ≡ row_end rows used many t
  unfolding row_end
  end_same used many t h l = go (ltb (t + 1) many) refl
    where
      go : (b : Bool) → ltb (t + 1) many ≡ b → cond b (row_start rows' (t + 1)) used ≡ cond b (row_start rows (t + 1)) used
      go true e = let m = ltb-true (t + 1) many e in start_same (t + 1) (omega arith)
      go false e = refl

  -- the term under a run of labels stays
  pub bare_same : (t : ℕ) → t < 4096 → bare_of rows' t ≡ bare_of rows t
  unfolding bare_of
  bare_same t h = rw (kind_same t h, extra_same t h)

-- a label has a body
label_bodied : (k : ℕ) → k ≡ 7 → T (has_body k)
unfolding has_body
label_bodied k e = rw e tt

module _ {refs rows rows' : List ℕ} {used many named : ℕ} where
  -- the table is one with other marks too
  pub rows_marked : SameBut 12288 4096 rows rows' → Rows refs rows used many named → Rows refs rows' used many named
  rows_marked s r =
      let few = r.few_rows in
      record {
        ref_room = r.ref_room;
        row_room = rw s.same_length r.row_room;
        few_references = r.few_references;
        few_rows = r.few_rows;
        few_names = r.few_names;
        in_order = λ t l. rw (start_same s t (omega arith), end_same s used many t few l) (r.in_order t l);
        in_use = λ t l. rw (end_same s used many t few l) (r.in_use t l);
        lower = λ t i l a b. r.lower t i l (rw (start_same s t (omega arith)) at a) (rw (end_same s used many t few l) at b);
        headed = λ t l h. rw (head_same s t (omega arith)) (r.headed t l (rw (kind_same s t (omega arith)) at h));
        bodied = λ t l h. rw (start_same s t (omega arith), end_same s used many t few l) (r.bodied t l (rw (kind_same s t (omega arith)) at h));
        labelled = λ t l h.
            let k : row_kind rows t ≡ 7 = sym (kind_same s t (omega arith)) ∙ h in
            let f : row_start rows t < row_end rows used many t = r.bodied t l (label_bodied (row_kind rows t) k) in
            let u : get_or refs (row_start rows t) 0 % 4096 < t = r.lower t (row_start rows t) l (omega arith) f in
            extra_same s t (omega arith) ∙ r.labelled t l k ∙ sym
            (ap (λ i. bare_of rows' (get_or refs i 0 % 4096)) (start_same s t (omega arith))
            ∙ bare_same s (get_or refs (row_start rows t) 0 % 4096) (omega arith));
        childless = λ t l h. rw (start_same s t (omega arith), end_same s used many t few l) (r.childless t l (rw (kind_same s t (omega arith)) at h));
        single = λ t l h. rw (start_same s t (omega arith), end_same s used many t few l) (r.single t l (rw (kind_same s t (omega arith)) at h));
        grouped = λ t i l h a b. rw (extra_same s t (omega arith))
            (r.grouped t i l (rw (kind_same s t (omega arith)) at h) (rw (start_same s t (omega arith)) at a) (rw (end_same s used many t few l) at b));
        rising = λ t i l h a b. r.rising t i l (rw (kind_same s t (omega arith)) at h) (rw (start_same s t (omega arith)) at a)
            (rw (end_same s used many t few l) at b);
      }

  -- a name that occurs does so with other marks too
  pub occurs_same : SameBut 12288 4096 rows rows' → Rows refs rows used many named → {t k : ℕ} → t < many → Occurs refs rows used many t k
      → Occurs refs rows' used many t k
  occurs_same s r l (own {t} h e) =
      let few = r.few_rows in
      own {t = t} (rw (kind_same s t (omega arith)) h) (head_same s t (omega arith) ∙ e)
  occurs_same s r l (under {t} i a b o) =
      let few = r.few_rows in
      let d = r.lower t i l a b in
      under {t = t} i (rw (start_same s t (omega arith)) a) (rw (end_same s used many t few l) b) (occurs_same s r (omega arith) o)

-- whether a name is excluded stays with other marks
pub excluded_same : {names names' : List ℕ} → SameBut 8192 2048 names names' → (n : ℕ) → n < 2048 → is_excluded names' n ≡ is_excluded names n
excluded_same {names} {names'} s = excluded_kept names names' (λ i h. s.same_words i (λ a b. omega arith))

-- a name that counts does so with other marks too
pub counted_same : {names names' : List ℕ} {k : ℕ} → SameBut 8192 2048 names names' → NameCounts names k → NameCounts names' k
counted_same {k} s c = record { small = c.small; counted = excluded_same s k c.small ∙ c.counted }

module _ {names names' refs rows rows' : List ℕ} {used many named : ℕ} (n : SameBut 8192 2048 names names') (s : SameBut 12288 4096 rows rows')
    (r : Rows refs rows used many named) where
  -- a free name is free with other marks too
  pub free_same : {t k : ℕ} → t < many → Free names refs rows used many t k → Free names' refs rows' used many t k
  free_same l f = record { occurs = occurs_same s r l f.occurs; counts = counted_same n f.counts }

-- ---- walks

-- the references of a row
pub references_of : {refs rows : List ℕ} {used many named t a e : ℕ} → Rows refs rows used many named → t < many → a ≡ row_start rows t
    → e ≡ row_end rows used many t → References refs used many a e
references_of {t} r l p q = rw (p, q) (record { in_order = r.in_order t l; in_use = r.in_use t l; in_table = λ i a b. let d = r.lower t i l a b in omega arith })

-- a longer count of marks leaves the marked terms closed
closed_more : {names names' refs rows : List ℕ} {used many mark : ℕ} → Rows refs rows used many 2048 → SameBut 8192 2048 names names'
    → ((k : ℕ) → k < 2048 → name_mark names k ≡ mark → name_mark names' k ≡ mark)
    → MarksClosed names refs rows used many mark → MarksClosed names' refs rows used many mark
closed_more {rows} r s kept c = record {
  marked = λ t k l e f. kept k f.counts.small (c.marked t k l e (free_same (same_back s) (same_self 12288 4096 rows) r l f));
}

-- a change of names alone is a walk
pub walks_names : {P : ℕ → Type 0} {names refs rows lists names' lists' : List ℕ} {used many mark count room : ℕ} {r : Option ℕ}
    → WalkReady names refs rows lists used many mark count room → Steps P names lists names' lists' mark count room r
    → Walks P names refs rows lists names' rows lists' used many mark count room r
walks_names {rows} h s = record {
  steps = s;
  rows_same = same_self 12288 4096 rows;
  row_marks = λ t l. inr refl;
  closed = closed_more h.table s.names_same (steps_kept s) h.closed;
}

-- a term with the mark adds nothing
pub walks_there : {names refs rows lists : List ℕ} {used many mark count room t : ℕ} → WalkReady names refs rows lists used many mark count room → t < many
    → row_mark rows t ≡ mark
    → Walks (Free names refs rows used many t) names refs rows lists names rows lists used many mark count room (some count)
walks_there {t} h l e = walks_names h (steps_stay h.low (λ k f. h.closed.marked t k l e f))

-- no term adds nothing
pub walks_none : {names refs rows lists : List ℕ} {used many mark count room a : ℕ} → WalkReady names refs rows lists used many mark count room
    → Walks (Among names refs rows used many a a) names refs rows lists names rows lists used many mark count room (some count)
walks_none h = walks_names h (steps_stay h.low (λ k m. let l = m.low in let g = m.high in omega arith))

-- the slices after a walk are ready for another
pub ready_then : {P : ℕ → Type 0} {names refs rows lists names' rows' lists' : List ℕ} {used many mark count room n : ℕ}
    → WalkReady names refs rows lists used many mark count room → Walks P names refs rows lists names' rows' lists' used many mark count room (some n)
    → WalkReady names' refs rows' lists' used many mark n room
unfolding ended
ready_then h w = record {
  table = rows_marked w.rows_same h.table;
  name_room = rw w.steps.names_same.same_length h.name_room;
  closed = w.closed;
  low = w.steps.fits;
  high = rw w.steps.lists_same.same_length h.high;
}

module _ {P Q : ℕ → Type 0} {names refs rows lists names' rows' lists' : List ℕ} {used many mark count room : ℕ} where
  -- where there is no room for a set there is none for a larger one
  pub walks_full : ((k : ℕ) → P k → Q k) → Walks P names refs rows lists names' rows' lists' used many mark count room none
      → Walks Q names refs rows lists names' rows' lists' used many mark count room none
  walks_full f w = record { steps = steps_full f w.steps; rows_same = w.rows_same; row_marks = w.row_marks; closed = w.closed }

  -- the same of a set with the same names
  pub walks_as : {r : Option ℕ} → ((k : ℕ) → P k → Q k) → ((k : ℕ) → Q k → P k) → Walks P names refs rows lists names' rows' lists' used many mark count room r
      → Walks Q names refs rows lists names' rows' lists' used many mark count room r
  walks_as f g w = record { steps = steps_as f g w.steps; rows_same = w.rows_same; row_marks = w.row_marks; closed = w.closed }

  -- one walk after another
  pub walks_then : {names'' rows'' lists'' : List ℕ} {n : ℕ} {r : Option ℕ} → ((k : ℕ) → P k → k < 2048)
      → Walks P names refs rows lists names' rows' lists' used many mark count room (some n)
      → Walks Q names' refs rows' lists' names'' rows'' lists'' used many mark n room r
      → Walks (λ k. P k ⊎ Q k) names refs rows lists names'' rows'' lists'' used many mark count room r
  walks_then b v w = record {
    steps = steps_then b v.steps w.steps;
    rows_same = same_then v.rows_same w.rows_same;
    row_marks = λ t l. ⊎_elim inl (λ e. ⊎_elim (λ f. inl (e ∙ f)) (λ f. inr (e ∙ f)) (v.row_marks t l)) (w.row_marks t l);
    closed = w.closed;
  }

-- the marks of a walk's names that is whole
comes_whole : {P : ℕ → Type 0} {names : List ℕ} {mark n : ℕ} → Comes P names mark (some n) → (k : ℕ) → P k → name_mark names k ≡ mark
comes_whole (whole a) = a

-- the terms up to one place and the term there are those up to the next
pub walks_next : {names refs rows lists names' rows' lists' names'' rows'' lists'' : List ℕ} {used many mark count room n a e i t : ℕ} {r : Option ℕ}
    → WalkReady names refs rows lists used many mark count room → References refs used many a e → a ≤ i → i < e → t ≡ get_or refs i 0 % 4096
    → Walks (Among names refs rows used many a i) names refs rows lists names' rows' lists' used many mark count room (some n)
    → Walks (Free names' refs rows' used many t) names' refs rows' lists' names'' rows'' lists'' used many mark n room r
    → Walks (Among names refs rows used many a (i + 1)) names refs rows lists names'' rows'' lists'' used many mark count room r
walks_next {names} {refs} {rows} {names'} {rows'} {used} {many} {a} {e} {i} {t} h g low high is v w =
    walks_as f b (walks_then (λ k m. m.free.counts.small) v w)
  where
    here : t < many
    here = rw is (g.in_table i low high)

    n : SameBut 8192 2048 names names'
    n = v.steps.names_same

    s : SameBut 12288 4096 rows rows'
    s = v.rows_same

    f : (k : ℕ) → Among names refs rows used many a i k ⊎ Free names' refs rows' used many t k → Among names refs rows used many a (i + 1) k
    f k (inl m) = let l = m.high in record { place = m.place; low = m.low; high = omega arith; free = m.free }
    f k (inr m) = record { place = i; low = low; high = omega arith; free = rw is at (free_same (same_back n) (same_back s) (rows_marked s h.table) here m) }

    b : (k : ℕ) → Among names refs rows used many a (i + 1) k → Among names refs rows used many a i k ⊎ Free names' refs rows' used many t k
    b k m = ⊎_elim
        (λ p. inr (rw is (free_same n s h.table (g.in_table i low high) (rw p at m.free))))
        (λ p. let l = m.high in inl (record { place = m.place; low = m.low; high = omega arith; free = m.free }))
        (equal m.place i)

-- the head of a term and the terms that it names are the term
pub walks_term : {names refs rows lists names' lists' names'' rows'' lists'' : List ℕ} {used many mark count room n t a e : ℕ} {r : Option ℕ}
    → WalkReady names refs rows lists used many mark count room → a ≡ row_start rows t → e ≡ row_end rows used many t
    → Steps (Own names rows t) names lists names' lists' mark count room (some n)
    → Walks (Among names' refs rows used many a e) names' refs rows lists' names'' rows'' lists'' used many mark n room r
    → Walks (Free names refs rows used many t) names refs rows lists names'' rows'' lists'' used many mark count room r
walks_term {names} {refs} {rows} {names'} {used} {many} {t} {a} {e} h p q v w =
    walks_as f b (walks_then (λ k m. m.counts.small) (walks_names h v) w)
  where
    n : SameBut 8192 2048 names names'
    n = v.names_same

    f : (k : ℕ) → Own names rows t k ⊎ Among names' refs rows used many a e k → Free names refs rows used many t k
    f k (inl m) = record { occurs = own {t = t} m.headed m.is; counts = m.counts }
    f k (inr m) = record {
      occurs = under {t = t} m.place (rw (← p) m.low) (rw (← q) m.high) m.free.occurs;
      counts = counted_same (same_back n)
          m.free.counts;
    }

    split : {k : ℕ} → Occurs refs rows used many t k → NameCounts names k → Own names rows t k ⊎ Among names' refs rows used many a e k
    split (own x y) c = inl (record { headed = x; is = y; counts = c })
    split (under i x y o) c = inr (record { place = i; low = rw p x; high = rw q y; free = record { occurs = o; counts = counted_same n c } })

    b : (k : ℕ) → Free names refs rows used many t k → Own names rows t k ⊎ Among names' refs rows used many a e k
    b k m = split m.occurs m.counts

-- where there is no room for a head there is none for its term's names
pub walks_head_full : {names refs rows lists names' lists' : List ℕ} {used many mark count room t : ℕ}
    → WalkReady names refs rows lists used many mark count room → Steps (Own names rows t) names lists names' lists' mark count room none
    → Walks (Free names refs rows used many t) names refs rows lists names' rows lists' used many mark count room none
walks_head_full {t} h v = walks_names h (steps_full (λ k m. record { occurs = own {t = t} m.headed m.is; counts = m.counts }) v)

-- a term is marked once its names are
pub walks_marked : {names refs rows lists names' rows' lists' : List ℕ} {used many mark count room n t : ℕ}
    → WalkReady names refs rows lists used many mark count room → t < many
    → Walks (Free names refs rows used many t) names refs rows lists names' rows' lists' used many mark count room (some n)
    → Walks (Free names refs rows used many t) names refs rows lists names' (set rows' (12288 + t) mark) lists' used many mark count room (some n)
walks_marked {names} {refs} {rows} {names'} {rows'} {used} {many} {mark} {t} h l w = record {
  steps = w.steps;
  rows_same = same_then w.rows_same s;
  row_marks = λ u k. ⊎_elim (λ e. inl (rw e here)) (λ d. ⊎_elim (λ e. inl (other u d ∙ e)) (λ e. inr (other u d ∙ e)) (w.row_marks u k)) (equal u t);
  closed = record {
    marked = λ u k p e f. ⊎_elim (λ d. comes_whole w.steps.comes k (back (rw d at f)))
        (λ d. w.closed.marked u k p (sym (other u d) ∙ e) (free_same (same_self 8192 2048 names') (same_back s) table'' p f)) (equal u t);
  };
}
  where
    few : many ≤ 4096
    few = h.table.few_rows

    room : 16384 ≤ length rows
    room = h.table.row_room

    s : SameBut 12288 4096 rows' (set rows' (12288 + t) mark)
    s = same_set 12288 4096 rows' (12288 + t) mark (omega arith) (omega arith)

    table'' : Rows refs (set rows' (12288 + t) mark) used many 2048
    table'' = rows_marked (same_then w.rows_same s) h.table

    here : row_mark (set rows' (12288 + t) mark) t ≡ mark
    here = get_or-set_same rows' (12288 + t) mark 0 (omega (arith, w.rows_same.same_length))

    other : (u : ℕ) → (u ≡ t → ⊥) → row_mark (set rows' (12288 + t) mark) u ≡ row_mark rows' u
    other u d = get_or-set_other rows' (12288 + t) (12288 + u) mark 0 (λ e. d (omega arith))

    back : {k : ℕ} → Free names' refs (set rows' (12288 + t) mark) used many t k → Free names refs rows used many t k
    back f = free_same (same_back w.steps.names_same) (same_back (same_then w.rows_same s)) table'' l f

-- what adding the head of a term asks
pub heads_of : {names refs rows lists : List ℕ} {used many mark count room t : ℕ} → WalkReady names refs rows lists used many mark count room → t < many
    → Heads names rows lists t count room
heads_of {t} h l =
    let few = h.table.few_rows in
    record {
      name_room = h.name_room;
      row_room = h.table.row_room;
      is_row = omega arith;
      head_small = λ k. h.table.headed t l k;
      low = h.low;
      high = h.high;
    }

-- ---- the measure

-- one more than the greatest of the terms that n references from a place on name
unfoldable pub top : List ℕ → ℕ → ℕ → ℕ
top refs a zero = 0
top refs a (suc n) = max (top refs a n) (get_or refs (a + n) 0 % 4096 + 1)

-- each of these terms is below it
top_above : (refs : List ℕ) (a n i : ℕ) → a ≤ i → i < a + n → get_or refs i 0 % 4096 < top refs a n
unfolding top
top_above refs a zero i h l = omega arith
top_above refs a (suc n) i h l = ⊎_elim (λ e. rw e (omega arith)) (λ e. omega (arith, top_above refs a n i h (omega arith))) (equal i (a + n))

-- and it is no more than a number above them all
top_below : (refs : List ℕ) (a n t : ℕ) → ((i : ℕ) → a ≤ i → i < a + n → get_or refs i 0 % 4096 < t) → top refs a n ≤ t
unfolding top
top_below refs a zero t h = omega arith
top_below refs a (suc n) t h = omega (arith, h (a + n) (omega arith) (omega arith), top_below refs a n t (λ i b l. h i b (omega arith)))

-- a term of a list is below the list
pub list_falls : (refs : List ℕ) {a e i t m : ℕ} → a ≤ i → i < e → t ≡ get_or refs i 0 % 4096 → 2 * top refs a (e - a) ≡ m → 2 * t + 1 < m
list_falls refs {a} {e} {i} h l is q = omega (arith, top_above refs a (e - a) i h (omega arith))

-- the list of a term is below the term
pub term_falls : {refs rows : List ℕ} {used many named t m a e : ℕ} → Rows refs rows used many named → t < many → a ≡ row_start rows t
    → e ≡ row_end rows used many t → 2 * t + 1 ≡ m → 2 * top refs a (e - a) < m
term_falls {refs} {rows} {used} {many} {t} {a} {e} r l p q w =
    let o = r.in_order t l in
    omega (arith, top_below refs a (e - a) t (λ i b d. r.lower t i l (omega arith) (omega arith)))

-- ---- what the proofs of the walks cite

-- a term of a list is in the table
pub in_table_at : {refs : List ℕ} {used many a e i t : ℕ} → References refs used many a e → a ≤ i → i < e → t ≡ get_or refs i 0 % 4096 → t < many
in_table_at {i} g l h is = rw is (g.in_table i l h)

-- an answer that was taken apart
pub walks_is : {P : ℕ → Type 0} {names refs rows lists names' rows' lists' : List ℕ} {used many mark count room : ℕ} {r r' : Option ℕ}
    → r ≡ r' → Walks P names refs rows lists names' rows' lists' used many mark count room r
    → Walks P names refs rows lists names' rows' lists' used many mark count room r'
walks_is e w = rw e at w

-- the same of a step
pub steps_is : {P : ℕ → Type 0} {names lists names' lists' : List ℕ} {mark count room : ℕ} {r r' : Option ℕ} → r ≡ r'
    → Steps P names lists names' lists' mark count room r → Steps P names lists names' lists' mark count room r'
steps_is e w = rw e at w

-- where there is no room for the terms up to a place there is none for the list's
pub walks_stop : {names refs rows lists names' rows' lists' : List ℕ} {used many mark count room a i e : ℕ} → i < e
    → Walks (Among names refs rows used many a (i + 1)) names refs rows lists names' rows' lists' used many mark count room none
    → Walks (Among names refs rows used many a e) names refs rows lists names' rows' lists' used many mark count room none
walks_stop l w = walks_full (λ k m. let h = m.high in record { place = m.place; low = m.low; high = omega arith; free = m.free }) w

-- the terms up to the end are the list's
pub walks_end : {names refs rows lists names' rows' lists' : List ℕ} {used many mark count room a i e : ℕ} {r : Option ℕ} → i ≤ e → e ≤ i
    → Walks (Among names refs rows used many a i) names refs rows lists names' rows' lists' used many mark count room r
    → Walks (Among names refs rows used many a e) names refs rows lists names' rows' lists' used many mark count room r
walks_end {i} {e} l h w =
    let q : i ≡ e = omega arith in
    rw q at w
