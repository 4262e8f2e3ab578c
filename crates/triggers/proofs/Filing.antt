-- Filing: one disjunct after another, with their bounds.
use Prim.Native.Nat.{ℕ, ◌+◌, ◌-◌, ◌≤◌, ◌<◌}
use native.Mathlib.Omega.{arith}
use mathlib.Core.Path.{◌≡◌, refl, sym, ap, ap₂, ◌∙◌}
use mathlib.Core.Bool.{true}
use mathlib.Core.List.{List, [], ◌∷◌, ◌++◌, map}
use lib.ListN.{length, get_or, set, length-append}
use Rattle.model.specs.Lists.{sum, part}
use Rattle.model.specs.Names.{Name, from_list}
use Rattle.model.specs.Summaries.{free_top_level_names, group_names, entries}
use Rattle.model.proofs.PartLaws.{part_nil, part_same, part_split}
use Rattle.terms.specs.Rows.{terms_of_words, terms_of, Rows}
use Rattle.words.specs.Slices.{SameBut}
use Rattle.gather.specs.Sets.{Fresh, Named, Gathers, all_names, no_room as no_names, Gathered, ended}
use Rattle.std.specs.Prelude.{Option, None, Some}
use Rattle.gather.specs.Visits.{Visit, WalksAs}
use Rattle.words.proofs.Slices.{same_self, same_then, same_wider, same_set}
use Rattle.triggers.specs.declared.Filed.{Filed}
use Rattle.triggers.specs.Entries.{filed_sets, disjuncts_of, disjuncts_of_words, filed_end, Files, all_sets, no_room, EntriesFilled, Closes, last, empty, over, Opened}
use Rattle.triggers.specs.Filings.{FilingState, filing, file_set, file_list, FilesAs}
use Rattle.triggers.proofs.Disjuncts.{sets_append, block_sets, block_entries, empty_sets, empty_entries, no_entries, entries_then, entries_append, entries_one}
use Rattle.triggers.proofs.Marked.{named_marked, terms_marked}
use Rattle.gather.proofs.Fresh.{fresh_later, fresh_next}
use Rattle.triggers.proofs.Words.{after, words_over, words_closed, words_then, words_as, words_more, words_count, words_none, list_stays}

-- disjuncts, by the excluded names and the names of the numbers
abbrev pub Sets : Type 0
Sets = List Name → (ℕ → Name) → List (List Name)

-- what filing sets comes to, whatever the names are: their entries, the slices, and every word of these
pub record Comes (names rows lists names' rows' lists' : List ℕ) (named mark at : ℕ) (sets : Sets) (f : FilingState) (count : ℕ) (r : Option Filed) : Type 0 where
  pub files : (exclude : List Name) (name : ℕ → Name) → Named exclude name names named → Files name named (sets exclude name) at lists' r
  pub filled : EntriesFilled names rows lists names' rows' lists' mark at r
  pub filed_as : FilesAs f count names' rows' lists' mark at r

-- ---- one disjunct

-- the free names of a term, by the names of the numbers
abbrev pub term_set : List ℕ → List ℕ → ℕ → ℕ → ℕ → List Name → (ℕ → Name) → List Name
term_set refs rows used many t exclude name = free_top_level_names exclude (terms_of name refs rows used many) t

-- those of the terms that the references from a up to e name
abbrev pub list_set : List ℕ → List ℕ → ℕ → ℕ → ℕ → ℕ → List Name → (ℕ → Name) → List Name
list_set refs rows used many a e exclude name = group_names exclude (terms_of name refs rows used many) (terms_of_words (part refs a e))

-- where the entries of an answer end
answer_end : {n m e k : ℕ} → filed_sets n e ≡ filed_sets m k → e ≡ k
answer_end {n} {m} {e} {k} p =
    let same : ◌≡◌ {A = Filed} (record { sets = n; end = e }) (record { sets = m; end = k }) = cc in
    ap (λ f. f.end) same

-- how many disjuncts an answer has
answer_count : {n m e k : ℕ} → filed_sets n e ≡ filed_sets m k → n ≡ m
answer_count {n} {m} {e} {k} p =
    let same : ◌≡◌ {A = Filed} (record { sets = n; end = e }) (record { sets = m; end = k }) = cc in
    ap (λ f. f.sets) same

-- a full slice is no answer
full_none : {n e : ℕ} → None ≡ filed_sets n e → ⊥
full_none p = let z : ◌≡◌ {A = ℕ} 0 1 = cc in omega arith

-- a set that was gathered and ended is filed as one disjunct
files_one : {name : ℕ → Name} {named at end : ℕ} {s : List Name} {lists lists' : List ℕ} {r : Option Filed} → named ≤ 2048 → 8192 ≤ length lists
    → Gathers name named s at 8192 lists (Some end) → Closes lists lists' at end r → Files name named (s ∷ []) at lists' r
files_one {name} {named} {at} {end} {s} {lists} few long (all_names is count fits small) (last some q) =
    rw q (all_sets (block_sets lists at end named few (omega arith) small some name ∙ ap (◌∷ []) is) refl (omega (arith, entries_one s)) fits
    (block_entries lists at end named few (omega arith) small some))
files_one {name} {named} {at} {end} {s} {lists} few long (all_names is count fits small) (empty e l q) =
    rw q (all_sets (empty_sets name lists at (omega arith) ∙ ap (◌∷ []) (ap (λ ws. from_list (map name ws)) (sym (part_nil lists at end (omega arith))) ∙ is)) refl
    (omega (arith, entries_one s)) (omega arith) (empty_entries named lists at (omega arith)))
files_one {at} {s} few long (all_names is count fits small) (over e l q) = no_room (omega (arith, entries_one s))

-- a set without room has none as a disjunct
files_over : {name : ℕ → Name} {named at : ℕ} {s : List Name} {lists : List ℕ} → Gathers name named s at 8192 lists None
    → Files name named (s ∷ []) at lists None
files_over {s} (no_names p f) = no_room (omega (arith, entries_one s))

module _ {names rows lists names₁ rows₁ lists₁ : List ℕ} {named mark at : ℕ} (s : List Name → (ℕ → Name) → List Name) (less : named ≤ 2048)
    (h : Opened names rows lists mark at) where
  -- a set without room comes to no disjunct
  comes_over : {f : FilingState} → ((exclude : List Name) (name : ℕ → Name) → Named exclude name names named → Gathers name named
      (s exclude name) at 8192 lists₁ None)
      → Gathered names rows lists names₁ rows₁ lists₁ mark at 8192 None → FilesAs f 1 names₁ rows₁ lists₁ mark at None
      → Comes names rows lists names₁ rows₁ lists₁ named mark at (λ exclude name. s exclude name ∷ []) f 1 None
  unfolding ended filed_end
  comes_over g p x = record {
    files = λ exclude name d. files_over (g exclude name d);
    filled = record {
      names_same = p.names_same;
      rows_same = p.rows_same;
      lists_same = p.lists_same;
      low = p.grows;
      high = p.fits;
      few = λ n e z. absurd (full_none z);
      fresh = λ n e z. absurd (full_none z);
    };
    filed_as = x;
  }

  module _ {end : ℕ} (g : (exclude : List Name) (name : ℕ → Name) → Named exclude name names named → Gathers name named (s exclude name) at 8192 lists₁
      (Some end)) (p : Gathered names rows lists names₁ rows₁ lists₁ mark at 8192 (Some end)) where
    -- where a set ends
    set_ends : (at ≤ end) × (end ≤ 8192)
    unfolding ended
    set_ends = (p.grows, p.fits)

    -- the places of its names
    set_same : SameBut at (end - at) lists lists₁
    unfolding ended
    set_same = p.lists_same

    -- the slice stays long
    set_long : 8192 ≤ length lists₁
    set_long = rw set_same.same_length h.high

    -- a set that was gathered and ended comes to one disjunct
    comes_one : {f : FilingState} {r : Option Filed} {lists₂ : List ℕ} → Closes lists₁ lists₂ at end r → FilesAs f 1 names₁ rows₁ lists₂ mark at r
        → Comes names rows lists names₁ rows₁ lists₂ named mark at (λ exclude name. s exclude name ∷ []) f 1 r
    unfolding filed_end
    comes_one (last some q) x = record {
      files = λ exclude name d. files_one less set_long (g exclude name d) (last some q);
      filled = record {
        names_same = p.names_same;
        rows_same = p.rows_same;
        lists_same = rw q (same_then set_same (same_set at (end - at) lists₁ (end - 1) (get_or lists₁ (end - 1) 0 + 4096) (omega arith) (omega arith)));
        low = set_ends.0;
        high = set_ends.1;
        few = λ n e z. let w = answer_end z in let v = answer_count z in omega arith;
        fresh = λ n e z. let w = answer_end z in rw (← w) (fresh_later (mark + 1) (mark + (end - at)) (omega arith) (fresh_next h.fresh p));
      };
      filed_as = x;
    }
    comes_one (empty i l q) x = record {
      files = λ exclude name d. files_one less set_long (g exclude name d) (empty i l q);
      filled = record {
        names_same = p.names_same;
        rows_same = p.rows_same;
        lists_same = rw q (same_then (same_wider at (at + 1 - at) (omega arith) (omega arith) set_same)
            (same_set at (at + 1 - at) lists₁ at 6144 (omega arith) (omega arith)));
        low = omega arith;
        high = omega arith;
        few = λ n e z. let w = answer_end z in let v = answer_count z in omega arith;
        fresh = λ n e z. let w = answer_end z in rw (← w) (fresh_later (mark + 1) (mark + (at + 1 - at)) (omega arith) (fresh_next h.fresh p));
      };
      filed_as = x;
    }
    comes_one (over i l q) x = record {
      files = λ exclude name d. files_one less set_long (g exclude name d) (over i l q);
      filled = record {
        names_same = p.names_same;
        rows_same = p.rows_same;
        lists_same = rw q (same_wider at (8192 - at) (omega arith) (omega arith) set_same);
        low = h.low;
        high = omega arith;
        few = λ n e z. absurd (full_none z);
        fresh = λ n e z. absurd (full_none z);
      };
      filed_as = x;
    }

-- what ending a disjunct asks
pub one_asks : {names rows lists names₁ rows₁ lists₁ : List ℕ} {mark at end : ℕ} {w : Option ℕ} → Opened names rows lists mark at
    → Gathered names rows lists names₁ rows₁ lists₁ mark at 8192 w → w ≡ Some end
    → (at ≤ end) × (end ≤ 8192) × (8192 ≤ length lists₁) × (at < end → get_or lists₁ (end - 1) 0 < 2048)
unfolding ended
one_asks {names} {rows} {lists} {names₁} {rows₁} {lists₁} {mark} {at} {end} h p e =
    let q : Gathered names rows lists names₁ rows₁ lists₁ mark at 8192 (Some end) = rw e at p in
    (q.grows, q.fits, rw q.lists_same.same_length h.high, λ l. q.small (end - 1) (omega arith) (omega arith))

module _ {names rows lists names₁ rows₁ lists₁ : List ℕ} {named mark at : ℕ} {v : Visit} {w : Option ℕ} (s : List Name → (ℕ → Name) → List Name)
    (less : named ≤ 2048) (h : Opened names rows lists mark at)
    (g : (exclude : List Name) (name : ℕ → Name) → Named exclude name names named → Gathers name named (s exclude name) at 8192 lists₁ w)
    (p : Gathered names rows lists names₁ rows₁ lists₁ mark at 8192 w) (x : WalksAs v names rows lists names₁ rows₁ lists₁ mark at w) where
  -- an answer without room
  pub one_over : w ≡ None → Comes names rows lists names₁ rows₁ lists₁ named mark at (λ exclude name. s exclude name ∷ [])
      (file_set (filing names rows lists mark at) v) 1 None
  one_over e = comes_over s less h (λ exclude name d. rw e at (g exclude name d)) (rw e at p) (words_over h x e)

  -- the disjunct that was ended
  pub one_closed : {end : ℕ} {r : Option Filed} {lists₂ : List ℕ} → w ≡ Some end → Closes lists₁ lists₂ at end r
      → Comes names rows lists names₁ rows₁ lists₂ named mark at (λ exclude name. s exclude name ∷ []) (file_set (filing names rows lists mark at) v) 1 r
  one_closed e q = comes_one s less h (λ exclude name d. rw e at (g exclude name d)) (rw e at p) q (words_closed h x e (one_asks h p e).1 q)

-- the last entry is marked
pub close_last : {lists : List ℕ} {at end w : ℕ} → at < end → w ≡ get_or lists (end - 1) 0 → Closes lists (set lists (end - 1) (w + 4096)) at end (filed_sets 1 end)
close_last h e = rw e (last h refl)

-- an empty disjunct takes an entry
pub close_empty : {lists : List ℕ} {at end : ℕ} → at ≤ end → end ≤ at → at < 8192 → Closes lists (set lists at 6144) at end (filed_sets 1 (at + 1))
close_empty h k l = empty (omega arith) l refl

-- or has no room
pub close_over : {lists : List ℕ} {at end : ℕ} → at ≤ end → end ≤ at → 8192 ≤ at → Closes lists lists at end None
close_over h k l = over (omega arith) l refl

-- ---- one after another

-- disjuncts after disjuncts
files_then : {name : ℕ → Name} {named at n m k : ℕ} {s t : List (List Name)} {lists lists' : List ℕ} {r : Option Filed} → 8192 ≤ length lists
    → Files name named s at lists (filed_sets n m) → SameBut m k lists lists' → Files name named t m lists' r → Files name named (s ++ t) at lists' (after n r)
unfolding after
files_then {name} {at = at} {m = m} {s} {t} {lists} {lists'} long (all_sets a b c d f) same (all_sets {e = e} a' b' c' d' f') =
    let more = entries_append s t in
    let l : length lists' ≡ length lists = same.same_length in
    let kept : part lists' at m ≡ part lists at m = part_same lists lists' (m - at) at m refl (omega arith) (omega arith)
    (λ i h. same.same_words i (λ x y. omega arith)) in
    let whole : part lists' at e ≡ part lists at m ++ part lists' m e = part_split lists' (m - at) at m e refl (omega arith) (omega arith) (omega arith)
    ∙ ap (◌++ part lists' m e) kept in
    all_sets (ap (disjuncts_of name) whole ∙ sets_append name (part lists at m) (part lists' m e) f ∙ ap₂ ◌++◌ a a') (ap₂ ◌+◌ b b' ∙ sym (length-append s t))
    (omega arith) d' (rw whole (entries_then (part lists at m) (part lists' m e) f f'))
files_then {s = s} {t = t} long (all_sets a b c d f) same (no_room p) = no_room (omega (arith, entries_append s t))

-- where the entries of a later answer end
after_end : (n : ℕ) (r : Option Filed) → filed_end (after n r) ≡ filed_end r
unfolding after filed_end
after_end n (Some f) = refl
after_end n None = refl

-- the marks after it are below the next
after_fresh : {names rows : List ℕ} (mark at n m : ℕ) (r : Option Filed) → at ≤ m → ((k e : ℕ) → r ≡ filed_sets k e → k + m ≤ e)
    → ((k e : ℕ) → r ≡ filed_sets k e → Fresh names rows (mark + (m - at) + (e - m))) → (k e : ℕ) → after n r ≡ filed_sets k e
    → Fresh names rows (mark + (e - at))
unfolding after
after_fresh mark at n m (Some g) lo few f k e z =
    let w = answer_end z in
    let b = few g.sets g.end refl in
    fresh_later (mark + (m - at) + (g.end - m)) (mark + (e - at)) (omega arith) (f g.sets g.end refl)
after_fresh mark at n m None lo few f k e z = absurd (full_none z)

-- each disjunct takes an entry or more
after_few : (at n m : ℕ) (r : Option Filed) → n + at ≤ m → ((k e : ℕ) → r ≡ filed_sets k e → k + m ≤ e) → (k e : ℕ) → after n r ≡ filed_sets k e → k + at ≤ e
unfolding after
after_few at n m (Some g) lo few k e z =
    let w = answer_end z in
    let v = answer_count z in
    let b = few g.sets g.end refl in
    omega arith
after_few at n m None lo few k e z = absurd (full_none z)

module _ {names rows lists names₁ rows₁ lists₁ : List ℕ} {named mark at count : ℕ} {s : Sets} {f : FilingState} where
  -- filing after filing
  comes_then : {names₂ rows₂ lists₂ : List ℕ} {n m more : ℕ} {r : Option Filed} (t : Sets) (step : FilingState → FilingState) → named ≤ 2048 → 8192 ≤ length lists
      → Comes names rows lists names₁ rows₁ lists₁ named mark at s f count (filed_sets n m)
      → Comes names₁ rows₁ lists₁ names₂ rows₂ lists₂ named (mark + (m - at)) m t (step (filing names₁ rows₁ lists₁ (mark + (m - at)) m)) more r
      → Comes names rows lists names₂ rows₂ lists₂ named mark at (λ exclude name. s exclude name ++ t exclude name) (step f) (count + more) (after n r)
  unfolding filed_end
  comes_then {n} {m} {r} t step less long c d =
      let lo : at ≤ m = c.filled.low in
      let li = d.filled.low in
      let q = after_end n r in
      record {
        files = λ exclude name k. files_then (rw c.filled.lists_same.same_length long) (c.files exclude name k) d.filled.lists_same
            (d.files exclude name (named_marked c.filled.names_same less k));
        filled = record {
          names_same = same_then c.filled.names_same d.filled.names_same;
          rows_same = same_then c.filled.rows_same d.filled.rows_same;
          lists_same = rw q (same_then (same_wider at (filed_end r - at) (omega arith) (omega arith) c.filled.lists_same)
              (same_wider at (filed_end r - at) lo (omega arith) d.filled.lists_same));
          low = rw q (omega arith);
          high = rw q d.filled.high;
          few = after_few at n m r (c.filled.few n m refl) d.filled.few;
          fresh = after_fresh mark at n m r lo d.filled.few d.filled.fresh;
        };
        filed_as = words_then step lo li c.filed_as d.filed_as;
      }

  -- the same disjuncts, said in another way
  pub comes_as : {t : Sets} {g : FilingState} {as_many : ℕ} {r : Option Filed} → ((exclude : List Name) (name : ℕ → Name) → s exclude name ≡ t exclude name) → f ≡ g
      → count ≡ as_many
      → Comes names rows lists names₁ rows₁ lists₁ named mark at s f count r → Comes names rows lists names₁ rows₁ lists₁ named mark at t g as_many r
  comes_as q p n c = record {
    files = λ exclude name d. rw (q exclude name) at (c.files exclude name d);
    filled = c.filled;
    filed_as = words_as p n c.filed_as;
  }

  -- the same answer
  pub comes_is : {r r' : Option Filed} → r ≡ r' → Comes names rows lists names₁ rows₁ lists₁ named mark at s f count r
      → Comes names rows lists names₁ rows₁ lists₁ named mark at s f count r'
  comes_is e c = rw e at c

  -- where there is no room for disjuncts there is none for more
  pub comes_more : {t : Sets} {g : FilingState} {as_many : ℕ} → ((exclude : List Name) (name : ℕ → Name) → entries (s exclude name) ≤ entries (t exclude name))
      → (f.full ≡ true → g ≡ f)
      → Comes names rows lists names₁ rows₁ lists₁ named mark at s f count None → Comes names rows lists names₁ rows₁ lists₁ named mark at t g as_many None
  comes_more {t} q p c = record {
    files = λ exclude name d. full (q exclude name) (c.files exclude name d);
    filled = c.filled;
    filed_as = words_more p
        c.filed_as;
  }
    where
      full : {name : ℕ → Name} {u v : List (List Name)} → entries u ≤ entries v → Files name named u at lists₁ None → Files name named v at lists₁ None
      full h (no_room p) = no_room (omega arith)

-- no disjunct is filed
files_none : (name : ℕ → Name) (named at : ℕ) (lists : List ℕ) → at ≤ 8192 → Files name named [] at lists (filed_sets 0 at)
unfolding disjuncts_of disjuncts_of_words entries sum
files_none name named at lists h = all_sets {n = 0} {e = at} (rw (part_nil lists at at (omega arith))) refl (omega arith) h
    (rw (part_nil lists at at (omega arith)) (no_entries named))

-- no disjunct comes to none
pub comes_none : {names rows lists : List ℕ} {named mark at : ℕ} → Opened names rows lists mark at
    → Comes names rows lists names rows lists named mark at (λ exclude name. []) (filing names rows lists mark at) 0 (filed_sets 0 at)
unfolding filed_end
comes_none {names} {rows} {lists} {named} {mark} {at} h = record {
  files = λ exclude name d. files_none name named at lists h.low;
  filled = record {
    names_same = same_self 8192 2048 names;
    rows_same = same_self 12288 4096 rows;
    lists_same = same_self at (at - at) lists;
    low = omega arith;
    high = h.low;
    few = λ n e z. let w = answer_end z in let v = answer_count z in omega arith;
    fresh = λ n e z. let w = answer_end z in fresh_later mark (mark + (e - at)) (omega arith) h.fresh;
  };
  filed_as = words_none;
}

-- the slices after filing are ready for more
pub opened_then : {names rows lists names₁ rows₁ lists₁ : List ℕ} {named mark at count n m : ℕ} {s : Sets} {f : FilingState} → Opened names rows lists mark at
    → Comes names rows lists names₁ rows₁ lists₁ named mark at s f count (filed_sets n m) → Opened names₁ rows₁ lists₁ (mark + (m - at)) m
unfolding filed_end
opened_then {n = n} {m = m} h c = record {
  name_room = rw c.filled.names_same.same_length h.name_room;
  fresh = c.filled.fresh n m refl;
  low = c.filled.high;
  high = rw c.filled.lists_same.same_length h.high;
  few_marks = omega (arith, h.few_marks, h.low, c.filled.low, c.filled.high);
}

-- where the entries so far end
pub comes_ends : {names rows lists names₁ rows₁ lists₁ : List ℕ} {named mark at count n m : ℕ} {s : Sets} {f : FilingState}
    → Comes names rows lists names₁ rows₁ lists₁ named mark at s f count (filed_sets n m) → (at ≤ m) × (m ≤ 8192) × (n + at ≤ m)
unfolding filed_end
comes_ends {n = n} {m = m} c = (c.filled.low, c.filled.high, c.filled.few n m refl)

-- an answer after so many, without room
pub after_full : (n : ℕ) {r : Option Filed} → r ≡ None → after n r ≡ None
unfolding after
after_full n e = rw e

-- an answer after so many
pub after_sets : (n k e j : ℕ) {r : Option Filed} → r ≡ filed_sets k e → n + k ≡ j → after n r ≡ filed_sets j e
unfolding after
after_sets n k e j p q = rw (p, q)

-- filing after filing, said in another way
pub comes_next : {names rows lists names₁ rows₁ lists₁ names₂ rows₂ lists₂ : List ℕ} {named mark at count n m more as_many : ℕ} {f g : FilingState} {r : Option Filed}
    (s t u : Sets) (step : FilingState → FilingState) → named ≤ 2048 → 8192 ≤ length lists
    → ((exclude : List Name) (name : ℕ → Name) → s exclude name ++ t exclude name ≡ u exclude name) → step f ≡ g → count + more ≡ as_many
    → Comes names rows lists names₁ rows₁ lists₁ named mark at s f count (filed_sets n m)
    → Comes names₁ rows₁ lists₁ names₂ rows₂ lists₂ named (mark + (m - at)) m t (step (filing names₁ rows₁ lists₁ (mark + (m - at)) m)) more r
    → Comes names rows lists names₂ rows₂ lists₂ named mark at u g as_many (after n r)
comes_next s t u step few long q p i c d = comes_as q p i (comes_then t step few long c d)

-- ---- the promises of the functions

-- they hold of what filing comes to
pub posts : {names rows lists names₁ rows₁ lists₁ : List ℕ} {named mark at count : ℕ} {s : Sets} {f : FilingState} {r : Option Filed}
    → Comes names rows lists names₁ rows₁ lists₁ named mark at s f count r
    → ((exclude : List Name) (name : ℕ → Name) → Named exclude name names named → Files name named (s exclude name) at lists₁ r)
    × (EntriesFilled names rows lists names₁ rows₁ lists₁ mark at r × FilesAs f count names₁ rows₁ lists₁ mark at r)
posts c = (c.files, (c.filled, c.filed_as))

-- and say what it comes to
pub comes_of : {names rows lists names₁ rows₁ lists₁ : List ℕ} {named mark at count : ℕ} {f : FilingState} {r : Option Filed} (s : Sets)
    → ((exclude : List Name) (name : ℕ → Name) → Named exclude name names named → Files name named (s exclude name) at lists₁ r)
    × (EntriesFilled names rows lists names₁ rows₁ lists₁ mark at r × FilesAs f count names₁ rows₁ lists₁ mark at r)
    → Comes names rows lists names₁ rows₁ lists₁ named mark at s f count r
comes_of s p = record { files = p.0; filled = p.1.0; filed_as = p.1.1 }

-- ---- two disjuncts

-- the disjuncts of one term, by the names of the numbers
abbrev pub term_sets : List ℕ → List ℕ → ℕ → ℕ → ℕ → Sets
term_sets refs rows used many t exclude name = term_set refs rows used many t exclude name ∷ []

-- the first has no room
pub two_first : {names rows lists names₁ rows₁ lists₁ refs : List ℕ} {used many named mark at count : ℕ} {f : FilingState} {r : Option Filed} (t u : ℕ)
    → Rows refs rows used many named → r ≡ None
    → Comes names rows lists names₁ rows₁ lists₁ named mark at (term_sets refs rows used many t) f count r
    → Comes names rows lists names₁ rows₁ lists₁ named mark at (λ exclude name. term_set refs rows used many t exclude name ∷ term_set refs rows used many u exclude name ∷ []) (file_list refs used many f (u ∷ [])) 2 None
two_first {rows = rows} {refs = refs} {used} {many} {f = f} t u h e c = comes_more
    (λ exclude name. omega (arith, entries_append (term_set refs rows used many t exclude name ∷ []) (term_set refs rows used many u exclude name ∷ [])))
    (list_stays refs used many f (u ∷ [])) (comes_is e c)

module _ {names rows lists names₁ rows₁ lists₁ names₂ rows₂ lists₂ refs : List ℕ} {used many named mark at n m : ℕ} {f : FilingState} {r : Option Filed} (t u : ℕ)
    (h : Rows refs rows used many named) (long : 8192 ≤ length lists)
    (c : Comes names rows lists names₁ rows₁ lists₁ named mark at (term_sets refs rows used many t) f 1 (filed_sets n m))
    (d : Comes names₁ rows₁ lists₁ names₂ rows₂ lists₂ named (mark + (m - at)) m (term_sets refs rows₁ used many u)
    (file_list refs used many (filing names₁ rows₁ lists₁ (mark + (m - at)) m) (u ∷ [])) 1 r) where
  -- both, with the answer of the second
  two_then : Comes names rows lists names₂ rows₂ lists₂ named mark at
      (λ exclude name. term_set refs rows used many t exclude name ∷ term_set refs rows used many u exclude name ∷ []) (file_list refs used many f (u ∷ [])) 2
      (after n r)
  two_then = comes_next _ _ _ (λ f. file_list refs used many f (u ∷ [])) h.few_names long
      (λ exclude name. ap (λ ts. term_set refs rows used many t exclude name ∷ free_top_level_names exclude ts u ∷ [])
      (terms_marked name c.filled.rows_same h)) refl refl c d

  -- the second has no room
  pub two_full : r ≡ None → Comes names rows lists names₂ rows₂ lists₂ named mark at
      (λ exclude name. term_set refs rows used many t exclude name ∷ term_set refs rows used many u exclude name ∷ [])
      (file_list refs used many f (u ∷ [])) 2 None
  two_full e = comes_is (after_full n e) two_then

  -- both are filed
  pub two_both : {k e : ℕ} → r ≡ filed_sets k e → Comes names rows lists names₂ rows₂ lists₂ named mark at
      (λ exclude name. term_set refs rows used many t exclude name ∷ term_set refs rows used many u exclude name ∷ []) (file_list refs used many f (u ∷ [])) 2
      (filed_sets 2 e)
  two_both {k} {e} q =
      let x = words_count refl c.filed_as in
      let y = words_count q d.filed_as in
      comes_is (after_sets n k e 2 q (omega arith)) two_then
