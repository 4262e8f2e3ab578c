-- Filed disjuncts as a kind, whatever the names of the numbers are.
use Prim.Native.Nat.{ℕ, ◌+◌, ◌-◌, ◌%◌, ◌≤◌, ◌<◌}
use native.Mathlib.Omega.{arith}
use mathlib.Core.Path.{◌≡◌, refl, sym, ap, ◌∙◌}
use mathlib.Core.Bool.{Bool, true, false}
use mathlib.Core.List.{List, []}
use lib.ListN.{get_or}
use borrow.Author.Tests.{not-true, not-false}
use Rattle.model.specs.Lists.{collect, sum, part}
use Rattle.model.specs.Names.{Name, mem}
use Rattle.model.specs.Summaries.{Kinded, sum_ambient, sum_triggers, is_empty, triggers_of_term, entries}
use Rattle.model.specs.declared.AsumKind.{AsumKind}
use Rattle.model.specs.declared.AsumKind.TheVariants as asum
use Rattle.model.proofs.PartLaws.{part_nil}
use Rattle.names.specs.Table.{Table, is_excluded, Excludes, Tells, name_of}
use Rattle.names.proofs.Laws.{distinct}
use Rattle.names.proofs.Coded.{Kept, table_kept}
use Rattle.names.proofs.Excluded.{tells_kept}
use Rattle.terms.specs.Rows.{row_start, row_end, terms_of_words, terms_of, Rows}
use Rattle.terms.proofs.References.{row_references}
use Rattle.words.specs.Slices.{SameBut}
use Rattle.gather.specs.Sets.{Fresh, Named}
use Rattle.words.proofs.Slices.{same_self, same_then}
use Rattle.rules.specs.Choices.{refinement_kind, parts_kind}
use Rattle.triggers.specs.Entries.{disjuncts_of, disjuncts_of_words, Files, all_sets, no_room as no_sets, EntriesFilled, filed_end, Opened}
use Rattle.triggers.specs.Filings.{filing, file_groups, file_parts, ask_empty, AsksAs, FilesAs}
use Rattle.triggers.specs.declared.Filed.{Filed}
use Rattle.triggers.proofs.Marked.{named_marked, terms_marked}
use Rattle.gather.proofs.Fresh.{fresh_later}
use Rattle.triggers.proofs.Disjuncts.{no_entries}
use Rattle.summary.specs.declared.Limit.{Limit}
use Rattle.summary.specs.declared.Sorted.{Sorted}
use Rattle.summary.specs.Steps.{FilingBegun, sorted_of, sorted_end, Marks, Kinds, kind_there, no_room, Sorts, SortsAs}
use Rattle.summary.specs.Writing.{file_refinement}
use Rattle.summary.proofs.Writing.{files_sorts_as, nothing_as}
use Rattle.std.specs.Prelude.{Option, None, Some, Result, Err}
use Rattle.summary.specs.Steps.{kind_sorted}

-- ---- names

-- the names of a table that keeps those of another are names for the numbers of that one
pub named_of : {exclude : List Name} {file names' w : List ℕ} {named total : ℕ} (names : List ℕ) → Table file names' total → named ≤ total
    → Excludes exclude file names named → ((n : ℕ) → n < named → name_of file names' n ≡ name_of file names n)
    → ((n : ℕ) → n < named → is_excluded w n ≡ is_excluded names n) → Named exclude (name_of file names') w named
named_of {exclude} names table less excludes same excluded = record {
  distinct = λ m n l k e. distinct table m n (omega arith) (omega arith) e;
  excluded = λ n l. excluded n l ∙ excludes n l ∙ ap (λ x. mem x exclude) (sym (same n l));
}

-- with other marks a table has the same names
pub table_marked : {file names names' : List ℕ} {named : ℕ} → Table file names named → SameBut 8192 2048 names names' → Kept file names names' named
table_marked table same = table_kept table same.same_length (λ i l. same.same_words i (λ a b. omega arith))

-- and tells the same of them
pub tells_marked : {file names names' : List ℕ} {named : ℕ} → Table file names named → SameBut 8192 2048 names names' → Tells file names names' named named
tells_marked table same = tells_kept table.few (λ i l. same.same_words i (λ a b. omega arith))

-- ---- what filing asks

-- what began under a mark may be filed under it or a later one
pub begun_opened : {names rows lists : List ℕ} {mark at n : ℕ} → FilingBegun names rows lists mark at → mark ≤ n → n ≤ mark + 8192 → Opened names rows lists n at
begun_opened {mark = mark} {n = n} b less few = record {
  name_room = b.name_room;
  fresh = fresh_later mark n less
      b.fresh;
  low = b.low;
  high = omega (arith, b.room);
  few_marks = omega (arith, b.few_marks);
}

-- to file after a look at the tables
pub begun_then : {names rows lists names' rows' lists' : List ℕ} {mark at : ℕ} → FilingBegun names rows lists mark at
    → SameBut 8192 2048 names names' × SameBut 12288 4096 rows rows' × Fresh names' rows' (mark + 1) → lists' ≡ lists → Opened names' rows' lists' (mark + 1) at
begun_then b (n, s, f) q = record {
  name_room = rw n.same_length b.name_room;
  fresh = f;
  low = b.low;
  high = rw q
      (omega (arith, b.room));
  few_marks = omega (arith, b.few_marks);
}

-- ---- kinds

-- a kind of an answer
kind_end : {a b : AsumKind} {e f m n : ℕ} → kind_sorted a e m ≡ kind_sorted b f n → e ≡ f
kind_end {a} {b} {e} {f} {m} {n} p =
    let same : ◌≡◌ {A = Sorted} (record { kind = a; end = e; total = m }) (record { kind = b; end = f; total = n }) = cc in
    ap (λ s. s.end) same

-- a limit is no kind
over_none : {l : Limit} {a : AsumKind} {e n : ℕ} → Err l ≡ kind_sorted a e n → ⊥
over_none p = let z : ◌≡◌ {A = ℕ} 0 1 = cc in omega arith

-- filed disjuncts are a kind of triggers
files_kinds : {name : ℕ → Name} {named at : ℕ} {s : List (List Name)} {lists : List ℕ} {f : Option Filed} → Files name named s at lists f
    → Kinds name named (sum_triggers s) at lists (sorted_of named f)
unfolding sum_triggers
files_kinds (all_sets a b c d e) = kind_there (ap asum.Triggers b) a c d e
files_kinds (no_sets p) = no_room p

-- the slices after filing them
files_marks : {names rows lists names' rows' lists' : List ℕ} {mark at : ℕ} (named : ℕ) (f : Option Filed) → EntriesFilled names rows lists names' rows' lists' (mark + 1) at f
    → Marks names rows lists names' rows' lists' mark at (sorted_of named f)
unfolding sorted_end filed_end
files_marks named (Some f) w = record {
  names_same = w.names_same;
  rows_same = w.rows_same;
  lists_same = w.lists_same;
  fresh = λ a k total q. rw (←
      (kind_end q)) (w.fresh f.sets f.end refl);
}
files_marks named None w = record {
  names_same = w.names_same;
  rows_same = w.rows_same;
  lists_same = w.lists_same;
  fresh = λ a k total q. absurd (over_none q);
}

-- filing disjuncts files a kind
pub files_sorts : {names rows lists names' rows' lists' : List ℕ} {named mark at : ℕ} {f : Option Filed} {r : Result Sorted Limit} (s : List Name → (ℕ → Name) → List (List Name))
    → ((exclude : List Name) (name : ℕ → Name) → Named exclude name names named → Files name named (s exclude name) at lists' f)
    → EntriesFilled names rows lists names' rows' lists' (mark + 1) at f
    → r ≡ sorted_of named f → Sorts names rows lists names' rows' lists' named mark at (λ exclude name. sum_triggers (s exclude name)) r
files_sorts {named = named} {f = f} s k w q = rw q (record { kinds = λ exclude name d. files_kinds (k exclude name d); marks = files_marks named f w })

-- the same kinds, said in another way
pub sorts_as : {names rows lists names' rows' lists' : List ℕ} {named mark at : ℕ} {k l : List Name → (ℕ → Name) → Kinded} {r : Result Sorted Limit}
    → ((exclude : List Name) (name : ℕ → Name) → Named exclude name names named → k exclude name ≡ l exclude name)
    → Sorts names rows lists names' rows' lists' named mark at k r → Sorts names rows lists names' rows' lists' named mark at l r
sorts_as e s = record { kinds = λ exclude name d. rw (e exclude name d) at (s.kinds exclude name d); marks = s.marks }

-- a kind without triggers files nothing
pub nothing_sorts : {names rows lists names' rows' : List ℕ} {named mark at : ℕ} (a : AsumKind) (k : List Name → (ℕ → Name) → Kinded)
    → ((exclude : List Name) (name : ℕ → Name) → Named exclude name names named → (a ≡ (k exclude name).kind) × ((k exclude name).triggers ≡ [])) → at ≤ 8192
    → SameBut 8192 2048 names names' → SameBut 12288 4096 rows rows' → Fresh names' rows' (mark + 1)
    → Sorts names rows lists names' rows' lists named mark at k (kind_sorted a at named)
unfolding sorted_end disjuncts_of disjuncts_of_words entries sum
nothing_sorts {lists = lists} {named = named} {mark} {at} a k e low n s f = record {
  kinds = λ exclude name d. kind_there {e = at} (e exclude name d).0
      (rw (part_nil lists at at (omega arith), (e exclude name d).1) refl)
      (rw (e exclude name d).1 (omega arith))
      low
      (rw (part_nil lists at at (omega arith)) (no_entries named));
  marks = record {
    names_same = n;
    rows_same = s;
    lists_same = same_self at (at - at) lists;
    fresh = λ b k total q. let z = kind_end q in fresh_later (mark + 1) (mark + 1 + (k - at)) (omega arith) f;
  };
}

-- the slices after a look at the tables and filing
marks_after : {names rows lists names₁ rows₁ lists₁ names₂ rows₂ lists₂ : List ℕ} {mark at : ℕ} {r : Result Sorted Limit} → SameBut 8192 2048 names names₁
    → SameBut 12288 4096 rows rows₁ → lists₁ ≡ lists
    → Marks names₁ rows₁ lists₁ names₂ rows₂ lists₂ mark at r → Marks names rows lists names₂ rows₂ lists₂ mark at r
marks_after n s q m = record {
  names_same = same_then n m.names_same;
  rows_same = same_then s m.rows_same;
  lists_same = rw q at m.lists_same;
  fresh = m.fresh;
}

-- ---- the payload of a refinement

module _ {names rows lists names₁ rows₁ lists₁ refs : List ℕ} {named used many mark at : ℕ} {b : Bool} (t : ℕ) (table : Rows refs rows used many named)
    (answer : (exclude : List Name) (name : ℕ → Name) → Named exclude name names named → b
    ≡ is_empty (triggers_of_term exclude (terms_of name refs rows used many) t))
    (tables : SameBut 8192 2048 names names₁ × SameBut 12288 4096 rows rows₁ × Fresh names₁ rows₁ (mark + 1))
    (same : AsksAs (ask_empty refs used many names rows t) names rows lists names₁ rows₁ lists₁ mark b) where
  -- a payload that is empty is ambient
  pub refinement_empty : b ≡ true → at ≤ 8192 → Sorts names rows lists names₁ rows₁ lists₁ named mark at (λ exclude name. refinement_kind exclude
      (terms_of name refs rows used many) t) (kind_sorted (asum.Ambient true) at named)
      × SortsAs (file_refinement refs used many mark (filing names rows lists (mark + 1) at) t) names₁ rows₁ lists₁ mark at (kind_sorted
      (asum.Ambient true) at named)
  unfolding refinement_kind sum_ambient file_refinement
  refinement_empty e low = (
    rw same.lists_words (nothing_sorts (asum.Ambient true) (λ exclude name. refinement_kind exclude (terms_of name refs rows used many) t)
        (λ exclude name d. rw (sym (answer exclude name d) ∙ e) (refl, refl)) low tables.0 tables.1 tables.2),
    rw (same.name_words, same.row_words, same.lists_words, not-true (ask_empty refs used many names rows t).full (sym same.answer ∙ e)) nothing_as,
  )

  -- another has its triggers
  pub refinement_more : {names₂ rows₂ lists₂ : List ℕ} {count : ℕ} {f : Option Filed} {r : Result Sorted Limit} → b ≡ false
      → ((exclude : List Name) (name : ℕ → Name) → Named exclude name names₁ named → Files name named
      (triggers_of_term exclude (terms_of name refs rows₁ used many) t) at lists₂ f)
      → EntriesFilled names₁ rows₁ lists₁ names₂ rows₂ lists₂ (mark + 1) at f
      → FilesAs (file_groups refs used many (filing names₁ rows₁ lists₁ (mark + 1) at) t) count names₂ rows₂ lists₂ (mark + 1) at f
      → r ≡ sorted_of named f
      → Sorts names rows lists names₂ rows₂ lists₂ named mark at (λ exclude name. refinement_kind exclude (terms_of name refs rows used many) t) r
      × SortsAs (file_refinement refs used many mark (filing names rows lists (mark + 1) at) t) names₂ rows₂ lists₂ mark at r
  unfolding refinement_kind file_refinement
  refinement_more {f = f} e k w z q = (
    rw q (record {
      kinds = λ exclude name d.
          rw (sym (answer exclude name d) ∙ e)
          (rw (terms_marked name tables.1 table) at (files_kinds (k exclude name (named_marked tables.0 table.few_names d))));
      marks = marks_after tables.0 tables.1 same.lists_words (files_marks named f w);
    }),
    rw (not-false (ask_empty refs used many names rows t).full (sym same.answer ∙ e))
        (files_sorts_as named (rw (same.name_words, same.row_words, same.lists_words) at z) q),
  )

-- ---- the parts of an `and`

-- the triggers of the terms that a row names
pub parts_sorts : {names rows lists names' rows' lists' refs : List ℕ} {named used many mark at a e count : ℕ} {f : Option Filed} {r : Result Sorted Limit} (t : ℕ)
    → Rows refs rows used many named → t < many
    → a ≡ row_start rows t → e ≡ row_end rows used many t
    → ((exclude : List Name) (name : ℕ → Name) → Named exclude name names named → Files name named
    (collect (triggers_of_term exclude (terms_of name refs rows used many)) (terms_of_words (part refs a e))) at lists' f)
    → EntriesFilled names rows lists names' rows' lists' (mark + 1) at f
    → FilesAs (file_parts refs used many (filing names rows lists (mark + 1) at) (terms_of_words (part refs a e))) count names' rows' lists' (mark + 1) at f
    → r ≡ sorted_of named f
    → Sorts names rows lists names' rows' lists' named mark at (λ exclude name. parts_kind exclude (terms_of name refs rows used many) t) r
    × SortsAs (file_parts refs used many (filing names rows lists (mark + 1) at)
    (terms_of_words (part refs (row_start rows t) (row_end rows used many t)))) names' rows' lists' mark at r
unfolding parts_kind
parts_sorts {rows = rows} {refs = refs} {named} {used} {many} {a = a} {e} t table l p q k w x z = (
  sorts_as
      (λ exclude name d. ap (λ ts. sum_triggers (collect (triggers_of_term exclude (terms_of name refs rows used many)) ts))
      (rw (p, q) (sym (row_references table l name))))
      (files_sorts (λ exclude name. collect (triggers_of_term exclude (terms_of name refs rows used many)) (terms_of_words (part refs a e))) k w z),
  files_sorts_as named (rw (p, q) at x) z,
)

-- what filing them asks
pub parts_asks : {refs rows : List ℕ} {used many named t a e : ℕ} → Rows refs rows used many named → t < many → a ≡ row_start rows t
    → e ≡ row_end rows used many t
    → (a ≤ e) × (e ≤ used) × ((i : ℕ) → a ≤ i → i < e → get_or refs i 0 % 4096 < many)
parts_asks {t = t} r l p q = rw (p, q) (r.in_order t l, r.in_use t l, λ i x y. omega (arith, r.lower t i l x y))
