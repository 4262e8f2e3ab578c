-- The summary of a fact: what was filed, and the free names that were gathered.
use Prim.Native.Nat.{ℕ, ◌+◌, ◌-◌, ◌%◌, ◌≤◌, ◌<◌}
use native.Mathlib.Omega.{arith}
use mathlib.Core.Path.{◌≡◌, refl, sym, ap, ap₂, ◌∙◌}
use mathlib.Core.Bool.{Bool, true, false, cond}
use mathlib.Core.List.{List, [], ◌∷◌, ◌++◌, map, map-append}
use lib.ListN.{length, get_or, take}
use lib.Dec.{ltb}
use borrow.Author.Tests.{ltb-true}
use Rattle.model.specs.Lists.{part}
use Rattle.model.specs.Names.{Name, bytes, ends_with, from_list}
use Rattle.model.specs.Terms.{Term}
use Rattle.model.specs.Reading.{most_terms, most_uses}
use Rattle.model.specs.Outcome.{working_words}
use Rattle.model.specs.Summaries.{Kinded, sum_drop, sum_ambient, sum_triggers, is_empty, token_triggers, triggers_of_term, summarize_kind}
use Rattle.model.specs.declared.AsumKind.{AsumKind}
use Rattle.model.specs.declared.AsumKind.TheVariants as asum
use Rattle.model.proofs.PartLaws.{part_agree}
use Rattle.names.specs.Table.{Table, Excludes, name_of}
use Rattle.names.proofs.Laws.{names_length}
use Rattle.names.proofs.Coded.{Kept}
use Rattle.names.proofs.Excluded.{excludes_some, tells_then}
use Rattle.terms.specs.Rows.{terms_of, Rows}
use Rattle.terms.proofs.Table.{rows_named, terms_named}
use Rattle.words.specs.Slices.{word_limit, SameBut}
use Rattle.gather.specs.Sets.{row_mark_column, Fresh, Gathers, all_names, no_room as no_names, ended}
use Rattle.words.proofs.Slices.{same_then, same_wider}
use Rattle.gather.proofs.Walking.{rows_marked}
use Rattle.triggers.specs.Entries.{entries_base, entries_column_end, entry_number, before_first, disjuncts_of_words, disjuncts_of}
use Rattle.triggers.proofs.Marked.{terms_marked}
use Rattle.gather.proofs.Fresh.{fresh_next}
use Rattle.triggers.proofs.Disjuncts.{entries_many}
use Rattle.triggers.specs.Filings.{filing}
use Rattle.rules.specs.Views.{Tables, terms_in}
use Rattle.rules.specs.Choices.{refinement_kind, parts_kind, kinded, kind_choice, Chosen}
use Rattle.rules.specs.declared.Choice.{Choice}
use Rattle.rules.specs.declared.Choice.TheVariants as choice
use Rattle.summary.specs.declared.Limit.{Limit}
use Rattle.summary.specs.declared.Sorted.{Sorted}
use Rattle.summary.specs.declared.Summary.{Summary}
use Rattle.summary.specs.Facts.{Asked, fact_kind, fact_choice, fact_names, names_then, fact_summary, limited, Lists, Slices}
use Rattle.summary.specs.Steps.{FilingBegun, trimmed_table, sorted_end, Marks, FiledKind, ComesTo, kind_filed, names_over, entries_over, SortsAs, Chooses, finished, Finishes}
use Rattle.summary.specs.Writing.{file_choice, file_fact, Written}
use Rattle.summary.proofs.Sorting.{named_of, table_marked, tells_marked}
use Rattle.summary.proofs.Choosing.{ChoiceFiles, trimmed_same}
use Rattle.summary.proofs.Answering.{over_none, done_one, over_names, over_entries, over_uses, within_limits, summary_is}
use Rattle.summary.proofs.Writing.{kind_written, over_written}
use Rattle.std.specs.Prelude.{Option, None, Some, Result, Ok, Err}
use Rattle.summary.specs.Steps.{kind_sorted}

-- ---- names that stay

-- an entry's name
entry_name : (f g : ℕ → Name) → ((n : ℕ) → n < 2048 → f n ≡ g n) → (w : ℕ) → map f (entry_number w) ≡ map g (entry_number w)
unfolding entry_number
entry_name f g h w = go (ltb (w % 4096) 2048) refl
  where
    go : (b : Bool) → ltb (w % 4096) 2048 ≡ b → map f (cond b (w % 4096 ∷ []) []) ≡ map g (cond b (w % 4096 ∷ []) [])
    go true e = ap (◌∷ []) (h (w % 4096) (ltb-true (w % 4096) 2048 e))
    go false e = refl

-- numbers at the front of the first disjunct
front_names : (f g : ℕ → Name) (ns : List ℕ) (ds : List (List ℕ)) → map f ns ≡ map g ns → map (map f) ds ≡ map (map g) ds
    → map (map f) (before_first ns ds) ≡ map (map g) (before_first ns ds)
unfolding before_first
front_names f g ns [] p q = ap (◌∷ []) p
front_names f g ns (d ∷ ds) p q =
    let a : map f d ≡ map g d = cc in
    let b : map (map f) ds ≡ map (map g) ds = cc in
    ap₂ ◌∷◌ (map-append f ns d ∙ ap₂ ◌++◌ p a ∙ sym (map-append g ns d)) b

-- entries have the same disjuncts under names that agree
disjuncts_named : (f g : ℕ → Name) → ((n : ℕ) → n < 2048 → f n ≡ g n) → (ws : List ℕ) → disjuncts_of f ws ≡ disjuncts_of g ws
unfolding disjuncts_of disjuncts_of_words
disjuncts_named f g h ws = split f (disjuncts_of_words ws) ∙ ap (map from_list) (go ws) ∙ sym (split g (disjuncts_of_words ws))
  where
    split : (f : ℕ → Name) (ds : List (List ℕ)) → map (λ ns. from_list (map f ns)) ds ≡ map from_list (map (map f) ds)
    split f [] = refl
    split f (d ∷ ds) = ap (λ l. from_list (map f d) ∷ l) (split f ds)

    go : (ws : List ℕ) → map (map f) (disjuncts_of_words ws) ≡ map (map g) (disjuncts_of_words ws)
    go [] = refl
    go (w ∷ ws) = choose (go ws) (ltb w 4096)
      where
        choose : map (map f) (disjuncts_of_words ws) ≡ map (map g) (disjuncts_of_words ws) → (b : Bool)
            → map (map f) (cond b (before_first (entry_number w) (disjuncts_of_words ws)) (entry_number w ∷ disjuncts_of_words ws))
            ≡ map (map g) (cond b (before_first (entry_number w) (disjuncts_of_words ws)) (entry_number w ∷ disjuncts_of_words ws))
        choose more true = front_names f g (entry_number w) (disjuncts_of_words ws) (entry_name f g h w) more
        choose more false = ap₂ ◌∷◌ (entry_name f g h w) more

-- with other marks each number below 2,048 has the same name
name_marked : (file : List ℕ) {names names' : List ℕ} → SameBut 8192 2048 names names' → (n : ℕ) → n < 2048 → name_of file names' n ≡ name_of file names n
unfolding name_of
name_marked file same n l = rw (same.same_words n (λ a b. omega arith), same.same_words (2048 + n) (λ a b. omega arith)) refl

-- what a choice comes to, by its answer
pub chooses_is : {file names refs rows lists names' rows' lists' : List ℕ} {named used many mark at : ℕ} {chosen : Choice} {r r' : Result Sorted Limit} → r ≡ r'
    → ChoiceFiles file names refs rows lists names' rows' lists' named used many mark at chosen r
    → ChoiceFiles file names refs rows lists names' rows' lists' named used many mark at chosen r'
chooses_is e c = rw e at c

-- what filing asks
pub asked_begun : {file names refs rows lists : List ℕ} {named used many name t mark filed uses : ℕ}
    → Asked file names refs rows lists named used many name t mark filed uses → FilingBegun names rows lists mark (entries_base + filed)
asked_begun a = record {
  name_room = a.tables.name_table.room;
  fresh = a.fresh;
  few_marks = a.few_marks;
  low = omega (arith, a.few_entries);
  room = a.room;
}

-- the name words past the marks stay
names_past : {file names names' : List ℕ} {named : ℕ} → Table file names named → (c : Choice) → SameBut 8192 2048 (trimmed_table file names named c) names'
    → SameBut 0 10240 names names'
names_past table c s = same_then (same_wider 0 10240 (omega arith) (omega arith) (trimmed_same table c)) (same_wider 0 10240 (omega arith) (omega arith) s)

-- ---- kinds

-- a kind of triggers counts its disjuncts
kinded_count : (exclude : List Name) (terms : List Term) (name : ℕ → Name) (c : Choice) {m : ℕ} → (kinded exclude terms name c).kind ≡ asum.Triggers m
    → m ≡ length (kinded exclude terms name c).triggers
unfolding kinded sum_triggers sum_drop sum_ambient refinement_kind parts_kind token_triggers
kinded_count exclude terms name (choice.One t) e = cc
kinded_count exclude terms name (choice.Two t u) e = cc
kinded_count exclude terms name (choice.Groups t) e = cc
kinded_count exclude terms name (choice.Refinement t) {m} e =
    go (is_empty (triggers_of_term exclude terms t)) e
  where
    go : (b : Bool) → (cond b (sum_ambient true) (sum_triggers (triggers_of_term exclude terms t))).kind ≡ asum.Triggers m
        → m ≡ length (cond b (sum_ambient true) (sum_triggers (triggers_of_term exclude terms t))).triggers
    go true e = cc
    go false e = cc
kinded_count exclude terms name (choice.Token n) {m} e = go (name n) e
  where
    go : (token : Name) → (token_triggers token).kind ≡ asum.Triggers m → m ≡ length (token_triggers token).triggers
    go token e = choose (ends_with token (bytes "@tok")) e
      where
        short : List Name
        short = take (length token - 4) token ∷ []

        choose : (b : Bool) → (cond b (record { kind = asum.Triggers 2; triggers = (token ∷ []) ∷ short ∷ []; trimmed = short })
            (sum_triggers ((token ∷ []) ∷ []))).kind ≡ asum.Triggers m
            → m ≡ length (cond b (record { kind = asum.Triggers 2; triggers = (token ∷ []) ∷ short ∷ []; trimmed = short })
            (sum_triggers ((token ∷ []) ∷ []))).triggers
        choose true e = cc
        choose false e = cc
kinded_count exclude terms name choice.Nothing e = cc
kinded_count exclude terms name (choice.Parts t) e = cc
kinded_count exclude terms name choice.Drop e = cc
kinded_count exclude terms name choice.Ambient e = cc

-- ---- the promises

-- the answer
abbrev Answer : List ℕ → List ℕ → List ℕ → List ℕ → ℕ → ℕ → ℕ → ℕ → ℕ → ℕ → ℕ → ℕ → Result Summary Limit → Type 0
Answer file names refs rows named used many name t mark filed uses r =
    (exclude : List Name) → Excludes exclude file names named → r ≡ limited (fact_summary exclude file names refs rows named used many name t mark filed uses)

-- the lists
abbrev Listed : List ℕ → List ℕ → List ℕ → List ℕ → ℕ → ℕ → ℕ → ℕ → ℕ → List ℕ → List ℕ → List ℕ → ℕ → ℕ → Result Summary Limit → Type 0
Listed file names refs rows named used many name t names' rows' lists' filed uses r =
    (exclude : List Name) → Excludes exclude file names named → (s : Summary) → r ≡ Ok s
    → Lists exclude file names refs rows named used many name t names' rows' lists' filed uses s

-- all four
abbrev pub Promised : List ℕ → List ℕ → List ℕ → List ℕ → List ℕ → ℕ → ℕ → ℕ → ℕ → ℕ → ℕ → ℕ → ℕ → List ℕ → List ℕ → List ℕ → Result Summary Limit → Type 0
Promised file names refs rows lists named used many name t mark filed uses names' rows' lists' r =
    Answer file names refs rows named used many name t mark filed uses r
    × (Listed file names refs rows named used many name t names' rows' lists' filed uses r
    × (Slices names rows lists names' rows' lists' filed uses
    × Written (file_fact refs used many file names rows lists named name t mark filed uses) names' rows' lists'))

module _ {file names refs rows lists : List ℕ} {named used many name t mark filed uses : ℕ} {chosen : Choice}
    (asked : Asked file names refs rows lists named used many name t mark filed uses)
    (choice : Chosen kind_choice summarize_kind file names refs rows named used many name t chosen) where
  -- some list of excluded names
  some_excluded : (exclude : List Name) × Excludes exclude file names named
  some_excluded = excludes_some asked.tables.name_table

  -- the rule that was chosen
  chose : chosen ≡ fact_choice file names refs rows named used many name t
  unfolding fact_choice
  chose = choice.choice

  -- what it makes of the fact
  made : (exclude : List Name) → kinded exclude (terms_in file names refs rows used many) (name_of file names) chosen
      ≡ fact_kind exclude file names refs rows named used many name t
  unfolding fact_kind
  made = choice.kind

  module _ {names' rows' lists' : List ℕ} {r : Result Sorted Limit} (chooses : Chooses file names refs rows lists names' rows' lists' named used many mark
      (entries_base + filed) chosen r) where
    -- the fact's kind is filed, or a limit passed
    comes : (exclude : List Name) → Excludes exclude file names named
        → ComesTo file names names' lists' named (entries_base + filed) (fact_kind exclude file names refs rows named used many name t) r
    comes exclude excludes = rw (made exclude) at (chooses.kinds exclude excludes)

  module _ {names' rows' lists' : List ℕ} {l : Limit} (chooses : Chooses file names refs rows lists names' rows' lists' named used many mark
      (entries_base + filed) chosen (Err l))
      (filed_as : SortsAs (file_choice refs used many file named mark (filing names rows lists (mark + 1) (entries_base + filed)) chosen) names' rows' lists' mark
      (entries_base + filed) (Err l)) where
    -- a limit that filing passes
    pub over_law : Promised file names refs rows lists named used many name t mark filed uses names' rows' lists' (Err l)
    unfolding names_then fact_summary sorted_end file_fact
    over_law = (
      λ exclude excludes. answer exclude (comes chooses exclude excludes),
      (
        λ exclude excludes s p. absurd (over_none p),
        (
          slices some_excluded.0 (comes chooses some_excluded.0 some_excluded.1) chooses.marks,
          rw (← chose) (over_written refs used many t uses filed_as),
        ),
      ),
    )
      where
        answer : {x : Limit} (exclude : List Name)
            → ComesTo file names names' lists' named (entries_base + filed) (fact_kind exclude file names refs rows named used many name t) (Err x)
            → Err x ≡ limited (fact_summary exclude file names refs rows named used many name t mark filed uses)
        answer exclude (names_over p) = over_names (fact_summary exclude file names refs rows named used many name t mark filed uses) p
        answer exclude (entries_over p q) = over_entries (fact_summary exclude file names refs rows named used many name t mark filed uses) p (omega arith)

        slices : {x : Limit} (exclude : List Name)
            → ComesTo file names names' lists' named (entries_base + filed) (fact_kind exclude file names refs rows named used many name t) (Err x)
            → Marks (trimmed_table file names named chosen) rows lists names' rows' lists' mark (entries_base + filed) (Err x)
            → Slices names rows lists names' rows' lists' filed uses
        slices exclude (names_over p) m = record {
          name_words = names_past asked.tables.name_table chosen m.names_same;
          row_words = m.rows_same;
          lists_length = m.lists_same.same_length;
          lists_words = λ i f g. m.lists_same.same_words i (λ a b. omega arith);
        }
        slices exclude (entries_over p q) m = record {
          name_words = names_past asked.tables.name_table chosen m.names_same;
          row_words = m.rows_same;
          lists_length = m.lists_same.same_length;
          lists_words = λ i f g. m.lists_same.same_words i (λ a b. g a (omega (arith, asked.few_entries)));
        }

  module _ {names' rows' lists' : List ℕ} {a : AsumKind} {e total : ℕ}
      (chooses : Chooses file names refs rows lists names' rows' lists' named used many mark (entries_base + filed) chosen (kind_sorted a e total)) where
    -- the kind that was filed
    filed_there : (exclude : List Name) → Excludes exclude file names named
        → FiledKind file names names' lists' named (entries_base + filed) (fact_kind exclude file names refs rows named used many name t) a e total
    filed_there exclude excludes = go (comes chooses exclude excludes)
      where
        go : {k : Kinded} → ComesTo file names names' lists' named (entries_base + filed) k (kind_sorted a e total)
            → FiledKind file names names' lists' named (entries_base + filed) k a e total
        go (kind_filed k) = k

    -- for some list of excluded names
    filed_some : FiledKind file names names' lists' named (entries_base + filed)
        (fact_kind some_excluded.0 file names refs rows named used many name t) a e total
    filed_some = filed_there some_excluded.0 some_excluded.1

    -- where its entries end
    pub filed_ends : (entries_base + filed ≤ e) × (e ≤ entries_column_end)
    filed_ends = let q = filed_some.ends in (omega arith, filed_some.high)

    -- what gathering its free names asks
    pub finish_asks : {n : ℕ} → n ≡ mark + 1 + (e - (entries_base + filed))
        → Rows refs rows' used many named × (working_words ≤ length names') × (t < many) × Fresh names' rows' n × (n + 1 < word_limit) × (entries_base ≤ e)
        × (uses ≤ most_uses) × (working_words ≤ length lists')
    finish_asks {n} q =
        let (lo, hi) = filed_ends in (
          rows_marked chooses.marks.rows_same asked.tables.term_table,
          filed_some.table.room,
          asked.term,
          rw q (chooses.marks.fresh a e total refl),
          omega (arith, asked.few_marks),
          omega arith,
          asked.few_uses,
          rw chooses.marks.lists_same.same_length asked.room,
        )

    module _ {names'' rows'' lists'' : List ℕ} {n : ℕ} {r : Result Summary Limit} (is : n ≡ mark + 1 + (e - (entries_base + filed)))
        (finishes : Finishes names' refs rows' lists' names'' rows'' lists'' named total used many t a e n uses r) where
      -- the name table then
      kept_table : Kept file names' names'' total
      kept_table = table_marked filed_some.table finishes.slices.names_same

      -- the names that were there keep their part of the file
      kept_names : (k : ℕ) → k < named → name_of file names'' k ≡ name_of file names k
      kept_names k l = kept_table.name k (omega (arith, filed_some.more)) ∙ filed_some.same_names k l

      -- the rows differ in marks alone
      kept_rows : SameBut row_mark_column most_terms rows rows''
      kept_rows = same_then chooses.marks.rows_same finishes.slices.rows_same

      -- the two tables then
      kept_tables : Tables file names'' refs rows'' total used many
      kept_tables = record {
        name_table = kept_table.table;
        term_table = rows_named filed_some.more filed_some.table.few (rows_marked kept_rows asked.tables.term_table);
      }

      -- the terms under the names then
      kept_named : terms_of (name_of file names'') refs rows used many ≡ terms_in file names refs rows used many
      unfolding terms_in
      kept_named = terms_named (name_of file names'') (name_of file names) kept_names asked.tables.term_table

      -- the terms stay
      kept_terms : terms_in file names'' refs rows'' used many ≡ terms_in file names refs rows used many
      unfolding terms_in
      kept_terms = terms_marked (name_of file names'') kept_rows asked.tables.term_table ∙ kept_named

      -- the free names that were gathered
      gathered_names : (exclude : List Name) → Excludes exclude file names named
          → Gathers (name_of file names'') named (fact_names exclude file names refs rows named used many name t) uses most_uses lists'' finishes.walked
      unfolding fact_names
      gathered_names exclude excludes =
          rw (terms_marked (name_of file names'') chooses.marks.rows_same asked.tables.term_table ∙ kept_named) at
          (finishes.free_names exclude (name_of file names'')
          (named_of names kept_table.table filed_some.more excludes kept_names filed_some.told.old))

      -- the entries stay
      kept_words : part lists'' (entries_base + filed) e ≡ part lists' (entries_base + filed) e
      kept_words =
          let (lo, hi) = filed_ends in
          let s = finishes.slices in
          let fits = s.fits in
          let grows = s.grows in
          let room = asked.room in
          let long : length lists' ≡ length lists = chooses.marks.lists_same.same_length in
          part_agree lists' lists'' (e - (entries_base + filed)) (entries_base + filed) e refl (omega arith) (omega (arith, s.lists_same.same_length))
          (λ i l k. s.lists_same.same_words i (λ x y. omega arith))

      -- the words of `lists` but the places of the free names and of the entries
      kept_out : (x : Option ℕ) → SameBut uses (ended most_uses x - uses) lists' lists'' → ended most_uses x ≤ most_uses
          → (i : ℕ) → (uses ≤ i → i < most_uses → ⊥) → (entries_base + filed ≤ i → i < entries_column_end → ⊥) → get_or lists'' i 0 ≡ get_or lists i 0
      unfolding sorted_end
      kept_out x s up i f g =
          let (lo, hi) = filed_ends in
          s.same_words i (λ p q. f p (omega arith)) ∙ chooses.marks.lists_same.same_words i (λ p q. g p (omega arith))

      -- the slices then
      kept_slices : Slices names rows lists names'' rows'' lists'' filed uses
      kept_slices =
          let m = chooses.marks in
          let s = finishes.slices in
          record {
            name_words = names_past asked.tables.name_table chosen (same_then m.names_same s.names_same);
            row_words = kept_rows;
            lists_length = s.lists_same.same_length ∙ m.lists_same.same_length;
            lists_words = kept_out finishes.walked s.lists_same s.fits;
          }

      module _ (exclude : List Name) (excludes : Excludes exclude file names named) where
        -- the table has the names that there are then
        named_then : total ≡ length (names_then exclude file names refs rows named used many name t)
        unfolding names_then
        named_then = sym (names_length file names' total) ∙ ap length (filed_there exclude excludes).spelled

        -- a kind of triggers has no more disjuncts than entries
        kept_few : (m : ℕ) → a ≡ asum.Triggers m → m + filed ≤ e - entries_base
        kept_few m q =
            let k = filed_there exclude excludes in
            let ends = k.ends in
            let kind = fact_kind exclude file names refs rows named used many name t in
            let count : m ≡ length kind.triggers =
            rw (made exclude) at (kinded_count exclude (terms_in file names refs rows used many) (name_of file names) chosen
            (ap (λ x. x.kind) (made exclude) ∙ sym k.kind ∙ q)) in
            omega (arith, entries_many kind.triggers)

        -- the summary's lists
        kept_lists : {k : ℕ} → Gathers (name_of file names'') named (fact_names exclude file names refs rows named used many name t) uses most_uses lists''
            (Some k)
            → Lists exclude file names refs rows named used many name t names'' rows'' lists'' filed uses
            (record { kind = a; entries = e - entries_base; uses = k; named = total; mark = n + 1 })
        unfolding names_then
        kept_lists (all_names p q fits small) =
            let k = filed_there exclude excludes in
            let (lo, hi) = filed_ends in
            let w : entries_base + (e - entries_base) ≡ e = omega arith in
            record {
              disjuncts = rw (w, kept_words)
                  (disjuncts_named (name_of file names'') (name_of file names') (name_marked file finishes.slices.names_same)
                  (part lists' (entries_base + filed) e) ∙ k.disjuncts);
              entry_words = rw (w, kept_words) k.entry_words;
              few_sets = kept_few;
              free_names = p;
              use_words = small;
              tables = kept_tables;
              spelled = kept_table.names ∙ k.spelled;
              more = k.more;
              same_names = kept_names;
              told = tells_then k.more (omega arith) kept_table.name k.told (tells_marked k.table finishes.slices.names_same);
              same_terms = kept_terms;
              fresh = fresh_next (rw is (chooses.marks.fresh a e total refl)) finishes.slices;
            }

        -- the answer and the lists, by whether there is room for the free names
        kept_answer : (x : Option ℕ) → Gathers (name_of file names'') named (fact_names exclude file names refs rows named used many name t) uses most_uses lists'' x
            → (finished a e total n x ≡ limited (fact_summary exclude file names refs rows named used many name t mark filed uses))
            × ((s : Summary) → finished a e total n x ≡ Ok s → Lists exclude file names refs rows named used many name t names'' rows'' lists'' filed uses s)
        unfolding fact_summary
        kept_answer (Some k) (all_names p q fits small) =
            let (lo, hi) = filed_ends in
            let there = filed_there exclude excludes in
            let ends = there.ends in
            let s : Summary = record { kind = a; entries = e - entries_base; uses = k; named = total; mark = n + 1 } in (
              within_limits s there.table.few (omega arith) fits
                  ∙ ap limited (summary_is s there.kind (omega arith) (omega arith) named_then (omega arith)),
              λ s' h. rw (← done_one h) (kept_lists (all_names p q fits small)),
            )
        kept_answer None (no_names p f) =
            let there = filed_there exclude excludes in
            let ends = there.ends in
            let high = there.high in (
              over_uses (fact_summary exclude file names refs rows named used many name t mark filed uses) (omega (arith, named_then, there.table.few))
                  (omega arith) (omega arith),
              λ s h. absurd (over_none h),
            )

        -- by the answer
        kept_both : (r ≡ limited (fact_summary exclude file names refs rows named used many name t mark filed uses))
            × ((s : Summary) → r ≡ Ok s → Lists exclude file names refs rows named used many name t names'' rows'' lists'' filed uses s)
        kept_both = rw finishes.answer (kept_answer finishes.walked (gathered_names exclude excludes))

      -- a fact whose kind was filed
      pub finish_law : SortsAs (file_choice refs used many file named mark
          (filing names rows lists (mark + 1) (entries_base + filed)) chosen) names' rows' lists' mark (entries_base + filed) (kind_sorted a e total)
          → Promised file names refs rows lists named used many name t mark filed uses names'' rows'' lists'' r
      unfolding file_fact
      finish_law filed_as = (
        λ exclude excludes. (kept_both exclude excludes).0,
        (λ exclude excludes. (kept_both exclude excludes).1, (kept_slices, rw (← chose) (kind_written filed_as is finishes))),
      )
