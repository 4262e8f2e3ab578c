-- Filing what a choice says.
use Prim.Native.Nat.{ℕ, ◌+◌, ◌-◌, ◌<◌}
use native.Mathlib.Omega.{arith}
use mathlib.Core.Path.{◌≡◌, refl}
use mathlib.Core.Bool.{Bool, true, false, cond}
use mathlib.Core.List.{List, [], ◌∷◌}
use Rattle.model.specs.Lists.{fold_left, part}
use Rattle.model.specs.Names.{Name}
use Rattle.model.specs.Terms.{Term}
use Rattle.model.specs.Summaries.{Kinded, sum_drop, sum_ambient, sum_triggers, is_empty, free_top_level_names, triggers_of_term}
use Rattle.model.specs.declared.AsumKind.TheVariants as asum
use Rattle.names.specs.Table.{Table, Excludes, name_of}
use Rattle.names.proofs.Laws.{names_length}
use Rattle.terms.specs.Rows.{row_start, row_end, terms_of_words, terms_of}
use Rattle.terms.proofs.Table.{terms_named}
use Rattle.words.specs.Slices.{SameBut}
use Rattle.gather.specs.Sets.{Named}
use Rattle.words.proofs.Slices.{same_self}
use Rattle.triggers.specs.Entries.{Files, EntriesFilled}
use Rattle.triggers.specs.Filings.{FilingState, filing, file_list, file_groups, file_parts, FilesAs}
use Rattle.triggers.specs.declared.Filed.{Filed}
use Rattle.gather.proofs.Fresh.{fresh_later}
use Rattle.rules.specs.Views.{Tables, terms_in}
use Rattle.rules.specs.Choices.{refinement_kind, parts_kind, kinded, Within}
use Rattle.rules.specs.declared.Choice.{Choice}
use Rattle.rules.specs.declared.Choice.TheVariants as choice
use Rattle.summary.specs.declared.Sorted.{Sorted}
use Rattle.summary.specs.Steps.{FilingBegun, trimmed_table, sorted_of, Kinds, kind_there, no_room, Sorts, SortsAs, ComesTo, kind_filed, entries_over, Tokens, Chooses}
use Rattle.summary.specs.Writing.{token_table, file_refinement, file_choice}
use Rattle.summary.proofs.Token.{token_same}
use Rattle.summary.proofs.Sorting.{named_of, table_marked, tells_marked, files_sorts, nothing_sorts}
use Rattle.summary.proofs.Writing.{files_sorts_as, nothing_as}
use Rattle.std.specs.Prelude.{Option, Result}
use Rattle.summary.specs.Steps.{kind_sorted}
use Rattle.summary.specs.declared.Limit.{Limit}

-- what filing a choice comes to, with every word
abbrev pub ChoiceFiles : List ℕ → List ℕ → List ℕ → List ℕ → List ℕ → List ℕ → List ℕ → List ℕ → ℕ → ℕ → ℕ → ℕ → ℕ → Choice → Result Sorted Limit → Type 0
ChoiceFiles file names refs rows lists names' rows' lists' named used many mark at c r =
    Chooses file names refs rows lists names' rows' lists' named used many mark at c r
    × SortsAs (file_choice refs used many file named mark (filing names rows lists (mark + 1) at) c) names' rows' lists' mark at r

-- a choice changes no name word from 8,192 on
pub trimmed_same : {file names : List ℕ} {named : ℕ} → Table file names named → (c : Choice) → SameBut 0 8192 names (trimmed_table file names named c)
unfolding trimmed_table
trimmed_same {names = names} table (choice.One t) = same_self 0 8192 names
trimmed_same {names = names} table (choice.Two t u) = same_self 0 8192 names
trimmed_same {names = names} table (choice.Groups t) = same_self 0 8192 names
trimmed_same {names = names} table (choice.Refinement t) = same_self 0 8192 names
trimmed_same table (choice.Token n) = token_same table n
trimmed_same {names = names} table choice.Nothing = same_self 0 8192 names
trimmed_same {names = names} table (choice.Parts t) = same_self 0 8192 names
trimmed_same {names = names} table choice.Drop = same_self 0 8192 names
trimmed_same {names = names} table choice.Ambient = same_self 0 8192 names

-- rule 3 trims no name off
refinement_trimmed : (b : Bool) (sets : List (List Name)) → (cond b (sum_ambient true) (sum_triggers sets)).trimmed ≡ []
unfolding sum_ambient sum_triggers
refinement_trimmed true sets = refl
refinement_trimmed false sets = refl

module _ {file names refs rows lists names' rows' lists' : List ℕ} {named used many mark at : ℕ} {r : Result Sorted Limit}
    (tables : Tables file names refs rows named used many) where
  -- a kind that holds names of the table is filed
  sorts_comes : (f : List Name → List Term → Kinded) → ((exclude : List Name) → (f exclude (terms_in file names refs rows used many)).trimmed ≡ [])
      → Sorts names rows lists names' rows' lists' named mark at (λ exclude name. f exclude (terms_of name refs rows used many)) r
      → (exclude : List Name) → Excludes exclude file names named
      → ComesTo file names names' lists' named at (f exclude (terms_in file names refs rows used many)) r
  unfolding terms_in fold_left
  sorts_comes f e s exclude excludes =
      let kept = table_marked tables.name_table s.marks.names_same in
      let d : Named exclude (name_of file names') names named = named_of names kept.table (omega arith) excludes kept.name (λ n l. refl) in
      let q : terms_of (name_of file names') refs rows used many ≡ terms_of (name_of file names) refs rows used many =
      terms_named (name_of file names') (name_of file names) kept.name tables.term_table in
      go (rw q at (s.kinds exclude (name_of file names') d))
    where
      go : {x : Result Sorted Limit} → Kinds (name_of file names') named (f exclude (terms_of (name_of file names) refs rows used many)) at lists' x
          → ComesTo file names names' lists' named at (f exclude (terms_of (name_of file names) refs rows used many)) x
      go (kind_there a b c h k) =
          let kept = table_marked tables.name_table s.marks.names_same in
          kind_filed (record {
            kind = a;
            disjuncts = b;
            ends = c;
            high = h;
            entry_words = k;
            table = kept.table;
            spelled = rw (e exclude) kept.names;
            more = omega arith;
            same_names = kept.name;
            told = tells_marked tables.name_table s.marks.names_same;
          })
      go (no_room p) = entries_over (rw (e exclude) (omega (arith, names_length file names named, tables.name_table.few))) p

  -- a choice whose kind was filed
  sorts_chooses : (f : List Name → List Term → Kinded) (c : Choice)
      → ((exclude : List Name) → kinded exclude (terms_in file names refs rows used many) (name_of file names) c
      ≡ f exclude (terms_in file names refs rows used many))
      → trimmed_table file names named c ≡ names → ((exclude : List Name) → (f exclude (terms_in file names refs rows used many)).trimmed ≡ [])
      → Sorts names rows lists names' rows' lists' named mark at (λ exclude name. f exclude (terms_of name refs rows used many)) r
      → Chooses file names refs rows lists names' rows' lists' named used many mark at c r
  sorts_chooses f c e q t s = record {
    kinds = λ exclude excludes. rw (e exclude) (sorts_comes f t s exclude excludes);
    marks = rw q s.marks;
  }

  -- filing sets files the choice that gathers them
  sets_chooses : {g : FilingState} {count : ℕ} {f : Option Filed} (s : List Name → List Term → List (List Name)) (c : Choice)
      → ((exclude : List Name) → kinded exclude (terms_in file names refs rows used many) (name_of file names) c
      ≡ sum_triggers (s exclude (terms_in file names refs rows used many)))
      → trimmed_table file names named c ≡ names → file_choice refs used many file named mark (filing names rows lists (mark + 1) at) c ≡ g
      → ((exclude : List Name) (name : ℕ → Name) → Named exclude name names named → Files name named (s exclude (terms_of name refs rows used many)) at lists' f)
      → EntriesFilled names rows lists names' rows' lists' (mark + 1) at f → FilesAs g count names' rows' lists' (mark + 1) at f → r ≡ sorted_of named f
      → ChoiceFiles file names refs rows lists names' rows' lists' named used many mark at c r
  unfolding sum_triggers
  sets_chooses s c e q g k w x z = (
    sorts_chooses (λ exclude terms. sum_triggers (s exclude terms)) c e q (λ exclude. refl)
        (files_sorts (λ exclude name. s exclude (terms_of name refs rows used many)) k w z),
    rw g (files_sorts_as named x z),
  )

  module _ {c : Choice} where
    -- one set
    pub choose_one : {t count : ℕ} {f : Option Filed} → c ≡ choice.One t
        → ((exclude : List Name) (name : ℕ → Name) → Named exclude name names named → Files name named
        (free_top_level_names exclude (terms_of name refs rows used many) t ∷ []) at lists' f)
        → EntriesFilled names rows lists names' rows' lists' (mark + 1) at f
        → FilesAs (file_list refs used many (filing names rows lists (mark + 1) at) (t ∷ [])) count names' rows' lists' (mark + 1) at f
        → r ≡ sorted_of named f
        → ChoiceFiles file names refs rows lists names' rows' lists' named used many mark at c r
    unfolding kinded trimmed_table file_choice
    choose_one {t} e k w x q = rw e (sets_chooses (λ exclude terms. free_top_level_names exclude terms t ∷ []) (choice.One t)
        (λ exclude. refl) refl refl k w x q)

    -- two sets
    pub choose_two : {t u count : ℕ} {f : Option Filed} → c ≡ choice.Two t u
        → ((exclude : List Name) (name : ℕ → Name) → Named exclude name names named → Files name named
        (free_top_level_names exclude (terms_of name refs rows used many) t ∷ free_top_level_names exclude
        (terms_of name refs rows used many) u ∷ []) at lists' f)
        → EntriesFilled names rows lists names' rows' lists' (mark + 1) at f
        → FilesAs (file_list refs used many (file_list refs used many (filing names rows lists (mark + 1) at) (t ∷ [])) (u ∷ [])) count names' rows' lists'
        (mark + 1) at f
        → r ≡ sorted_of named f
        → ChoiceFiles file names refs rows lists names' rows' lists' named used many mark at c r
    unfolding kinded trimmed_table file_choice
    choose_two {t} {u} e k w x q = rw e (sets_chooses (λ exclude terms. free_top_level_names exclude terms t ∷ free_top_level_names exclude terms u ∷ [])
        (choice.Two t u) (λ exclude. refl) refl refl k w x q)

    -- the triggers of a term
    pub choose_groups : {t count : ℕ} {f : Option Filed} → c ≡ choice.Groups t
        → ((exclude : List Name) (name : ℕ → Name) → Named exclude name names named → Files name named
        (triggers_of_term exclude (terms_of name refs rows used many) t) at lists' f)
        → EntriesFilled names rows lists names' rows' lists' (mark + 1) at f
        → FilesAs (file_groups refs used many (filing names rows lists (mark + 1) at) t) count names' rows' lists' (mark + 1) at f
        → r ≡ sorted_of named f
        → ChoiceFiles file names refs rows lists names' rows' lists' named used many mark at c r
    unfolding kinded trimmed_table file_choice
    choose_groups {t} e k w x q = rw e (sets_chooses (λ exclude terms. triggers_of_term exclude terms t) (choice.Groups t) (λ exclude. refl) refl refl k w x q)

    -- the payload of a refinement
    pub choose_refinement : {t : ℕ} → c ≡ choice.Refinement t
        → Sorts names rows lists names' rows' lists' named mark at (λ exclude name. refinement_kind exclude (terms_of name refs rows used many) t) r
        → SortsAs (file_refinement refs used many mark (filing names rows lists (mark + 1) at) t) names' rows' lists' mark at r
        → ChoiceFiles file names refs rows lists names' rows' lists' named used many mark at c r
    unfolding kinded trimmed_table refinement_kind file_choice
    choose_refinement {t} e s w = rw e (
      sorts_chooses (λ exclude terms. refinement_kind exclude terms t) (choice.Refinement t) (λ exclude. refl) refl
          (λ exclude. let sets = triggers_of_term exclude (terms_in file names refs rows used many) t in refinement_trimmed (is_empty sets) sets) s,
      w,
    )

    -- the parts of an `and`
    pub choose_parts : {t : ℕ} → c ≡ choice.Parts t
        → Sorts names rows lists names' rows' lists' named mark at (λ exclude name. parts_kind exclude (terms_of name refs rows used many) t) r
        → SortsAs (file_parts refs used many (filing names rows lists (mark + 1) at)
        (terms_of_words (part refs (row_start rows t) (row_end rows used many t)))) names' rows' lists' mark at r
        → ChoiceFiles file names refs rows lists names' rows' lists' named used many mark at c r
    unfolding kinded trimmed_table parts_kind sum_triggers file_choice
    choose_parts {t} e s w = rw e (sorts_chooses (λ exclude terms. parts_kind exclude terms t) (choice.Parts t) (λ exclude. refl) refl (λ exclude. refl) s, w)

-- a kind without triggers
none_sorts : {names rows lists : List ℕ} {mark at : ℕ} (named : ℕ) → FilingBegun names rows lists mark at → (k : Kinded) → k.triggers ≡ []
    → Sorts names rows lists names rows lists named mark at (λ exclude name. k) (kind_sorted k.kind at named)
none_sorts {names} {rows} {mark = mark} named b k e = nothing_sorts k.kind (λ exclude name. k) (λ exclude name d. (refl, e)) b.low
    (same_self 8192 2048 names) (same_self 12288 4096 rows) (fresh_later mark (mark + 1) (omega arith) b.fresh)

module _ {file names refs rows lists : List ℕ} {named used many mark at : ℕ} {c : Choice} (tables : Tables file names refs rows named used many)
    (b : FilingBegun names rows lists mark at) where
  -- no disjunct
  pub choose_nothing : c ≡ choice.Nothing → ChoiceFiles file names refs rows lists names rows lists named used many mark at c
      (kind_sorted (asum.Triggers 0) at named)
  unfolding kinded trimmed_table sum_triggers file_choice
  choose_nothing e = rw e (
    sorts_chooses tables (λ exclude terms. sum_triggers []) choice.Nothing (λ exclude. refl) refl (λ exclude. refl)
        (none_sorts named b (sum_triggers []) refl),
    nothing_as,
  )

  -- a fact that is dropped
  pub choose_drop : c ≡ choice.Drop → ChoiceFiles file names refs rows lists names rows lists named used many mark at c (kind_sorted asum.Drop at named)
  unfolding kinded trimmed_table sum_drop file_choice
  choose_drop e = rw e (
    sorts_chooses tables (λ exclude terms. sum_drop) choice.Drop (λ exclude. refl) refl (λ exclude. refl) (none_sorts named b sum_drop refl),
    nothing_as,
  )

  -- an ambient fact
  pub choose_ambient : c ≡ choice.Ambient → ChoiceFiles file names refs rows lists names rows lists named used many mark at c
      (kind_sorted (asum.Ambient false) at named)
  unfolding kinded trimmed_table sum_ambient file_choice
  choose_ambient e = rw e (
    sorts_chooses tables (λ exclude terms. sum_ambient false) choice.Ambient (λ exclude. refl) refl (λ exclude. refl)
        (none_sorts named b (sum_ambient false) refl),
    nothing_as,
  )

  -- a token
  pub choose_token : {names' lists' : List ℕ} {n : ℕ} {r : Result Sorted Limit} → c ≡ choice.Token n → Tokens file names lists names' lists' named n at r
      → ChoiceFiles file names refs rows lists names' rows lists' named used many mark at c r
  unfolding kinded trimmed_table file_choice
  choose_token {n = n} e s = rw e (
    record {
      kinds = λ exclude excludes. s.kinds;
      marks = record {
        names_same = rw s.name_words (same_self 8192 2048 (token_table file names named n));
        rows_same = same_self 12288 4096 rows;
        lists_same = s.lists_same;
        fresh = λ a e total q. fresh_later mark (mark + 1 + (e - at)) (omega arith) (rw s.name_words (record {
          row_marks = b.fresh.row_marks;
          name_marks = λ k l. rw ((token_same tables.name_table n).same_words (8192 + k) (λ x y. omega arith)) (b.fresh.name_marks k l);
        }));
      };
    },
    s.words_as rows mark,
  )

-- ---- the numbers of a choice

module _ (named many : ℕ) {c : Choice} where
  -- the term of one set
  pub within_one : {t : ℕ} → c ≡ choice.One t → Within named many c → t < many
  unfolding Within
  within_one e w = rw e at w

  -- the terms of two
  pub within_two : {t u : ℕ} → c ≡ choice.Two t u → Within named many c → (t < many) × (u < many)
  unfolding Within
  within_two e w = rw e at w

  -- the term of groups
  pub within_groups : {t : ℕ} → c ≡ choice.Groups t → Within named many c → t < many
  unfolding Within
  within_groups e w = rw e at w

  -- a payload
  pub within_refinement : {t : ℕ} → c ≡ choice.Refinement t → Within named many c → t < many
  unfolding Within
  within_refinement e w = rw e at w

  -- a token
  pub within_token : {n : ℕ} → c ≡ choice.Token n → Within named many c → n < named
  unfolding Within
  within_token e w = rw e at w

  -- an `and`
  pub within_parts : {t : ℕ} → c ≡ choice.Parts t → Within named many c → t < many
  unfolding Within
  within_parts e w = rw e at w
