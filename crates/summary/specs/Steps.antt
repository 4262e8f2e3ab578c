-- What the private functions ask and give.
use Rattle.std.specs.Prelude.{ℕ, ◌+◌, ◌-◌, ◌≤◌, ◌<◌, ◌≡◌, true, List, length, set, Option, None, Some, Result, Ok, Err}
use Rattle.model.specs.Lists.{fold_left, part}
use Rattle.model.specs.Names.{Name}
use Rattle.model.specs.Reading.{most_names, most_terms, most_uses, spell}
use Rattle.model.specs.Outcome.{working_words}
use Rattle.model.specs.Summaries.{Kinded, entries, token_triggers, free_top_level_names}
use Rattle.model.specs.declared.AsumKind.{AsumKind}
use Rattle.model.specs.declared.AsumKind.TheVariants.{Triggers}
use Rattle.names.specs.Table.{Table, Excludes, Tells, name_of, table_names}
use Rattle.terms.specs.Rows.{terms_of}
use Rattle.words.specs.Slices.{word_limit, SameBut}
use Rattle.gather.specs.Sets.{name_mark_column, row_mark_column, Fresh, Named, Gathers, Gathered}
use Rattle.gather.specs.Visits.{visit_term, WalksAs}
use Rattle.rules.specs.Views.{terms_in}
use Rattle.rules.specs.Choices.{kinded}
use Rattle.rules.specs.declared.Choice.{Choice}
use Rattle.rules.specs.declared.Choice.TheVariants as choice
use Rattle.triggers.specs.Entries.{entries_base, entries_column_end, last_flag, disjuncts_of, Entries}
use Rattle.triggers.specs.Filings.{FilingState, filing}
use Rattle.triggers.specs.declared.Filed.{Filed}
use Rattle.summary.specs.declared.Limit.{Limit}
use Rattle.summary.specs.declared.Limit.TheVariants as limit
use Rattle.summary.specs.declared.Sorted.{Sorted}
use Rattle.summary.specs.declared.Summary.{Summary}
use Rattle.summary.specs.Writing.{token_table, file_token}

-- what filing from `at` on asks of the slices
pub record FilingBegun (names rows lists : List ℕ) (mark at : ℕ) : Type 0 where
  pub name_room : working_words ≤ length names
  pub fresh : Fresh names rows mark
  pub few_marks : mark + working_words < word_limit
  pub low : at ≤ entries_column_end
  pub room : working_words ≤ length lists

-- a kind that is filed: where its entries end, and how many names the table has then
abbrev pub kind_sorted : AsumKind → ℕ → ℕ → Result Sorted Limit
kind_sorted a e n =
    let s : Sorted = record { kind = a; end = e; total = n } in
    Ok s

-- filed disjuncts as a kind
abbrev pub sorted_of : ℕ → Option Filed → Result Sorted Limit
sorted_of named (Some f) = kind_sorted (Triggers f.sets) f.end named
sorted_of named None = Err limit.Entries

-- where the entries end: at `entries_column_end` where there is no room for all
unfoldable pub sorted_end : ℕ → Result Sorted Limit → ℕ
sorted_end at (Ok s) = s.end
sorted_end at (Err limit.Names) = at
sorted_end at (Err limit.Entries) = entries_column_end
sorted_end at (Err limit.Uses) = at

-- the slices after filing: in the tables only marks change, all below the next one; in `lists` only the entries
pub record Marks (names rows lists names' rows' lists' : List ℕ) (mark at : ℕ) (r : Result Sorted Limit) : Type 0 where
  pub names_same : SameBut name_mark_column most_names names names'
  pub rows_same : SameBut row_mark_column most_terms rows rows'
  pub lists_same : SameBut at (sorted_end at r - at) lists lists'
  pub fresh : (a : AsumKind) (e total : ℕ) → r ≡ kind_sorted a e total → Fresh names' rows' (mark + 1 + (e - at))

-- what filing a kind whose disjuncts hold names of the table comes to
pub data Kinds (name : ℕ → Name) (named : ℕ) (k : Kinded) (at : ℕ) (lists' : List ℕ) : Result Sorted Limit → Type 0 where
  kind_there : {a : AsumKind} {e : ℕ}
      → a ≡ k.kind → disjuncts_of name (part lists' at e) ≡ k.triggers → e ≡ at + entries k.triggers → e ≤ entries_column_end
      → Entries named (part lists' at e)
      → Kinds name named k at lists' (kind_sorted a e named)
  no_room : entries_column_end < at + entries k.triggers → Kinds name named k at lists' (Err limit.Entries)

-- what filing the kind that the excluded names and a naming of the numbers give comes to, with the slices
pub record Sorts (names rows lists names' rows' lists' : List ℕ) (named mark at : ℕ) (k : List Name → (ℕ → Name) → Kinded) (r : Result Sorted Limit) : Type 0 where
  pub kinds : (exclude : List Name) (name : ℕ → Name) → Named exclude name names named → Kinds name named (k exclude name) at lists' r
  pub marks : Marks names rows lists names' rows' lists' mark at r

-- the answer and every word of the slices after filing from `at` on under marks after `mark`
pub data SortsAs (f : FilingState) (names' rows' lists' : List ℕ) (mark at : ℕ) : Result Sorted Limit → Type 0 where
  as_kind : {a : AsumKind} {e total : ℕ} → f ≡ filing names' rows' lists' (mark + 1 + (e - at)) e → SortsAs f names' rows' lists' mark at (kind_sorted a e total)
  as_over : {l : Limit} → f.full ≡ true → names' ≡ f.names → rows' ≡ f.rows → lists' ≡ f.lists → SortsAs f names' rows' lists' mark at (Err l)

-- a kind that is filed: its disjuncts, and the table with the name that it trims off
pub record FiledKind (file names names' lists' : List ℕ) (named at : ℕ) (k : Kinded) (a : AsumKind) (e total : ℕ) : Type 0 where
  pub kind : a ≡ k.kind
  pub disjuncts : disjuncts_of (name_of file names') (part lists' at e) ≡ k.triggers
  pub ends : e ≡ at + entries k.triggers
  pub high : e ≤ entries_column_end
  pub entry_words : Entries total (part lists' at e)
  pub table : Table file names' total
  pub spelled : table_names file names' total ≡ fold_left spell (table_names file names named) k.trimmed
  pub more : named ≤ total
  pub same_names : (n : ℕ) → n < named → name_of file names' n ≡ name_of file names n
  pub told : Tells file names names' named total

-- what filing a kind comes to: it is filed, or the first limit that it passes
pub data ComesTo (file names names' lists' : List ℕ) (named at : ℕ) (k : Kinded) : Result Sorted Limit → Type 0 where
  kind_filed : {a : AsumKind} {e total : ℕ} → FiledKind file names names' lists' named at k a e total → ComesTo file names names' lists' named at k (kind_sorted a e total)
  names_over : most_names < length (fold_left spell (table_names file names named) k.trimmed) → ComesTo file names names' lists' named at k (Err limit.Names)
  entries_over : length (fold_left spell (table_names file names named) k.trimmed) ≤ most_names → entries_column_end < at + entries k.triggers
      → ComesTo file names names' lists' named at k (Err limit.Entries)

-- what filing two names comes to
pub data Two (lists lists' : List ℕ) (total n m at : ℕ) : Result Sorted Limit → Type 0 where
  both : at + 2 ≤ entries_column_end → lists' ≡ set (set lists at (n + last_flag)) (at + 1) (m + last_flag) → Two lists lists' total n m at (kind_sorted (Triggers 2) (at + 2) total)
  over : entries_column_end < at + 2 → lists' ≡ lists → Two lists lists' total n m at (Err limit.Entries)

-- what filing a token comes to
pub record Tokens (file names lists names' lists' : List ℕ) (named n at : ℕ) (r : Result Sorted Limit) : Type 0 where
  pub name_words : names' ≡ token_table file names named n
  pub kinds : ComesTo file names names' lists' named at (token_triggers (name_of file names n)) r
  pub lists_same : SameBut at (sorted_end at r - at) lists lists'
  pub words_as : (rows : List ℕ) (mark : ℕ) → SortsAs (file_token file named (filing names rows lists (mark + 1) at) n) names' rows lists' mark at r

-- the slice of names after a choice: only a token enters a name
unfoldable pub trimmed_table : List ℕ → List ℕ → ℕ → Choice → List ℕ
trimmed_table file names named (choice.One t) = names
trimmed_table file names named (choice.Two t u) = names
trimmed_table file names named (choice.Groups t) = names
trimmed_table file names named (choice.Refinement t) = names
trimmed_table file names named (choice.Token n) = token_table file names named n
trimmed_table file names named choice.Nothing = names
trimmed_table file names named (choice.Parts t) = names
trimmed_table file names named choice.Drop = names
trimmed_table file names named choice.Ambient = names

-- what filing a choice comes to
pub record Chooses (file names refs rows lists names' rows' lists' : List ℕ) (named used many mark at : ℕ) (chosen : Choice) (r : Result Sorted Limit) : Type 0 where
  pub kinds : (exclude : List Name) → Excludes exclude file names named
      → ComesTo file names names' lists' named at (kinded exclude (terms_in file names refs rows used many) (name_of file names) chosen) r
  pub marks : Marks (trimmed_table file names named chosen) rows lists names' rows' lists' mark at r

-- the summary of a kind and of the free names that were gathered
abbrev pub finished : AsumKind → ℕ → ℕ → ℕ → Option ℕ → Result Summary Limit
finished kind end total mark (Some n) =
    Ok (record { kind = kind; entries = end - entries_base; uses = n; named = total; mark = mark + 1 })
finished kind end total mark None = Err limit.Uses

-- what gathering the free names of a fact comes to
pub record Finishes (names refs rows lists names' rows' lists' : List ℕ) (named total used many t : ℕ) (kind : AsumKind) (end mark uses : ℕ) (r : Result Summary Limit) : Type 0 where
  pub walked : Option ℕ
  pub answer : r ≡ finished kind end total mark walked
  pub free_names : (exclude : List Name) (name : ℕ → Name) → Named exclude name names named
      → Gathers name named (free_top_level_names exclude (terms_of name refs rows used many) t) uses most_uses lists' walked
  pub slices : Gathered names rows lists names' rows' lists' mark uses most_uses walked
  pub words_as : WalksAs (visit_term names refs rows used many (most_uses - uses) t) names rows lists names' rows' lists' mark uses walked
