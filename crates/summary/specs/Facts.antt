-- The summary of a fact in the lent slices: its trigger entries from word `entries_base` of `lists` on, behind those of the facts
-- before it; its free names from word 0 on, behind theirs.
use Rattle.std.specs.Prelude.{ℕ, ◌+◌, ◌≤◌, ◌<◌, ◌≡◌, cond, List, map, length, get_or, ltb, Result, Ok, Err}
use Rattle.model.specs.Lists.{fold_left, part}
use Rattle.model.specs.Names.{Name, from_list}
use Rattle.model.specs.Reading.{most_names, most_terms, most_entries, most_uses, spell}
use Rattle.model.specs.Outcome.{working_words}
use Rattle.model.specs.Summaries.{Kinded, entries, free_top_level_names, summarize_kind}
use Rattle.model.specs.declared.AsumKind.TheVariants.{Triggers}
use Rattle.names.specs.Table.{Tells, name_of, table_names}
use Rattle.words.specs.Slices.{word_limit, SameBut}
use Rattle.gather.specs.Sets.{name_mark_column, row_mark_column, Fresh}
use Rattle.rules.specs.Views.{Tables, terms_in}
use Rattle.rules.specs.Choices.{kind_choice}
use Rattle.rules.specs.declared.Choice.{Choice}
use Rattle.triggers.specs.Entries.{entries_base, entries_column_end, disjuncts_of, Entries}
use Rattle.summary.specs.declared.Limit.{Limit}
use Rattle.summary.specs.declared.Limit.TheVariants as limit
use Rattle.summary.specs.declared.Summary.{Summary}

-- what summarising a fact asks: its name and term are of the tables, the marks there are below the next one and there are marks
-- left, the lists so far are within their limits, and `lists` has room for them
pub record Asked (file names refs rows lists : List ℕ) (named used many name t mark filed uses : ℕ) : Type 0 where
  pub tables : Tables file names refs rows named used many
  pub fact : name < named
  pub term : t < many
  pub fresh : Fresh names rows mark
  pub few_marks : mark + working_words < word_limit
  pub few_entries : filed ≤ most_entries
  pub few_uses : uses ≤ most_uses
  pub room : working_words ≤ length lists

-- what its rule gathers
unfoldable pub fact_choice : List ℕ → List ℕ → List ℕ → List ℕ → ℕ → ℕ → ℕ → ℕ → ℕ → Choice
fact_choice file names refs rows named used many name t =
    kind_choice (terms_in file names refs rows used many) rows (name_of file names name) t

module _ (exclude : List Name) (file names refs rows : List ℕ) (named used many name t : ℕ) where
  -- the fact's kind and disjuncts
  unfoldable pub fact_kind : Kinded
  fact_kind = summarize_kind exclude (terms_in file names refs rows used many) (name_of file names name) t

  -- the fact's free names
  unfoldable pub fact_names : List Name
  fact_names = free_top_level_names exclude (terms_in file names refs rows used many) t

  -- the names of the table, with the one that rule 4 trims off the fact's token
  unfoldable pub names_then : List Name
  names_then = fold_left spell (table_names file names named) fact_kind.trimmed

  -- the fact's summary, were there no limits
  unfoldable pub fact_summary : ℕ → ℕ → ℕ → Summary
  fact_summary mark filed uses =
      let more = entries fact_kind.triggers in
      record {
        kind = fact_kind.kind;
        entries = filed + more;
        uses = uses + length fact_names;
        named = length names_then;
        mark = mark + 2 + more;
      }

  -- the lists of a summary in the slices, behind `filed` entries and `uses` uses: its disjuncts, one entry or more for each, and
  -- its free names; the tables then: the names, of which those before keep theirs and are excluded as before, and the same terms;
  -- all marks are below the next one
  pub record Lists (names' rows' lists' : List ℕ) (filed uses : ℕ) (s : Summary) : Type 0 where
    pub disjuncts : disjuncts_of (name_of file names') (part lists' (entries_base + filed) (entries_base + s.entries)) ≡ fact_kind.triggers
    pub entry_words : Entries s.named (part lists' (entries_base + filed) (entries_base + s.entries))
    pub few_sets : (m : ℕ) → s.kind ≡ Triggers m → m + filed ≤ s.entries
    pub free_names : from_list (map (name_of file names') (part lists' uses s.uses)) ≡ fact_names
    pub use_words : (i : ℕ) → uses ≤ i → i < s.uses → get_or lists' i 0 < named
    pub tables : Tables file names' refs rows' s.named used many
    pub spelled : table_names file names' s.named ≡ names_then
    pub more : named ≤ s.named
    pub same_names : (n : ℕ) → n < named → name_of file names' n ≡ name_of file names n
    pub told : Tells file names names' named s.named
    pub same_terms : terms_in file names' refs rows' used many ≡ terms_in file names refs rows used many
    pub fresh : Fresh names' rows' s.mark

-- a summary, or the first limit that it passes
unfoldable pub limited : Summary → Result Summary Limit
limited s =
    cond (ltb most_names s.named) (Err limit.Names)
    (cond (ltb most_entries s.entries) (Err limit.Entries)
    (cond (ltb most_uses s.uses) (Err limit.Uses) (Ok s)))

-- what of the slices may change: of the names the columns of the table and the marks, of the rows the marks, of `lists` the room
-- for uses and for entries behind those of the facts before
pub record Slices (names rows lists names' rows' lists' : List ℕ) (filed uses : ℕ) : Type 0 where
  pub name_words : SameBut 0 (name_mark_column + most_names) names names'
  pub row_words : SameBut row_mark_column most_terms rows rows'
  pub lists_length : length lists' ≡ length lists
  pub lists_words : (i : ℕ) → (uses ≤ i → i < most_uses → ⊥) → (entries_base + filed ≤ i → i < entries_column_end → ⊥) → get_or lists' i 0 ≡ get_or lists i 0
