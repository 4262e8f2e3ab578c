-- Every word of the slices after summarising a fact: its disjuncts filed as its rule chooses, then its free names.
use Rattle.std.specs.Prelude.{ℕ, ◌+◌, ◌-◌, ◌≡◌, true, cond, List, [], ◌∷◌, length, ltb, Option, None as none, Some as some, Result}
use Rattle.model.specs.Lists.{◌>>=◌, part}
use Rattle.model.specs.Names.{bytes, ends_with}
use Rattle.model.specs.Reading.{most_uses}
use Rattle.names.specs.Table.{name_start, name_length, name_of, table_names, look_up, spell_answer, spell_table}
use Rattle.names.specs.declared.Spelled.{Spelled}
use Rattle.names.specs.declared.Spelled.TheVariants as spelled
use Rattle.terms.specs.Rows.{row_start, row_end, terms_of_words}
use Rattle.gather.specs.Sets.{name_mark_column, row_mark_column}
use Rattle.gather.specs.Visits.{visit_term, marked_at, put}
use Rattle.rules.specs.declared.Choice.{Choice}
use Rattle.rules.specs.declared.Choice.TheVariants as choice
use Rattle.triggers.specs.Entries.{entries_base, entries_column_end, last_flag}
use Rattle.triggers.specs.Filings.{FilingState, filing, file_list, file_groups, file_parts, ask_empty}
use Rattle.summary.specs.Facts.{fact_choice}

-- where the name that a token trims to ends in the file
abbrev pub trimmed_end : List ℕ → ℕ → ℕ
trimmed_end names n = name_start names n + name_length names n - 4

-- what looking that name up finds
abbrev pub trimmed_found : List ℕ → List ℕ → ℕ → ℕ → Result ℕ ℕ
trimmed_found file names named n = look_up (table_names file names named) (part file (name_start names n) (trimmed_end names n))

-- the slice of names with the name that a token ending in @tok trims to
unfoldable pub token_table : List ℕ → List ℕ → ℕ → ℕ → List ℕ
token_table file names named n =
    let trimmed = spell_table file names named (name_start names n) (trimmed_end names n) (trimmed_found file names named n) in
    cond (ends_with (name_of file names n) (bytes "@tok")) trimmed names

-- the number of a spelled name: a full table has none for it
unfoldable pub spelled_number : Spelled → Option ℕ
spelled_number (spelled.Known n) = some n
spelled_number (spelled.New n) = some n
spelled_number spelled.Full = none

-- the entries of a token: its own, and that of the name that it trims to; none where the name table is full
unfoldable pub token_words : List ℕ → List ℕ → ℕ → ℕ → Option (List ℕ)
token_words file names named n =
    let trimmed = spelled_number (spell_answer named (trimmed_found file names named n)) in
    cond (ends_with (name_of file names n) (bytes "@tok"))
    (trimmed >>= λ m. some ((n + last_flag) ∷ (m + last_flag) ∷ []))
    (some ((n + last_flag) ∷ []))

-- no more is filed
unfoldable pub stopped : FilingState → FilingState
stopped f = record { names = f.names; rows = f.rows; lists = f.lists; mark = f.mark; end = f.end; full = true }

-- these entries, if there are such and all have room; else nothing is written, and filing stops
unfoldable pub file_words : FilingState → Option (List ℕ) → FilingState
file_words f none = stopped f
file_words f (some ws) =
    cond (ltb entries_column_end (f.end + length ws)) (stopped f)
    (filing f.names f.rows (put f.end ws f.lists) (f.mark + length ws) (f.end + length ws))

-- a token, by its name's number: the name that it trims to enters the name table
unfoldable pub file_token : List ℕ → ℕ → FilingState → ℕ → FilingState
file_token file named f n =
    let names = token_table file f.names named n in
    file_words (filing names f.rows f.lists f.mark f.end) (token_words file f.names named n)

module _ (refs : List ℕ) (used many : ℕ) where
  -- the triggers of a refinement's payload, where they are not empty; that is asked under a mark of its own
  unfoldable pub file_refinement : ℕ → FilingState → ℕ → FilingState
  file_refinement mark f t =
      let walk = ask_empty refs used many f.names f.rows t in
      let asked = filing f.names (marked_at row_mark_column mark walk.walked f.rows) f.lists f.mark f.end in
      let more = file_groups refs used many asked t in
      cond walk.full more asked

  -- what a choice gathers
  unfoldable pub file_choice : List ℕ → ℕ → ℕ → FilingState → Choice → FilingState
  file_choice file named mark f (choice.One t) = file_list refs used many f (t ∷ [])
  file_choice file named mark f (choice.Two t u) = file_list refs used many (file_list refs used many f (t ∷ [])) (u ∷ [])
  file_choice file named mark f (choice.Groups t) = file_groups refs used many f t
  file_choice file named mark f (choice.Refinement t) = file_refinement mark f t
  file_choice file named mark f (choice.Token n) = file_token file named f n
  file_choice file named mark f choice.Nothing = f
  file_choice file named mark f (choice.Parts t) =
      file_parts refs used many f (terms_of_words (part refs (row_start f.rows t) (row_end f.rows used many t)))
  file_choice file named mark f choice.Drop = f
  file_choice file named mark f choice.Ambient = f

  -- the free names of a term, from word `uses` of `lists` on; nothing once filing has stopped
  unfoldable pub file_uses : ℕ → FilingState → ℕ → FilingState
  file_uses uses f t =
      let walk = visit_term f.names refs f.rows used many (most_uses - uses) t in
      let more : FilingState = record {
        names = marked_at name_mark_column f.mark walk.found f.names;
        rows = marked_at row_mark_column f.mark walk.walked f.rows;
        lists = put uses walk.found f.lists;
        mark = f.mark + 1;
        end = f.end;
        full = walk.full;
      } in
      cond f.full f more

  -- a fact, of the number of its name and its term: `filed` entries and `uses` uses stand before its own
  unfoldable pub file_fact : List ℕ → List ℕ → List ℕ → List ℕ → ℕ → ℕ → ℕ → ℕ → ℕ → ℕ → FilingState
  file_fact file names rows lists named name t mark filed uses =
      let chosen = fact_choice file names refs rows named used many name t in
      file_uses uses (file_choice file named mark (filing names rows lists (mark + 1) (entries_base + filed)) chosen) t

-- every word of the slices
pub record Written (f : FilingState) (names' rows' lists' : List ℕ) : Type 0 where
  pub name_words : names' ≡ f.names
  pub row_words : rows' ≡ f.rows
  pub lists_words : lists' ≡ f.lists
