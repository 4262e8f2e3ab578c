-- The tables as the state of `model`: the asks, the hidden names, the background, the roots and the counts.
use Rattle.std.specs.Prelude.{ℕ, zero, suc, ◌+◌, Bool, false, cond, ◌&&◌, List, [], ◌∷◌, ◌++◌, map, eqb, ltb}
use Rattle.model.specs.Lists.{part}
use Rattle.model.specs.Names.{Name, from_list}
use Rattle.model.specs.Summaries.{Fact, exclude_names}
use Rattle.model.specs.Reading.{Decl, Summary, sum_assume, sum_definefun, sum_declfun, sum_retain, Root, Ask, State, with_query}
use Rattle.model.specs.Rounds.{admits, background}
use Rattle.model.specs.declared.Asked.{Asked}
use Rattle.model.specs.declared.Counts.{Counts}
use Rattle.names.specs.Table.{name_of, table_names}
use Rattle.rules.specs.Views.{terms_in}
use Rattle.triggers.specs.Entries.{disjuncts_of, entries_base}
use Rattle.options.specs.OptionsOf.{asks}
use Rattle.records.specs.Columns.{record_kind, record_line, record_name, record_flag, uses_start, uses_end, entries_start, entries_end, summary_code, record_group, assume_kind, kind_of_code, ask_query, ask_options, ask_kind, ask_groups, also_kind}

-- the numbers of the free names of a record
abbrev pub uses_at : List ℕ → List ℕ → ℕ → List ℕ
uses_at recs lists i = part lists (uses_start recs i) (uses_end recs i)

-- the words of the trigger entries of a record
abbrev pub entries_at : List ℕ → List ℕ → ℕ → List ℕ
entries_at recs lists i = part lists (entries_base + entries_start recs i) (entries_base + entries_end recs i)

module _ (name : ℕ → Name) (recs lists : List ℕ) (i : ℕ) where
  -- the free names of a record
  unfoldable pub free_at : List Name
  free_at = from_list (map name (uses_at recs lists i))

  -- the fact that a record is
  unfoldable pub fact_at : Fact
  fact_at = record {
    line = record_line recs i;
    name = name (record_name recs i);
    free_names = free_at;
    pretyping = eqb (record_flag recs i) 1;
    group = record_group recs i;
    kind = kind_of_code (summary_code recs i);
    triggers = disjuncts_of name (entries_at recs lists i);
  }

  -- the definition or declaration that a record is
  unfoldable pub decl_at : List Name → Decl
  decl_at free = record { line = record_line recs i; name = name (record_name recs i); free_names = free }

  -- what a record of a kind adds to the background
  unfoldable pub summary_at : ℕ → List Summary
  summary_at zero = sum_assume fact_at ∷ []
  summary_at (suc zero) = sum_declfun (decl_at []) ∷ []
  summary_at (suc (suc zero)) = sum_definefun (decl_at free_at) ∷ []
  summary_at (suc (suc (suc zero))) = sum_retain ∷ []
  summary_at (suc (suc (suc (suc k)))) = []

  -- the root that a record of a kind is
  unfoldable pub root_at : ℕ → List Root
  root_at zero = []
  root_at (suc zero) = []
  root_at (suc (suc zero)) = []
  root_at (suc (suc (suc zero))) = []
  root_at (suc (suc (suc (suc zero)))) =
      record { line = record_line recs i; query = record_flag recs i; name = name (record_name recs i); free_names = free_at } ∷ []
  root_at (suc (suc (suc (suc (suc k))))) = []

-- the number of the name that a record of a kind hides
unfoldable pub hides_at : List ℕ → ℕ → ℕ → List ℕ
hides_at recs i zero = []
hides_at recs i (suc zero) = []
hides_at recs i (suc (suc zero)) = []
hides_at recs i (suc (suc (suc zero))) = []
hides_at recs i (suc (suc (suc (suc zero)))) = []
hides_at recs i (suc (suc (suc (suc (suc k))))) = record_name recs i ∷ []

-- the numbers of the names that the records before the n-th hide
unfoldable pub hides_of : List ℕ → ℕ → List ℕ
hides_of recs zero = []
hides_of recs (suc n) = hides_of recs n ++ hides_at recs n (record_kind recs n)

-- these names
abbrev pub hidden_of : (ℕ → Name) → List ℕ → ℕ → List Name
hidden_of name recs n = map name (hides_of recs n)

-- the names that are not free names then
abbrev pub excluded_of : (ℕ → Name) → List ℕ → ℕ → List Name
excluded_of name recs n = exclude_names ++ hidden_of name recs n

module _ (name : ℕ → Name) (recs lists : List ℕ) where
  -- the background of the records before the n-th
  unfoldable pub decls_of : ℕ → List Summary
  decls_of zero = []
  decls_of (suc n) = decls_of n ++ summary_at name recs lists n (record_kind recs n)

  -- the roots among them
  unfoldable pub roots_of : ℕ → List Root
  roots_of zero = []
  roots_of (suc n) = roots_of n ++ root_at name recs lists n (record_kind recs n)

  -- the background of an ask among the records before the n-th
  abbrev pub background_of : Ask → ℕ → List Summary
  background_of a n = background a (decls_of n)

-- whether a record is a fact that an ask admits
unfoldable pub takes_part : List ℕ → Ask → ℕ → Bool
takes_part recs a i = eqb (record_kind recs i) assume_kind && admits a (record_group recs i)

-- whether a position is that of an also line; the first is none
unfoldable pub also_at : List ℕ → ℕ → Bool
also_at recs zero = false
also_at recs (suc n) = eqb (ask_kind recs (suc n)) also_kind

-- what is asked at a position: that of its ask line, or one query more than at the position before
unfoldable pub ask_at : List ℕ → ℕ → Ask
ask_at recs zero = asks (ask_query recs 0 ∷ []) (ask_options recs 0) (ask_groups recs 0)
ask_at recs (suc n) =
    let more = with_query (ask_query recs (suc n)) (ask_at recs n) in
    cond (also_at recs (suc n)) more (asks (ask_query recs (suc n) ∷ []) (ask_options recs (suc n)) (ask_groups recs (suc n)))

-- the asks before the n-th position
unfoldable pub asks_of : List ℕ → ℕ → List Ask
asks_of recs zero = []
asks_of recs (suc n) = asks_of recs n ++ (ask_at recs n ∷ [])

-- the queries of the positions from `first` on before the n-th, the last first
unfoldable pub queries_of : List ℕ → ℕ → ℕ → List ℕ
queries_of recs first zero = []
queries_of recs first (suc n) = let before = queries_of recs first n in cond (ltb n first) [] (ask_query recs n ∷ before)

-- what a run is asked
abbrev pub ask_of : List ℕ → Asked → Ask
ask_of recs a = asks (queries_of recs a.first a.end) a.options a.groups

-- where the chain of a position starts: at the last ask line
unfoldable pub first_at : List ℕ → ℕ → ℕ
first_at recs zero = zero
first_at recs (suc n) = let before = first_at recs n in cond (also_at recs (suc n)) before (suc n)

-- what a run is asked at a position
abbrev pub asked_at : List ℕ → ℕ → Asked
asked_at recs i =
    let first = first_at recs i in
    record { first = first; end = i + 1; options = ask_options recs first; groups = ask_groups recs first }

-- the tables as the state of `model`
unfoldable pub state_of : List ℕ → List ℕ → List ℕ → List ℕ → List ℕ → List ℕ → Counts → State
state_of file names refs rows recs lists k =
    record {
      asks = asks_of recs k.asks;
      grouped = k.grouped;
      hidden = hidden_of (name_of file names) recs k.records;
      terms = terms_in file names refs rows k.references k.terms;
      names = table_names file names k.names;
      decls = decls_of (name_of file names) recs lists k.records;
      roots = roots_of (name_of file names) recs lists k.records;
      references = k.references;
      entries = k.entries;
      uses = k.uses;
    }
