-- Document 02, Change 13: "A fact of a group not admitted is read, its name is taken and it counts towards every limit, but for that
-- ask it is not retainable, is no ambient root, and is neither filed, scanned nor kept"; "The older form reads as group 0 with all
-- groups admitted". What is read, taken and counted is said of all facts (Demand1, Counts, FileOrder).
use Rattle.std.specs.Prelude.{ℕ, ◌≤◌, ◌≡◌, Bool, cond, not, T, eqb, get_or, Some as some}
use Prim.Native.String.{String}
use mathlib.Core.List.{List, [], ◌∷◌, ◌++◌, map, Memᴰ}
use Rattle.model.specs.Lists.{keep}
use Rattle.model.specs.Names.{bytes, mem}
use Rattle.model.specs.Lines.{Line, lines, Field, fields, number}
use Rattle.model.specs.Summaries.{exclude_names, Fact}
use Rattle.model.specs.Reading.{Ask, Summary, sum_assume, Root, State, start, read, read_lines}
use Rattle.model.specs.Rounds.{facts, definitions, declarations, admits, background, ambient_roots}
use Rattle.model.specs.Outcome.{Lent, Position, lists, position, filtered, outcome}
use Rattle.demands.specs.LinesRead.{LinesRead, records_for, Pairwise}
use Rattle.demands.specs.LineForm.{value}
use Rattle.demands.specs.Demand2.{followed_list}
use Rattle.demands.specs.Demand3.{run_of}
use Rattle.demands.specs.Counts.{grouped_words, begins}
use Rattle.demands.specs.Also.{chain_of}

-- the lines that state a fact
unfoldable pub assume_words : List String
assume_words = "assume" ∷ []

-- the flag of an assume line: its third field is 1
unfoldable pub flag_on : Line → Bool
flag_on line = eqb (value (get_or (fields line.bytes) 2 [])) 1

-- its group: its fourth field in the form with groups; "The older form reads as group 0"
unfoldable pub group_on : Bool → Line → ℕ
group_on grouped line = cond grouped (value (get_or (fields line.bytes) 3 [])) 0

-- "Every filed fact's record now holds its group": the groups of the facts are those of the assume lines, in the order of the lines,
-- wherever a file is read up to
abbrev pub GroupsExact : Type 0
GroupsExact =
    (ls : List Line) (s : State) → read_lines exclude_names 1 start ls ≡ read s
    → map (λ (f : Fact). f.group) (facts s.decls) ≡ map (group_on s.grouped) (keep (begins assume_words) ls)

-- so are the flags
abbrev pub FlagsExact : Type 0
FlagsExact =
    (ls : List Line) (s : State) → read_lines exclude_names 1 start ls ≡ read s
    → map (λ (f : Fact). f.pretyping) (facts s.decls) ≡ map flag_on (keep (begins assume_words) ls)

-- the records that an ask has to do with: of the facts those that it admits, in the order of the file, and every def and fun
pub record Admitted (a : Ask) (s : State) : Type 0 where
  pub admitted_facts : facts (records_for a s) ≡ keep (λ (f : Fact). admits a f.group) (facts s.decls)
  pub all_definitions : definitions (records_for a s) ≡ definitions s.decls
  pub all_declarations : declarations (records_for a s) ≡ declarations s.decls

abbrev pub RecordsAdmitted : Type 0
RecordsAdmitted = (a : Ask) (s : State) → Admitted a s

-- what an ask comes to depends on no other record: two lists of records with one background give it one answer
abbrev pub BackgroundOnly : Type 0
BackgroundOnly =
    (a : Ask) (decls decls' : List Summary) (roots : List Root) → background a decls ≡ background a decls'
    → position decls roots a ≡ position decls' roots a

-- so the list, the visits and the rounds of an ask are as if a fact that it does not admit were not there: the fact is "neither
-- filed, scanned nor kept"
abbrev pub NotThere : Type 0
NotThere =
    (a : Ask) (before after : List Summary) (f : Fact) (roots : List Root) → T (not (admits a f.group))
    → position (before ++ (sum_assume f ∷ after)) roots a ≡ position (before ++ after) roots a

-- a fact of a file that was read which has no part in what an ask comes to
pub record LeftOut (a : Ask) (s : State) (f : Fact) : Type 0 where
  -- "neither filed": the rounds and the visits are over the facts that the ask admits
  pub not_filed : Memᴰ f (facts (records_for a s)) → ⊥
  -- "is no ambient root"
  pub no_ambient_root : Memᴰ f (ambient_roots a (facts (records_for a s))) → ⊥
  -- "not retainable": neither a fresh run nor a chain reaches it
  pub not_reached : T (not (mem f.name (run_of a s).reached))
  pub not_in_chain : T (not (mem f.name (chain_of a s).reached))
  -- "nor kept"
  pub not_kept : Memᴰ f.line (followed_list a s) → ⊥

-- so is every fact of a group that the ask does not admit
abbrev pub NotAdmittedLeftOut : Type 0
NotAdmittedLeftOut =
    (file : List ℕ) (s : State) → LinesRead file s → (a : Ask) (f : Fact) → Memᴰ f (facts s.decls)
    → T (not (admits a f.group)) → LeftOut a s f

-- an ask with all sixteen groups has to do with every record
abbrev pub AllAdmitted : Type 0
AllAdmitted =
    (a : Ask) (decls : List Summary) → a.groups ≡ 65535 → ((f : Fact) → Memᴰ f (facts decls) → f.group ≤ 15)
    → background a decls ≡ decls

-- "The older form reads as group 0 with all groups admitted", so over a file of it every ask has to do with every record
pub record AsOlder (s : State) : Type 0 where
  pub group_0 : (f : Fact) → Memᴰ f (facts s.decls) → f.group ≡ 0
  pub all_groups : (a : Ask) → Memᴰ a s.asks → a.groups ≡ 65535
  pub all_records : (a : Ask) → Memᴰ a s.asks → records_for a s ≡ s.decls

abbrev pub OlderForm : Type 0
OlderForm = (file : List ℕ) (s : State) → LinesRead file s → T (not s.grouped) → AsOlder s

-- the lines of the form with groups that have a group field
unfoldable pub group_words : List String
group_words = "ask2" ∷ "assume" ∷ []

-- a line of the form with groups, and the line of the older form with the group field left out; any other line as it is
pub data WithoutGroup : Line → Line → Type 0 where
  of_ask : {l m : Line} {q options groups : Field} → l.ended ≡ m.ended
      → fields l.bytes ≡ bytes "ask2" ∷ q ∷ options ∷ groups ∷ []
      → fields m.bytes ≡ bytes "ask" ∷ q ∷ options ∷ []
      → WithoutGroup l m
  of_fact : {l m : Line} {name flag group t : Field} → l.ended ≡ m.ended
      → fields l.bytes ≡ bytes "assume" ∷ name ∷ flag ∷ group ∷ t ∷ []
      → fields m.bytes ≡ bytes "assume" ∷ name ∷ flag ∷ t ∷ []
      → WithoutGroup l m
  as_it_is : {l : Line} → T (not (begins group_words l)) → WithoutGroup l l

-- a file of the form with groups that is read and whose asks admit all groups: left out of it the group fields make a file of the
-- older form that is read too, asks the same and is answered the same, line for line
abbrev pub GroupsLeftOut : Type 0
GroupsLeftOut =
    (file file' : List ℕ) (s : State) → LinesRead file s → T s.grouped
    → ((a : Ask) → Memᴰ a s.asks → a.groups ≡ 65535) → Pairwise WithoutGroup (lines file) (lines file')
    → (s' : State) × LinesRead file' s' × T (not s'.grouped) × (s'.asks ≡ s.asks) × (filtered s' ≡ filtered s)

-- there is such a file
abbrev pub WithoutGroupsFile : Type 0
WithoutGroupsFile =
    (file : List ℕ) (s : State) → LinesRead file s → T s.grouped
    → (file' : List ℕ) × Pairwise WithoutGroup (lines file) (lines file')

-- so of calls: over the same slices the file without the group fields is answered with the same
abbrev pub AnsweredWithoutGroups : Type 0
AnsweredWithoutGroups =
    (file file' : List ℕ) (works : List Lent) (room : ℕ) (ps : List Position) (s : State) → outcome file works room ≡ lists ps
    → LinesRead file s → T s.grouped → ((a : Ask) → Memᴰ a s.asks → a.groups ≡ 65535)
    → Pairwise WithoutGroup (lines file) (lines file') → outcome file' works room ≡ lists ps

-- the ask lines of the older form
unfoldable pub older_words : List String
older_words = "ask" ∷ []

-- a line as it may be in the form with groups: no ask line of the older form, an ask line with all groups, a fact of one of the 16
pub record AllGroups (l : Line) : Type 0 where
  pub no_older_ask : T (not (begins older_words l))
  pub ask_groups : T (begins grouped_words l) → number (get_or (fields l.bytes) 3 []) ≡ some 65535
  pub fact_group : T (begins assume_words l) → (k : ℕ) × (number (get_or (fields l.bytes) 3 []) ≡ some k) × (k ≤ 15)

-- the other way: put into a file of the older form that is read, all groups for its asks and any one for each of its facts, the group
-- fields make a file of the form with groups that is read too, asks the same and is answered the same, line for line
abbrev pub GroupsPutIn : Type 0
GroupsPutIn =
    (file file' : List ℕ) (s' : State) → LinesRead file' s' → Pairwise WithoutGroup (lines file) (lines file')
    → ((l : Line) → Memᴰ l (lines file) → AllGroups l)
    → (s : State) × LinesRead file s × T s.grouped × (s.asks ≡ s'.asks) × (filtered s ≡ filtered s')
