-- Document 02, Change 6: the names that are no free names; and that hiding a name which no line spells, and to which no token is
-- trimmed, changes no answer.
use Rattle.std.specs.Prelude.{ℕ, ◌+◌, ◌<◌, ◌≡◌, ◌≢◌, Bool, not, T, length, get_or, Some as some}
use mathlib.Core.List.{List, [], ◌∷◌, ◌++◌, map, Memᴰ}
use Rattle.model.specs.Lists.{keep}
use Rattle.model.specs.Names.{Name, bytes, starts_with}
use Rattle.model.specs.Lines.{Line, lines, fields, is_name}
use Rattle.model.specs.Terms.{Term}
use Rattle.model.specs.Summaries.{exclude_names, Kinded, Fact, pattern_groups, rule_4, summarize_kind, summarize_assumption}
use Rattle.model.specs.Reading.{Ask, Decl, Summary, Root, State, start, read, excluded, read_lines}
use Rattle.model.specs.Pruning.{try_find, init_macro_freenames}
use Rattle.model.specs.Rounds.{facts, definitions, macros}
use Rattle.model.specs.Outcome.{position}
use Rattle.model.specs.Text.{name_on}
use Rattle.demands.specs.LinesRead.{LinesRead}
use Rattle.demands.specs.Demand2.{kept_list, followed_list}
use Rattle.demands.specs.Counts.{ask_words, hide_words, begins}
use Rattle.demands.specs.Asks.{head_words}
use Rattle.demands.specs.Moved.{moved_position}

-- "Their names join the nine of `exclude_names`": the second fields of the hide lines, in the order of the lines, for all lines that
-- are read
abbrev pub ExcludedExact : Type 0
ExcludedExact =
    (ls : List Line) (s : State) → read_lines exclude_names 1 start ls ≡ read s
    → excluded exclude_names s ≡ exclude_names ++ map (λ line. get_or (fields line.bytes) 1 []) (keep (begins hide_words) ls)

-- "What counts as a free name therefore depends on the file, in summaries, macros, triggers and roots alike": an excluded name is in
-- no record; a disjunct that has it has no other name
pub record NeverFree (s : State) (name : Name) : Type 0 where
  pub in_fact : (f : Fact) → Memᴰ f (facts s.decls) → Memᴰ name f.free_names → ⊥
  pub in_disjunct : (f : Fact) (d : List Name) → Memᴰ f (facts s.decls) → Memᴰ d f.triggers → Memᴰ name d
      → d ≡ name ∷ []
  pub in_definition : (d : Decl) → Memᴰ d (definitions s.decls) → Memᴰ name d.free_names → ⊥
  pub in_root : (r : Root) → Memᴰ r s.roots → Memᴰ name r.free_names → ⊥

abbrev pub ExcludedNeverFree : Type 0
ExcludedNeverFree =
    (file : List ℕ) (s : State) → LinesRead file s → (name : Name) → Memᴰ name (excluded exclude_names s) → NeverFree s name

-- "The tokens of rule 4 .. are not subtracted": the rule gives the same whatever is excluded
abbrev pub TokensKept : Type 0
TokensKept =
    (out out' : List Name) (terms : List Term) (name : Name) (t : ℕ) → rule_4 out terms name t ≡ rule_4 out' terms name t

-- a fact that rule 4 takes files its token, whatever is excluded: one without patterns, whose name does not start as rule 2 asks
abbrev pub TokensFiled : Type 0
TokensFiled =
    (out : List Name) (terms : List Term) (line : ℕ) (name : Name) (pretyping : Bool) (group t : ℕ) (k : Kinded)
    → pattern_groups terms t ≡ [] → T (not (starts_with name (bytes "assumption_"))) → rule_4 [] terms name t ≡ some k
    → (summarize_kind out terms name t ≡ k) × ((summarize_assumption out terms line name pretyping group t).triggers ≡ k.triggers)

-- ".. and the names that the five starting macros open to": a name that no def has opens to what it does at the start
abbrev pub StartingMacrosKept : Type 0
StartingMacrosKept =
    (decls : List Summary) (name : Name) → ((d : Decl) → Memᴰ d (definitions decls) → d.name ≢ name)
    → try_find (macros decls) name ≡ try_find init_macro_freenames name

-- two lists of lines: the second has one more, behind the asks and in the head, which hides this name
pub record OneHides (name : Name) (ls ms : List Line) : Type 0 where
  pub front : List Line
  pub hide_line : Line
  pub others : List Line
  pub without : ls ≡ front ++ others
  pub with_it : ms ≡ front ++ (hide_line ∷ others)
  pub behind_ask : front ≢ []
  pub in_head : (l : Line) → Memᴰ l front → T (begins head_words l)
  pub no_ask : (l : Line) → Memᴰ l others → T (not (begins ask_words l))
  pub ended : T hide_line.ended
  pub hides : fields hide_line.bytes ≡ bytes "hide" ∷ name ∷ []
  pub a_name : T (is_name name)

-- a file that was read spells no such name and trims no token to it, and has room for one name and one record line more
pub record RoomFor (name : Name) (s : State) : Type 0 where
  pub unspelled : Memᴰ name s.names → ⊥
  pub names_left : length s.names < 2048
  pub records_left : length s.hidden + (length s.decls + length s.roots) < 1024

-- the line below
abbrev pub down : ℕ → ℕ
down n = n + 1

-- the second file is read to its end, and every ask has the same list there, one line down, the same names, visits and rounds; so it is
-- of the list without what the bodies of kept definitions add
pub record OneDown (file file' : List ℕ) (s s' : State) : Type 0 where
  pub accepted : LinesRead file' s'
  pub asks : s'.asks ≡ s.asks
  pub listed : (a : Ask) → position s'.decls s'.roots a ≡ moved_position down (position s.decls s.roots a)
  pub followed : (a : Ask) → followed_list a s' ≡ map down (followed_list a s)
  pub kept : (a : Ask) → kept_list a s' ≡ map down (kept_list a s)
  pub followed_named : (a : Ask) → map (name_on file') (followed_list a s') ≡ map (name_on file) (followed_list a s)
  pub named : (a : Ask) → map (name_on file') (kept_list a s') ≡ map (name_on file) (kept_list a s)

-- so it is where the first file is read to its end
abbrev pub UnspelledHidden : Type 0
UnspelledHidden =
    (file file' : List ℕ) (s : State) (name : Name) → LinesRead file s → RoomFor name s → OneHides name (lines file) (lines file')
    → (s' : State) × OneDown file file' s s'
