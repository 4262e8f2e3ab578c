-- Document 02, Change 14, for every two accepted files: "The sequence of the export is no matter". What may differ are the line
-- numbers, the order of the ambients (last filed first) and, with it and with that of the roots, the order of the definitions and
-- declarations.
use Rattle.std.specs.Prelude.{ℕ, ◌≡◌, ◌↔◌, Bool, not, ◌&&◌}
use mathlib.Core.List.{List, ◌∷◌, map, Memᴰ, Permᴰ}
use Rattle.model.specs.Lists.{keep}
use Rattle.model.specs.Names.{Name}
use Rattle.model.specs.Lines.{Line, lines}
use Rattle.model.specs.Summaries.{Fact}
use Rattle.model.specs.Reading.{Ask, State}
use Rattle.model.specs.Rounds.{facts}
use Rattle.model.specs.Kept.{reached_facts}
use Rattle.model.specs.Outcome.{position, filtered}
use Rattle.model.specs.Text.{name_on}
use Rattle.demands.specs.LinesRead.{LinesRead, records_for, At}
use Rattle.demands.specs.Demand2.{kept_list, followed_list}
use Rattle.demands.specs.Demand3.{run_of}
use Rattle.demands.specs.Counts.{record_words, hide_words, begins}

-- whether a line may stand elsewhere: a record line that is no hide line
unfoldable pub moves : Line → Bool
moves line = begins record_words line && not (begins hide_words line)

-- "whose ask, also, hide and term lines are the same and in the same sequence, and whose other record lines are the same lines
-- rearranged", possibly across term lines
pub record Rearranged (ls ms : List Line) : Type 0 where
  pub fixed : keep (λ l. not (moves l)) ls ≡ keep (λ l. not (moves l)) ms
  pub moved : Permᴰ (keep moves ls) (keep moves ms)

-- the facts that an ask reaches, as listed
abbrev pub reached_for : Ask → State → List Fact
reached_for a s = reached_facts (facts (records_for a s)) (run_of a s).reached

-- a number stands before another in a list
pub data StandsBefore : List ℕ → ℕ → ℕ → Type 0 where
  first : {m n : ℕ} {l : List ℕ} → Memᴰ n l → StandsBefore (m ∷ l) m n
  later : {k m n : ℕ} {l : List ℕ} → StandsBefore l m n → StandsBefore (k ∷ l) m n

-- a reached fact of one file and that of the other: two facts of one name
pub record ReachedPair (a : Ask) (s s' : State) (f f' : Fact) : Type 0 where
  pub here : Memᴰ f (reached_for a s)
  pub there : Memᴰ f' (reached_for a s')
  pub one_name : f.name ≡ f'.name

-- the names on the lines of one file are, as a set, those on the lines of the other
abbrev pub SameSet : List ℕ → List ℕ → List ℕ → List ℕ → Type 0
SameSet file file' ls ms = (k : Name) → Memᴰ k (map (name_on file) ls) ↔ Memᴰ k (map (name_on file') ms)

-- what an ask comes to over the one file and over the other
pub record SameAnswer (file file' : List ℕ) (s s' : State) (a : Ask) : Type 0 where
  -- "the kept names are equal as sets", with what bodies add and without it
  pub names : SameSet file file' (followed_list a s) (followed_list a s')
  pub plain_names : SameSet file file' (kept_list a s) (kept_list a s')
  -- "and the visits and rounds are equal, for every ask and also line"
  pub visits : (position s.decls s.roots a).visits ≡ (position s'.decls s'.roots a).visits
  pub rounds : (position s.decls s.roots a).rounds ≡ (position s'.decls s'.roots a).rounds
  -- the reached facts are those of the same names, in the same order
  pub reached : map (λ (f : Fact). f.name) (reached_for a s) ≡ map (λ (f : Fact). f.name) (reached_for a s')
  -- "two reached facts never trade places in the list"
  pub no_trade : (f f' g g' : Fact) → ReachedPair a s s' f f' → ReachedPair a s s' g g'
      → StandsBefore (followed_list a s) f.line g.line → StandsBefore (followed_list a s') f'.line g'.line

-- the asks are the same, and every ask comes to the same over both
abbrev pub SequenceNoMatter : Type 0
SequenceNoMatter =
    (file file' : List ℕ) (s s' : State) → LinesRead file s → LinesRead file' s' → Rearranged (lines file) (lines file')
    → (s.asks ≡ s'.asks) × ((a : Ask) → SameAnswer file file' s s' a)

-- a place of the one file and of the other: the same is asked there, and what it comes to stands there in both
pub record SamePlace (file file' : List ℕ) (s s' : State) (i : ℕ) (a : Ask) : Type 0 where
  pub asked : At s'.asks i a
  pub here : At (filtered s) i (position s.decls s.roots a)
  pub there : At (filtered s') i (position s'.decls s'.roots a)
  pub answer : SameAnswer file file' s s' a

-- so it is at each place
abbrev pub SameAtPlaces : Type 0
SameAtPlaces =
    (file file' : List ℕ) (s s' : State) → LinesRead file s → LinesRead file' s' → Rearranged (lines file) (lines file')
    → (i : ℕ) (a : Ask) → At s.asks i a → SamePlace file file' s s' i a
