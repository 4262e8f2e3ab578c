-- Document 02, Change 7: "Each answer equals what the file with only that ask line would give, apart from the line numbers";
-- with Change 11 that of an also line what the file with its chain alone, up to it, would give. And the other way: files of one
-- chain each, with the same lines behind it, make one file that is accepted and answers what they do.
use Rattle.std.specs.Prelude.{ℕ, ◌+◌, ◌≤◌, ◌<◌, ◌≡◌, Bool, not, T, length}
use mathlib.Core.List.{List, ◌∷◌, ◌++◌, Memᴰ}
use Rattle.model.specs.Lines.{Line, lines}
use Rattle.model.specs.Summaries.{exclude_names}
use Rattle.model.specs.Reading.{Ask, State, start, read, read_lines}
use Rattle.model.specs.Outcome.{Lent, Position, lists, position, outcome}
use Rattle.demands.specs.LinesRead.{LinesRead, At}
use Rattle.demands.specs.Demand1.{LinesJudged, all_lengths}
use Rattle.demands.specs.Counts.{ask_words, form_words, also_words, begins}
use Rattle.demands.specs.Moved.{moved_position}

-- the lines of a file: ask and also lines, then lines of which none is either
pub record Day (ls asks others : List Line) : Type 0 where
  pub are : ls ≡ asks ++ others
  pub are_asks : (l : Line) → Memᴰ l asks → T (begins ask_words l)
  pub no_asks : (l : Line) → Memᴰ l others → T (not (begins ask_words l))

-- so are those of every accepted file, with an ask for each ask or also line
abbrev pub AcceptedDay : Type 0
AcceptedDay =
    (file : List ℕ) (s : State) → LinesRead file s
    → (asks : List Line) × (others : List Line) × Day (lines file) asks others × (length asks ≡ length s.asks)

-- a chain among ask and also lines: an ask line and some also lines directly after it
pub record ChainIn (asks : List Line) : Type 0 where
  pub before : List Line
  pub first : Line
  pub further : List Line
  pub after : List Line
  pub are : asks ≡ before ++ ((first ∷ further) ++ after)
  pub is_ask : T (not (begins also_words first))
  pub are_also : (l : Line) → Memᴰ l further → T (begins also_words l)

-- its lines
abbrev pub chain_lines : {asks : List Line} → ChainIn asks → List Line
chain_lines c = c.first ∷ c.further

-- every ask or also line of an accepted file is the last of such a chain
abbrev pub EachChained : Type 0
EachChained =
    (file : List ℕ) (s : State) → LinesRead file s → (asks others : List Line) → Day (lines file) asks others
    → (i : ℕ) → i < length asks → (c : ChainIn asks) × (length c.before + length c.further ≡ i)

-- there is a file with only one chain of the ask and also lines
abbrev pub AloneFile : Type 0
AloneFile =
    (file : List ℕ) (asks others : List Line) → Day (lines file) asks others
    → (c : ChainIn asks) → (file' : List ℕ) × (lines file' ≡ chain_lines c ++ others)

-- what one file asks the other asks from place i on, and every ask comes to the same there, its lines k further down
pub record SameAnswers (i k : ℕ) (s s' : State) : Type 0 where
  pub before : List Ask
  pub after : List Ask
  pub asks : s.asks ≡ before ++ (s'.asks ++ after)
  pub place : length before ≡ i
  pub same : (a : Ask) → position s.decls s.roots a
      ≡ moved_position (λ n. n + k) (position s'.decls s'.roots a)

-- "Each answer equals what the file with only that ask line would give": the file with one chain is accepted, asks what the
-- lines of the chain do, and answers so, its lines further up by the other ask and also lines
abbrev pub AskedAlone : Type 0
AskedAlone =
    (file : List ℕ) (s : State) → LinesRead file s → (asks others : List Line) → Day (lines file) asks others
    → (c : ChainIn asks) (k : ℕ) → length asks ≡ k + length (chain_lines c)
    → (file' : List ℕ) → lines file' ≡ chain_lines c ++ others
    → (s' : State) × LinesRead file' s' × (length s'.asks ≡ length (chain_lines c))
    × SameAnswers (length c.before) k s s'

-- so of outcomes: over the same slices the file with one chain is answered too, with what the other answers at its places
abbrev pub AnsweredAlone : Type 0
AnsweredAlone =
    (file : List ℕ) (works : List Lent) (room : ℕ) (ps : List Position) → outcome file works room ≡ lists ps
    → (asks others : List Line) → Day (lines file) asks others
    → (c : ChainIn asks) (k : ℕ) → length asks ≡ k + length (chain_lines c)
    → (file' : List ℕ) → lines file' ≡ chain_lines c ++ others
    → (ps' : List Position) × (outcome file' works room ≡ lists ps') × (length ps' ≡ length (chain_lines c))
    × ((j : ℕ) (p : Position) → At ps' j p → At ps (length c.before + j) (moved_position (λ n. n + k) p))

-- the first of these lines is an ask
abbrev pub AskFirst : List Line → Type 0
AskFirst asks = (line : Line) (more : List Line) → asks ≡ line ∷ more → T (not (begins also_words line))

-- those of them that are asks are of one form
abbrev pub OneForm : List Line → Type 0
OneForm asks = (grouped : Bool) × ((l : Line) → Memᴰ l asks → T (begins (form_words grouped) l))

-- every chain of them is accepted alone, with the other lines behind it
abbrev pub ChainsRead : List Line → List Line → Type 0
ChainsRead asks others =
    (c : ChainIn asks) → (s' : State) × (read_lines exclude_names 1 start (chain_lines c ++ others) ≡ read s')

-- the other way: up to 16 ask and also lines of one form, each chain accepted alone with these lines behind it, are accepted
-- together, and at its places the answers are those of the file alone
abbrev pub AskedTogether : Type 0
AskedTogether =
    (file : List ℕ) (asks others : List Line) → Day (lines file) asks others → 1 ≤ length asks → length asks ≤ 16
    → AskFirst asks → OneForm asks → ChainsRead asks others
    → (s : State) × LinesRead file s
    × ((c : ChainIn asks) (k : ℕ) (s' : State) → length asks ≡ k + length (chain_lines c)
    → read_lines exclude_names 1 start (chain_lines c ++ others) ≡ read s' → SameAnswers (length c.before) k s s')

-- so of outcomes: over slices that are long enough they are answered, each place with what the file of its chain comes to
abbrev pub AnsweredTogether : Type 0
AnsweredTogether =
    (file : List ℕ) (works : List Lent) (room : ℕ) → LinesJudged file works
    → (asks others : List Line) → Day (lines file) asks others → 1 ≤ length asks → length asks ≤ 16
    → AskFirst asks → OneForm asks → ChainsRead asks others
    → ((s : State) → LinesRead file s → all_lengths s ≤ room)
    → (ps : List Position) × (outcome file works room ≡ lists ps) × (length ps ≡ length asks)
    × ((c : ChainIn asks) (k : ℕ) (s' : State) → length asks ≡ k + length (chain_lines c)
    → read_lines exclude_names 1 start (chain_lines c ++ others) ≡ read s' → (j : ℕ) (a : Ask) → At s'.asks j a
    → At ps (length c.before + j) (moved_position (λ n. n + k) (position s'.decls s'.roots a)))
