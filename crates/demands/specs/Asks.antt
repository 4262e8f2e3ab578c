-- The head of a file: document 02, Change 7: 1 to 16 ask lines first, each with a query and options in their ranges; Change 11:
-- also lines directly after ask or also lines, counted with them; Change 6: hide lines directly after all these; Change 13: "All
-- ask lines of a file are of the first one's form". A line that may not stand is refused with 1 as one of an unknown kind
-- (LineForm).
use Rattle.std.specs.Prelude.{ℕ, suc, ◌≤◌, ◌≡◌, ◌↔◌, Bool, cond, not, T, length, get_or, Some as some}
use Prim.Native.String.{String}
use mathlib.Core.List.{List, [], ◌∷◌, ◌++◌, Memᴰ}
use Rattle.model.specs.Lists.{any}
use Rattle.model.specs.Names.{bytes}
use Rattle.model.specs.Lines.{Line, lines, Field, fields}
use Rattle.model.specs.Summaries.{exclude_names}
use Rattle.model.specs.Reading.{kinds, word, Ask, State, start, read, place, may_stand, read_lines}
use Rattle.model.specs.declared.LineKind.{LineKind}
use Rattle.model.specs.Also.{with_queries}
use Rattle.demands.specs.LinesRead.{LinesRead, At}
use Rattle.demands.specs.LineForm.{value}
use Rattle.demands.specs.Demand1.{ReachedLine, ask_word}
use Rattle.demands.specs.Counts.{ask_words, form_words, grouped_words, also_words, hide_words, begins}

-- the lines of the head
unfoldable pub head_words : List String
head_words = ask_words ++ hide_words

-- where a kind may stand, after these lines: `ask` after `ask` and also lines alone, `ask2` after `ask2` and also lines alone,
-- `also` after ask and also lines alone; on line 1 `ask` or `ask2` and nothing else; `hide` after ask, also and hide lines alone
pub record PlacedKind (n : ℕ) (before : List Line) (f : Field) : Type 0 where
  pub ask_in_asks : (grouped : Bool) → f ≡ bytes (ask_word grouped)
      → (l : Line) → Memᴰ l before → T (begins (form_words grouped) l)
  pub also_in_asks : f ≡ bytes "also" → (l : Line) → Memᴰ l before → T (begins ask_words l)
  pub first_ask : n ≡ 1 → (grouped : Bool) × (f ≡ bytes (ask_word grouped))
  pub hide_in_head : f ≡ bytes "hide" → (l : Line) → Memᴰ l before → T (begins head_words l)

-- a line of a known kind may stand exactly so, wherever a file is read up to
abbrev pub StandsExact : Type 0
StandsExact =
    (ls : List Line) (n : ℕ) (l : ReachedLine ls n) (f : Field) (k : LineKind) → word kinds f ≡ some k
    → T (may_stand l.state (place k)) ↔ PlacedKind n l.before f

-- lines of which 1 to 16 are asks of one form or alsos, the first an ask, then some hides, and no other is any of these
pub record HeadFirst (ls : List Line) : Type 0 where
  pub grouped : Bool
  pub asks : List Line
  pub hides : List Line
  pub others : List Line
  pub are : ls ≡ asks ++ (hides ++ others)
  pub some_ask : 1 ≤ length asks
  pub few_asks : length asks ≤ 16
  pub are_asks : (l : Line) → Memᴰ l asks → T (begins (form_words grouped) l)
  pub first_ask : (l : Line) (more : List Line) → asks ≡ l ∷ more → T (not (begins also_words l))
  pub are_hides : (l : Line) → Memᴰ l hides → T (begins hide_words l)
  pub no_other : (l : Line) → Memᴰ l others → T (not (begins head_words l))

-- so are the lines of an accepted file
abbrev pub AcceptedHeadFirst : Type 0
AcceptedHeadFirst = (file : List ℕ) (s : State) → LinesRead file s → HeadFirst (lines file)

-- the file is of the form with groups exactly where one of its lines is an `ask2`
abbrev pub FormExact : Type 0
FormExact =
    (ls : List Line) (s : State) → read_lines exclude_names 1 start ls ≡ read s → s.grouped ≡ any (begins grouped_words) ls

-- the ask of an ask line: the query of its second field, the options of its third, the groups of its fourth; "The older form
-- reads as .. all groups admitted"
unfoldable pub ask_on : Line → Ask
ask_on line =
    record {
      queries = value (get_or (fields line.bytes) 1 []) ∷ [];
      options = value (get_or (fields line.bytes) 2 []);
      groups = cond (begins grouped_words line) (value (get_or (fields line.bytes) 3 [])) 65535;
    }

-- the ask of an also line: what the line before it asks, with its options and its groups, and the query of its second field in
-- front
unfoldable pub ask_more : Ask → Line → Ask
ask_more before line =
    record {
      queries = value (get_or (fields line.bytes) 1 []) ∷ before.queries;
      options = before.options;
      groups = before.groups;
    }

-- the ask of a line that is an ask or an also, after the ask of the line before it
unfoldable pub ask_after : Ask → Line → Ask
ask_after before line = cond (begins also_words line) (ask_more before line) (ask_on line)

-- what lines ask, in their order, after the ask of the line before them
unfoldable pub asks_from : Ask → List Line → List Ask
asks_from before [] = []
asks_from before (line ∷ ls) =
    let here = ask_after before line in
    cond (begins ask_words line) (here ∷ asks_from here ls) (asks_from before ls)

-- what the lines of a file ask: before the first ask line nothing is asked
unfoldable pub asks_on : List Line → List Ask
asks_on ls = asks_from (record { queries = []; options = 0; groups = 0 }) ls

-- a file asks what its ask and also lines ask, in the order of the lines, wherever it is read up to
abbrev pub AsksExact : Type 0
AsksExact = (ls : List Line) (s : State) → read_lines exclude_names 1 start ls ≡ read s → s.asks ≡ asks_on ls

-- the line before an also line asks what its chain does without its query
abbrev pub AsksChained : Type 0
AsksChained =
    (ls : List Line) (s : State) → read_lines exclude_names 1 start ls ≡ read s
    → (i : ℕ) (a : Ask) (q p : ℕ) (qs : List ℕ) → At s.asks i a → a.queries ≡ q ∷ p ∷ qs
    → (j : ℕ) × (i ≡ suc j) × At s.asks j (with_queries a (p ∷ qs))

-- an ask of a query, and on an also line of those before it in its chain, its numbers in their ranges
pub record GoodAsk (a : Ask) : Type 0 where
  pub query : ℕ
  pub earlier : List ℕ
  pub has_query : a.queries ≡ query ∷ earlier
  pub in_range : (q : ℕ) → Memᴰ q a.queries → q ≤ 255
  pub few_queries : length a.queries ≤ 16
  pub few_options : a.options ≤ 15
  pub few_groups : a.groups ≤ 65535

-- an accepted file has 1 to 16 of them, which in the older form admit all groups
pub record GoodAsks (s : State) : Type 0 where
  pub some_ask : 1 ≤ length s.asks
  pub few : length s.asks ≤ 16
  pub each : (a : Ask) → Memᴰ a s.asks → GoodAsk a
  pub older_form : T (not s.grouped) → (a : Ask) → Memᴰ a s.asks → a.groups ≡ 65535

abbrev pub AcceptedAsks : Type 0
AcceptedAsks = (file : List ℕ) (s : State) → LinesRead file s → GoodAsks s
