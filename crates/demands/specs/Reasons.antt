-- Document 02, Change 2, for every accepted file and every ask over it: the round of a fact, the scanned items, the supplier of a
-- name, the rows and the number of names met. On an also line the run is the fresh one over all queries of its chain.
use Rattle.std.specs.Prelude.{ℕ, suc, ◌≤◌, ◌<◌, ◌≡◌, ◌↔◌, ◌⊎◌, false, not, T, length, get_or}
use mathlib.Core.List.{List, [], ◌∷◌, Memᴰ}
use Rattle.std.specs.Option as Option
use Rattle.model.specs.Lists.{keep}
use Rattle.model.specs.Names.{Name, mem, order}
use Rattle.model.specs.Summaries.{Fact}
use Rattle.model.specs.Reading.{Ask, no_ambients, Root, State}
use Rattle.model.specs.Pruning.{try_find}
use Rattle.model.specs.Rounds.{Run, facts, macros, listed, triggers_in, is_ambient_root, end_of}
use Rattle.model.specs.Reasons.{rows, met_bits, met_number}
use Rattle.std.specs.declared.cmp.Ordering.TheVariants.{Less as Before}
use Rattle.model.specs.declared.Row.{Row}
use Rattle.demands.specs.LinesRead.{LinesRead, records_for, Distinct}
use Rattle.demands.specs.Demand3.{run_of, reached}
use Rattle.demands.specs.History.{history_for}

-- the state at the end of a round; 0 stands for the state before round 1
abbrev pub at_end : Ask → State → ℕ → Run
at_end a s k = end_of (history_for a s) k

-- a fact that the ask admits and the run reaches
pub record ReachedBy (a : Ask) (s : State) (f : Fact) : Type 0 where
  pub is_fact : Memᴰ f (facts (records_for a s))
  pub is_reached : T (reached a s f)

-- the round after the k-th triggers a fact
abbrev pub TriggeredAfter : Ask → State → ℕ → Fact → Type 0
TriggeredAfter a s k f = T (triggers_in (at_end a s k).met (at_end a s (suc k)).met f)

-- "the round that first triggered it, its round"
pub record ItsRound (a : Ask) (s : State) (f : Fact) (round : ℕ) : Type 0 where
  pub before : ℕ
  pub is : round ≡ suc before
  pub in_run : round ≤ (run_of a s).rounds
  pub triggered : TriggeredAfter a s before f
  pub first : (k : ℕ) → k < before → TriggeredAfter a s k f → ⊥

-- every reached fact has its round: the first at whose end it is reached
pub record RoundExact (a : Ask) (s : State) (f : Fact) : Type 0 where
  pub round : ℕ
  pub is_round : ItsRound a s f round
  pub reached_from : (k : ℕ) → k ≤ (run_of a s).rounds → T (mem f.name (at_end a s k).reached) ↔ (round ≤ k)

abbrev pub RoundsOfFacts : Type 0
RoundsOfFacts = (file : List ℕ) (s : State) → LinesRead file s → (a : Ask) (f : Fact) → ReachedBy a s f → RoundExact a s f

-- a scanned item, by its line, its round and its free names: "Roots and ambient roots count as round 0"
pub data Scanned (a : Ask) (s : State) (line round : ℕ) (free : List Name) : Type 0 where
  root : (r : Root) → Memᴰ r s.roots → Memᴰ r.query a.queries
      → line ≡ r.line → round ≡ 0 → free ≡ r.free_names → Scanned a s line round free
  ambient_root : (f : Fact) → Memᴰ f (facts (records_for a s)) → T (is_ambient_root f.kind) → T (not (no_ambients a))
      → line ≡ f.line → round ≡ 0 → free ≡ f.free_names → Scanned a s line round free
  reached_fact : (f : Fact) → ReachedBy a s f → ItsRound a s f round
      → line ≡ f.line → free ≡ f.free_names → Scanned a s line round free

-- "with that name, opened macros included": the name is free in the item, or a macro that is free in it opens to it
abbrev pub Has : Ask → State → List Name → Name → Type 0
Has a s free n =
    Memᴰ n free ⊎ ((m : Name) × Memᴰ m free × Memᴰ n (Option.unwrap_or (try_find (macros (records_for a s)) m) []))

-- "of the lowest round, then the lowest line": no later than another
abbrev pub NotLater : ℕ → ℕ → ℕ → ℕ → Type 0
NotLater line round line' round' = (round < round') ⊎ ((round ≡ round') × (line ≤ line'))

-- "The supplier is the scanned item with that name, .., of the lowest round, then the lowest line"
pub record Supplies (a : Ask) (s : State) (n : Name) (line round : ℕ) : Type 0 where
  pub free : List Name
  pub is_scanned : Scanned a s line round free
  pub has : Has a s free n
  pub lowest : (line' round' : ℕ) (free' : List Name) → Scanned a s line' round' free' → Has a s free' n
      → NotLater line round line' round'

-- "a name's number in order of first spelling from 0"; which order that is, `Spelling` says
abbrev pub Numbers : State → ℕ → Name → Type 0
Numbers s k n = (k < length s.names) × (get_or s.names k [] ≡ n)

-- "each reached fact and each of its listed names met by the end of .. its round"
pub record RowDue (a : Ask) (s : State) (f : Fact) (n : Name) : Type 0 where
  pub is_reached : ReachedBy a s f
  pub round : ℕ
  pub is_round : ItsRound a s f round
  pub is_listed : Memᴰ n (listed f)
  pub is_met : T (mem n (at_end a s round).met)

-- why a row is there
pub record Reason (a : Ask) (s : State) (r : Row) : Type 0 where
  pub fact : Fact
  pub name : Name
  pub due : RowDue a s fact name
  pub line : r.line ≡ fact.line
  pub number : Numbers s r.number name
  pub supplier_round : ℕ
  pub supplied : Supplies a s name r.cause supplier_round

-- the rows are those that have such a reason
abbrev pub RowsExact : Type 0
RowsExact = (file : List ℕ) (s : State) → LinesRead file s → (a : Ask) (r : Row) → Memᴰ r (rows a s) ↔ Reason a s r

-- "A supplier's round is always lower than its fact's"
abbrev pub SupplierLower : Type 0
SupplierLower =
    (file : List ℕ) (s : State) → LinesRead file s → (a : Ask) (r : Row) (q : Reason a s r) → q.supplier_round < q.due.round

-- the row of a fact and a name
pub record RowFor (a : Ask) (s : State) (f : Fact) (n : Name) : Type 0 where
  pub row : Row
  pub is_row : Memᴰ row (rows a s)
  pub of_fact : row.line ≡ f.line
  pub of_name : Numbers s row.number n
  pub only : (r : Row) → Memᴰ r (rows a s) → r.line ≡ f.line → Numbers s r.number n → r ≡ row

-- there is one row for each
abbrev pub OneRow : Type 0
OneRow = (file : List ℕ) (s : State) → LinesRead file s → (a : Ask) (f : Fact) (n : Name) → RowDue a s f n → RowFor a s f n

-- "Rows go by fact name, then by listed name, both in byte order"
abbrev pub Precedes : (a : Ask) (s : State) → Row → Row → Type 0
Precedes a s r r' =
    (q : Reason a s r) (q' : Reason a s r')
    → (order q.fact.name q'.fact.name ≡ Before) ⊎ ((q.fact ≡ q'.fact) × (order q.name q'.name ≡ Before))

-- each before all after it
pub data RowsRise (a : Ask) (s : State) : List Row → Type 0 where
  none : RowsRise a s []
  one_more : {r : Row} {rs : List Row} → ((q : Row) → Memᴰ q rs → Precedes a s r q) → RowsRise a s rs → RowsRise a s (r ∷ rs)

-- the rows stand in this order, and none stands twice
abbrev pub RowsInOrder : Type 0
RowsInOrder = (file : List ℕ) (s : State) → LinesRead file s → (a : Ask) → RowsRise a s (rows a s) × Distinct (rows a s)

-- a table of "2,048 rows" holds them
abbrev pub RowsFit : Type 0
RowsFit = (file : List ℕ) (s : State) → LinesRead file s → (a : Ask) → length (rows a s) ≤ 2048

-- "how many of the numbered names were met: met names are a row of bits, and that number is the count of ones"
pub record MetCounted (a : Ask) (s : State) : Type 0 where
  pub one_bit_each : length (met_bits a s) ≡ length s.names
  pub bit : (k : ℕ) (n : Name) → Numbers s k n → get_or (met_bits a s) k false ≡ mem n (run_of a s).met
  pub number : met_number a s ≡ length (keep (λ n. mem n (run_of a s).met) s.names)
  pub names_once : Distinct s.names

abbrev pub MetExact : Type 0
MetExact = (file : List ℕ) (s : State) → LinesRead file s → (a : Ask) → MetCounted a s

-- a reached fact supplied a name of another
pub record Brought (a : Ask) (s : State) (f g : Fact) : Type 0 where
  pub is_reached : ReachedBy a s g
  pub row : Row
  pub is_row : Memᴰ row (rows a s)
  pub of_fact : row.line ≡ f.line
  pub supplied : row.cause ≡ g.line

-- "who brought a fact in": it has a row, and whichever row is followed to its supplier, and on from there, the end is a root or an
-- ambient root
pub data Grounded (a : Ask) (s : State) : Fact → Type 0 where
  grounded : {f : Fact} → (r : Row) × Memᴰ r (rows a s) × (r.line ≡ f.line)
      → ((r : Row) → Memᴰ r (rows a s) → r.line ≡ f.line
      → ((free : List Name) × Scanned a s r.cause 0 free) ⊎ ((g : Fact) × Brought a s f g × (r.cause ≡ g.line)))
      → ((g : Fact) → Brought a s f g → Grounded a s g)
      → Grounded a s f

-- so it is with every reached fact
abbrev pub ChainsEnd : Type 0
ChainsEnd = (file : List ℕ) (s : State) → LinesRead file s → (a : Ask) (f : Fact) → ReachedBy a s f → Grounded a s f

-- a name is first met in the round after the k-th
pub record FirstMet (a : Ask) (s : State) (n : Name) (k : ℕ) : Type 0 where
  pub in_run : k < (run_of a s).rounds
  pub is_met : T (mem n (at_end a s (suc k)).met)
  pub not_before : T (not (mem n (at_end a s k).met))

-- of the items of a round that have a name, the one on the lowest line
pub record LowestIn (a : Ask) (s : State) (n : Name) (round line : ℕ) : Type 0 where
  pub free : List Name
  pub is_scanned : Scanned a s line round free
  pub has : Has a s free n
  pub lowest : (line' : ℕ) (free' : List Name) → Scanned a s line' round free' → Has a s free' n → line ≤ line'

-- what a pass over the items of one round finds: the supplier of a name is the lowest of the items that the round of its first
-- meeting scans
abbrev pub SupplierFound : Type 0
SupplierFound =
    (file : List ℕ) (s : State) → LinesRead file s → (a : Ask) (n : Name) (k : ℕ) → FirstMet a s n k
    → (line round : ℕ) → Supplies a s n line round ↔ ((round ≡ k) × LowestIn a s n k line)
