-- What an engine asks of the tables, on numbers: names, records, filed trigger entries.
use Rattle.std.specs.Prelude.{ℕ, zero, suc, ◌≤◌, ◌<◌, ◌≡◌, Bool, ◌&&◌, ◌↔◌, T, ltb, eqb, unwrap_or as get_or}
use mathlib.Core.List.{List, [], ◌∷◌, map, Memᴰ}
use Rattle.model.specs.Lists.{keep, count}
use Rattle.model.specs.Names.{Name, from_list}
use Rattle.model.specs.Summaries.{Fact}
use Rattle.model.specs.Reading.{Ask, most_names, most_records, most_entries}
use Rattle.model.specs.Pruning.{Map, try_find}
use Rattle.model.specs.Rounds.{listed, filed, retainable}

-- the numbers below n, the last first
unfoldable pub upto : ℕ → List ℕ
upto zero = []
upto (suc n) = n ∷ upto n

-- the set of the names of the numbers below n of which the test holds
unfoldable pub set_of : (ℕ → Name) → (ℕ → Bool) → ℕ → List Name
set_of name test n = from_list (map name (keep test (upto n)))

-- the tables and the ask: how many names, records and entries; of a record whether it is a fact that the ask admits, whether it
-- is retainable, its name, its free names, its disjuncts; what a name opens to; of an entry its name (`no_name` where it has none,
-- or its fact is not admitted) and its fact
pub record Held : Type 0 where
  pub named : ℕ
  pub records : ℕ
  pub entries : ℕ
  pub takes_part : ℕ → Bool
  pub retains : ℕ → Bool
  pub row_name : ℕ → ℕ
  pub frees : ℕ → List ℕ
  pub disjuncts : ℕ → List (List ℕ)
  pub opens : ℕ → List ℕ
  pub entry_name : ℕ → ℕ
  pub entry_fact : ℕ → ℕ

-- the entries below e that wait on the name n, newest first
unfoldable pub waiting : Held → ℕ → ℕ → List ℕ
waiting h n e = keep (λ d. eqb (h.entry_name d) n) (upto e)

-- the numbers are in range
pub record Fits (h : Held) : Type 0 where
  pub few_names : h.named ≤ most_names
  pub few_records : h.records ≤ most_records
  pub few_entries : h.entries ≤ most_entries
  pub frees_small : (i n : ℕ) → i < h.records → Memᴰ n (h.frees i) → n < h.named
  pub opens_small : (n m : ℕ) → n < h.named → Memᴰ m (h.opens n) → m < h.named
  pub disjuncts_small : (i n : ℕ) (d : List ℕ) → i < h.records → Memᴰ d (h.disjuncts i) → Memᴰ n d → n < h.named
  pub fact_small : (e : ℕ) → e < h.entries → h.entry_fact e < h.records
  pub fact_is : (e : ℕ) → e < h.entries → h.entry_name e < h.named → T (h.takes_part (h.entry_fact e))
  pub row_small : (i : ℕ) → i < h.records → T (h.takes_part i) → h.row_name i < h.named

-- the numbers are those of an ask, macros and facts of `model`: `name` and `fact` say which
pub record Holds (h : Held) (name : ℕ → Name) (a : Ask) (ms : Map (List Name)) (fs : List Fact) (fact : ℕ → Fact) : Type 0 where
  pub injective : (n m : ℕ) → n < h.named → m < h.named → name n ≡ name m → n ≡ m
  -- the facts are those of the records, and no two have the same name
  pub rows_apart : (i j : ℕ) → i < h.records → j < h.records → T (h.takes_part i) → T (h.takes_part j) → h.row_name i ≡ h.row_name j → i ≡ j
  pub fact_in : (i : ℕ) → i < h.records → T (h.takes_part i) → Memᴰ (fact i) fs
  pub fact_of : (f : Fact) → Memᴰ f fs → (i : ℕ) × (i < h.records) × T (h.takes_part i) × (f ≡ fact i)
  pub fact_name : (i : ℕ) → i < h.records → T (h.takes_part i) → (fact i).name ≡ name (h.row_name i)
  pub fact_retained : (i : ℕ) → i < h.records → T (h.takes_part i) → retainable a (fact i) ≡ h.retains i
  pub fact_frees : (i : ℕ) → i < h.records → T (h.takes_part i) → (fact i).free_names ≡ from_list (map name (h.frees i))
  pub fact_disjuncts : (i : ℕ) → i < h.records → T (h.takes_part i)
      → (fact i).triggers ≡ map (λ ns. from_list (map name ns)) (h.disjuncts i)
  -- a fact's listed names are those of its entries, and the filed names those of all entries
  pub entry_listed : (e : ℕ) → e < h.entries → h.entry_name e < h.named
      → Memᴰ (name (h.entry_name e)) (listed (fact (h.entry_fact e)))
  pub listed_entry : (i : ℕ) (k : Name) → i < h.records → T (h.takes_part i) → Memᴰ k (listed (fact i))
      → (e : ℕ) × (e < h.entries) × (h.entry_fact e ≡ i) × (h.entry_name e < h.named) × (k ≡ name (h.entry_name e))
  pub filed_count : (p : Name → Bool)
      → count p (filed fs) ≡ count (λ e. ltb (h.entry_name e) h.named && p (name (h.entry_name e))) (upto h.entries)
  -- a macro opens to the names of its numbers; one of the start may open to a name that has none
  pub macro : (n m : ℕ) → n < h.named → m < h.named
      → Memᴰ (name m) (get_or (try_find ms (name n)) []) ↔ Memᴰ m (h.opens n)
