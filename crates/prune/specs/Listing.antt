-- The kept list on numbers of records. A rank is a name's place in byte order; an item is a kept fact or a root of
-- one of the ask's queries.
use Rattle.std.specs.Prelude.{ℕ, zero, suc, ◌+◌, ◌-◌, Bool, cond, ◌&&◌, List, [], ◌∷◌, ◌++◌, map, eqb, length}
use Rattle.model.specs.Lists.{any, keep, collect}
use Rattle.model.specs.Reading.{no_ambients, prune_decls}
use Rattle.model.specs.Rounds.{is_ambient, asks_for}
use Rattle.model.specs.declared.Asked.{Asked}
use Rattle.model.specs.declared.Counts.{Counts}
use Rattle.names.specs.Table.{ranked}
use Rattle.records.specs.Columns.{record_kind, record_flag, summary_code, kind_of_code, fun_kind, def_kind, root_kind, taken_at}
use Rattle.records.specs.States.{uses_at, takes_part, ask_of}
use Rattle.firing.specs.Held.{upto}
use Rattle.firing.specs.Met.{is_reached}

-- n numbers from i on
unfoldable pub from : ℕ → ℕ → List ℕ
from i zero = []
from i (suc n) = i ∷ from (i + 1) n

-- a record by its number and one; none by 0
unfoldable pub record_behind : ℕ → List ℕ
record_behind t = cond (eqb t 0) [] ((t - 1) ∷ [])

-- the records that a function picks
unfoldable pub picked : (ℕ → ℕ) → List ℕ → List ℕ
picked pick l = collect (λ r. record_behind (pick r)) l

-- the assume, fun or def that took the name of a rank, and one; or 0
abbrev pub taker : List ℕ → ℕ → ℕ
taker names r = taken_at names (ranked names r)

-- the same where the record is reached
unfoldable pub reached_at : List ℕ → List ℕ → ℕ → ℕ
reached_at names run r = cond (eqb (taker names r) 0) 0 (cond (is_reached run (taker names r - 1)) (taker names r) 0)

-- the same where the record is of a kind
unfoldable pub kind_at : List ℕ → List ℕ → ℕ → ℕ → ℕ
kind_at names recs kind r = cond (eqb (taker names r) 0) 0 (cond (eqb (record_kind recs (taker names r - 1)) kind) (taker names r) 0)

-- the number of an ambient that the ask admits and one; or 0
unfoldable pub ambient_at : List ℕ → Asked → ℕ → ℕ
ambient_at recs a i = cond (is_ambient (kind_of_code (summary_code recs i))) (cond (takes_part recs (ask_of recs a) i) (i + 1) 0) 0

-- whether a record is a root of one of the ask's queries
unfoldable pub is_goal : List ℕ → Asked → ℕ → Bool
is_goal recs a i = eqb (record_kind recs i) root_kind && asks_for (ask_of recs a) (record_flag recs i)

-- the reached facts by name in byte order
abbrev pub reached_records : List ℕ → List ℕ → ℕ → List ℕ
reached_records names run named = picked (reached_at names run) (from 0 named)

-- the ambients, last filed first; none with option 1
unfoldable pub ambient_records : List ℕ → Counts → Asked → List ℕ
ambient_records recs k a = cond (no_ambients (ask_of recs a)) [] (picked (ambient_at recs a) (upto k.records))

-- the kept facts
unfoldable pub fact_records : List ℕ → List ℕ → List ℕ → Counts → Asked → List ℕ
fact_records names recs run k a = reached_records names run k.names ++ ambient_records recs k a

-- the roots of the ask's queries by line
abbrev pub goal_records : List ℕ → Counts → Asked → List ℕ
goal_records recs k a = keep (is_goal recs a) (from 0 k.records)

-- the items: the kept facts as listed, then the roots of the ask's queries
unfoldable pub kept_items : List ℕ → List ℕ → List ℕ → Counts → Asked → List ℕ
kept_items names recs run k a = fact_records names recs run k a ++ goal_records recs k a

-- whether a number is in a list
unfoldable pub is_among : ℕ → List ℕ → Bool
is_among n l = any (λ m. eqb m n) l

-- the place, counted from s, of the first list that has the number; 0 where none has
unfoldable pub stamped : ℕ → List (List ℕ) → ℕ → ℕ
stamped s [] n = 0
stamped s (l ∷ ls) n = let later = stamped (s + 1) ls n in cond (is_among n l) s later

module _ (names recs : List ℕ) (named : ℕ) (stamp : ℕ → ℕ) (kind : ℕ) where
  -- the definitions, or the declarations, of the names whose ranks have a stamp, last name first
  unfoldable pub stamp_records : ℕ → List ℕ
  stamp_records s = picked (kind_at names recs kind) (keep (λ r. eqb (stamp r) s) (upto named))

  -- those of the stamps from 1 up to s, the last first
  unfoldable pub kind_records : ℕ → List ℕ
  kind_records s = collect (λ j. stamp_records (j + 1)) (upto s)

-- definitions, then declarations
unfoldable pub decl_records : List ℕ → List ℕ → ℕ → (ℕ → ℕ) → ℕ → List ℕ
decl_records names recs named stamp s = kind_records names recs named stamp def_kind s ++ kind_records names recs named stamp fun_kind s

-- the stamp of a name: the place of the item that first has it, from 1
unfoldable pub item_stamp : List ℕ → List ℕ → List ℕ → List ℕ → Counts → Asked → ℕ → ℕ
item_stamp names recs lists run k a n = stamped 1 (map (uses_at recs lists) (kept_items names recs run k a)) n

-- the room for stamps: the kept facts and the roots
abbrev pub most_stamps : ℕ
most_stamps = 2048

-- the stamp of a name that a body adds, above those of the items
abbrev pub followed_stamp : ℕ
followed_stamp = most_stamps + 1

-- the record that took the name of a rank, and one, where a body adds the name; or 0
unfoldable pub added_at : List ℕ → (ℕ → ℕ) → ℕ → ℕ
added_at names stamp r = cond (eqb (stamp r) followed_stamp) (taker names r) 0

-- the records of the names that bodies add, in byte order of name
abbrev pub added_records : List ℕ → ℕ → (ℕ → ℕ) → List ℕ
added_records names named stamp = picked (added_at names stamp) (from 0 named)

-- the records of a kind
unfoldable pub of_kind : List ℕ → ℕ → List ℕ → List ℕ
of_kind recs kind l = keep (λ i. eqb (record_kind recs i) kind) l

module _ (names recs : List ℕ) (named : ℕ) (stamp : ℕ → ℕ) (added : List ℕ) (s : ℕ) where
  -- the definitions, or the declarations: those of the stamps up to s, then those of the added records
  unfoldable pub group_records : ℕ → List ℕ
  group_records kind = kind_records names recs named stamp kind s ++ of_kind recs kind added

  -- definitions, then declarations
  unfoldable pub groups_records : List ℕ
  groups_records = group_records def_kind ++ group_records fun_kind

-- the kept records by the stamps of the names: the facts, and with option 4 definitions and then declarations
unfoldable pub kept_records : List ℕ → List ℕ → List ℕ → Counts → Asked → (ℕ → ℕ) → List ℕ
kept_records names recs run k a stamp =
    let by_rank : ℕ → ℕ = λ r. stamp (ranked names r) in
    fact_records names recs run k a
    ++ cond (prune_decls (ask_of recs a))
    (groups_records names recs k.names by_rank (added_records names k.names by_rank)
    (length (kept_items names recs run k a)))
    []
