-- The rows of the check on numbers: the defs by record, for each the names of its body by rank, a name's place in byte order.
use Rattle.std.specs.Prelude.{ℕ, ◌+◌, ◌-◌, Bool, cond, List, [], ◌∷◌, eqb, ltb, get_or, set, Option, None, Some}
use Rattle.model.specs.Lists.{collect}
use Rattle.model.specs.declared.Counts.{Counts}
use Rattle.model.specs.declared.Row.{Row}
use Rattle.names.specs.Table.{ranked}
use Rattle.records.specs.Columns.{record_kind, record_line, assume_kind, def_kind, taken_at}
use Rattle.records.specs.States.{uses_at}
use Rattle.prune.specs.Listing.{from, is_among}
use Rattle.precedence.specs.declared.Sort.{Sort}
use Rattle.precedence.specs.declared.Sort.TheVariants.{Late, Neither}

-- the third number of the rows of a sort
unfoldable pub sort_number : Sort → ℕ
sort_number Late = 1
sort_number Neither = 2

-- the sort of a name that is free in the body of the def i: late where its def or fun stands on the same or a later line,
-- neither where it has neither; none where it stands before
unfoldable pub sort_at : List ℕ → List ℕ → ℕ → ℕ → Option Sort
sort_at names recs i n =
    let t = taken_at names n in
    cond (eqb t 0) (Some Neither)
    (cond (eqb (record_kind recs (t - 1)) assume_kind) (Some Neither)
    (cond (ltb (record_line recs (t - 1)) (record_line recs i)) None (Some Late)))

-- the same of any name; none too where it is not free in the body
unfoldable pub late_at : List ℕ → List ℕ → (ℕ → Bool) → ℕ → ℕ → Option Sort
late_at names recs free i n = cond (free n) (sort_at names recs i n) None

-- the row of a def and a name by the sort; none without one
unfoldable pub sorted_row : List ℕ → ℕ → ℕ → Option Sort → List Row
sorted_row recs i n None = []
sorted_row recs i n (Some s) = record { line = record_line recs i; number = n; cause = sort_number s } ∷ []

-- that of a rank
unfoldable pub rank_row : List ℕ → List ℕ → (ℕ → Bool) → ℕ → ℕ → List Row
rank_row names recs free i r = sorted_row recs i (ranked names r) (late_at names recs free i (ranked names r))

-- the rows of a def, by the names that are free in its body
unfoldable pub body_rows : List ℕ → List ℕ → (ℕ → Bool) → ℕ → ℕ → List Row
body_rows names recs free named i = collect (rank_row names recs free i) (from 0 named)

-- the rows of a record: none if it is no def
unfoldable pub def_rows : List ℕ → List ℕ → List ℕ → ℕ → ℕ → List Row
def_rows names recs lists named i =
    cond (eqb (record_kind recs i) def_kind) (body_rows names recs (λ n. is_among n (uses_at recs lists i)) named i) []

-- all rows
unfoldable pub all_late : List ℕ → List ℕ → List ℕ → Counts → List Row
all_late names recs lists k = collect (def_rows names recs lists k.names) (from 0 k.records)

-- whether a name has the stamp of a def: the number of its record and one
abbrev pub has_stamp : List ℕ → ℕ → ℕ → Bool
has_stamp refs i n = eqb (get_or refs n 0) (i + 1)

-- names stamped one after the other
unfoldable pub stamps : ℕ → List ℕ → List ℕ → List ℕ
stamps s w [] = w
stamps s w (n ∷ ns) = stamps s (set w n s) ns
