-- Texts: a number in decimal, fields parted by commas, and the printed form of an answer: document 01, F10; document 02, Change
-- 7: a `sum` line after each list; Change 10: a `pass` line in its place; Changes 2
-- and 9: the lines of rows with their names.
use Rattle.std.specs.Prelude.{ℕ, zero, suc, ◌+◌, ◌/◌, ◌%◌, cond, List, [], ◌∷◌, ◌++◌, map, length, drop, get_or, ltb}
use Rattle.model.specs.Lists.{collect}
use Rattle.model.specs.Names.{Name, bytes, same}
use Rattle.model.specs.Lines.{Line, lines, Field, fields}
use Rattle.model.specs.Outcome.{Position, Outcome, refusal_at, lists, refusal_number}
use Rattle.model.specs.declared.Refusal.{Refusal}
use Rattle.model.specs.declared.Row.{Row}

-- the decimal digits of a number below ten to the fuel
unfoldable pub digits : ℕ → ℕ → Field
digits zero n = []
digits (suc fuel) n =
    let front = digits fuel (n / 10) in
    cond (ltb n 10) ((n + 0x30) ∷ []) (front ++ ((n % 10 + 0x30) ∷ []))

-- a number in decimal
unfoldable pub show : ℕ → Field
show n = digits 20 n

-- fields with commas between them
unfoldable pub comma : List Field → List ℕ
comma [] = []
comma (f ∷ []) = f
comma (f ∷ g ∷ fs) = f ++ 0x2c ∷ comma (g ∷ fs)

-- a line of text: fields parted by commas, and its end
unfoldable pub line : List Field → List ℕ
line fs = comma fs ++ (0x0a ∷ [])

-- the bytes of the first of some lines
unfoldable pub first_bytes : List Line → List ℕ
first_bytes [] = []
first_bytes (l ∷ ls) = l.bytes

-- the second of some fields, empty where there is none
unfoldable pub second : List Field → Field
second [] = []
second (f ∷ []) = []
second (f ∷ g ∷ gs) = g

-- the name on a line of a file, its second field, by the line's number from 1
unfoldable pub name_on : List ℕ → ℕ → Name
name_on file zero = []
name_on file (suc n) = second (fields (first_bytes (drop n (lines file))))

-- the line of a kept record
unfoldable pub kept_line : List ℕ → ℕ → List ℕ
kept_line file n = line (bytes "kept" ∷ show n ∷ name_on file n ∷ [])

-- the line after a list
unfoldable pub sum_line : ℕ → ℕ → ℕ → List ℕ
sum_line kept visits rounds = line (bytes "sum" ∷ show kept ∷ show visits ∷ show rounds ∷ [])

-- the line of a refusal
unfoldable pub refused_line : Refusal → ℕ → List ℕ
refused_line r place = line (bytes "refused" ∷ show (refusal_number r) ∷ show place ∷ [])

-- the lines printed of one list: one for each kept record, then their sum
unfoldable pub printed_list : List ℕ → Position → List (List ℕ)
printed_list file p = map (kept_line file) p.kept ++ (sum_line (length p.kept) p.visits p.rounds ∷ [])

-- the lines printed of what a call of a file comes to: its lists in their order, or the refusal
unfoldable pub printed : List ℕ → Outcome → List (List ℕ)
printed file (refusal_at r place) = refused_line r place ∷ []
printed file (lists ps) = collect (printed_list file) ps

-- the line after a list of the sweep
unfoldable pub pass_line : ℕ → ℕ → List ℕ
pass_line kept passes = line (bytes "pass" ∷ show kept ∷ show passes ∷ [])

-- the lines printed of the lists of the sweep, each with its passes: one for each kept record, then their count and the passes
unfoldable pub pass_lists : List ℕ → List Position → List ℕ → List (List ℕ)
pass_lists file [] passes = []
pass_lists file (p ∷ ps) passes =
    map (kept_line file) p.kept ++ pass_line (length p.kept) (get_or passes 0 0) ∷ pass_lists file ps (drop 1 passes)

-- the lines printed of what a call of the sweep comes to, with its passes by position
unfoldable pub printed_sweep : List ℕ → Outcome → List ℕ → List (List ℕ)
printed_sweep file (refusal_at r place) passes = refused_line r place ∷ []
printed_sweep file (lists ps) passes = pass_lists file ps passes

-- the bytes of a line of a file, by its number from 1; none where there is no such line
unfoldable pub bytes_on : List ℕ → ℕ → List ℕ
bytes_on file zero = []
bytes_on file (suc n) = first_bytes (drop n (lines file))

-- the name in the fields of a fact or a root: the third on a root line, else the second
unfoldable pub name_in_fields : List Field → Name
name_in_fields [] = []
name_in_fields (kind ∷ rest) = cond (same kind (bytes "root")) (second rest) (second (kind ∷ rest))

-- the name of the fact or root on a line of a file, by the line's number from 1
unfoldable pub item_on : List ℕ → ℕ → Name
item_on file n = name_in_fields (fields (bytes_on file n))

-- the first fields of a row: its three numbers
unfoldable pub row_numbers : Row → List Field
row_numbers r = bytes "row" ∷ show r.line ∷ show r.number ∷ show r.cause ∷ []

-- the fields of a row: these, the name on its line, and the name of its number
unfoldable pub row_fields : List ℕ → Name → Row → List Field
row_fields file name r = row_numbers r ++ (name_on file r.line ∷ name ∷ [])

-- the line of a row of reasons: its fields, then the name of the supplier
unfoldable pub row_line : List ℕ → Name → Row → List ℕ
row_line file name r = line (row_fields file name r ++ (item_on file r.cause ∷ []))

-- the line of a row of the check: its fields alone
unfoldable pub late_line : List ℕ → Name → Row → List ℕ
late_line file name r = line (row_fields file name r)

-- the line of a count behind its word
unfoldable pub count_line : List ℕ → ℕ → List ℕ
count_line word n = line (word ∷ show n ∷ [])
