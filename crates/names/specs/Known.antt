-- The names that the twelve rules, `exclude_names` and the five starting macros know, and a code for each.
use Rattle.std.specs.Prelude.{ℕ, ◌+◌, cond, ◌&&◌, List, [], ◌∷◌, ◌++◌, map, length, ltb}
use Prim.Native.String.{String}
use Rattle.model.specs.Names.{Name, bytes, same}
use Rattle.model.specs.Summaries.{common_names}

-- the known names, in the order of their codes from 1: the nine of `exclude_names`, the macros, what these open to, the rules'
unfoldable pub known_names : List String
known_names =
    common_names
    ++ ("is-BoxBool"
    ∷ "is-BoxInt"
    ∷ "is-BoxString"
    ∷ "is-BoxReal"
    ∷ "is-BoxProp"
    ∷ "BoxBool"
    ∷ "BoxInt"
    ∷ "BoxString"
    ∷ "BoxReal"
    ∷ "BoxProp"
    ∷ "Prims.squash"
    ∷ "Prims.hasEq"
    ∷ "IsTotFun"
    ∷ "is-Tm_arrow"
    ∷ "Term_constr_id"
    ∷ "__uu__PartialApp"
    ∷ [])

-- names in one text, each behind its length
unfoldable pub behind_lengths : List Name → List ℕ
behind_lengths [] = []
behind_lengths (n ∷ ns) = length n ∷ n ++ behind_lengths ns

-- the text of the known names
unfoldable pub known_text : List ℕ
known_text = behind_lengths (map bytes known_names)

-- the code of a name among names whose first has the code n: 0 where it is none of them
unfoldable pub code_from : ℕ → List Name → Name → ℕ
code_from n [] name = 0
code_from n (k ∷ ks) name = let other = code_from (n + 1) ks name in cond (same name k) n other

-- the head code of a name: its place among the known names from 1, or 0
unfoldable pub head_code : Name → ℕ
head_code name = code_from 1 (map bytes known_names) name

-- what is added to the head code of an excluded name, above every head code
abbrev pub excluded_mark : ℕ
excluded_mark = 32

-- the first head code behind those of `exclude_names`
abbrev pub first_other : ℕ
first_other = 10

-- a head code, marked where it is that of one of `exclude_names`, 1 to 9
unfoldable pub marked_code : ℕ → ℕ
marked_code code = cond (ltb 0 code && ltb code first_other) (code + excluded_mark) code

-- the word of a new name: its head code, marked where the name is one of `exclude_names`, codes 1 to 9
unfoldable pub head_word : Name → ℕ
head_word name = marked_code (head_code name)
