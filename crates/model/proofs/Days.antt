-- Document 02, Change 7: several asks over one file, shown as F1 to F10 are; 8 by all lists together, and the counts by position.
use Prim.Native.Nat.{ℕ}
use Prim.Native.String.{String}
use mathlib.Core.Path.{◌≡◌, refl}
use mathlib.Core.Bool.{Bool, true}
use mathlib.Core.List.{List, [], ◌∷◌, ◌++◌}
use lib.ListN.{replicate}
use Rattle.model.specs.Lists.{concat}
use Rattle.model.specs.Names.{bytes, same}
use Rattle.model.specs.Outcome.{Lent, working, outcome, answer, result_after}
use Rattle.model.specs.Text.{printed}
use Rattle.model.proofs.Printing.{Case, passes, AllPass, Small, prints, file_of}

-- the lines behind the asks: the facts a and b, one for the root of each of two queries
background : List String
background = "free,p" ∷ "free,q" ∷ "op,eq,0,0" ∷ "assume,a,0,2" ∷ "op,eq,1,1" ∷ "assume,b,0,3" ∷ "root,0,r,0" ∷ "root,1,r,1" ∷ []

-- so many asks that are the same
asks : ℕ → List String
asks n = replicate n "ask,0,0"

-- one call answers them in sequence, each by the roots of its own query
two_asks : Case
two_asks = record { file = "ask,0,0" ∷ "ask,1,0" ∷ background; printed = ("fact,6,triggers,{p},{p} free={p}" ∷ "fact,8,triggers,{q},{q} free={q}" ∷ "kept,6,a" ∷ "sum,1,2,2" ∷ "kept,8,b" ∷ "sum,1,2,2" ∷ []) }

-- an ask whose query has no root
without_roots : Case
without_roots = record { file = "ask,7,0" ∷ "ask,0,0" ∷ background; printed = ("fact,6,triggers,{p},{p} free={p}" ∷ "fact,8,triggers,{q},{q} free={q}" ∷ "sum,0,0,1" ∷ "kept,6,a" ∷ "sum,1,2,2" ∷ []) }

-- each ask has its own options
own_options : Case
own_options =
    record {
      file = ("ask,0,0" ∷ "ask,0,1" ∷ "ask,0,2" ∷ "ask,0,4" ∷ "free,p" ∷ "free,q" ∷ "label,1" ∷ "op,eq,0,0" ∷ "assume,a,1,3" ∷ "assume,m,0,2" ∷ "fun,p" ∷ "root,0,r,0" ∷ []);
      printed = ("fact,9,triggers,{p},{p} free={p}" ∷ "fact,10,ambient,0 free={q}" ∷ "kept,10,m" ∷ "sum,1,2,2" ∷ "sum,0,2,2" ∷ "kept,9,a" ∷ "kept,10,m" ∷ "sum,2,2,2" ∷ "kept,10,m" ∷ "kept,11,p" ∷ "sum,2,2,2" ∷ []);
    }

-- the ambient roots are scanned for each, but for one with option 1
own_ambient_roots : Case
own_ambient_roots =
    record {
      file = ("ask,5,0" ∷ "ask,6,1" ∷ "ask,7,0" ∷ "free,p" ∷ "free,Tm_refine_1" ∷ "call,HasType,0,1" ∷ "assume,h,0,2" ∷ "op,eq,0,0" ∷ "assume,a,0,3" ∷ []);
      printed = ("fact,7,ambient,1 free={Tm_refine_1 p}" ∷ "fact,9,triggers,{p},{p} free={p}" ∷ "kept,9,a" ∷ "kept,7,h" ∷ "sum,2,2,2" ∷ "sum,0,0,1" ∷ "kept,9,a" ∷ "kept,7,h" ∷ "sum,2,2,2" ∷ []);
    }

-- the roots of its own query alone tell which declarations are kept
own_roots : Case
own_roots = record { file = ("ask,0,4" ∷ "ask,1,4" ∷ "ask,2,4" ∷ "fun,p" ∷ "fun,q" ∷ "free,p" ∷ "free,q" ∷ "root,0,r,0" ∷ "root,1,r,1" ∷ []); printed = ("kept,4,p" ∷ "sum,1,0,1" ∷ "kept,5,q" ∷ "sum,1,0,1" ∷ "sum,0,0,1" ∷ []) }

-- hide lines follow the last ask and count for all
hidden_for_all : Case
hidden_for_all = record { file = "ask,0,0" ∷ "ask,1,0" ∷ "hide,p" ∷ background; printed = ("fact,7,triggers,{},{} free={}" ∷ "fact,9,triggers,{q},{q} free={q}" ∷ "sum,0,0,1" ∷ "kept,9,b" ∷ "sum,1,2,2" ∷ []) }

-- sixteen asks pass
sixteen : Case
sixteen = record { file = asks 15 ++ ("ask,1,0" ∷ background); printed = "fact,20,triggers,{p},{p} free={p}" ∷ "fact,22,triggers,{q},{q} free={q}" ∷ (concat (replicate 15 ("kept,20,a" ∷ "sum,1,2,2" ∷ [])) ++ ("kept,22,b" ∷ "sum,1,2,2" ∷ [])) }

-- 13: the seventeenth
seventeen : Case
seventeen = record { file = asks 17 ++ background; printed = ("refused,13,17" ∷ []) }

-- 13: at the seventeenth where there are more
eighteen : Case
eighteen = record { file = asks 18 ++ background; printed = ("refused,13,17" ∷ []) }

-- 13 before the field count
thirteen_before_count : Case
thirteen_before_count = record { file = asks 16 ++ ("ask" ∷ []); printed = ("refused,13,17" ∷ []) }

-- 13 before the fields
thirteen_before_fields : Case
thirteen_before_fields = record { file = asks 16 ++ ("ask,x,99" ∷ []); printed = ("refused,13,17" ∷ []) }

-- 1 before 13 where the ask may not stand
misplaced_before_thirteen : Case
misplaced_before_thirteen = record { file = asks 16 ++ ("hide,p" ∷ "ask,0,0" ∷ []); printed = ("refused,1,18" ∷ []) }

-- an earlier line before 13
earlier_before_thirteen : Case
earlier_before_thirteen = record { file = asks 8 ++ ("ask,0,16" ∷ asks 8); printed = ("refused,3,9" ∷ []) }

-- 1: an ask after a hide line
after_hide : Case
after_hide = record { file = "ask,0,0" ∷ "hide,p" ∷ "ask,1,0" ∷ background; printed = ("refused,1,3" ∷ []) }

-- 1: an ask after a record line
after_record : Case
after_record = record { file = ("ask,0,0" ∷ "fun,p" ∷ "ask,1,0" ∷ []); printed = ("refused,1,3" ∷ []) }

-- 1, before its fields, where it may not stand
before_fields : Case
before_fields = record { file = ("ask,0,0" ∷ "fun,p" ∷ "ask,999,99" ∷ []); printed = ("refused,1,3" ∷ []) }

-- 1: no ask on line 1
no_first_ask : Case
no_first_ask = record { file = ("free,p" ∷ "ask,0,0" ∷ []); printed = ("refused,1,1" ∷ []) }

-- 1: a second ask lacks its options
second_count : Case
second_count = record { file = ("ask,0,0" ∷ "ask,1" ∷ []); printed = ("refused,1,2" ∷ []) }

-- 3: the query of a second ask
second_query : Case
second_query = record { file = ("ask,0,0" ∷ "ask,256,0" ∷ []); printed = ("refused,3,2" ∷ []) }

-- 3: the options of a second ask
second_options : Case
second_options = record { file = ("ask,0,0" ∷ "ask,0,16" ∷ []); printed = ("refused,3,2" ∷ []) }

answers : List Case
answers =
    two_asks
    ∷ without_roots
    ∷ own_options
    ∷ own_ambient_roots
    ∷ own_roots
    ∷ hidden_for_all
    ∷ sixteen
    ∷ []

refusals : List Case
refusals =
    seventeen
    ∷ eighteen
    ∷ thirteen_before_count
    ∷ thirteen_before_fields
    ∷ misplaced_before_thirteen
    ∷ earlier_before_thirteen
    ∷ after_hide
    ∷ after_record
    ∷ before_fields
    ∷ no_first_ask
    ∷ second_count
    ∷ second_query
    ∷ second_options
    ∷ []

-- the definitions print what each case says, and the two accounts agree
answers_pass : AllPass answers
unfolding passes answers background asks two_asks without_roots own_options own_ambient_roots own_roots hidden_for_all sixteen
answers_pass = (refl, (refl, (refl, (refl, (refl, (refl, (refl, tt)))))))

refusals_pass : AllPass refusals
unfolding passes refusals background asks seventeen eighteen thirteen_before_count thirteen_before_fields misplaced_before_thirteen earlier_before_thirteen after_hide after_record before_fields no_first_ask second_count second_query second_options
refusals_pass = (refl, (refl, (refl, (refl, (refl, (refl, (refl, (refl, (refl, (refl, (refl, (refl, (refl, tt)))))))))))))

-- 1, no final 0A, before 13
unended : Small
unended = record { name = "unended"; file = replicate 16 "ask,0,0\n" ++ ("ask,0,0" ∷ []); printed = "refused,1,17\n" ∷ [] }

unended_refused : prints unended ≡ true
unfolding prints unended
unended_refused = refl

-- a file with two ambients and three asks, of which the second, with option 1, keeps none
ambients : List ℕ
ambients = file_of ("ask,0,0" ∷ "ask,0,1" ∷ "ask,9,0" ∷ "leaf" ∷ "assume,a,0,0" ∷ "assume,b,0,0" ∷ [])

-- six working slices that are long enough
six : List Lent
six = replicate 6 (working 16384)

-- what is printed over a result slice of this length
over : ℕ → String → Bool
over room text = same (concat (printed ambients (outcome ambients six room))) (bytes text)

-- 8: its place is the sum of all lists, which stand end to end
all_lists :
    (over 3 "refused,8,4\n" ≡ true)
    × (over 4 "kept,6,b\nkept,5,a\nsum,2,0,1\nsum,0,0,1\nkept,6,b\nkept,5,a\nsum,2,0,1\n" ≡ true)
    × (result_after (outcome ambients six 3) (7 ∷ 8 ∷ 9 ∷ []) ≡ 7 ∷ 8 ∷ 9 ∷ [])
    × (result_after (outcome ambients six 5) (7 ∷ 7 ∷ 7 ∷ 7 ∷ 7 ∷ []) ≡ 6 ∷ 5 ∷ 6 ∷ 5 ∷ 7 ∷ [])
unfolding passes over ambients six
all_lists = (refl, refl, refl, refl)

-- a count for each ask, and 0 past the last
counts :
    ((answer (outcome ambients six 4)).kept ≡ 2 ∷ 0 ∷ 2 ∷ replicate 13 0)
    × ((answer (outcome ambients six 4)).visits ≡ replicate 16 0)
    × ((answer (outcome ambients six 4)).rounds ≡ 1 ∷ 1 ∷ 1 ∷ replicate 13 0)
    × ((answer (outcome ambients six 3)).kept ≡ replicate 16 0)
unfolding passes ambients six
counts = (refl, refl, refl, refl)
