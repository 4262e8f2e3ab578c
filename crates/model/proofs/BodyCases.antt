-- Change 8, in cases: which bodies are followed, and where the added definitions and declarations stand.
use mathlib.Core.Path.{refl}
use mathlib.Core.List.{List, [], ◌∷◌}
use Rattle.model.proofs.Printing.{Case, passes, AllPass}

-- added definitions stand after those noted, in byte order of name
added_defs : Case
added_defs =
    record {
      file = ("ask,0,12" ∷ "free,B" ∷ "free,a" ∷ "free,Z" ∷ "free,m" ∷ "op,other,0,1,2" ∷ "def,n,4" ∷ "def,B,3" ∷ "def,a,3" ∷ "def,Z,3" ∷ "free,n" ∷ "free,k" ∷ "op,other,5,6" ∷ "def,k,3" ∷ "root,0,r,7" ∷ []);
      printed = ("kept,7,n" ∷ "kept,14,k" ∷ "kept,8,B" ∷ "kept,10,Z" ∷ "kept,9,a" ∷ "sum,5,0,1" ∷ []);
    }

-- added declarations stand after those noted, in byte order of name, a prefix first
added_funs : Case
added_funs =
    record {
      file = ("ask,0,12" ∷ "free,ab" ∷ "free,a" ∷ "free,A" ∷ "op,other,0,1,2" ∷ "def,g,3" ∷ "fun,a" ∷ "fun,ab" ∷ "fun,A" ∷ "fun,zz" ∷ "free,g" ∷ "free,zz" ∷ "op,other,4,5" ∷ "root,0,r,6" ∷ []);
      printed = ("kept,6,g" ∷ "kept,10,zz" ∷ "kept,9,A" ∷ "kept,7,a" ∷ "kept,8,ab" ∷ "sum,5,0,1" ∷ []);
    }

-- bodies are followed to any depth
any_depth : Case
any_depth = record { file = ("ask,0,12" ∷ "free,g" ∷ "free,h" ∷ "free,k" ∷ "free,m" ∷ "def,g,1" ∷ "def,h,2" ∷ "def,k,3" ∷ "fun,m" ∷ "root,0,r,0" ∷ []); printed = ("kept,6,g" ∷ "kept,7,h" ∷ "kept,8,k" ∷ "kept,9,m" ∷ "sum,4,0,1" ∷ []) }

-- a definition kept for an ambient is followed
def_of_an_ambient : Case
def_of_an_ambient = record { file = ("ask,0,12" ∷ "free,f" ∷ "def,g,0" ∷ "fun,f" ∷ "free,g" ∷ "label,1" ∷ "assume,m,0,2" ∷ []); printed = ("fact,7,ambient,0 free={g}" ∷ "kept,7,m" ∷ "kept,3,g" ∷ "kept,4,f" ∷ "sum,3,0,1" ∷ []) }

-- a def of the name of a starting macro is followed
def_of_a_macro : Case
def_of_a_macro = record { file = ("ask,0,12" ∷ "free,is-BoxInt" ∷ "root,0,r,0" ∷ "fun,BoxInt" ∷ "free,BoxInt" ∷ "def,is-BoxInt,1" ∷ []); printed = ("kept,6,is-BoxInt" ∷ "kept,4,BoxInt" ∷ "sum,2,0,1" ∷ []) }

-- a definition that names itself
def_of_itself : Case
def_of_itself = record { file = ("ask,0,12" ∷ "free,a" ∷ "def,a,0" ∷ "root,0,r,0" ∷ []); printed = ("kept,3,a" ∷ "sum,1,0,1" ∷ []) }

-- two definitions in a circle
defs_in_a_circle : Case
defs_in_a_circle = record { file = ("ask,0,12" ∷ "free,a" ∷ "free,b" ∷ "def,a,1" ∷ "def,b,0" ∷ "root,0,r,0" ∷ []); printed = ("kept,4,a" ∷ "kept,5,b" ∷ "sum,2,0,1" ∷ []) }

-- a fact is not added
fact_in_a_body : Case
fact_in_a_body = record { file = ("ask,0,12" ∷ "free,x" ∷ "def,g,0" ∷ "free,y" ∷ "op,eq,1,1" ∷ "assume,x,0,2" ∷ "free,g" ∷ "root,0,r,3" ∷ []); printed = ("fact,6,triggers,{y},{y} free={y}" ∷ "kept,3,g" ∷ "sum,1,0,1" ∷ []) }

-- following meets no name: neither visits nor rounds grow
following_meets_nothing : Case
following_meets_nothing = record { file = ("ask,0,12" ∷ "free,f2" ∷ "def,f1,0" ∷ "free,f1" ∷ "def,f0,1" ∷ "free,f0" ∷ "root,0,r,2" ∷ "op,eq,0,0" ∷ "assume,e,0,3" ∷ []); printed = ("fact,9,triggers,{f2},{f2} free={f2}" ∷ "kept,5,f0" ∷ "kept,3,f1" ∷ "sum,2,0,1" ∷ []) }

-- with option 1 nothing is kept for an ambient, and nothing followed
no_ambients : Case
no_ambients = record { file = ("ask,0,13" ∷ "free,f" ∷ "def,g,0" ∷ "fun,f" ∷ "free,g" ∷ "label,1" ∷ "assume,m,0,2" ∷ []); printed = ("fact,7,ambient,0 free={g}" ∷ "sum,0,0,1" ∷ []) }

-- one of the nine is not free in a body
excluded_name : Case
excluded_name = record { file = ("ask,0,12" ∷ "free,ApplyTT" ∷ "def,g,0" ∷ "fun,ApplyTT" ∷ "free,g" ∷ "root,0,r,1" ∷ []); printed = ("kept,3,g" ∷ "sum,1,0,1" ∷ []) }

-- option 4 alone stops at the definition
option_4_alone : Case
option_4_alone = record { file = ("ask,0,4" ∷ "free,f" ∷ "def,g,0" ∷ "fun,f" ∷ "free,g" ∷ "root,0,r,1" ∷ []); printed = ("kept,3,g" ∷ "sum,1,0,1" ∷ []) }

-- options 4 and 8 together follow its body
options_12 : Case
options_12 = record { file = ("ask,0,12" ∷ "free,f" ∷ "def,g,0" ∷ "fun,f" ∷ "free,g" ∷ "root,0,r,1" ∷ []); printed = ("kept,3,g" ∷ "kept,4,f" ∷ "sum,2,0,1" ∷ []) }

-- so do all four together
options_15 : Case
options_15 = record { file = ("ask,0,15" ∷ "free,f" ∷ "def,g,0" ∷ "fun,f" ∷ "free,g" ∷ "root,0,r,1" ∷ []); printed = ("kept,3,g" ∷ "kept,4,f" ∷ "sum,2,0,1" ∷ []) }

-- the names of a pattern in a body are free in it
pattern_names : Case
pattern_names = record { file = ("ask,0,12" ∷ "free,f" ∷ "leaf" ∷ "all,1,1,1,0" ∷ "def,g,2" ∷ "fun,f" ∷ "free,g" ∷ "root,0,r,3" ∷ []); printed = ("kept,5,g" ∷ "kept,6,f" ∷ "sum,2,0,1" ∷ []) }

-- a starting macro has no body
starting_macro : Case
starting_macro = record { file = ("ask,0,12" ∷ "free,is-BoxInt" ∷ "root,0,r,0" ∷ "fun,BoxInt" ∷ []); printed = ("sum,0,0,1" ∷ []) }

-- option 8 alone keeps neither definitions nor declarations
option_8_alone : Case
option_8_alone = record { file = ("ask,0,8" ∷ "free,f" ∷ "def,g,0" ∷ "fun,f" ∷ "free,g" ∷ "root,0,r,1" ∷ []); printed = ("sum,0,0,1" ∷ []) }

-- both groups at once: the fact, definitions noted and added, declarations noted and added
both_groups : Case
both_groups =
    record {
      file = ("ask,0,12" ∷ "free,p" ∷ "free,zf" ∷ "free,b" ∷ "free,a" ∷ "free,cf" ∷ "op,other,2,1" ∷ "def,n,5" ∷ "op,other,3,4" ∷ "def,b,6" ∷ "def,a,0" ∷ "fun,zf" ∷ "fun,cf" ∷ "fun,mf" ∷ "fun,p" ∷ "free,n" ∷ "free,mf" ∷ "op,other,0,7,8" ∷ "all,9,1,1,0" ∷ "assume,x,0,10" ∷ "root,0,r,0" ∷ []);
      printed = ("fact,20,triggers,{p} free={mf n p}" ∷ "kept,20,x" ∷ "kept,8,n" ∷ "kept,11,a" ∷ "kept,10,b" ∷ "kept,15,p" ∷ "kept,14,mf" ∷ "kept,13,cf" ∷ "kept,12,zf" ∷ "sum,8,1,2" ∷ []);
    }

-- the table
abbrev table : List Case
table = added_defs ∷ added_funs ∷ any_depth ∷ def_of_an_ambient ∷ def_of_a_macro ∷ def_of_itself ∷ defs_in_a_circle ∷ fact_in_a_body ∷ following_meets_nothing ∷ no_ambients ∷ excluded_name ∷ option_4_alone ∷ options_12 ∷ options_15 ∷ pattern_names ∷ starting_macro ∷ option_8_alone ∷ both_groups ∷ []

-- each entry passes; a wrong one is named in the error
all_pass : AllPass table
unfolding passes added_defs added_funs any_depth def_of_an_ambient def_of_a_macro def_of_itself defs_in_a_circle fact_in_a_body following_meets_nothing no_ambients excluded_name option_4_alone options_12 options_15 pattern_names starting_macro option_8_alone both_groups
all_pass = (refl, (refl, (refl, (refl, (refl, (refl, (refl, (refl, (refl, (refl, (refl, (refl, (refl, (refl, (refl, (refl, (refl, (refl, tt))))))))))))))))))
