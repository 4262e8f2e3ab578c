-- Document 02, Change 6: what hiding leaves, what it takes away and where a hide line may stand, shown as F1 to F10 are.
use mathlib.Core.Path.{refl}
use mathlib.Core.List.{List, [], ◌∷◌}
use Rattle.model.proofs.Printing.{Case, passes, AllPass}

-- the token of rule 4 and what a starting macro opens to are not subtracted: is-BoxInt, free in r, opens to the hidden BoxInt, on
-- which t is filed
token_and_macro : Case
token_and_macro = record { file = ("ask,0,0" ∷ "hide,BoxInt" ∷ "free,__uu__PartialApp" ∷ "free,BoxInt" ∷ "call,ApplyTT,0,1" ∷ "call,Valid,2" ∷ "assume,t,0,3" ∷ "free,is-BoxInt" ∷ "root,0,r,4" ∷ []); printed = ("fact,7,triggers,{BoxInt} free={__uu__PartialApp}" ∷ "kept,7,t" ∷ "sum,1,1,2" ∷ []) }

-- a hidden token is trimmed, and what it trims to is met
token_trimmed : Case
token_trimmed = record { file = ("ask,0,0" ∷ "hide,f@tok" ∷ "free,__uu__PartialApp" ∷ "free,f@tok" ∷ "call,ApplyTT,0,1" ∷ "call,Valid,2" ∷ "assume,t,0,3" ∷ "free,f" ∷ "root,0,r,4" ∷ []); printed = ("fact,7,triggers,{f@tok},{f} free={__uu__PartialApp}" ∷ "kept,7,t" ∷ "sum,1,1,2" ∷ []) }

-- a hidden name is in no root, so neither a token nor what one trims to is met by it
token_in_root : Case
token_in_root = record { file = ("ask,0,0" ∷ "hide,f" ∷ "hide,f@tok" ∷ "free,__uu__PartialApp" ∷ "free,f@tok" ∷ "call,ApplyTT,0,1" ∷ "call,Valid,2" ∷ "assume,t,0,3" ∷ "free,f" ∷ "root,0,r,4" ∷ "root,0,r,1" ∷ []); printed = ("fact,8,triggers,{f@tok},{f} free={__uu__PartialApp}" ∷ "sum,0,0,1" ∷ []) }

-- a hidden name is in no trigger: a needs p alone
trigger : Case
trigger = record { file = ("ask,0,0" ∷ "hide,w" ∷ "free,w" ∷ "free,p" ∷ "op,other,0,1" ∷ "assume,assumption_a,0,2" ∷ "root,0,r,1" ∷ []); printed = ("fact,6,triggers,{p} free={p}" ∷ "kept,6,assumption_a" ∷ "sum,1,1,2" ∷ []) }

-- nor in the body of a def, also of one that replaces a starting macro
macro_body : Case
macro_body = record { file = ("ask,0,0" ∷ "hide,BoxInt" ∷ "free,__uu__PartialApp" ∷ "free,BoxInt" ∷ "call,ApplyTT,0,1" ∷ "call,Valid,2" ∷ "assume,t,0,3" ∷ "def,is-BoxInt,1" ∷ "free,is-BoxInt" ∷ "root,0,r,4" ∷ []); printed = ("fact,7,triggers,{BoxInt} free={__uu__PartialApp}" ∷ "sum,0,0,1" ∷ []) }

-- a hidden macro is never free, so it opens nothing
macro_name : Case
macro_name = record { file = ("ask,0,0" ∷ "hide,is-BoxInt" ∷ "free,__uu__PartialApp" ∷ "free,BoxInt" ∷ "call,ApplyTT,0,1" ∷ "call,Valid,2" ∷ "assume,t,0,3" ∷ "free,is-BoxInt" ∷ "root,0,r,4" ∷ []); printed = ("fact,7,triggers,{BoxInt} free={BoxInt __uu__PartialApp}" ∷ "sum,0,0,1" ∷ []) }

-- a fun and a def of hidden names are accepted, and none is listed
fun_and_def : Case
fun_and_def = record { file = ("ask,0,4" ∷ "hide,f" ∷ "hide,g" ∷ "free,f" ∷ "free,g" ∷ "free,h" ∷ "op,other,0,1,2" ∷ "fun,f" ∷ "def,g,0" ∷ "fun,h" ∷ "root,0,r,3" ∷ []); printed = ("kept,10,h" ∷ "sum,1,0,1" ∷ []) }

-- a payload whose one set is empty by hiding makes an ambient root; the shape of the fact is looked at as before
ambient_root : Case
ambient_root = record { file = ("ask,0,0" ∷ "hide,HasType" ∷ "hide,Prims.squash" ∷ "hide,q" ∷ "free,p" ∷ "free,q" ∷ "all,0,1,1,1" ∷ "call,Prims.squash,0,2" ∷ "call,HasType,0,3" ∷ "assume,x,0,4" ∷ []); printed = ("fact,10,ambient,1 free={p}" ∷ "kept,10,x" ∷ "sum,1,0,1" ∷ []) }

-- a hide line may repeat a name, and takes none
repeats : Case
repeats = record { file = ("ask,0,0" ∷ "hide,a" ∷ "hide,a" ∷ "leaf" ∷ "assume,a,0,0" ∷ []); printed = ("fact,5,ambient,0 free={}" ∷ "kept,5,a" ∷ "sum,1,0,1" ∷ []) }

-- 1: after a term line
after_term : Case
after_term = record { file = ("ask,0,0" ∷ "hide,p" ∷ "free,p" ∷ "hide,q" ∷ []); printed = ("refused,1,4" ∷ []) }

-- 1: after a record line
after_record : Case
after_record = record { file = ("ask,0,0" ∷ "hide,p" ∷ "fun,p" ∷ "hide,q" ∷ []); printed = ("refused,1,4" ∷ []) }

-- 1: after a retain line
after_retain : Case
after_retain = record { file = ("ask,0,0" ∷ "retain" ∷ "hide,q" ∷ []); printed = ("refused,1,3" ∷ []) }

-- 1: before the ask
before_ask : Case
before_ask = record { file = ("hide,q" ∷ "ask,0,0" ∷ []); printed = ("refused,1,1" ∷ []) }

-- 1, before its fields, where it may not stand
before_fields : Case
before_fields = record { file = ("ask,0,0" ∷ "leaf" ∷ "hide," ∷ []); printed = ("refused,1,3" ∷ []) }

-- 1: a wrong count before any field
count : Case
count = record { file = ("ask,0,0" ∷ "hide,,q" ∷ []); printed = ("refused,1,2" ∷ []) }

-- 2: an empty name
name : Case
name = record { file = ("ask,0,0" ∷ "hide," ∷ []); printed = ("refused,2,2" ∷ []) }

cases : List Case
cases =
    token_and_macro
    ∷ token_trimmed
    ∷ token_in_root
    ∷ trigger
    ∷ macro_body
    ∷ macro_name
    ∷ fun_and_def
    ∷ ambient_root
    ∷ repeats
    ∷ after_term
    ∷ after_record
    ∷ after_retain
    ∷ before_ask
    ∷ before_fields
    ∷ count
    ∷ name
    ∷ []

-- the definitions print what each case says, and the two accounts agree
all_pass : AllPass cases
unfolding passes cases token_and_macro token_trimmed token_in_root trigger macro_body macro_name fun_and_def ambient_root repeats after_term
    after_record after_retain before_ask before_fields count name
all_pass = (refl, (refl, (refl, (refl, (refl, (refl, (refl, (refl, (refl, (refl, (refl, (refl, (refl, (refl, (refl, (refl, tt))))))))))))))))
