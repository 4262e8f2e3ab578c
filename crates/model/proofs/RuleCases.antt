-- The rule that gave a fact its kind, shown by computation: a fact for each of the twelve, and one with triggers of its own.
use Prim.Native.Nat.{ℕ}
use Prim.Native.String.{String}
use mathlib.Core.Path.{◌≡◌, refl}
use mathlib.Core.Bool.{Bool, true}
use mathlib.Core.List.{List, [], ◌∷◌}
use lib.Dec.{eqb}
use Rattle.model.specs.Lists
use Rattle.model.specs.Names.{bytes}
use Rattle.model.specs.Terms.{Term}
use Rattle.model.specs.Summaries
use Rattle.model.specs.Summaries.{exclude_names, rule_number}
use Rattle.model.specs.Reading.{Reading, read, refused_at, read_file}
use Rattle.model.proofs.Printing.{passes, file_of}

-- the terms of a file that was read
unfoldable terms_of : Reading → List Term
terms_of (read s) = s.terms
terms_of (refused_at r line) = []

-- a fact by its name and the number of its term, and its rule
record Ruled : Type 0 where
  pub name : String
  pub term : ℕ
  pub rule : ℕ

-- the lines of the terms, each with its number
unfoldable terms : List String
terms =
    "ask,0,0"
    -- 0 to 5
    ∷ "free,p"
    ∷ "free,q"
    ∷ "op,iff,0,1"
    ∷ "op,eq,0,1"
    ∷ "op,true"
    ∷ "op,and,3,3"
    -- 6 to 8
    ∷ "call,Valid,0"
    ∷ "call,Prims.squash,0,1"
    ∷ "call,HasType,0,7"
    -- 9 to 12
    ∷ "free,__uu__PartialApp"
    ∷ "free,t@tok"
    ∷ "call,ApplyTT,9,10"
    ∷ "call,Valid,11"
    -- 13 to 15
    ∷ "call,Term_constr_id,0"
    ∷ "op,eq,0,13"
    ∷ "all,3,1,1,0"
    ∷ []

-- whether the definitions give the fact its rule
unfoldable is_ruled : Ruled → Bool
unfolding passes terms_of terms Lists.find_index Summaries.rule_number
is_ruled r = eqb (rule_number exclude_names (terms_of (read_file exclude_names (file_of terms))) (bytes r.name) r.term) r.rule

-- that they do of each
abbrev AllRuled : List Ruled → Type 0
AllRuled [] = Unit {0}
AllRuled (r ∷ rs) = (is_ruled r ≡ true) × AllRuled rs

ruled : List Ruled
ruled =
    record { name = "assumption_x"; term = 15; rule = 0 }
    ∷ record { name = "l_quant_interp_x"; term = 2; rule = 1 }
    ∷ record { name = "assumption_x"; term = 4; rule = 2 }
    ∷ record { name = "x"; term = 8; rule = 3 }
    ∷ record { name = "x"; term = 12; rule = 4 }
    ∷ record { name = "x"; term = 6; rule = 5 }
    ∷ record { name = "equation_x"; term = 14; rule = 6 }
    ∷ record { name = "x"; term = 5; rule = 7 }
    ∷ record { name = "equation_x"; term = 3; rule = 8 }
    ∷ record { name = "x"; term = 2; rule = 9 }
    ∷ record { name = "x"; term = 3; rule = 10 }
    ∷ record { name = "x"; term = 4; rule = 11 }
    ∷ record { name = "x"; term = 0; rule = 12 }
    ∷ []

all_ruled : AllRuled ruled
unfolding is_ruled ruled
all_ruled = (refl, (refl, (refl, (refl, (refl, (refl, (refl, (refl, (refl, (refl, (refl, (refl, (refl, tt)))))))))))))
