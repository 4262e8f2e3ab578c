-- What a kept list is made of: the facts, the definitions and the declarations whose lines it has.
use Prim.Native.Nat.{ℕ}
use mathlib.Core.Path.{◌≡◌, refl, sym, ◌∙◌, ap, ap₂}
use mathlib.Core.Logic.{⊎_elim}
use mathlib.Core.Bool.{cond}
use mathlib.Core.List.Memᴰ
use mathlib.Core.List.{List, [], ◌++◌, map, map-map, map-append, Memᴰ}
use Rattle.model.specs.Names.{Name}
use Rattle.model.specs.Summaries.{Fact}
use Rattle.model.specs.Reading.{Ask, prune_decls, Root, Decl, Summary}
use Rattle.model.specs.Rounds.{facts, definitions, declarations}
use Rattle.model.specs.Kept.{kept_facts, kept_names, kept_decls, kept}
use Rattle.model.specs.Bodies.{of_names, added_for, kept_followed}
use Rattle.model.proofs.ListLaws.{cond_ap, map_cong}
use Rattle.demands.proofs.Rearranged.{SameMembers, members_self, members_append, members_map, members_cond}

pub record Parts : Type 0 where
  pub facts : List Fact
  pub defs : List Decl
  pub funs : List Decl

-- those of the list without what bodies add
abbrev pub kept_parts : Ask → List Summary → List Root → List Name → Parts
kept_parts a decls roots reached =
    let names = kept_names a (facts decls) roots reached in
    record {
      facts = kept_facts a (facts decls) reached;
      defs = kept_decls names (definitions decls);
      funs = kept_decls names (declarations decls);
    }

-- those of the list with it
abbrev pub followed_parts : Ask → List Summary → List Root → List Name → Parts
followed_parts a decls roots reached =
    let names = kept_names a (facts decls) roots reached in
    let added = added_for a (definitions decls) names in
    record {
      facts = kept_facts a (facts decls) reached;
      defs = kept_decls names (definitions decls) ++ of_names added (definitions decls);
      funs = kept_decls names (declarations decls) ++ of_names added (declarations decls);
    }

-- what is told of each, in the order of the list: the definitions and the declarations with option 4
abbrev pub told : {X : Type 0} → (Fact → X) → (Decl → X) → Ask → Parts → List X
told of_fact of_decl a p = map of_fact p.facts ++ cond (prune_decls a) (map of_decl (p.defs ++ p.funs)) []

-- their lines
abbrev pub listed_lines : Ask → Parts → List ℕ
listed_lines a p = told (λ f. f.line) (λ d. d.line) a p

-- their names
abbrev pub listed_names : Ask → Parts → List Name
listed_names a p = told (λ f. f.name) (λ d. d.name) a p

module _ (a : Ask) (decls : List Summary) (roots : List Root) (reached : List Name) where
  pub kept_lines : kept a decls roots reached ≡ listed_lines a (kept_parts a decls roots reached)
  unfolding kept
  kept_lines = refl

  pub followed_lines : kept_followed a decls roots reached ≡ listed_lines a (followed_parts a decls roots reached)
  unfolding kept_followed
  followed_lines = refl

module _ {X : Type 0} (a : Ask) where
  -- what a function gives of what is told
  pub map_told : {Y : Type 0} (k : X → Y) (g : Fact → X) (h : Decl → X) (p : Parts) → map k (told g h a p) ≡ told (λ f. k (g f)) (λ d. k (h d)) a p
  map_told k g h p =
      map-append k (map g p.facts) (cond (prune_decls a) (map h (p.defs ++ p.funs)) [])
      ∙ ap₂ ◌++◌ (map-map k g p.facts)
      (cond_ap (map k) (prune_decls a) (map h (p.defs ++ p.funs)) [] ∙ ap (λ l. cond (prune_decls a) l []) (map-map k h (p.defs ++ p.funs)))

  -- what is told of other parts, one for one
  pub told_map : (g : Fact → X) (h : Decl → X) (f : Fact → Fact) (d : Decl → Decl) (p : Parts)
      → told g h a (record { facts = map f p.facts; defs = map d p.defs; funs = map d p.funs }) ≡ told (λ x. g (f x)) (λ x. h (d x)) a p
  told_map g h f d p =
      ap₂ ◌++◌ (map-map g f p.facts)
      (ap (λ l. cond (prune_decls a) l []) (ap (map h) (sym (map-append d p.defs p.funs)) ∙ map-map h d (p.defs ++ p.funs)))

  -- what two functions tell alike of the parts
  pub told_cong : (g g' : Fact → X) (h h' : Decl → X) (p : Parts) → ((f : Fact) → Memᴰ f p.facts → g f ≡ g' f)
      → ((d : Decl) → Memᴰ d p.defs → h d ≡ h' d) → ((d : Decl) → Memᴰ d p.funs → h d ≡ h' d) → told g h a p ≡ told g' h' a p
  told_cong g g' h h' p of_facts of_defs of_funs =
      ap₂ ◌++◌ (map_cong g g' p.facts of_facts)
      (ap (λ l. cond (prune_decls a) l []) (map_cong h h' (p.defs ++ p.funs) (λ d i. ⊎_elim (of_defs d) (of_funs d) (Memᴰ.append_cases p.defs i))))

-- parts with the same members
pub record SameParts (p q : Parts) : Type 0 where
  pub same_facts : SameMembers p.facts q.facts
  pub same_defs : SameMembers p.defs q.defs
  pub same_funs : SameMembers p.funs q.funs

-- tell the same, as a set
pub told_same : {X : Type 0} (g : Fact → X) (h : Decl → X) (a : Ask) {p q : Parts} → SameParts p q → SameMembers (told g h a p) (told g h a q)
told_same g h a s =
    members_append (members_map g s.same_facts)
    (members_cond (prune_decls a) (members_map h (members_append s.same_defs s.same_funs)) (members_self []))
