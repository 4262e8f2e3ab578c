-- The names on the lines of the kept lists of an ask, as printed, are those of the records that the lists are made of.
use Prim.Native.Nat.{ℕ}
use mathlib.Core.Path.{◌≡◌, ◌∙◌, ap}
use mathlib.Core.Logic.{⊎_elim}
use mathlib.Core.List.Memᴰ
use mathlib.Core.List.{List, map, Memᴰ}
use Rattle.model.specs.Names.{Name}
use Rattle.model.specs.Summaries.{Fact}
use Rattle.model.specs.Reading.{Ask, Decl, Summary, State}
use Rattle.model.specs.Rounds.{facts, definitions, declarations}
use Rattle.model.specs.Kept.{kept_names, kept_decls}
use Rattle.model.specs.Bodies.{added_for}
use Rattle.model.specs.Text.{name_on}
use Rattle.demands.specs.LinesRead.{LinesRead, records_for}
use Rattle.demands.specs.Demand2.{kept_list, followed_list}
use Rattle.demands.specs.Demand3.{run_of}
use Rattle.demands.proofs.ListedLaws.{kept_facts_elim, kept_decls_elim}
use Rattle.demands.proofs.Background.{admitted_fact, admitted_definition, admitted_declaration}
use Rattle.demands.proofs.Bodies.{of_names_elim}
use Rattle.demands.proofs.Printed.{printed_names}
use Rattle.demands.proofs.Listing.{Parts, kept_parts, followed_parts, listed_lines, listed_names, kept_lines, followed_lines, map_told, told_cong}

-- what a list of a file is made of stands in the file
record OfFile (s : State) (p : Parts) : Type 0 where
  are_facts : (f : Fact) → Memᴰ f p.facts → Memᴰ f (facts s.decls)
  are_definitions : (d : Decl) → Memᴰ d p.defs → Memᴰ d (definitions s.decls)
  are_declarations : (d : Decl) → Memᴰ d p.funs → Memᴰ d (declarations s.decls)

module _ (file : List ℕ) (s : State) (e : LinesRead file s) (a : Ask) where
  -- so the names on its lines are those of its records
  names_listed : (p : Parts) → OfFile s p → map (name_on file) (listed_lines a p) ≡ listed_names a p
  names_listed p of =
      let named = printed_names file s e in
      map_told a (name_on file) (λ f. f.line) (λ d. d.line) p
      ∙ told_cong a _ _ _ _ p (λ f i. named.of_fact f (of.are_facts f i)) (λ d i. named.of_definition d (of.are_definitions d i)) (λ d i. named.of_declaration d (of.are_declarations d i))

  abbrev B : List Summary
  B = records_for a s

  abbrev reached : List Name
  reached = (run_of a s).reached

  kept_of : OfFile s (kept_parts a B s.roots reached)
  kept_of =
      let names = kept_names a (facts B) s.roots reached in
      record {
        are_facts = λ f i. admitted_fact a s.decls (kept_facts_elim a (facts B) reached i);
        are_definitions = λ d i. admitted_definition a s.decls (kept_decls_elim names (definitions B) i);
        are_declarations = λ d i. admitted_declaration a s.decls (kept_decls_elim names (declarations B) i);
      }

  followed_of : OfFile s (followed_parts a B s.roots reached)
  followed_of =
      let names = kept_names a (facts B) s.roots reached in
      let added = added_for a (definitions B) names in
      record {
        are_facts = λ f i. admitted_fact a s.decls (kept_facts_elim a (facts B) reached i);
        are_definitions = λ d i. admitted_definition a s.decls
            (⊎_elim (kept_decls_elim names (definitions B)) (λ j. (of_names_elim (definitions B) added j).0) (Memᴰ.append_cases (kept_decls names (definitions B)) i));
        are_declarations = λ d i. admitted_declaration a s.decls
            (⊎_elim (kept_decls_elim names (declarations B)) (λ j. (of_names_elim (declarations B) added j).0) (Memᴰ.append_cases (kept_decls names (declarations B)) i));
      }

  -- so the names on the kept list are those of the kept records, in order
  pub kept_named : map (name_on file) (kept_list a s) ≡ listed_names a (kept_parts a B s.roots reached)
  kept_named = ap (map (name_on file)) (kept_lines a B s.roots reached) ∙ names_listed (kept_parts a B s.roots reached) kept_of

  pub followed_named : map (name_on file) (followed_list a s) ≡ listed_names a (followed_parts a B s.roots reached)
  followed_named = ap (map (name_on file)) (followed_lines a B s.roots reached) ∙ names_listed (followed_parts a B s.roots reached) followed_of
