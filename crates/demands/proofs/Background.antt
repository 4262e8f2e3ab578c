-- The background of an ask: what holds of the records of a file holds of those that the ask has to do with.
use Prim.Native.Nat.{ℕ}
use mathlib.Core.Path.{refl}
use mathlib.Core.Bool.{Bool, true, false, cond}
use mathlib.Core.List.Memᴰ
use mathlib.Core.List.{List, [], ◌∷◌, ◌++◌, Memᴰ}
use Rattle.model.specs.Lists.{keep, collect}
use Rattle.model.specs.Summaries.{exclude_names, Fact}
use Rattle.model.specs.Reading.{Ask, Decl, Summary, Root, State, taken_by}
use Rattle.model.specs.Rounds.{is_admitted, background, facts, definitions, declarations}
use Rattle.model.proofs.ListLaws.{keep_elim, collect_intro, collect_elim}
use Rattle.laws.proofs.Records.{fact_summary, summary_fact}
use Rattle.laws.proofs.BackgroundLaws.{background_elim, background_definitions, background_declarations}
use Rattle.demands.specs.LinesRead.{LinesRead, records_for, Distinct, none, one_more}
use Rattle.demands.specs.WellFormed.{WellFormed}
use Rattle.demands.specs.FileOrder.{line_of}
use Rattle.demands.proofs.WellFormed.{accepted_well_formed}
use Rattle.demands.proofs.RecordLines.{read_file_lines}
use Rattle.demands.proofs.Distinct.{distinct_tail, distinct_append, distinct_right, distinct_apart}

-- the front of a list without repeats is without repeats
front : {B : Type 0} (l m : List B) → Distinct (l ++ m) → Distinct l
front [] m d = none
front (x ∷ l) m d =
    one_more (λ i. distinct_apart (x ∷ []) (l ++ m) d (Memᴰ.head refl) (Memᴰ.append_left m i)) (front l m (distinct_tail d))

module _ {A B : Type 0} (f : A → List B) (test : A → Bool) where
  -- what is collected from some of the elements is without repeats where what is collected from all is
  pub collect_some : (l : List A) → Distinct (collect f l) → Distinct (collect f (keep test l))
  unfolding collect keep
  collect_some [] d = none
  collect_some (x ∷ l) d = go (test x) (collect_some l (distinct_right (f x) d))
    where
      go : (b : Bool) → Distinct (collect f (keep test l)) → Distinct (collect f (cond b (x ∷ keep test l) (keep test l)))
      go true below =
          distinct_append (front (f x) (collect f l) d) below
          (λ z i j. let (y, k, m) = collect_elim f (keep test l) j in
          distinct_apart (f x) (collect f l) d i (collect_intro f (keep_elim test l k).0 m))
      go false below = below

module _ (a : Ask) (decls : List Summary) where
  -- a fact of the background is one of the file
  pub admitted_fact : {f : Fact} → Memᴰ f (facts (background a decls)) → Memᴰ f (facts decls)
  admitted_fact i = summary_fact decls (background_elim a decls (fact_summary (background a decls) i)).0

  -- so is a definition
  pub admitted_definition : {d : Decl} → Memᴰ d (definitions (background a decls)) → Memᴰ d (definitions decls)
  admitted_definition i = rw (background_definitions a decls) at i

  -- and a declaration
  pub admitted_declaration : {d : Decl} → Memᴰ d (declarations (background a decls)) → Memᴰ d (declarations decls)
  admitted_declaration i = rw (background_declarations a decls) at i

  -- the background of well-formed records is well formed
  pub background_well : {roots : List Root} → WellFormed decls roots → WellFormed (background a decls) roots
  background_well w =
      record {
        distinct = unfold background in collect_some taken_by (is_admitted a) decls w.distinct;
        good_facts = λ f i. w.good_facts f (admitted_fact i);
        definition_sets = λ d i. w.definition_sets d (admitted_definition i);
        root_sets = w.root_sets;
      }

-- the records that an ask has to do with are well formed
pub well_for : (file : List ℕ) (s : State) → LinesRead file s → (a : Ask) → WellFormed (records_for a s) s.roots
well_for file s e a = background_well a s.decls (accepted_well_formed file s e)

-- each stands on a line of its own
pub lines_for : (file : List ℕ) (s : State) → LinesRead file s → (a : Ask) → Distinct (collect line_of (records_for a s))
unfolding background
lines_for file s e a = collect_some line_of (is_admitted a) s.decls (read_file_lines exclude_names file s e)
