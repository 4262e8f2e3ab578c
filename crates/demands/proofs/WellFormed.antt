-- The records of an accepted file are well formed: no name is taken twice, and name lists are sets.
use Prim.Native.Nat.{ℕ, ◌≤◌}
use mathlib.Core.Path.{◌≡◌, refl, sym, subst}
use mathlib.Core.Logic.{⊎_elim}
use mathlib.Core.Bool.{Bool, not}
use mathlib.Core.List.Memᴰ
use mathlib.Core.List.{List, [], ◌++◌, Memᴰ}
use lib.Dec.{T, T_not}
use Rattle.model.specs.Lists.{collect, fold_left}
use Rattle.model.specs.Lines.{fields}
use Rattle.model.specs.Names.{Name, mem}
use Rattle.model.specs.Terms.{Node, Term, add_term}
use Rattle.model.specs.Summaries.{exclude_names, free_top_level_names, summarize_assumption}
use Rattle.model.specs.Reading.{Content, head, term, assume, fun, def, retain, root, most_group, Summary, Root, State, start, nodes, taken_by, summarize_decl, root_of, excluded, add_line, repeats, read, read_file}
use Rattle.model.specs.Rounds.{facts, definitions}
use Rattle.model.proofs.ListLaws.{any_intro, collect_append, fold_left_case}
use Rattle.model.proofs.SetLaws.{Ascending, empty, one, ascending_add, ascending_union, ascending_diff, mem_intro}
use Rattle.demands.specs.LinesRead.{Distinct, none as Distinct_none, one_more}
use Rattle.demands.specs.WellFormed.{GoodFact, WellFormed, AcceptedWellFormed}
use Rattle.demands.proofs.Distinct.{distinct_append}
use Rattle.laws.proofs.Records.{facts_append, definitions_append}
use Rattle.demands.proofs.TermNames.{NameLaw, node_law, free_law, group_law}
use Rattle.demands.proofs.Disjuncts.{Parts, lawful_kind}
use Rattle.laws.proofs.ReadingLaws.{line_read, kept_by_file}
use Rattle.demands.proofs.LineFields.{InGroup, line_fields}

-- records without a fact or a definition, and no root, are well formed where no name is taken twice
no_sets : {l : List Summary} → Distinct (collect taken_by l) → facts l ≡ [] → definitions l ≡ [] → WellFormed l []
no_sets once no_facts no_definitions =
    record {
      distinct = once;
      good_facts = λ f i. absurd (Memᴰ.not-nil (rw no_facts at i));
      definition_sets = λ d i. absurd (Memᴰ.not-nil (rw no_definitions at i));
      root_sets = λ r i. absurd (Memᴰ.not-nil i);
    }

-- no records at all are well formed
no_records : WellFormed [] []
unfolding collect facts definitions
no_records = no_sets Distinct_none refl refl

-- two lists of records, of which the second takes no name that the first takes, are well formed one after the other
well_append : {l m : List Summary} {rs qs : List Root} → WellFormed l rs → WellFormed m qs
    → ((n : Name) → Memᴰ n (collect taken_by l) → Memᴰ n (collect taken_by m) → ⊥)
    → WellFormed (l ++ m) (rs ++ qs)
well_append {l} {m} {rs} {qs} v w apart =
    record {
      distinct = rw collect_append (distinct_append v.distinct w.distinct apart);
      good_facts = λ f i. ⊎_elim (v.good_facts f) (w.good_facts f) (Memᴰ.append_cases (facts l) (rw facts_append at i));
      definition_sets = λ d i. ⊎_elim (v.definition_sets d) (w.definition_sets d) (Memᴰ.append_cases (definitions l) (rw definitions_append at i));
      root_sets = λ r i. ⊎_elim (v.root_sets r) (w.root_sets r) (Memᴰ.append_cases rs i);
    }

-- the free names of every term of the table are a set
pub record TermSets (terms : List Term) : Type 0 where
  pub of_term : (t : Term) → Memᴰ t terms → Ascending t.names

-- a set is what unions and parts of sets are
pub set_law : NameLaw Ascending
set_law = record { of_none = empty; of_union = λ l m a b. ascending_union l b; of_diff = λ l m a. ascending_diff m a }

module _ {terms : List Term} (sets : TermSets terms) where
  -- the names of a table with one term line more are sets
  more_terms : (node : Node) → TermSets (add_term terms node)
  unfolding add_term
  more_terms node = record { of_term = λ t i. ⊎_elim (sets.of_term t) (λ j. subst (λ x. Ascending x.names) (sym (Memᴰ.eq_of_singleton j)) (node_law set_law terms sets.of_term node (λ n l i a. ascending_add n a))) (Memᴰ.append_cases terms i) }

  module _ (exclude : List Name) where
    -- the counted free names of a term are a set
    pub free_set : (t : ℕ) → Ascending (free_top_level_names exclude terms t)
    free_set = free_law set_law terms sets.of_term exclude

    -- what disjuncts are made of is a set each
    part_sets : Parts (λ trimmed d. Ascending d) exclude terms
    part_sets = record { of_term = free_set; of_group = group_law set_law terms sets.of_term exclude; of_token = λ t n e trimmed. one; of_trimmed = λ n. one }

    -- the summary of an assumption is good
    good_summary : (line : ℕ) (name : Name) (pretyping : Bool) (group t : ℕ) → group ≤ most_group
        → GoodFact (summarize_assumption exclude terms line name pretyping group t)
    unfolding summarize_assumption
    good_summary line name pretyping group t low =
        let k = lawful_kind (λ trimmed d. Ascending d) exclude terms part_sets name t in
        record { disjunct_count = k.disjunct_count; free_set = free_set t; trigger_sets = k.disjuncts; low_group = low }

    -- what a line adds is well formed
    well_line : (form : Bool) (n : ℕ) (c : Content) → InGroup form c → WellFormed (summarize_decl exclude terms n c) (root_of exclude terms n c)
    unfolding summarize_decl root_of collect taken_by facts definitions
    well_line form n (head h) g = no_records
    well_line form n (term node) g = no_records
    well_line form n (assume name flag group t) g =
        record {
          distinct = one_more Memᴰ.not-nil Distinct_none;
          good_facts = λ f i. subst GoodFact (sym (Memᴰ.eq_of_singleton i)) (good_summary n name flag group t g.0);
          definition_sets = λ d i. absurd (Memᴰ.not-nil i);
          root_sets = λ r i. absurd (Memᴰ.not-nil i);
        }
    well_line form n (fun name) g = no_sets (one_more Memᴰ.not-nil Distinct_none) refl refl
    well_line form n (def name t) g =
        record {
          distinct = one_more Memᴰ.not-nil Distinct_none;
          good_facts = λ f i. absurd (Memᴰ.not-nil i);
          definition_sets = λ d i. subst (λ x. Ascending x.free_names) (sym (Memᴰ.eq_of_singleton i)) (free_set t);
          root_sets = λ r i. absurd (Memᴰ.not-nil i);
        }
    well_line form n (retain names) g = no_sets Distinct_none refl refl
    well_line form n (root q name t) g =
        record {
          distinct = Distinct_none;
          good_facts = λ f i. absurd (Memᴰ.not-nil i);
          definition_sets = λ d i. absurd (Memᴰ.not-nil i);
          root_sets = λ r i. subst (λ x. Ascending x.free_names) (sym (Memᴰ.eq_of_singleton i)) (free_set t);
        }

-- the names of the table after a line are sets
pub sets_after : {terms : List Term} → TermSets terms → (c : Content) → TermSets (fold_left add_term terms (nodes c))
sets_after sets c = fold_left_case TermSets add_term (nodes c) (λ terms node i s. more_terms s node) sets

-- a line that does not repeat takes no name that is taken
apart : (exclude : List Name) (n : ℕ) (s : State) (c : Content) → T (not (repeats exclude n s c))
    → (name : Name) → Memᴰ name (collect taken_by s.decls) → Memᴰ name (collect taken_by (summarize_decl (excluded exclude s) s.terms n c)) → ⊥
unfolding repeats
apart exclude n s c t name i j =
    T_not (repeats exclude n s c) t (any_intro (λ k. mem k (collect taken_by s.decls)) j (mem_intro i))

-- what reading keeps: name lists are sets, in the table and in the records, and no name is taken twice
pub record Sound (s : State) : Type 0 where
  pub sets : TermSets s.terms
  pub well : WellFormed s.decls s.roots

-- the start is sound
sound_start : Sound start
unfolding start collect facts definitions
sound_start = record { sets = record { of_term = λ t i. absurd (Memᴰ.not-nil i) }; well = no_records }

-- a line that does not repeat a name keeps the state sound
sound_line : (exclude : List Name) (n : ℕ) (s : State) (c : Content) → InGroup s.grouped c → T (not (repeats exclude n s c)) → Sound s
    → Sound (add_line exclude n s c)
unfolding add_line
sound_line exclude n s c g fresh v =
    record {
      sets = sets_after v.sets c;
      well = well_append v.well (well_line v.sets (excluded exclude s) s.grouped n c g) (apart exclude n s c fresh);
    }

-- every accepted file leaves a sound state
pub accepted_sound : (exclude : List Name) (file : List ℕ) (s : State) → read_file exclude file ≡ read s → Sound s
accepted_sound exclude file s e =
    kept_by_file exclude (λ n s. Sound s)
    (λ n s s' line r v. let l = line_read exclude n s line s' r in rw l.after (sound_line exclude n s l.content (line_fields s (fields line.bytes) l.parsed).in_group l.fresh v))
    file s e sound_start

-- the records of an accepted file are well formed
pub accepted_well_formed : AcceptedWellFormed
accepted_well_formed file s e = (accepted_sound exclude_names file s e).well
