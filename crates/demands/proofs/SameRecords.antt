-- Rearranged records: an ask has the same run, the same chain, as many visits, and lists of the same records.
use Prim.Native.Nat.{ℕ, suc}
use mathlib.Core.Path.{◌≡◌, refl, sym, ◌∙◌, ap}
use mathlib.Core.Bool.{cond, not, ◌&&◌}
use mathlib.Core.List.{List, [], ◌∷◌, map, Memᴰ, Permᴰ}
use lib.Dec.{not_T, T_not, eqb}
use lib.ListN.{length, drop}
use Rattle.model.specs.Lists.{collect, or_else}
use Rattle.model.specs.Names.{Name, same, mem, from_list, diff}
use Rattle.model.specs.Summaries.{Fact}
use Rattle.model.specs.Reading.{Ask, follow_bodies, no_ambients, Root, Decl, Summary, taken_by}
use Rattle.model.specs.Pruning.{try_find, init_macro_freenames}
use Rattle.model.specs.Rounds.{Run, first_run, most_rounds, facts, definitions, declarations, macros, listed, filed, is_ambient, is_ambient_root, asks_for, goal_roots, ambient_roots, first_scanned, run, is_admitted, background}
use Rattle.model.specs.Kept.{reached_facts, ambients, kept_facts, kept_names, first_met, kept_decls}
use Rattle.model.specs.Bodies.{all_followed, added_names, of_names, added_for}
use Rattle.model.specs.Also.{with_queries, also_scanned, stretch_start, stretch, chain, stretch_visits}
use Rattle.model.specs.Outcome.{position}
use Rattle.model.proofs.ListLaws.{map_elim}
use Rattle.model.proofs.SetLaws.{Ascending, empty, Within, ascending_ext, ascending_from_list, ascending_diff, mem_intro, mem_elim, mem_from_list, mem_diff}
use Rattle.laws.proofs.Records.{from_summary, nothing, itself, facts_collect, definitions_collect, declarations_collect}
use Rattle.laws.proofs.MapLaws.{Functional, try_find_same, try_find_append}
use Rattle.laws.proofs.BodyLaws.{all_closed, all_has, all_least, all_set}
use Rattle.demands.specs.LinesRead.{Distinct}
use Rattle.demands.proofs.Distinct.{distinct_map}
use Rattle.demands.proofs.Rearranged.{perm_count, perm_collect, perm_keep, SameMembers, members_self, members_perm, members_keep, members_append, members_reverse, members_cond, members_map, members_collect, members_set}
use Rattle.demands.proofs.Listing.{kept_parts, followed_parts, SameParts}
use Rattle.demands.proofs.Background.{collect_some}
use Rattle.demands.proofs.Pruned.{distinct_definitions}
use Rattle.demands.proofs.Order.{first_met_intro, first_met_elim}
use Rattle.demands.proofs.SameRun.{Alike, rounds_set, rounds_same}

-- the same records and roots, rearranged
pub record SameRecords (decls decls' : List Summary) (roots roots' : List Root) : Type 0 where
  pub of_decls : Permᴰ decls decls'
  pub of_roots : Permᴰ roots roots'

-- the macro of a definition
abbrev macro_of : Decl → Name × List Name
macro_of d = (d.name, d.free_names)

-- where no name is taken twice each macro is bound once
macros_once : (decls : List Summary) → Distinct (collect taken_by decls) → Functional (map macro_of (definitions decls))
unfolding taken_by
macros_once decls once k a b i j =
    let (c, m, e) = map_elim macro_of (definitions decls) i in
    let (d, n, f) = map_elim macro_of (definitions decls) j in
    let is : c ≡ d = distinct_map (λ (d : Decl). d.name) (definitions decls)
    (distinct_definitions taken_by (λ d. d.name) (λ d. Memᴰ.head refl) decls once) m n (ap (λ (x : Name × List Name). x.0) e ∙ sym (ap (λ (x : Name × List Name). x.0) f)) in
    sym (ap (λ (x : Name × List Name). x.1) e) ∙ ap (λ (d : Decl). d.free_names) is ∙ ap (λ (x : Name × List Name). x.1) f

-- what is collected of free names
free_in : {A : Type 0} (free : A → List Name) {l m : List A} → SameMembers l m → SameMembers (collect free l) (collect free m)
free_in free s = members_collect free free (λ x. members_self (free x)) s

module _ {decls decls' : List Summary} {roots roots' : List Root} (s : SameRecords decls decls' roots roots') where
  -- the background of an ask is rearranged
  pub background_same : (a : Ask) → SameRecords (background a decls) (background a decls') roots roots'
  unfolding background
  background_same a = record { of_decls = perm_keep (is_admitted a) s.of_decls; of_roots = s.of_roots }

  -- so are the records of each sort
  facts_same : Permᴰ (facts decls) (facts decls')
  facts_same = rw (facts_collect decls, facts_collect decls') (perm_collect (from_summary itself nothing nothing) s.of_decls)

  definitions_same : Permᴰ (definitions decls) (definitions decls')
  definitions_same = rw (definitions_collect decls, definitions_collect decls') (perm_collect (from_summary nothing itself nothing) s.of_decls)

  declarations_same : Permᴰ (declarations decls) (declarations decls')
  declarations_same = rw (declarations_collect decls, declarations_collect decls') (perm_collect (from_summary nothing nothing itself) s.of_decls)

  -- and the filed entries, so that as many distinct names are filed
  filed_same : Permᴰ (filed (facts decls)) (filed (facts decls'))
  unfolding filed
  filed_same = perm_collect listed facts_same

  fuel_same : most_rounds (facts decls) ≡ most_rounds (facts decls')
  fuel_same =
      let same_filed = members_perm filed_same in
      ap (λ (l : List Name). suc (length l)) (members_set (ascending_from_list _) (ascending_from_list _) (record { to = one_way same_filed.to; from = one_way same_filed.from }))
    where
      one_way : {l m : List Name} → ((n : Name) → Memᴰ n l → Memᴰ n m) → (n : Name) → Memᴰ n (from_list l) → Memᴰ n (from_list m)
      one_way {l} {m} h n i = mem_elim ((mem_from_list n m).1 (mem_intro (h n (mem_elim ((mem_from_list n l).0 (mem_intro i))))))

  -- what round 1 scans
  goal_same : (a : Ask) → SameMembers (goal_roots a roots) (goal_roots a roots')
  unfolding goal_roots
  goal_same a = members_keep (λ (r : Root). asks_for a r.query) (members_perm s.of_roots)

  first_same : (a : Ask) → SameMembers (first_scanned a (facts decls) roots) (first_scanned a (facts decls') roots')
  unfolding first_scanned ambient_roots
  first_same a =
      members_append (free_in (λ r. r.free_names) (goal_same a))
      (free_in (λ f. f.free_names) (members_cond (no_ambients a) (members_self []) (members_keep (λ (f : Fact). is_ambient_root f.kind) (members_perm facts_same))))

  -- what the first round of a stretch scans
  also_same : (q : ℕ) → SameMembers (also_scanned q roots) (also_scanned q roots')
  unfolding also_scanned
  also_same q = free_in (λ r. r.free_names) (members_keep (λ (r : Root). eqb r.query q) (members_perm s.of_roots))

module _ {decls decls' : List Summary} {roots roots' : List Root} (s : SameRecords decls decls' roots roots') (once : Distinct (collect taken_by decls')) (a : Ask) where
  -- the macros open alike
  alike : Alike (macros decls) (macros decls') (facts decls) (facts decls')
  unfolding macros
  alike =
      let same_macros = members_map macro_of (members_perm (definitions_same s)) in
      record {
        opens = λ k.
            try_find_append (map macro_of (definitions decls)) init_macro_freenames k
            ∙ ap (λ o. or_else o (try_find init_macro_freenames k))
            (try_find_same (map macro_of (definitions decls)) (map macro_of (definitions decls')) (macros_once decls' once) same_macros.to same_macros.from k)
            ∙ sym (try_find_append (map macro_of (definitions decls')) init_macro_freenames k);
        same_facts = members_perm (facts_same s);
      }

  -- the run is the same
  pub run_same : run a decls roots ≡ run a decls' roots'
  unfolding run
  run_same = rw (fuel_same s) (rounds_same alike a (most_rounds (facts decls')) first_run empty (first_same s a))

module _ {decls decls' : List Summary} {roots roots' : List Root} (s : SameRecords decls decls' roots roots') (once : Distinct (collect taken_by decls')) (a : Ask) where
  -- the names that a chain reaches are a set
  chain_ascends : (qs : List ℕ) → Ascending (chain a decls roots qs).reached
  unfolding chain run stretch stretch_start
  chain_ascends [] = empty
  chain_ascends (q ∷ []) = rounds_set (with_queries a (q ∷ [])) (macros decls) (facts decls) (most_rounds (facts decls)) first_run _ empty
  chain_ascends (q ∷ p ∷ qs) =
      rounds_set a (macros decls) (facts decls) (most_rounds (facts decls)) (stretch_start (chain a decls roots (p ∷ qs))) (also_scanned q roots) (chain_ascends (p ∷ qs))

  -- a chain stands where it did
  pub chain_same : (qs : List ℕ) → chain a decls roots qs ≡ chain a decls' roots' qs
  unfolding chain stretch
  chain_same [] = refl
  chain_same (q ∷ []) = run_same s once (with_queries a (q ∷ []))
  chain_same (q ∷ p ∷ qs) =
      rw (fuel_same s)
      (rounds_same (alike s once a) a (most_rounds (facts decls')) (stretch_start (chain a decls roots (p ∷ qs))) (unfold stretch_start in (chain_ascends (p ∷ qs))) (also_same s q)
      ∙ ap (λ r. stretch a decls' roots' r q) (chain_same (p ∷ qs)))

  -- the visits of a line are as many
  pub visits_same : (ps qs : List ℕ)
      → stretch_visits (chain a decls roots ps).met (chain a decls roots qs).met (facts decls) ≡ stretch_visits (chain a decls' roots' ps).met (chain a decls' roots' qs).met (facts decls')
  unfolding stretch_visits
  visits_same ps qs =
      perm_count (λ n. mem n (chain a decls roots qs).met && not (mem n (chain a decls roots ps).met)) (filed_same s)
      ∙ rw (chain_same qs, chain_same ps)

-- definitions with the same members and names with the same members: the names that bodies lead to, and those that they add
module _ {ds ds' : List Decl} {names names' : List Name} (same_decls : SameMembers ds ds') (same_names : SameMembers names names') where
  all_followed_same : all_followed ds names ≡ all_followed ds' names'
  all_followed_same = ascending_ext (all_set ds names) (all_set ds' names') (one_way same_decls.to same_names.to) (one_way same_decls.from same_names.from)
    where
      one_way : {cs ds : List Decl} {l m : List Name} → ((d : Decl) → Memᴰ d cs → Memᴰ d ds) → ((n : Name) → Memᴰ n l → Memᴰ n m)
          → Within (all_followed cs l) (all_followed ds m)
      one_way {cs} {ds} {l} {m} h k =
          all_least cs l (all_followed ds m) (λ d i. all_closed ds m d (h d i)) (λ n t. all_has ds m n (mem_intro (k n (mem_elim t))))

  added_names_same : added_names ds names ≡ added_names ds' names'
  unfolding added_names
  added_names_same =
      rw all_followed_same
      (ascending_ext (ascending_diff names (all_set ds' names')) (ascending_diff names' (all_set ds' names')) (one_way _ same_names.from) (one_way _ same_names.to))
    where
      one_way : (all : List Name) {l m : List Name} → ((n : Name) → Memᴰ n m → Memᴰ n l) → Within (diff all l) (diff all m)
      one_way all {l} {m} h n t =
          let (u, v) = (mem_diff n all l).0 t in
          (mem_diff n all m).1 (u, not_T (mem n m) (λ w. T_not (mem n l) v (mem_intro (h n (mem_elim w)))))

  added_same : (a : Ask) → added_for a ds names ≡ added_for a ds' names'
  unfolding added_for
  added_same a = ap (λ l. cond (follow_bodies a) l []) added_names_same

  -- the definitions of the names, and those first met
  of_names_same : SameMembers (of_names names ds) (of_names names' ds')
  unfolding of_names
  of_names_same = members_collect _ _ (λ n. members_keep (λ (d : Decl). same d.name n) same_decls) same_names

  kept_decls_same : SameMembers (kept_decls names ds) (kept_decls names' ds')
  unfolding kept_decls
  kept_decls_same = members_collect _ _ (λ n. members_keep (λ (d : Decl). same d.name n) same_decls) (members_reverse first_met_same)
    where
      first_met_same : SameMembers (first_met names) (first_met names')
      first_met_same = record { to = λ n i. first_met_intro names' (same_names.to n (first_met_elim names i)); from = λ n i. first_met_intro names (same_names.from n (first_met_elim names' i)) }

module _ {decls decls' : List Summary} {roots roots' : List Root} (s : SameRecords decls decls' roots roots') (a : Ask) (reached : List Name) where
  -- the kept facts
  kept_facts_same : SameMembers (kept_facts a (facts decls) reached) (kept_facts a (facts decls') reached)
  unfolding kept_facts reached_facts ambients
  kept_facts_same =
      let same_facts = members_perm (facts_same s) in
      members_append (members_collect _ _ (λ n. members_keep (λ (f : Fact). same f.name n) same_facts) (members_self reached))
      (members_cond (no_ambients a) (members_self []) (members_reverse (members_keep (λ (f : Fact). is_ambient f.kind) same_facts)))

  -- the names that are walked
  kept_names_same : SameMembers (kept_names a (facts decls) roots reached) (kept_names a (facts decls') roots' reached)
  unfolding kept_names
  kept_names_same = members_append (free_in (λ f. f.free_names) kept_facts_same) (free_in (λ r. r.free_names) (goal_same s a))

  -- what the lists are made of
  pub kept_parts_same : SameParts (kept_parts a decls roots reached) (kept_parts a decls' roots' reached)
  kept_parts_same =
      record {
        same_facts = kept_facts_same;
        same_defs = kept_decls_same (members_perm (definitions_same s)) kept_names_same;
        same_funs = kept_decls_same (members_perm (declarations_same s)) kept_names_same;
      }

  pub followed_parts_same : SameParts (followed_parts a decls roots reached) (followed_parts a decls' roots' reached)
  followed_parts_same =
      let defs = members_perm (definitions_same s) in
      let funs = members_perm (declarations_same s) in
      let added_are : SameMembers (added_for a (definitions decls) (kept_names a (facts decls) roots reached)) (added_for a (definitions decls') (kept_names a (facts decls') roots' reached)) =
      rw (added_same defs kept_names_same a) (members_self _) in
      record {
        same_facts = kept_facts_same;
        same_defs = members_append (kept_decls_same defs kept_names_same) (of_names_same defs added_are);
        same_funs = members_append (kept_decls_same funs kept_names_same) (of_names_same funs added_are);
      }

-- what an ask comes to has as many visits and as many rounds
pub position_same : {decls decls' : List Summary} {roots roots' : List Root} → SameRecords decls decls' roots roots' → Distinct (collect taken_by decls') → (a : Ask)
    → ((position decls roots a).visits ≡ (position decls' roots' a).visits) × ((position decls roots a).rounds ≡ (position decls' roots' a).rounds)
unfolding position
position_same {decls} {decls'} s once a =
    let same_background = background_same s a in
    let once_there : Distinct (collect taken_by (background a decls')) = unfold background in (collect_some taken_by (is_admitted a) decls' once) in (
      visits_same same_background once_there a (drop 1 a.queries) a.queries,
      ap (λ (r : Run). r.rounds) (chain_same same_background once_there a a.queries),
    )
