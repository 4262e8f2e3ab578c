-- Excluded names are in no record; what rule 4 and the starting macros have of them stays.
use Prim.Native.Nat.{ℕ}
use mathlib.Core.Path.{◌≡◌, refl, sym, ◌∙◌, ap}
use mathlib.Core.Logic.{◌≢◌, ⊎_elim}
use mathlib.Core.List.Memᴰ
use mathlib.Core.List.{List, [], ◌∷◌, ◌++◌, map, Memᴰ}
use Rattle.std.specs.Prelude.{None as none, Some as some}
use Rattle.std.proofs.lemmas.Option.{none-some as none-ne-some}
use lib.Dec.{T, T_not}
use Rattle.model.specs.Lists.{is_nil, when, ◌>>=◌}
use Rattle.model.specs.Names.{Name, bytes, by_byte, order, is_same, same, mem, union, starts_with}
use Rattle.model.specs.Terms.{Node, free_v, leaf, call, app, forall, exists, let_in, labeled, Term, term as term_of}
use Rattle.model.specs.Summaries.{exclude_names, Kinded, Fact, call_of, op_of, two, op_args, call_args, call_one, call_two, at, free_top_level_names, group_names, triggers_of_term, rule_1, rule_2, rule_3, rule_4, first_rule, maybe_add_ambient, summarize_kind, summarize_assumption}
use Rattle.model.specs.Reading.{Content, head, term, assume, fun, def, retain, root, Decl, Root, excluded}
use Rattle.model.specs.Pruning.{try_find, init_macro_freenames}
use Rattle.model.specs.Rounds.{definitions, macros}
use Rattle.model.specs.declared.Op.TheVariants.{Iff}
use Rattle.model.proofs.ListLaws.{T_false, collect_elim, fold_left_case}
use Rattle.model.proofs.SetLaws.{same_eq, mem_intro, mem_elim, mem_diff, mem_union}
use Rattle.demands.specs.FileOrder.{fact_said, definition_said, root_said, from_line}
use Rattle.demands.specs.Hidden.{ExcludedNeverFree, TokensKept, TokensFiled, StartingMacrosKept}
use Rattle.laws.proofs.MapLaws.{try_find_tail}
use Rattle.demands.proofs.Decimal.{bind_some, when_some}
use Rattle.demands.proofs.Disjuncts.{Parts, lawful_kind}
use Rattle.demands.proofs.FileOrder.{file_order}

module _ (name : Name) (out : List Name) (excludes : T (mem name out)) (terms : List Term) where
  -- it is not among the free names of a term
  not_free : (t : ℕ) → T (mem name (free_top_level_names out terms t)) → ⊥
  unfolding free_top_level_names
  not_free t u = T_not (mem name out) ((mem_diff name (term_of terms t).names out).0 u).1 excludes

  -- nor of a pattern group
  not_in_group : (ts : List ℕ) → T (mem name (group_names out terms ts)) → ⊥
  unfolding group_names
  not_in_group ts =
      fold_left_case (λ l. T (mem name l) → ⊥) (λ l t. union l (free_top_level_names out terms t)) ts
      (λ l t i h u. ⊎_elim h (not_free t) ((mem_union name l (free_top_level_names out terms t)).0 u)) (λ u. Memᴰ.not-nil (mem_elim u))

  -- a disjunct that has it is that name alone
  alone : Parts (λ trimmed d. Memᴰ name d → d ≡ name ∷ []) out terms
  alone =
      record {
        of_term = λ t i. absurd (not_free t (mem_intro i));
        of_group = λ ts i. absurd (not_in_group ts (mem_intro i));
        of_token = λ t n e trimmed i. ap (◌∷ []) (sym (Memᴰ.eq_of_singleton i));
        of_trimmed = λ n i. ap (◌∷ []) (sym (Memᴰ.eq_of_singleton i));
      }

  -- of the fact that a line states
  fact_apart : (n : ℕ) (c : Content) (f : Fact) → Memᴰ f (fact_said out terms n c)
      → (Memᴰ name f.free_names → ⊥) × ((d : List Name) → Memᴰ d f.triggers → Memᴰ name d → d ≡ name ∷ [])
  unfolding summarize_assumption
  fact_apart n (head h) f i = absurd (Memᴰ.not-nil i)
  fact_apart n (term node) f i = absurd (Memᴰ.not-nil i)
  fact_apart n (assume own flag group t) f i =
      rw (Memᴰ.eq_of_singleton i)
      (λ j. not_free t (mem_intro j), (lawful_kind (λ trimmed d. Memᴰ name d → d ≡ name ∷ []) out terms alone own t).disjuncts)
  fact_apart n (fun own) f i = absurd (Memᴰ.not-nil i)
  fact_apart n (def own t) f i = absurd (Memᴰ.not-nil i)
  fact_apart n (retain names) f i = absurd (Memᴰ.not-nil i)
  fact_apart n (root q own t) f i = absurd (Memᴰ.not-nil i)

  -- of the definition
  definition_apart : (n : ℕ) (c : Content) (d : Decl) → Memᴰ d (definition_said out terms n c) → Memᴰ name d.free_names → ⊥
  definition_apart n (head h) d i = absurd (Memᴰ.not-nil i)
  definition_apart n (term node) d i = absurd (Memᴰ.not-nil i)
  definition_apart n (assume own flag group t) d i = absurd (Memᴰ.not-nil i)
  definition_apart n (fun own) d i = absurd (Memᴰ.not-nil i)
  definition_apart n (def own t) d i = rw (Memᴰ.eq_of_singleton i) (λ j. not_free t (mem_intro j))
  definition_apart n (retain names) d i = absurd (Memᴰ.not-nil i)
  definition_apart n (root q own t) d i = absurd (Memᴰ.not-nil i)

  -- of the root
  root_apart : (n : ℕ) (c : Content) (r : Root) → Memᴰ r (root_said out terms n c) → Memᴰ name r.free_names → ⊥
  root_apart n (head h) r i = absurd (Memᴰ.not-nil i)
  root_apart n (term node) r i = absurd (Memᴰ.not-nil i)
  root_apart n (assume own flag group t) r i = absurd (Memᴰ.not-nil i)
  root_apart n (fun own) r i = absurd (Memᴰ.not-nil i)
  root_apart n (def own t) r i = absurd (Memᴰ.not-nil i)
  root_apart n (retain names) r i = absurd (Memᴰ.not-nil i)
  root_apart n (root q own t) r i = rw (Memᴰ.eq_of_singleton i) (λ j. not_free t (mem_intro j))

-- an excluded name is in no record of an accepted file
pub excluded_never_free : ExcludedNeverFree
excluded_never_free file s e name i =
    let o = file_order file s e in
    let out = excluded exclude_names s in
    record {
      in_fact = λ f j. let (l, k, m) = collect_elim (from_line out fact_said) o.said (rw o.facts_said at j) in
          (fact_apart name out (mem_intro i) l.line.state.terms l.place l.content f m).0;
      in_disjunct = λ f d j. let (l, k, m) = collect_elim (from_line out fact_said) o.said (rw o.facts_said at j) in
          (fact_apart name out (mem_intro i) l.line.state.terms l.place l.content f m).1 d;
      in_definition = λ d j. let (l, k, m) = collect_elim (from_line out definition_said) o.said (rw o.definitions_said at j) in
          definition_apart name out (mem_intro i) l.line.state.terms l.place l.content d m;
      in_root = λ r j. let (l, k, m) = collect_elim (from_line out root_said) o.said (rw o.roots_said at j) in
          root_apart name out (mem_intro i) l.line.state.terms l.place l.content r m;
    }

-- rule 4 gives the same whatever is excluded
pub tokens_kept : TokensKept
unfolding rule_4
tokens_kept out out' terms name t = refl

-- a Valid of one is neither an `iff` nor a HasType
valid_only : (node : Node) {a : ℕ} → call_one "Valid" node ≡ some a → ((op_args Iff node >>= two) ≡ none) × (call_two "HasType" node ≡ none)
unfolding call_one call_two call_args call_of op_args op_of when same order by_byte is_same bytes
valid_only (free_v name) e = absurd (none-ne-some _ e)
valid_only leaf e = absurd (none-ne-some _ e)
valid_only (call name ts) e =
    let (us, w, o) = bind_some (when (same name (bytes "Valid")) ts) e in
    let is : name ≡ bytes "Valid" = same_eq (when_some (same name (bytes "Valid")) w).0 in
    (refl, rw is)
valid_only (app word ts) e = absurd (none-ne-some _ e)
valid_only (forall body groups) e = absurd (none-ne-some _ e)
valid_only (exists body groups) e = absurd (none-ne-some _ e)
valid_only (let_in body ts) e = absurd (none-ne-some _ e)
valid_only (labeled t) e = absurd (none-ne-some _ e)

-- what rule 4 takes is a Valid of one
valid_taken : (out : List Name) (terms : List Term) (name : Name) (t : ℕ) {k : Kinded} → rule_4 out terms name t ≡ some k
    → (a : ℕ) × (call_one "Valid" (at terms t) ≡ some a)
unfolding rule_4
valid_taken out terms name t e = let (a, valid, o) = bind_some (call_one "Valid" (at terms t)) e in (a, valid)

-- a fact that rule 4 takes files its token, whatever is excluded
pub tokens_filed : TokensFiled
unfolding summarize_assumption summarize_kind triggers_of_term is_nil maybe_add_ambient first_rule rule_1 rule_2 rule_3 when
tokens_filed out terms line name pretyping group t k unwritten other e = (is, ap (λ (x : Kinded). x.triggers) is)
  where
    is : summarize_kind out terms name t ≡ k
    is =
        let (no_iff, no_type) = valid_only (at terms t) (valid_taken [] terms name t e).1 in
        rw (unwritten, no_iff, T_false (starts_with name (bytes "assumption_")) other, no_type, tokens_kept out [] terms name t, e)

-- a name that no def has opens to what it does at the start
pub starting_macros_kept : StartingMacrosKept
unfolding macros
starting_macros_kept decls name other = go (definitions decls) other
  where
    go : (ds : List Decl) → ((d : Decl) → Memᴰ d ds → d.name ≢ name)
        → try_find (map (λ d. (d.name, d.free_names)) ds ++ init_macro_freenames) name ≡ try_find init_macro_freenames name
    go [] other = refl
    go (d ∷ ds) other = try_find_tail d.free_names _ (other d (Memᴰ.head refl)) ∙ go ds (λ x i. other x (Memᴰ.tail i))
