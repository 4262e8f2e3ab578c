-- The summary of a fact over terms with new numbers, and by excluded names that leave the same free names, is the same.
use Prim.Native.Nat.{ℕ}
use Prim.Native.String.{String}
use mathlib.Core.Path.{◌≡◌, refl, sym, ◌∙◌, ap, ap₂}
use mathlib.Core.Bool.{Bool, true, false, ◌||◌}
use Rattle.std.specs.Prelude.{Option, None as none, Some as some, unwrap_or as get_or}
use mathlib.Core.List.Memᴰ
use mathlib.Core.List.{List, [], ◌∷◌, ◌++◌, map, Memᴰ}
use lib.Dec.{eqb}
use Rattle.model.specs.Lists.{collect, fold_left, holds, is_nil, or_else, when, ◌>>=◌}
use Rattle.model.specs.Names.{Name, bytes, same, union, starts_with}
use Rattle.model.specs.Terms.{Node, free_v, leaf, call, app, forall, exists, let_in, labeled, Term, references}
use Rattle.model.specs.Terms.{term as term_of}
use Rattle.model.specs.Summaries.{Kinded, sum_triggers, free_of, call_of, op_of, groups_of, op_number, one, two, op_args, call_args, call_one, call_two, head, at, is_ambient_refinement, ambient_refinement_payload, token, has_eq}
use Rattle.model.specs.Summaries.{pattern_groups, free_top_level_names, group_names, triggers_of_term, rule_1, rule_2, rule_3, rule_4, rule_5, rule_6, rule_7, rule_8, rule_9, rule_10, rule_11, rule_12, first_rule, maybe_add_ambient, summarize_kind}
use Rattle.model.specs.declared.Op.{Op}
use Rattle.model.specs.declared.Op.TheVariants.{TrueOp, Iff, Eq, And}
use Rattle.model.proofs.ListLaws.{concat_intro}
use Rattle.demands.proofs.TermRenaming.{rename, Carried, carried_as_they_are}

-- two values that may be missing: both are, or they are related
data Like {A B : Type 0} (R : A → B → Type 0) : Option A → Option B → Type 0 where
  neither : Like R none none
  each : {a : A} {b : B} → R a b → Like R (some a) (some b)

module _ {A B : Type 0} {R : A → B → Type 0} where
  -- what related steps make of them
  like_bind : {C D : Type 0} {S : C → D → Type 0} {o : Option A} {p : Option B} {f : A → Option C} {g : B → Option D}
      → Like R o p → ((a : A) (b : B) → R a b → Like S (f a) (g b)) → Like S (o >>= f) (p >>= g)
  like_bind neither h = neither
  like_bind (each {a} {b} r) h = h a b r

  -- the first of two that is there
  like_or : {o o' : Option A} {p p' : Option B} → Like R o p → Like R o' p' → Like R (or_else o o') (or_else p p')
  unfolding or_else
  like_or neither k = k
  like_or (each r) k = each r

  -- a value where a test holds
  like_when : (t : Bool) (a : A) (b : B) → R a b → Like R (when t a) (when t b)
  unfolding when
  like_when true a b r = each r
  like_when false a b r = neither

  -- the value, or another
  like_get : {o : Option A} {p : Option B} {a : A} {b : B} → Like R o p → R a b → R (get_or o a) (get_or p b)
  like_get neither r = r
  like_get (each s) r = s

  -- a test of the value
  like_holds : {o : Option A} {p : Option B} (t : A → Bool) (u : B → Bool) → Like R o p → ((a : A) (b : B) → R a b → t a ≡ u b) → holds t o ≡ holds u p
  unfolding holds
  like_holds t u neither h = refl
  like_holds t u (each {a} {b} r) h = h a b r

-- related by equality they are equal
like_eq : {A : Type 0} {o p : Option A} → Like ◌≡◌ o p → o ≡ p
like_eq neither = refl
like_eq (each e) = ap some e

-- an option beside itself
like_same : {A : Type 0} (o : Option A) → Like ◌≡◌ o o
like_same none = neither
like_same (some a) = each refl

module _ (ρ : ℕ → ℕ) (ok : ℕ → Type 0) where
  -- an old number and its new one
  record Twin (t u : ℕ) : Type 0 where
    renumbered : u ≡ ρ t
    good : ok t

  -- numbers and their new ones
  data Twins : List ℕ → List ℕ → Type 0 where
    end : Twins [] []
    next : {t u : ℕ} {ts us : List ℕ} → Twin t u → Twins ts us → Twins (t ∷ ts) (u ∷ us)

  -- pairs of numbers
  abbrev TwinPair : ℕ × ℕ → ℕ × ℕ → Type 0
  TwinPair p q = Twin p.0 q.0 × Twin p.1 q.1

  twins : (ts : List ℕ) → ((t : ℕ) → Memᴰ t ts → ok t) → Twins ts (map ρ ts)
  twins [] h = end
  twins (t ∷ ts) h = next (record { renumbered = refl; good = h t (Memᴰ.head refl) }) (twins ts (λ u m. h u (Memᴰ.tail m)))

  like_one : {ts us : List ℕ} → Twins ts us → Like Twin (one ts) (one us)
  unfolding one
  like_one end = neither
  like_one (next x end) = each x
  like_one (next x (next y ys)) = neither

  like_two : {ts us : List ℕ} → Twins ts us → Like TwinPair (two ts) (two us)
  unfolding two
  like_two end = neither
  like_two (next x end) = neither
  like_two (next x (next y end)) = each (x, y)
  like_two (next x (next y (next z zs))) = neither

  like_nil : {ts us : List ℕ} → Twins ts us → is_nil ts ≡ is_nil us
  unfolding is_nil
  like_nil end = refl
  like_nil (next x xs) = refl

  -- a line and the line with new numbers
  record NodeTwin (x y : Node) : Type 0 where
    renamed : y ≡ rename ρ x
    names_good : (t : ℕ) → Memᴰ t (references x) → ok t

  free_renamed : (x : Node) → free_of (rename ρ x) ≡ free_of x
  unfolding free_of rename
  free_renamed (free_v name) = refl
  free_renamed leaf = refl
  free_renamed (call name ts) = refl
  free_renamed (app word ts) = refl
  free_renamed (forall body groups) = refl
  free_renamed (exists body groups) = refl
  free_renamed (let_in body ts) = refl
  free_renamed (labeled t) = refl

  -- names or words with numbers
  abbrev With : {A : Type 0} → A × List ℕ → A × List ℕ → Type 0
  With p q = (p.0 ≡ q.0) × Twins p.1 q.1

  call_renamed : (x : Node) → ((t : ℕ) → Memᴰ t (references x) → ok t) → Like With (call_of x) (call_of (rename ρ x))
  unfolding call_of rename references
  call_renamed (free_v name) h = neither
  call_renamed leaf h = neither
  call_renamed (call name ts) h = each (refl, twins ts h)
  call_renamed (app word ts) h = neither
  call_renamed (forall body groups) h = neither
  call_renamed (exists body groups) h = neither
  call_renamed (let_in body ts) h = neither
  call_renamed (labeled t) h = neither

  op_renamed : (x : Node) → ((t : ℕ) → Memᴰ t (references x) → ok t) → Like With (op_of x) (op_of (rename ρ x))
  unfolding op_of rename references
  op_renamed (free_v name) h = neither
  op_renamed leaf h = neither
  op_renamed (call name ts) h = neither
  op_renamed (app word ts) h = each (refl, twins ts h)
  op_renamed (forall body groups) h = neither
  op_renamed (exists body groups) h = neither
  op_renamed (let_in body ts) h = neither
  op_renamed (labeled t) h = neither

  -- groups of numbers
  abbrev GroupTwins : List (List ℕ) → List (List ℕ) → Type 0
  GroupTwins gs hs = (hs ≡ map (map ρ) gs) × ((g : List ℕ) → Memᴰ g gs → (t : ℕ) → Memᴰ t g → ok t)

  groups_renamed : (x : Node) → ((t : ℕ) → Memᴰ t (references x) → ok t) → Like GroupTwins (groups_of x) (groups_of (rename ρ x))
  unfolding groups_of rename references
  groups_renamed (free_v name) h = neither
  groups_renamed leaf h = neither
  groups_renamed (call name ts) h = neither
  groups_renamed (app word ts) h = neither
  groups_renamed (forall body groups) h = each (refl, λ g i t m. h t (Memᴰ.tail (concat_intro i m)))
  groups_renamed (exists body groups) h = neither
  groups_renamed (let_in body ts) h = neither
  groups_renamed (labeled t) h = neither

  module _ {x y : Node} (n : NodeTwin x y) where
    free_like : free_of x ≡ free_of y
    free_like = rw n.renamed (sym (free_renamed x))

    call_like : Like With (call_of x) (call_of y)
    call_like = rw n.renamed (call_renamed x n.names_good)

    op_like : Like With (op_of x) (op_of y)
    op_like = rw n.renamed (op_renamed x n.names_good)

    groups_like : Like GroupTwins (groups_of x) (groups_of y)
    groups_like = rw n.renamed (groups_renamed x n.names_good)

    op_args_like : (word : Op) → Like Twins (op_args word x) (op_args word y)
    unfolding op_args
    op_args_like word = like_bind op_like (λ a b (e, ts). rw e (like_when (eqb (op_number b.0) (op_number word)) a.1 b.1 ts))

    call_args_like : (name : String) → Like Twins (call_args name x) (call_args name y)
    unfolding call_args
    call_args_like name = like_bind call_like (λ a b (e, ts). rw e (like_when (same b.0 (bytes name)) a.1 b.1 ts))

    call_one_like : (name : String) → Like Twin (call_one name x) (call_one name y)
    unfolding call_one
    call_one_like name = like_bind (call_args_like name) (λ a b ts. like_one ts)

    call_two_like : (name : String) → Like TwinPair (call_two name x) (call_two name y)
    unfolding call_two
    call_two_like name = like_bind (call_args_like name) (λ a b ts. like_two ts)

    op_two_like : (word : Op) → Like TwinPair (op_args word x >>= two) (op_args word y >>= two)
    op_two_like word = like_bind (op_args_like word) (λ a b ts. like_two ts)

    head_like : Like ◌≡◌ (head x) (head y)
    unfolding head
    head_like = like_or (rw free_like (like_same (free_of y))) (like_bind call_like (λ a b (e, ts). each e))

-- the free names of such a term are the same
pub free_same : (ρ : ℕ → ℕ) (ok : ℕ → Type 0) {terms terms' : List Term} → Carried ρ ok terms terms' → (out : List Name)
    → (t : ℕ) → ok t → free_top_level_names out terms t ≡ free_top_level_names out terms' (ρ t)
unfolding free_top_level_names
free_same ρ ok r out t o = rw (r.each t o).names

-- by excluded names that leave the same free names
module _ (ρ : ℕ → ℕ) (ok : ℕ → Type 0) {terms terms' : List Term} (r : Carried ρ ok terms terms') (out out' : List Name)
    (same_free : (t : ℕ) → ok t → free_top_level_names out terms t ≡ free_top_level_names out' terms' (ρ t)) where
  abbrev Tw : ℕ → ℕ → Type 0
  Tw = Twin ρ ok

  -- the lines of twins
  at_like : {t u : ℕ} → Tw t u → NodeTwin ρ ok (at terms t) (at terms' u)
  unfolding at
  at_like {t} {u} x =
      record { renamed = rw x.renumbered (r.each t x.good).node; names_good = r.closed t x.good }

  -- and the lines under their labels
  bare_like : {t u : ℕ} → Tw t u → NodeTwin ρ ok (term_of terms t).bare (term_of terms' u).bare
  bare_like {t} {u} x =
      record { renamed = rw x.renumbered (r.each t x.good).bare; names_good = r.closed_bare t x.good }

  -- their free names
  names_like : {t u : ℕ} → Tw t u → free_top_level_names out terms t ≡ free_top_level_names out' terms' u
  names_like {t} x = rw x.renumbered (same_free t x.good)

  -- the names of a pattern group
  group_like : (g : List ℕ) → ((t : ℕ) → Memᴰ t g → ok t) → group_names out terms g ≡ group_names out' terms' (map ρ g)
  unfolding group_names fold_left
  group_like g h = go g h []
    where
      go : (g : List ℕ) → ((t : ℕ) → Memᴰ t g → ok t) → (names : List Name)
          → fold_left (λ ns t. union ns (free_top_level_names out terms t)) names g ≡ fold_left (λ ns t. union ns (free_top_level_names out' terms' t)) names (map ρ g)
      go [] h names = refl
      go (t ∷ g) h names = go g (λ u m. h u (Memᴰ.tail m)) (union names (free_top_level_names out terms t))
          ∙ ap (λ ms. fold_left (λ ns t. union ns (free_top_level_names out' terms' t)) (union names ms) (map ρ g)) (same_free t (h t (Memᴰ.head refl)))

  -- the triggers of a term
  triggers_like : {t u : ℕ} → Tw t u → triggers_of_term out terms t ≡ triggers_of_term out' terms' u
  unfolding triggers_of_term
  triggers_like {t} {u} x =
      let (e, h) = like_get {R = GroupTwins ρ ok} (groups_like ρ ok (bare_like x)) (refl, λ g i. absurd (Memᴰ.not-nil i)) in
      rw e (go (pattern_groups terms t) h)
    where
      go : (gs : List (List ℕ)) → ((g : List ℕ) → Memᴰ g gs → (t : ℕ) → Memᴰ t g → ok t)
          → map (group_names out terms) gs ≡ map (group_names out' terms') (map (map ρ) gs)
      go [] h = refl
      go (g ∷ gs) h = ap₂ ◌∷◌ (group_like g (h g (Memᴰ.head refl))) (go gs (λ k i. h k (Memᴰ.tail i)))

  -- the triggers of terms
  collect_like : {ts us : List ℕ} → Twins ρ ok ts us → collect (triggers_of_term out terms) ts ≡ collect (triggers_of_term out' terms') us
  unfolding collect
  collect_like end = refl
  collect_like (next x xs) = ap₂ ◌++◌ (triggers_like x) (collect_like xs)

  -- the token of a partial application
  token_like : {t u : ℕ} → Tw t u → Like ◌≡◌ (token terms t) (token terms' u)
  unfolding token
  token_like {t} {u} x =
      like_or (rw (free_like ρ ok (at_like x)) (like_same (free_of (at terms' u))))
      (like_bind (call_like ρ ok (at_like x)) (λ a b (e, ts). rw (like_nil ρ ok ts) (like_when (is_nil b.1) a.0 b.0 e)))

  -- the second argument of a hasEq
  has_eq_like : {t u : ℕ} → Tw t u → Like Tw (has_eq terms t) (has_eq terms' u)
  unfolding has_eq
  has_eq_like x = like_bind (call_one_like ρ ok (at_like x) "Valid") (λ v w y. like_bind (call_two_like ρ ok (at_like y) "Prims.hasEq") (λ a b (z, q). each q))

  -- the type of a refinement
  refinement_like : {t u : ℕ} → Tw t u → is_ambient_refinement terms t ≡ is_ambient_refinement terms' u
  unfolding is_ambient_refinement
  refinement_like x =
      ap₂ ◌||◌ (like_holds (λ ts. true) (λ ts. true) (call_args_like ρ ok (at_like x) "Prims.squash") (λ a b h. refl))
      (like_holds (λ name. starts_with name (bytes "Tm_refine_")) (λ name. starts_with name (bytes "Tm_refine_")) (head_like ρ ok (at_like x)) (λ a b e. rw e))

  payload_like : {t u : ℕ} → Tw t u → Tw (ambient_refinement_payload terms t) (ambient_refinement_payload terms' u)
  unfolding ambient_refinement_payload
  payload_like x = like_get {R = Tw} (like_bind (call_two_like ρ ok (at_like x) "Prims.squash") (λ a b (z, q). each q)) x

  -- the twelve rules
  abbrev RuleLike : (Name → ℕ → Option Kinded) → (Name → ℕ → Option Kinded) → Type 0
  RuleLike rule rule' = (name : Name) (t u : ℕ) → Tw t u → Like ◌≡◌ (rule name t) (rule' name u)

  -- one disjunct, or two
  abbrev one_set : List Name → Kinded
  one_set n = sum_triggers (n ∷ [])

  abbrev two_sets : List Name → List Name → Kinded
  two_sets n m = sum_triggers (n ∷ m ∷ [])

  rule_1_like : RuleLike (rule_1 out terms) (rule_1 out' terms')
  unfolding rule_1
  rule_1_like name t u x = like_bind (op_two_like ρ ok (at_like x) Iff) (λ a b (l, m). like_when (starts_with name (bytes "l_quant_interp")) _ _ (ap one_set (names_like l)))

  rule_2_like : RuleLike (rule_2 out terms) (rule_2 out' terms')
  unfolding rule_2
  rule_2_like name t u x = like_when (starts_with name (bytes "assumption_")) _ _ (rw (triggers_like x, names_like x))

  rule_3_like : RuleLike (rule_3 out terms) (rule_3 out' terms')
  unfolding rule_3
  rule_3_like name t u x = like_bind (call_two_like ρ ok (at_like x) "HasType")
      (λ a b (l, m). rw (refinement_like m) (like_when (is_ambient_refinement terms' b.1) _ _ (rw (triggers_like (payload_like m)))))

  rule_4_like : RuleLike (rule_4 out terms) (rule_4 out' terms')
  unfolding rule_4
  rule_4_like name t u x = like_bind (call_one_like ρ ok (at_like x) "Valid")
      (λ v w y. like_bind (call_two_like ρ ok (at_like y) "ApplyTT")
      (λ a b (l, m). rw (like_eq (head_like ρ ok (at_like l)), like_eq (token_like m)) (like_same _)))

  rule_5_like : RuleLike (rule_5 out terms) (rule_5 out' terms')
  unfolding rule_5
  rule_5_like name t u x = like_bind {R = Tw}
      (like_or (call_one_like ρ ok (at_like x) "Valid")
      (like_or (like_bind (call_two_like ρ ok (at_like x) "HasType") (λ a b (l, m). each l))
      (like_or (call_one_like ρ ok (at_like x) "IsTotFun") (call_one_like ρ ok (at_like x) "is-Tm_arrow"))))
      (λ a b l. each (ap one_set (names_like l)))

  rule_6_like : RuleLike (rule_6 out terms) (rule_6 out' terms')
  unfolding rule_6
  rule_6_like name t u x = like_bind (op_two_like ρ ok (at_like x) Eq)
      (λ a b (l, m). like_bind (call_one_like ρ ok (at_like m) "Term_constr_id") (λ v w y. each (ap one_set (names_like y))))

  rule_7_like : RuleLike (rule_7 out terms) (rule_7 out' terms')
  unfolding rule_7
  rule_7_like name t u x = like_bind (op_args_like ρ ok (at_like x) And) (λ a b ts. each (ap sum_triggers (collect_like ts)))

  rule_8_like : RuleLike (rule_8 out terms) (rule_8 out' terms')
  unfolding rule_8
  rule_8_like name t u x = like_bind (op_two_like ρ ok (at_like x) Eq) (λ a b (l, m). like_when (starts_with name (bytes "equation_")) _ _ (ap one_set (names_like l)))

  rule_9_like : RuleLike (rule_9 out terms) (rule_9 out' terms')
  unfolding rule_9
  rule_9_like name t u x = like_bind (op_two_like ρ ok (at_like x) Iff)
      (λ a b (l, m). like_or (like_bind (has_eq_like l) (λ v w y. like_bind (has_eq_like m) (λ c d z. each (ap one_set (names_like y)))))
      (each (ap₂ two_sets (names_like l) (names_like m))))

  rule_10_like : RuleLike (rule_10 out terms) (rule_10 out' terms')
  unfolding rule_10
  rule_10_like name t u x = like_bind (op_two_like ρ ok (at_like x) Eq) (λ a b (l, m). each (ap₂ two_sets (names_like l) (names_like m)))

  rule_11_like : RuleLike (rule_11 out terms) (rule_11 out' terms')
  unfolding rule_11
  rule_11_like name t u x = like_bind (op_args_like ρ ok (at_like x) TrueOp) (λ a b ts. each refl)

  rule_12_like : RuleLike (rule_12 out terms) (rule_12 out' terms')
  unfolding rule_12
  rule_12_like name t u x = each refl

  -- the first rule that holds
  data RulesLike : List (Name → ℕ → Option Kinded) → List (Name → ℕ → Option Kinded) → Type 0 where
    no_rule : RulesLike [] []
    a_rule : {rule rule' : Name → ℕ → Option Kinded} {rules rules' : List (Name → ℕ → Option Kinded)}
        → RuleLike rule rule' → RulesLike rules rules' → RulesLike (rule ∷ rules) (rule' ∷ rules')

  first_like : {rules rules' : List (Name → ℕ → Option Kinded)} → RulesLike rules rules' → (name : Name) {t u : ℕ} → Tw t u
      → first_rule out terms rules name t ≡ first_rule out' terms' rules' name u
  unfolding first_rule
  first_like no_rule name x = refl
  first_like (a_rule h k) name {t} {u} x = like_get {R = ◌≡◌} (h name t u x) (first_like k name x)

  ambient_like : (name : Name) {t u : ℕ} → Tw t u → maybe_add_ambient out terms name t ≡ maybe_add_ambient out' terms' name u
  unfolding maybe_add_ambient
  ambient_like = first_like (a_rule rule_1_like (a_rule rule_2_like (a_rule rule_3_like (a_rule rule_4_like (a_rule rule_5_like (a_rule rule_6_like
      (a_rule rule_7_like (a_rule rule_8_like (a_rule rule_9_like (a_rule rule_10_like (a_rule rule_11_like (a_rule rule_12_like no_rule))))))))))))

  -- so is the summary of a fact of that term
  pub kind_carried : (name : Name) (t : ℕ) → ok t → summarize_kind out terms name t ≡ summarize_kind out' terms' name (ρ t)
  unfolding summarize_kind
  kind_carried name t o =
      let x : Tw t (ρ t) = record { renumbered = refl; good = o } in
      rw (triggers_like x, ambient_like name x)

-- two lists of excluded names by which every term of a table has the same free names give the same summaries
pub same_kind : (terms : List Term) (out out' : List Name) → ((t : ℕ) → free_top_level_names out terms t ≡ free_top_level_names out' terms t)
    → (name : Name) (t : ℕ) → summarize_kind out terms name t ≡ summarize_kind out' terms name t
same_kind terms out out' same_free name t =
    kind_carried (λ t. t) (λ t. Unit {0}) (carried_as_they_are (λ t. Unit {0}) terms terms (λ t o. refl) (λ t o u i. tt) (λ t o u i. tt)) out out' (λ t o. same_free t) name t tt
