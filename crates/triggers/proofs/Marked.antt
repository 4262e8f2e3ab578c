-- A change of marks leaves the terms of a table; the triggers of a term by its row.
use Prim.Native.Nat.{ℕ, zero, suc, ◌+◌, ◌≤◌, ◌<◌}
use native.Mathlib.Omega.{arith}
use native.Mathlib.Numerals.{add-one}
use mathlib.Core.Path.{◌≡◌, refl, sym, ap, ap₂, ◌∙◌}
use mathlib.Core.Logic.{⊎_elim}
use mathlib.Core.List.{List, [], ◌∷◌, ◌++◌, map, map-append}
use lib.ListN.{drop}
use lib.Dec.{T}
use Rattle.model.specs.Lists.{fold_left, part}
use Rattle.model.specs.Names.{Name}
use Rattle.model.specs.Terms.{add_term}
use Rattle.model.specs.Summaries.{group_names, triggers_of_term, entries}
use Rattle.model.proofs.PartLaws.{part_drop}
use Rattle.terms.specs.Rows.{row_kind, row_op, row_head, row_start, row_extra, row_end, group_of_words, groups_of_words, node_of, nodes_below, terms_of, has_groups, bare_of, groups_at, Rows}
use Rattle.terms.proofs.Laws.{equal, below, groups_all, groups_other}
use Rattle.terms.proofs.Table.{bare_low}
use Rattle.terms.proofs.Groups.{groups_count}
use Rattle.words.specs.Slices.{SameBut}
use Rattle.gather.specs.Sets.{Named}
use Rattle.gather.proofs.Walking.{excluded_same, word_same, kind_same, start_same, extra_same, end_same, bare_same}
use Rattle.triggers.specs.Filings.{groups_under}
use Rattle.triggers.proofs.Disjuncts.{entries_append}

-- a row's node stays
node_same : {rows rows' : List ℕ} (name : ℕ → Name) (refs : List ℕ) (used many : ℕ) → SameBut 12288 4096 rows rows' → many ≤ 4096 → (t : ℕ) → t < many
    → node_of name refs rows' used many t ≡ node_of name refs rows used many t
unfolding node_of row_op row_kind row_head
node_same name refs used many s few t l = rw (
  word_same s t (omega arith),
  start_same s t (omega arith),
  extra_same s t (omega arith),
  end_same s used many t few l,
)

-- the terms of a table do not change with its marks
pub terms_marked : {refs rows rows' : List ℕ} {used many named : ℕ} (name : ℕ → Name) → SameBut 12288 4096 rows rows' → Rows refs rows used many named
    → terms_of name refs rows' used many ≡ terms_of name refs rows used many
unfolding terms_of nodes_below
terms_marked {refs} {rows} {rows'} {used} {many} name s r = ap (fold_left add_term []) (go many (omega arith))
  where
    go : (n : ℕ) → n ≤ many → nodes_below name refs rows' used many n ≡ nodes_below name refs rows used many n
    go zero l = refl
    go (suc n) l = ap₂ (λ ns m. ns ++ (m ∷ [])) (go n (omega arith)) (node_same name refs used many s r.few_rows n (omega arith))

-- how many groups a term has does not change with marks
pub groups_marked : {refs rows rows' : List ℕ} {used many named : ℕ} → SameBut 12288 4096 rows rows' → Rows refs rows used many named → (t : ℕ) → t < many
    → groups_at rows' t ≡ groups_at rows t
unfolding groups_at
groups_marked {rows = rows} s r t l =
    let few = r.few_rows in
    let low = bare_low r t l in
    rw (bare_same s t (omega arith), kind_same s (bare_of rows t) (omega arith), extra_same s (bare_of rows t) (omega arith))

-- names for a table are names for it with other marks
pub named_marked : {exclude : List Name} {name : ℕ → Name} {names names' : List ℕ} {named : ℕ} → SameBut 8192 2048 names names' → named ≤ 2048
    → Named exclude name names named → Named exclude name names' named
named_marked s few d = record {
  distinct = d.distinct;
  excluded = λ n l. excluded_same s n (omega arith) ∙ d.excluded n l;
}

-- ---- the triggers of a term

-- an `all` under a term's labels, with its groups
pub record All (refs rows : List ℕ) (used many t groups u e : ℕ) : Type 0 where
  pub bare : u ≡ bare_of rows t
  pub lower : u < many
  pub is_all : row_kind rows u ≡ 4
  pub quantifier : T (has_groups (row_kind rows u))
  pub counted : groups ≡ row_extra rows u
  pub ends : e ≡ row_end rows used many u

-- the reference words of its patterns
abbrev pub patterns : List ℕ → List ℕ → ℕ → ℕ → ℕ → List ℕ
patterns refs rows used many u = drop 1 (part refs (row_start rows u) (row_end rows used many u))

module _ {refs rows : List ℕ} {used many named t groups : ℕ} (r : Rows refs rows used many named) (l : t < many) (counts : groups ≡ groups_at rows t) where
  -- a term with groups is an `all`
  pub all_there : (groups ≡ 0 → ⊥) → {u e : ℕ} → u ≡ bare_of rows t → e ≡ row_end rows used many u → All refs rows used many t groups u e
  unfolding has_groups
  all_there there {u} {e} b q = ⊎_elim
      (λ (k : row_kind rows u ≡ 4). record {
        bare = b;
        lower = omega (arith, bare_low r t l);
        is_all = k;
        quantifier = rw k tt;
        counted = counts ∙ groups_all rows t u b k;
        ends = q;
      })
      (λ k. absurd (there (counts ∙ groups_other rows t u b k)))
      (equal (row_kind rows u) 4)

  -- a term without groups has no trigger
  pub triggers_none : groups ≡ 0 → (exclude : List Name) (name : ℕ → Name) → triggers_of_term exclude (terms_of name refs rows used many) t ≡ []
  unfolding triggers_of_term groups_of_words
  triggers_none z exclude name =
      let terms = terms_of name refs rows used many in
      let words = part refs (row_start rows (bare_of rows t) + 1) (row_end rows used many (bare_of rows t)) in
      ap (map (group_names exclude terms)) (groups_count r name l ∙ ap (groups_of_words words) (sym counts ∙ z))

-- the groups of a term with groups
pub groups_here : {refs rows : List ℕ} {used many t groups u e : ℕ} → All refs rows used many t groups u e
    → groups_of_words (patterns refs rows used many u) groups ≡ groups_under refs used many rows t
unfolding groups_under
groups_here {refs} {rows} {used} {many} {t} {groups} {u} a = ap₂ groups_of_words
    (part_drop refs (row_start rows u) (row_end rows used many u) 1 ∙ ap (λ v. part refs (row_start rows v + 1) (row_end rows used many v)) a.bare)
    (a.counted ∙ sym (groups_all rows t u a.bare a.is_all))

-- the triggers of a term with groups
pub triggers_all : {refs rows : List ℕ} {used many named t groups u e : ℕ} → Rows refs rows used many named → t < many → All refs rows used many t groups u e
    → (exclude : List Name) (name : ℕ → Name)
    → map (group_names exclude (terms_of name refs rows used many)) (groups_of_words (patterns refs rows used many u) groups)
    ≡ triggers_of_term exclude (terms_of name refs rows used many) t
unfolding triggers_of_term groups_under
triggers_all {refs} {rows} {used} {many} r l a exclude name =
    ap (map (group_names exclude (terms_of name refs rows used many))) (groups_here a ∙ sym (groups_count r name l))

-- ---- the groups so far

-- one group more
pub groups_more : (f : List ℕ → List Name) (ws : List ℕ) (g : ℕ)
    → map f (groups_of_words ws g) ++ (f (group_of_words ws g) ∷ []) ≡ map f (groups_of_words ws (g + 1))
unfolding groups_of_words
groups_more f ws g = rw (add-one g, map-append)

-- fewer groups take no more entries
pub groups_fewer : (f : List ℕ → List Name) (ws : List ℕ) (m n : ℕ) → m ≤ n → entries (map f (groups_of_words ws m)) ≤ entries (map f (groups_of_words ws n))
unfolding groups_of_words
groups_fewer f ws m zero h =
    let e : m ≡ 0 = omega arith in
    rw e (omega arith)
groups_fewer f ws m (suc n) h = ⊎_elim
    (λ (k : m < suc n). rw (map-append) (omega (
      arith,
      entries_append (map f (groups_of_words ws n)) (f (group_of_words ws n) ∷ []),
      groups_fewer f ws m n (omega arith),
    )))
    (λ (k : suc n ≤ m). let e : m ≡ suc n = omega arith in rw e (omega arith))
    (below m (suc n))
