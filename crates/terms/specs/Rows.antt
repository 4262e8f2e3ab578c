-- The term table in two lent slices. The references: `term + 4096 * group`, the group counted from 0 within its `all` or
-- `some`, 0 elsewhere; a quantifier's body is its first reference. The rows, 4 columns of 4,096: kind with op word and head
-- name, where the references start, groups or the term under a run of labels; the last is others' concern.
use Rattle.std.specs.Prelude.{ℕ, zero, suc, ◌+◌, ◌/◌, ◌%◌, ◌≤◌, ◌<◌, ◌≡◌, Bool, cond, ◌||◌, List, [], ◌∷◌, ◌++◌, map, length, drop, get_or, T, eqb, ltb}
use Rattle.model.specs.Lists.{keep, fold_left, part}
use Rattle.model.specs.Names.{Name}
use Rattle.model.specs.Terms.{Node, free_v, leaf, call, app, forall, exists, let_in, labeled, Term, add_term}
use Rattle.model.specs.Reading.{most_names, most_terms, most_references}
use Rattle.model.specs.Outcome.{working_words}
use Rattle.model.specs.declared.Op.{Op}
use Rattle.model.specs.declared.Op.TheVariants.{TrueOp, Iff, Eq, And, Other}

-- the columns of the rows, by their first word
abbrev pub start_column : ℕ
start_column = 4096

abbrev pub extra_column : ℕ
extra_column = 8192

-- the kinds of rows
abbrev pub free_kind : ℕ
free_kind = 0

abbrev pub leaf_kind : ℕ
leaf_kind = 1

abbrev pub call_kind : ℕ
call_kind = 2

abbrev pub op_kind : ℕ
op_kind = 3

abbrev pub all_kind : ℕ
all_kind = 4

abbrev pub some_kind : ℕ
some_kind = 5

abbrev pub let_kind : ℕ
let_kind = 6

abbrev pub label_kind : ℕ
label_kind = 7

-- the term of a reference word
abbrev pub term_of : ℕ → ℕ
term_of w = w % 4096

-- its group
abbrev pub group_of : ℕ → ℕ
group_of w = w / 4096

-- the kind of a row
unfoldable pub row_kind : List ℕ → ℕ → ℕ
row_kind rows t = get_or rows t 0 % 8

-- the op word of a row
unfoldable pub row_op : List ℕ → ℕ → ℕ
row_op rows t = get_or rows t 0 / 8 % 8

-- the head name of a row
unfoldable pub row_head : List ℕ → ℕ → ℕ
row_head rows t = get_or rows t 0 / 64

-- where the references of a row start
abbrev pub row_start : List ℕ → ℕ → ℕ
row_start rows t = get_or rows (start_column + t) 0

-- how many groups a quantifier has; the term under a run of labels
abbrev pub row_extra : List ℕ → ℕ → ℕ
row_extra rows t = get_or rows (extra_column + t) 0

-- where the references of a row end, in a table of `many` rows and `used` references
unfoldable pub row_end : List ℕ → ℕ → ℕ → ℕ → ℕ
row_end rows used many t = cond (ltb (t + 1) many) (row_start rows (t + 1)) used

-- the terms that reference words name
unfoldable pub terms_of_words : List ℕ → List ℕ
terms_of_words ws = map term_of ws

-- the terms of a group
unfoldable pub group_of_words : List ℕ → ℕ → List ℕ
group_of_words ws g = terms_of_words (keep (λ w. eqb (group_of w) g) ws)

-- the groups before the g-th
unfoldable pub groups_of_words : List ℕ → ℕ → List (List ℕ)
groups_of_words ws zero = []
groups_of_words ws (suc g) = groups_of_words ws g ++ (group_of_words ws g ∷ [])

-- how many words from the first on are of a group
unfoldable pub group_run : ℕ → List ℕ → ℕ
group_run g [] = 0
group_run g (w ∷ ws) = let more = group_run g ws in cond (eqb (group_of w) g) (1 + more) 0

-- the op word of a code
unfoldable pub op_of_code : ℕ → Op
op_of_code zero = TrueOp
op_of_code (suc zero) = Iff
op_of_code (suc (suc zero)) = Eq
op_of_code (suc (suc (suc zero))) = And
op_of_code (suc (suc (suc (suc n)))) = Other

-- the node of a kind, an op word, a head name, reference words and a number of groups
unfoldable pub make_node : ℕ → Op → Name → List ℕ → ℕ → Node
make_node zero op name ws g = free_v name
make_node (suc zero) op name ws g = leaf
make_node (suc (suc zero)) op name ws g = call name (terms_of_words ws)
make_node (suc (suc (suc zero))) op name ws g = app op (terms_of_words ws)
make_node (suc (suc (suc (suc zero)))) op name ws g = forall (term_of (get_or ws 0 0)) (groups_of_words (drop 1 ws) g)
make_node (suc (suc (suc (suc (suc zero))))) op name ws g = exists (term_of (get_or ws 0 0)) (groups_of_words (drop 1 ws) g)
make_node (suc (suc (suc (suc (suc (suc zero)))))) op name ws g = let_in (term_of (get_or ws 0 0)) (terms_of_words (drop 1 ws))
make_node (suc (suc (suc (suc (suc (suc (suc k))))))) op name ws g = labeled (term_of (get_or ws 0 0))

-- the node of a row; `name` gives each name number its name
unfoldable pub node_of : (ℕ → Name) → List ℕ → List ℕ → ℕ → ℕ → ℕ → Node
node_of name refs rows used many t =
    make_node (row_kind rows t) (op_of_code (row_op rows t)) (name (row_head rows t))
    (part refs (row_start rows t) (row_end rows used many t)) (row_extra rows t)

-- the nodes before the t-th, of a table of `many` rows
unfoldable pub nodes_below : (ℕ → Name) → List ℕ → List ℕ → ℕ → ℕ → ℕ → List Node
nodes_below name refs rows used many zero = []
nodes_below name refs rows used many (suc t) =
    nodes_below name refs rows used many t ++ (node_of name refs rows used many t ∷ [])

-- the terms of a table, as `model` has them
unfoldable pub terms_of : (ℕ → Name) → List ℕ → List ℕ → ℕ → ℕ → List Term
terms_of name refs rows used many = fold_left add_term [] (nodes_below name refs rows used many many)

-- a row with a head name: a free or a call
unfoldable pub has_head : ℕ → Bool
has_head k = eqb k free_kind || eqb k call_kind

-- a row whose first reference is its body, or what it labels: all, some, let, label
unfoldable pub has_body : ℕ → Bool
has_body k = ltb op_kind k

-- a row with pattern groups: all, some
unfoldable pub has_groups : ℕ → Bool
has_groups k = eqb k all_kind || eqb k some_kind

-- the term under a run of labels
unfoldable pub bare_of : List ℕ → ℕ → ℕ
bare_of rows t = cond (eqb (row_kind rows t) label_kind) (row_extra rows t) t

-- how many pattern groups the `all` under a term's labels has: none where it is no `all`
unfoldable pub groups_at : List ℕ → ℕ → ℕ
groups_at rows t = cond (eqb (row_kind rows (bare_of rows t)) all_kind) (row_extra rows (bare_of rows t)) 0

-- a table of `many` rows with `used` references, whose heads are among `named` names
pub record Rows (refs rows : List ℕ) (used many named : ℕ) : Type 0 where
  pub ref_room : working_words ≤ length refs
  pub row_room : working_words ≤ length rows
  pub few_references : used ≤ most_references
  pub few_rows : many ≤ most_terms
  pub few_names : named ≤ most_names
  -- the references of a row lie in order, and name lower terms
  pub in_order : (t : ℕ) → t < many → row_start rows t ≤ row_end rows used many t
  pub in_use : (t : ℕ) → t < many → row_end rows used many t ≤ used
  pub lower : (t i : ℕ) → t < many → row_start rows t ≤ i → i < row_end rows used many t → term_of (get_or refs i 0) < t
  -- a head is the number of a name
  pub headed : (t : ℕ) → t < many → T (has_head (row_kind rows t)) → row_head rows t < named
  -- a body is there
  pub bodied : (t : ℕ) → t < many → T (has_body (row_kind rows t)) → row_start rows t < row_end rows used many t
  -- a label's row has the term under its run of labels
  pub labelled : (t : ℕ) → t < many → row_kind rows t ≡ label_kind
      → row_extra rows t ≡ bare_of rows (term_of (get_or refs (row_start rows t) 0))
  -- a free name and a leaf have no reference, a label one, and a quantifier's patterns are in its groups
  pub childless : (t : ℕ) → t < many → row_kind rows t < call_kind → row_end rows used many t ≡ row_start rows t
  pub single : (t : ℕ) → t < many → row_kind rows t ≡ label_kind → row_end rows used many t ≡ row_start rows t + 1
  pub grouped : (t i : ℕ) → t < many → T (has_groups (row_kind rows t)) → row_start rows t < i → i < row_end rows used many t
      → group_of (get_or refs i 0) < row_extra rows t
  -- and stand in the order of the groups
  pub rising : (t i : ℕ) → t < many → T (has_groups (row_kind rows t)) → row_start rows t < i → i + 1 < row_end rows used many t
      → group_of (get_or refs i 0) ≤ group_of (get_or refs (i + 1) 0)
