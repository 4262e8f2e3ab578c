-- What the words of a row mean in `model`: calls of known names, `op`s, heads, and their arguments.
use Prim.Native.Nat.{ℕ, zero, suc, ◌+◌, ◌-◌, ◌%◌, ◌≤◌, ◌<◌}
use Prim.Native.String.{String}
use native.Mathlib.Omega.{arith}
use mathlib.Core.Path.{◌≡◌, refl, sym, ap, ◌∙◌}
use mathlib.Core.Logic.{⊎_elim}
use mathlib.Core.Bool.{Bool, true, false, cond, ◌&&◌}
use Rattle.std.specs.Prelude.{Option, None as none, Some as some}
use mathlib.Core.List.{List, [], map}
use lib.ListN.{length, get_or}
use lib.Dec.{T, eqb, eqb→eq}
use borrow.Author.Tests.{eq-eqb, ne_eqb, eqb-true}
use Rattle.model.specs.Lists.{holds, or_else, when, is_nil, ◌>>=◌, part}
use Rattle.model.specs.Names.{Name, bytes, same}
use Rattle.model.specs.Terms.{term}
use Rattle.model.specs.Summaries.{common_names, token, at, free_of, call_of, op_of, op_number, one, two, op_args, call_args, call_one, call_two, head}
use Rattle.model.specs.declared.Op.{Op}
use Rattle.model.specs.declared.Op.TheVariants.{TrueOp, Iff, Eq, And}
use Rattle.model.proofs.ListLaws.{T_ext, true_T}
use Rattle.model.proofs.SetLaws.{same_refl, same_eq, same_sym}
use Rattle.model.proofs.PartLaws.{part_cons, part_nil}
use Rattle.names.specs.Known.{known_names, head_code}
use Rattle.names.specs.Table.{name_code, name_of}
use Rattle.names.proofs.Coded.{code_exact}
use Rattle.terms.specs.Rows.{row_kind, row_op, row_head, row_start, row_end, terms_of_words, op_of_code, make_node, node_of, has_head, Rows}
use Rattle.terms.proofs.Laws.{equal}
use Rattle.terms.proofs.Table.{term_node}
use Rattle.rules.specs.Views.{Tables, terms_in, row_count, row_argument, is_call_at, is_head_at, is_op_at, call_one_at, call_two_at, op_two_at}

-- ---- tests

-- the second of two tests counts where the first holds
pub and_same : (a b c : Bool) → (a ≡ true → b ≡ c) → (a && b) ≡ (a && c)
and_same true b c h = h refl
and_same false b c h = refl

-- a value is there if the test holds
pub holds_when : {A : Type 0} (test : A → Bool) (b : Bool) (a : A) → holds test (when b a) ≡ (b && test a)
unfolding holds when
holds_when test true a = refl
holds_when test false a = refl

-- ---- head codes

-- a known name and its code
pub record Known (k : String) (code : ℕ) : Type 0 where
  pub low : 1 ≤ code
  pub high : code ≤ 25
  pub is : get_or (map bytes known_names) (code - 1) [] ≡ bytes k

-- a name has the code of a known name if it is that name
pub code_same : {k : String} {code : ℕ} → Known k code → (n : Name) → eqb (head_code n) code ≡ same n (bytes k)
code_same {k} {code} known n =
    T_ext
    (λ t. rw ((code_exact n code known.low known.high).0 (eqb→eq (head_code n) code t) ∙ known.is) (same_refl (bytes k)))
    (λ t. true_T (eq-eqb (head_code n) code ((code_exact n code known.low known.high).1 (same_eq t ∙ sym known.is))))

-- HasType
pub has_type : Known "HasType" 3
unfolding known_names common_names bytes
has_type = record { low = omega arith; high = omega arith; is = refl }

-- Valid
pub valid : Known "Valid" 6
unfolding known_names common_names bytes
valid = record { low = omega arith; high = omega arith; is = refl }

-- ApplyTT
pub apply_tt : Known "ApplyTT" 7
unfolding known_names common_names bytes
apply_tt = record { low = omega arith; high = omega arith; is = refl }

-- Prims.squash
pub squash : Known "Prims.squash" 20
unfolding known_names common_names bytes
squash = record { low = omega arith; high = omega arith; is = refl }

-- Prims.hasEq
pub prims_has_eq : Known "Prims.hasEq" 21
unfolding known_names common_names bytes
prims_has_eq = record { low = omega arith; high = omega arith; is = refl }

-- IsTotFun
pub is_tot_fun : Known "IsTotFun" 22
unfolding known_names common_names bytes
is_tot_fun = record { low = omega arith; high = omega arith; is = refl }

-- is-Tm_arrow
pub is_tm_arrow : Known "is-Tm_arrow" 23
unfolding known_names common_names bytes
is_tm_arrow = record { low = omega arith; high = omega arith; is = refl }

-- Term_constr_id
pub term_constr_id : Known "Term_constr_id" 24
unfolding known_names common_names bytes
term_constr_id = record { low = omega arith; high = omega arith; is = refl }

-- __uu__PartialApp
pub partial_app : Known "__uu__PartialApp" 25
unfolding known_names common_names bytes
partial_app = record { low = omega arith; high = omega arith; is = refl }

-- ---- the node of a kind

-- a call is a node of kind 2
call_node : (k : String) (kind : ℕ) (op : Op) (name : Name) (ws : List ℕ) (g : ℕ)
    → call_args k (make_node kind op name ws g) ≡ when (eqb kind 2 && same name (bytes k)) (terms_of_words ws)
unfolding call_args call_of make_node when
call_node k zero op name ws g = refl
call_node k (suc zero) op name ws g = refl
call_node k (suc (suc zero)) op name ws g = refl
call_node k (suc (suc (suc zero))) op name ws g = refl
call_node k (suc (suc (suc (suc zero)))) op name ws g = refl
call_node k (suc (suc (suc (suc (suc zero))))) op name ws g = refl
call_node k (suc (suc (suc (suc (suc (suc zero)))))) op name ws g = refl
call_node k (suc (suc (suc (suc (suc (suc (suc n))))))) op name ws g = rw (ne_eqb (suc (suc (suc (suc (suc (suc (suc n))))))) 2 (λ e. omega arith))

-- an `op` is a node of kind 3
op_node : (word : Op) (kind : ℕ) (op : Op) (name : Name) (ws : List ℕ) (g : ℕ)
    → op_args word (make_node kind op name ws g) ≡ when (eqb kind 3 && eqb (op_number op) (op_number word)) (terms_of_words ws)
unfolding op_args op_of make_node when
op_node word zero op name ws g = refl
op_node word (suc zero) op name ws g = refl
op_node word (suc (suc zero)) op name ws g = refl
op_node word (suc (suc (suc zero))) op name ws g = refl
op_node word (suc (suc (suc (suc zero)))) op name ws g = refl
op_node word (suc (suc (suc (suc (suc zero))))) op name ws g = refl
op_node word (suc (suc (suc (suc (suc (suc zero)))))) op name ws g = refl
op_node word (suc (suc (suc (suc (suc (suc (suc n))))))) op name ws g = rw (ne_eqb (suc (suc (suc (suc (suc (suc (suc n))))))) 3 (λ e. omega arith))

-- a `free` and a call have a head
head_node : (kind : ℕ) (op : Op) (name : Name) (ws : List ℕ) (g : ℕ) → head (make_node kind op name ws g) ≡ when (has_head kind) name
unfolding head free_of call_of or_else make_node has_head when
head_node zero op name ws g = refl
head_node (suc zero) op name ws g = refl
head_node (suc (suc zero)) op name ws g = refl
head_node (suc (suc (suc zero))) op name ws g = refl
head_node (suc (suc (suc (suc zero)))) op name ws g = refl
head_node (suc (suc (suc (suc (suc zero))))) op name ws g = refl
head_node (suc (suc (suc (suc (suc (suc zero)))))) op name ws g = refl
head_node (suc (suc (suc (suc (suc (suc (suc n))))))) op name ws g = rw (
  ne_eqb (suc (suc (suc (suc (suc (suc (suc n))))))) 0 (λ e. omega arith),
  ne_eqb (suc (suc (suc (suc (suc (suc (suc n))))))) 2 (λ e. omega arith),
)

-- a word that the rules know is that of its number
op_code : (n o : ℕ) → o < 4 → eqb (op_number (op_of_code n)) o ≡ eqb n o
unfolding op_number op_of_code
op_code zero o h = refl
op_code (suc zero) o h = refl
op_code (suc (suc zero)) o h = refl
op_code (suc (suc (suc zero))) o h = refl
op_code (suc (suc (suc (suc n)))) o h = ne_eqb 4 o (λ e. omega arith) ∙ sym (ne_eqb (suc (suc (suc (suc n)))) o (λ e. omega arith))

-- ---- lists of one and two

-- the one term of words
one_words : (l : List ℕ) (a e : ℕ) → e ≤ length l → one (terms_of_words (part l a e)) ≡ cond (eqb (e - a) 1) (some (get_or l (a + 0) 0 % 4096)) none
unfolding one terms_of_words
one_words l a e h = go (e - a) refl
  where
    go : (d : ℕ) → e - a ≡ d → one (terms_of_words (part l a e)) ≡ cond (eqb d 1) (some (get_or l (a + 0) 0 % 4096)) none
    go zero q = rw (part_nil l a e (omega arith))
    go (suc zero) q =
        let z : a + 0 ≡ a = omega arith in
        rw (part_cons l a e (omega arith) h, part_nil l (a + 1) e (omega arith), z)
    go (suc (suc d)) q = rw (part_cons l a e (omega arith) h, part_cons l (a + 1) e (omega arith) h, ne_eqb (suc (suc d)) 1 (λ f. omega arith))

-- the two terms of words
two_words : (l : List ℕ) (a e : ℕ) → e ≤ length l
    → two (terms_of_words (part l a e)) ≡ cond (eqb (e - a) 2) (some (get_or l (a + 0) 0 % 4096, get_or l (a + 1) 0 % 4096)) none
unfolding two terms_of_words
two_words l a e h = go (e - a) refl
  where
    go : (d : ℕ) → e - a ≡ d → two (terms_of_words (part l a e)) ≡ cond (eqb d 2) (some (get_or l (a + 0) 0 % 4096, get_or l (a + 1) 0 % 4096)) none
    go zero q = rw (part_nil l a e (omega arith))
    go (suc zero) q = rw (part_cons l a e (omega arith) h, part_nil l (a + 1) e (omega arith))
    go (suc (suc zero)) q =
        let z : a + 0 ≡ a = omega arith in
        rw (part_cons l a e (omega arith) h, part_cons l (a + 1) e (omega arith) h, part_nil l (a + 1 + 1) e (omega arith), z)
    go (suc (suc (suc d))) q = rw (
      part_cons l a e (omega arith) h,
      part_cons l (a + 1) e (omega arith) h,
      part_cons l (a + 1 + 1) e (omega arith) h,
      ne_eqb (suc (suc (suc d))) 2 (λ f. omega arith),
    )

-- an argument by two tests is the one term of a list by the first
one_when : (b e : Bool) (ts : List ℕ) (u : ℕ) → one ts ≡ cond e (some u) none
    → (cond (b && e) (some u) none) ≡ (when b ts >>= one)
unfolding when
one_when true true ts u h = sym h
one_when true false ts u h = sym h
one_when false e ts u h = refl

-- two arguments by two tests are the two terms of a list by the first
two_when : (b e : Bool) (ts : List ℕ) (t u : ℕ) → two ts ≡ cond e (some (t, u)) none
    → (cond (b && e) (some (t, u)) none) ≡ (when b ts >>= two)
unfolding when
two_when true true ts t u h = sym h
two_when true false ts t u h = sym h
two_when false e ts t u h = refl

-- an argument by two tests, where it is there
one_is : (b e : Bool) {t u : ℕ} → cond (b && e) (some u) none ≡ some t → (e ≡ true) × (u ≡ t)
one_is true true h = (refl, cc)
one_is true false h = let z : ◌≡◌ {A = ℕ} 0 1 = cc in absurd (omega arith)
one_is false e h = let z : ◌≡◌ {A = ℕ} 0 1 = cc in absurd (omega arith)

-- two arguments by two tests, where they are there
two_are : (b e : Bool) {t u v w : ℕ} → cond {A = Option (ℕ × ℕ)} (b && e) (some (t, u)) none ≡ some (v, w) → (e ≡ true) × (t ≡ v) × (u ≡ w)
two_are true true {t} {u} {v} {w} h =
    let pair : ◌≡◌ {A = ℕ × ℕ} (t, u) (v, w) = cc in
    (refl, ap (λ p. p.0) pair, ap (λ p. p.1) pair)
two_are true false h = let z : ◌≡◌ {A = ℕ} 0 1 = cc in absurd (omega arith)
two_are false e h = let z : ◌≡◌ {A = ℕ} 0 1 = cc in absurd (omega arith)

-- ---- rows

module _ {refs rows : List ℕ} {used many named t : ℕ} (table : Rows refs rows used many named) (l : t < many) where
  -- the references of a row are in the slice
  pub row_fits : row_end rows used many t ≤ length refs
  row_fits = omega (arith, table.in_use t l, table.few_references, table.ref_room)

  -- an argument of a row is a term of the table
  argument_within : (i : ℕ) → i < row_count rows used many t → row_argument refs rows t i < many
  unfolding row_count row_argument
  argument_within i h = omega (arith, table.lower t (row_start rows t + i) l (omega arith) (omega arith))

  -- the argument of a call of one is a term of the table
  pub one_within : (names : List ℕ) (code : ℕ) {r : Option ℕ} {u : ℕ} → r ≡ call_one_at names refs rows used many t code → r ≡ some u → u < many
  unfolding call_one_at
  one_within names code e f =
      let (count, is) = one_is (is_call_at names rows t code) (eqb (row_count rows used many t) 1) (sym e ∙ f) in
      rw (← is) (argument_within 0 (omega (arith, eqb-true (row_count rows used many t) 1 count)))

  -- the arguments of a call of two are terms of the table
  pub two_within : (names : List ℕ) (code : ℕ) {r : Option (ℕ × ℕ)} {u v : ℕ} → r ≡ call_two_at names refs rows used many t code → r ≡ some (u, v)
      → (u < many) × (v < many)
  unfolding call_two_at
  two_within names code e f =
      let (count, is, and) = two_are (is_call_at names rows t code) (eqb (row_count rows used many t) 2) (sym e ∙ f) in
      let many_enough = eqb-true (row_count rows used many t) 2 count in
      (rw (← is) (argument_within 0 (omega arith)), rw (← and) (argument_within 1 (omega arith)))

-- ---- terms

-- a call has a head
pub call_headed : (kind : ℕ) → kind ≡ 2 → has_head kind ≡ true
unfolding has_head
call_headed kind e = rw e

-- a node that is no `free` and no call is no token
other_node : (kind : ℕ) (op : Op) (name : Name) (ws : List ℕ) (g : ℕ) → (kind ≡ 0 → ⊥) → (kind ≡ 2 → ⊥)
    → or_else (free_of (make_node kind op name ws g)) (call_of (make_node kind op name ws g) >>= λ (name, ts). when (is_nil ts) name) ≡ none
unfolding make_node free_of call_of or_else
other_node zero op name ws g e f = absurd (e refl)
other_node (suc zero) op name ws g e f = refl
other_node (suc (suc zero)) op name ws g e f = absurd (f refl)
other_node (suc (suc (suc zero))) op name ws g e f = refl
other_node (suc (suc (suc (suc zero)))) op name ws g e f = refl
other_node (suc (suc (suc (suc (suc zero))))) op name ws g e f = refl
other_node (suc (suc (suc (suc (suc (suc zero)))))) op name ws g e f = refl
other_node (suc (suc (suc (suc (suc (suc (suc n))))))) op name ws g e f = refl

module _ {file names refs rows : List ℕ} {named used many t : ℕ} (tables : Tables file names refs rows named used many) (l : t < many) where
  -- the line of a term is that of its row
  line : (term (terms_in file names refs rows used many) t).node ≡ node_of (name_of file names) refs rows used many t
  unfolding terms_in
  line = term_node (name_of file names) refs rows used many t l

  -- the code of a head is that of its name
  code_of : T (has_head (row_kind rows t)) → name_code names (row_head rows t) ≡ head_code (name_of file names (row_head rows t))
  code_of h = tables.name_table.codes (row_head rows t) (tables.term_table.headed t l h)

  -- the head of a term
  pub head_law : head (term (terms_in file names refs rows used many) t).node ≡ when (has_head (row_kind rows t)) (name_of file names (row_head rows t))
  unfolding node_of
  head_law = ap head line ∙ head_node (row_kind rows t) _ _ _ _

  -- whether the head of a term is a known name
  pub is_head_law : {k : String} {code : ℕ} → Known k code → is_head_at names rows t code
      ≡ holds (same (bytes k)) (head (term (terms_in file names refs rows used many) t).node)
  unfolding is_head_at
  is_head_law {k} {code} known =
      and_same (has_head (row_kind rows t)) _ _ (λ h. ap (λ n. eqb n code) (code_of (true_T h)) ∙ code_same known (name_of file names (row_head rows t))
      ∙ same_sym (name_of file names (row_head rows t)) (bytes k))
      ∙ sym (ap (holds (same (bytes k))) head_law ∙ holds_when (same (bytes k)) (has_head (row_kind rows t)) (name_of file names (row_head rows t)))

  -- the arguments of a call of a known name
  pub call_law : {k : String} {code : ℕ} → Known k code → call_args k (term (terms_in file names refs rows used many) t).node
      ≡ when (is_call_at names rows t code) (terms_of_words (part refs (row_start rows t) (row_end rows used many t)))
  unfolding node_of is_call_at
  call_law {k} {code} known =
      ap (call_args k) line
      ∙ call_node k (row_kind rows t) _ (name_of file names (row_head rows t)) _ _
      ∙ ap (λ b. when b (terms_of_words (part refs (row_start rows t) (row_end rows used many t))))
      (sym (and_same (eqb (row_kind rows t) 2) _ _ (λ h. ap (λ n. eqb n code)
      (code_of (true_T (call_headed (row_kind rows t) (eqb-true (row_kind rows t) 2 h)))) ∙ code_same known (name_of file names (row_head rows t)))))

  -- whether a term is a call of a known name
  pub is_call_law : {k : String} {code : ℕ} → Known k code → is_call_at names rows t code
      ≡ holds (λ ts. true) (call_args k (term (terms_in file names refs rows used many) t).node)
  is_call_law {k} {code} known = sym (ap (holds (λ ts. true)) (call_law known) ∙ holds_when (λ ts. true) (is_call_at names rows t code) _
      ∙ and_true (is_call_at names rows t code))
    where
      and_true : (b : Bool) → (b && true) ≡ b
      and_true true = refl
      and_true false = refl

  -- the argument of a call of a known name with one
  pub call_one_law : {k : String} {code : ℕ} → Known k code → (call_one_at names refs rows used many t code)
      ≡ call_one k (term (terms_in file names refs rows used many) t).node
  unfolding call_one_at call_one row_argument row_count
  call_one_law {k} {code} known =
      one_when (is_call_at names rows t code) _ _ _ (one_words refs (row_start rows t) (row_end rows used many t) (row_fits tables.term_table l))
      ∙ ap (λ ts. ts >>= one) (sym (call_law known))

  -- the arguments of a call of a known name with two
  pub call_two_law : {k : String} {code : ℕ} → Known k code → (call_two_at names refs rows used many t code)
      ≡ call_two k (term (terms_in file names refs rows used many) t).node
  unfolding call_two_at call_two row_argument row_count
  call_two_law {k} {code} known =
      two_when (is_call_at names rows t code) _ _ _ _ (two_words refs (row_start rows t) (row_end rows used many t) (row_fits tables.term_table l))
      ∙ ap (λ ts. ts >>= two) (sym (call_law known))

  -- the arguments of an `op` of a known word
  pub op_law : (word : Op) → op_number word < 4 → op_args word (term (terms_in file names refs rows used many) t).node
      ≡ when (is_op_at rows t (op_number word)) (terms_of_words (part refs (row_start rows t) (row_end rows used many t)))
  unfolding node_of is_op_at
  op_law word h =
      ap (op_args word) line
      ∙ op_node word (row_kind rows t) (op_of_code (row_op rows t)) _ _ _
      ∙ ap (λ b. when (eqb (row_kind rows t) 3 && b) (terms_of_words (part refs (row_start rows t) (row_end rows used many t))))
      (op_code (row_op rows t) (op_number word) h)

  -- the arguments of an `op` of a known word with two
  pub op_two_law : (word : Op) → op_number word < 4 → (op_two_at refs rows used many t (op_number word))
      ≡ (op_args word (term (terms_in file names refs rows used many) t).node >>= two)
  unfolding op_two_at row_argument row_count
  op_two_law word h =
      two_when (is_op_at rows t (op_number word)) _ _ _ _ (two_words refs (row_start rows t) (row_end rows used many t) (row_fits tables.term_table l))
      ∙ ap (λ ts. ts >>= two) (sym (op_law word h))

  -- ---- the same for each word and each name that the rules know

  -- the two arguments of an `iff`
  pub iff_two_law : (op_args Iff (term (terms_in file names refs rows used many) t).node >>= two) ≡ op_two_at refs rows used many t 1
  unfolding op_number
  iff_two_law = sym (op_two_law Iff (omega arith))

  -- the two arguments of an `eq`
  pub eq_two_law : (op_args Eq (term (terms_in file names refs rows used many) t).node >>= two) ≡ op_two_at refs rows used many t 2
  unfolding op_number
  eq_two_law = sym (op_two_law Eq (omega arith))

  -- the arguments of a `true`
  pub true_law : op_args TrueOp (term (terms_in file names refs rows used many) t).node
      ≡ when (is_op_at rows t 0) (terms_of_words (part refs (row_start rows t) (row_end rows used many t)))
  unfolding op_number
  true_law = op_law TrueOp (omega arith)

  -- the arguments of an `and`
  pub and_law : op_args And (term (terms_in file names refs rows used many) t).node
      ≡ when (is_op_at rows t 3) (terms_of_words (part refs (row_start rows t) (row_end rows used many t)))
  unfolding op_number
  and_law = op_law And (omega arith)

  -- the argument of Valid
  pub valid_law : call_one "Valid" (term (terms_in file names refs rows used many) t).node ≡ call_one_at names refs rows used many t 6
  valid_law = sym (call_one_law valid)

  -- the argument of IsTotFun
  pub is_tot_fun_law : call_one "IsTotFun" (term (terms_in file names refs rows used many) t).node ≡ call_one_at names refs rows used many t 22
  is_tot_fun_law = sym (call_one_law is_tot_fun)

  -- the argument of is-Tm_arrow
  pub is_tm_arrow_law : call_one "is-Tm_arrow" (term (terms_in file names refs rows used many) t).node ≡ call_one_at names refs rows used many t 23
  is_tm_arrow_law = sym (call_one_law is_tm_arrow)

  -- the argument of Term_constr_id
  pub term_constr_id_law : call_one "Term_constr_id" (term (terms_in file names refs rows used many) t).node ≡ call_one_at names refs rows used many t 24
  term_constr_id_law = sym (call_one_law term_constr_id)

  -- the two arguments of HasType
  pub has_type_law : call_two "HasType" (term (terms_in file names refs rows used many) t).node ≡ call_two_at names refs rows used many t 3
  has_type_law = sym (call_two_law has_type)

  -- the two arguments of ApplyTT
  pub apply_tt_law : call_two "ApplyTT" (term (terms_in file names refs rows used many) t).node ≡ call_two_at names refs rows used many t 7
  apply_tt_law = sym (call_two_law apply_tt)

  -- the two arguments of Prims.squash
  pub squash_law : call_two "Prims.squash" (term (terms_in file names refs rows used many) t).node ≡ call_two_at names refs rows used many t 20
  squash_law = sym (call_two_law squash)

  -- the two arguments of Prims.hasEq
  pub prims_has_eq_law : call_two "Prims.hasEq" (term (terms_in file names refs rows used many) t).node ≡ call_two_at names refs rows used many t 21
  prims_has_eq_law = sym (call_two_law prims_has_eq)

  -- whether a head is __uu__PartialApp
  pub partial_app_law : holds (same (bytes "__uu__PartialApp")) (head (term (terms_in file names refs rows used many) t).node) ≡ is_head_at names rows t 25
  partial_app_law = sym (is_head_law partial_app)

  -- whether a term is a squash
  pub is_squash_law : holds (λ ts. true) (call_args "Prims.squash" (term (terms_in file names refs rows used many) t).node) ≡ is_call_at names rows t 20
  is_squash_law = sym (is_call_law squash)

  -- the argument of a call of a known name with one is a term of the table
  pub one_inside : {k : String} {code u : ℕ} → Known k code → call_one k (term (terms_in file names refs rows used many) t).node ≡ some u → u < many
  one_inside {code} known e = one_within tables.term_table l names code refl (call_one_law known ∙ e)

  -- the arguments of a call of a known name with two are terms of the table
  pub two_inside : {k : String} {code u v : ℕ} → Known k code → call_two k (term (terms_in file names refs rows used many) t).node ≡ some (u, v)
      → (u < many) × (v < many)
  two_inside {code} known e = two_within tables.term_table l names code refl (call_two_law known ∙ e)

  -- ---- heads

  -- a head is the number of a name
  pub head_within : {n : ℕ} → has_head (row_kind rows t) ≡ true → n ≡ row_head rows t → n < named
  head_within e f = rw f (tables.term_table.headed t l (true_T e))

  -- ---- tokens

  -- a `free` is a token
  pub token_free : {n : ℕ} → row_kind rows t ≡ 0 → n ≡ row_head rows t → token (terms_in file names refs rows used many) t ≡ some (name_of file names n)
  unfolding token at node_of make_node free_of call_of or_else
  token_free e f = rw (line, e, f)

  -- so is a call of none
  pub token_call : {n : ℕ} → row_kind rows t ≡ 2 → row_count rows used many t ≡ 0 → n ≡ row_head rows t
      → token (terms_in file names refs rows used many) t ≡ some (name_of file names n)
  unfolding token at node_of make_node free_of call_of or_else row_count terms_of_words is_nil when
  token_call e g f = rw (line, e, f, part_nil refs (row_start rows t) (row_end rows used many t) (omega arith))

  -- a call of some is none
  pub token_more : row_kind rows t ≡ 2 → (row_count rows used many t ≡ 0 → ⊥) → token (terms_in file names refs rows used many) t ≡ none
  unfolding token at node_of make_node free_of call_of or_else row_count terms_of_words is_nil when
  token_more e g = rw (line, e, part_cons refs (row_start rows t) (row_end rows used many t) (omega arith) (row_fits tables.term_table l))

  -- nor is any other term
  pub token_other : (row_kind rows t ≡ 0 → ⊥) → (row_kind rows t ≡ 2 → ⊥) → token (terms_in file names refs rows used many) t ≡ none
  unfolding token at node_of
  token_other e f = rw line (other_node (row_kind rows t) _ _ _ _ e f)

  -- the name of a token is that of its row's head
  pub token_named : {n : Name} → token (terms_in file names refs rows used many) t ≡ some n → name_of file names (row_head rows t) ≡ n
  token_named h = ⊎_elim
      (λ e. cc (token_free e refl))
      (λ e. ⊎_elim
      (λ f. ⊎_elim (λ g. cc (token_call f g refl)) (λ g. cc (token_more f g)) (equal (row_count rows used many t) 0))
      (λ f. cc (token_other e f))
      (equal (row_kind rows t) 2))
      (equal (row_kind rows t) 0)
