-- Laws of a table of names, said of plain lists: its names by number and by rank, and what a look_up answers.
use Prim.Native.Nat.{ℕ, zero, suc, ◌+◌, ◌-◌, ◌≤◌, ◌<◌, zero-le}
use native.Mathlib.Numerals.{one-add}
use native.Mathlib.Nat.{zero-add, add-zero, add_assoc, eq-or-lt_of_le, not-suc-le-zero}
use native.Mathlib.Omega.{arith}
use mathlib.Core.Path.{◌≡◌, refl, sym, ap, ◌∙◌}
use mathlib.Core.Logic.{◌⊎◌, inl, inr, ⊎_elim, ◌↔◌}
use mathlib.Core.Bool.{Bool, true, false, cond, or-false, or_comm}
use mathlib.Core.List.{List, [], ◌∷◌, ◌++◌}
use Rattle.std.specs.Prelude.{None as none, Some as some, Result, Ok, Err}
use lib.ListN.{length, get_or, length-append, get_or-append}
use lib.Seq.{get_or_at}
use lib.Dec.{T, not_T, ltb}
use borrow.Author.Tests.{ltb-true, ltb-false}
use Rattle.model.specs.Lists.{any, count, part}
use Rattle.model.specs.Names.{Name, order, same, mem, add_by, add}
use Rattle.std.specs.declared.cmp.Ordering.{Ordering as Order}
use Rattle.std.specs.declared.cmp.Ordering.TheVariants.{Less as Before, Greater as After}
use Rattle.model.proofs.ListLaws.{T_true, T_false, any_append, count_append}
use Rattle.model.proofs.SetLaws.{order_flip, order_trans, order_irrefl, Compared, first, equal, second, compared, same_refl, same_eq, mem_cons, mem_first, mem_later, mem_append, add_mem, Ascending, empty, one, ascending_tail, ascending_head, ascending_cons, ascending_add, ascending_ext}
use Rattle.text.specs.declared.Comparison.{Comparison}
use Rattle.text.specs.Parts.{shared, comparison}
use Rattle.text.proofs.Laws.{shared_between}
use Rattle.names.specs.Table.{name_of, ranked, table_names, Table, place_from, is_before, rank_among, found_or, look_up}

-- ---- numbers

-- how a number stands to another
pub data Stands (a b : ℕ) : Type 0 where
  under : a < b → Stands a b
  level : a ≡ b → Stands a b
  over : b < a → Stands a b

-- one of the three holds
pub stands : (a b : ℕ) → Stands a b
stands a b = go (ltb a b) refl
  where
    go : (t : Bool) → ltb a b ≡ t → Stands a b
    go true d = under (ltb-true a b d)
    go false d = ⊎_elim (λ e. level (sym e)) over (eq-or-lt_of_le (ltb-false a b d))

-- a number below one more is the last or below it
pub last_or : {n : ℕ} (k : ℕ) → n < suc k → (n ≡ k) ⊎ (n < k)
last_or k h = eq-or-lt_of_le (omega arith)

-- a number is below another or not
pub below_or : (low r : ℕ) → (low ≤ r) ⊎ (r < low)
below_or low r = go (stands r low)
  where
    go : Stands r low → (low ≤ r) ⊎ (r < low)
    go (under h) = inr h
    go (level h) = inl (omega arith)
    go (over h) = inl (omega arith)

-- ---- the values of a function at the numbers below another

-- the first k values of a function, in order
unfoldable pub listed : (ℕ → Name) → ℕ → List Name
listed f zero = []
listed f (suc k) = listed f k ++ (f k ∷ [])

-- there are as many as asked for
pub listed_length : (f : ℕ → Name) (k : ℕ) → length (listed f k) ≡ k
unfolding listed
listed_length f zero = refl
listed_length f (suc k) = rw (length-append, listed_length f k) (omega arith)

-- functions that agree below k list the same
pub listed_cong : (f g : ℕ → Name) (k : ℕ) → ((n : ℕ) → n < k → f n ≡ g n) → listed f k ≡ listed g k
unfolding listed
listed_cong f g zero h = refl
listed_cong f g (suc k) h = rw (listed_cong f g k (λ n l. h n (omega arith)), h k (omega arith))

-- a value is listed
pub listed_intro : (f : ℕ → Name) (k n : ℕ) → n < k → T (mem (f n) (listed f k))
unfolding listed
listed_intro f zero n h = absurd (omega arith)
listed_intro f (suc k) n h =
    (mem_append (f n) (listed f k) (f k ∷ [])).1
    (⊎_elim (λ e. inr ((mem_cons (f n) (f k) []).1 (inl (ap f e)))) (λ l. inl (listed_intro f k n l)) (last_or k h))

-- what is listed is a value
pub listed_elim : (f : ℕ → Name) (k : ℕ) (name : Name) → T (mem name (listed f k)) → (n : ℕ) × (n < k) × (name ≡ f n)
unfolding listed mem any
listed_elim f zero name t = absurd t
listed_elim f (suc k) name t =
    ⊎_elim
    (λ u. let (n, l, e) = listed_elim f k name u in (n, omega arith, e))
    (λ u. ⊎_elim (λ e. (k, omega arith, e)) (λ v. absurd v) ((mem_cons name (f k) []).0 u))
    ((mem_append name (listed f k) (f k ∷ [])).0 t)

-- a set with a name behind all of it is a set
ascending_snoc : {l : List Name} (n : Name) → Ascending l → ((k : Name) → T (mem k l) → order k n ≡ Before) → Ascending (l ++ (n ∷ []))
unfolding mem any
ascending_snoc {l = []} n a h = one
ascending_snoc {l = m ∷ ms} n a h =
    ascending_cons
    (λ k t.
    ⊎_elim
    (ascending_head a k)
    (λ u. ⊎_elim (λ e. rw e (h m (mem_first m ms))) (λ v. absurd v) ((mem_cons k n []).0 u))
    ((mem_append k ms (n ∷ [])).0 t))
    (ascending_snoc n (ascending_tail a) (λ k t. h k (mem_later k m ms t)))

-- values that ascend are a set
pub listed_ascending : (f : ℕ → Name) (k : ℕ) → ((r q : ℕ) → r < q → q < k → order (f r) (f q) ≡ Before) → Ascending (listed f k)
unfolding listed
listed_ascending f zero up = empty
listed_ascending f (suc k) up =
    ascending_snoc (f k) (listed_ascending f k (λ r q h l. up r q h (omega arith)))
    (λ name t. let (n, l, e) = listed_elim f k name t in rw e (up n k l (omega arith)))

-- the first element counts for one or for none
count_cons : (test : Name → Bool) (n : Name) (l : List Name) → count test (n ∷ l) ≡ cond (test n) 1 0 + count test l
unfolding count
count_cons test n l = go (test n) (count test l)
  where
    go : (b : Bool) (r : ℕ) → cond b (1 + r) r ≡ cond b 1 0 + r
    go true r = refl
    go false r = omega arith

-- values of which the test holds up to one, and from there on fails, count as many as that one
pub listed_count : (test : Name → Bool) (f : ℕ → Name) (low k : ℕ) → low ≤ k
    → ((n : ℕ) → n < low → test (f n) ≡ true)
    → ((n : ℕ) → low ≤ n → n < k → test (f n) ≡ false)
    → count test (listed f k) ≡ low
unfolding listed count
listed_count test f low zero h t u = omega arith
listed_count test f low (suc k) h t u =
    count_append test (listed f k) (f k ∷ [])
    ∙ ⊎_elim
    (λ e. rw (t k (omega arith), listed_count test f k k (omega arith) (λ n l. t n (omega arith)) (λ n l m. absurd (omega arith))) (omega arith))
    (λ l. rw (u k (omega arith) (omega arith), listed_count test f low k (omega arith) t (λ n m p. u n m (omega arith))) (omega arith))
    (eq-or-lt_of_le h)

-- a name that the set lacks counts for one or for none
add_count : (test : Name → Bool) (n : Name) (l : List Name) → (T (mem n l) → ⊥) → count test (add n l) ≡ cond (test n) 1 0 + count test l
unfolding add add_by count
add_count test n [] h = count_cons test n []
add_count test n (m ∷ ms) h = go (add n ms) (add_count test n ms (λ t. h (mem_later n m ms t))) (compared n m)
  where
    go : (with_n : List Name) → count test with_n ≡ cond (test n) 1 0 + count test ms → {o : Order} → Compared n m o
        → count test (add_by o n m ms with_n) ≡ cond (test n) 1 0 + count test (m ∷ ms)
    go with_n i (first p) = count_cons test n (m ∷ ms)
    go with_n i (equal e) = absurd (h ((mem_cons n m ms).1 (inl e)))
    go with_n i (second p) = rw (count_cons test m with_n, count_cons test m ms, i) (omega arith)

-- the set of the first k values of a function
gathered : (ℕ → Name) → ℕ → List Name
gathered f zero = []
gathered f (suc k) = add (f k) (gathered f k)

-- it is a set
gathered_ascending : (f : ℕ → Name) (k : ℕ) → Ascending (gathered f k)
unfolding gathered
gathered_ascending f zero = empty
gathered_ascending f (suc k) = ascending_add (f k) (gathered_ascending f k)

-- with the members of the list
gathered_mem : (name : Name) (f : ℕ → Name) (k : ℕ) → mem name (gathered f k) ≡ mem name (listed f k)
unfolding gathered listed mem any
gathered_mem name f zero = refl
gathered_mem name f (suc k) =
    add_mem name (f k) (gathered f k)
    ∙ rw (gathered_mem name f k, any_append (same name) (listed f k) (f k ∷ []), or-false (same name (f k)))
    (or_comm (same name (f k)) (mem name (listed f k)))

-- where no value comes twice, the set counts as the list does
gathered_count : (test : Name → Bool) (f : ℕ → Name) (k : ℕ) → ((n m : ℕ) → n < m → m < k → f n ≡ f m → ⊥)
    → count test (gathered f k) ≡ count test (listed f k)
unfolding gathered listed count
gathered_count test f zero apart = refl
gathered_count test f (suc k) apart =
    let new : T (mem (f k) (gathered f k)) → ⊥ =
    λ t. let (n, l, e) = listed_elim f k (f k) (rw (gathered_mem (f k) f k) at t) in apart n k l (omega arith) (sym e) in
    add_count test (f k) (gathered f k) new
    ∙ rw (gathered_count test f k (λ n m h l. apart n m h (omega arith)), count_append test (listed f k) (f k ∷ []), count_cons test (f k) [])
    (omega arith)

-- where no value comes twice, a set of the values counts as their list does
pub listed_recount : (test : Name → Bool) (f g : ℕ → Name) (k : ℕ) → ((n m : ℕ) → n < m → m < k → f n ≡ f m → ⊥) → Ascending (listed g k)
    → ((name : Name) → T (mem name (listed f k)) ↔ T (mem name (listed g k))) → count test (listed f k) ≡ count test (listed g k)
listed_recount test f g k apart up same =
    sym (gathered_count test f k apart)
    ∙ ap (count test)
    (ascending_ext (gathered_ascending f k) up
    (λ name t. (same name).0 (rw (gathered_mem name f k) at t))
    (λ name t. rw (gathered_mem name f k) ((same name).1 t)))

-- ---- places

-- a name that is not in the first list is looked for in the second
place_later : (n : ℕ) (l m : List Name) (name : Name) → (T (mem name l) → ⊥) → place_from n (l ++ m) name ≡ place_from (n + length l) m name
unfolding place_from mem any
place_later n [] m name h = rw (add-zero n)
place_later n (x ∷ xs) m name h =
    rw (T_false (same x name) (not_T (same x name) (λ t. h ((mem_cons name x xs).1 (inl (sym (same_eq t)))))))
    (place_later (n + 1) xs m name (λ t. h (mem_later name x xs t)) ∙ rw (add_assoc n 1 (length xs), one-add (length xs)))

-- a name with a place in the first list has it in both
place_before : (n p : ℕ) (l m : List Name) (name : Name) → place_from n l name ≡ some p → place_from n (l ++ m) name ≡ some p
unfolding place_from
place_before n p [] m name h = cc
place_before n p (x ∷ xs) m name h = go (same x name) h (place_before (n + 1) p xs m name)
  where
    go : (b : Bool) → cond b (some n) (place_from (n + 1) xs name) ≡ some p
        → (place_from (n + 1) xs name ≡ some p → place_from (n + 1) (xs ++ m) name ≡ some p)
        → cond b (some n) (place_from (n + 1) (xs ++ m) name) ≡ some p
    go true h later = h
    go false h later = later h

-- a name that is not in the list has no place
place_none : (n : ℕ) (l : List Name) (name : Name) → (T (mem name l) → ⊥) → place_from n l name ≡ none
unfolding place_from
place_none n [] name h = refl
place_none n (x ∷ xs) name h =
    rw (T_false (same x name) (not_T (same x name) (λ t. h ((mem_cons name x xs).1 (inl (sym (same_eq t)))))))
    (place_none (n + 1) xs name (λ t. h (mem_later name x xs t)))

-- where no value comes twice, the place of a value is its number
listed_place : (f : ℕ → Name) (k n : ℕ) → ((m q : ℕ) → m < q → q < k → f m ≡ f q → ⊥) → n < k → place_from 0 (listed f k) (f n) ≡ some n
unfolding listed place_from
listed_place f zero n apart h = absurd (omega arith)
listed_place f (suc k) n apart h =
    ⊎_elim
    (λ (e : n ≡ k). place_later 0 (listed f k) (f k ∷ []) (f n) (λ t. let (m, l, d) = listed_elim f k (f n) t in apart m n (omega arith) h (sym d))
    ∙ rw (e, listed_length f k, zero-add k, T_true (same (f k) (f k)) (same_refl (f k))))
    (λ l. place_before 0 n (listed f k) (f k ∷ []) (f n) (listed_place f k n (λ m q h l. apart m q h (omega arith)) l))
    (last_or k h)

-- ---- where a name stands among values that ascend

-- a name is one of the first k values, or belongs between two
pub data Sought (f : ℕ → Name) (k : ℕ) (name : Name) : Type 0 where
  here : (r : ℕ) → r < k → f r ≡ name → Sought f k name
  between : (low : ℕ) → low ≤ k
      → ((q : ℕ) → q < low → order (f q) name ≡ Before)
      → ((q : ℕ) → low ≤ q → q < k → order (f q) name ≡ After)
      → Sought f k name

-- one of the two holds
pub sought : (f : ℕ → Name) (k : ℕ) (name : Name) → ((r q : ℕ) → r < q → q < k → order (f r) (f q) ≡ Before) → Sought f k name
sought f zero name up = between 0 zero-le (λ q h. absurd (omega arith)) (λ q h l. absurd (omega arith))
sought f (suc k) name up = go (sought f k name (λ r q h l. up r q h (omega arith))) (compared (f k) name)
  where
    go : Sought f k name → {o : Order} → Compared (f k) name o → Sought f (suc k) name
    go (here r h e) v = here r (omega arith) e
    go (between low h b a) (first p) =
        between (suc k) (omega arith)
        (λ q l. ⊎_elim (λ e. rw e p) (λ m. order_trans (f q) (f k) name (up q k m (omega arith)) p) (last_or k l))
        (λ q l m. absurd (omega arith))
    go (between low h b a) (equal e) = here k (omega arith) e
    go (between low h b a) (second p) =
        between low (omega arith) b (λ q l m. ⊎_elim (λ e. rw e ((order_flip name (f k)).0 p)) (λ n. a q l n) (last_or k m))

-- ---- a table of names

-- the names are the names of the numbers
names_listed : (file w : List ℕ) (named : ℕ) → table_names file w named ≡ listed (name_of file w) named
unfolding table_names listed
names_listed file w zero = refl
names_listed file w (suc named) = rw (names_listed file w named)

-- the name at a rank
abbrev pub name_at : List ℕ → List ℕ → ℕ → Name
name_at file w r = name_of file w (ranked w r)

-- the names in the order of the index
unfoldable pub index_names : List ℕ → List ℕ → ℕ → List Name
index_names file w named = listed (name_at file w) named

-- there are as many names as numbers
pub names_length : (file w : List ℕ) (named : ℕ) → length (table_names file w named) ≡ named
names_length file w named = rw (names_listed file w named) (listed_length (name_of file w) named)

-- a number is the place of its name
pub names_at : (file w : List ℕ) (named n : ℕ) → n < named → get_or (table_names file w named) n [] ≡ name_of file w n
unfolding table_names
names_at file w zero n h = absurd (not-suc-le-zero h)
names_at file w (suc k) n h = ⊎_elim
    (λ (e : n ≡ k). rw e (get_or_at (table_names file w k) (name_of file w k) [] [] k (names_length file w k)))
    (λ (l : n < k).
    get_or-append (table_names file w k) (name_of file w k ∷ []) [] n (rw (names_length file w k) l)
    ∙ names_at file w k n l)
    (last_or k h)

-- the name of a number is among the names
pub names_intro : (file w : List ℕ) (named n : ℕ) → n < named → T (mem (name_of file w n) (table_names file w named))
names_intro file w named n h = rw (names_listed file w named) (listed_intro (name_of file w) named n h)

-- what is among the names is the name of a number
pub names_elim : (file w : List ℕ) (named : ℕ) (name : Name) → T (mem name (table_names file w named)) → (n : ℕ) × (n < named) × (name ≡ name_of file w n)
names_elim file w named name t = listed_elim (name_of file w) named name (rw (names_listed file w named) at t)

-- the part of the file from a start on is that of the row which says so
pub part_row : (file w : List ℕ) (n start size : ℕ) → start ≡ get_or w n 0 → size ≡ get_or w (2048 + n) 0
    → part file start (start + size) ≡ part file (get_or w n 0) (get_or w n 0 + get_or w (2048 + n) 0)
part_row file w n start size p q = rw (p, q)

-- which is its name
pub name_row : (file w : List ℕ) (n start size : ℕ) → start ≡ get_or w n 0 → size ≡ get_or w (2048 + n) 0
    → part file start (start + size) ≡ name_of file w n
unfolding name_of
name_row file w n start size p q = part_row file w n start size p q

-- what is shared with the name of a number is shared with that part
pub shared_row : (file w : List ℕ) (n start size : ℕ) (name : Name) (k : ℕ) → start ≡ get_or w n 0 → size ≡ get_or w (2048 + n) 0
    → k ≤ shared (name_of file w n) name → k ≤ shared (part file start (start + size)) name
shared_row file w n start size name k p q h = rw (name_row file w n start size p q) h

-- and how that part stands to a name is how the name of the number does
pub comparison_row : (file w : List ℕ) (n start size : ℕ) (name : Name) → start ≡ get_or w n 0 → size ≡ get_or w (2048 + n) 0
    → comparison (part file start (start + size)) name ≡ comparison (name_of file w n) name
comparison_row file w n start size name p q = rw (name_row file w n start size p q)

-- what was answered of the number that a rank has, said of the rank's name: its order
pub met_order : (file w : List ℕ) (m n : ℕ) (name : Name) (r : Comparison) (o : Order) → n ≡ ranked w m
    → r ≡ comparison (name_of file w n) name → r.order ≡ o → order (name_at file w m) name ≡ o
unfolding comparison
met_order file w m n name r o p q t = rw (← p) (sym (ap (λ (c : Comparison). c.order) q) ∙ t)

-- and the bytes that it shares
pub met_shared : (file w : List ℕ) (m n : ℕ) (name : Name) (r : Comparison) → n ≡ ranked w m
    → r ≡ comparison (name_of file w n) name → r.shared ≡ shared (name_at file w m) name
unfolding comparison
met_shared file w m n name r p q = rw (← p) (ap (λ (c : Comparison). c.shared) q)

-- how a search stands: the names of the ranks below `low` stand before the name, and those from `high` on after it; `below` bytes
-- are shared with the name before `low` and `above` with that at `high`, and none where there is no such name
pub record Searching (file w : List ℕ) (named : ℕ) (name : Name) (low high below above : ℕ) : Type 0 where
  pub within : low ≤ high
  pub inside : high ≤ named
  pub before : (q : ℕ) → q < low → order (name_at file w q) name ≡ Before
  pub after : (q : ℕ) → high ≤ q → q < named → order (name_at file w q) name ≡ After
  pub first : low ≡ 0 → below ≡ 0
  pub low_shares : (q : ℕ) → low ≡ q + 1 → below ≤ shared (name_at file w q) name
  pub last : named ≤ high → above ≡ 0
  pub high_shares : high < named → above ≤ shared (name_at file w high) name

-- a search begins with every rank, and nothing known of what is shared
pub search_start : (file w : List ℕ) (named : ℕ) (name : Name) → Searching file w named name 0 named 0 0
search_start file w named name = record {
  within = zero-le;
  inside = omega arith;
  before = λ q h. absurd (omega arith);
  after = λ q h l. absurd (omega arith);
  first = λ h. refl;
  low_shares = λ q h. zero-le;
  last = λ h. refl;
  high_shares = λ h. zero-le;
}

-- a name that a table lacks: the names at the ranks below one stand before it, and the others after it
pub record Lacks (file w : List ℕ) (named : ℕ) (name : Name) (rank : ℕ) : Type 0 where
  pub within : rank ≤ named
  pub below : (q : ℕ) → q < rank → order (name_at file w q) name ≡ Before
  pub above : (q : ℕ) → rank ≤ q → q < named → order (name_at file w q) name ≡ After
  pub absent : T (mem name (table_names file w named)) → ⊥

module _ {file w : List ℕ} {named : ℕ} (table : Table file w named) where
  -- two ranks with one number are one
  same_rank : (r q : ℕ) → r < named → q < named → name_at file w r ≡ name_at file w q → r ≡ q
  same_rank r q h l e = go (stands r q)
    where
      go : Stands r q → r ≡ q
      go (under k) = absurd (order_irrefl (table.ascending r q k l) e)
      go (level k) = k
      go (over k) = absurd (order_irrefl (table.ascending q r k h) (sym e))

  -- two numbers with one name are one
  pub distinct : (n m : ℕ) → n < named → m < named → name_of file w n ≡ name_of file w m → n ≡ m
  distinct n m h l e =
      let (r, k, d) = table.each n h in
      let (q, i, c) = table.each m l in
      sym d ∙ ap (ranked w) (same_rank r q k i (rw (d, c) e)) ∙ c

  -- no name comes twice
  apart : (n m : ℕ) → n < m → m < named → name_of file w n ≡ name_of file w m → ⊥
  apart n m h l e = omega (arith, distinct n m (omega arith) l e)

  -- the names in the order of the index are a set
  pub index_ascending : Ascending (index_names file w named)
  unfolding index_names
  index_ascending = listed_ascending (name_at file w) named table.ascending

  -- with the members of the names
  pub index_members : (name : Name) → T (mem name (table_names file w named)) ↔ T (mem name (index_names file w named))
  unfolding index_names
  index_members name = (
    λ t. let (n, h, e) = names_elim file w named name t in let (r, l, d) = table.each n h in rw (e, ← d) (listed_intro (name_at file w) named r l),
    λ t. let (r, h, e) = listed_elim (name_at file w) named name t in rw e (names_intro file w named (ranked w r) (table.numbers r h)),
  )

  -- where a rank's name stands before a name, those of the lower ranks do
  pub all_before : (m : ℕ) (name : Name) → m < named → order (name_at file w m) name ≡ Before
      → (q : ℕ) → q < m + 1 → order (name_at file w q) name ≡ Before
  all_before m name h p q l =
      ⊎_elim (λ e. rw e p) (λ k. order_trans (name_at file w q) (name_at file w m) name (table.ascending q m k h) p) (last_or m (omega arith))

  -- where a rank's name stands after a name, those of the higher ranks do
  pub all_after : (m : ℕ) (name : Name) → order (name_at file w m) name ≡ After → (q : ℕ) → m ≤ q → q < named → order (name_at file w q) name ≡ After
  all_after m name p q l k =
      ⊎_elim
      (λ e. rw (← e) p)
      (λ h.
      let first = (order_flip name (name_at file w m)).1 p in
      (order_flip name (name_at file w q)).0 (order_trans name (name_at file w m) (name_at file w q) first (table.ascending m q h k)))
      (eq-or-lt_of_le l)

  module _ {name : Name} {low high below above : ℕ} (now : Searching file w named name low high below above) (m : ℕ)
      (l : low ≤ m) (h : m < high) where
    -- the name of a rank between the two shares what the names at both ends share
    pub search_shares : (k : ℕ) → k ≤ below → k ≤ above → k ≤ shared (name_at file w m) name
    search_shares k p q =
        ⊎_elim
        (λ (z : 0 ≡ low). omega (arith, now.first (sym z)))
        (λ (f : 0 < low).
        ⊎_elim
        (λ (z : named ≤ high). omega (arith, now.last z))
        (λ (g : high < named).
        shared_between k (name_at file w (low - 1)) (name_at file w m) (name_at file w high) name
        (table.ascending (low - 1) m (omega arith) (omega arith))
        (table.ascending m high h g)
        (omega (arith, now.low_shares (low - 1) (omega arith)))
        (omega (arith, now.high_shares g)))
        (below_or named high))
        (eq-or-lt_of_le zero-le)

    -- the rank's name stands before the name: the search goes on above it
    pub search_above : (k : ℕ) → order (name_at file w m) name ≡ Before → k ≡ shared (name_at file w m) name
        → Searching file w named name (m + 1) high k above
    search_above k p e = record {
      within = omega arith;
      inside = now.inside;
      before = all_before m name (omega (arith, now.inside)) p;
      after = now.after;
      first = λ z. absurd (omega arith);
      low_shares = λ q z.
          let d : m ≡ q = omega arith in
          rw (← d) (omega arith);
      last = now.last;
      high_shares = now.high_shares;
    }

    -- it stands after the name: the search goes on below it
    pub search_below : (k : ℕ) → order (name_at file w m) name ≡ After → k ≡ shared (name_at file w m) name
        → Searching file w named name low m below k
    search_below k p e = record {
      within = l;
      inside = omega (arith, now.inside);
      before = now.before;
      after = all_after m name p;
      first = now.first;
      low_shares = now.low_shares;
      last = λ z. absurd (omega (arith, now.inside));
      high_shares = λ z. omega arith;
    }

  -- a name that stands at a rank is found there
  pub look_up_at : (r : ℕ) (name : Name) → r < named → name_at file w r ≡ name → look_up (table_names file w named) name ≡ Ok (ranked w r)
  unfolding look_up found_or
  look_up_at r name h e = rw (← e, names_listed file w named, listed_place (name_of file w) named (ranked w r) apart (table.numbers r h))

  -- a name that no rank has is not among the names
  not_among : (low : ℕ) (name : Name)
      → ((q : ℕ) → q < low → order (name_at file w q) name ≡ Before)
      → ((q : ℕ) → low ≤ q → q < named → order (name_at file w q) name ≡ After)
      → T (mem name (table_names file w named)) → ⊥
  not_among low name b a t =
      let (n, h, e) = names_elim file w named name t in
      let (r, l, d) = table.each n h in
      let same : name_at file w r ≡ name = ap (name_of file w) d ∙ sym e in
      ⊎_elim
      (λ k. order_irrefl ((order_flip name (name_at file w r)).1 (a r k l)) (sym same))
      (λ k. order_irrefl (b r k) same)
      (below_or low r)

  -- a name before which each rank below one stands, and after which each other, is missing there
  pub look_up_missing : (low : ℕ) (name : Name) → low ≤ named → ((q : ℕ) → q < low → order (name_at file w q) name ≡ Before)
      → ((q : ℕ) → low ≤ q → q < named → order (name_at file w q) name ≡ After) → look_up (table_names file w named) name ≡ Err low
  unfolding look_up found_or rank_among is_before index_names
  look_up_missing low name h b a =
      let test : Name → Bool = λ m. is_before (order m name) in
      let n : count test (table_names file w named) ≡ low =
      ap (count test) (names_listed file w named)
      ∙ listed_recount test (name_of file w) (name_at file w) named apart index_ascending (λ m. rw (names_listed file w named) at (index_members m))
      ∙ listed_count test (name_at file w) low named h (λ q l. rw (b q l)) (λ q l k. rw (a q l k)) in
      rw (place_none 0 (table_names file w named) name (not_among low name b a), n)

  -- a name that is found has that number
  pub found_at : (name : Name) (n : ℕ) → look_up (table_names file w named) name ≡ Ok n → (n < named) × (name_of file w n ≡ name)
  found_at name n h = go (sought (name_at file w) named name table.ascending)
    where
      go : Sought (name_at file w) named name → (n < named) × (name_of file w n ≡ name)
      go (here r l e) =
          let a = look_up_at r name l e in
          let d : ranked w r ≡ n = cc in
          (rw d at (table.numbers r l), rw d at e)
      go (between low l b a) =
          let d = look_up_missing low name l b a in
          let z : ◌≡◌ {A = ℕ} 0 1 = cc in
          absurd (omega arith)

  -- a name that is missing belongs at that rank
  pub found_missing : (name : Name) (rank : ℕ) → look_up (table_names file w named) name ≡ Err rank → Lacks file w named name rank
  found_missing name rank h = go (sought (name_at file w) named name table.ascending)
    where
      go : Sought (name_at file w) named name → Lacks file w named name rank
      go (here r l e) =
          let a = look_up_at r name l e in
          let z : ◌≡◌ {A = ℕ} 0 1 = cc in
          absurd (omega arith)
      go (between low l b a) =
          let m = look_up_missing low name l b a in
          let d : low ≡ rank = cc in
          let lacks : Lacks file w named name low = record { within = l; below = b; above = a; absent = not_among low name b a } in
          rw d at lacks

  -- the rank that is answered is at most the count
  pub missing_within : (name : Name) (rank : ℕ) (x : Result ℕ ℕ) → x ≡ look_up (table_names file w named) name → x ≡ Err rank → rank ≤ named
  missing_within name rank x p q = (found_missing name rank (sym p ∙ q)).within

-- a slice with room, and no names
pub empty_table : (file w : List ℕ) → 16384 ≤ length w → length file ≤ 65535 → Table file w 0
empty_table file w room short = record {
  room = room;
  short = short;
  few = zero-le;
  inside = λ n h. absurd (omega arith);
  numbers = λ r h. absurd (omega arith);
  each = λ n h. absurd (omega arith);
  ascending = λ r q h l. absurd (omega arith);
  codes = λ n h. absurd (omega arith);
}
