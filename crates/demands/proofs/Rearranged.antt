-- Rearranged lists: what they have, what is collected of them, how many a test holds of; and lists with the same members.
use Prim.Native.Nat.{◌+◌}
use mathlib.Core.Path.{◌≡◌, refl, ◌∙◌}
use mathlib.Core.Logic.{⊎_elim}
use mathlib.Core.Bool.{Bool, true, false, cond}
use mathlib.Core.List.Memᴰ
use mathlib.Core.List.{List, [], ◌∷◌, ◌++◌, map, reverse, append_assoc, Memᴰ}
use mathlib.Core.List.Permᴰ
use mathlib.Core.List.{Permᴰ}
use lib.Dec.{T, T_not}
use Rattle.model.specs.Lists.{keep, count, collect, is_nil}
use Rattle.model.specs.Names.{Name}
use Rattle.model.proofs.ListLaws.{T_ext, T_dec, keep_intro, keep_elim, collect_intro, collect_elim, map_intro, map_elim, reverse_intro, reverse_elim, mem_not_nil, not_nil_mem}
use Rattle.model.proofs.SetLaws.{Ascending, ascending_ext, mem_intro, mem_elim}

module _ {A : Type 0} where
  -- a member of a list is a member of the list rearranged
  pub perm_mem : {l m : List A} {x : A} → Permᴰ l m → Memᴰ x l → Memᴰ x m
  perm_mem Permᴰ.nil i = i
  perm_mem (Permᴰ.cons e p) i = ⊎_elim (λ h. Memᴰ.head (h ∙ e)) (λ j. Memᴰ.tail (perm_mem p j)) (Memᴰ.cases_cons i)
  perm_mem (Permᴰ.swap e f) i =
      ⊎_elim (λ h. Memᴰ.tail (Memᴰ.head (h ∙ e)))
      (λ j. ⊎_elim (λ h. Memᴰ.head (h ∙ f)) (λ k. Memᴰ.tail (Memᴰ.tail k)) (Memᴰ.cases_cons j))
      (Memᴰ.cases_cons i)
  perm_mem (Permᴰ.trans p q) i = perm_mem q (perm_mem p i)

  -- a test holds of as many
  pub perm_count : (test : A → Bool) {l m : List A} → Permᴰ l m → count test l ≡ count test m
  unfolding count
  perm_count test Permᴰ.nil = refl
  perm_count test (Permᴰ.cons {b} e p) = rw (e, perm_count test p)
  perm_count test (Permᴰ.swap {a} {b} {a'} {b'} {l} e f) = rw (e, f) (go (test b') (test a'))
    where
      go : (x y : Bool) → cond x (1 + cond y (1 + count test l) (count test l)) (cond y (1 + count test l) (count test l))
          ≡ cond y (1 + cond x (1 + count test l) (count test l)) (cond x (1 + count test l) (count test l))
      go true true = refl
      go true false = refl
      go false true = refl
      go false false = refl
  perm_count test (Permᴰ.trans p q) = perm_count test p ∙ perm_count test q

-- what is collected is rearranged
pub perm_collect : {A B : Type 0} (f : A → List B) {l m : List A} → Permᴰ l m → Permᴰ (collect f l) (collect f m)
unfolding collect
perm_collect f Permᴰ.nil = Permᴰ.nil
perm_collect f (Permᴰ.cons {b} e p) = rw e (Permᴰ.append_left (f b) (perm_collect f p))
perm_collect f (Permᴰ.swap {a} {b} {a'} {b'} {l} e g) =
    rw (e, g, ← append_assoc (f b') (f a') (collect f l), ← append_assoc (f a') (f b') (collect f l))
    (Permᴰ.append_right (collect f l) (Permᴰ.append_comm (f b') (f a')))
perm_collect f (Permᴰ.trans p q) = Permᴰ.trans (perm_collect f p) (perm_collect f q)

-- what is kept is what is collected of each element alone
keep_collect_one : {A : Type 0} (test : A → Bool) (l : List A) → keep test l ≡ collect (λ x. cond (test x) (x ∷ []) []) l
unfolding keep collect
keep_collect_one test [] = refl
keep_collect_one test (x ∷ l) = rw (keep_collect_one test l) (go (test x))
  where
    go : (b : Bool) → let r = collect (λ x. cond (test x) (x ∷ []) []) l in cond b (x ∷ r) r ≡ cond b (x ∷ []) [] ++ r
    go true = refl
    go false = refl

-- what is kept is rearranged
pub perm_keep : {A : Type 0} (test : A → Bool) {l m : List A} → Permᴰ l m → Permᴰ (keep test l) (keep test m)
perm_keep test {l} {m} p = rw (keep_collect_one test l, keep_collect_one test m) (perm_collect (λ x. cond (test x) (x ∷ []) []) p)

-- lists with the same members
pub record SameMembers {A : Type 0} (l m : List A) : Type 0 where
  pub to : (x : A) → Memᴰ x l → Memᴰ x m
  pub from : (x : A) → Memᴰ x m → Memᴰ x l

module _ {A : Type 0} where
  pub members_sym : {l m : List A} → SameMembers l m → SameMembers m l
  members_sym s = record { to = s.from; from = s.to }

  pub members_trans : {k l m : List A} → SameMembers k l → SameMembers l m → SameMembers k m
  members_trans s t = record { to = λ x i. t.to x (s.to x i); from = λ x i. s.from x (t.from x i) }

  -- rearranged lists have the same members
  pub members_perm : {l m : List A} → Permᴰ l m → SameMembers l m
  members_perm p = record { to = λ x. perm_mem p; from = λ x. perm_mem (Permᴰ.symm p) }

  -- so have what a test keeps of them, the lists joined, reversed or chosen by a test
  pub members_keep : (test : A → Bool) {l m : List A} → SameMembers l m → SameMembers (keep test l) (keep test m)
  members_keep test s = record { to = one_way test s.to; from = one_way test s.from }
    where
      one_way : (test : A → Bool) {l m : List A} → ((x : A) → Memᴰ x l → Memᴰ x m) → (x : A) → Memᴰ x (keep test l) → Memᴰ x (keep test m)
      one_way test {l} h x i = let (j, t) = keep_elim test l i in keep_intro test (h x j) t

  pub members_append : {l l' m m' : List A} → SameMembers l l' → SameMembers m m' → SameMembers (l ++ m) (l' ++ m')
  members_append s t = record { to = one_way s.to t.to; from = one_way s.from t.from }
    where
      one_way : {l l' m m' : List A} → ((x : A) → Memᴰ x l → Memᴰ x l') → ((x : A) → Memᴰ x m → Memᴰ x m')
          → (x : A) → Memᴰ x (l ++ m) → Memᴰ x (l' ++ m')
      one_way {l} {l'} {m} {m'} h k x i = ⊎_elim (λ j. Memᴰ.append_left m' (h x j)) (λ j. Memᴰ.append_right l' (k x j)) (Memᴰ.append_cases l i)

  pub members_reverse : {l m : List A} → SameMembers l m → SameMembers (reverse l) (reverse m)
  members_reverse {l} {m} s = record { to = λ x i. reverse_intro (s.to x (reverse_elim l i)); from = λ x i. reverse_intro (s.from x (reverse_elim m i)) }

  pub members_cond : (b : Bool) {l l' m m' : List A} → SameMembers l l' → SameMembers m m' → SameMembers (cond b l m) (cond b l' m')
  members_cond true s t = s
  members_cond false s t = t

  -- one is empty where the other is
  pub members_nil : {l m : List A} → SameMembers l m → is_nil l ≡ is_nil m
  members_nil s = T_ext (one_way s.from) (one_way s.to)
    where
      one_way : {l m : List A} → ((x : A) → Memᴰ x m → Memᴰ x l) → T (is_nil l) → T (is_nil m)
      one_way {l} {m} h t = ⊎_elim (λ u. u) (λ u. let (x, i) = not_nil_mem m u in absurd (T_not (is_nil l) (mem_not_nil (h x i)) t)) (T_dec (is_nil m))

  pub members_self : (l : List A) → SameMembers l l
  members_self l = record { to = λ x i. i; from = λ x i. i }

module _ {A B : Type 0} where
  -- so have what a function gives of them, and what is collected of them
  pub members_map : (f : A → B) {l m : List A} → SameMembers l m → SameMembers (map f l) (map f m)
  members_map f s = record { to = one_way f s.to; from = one_way f s.from }
    where
      one_way : (f : A → B) {l m : List A} → ((x : A) → Memᴰ x l → Memᴰ x m) → (y : B) → Memᴰ y (map f l) → Memᴰ y (map f m)
      one_way f {l} h y i = let (x, j, e) = map_elim f l i in rw (← e) (map_intro f (h x j))

  pub members_collect : (f g : A → List B) → ((x : A) → SameMembers (f x) (g x)) → {l m : List A} → SameMembers l m → SameMembers (collect f l) (collect g m)
  members_collect f g h s = record { to = one_way f g (λ x. (h x).to) s.to; from = one_way g f (λ x. (h x).from) s.from }
    where
      one_way : (f g : A → List B) → ((x : A) (y : B) → Memᴰ y (f x) → Memᴰ y (g x)) → {l m : List A} → ((x : A) → Memᴰ x l → Memᴰ x m)
          → (y : B) → Memᴰ y (collect f l) → Memᴰ y (collect g m)
      one_way f g k {l} h y i = let (x, j, n) = collect_elim f l i in collect_intro g (h x j) (k x y n)

-- sets with the same members are equal
pub members_set : {l m : List Name} → Ascending l → Ascending m → SameMembers l m → l ≡ m
members_set a b s = ascending_ext a b (λ k t. mem_intro (s.to k (mem_elim t))) (λ k t. mem_intro (s.from k (mem_elim t)))
