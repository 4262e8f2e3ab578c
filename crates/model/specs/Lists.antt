-- List functions that the definitions share.
use Rattle.std.specs.Prelude.{ℕ, suc, ◌+◌, ◌-◌, Bool, true, false, cond, ◌&&◌, ◌||◌, List, [], ◌∷◌, ◌++◌, take, drop, Option, None as none, Some as some}

module _ {A : Type 0} where
  -- whether the test holds of some element
  unfoldable pub any : (A → Bool) → List A → Bool
  any test [] = false
  any test (x ∷ xs) = let r = any test xs in test x || r

  -- whether the test holds of every element
  unfoldable pub all : (A → Bool) → List A → Bool
  all test [] = true
  all test (x ∷ xs) = let r = all test xs in test x && r

  -- the elements of which the test holds, in order
  unfoldable pub keep : (A → Bool) → List A → List A
  keep test [] = []
  keep test (x ∷ xs) = let r = keep test xs in cond (test x) (x ∷ r) r

  -- how many elements the test holds of
  unfoldable pub count : (A → Bool) → List A → ℕ
  count test [] = 0
  count test (x ∷ xs) = let r = count test xs in cond (test x) (1 + r) r

  -- the place of the first element of which the test holds, from 0; the length where it holds of none
  unfoldable pub find_index : (A → Bool) → List A → ℕ
  find_index test [] = 0
  find_index test (x ∷ xs) = let later = find_index test xs in cond (test x) 0 (suc later)

  -- the lists one after the other
  unfoldable pub concat : List (List A) → List A
  concat [] = []
  concat (l ∷ ls) = l ++ concat ls

  -- the last element, as a list of one
  unfoldable pub last : List A → List A
  last [] = []
  last (x ∷ []) = x ∷ []
  last (x ∷ y ∷ xs) = last (y ∷ xs)

  -- whether the list has no element
  unfoldable pub is_nil : List A → Bool
  is_nil [] = true
  is_nil (x ∷ xs) = false

-- the numbers of a list from one place up to another
abbrev pub part : List ℕ → ℕ → ℕ → List ℕ
part l a e = take (e - a) (drop a l)

-- the sum of the numbers
unfoldable pub sum : List ℕ → ℕ
sum [] = 0
sum (n ∷ ns) = n + sum ns

module _ {A B : Type 0} where
  -- the lists that the function gives, one after the other
  unfoldable pub collect : (A → List B) → List A → List B
  collect f [] = []
  collect f (x ∷ xs) = f x ++ collect f xs

  -- from the first element on, the accumulator first
  unfoldable pub fold_left : (A → B → A) → A → List B → A
  fold_left f a [] = a
  fold_left f a (x ∷ xs) = fold_left f (f a x) xs

  infixl 20 ◌>>=◌
  -- what a partial function gives of a value that may be missing
  abbrev pub ◌>>=◌ : Option A → (A → Option B) → Option B
  none >>= f = none
  some a >>= f = f a

-- the value as a list of one, or no value
unfoldable pub to_list : {A : Type 0} → Option A → List A
to_list none = []
to_list (some a) = a ∷ []

-- the first of two values that is there
unfoldable pub or_else : {A : Type 0} → Option A → Option A → Option A
or_else none b = b
or_else (some a) b = some a

-- whether there is a value and the test holds of it
unfoldable pub holds : {A : Type 0} → (A → Bool) → Option A → Bool
holds test none = false
holds test (some a) = test a

-- a value where the test holds
unfoldable pub when : {A : Type 0} → Bool → A → Option A
when true a = some a
when false a = none
