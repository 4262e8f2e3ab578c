-- Numbers in decimal: what is shown is read as the number, and no other field is.
use Prim.Native.Nat.{ℕ, zero, suc, ◌+◌, ◌-◌, ◌*◌, ◌/◌, ◌%◌, ◌^◌, ◌≤◌, ◌<◌}
use native.Mathlib.Nat.{mod-lt, div-add-mod', div-lt_iff_lt-mul, le-div_iff_mul-le, pow-suc, div-eq_of_lt-le}
use native.Mathlib.Omega.{arith}
use mathlib.Core.Path.{◌≡◌, refl, sym, ◌∙◌, ap, ap₂}
use mathlib.Core.Logic.{◌≢◌, ⊎_elim}
use mathlib.Core.Bool.{Bool, true, false, cond}
use Rattle.std.specs.Prelude.{Option, None as none, Some as some}
use Rattle.std.proofs.lemmas.Option.{none-some as none-ne-some, same_Some as some-injective}
use mathlib.Core.List.{List, [], ◌∷◌, ◌++◌, cons-ne-nil, head-eq_of_cons-eq, tail-eq_of_cons-eq}
use lib.Dec.{T, leb, leb→le, nleb→lt, le→leb, ltb, eqb}
use lib.ListN.{length, length-append}
use borrow.Author.Tests.{ltb-true, ltb-false, lt-ltb, le-ltb, eqb-true, eqb-false, ne_eqb, le-leb}
use Rattle.model.specs.Lists.{all, fold_left, when, ◌>>=◌}
use Rattle.model.specs.Lines.{Field, is_digit, decimal, number}
use Rattle.model.specs.Text.{digits, show}
use Rattle.model.proofs.ListLaws.{T_and, T_dec, T_true, all_append, all_intro, all_elim}
use Rattle.demands.specs.Bytes.{digits_value, Decimal}

-- a byte in the range of the digits is one
is_a_digit : (b : ℕ) → 0x30 ≤ b → b ≤ 0x39 → T (is_digit b)
unfolding is_digit
is_a_digit b low high = (T_and (leb 0x30 b) (leb b 0x39)).1 (le→leb 0x30 b low, le→leb b 0x39 high)

-- the byte of a digit is one
digit_of : (d : ℕ) → d < 10 → is_digit (d + 0x30) ≡ true
digit_of d h = T_true (is_digit (d + 0x30)) (is_a_digit (d + 0x30) (omega arith) (omega arith))

-- its value is the digit
value_of : (d : ℕ) → d + 0x30 - 0x30 ≡ d
value_of d = omega arith

-- a byte that is a digit
digit_range : (b : ℕ) → T (is_digit b) → (0x30 ≤ b) × (b ≤ 0x39)
unfolding is_digit
digit_range b t = let (x, y) = (T_and (leb 0x30 b) (leb b 0x39)).0 t in (leb→le 0x30 b x, leb→le b 0x39 y)

-- one digit more
abbrev then_digit : ℕ → ℕ → Option ℕ
then_digit b v = cond (is_digit b) (some (v * 10 + (b - 0x30))) none

-- the value of digits with one more at the end
decimal_snoc : (m : ℕ) (xs : List ℕ) (b : ℕ) → decimal m (xs ++ (b ∷ [])) ≡ (decimal m xs >>= then_digit b)
unfolding decimal
decimal_snoc m [] b = refl
decimal_snoc m (x ∷ xs) b = go (is_digit x) (decimal_snoc (m * 10 + (x - 0x30)) xs b)
  where
    go : (t : Bool) → decimal (m * 10 + (x - 0x30)) (xs ++ (b ∷ [])) ≡ (decimal (m * 10 + (x - 0x30)) xs >>= then_digit b)
        → cond t (decimal (m * 10 + (x - 0x30)) (xs ++ (b ∷ []))) none ≡ (cond t (decimal (m * 10 + (x - 0x30)) xs) none >>= then_digit b)
    go true h = h
    go false h = refl

-- the parts of a number are below a power
tenth_below : (fuel n : ℕ) → n < 10 ^ suc fuel → n / 10 < 10 ^ fuel
tenth_below fuel n h = (div-lt_iff_lt-mul {k = 10} {x = n} {y = 10 ^ fuel} (omega arith)).1 (rw (pow-suc 10 fuel) at h)

-- the digits of a number are read as the number
read_digits : (fuel n : ℕ) → n < 10 ^ fuel → decimal 0 (digits fuel n) ≡ some n
unfolding digits decimal
read_digits zero n h = ap some (omega arith)
read_digits (suc fuel) n h = go (ltb n 10) refl (read_digits fuel (n / 10) (tenth_below fuel n h))
  where
    go : (t : Bool) → ltb n 10 ≡ t → decimal 0 (digits fuel (n / 10)) ≡ some (n / 10)
        → decimal 0 (cond t ((n + 0x30) ∷ []) (digits fuel (n / 10) ++ ((n % 10 + 0x30) ∷ []))) ≡ some n
    go true e i = rw (digit_of n (ltb-true n 10 e)) (ap some (omega arith))
    go false e i =
        decimal_snoc 0 (digits fuel (n / 10)) (n % 10 + 0x30)
        ∙ rw (i, digit_of (n % 10) (mod-lt n (omega arith))) (ap some (ap (n / 10 * 10 +◌) (value_of (n % 10)) ∙ div-add-mod' n 10))

-- a field that begins with another byte than `0`
data Starts : Field → Type 0 where
  starts : {b : ℕ} {bs : List ℕ} → eqb b 0x30 ≡ false → Starts (b ∷ bs)

-- it still does with bytes behind it
starts_append : {f : Field} (l : List ℕ) → Starts f → Starts (f ++ l)
starts_append l (starts e) = starts e

-- the digits of a number other than 0
digits_start : (fuel n : ℕ) → n < 10 ^ fuel → 0 < n → Starts (digits fuel n)
unfolding digits
digits_start zero n h p = absurd (omega arith)
digits_start (suc fuel) n h p = go (ltb n 10) refl (digits_start fuel (n / 10) (tenth_below fuel n h))
  where
    go : (t : Bool) → ltb n 10 ≡ t → (0 < n / 10 → Starts (digits fuel (n / 10)))
        → Starts (cond t ((n + 0x30) ∷ []) (digits fuel (n / 10) ++ ((n % 10 + 0x30) ∷ [])))
    go true e i = starts (ne_eqb (n + 0x30) 0x30 (λ q. omega arith))
    go false e i = starts_append _ (i ((le-div_iff_mul-le {k = 10} {x = 1} {y = n} (omega arith)).1 (omega (arith, ltb-false n 10 e))))

-- a number that starts so is read by its digits
number_starts : {f : Field} → Starts f → number f ≡ (decimal 0 f >>= λ n. when (leb n 65535) n)
unfolding number
number_starts (starts e) = rw e

-- `0`
zero_shown : number (digits 20 0) ≡ some 0
unfolding number digits when
zero_shown = refl

-- a number that is shown is read
pub number_show : (n : ℕ) → n ≤ 65535 → number (show n) ≡ some n
unfolding show when
number_show zero h = zero_shown
number_show (suc n) h =
    number_starts (digits_start 20 (suc n) (omega arith) (omega arith))
    ∙ rw (read_digits 20 (suc n) (omega arith), le-leb (suc n) 65535 h)

-- a list, and its last element
data Ended : List ℕ → Type 0 where
  nothing : Ended []
  last : {xs : List ℕ} (b : ℕ) → Ended xs → Ended (xs ++ (b ∷ []))

-- every list is so
ended : (l : List ℕ) → Ended l
ended [] = nothing
ended (x ∷ l) = go (ended l)
  where
    go : {l : List ℕ} → Ended l → Ended (x ∷ l)
    go nothing = last x nothing
    go (last b e) = last b (go e)

-- a value that is there, of a step after another
pub bind_some : {A B : Type 0} (o : Option A) {f : A → Option B} {b : B} → (o >>= f) ≡ some b → (a : A) × (o ≡ some a) × (f a ≡ some b)
bind_some none e = absurd (none-ne-some _ e)
bind_some (some a) e = (a, refl, e)

-- a digit more that was read
then_some : (b v n : ℕ) → then_digit b v ≡ some n → T (is_digit b) × (v * 10 + (b - 0x30) ≡ n)
then_some b v n e = go (is_digit b) e
  where
    go : (t : Bool) → cond t (some (v * 10 + (b - 0x30))) none ≡ some n → T t × (v * 10 + (b - 0x30) ≡ n)
    go true e = (tt, some-injective _ _ e)
    go false e = absurd (none-ne-some _ e)

-- digits that follow a value make no less
decimal_grows : (m : ℕ) (xs : List ℕ) (n : ℕ) → decimal m xs ≡ some n → m ≤ n
unfolding decimal
decimal_grows m [] n e = let z = some-injective _ _ e in omega arith
decimal_grows m (x ∷ xs) n e = go (is_digit x) e (decimal_grows (m * 10 + (x - 0x30)) xs n)
  where
    go : (t : Bool) → cond t (decimal (m * 10 + (x - 0x30)) xs) none ≡ some n
        → (decimal (m * 10 + (x - 0x30)) xs ≡ some n → m * 10 + (x - 0x30) ≤ n) → m ≤ n
    go true e below = let z = below e in omega arith
    go false e below = absurd (none-ne-some _ e)

-- a digit other than `0`
above : (b : ℕ) → 0x30 ≤ b → (b ≡ 0x30 → ⊥) → 0x31 ≤ b
above b low other = ⊎_elim (λ t. leb→le 0x31 b t) (λ t. absurd (other (let z = nleb→lt 0x31 b t in omega arith))) (T_dec (leb 0x31 b))

-- a number that starts with another digit than `0` is not 0
starts_positive : {f : Field} → Starts f → (n : ℕ) → decimal 0 f ≡ some n → 0 < n
unfolding decimal
starts_positive (starts {b} {bs} s) n e = go (is_digit b) refl e
  where
    go : (t : Bool) → is_digit b ≡ t → cond t (decimal (0 * 10 + (b - 0x30)) bs) none ≡ some n → 0 < n
    go true d e =
        let (low, high) = digit_range b (rw d tt) in
        let z = decimal_grows (0 * 10 + (b - 0x30)) bs n e in
        let other : b ≡ 0x30 → ⊥ = eqb-false b 0x30 s in
        let some_low : 0x31 ≤ b = above b low other in
        omega arith
    go false d e = absurd (none-ne-some _ e)

-- the start of what is longer than one digit
starts_front : (x : ℕ) (xs : List ℕ) (b : ℕ) → Starts ((x ∷ xs) ++ (b ∷ [])) → Starts (x ∷ xs)
starts_front x xs b (starts e) = starts e

-- only its digits are read as a number
only_digits : {f : Field} → Ended f → (fuel n : ℕ) → n < 10 ^ fuel → decimal 0 f ≡ some n → Starts f → f ≡ digits fuel n
unfolding digits decimal
only_digits v zero n h e s = absurd (let z = starts_positive s n e in omega arith)
only_digits nothing (suc fuel) n h e s = elim s [ ]
only_digits (last {xs} b v) (suc fuel) n h e s =
    let (m, read_front, read_last) = bind_some (decimal 0 xs) (sym (decimal_snoc 0 xs b) ∙ e) in
    let (is, sums) = then_some b m n read_last in
    let (low, high) = digit_range b is in
    go xs s m read_front sums low high (λ k t. only_digits v fuel m k read_front t)
  where
    go : (xs : List ℕ) → Starts (xs ++ (b ∷ [])) → (m : ℕ) → decimal 0 xs ≡ some m → m * 10 + (b - 0x30) ≡ n → 0x30 ≤ b → b ≤ 0x39
        → (m < 10 ^ fuel → Starts xs → xs ≡ digits fuel m)
        → xs ++ (b ∷ []) ≡ cond (ltb n 10) ((n + 0x30) ∷ []) (digits fuel (n / 10) ++ ((n % 10 + 0x30) ∷ []))
    go [] s m r q low high below =
        let z : 0 ≡ m = some-injective _ _ r in
        rw (lt-ltb n 10 (omega arith)) (ap (◌∷ []) (omega arith))
    go (x ∷ xs) s m r q low high below =
        let front = starts_front x xs b s in
        let positive = starts_positive front m r in
        let tenth : n / 10 ≡ m = div-eq_of_lt-le {k = m} 10 {m = n} (omega arith) (omega arith) in
        let digit : b ≡ n % 10 + 0x30 = omega (arith, div-add-mod' n 10, tenth) in
        rw (le-ltb n 10 (omega arith)) (ap₂ (λ l c. l ++ (c ∷ [])) (below (rw tenth at (tenth_below fuel n h)) front ∙ ap (digits fuel) (sym tenth)) digit)

-- a value that is there under a test
pub when_some : {A : Type 0} (t : Bool) {a b : A} → when t a ≡ some b → T t × (a ≡ b)
unfolding when
when_some true e = (tt, some-injective _ _ e)
when_some false e = absurd (none-ne-some _ e)

-- `0` has no more digits
zero_read : (bs : List ℕ) (n : ℕ) → when (leb (length bs) 0) 0 ≡ some n → (bs ≡ []) × (n ≡ 0)
zero_read [] n e = (refl, sym (when_some (leb 0 0) e).1)
zero_read (b ∷ bs) n e = absurd (let z = leb→le (suc (length bs)) 0 (when_some (leb (suc (length bs)) 0) e).0 in omega arith)

-- a field that is a number shows it
pub show_number : (f : Field) (n : ℕ) → number f ≡ some n → f ≡ show n
unfolding number show digits
show_number [] n e = absurd (none-ne-some _ e)
show_number (b ∷ bs) n e = go (eqb b 0x30) refl e
  where
    go : (t : Bool) → eqb b 0x30 ≡ t → cond t (when (leb (length bs) 0) 0) (decimal 0 (b ∷ bs) >>= λ n. when (leb n 65535) n) ≡ some n
        → b ∷ bs ≡ digits 20 n
    go true z e = let (empty, is) = zero_read bs n e in ap₂ ◌∷◌ (eqb-true b 0x30 z) empty ∙ ap (digits 20) (sym is)
    go false z e =
        let (m, r, w) = bind_some (decimal 0 (b ∷ bs)) e in
        let (small, is) = when_some (leb m 65535) w in
        only_digits (ended (b ∷ bs)) 20 m (omega (arith, leb→le m 65535 small)) r (starts z) ∙ ap (digits 20) is

-- what is shown is digits
all_digits : (fuel n : ℕ) → T (all is_digit (digits fuel n))
unfolding digits all
all_digits zero n = tt
all_digits (suc fuel) n = go (ltb n 10) refl (all_digits fuel (n / 10))
  where
    go : (t : Bool) → ltb n 10 ≡ t → T (all is_digit (digits fuel (n / 10)))
        → T (all is_digit (cond t ((n + 0x30) ∷ []) (digits fuel (n / 10) ++ ((n % 10 + 0x30) ∷ []))))
    go true e i = rw (digit_of n (ltb-true n 10 e)) tt
    go false e i =
        rw (all_append is_digit (digits fuel (n / 10)) ((n % 10 + 0x30) ∷ []), digit_of (n % 10) (mod-lt n (omega arith)))
        ((T_and (all is_digit (digits fuel (n / 10))) true).1 (i, tt))

-- ---- the text of a number, apart from how it is made

-- digits are read as their value
decimal_value : (m : ℕ) (text : List ℕ) → T (all is_digit text) → decimal m text ≡ some (fold_left (λ n b. n * 10 + (b - 0x30)) m text)
unfolding decimal all fold_left
decimal_value m [] t = refl
decimal_value m (b ∷ bs) t =
    let (x, y) = (T_and (is_digit b) (all is_digit bs)).0 t in
    rw (T_true (is_digit b) x) (decimal_value (m * 10 + (b - 0x30)) bs y)

-- a text that is shown has a digit
shown_some : (fuel n : ℕ) → digits (suc fuel) n ≢ []
unfolding digits
shown_some fuel n = go (ltb n 10)
  where
    go : (t : Bool) → cond t ((n + 0x30) ∷ []) (digits fuel (n / 10) ++ ((n % 10 + 0x30) ∷ [])) ≢ []
    go true e = cons-ne-nil _ _ e
    go false e = let z = ap length e in omega (arith, length-append (digits fuel (n / 10)) ((n % 10 + 0x30) ∷ []))

-- a text that starts with another byte than `0` has no leading zero
starts_other : {f : Field} → Starts f → (more : List ℕ) → f ≡ 0x30 ∷ more → ⊥
starts_other (starts {b} s) more e = eqb-false b 0x30 s (head-eq_of_cons-eq e)

-- only `0` starts with a zero
only_zero : (n : ℕ) → n < 10 ^ 20 → (more : List ℕ) → digits 20 n ≡ 0x30 ∷ more → more ≡ []
unfolding digits
only_zero zero h more e = sym (tail-eq_of_cons-eq e)
only_zero (suc n) h more e = absurd (starts_other (digits_start 20 (suc n) h (omega arith)) more e)

-- a number that is shown is its text
pub show_decimal : (n : ℕ) → n < 10 ^ 20 → Decimal n (show n)
unfolding show digits_value
show_decimal n h =
    record {
      some_digit = shown_some 19 n;
      all_digits = λ b i. digit_range b (all_elim is_digit (all_digits 20 n) i);
      no_leading_zero = only_zero n h;
      value = some-injective _ _ (sym (decimal_value 0 (digits 20 n) (all_digits 20 n)) ∙ read_digits 20 n h);
    }

-- its text is what is shown
pub decimal_show : (n : ℕ) (text : List ℕ) → n < 10 ^ 20 → Decimal n text → text ≡ show n
unfolding show digits digits_value fold_left
decimal_show n [] h d = absurd (d.some_digit refl)
decimal_show n (b ∷ bs) h d = go (eqb b 0x30) refl
  where
    go : (t : Bool) → eqb b 0x30 ≡ t → b ∷ bs ≡ digits 20 n
    go true e =
        let is : b ≡ 0x30 = eqb-true b 0x30 e in
        let none : bs ≡ [] = d.no_leading_zero bs (ap (◌∷ bs) is) in
        let zero_is : 0 ≡ n = sym (ap₂ (λ c cs. digits_value (c ∷ cs)) is none) ∙ d.value in
        ap₂ ◌∷◌ is none ∙ ap (digits 20) zero_is
    go false e =
        only_digits (ended (b ∷ bs)) 20 n h (decimal_value 0 (b ∷ bs) digit_bytes ∙ ap some d.value) (starts e)
      where
        digit_bytes : T (all is_digit (b ∷ bs))
        digit_bytes = all_intro is_digit (b ∷ bs) (λ c i. is_a_digit c (d.all_digits c i).0 (d.all_digits c i).1)

-- a field that is a number is at most 65,535
pub number_small : (f : Field) (n : ℕ) → number f ≡ some n → n ≤ 65535
unfolding number
number_small [] n e = absurd (none-ne-some _ e)
number_small (b ∷ bs) n e = go (eqb b 0x30) e
  where
    go : (t : Bool) → cond t (when (leb (length bs) 0) 0) (decimal 0 (b ∷ bs) >>= λ n. when (leb n 65535) n) ≡ some n → n ≤ 65535
    go true e = let z = (zero_read bs n e).1 in omega arith
    go false e =
        let (m, r, w) = bind_some (decimal 0 (b ∷ bs)) e in
        let (small, is) = when_some (leb m 65535) w in
        omega (arith, leb→le m 65535 small)
