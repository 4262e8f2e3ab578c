-- Laws of texts: bytes put one after the other, and numbers in decimal.
use Prim.Native.Nat.{ℕ, ◌+◌, ◌%◌, ◌≤◌, ◌<◌}
use native.Mathlib.Nat.{add_comm}
use native.Mathlib.Omega.{arith}
use mathlib.Core.Path.{◌≡◌, refl, sym, ap, ◌∙◌}
use mathlib.Core.Bool.{Bool, true, false}
use mathlib.Core.List.{List, [], ◌∷◌, ◌++◌, append_assoc}
use lib.ListN.{length, take, length-append, length-take}
use borrow.Author.Tests.{lt-ltb, le-ltb}
use Rattle.std.specs.Fmt.{decimal}
use Rattle.std.proofs.lemmas.Fmt.{AppendsLastDigit, decimal_from_appends, length-decimal-le}
use Rattle.model.specs.Names.{bytes}
use Rattle.model.specs.Outcome.{refusal_number}
use Rattle.model.specs.Text.{digits, show, comma, name_on, line, kept_line, sum_line, refused_line}
use Rattle.model.specs.Text.{pass_line, item_on, row_numbers, row_fields, row_line, late_line, count_line}
use Rattle.model.specs.declared.Refusal.{Refusal}
use Rattle.model.specs.declared.Row.{Row}
use Rattle.printing.specs.Printed.{BytesPut, TextBegins, reason, has_line, reason_line}

-- ---- bytes

-- one text after another
pub puts_then : {at : ℕ} {a b t0 t1 t2 : List ℕ} {d e : ℕ}
    → BytesPut at a t0 t1 d → BytesPut d b t1 t2 e → BytesPut at (a ++ b) t0 t2 e
puts_then {at} {a} {b} {t0} p q =
    record {
      ends = rw (length-append a b) (omega (arith, p.ends, q.ends));
      written = q.written ∙ ap (◌++ b) p.written ∙ append_assoc (take at t0) a b;
      inside = q.inside;
    }

-- the same bytes
pub puts_same : {at : ℕ} {a b t0 t1 : List ℕ} {e : ℕ} → BytesPut at a t0 t1 e → a ≡ b → BytesPut at b t0 t1 e
puts_same {at} {t0 = t0} p q =
    record {
      ends = p.ends ∙ ap (λ l. at + length l) q;
      written = p.written ∙ ap (take at t0 ++◌) q;
      inside = p.inside;
    }

-- a text that is put from the start
pub held : {a b t0 t1 : List ℕ} {e : ℕ} → BytesPut 0 a t0 t1 e → a ≡ b → TextBegins b t1 e
held {a} {b} p q =
    let same : length a ≡ length b = ap length q in
    record { sized = omega (arith, p.ends); begins = p.written ∙ q; inside = p.inside }

-- how long the first bytes of a text are
pub counted : (n : ℕ) (text : List ℕ) → n ≤ length text → n ≡ length (take n text)
counted n text h = rw (length-take n text) (omega arith)

-- ---- numbers

-- the digits of a number end with its last one
digits_append : AppendsLastDigit digits
unfolding digits
digits_append =
    record {
      one = λ k n h. rw (lt-ltb n 10 h, add_comm n 0x30);
      more = λ k n h. rw (le-ltb n 10 h, add_comm (n % 10) 0x30);
    }

-- what is written of a number is the number in decimal
pub shown : (n : ℕ) → n < 18446744073709551616 → decimal n ≡ show n
unfolding show
shown n h = sym (decimal_from_appends digits digits_append 20 n h (length-decimal-le 20 n (omega arith) (omega arith) h))

-- ---- lines

-- the parts of the line of a kept record
pub kept_parts : (file : List ℕ) (n : ℕ) (name : List ℕ) → name ≡ name_on file n
    → (((bytes "kept," ++ show n) ++ bytes ",") ++ name) ++ bytes "\n" ≡ kept_line file n
unfolding kept_line line comma bytes
kept_parts file n name q = ap (λ l. (((bytes "kept," ++ show n) ++ bytes ",") ++ l) ++ bytes "\n") q ∙ simp append_assoc

-- the parts of the line after a list
pub sum_parts : (kept visits rounds : ℕ)
    → (((((bytes "sum," ++ show kept) ++ bytes ",") ++ show visits) ++ bytes ",") ++ show rounds) ++ bytes "\n"
    ≡ sum_line kept visits rounds
unfolding sum_line line comma bytes
sum_parts kept visits rounds = simp append_assoc

-- the parts of the line after a list of the sweep
pub pass_parts : (kept passes : ℕ)
    → (((bytes "pass," ++ show kept) ++ bytes ",") ++ show passes) ++ bytes "\n" ≡ pass_line kept passes
unfolding pass_line line comma bytes
pass_parts kept passes = simp append_assoc

-- the parts of the numbers of a row
pub numbers_parts : (r : Row)
    → ((((bytes "row," ++ show r.line) ++ bytes ",") ++ show r.number) ++ bytes ",") ++ show r.cause ≡ comma (row_numbers r)
unfolding row_numbers comma bytes
numbers_parts r = simp append_assoc

-- more fields behind some
comma_more : (f : List ℕ) (fs : List (List ℕ)) (g : List ℕ) (gs : List (List ℕ))
    → comma ((f ∷ fs) ++ (g ∷ gs)) ≡ comma (f ∷ fs) ++ 0x2c ∷ comma (g ∷ gs)
unfolding comma
comma_more f [] g gs = refl
comma_more f (h ∷ fs) g gs =
    ap (λ l. f ++ 0x2c ∷ l) (comma_more h fs g gs) ∙ sym (append_assoc f (0x2c ∷ comma (h ∷ fs)) (0x2c ∷ comma (g ∷ gs)))

-- two fields more in parts
two_more : (x y z : List ℕ) → (((x ++ bytes ",") ++ y) ++ bytes ",") ++ z ≡ x ++ 0x2c ∷ (y ++ 0x2c ∷ z)
unfolding bytes
two_more x y z = simp append_assoc

-- one field more and the end of a line in parts
one_more : (x y : List ℕ) → ((x ++ bytes ",") ++ y) ++ bytes "\n" ≡ (x ++ 0x2c ∷ y) ++ (0x0a ∷ [])
unfolding bytes
one_more x y = simp append_assoc

-- the parts of the fields of a row
pub row_parts : (file name : List ℕ) (r : Row) (of : List ℕ) → of ≡ name_on file r.line
    → (((comma (row_numbers r) ++ bytes ",") ++ of) ++ bytes ",") ++ name ≡ comma (row_fields file name r)
unfolding row_fields row_numbers comma
row_parts file name r of q =
    let numbers = show r.line ∷ show r.number ∷ show r.cause ∷ [] in
    two_more (comma (bytes "row" ∷ numbers)) of name
    ∙ ap (λ l. comma (bytes "row" ∷ numbers) ++ 0x2c ∷ (l ++ 0x2c ∷ name)) q
    ∙ sym (comma_more (bytes "row") numbers (name_on file r.line) (name ∷ []))

-- those of the line of a row of reasons
pub reason_row_parts : (file name : List ℕ) (r : Row) (item : List ℕ) → item ≡ item_on file r.cause
    → ((comma (row_fields file name r) ++ bytes ",") ++ item) ++ bytes "\n" ≡ row_line file name r
unfolding row_line row_fields row_numbers line comma
reason_row_parts file name r item q =
    let rest = show r.line ∷ show r.number ∷ show r.cause ∷ name_on file r.line ∷ name ∷ [] in
    one_more (comma (bytes "row" ∷ rest)) item
    ∙ ap (λ l. (comma (bytes "row" ∷ rest) ++ 0x2c ∷ l) ++ (0x0a ∷ [])) q
    ∙ ap (◌++ (0x0a ∷ [])) (sym (comma_more (bytes "row") rest (item_on file r.cause) []))

-- those of the line of a row of the check
pub late_row_parts : (file name : List ℕ) (r : Row) → comma (row_fields file name r) ++ bytes "\n" ≡ late_line file name r
unfolding late_line line bytes
late_row_parts file name r = refl

-- those of the line of a count
pub count_parts : (word : List ℕ) (n : ℕ) → ((word ++ bytes ",") ++ show n) ++ bytes "\n" ≡ count_line word n
unfolding count_line line comma bytes
count_parts word n = simp append_assoc

-- the parts of the line of a refusal
pub refused_parts : (r : Refusal) (place number : ℕ) → number ≡ refusal_number r
    → (((bytes "refused," ++ show number) ++ bytes ",") ++ show place) ++ bytes "\n" ≡ refused_line r place
unfolding refused_line line comma bytes
refused_parts r place number q =
    ap (λ n. (((bytes "refused," ++ show n) ++ bytes ",") ++ show place) ++ bytes "\n") q ∙ simp append_assoc

-- the parts of a refusal in words that has a line
pub reason_parts : (r : Refusal) (place : ℕ) {lined : Bool} → lined ≡ has_line r → lined ≡ true
    → (((bytes "line " ++ show place) ++ bytes ": ") ++ reason r) ++ bytes "\n" ≡ reason_line r place
unfolding reason_line bytes
reason_parts r place h k = rw (← h, k) (simp append_assoc)

-- the parts of one that has none
pub reason_alone : (r : Refusal) (place : ℕ) {lined : Bool} → lined ≡ has_line r → lined ≡ false
    → reason r ++ bytes "\n" ≡ reason_line r place
unfolding reason_line bytes
reason_alone r place h k = rw (← h, k)
