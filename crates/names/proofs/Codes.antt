-- Laws of codes, of a name among names that stand each behind its length.
use Prim.Native.Nat.{ℕ, ◌+◌, ◌-◌, ◌≤◌, ◌<◌}
use native.Mathlib.Numerals.{add-one}
use native.Mathlib.Omega.{arith}
use mathlib.Core.Path.{◌≡◌, refl, sym, ap, ◌∙◌}
use mathlib.Core.Bool.{Bool, true, false, cond, ◌&&◌, and-false, true≢false}
use mathlib.Core.List.{List, [], ◌∷◌, ◌++◌, map}
use lib.ListN.{length, drop, get_or, length-append, length-drop, drop_of_length-le}
use lib.Seq.{drop-cons, drop-drop, take_at, drop_at}
use lib.Dec.{T, leb}
use borrow.Author.Tests.{lt-leb}
use Rattle.model.specs.Lists.{all, part}
use Rattle.model.specs.Names.{Name, bytes, same}
use Rattle.model.specs.Summaries.{common_names}
use Rattle.model.proofs.ListLaws.{T_and, T_true}
use Rattle.model.proofs.PartLaws.{part_length}
use Rattle.text.proofs.Laws.{same_lengths}
use Rattle.names.specs.Known.{known_names, behind_lengths, known_text, code_from, head_code}

-- ---- names that stand each behind its length

-- the names of a text from a position on, and a code that is the one of a name among them
pub record Left (known : List ℕ) (i code : ℕ) (name : Name) (answer : ℕ) : Type 0 where
  pub names : List Name
  pub stand : drop i known ≡ behind_lengths names
  pub codes : answer ≡ code_from code names name
  pub few : code + length names ≤ 26

-- the next of them ends at `stop`: the name is that one, or the others decide
pub record Next (known : List ℕ) (i stop code : ℕ) (name : Name) (answer : ℕ) : Type 0 where
  pub within : stop ≤ length known
  pub here : same name (part known (i + 1) stop) ≡ true → answer ≡ code
  pub on : same name (part known (i + 1) stop) ≡ false → Left known stop (code + 1) name answer

-- there are 25 known names
pub known_length : length (map bytes known_names) ≡ 25
unfolding known_names common_names
known_length = refl

-- the head code is the code among the known names from the start on
pub left_start : (known : List ℕ) (name : Name) → known ≡ known_text → Left known 0 1 name (head_code name)
unfolding known_text head_code
left_start known name e = record { names = map bytes known_names; stand = e; codes = refl; few = omega (arith, known_length) }

-- a text that is not over has a next name
pub left_next : {known : List ℕ} {i code : ℕ} {name : Name} {answer : ℕ} → Left known i code name answer → i < length known
    → (stop : ℕ) → stop ≡ i + 1 + get_or known i 0 → Next known i stop code name answer
unfolding behind_lengths code_from
left_next {known} {i} {code} {name} {answer} left h stop e = go left.names left.stand left.codes left.few
  where
    go : (ns : List Name) → drop i known ≡ behind_lengths ns → answer ≡ code_from code ns name → code + length ns ≤ 26
        → Next known i stop code name answer
    go [] p q few = absurd (omega (arith, length-drop i known, ap length p))
    go (n ∷ ns) p q few =
        let split : drop i known ≡ get_or known i 0 ∷ drop (i + 1) known = rw (add-one i) (drop-cons known i 0 h) in
        let size : get_or known i 0 ≡ length n = cc in
        let rest : drop (i + 1) known ≡ n ++ behind_lengths ns = cc in
        let long : stop - (i + 1) ≡ length n = omega arith in
        let end : stop ≡ i + 1 + length n = omega arith in
        let next : part known (i + 1) stop ≡ n = rw (long, rest) (take_at n (behind_lengths ns) (length n) refl) in
        let after : drop stop known ≡ behind_lengths ns =
        rw (end, ← drop-drop (length n) (i + 1) known, rest) (drop_at n (behind_lengths ns) (length n) refl) in
        record {
          within = omega (arith, length-drop (i + 1) known, ap length rest, length-append n (behind_lengths ns));
          here = λ t. q ∙ ap (λ (b : Bool). cond b code (code_from (code + 1) ns name)) (rw next at t);
          on = λ t. record {
            names = ns;
            stand = after;
            codes = q ∙ ap (λ (b : Bool). cond b code (code_from (code + 1) ns name)) (rw next at t);
            few = omega arith;
          };
        }

-- a text that is over has none
pub left_end : {known : List ℕ} {i code : ℕ} {name : Name} {answer : ℕ} → Left known i code name answer → length known ≤ i
    → answer ≡ 0
unfolding behind_lengths code_from
left_end {known} {i} {code} {name} {answer} left h =
    go left.names (sym (drop_of_length-le known h) ∙ left.stand) left.codes
  where
    go : (ns : List Name) → [] ≡ behind_lengths ns → answer ≡ code_from code ns name → answer ≡ 0
    go [] p q = q
    go (n ∷ ns) p q = let z : ◌≡◌ {A = ℕ} 0 1 = cc in absurd (omega arith)

-- ---- lengths of names

-- a name of a length that none of the names has, has no code
code_none : (test : ℕ → Bool) (n : ℕ) (ks : List Name) (name : Name) → T (all (λ (k : Name). test (length k)) ks)
    → test (length name) ≡ false → code_from n ks name ≡ 0
unfolding all code_from
code_none test n [] name t h = refl
code_none test n (k ∷ ks) name t h =
    let (first, more) = (T_and (test (length k)) (all (λ (m : Name). test (length m)) ks)).0 t in
    let other = same_lengths name k (λ e. true≢false (sym (T_true (test (length k)) first) ∙ ap test (sym e) ∙ h)) in
    rw other (code_none test (n + 1) ks name more h)

-- whether a known name may have that length
is_fit : ℕ → Bool
is_fit n = leb 5 n && leb n 16

-- every known name has
all_fit : T (all (λ (k : Name). is_fit (length k)) (map bytes known_names))
unfolding all is_fit known_names common_names bytes
all_fit = tt

-- a part that is too short is no known name
pub head_short : (s : List ℕ) (a e : ℕ) → e ≤ length s → e - a < 5 → head_code (part s a e) ≡ 0
unfolding head_code is_fit
head_short s a e k h =
    code_none is_fit 1 (map bytes known_names) (part s a e) all_fit (rw (part_length s a e k, lt-leb 5 (e - a) h))

-- nor is one that is too long
pub head_long : (s : List ℕ) (a e : ℕ) → e ≤ length s → 16 < e - a → head_code (part s a e) ≡ 0
unfolding head_code is_fit
head_long s a e k h =
    code_none is_fit 1 (map bytes known_names) (part s a e) all_fit
    (rw (part_length s a e k, lt-leb (e - a) 16 h) (and-false (leb 5 (e - a))))
