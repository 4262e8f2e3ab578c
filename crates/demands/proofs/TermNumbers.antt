-- The terms that an accepted line names are below the count of the term lines before it.
use Prim.Native.Nat.{ℕ, zero, suc, ◌<◌}
use mathlib.Core.Path.{◌≡◌, refl, subst}
use mathlib.Core.Logic.{⊎_elim}
use mathlib.Core.Bool.{Bool, true, false, cond}
use mathlib.Core.List.Memᴰ
use mathlib.Core.List.{List, [], ◌∷◌, ◌++◌, Memᴰ}
use lib.Dec.{ltb, ltb→lt}
use lib.ListN.{length}
use Rattle.model.specs.Lists.{concat}
use Rattle.model.specs.Lines.{Field}
use Rattle.model.specs.Terms.{Node, references}
use Rattle.model.specs.Reading.{Result, ok, refused, ◌>>=◌, name_field, number_field, term_field, op_words, word, need, next, many, rest, end, groups, Content, head, term, assume, fun, def, retain, root, quantifier, most_query, most_options, most_groups, group_field, content, State, parse}
use Rattle.model.specs.declared.LineKind.{LineKind}
use Rattle.model.specs.declared.LineKind.TheVariants as kind
use Rattle.model.specs.declared.Refusal.{Refusal}
use Rattle.model.specs.declared.Refusal.TheVariants as refusal
use Rattle.model.proofs.ResultLaws.{not_ok, ok_eq}
use Rattle.laws.proofs.ReadingLaws.{parse_ok}

-- these numbers are below the count
abbrev pub Below : ℕ → List ℕ → Type 0
Below count ts = (t : ℕ) → Memᴰ t ts → t < count

-- the terms that a line names
unfoldable pub terms_named : Content → List ℕ
terms_named (head h) = []
terms_named (term node) = references node
terms_named (assume name flag group t) = t ∷ []
terms_named (fun name) = []
terms_named (def name t) = t ∷ []
terms_named (retain names) = []
terms_named (root q name t) = t ∷ []

-- the numbers of an empty list are below any count
none_below : {count : ℕ} → Below count []
none_below t i = absurd (Memᴰ.not-nil i)

-- a number and others below the count are so together
more_below : {count t : ℕ} {ts : List ℕ} → t < count → Below count ts → Below count (t ∷ ts)
more_below h hs u i = ⊎_elim (λ e. rw e h) (hs u) (Memᴰ.cases_cons i)

-- two lists of numbers below the count are so one after the other
append_below : {count : ℕ} (ts : List ℕ) {us : List ℕ} → Below count ts → Below count us → Below count (ts ++ us)
append_below ts h k u i = ⊎_elim (h u) (k u) (Memᴰ.append_cases ts i)

-- the law holds of the value of a result that has one
pub data Gives {A : Type 0} (law : A → Type 0) : Result A → Type 0 where
  value : {a : A} → law a → Gives law (ok a)
  no_value : {r : Refusal} → Gives law (refused r)

module _ {A : Type 0} where
  -- a result gives a value of which nothing is said
  pub any_value : (r : Result A) → Gives (λ a. Unit {0}) r
  any_value (ok a) = value tt
  any_value (refused r) = no_value

  -- the law holds of the value that is given
  pub given : {law : A → Type 0} {r : Result A} {a : A} → Gives law r → r ≡ ok a → law a
  given {law} (value h) e = subst law (ok_eq e) h
  given no_value e = absurd (not_ok e)

  module _ {law : A → Type 0} where
    -- the law holds of the value of the next field where it holds of each field
    gives_next : {judge : Field → Result A} → ((f : Field) → Gives law (judge f)) → (fs : List Field) → Gives (λ p. law p.0) (next judge fs)
    unfolding next
    gives_next h [] = no_value
    gives_next {judge} h (f ∷ fs) = go (h f)
      where
        go : {r : Result A} → Gives law r → Gives {A = A × List Field} (λ p. law p.0) (r >>= λ a. ok (a, fs))
        go (value x) = value x
        go no_value = no_value

    -- the law holds of the value where no field is left over
    pub gives_end : (a : A) → law a → (fs : List Field) → Gives law (end a fs)
    unfolding end
    gives_end a h [] = value h
    gives_end a h (f ∷ fs) = no_value

-- what a step gives from each value of the one before
pub gives_bind : {A B : Type 0} {law : A → Type 0} {law' : B → Type 0} {r : Result A} {f : A → Result B}
    → Gives law r → ((a : A) → law a → Gives law' (f a)) → Gives law' (r >>= f)
gives_bind (value {a} h) k = k a h
gives_bind no_value k = no_value

module _ (count : ℕ) where
  -- a field that names a term gives a number below the count
  gives_term : (f : Field) → Gives (◌< count) (term_field count f)
  unfolding term_field
  gives_term f = gives_bind (any_value (number_field 65535 f)) (λ n h. go n (ltb n count) refl)
    where
      go : (n : ℕ) (b : Bool) → ltb n count ≡ b → Gives (◌< count) (cond b (ok n) (refused refusal.Term))
      go n true e = value (ltb→lt n count (rw e tt))
      go n false e = no_value

  -- the next n fields that name terms give numbers below the count
  gives_many : (n : ℕ) (fs : List Field) → Gives (λ p. Below count p.0) (many n (term_field count) fs)
  unfolding many
  gives_many zero fs = value none_below
  gives_many (suc n) fs =
      gives_bind (gives_next gives_term fs) (λ p h.
      gives_bind (gives_many n p.1) (λ q k. value (more_below h k)))

  -- all fields that are left and name terms give numbers below the count
  gives_rest : (fs : List Field) → Gives (Below count) (rest (term_field count) fs)
  unfolding rest
  gives_rest [] = value none_below
  gives_rest (f ∷ fs) = gives_bind (gives_term f) (λ t h. gives_bind (gives_rest fs) (λ ts k. value (more_below h k)))

  -- pattern groups give numbers below the count
  gives_groups : (g : ℕ) (fs : List Field) → Gives (λ p. Below count (concat p.0)) (groups count g fs)
  unfolding groups concat
  gives_groups zero fs = value none_below
  gives_groups (suc g) fs =
      gives_bind (any_value (next (number_field 65535) fs)) (λ n u.
      gives_bind (gives_many n.0 n.1) (λ p h.
      gives_bind (gives_groups g p.1) (λ q k. value (append_below p.0 h k))))

  -- an `all` or a `some` names terms below the count
  gives_quantifier : (make : ℕ → List (List ℕ) → Node) → ((body : ℕ) (gs : List (List ℕ)) → references (make body gs) ≡ body ∷ concat gs)
      → (fs : List Field) → Gives (λ c. Below count (terms_named c)) (quantifier make count fs)
  unfolding quantifier terms_named
  gives_quantifier make e fs =
      gives_bind (gives_next gives_term fs) (λ body h.
      gives_bind (any_value (next (number_field 65535) body.1)) (λ g u.
      gives_bind (gives_groups g.0 g.1) (λ gs k. gives_end _ (rw e (more_below h k)) gs.1)))

  -- every line names terms below the count
  gives_content : (k : LineKind) (grouped : Bool) (fs : List Field) → Gives (λ c. Below count (terms_named c)) (content k grouped count fs)
  unfolding content terms_named references
  gives_content kind.Ask grouped fs =
      gives_bind (any_value (next (number_field most_query) fs)) (λ q u. gives_bind (any_value (next (number_field most_options) q.1)) (λ o v. gives_end _ none_below o.1))
  gives_content kind.Ask2 grouped fs =
      gives_bind (any_value (next (number_field most_query) fs)) (λ q u. gives_bind (any_value (next (number_field most_options) q.1)) (λ o v.
      gives_bind (any_value (next (number_field most_groups) o.1)) (λ a w. gives_end _ none_below a.1)))
  gives_content kind.Also grouped fs = gives_bind (any_value (next (number_field most_query) fs)) (λ q u. gives_end _ none_below q.1)
  gives_content kind.Hide grouped fs = gives_bind (any_value (next name_field fs)) (λ n u. gives_end _ none_below n.1)
  gives_content kind.Free grouped fs = gives_bind (any_value (next name_field fs)) (λ n u. gives_end _ none_below n.1)
  gives_content kind.Leaf grouped fs = gives_end _ none_below fs
  gives_content kind.Call grouped fs = gives_bind (any_value (next name_field fs)) (λ n u. gives_bind (gives_rest n.1) (λ ts h. value h))
  gives_content kind.Op grouped fs =
      gives_bind (any_value (next (λ f. need refusal.Form (word op_words f)) fs)) (λ w u. gives_bind (gives_rest w.1) (λ ts h. value h))
  gives_content kind.All grouped fs = gives_quantifier _ (λ body gs. refl) fs
  gives_content kind.Some grouped fs = gives_quantifier _ (λ body gs. refl) fs
  gives_content kind.Let grouped fs = gives_bind (gives_next gives_term fs) (λ body h. gives_bind (gives_rest body.1) (λ ts k. value (more_below h k)))
  gives_content kind.Label grouped fs = gives_bind (gives_next gives_term fs) (λ t h. gives_end _ (more_below h none_below) t.1)
  gives_content kind.Assume grouped fs =
      gives_bind (any_value (next name_field fs)) (λ n u.
      gives_bind (any_value (next (number_field 1) n.1)) (λ flag v.
      gives_bind (any_value (group_field grouped flag.1)) (λ g w.
      gives_bind (gives_next gives_term g.1) (λ t h. gives_end _ (more_below h none_below) t.1))))
  gives_content kind.Fun grouped fs = gives_bind (any_value (next name_field fs)) (λ n u. gives_end _ none_below n.1)
  gives_content kind.Def grouped fs =
      gives_bind (any_value (next name_field fs)) (λ n u. gives_bind (gives_next gives_term n.1) (λ t h. gives_end _ (more_below h none_below) t.1))
  gives_content kind.Retain grouped fs = gives_bind (any_value (rest name_field fs)) (λ ns u. value none_below)
  gives_content kind.Root grouped fs =
      gives_bind (any_value (next (number_field most_query) fs)) (λ q u.
      gives_bind (any_value (next name_field q.1)) (λ n v.
      gives_bind (gives_next gives_term n.1) (λ t h. gives_end _ (more_below h none_below) t.1)))

-- the terms that an accepted line names are below the count of the term lines before it
pub named_below : (s : State) (fs : List Field) {c : Content} → parse s fs ≡ ok c → Below (length s.terms) (terms_named c)
named_below s fs e = let p = parse_ok s fs e in given (gives_content (length s.terms) p.kind s.grouped p.others) p.says
