-- Terms with new numbers: the terms of one table that stand in another under other numbers.
use Prim.Native.Nat.{ℕ, ◌<◌}
use native.Mathlib.Omega.{arith}
use mathlib.Core.Path.{◌≡◌, refl, sym, ◌∙◌, ap, ap₂}
use mathlib.Core.List.{List, [], ◌∷◌, map, map-id, Memᴰ}
use Rattle.model.specs.Terms.{Node, free_v, leaf, call, app, forall, exists, let_in, labeled, Term, references}
use Rattle.model.specs.Terms.{term as term_of}
use Rattle.demands.proofs.StateLaws.{Lower}

-- a line with new numbers for the terms that it names
unfoldable pub rename : (ℕ → ℕ) → Node → Node
rename new (free_v name) = free_v name
rename new leaf = leaf
rename new (call name ts) = call name (map new ts)
rename new (app word ts) = app word (map new ts)
rename new (forall body groups) = forall (new body) (map (map new) groups)
rename new (exists body groups) = exists (new body) (map (map new) groups)
rename new (let_in body ts) = let_in (new body) (map new ts)
rename new (labeled t) = labeled (new t)

-- a term of the new table is the old one with new numbers
pub record Renamed (ρ : ℕ → ℕ) (x y : Term) : Type 0 where
  pub node : y.node ≡ rename ρ x.node
  pub bare : y.bare ≡ rename ρ x.bare
  pub names : y.names ≡ x.names

-- the terms of a sort stand in another table under new numbers, and name only terms of the sort
pub record Carried (ρ : ℕ → ℕ) (ok : ℕ → Type 0) (terms terms' : List Term) : Type 0 where
  pub each : (t : ℕ) → ok t → Renamed ρ (term_of terms t) (term_of terms' (ρ t))
  pub closed : (t : ℕ) → ok t → (u : ℕ) → Memᴰ u (references (term_of terms t).node) → ok u
  pub closed_bare : (t : ℕ) → ok t → (u : ℕ) → Memᴰ u (references (term_of terms t).bare) → ok u

lists_id : (ls : List (List ℕ)) → map (map (λ t. t)) ls ≡ ls
lists_id [] = refl
lists_id (l ∷ ls) = ap₂ ◌∷◌ (map-id l) (lists_id ls)

-- with the numbers as they are a line is as it was
rename_id : (node : Node) → rename (λ t. t) node ≡ node
unfolding rename
rename_id (free_v name) = refl
rename_id leaf = refl
rename_id (call name ts) = rw (map-id ts)
rename_id (app word ts) = rw (map-id ts)
rename_id (forall body groups) = ap (forall body) (lists_id groups)
rename_id (exists body groups) = ap (exists body) (lists_id groups)
rename_id (let_in body ts) = rw (map-id ts)
rename_id (labeled t) = refl

-- terms that are equal in both tables stand there under their numbers
pub carried_as_they_are : (ok : ℕ → Type 0) (terms terms' : List Term) → ((t : ℕ) → ok t → term_of terms' t ≡ term_of terms t)
    → ((t : ℕ) → ok t → (u : ℕ) → Memᴰ u (references (term_of terms t).node) → ok u)
    → ((t : ℕ) → ok t → (u : ℕ) → Memᴰ u (references (term_of terms t).bare) → ok u) → Carried (λ t. t) ok terms terms'
carried_as_they_are ok terms terms' agree closed closed_bare =
    record {
      each = λ t o. record {
        node = ap (λ (x : Term). x.node) (agree t o) ∙ sym (rename_id (term_of terms t).node);
        bare = ap (λ (x : Term). x.bare) (agree t o) ∙ sym (rename_id (term_of terms t).bare);
        names = ap (λ (x : Term). x.names) (agree t o);
      };
      closed = closed;
      closed_bare = closed_bare;
    }

-- so a table that grows has the terms that it had
pub carried_below : (count : ℕ) (terms terms' : List Term) → Lower terms → ((t : ℕ) → t < count → term_of terms' t ≡ term_of terms t)
    → Carried (λ t. t) (λ t. t < count) terms terms'
carried_below count terms terms' lower agree =
    carried_as_they_are (λ t. t < count) terms terms' agree (λ t h u i. omega (arith, (lower t).node u i)) (λ t h u i. omega (arith, (lower t).bare u i))
