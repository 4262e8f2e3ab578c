-- Which terms a walk comes to: those that are reached by references.
use Prim.Native.Nat.{ℕ, zero, suc, ◌%◌, ◌<◌}
use native.Mathlib.Nat.{not-suc-le-zero}
use native.Mathlib.Omega.{arith}
use mathlib.Core.Path.{◌≡◌, refl, sym, ◌∙◌}
use mathlib.Core.Bool.{Bool, true, false, cond, not, ◌&&◌, ◌||◌, true≢false}
use mathlib.Core.Logic.{◌↔◌, ⊎_elim}
use mathlib.Core.List.Memᴰ
use mathlib.Core.List.{List, [], ◌∷◌, ◌++◌, Memᴰ}
use lib.ListN.{length, get_or}
use lib.Dec.{ltb}
use Rattle.model.specs.Lists.{fold_left, part}
use Rattle.model.proofs.ListLaws.{cond_case, fold_left_case}
use Rattle.terms.specs.Rows.{row_kind, row_head, row_start, row_end, has_head, terms_of_words, Rows}
use Rattle.names.specs.Table.{is_excluded}
use Rattle.gather.specs.Visits.{Visit, start_visit, has, find, finish, visit_head, visit_below, visit_term, visit_list}
use Rattle.gather.specs.Walks.{Reached, itself, below}
use Rattle.gather.proofs.Visiting.{has_in, term_place, place_term, row_fits, lower_in}

-- the head of a term is no term walked
head_walked : (names refs rows : List ℕ) (used many room : ℕ) (v : Visit) (t : ℕ) → (visit_head names refs rows used many room v t).walked ≡ v.walked
unfolding visit_head find
head_walked names refs rows used many room v t =
    cond_case (λ (w : Visit). w.walked ≡ v.walked) ((has_head (row_kind rows t) && not (is_excluded names (row_head rows t))) && not
    (has v.found (row_head rows t)))
    (cond_case (λ (w : Visit). w.walked ≡ v.walked) (ltb (length v.found) room) refl refl) refl

module _ (names : List ℕ) {refs rows : List ℕ} {used many named : ℕ} (room : ℕ) (r : Rows refs rows used many named) where
  module _ (Q : ℕ → Type 0) where
    -- of each term walked Q holds
    abbrev Only : Visit → Type 0
    Only v = (u : ℕ) → Memᴰ u v.walked → Q u

    -- a term finished is one more
    only_finish : (t : ℕ) (v : Visit) → Q t → Only v → Only (finish t v)
    unfolding finish
    only_finish t v q p = cond_case Only v.full p (λ u m. ⊎_elim (p u) (λ n. let e : u ≡ t = Memᴰ.eq_of_singleton n in rw e q)
        (Memᴰ.append_cases v.walked m))

    -- a walk comes to no other term than those that are reached
    only_visit : (depth : ℕ) (v : Visit) (t : ℕ) → t < many → ((u : ℕ) → Reached refs rows used many t u → Q u) → Only v
        → Only (visit_below names refs rows used many room depth v t)
    unfolding visit_below
    only_visit zero v t l q p = p
    only_visit (suc depth) v t l q p = cond_case Only (v.full || has v.walked t) p (only_finish t _ (q t (itself refl))
        (fold_left_case Only (visit_below names refs rows used many room depth) (terms_of_words (part refs (row_start rows t) (row_end rows used many t)))
        (λ w s m o. let d = lower_in r l m in let (i, (a, b, e)) = term_place refs (row_start rows t) (row_end rows used many t)
        (row_fits r l) m in only_visit depth w s (omega arith) (λ u z. q u (below {t = t} i a b (rw e z))) o)
        (rw (head_walked names refs rows used many room v t) p)))

  -- what is reached from a term walked is walked
  abbrev ClosedUnder : Visit → Type 0
  ClosedUnder v = (s u : ℕ) → Memᴰ s v.walked → Reached refs rows used many s u → Memᴰ u v.walked

  -- a walk of some terms that has not stopped: no term is lost, what is reached is walked, and so are the terms
  record Done (ts : List ℕ) (v w : Visit) : Type 0 where
    going : v.full ≡ false
    kept : (u : ℕ) → Memᴰ u v.walked → Memᴰ u w.walked
    closed : ClosedUnder v → ClosedUnder w
    all : (s : ℕ) → Memᴰ s ts → Memᴰ s w.walked

  -- a term is finished after the terms that it names
  done_finish : {t : ℕ} {v first w : Visit} → t < many → v.full ≡ false → first.walked ≡ v.walked
      → Done (terms_of_words (part refs (row_start rows t) (row_end rows used many t))) first w
      → Done (t ∷ []) v (record { found = w.found; walked = w.walked ++ (t ∷ []); full = false })
  done_finish {t} {w} l g q d = record {
    going = g;
    kept = λ u m. Memᴰ.append_left (t ∷ []) (d.kept u (rw q m));
    closed = λ z s u m o.
        let c : ClosedUnder w = d.closed (rw q z) in
        ⊎_elim (λ n. Memᴰ.append_left (t ∷ []) (c s u n o)) (λ n. let e : s ≡ t = Memᴰ.eq_of_singleton n in from c (rw e at o))
        (Memᴰ.append_cases w.walked m);
    all = λ s m. Memᴰ.append_right w.walked m;
  }
    where
      -- what is reached from the term is walked or the term itself
      from : {u : ℕ} → ClosedUnder w → Reached refs rows used many t u → Memᴰ u (w.walked ++ (t ∷ []))
      from z (itself e) = Memᴰ.append_right w.walked (Memᴰ.head (sym e))
      from {u} z (below i x y o) = Memᴰ.append_left (t ∷ []) (z (get_or refs i 0 % 4096) u
          (d.all (get_or refs i 0 % 4096) (place_term refs (row_start rows t) (row_end rows used many t) i (row_fits r l) x y)) o)

  -- one walk after another
  done_then : {t : ℕ} {ts : List ℕ} {v w x : Visit} → Done (t ∷ []) v w → Done ts w x → Done (t ∷ ts) v x
  done_then {t} d e = record {
    going = d.going;
    kept = λ u m. e.kept u (d.kept u m);
    closed = λ z. e.closed (d.closed z);
    all = λ s m. ⊎_elim (λ q. e.kept s (d.all s (Memᴰ.head q))) (e.all s) (Memᴰ.cases_cons m);
  }

  -- what every step does the fold does
  fold_done : (f : Visit → ℕ → Visit) (ts : List ℕ) → ((v : Visit) (t : ℕ) → Memᴰ t ts → (f v t).full ≡ false → Done (t ∷ []) v (f v t)) → (v : Visit)
      → (fold_left f v ts).full ≡ false → Done ts v (fold_left f v ts)
  unfolding fold_left
  fold_done f [] h v g = record { going = g; kept = λ u m. m; closed = λ z. z; all = λ s m. absurd (Memᴰ.not-nil m) }
  fold_done f (t ∷ ts) h v g =
      let d = fold_done f ts (λ w s m. h w s (Memᴰ.tail m)) (f v t) g in
      done_then (h v t (Memᴰ.head refl) d.going) d

  -- a walk of a term that has not stopped
  visit_done : (depth : ℕ) (v : Visit) (t : ℕ) → t < depth → t < many → (visit_below names refs rows used many room depth v t).full ≡ false
      → Done (t ∷ []) v (visit_below names refs rows used many room depth v t)
  unfolding visit_below finish
  visit_done zero v t h l g = absurd (not-suc-le-zero h)
  visit_done (suc depth) v t h l g = go (λ w s m. let k = lower_in r l m in visit_done depth w s (omega arith) (omega arith)) v.full
      (has v.walked t) refl refl g
    where
      -- the terms that it names
      ts : List ℕ
      ts = terms_of_words (part refs (row_start rows t) (row_end rows used many t))

      -- the walk after its head
      first : Visit
      first = visit_head names refs rows used many room v t

      -- and after these terms
      under : Visit
      under = fold_left (visit_below names refs rows used many room depth) first ts

      -- the walks of the terms that it names
      Steps_done : Type 0
      Steps_done = (w : Visit) (s : ℕ) → Memᴰ s ts → (visit_below names refs rows used many room depth w s).full ≡ false
          → Done (s ∷ []) w (visit_below names refs rows used many room depth w s)

      -- the term is not walked yet
      finished : Steps_done → v.full ≡ false → (b : Bool) → under.full ≡ b
          → (cond b under (record { found = under.found; walked = under.walked ++ (t ∷ []); full = false })).full ≡ false
          → Done (t ∷ []) v (cond b under (record { found = under.found; walked = under.walked ++ (t ∷ []); full = false }))
      finished h p true e g = absurd (true≢false (sym e ∙ g))
      finished h p false e g =
          done_finish l p (head_walked names refs rows used many room v t) (fold_done (visit_below names refs rows used many room depth) ts h first e)

      -- it is walked, or was before
      go : Steps_done → (a b : Bool) → v.full ≡ a → has v.walked t ≡ b → (cond (a || b) v (finish t under)).full ≡ false
          → Done (t ∷ []) v (cond (a || b) v (finish t under))
      go h true b p q g = absurd (true≢false (sym p ∙ g))
      go h false true p q g = record {
        going = p;
        kept = λ u m. m;
        closed = λ z. z;
        all = λ s m. let e : s ≡ t = Memᴰ.eq_of_singleton m in rw e (has_in v.walked t q);
      }
      go h false false p q g = finished h p under.full refl g

  -- the terms that a walk of a list comes to are those that are reached from its terms
  pub list_reached : (ts : List ℕ) → ((t : ℕ) → Memᴰ t ts → t < many) → (visit_list names refs rows used many room ts).full ≡ false
      → (u : ℕ) → Memᴰ u (visit_list names refs rows used many room ts).walked ↔ ((t : ℕ) × (Memᴰ t ts × Reached refs rows used many t u))
  unfolding visit_list start_visit
  list_reached ts l g u =
      let d = fold_done (visit_below names refs rows used many room many) ts (λ w s m. visit_done many w s (l s m) (l s m)) start_visit g in (
        fold_left_case (Only (λ u. (t : ℕ) × (Memᴰ t ts × Reached refs rows used many t u))) (visit_below names refs rows used many room many) ts
            (λ w s m o. only_visit (λ u. (t : ℕ) × (Memᴰ t ts × Reached refs rows used many t u)) many w s (l s m) (λ u z. (s, (m, z))) o)
            (λ u m. absurd (Memᴰ.not-nil m)) u,
        λ (t, (m, z)). d.closed (λ s u n o. absurd (Memᴰ.not-nil n)) t u (d.all t m) z,
      )

  -- the terms that a walk of a term comes to are those that are reached from it
  pub walked_reached : (t : ℕ) → t < many → (visit_term names refs rows used many room t).full ≡ false → (u : ℕ)
      → Memᴰ u (visit_term names refs rows used many room t).walked ↔ Reached refs rows used many t u
  unfolding visit_term start_visit
  walked_reached t l g u =
      let d = visit_done many start_visit t l l g in (
        only_visit (Reached refs rows used many t) many start_visit t l (λ u z. z) (λ u m. absurd (Memᴰ.not-nil m)) u,
        d.closed (λ s u n o. absurd (Memᴰ.not-nil n)) t u (d.all t (Memᴰ.head refl)),
      )
