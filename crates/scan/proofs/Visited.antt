-- The entries that wait on names, and those visited in a round.
use Prim.Native.Nat.{ℕ, zero, suc, ◌+◌, ◌-◌, ◌<◌}
use native.Mathlib.Omega.{arith}
use mathlib.Core.Path.{◌≡◌, refl, sym, ◌∙◌, subst}
use mathlib.Core.Bool.{Bool, true, false, cond, ◌&&◌}
use mathlib.Core.Logic.{⊎_elim}
use mathlib.Core.List.Memᴰ
use mathlib.Core.List.{List, [], ◌∷◌, Memᴰ}
use lib.Dec.{eqb, ltb, eqb→eq, ltb→lt, lt→ltb}
use lib.ListN.{length, get_or, length-append}
use borrow.Author.Tests.{eqb-true, eqb-false, eq-eqb, ne_eqb, lt-ltb, le-ltb}
use Rattle.model.specs.Lists.{keep, count}
use Rattle.model.proofs.ListLaws.{keep_intro, keep_elim, T_ext, true_T, cond_ap}
use Rattle.terms.proofs.Laws.{equal}
use Rattle.records.specs.Filing.{newest}
use Rattle.firing.specs.Held.{Held, upto, waiting}
use Rattle.scan.specs.Steps.{visited}
use Rattle.firing.proofs.Numbers.{upto_intro, upto_elim}

-- ---- the chain of a name

module _ (h : Held) (n : ℕ) where
  -- the entries that wait are those up to the newest on the name, where each that waits is on it
  pub newest_waiting : (on : ℕ → ℕ) → ((d : ℕ) → h.entry_name d ≡ n → on d ≡ n) → (k : ℕ) → waiting h n k ≡ waiting h n (newest on n k)
  unfolding newest waiting upto keep
  newest_waiting on waits zero = refl
  newest_waiting on waits (suc k) = go (eqb (on k) n) refl (newest_waiting on waits k)
    where
      go : (b : Bool) → eqb (on k) n ≡ b → waiting h n k ≡ waiting h n (newest on n k)
          → waiting h n (suc k) ≡ waiting h n (cond b (suc k) (newest on n k))
      go true e w = refl
      go false e w = rw (ne_eqb (h.entry_name k) n (λ q. eqb-false (on k) n e (waits k q))) w

  -- an entry that does not wait on the name is passed over
  pub waiting_skip : (p : ℕ) → 0 < p → (h.entry_name (p - 1) ≡ n → ⊥) → waiting h n p ≡ waiting h n (p - 1)
  unfolding waiting upto keep
  waiting_skip zero l d = absurd (omega arith)
  waiting_skip (suc p) l d =
      let z : suc p - 1 ≡ p = omega arith in
      rw z (rw (ne_eqb (h.entry_name p) n (λ q. d (subst (λ x. h.entry_name x ≡ n) (sym z) q))))

  pub waiting_first : (p : ℕ) → 0 < p → h.entry_name (p - 1) ≡ n → waiting h n p ≡ (p - 1) ∷ waiting h n (p - 1)
  unfolding waiting upto keep
  waiting_first zero l e = absurd (omega arith)
  waiting_first (suc p) l e =
      let z : suc p - 1 ≡ p = omega arith in
      rw z (rw (eq-eqb (h.entry_name p) n (subst (λ x. h.entry_name x ≡ n) z e)))

-- ---- the entries visited

module _ (h : Held) (r : ℕ) (w : List ℕ) where
  pub visited_elim : (N : ℕ) {e : ℕ} → Memᴰ e (visited h r w N) → (e < h.entries) × (h.entry_name e < N) × (get_or w (h.entry_name e) 0 ≡ r)
  unfolding visited waiting
  visited_elim zero m = absurd (Memᴰ.not-nil m)
  visited_elim (suc N) {e} m =
      ⊎_elim
      (λ k. let (a, b, c) = visited_elim N k in (a, omega arith, c))
      (λ k. last (eqb (get_or w N 0) r) refl k)
      (Memᴰ.append_cases (visited h r w N) m)
    where
      last : (b : Bool) → eqb (get_or w N 0) r ≡ b → Memᴰ e (cond b (waiting h N h.entries) [])
          → (e < h.entries) × (h.entry_name e < suc N) × (get_or w (h.entry_name e) 0 ≡ r)
      last true q k =
          let (i, t) = keep_elim (λ d. eqb (h.entry_name d) N) (upto h.entries) k in
          let s = eqb→eq (h.entry_name e) N t in
          (upto_elim h.entries i, omega arith, rw s (eqb-true (get_or w N 0) r q))
      last false q k = absurd (Memᴰ.not-nil k)

  pub visited_intro : (N e : ℕ) → e < h.entries → h.entry_name e < N → get_or w (h.entry_name e) 0 ≡ r → Memᴰ e (visited h r w N)
  unfolding visited waiting
  visited_intro zero e l s q = absurd (omega arith)
  visited_intro (suc N) e l s q =
      ⊎_elim
      (λ (k : h.entry_name e ≡ N). Memᴰ.append_right (visited h r w N)
      (rw (eq-eqb (get_or w N 0) r (rw k at q))
      (keep_intro (λ d. eqb (h.entry_name d) N) (upto_intro l) (true_T (eq-eqb (h.entry_name e) N k)))))
      (λ d. Memᴰ.append_left (cond (eqb (get_or w N 0) r) (waiting h N h.entries) []) (visited_intro N e l (omega (arith, d)) q))
      (equal (h.entry_name e) N)

-- ---- how many they are

one_there : (b : Bool) (A B C : ℕ) → A ≡ B + C → cond b (1 + A) A ≡ cond b (1 + B) B + C
one_there true A B C e = omega arith
one_there false A B C e = e

one_here : (b : Bool) (A B K : ℕ) → A ≡ B + cond b K 0 → cond b (1 + A) A ≡ B + cond b (suc K) 0
one_here true A B K e = omega arith
one_here false A B K e = e

none_below : (f : ℕ → ℕ) (q : ℕ → Bool) (l : List ℕ) → count (λ e. ltb (f e) 0 && q (f e)) l ≡ 0
unfolding count
none_below f q [] = refl
none_below f q (e ∷ l) = rw (le-ltb (f e) 0 (omega arith)) (none_below f q l)

-- what a count gains from one name more
count_next : (f : ℕ → ℕ) (q : ℕ → Bool) (N : ℕ) (l : List ℕ)
    → count (λ e. ltb (f e) (suc N) && q (f e)) l
    ≡ count (λ e. ltb (f e) N && q (f e)) l + cond (q N) (length (keep (λ e. eqb (f e) N) l)) 0
unfolding count keep
count_next f q N [] = go (q N)
  where
    go : (b : Bool) → 0 ≡ 0 + cond b 0 0
    go true = refl
    go false = refl
count_next f q N (e ∷ l) = go (count_next f q N l)
  where
    go : count (λ e. ltb (f e) (suc N) && q (f e)) l
        ≡ count (λ e. ltb (f e) N && q (f e)) l + cond (q N) (length (keep (λ e. eqb (f e) N) l)) 0
        → count (λ e. ltb (f e) (suc N) && q (f e)) (e ∷ l)
        ≡ count (λ e. ltb (f e) N && q (f e)) (e ∷ l) + cond (q N) (length (keep (λ e. eqb (f e) N) (e ∷ l))) 0
    go ih =
        ⊎_elim
        (λ (s : f e ≡ N).
        rw (lt-ltb (f e) (suc N) (omega arith), le-ltb (f e) N (omega arith), eq-eqb (f e) N s, s) (one_here (q N) _ _ _ ih))
        (λ (d : f e ≡ N → ⊥). rw (same_test (f e) d, ne_eqb (f e) N d) (one_there (ltb (f e) N && q (f e)) _ _ _ ih))
        (equal (f e) N)
      where
        same_test : (x : ℕ) → (x ≡ N → ⊥) → ltb x (suc N) ≡ ltb x N
        same_test x d =
            T_ext (λ t. let a = ltb→lt x (suc N) t in lt→ltb x N (omega (arith, d)))
            (λ t. let a = ltb→lt x N t in lt→ltb x (suc N) (omega arith))

module _ (h : Held) (r : ℕ) (w : List ℕ) where
  pub visited_length : (N : ℕ)
      → length (visited h r w N) ≡ count (λ e. ltb (h.entry_name e) N && eqb (get_or w (h.entry_name e) 0) r) (upto h.entries)
  unfolding visited waiting
  visited_length zero = sym (none_below h.entry_name (λ n. eqb (get_or w n 0) r) (upto h.entries))
  visited_length (suc N) =
      length-append (visited h r w N) _
      ∙ rw (count_next h.entry_name (λ n. eqb (get_or w n 0) r) N (upto h.entries), visited_length N, cond_ap length (eqb (get_or w N 0) r))
