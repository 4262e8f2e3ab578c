-- The groups of a quantifier as reference words.
use Prim.Native.Nat.{ℕ, zero, suc, ◌+◌, ◌-◌, ◌*◌, ◌/◌, ◌%◌, ◌≤◌, ◌<◌}
use native.Mathlib.Nat.{not-suc-le-zero}
use native.Mathlib.Numerals.{add-one}
use native.Mathlib.Omega.{arith}
use mathlib.Core.Path.{◌≡◌, refl, sym, ap, ap₂, ◌∙◌}
use mathlib.Core.List.Memᴰ
use mathlib.Core.List.{List, [], ◌∷◌, ◌++◌, map, map-append, Memᴰ, append-nil}
use mathlib.Core.Bool.{Bool, true, false, cond}
use mathlib.Core.Logic.{◌⊎◌, inl, inr, ⊎_elim}
use Rattle.std.specs.Option as Option
use lib.ListN.{length, drop, get_or, length-append, get_or-append}
use lib.Seq.{ext_get_or, get_or_at}
use lib.Dec.{T, eqb, eqb→eq}
use borrow.Author.Tests.{eq-eqb, ne_eqb}
use Rattle.model.specs.Lists.{keep, concat, when, part}
use Rattle.model.specs.Names.{Name}
use Rattle.model.specs.Summaries.{groups_of, pattern_groups}
use Rattle.model.specs.declared.Op.{Op}
use Rattle.model.proofs.ListLaws.{T_or, keep_append, keep_all, keep_none}
use Rattle.model.proofs.PartLaws.{part_cons, part_drop, part_elim, part_nil, part_split}
use Rattle.terms.specs.Rows.{row_kind, row_start, row_extra, row_end, terms_of_words, group_of_words, groups_of_words, group_run, make_node, node_of, terms_of, has_body, has_groups, bare_of, groups_at, Rows}
use Rattle.terms.proofs.Laws.{equal, below}
use Rattle.terms.proofs.Table.{bare_law}

-- the words of groups, the first of which has the number g
unfoldable pub group_words : ℕ → List (List ℕ) → List ℕ
group_words g [] = []
group_words g (ts ∷ gs) = map (λ t. t + 4096 * g) ts ++ group_words (suc g) gs

-- each of the terms is below 4,096
Small : List ℕ → Type 0
Small ts = (t : ℕ) → Memᴰ t ts → t < 4096

-- a group's terms in two lists of words
group_append : (v w : List ℕ) (h : ℕ) → group_of_words (v ++ w) h ≡ group_of_words v h ++ group_of_words w h
unfolding group_of_words terms_of_words
group_append v w h = rw (keep_append, map-append)

-- the words of a group are those of its terms
group_same : (ts : List ℕ) (g : ℕ) → Small ts → group_of_words (map (λ t. t + 4096 * g) ts) g ≡ ts
unfolding group_of_words terms_of_words keep Small
group_same [] g s = refl
group_same (t ∷ ts) g s =
    let l = s t (Memᴰ.head refl) in
    let q : (t + 4096 * g) / 4096 ≡ g = omega arith in
    let m : (t + 4096 * g) % 4096 ≡ t = omega arith in
    rw (eq-eqb ((t + 4096 * g) / 4096) g q) (ap₂ ◌∷◌ m (group_same ts g (λ u k. s u (Memᴰ.tail k))))

-- and of no other group's
group_other : (ts : List ℕ) (g h : ℕ) → (g ≡ h → ⊥) → Small ts → group_of_words (map (λ t. t + 4096 * g) ts) h ≡ []
unfolding group_of_words terms_of_words keep Small
group_other [] g h n s = refl
group_other (t ∷ ts) g h n s =
    let l = s t (Memᴰ.head refl) in
    let q : (t + 4096 * g) / 4096 ≡ g = omega arith in
    rw (ne_eqb ((t + 4096 * g) / 4096) h (λ e. n (sym q ∙ e))) (group_other ts g h n (λ u k. s u (Memᴰ.tail k)))

-- no word is of a group before the first
group_before : (gs : List (List ℕ)) (g h : ℕ) → h < g → Small (concat gs) → group_of_words (group_words g gs) h ≡ []
unfolding group_of_words terms_of_words keep group_words concat Small
group_before [] g h l s = refl
group_before (ts ∷ gs) g h l s =
    group_append (map (λ t. t + 4096 * g) ts) (group_words (suc g) gs) h
    ∙ ap₂ ◌++◌ (group_other ts g h (λ e. omega arith) (λ u k. s u (Memᴰ.append_left (concat gs) k))) (group_before gs (suc g) h (omega arith) (λ u k. s u (Memᴰ.append_right ts k)))

-- the words of each group are those of its terms
group_at : (gs : List (List ℕ)) (g h : ℕ) → h < length gs → Small (concat gs) → group_of_words (group_words g gs) (g + h) ≡ get_or gs h []
unfolding group_of_words terms_of_words keep group_words concat Small
group_at [] g h l s = absurd (not-suc-le-zero l)
group_at (ts ∷ gs) g zero l s =
    let e : g + 0 ≡ g = omega arith in
    rw e
    (group_append (map (λ t. t + 4096 * g) ts) (group_words (suc g) gs) g
    ∙ ap₂ ◌++◌ (group_same ts g (λ u k. s u (Memᴰ.append_left (concat gs) k))) (group_before gs (suc g) g (omega arith) (λ u k. s u (Memᴰ.append_right ts k)))
    ∙ append-nil ts)
group_at (ts ∷ gs) g (suc h) l s =
    let e : g + suc h ≡ suc g + h = omega arith in
    group_append (map (λ t. t + 4096 * g) ts) (group_words (suc g) gs) (g + suc h)
    ∙ ap₂ ◌++◌ (group_other ts g (g + suc h) (λ e. omega arith) (λ u k. s u (Memᴰ.append_left (concat gs) k))) (ap (group_of_words (group_words (suc g) gs)) e ∙ group_at gs (suc g) h (omega arith) (λ u k. s u (Memᴰ.append_right ts k)))

-- there are as many groups as are asked for
groups_length : (ws : List ℕ) (n : ℕ) → length (groups_of_words ws n) ≡ n
unfolding groups_of_words
groups_length ws zero = refl
groups_length ws (suc n) = rw (length-append, groups_length ws n) (omega arith)

-- each group by its number
nth_group : (ws : List ℕ) (n h : ℕ) → h < n → get_or (groups_of_words ws n) h [] ≡ group_of_words ws h
unfolding groups_of_words
nth_group ws zero h l = absurd (not-suc-le-zero l)
nth_group ws (suc n) h l = ⊎_elim
    (λ e. rw e (get_or_at (groups_of_words ws n) (group_of_words ws n) [] [] n (groups_length ws n)))
    (λ (e : h ≡ n → ⊥).
    let k : h < n = omega arith in
    get_or-append (groups_of_words ws n) (group_of_words ws n ∷ []) [] h (rw (groups_length ws n) k) ∙ nth_group ws n h k)
    (equal h n)

-- groups are read back from their words
pub groups_law : (gs : List (List ℕ)) → ((t : ℕ) → Memᴰ t (concat gs) → t < 4096) → groups_of_words (group_words 0 gs) (length gs) ≡ gs
unfolding Small
groups_law gs s = ext_get_or [] (groups_of_words (group_words 0 gs) (length gs)) gs (groups_length (group_words 0 gs) (length gs)) (λ i l.
    let k : i < length gs = rw (groups_length (group_words 0 gs) (length gs)) at l in
    let e : 0 + i ≡ i = omega arith in
    nth_group (group_words 0 gs) (length gs) i k ∙ sym (ap (group_of_words (group_words 0 gs)) e) ∙ group_at gs 0 i k s)

-- the words of a group with words of later groups behind them are of no group before
low_in : (ts ws : List ℕ) (g : ℕ) → ((i : ℕ) → i < length ws → suc g ≤ get_or ws i 0 / 4096) → (i : ℕ) → i < length (map (λ t. t + 4096 * g) ts ++ ws) → g ≤ get_or (map (λ t. t + 4096 * g) ts ++ ws) i 0 / 4096
low_in [] ws g low i l = omega (arith, low i l)
low_in (t ∷ ts) ws g low zero l = omega arith
low_in (t ∷ ts) ws g low (suc i) l = low_in ts ws g low i (omega arith)

-- no word is of a group before the first
words_low : (gs : List (List ℕ)) (g i : ℕ) → i < length (group_words g gs) → g ≤ get_or (group_words g gs) i 0 / 4096
unfolding group_words
words_low [] g i l = absurd (not-suc-le-zero l)
words_low (ts ∷ gs) g i l = low_in ts (group_words (suc g) gs) g (words_low gs (suc g)) i l

-- the words of a group with words of later groups behind them stand in the order of the groups, if those do
rise_in : (ts ws : List ℕ) (g : ℕ) → Small ts → ((i : ℕ) → i < length ws → suc g ≤ get_or ws i 0 / 4096) → ((i : ℕ) → suc i < length ws → get_or ws i 0 / 4096 ≤ get_or ws (suc i) 0 / 4096)
    → (i : ℕ) → suc i < length (map (λ t. t + 4096 * g) ts ++ ws) → get_or (map (λ t. t + 4096 * g) ts ++ ws) i 0 / 4096 ≤ get_or (map (λ t. t + 4096 * g) ts ++ ws) (suc i) 0 / 4096
unfolding Small
rise_in [] ws g s low rise i l = rise i l
rise_in (t ∷ ts) ws g s low rise zero l = omega (arith, s t (Memᴰ.head refl), low_in ts ws g low 0 (omega arith))
rise_in (t ∷ ts) ws g s low rise (suc i) l = rise_in ts ws g (λ u k. s u (Memᴰ.tail k)) low rise i (omega arith)

-- the words of groups stand in the order of the groups
pub group_words_rise : (gs : List (List ℕ)) (g : ℕ) → ((t : ℕ) → Memᴰ t (concat gs) → t < 4096) → (i : ℕ) → i + 1 < length (group_words g gs) → get_or (group_words g gs) i 0 / 4096 ≤ get_or (group_words g gs) (i + 1) 0 / 4096
unfolding group_words concat Small
group_words_rise gs g s i l = rw (add-one i) (go gs g s i (omega arith))
  where
    go : (gs : List (List ℕ)) (g : ℕ) → ((t : ℕ) → Memᴰ t (concat gs) → t < 4096) → (i : ℕ) → suc i < length (group_words g gs) → get_or (group_words g gs) i 0 / 4096 ≤ get_or (group_words g gs) (suc i) 0 / 4096
    go [] g s i l = absurd (not-suc-le-zero l)
    go (ts ∷ gs) g s i l = rise_in ts (group_words (suc g) gs) g (λ u k. s u (Memᴰ.append_left (concat gs) k)) (words_low gs (suc g)) (go gs (suc g) (λ u k. s u (Memᴰ.append_right ts k))) i l

-- ---- the places of a group's references

-- no word: no run
pub run_none : (refs : List ℕ) (g a e : ℕ) → e ≤ a → group_run g (part refs a e) ≡ 0
unfolding group_run
run_none refs g a e h = rw (part_nil refs a e h)

-- a word of another group ends the run
pub run_other : (refs : List ℕ) (g a e : ℕ) → a < e → e ≤ length refs → (get_or refs a 0 / 4096 ≡ g → ⊥) → group_run g (part refs a e) ≡ 0
unfolding group_run
run_other refs g a e h k n = rw (part_cons refs a e h k, ne_eqb (get_or refs a 0 / 4096) g n)

-- a word of the group makes the run one longer
run_one : (refs : List ℕ) (g a e : ℕ) → a < e → e ≤ length refs → get_or refs a 0 / 4096 ≡ g → group_run g (part refs a e) ≡ 1 + group_run g (part refs (a + 1) e)
unfolding group_run
run_one refs g a e h k q = rw (part_cons refs a e h k, eq-eqb (get_or refs a 0 / 4096) g q)

-- the run ends where that of the next word ends
pub run_more : (refs : List ℕ) (g a e : ℕ) → a < e → e ≤ length refs → get_or refs a 0 / 4096 ≡ g → a + group_run g (part refs a e) ≡ a + 1 + group_run g (part refs (a + 1) e)
run_more refs g a e h k q = omega (arith, run_one refs g a e h k q)

-- the places from p up to q are those of a run of a group
record Run (refs : List ℕ) (g p e q : ℕ) : Type 0 where
  low : p ≤ q
  high : q ≤ e
  same : (i : ℕ) → p ≤ i → i < q → get_or refs i 0 / 4096 ≡ g
  ends : q < e → get_or refs q 0 / 4096 ≡ g → ⊥

-- a run is as long as it is counted
run_is : (refs : List ℕ) (g d p e : ℕ) → e - p ≡ d → p ≤ e → e ≤ length refs → Run refs g p e (p + group_run g (part refs p e))
run_is refs g zero p e q h k =
    let z : p + group_run g (part refs p e) ≡ p = omega (arith, run_none refs g p e (omega arith)) in
    rw z (record { low = omega arith; high = h; same = λ i a b. omega arith; ends = λ l. let c : ⊥ = omega arith in absurd c })
run_is refs g (suc d) p e q h k = go (run_is refs g d (p + 1) e (omega arith) (omega arith) k) (equal (get_or refs p 0 / 4096) g)
  where
    more : p < e
    more = omega arith

    go : Run refs g (p + 1) e (p + 1 + group_run g (part refs (p + 1) e)) → (get_or refs p 0 / 4096 ≡ g) ⊎ (get_or refs p 0 / 4096 ≡ g → ⊥) → Run refs g p e (p + group_run g (part refs p e))
    go r (inl w) = rw (run_more refs g p e more k w) (record {
      low = omega (arith, r.low);
      high = r.high;
      same = λ i a b. ⊎_elim (λ f. rw f w) (λ (f : i ≡ p → ⊥). r.same i (omega arith) b) (equal i p);
      ends = r.ends;
    })
    go r (inr w) =
        let z : p + group_run g (part refs p e) ≡ p = omega (arith, run_other refs g p e more k w) in
        rw z (record { low = omega arith; high = h; same = λ i a b. omega arith; ends = λ l. w })

-- the terms up to a place and those after it
pub terms_split : (refs : List ℕ) (a b e : ℕ) → a ≤ b → b ≤ e → e ≤ length refs → terms_of_words (part refs a e) ≡ terms_of_words (part refs a b) ++ terms_of_words (part refs b e)
unfolding terms_of_words
terms_split refs a b e h k m = ap (map (λ w. w % 4096)) (part_split refs (b - a) a b e refl h k m) ∙ map-append (λ w. w % 4096) (part refs a b) (part refs b e)

-- one term more
pub terms_more : (refs : List ℕ) (a i : ℕ) → a ≤ i → i < length refs → terms_of_words (part refs a (i + 1)) ≡ terms_of_words (part refs a i) ++ (get_or refs i 0 % 4096 ∷ [])
unfolding terms_of_words
terms_more refs a i h k =
    terms_split refs a i (i + 1) h (omega arith) (omega arith)
    ∙ ap (λ w. map (λ w. w % 4096) (part refs a i) ++ map (λ w. w % 4096) w) (part_cons refs i (i + 1) (omega arith) (omega arith) ∙ ap (get_or refs i 0 ∷◌) (part_nil refs (i + 1) (i + 1) (omega arith)))

-- a quantifier has a body
pub groups_bodied : (k : ℕ) → T (has_groups k) → T (has_body k)
unfolding has_groups has_body
groups_bodied k h = ⊎_elim (λ e. rw (eqb→eq k 4 e) tt) (λ e. rw (eqb→eq k 5 e) tt) ((T_or (eqb k 4) (eqb k 5)).0 h)

-- a quantifier's references from s up to e: those before p are of groups before g, and no other
pub record Before (refs : List ℕ) (s e g p : ℕ) : Type 0 where
  pub low : s ≤ p
  pub high : p ≤ e
  pub lower : (i : ℕ) → s ≤ i → i < p → get_or refs i 0 / 4096 < g
  pub upper : (i : ℕ) → p ≤ i → i < e → g ≤ get_or refs i 0 / 4096

module _ {refs rows : List ℕ} {used many named t : ℕ} (r : Rows refs rows used many named) (l : t < many) (q : T (has_groups (row_kind rows t))) where
  -- a quantifier has a body
  body_there : row_start rows t < row_end rows used many t
  body_there = r.bodied t l (groups_bodied (row_kind rows t) q)

  -- its references are in the slice
  end_fits : row_end rows used many t ≤ length refs
  end_fits = omega (arith, r.in_use t l, r.few_references, r.ref_room)

  -- the groups do not fall
  rises : (d i j : ℕ) → j - i ≡ d → row_start rows t < i → i ≤ j → j < row_end rows used many t → get_or refs i 0 / 4096 ≤ get_or refs j 0 / 4096
  rises zero i j e a b c =
      let z : i ≡ j = omega arith in
      rw z (omega arith)
  rises (suc d) i j e a b c = omega (arith, r.rising t i l q a (omega arith), rises d (i + 1) j (omega arith) (omega arith) (omega arith) c)

  -- before the first group stands the body alone
  pub group_first : Before refs (row_start rows t + 1) (row_end rows used many t) 0 (row_start rows t + 1)
  group_first = record { low = omega arith; high = omega (arith, body_there); lower = λ i a b. omega arith; upper = λ i a b. omega arith }

  module _ {g p : ℕ} (b : Before refs (row_start rows t + 1) (row_end rows used many t) g p) where
    -- the run of the group from there on
    run_here : Run refs g p (row_end rows used many t) (p + group_run g (part refs p (row_end rows used many t)))
    run_here = run_is refs g (row_end rows used many t - p) p (row_end rows used many t) refl b.high end_fits

    -- after a run stand the references of the next group
    run_next : {n : ℕ} → Run refs g p (row_end rows used many t) n → Before refs (row_start rows t + 1) (row_end rows used many t) (g + 1) n
    run_next {n} u =
        let x = b.low in
        let y = u.low in
        record {
          low = omega arith;
          high = u.high;
          lower = λ i c d. ⊎_elim (λ k. omega (arith, b.lower i c k)) (λ k. omega (arith, u.same i k d)) (below i p);
          upper = λ i c d.
              let m = rises (i - n) n i refl (omega arith) c d in
              let o = b.upper n y (omega arith) in
              let v : get_or refs n 0 / 4096 ≡ g → ⊥ = u.ends (omega arith) in
              ⊎_elim (λ k. absurd (v k)) (λ (k : get_or refs n 0 / 4096 ≡ g → ⊥). omega arith) (equal (get_or refs n 0 / 4096) g);
        }

    -- after the group's references stand those of the next group
    pub group_next : Before refs (row_start rows t + 1) (row_end rows used many t) (g + 1) (p + group_run g (part refs p (row_end rows used many t)))
    group_next = run_next run_here

    -- words of another group are not kept
    none : (a n : ℕ) → n ≤ row_end rows used many t → ((i : ℕ) → a ≤ i → i < n → get_or refs i 0 / 4096 ≡ g → ⊥) → keep (λ w. eqb (w / 4096) g) (part refs a n) ≡ []
    none a n h d = keep_none (λ w. eqb (w / 4096) g) (part refs a n) (λ w m.
        let x = part_elim {l = refs} {a = a} {e = n} (omega (arith, end_fits)) m in
        rw (← x.is, ne_eqb (get_or refs x.place 0 / 4096) g (d x.place x.low x.high)) tt)

    -- words of the group are
    all : (a n : ℕ) → n ≤ row_end rows used many t → ((i : ℕ) → a ≤ i → i < n → get_or refs i 0 / 4096 ≡ g) → keep (λ w. eqb (w / 4096) g) (part refs a n) ≡ part refs a n
    all a n h d = keep_all (λ w. eqb (w / 4096) g) (part refs a n) (λ w m.
        let x = part_elim {l = refs} {a = a} {e = n} (omega (arith, end_fits)) m in
        rw (← x.is, eq-eqb (get_or refs x.place 0 / 4096) g (d x.place x.low x.high)) tt)

    -- the terms of the group are those of its references
    pub group_place : terms_of_words (part refs p (p + group_run g (part refs p (row_end rows used many t)))) ≡ group_of_words (drop 1 (part refs (row_start rows t) (row_end rows used many t))) g
    unfolding group_of_words
    group_place = rw (part_drop refs (row_start rows t) (row_end rows used many t) 1) (ap terms_of_words (go run_here))
      where
        go : {n : ℕ} → Run refs g p (row_end rows used many t) n → part refs p n ≡ keep (λ w. eqb (w / 4096) g) (part refs (row_start rows t + 1) (row_end rows used many t))
        go {n} u = rw (
          part_split refs (p - (row_start rows t + 1)) (row_start rows t + 1) p (row_end rows used many t) refl b.low b.high end_fits,
          part_split refs (n - p) p n (row_end rows used many t) refl u.low u.high end_fits,
          keep_append,
          keep_append,
          none (row_start rows t + 1) p b.high (λ i c d e. omega (arith, b.lower i c d)),
          all p n u.high u.same,
          none n (row_end rows used many t) (omega arith) (λ i c d e. omega (arith, (run_next u).upper i c d)),
          append-nil,
        )

  -- after the last group the references end
  pub group_last : {p : ℕ} → Before refs (row_start rows t + 1) (row_end rows used many t) (row_extra rows t) p → p ≡ row_end rows used many t
  group_last {p} b = ⊎_elim
      (λ k. let x = b.low in let z : ⊥ = omega (arith, b.upper p (omega arith) k, r.grouped t p l q (omega arith) k) in absurd z)
      (λ k. omega (arith, b.high))
      (below p (row_end rows used many t))

-- ---- the triggers of a term

-- an `all` is a node of kind 4
groups_node : (kind : ℕ) (op : Op) (name : Name) (ws : List ℕ) (g : ℕ) → groups_of (make_node kind op name ws g) ≡ when (eqb kind 4) (groups_of_words (drop 1 ws) g)
unfolding groups_of make_node when
groups_node zero op name ws g = refl
groups_node (suc zero) op name ws g = refl
groups_node (suc (suc zero)) op name ws g = refl
groups_node (suc (suc (suc zero))) op name ws g = refl
groups_node (suc (suc (suc (suc zero)))) op name ws g = refl
groups_node (suc (suc (suc (suc (suc zero))))) op name ws g = refl
groups_node (suc (suc (suc (suc (suc (suc zero)))))) op name ws g = refl
groups_node (suc (suc (suc (suc (suc (suc (suc n))))))) op name ws g = rw (ne_eqb (suc (suc (suc (suc (suc (suc (suc n))))))) 4 (λ e. omega arith))

-- groups by a test are no groups where it does not hold
groups_when : (b : Bool) (ws : List ℕ) (g : ℕ) → Option.unwrap_or (when b (groups_of_words ws g)) [] ≡ groups_of_words ws (cond b g 0)
unfolding when groups_of_words
groups_when true ws g = refl
groups_when false ws g = refl

module _ {refs rows : List ℕ} {used many named : ℕ} (table : Rows refs rows used many named) (name : ℕ → Name) where
  -- the pattern groups of the `all` under a term's labels
  pub groups_count : {t : ℕ} → t < many → pattern_groups (terms_of name refs rows used many) t
      ≡ groups_of_words (part refs (row_start rows (bare_of rows t) + 1) (row_end rows used many (bare_of rows t))) (groups_at rows t)
  unfolding node_of groups_at
  groups_count {t} l =
      let u = bare_of rows t in
      ap (λ node. Option.unwrap_or (groups_of node) []) (bare_law name refs rows used many table t l)
      ∙ ap (λ gs. Option.unwrap_or gs []) (groups_node (row_kind rows u) _ _ _ _)
      ∙ groups_when (eqb (row_kind rows u) 4) _ (row_extra rows u)
      ∙ ap (λ ws. groups_of_words ws (groups_at rows t)) (part_drop refs (row_start rows u) (row_end rows used many u) 1)
