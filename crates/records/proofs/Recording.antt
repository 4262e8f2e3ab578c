-- The background and the roots stay where the rows of the records, the words of their lists and their names do.
use Prim.Native.Nat.{ℕ, zero, suc, ◌+◌, ◌-◌, ◌*◌, ◌%◌, ◌≤◌, ◌<◌}
use native.Mathlib.Omega.{arith}
use mathlib.Core.Path.{◌≡◌, refl, sym, ap, ap₂, ◌∙◌}
use mathlib.Core.Bool.{Bool, true, false, cond}
use mathlib.Core.Logic.{⊎_elim}
use mathlib.Core.List.Memᴰ
use mathlib.Core.List.{List, [], ◌∷◌, ◌++◌, map, map-append, Memᴰ}
use lib.ListN.{length, get_or, length-append}
use lib.Dec.{ltb}
use borrow.Author.Tests.{ltb-true}
use Rattle.model.specs.Names.{Name, from_list}
use Rattle.model.specs.Reading.{most_records}
use Rattle.model.proofs.ListLaws.{map_cong}
use Rattle.model.proofs.PartLaws.{part_agree, part_elim}
use Rattle.triggers.specs.Entries.{disjuncts_of, disjuncts_of_words, before_first, entry_number, entries_base, last_flag, no_name}
use Rattle.records.specs.Writing.{row_columns}
use Rattle.records.specs.Columns.{record_word, record_kind, record_name, uses_start, uses_end, entries_start, entries_end, retain_kind, entry_word}
use Rattle.records.specs.States.{uses_at, entries_at, free_at, fact_at, decl_at, summary_at, root_at, decls_of, roots_of, hides_at, hides_of, hidden_of}
use Rattle.records.specs.Filing.{Records}

-- the name of an entry
entry_stays : (f g : ℕ → Name) (w : ℕ) → (w % last_flag < no_name → f (w % last_flag) ≡ g (w % last_flag)) → map f (entry_number w) ≡ map g (entry_number w)
unfolding entry_number
entry_stays f g w h = go (ltb (w % last_flag) no_name) refl
  where
    go : (b : Bool) → ltb (w % last_flag) no_name ≡ b → map f (cond b (w % last_flag ∷ []) []) ≡ map g (cond b (w % last_flag ∷ []) [])
    go true e = ap (◌∷ []) (h (ltb-true (w % last_flag) no_name e))
    go false e = refl

-- numbers at the front of the first disjunct
front_stays : (f g : ℕ → Name) (ns : List ℕ) (ds : List (List ℕ)) → map f ns ≡ map g ns → map (map f) ds ≡ map (map g) ds
    → map (map f) (before_first ns ds) ≡ map (map g) (before_first ns ds)
unfolding before_first
front_stays f g ns [] p q = ap (◌∷ []) p
front_stays f g ns (d ∷ ds) p q =
    let a : map f d ≡ map g d = cc in
    let b : map (map f) ds ≡ map (map g) ds = cc in
    ap₂ ◌∷◌ (map-append f ns d ∙ ap₂ ◌++◌ p a ∙ sym (map-append g ns d)) b

-- the disjuncts with an entry in front, the last of its disjunct or not
abbrev with_entry : ℕ → List (List ℕ) → Bool → List (List ℕ)
with_entry w ds more = cond more (before_first (entry_number w) ds) (entry_number w ∷ ds)

module _ (f g : ℕ → Name) where
  -- the names of disjuncts, as numbers
  numbers_stay : (ws : List ℕ) → ((w : ℕ) → Memᴰ w ws → w % last_flag < no_name → f (w % last_flag) ≡ g (w % last_flag))
      → map (map f) (disjuncts_of_words ws) ≡ map (map g) (disjuncts_of_words ws)
  unfolding disjuncts_of_words
  numbers_stay [] h = refl
  numbers_stay (w ∷ ws) h =
      go (entry_stays f g w (h w (Memᴰ.head refl))) (numbers_stay ws (λ v k. h v (Memᴰ.tail k))) (ltb w last_flag)
    where
      go : map f (entry_number w) ≡ map g (entry_number w) → map (map f) (disjuncts_of_words ws) ≡ map (map g) (disjuncts_of_words ws) → (b : Bool)
          → map (map f) (with_entry w (disjuncts_of_words ws) b) ≡ map (map g) (with_entry w (disjuncts_of_words ws) b)
      go e more true = front_stays f g (entry_number w) (disjuncts_of_words ws) e more
      go e more false = ap₂ ◌∷◌ e more

  -- the disjuncts of entries stay where the names of these do
  pub disjuncts_stay : (ws : List ℕ) → ((w : ℕ) → Memᴰ w ws → w % last_flag < no_name → f (w % last_flag) ≡ g (w % last_flag))
      → disjuncts_of f ws ≡ disjuncts_of g ws
  unfolding disjuncts_of
  disjuncts_stay ws h = split f (disjuncts_of_words ws) ∙ ap (map from_list) (numbers_stay ws h) ∙ sym (split g (disjuncts_of_words ws))
    where
      split : (f : ℕ → Name) (ds : List (List ℕ)) → map (λ ns. from_list (map f ns)) ds ≡ map from_list (map (map f) ds)
      split f [] = refl
      split f (d ∷ ds) = ap (λ l. from_list (map f d) ∷ l) (split f ds)

-- ---- the names that are hidden

-- the number that a record hides is that of its name, and it is no retain
hide_named : (recs : List ℕ) (i kind m : ℕ) → Memᴰ m (hides_at recs i kind) → (retain_kind < kind) × (m ≡ record_name recs i)
unfolding hides_at
hide_named recs i zero m k = absurd (Memᴰ.not-nil k)
hide_named recs i (suc zero) m k = absurd (Memᴰ.not-nil k)
hide_named recs i (suc (suc zero)) m k = absurd (Memᴰ.not-nil k)
hide_named recs i (suc (suc (suc zero))) m k = absurd (Memᴰ.not-nil k)
hide_named recs i (suc (suc (suc (suc zero)))) m k = absurd (Memᴰ.not-nil k)
hide_named recs i (suc (suc (suc (suc (suc j))))) m k = (omega arith, Memᴰ.eq_of_singleton k)

-- hidden names are names of the table
pub hides_known : {recs lists : List ℕ} {named records filed uses : ℕ} → Records recs lists named records filed uses → (n : ℕ) → n ≤ records
    → (m : ℕ) → Memᴰ m (hides_of recs n) → m < named
unfolding hides_of
hides_known r zero h m k = absurd (Memᴰ.not-nil k)
hides_known {recs} r (suc n) h m k = ⊎_elim
    (λ q. hides_known r n (omega arith) m q)
    (λ q.
    let (l, e) = hide_named recs n (record_kind recs n) m q in
    omega (arith, r.named_in n (omega arith) (λ z. omega arith)))
    (Memᴰ.append_cases (hides_of recs n) k)

-- names, rows and words in use that are as before
pub record Agree (name name' : ℕ → Name) (recs lists recs' lists' : List ℕ) (named records filed uses : ℕ) : Type 0 where
  pub same : (n : ℕ) → n < named → name' n ≡ name n
  pub rows : (c i : ℕ) → c < row_columns → i < records → record_word recs' (c * most_records) i ≡ record_word recs (c * most_records) i
  pub lists_length : length lists' ≡ length lists
  pub use_words : (j : ℕ) → j < uses → get_or lists' j 0 ≡ get_or lists j 0
  pub entry_words : (e : ℕ) → e < filed → entry_word lists' e ≡ entry_word lists e

module _ {name name' : ℕ → Name} {recs lists recs' lists' : List ℕ} {named records filed uses : ℕ}
    (a : Agree name name' recs lists recs' lists' named records filed uses)
    (r : Records recs lists named records filed uses) where
  -- the name of a record
  name_stays : (i : ℕ) → i < records → (record_kind recs i ≡ retain_kind → ⊥) → name' (record_name recs' i) ≡ name (record_name recs i)
  name_stays i h q = rw (a.rows 2 i (omega arith) h) (a.same (record_name recs i) (r.named_in i h q))

  -- the free names of a record
  free_stays : (i : ℕ) → i < records → free_at name' recs' lists' i ≡ free_at name recs lists i
  unfolding free_at
  free_stays i h =
      let s = uses_start recs i in
      let e = uses_end recs i in
      let l : e ≤ uses = r.uses_in i h in
      let room : e ≤ length lists = omega (arith, r.lists_room, r.few_uses) in
      let room' : e ≤ length lists' = omega (arith, a.lists_length) in
      let same : (n : ℕ) → Memᴰ n (uses_at recs lists i) → name' n ≡ name n =
      λ n m. let p = part_elim room m in a.same n (rw (← p.is) (r.use_words p.place (omega (arith, p.high)))) in
      rw (a.rows 5 i (omega arith) h, a.rows 6 i (omega arith) h, part_agree lists lists' (e - s) s e refl room room' (λ j x y. a.use_words j (omega arith)))
      (ap from_list (map_cong name' name (uses_at recs lists i) same))

  -- the disjuncts of a record
  pub sets_stay : (i : ℕ) → i < records → disjuncts_of name' (entries_at recs' lists' i) ≡ disjuncts_of name (entries_at recs lists i)
  sets_stay i h =
      let s = entries_base + entries_start recs i in
      let e = entries_base + entries_end recs i in
      let l : entries_end recs i ≤ filed = r.entries_in i h in
      let room : e ≤ length lists = omega (arith, r.lists_room, r.few_entries) in
      let room' : e ≤ length lists' = omega (arith, a.lists_length) in
      let word : (j : ℕ) → s ≤ j → j < e → get_or lists' j 0 ≡ get_or lists j 0 =
      λ j x y. let z : entries_base + (j - entries_base) ≡ j = omega arith in rw z at (a.entry_words (j - entries_base) (omega arith)) in
      let same : (w : ℕ) → Memᴰ w (entries_at recs lists i) → w % last_flag < no_name → name' (w % last_flag) ≡ name (w % last_flag) =
      λ w m k.
      let p = part_elim room m in
      let x = p.low in
      let y = p.high in
      let z : entries_base + (p.place - entries_base) ≡ p.place = omega arith in
      let is = ap (λ v. get_or lists v 0) z ∙ p.is in
      ⊎_elim
      (λ (q : entry_word lists (p.place - entries_base) % last_flag < named). a.same (w % last_flag) (rw is at q))
      (λ (q : entry_word lists (p.place - entries_base) % last_flag ≡ no_name). absurd (omega (arith, ap (λ v. v % last_flag) is)))
      (r.entry_words (p.place - entries_base) (omega arith)) in
      rw (a.rows 7 i (omega arith) h, a.rows 8 i (omega arith) h, part_agree lists lists' (e - s) s e refl room room' word)
      (disjuncts_stay name' name (entries_at recs lists i) same)

  -- what a record adds to the background
  summary_stays : (i : ℕ) → i < records → (kind : ℕ) → record_kind recs i ≡ kind → summary_at name' recs' lists' i kind ≡ summary_at name recs lists i kind
  unfolding summary_at decl_at fact_at
  summary_stays i h zero e = rw (a.rows 1 i (omega arith) h, a.rows 4 i (omega arith) h, a.rows 9 i (omega arith) h, a.rows 10 i (omega arith) h, free_stays i h, sets_stay i h, name_stays i h (λ q. omega arith))
  summary_stays i h (suc zero) e = rw (a.rows 1 i (omega arith) h, name_stays i h (λ q. omega arith))
  summary_stays i h (suc (suc zero)) e = rw (a.rows 1 i (omega arith) h, free_stays i h, name_stays i h (λ q. omega arith))
  summary_stays i h (suc (suc (suc zero))) e = refl
  summary_stays i h (suc (suc (suc (suc k)))) e = refl

  -- the root that a record is
  root_stays : (i : ℕ) → i < records → (kind : ℕ) → record_kind recs i ≡ kind → root_at name' recs' lists' i kind ≡ root_at name recs lists i kind
  unfolding root_at
  root_stays i h zero e = refl
  root_stays i h (suc zero) e = refl
  root_stays i h (suc (suc zero)) e = refl
  root_stays i h (suc (suc (suc zero))) e = refl
  root_stays i h (suc (suc (suc (suc zero)))) e = rw (a.rows 1 i (omega arith) h, a.rows 4 i (omega arith) h, free_stays i h, name_stays i h (λ q. omega arith))
  root_stays i h (suc (suc (suc (suc (suc k))))) e = refl

  -- the background
  pub decls_stay : (n : ℕ) → n ≤ records → decls_of name' recs' lists' n ≡ decls_of name recs lists n
  unfolding decls_of
  decls_stay zero h = refl
  decls_stay (suc n) h =
      rw (a.rows 0 n (omega arith) (omega arith)) (ap₂ ◌++◌ (decls_stay n (omega arith)) (summary_stays n (omega arith) (record_kind recs n) refl))

  -- the roots
  pub roots_stay : (n : ℕ) → n ≤ records → roots_of name' recs' lists' n ≡ roots_of name recs lists n
  unfolding roots_of
  roots_stay zero h = refl
  roots_stay (suc n) h =
      rw (a.rows 0 n (omega arith) (omega arith)) (ap₂ ◌++◌ (roots_stay n (omega arith)) (root_stays n (omega arith) (record_kind recs n) refl))

  -- the number that a record hides
  hide_stays : (i : ℕ) → i < records → (kind : ℕ) → hides_at recs' i kind ≡ hides_at recs i kind
  unfolding hides_at
  hide_stays i h zero = refl
  hide_stays i h (suc zero) = refl
  hide_stays i h (suc (suc zero)) = refl
  hide_stays i h (suc (suc (suc zero))) = refl
  hide_stays i h (suc (suc (suc (suc zero)))) = refl
  hide_stays i h (suc (suc (suc (suc (suc k))))) = ap (◌∷ []) (a.rows 2 i (omega arith) h)

  -- those that the records hide
  pub hides_stay : (n : ℕ) → n ≤ records → hides_of recs' n ≡ hides_of recs n
  unfolding hides_of
  hides_stay zero h = refl
  hides_stay (suc n) h =
      rw (a.rows 0 n (omega arith) (omega arith)) (ap₂ ◌++◌ (hides_stay n (omega arith)) (hide_stays n (omega arith) (record_kind recs n)))

  -- the hidden names
  pub hidden_stay : (n : ℕ) → n ≤ records → hidden_of name' recs' n ≡ hidden_of name recs n
  hidden_stay n h =
      rw (hides_stay n h) (map_cong name' name (hides_of recs n) (λ m k. a.same m (hides_known r n h m k)))

-- ---- how many records there are

module _ (name : ℕ → Name) (recs lists : List ℕ) where
  -- a record is a hide line, one of the background or a root
  one_each : (i kind : ℕ) → length (hides_at recs i kind) + (length (summary_at name recs lists i kind) + length (root_at name recs lists i kind)) ≡ 1
  unfolding hides_at summary_at root_at
  one_each i zero = refl
  one_each i (suc zero) = refl
  one_each i (suc (suc zero)) = refl
  one_each i (suc (suc (suc zero))) = refl
  one_each i (suc (suc (suc (suc zero)))) = refl
  one_each i (suc (suc (suc (suc (suc k))))) = refl

  -- the hide lines, the background and the roots are as many as the records
  pub records_length : (n : ℕ) → length (hides_of recs n) + (length (decls_of name recs lists n) + length (roots_of name recs lists n)) ≡ n
  unfolding hides_of decls_of roots_of
  records_length zero = refl
  records_length (suc n) =
      omega (
        arith,
        records_length n,
        one_each n (record_kind recs n),
        length-append (hides_of recs n) (hides_at recs n (record_kind recs n)),
        length-append (decls_of name recs lists n) (summary_at name recs lists n (record_kind recs n)),
        length-append (roots_of name recs lists n) (root_at name recs lists n (record_kind recs n)),
      )
