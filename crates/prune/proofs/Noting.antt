-- Names noted: the lists of items one after the other, and the stamps that stand in the slice then.
use Prim.Native.Nat.{ℕ, suc, ◌+◌, ◌-◌, ◌≤◌, ◌<◌}
use native.Mathlib.Omega.{arith}
use mathlib.Core.Path.{◌≡◌, refl, sym, ◌∙◌, ap}
use mathlib.Core.Bool.{Bool, true, false, cond}
use mathlib.Core.List.Memᴰ
use mathlib.Core.List.{List, [], ◌∷◌, ◌++◌, map, Memᴰ}
use lib.Dec.{T, eqb, eqb→eq}
use lib.ListN.{length, get_or}
use borrow.Author.Tests.{eq-eqb}
use Rattle.model.specs.Lists.{keep, part}
use Rattle.model.specs.Reading.{most_names, most_records}
use Rattle.model.specs.declared.Asked.{Asked}
use Rattle.model.specs.declared.Counts.{Counts}
use Rattle.model.proofs.ListLaws.{cond_case, true_T, T_ext, any_intro, any_elim, map_intro, map_elim}
use Rattle.model.proofs.PartLaws.{part_cons, part_nil, part_elim}
use Rattle.records.specs.Columns.{uses_start, uses_end}
use Rattle.records.specs.States.{uses_at}
use Rattle.records.specs.Filing.{Records}
use Rattle.firing.specs.Met.{mark, marks}
use Rattle.firing.proofs.Marks.{mark_length, marks_nil, marks_cons, marks_length, marks_old, marks_out, marks_in}
use Rattle.prune.specs.Listing.{from, is_goal, goal_records, is_among, stamped}
use Rattle.prune.specs.Loops.{kept_column, stamp_column, stamp_words, noted, Notes}
use Rattle.prune.proofs.Picking.{kept_skip, kept_take, kept_end}

-- ---- one record

-- another slice of the same length
pub notes_then : {recs lists run v : List ℕ} {k : Counts} → Notes recs lists run k → length v ≡ length run → Notes recs lists v k
notes_then n e = let r = n.room in record { recorded = n.recorded; few = n.few; room = omega arith }

-- the free names of a record are names of the table
pub uses_small : {recs lists : List ℕ} {named records filed uses : ℕ} → Records recs lists named records filed uses
    → {i : ℕ} → i < records → {m : ℕ} → Memᴰ m (uses_at recs lists i) → m < named
uses_small {recs} {lists} r {i} h q =
    let a = r.uses_in i h in
    let b = r.few_uses in
    let c = r.lists_room in
    let p = part_elim {l = lists} {a = uses_start recs i} {e = uses_end recs i} (omega arith) q in
    let d = p.high in
    let s = r.use_words p.place (omega arith) in
    let e = p.is in
    omega arith

module _ {recs lists run : List ℕ} {k : Counts} (n : Notes recs lists run k) {i : ℕ} (h : i < k.records) where
  -- and so the words of their stamps
  pub words_in : {m : ℕ} → Memᴰ m (stamp_words recs lists i) → (stamp_column ≤ m) × (m < stamp_column + most_names)
  unfolding stamp_words
  words_in q =
      let (x, y, e) = map_elim (λ n. stamp_column + n) (uses_at recs lists i) q in
      let s = uses_small n.recorded h y in
      let f = n.few in
      (omega arith, omega arith)

  -- where they stand
  pub uses_place : {a e : ℕ} → a ≡ uses_start recs i → e ≡ uses_end recs i → (a ≤ e) × (e ≤ length lists)
  uses_place {a} {e} p q =
      let up = n.recorded.rising i h in
      let low = n.recorded.uses_in i h in
      let few = n.recorded.few_uses in
      let room = n.recorded.lists_room in
      (omega arith, omega arith)

  -- each has a word for its stamp
  pub use_word : {a e : ℕ} → a ≡ uses_start recs i → e ≡ uses_end recs i → (j : ℕ) → j < e → stamp_column + get_or lists j 0 < length run
  use_word {a} {e} p q j d =
      let low = n.recorded.uses_in i h in
      let w = n.recorded.use_words j (omega arith) in
      let m = n.few in
      let r = n.room in
      omega arith

-- those from place j up to e are left
pub record NamesTo (lists w₀ : List ℕ) (a e s : ℕ) (w : List ℕ) (j : ℕ) : Type 0 where
  pub low : a ≤ j
  pub high : j ≤ e
  pub same_length : length w ≡ length w₀
  pub left : marks s w₀ (map (λ n. stamp_column + n) (part lists a e)) ≡ marks s w (map (λ n. stamp_column + n) (part lists j e))

module _ {lists w₀ : List ℕ} {a e s : ℕ} where
  pub names_start : a ≤ e → NamesTo lists w₀ a e s w₀ a
  names_start h = record { low = omega arith; high = h; same_length = refl; left = refl }

  pub names_next : {w v : List ℕ} {j x : ℕ} → NamesTo lists w₀ a e s w j → j < e → e ≤ length lists → x ≡ get_or lists j 0
      → v ≡ mark s w (stamp_column + x) → NamesTo lists w₀ a e s v (j + 1)
  names_next {w} {v} {j} {x} f h b c d =
      let low = f.low in
      record {
        low = omega arith;
        high = omega arith;
        same_length = ap length d ∙ mark_length s w (stamp_column + x) ∙ f.same_length;
        left = f.left ∙ rw (part_cons lists j e h b, marks_cons, ← c, ← d);
      }

  pub names_end : {w : List ℕ} {j : ℕ} (recs : List ℕ) (i : ℕ) → a ≡ uses_start recs i → e ≡ uses_end recs i → NamesTo lists w₀ a e s w j → e ≤ j
      → w ≡ marks s w₀ (stamp_words recs lists i)
  unfolding stamp_words
  names_end {w} {j} recs i p q f h = rw (← p, ← q) (sym (f.left ∙ rw (part_nil lists j e h, marks_nil)))

-- ---- lists of words

pub noted_length : (s : ℕ) (w : List ℕ) (ls : List (List ℕ)) → length (noted s w ls) ≡ length w
unfolding noted
noted_length s w [] = refl
noted_length s w (l ∷ ls) = noted_length (s + 1) (marks s w l) ls ∙ marks_length s w l

pub noted_append : (s : ℕ) (w : List ℕ) (ls ms : List (List ℕ)) → noted s w (ls ++ ms) ≡ noted (s + length ls) (noted s w ls) ms
unfolding noted
noted_append s w [] ms = ap (λ (t : ℕ). noted t w ms) (omega arith)
noted_append s w (l ∷ ls) ms =
    noted_append (s + 1) (marks s w l) ls ms ∙ ap (λ (t : ℕ). noted t (noted (s + 1) (marks s w l) ls) ms) (omega arith)

-- a word that no list has stays
pub noted_out : (s : ℕ) (w : List ℕ) (ls : List (List ℕ)) (i : ℕ) → ((l : List ℕ) → Memᴰ l ls → Memᴰ i l → ⊥)
    → get_or (noted s w ls) i 0 ≡ get_or w i 0
unfolding noted
noted_out s w [] i o = refl
noted_out s w (l ∷ ls) i o =
    noted_out (s + 1) (marks s w l) ls i (λ m j k. o m (Memᴰ.tail j) k) ∙ marks_out s w l i (λ m. o l (Memᴰ.head refl) m)

-- a stamp stays
noted_old : (s : ℕ) (w : List ℕ) (ls : List (List ℕ)) (n : ℕ) → 0 < get_or w n 0 → get_or (noted s w ls) n 0 ≡ get_or w n 0
unfolding noted
noted_old s w [] n h = refl
noted_old s w (l ∷ ls) n h =
    let e = marks_old s w l n h in noted_old (s + 1) (marks s w l) ls n (omega arith) ∙ e

-- a number that a list has
has_elim : (n : ℕ) (l : List ℕ) → T (is_among n l) → Memᴰ n l
unfolding is_among
has_elim n l t = let (m, i, e) = any_elim (λ m. eqb m n) l t in Memᴰ.cast (sym (eqb→eq m n e)) i

has_intro : {n : ℕ} {l : List ℕ} → Memᴰ n l → T (is_among n l)
unfolding is_among
has_intro {n} m = any_intro (λ m. eqb m n) m (true_T (eq-eqb n n refl))

has_not : (n : ℕ) (l : List ℕ) → is_among n l ≡ false → Memᴰ n l → ⊥
has_not n l e m = absurd (rw e at (has_intro m))

-- the marks in a column that had none are the places of the lists
pub noted_stamped : (s : ℕ) (w : List ℕ) (ls : List (List ℕ)) (n : ℕ) → 0 < s → n < length w → get_or w n 0 ≡ 0
    → get_or (noted s w ls) n 0 ≡ stamped s ls n
unfolding noted stamped
noted_stamped s w [] n p h z = z
noted_stamped s w (l ∷ ls) n p h z = go (is_among n l) refl (noted_stamped (s + 1) (marks s w l) ls n (omega arith) (rw (marks_length s w l) h))
  where
    go : (b : Bool) → is_among n l ≡ b → (get_or (marks s w l) n 0 ≡ 0 → get_or (noted (s + 1) (marks s w l) ls) n 0 ≡ stamped (s + 1) ls n)
        → get_or (noted (s + 1) (marks s w l) ls) n 0 ≡ cond b s (stamped (s + 1) ls n)
    go true e ih =
        let m = has_elim n l (true_T e) in
        let f = marks_in s w p h z m in
        noted_old (s + 1) (marks s w l) ls n (omega arith) ∙ f
    go false e ih = ih (marks_out s w l n (λ m. has_not n l e m) ∙ z)

-- a name is in a list where its word is among those of the list
word_among : (l : List ℕ) (n : ℕ) → is_among (stamp_column + n) (map (λ m. stamp_column + m) l) ≡ is_among n l
word_among l n =
    T_ext
    (λ t.
    let (m, i, e) = map_elim (λ m. stamp_column + m) l (has_elim (stamp_column + n) (map (λ m. stamp_column + m) l) t) in
    let q : n ≡ m = omega arith in
    has_intro (Memᴰ.cast q i))
    (λ t. has_intro (map_intro (λ m. stamp_column + m) (has_elim n l t)))

-- the stamps of names are the marks of their words
pub stamps_words : (recs lists : List ℕ) (s : ℕ) (is : List ℕ) (n : ℕ)
    → stamped s (map (stamp_words recs lists) is) (stamp_column + n) ≡ stamped s (map (uses_at recs lists) is) n
unfolding stamped stamp_words
stamps_words recs lists s [] n = refl
stamps_words recs lists s (i ∷ is) n = rw (word_among (uses_at recs lists i) n, stamps_words recs lists (s + 1) is n)

-- stamps are no higher than the last place
pub stamped_low : (s : ℕ) (ls : List (List ℕ)) (n : ℕ) → 0 < s → stamped s ls n < s + length ls
unfolding stamped
stamped_low s [] n p = omega arith
stamped_low s (l ∷ ls) n p =
    let ih = stamped_low (s + 1) ls n (omega arith) in cond_case (λ x. x < s + suc (length ls)) (is_among n l) (omega arith) (omega arith)

-- ---- the kept facts

-- those from place j on are left
pub record FactsTo (recs lists w₀ : List ℕ) (count : ℕ) (w : List ℕ) (j : ℕ) : Type 0 where
  pub high : j ≤ count
  pub same_length : length w ≡ length w₀
  pub left : noted 1 w₀ (map (stamp_words recs lists) (part w₀ kept_column (kept_column + count)))
      ≡ noted (j + 1) w (map (stamp_words recs lists) (part w₀ (kept_column + j) (kept_column + count)))
  pub same : (i : ℕ) → i < stamp_column → get_or w i 0 ≡ get_or w₀ i 0

pub facts_start : (recs lists w : List ℕ) (count : ℕ) → FactsTo recs lists w count w 0
facts_start recs lists w count = record { high = omega arith; same_length = refl; left = refl; same = λ i h. refl }

module _ {recs lists w₀ : List ℕ} {k : Counts} {count : ℕ} {w : List ℕ} {j : ℕ} (n : Notes recs lists w₀ k) (few : count ≤ most_records)
    (f : FactsTo recs lists w₀ count w j) where
  -- the fact at place j is still there
  pub fact_there : {x : ℕ} → x ≡ get_or w (kept_column + j) 0 → x ≡ get_or w₀ (kept_column + j) 0
  fact_there e = e ∙ f.same (kept_column + j) (let a = f.high in omega arith)

  pub facts_next : {x : ℕ} {v : List ℕ} → j < count → x ≡ get_or w (kept_column + j) 0 → x < k.records
      → v ≡ marks (j + 1) w (stamp_words recs lists x) → FactsTo recs lists w₀ count v (j + 1)
  unfolding noted
  facts_next {x} {v} h e s m =
      let room = n.room in
      let z : kept_column + j + 1 ≡ kept_column + (j + 1) = omega arith in
      record {
        high = omega arith;
        same_length = ap length m ∙ marks_length (j + 1) w (stamp_words recs lists x) ∙ f.same_length;
        left = f.left ∙ rw (part_cons w₀ (kept_column + j) (kept_column + count) (omega arith) (omega arith), ← (fact_there e), z, m);
        same = λ i l.
            ap (λ (u : List ℕ). get_or u i 0) m
            ∙ marks_out (j + 1) w (stamp_words recs lists x) i (λ q. let a = (words_in n s q).0 in omega arith) ∙ f.same i l;
      }

  pub facts_end : count ≤ j → w ≡ noted 1 w₀ (map (stamp_words recs lists) (part w₀ kept_column (kept_column + count)))
  unfolding noted
  facts_end h = sym (f.left ∙ rw (part_nil w₀ (kept_column + j) (kept_column + count) (omega arith)))

-- ---- the roots of the query

-- those from record i on are left
pub record RootsTo (recs lists : List ℕ) (k : Counts) (a : Asked) (w₀ : List ℕ) (m : ℕ) (w : List ℕ) (s i : ℕ) : Type 0 where
  pub high : i ≤ k.records
  pub low : s ≤ m + i
  pub same_length : length w ≡ length w₀
  pub left : noted (m + 1) w₀ (map (stamp_words recs lists) (goal_records recs k a))
      ≡ noted (s + 1) w (map (stamp_words recs lists) (keep (is_goal recs a) (from i (k.records - i))))
  pub stamps : m + length (goal_records recs k a) ≡ s + length (keep (is_goal recs a) (from i (k.records - i)))

pub roots_start : (recs lists : List ℕ) (k : Counts) (a : Asked) (w : List ℕ) (m : ℕ) → RootsTo recs lists k a w m w m 0
roots_start recs lists k a w m =
    let e : k.records - 0 ≡ k.records = omega arith in
    record { high = omega arith; low = omega arith; same_length = refl; left = rw e; stamps = rw e }

module _ {recs lists : List ℕ} {k : Counts} {a : Asked} {w₀ : List ℕ} {m : ℕ} {w : List ℕ} {s i : ℕ} (f : RootsTo recs lists k a w₀ m w s i) where
  -- another record
  pub roots_skip : {b : Bool} → i < k.records → b ≡ is_goal recs a i → b ≡ false → RootsTo recs lists k a w₀ m w s (i + 1)
  roots_skip h e z =
      let low = f.low in
      let next = kept_skip (is_goal recs a) i k.records h (sym e ∙ z) in
      record { high = omega arith; low = omega arith; same_length = f.same_length; left = f.left ∙ rw next; stamps = f.stamps ∙ rw next }

  -- a root of the query
  pub roots_next : {b : Bool} {v : List ℕ} → i < k.records → b ≡ is_goal recs a i → b ≡ true → v ≡ marks (s + 1) w (stamp_words recs lists i)
      → RootsTo recs lists k a w₀ m v (s + 1) (i + 1)
  unfolding noted
  roots_next {b} {v} h e z q =
      let low = f.low in
      let next = kept_take (is_goal recs a) i k.records h (sym e ∙ z) in
      record {
        high = omega arith;
        low = omega arith;
        same_length = ap length q ∙ marks_length (s + 1) w (stamp_words recs lists i) ∙ f.same_length;
        left = f.left ∙ rw (next, q);
        stamps = f.stamps ∙ rw next (omega arith);
      }

  pub roots_end : k.records ≤ i → w ≡ noted (m + 1) w₀ (map (stamp_words recs lists) (goal_records recs k a))
  unfolding noted
  roots_end h = sym (f.left ∙ rw (kept_end (is_goal recs a) i k.records h))

  pub roots_stamps : k.records ≤ i → s ≡ m + length (goal_records recs k a)
  roots_stamps h =
      let e = f.stamps in
      let d = ap length (kept_end (is_goal recs a) i k.records h) in
      omega arith
