-- Entries on plain lists: the disjuncts of words one after the other, and how many entries disjuncts take.
use Prim.Native.Nat.{ℕ, suc, ◌+◌, ◌-◌, ◌%◌, max, ◌≤◌, ◌<◌}
use native.Mathlib.Omega.{arith}
use mathlib.Core.Path.{◌≡◌, refl, sym, ap, ap₂, ◌∙◌}
use mathlib.Core.Logic.{◌⊎◌, inl, inr, ⊎_elim}
use mathlib.Core.List.Memᴰ
use mathlib.Core.List.{List, [], ◌∷◌, ◌++◌, map, map-append, append-nil, Memᴰ}
use lib.ListN.{length, get_or, set, length-append, length-set}
use lib.Seq.{get_or-append-add, get_or-set_same, get_or-set_other}
use borrow.Author.Tests.{lt-ltb, le-ltb}
use Rattle.model.specs.Lists.{sum, part}
use Rattle.model.specs.Names.{Name, from_list}
use Rattle.model.specs.Summaries.{entries}
use Rattle.model.proofs.PartLaws.{part_at, part_elim, part_last, part_length, part_nil, part_same, part_snoc}
use Rattle.terms.proofs.Laws.{equal, below}
use Rattle.triggers.specs.Entries.{entry_number, before_first, disjuncts_of_words, disjuncts_of, Entries}

-- the last word of a list, if it has one, ends its disjunct
abbrev Ends : List ℕ → Type 0
Ends ws = (i : ℕ) → i + 1 ≡ length ws → 4096 ≤ get_or ws i 0

-- so does that of the list after its first word
ends_tail : (w : ℕ) (ws : List ℕ) → Ends (w ∷ ws) → Ends ws
ends_tail w ws c i e = c (suc i) (omega arith)

-- numbers go before the first disjunct alone
before_append : (ns : List ℕ) (x y : List (List ℕ)) → (x ≡ [] → ⊥) → before_first ns (x ++ y) ≡ before_first ns x ++ y
unfolding before_first
before_append ns [] y n = absurd (n refl)
before_append ns (d ∷ ds) y n = refl

-- a disjunct with numbers before it is there
before_some : (ns : List ℕ) (x : List (List ℕ)) → length (before_first ns x) ≡ 0 → ⊥
unfolding before_first
before_some ns [] e = omega arith
before_some ns (d ∷ ds) e = omega arith

-- words hold a disjunct
some_disjunct : (w : ℕ) (ws : List ℕ) → disjuncts_of_words (w ∷ ws) ≡ [] → ⊥
unfolding disjuncts_of_words
some_disjunct w ws = ⊎_elim
    (λ l. rw (lt-ltb w 4096 l) (λ e. before_some (entry_number w) (disjuncts_of_words ws) (ap length e)))
    (λ l. rw (le-ltb w 4096 l) (λ (e : entry_number w ∷ disjuncts_of_words ws ≡ []). let z = ap length e in omega arith))
    (below w 4096)

-- a word within a disjunct leaves the disjuncts after its own
before_more : (w : ℕ) (ws vs : List ℕ) → disjuncts_of_words (ws ++ vs) ≡ disjuncts_of_words ws ++ disjuncts_of_words vs → w < 4096 → Ends (w ∷ ws)
    → before_first (entry_number w) (disjuncts_of_words (ws ++ vs)) ≡ before_first (entry_number w) (disjuncts_of_words ws) ++ disjuncts_of_words vs
before_more w [] vs ih l c = absurd (let z : 4096 ≤ w = c 0 refl in omega arith)
before_more w (v ∷ ws) vs ih l c = ap (before_first (entry_number w)) ih
    ∙ before_append (entry_number w) (disjuncts_of_words (v ∷ ws)) (disjuncts_of_words vs) (some_disjunct v ws)

-- the disjuncts of words after words whose last ends its disjunct
disjuncts_append : (ws vs : List ℕ) → Ends ws → disjuncts_of_words (ws ++ vs) ≡ disjuncts_of_words ws ++ disjuncts_of_words vs
unfolding disjuncts_of_words
disjuncts_append [] vs c = refl
disjuncts_append (w ∷ ws) vs c = ⊎_elim
    (λ l. rw (lt-ltb w 4096 l) (before_more w ws vs (disjuncts_append ws vs (ends_tail w ws c)) l c))
    (λ l. rw (le-ltb w 4096 l) (ap (entry_number w ∷◌) (disjuncts_append ws vs (ends_tail w ws c))))
    (below w 4096)

-- the sets of entries after entries whose last ends its disjunct
pub sets_append : (name : ℕ → Name) {named : ℕ} (ws vs : List ℕ) → Entries named ws
    → disjuncts_of name (ws ++ vs) ≡ disjuncts_of name ws ++ disjuncts_of name vs
unfolding disjuncts_of
sets_append name ws vs c = rw (disjuncts_append ws vs c.closed, map-append)

-- an entry with a number
entry_is : (w n : ℕ) → w % 4096 ≡ n → n < 2048 → entry_number w ≡ n ∷ []
unfolding entry_number
entry_is w n e l = rw (e, lt-ltb n 2048 l)

-- a marked entry after numbers is one disjunct
block_words : (ns : List ℕ) (l : ℕ) → l < 2048 → ((n : ℕ) → Memᴰ n ns → n < 2048) → disjuncts_of_words (ns ++ ((l + 4096) ∷ [])) ≡ (ns ++ (l ∷ [])) ∷ []
unfolding disjuncts_of_words before_first
block_words [] l h s =
    let e : (l + 4096) % 4096 ≡ l = omega arith in
    rw (le-ltb (l + 4096) 4096 (omega arith), entry_is (l + 4096) l e h)
block_words (n ∷ ns) l h s =
    let k = s n (Memᴰ.head refl) in
    let e : n % 4096 ≡ n = omega arith in
    rw (lt-ltb n 4096 (omega arith), entry_is n n e k, block_words ns l h (λ m x. s m (Memᴰ.tail x)))

-- ---- a disjunct in a slice

module _ (lists : List ℕ) (at end named : ℕ) (few : named ≤ 2048) (long : end ≤ length lists) (small : (i : ℕ) → at ≤ i → i < end → get_or lists i 0 < named) where
  -- the slice with the last entry marked
  abbrev marked : List ℕ
  marked = set lists (end - 1) (get_or lists (end - 1) 0 + 4096)

  -- it is as long
  marked_long : end ≤ length marked
  marked_long = rw (length-set lists (end - 1) (get_or lists (end - 1) 0 + 4096)) long

  module _ (some : at < end) where
    -- the last entry
    marked_last : get_or marked (end - 1) 0 ≡ get_or lists (end - 1) 0 + 4096
    marked_last = get_or-set_same lists (end - 1) (get_or lists (end - 1) 0 + 4096) 0 (omega arith)

    -- the entries before it
    marked_other : (i : ℕ) → (i ≡ end - 1 → ⊥) → get_or marked i 0 ≡ get_or lists i 0
    marked_other i n = get_or-set_other lists (end - 1) i (get_or lists (end - 1) 0 + 4096) 0 n

    -- the entries are one disjunct, of the names that stood there
    pub block_sets : (name : ℕ → Name) → disjuncts_of name (part marked at end) ≡ from_list (map name (part lists at end)) ∷ []
    unfolding disjuncts_of
    block_sets name =
        let same : part marked at (end - 1) ≡ part lists at (end - 1) = part_same lists marked (end - 1 - at) at (end - 1) refl (omega arith)
        (omega (arith, marked_long)) (λ i l. marked_other i (λ e. omega arith)) in
        ap (map (λ ns. from_list (map name ns)))
        (ap disjuncts_of_words (part_last marked at end some marked_long ∙ ap₂ (λ ws w. ws ++ (w ∷ [])) same marked_last)
        ∙ block_words (part lists at (end - 1)) (get_or lists (end - 1) 0) (omega (arith, small (end - 1) (omega arith) (omega arith)))
        (λ n m.
        let p = part_elim {l = lists} {a = at} {e = end - 1} (omega arith) m in
        let hi = p.high in
        rw (← p.is) (omega (arith, small p.place p.low (omega arith))))
        ∙ ap (◌∷ []) (sym (part_last lists at end some long)))

    -- they are entries
    pub block_entries : Entries named (part marked at end)
    block_entries = record {
      small = λ w m. low w (part_elim {l = marked} {a = at} {e = end} marked_long m).place (part_elim {l = marked} {a = at} {e = end} marked_long m).low
          (part_elim {l = marked} {a = at} {e = end} marked_long m).high (part_elim {l = marked} {a = at} {e = end} marked_long m).is;
      flagged = λ w m. high w (part_elim {l = marked} {a = at} {e = end} marked_long m).place (part_elim {l = marked} {a = at} {e = end} marked_long m).low
          (part_elim {l = marked} {a = at} {e = end} marked_long m).high (part_elim {l = marked} {a = at} {e = end} marked_long m).is;
      closed = λ i e.
          let q : i ≡ end - 1 - at = omega (arith, part_length marked at end marked_long) in
          rw (q, part_at marked at end (end - 1) (omega arith) (omega arith), marked_last) (omega arith);
    }
      where
        low : (w i : ℕ) → at ≤ i → i < end → get_or marked i 0 ≡ w → (w % 4096 < named) ⊎ (w % 4096 ≡ 2048)
        low w i a b e = ⊎_elim
            (λ q. inl (omega (arith, small i a b, sym e ∙ ap (λ j. get_or marked j 0) q ∙ marked_last, ap (λ j. get_or lists j 0) q)))
            (λ n. inl (omega (arith, small i a b, sym e ∙ marked_other i n)))
            (equal i (end - 1))

        high : (w i : ℕ) → at ≤ i → i < end → get_or marked i 0 ≡ w → w < 8192
        high w i a b e = ⊎_elim
            (λ q. omega (arith, small i a b, sym e ∙ ap (λ j. get_or marked j 0) q ∙ marked_last, ap (λ j. get_or lists j 0) q))
            (λ n. omega (arith, small i a b, sym e ∙ marked_other i n))
            (equal i (end - 1))

-- the word of an empty disjunct
empty_words : (lists : List ℕ) (at : ℕ) → at < length lists → part (set lists at 6144) at (at + 1) ≡ 6144 ∷ []
empty_words lists at h =
    part_snoc (set lists at 6144) at at (omega arith) (rw (length-set lists at 6144) h)
    ∙ ap₂ (λ ws w. ws ++ (w ∷ [])) (part_nil (set lists at 6144) at at (omega arith)) (get_or-set_same lists at 6144 0 h)

-- is one disjunct without names
pub empty_sets : (name : ℕ → Name) (lists : List ℕ) (at : ℕ) → at < length lists
    → disjuncts_of name (part (set lists at 6144) at (at + 1)) ≡ from_list (map name []) ∷ []
unfolding disjuncts_of disjuncts_of_words entry_number
empty_sets name lists at h = rw (empty_words lists at h)

-- and an entry
pub empty_entries : (named : ℕ) (lists : List ℕ) (at : ℕ) → at < length lists → Entries named (part (set lists at 6144) at (at + 1))
empty_entries named lists at h = rw (empty_words lists at h) (record {
  small = λ w m. inr (one w m);
  flagged = λ w m. few w m;
  closed = λ i e. let z : i ≡ 0 = omega arith in rw z (omega arith);
})
  where
    one : (w : ℕ) → Memᴰ w (6144 ∷ []) → w % 4096 ≡ 2048
    one w (Memᴰ.head e) = rw e
    one w (Memᴰ.tail m) = absurd (Memᴰ.not-nil m)

    few : (w : ℕ) → Memᴰ w (6144 ∷ []) → w < 8192
    few w (Memᴰ.head e) = omega arith
    few w (Memᴰ.tail m) = absurd (Memᴰ.not-nil m)

-- no word is entries
pub no_entries : (named : ℕ) → Entries named []
no_entries named = record {
  small = λ w m. absurd (Memᴰ.not-nil m);
  flagged = λ w m. absurd (Memᴰ.not-nil m);
  closed = λ i e. omega arith;
}

-- entries after entries are entries
pub entries_then : {named : ℕ} (ws vs : List ℕ) → Entries named ws → Entries named vs → Entries named (ws ++ vs)
entries_then {named} ws [] a b = rw (append-nil ws) a
entries_then {named} ws (v ∷ vs) a b = record {
  small = λ w m. ⊎_elim (a.small w) (b.small w) (Memᴰ.append_cases ws m);
  flagged = λ w m. ⊎_elim (a.flagged w) (b.flagged w) (Memᴰ.append_cases ws m);
  closed = λ i e.
      let n = length-append ws (v ∷ vs) in
      let q : i ≡ length ws + (i - length ws) = omega arith in
      rw (q, get_or-append-add ws (v ∷ vs) (i - length ws) 0) (b.closed (i - length ws) (omega arith));
}

-- ---- how many entries

-- disjuncts after disjuncts
pub entries_append : (s t : List (List Name)) → entries (s ++ t) ≡ entries s + entries t
unfolding entries sum
entries_append [] t = omega arith
entries_append (x ∷ s) t = omega (arith, entries_append s t)

-- one disjunct
pub entries_one : (s : List Name) → entries (s ∷ []) ≡ max 1 (length s)
unfolding entries sum
entries_one s = omega arith

-- each disjunct takes an entry or more
pub entries_many : (sets : List (List Name)) → length sets ≤ entries sets
entries_many [] = omega arith
entries_many (s ∷ sets) = omega (arith, entries_many sets, entries_append (s ∷ []) sets, entries_one s)
