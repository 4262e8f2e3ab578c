-- Laws of entering a name into a table: the index with one number more, and the table with one name more.
use Prim.Native.Nat.{ℕ, zero, suc, ◌+◌, ◌-◌, ◌%◌, ◌≤◌, ◌<◌}
use native.Mathlib.Numerals.{add-one}
use native.Mathlib.Omega.{arith}
use mathlib.Core.Path.{◌≡◌, refl, sym, ap, ap₂, ◌∙◌}
use mathlib.Core.Logic.{◌⊎◌, inl, inr, ⊎_elim}
use mathlib.Core.List.{List, [], ◌∷◌, ◌++◌, append_assoc}
use lib.ListN.{length, take, drop, get_or, set, length-append, length-drop, length-set, get_or-append}
use lib.Seq.{length-take-le, get_or-append-add, get_or_at, get_or-set_same, get_or-set_other, get_or-take, get_or-drop, ext_get_or}
use Rattle.model.specs.Lists.{part}
use Rattle.model.specs.Names.{order}
use Rattle.std.specs.declared.cmp.Ordering.TheVariants.{Less as Before}
use Rattle.model.proofs.SetLaws.{order_flip}
use Rattle.std.specs.Prelude.{Err}
use Rattle.names.specs.Known.{head_code, excluded_mark, head_word}
use Rattle.names.specs.Table.{name_code, name_of, ranked, table_names, Table, look_up, index_with, entered}
use Rattle.names.proofs.Laws.{Stands, under, level, over, stands, last_or, below_or, name_at, Lacks, found_missing}
use Rattle.names.proofs.Coded.{word_code}

-- ---- the index with one number more

module _ (w : List ℕ) (named rank : ℕ) (h : rank ≤ named) (room : 4096 + named < length w) where
  -- the ranks before
  front : List ℕ
  front = take (4096 + rank) w

  -- their count
  front_length : length front ≡ 4096 + rank
  unfolding front
  front_length = length-take-le (4096 + rank) w (omega arith)

  -- the ranks that move up
  behind : List ℕ
  behind = take (named - rank) (drop (4096 + rank) w)

  -- their count
  behind_length : length behind ≡ named - rank
  unfolding behind
  behind_length = length-take-le (named - rank) (drop (4096 + rank) w) (rw (length-drop (4096 + rank) w) (omega arith))

  -- the words past the index
  past : List ℕ
  past = drop (4096 + named + 1) w

  -- the slice with one number more is these, one after the other
  index_split : index_with w named rank ≡ front ++ ((named ∷ behind) ++ past)
  unfolding index_with front behind past
  index_split = append_assoc front (named ∷ behind) past

  -- a word of the slice with one number more
  index_get : (i j : ℕ) → i ≡ j → get_or (index_with w named rank) i 0 ≡ get_or (front ++ ((named ∷ behind) ++ past)) j 0
  index_get i j e = ap₂ (λ (l : List ℕ) (k : ℕ). get_or l k 0) index_split e

  -- the slice stays as long as it was
  pub index_length : length (index_with w named rank) ≡ length w
  unfolding past
  index_length =
      rw (index_split, length-append, length-append, length-drop (4096 + named + 1) w)
      (omega (arith, front_length, behind_length))

  -- the words below the rank stay
  pub index_low : (i : ℕ) → i < 4096 + rank → get_or (index_with w named rank) i 0 ≡ get_or w i 0
  unfolding front
  index_low i l =
      index_get i i refl
      ∙ get_or-append front ((named ∷ behind) ++ past) 0 i (omega (arith, front_length))
      ∙ get_or-take (4096 + rank) w i 0 l

  -- the number stands at the rank
  pub index_here : get_or (index_with w named rank) (4096 + rank) 0 ≡ named
  index_here = index_get (4096 + rank) (4096 + rank) refl ∙ get_or_at front named (behind ++ past) 0 (4096 + rank) front_length

  -- the words from the rank on move up by one
  pub index_up : (i : ℕ) → 4096 + rank ≤ i → i < 4096 + named → get_or (index_with w named rank) (i + 1) 0 ≡ get_or w i 0
  unfolding behind
  index_up i l m =
      let k = i - (4096 + rank) in
      let n : i + 1 ≡ length front + suc k = omega (arith, front_length) in
      let p : 4096 + rank + k ≡ i = omega arith in
      index_get (i + 1) (length front + suc k) n
      ∙ get_or-append-add front ((named ∷ behind) ++ past) (suc k) 0
      ∙ get_or-append behind past 0 k (omega (arith, behind_length))
      ∙ get_or-take (named - rank) (drop (4096 + rank) w) k 0 (omega arith)
      ∙ get_or-drop (4096 + rank) w k 0
      ∙ ap (λ (j : ℕ). get_or w j 0) p

  -- the words past the index stay
  pub index_high : (i : ℕ) → 4096 + named < i → get_or (index_with w named rank) i 0 ≡ get_or w i 0
  unfolding past
  index_high i l =
      let k = i - (4096 + named + 1) in
      let n : i ≡ length front + suc (length behind + k) = omega (arith, front_length, behind_length) in
      let p : 4096 + named + 1 + k ≡ i = omega arith in
      index_get i (length front + suc (length behind + k)) n
      ∙ get_or-append-add front ((named ∷ behind) ++ past) (suc (length behind + k)) 0
      ∙ get_or-append-add behind past k 0
      ∙ get_or-drop (4096 + named + 1) w k 0
      ∙ ap (λ (j : ℕ). get_or w j 0) p

-- the slice while the ranks move up: those from i on have moved
pub record Shifted (old new : List ℕ) (named i : ℕ) : Type 0 where
  pub size : length new ≡ length old
  pub same : (j : ℕ) → j ≤ 4096 + i → get_or new j 0 ≡ get_or old j 0
  pub moved : (j : ℕ) → 4096 + i ≤ j → j < 4096 + named → get_or new (j + 1) 0 ≡ get_or old j 0
  pub after : (j : ℕ) → 4096 + named < j → get_or new j 0 ≡ get_or old j 0

-- the ranks from one on are copied up by one
pub shift_copied : (old new : List ℕ) (named rank : ℕ) → rank ≤ named → 4096 + named < length old → length new ≡ length old
    → ((j d : ℕ) → 4096 + rank + 1 ≤ j → j < 4096 + rank + 1 + (4096 + named - (4096 + rank)) → get_or new j d ≡ get_or old (4096 + rank + (j - (4096 + rank + 1))) d)
    → ((j d : ℕ) → j < 4096 + rank + 1 → get_or new j d ≡ get_or old j d)
    → ((j d : ℕ) → 4096 + rank + 1 + (4096 + named - (4096 + rank)) ≤ j → get_or new j d ≡ get_or old j d)
    → Shifted old new named rank
shift_copied old new named rank h room size copied low high = record {
  size = size;
  same = λ j l. low j 0 (omega arith);
  moved = λ j l m.
      let d : 4096 + rank + (j + 1 - (4096 + rank + 1)) ≡ j = omega arith in
      copied (j + 1) 0 (omega arith) (omega arith) ∙ ap (λ (k : ℕ). get_or old k 0) d;
  after = λ j l. high j 0 (omega arith);
}

-- all ranks from one on have moved, and the number is put there
pub shift_end : (old new : List ℕ) (named i rank : ℕ) → i ≡ rank → rank ≤ named → 4096 + named < length old → Shifted old new named i
    → set new (4096 + rank) named ≡ index_with old named rank
shift_end old new named i rank q h room s =
    ext_get_or 0 (set new (4096 + rank) named) (index_with old named rank)
    (length-set new (4096 + rank) named ∙ s.size ∙ sym (index_length old named rank h room))
    (λ j l. go j (rw (length-set new (4096 + rank) named) at l) (stands j (4096 + rank)))
  where
    go : (j : ℕ) → j < length new → Stands j (4096 + rank) → get_or (set new (4096 + rank) named) j 0 ≡ get_or (index_with old named rank) j 0
    go j l (under k) =
        get_or-set_other new (4096 + rank) j named 0 (λ e. omega arith) ∙ s.same j (omega arith) ∙ sym (index_low old named rank h room j k)
    go j l (level k) = rw k (get_or-set_same new (4096 + rank) named 0 (omega arith) ∙ sym (index_here old named rank h room))
    go j l (over k) =
        let d : j ≡ j - 1 + 1 = omega arith in
        get_or-set_other new (4096 + rank) j named 0 (λ e. omega arith)
        ∙ ⊎_elim
        (λ (m : j ≤ 4096 + named).
        ap (λ (i : ℕ). get_or new i 0) d
        ∙ s.moved (j - 1) (omega arith) (omega arith)
        ∙ sym (index_up old named rank h room (j - 1) (omega arith) (omega arith))
        ∙ ap (λ (i : ℕ). get_or (index_with old named rank) i 0) (sym d))
        (λ (m : 4096 + named < j). s.after j m ∙ sym (index_high old named rank h room j m))
        (below_or j (4096 + named))

-- ---- the slice with one name more

-- the index with one number more, and then the new row, is the slice with one name more
pub entered_row : (file w l : List ℕ) (named a e rank code : ℕ) → l ≡ index_with w named rank → code ≡ head_word (part file a e)
    → set (set (set l named a) (2048 + named) (e - a)) (6144 + named) code ≡ entered file w named a e rank
unfolding entered
entered_row file w l named a e rank code p q = rw (p, q)

-- what a rank is, beside one at which a number was put in
data Side (rank named r : ℕ) : Type 0 where
  lower : r < rank → Side rank named r
  here : r ≡ rank → Side rank named r
  higher : (q : ℕ) → r ≡ q + 1 → rank ≤ q → q < named → Side rank named r

-- each rank is one of the three
side : (rank named r : ℕ) → r < named + 1 → Side rank named r
side rank named r l = go (stands r rank)
  where
    go : Stands r rank → Side rank named r
    go (under k) = lower k
    go (level k) = here k
    go (over k) = higher (r - 1) (omega arith) (omega arith) (omega arith)

module _ (file w : List ℕ) (named a e rank : ℕ) (h : rank ≤ named) (few : named < 2048) (room : 16384 ≤ length w) where
  -- the slice with one name more
  abbrev slice : List ℕ
  slice = entered file w named a e rank

  -- the index has room for one number more
  within : 4096 + named < length w
  within = omega arith

  -- the slice stays as long as it was
  pub entered_length : length (entered file w named a e rank) ≡ length w
  unfolding entered
  entered_length =
      length-set (set (set (index_with w named rank) named a) (2048 + named) (e - a)) (6144 + named) (head_word (part file a e))
      ∙ length-set (set (index_with w named rank) named a) (2048 + named) (e - a)
      ∙ length-set (index_with w named rank) named a
      ∙ index_length w named rank h within

  -- a word that is none of the new row is that of the index
  entered_index : (i : ℕ) → (i ≡ named → ⊥) → (i ≡ 2048 + named → ⊥) → (i ≡ 6144 + named → ⊥)
      → get_or (entered file w named a e rank) i 0 ≡ get_or (index_with w named rank) i 0
  unfolding entered
  entered_index i x y z =
      get_or-set_other (set (set (index_with w named rank) named a) (2048 + named) (e - a)) (6144 + named) i (head_word (part file a e)) 0 z
      ∙ get_or-set_other (set (index_with w named rank) named a) (2048 + named) i (e - a) 0 y
      ∙ get_or-set_other (index_with w named rank) named i a 0 x

  -- the new name's start
  entered_start : get_or (entered file w named a e rank) named 0 ≡ a
  unfolding entered
  entered_start =
      get_or-set_other (set (set (index_with w named rank) named a) (2048 + named) (e - a)) (6144 + named) named (head_word (part file a e)) 0 (λ x. omega arith)
      ∙ get_or-set_other (set (index_with w named rank) named a) (2048 + named) named (e - a) 0 (λ x. omega arith)
      ∙ get_or-set_same (index_with w named rank) named a 0 (omega (arith, index_length w named rank h within))

  -- its length
  entered_size : get_or (entered file w named a e rank) (2048 + named) 0 ≡ e - a
  unfolding entered
  entered_size =
      get_or-set_other (set (set (index_with w named rank) named a) (2048 + named) (e - a)) (6144 + named) (2048 + named) (head_word (part file a e)) 0 (λ x. omega arith)
      ∙ get_or-set_same (set (index_with w named rank) named a) (2048 + named) (e - a) 0
      (omega (arith, index_length w named rank h within, length-set (index_with w named rank) named a))

  -- the word of its head code
  pub entered_code : get_or (entered file w named a e rank) (6144 + named) 0 ≡ head_word (part file a e)
  unfolding entered
  entered_code =
      get_or-set_same (set (set (index_with w named rank) named a) (2048 + named) (e - a)) (6144 + named) (head_word (part file a e)) 0
      (omega (
        arith,
        index_length w named rank h within,
        length-set (index_with w named rank) named a,
        length-set (set (index_with w named rank) named a) (2048 + named) (e - a),
      ))

  -- every word but the new row's and those of the index up to the new rank's last is kept
  pub entered_keeps : (i : ℕ) → (i ≡ named → ⊥) → (i ≡ 2048 + named → ⊥) → (i ≡ 6144 + named → ⊥) → (i < 4096) ⊎ (4096 + named < i)
      → get_or (entered file w named a e rank) i 0 ≡ get_or w i 0
  entered_keeps i x y z side =
      entered_index i x y z
      ∙ ⊎_elim (λ l. index_low w named rank h within i (omega arith)) (λ l. index_high w named rank h within i l) side

  -- the names that were there keep their numbers
  pub entered_old : (n : ℕ) → n < named → name_of file (entered file w named a e rank) n ≡ name_of file w n
  unfolding name_of
  entered_old n l =
      rw (
        entered_keeps n (λ x. omega arith) (λ x. omega arith) (λ x. omega arith) (inl (omega arith)),
        entered_keeps (2048 + n) (λ x. omega arith) (λ x. omega arith) (λ x. omega arith) (inl (omega arith)),
      )

  -- the new name has the number after them
  pub entered_new : a ≤ e → name_of file (entered file w named a e rank) named ≡ part file a e
  unfolding name_of
  entered_new o =
      let n : a + (e - a) ≡ e = omega arith in
      rw (entered_start, entered_size, n)

  -- the names by number are those that were there, then the new one
  pub entered_names : a ≤ e → table_names file (entered file w named a e rank) (named + 1) ≡ table_names file w named ++ (part file a e ∷ [])
  unfolding table_names
  entered_names o = rw (add-one named, entered_new o) (ap (◌++ (part file a e ∷ [])) (go named (omega arith)))
    where
      go : (k : ℕ) → k ≤ named → table_names file (entered file w named a e rank) k ≡ table_names file w k
      go zero l = refl
      go (suc k) l = rw (go k (omega arith), entered_old k (omega arith))

  -- the ranks below the new name's keep their numbers
  rank_stays : (r : ℕ) → r < rank → ranked (entered file w named a e rank) r ≡ ranked w r
  rank_stays r l =
      entered_index (4096 + r) (λ x. omega arith) (λ x. omega arith) (λ x. omega arith)
      ∙ index_low w named rank h within (4096 + r) (omega arith)

  -- the new number stands at its rank
  rank_new : ranked (entered file w named a e rank) rank ≡ named
  rank_new =
      entered_index (4096 + rank) (λ x. omega arith) (λ x. omega arith) (λ x. omega arith)
      ∙ index_here w named rank h within

  -- the numbers from that rank on stand one further
  rank_moves : (r : ℕ) → rank ≤ r → r < named → ranked (entered file w named a e rank) (r + 1) ≡ ranked w r
  rank_moves r l m =
      let d : 4096 + (r + 1) ≡ 4096 + r + 1 = omega arith in
      entered_index (4096 + (r + 1)) (λ x. omega arith) (λ x. omega arith) (λ x. omega arith)
      ∙ ap (λ (i : ℕ). get_or (index_with w named rank) i 0) d
      ∙ index_up w named rank h within (4096 + r) (omega arith) (omega arith)

  module _ (table : Table file w named) (o : a ≤ e) (inside : e ≤ length file) (lacks : Lacks file w named (part file a e) rank) where
    -- the names at the ranks below the new name's stay
    at_stays : (r : ℕ) → r < rank → name_at file slice r ≡ name_at file w r
    at_stays r l = ap (name_of file slice) (rank_stays r l) ∙ entered_old (ranked w r) (table.numbers r (omega arith))

    -- the new name stands at its rank
    at_new : name_at file slice rank ≡ part file a e
    at_new = ap (name_of file slice) rank_new ∙ entered_new o

    -- the names from that rank on stand one further
    at_moves : (r : ℕ) → rank ≤ r → r < named → name_at file slice (r + 1) ≡ name_at file w r
    at_moves r l m = ap (name_of file slice) (rank_moves r l m) ∙ entered_old (ranked w r) (table.numbers r m)

    -- each row is a part of the file
    inside_still : (n : ℕ) → (n ≡ named) ⊎ (n < named) → get_or slice n 0 + get_or slice (2048 + n) 0 ≤ length file
    inside_still n (inl d) = rw (d, entered_start, entered_size) (omega arith)
    inside_still n (inr l) =
        rw (
          entered_keeps n (λ x. omega arith) (λ x. omega arith) (λ x. omega arith) (inl (omega arith)),
          entered_keeps (2048 + n) (λ x. omega arith) (λ x. omega arith) (λ x. omega arith) (inl (omega arith)),
        )
        (table.inside n l)

    -- each head code is that of the name
    codes_still : (n : ℕ) → (n ≡ named) ⊎ (n < named) → name_code slice n ≡ head_code (name_of file slice n)
    codes_still n (inl d) = rw (d, entered_new o, entered_code) (word_code (part file a e))
    codes_still n (inr l) =
        ap (◌% excluded_mark) (entered_keeps (6144 + n) (λ x. omega arith) (λ x. omega arith) (λ x. omega arith) (inr (omega arith)))
        ∙ table.codes n l
        ∙ ap head_code (sym (entered_old n l))

    -- each rank has a number
    numbers_still : (r : ℕ) → Side rank named r → ranked slice r < named + 1
    numbers_still r (lower k) = rw (rank_stays r k) (omega (arith, table.numbers r (omega arith)))
    numbers_still r (here k) = rw (k, rank_new) (omega arith)
    numbers_still r (higher q k l m) = rw (k, rank_moves q l m) (omega (arith, table.numbers q m))

    -- each number has a rank
    each_still : (n : ℕ) → (n ≡ named) ⊎ (n < named) → (r : ℕ) × (r < named + 1) × (ranked slice r ≡ n)
    each_still n (inl d) = (rank, omega arith, rank_new ∙ sym d)
    each_still n (inr l) =
        let (r, k, d) = table.each n l in
        ⊎_elim (λ m. (r + 1, omega arith, rank_moves r m k ∙ d)) (λ m. (r, omega arith, rank_stays r m ∙ d)) (below_or rank r)

    -- the names ascend by rank
    ascending_still : (r q : ℕ) → r < q → Side rank named r → Side rank named q → order (name_at file slice r) (name_at file slice q) ≡ Before
    ascending_still r q i (lower k) (lower l) = rw (at_stays r k, at_stays q l) (table.ascending r q i (omega arith))
    ascending_still r q i (lower k) (here l) = rw (at_stays r k, l, at_new) (lacks.below r k)
    ascending_still r q i (lower k) (higher p l m n) = rw (at_stays r k, l, at_moves p m n) (table.ascending r p (omega arith) n)
    ascending_still r q i (here k) (lower l) = absurd (omega arith)
    ascending_still r q i (here k) (here l) = absurd (omega arith)
    ascending_still r q i (here k) (higher p l m n) =
        rw (k, at_new, l, at_moves p m n) ((order_flip (part file a e) (name_at file w p)).1 (lacks.above p m n))
    ascending_still r q i (higher s k x y) (lower l) = absurd (omega arith)
    ascending_still r q i (higher s k x y) (here l) = absurd (omega arith)
    ascending_still r q i (higher s k x y) (higher p l m n) =
        rw (k, at_moves s x y, l, at_moves p m n) (table.ascending s p (omega arith) n)

    -- all of that is a table with one name more
    table_still : Table file slice (named + 1)
    table_still = record {
      room = omega (arith, entered_length);
      short = table.short;
      few = omega arith;
      inside = λ n l. inside_still n (last_or named (omega arith));
      numbers = λ r l. numbers_still r (side rank named r l);
      each = λ n l. each_still n (last_or named (omega arith));
      ascending = λ r q l m. ascending_still r q l (side rank named r (omega arith)) (side rank named q m);
      codes = λ n l. codes_still n (last_or named (omega arith));
    }

-- a table with one name more is a table
pub entered_table : {file w : List ℕ} {named : ℕ} → Table file w named → named < 2048 → (a e rank : ℕ) → a ≤ e → e ≤ length file
    → look_up (table_names file w named) (part file a e) ≡ Err rank → Table file (entered file w named a e rank) (named + 1)
entered_table {file} {w} {named} table few a e rank o inside missing =
    let lacks = found_missing table (part file a e) rank missing in
    table_still file w named a e rank lacks.within few table.room table o inside lacks
