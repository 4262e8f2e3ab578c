-- The records of the names that bodies add swept into the column of the queue, and those of a kind listed behind those noted.
use Prim.Native.Nat.{ℕ, zero, suc, ◌+◌, ◌≤◌, ◌<◌}
use native.Mathlib.Omega.{arith}
use mathlib.Core.Path.{◌≡◌, refl, sym, ◌∙◌, ap, ap₂, subst}
use mathlib.Core.Bool.{cond}
use mathlib.Core.List.{List, [], ◌∷◌, ◌++◌}
use lib.ListN.{length, set, length-append}
use lib.Dec.{eqb}
use borrow.Author.Tests.{eq-eqb, ne_eqb}
use Rattle.model.specs.Lists.{keep, collect, part}
use Rattle.model.specs.Reading.{most_names, most_records}
use Rattle.model.specs.Outcome.{working_words}
use Rattle.model.proofs.ListLaws.{cond_case}
use Rattle.model.proofs.PartLaws.{part_cons, part_nil, part_agree}
use Rattle.names.specs.Table.{ranked}
use Rattle.records.specs.Columns.{record_kind, def_kind, fun_kind}
use Rattle.prune.specs.Listing.{from, record_behind, picked, taker, kind_records, followed_stamp, added_at, added_records, of_kind, group_records, groups_records}
use Rattle.prune.specs.Loops.{kept_column, queue_column, stamp_column, stamp_of, stamp_in, Index, KeptBehind, queued, queue_part, QueueRecords}
use Rattle.prune.proofs.Writing.{Going, going_start, going_below, going_above, going_end, going_list, lists_none, list_room, lists_both}
use Rattle.prune.proofs.Stamps.{Apart, stamps_apart, lists_apart, kinds_same}

-- ---- one rank

module _ (names run : List ℕ) (r : ℕ) {n : ℕ} (e : n ≡ ranked names r) {x : ℕ} (d : x ≡ stamp_of run n) where
  rank_stamp : x ≡ stamp_in names run r
  rank_stamp = d ∙ ap (stamp_of run) e

  -- a name that no body adds
  pub added_not : (x ≡ followed_stamp → ⊥) → 0 ≡ added_at names (stamp_in names run) r
  unfolding added_at
  added_not z = rw (ne_eqb (stamp_in names run r) followed_stamp (λ q. z (rank_stamp ∙ q)))

  -- one that a body adds
  pub added_is : x ≡ followed_stamp → {t : ℕ} → t ≡ taker names r → t ≡ added_at names (stamp_in names run) r
  unfolding added_at
  added_is z q = rw (eq-eqb (stamp_in names run r) followed_stamp (sym rank_stamp ∙ z)) q

-- ---- the sweep

-- the stamps are those of the start while the column of the queue is written
pub added_still : (names : List ℕ) {named : ℕ} {w : List ℕ} {m : ℕ} {whole v : List ℕ} {to : ℕ} {rest : List ℕ} (r : ℕ) {t : ℕ}
    → Index names named → Going queue_column w m whole v to rest → r < named
    → t ≡ added_at names (stamp_in names v) r → t ≡ added_at names (stamp_in names w) r
unfolding added_at
added_still names {w = w} {v = v} r index g h e =
    let b = index.numbers r h in
    let f = index.few in
    e ∙ ap (λ (s : ℕ). cond (eqb s followed_stamp) (taker names r) 0)
    (going_below g (stamp_column + ranked names r) (omega arith))

-- no more is picked than there are numbers
picked_few : (pick : ℕ → ℕ) (a n : ℕ) → length (picked pick (from a n)) ≤ n
unfolding picked from collect record_behind
picked_few pick a zero = omega arith
picked_few pick a (suc n) =
    let h = picked_few pick (a + 1) n in
    let e = length-append (record_behind (pick a)) (picked pick (from (a + 1) n)) in
    let b : length (record_behind (pick a)) ≤ 1 =
    cond_case (λ (l : List ℕ). length l ≤ 1) (eqb (pick a) 0) (omega arith) (omega arith) in
    omega arith

-- the column has room for them
pub few_added : {names : List ℕ} {named : ℕ} → Index names named → (stamp : ℕ → ℕ)
    → 0 + length (added_records names named stamp) ≤ most_names
few_added {names} {named} index stamp =
    let b = picked_few (added_at names stamp) 0 named in
    let c = index.few in
    omega arith

-- ---- those of a kind

-- the records in the column of the queue from place j on
abbrev part_from : List ℕ → ℕ → ℕ → List ℕ
part_from w count j = part w (queue_column + j) (queue_column + count)

-- those are left
pub record KindTo (recs w : List ℕ) (kind count m : ℕ) (v : List ℕ) (to j : ℕ) : Type 0 where
  pub going : Going kept_column w m (of_kind recs kind (queue_part w count)) v to (of_kind recs kind (part_from w count j))

module _ {recs w : List ℕ} {kind count m : ℕ} where
  pub kind_start : KindTo recs w kind count m w m 0
  kind_start = record { going = going_start kept_column w m (of_kind recs kind (queue_part w count)) }

  module _ (room : working_words ≤ length w) (there : QueueRecords w count)
      (fits : m + length (of_kind recs kind (queue_part w count)) ≤ most_records) {v : List ℕ} {to j : ℕ}
      (g : KindTo recs w kind count m v to j) where
    module _ (h : j < count) {i : ℕ} (e : i ≡ queued v j) where
      -- the record at place j is still there
      still : i ≡ queued w j
      still = e ∙ going_above g.going fits (queue_column + j) (omega arith)

      pub kind_record : i < most_records
      kind_record = let b = there.low j h in let s = still in omega arith

      -- the first of those left
      first : part_from w count j ≡ i ∷ part_from w count (j + 1)
      first = let f = there.few in let z : queue_column + j + 1 ≡ queue_column + (j + 1) = omega arith in
          rw (part_cons w (queue_column + j) (queue_column + count) (omega arith) (omega arith), ← still, z)

      module _ {c : ℕ} (d : c ≡ record_kind recs i) where
        pub kind_skip : (c ≡ kind → ⊥) → KindTo recs w kind count m v to (j + 1)
        unfolding of_kind keep
        kind_skip z = record {
          going = going_list {l = []} g.going (ap (of_kind recs kind) first ∙ rw (← d, ne_eqb c kind z))
              (lists_none kept_column v to);
        }

        module _ (z : c ≡ kind) where
          taken : of_kind recs kind (part_from w count j) ≡ i ∷ of_kind recs kind (part_from w count (j + 1))
          unfolding of_kind keep
          taken = ap (of_kind recs kind) first ∙ rw (← d, eq-eqb c kind z)

          pub kind_take : KindTo recs w kind count m (set v (kept_column + to) i) (to + 1) (j + 1)
          kind_take = record { going = going_list {l = i ∷ []} g.going taken (record { written = refl; count = refl }) }

          pub kind_room : to < most_records
          kind_room =
              let b = list_room (i ∷ []) (of_kind recs kind (part_from w count (j + 1))) g.going taken fits in
              omega arith

    pub kind_end : count ≤ j → KeptBehind w m (of_kind recs kind (queue_part w count)) v to
    unfolding of_kind keep
    kind_end h =
        going_end g.going (ap (of_kind recs kind) (part_nil w (queue_column + j) (queue_column + count) (omega arith)))

-- ---- a group

module _ {w v : List ℕ} {count : ℕ} (apart : Apart w v) (room : working_words ≤ length w) (there : QueueRecords w count) where
  -- what stands in the column of the queue stays
  queue_apart : queue_part v count ≡ queue_part w count
  queue_apart =
      let f = there.few in
      let s = apart.size in
      part_agree w v count queue_column (queue_column + count) (omega arith) (omega arith) (omega arith)
      (λ i a b. apart.high i (omega arith))

  pub records_apart : QueueRecords v count
  records_apart = record {
    few = there.few;
    low = λ j h. let e = apart.high (queue_column + j) (omega arith) in let b = there.low j h in omega arith;
  }

-- a group depends on the stamps of the ranks and on the added records only
module _ (names recs : List ℕ) (named : ℕ) {f g : ℕ → ℕ} (same : (r : ℕ) → r < named → g r ≡ f r) {l k : List ℕ}
    (e : l ≡ k) where
  group_same : (s kind : ℕ) → group_records names recs named g l s kind ≡ group_records names recs named f k s kind
  unfolding group_records
  group_same s kind = ap₂ ◌++◌ (kinds_same names recs named same kind s) (ap (of_kind recs kind) e)

  pub groups_same : (s : ℕ) → groups_records names recs named g l s ≡ groups_records names recs named f k s
  unfolding groups_records
  groups_same s = ap₂ ◌++◌ (group_same s def_kind) (group_same s fun_kind)

module _ (names recs : List ℕ) (named kind s : ℕ) (w : List ℕ) {added : ℕ} (m : ℕ) (room : working_words ≤ length w)
    (there : QueueRecords w added)
    (fits : m + length (group_records names recs named (stamp_in names w) (queue_part w added) s kind) ≤ most_records) where
  both : length (group_records names recs named (stamp_in names w) (queue_part w added) s kind)
      ≡ length (kind_records names recs named (stamp_in names w) kind s) + length (of_kind recs kind (queue_part w added))
  unfolding group_records
  both = length-append (kind_records names recs named (stamp_in names w) kind s) (of_kind recs kind (queue_part w added))

  -- there is room for those noted
  pub noted_fit : m + length (kind_records names recs named (stamp_in names w) kind s) ≤ most_records
  noted_fit = let e = both in omega arith

  module _ {v : List ℕ} {to : ℕ} (p : KeptBehind w m (kind_records names recs named (stamp_in names w) kind s) v to) where
    pub noted_apart : Apart w v
    noted_apart = lists_apart p noted_fit

    -- and for those added
    pub added_fit : to + length (of_kind recs kind (queue_part v added)) ≤ most_records
    added_fit =
        let e = both in
        let d = ap (λ (l : List ℕ). length (of_kind recs kind l)) (queue_apart noted_apart room there) in
        let c = p.count in
        omega arith

    pub group_listed : {u : List ℕ} {next : ℕ} → KeptBehind v to (of_kind recs kind (queue_part v added)) u next
        → KeptBehind w m (group_records names recs named (stamp_in names w) (queue_part w added) s kind) u next
    unfolding group_records
    group_listed {u} {next} q =
        lists_both p
        (subst (λ (l : List ℕ). KeptBehind v to (of_kind recs kind l) u next) (queue_apart noted_apart room there) q)

-- ---- definitions, then declarations

module _ (names recs : List ℕ) {named : ℕ} (s : ℕ) (w : List ℕ) {added : ℕ} (m : ℕ) (index : Index names named)
    (room : working_words ≤ length w) (there : QueueRecords w added)
    (fits : m + length (groups_records names recs named (stamp_in names w) (queue_part w added) s) ≤ most_records) where
  abbrev group : ℕ → List ℕ
  group kind = group_records names recs named (stamp_in names w) (queue_part w added) s kind

  both_groups : length (groups_records names recs named (stamp_in names w) (queue_part w added) s)
      ≡ length (group def_kind) + length (group fun_kind)
  unfolding groups_records
  both_groups = length-append (group def_kind) (group fun_kind)

  pub defs_fit : m + length (group_records names recs named (stamp_in names w) (queue_part w added) s def_kind) ≤ most_records
  defs_fit = let e = both_groups in omega arith

  module _ {v : List ℕ} {to : ℕ}
      (p : KeptBehind w m (group_records names recs named (stamp_in names w) (queue_part w added) s def_kind) v to) where
    pub defs_apart : Apart w v
    defs_apart = lists_apart p defs_fit

    funs_same : group_records names recs named (stamp_in names v) (queue_part v added) s fun_kind ≡ group fun_kind
    funs_same = group_same names recs named (stamps_apart index defs_apart) (queue_apart defs_apart room there) s fun_kind

    pub funs_fit : to + length (group_records names recs named (stamp_in names v) (queue_part v added) s fun_kind)
        ≤ most_records
    funs_fit = let e = both_groups in let d = ap length funs_same in let c = p.count in omega arith

    pub groups_listed : {u : List ℕ} {next : ℕ}
        → KeptBehind v to (group_records names recs named (stamp_in names v) (queue_part v added) s fun_kind) u next
        → KeptBehind w m (groups_records names recs named (stamp_in names w) (queue_part w added) s) u next
    unfolding groups_records
    groups_listed {u} {next} q = lists_both p (subst (λ (l : List ℕ). KeptBehind v to l u next) funs_same q)
