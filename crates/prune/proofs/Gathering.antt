-- The kept records as listed: the facts, their names noted with those of the roots, and the records of the names.
use Prim.Native.Nat.{ℕ, zero, suc, ◌+◌, ◌-◌, ◌≤◌, ◌<◌}
use native.Mathlib.Omega.{arith}
use mathlib.Core.Path.{◌≡◌, refl, sym, ◌∙◌, ap, ap₂, subst}
use mathlib.Core.Bool.{Bool, true, false}
use mathlib.Core.Logic.{⊎_elim}
use mathlib.Core.List.Memᴰ
use mathlib.Core.List.{List, ◌++◌, map, map-append, append-nil, append_assoc, Memᴰ}
use lib.ListN.{length, get_or, take, drop, length-append, length-map}
use lib.Seq.{sets, sets-eq, length-sets, length-take-le, drop_at, take_at}
use Rattle.model.specs.Lists.{keep, part}
use Rattle.model.specs.Reading.{prune_decls, follow_bodies, most_names, most_records}
use Rattle.model.specs.Outcome.{working_words}
use Rattle.model.specs.declared.Asked.{Asked}
use Rattle.model.specs.declared.Counts.{Counts}
use Rattle.model.proofs.ListLaws.{cond_case, map_elim}
use Rattle.model.proofs.PartLaws.{part_agree, part_split, part_intro}
use Rattle.names.specs.Table.{ranked}
use Rattle.words.specs.Slices.{SameBut, Zeroed}
use Rattle.words.proofs.Slices.{same_then, same_wider}
use Rattle.records.specs.States.{uses_at, ask_of}
use Rattle.prune.specs.Listing.{most_stamps, from, is_goal, reached_records, fact_records, goal_records, kept_items, decl_records, added_records, groups_records, item_stamp, kept_records}
use Rattle.prune.specs.Follow.{Stamped}
use Rattle.prune.specs.Loops.{kept_column, queue_column, stamp_column, prune_room, stamp_of, stamp_in, stamp_words, Index, Behind, KeptBehind, noted, Notes, Linked, Links, queued, Bodies, StampsFollowed, queue_part, QueueRecords, Listable, RecordsListed}
use Rattle.prune.proofs.Writing.{sets_below, lists_length, column_same, lists_same}
use Rattle.prune.proofs.Noting.{notes_then, words_in, noted_length, noted_append, noted_out, noted_stamped, stamps_words, stamped_low}
use Rattle.prune.proofs.Chains.{linked_same}
use Rattle.prune.proofs.Groups.{few_added, groups_same}
use Rattle.prune.proofs.Members.{reached_small, added_small, ambients_small, goals_small}
use Rattle.prune.proofs.Raised.{Raised, grown_raised, linked_raised, groups_by, groups_none, follows_same}

-- ---- a list just written

-- it stands where it was written
pub part_sets : (w : List ℕ) (a : ℕ) (l : List ℕ) → a + length l ≤ length w → part (sets w a l) a (a + length l) ≡ l
part_sets w a l h =
    let e : a + length l - a ≡ length l = omega arith in
    let c : length (take a w) ≡ a = length-take-le a w (omega arith) in
    ap (λ (n : ℕ). take n (drop a (sets w a l))) e
    ∙ ap (λ (x : List ℕ). take (length l) (drop a x)) (sets-eq l w a h ∙ append_assoc (take a w) l (drop (a + length l) w))
    ∙ ap (take (length l)) (drop_at (take a w) (l ++ drop (a + length l) w) a c)
    ∙ take_at l (drop (a + length l) w) (length l) refl

-- and behind what stood before it
part_behind : (w : List ℕ) (a b : ℕ) (l k : List ℕ) → b ≡ a + length l → part w a b ≡ l → b + length k ≤ length w
    → part (sets w b k) a (b + length k) ≡ l ++ k
part_behind w a b l k e p h =
    let size = length-sets w b k in
    part_split (sets w b k) (b - a) a b (b + length k) refl (omega arith) (omega arith) (omega arith)
    ∙ ap₂ ◌++◌
    (part_agree w (sets w b k) (b - a) a b refl (omega arith) (omega arith) (λ i x y. sets_below w b k i y) ∙ p)
    (part_sets w b k h)

-- how many roots there may be
pub kept_few : (test : ℕ → Bool) (i n : ℕ) → length (keep test (from i n)) ≤ n
unfolding from keep
kept_few test i zero = omega arith
kept_few test i (suc n) =
    let h = kept_few test (i + 1) n in
    cond_case (λ (l : List ℕ). length l ≤ suc n) (test i) (omega arith) (omega arith)

-- without option 4 the kept records are the facts
kept_off : (names recs w : List ℕ) (k : Counts) (a : Asked) (stamp : ℕ → ℕ) → prune_decls (ask_of recs a) ≡ false
    → kept_records names recs w k a stamp ≡ fact_records names recs w k a
unfolding kept_records
kept_off names recs w k a stamp e = rw e (append-nil (fact_records names recs w k a))

-- with it, the records of their names too
kept_on : (names recs w : List ℕ) (k : Counts) (a : Asked) (stamp : ℕ → ℕ) → prune_decls (ask_of recs a) ≡ true
    → kept_records names recs w k a stamp
    ≡ fact_records names recs w k a
    ++ groups_by names recs k.names (λ r. stamp (ranked names r)) (length (kept_items names recs w k a))
unfolding kept_records
kept_on names recs w k a stamp e = rw e

module _ {names recs lists w : List ℕ} {k : Counts} {a : Asked} (t : Listable names recs lists w k a) where
  facts_small : {x : ℕ} → Memᴰ x (fact_records names recs w k a) → x < k.records
  unfolding fact_records
  facts_small m =
      ⊎_elim
      (λ q. reached_small names w k.names k.records (λ r h. t.took (ranked names r) (t.index.numbers r h)) q)
      (λ q. ambients_small recs k a q)
      (Memᴰ.append_cases (reached_records names w k.names) m)

  items_small : {x : ℕ} → Memᴰ x (kept_items names recs w k a) → x < k.records
  unfolding kept_items
  items_small m = ⊎_elim (λ q. facts_small q) (λ q. goals_small recs k a q) (Memᴰ.append_cases (fact_records names recs w k a) m)

  -- the words of the names of the items are those of the column of stamps
  items_words : (l : List ℕ) → Memᴰ l (map (stamp_words recs lists) (kept_items names recs w k a)) → {n : ℕ} → Memᴰ n l
      → (stamp_column ≤ n) × (n < stamp_column + most_names)
  items_words l m {n} q =
      let (i, j, e) = map_elim (stamp_words recs lists) (kept_items names recs w k a) m in
      words_in t.notes (items_small j) (subst (λ (l : List ℕ). Memᴰ n l) (sym e) q)

  -- ---- the facts listed

  module _ {w₁ : List ℕ} {f : ℕ} (p : KeptBehind w 0 (fact_records names recs w k a) w₁ f) where
    facts_count : f ≡ length (fact_records names recs w k a)
    facts_count = let c = p.count in omega arith

    pub few_facts : f ≤ most_records
    few_facts = let y = facts_count in let b = t.few_facts in omega arith

    -- they stand in the slice
    facts_first : part w₁ kept_column (kept_column + f) ≡ fact_records names recs w k a
    facts_first =
        let y = t.few_facts in
        let r = t.notes.room in
        ap₂ (λ (v : List ℕ) (n : ℕ). part v kept_column (kept_column + n)) p.written facts_count
        ∙ part_sets w kept_column (fact_records names recs w k a) (omega arith)

    -- and nothing else changes
    facts_same : SameBut kept_column prune_room w w₁
    facts_same = lists_same p (let y = t.few_facts in omega arith)

    -- without option 4 that is all
    pub listed_facts : {x : Bool} → x ≡ prune_decls (ask_of recs a) → x ≡ false → RecordsListed names recs lists w w₁ k a f
    listed_facts e z =
        let off = sym e ∙ z in
        let q = kept_off names recs w k a (λ n. 0) off in
        record {
          stamp = λ n. 0;
          stamped = λ on. absurd (rw off at on);
          records = facts_first ∙ sym q;
          count = facts_count ∙ ap length (sym q);
          same = facts_same;
        }

    -- the facts and the records of the names, where these stand behind those
    listed_with : {u v : List ℕ} {to : ℕ} (stamp : ℕ → ℕ) (D : List ℕ) → Stamped names recs lists w k a stamp
        → kept_records names recs w k a stamp ≡ fact_records names recs w k a ++ D → SameBut kept_column prune_room w u
        → part u kept_column (kept_column + f) ≡ fact_records names recs w k a → KeptBehind u f D v to
        → RecordsListed names recs lists w v k a to
    listed_with {u} {v} {to} stamp D stamped are same there d =
        let count = facts_count in
        let many = d.count in
        let size = same.same_length in
        let room = t.notes.room in
        let y = ap length are in
        let b = length-append (fact_records names recs w k a) D in
        let fit = t.fits stamp stamped in
        record {
          stamp = stamp;
          stamped = stamped;
          records = ap₂ (λ (v : List ℕ) (b : ℕ). part v kept_column b) d.written
              (let y : kept_column + to ≡ kept_column + f + length D = omega arith in y)
              ∙ part_behind u kept_column (kept_column + f) (fact_records names recs w k a) D (omega arith) there (omega arith)
              ∙ sym are;
          count = omega arith;
          same = same_then same (lists_same d (omega arith));
        }

    -- ---- the column of stamps cleared

    module _ {w₂ : List ℕ} (z : Zeroed stamp_column most_names w₁ w₂) where
      cleared_length : length w₂ ≡ length w
      cleared_length = z.same.same_length ∙ lists_length p

      pub cleared_notes : Notes recs lists w₂ k
      cleared_notes = notes_then t.notes cleared_length

      facts_there : part w₂ kept_column (kept_column + f) ≡ fact_records names recs w k a
      facts_there =
          let few = few_facts in
          let r = t.notes.room in
          let c = lists_length p in
          let d = cleared_length in
          part_agree w₁ w₂ f kept_column (kept_column + f) (omega arith) (omega arith) (omega arith)
          (λ i x y. z.same.same_words i (λ g h. omega arith))
          ∙ facts_first

      -- the facts listed are records
      pub facts_in : (j : ℕ) → j < f → get_or w₂ (kept_column + j) 0 < k.records
      facts_in j h =
          let few = few_facts in
          let r = t.notes.room in
          let d = cleared_length in
          facts_small
          (subst (λ (l : List ℕ). Memᴰ (get_or w₂ (kept_column + j) 0) l) facts_there
          (part_intro w₂ kept_column (kept_column + f) (kept_column + j) (omega arith) (omega arith) (omega arith)))

      -- ---- the names noted

      module _ {w₃ : List ℕ} (n : w₃ ≡ noted 1 w₂ (map (stamp_words recs lists) (part w₂ kept_column (kept_column + f)))) where
        pub noted_notes : Notes recs lists w₃ k
        noted_notes =
            notes_then cleared_notes
            (ap length n ∙ noted_length 1 w₂ (map (stamp_words recs lists) (part w₂ kept_column (kept_column + f))))

        module _ {w₄ : List ℕ} {s : ℕ} (q : w₄ ≡ noted (f + 1) w₃ (map (stamp_words recs lists) (goal_records recs k a)))
            (c : s ≡ f + length (goal_records recs k a)) where
          -- those of all items
          all_noted : w₄ ≡ noted 1 w₂ (map (stamp_words recs lists) (kept_items names recs w k a))
          unfolding kept_items
          all_noted =
              let u : ℕ → List ℕ = stamp_words recs lists in
              let y = facts_count in
              let b = length-map (fact_records names recs w k a) u in
              q
              ∙ ap₂ (λ (m : ℕ) (v : List ℕ). noted m v (map u (goal_records recs k a)))
              (let e : f + 1 ≡ 1 + length (map u (fact_records names recs w k a)) = omega arith in e)
              (n ∙ ap (λ (l : List ℕ). noted 1 w₂ (map u l)) facts_there)
              ∙ sym (noted_append 1 w₂ (map u (fact_records names recs w k a)) (map u (goal_records recs k a)))
              ∙ ap (noted 1 w₂) (sym (map-append u (fact_records names recs w k a) (goal_records recs k a)))

          -- only the column of stamps changes
          noted_same : SameBut stamp_column most_names w₂ w₄
          noted_same = record {
            same_length = ap length all_noted ∙ noted_length 1 w₂ (map (stamp_words recs lists) (kept_items names recs w k a));
            same_words = λ i h.
                ap (λ (v : List ℕ). get_or v i 0) all_noted
                ∙ noted_out 1 w₂ (map (stamp_words recs lists) (kept_items names recs w k a)) i (λ l m o. let (y, b) = items_words l m o in h y b);
          }

          noted_size : length w₄ ≡ length w
          noted_size = noted_same.same_length ∙ cleared_length

          stamps_are : (n : ℕ) → n < k.names → stamp_of w₄ n ≡ item_stamp names recs lists w k a n
          unfolding item_stamp
          stamps_are n h =
              let b = t.index.few in
              let e = t.notes.room in
              let d = cleared_length in
              ap (λ (v : List ℕ). get_or v (stamp_column + n) 0) all_noted
              ∙ noted_stamped 1 w₂ (map (stamp_words recs lists) (kept_items names recs w k a)) (stamp_column + n) (omega arith) (omega arith)
              (z.zero (stamp_column + n) (omega arith) (omega arith))
              ∙ stamps_words recs lists 1 (kept_items names recs w k a) n

          stamps_count : s ≡ length (kept_items names recs w k a)
          unfolding kept_items
          stamps_count =
              let y = facts_count in
              let b = length-append (fact_records names recs w k a) (goal_records recs k a) in
              omega arith

          few_stamps : s ≤ most_stamps
          few_stamps =
              let few = few_facts in
              let b = kept_few (is_goal recs a) 0 k.records in
              let d = t.notes.recorded.few in
              omega arith

          stamps_low : (n : ℕ) → n < k.names → stamp_of w₄ n ≤ most_stamps
          unfolding item_stamp
          stamps_low n h =
              let y = stamps_are n h in
              let b = stamped_low 1 (map (uses_at recs lists) (kept_items names recs w k a)) n (omega arith) in
              let d = length-map (kept_items names recs w k a) (uses_at recs lists) in
              let e = stamps_count in
              let g = few_stamps in
              omega arith

          noted_room : working_words ≤ length w₄
          noted_room = let y = noted_size in let b = t.notes.room in omega arith

          -- what linking asks
          pub link_asks : Index names k.names × (working_words ≤ length w₄) × ((r : ℕ) → r < k.names → stamp_in names w₄ r ≤ most_stamps)
          link_asks = (t.index, noted_room, λ r h. stamps_low (ranked names r) (t.index.numbers r h))

          -- ---- the ranks linked

          module _ {w₅ : List ℕ} (l : Links names w₄ w₅ k.names) where
            linked_stamps : (n : ℕ) → n < k.names → stamp_of w₅ n ≡ stamp_of w₄ n
            linked_stamps n h = l.same.same_words (stamp_column + n) (λ x y. omega arith)

            -- the stamps are those of the items
            item_stamps : (n : ℕ) → n < k.names → stamp_of w₅ n ≡ item_stamp names recs lists w k a n
            item_stamps n h = linked_stamps n h ∙ stamps_are n h

            linked_low : (n : ℕ) → n < k.names → stamp_of w₅ n ≤ most_stamps
            linked_low n h = let y = linked_stamps n h in let b = stamps_low n h in omega arith

            all_linked : Linked (stamp_in names w₅) k.names w₅
            all_linked =
                linked_same l.linked (λ r h. linked_stamps (ranked names r) (t.index.numbers r h)) (λ j h. refl) t.index.few

            linked_room : working_words ≤ length w₅
            linked_room = let y = l.same.same_length in let b = noted_room in omega arith

            -- the facts stand in the slice still, and nothing else has changed
            linked_there : part w₅ kept_column (kept_column + f) ≡ fact_records names recs w k a
            linked_there =
                let few = few_facts in
                let room = linked_room in
                let d = cleared_length in
                let r = t.notes.room in
                part_agree w₂ w₅ f kept_column (kept_column + f) (omega arith) (omega arith) (omega arith)
                (λ i g h. l.same.same_words i (λ y b. omega arith) ∙ noted_same.same_words i (λ y b. omega arith))
                ∙ facts_there

            linked_since : SameBut kept_column prune_room w w₅
            linked_since =
                same_then facts_same
                (same_then (same_wider kept_column prune_room (omega arith) (omega arith) z.same)
                (same_then (same_wider kept_column prune_room (omega arith) (omega arith) noted_same)
                (same_wider kept_column prune_room (omega arith) (omega arith) l.same)))

            -- ---- the records of the names

            module _ {x : Bool} (e : x ≡ prune_decls (ask_of recs a)) (on : x ≡ true) where
              -- all kept records, by stamps in a slice
              kept_by : (u : List ℕ)
                  → kept_records names recs w k a (stamp_of u)
                  ≡ fact_records names recs w k a ++ groups_by names recs k.names (stamp_in names u) s
              kept_by u =
                  kept_on names recs w k a (stamp_of u) (sym e ∙ on)
                  ∙ ap (λ (m : ℕ). fact_records names recs w k a ++ groups_by names recs k.names (stamp_in names u) m)
                  (sym stamps_count)

              groups_fit : (u : List ℕ) → Stamped names recs lists w k a (stamp_of u)
                  → f + length (groups_by names recs k.names (stamp_in names u) s) ≤ most_records
              groups_fit u stamped =
                  let y = facts_count in
                  let b = t.fits (stamp_of u) stamped in
                  let g = ap length (kept_by u) in
                  let ds = groups_by names recs k.names (stamp_in names u) s in
                  let h = length-append (fact_records names recs w k a) ds in
                  omega arith

              -- ---- without option 8

              module _ {y : Bool} (i : y ≡ follow_bodies (ask_of recs a)) (off : y ≡ false) where
                noted_only : Stamped names recs lists w k a (stamp_of w₅)
                noted_only q = record { noted = λ b. item_stamps; followed = λ b. absurd (rw (sym i ∙ off) at b) }

                decls_are : groups_by names recs k.names (stamp_in names w₅) s
                    ≡ decl_records names recs k.names (stamp_in names w₅) s
                decls_are = groups_none names recs k.names (stamp_in names w₅) (λ r h. linked_low (ranked names r) (t.index.numbers r h)) s

                -- what listing them asks
                pub decls_ask : Index names k.names × (working_words ≤ length recs) × (working_words ≤ length w₅)
                    × Linked (stamp_in names w₅) k.names w₅ × (s ≤ most_stamps)
                    × (f + length (decl_records names recs k.names (stamp_in names w₅) s) ≤ most_records)
                decls_ask =
                    (t.index, t.notes.recorded.room, linked_room, all_linked, few_stamps, rw (← decls_are) (groups_fit w₅ noted_only))

                pub listed_noted : {w₆ : List ℕ} {to : ℕ} → KeptBehind w₅ f (decl_records names recs k.names (stamp_in names w₅) s) w₆ to
                    → RecordsListed names recs lists w w₆ k a to
                listed_noted d =
                    listed_with (stamp_of w₅) (decl_records names recs k.names (stamp_in names w₅) s) noted_only
                    (kept_by w₅ ∙ ap (fact_records names recs w k a ++◌) decls_are) linked_since linked_there d

              -- ---- with it

              module _ {y : Bool} (i : y ≡ follow_bodies (ask_of recs a)) (with_8 : y ≡ true) where
                -- what following asks
                pub follow_asks : Bodies names recs lists k × (working_words ≤ length w₅)
                follow_asks = (
                  record { room = t.index.room; few = t.index.few; took = t.took; recorded = t.notes.recorded },
                  linked_room,
                )

                module _ {w₆ : List ℕ} (o : StampsFollowed names recs lists k w₅ w₆) where
                  followed_stamps : Stamped names recs lists w k a (stamp_of w₆)
                  followed_stamps q = record {
                    noted = λ b. absurd (rw (sym i ∙ with_8) at b);
                    followed = λ b. follows_same (λ n h. sym (item_stamps n h)) o.follows;
                  }

                  followed_room : working_words ≤ length w₆
                  followed_room = let y = o.same.same_length in let b = linked_room in omega arith

                  -- what the sweep asks
                  pub sweep_asks : Index names k.names × (working_words ≤ length w₆)
                  sweep_asks = (t.index, followed_room)

                  -- ---- the added records swept

                  module _ {w₇ : List ℕ} {added : ℕ}
                      (put : Behind queue_column w₆ 0 (added_records names k.names (stamp_in names w₆)) w₇ added) where
                    swept_count : added ≡ length (added_records names k.names (stamp_in names w₆))
                    swept_count = let c = put.count in omega arith

                    swept_few : 0 + length (added_records names k.names (stamp_in names w₆)) ≤ most_names
                    swept_few = few_added t.index (stamp_in names w₆)

                    -- only the column of the queue changes
                    swept_same : SameBut queue_column most_names w₆ w₇
                    swept_same = column_same put swept_few

                    swept_room : working_words ≤ length w₇
                    swept_room = let y = swept_same.same_length in let b = followed_room in omega arith

                    swept_stamps : (r : ℕ) → r < k.names → stamp_in names w₇ r ≡ stamp_in names w₆ r
                    swept_stamps r h =
                        let b = t.index.numbers r h in
                        let f = t.index.few in
                        swept_same.same_words (stamp_column + ranked names r) (λ y d. omega arith)

                    -- they stand in it
                    swept_there : queue_part w₇ added ≡ added_records names k.names (stamp_in names w₆)
                    swept_there =
                        let f = swept_few in
                        let r = followed_room in
                        ap₂ (λ (v : List ℕ) (n : ℕ). part v queue_column (queue_column + n)) put.written swept_count
                        ∙ part_sets w₆ queue_column (added_records names k.names (stamp_in names w₆)) (omega arith)

                    swept_records : QueueRecords w₇ added
                    swept_records =
                        let c = swept_count in
                        let f = swept_few in
                        let r = swept_room in
                        let many = t.notes.recorded.few in
                        record {
                          few = omega arith;
                          low = λ j h.
                              let b = added_small names (stamp_in names w₆) k.names k.records
                              (λ r h. t.took (ranked names r) (t.index.numbers r h))
                              (subst (λ (l : List ℕ). Memᴰ (queued w₇ j) l) swept_there
                              (part_intro w₇ queue_column (queue_column + added) (queue_column + j) (omega arith) (omega arith)
                              (omega arith))) in
                              omega arith;
                        }

                    swept_linked : Linked (stamp_in names w₇) k.names w₇
                    swept_linked =
                        linked_raised k.names
                        (λ r h. subst (λ (x : ℕ). Raised (stamp_in names w₅ r) x) (sym (swept_stamps r h))
                        (grown_raised o.follows.grown (ranked names r) (t.index.numbers r h)))
                        all_linked t.index.few
                        (λ j g h. swept_same.same_words j (λ y b. omega arith) ∙ o.same.same_words j (λ y b. omega arith))

                    abbrev groups : List ℕ
                    groups = groups_records names recs k.names (stamp_in names w₇) (queue_part w₇ added) s

                    groups_are : groups ≡ groups_by names recs k.names (stamp_in names w₆) s
                    groups_are = groups_same names recs k.names swept_stamps swept_there s

                    -- what listing them asks
                    pub groups_ask : Index names k.names × (working_words ≤ length recs) × (working_words ≤ length w₇)
                        × Linked (stamp_in names w₇) k.names w₇ × (s ≤ most_stamps) × QueueRecords w₇ added
                        × (f + length groups ≤ most_records)
                    groups_ask = (
                      t.index,
                      t.notes.recorded.room,
                      swept_room,
                      swept_linked,
                      few_stamps,
                      swept_records,
                      rw groups_are (groups_fit w₆ followed_stamps),
                    )

                    pub listed_followed : {w₈ : List ℕ} {to : ℕ} → KeptBehind w₇ f groups w₈ to
                        → RecordsListed names recs lists w w₈ k a to
                    listed_followed d =
                        let few = few_facts in
                        let room = swept_room in
                        let r = linked_room in
                        listed_with (stamp_of w₆) groups followed_stamps
                        (kept_by w₆ ∙ ap (fact_records names recs w k a ++◌) (sym groups_are))
                        (same_then linked_since
                        (same_then (same_wider kept_column prune_room (omega arith) (omega arith) o.same)
                        (same_wider kept_column prune_room (omega arith) (omega arith) swept_same)))
                        (part_agree w₅ w₇ f kept_column (kept_column + f) (omega arith) (omega arith) (omega arith)
                        (λ j g h. swept_same.same_words j (λ y b. omega arith) ∙ o.same.same_words j (λ y b. omega arith))
                        ∙ linked_there)
                        d
