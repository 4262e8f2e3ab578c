-- Filing a token, with the name that it trims to.
use Prim.Native.Nat.{ℕ, ◌+◌, ◌-◌, ◌%◌, ◌≤◌, ◌<◌}
use native.Mathlib.Omega.{arith}
use mathlib.Core.Path.{◌≡◌, refl, sym, ap, ◌∙◌}
use mathlib.Core.Bool.{Bool, true, false, cond}
use mathlib.Core.List.Memᴰ
use mathlib.Core.List.{List, [], ◌∷◌, ◌++◌}
use Rattle.std.specs.Prelude.{None as none, Some as some, Result, Ok, Err}
use lib.ListN.{length, get_or, take, drop, set, length-take, length-drop, length-append}
use lib.Dec.{ltb, not_T}
use borrow.Author.Tests.{ltb-true, le-ltb, lt-ltb}
use Rattle.names.specs.Table.{Table, Tells, name_of, table_names, look_up, spell_answer, spell_table, entered}
use Rattle.names.specs.declared.Spelled.{Spelled}
use Rattle.names.specs.declared.Spelled.TheVariants as spelled
use Rattle.names.proofs.Laws.{found_missing, names_length}
use Rattle.names.proofs.Entering.{entered_length, entered_keeps, entered_old, entered_new}
use Rattle.model.specs.Names.{Name, bytes, ends_with, from_list, add, mem}
use mathlib.Core.Logic.{inl, inr, ⊎_elim}
use lib.Seq.{take-take}
use Rattle.model.specs.Lists.{fold_left, sum, ◌>>=◌, part}
use Rattle.model.proofs.ListLaws.{cond_false}
use Rattle.model.specs.Reading.{spell}
use Rattle.model.specs.Summaries.{sum_triggers, token_triggers, entries}
use Rattle.model.specs.declared.AsumKind.TheVariants as asum
use Rattle.model.proofs.SetLaws.{same_eq}
use Rattle.model.proofs.PartLaws.{part_one, part_two}
use Rattle.names.proofs.Excluded.{tells_same, tells_new}
use Rattle.names.proofs.Spelling.{Spelling, spell_law, spelled_known, spelled_new, spelled_full}
use Rattle.terms.proofs.Laws.{below}
use Rattle.words.specs.Slices.{SameBut}
use Rattle.gather.specs.Visits.{put}
use Rattle.words.proofs.Slices.{same_self, same_set, same_then}
use Rattle.triggers.specs.Entries.{entry_number, disjuncts_of_words, disjuncts_of, Entries}
use Rattle.triggers.specs.Filings.{filing}
use Rattle.summary.specs.declared.Limit.{Limit}
use Rattle.summary.specs.declared.Limit.TheVariants as limit
use Rattle.summary.specs.declared.Sorted.{Sorted}
use Rattle.summary.specs.Steps.{sorted_end, ComesTo, kind_filed, names_over, entries_over, Two, both, over, Tokens, SortsAs, as_kind, as_over}
use Rattle.summary.specs.Writing.{trimmed_end, trimmed_found, token_table, spelled_number, token_words, stopped, file_words, file_token}
use Rattle.std.specs.Prelude.{Result, Err}
use Rattle.summary.specs.Steps.{kind_sorted}

-- spelling a name changes no word from 8,192 on
spell_same : {file names : List ℕ} {named : ℕ} → Table file names named → (a e : ℕ)
    → SameBut 0 8192 names (spell_table file names named a e (look_up (table_names file names named) (part file a e)))
unfolding spell_table
spell_same {file} {names} {named} table a e = go (look_up (table_names file names named) (part file a e)) refl
  where
    go : (f : Result ℕ ℕ) → look_up (table_names file names named) (part file a e) ≡ f → SameBut 0 8192 names (spell_table file names named a e f)
    go (Ok n) q = same_self 0 8192 names
    go (Err rank) q = choose (ltb named 2048) refl
      where
        choose : (t : Bool) → ltb named 2048 ≡ t → SameBut 0 8192 names (cond t (entered file names named a e rank) names)
        choose true t =
            let few = ltb-true named 2048 t in
            let low = (found_missing table (part file a e) rank q).within in
            record {
              same_length = entered_length file names named a e rank low few table.room;
              same_words = λ i h. ⊎_elim
                  (λ l. absurd (h (omega arith) l))
                  (λ (l : 8192 ≤ i). entered_keeps file names named a e rank low few table.room i (λ x. omega arith) (λ x. omega arith) (λ x. omega arith)
                  (inr (omega arith)))
                  (below i 8192);
            }
        choose false t = same_self 0 8192 names

-- nor does filing a token
pub token_same : {file names : List ℕ} {named : ℕ} → Table file names named → (n : ℕ) → SameBut 0 8192 names (token_table file names named n)
unfolding token_table
token_same {file} {names} {named} table n = go (ends_with (name_of file names n) (bytes "@tok"))
  where
    go : (b : Bool) → SameBut 0 8192 names (cond b (spell_table file names named (get_or names n 0) (trimmed_end names n)
        (trimmed_found file names named n)) names)
    go true = spell_same table (get_or names n 0) (trimmed_end names n)
    go false = same_self 0 8192 names

-- ---- entries of one name each

-- an entry of one name that ends its disjunct
entry_one : (n : ℕ) (ws : List ℕ) → n < 2048 → disjuncts_of_words ((n + 4096) ∷ ws) ≡ (n ∷ []) ∷ disjuncts_of_words ws
unfolding disjuncts_of_words entry_number
entry_one n ws h =
    let e : (n + 4096) % 4096 ≡ n = omega arith in
    rw (le-ltb (n + 4096) 4096 (omega arith), e, lt-ltb n 2048 h)

-- one such entry
sets_one : (name : ℕ → Name) (n : ℕ) → n < 2048 → disjuncts_of name ((n + 4096) ∷ []) ≡ (name n ∷ []) ∷ []
unfolding disjuncts_of disjuncts_of_words from_list add
sets_one name n h = rw (entry_one n [] h) refl

-- two such entries
sets_two : (name : ℕ → Name) (n m : ℕ) → n < 2048 → m < 2048 → disjuncts_of name ((n + 4096) ∷ (m + 4096) ∷ []) ≡ (name n ∷ []) ∷ (name m ∷ []) ∷ []
unfolding disjuncts_of disjuncts_of_words from_list add
sets_two name n m h k = rw (entry_one n ((m + 4096) ∷ []) h, entry_one m [] k) refl

-- they are entries
entries_are_one : (named n : ℕ) → n < named → named ≤ 2048 → Entries named ((n + 4096) ∷ [])
entries_are_one named n h few = record {
  small = λ w m. ⊎_elim (λ e. inl (omega arith)) (λ k. absurd (Memᴰ.not-nil k)) (Memᴰ.cases_cons m);
  flagged = λ w m. ⊎_elim (λ e. omega arith) (λ k. absurd (Memᴰ.not-nil k)) (Memᴰ.cases_cons m);
  closed = λ i e. let z : i ≡ 0 = omega arith in rw z (omega arith);
}

-- and two
entries_are_two : (named n m : ℕ) → n < named → m < named → named ≤ 2048 → Entries named ((n + 4096) ∷ (m + 4096) ∷ [])
entries_are_two named n m h l few = record {
  small = λ w i. ⊎_elim (λ e. inl (omega arith)) (λ j. ⊎_elim (λ e. inl (omega arith)) (λ k. absurd (Memᴰ.not-nil k)) (Memᴰ.cases_cons j))
      (Memᴰ.cases_cons i);
  flagged = λ w i. ⊎_elim (λ e. omega arith) (λ j. ⊎_elim (λ e. omega arith) (λ k. absurd (Memᴰ.not-nil k)) (Memᴰ.cases_cons j))
      (Memᴰ.cases_cons i);
  closed = λ i e. let z : i ≡ 1 = omega arith in rw z (omega arith);
}

-- ---- the name that a token trims to

-- a name that ends in @tok has four bytes or more
ends_long : (t : Name) → ends_with t (bytes "@tok") ≡ true → 4 ≤ length t
unfolding ends_with bytes
ends_long t e =
    let q : drop (length t - 4) t ≡ bytes "@tok" = same_eq (rw e tt) in
    omega (arith, ap length q, length-drop (length t - 4) t)

-- what a token that ends in @tok comes to
token_yes : (t : Name) → ends_with t (bytes "@tok") ≡ true
    → token_triggers t ≡ record { kind = asum.Triggers 2; triggers = (t ∷ []) ∷ (take (length t - 4) t ∷ []) ∷ []; trimmed = take (length t - 4) t ∷ [] }
unfolding token_triggers
token_yes t e = rw e refl

-- what another comes to
token_no : (t : Name) → ends_with t (bytes "@tok") ≡ false → token_triggers t ≡ sum_triggers ((t ∷ []) ∷ [])
unfolding token_triggers
token_no t e = rw e refl

module _ {file names : List ℕ} {named n x y : ℕ} (table : Table file names named) (l : n < named) (p : x ≡ get_or names n 0)
    (q : y ≡ get_or names (2048 + n) 0) where
  -- the token's place
  pub token_inside : x + y ≤ length file
  token_inside = rw (p, q) (table.inside n l)

  -- the token is the part there
  token_part : part file x (x + y) ≡ name_of file names n
  unfolding name_of
  token_part = rw (p, q) refl

  -- a test of that part says whether it ends in @tok
  pub token_ends : {b v : Bool} → b ≡ ends_with (part file x (x + y)) (bytes "@tok") → b ≡ v → ends_with (name_of file names n) (bytes "@tok") ≡ v
  token_ends e is = rw (← token_part) (sym e ∙ is)

  -- how long it is
  token_length : length (name_of file names n) ≡ y
  token_length = ap length (sym token_part) ∙ (simp (length-take, length-drop) (omega (arith, token_inside)))

  -- a token that is not filed writes the words of `file_token`: at most the shorter name, in the name table
  token_stops : {names' lists lists' : List ℕ} {at : ℕ} {w : Limit} (rows : List ℕ) (mark : ℕ) → names' ≡ token_table file names named n → lists' ≡ lists
      → file_words (filing (token_table file names named n) rows lists (mark + 1) at) (token_words file names named n)
      ≡ stopped (filing (token_table file names named n) rows lists (mark + 1) at)
      → SortsAs (file_token file named (filing names rows lists (mark + 1) at) n) names' rows lists' mark at (Err w)
  unfolding file_token stopped
  token_stops rows mark e o s = as_over (rw s refl) (rw s e) (rw s refl) (rw s o)

  module _ (yes : ends_with (name_of file names n) (bytes "@tok") ≡ true) where
    -- what spelling the shorter name asks
    pub token_asks : (4 ≤ x + y) × (x ≤ x + y - 4) × (x + y - 4 ≤ length file)
    token_asks =
        let h = ends_long (name_of file names n) yes in
        (omega (arith, token_length), omega (arith, token_length), omega (arith, token_inside))

    -- the shorter name is the part there
    token_short : part file x (x + y - 4) ≡ take (length (name_of file names n) - 4) (name_of file names n)
    token_short =
        let z : x + y - 4 - x ≡ y - 4 = omega arith in
        let w : x + y - x ≡ y = omega arith in
        sym (rw (token_length, ← token_part, w, z) (take-take (y - 4) y (drop x file) (omega arith)))

    -- the slice of names then
    token_slice : {names' : List ℕ} → names' ≡ spell_table file names named x (x + y - 4) (look_up (table_names file names named) (part file x (x + y - 4)))
        → names' ≡ token_table file names named n
    unfolding token_table
    token_slice e = rw (yes, ← p, ← q) e

    -- a token and the shorter name, filed
    token_two : {names' lists lists' : List ℕ} {total m at : ℕ} {r : Result Sorted Limit} → Table file names' total
        → table_names file names' total ≡ spell (table_names file names named) (part file x (x + y - 4))
        → named ≤ total → ((k : ℕ) → k < named → name_of file names' k ≡ name_of file names k)
        → Tells file names names' named total → name_of file names' m ≡ part file x (x + y - 4) → m < total
        → 16384 ≤ length lists → Two lists lists' total n m at r
        → ComesTo file names names' lists' named at (token_triggers (name_of file names n)) r
    unfolding fold_left entries sum
    token_two {names'} {lists} {total = total} {m} {at} table' spelled more same told is k room (both fits e) =
        let few = table'.few in
        rw (token_yes (name_of file names n) yes)
        (kind_filed {e = at + 2} {total = total} (record {
          kind = refl;
          disjuncts = rw (
            e,
            part_two lists at (n + 4096) (m + 4096) (omega arith),
            sets_two (name_of file names') n m (omega arith) (omega arith),
            same n l,
            is,
            token_short,
          ) refl;
          ends = refl;
          high = fits;
          entry_words = rw (e, part_two lists at (n + 4096) (m + 4096) (omega arith)) (entries_are_two total n m (omega arith) k few);
          table = table';
          spelled = rw (← token_short) spelled;
          more = more;
          same_names = same;
          told = told;
        }))
    token_two {names'} {total = total} table' spelled more same told is k room (over past e) =
        rw (token_yes (name_of file names n) yes)
        (entries_over (rw (← token_short, ← spelled, names_length file names' total) table'.few) past)

    -- what it does to the slice
    token_out : {lists lists' : List ℕ} {total m at : ℕ} {r : Result Sorted Limit} → Two lists lists' total n m at r → SameBut at (sorted_end at r - at) lists lists'
    unfolding sorted_end
    token_out {lists} {m = m} {at} (both fits e) =
        rw e (same_then (same_set at (at + 2 - at) lists at (n + 4096) (omega arith) (omega arith))
        (same_set at (at + 2 - at) (set lists at (n + 4096)) (at + 1) (m + 4096) (omega arith) (omega arith)))
    token_out {lists} {at = at} (over past e) = rw e (same_self at (8192 - at) lists)

    -- the entries of a token are its own and that of the number which spelling the shorter name answers
    token_entries : {s : Spelled} → s ≡ spell_answer named (look_up (table_names file names named) (part file x (x + y - 4)))
        → token_words file names named n ≡ (spelled_number s >>= λ m. some ((n + 4096) ∷ (m + 4096) ∷ []))
    unfolding token_words
    token_entries e = rw (yes, ← p, ← q, ← e) refl

    -- filing a token and the shorter name writes the words of `file_token`
    token_two_as : {names' lists lists' : List ℕ} {total m at : ℕ} {r : Result Sorted Limit} → names' ≡ token_table file names named n
        → token_words file names named n ≡ some ((n + 4096) ∷ (m + 4096) ∷ []) → Two lists lists' total n m at r
        → (rows : List ℕ) (mark : ℕ) → SortsAs (file_token file named (filing names rows lists (mark + 1) at) n) names' rows lists' mark at r
    unfolding file_token file_words put
    token_two_as {m = m} {at} w ws (both fits e) rows mark =
        let z : mark + 1 + 2 ≡ mark + 1 + (at + 2 - at) = omega arith in
        as_kind {e = at + 2} (rw (ws, le-ltb 8192 (at + 2) fits, w, e, z) refl)
    token_two_as {at = at} w ws (over past e) rows mark = token_stops rows mark w e (rw (ws, lt-ltb 8192 (at + 2) past) refl)

    module _ {names' : List ℕ} {s : Spelled} (answer : s ≡ spell_answer named (look_up (table_names file names named) (part file x (x + y - 4))))
        (slice : names' ≡ spell_table file names named x (x + y - 4) (look_up (table_names file names named) (part file x (x + y - 4)))) where
      -- spelling the shorter name: what its answer says
      token_spelled : Spelling file names names' named x (x + y - 4) s
      token_spelled = spell_law table x (x + y - 4) token_asks.1 token_asks.2 names' s answer slice

      -- the number of a known name is below 2,048
      pub token_known_small : {m : ℕ} → s ≡ spelled.Known m → m < 2048
      token_known_small e = omega (arith, (spelled_known token_spelled e).number, table.few)

      -- so is that of a new one
      pub token_new_small : {m : ℕ} → s ≡ spelled.New m → m < 2048
      token_new_small e = let k = spelled_new token_spelled e in omega (arith, k.number, k.few)

      -- the shorter name was known
      pub token_known : {lists lists' : List ℕ} {m at : ℕ} {r : Result Sorted Limit} → s ≡ spelled.Known m → 16384 ≤ length lists → Two lists lists' named n m at r
          → Tokens file names lists names' lists' named n at r
      unfolding spelled_number
      token_known e room two =
          let k = spelled_known token_spelled e in
          record {
            name_words = token_slice slice;
            kinds = rw k.kept (token_two table k.names (omega arith) (λ i h. refl) tells_same k.is k.number room two);
            lists_same = token_out two;
            words_as = token_two_as (token_slice slice) (token_entries answer ∙ rw e refl) two;
          }

      -- it is new
      pub token_new : {lists lists' : List ℕ} {m at : ℕ} {r : Result Sorted Limit} → s ≡ spelled.New m → 16384 ≤ length lists → Two lists lists' (named + 1) n m at r
          → Tokens file names lists names' lists' named n at r
      unfolding spelled_number
      token_new e room two =
          let k = spelled_new token_spelled e in
          let within = k.lacks.within in
          let few = k.few in
          record {
            name_words = token_slice slice;
            kinds = token_two k.table k.names (omega arith)
                (λ i h. rw k.slice (entered_old file names named x (x + y - 4) k.rank within few table.room i h))
                (tells_new table token_asks.1 k)
                (rw (k.number, k.slice) (entered_new file names named x (x + y - 4) k.rank within few table.room token_asks.1))
                (omega (arith, k.number)) room two;
            lists_same = token_out two;
            words_as = token_two_as (token_slice slice) (token_entries answer ∙ rw e refl) two;
          }

      -- there is no room for it
      pub token_full : {lists : List ℕ} {at : ℕ} → s ≡ spelled.Full → Tokens file names lists names' lists named n at (Err limit.Names)
      unfolding sorted_end fold_left spell spelled_number file_words
      token_full {lists} {at} e =
          let k = spelled_full token_spelled e in
          let ws : token_words file names named n ≡ none = token_entries answer ∙ rw e refl in
          record {
            name_words = token_slice slice;
            kinds = rw (token_yes (name_of file names n) yes)
                (names_over (rw (
                  ← token_short,
                  cond_false (mem (part file x (x + y - 4)) (table_names file names named)) (table_names file names named)
                      (table_names file names named ++ (part file x (x + y - 4) ∷ []))
                      (not_T (mem (part file x (x + y - 4)) (table_names file names named)) k.absent),
                  length-append,
                  names_length file names named,
                ) (omega (arith, k.full))));
            lists_same = same_self at (at - at) lists;
            words_as = λ rows mark. token_stops rows mark (token_slice slice) refl (rw ws refl);
          }

  module _ (no : ends_with (name_of file names n) (bytes "@tok") ≡ false) where
    -- the slice of names stays
    token_kept : names ≡ token_table file names named n
    unfolding token_table
    token_kept = rw no refl

    -- its entries are one
    token_entry : token_words file names named n ≡ some ((n + 4096) ∷ [])
    unfolding token_words
    token_entry = rw no refl

    -- a token alone, filed
    pub token_one : {lists : List ℕ} {at : ℕ} → at < 8192 → 16384 ≤ length lists
        → Tokens file names lists names (set lists at (n + 4096)) named n at (kind_sorted (asum.Triggers 1) (at + 1) named)
    unfolding sorted_end fold_left entries sum sum_triggers file_token file_words put
    token_one {lists} {at} h room =
        let few = table.few in
        record {
          name_words = token_kept;
          kinds = rw (token_no (name_of file names n) no)
              (kind_filed {e = at + 1} {total = named} (record {
                kind = refl;
                disjuncts = rw (part_one lists at (n + 4096) (omega arith), sets_one (name_of file names) n (omega arith)) refl;
                ends = refl;
                high = omega arith;
                entry_words = rw (part_one lists at (n + 4096) (omega arith)) (entries_are_one named n l few);
                table = table;
                spelled = refl;
                more = omega arith;
                same_names = λ k h. refl;
                told = tells_same;
              }));
          lists_same = same_set at (at + 1 - at) lists at (n + 4096) (omega arith) (omega arith);
          words_as = λ rows mark.
              let z : mark + 1 + 1 ≡ mark + 1 + (at + 1 - at) = omega arith in
              as_kind {e = at + 1} (rw (token_entry, le-ltb 8192 (at + 1) (omega arith), ← token_kept, z) refl);
        }

    -- there is no room for it
    pub token_over : {lists : List ℕ} {at : ℕ} → 8192 ≤ at → Tokens file names lists names lists named n at (Err limit.Entries)
    unfolding sorted_end fold_left entries sum sum_triggers file_words
    token_over {lists} {at} h = record {
      name_words = token_kept;
      kinds = rw (token_no (name_of file names n) no) (entries_over (rw (names_length file names named) table.few) (omega arith));
      lists_same = same_self at (8192 - at) lists;
      words_as = λ rows mark. token_stops rows mark token_kept refl (rw (token_entry, lt-ltb 8192 (at + 1) (omega arith)) refl);
    }
