-- What filing keeps, where the records before stay, and with one record more.
use Prim.Native.Nat.{ℕ, zero, suc, ◌+◌, ◌-◌, ◌*◌, ◌≤◌, ◌<◌}
use native.Mathlib.Numerals.{add-one}
use native.Mathlib.Omega.{arith}
use mathlib.Core.Path.{◌≡◌, refl, sym, ap, ◌∙◌}
use mathlib.Core.Logic.{inl, inr, ⊎_elim}
use mathlib.Core.List.{List}
use Rattle.model.specs.Names.{Name}
use Rattle.model.specs.Summaries.{entries}
use Rattle.model.specs.Reading.{most_names, most_records}
use Rattle.terms.proofs.Laws.{equal, below}
use Rattle.triggers.specs.Entries.{disjuncts_of, last_flag}
use Rattle.records.specs.Writing.{row_columns}
use Rattle.records.specs.Columns.{record_word, record_kind, record_name, entries_start, entries_end, assume_kind, retain_kind, entry_word, entry_name, entry_fact, taken_at}
use Rattle.records.specs.States.{entries_at}
use Rattle.records.specs.Filing.{Records, entries_before, Filing, Taken}
use Rattle.records.proofs.Recording.{Agree, sets_stay}

-- the same records under more names
pub records_named : {recs lists : List ℕ} {named named' records filed uses : ℕ} → named ≤ named' → Records recs lists named records filed uses
    → Records recs lists named' records filed uses
records_named {lists = lists} {named} h r = record {
  room = r.room;
  lists_room = r.lists_room;
  few = r.few;
  few_entries = r.few_entries;
  few_uses = r.few_uses;
  kinds = r.kinds;
  named_in = λ i l q. omega (arith, r.named_in i l q);
  rising = r.rising;
  uses_in = r.uses_in;
  entries_in = r.entries_in;
  use_words = λ j l. omega (arith, r.use_words j l);
  entry_words = λ e l. ⊎_elim (λ (q : entry_name lists e < named). inl (omega arith)) (λ q. inr q) (r.entry_words e l);
}

-- ---- the entries of the records

module _ {name name' : ℕ → Name} {recs lists recs' lists' : List ℕ} {named records filed uses : ℕ}
    (a : Agree name name' recs lists recs' lists' named records filed uses)
    (r : Records recs lists named records filed uses) (g : Filing name recs lists records filed)
    (fact : (e : ℕ) → e < filed → entry_fact lists' e ≡ entry_fact lists e) where
  before_stays : (n : ℕ) → n ≤ records → entries_before recs' n ≡ entries_before recs n
  unfolding entries_before
  before_stays zero h = refl
  before_stays (suc n) h = a.rows 8 n (omega arith) (omega arith)

  starts_stay : (i : ℕ) → i < records → entries_start recs' i ≡ entries_before recs' i
  starts_stay i h = a.rows 7 i (omega arith) h ∙ g.starts i h ∙ sym (before_stays i (omega arith))

  sized_stays : (i : ℕ) → i < records → entries_end recs' i ≡ entries_start recs' i + entries (disjuncts_of name' (entries_at recs' lists' i))
  sized_stays i h = rw (sets_stay a r i h, a.rows 7 i (omega arith) h, a.rows 8 i (omega arith) h) (g.sized i h)

  only_stays : (i : ℕ) → i < records → (record_kind recs' i ≡ assume_kind → ⊥) → entries_end recs' i ≡ entries_start recs' i
  only_stays i h d = a.rows 8 i (omega arith) h ∙ g.only_facts i h (λ z. d (a.rows 0 i (omega arith) h ∙ z)) ∙ sym (a.rows 7 i (omega arith) h)

  facts_stay : (i e : ℕ) → i < records → entries_start recs' i ≤ e → e < entries_end recs' i → entry_fact lists' e ≡ i
  facts_stay i e h l u =
      let x = a.rows 7 i (omega arith) h in
      let y = a.rows 8 i (omega arith) h in
      fact e (omega (arith, r.entries_in i h)) ∙ g.facts i e h (omega arith) (omega arith)

  flagged_stays : (e : ℕ) → e < filed → entry_word lists' e < last_flag + last_flag
  flagged_stays e h = rw (a.entry_words e h) (g.flagged e h)

  ended_stays : (i : ℕ) → i < records → entries_start recs' i < entries_end recs' i → last_flag ≤ entry_word lists' (entries_end recs' i - 1)
  ended_stays i h l =
      let x = a.rows 7 i (omega arith) h in
      let y = a.rows 8 i (omega arith) h in
      rw (y, a.entry_words (entries_end recs i - 1) (omega (arith, r.entries_in i h))) (g.ended i h (omega arith))

  -- the filing of the records before
  pub filing_kept : Filing name' recs' lists' records filed
  filing_kept = record {
    starts = starts_stay;
    whole = before_stays records (omega arith) ∙ g.whole;
    sized = sized_stays;
    only_facts = only_stays;
    facts = facts_stay;
    flagged = flagged_stays;
    ended = ended_stays;
  }

  -- with one record more, whose entries are those from `filed` on
  pub filing_more : {filed' : ℕ} → entries_start recs' records ≡ filed → entries_end recs' records ≡ filed'
      → filed' ≡ filed + entries (disjuncts_of name' (entries_at recs' lists' records))
      → ((record_kind recs' records ≡ assume_kind → ⊥) → filed' ≡ filed)
      → ((e : ℕ) → filed ≤ e → e < filed' → entry_fact lists' e ≡ records)
      → ((e : ℕ) → filed ≤ e → e < filed' → entry_word lists' e < last_flag + last_flag)
      → (filed < filed' → last_flag ≤ entry_word lists' (filed' - 1))
      → Filing name' recs' lists' (records + 1) filed'
  unfolding entries_before
  filing_more {filed'} start end sized only facts flagged ended = record {
    starts = λ i h. ⊎_elim
        (λ (q : i ≡ records). rw q (start ∙ sym (before_stays records (omega arith) ∙ g.whole)))
        (λ (q : i ≡ records → ⊥). starts_stay i (omega arith))
        (equal i records);
    whole = rw (add-one records) end;
    sized = λ i h. ⊎_elim
        (λ (q : i ≡ records). rw q (end ∙ sized ∙ ap (◌+ entries (disjuncts_of name' (entries_at recs' lists' records))) (sym start)))
        (λ (q : i ≡ records → ⊥). sized_stays i (omega arith))
        (equal i records);
    only_facts = λ i h d. ⊎_elim
        (λ (q : i ≡ records). rw q (end ∙ only (λ w. d (ap (record_kind recs') q ∙ w)) ∙ sym start))
        (λ (q : i ≡ records → ⊥). only_stays i (omega arith) d)
        (equal i records);
    facts = λ i e h l u. ⊎_elim
        (λ (q : i ≡ records).
        let x = ap (entries_start recs') q in
        let y = ap (entries_end recs') q in
        facts e (omega arith) (omega arith) ∙ sym q)
        (λ (q : i ≡ records → ⊥). facts_stay i e (omega arith) l u)
        (equal i records);
    flagged = λ e h. ⊎_elim (λ (l : e < filed). flagged_stays e l) (λ (l : filed ≤ e). flagged e l h) (below e filed);
    ended = λ i h l. ⊎_elim
        (λ (q : i ≡ records).
        let x = ap (entries_start recs') q in
        let y = ap (entries_end recs') q ∙ end in
        rw y (ended (omega arith)))
        (λ (q : i ≡ records → ⊥). ended_stays i (omega arith) l)
        (equal i records);
  }

-- ---- the taken column

module _ {names names' recs recs' : List ℕ} {records : ℕ} (rows : (c i : ℕ) → c < row_columns → i < records → record_word recs' (c * most_records) i
    ≡ record_word recs (c * most_records) i)
    (t : Taken names recs records) (small : (i : ℕ) → i < records → record_kind recs i < retain_kind → record_name recs i < most_names) where
  -- where the column stays
  pub taken_kept : ((n : ℕ) → n < most_names → taken_at names' n ≡ taken_at names n) → Taken names' recs' records
  taken_kept same = record {
    took = λ i h k.
        let z = rows 0 i (omega arith) h in
        let l : record_kind recs i < retain_kind = omega arith in
        rw (rows 2 i (omega arith) h) (same (record_name recs i) (small i h l) ∙ t.took i h l);
    low = λ n l. rw (same n l) (t.low n l);
    takes = λ n i l e.
        let b : i < records = omega (arith, t.low n l, same n l) in
        let (x, y) = t.takes n i l (sym (same n l) ∙ e) in
        (omega (arith, rows 0 i (omega arith) b), rows 2 i (omega arith) b ∙ y);
  }

  -- with a record more that takes no name
  pub taken_none : ((n : ℕ) → n < most_names → taken_at names' n ≡ taken_at names n) → (record_kind recs' records < retain_kind → ⊥)
      → Taken names' recs' (records + 1)
  taken_none same none =
      let kept = taken_kept same in
      record {
        took = λ i h l. ⊎_elim
            (λ (q : i ≡ records). absurd (none (rw (← q) l)))
            (λ (q : i ≡ records → ⊥). kept.took i (omega arith) l)
            (equal i records);
        low = λ n l. omega (arith, kept.low n l);
        takes = kept.takes;
      }

  -- with a record more that takes the name m, which was free
  pub taken_more : (m : ℕ) → m < most_names → taken_at names m ≡ 0 → taken_at names' m ≡ records + 1
      → ((n : ℕ) → n < most_names → (n ≡ m → ⊥) → taken_at names' n ≡ taken_at names n)
      → record_kind recs' records < retain_kind → record_name recs' records ≡ m → Taken names' recs' (records + 1)
  taken_more m h free new same kind is = record {
    took = λ i l k. ⊎_elim
        (λ (q : i ≡ records). rw (q, is) new)
        (λ (q : i ≡ records → ⊥).
        let b : i < records = omega arith in
        let z = rows 0 i (omega arith) b in
        let c : record_kind recs i < retain_kind = omega arith in
        let v = t.took i b c in
        let other : record_name recs i ≡ m → ⊥ = λ y. let w = ap (taken_at names) y in omega arith in
        rw (rows 2 i (omega arith) b) (same (record_name recs i) (small i b c) other ∙ v))
        (equal i records);
    low = λ n l. ⊎_elim
        (λ (q : n ≡ m). rw (q, new) (omega arith))
        (λ (q : n ≡ m → ⊥). rw (same n l q) (omega (arith, t.low n l)))
        (equal n m);
    takes = λ n i l e. ⊎_elim
        (λ (q : n ≡ m). let w : i ≡ records = omega (arith, ap (taken_at names') q) in rw w (kind, is ∙ sym q))
        (λ (q : n ≡ m → ⊥).
        let b : i < records = omega (arith, t.low n l, same n l q) in
        let (x, y) = t.takes n i l (sym (same n l q) ∙ e) in
        (omega (arith, rows 0 i (omega arith) b), rows 2 i (omega arith) b ∙ y))
        (equal n m);
  }
