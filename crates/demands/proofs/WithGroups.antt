-- A file of the older form, and the file of the form with groups that the group fields make of it.
use Prim.Native.Nat.{ℕ, ◌+◌, ◌≤◌, ◌<◌}
use Prim.Native.String.{String}
use native.Mathlib.Omega.{arith}
use mathlib.Core.Path.{◌≡◌, refl, sym, ◌∙◌, ap, ap₂, subst}
use mathlib.Core.Logic.{inl, inr}
use mathlib.Core.Bool.{Bool, true, false, not, ◌||◌, beq}
use mathlib.Core.List.{List, [], ◌∷◌, ◌++◌, map, map-append, cons-ne-nil, Memᴰ}
use Rattle.std.specs.Prelude.{Some as some}
use lib.Dec.{T, T_not, not_T, leb, le→leb, nleb→lt, eqb}
use lib.ListN.{length, get_or}
use Rattle.model.specs.Lists.{any, all, collect, holds, is_nil}
use Rattle.model.specs.Names.{Name, bytes, by_byte, order, is_same, same}
use Rattle.model.specs.Lines.{Line, lines, Field, fields, number}
use Rattle.model.specs.Summaries.{exclude_names, Fact}
use Rattle.model.specs.Reading.{ok, need, name_field, number_field, term_field, next, end, ask, ask2, Content, head, assume, most_query, most_options, most_group, most_groups, group_field, content, Ask, State, start, read, in_head, in_asks}
use Rattle.model.specs.Reading.{an_ask, an_also, a_hide, another, place, of_form, may_stand, is_position, most_asks, fixed_count, parse, head_asks, is_grouped, heads, limits, add_line, repeats, read_line, read_lines}
use Rattle.model.specs.Rounds.{facts}
use Rattle.model.specs.Outcome.{filtered}
use Rattle.model.specs.declared.LineKind.{LineKind}
use Rattle.model.specs.declared.LineKind.TheVariants as kind
use Rattle.model.proofs.ListLaws.{T_and, T_or, T_true, map_elim}
use Rattle.laws.proofs.ReadingLaws.{within, is_past, parse_ok, LineRead, line_read, lines_read, none_read, added_line, file_read}
use Rattle.demands.specs.LinesRead.{Pairwise, ends, pair}
use Rattle.demands.specs.LineForm.{Allowed}
use Rattle.demands.specs.Counts.{grouped_words, is_word, begins}
use Rattle.demands.specs.Groups.{assume_words, group_words, older_words, AllGroups, WithoutGroup, of_ask, of_fact, as_it_is, GroupsPutIn}
use Rattle.demands.proofs.Refusals.{lines_on}
use Rattle.demands.proofs.TermNumbers.{Gives, given}
use Rattle.demands.proofs.LineForm.{count_formless, content_formless, parse_fields}
use Rattle.demands.proofs.LineFields.{gives_field, gives_ended, kind_word, word_exact}
use Rattle.demands.proofs.Asks.{asked_lines, one_word, some_line}
use Rattle.demands.proofs.Moved.{map_length}
use Rattle.demands.proofs.WellFormed.{accepted_well_formed}
use Rattle.demands.proofs.HiddenNames.{read_by_lines}
use Rattle.demands.proofs.Ungrouped.{full, plain, plain_head, plain_content, asks_plain, add_plain, repeats_plain, limits_plain, head_on, asks_on, asked_on, judged, known_words, kind_by, is_plain, plain_word, plain_formless, says_plain, filtered_plain}

-- ---- what the fields with a group say

-- a number within its limit
number_says : (limit : ℕ) (f : Field) {k : ℕ} → number f ≡ some k → k ≤ limit → number_field limit f ≡ ok k
unfolding number_field need
number_says limit f {k} e low = rw (e, T_true (leb k limit) (le→leb k limit low))

-- the fields after the kind with a third put in
with_third : Field → List Field → List Field
with_third x [] = []
with_third x (f ∷ []) = f ∷ []
with_third x (f ∷ g ∷ fs) = f ∷ g ∷ x ∷ fs

-- what an ask says, and what these fields say as an ask with groups
record AsAsked (grouped : Bool) (count : ℕ) (fs : List Field) (c : Content) : Type 0 where
  query : ℕ
  options : ℕ
  newer : content kind.Ask2 grouped count fs ≡ ok (head (ask2 query options most_groups))
  older : head (ask query options) ≡ c

ask_law : (grouped : Bool) (count : ℕ) (x : Field) → number_field most_groups x ≡ ok most_groups → (fs : List Field)
    → Gives (λ c. AsAsked grouped count (with_third x fs) c) (content kind.Ask false count fs)
unfolding content with_third
ask_law grouped count x is =
    gives_field (λ fs c. AsAsked grouped count (with_third x fs) c) (judged (number_field most_query)) _ (λ f q u.
    gives_field (λ fs c. AsAsked grouped count (with_third x (f ∷ fs)) c) (judged (number_field most_options)) _ (λ g o v.
    gives_ended (λ fs c. AsAsked grouped count (with_third x (f ∷ g ∷ fs)) c) (head (ask q o))
    (record { query = q; options = o; newer = unfold next end in (rw (u, v, is)); older = refl })))

-- what an assume says, and what these fields say in the form with groups
record AsStated (count : ℕ) (fs : List Field) (c : Content) : Type 0 where
  name : Name
  flag : Bool
  group : ℕ
  term : ℕ
  newer : content kind.Assume true count fs ≡ ok (assume name flag group term)
  older : assume name flag 0 term ≡ c

fact_law : (count : ℕ) (x : Field) (k : ℕ) → number_field most_group x ≡ ok k → (fs : List Field)
    → Gives (λ c. AsStated count (with_third x fs) c) (content kind.Assume false count fs)
unfolding content group_field with_third
fact_law count x k is =
    gives_field (λ fs c. AsStated count (with_third x fs) c) (judged name_field) _ (λ f name u.
    gives_field (λ fs c. AsStated count (with_third x (f ∷ fs)) c) (judged (number_field 1)) _ (λ g flag v.
    gives_field (λ fs c. AsStated count (with_third x (f ∷ g ∷ fs)) c) (judged (term_field count)) _ (λ h t w.
    gives_ended (λ fs c. AsStated count (with_third x (f ∷ g ∷ h ∷ fs)) c) (assume name (eqb flag 1) 0 t)
    (record { name = name; flag = eqb flag 1; group = k; term = t; newer = unfold next end in (rw (u, v, is, w)); older = refl }))))

-- ---- where a line may stand

-- what is behind an ask is of the form with groups
abbrev Form : State → Type 0
Form s = T (not (is_nil s.asks)) → T s.grouped

-- an ask with groups where one without may
ask_stands : (s : State) → Form s → T (may_stand (plain s) (an_ask false)) → T (may_stand s (an_ask true))
unfolding may_stand of_form
ask_stands s form t =
    (T_and (in_asks s) (is_nil s.asks || beq true s.grouped)).1
    (subst T (asks_on s) ((T_and (in_asks (plain s)) (is_nil (map full s.asks) || true)).0 t).0, go (is_nil s.asks) s.grouped form)
  where
    go : (none form : Bool) → (T (not none) → T form) → T (none || beq true form)
    go true form h = tt
    go false true h = tt
    go false false h = h tt

-- others where they may, behind an ask
also_stands : (s : State) → T (may_stand (plain s) an_also) → T (may_stand s an_also) × T (not (is_nil s.asks))
unfolding may_stand
also_stands s t = let u = rw (asks_on s, asked_on s) at t in (u, ((T_and (in_asks s) (not (is_nil s.asks))).0 u).1)

hide_stands : (s : State) → T (may_stand (plain s) a_hide) → T (may_stand s a_hide) × T (not (is_nil s.asks))
unfolding may_stand
hide_stands s t = let u = rw (head_on s, asked_on s) at t in (u, ((T_and (in_head s) (not (is_nil s.asks))).0 u).1)

another_stands : (s : State) → T (may_stand (plain s) another) → T (may_stand s another) × T (not (is_nil s.asks))
unfolding may_stand
another_stands s t = let u = rw (asked_on s) at t in (u, u)

-- so does every line that both forms write the same
same_stands : (s : State) (k : LineKind) → T (is_plain k) → T (not (is_word older_words (bytes (kind_word k)))) → T (may_stand (plain s) (place k))
    → T (may_stand s (place k)) × T (not (is_nil s.asks))
unfolding is_plain place is_word older_words kind_word any same order by_byte is_same bytes
same_stands s kind.Ask t other u = absurd other
same_stands s kind.Ask2 t other u = absurd t
same_stands s kind.Also t other u = also_stands s u
same_stands s kind.Hide t other u = hide_stands s u
same_stands s kind.Free t other u = another_stands s u
same_stands s kind.Leaf t other u = another_stands s u
same_stands s kind.Call t other u = another_stands s u
same_stands s kind.Op t other u = another_stands s u
same_stands s kind.All t other u = another_stands s u
same_stands s kind.Some t other u = another_stands s u
same_stands s kind.Let t other u = another_stands s u
same_stands s kind.Label t other u = another_stands s u
same_stands s kind.Assume t other u = absurd t
same_stands s kind.Fun t other u = another_stands s u
same_stands s kind.Def t other u = another_stands s u
same_stands s kind.Retain t other u = another_stands s u
same_stands s kind.Root t other u = another_stands s u

-- there are as many before it
few_with : (s : State) (k : LineKind) → T (not (is_past (plain s) k)) → T (is_position (place k)) → length s.asks < 16
few_with s k t u =
    let asks = map full s.asks in
    let few : length asks < 16 = nleb→lt most_asks (length asks) (not_T (leb most_asks (length asks)) (λ v.
    T_not (is_past (plain s) k) t ((T_and (is_position (place k)) (leb most_asks (length asks))).1 (u, v)))) in
    omega (arith, map_length full s.asks)

-- ---- what a line says

-- an ask with its groups
ask_says : (s : State) → Form s → (q o x : Field) → number x ≡ some 65535 → (c : Content) → parse (plain s) (bytes "ask" ∷ q ∷ o ∷ []) ≡ ok c
    → (i : ℕ) × (j : ℕ) × (parse s (bytes "ask2" ∷ q ∷ o ∷ x ∷ []) ≡ ok (head (ask2 i j most_groups))) × (head (ask i j) ≡ c)
unfolding place is_position with_third
ask_says s form q o x is c e =
    let fs = q ∷ o ∷ [] in
    let p = parse_ok (plain s) (bytes "ask" ∷ fs) e in
    let (is_kind, are) = kind_by (plain s) (bytes "ask") fs kind.Ask c known_words.0 p in
    let says = subst (λ fs. content kind.Ask false (length s.terms) fs ≡ ok c) are (subst (λ k. content k false (length s.terms) p.others ≡ ok c) is_kind p.says) in
    let stands : T (may_stand (plain s) (an_ask false)) = subst (λ k. T (may_stand (plain s) (place k))) is_kind p.stands in
    let number_left = subst (λ k. T (not (is_past (plain s) k))) is_kind p.in_number in
    let allowed : Allowed s kind.Ask2 = record { stands = ask_stands s form stands; in_number = λ y. few_with s kind.Ask number_left y } in
    let w = given (ask_law s.grouped (length s.terms) x (number_says most_groups x is (omega arith)) fs) says in (
      w.query,
      w.options,
      parse_fields s (bytes "ask2") (q ∷ o ∷ x ∷ []) {k = kind.Ask2} known_words.1 allowed (unfold fixed_count holds in tt) ∙ w.newer,
      w.older,
    )

-- an assume of the form with groups has five fields
five_fields : (s : State) → s.grouped ≡ true → T (not (holds (λ c. not (eqb 5 c)) (fixed_count s kind.Assume)))
unfolding fixed_count holds
five_fields s e = rw e tt

-- a fact with its group
fact_says : (s : State) → Form s → (name flag x t : Field) (k : ℕ) → number x ≡ some k → k ≤ 15 → (c : Content) → parse (plain s) (bytes "assume" ∷ name ∷ flag ∷ t ∷ []) ≡ ok c
    → (d : Content) × (parse s (bytes "assume" ∷ name ∷ flag ∷ x ∷ t ∷ []) ≡ ok d) × (plain_content d ≡ c) × (heads d ≡ []) × T s.grouped
unfolding place is_position with_third plain_content heads
fact_says s form name flag x t k is low c e =
    let fs = name ∷ flag ∷ t ∷ [] in
    let p = parse_ok (plain s) (bytes "assume" ∷ fs) e in
    let (is_kind, are) = kind_by (plain s) (bytes "assume") fs kind.Assume c known_words.2 p in
    let says = subst (λ fs. content kind.Assume false (length s.terms) fs ≡ ok c) are (subst (λ k. content k false (length s.terms) p.others ≡ ok c) is_kind p.says) in
    let (stands, behind) = another_stands s (subst (λ k. T (may_stand (plain s) (place k))) is_kind p.stands) in
    let grouped : s.grouped ≡ true = T_true s.grouped (form behind) in
    let allowed : Allowed s kind.Assume = record { stands = stands; in_number = λ y. absurd y } in
    let w = given (fact_law (length s.terms) x k (number_says most_group x is low) fs) says in (
      assume w.name w.flag w.group w.term,
      parse_fields s (bytes "assume") (name ∷ flag ∷ x ∷ t ∷ []) {k = kind.Assume} known_words.2 allowed (five_fields s grouped)
          ∙ ap (λ b. content kind.Assume b (length s.terms) (name ∷ flag ∷ x ∷ t ∷ [])) grouped ∙ w.newer,
      w.older,
      refl,
      form behind,
    )

-- any other line
same_says : (s : State) (fs : List Field) (c : Content) → T (not (is_word group_words (get_or fs 0 []))) → T (not (is_word older_words (get_or fs 0 [])))
    → parse (plain s) fs ≡ ok c → (parse s fs ≡ ok c) × (plain_content c ≡ c) × T (not (is_nil s.asks))
same_says s fs c other other' e =
    let p = parse_ok (plain s) fs e in
    let first : get_or fs 0 [] ≡ bytes (kind_word p.kind) = ap (λ (x : List Field). get_or x 0 []) p.split ∙ word_exact p.kind_word p.known in
    let is = plain_word p.kind (subst (λ f. T (not (is_word group_words f))) first other) in
    let formless = plain_formless p.kind is in
    let counted = subst (λ all. T (not (holds (λ c. not (eqb (length all) c)) (fixed_count (plain s) p.kind)))) p.split p.counted in
    let (stands, behind) = same_stands s p.kind is (subst (λ f. T (not (is_word older_words f))) first other') p.stands in
    let allowed : Allowed s p.kind = record { stands = stands; in_number = λ x. few_with s p.kind p.in_number x } in (
      ap (parse s) p.split
          ∙ parse_fields s p.kind_word p.others p.known allowed (rw (count_formless (plain s) s p.kind formless) at counted)
          ∙ content_formless p.kind formless s.grouped false (length s.terms) p.others ∙ p.says,
      given (says_plain p.kind is false (length s.terms) p.others) p.says,
      behind,
    )

-- ---- lines

-- what is asked admits all groups
abbrev AllFull : List Ask → Type 0
AllFull asks = map full asks ≡ asks

-- a line of the form with groups is read, and leaves what the line of the older form does
record Put (exclude : List Name) (n : ℕ) (s : State) (l : Line) (u' : State) : Type 0 where
  after : State
  reads : read_line exclude n s l ≡ ok after
  older : plain after ≡ u'
  all_full : AllFull after.asks
  grouped : T after.grouped

-- a line that says what the other does without its group
put_read : (exclude : List Name) (n : ℕ) (s u' : State) (l m : Line) (r : LineRead exclude n (plain s) m u') → l.ended ≡ m.ended
    → (c : Content) → parse s (fields l.bytes) ≡ ok c → plain_content c ≡ r.content
    → AllFull s.asks → AllFull (collect (head_asks s.asks) (heads c)) → T (s.grouped || any is_grouped (heads c)) → Put exclude n s l u'
unfolding add_line
put_read exclude n s u' l m r ended c parsed is here more form =
    let added = add_plain exclude n s c in
    let fresh = subst (λ b. T (not b)) (repeats_plain exclude n s c) (subst (λ d. T (not (repeats exclude n (plain s) d))) (sym is) r.fresh) in
    let few = subst (λ ls. T (all within ls)) (ap limits added ∙ limits_plain (add_line exclude n s c)) (subst (λ d. T (all within (limits (add_line exclude n (plain s) d)))) (sym is) r.in_limits) in
    record {
      after = add_line exclude n s c;
      reads = added_line exclude n s l (subst T (sym ended) r.ended) c parsed fresh few;
      older = sym added ∙ ap (add_line exclude n (plain s)) is ∙ sym r.after;
      all_full = map-append full s.asks (collect (head_asks s.asks) (heads c)) ∙ ap₂ ◌++◌ here more;
      grouped = form;
    }

-- a line that says the same in both forms asks for all groups
full_same : (asks : List Ask) (c : Content) → AllFull asks → plain_content c ≡ c → AllFull (collect (head_asks asks) (heads c))
full_same asks c here is = sym (asks_plain asks c) ∙ ap₂ (λ l d. collect (head_asks l) (heads d)) here is

-- so does an ask with all groups
full_ask : (asks : List Ask) (q o : ℕ) → let c = head (ask2 q o most_groups) in
    (plain_content c ≡ head (ask q o)) × AllFull (collect (head_asks asks) (heads c)) × T (any is_grouped (heads c))
unfolding plain_content plain_head collect heads head_asks any is_grouped
full_ask asks q o = (refl, refl, tt)

-- a line by its first field
begins_with : (l : Line) {f : Field} {fs : List Field} → fields l.bytes ≡ f ∷ fs → (words : List String) → T (is_word words f) → T (begins words l)
unfolding begins
begins_with l e words t = subst (λ fs. T (is_word words (get_or fs 0 []))) (sym e) t

-- the words of the two kinds with a group field
own_words : T (is_word grouped_words (bytes "ask2")) × T (is_word assume_words (bytes "assume"))
unfolding grouped_words assume_words
own_words = ((one_word "ask2" (bytes "ask2")).1 refl, (one_word "assume" (bytes "assume")).1 refl)

module _ (exclude : List Name) where
  -- every line
  line_put : (n : ℕ) (s u' : State) {l m : Line} → WithoutGroup l m → AllGroups l → Form s → AllFull s.asks
      → read_line exclude n (plain s) m ≡ ok u' → Put exclude n s l u'
  line_put n s u' (of_ask {l} {m} {q} {options} {groups} ended e d) good form here r =
      let w = line_read exclude n (plain s) m u' r in
      let is = subst (λ fs. number (get_or fs 3 []) ≡ some 65535) e (good.ask_groups (begins_with l e grouped_words own_words.0)) in
      let (i, j, newer, older) = ask_says s form q options groups is w.content (subst (λ fs. parse (plain s) fs ≡ ok w.content) d w.parsed) in
      let (is_plain_ask, more, grouped) = full_ask s.asks i j in
      put_read exclude n s u' l m w ended (head (ask2 i j most_groups)) (ap (parse s) e ∙ newer) (is_plain_ask ∙ older)
      here more ((T_or s.grouped (any is_grouped (heads (head (ask2 i j most_groups))))).1 (inr grouped))
  line_put n s u' (of_fact {l} {m} {name} {flag} {group} {t} ended e d) good form here r =
      let w = line_read exclude n (plain s) m u' r in
      let (k, is, low) = good.fact_group (begins_with l e assume_words own_words.1) in
      let (c, newer, older, none, grouped) = fact_says s form name flag group t k (subst (λ fs. number (get_or fs 3 []) ≡ some k) e is) low w.content
      (subst (λ fs. parse (plain s) fs ≡ ok w.content) d w.parsed) in
      put_read exclude n s u' l m w ended c (ap (parse s) e ∙ newer) older
      here (subst (λ hs. AllFull (collect (head_asks s.asks) hs)) (sym none) (unfold collect in refl)) ((T_or s.grouped (any is_grouped (heads c))).1 (inl grouped))
  line_put n s u' (as_it_is {l} other) good form here r =
      let w = line_read exclude n (plain s) l u' r in
      let (newer, is, behind) = same_says s (fields l.bytes) w.content (unfold begins in other) (unfold begins in good.no_older_ask) w.parsed in
      put_read exclude n s u' l l w refl w.content newer is here (full_same s.asks w.content here is) ((T_or s.grouped (any is_grouped (heads w.content))).1 (inl (form behind)))

  -- all lines
  lines_put : {ls ms : List Line} → Pairwise WithoutGroup ls ms → ((l : Line) → Memᴰ l ls → AllGroups l) → (n : ℕ) (s t' : State) → Form s → AllFull s.asks
      → read_lines exclude n (plain s) ms ≡ read t' → (t : State) × (read_lines exclude n s ls ≡ read t) × (plain t ≡ t') × AllFull t.asks × Form t
  lines_put ends good n s t' form here e = (s, unfold read_lines in refl, none_read exclude n (plain s) t' e, here, form)
  lines_put (pair {a = l} {b = m} {l = ls} {m = ms} this others) good n s t' form here e =
      let (u', r, rest) = lines_read exclude n (plain s) m ms t' e in
      let w = line_put n s u' this (good l (Memᴰ.head refl)) form here r in
      let (t, reads, older, there, form') = lines_put others (λ k i. good k (Memᴰ.tail i)) (n + 1) w.after t' (λ behind. w.grouped) w.all_full
      (subst (λ (x : State). read_lines exclude (n + 1) x ms ≡ read t') (sym w.older) rest) in
      (t, lines_on exclude n s w.after l ls w.reads ∙ reads, older, there, form')

-- ---- files

-- asks that are so admit all groups
full_groups : (asks : List Ask) → AllFull asks → (a : Ask) → Memᴰ a asks → a.groups ≡ 65535
full_groups asks here a i = let (b, j, is) = map_elim full asks (subst (Memᴰ a) (sym here) i) in ap (λ (x : Ask). x.groups) (sym is)

-- the file with the group fields answers the same
pub groups_put_in : GroupsPutIn
unfolding start is_nil
groups_put_in file file' s' e pairs good =
    let (s, reads, older, here, form) = lines_put exclude_names pairs good 1 start s' (λ t. absurd t) refl (file_read exclude_names file' s' e) in
    let (first, others, are) = some_first pairs in
    let accepted = read_by_lines file (λ none. cons-ne-nil first others (sym are ∙ none)) ∙ reads in
    let asked = asked_lines first others 1 start s (subst (λ ls. read_lines exclude_names 1 start ls ≡ read s) are reads) in
    let low : (f : Fact) → Memᴰ f (facts s.decls) → f.group ≤ 15 = λ f i. ((accepted_well_formed file s accepted).good_facts f i).low_group in
    (s, accepted, form asked, sym here ∙ ap (λ (x : State). x.asks) older, sym (filtered_plain s (full_groups s.asks here) low) ∙ ap filtered older)
  where
    some_first : Pairwise WithoutGroup (lines file) (lines file') → (first : Line) × (others : List Line) × (lines file ≡ first ∷ others)
    some_first p = let (m, ms, are) = some_line file' e in go refl (subst (Pairwise WithoutGroup (lines file)) are p)
      where
        go : {ls : List Line} {m : Line} {ms : List Line} → lines file ≡ ls → Pairwise WithoutGroup ls (m ∷ ms) → (first : Line) × (others : List Line) × (lines file ≡ first ∷ others)
        go is (pair {a = l} {l = ls} this rest) = (l, ls, is)
