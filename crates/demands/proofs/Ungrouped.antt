-- A file of the form with groups whose asks admit all groups, and the file of the older form without the group fields.
use Prim.Native.Nat.{ℕ, ◌+◌, ◌≤◌, ◌<◌}
use native.Mathlib.Omega.{arith}
use mathlib.Core.Path.{◌≡◌, refl, sym, ◌∙◌, ap, subst}
use mathlib.Core.Logic.{⊎_elim, ◌≢◌}
use mathlib.Core.Bool.{Bool, true, false, true≢false, not, ◌&&◌, ◌||◌, beq, or-true}
use mathlib.Core.List.{List, [], ◌∷◌, ◌++◌, map, map-map, map-id, map-append, append-nil, cons-ne-nil, Memᴰ}
use Rattle.std.specs.Prelude.{Some as some}
use Rattle.std.proofs.lemmas.Option.{same_Some as some-injective}
use lib.Dec.{T, T_not, not_T, leb, nleb→lt, eqb}
use lib.ListN.{length, get_or}
use Rattle.model.specs.Lists.{any, all, sum, collect, holds, is_nil, last}
use Rattle.model.specs.Names.{Name, bytes, by_byte, order, is_same, same}
use Rattle.model.specs.Lines.{Line, lines, Field, fields}
use Rattle.model.specs.Terms.{Term}
use Rattle.model.specs.Summaries.{exclude_names, Fact, summarize_assumption}
use Rattle.model.specs.Reading.{Result, ok, need, name_field, number_field, term_field, op_words, word, kinds, next, rest, end, groups, quantifier, Head, ask, ask2, also, hide, Content, head, term}
use Rattle.model.specs.Reading.{assume, fun, def, retain, root, most_query, most_options, most_group, most_groups, group_field, content, Ask, Summary, sum_assume, sum_definefun, sum_declfun}
use Rattle.model.specs.Reading.{sum_retain, Root, State, start, read, in_head, in_asks, an_ask, an_also, a_hide, another, place, of_form, may_stand, is_position, most_asks, fixed_count, parse}
use Rattle.model.specs.Reading.{with_query, head_asks, is_grouped, hidden_by, heads, nodes, spelled, taken_by, entries_of, uses_of, limits, summarize_decl, trimmed, root_of, excluded, add_line}
use Rattle.model.specs.Reading.{repeats, read_line, read_lines}
use Rattle.model.specs.Rounds.{facts}
use Rattle.model.specs.Outcome.{Position, position, filtered}
use Rattle.model.specs.declared.LineKind.{LineKind}
use Rattle.model.specs.declared.LineKind.TheVariants as kind
use Rattle.model.specs.declared.Refusal.TheVariants as refusal
use Rattle.model.proofs.ListLaws.{T_and, T_true, map_cong, map_elim}
use Rattle.laws.proofs.ReadingLaws.{within, is_past, Parsed, parse_ok, LineRead, line_read, lines_read, none_read, added_line, file_read}
use Rattle.demands.specs.LinesRead.{LinesRead, Pairwise, ends, pair}
use Rattle.demands.specs.LineForm.{Allowed}
use Rattle.demands.specs.Counts.{form_words, grouped_words, also_words, is_word, begins}
use Rattle.demands.specs.Demand1.{ask_word}
use Rattle.demands.specs.Moved.{moved_decl, moved_root, moved_position}
use Rattle.demands.specs.Groups.{group_words, WithoutGroup, of_ask, of_fact, as_it_is, GroupsLeftOut}
use Rattle.demands.proofs.Refusals.{lines_on}
use Rattle.demands.proofs.TermNumbers.{Gives, value as gives_value, any_value, given, gives_bind, gives_end}
use Rattle.demands.proofs.LineForm.{has_group, count_formless, content_formless, parse_fields}
use Rattle.demands.proofs.LineFields.{gives_field, gives_ended, gives_by, kind_word, word_exact}
use Rattle.demands.proofs.Heads.{headed_line}
use Rattle.demands.proofs.Asks.{asked_now, form_word, split_file, accepted_asks, first_no_also, also_word, some_line}
use Rattle.demands.proofs.Moved.{map_length, nil_map, relabeled_fact, relabeled, relabeled_facts, over, position_over, relabeled_over}
use Rattle.demands.proofs.WellFormed.{accepted_well_formed}
use Rattle.demands.proofs.Groups.{all_admitted}
use Rattle.demands.proofs.HiddenNames.{read_by_lines}

-- ---- a state without groups

-- an ask that admits all groups
abbrev pub full : Ask → Ask
full a = record { queries = a.queries; options = a.options; groups = most_groups }

-- a record of group 0
abbrev ungrouped : Summary → Summary
ungrouped = relabeled (λ n. n) (λ g. 0)

-- the state of the older form
abbrev pub plain : State → State
plain s =
    record {
      asks = map full s.asks;
      grouped = false;
      hidden = s.hidden;
      terms = s.terms;
      names = s.names;
      decls = map ungrouped s.decls;
      roots = s.roots;
      references = s.references;
      entries = s.entries;
      uses = s.uses;
    }

-- what a line says without its group
unfoldable pub plain_head : Head → Head
plain_head (ask q o) = ask q o
plain_head (ask2 q o g) = ask q o
plain_head (also q) = also q
plain_head (hide name) = hide name

unfoldable pub plain_content : Content → Content
plain_content (head h) = head (plain_head h)
plain_content (term node) = term node
plain_content (assume name flag group t) = assume name flag 0 t
plain_content (fun name) = fun name
plain_content (def name t) = def name t
plain_content (retain names) = retain names
plain_content (root q name t) = root q name t

-- ---- what a line adds

last_map : {A B : Type 0} (f : A → B) (l : List A) → last (map f l) ≡ map f (last l)
unfolding last
last_map f [] = refl
last_map f (x ∷ []) = refl
last_map f (x ∷ y ∷ l) = last_map f (y ∷ l)

-- what it asks
head_plain : (asks : List Ask) (h : Head) → head_asks (map full asks) (plain_head h) ≡ map full (head_asks asks h)
unfolding head_asks plain_head with_query
head_plain asks (ask q o) = refl
head_plain asks (ask2 q o g) = refl
head_plain asks (also q) =
    ap (map (with_query q)) (last_map full asks) ∙ map-map (with_query q) full (last asks) ∙ sym (map-map full (with_query q) (last asks))
head_plain asks (hide name) = refl

pub asks_plain : (asks : List Ask) (c : Content) → collect (head_asks (map full asks)) (heads (plain_content c)) ≡ map full (collect (head_asks asks) (heads c))
unfolding collect heads plain_content
asks_plain asks (head h) = append-nil (head_asks (map full asks) (plain_head h)) ∙ head_plain asks h ∙ ap (map full) (sym (append-nil (head_asks asks h)))
asks_plain asks (term node) = refl
asks_plain asks (assume name flag group t) = refl
asks_plain asks (fun name) = refl
asks_plain asks (def name t) = refl
asks_plain asks (retain names) = refl
asks_plain asks (root q name t) = refl

-- it is of the older form
form_plain : (c : Content) → any is_grouped (heads (plain_content c)) ≡ false
unfolding any is_grouped heads plain_content plain_head
form_plain (head (ask q o)) = refl
form_plain (head (ask2 q o g)) = refl
form_plain (head (also q)) = refl
form_plain (head (hide name)) = refl
form_plain (term node) = refl
form_plain (assume name flag group t) = refl
form_plain (fun name) = refl
form_plain (def name t) = refl
form_plain (retain names) = refl
form_plain (root q name t) = refl

-- what it hides
hides_plain : (c : Content) → collect hidden_by (heads (plain_content c)) ≡ collect hidden_by (heads c)
unfolding collect hidden_by heads plain_content plain_head
hides_plain (head (ask q o)) = refl
hides_plain (head (ask2 q o g)) = refl
hides_plain (head (also q)) = refl
hides_plain (head (hide name)) = refl
hides_plain (term node) = refl
hides_plain (assume name flag group t) = refl
hides_plain (fun name) = refl
hides_plain (def name t) = refl
hides_plain (retain names) = refl
hides_plain (root q name t) = refl

-- its term, the names that it spells, the token that is trimmed, and its root
nodes_plain : (c : Content) → nodes (plain_content c) ≡ nodes c
unfolding nodes plain_content
nodes_plain (head h) = refl
nodes_plain (term node) = refl
nodes_plain (assume name flag group t) = refl
nodes_plain (fun name) = refl
nodes_plain (def name t) = refl
nodes_plain (retain names) = refl
nodes_plain (root q name t) = refl

spelled_plain : (c : Content) → spelled (plain_content c) ≡ spelled c
unfolding spelled hidden_by plain_content plain_head
spelled_plain (head (ask q o)) = refl
spelled_plain (head (ask2 q o g)) = refl
spelled_plain (head (also q)) = refl
spelled_plain (head (hide name)) = refl
spelled_plain (term node) = refl
spelled_plain (assume name flag group t) = refl
spelled_plain (fun name) = refl
spelled_plain (def name t) = refl
spelled_plain (retain names) = refl
spelled_plain (root q name t) = refl

module _ (out : List Name) (terms : List Term) where
  trimmed_plain : (c : Content) → trimmed out terms (plain_content c) ≡ trimmed out terms c
  unfolding trimmed plain_content
  trimmed_plain (head h) = refl
  trimmed_plain (term node) = refl
  trimmed_plain (assume name flag group t) = refl
  trimmed_plain (fun name) = refl
  trimmed_plain (def name t) = refl
  trimmed_plain (retain names) = refl
  trimmed_plain (root q name t) = refl

  root_plain : (n : ℕ) (c : Content) → root_of out terms n (plain_content c) ≡ root_of out terms n c
  unfolding root_of plain_content
  root_plain n (head h) = refl
  root_plain n (term node) = refl
  root_plain n (assume name flag group t) = refl
  root_plain n (fun name) = refl
  root_plain n (def name t) = refl
  root_plain n (retain names) = refl
  root_plain n (root q name t) = refl

  -- its record
  decls_plain : (n : ℕ) (c : Content) → summarize_decl out terms n (plain_content c) ≡ map ungrouped (summarize_decl out terms n c)
  unfolding summarize_decl summarize_assumption plain_content relabeled relabeled_fact moved_decl
  decls_plain n (head h) = refl
  decls_plain n (term node) = refl
  decls_plain n (assume name flag group t) = refl
  decls_plain n (fun name) = refl
  decls_plain n (def name t) = refl
  decls_plain n (retain names) = refl
  decls_plain n (root q name t) = refl

-- what is counted of records, and the names that they take
entries_plain : (l : List Summary) → sum (map entries_of (map ungrouped l)) ≡ sum (map entries_of l)
unfolding sum entries_of relabeled relabeled_fact
entries_plain [] = refl
entries_plain (sum_assume f ∷ l) = rw (entries_plain l)
entries_plain (sum_definefun d ∷ l) = rw (entries_plain l)
entries_plain (sum_declfun d ∷ l) = rw (entries_plain l)
entries_plain (sum_retain ∷ l) = rw (entries_plain l)

uses_plain : (l : List Summary) → sum (map uses_of (map ungrouped l)) ≡ sum (map uses_of l)
unfolding sum uses_of relabeled relabeled_fact moved_decl
uses_plain [] = refl
uses_plain (sum_assume f ∷ l) = rw (uses_plain l)
uses_plain (sum_definefun d ∷ l) = rw (uses_plain l)
uses_plain (sum_declfun d ∷ l) = rw (uses_plain l)
uses_plain (sum_retain ∷ l) = rw (uses_plain l)

taken_plain : (l : List Summary) → collect taken_by (map ungrouped l) ≡ collect taken_by l
unfolding collect taken_by relabeled relabeled_fact moved_decl
taken_plain [] = refl
taken_plain (sum_assume f ∷ l) = rw (taken_plain l)
taken_plain (sum_definefun d ∷ l) = rw (taken_plain l)
taken_plain (sum_declfun d ∷ l) = rw (taken_plain l)
taken_plain (sum_retain ∷ l) = taken_plain l

module _ (exclude : List Name) (n : ℕ) (s : State) (c : Content) where
  -- the line without its group adds the same to the state without groups
  pub add_plain : add_line exclude n (plain s) (plain_content c) ≡ plain (add_line exclude n s c)
  unfolding add_line excluded
  add_plain =
      let out = exclude ++ s.hidden in
      rw (
        asks_plain s.asks c,
        form_plain c,
        hides_plain c,
        nodes_plain c,
        spelled_plain c,
        trimmed_plain out s.terms c,
        root_plain out s.terms n c,
        decls_plain out s.terms n c,
        entries_plain (summarize_decl out s.terms n c),
        uses_plain (summarize_decl out s.terms n c),
        map-append full s.asks (collect (head_asks s.asks) (heads c)),
        map-append ungrouped s.decls (summarize_decl out s.terms n c),
      )

  -- it repeats a name where the line does
  pub repeats_plain : repeats exclude n (plain s) (plain_content c) ≡ repeats exclude n s c
  unfolding repeats excluded
  repeats_plain =
      let out = exclude ++ s.hidden in
      rw (decls_plain out s.terms n c, taken_plain s.decls, taken_plain (summarize_decl out s.terms n c))

-- the counts are the same
pub limits_plain : (s : State) → limits (plain s) ≡ limits s
unfolding limits
limits_plain s = rw (map_length ungrouped s.decls)

-- a line whose fields say, without the group, what another's do is read where the other is
plain_read : (exclude : List Name) (n : ℕ) (s u : State) (l m : Line) (r : LineRead exclude n s l u) → l.ended ≡ m.ended
    → parse (plain s) (fields m.bytes) ≡ ok (plain_content r.content) → read_line exclude n (plain s) m ≡ ok (plain u)
plain_read exclude n s u l m r ended parsed =
    let c = r.content in
    let added = add_plain exclude n s c in
    added_line exclude n (plain s) m (subst T ended r.ended) (plain_content c) parsed
    (subst (λ b. T (not b)) (sym (repeats_plain exclude n s c)) r.fresh)
    (subst (λ ls. T (all within ls)) (sym (ap limits added ∙ limits_plain (add_line exclude n s c))) r.in_limits)
    ∙ ap ok (added ∙ ap (λ (x : State). plain x) (sym r.after))

-- ---- where a line may stand

pub head_on : (s : State) → in_head (plain s) ≡ in_head s
unfolding in_head
head_on s = rw (nil_map ungrouped s.decls)

pub asks_on : (s : State) → in_asks (plain s) ≡ in_asks s
unfolding in_asks
asks_on s = ap (◌&& is_nil s.hidden) (head_on s)

pub asked_on : (s : State) → is_nil (map full s.asks) ≡ is_nil s.asks
asked_on s = nil_map full s.asks

-- an ask without groups where one with groups may
ask_stands : (s : State) (g : Bool) → T (may_stand s (an_ask g)) → T (may_stand (plain s) (an_ask false))
unfolding may_stand of_form
ask_stands s g t =
    (T_and (in_asks (plain s)) (is_nil (map full s.asks) || true)).1
    (subst T (sym (asks_on s)) ((T_and (in_asks s) (is_nil s.asks || beq g s.grouped)).0 t).0, rw (or-true (is_nil (map full s.asks))) tt)

also_stands : (s : State) → T (may_stand s an_also) → T (may_stand (plain s) an_also)
unfolding may_stand
also_stands s t = rw (asks_on s, asked_on s) t

hide_stands : (s : State) → T (may_stand s a_hide) → T (may_stand (plain s) a_hide)
unfolding may_stand
hide_stands s t = rw (head_on s, asked_on s) t

another_stands : (s : State) → T (may_stand s another) → T (may_stand (plain s) another)
unfolding may_stand
another_stands s t = rw (asked_on s) t

-- where there is an ask with groups none without may stand
no_older : (s : State) → T s.grouped → T (not (is_nil s.asks)) → T (may_stand s (an_ask false)) → ⊥
unfolding may_stand of_form
no_older s g behind t = absurd (go (is_nil s.asks) s.grouped behind g ((T_and (in_asks s) (is_nil s.asks || beq false s.grouped)).0 t).1)
  where
    go : (none form : Bool) → T (not none) → T form → T (none || beq false form) → ⊥
    go true form t u v = t
    go false true t u v = v
    go false false t u v = u

-- there are as many before it
few_plain : (s : State) (k : LineKind) → T (not (is_past s k)) → T (is_position (place k)) → length (map full s.asks) < 16
few_plain s k t u =
    let few : length s.asks < 16 = nleb→lt most_asks (length s.asks) (not_T (leb most_asks (length s.asks)) (λ v.
    T_not (is_past s k) t ((T_and (is_position (place k)) (leb most_asks (length s.asks))).1 (u, v)))) in
    omega (arith, map_length full s.asks)

-- ---- an ask with groups

-- the fields after the kind without the third of them
without_third : List Field → List Field
without_third [] = []
without_third (f ∷ []) = f ∷ []
without_third (f ∷ g ∷ []) = f ∷ g ∷ []
without_third (f ∷ g ∷ h ∷ fs) = f ∷ g ∷ fs

-- a field that is judged so
pub judged : {A : Type 0} (judge : Field → Result A) (f : Field) → Gives (λ a. judge f ≡ ok a) (judge f)
judged judge f = gives_by (judge f) (λ a e. e)

-- what an ask with groups says is, without them, what its other fields say as an ask
ask_law : (grouped : Bool) (count : ℕ) (fs : List Field)
    → Gives (λ c. content kind.Ask false count (without_third fs) ≡ ok (plain_content c)) (content kind.Ask2 grouped count fs)
unfolding content without_third plain_content plain_head
ask_law grouped count =
    gives_field (λ fs c. content kind.Ask false count (without_third fs) ≡ ok (plain_content c)) (judged (number_field most_query)) _ (λ f q u.
    gives_field (λ fs c. content kind.Ask false count (without_third (f ∷ fs)) ≡ ok (plain_content c)) (judged (number_field most_options)) _ (λ g o v.
    gives_field (λ fs c. content kind.Ask false count (without_third (f ∷ g ∷ fs)) ≡ ok (plain_content c)) (judged (number_field most_groups)) _ (λ h a w.
    gives_ended (λ fs c. content kind.Ask false count (without_third (f ∷ g ∷ h ∷ fs)) ≡ ok (plain_content c)) (head (ask2 q o a))
    (unfold next end in (rw (u, v))))))

-- so is what an assume with its group says
fact_law : (count : ℕ) (fs : List Field)
    → Gives (λ c. content kind.Assume false count (without_third fs) ≡ ok (plain_content c)) (content kind.Assume true count fs)
unfolding content group_field without_third plain_content
fact_law count =
    gives_field (λ fs c. content kind.Assume false count (without_third fs) ≡ ok (plain_content c)) (judged name_field) _ (λ f name u.
    gives_field (λ fs c. content kind.Assume false count (without_third (f ∷ fs)) ≡ ok (plain_content c)) (judged (number_field 1)) _ (λ g flag v.
    gives_field (λ fs c. content kind.Assume false count (without_third (f ∷ g ∷ fs)) ≡ ok (plain_content c)) (judged (number_field most_group)) _ (λ h group w.
    gives_field (λ fs c. content kind.Assume false count (without_third (f ∷ g ∷ h ∷ fs)) ≡ ok (plain_content c)) (judged (term_field count)) _ (λ k t x.
    gives_ended (λ fs c. content kind.Assume false count (without_third (f ∷ g ∷ h ∷ k ∷ fs)) ≡ ok (plain_content c)) (assume name (eqb flag 1) group t)
    (unfold next end in (rw (u, v, x)))))))

-- the kinds of the words
pub known_words : (word kinds (bytes "ask") ≡ some kind.Ask) × (word kinds (bytes "ask2") ≡ some kind.Ask2) × (word kinds (bytes "assume") ≡ some kind.Assume)
unfolding word kinds same order by_byte is_same bytes
known_words = (refl, refl, refl)

-- fields of a kind, by its word
pub kind_by : (s : State) (w : Field) (rest : List Field) (k : LineKind) (c : Content) → word kinds w ≡ some k → (p : Parsed s (w ∷ rest) c) → (p.kind ≡ k) × (p.others ≡ rest)
kind_by s w rest k c known p =
    let split = p.split in
    let is = p.known in
    let same_word : w ≡ p.kind_word = cc in
    (some-injective p.kind k (sym is ∙ ap (word kinds) (sym same_word) ∙ known), cc)

-- what an ask with groups says without them
ask_says : (s : State) (q o g : Field) (c : Content) → parse s (bytes "ask2" ∷ q ∷ o ∷ g ∷ []) ≡ ok c → parse (plain s) (bytes "ask" ∷ q ∷ o ∷ []) ≡ ok (plain_content c)
unfolding place is_position without_third
ask_says s q o g c e =
    let p = parse_ok s (bytes "ask2" ∷ q ∷ o ∷ g ∷ []) e in
    let (is_kind, are) = kind_by s (bytes "ask2") (q ∷ o ∷ g ∷ []) kind.Ask2 c known_words.1 p in
    let says = subst (λ fs. content kind.Ask2 s.grouped (length s.terms) fs ≡ ok c) are (subst (λ k. content k s.grouped (length s.terms) p.others ≡ ok c) is_kind p.says) in
    let stands : T (may_stand s (an_ask true)) = subst (λ k. T (may_stand s (place k))) is_kind p.stands in
    let number = subst (λ k. T (not (is_past s k))) is_kind p.in_number in
    let allowed : Allowed (plain s) kind.Ask = record { stands = ask_stands s true stands; in_number = λ x. few_plain s kind.Ask2 number x } in
    parse_fields (plain s) (bytes "ask") (q ∷ o ∷ []) {k = kind.Ask} known_words.0 allowed (unfold fixed_count holds in tt)
    ∙ given (ask_law s.grouped (length s.terms) (q ∷ o ∷ g ∷ [])) says

-- what a fact says without its group
fact_says : (s : State) → T s.grouped → (name flag group t : Field) (c : Content) → parse s (bytes "assume" ∷ name ∷ flag ∷ group ∷ t ∷ []) ≡ ok c
    → parse (plain s) (bytes "assume" ∷ name ∷ flag ∷ t ∷ []) ≡ ok (plain_content c)
unfolding place is_position without_third
fact_says s grouped name flag group t c e =
    let fs = name ∷ flag ∷ group ∷ t ∷ [] in
    let p = parse_ok s (bytes "assume" ∷ fs) e in
    let (is_kind, are) = kind_by s (bytes "assume") fs kind.Assume c known_words.2 p in
    let says = subst (λ b. content kind.Assume b (length s.terms) fs ≡ ok c) (T_true s.grouped grouped)
    (subst (λ fs. content kind.Assume s.grouped (length s.terms) fs ≡ ok c) are (subst (λ k. content k s.grouped (length s.terms) p.others ≡ ok c) is_kind p.says)) in
    let stands : T (may_stand s another) = subst (λ k. T (may_stand s (place k))) is_kind p.stands in
    let allowed : Allowed (plain s) kind.Assume = record { stands = another_stands s stands; in_number = λ x. absurd x } in
    parse_fields (plain s) (bytes "assume") (name ∷ flag ∷ t ∷ []) {k = kind.Assume} known_words.2 allowed (unfold fixed_count holds in tt)
    ∙ given (fact_law (length s.terms) (name ∷ flag ∷ group ∷ t ∷ [])) says

-- ---- any other line

-- whether a line of this kind has no group field
unfoldable pub is_plain : LineKind → Bool
is_plain kind.Ask = true
is_plain kind.Ask2 = false
is_plain kind.Also = true
is_plain kind.Hide = true
is_plain kind.Free = true
is_plain kind.Leaf = true
is_plain kind.Call = true
is_plain kind.Op = true
is_plain kind.All = true
is_plain kind.Some = true
is_plain kind.Let = true
is_plain kind.Label = true
is_plain kind.Assume = false
is_plain kind.Fun = true
is_plain kind.Def = true
is_plain kind.Retain = true
is_plain kind.Root = true

-- so it is by its word
pub plain_word : (k : LineKind) → T (not (is_word group_words (bytes (kind_word k)))) → T (is_plain k)
unfolding is_plain is_word group_words kind_word any same order by_byte is_same bytes
plain_word kind.Ask t = tt
plain_word kind.Ask2 t = absurd t
plain_word kind.Also t = tt
plain_word kind.Hide t = tt
plain_word kind.Free t = tt
plain_word kind.Leaf t = tt
plain_word kind.Call t = tt
plain_word kind.Op t = tt
plain_word kind.All t = tt
plain_word kind.Some t = tt
plain_word kind.Let t = tt
plain_word kind.Label t = tt
plain_word kind.Assume t = absurd t
plain_word kind.Fun t = tt
plain_word kind.Def t = tt
plain_word kind.Retain t = tt
plain_word kind.Root t = tt

pub plain_formless : (k : LineKind) → T (is_plain k) → T (not (has_group k))
unfolding is_plain has_group
plain_formless kind.Ask t = tt
plain_formless kind.Ask2 t = absurd t
plain_formless kind.Also t = tt
plain_formless kind.Hide t = tt
plain_formless kind.Free t = tt
plain_formless kind.Leaf t = tt
plain_formless kind.Call t = tt
plain_formless kind.Op t = tt
plain_formless kind.All t = tt
plain_formless kind.Some t = tt
plain_formless kind.Let t = tt
plain_formless kind.Label t = tt
plain_formless kind.Assume t = absurd t
plain_formless kind.Fun t = tt
plain_formless kind.Def t = tt
plain_formless kind.Retain t = tt
plain_formless kind.Root t = tt

-- where it may stand behind an ask with groups it may without
plain_stands : (s : State) → T s.grouped → T (not (is_nil s.asks)) → (k : LineKind) → T (is_plain k) → T (may_stand s (place k)) → T (may_stand (plain s) (place k))
unfolding is_plain place
plain_stands s g behind kind.Ask t u = absurd (no_older s g behind u)
plain_stands s g behind kind.Ask2 t u = absurd t
plain_stands s g behind kind.Also t u = also_stands s u
plain_stands s g behind kind.Hide t u = hide_stands s u
plain_stands s g behind kind.Free t u = another_stands s u
plain_stands s g behind kind.Leaf t u = another_stands s u
plain_stands s g behind kind.Call t u = another_stands s u
plain_stands s g behind kind.Op t u = another_stands s u
plain_stands s g behind kind.All t u = another_stands s u
plain_stands s g behind kind.Some t u = another_stands s u
plain_stands s g behind kind.Let t u = another_stands s u
plain_stands s g behind kind.Label t u = another_stands s u
plain_stands s g behind kind.Assume t u = absurd t
plain_stands s g behind kind.Fun t u = another_stands s u
plain_stands s g behind kind.Def t u = another_stands s u
plain_stands s g behind kind.Retain t u = another_stands s u
plain_stands s g behind kind.Root t u = another_stands s u

-- an `all` or a `some` says what it does without a group
quantifier_plain : (make : ℕ → List (List ℕ) → _) (count : ℕ) (fs : List Field) → Gives (λ c. plain_content c ≡ c) (quantifier make count fs)
unfolding quantifier plain_content
quantifier_plain make count fs =
    gives_bind (any_value (next (term_field count) fs)) (λ body u.
    gives_bind (any_value (next (number_field 65535) body.1)) (λ g v.
    gives_bind (any_value (groups count g.0 g.1)) (λ gs w. gives_end _ refl gs.1)))

-- so does every such line
pub says_plain : (k : LineKind) → T (is_plain k) → (grouped : Bool) (count : ℕ) (fs : List Field) → Gives (λ c. plain_content c ≡ c) (content k grouped count fs)
unfolding is_plain content plain_content plain_head
says_plain kind.Ask t grouped count fs =
    gives_bind (any_value (next (number_field most_query) fs)) (λ q u. gives_bind (any_value (next (number_field most_options) q.1)) (λ o v. gives_end _ refl o.1))
says_plain kind.Ask2 t grouped count fs = absurd t
says_plain kind.Also t grouped count fs = gives_bind (any_value (next (number_field most_query) fs)) (λ q u. gives_end _ refl q.1)
says_plain kind.Hide t grouped count fs = gives_bind (any_value (next name_field fs)) (λ n u. gives_end _ refl n.1)
says_plain kind.Free t grouped count fs = gives_bind (any_value (next name_field fs)) (λ n u. gives_end _ refl n.1)
says_plain kind.Leaf t grouped count fs = gives_end _ refl fs
says_plain kind.Call t grouped count fs =
    gives_bind (any_value (next name_field fs)) (λ n u. gives_bind (any_value (rest (term_field count) n.1)) (λ ts v. gives_value refl))
says_plain kind.Op t grouped count fs =
    gives_bind (any_value (next (λ f. need refusal.Form (word op_words f)) fs)) (λ w u. gives_bind (any_value (rest (term_field count) w.1)) (λ ts v. gives_value refl))
says_plain kind.All t grouped count fs = quantifier_plain _ count fs
says_plain kind.Some t grouped count fs = quantifier_plain _ count fs
says_plain kind.Let t grouped count fs =
    gives_bind (any_value (next (term_field count) fs)) (λ body u. gives_bind (any_value (rest (term_field count) body.1)) (λ ts v. gives_value refl))
says_plain kind.Label t grouped count fs = gives_bind (any_value (next (term_field count) fs)) (λ u v. gives_end _ refl u.1)
says_plain kind.Assume t grouped count fs = absurd t
says_plain kind.Fun t grouped count fs = gives_bind (any_value (next name_field fs)) (λ n u. gives_end _ refl n.1)
says_plain kind.Def t grouped count fs =
    gives_bind (any_value (next name_field fs)) (λ n u. gives_bind (any_value (next (term_field count) n.1)) (λ v w. gives_end _ refl v.1))
says_plain kind.Retain t grouped count fs = gives_bind (any_value (rest name_field fs)) (λ ns u. gives_value refl)
says_plain kind.Root t grouped count fs =
    gives_bind (any_value (next (number_field most_query) fs)) (λ q u.
    gives_bind (any_value (next name_field q.1)) (λ n v. gives_bind (any_value (next (term_field count) n.1)) (λ x y. gives_end _ refl x.1)))

-- a line without a group field says the same
same_says : (s : State) → T s.grouped → T (not (is_nil s.asks)) → (fs : List Field) (c : Content) → T (not (is_word group_words (get_or fs 0 [])))
    → parse s fs ≡ ok c → parse (plain s) fs ≡ ok (plain_content c)
same_says s grouped behind fs c other e =
    let p = parse_ok s fs e in
    let first : get_or fs 0 [] ≡ bytes (kind_word p.kind) = ap (λ (x : List Field). get_or x 0 []) p.split ∙ word_exact p.kind_word p.known in
    let is = plain_word p.kind (subst (λ f. T (not (is_word group_words f))) first other) in
    let formless = plain_formless p.kind is in
    let counted = subst (λ all. T (not (holds (λ c. not (eqb (length all) c)) (fixed_count s p.kind)))) p.split p.counted in
    let allowed : Allowed (plain s) p.kind = record { stands = plain_stands s grouped behind p.kind is p.stands; in_number = λ x. few_plain s p.kind p.in_number x } in
    ap (parse (plain s)) p.split
    ∙ parse_fields (plain s) p.kind_word p.others p.known allowed (rw (count_formless s (plain s) p.kind formless) at counted)
    ∙ content_formless p.kind formless false s.grouped (length s.terms) p.others ∙ p.says
    ∙ ap ok (sym (given (says_plain p.kind is s.grouped (length s.terms) p.others) p.says))

-- ---- lines

module _ (exclude : List Name) where
  -- an ask with groups
  ask_line : (n : ℕ) (s u : State) (l m : Line) (q o g : Field) → l.ended ≡ m.ended → fields l.bytes ≡ bytes "ask2" ∷ q ∷ o ∷ g ∷ []
      → fields m.bytes ≡ bytes "ask" ∷ q ∷ o ∷ [] → read_line exclude n s l ≡ ok u → read_line exclude n (plain s) m ≡ ok (plain u)
  ask_line n s u l m q o g ended e d r =
      let w = line_read exclude n s l u r in
      plain_read exclude n s u l m w ended (ap (parse (plain s)) d ∙ ask_says s q o g w.content (subst (λ fs. parse s fs ≡ ok w.content) e w.parsed))

  -- every line behind an ask with groups
  line_plain : (n : ℕ) (s u : State) {l m : Line} → WithoutGroup l m → T s.grouped → T (not (is_nil s.asks))
      → read_line exclude n s l ≡ ok u → read_line exclude n (plain s) m ≡ ok (plain u)
  line_plain n s u (of_ask {l} {m} {q} {options} {groups} ended e d) grouped behind r = ask_line n s u l m q options groups ended e d r
  line_plain n s u (of_fact {l} {m} {name} {flag} {group} {t} ended e d) grouped behind r =
      let w = line_read exclude n s l u r in
      plain_read exclude n s u l m w ended
      (ap (parse (plain s)) d ∙ fact_says s grouped name flag group t w.content (subst (λ fs. parse s fs ≡ ok w.content) e w.parsed))
  line_plain n s u (as_it_is {l} other) grouped behind r =
      let w = line_read exclude n s l u r in
      plain_read exclude n s u l l w refl (same_says s grouped behind (fields l.bytes) w.content (unfold begins in other) w.parsed)

  -- what is of the form with groups stays so
  pub grouped_now : (n : ℕ) (s u : State) (l : Line) → read_line exclude n s l ≡ ok u → T s.grouped → T u.grouped
  grouped_now n s u l r t = subst T (sym (headed_line exclude n s u l r).form) (stays s.grouped _ t)
    where
      stays : (b c : Bool) → T b → T (b || c)
      stays true c t = tt
      stays false c t = absurd t

  -- all lines behind it
  lines_plain : {ls ms : List Line} → Pairwise WithoutGroup ls ms → (n : ℕ) (s t : State) → T s.grouped → T (not (is_nil s.asks))
      → read_lines exclude n s ls ≡ read t → read_lines exclude n (plain s) ms ≡ read (plain t)
  lines_plain ends n s t grouped behind e = unfold read_lines in (ap (λ (x : State). read (plain x)) (none_read exclude n s t e))
  lines_plain (pair {a = l} {b = m} {l = ls} {m = ms} this others) n s t grouped behind e =
      let (u, r, rest) = lines_read exclude n s l ls t e in
      lines_on exclude n (plain s) (plain u) m ms (line_plain n s u this grouped behind r)
      ∙ lines_plain others (n + 1) u t (grouped_now n s u l r grouped) (asked_now (headed_line exclude n s u l r)) rest

-- ---- answers

-- records on their own lines
roots_stay : (roots : List Root) → map (moved_root (λ n. n)) roots ≡ roots
unfolding moved_root
roots_stay roots = map-id roots

position_stays : (p : Position) → moved_position (λ n. n) p ≡ p
unfolding moved_position
position_stays p = ap (λ l. record { kept = l; visits = p.visits; rounds = p.rounds }) (map-id p.kept)

-- a fact without its group is of group 0
group_gone : (f : Fact) → (relabeled_fact (λ n. n) (λ g. 0) f).group ≡ 0
unfolding relabeled_fact
group_gone f = refl

-- an ask that admits all groups comes to the same over records of group 0
position_plain : (decls : List Summary) (roots : List Root) (a : Ask) → a.groups ≡ 65535 → ((f : Fact) → Memᴰ f (facts decls) → f.group ≤ 15)
    → position (map ungrouped decls) roots a ≡ position decls roots a
position_plain decls roots a e low =
    position_over (map ungrouped decls) roots a
    ∙ ap (λ ds. over ds roots a) (all_admitted a (map ungrouped decls) e zero_groups)
    ∙ ap (λ rs. over (map ungrouped decls) rs a) (sym (roots_stay roots))
    ∙ relabeled_over (λ n. n) (λ g. 0) decls roots a
    ∙ position_stays (over decls roots a)
    ∙ ap (λ ds. over ds roots a) (sym (all_admitted a decls e low))
    ∙ sym (position_over decls roots a)
  where
    zero_groups : (f : Fact) → Memᴰ f (facts (map ungrouped decls)) → f.group ≤ 15
    zero_groups f i =
        let (g, j, is) = map_elim (relabeled_fact (λ n. n) (λ g. 0)) (facts decls) (rw (relabeled_facts (λ n. n) (λ g. 0) decls) at i) in
        let none : f.group ≡ 0 = ap (λ (x : Fact). x.group) (sym is) ∙ group_gone g in
        omega arith

-- asks that admit all groups are so
asks_full : (asks : List Ask) → ((a : Ask) → Memᴰ a asks → a.groups ≡ 65535) → map full asks ≡ asks
asks_full asks h = map_cong full (λ a. a) asks (λ a i. rw (h a i)) ∙ map-id asks

-- the answers of the state without groups
pub filtered_plain : (s : State) → ((a : Ask) → Memᴰ a s.asks → a.groups ≡ 65535) → ((f : Fact) → Memᴰ f (facts s.decls) → f.group ≤ 15)
    → filtered (plain s) ≡ filtered s
unfolding filtered
filtered_plain s all low =
    ap (map (position (map ungrouped s.decls) s.roots)) (asks_full s.asks all)
    ∙ map_cong (position (map ungrouped s.decls) s.roots) (position s.decls s.roots) s.asks (λ a i. position_plain s.decls s.roots a (all a i) low)

-- ---- files

-- the words of the lines that have a group field
word_tests : (is_word group_words (bytes "ask2") ≡ true) × (is_word grouped_words (bytes "assume") ≡ false) × (is_word grouped_words (bytes "ask2") ≡ true)
unfolding is_word group_words grouped_words any same order by_byte is_same bytes
word_tests = (refl, refl, refl)

assume_no_ask : bytes "assume" ≡ bytes "ask2" → ⊥
assume_no_ask e = true≢false (sym word_tests.2 ∙ ap (is_word grouped_words) (sym e) ∙ word_tests.1)

-- a list that is not empty begins with something that is in it
first_of : {A : Type 0} (l rest : List A) {x : A} {xs : List A} → 1 ≤ length l → x ∷ xs ≡ l ++ rest → Memᴰ x l
first_of [] rest h e = absurd (omega arith)
first_of (y ∷ l) rest {x} h e = let same : x ≡ y = cc in mathlib.Core.List.Memᴰ.head same

-- line 1 of a file of the form with groups is an ask with groups
pub first_grouped : (file : List ℕ) (s : State) → LinesRead file s → T s.grouped → {l : Line} {ls : List Line} → lines file ≡ l ∷ ls
    → get_or (fields l.bytes) 0 [] ≡ bytes "ask2"
unfolding begins ask_word
first_grouped file s e grouped {l} {ls} are =
    let w = split_file file s e in
    let count = w.count in
    let f = get_or (fields l.bytes) 0 [] in
    let i : Memᴰ l w.asks = first_of w.asks (w.hides ++ w.others) (omega (arith, (accepted_asks file s e).some_ask)) (sym are ∙ w.are) in
    let form : T (begins (form_words true) l) = subst (λ b. T (begins (form_words b) l)) (T_true s.grouped grouped) (w.of_form l i) in
    let no_also = first_no_also l ls s (subst (λ x. read_lines exclude_names 1 start x ≡ read s) are (file_read exclude_names file s e)) in
    ⊎_elim (λ is. is) (λ is. absurd (T_not (is_word also_words f) no_also ((also_word f).1 is))) ((form_word true f).0 form)

-- so it is read without its group
first_plain : (u : State) {l m : Line} → WithoutGroup l m → read_line exclude_names 1 start l ≡ ok u → get_or (fields l.bytes) 0 [] ≡ bytes "ask2"
    → read_line exclude_names 1 start m ≡ ok (plain u)
unfolding start
first_plain u (of_ask {l} {m} {q} {options} {groups} ended e d) r is_ask = ask_line exclude_names 1 start u l m q options groups ended e d r
first_plain u (of_fact ended e d) r is_ask = absurd (assume_no_ask (sym (ap (λ (x : List Field). get_or x 0 []) e) ∙ is_ask))
first_plain u (as_it_is {l} other) r is_ask =
    absurd (T_not (begins group_words l) other (unfold begins in (subst (λ f. T (is_word group_words f)) (sym is_ask) (subst T (sym word_tests.0) tt))))

pub begins_grouped : (l : Line) → get_or (fields l.bytes) 0 [] ≡ bytes "ask2" → T (begins grouped_words l)
unfolding begins
begins_grouped l e = subst (λ f. T (is_word grouped_words f)) (sym e) (subst T (sym word_tests.2) tt)

-- the lines without the group fields are read
file_plain : (s : State) {ls ms : List Line} → Pairwise WithoutGroup ls ms → read_lines exclude_names 1 start ls ≡ read s
    → ((l : Line) (rest : List Line) → ls ≡ l ∷ rest → get_or (fields l.bytes) 0 [] ≡ bytes "ask2") → read_lines exclude_names 1 start ms ≡ read (plain s)
unfolding start
file_plain s ends e first = unfold read_lines in (ap (λ (x : State). read (plain x)) (none_read exclude_names 1 start s e))
file_plain s (pair {a = l} {b = m} {l = ls} {m = ms} this others) e first =
    let (u, r, rest) = lines_read exclude_names 1 start l ls s e in
    let is_ask = first l ls refl in
    let grouped : T u.grouped = subst T (sym (headed_line exclude_names 1 start u l r).form) (begins_grouped l is_ask) in
    lines_on exclude_names 1 start (plain u) m ms (first_plain u this r is_ask)
    ∙ lines_plain exclude_names others 2 u s grouped (asked_now (headed_line exclude_names 1 start u l r)) rest

-- the file without the group fields answers the same
pub groups_left_out : GroupsLeftOut
groups_left_out file file' s e grouped all pairs =
    let reads = file_plain s pairs (file_read exclude_names file s e) (λ l rest are. first_grouped file s e grouped are) in
    let low : (f : Fact) → Memᴰ f (facts s.decls) → f.group ≤ 15 = λ f i. ((accepted_well_formed file s e).good_facts f i).low_group in
    (plain s, read_by_lines file' (some_line' pairs) ∙ reads, tt, asks_full s.asks all, filtered_plain s all low)
  where
    some_line' : Pairwise WithoutGroup (lines file) (lines file') → lines file' ≢ []
    some_line' p none =
        let (first, others, are) = some_line file e in
        no_pair (subst (λ ls. Pairwise WithoutGroup ls (lines file')) are p) none
      where
        no_pair : {l : Line} {ls ms : List Line} → Pairwise WithoutGroup (l ∷ ls) ms → ms ≡ [] → ⊥
        no_pair (pair {b = m} {m = ms} this rest) e = cons-ne-nil m ms e
