-- Two accepted files that differ, line for line, only in root lines of queries other than an ask's answer it alike.
use Prim.Native.Nat.{ℕ, ◌+◌}
use native.Mathlib.Omega.{arith}
use mathlib.Core.Path.{◌≡◌, refl, sym, ◌∙◌, ap}
use mathlib.Core.Bool.{Bool, true, false, cond, ◌||◌, or-false}
use mathlib.Core.Logic.{◌↔◌}
use mathlib.Core.List.{List, [], ◌∷◌, ◌++◌, map, map-append, append-nil, Memᴰ}
use Rattle.std.specs.Prelude.{Some as some}
use Rattle.std.proofs.lemmas.Option.{same_Some as some-injective}
use lib.Dec.{T, not_T, eqb, eqb→eq, eqb_refl}
use lib.ListN.{length, drop}
use Rattle.model.specs.Lists.{any, keep, collect, fold_left}
use Rattle.model.specs.Names.{Name, bytes, by_byte, order, is_same, same}
use Rattle.model.specs.Lines.{Line, Field, fields, number}
use Rattle.model.specs.Summaries.{exclude_names, free_top_level_names}
use Rattle.model.specs.Reading.{ok, next, name_field, number_field, term_field, kinds, word, most_query, content, parse, Content, root, Ask, Summary, Root, State, start, heads, nodes, summarize_decl, root_of, excluded, add_line, read, read_line, read_lines}
use Rattle.model.specs.Rounds.{asks_for, goal_roots, first_scanned, run, background}
use Rattle.model.specs.Kept.{kept_names}
use Rattle.model.specs.Bodies.{kept_followed}
use Rattle.model.specs.Also.{with_queries, also_scanned, stretch, chain}
use Rattle.model.specs.Outcome.{position, filtered}
use Rattle.model.specs.declared.LineKind.{LineKind}
use Rattle.model.specs.declared.LineKind.TheVariants as kind
use Rattle.model.proofs.ListLaws.{any_intro, any_elim, keep_cong, keep_append, cond_false}
use Rattle.model.proofs.ResultLaws.{ok_eq, bind_ok}
use Rattle.demands.specs.LinesRead.{At}
use Rattle.demands.specs.Queries.{OtherRoot, Alike, end as no_lines, same as same_line, roots as root_lines, OtherQueriesDoNotMatter, FilteredAlike}
use Rattle.laws.proofs.ReadingLaws.{next_ok, end_ok, number_ok, Parsed, parse_ok, line_read, lines_read, none_read, file_read}
use Rattle.demands.proofs.Moved.{map_length}

-- a query is asked for exactly where it is one of the ask's
pub asked_query : (a : Ask) (q : ℕ) → T (asks_for a q) ↔ Memᴰ q a.queries
unfolding asks_for
asked_query a q = (
  λ t. let (p, i, u) = any_elim (eqb q) a.queries t in rw (eqb→eq q p u) i,
  λ i. any_intro (eqb q) i (eqb_refl q),
)

-- states that differ only in what is not read for an ask
record Agree (a : Ask) (s s' : State) : Type 0 where
  asks : s.asks ≡ s'.asks
  forms : s.grouped ≡ s'.grouped
  hides : s.hidden ≡ s'.hidden
  tables : s.terms ≡ s'.terms
  records : s.decls ≡ s'.decls
  queried : goal_roots a s.roots ≡ goal_roots a s'.roots

-- the ask's roots among two lists of roots, one after the other
goal_append : (a : Ask) (l m : List Root) → goal_roots a (l ++ m) ≡ goal_roots a l ++ goal_roots a m
unfolding goal_roots
goal_append a l m = keep_append (λ (r : Root). asks_for a r.query) l m

-- states that agree do so after the same line
agree_line : (exclude : List Name) (a : Ask) (n : ℕ) (s s' : State) (c : Content) → Agree a s s' → Agree a (add_line exclude n s c) (add_line exclude n s' c)
unfolding add_line excluded
agree_line exclude a n s s' c h =
    record {
      asks = rw h.asks;
      forms = rw h.forms;
      hides = rw h.hides;
      tables = rw h.tables;
      records = rw (h.tables, h.hides, h.records);
      queried = simp (goal_append, h.tables, h.hides, h.queried);
    }

-- a root of another query is none of the ask's
other_root : (a : Ask) (r : Root) → (Memᴰ r.query a.queries → ⊥) → goal_roots a (r ∷ []) ≡ []
unfolding goal_roots keep
other_root a r other = cond_false (asks_for a r.query) (r ∷ []) [] (not_T (asks_for a r.query) (λ t. other ((asked_query a r.query).0 t)))

-- a root line of another query leaves what is read of the state
agree_root : (exclude : List Name) (a : Ask) (n : ℕ) (s s' : State) (p : ℕ) (name : Name) (t : ℕ) → (Memᴰ p a.queries → ⊥) → Agree a s s'
    → Agree a (add_line exclude n s (root p name t)) s'
unfolding add_line heads nodes any collect fold_left summarize_decl root_of
agree_root exclude a n s s' p name t other h =
    let r : Root = record { line = n; query = p; name = name; free_names = free_top_level_names (excluded exclude s) s.terms t } in
    record {
      asks = rw append-nil h.asks;
      forms = rw or-false h.forms;
      hides = rw append-nil h.hides;
      tables = h.tables;
      records = rw append-nil h.records;
      queried = rw (goal_append, other_root a r other, append-nil) h.queried;
    }

-- the word of a root line is the kind of a root
root_kind : word kinds (bytes "root") ≡ some kind.Root
unfolding word kinds same order by_byte is_same bytes
root_kind = refl

-- the fields of a root line say a root of the query in its first field
root_fields : (grouped : Bool) (count : ℕ) (f : Field) (rest : List Field) (p : ℕ) (c : Content) → number f ≡ some p
    → content kind.Root grouped count (f ∷ rest) ≡ ok c → (name : Name) × (t : ℕ) × (c ≡ root p name t)
unfolding content
root_fields grouped count f rest p c e g =
    let ((q, fs₁), g₁, h₁) = bind_ok (next (number_field most_query) (f ∷ rest)) g in
    let ((name, fs₂), g₂, h₂) = bind_ok (next name_field fs₁) h₁ in
    let ((t, fs₃), g₃, h₃) = bind_ok (next (term_field count) fs₂) h₂ in
    let (f', split, judged) = next_ok (number_field most_query) (f ∷ rest) g₁ in
    let is_q = (number_ok most_query f' judged).0 in
    let says = (end_ok fs₃ h₃).1 in
    let same_q : p ≡ q = cc in
    (name, t, cc)

-- the line of another query's root says that root
root_content : (s : State) (f : Field) (rest : List Field) (p : ℕ) (c : Content) → number f ≡ some p
    → Parsed s (bytes "root" ∷ f ∷ rest) c
    → (name : Name) × (t : ℕ) × (c ≡ root p name t)
root_content s f rest p c e r =
    let split = r.split in
    let known = r.known in
    let says = r.says in
    let is_root = root_kind in
    let word_is : r.kind_word ≡ bytes "root" = cc in
    let others_are : r.others ≡ f ∷ rest = cc in
    let is_kind : r.kind ≡ kind.Root = cc in
    root_fields s.grouped (length s.terms) f rest p c e (rw (is_kind, others_are) at says)

-- an accepted root line of another query leaves what is read of the state
agree_other : (exclude : List Name) (a : Ask) (n : ℕ) (line : Line) (s t s' : State) → OtherRoot a line → read_line exclude n s line ≡ ok t → Agree a s s' → Agree a t s'
agree_other exclude a n line s t s' o e h =
    let l = line_read exclude n s line t e in
    let (name, number, says) = root_content s o.query_field o.rest o.query l.content o.is_query (parse_ok s _ (rw o.is_root at l.parsed)) in
    rw (l.after, says) (agree_root exclude a n s s' o.query name number o.other h)

-- a line that two states of one form with as many terms accept says the same after both
parse_alike : (s s' : State) (fs : List Field) {c c' : Content} → s.grouped ≡ s'.grouped → length s.terms ≡ length s'.terms
    → parse s fs ≡ ok c → parse s' fs ≡ ok c' → c ≡ c'
parse_alike s s' fs {c} {c'} form count e e' =
    let p = parse_ok s fs e in
    let q = parse_ok s' fs e' in
    let both = sym p.split ∙ q.split in
    let same_word : p.kind_word ≡ q.kind_word = cc in
    let same_others : p.others ≡ q.others = cc in
    let same_kind : p.kind ≡ q.kind = some-injective p.kind q.kind (sym p.known ∙ ap (word kinds) same_word ∙ q.known) in
    content_alike same_kind form count same_others p.says q.says
  where
    content_alike : {k k' : LineKind} {b b' : Bool} {n n' : ℕ} {gs gs' : List Field} → k ≡ k' → b ≡ b' → n ≡ n' → gs ≡ gs'
        → content k b n gs ≡ ok c → content k' b' n' gs' ≡ ok c' → c ≡ c'
    content_alike a b d e f f' = ok_eq (sym f ∙ rw (a, b, d, e) f')

-- states that agree do so after a line that both accept
agree_same : (exclude : List Name) (a : Ask) (n : ℕ) (line : Line) (s t s' t' : State) → read_line exclude n s line ≡ ok t → read_line exclude n s' line ≡ ok t' → Agree a s s' → Agree a t t'
agree_same exclude a n line s t s' t' e e' h =
    let l = line_read exclude n s line t e in
    let l' = line_read exclude n s' line t' e' in
    let same_content = parse_alike s s' (fields line.bytes) h.forms (ap length h.tables) l.parsed l'.parsed in
    rw (l.after, l'.after, same_content) (agree_line exclude a n s s' l'.content h)

-- states agree both ways round
agree_sym : {a : Ask} {s s' : State} → Agree a s s' → Agree a s' s
agree_sym h = record { asks = sym h.asks; forms = sym h.forms; hides = sym h.hides; tables = sym h.tables; records = sym h.records; queried = sym h.queried }

-- lines that differ only in root lines of other queries, accepted from states that agree, end in states that agree
agree_lines : (exclude : List Name) {a : Ask} {ls ms : List Line} → Alike a ls ms → (n : ℕ) (s s' t t' : State)
    → read_lines exclude n s ls ≡ read t → read_lines exclude n s' ms ≡ read t' → Agree a s s' → Agree a t t'
agree_lines exclude no_lines n s s' t t' e e' h = rw (← (none_read exclude n s t e), ← (none_read exclude n s' t' e')) h
agree_lines exclude {a} (same_line {line} {ls} {ms} alike) n s s' t t' e e' h =
    let (u, r, others) = lines_read exclude n s line ls t e in
    let (u', r', others') = lines_read exclude n s' line ms t' e' in
    agree_lines exclude alike (n + 1) u u' t t' others others' (agree_same exclude a n line s u s' u' r r' h)
agree_lines exclude {a} (root_lines {l} {m} {ls} {ms} o o' alike) n s s' t t' e e' h =
    let (u, r, others) = lines_read exclude n s l ls t e in
    let (u', r', others') = lines_read exclude n s' m ms t' e' in
    agree_lines exclude alike (n + 1) u u' t t' others others'
    (agree_sym (agree_other exclude a n m s' u' u o' r' (agree_sym (agree_other exclude a n l s u s' o r h))))

-- the run depends on the roots of its query only
run_roots : (a : Ask) (decls : List Summary) (roots roots' : List Root) → goal_roots a roots ≡ goal_roots a roots' → run a decls roots ≡ run a decls roots'
unfolding run first_scanned
run_roots a decls roots roots' e = rw e

-- so does the kept list
kept_roots : (a : Ask) (decls : List Summary) (roots roots' : List Root) (reached : List Name) → goal_roots a roots ≡ goal_roots a roots'
    → kept_followed a decls roots reached ≡ kept_followed a decls roots' reached
unfolding kept_followed kept_names
kept_roots a decls roots roots' reached e = rw e

-- to keep by a test what a weaker test keeps is to keep by it
keep_weaker : {A : Type 0} (weak test : A → Bool) (l : List A) → ((x : A) → T (test x) → T (weak x)) → keep test (keep weak l) ≡ keep test l
unfolding keep
keep_weaker weak test [] h = refl
keep_weaker weak test (x ∷ l) h = go (weak x) (test x) refl (h x) (keep_weaker weak test l h)
  where
    go : (b c : Bool) → test x ≡ c → (T c → T b) → keep test (keep weak l) ≡ keep test l
        → keep test (cond b (x ∷ keep weak l) (keep weak l)) ≡ cond c (x ∷ keep test l) (keep test l)
    go true true e f r = rw e (ap (x ∷◌) r)
    go true false e f r = rw e r
    go false true e f r = absurd (f tt)
    go false false e f r = r

module _ (a : Ask) (decls : List Summary) (roots roots' : List Root) (same : goal_roots a roots ≡ goal_roots a roots') where
  -- the roots of one of the queries
  same_query : (q : ℕ) → T (asks_for a q) → keep (λ (r : Root). eqb r.query q) roots ≡ keep (λ (r : Root). eqb r.query q) roots'
  unfolding goal_roots
  same_query q t =
      let weak : Root → Bool = λ r. asks_for a r.query in
      let test : Root → Bool = λ r. eqb r.query q in
      let h : (r : Root) → T (test r) → T (weak r) = λ r u. rw (eqb→eq r.query q u) t in
      sym (keep_weaker weak test roots h) ∙ ap (keep test) same ∙ keep_weaker weak test roots' h

  -- the roots of a chain's first query
  same_first : (q : ℕ) → T (asks_for a q) → goal_roots (with_queries a (q ∷ [])) roots ≡ goal_roots (with_queries a (q ∷ [])) roots'
  unfolding goal_roots asks_for any with_queries
  same_first q t =
      let one : (rs : List Root) → keep (λ (r : Root). eqb r.query q || false) rs ≡ keep (λ (r : Root). eqb r.query q) rs =
      λ rs. keep_cong (λ (r : Root). eqb r.query q || false) (λ (r : Root). eqb r.query q) rs (λ r m. or-false (eqb r.query q)) in
      one roots ∙ same_query q t ∙ sym (one roots')

  -- where a chain of them stands
  same_chain : (qs : List ℕ) → ((q : ℕ) → Memᴰ q qs → T (asks_for a q)) → chain a decls roots qs ≡ chain a decls roots' qs
  unfolding chain stretch also_scanned
  same_chain [] h = refl
  same_chain (q ∷ []) h = run_roots (with_queries a (q ∷ [])) decls roots roots' (same_first q (h q (Memᴰ.head refl)))
  same_chain (q ∷ p ∷ qs) h =
      rw (same_chain (p ∷ qs) (λ k i. h k (Memᴰ.tail i)), same_query q (h q (Memᴰ.head refl)))

-- the queries of an ask but the last are asked for
earlier_asked : (a : Ask) (q : ℕ) → Memᴰ q (drop 1 a.queries) → T (asks_for a q)
unfolding asks_for
earlier_asked a q i = any_intro (eqb q) (dropped a.queries i) (eqb_refl q)
  where
    dropped : (l : List ℕ) → Memᴰ q (drop 1 l) → Memᴰ q l
    dropped [] i = i
    dropped (x ∷ l) i = Memᴰ.tail i

-- what an ask comes to depends on the roots of its queries only
position_roots : (a : Ask) (decls : List Summary) (roots roots' : List Root) → goal_roots a roots ≡ goal_roots a roots'
    → position decls roots a ≡ position decls roots' a
unfolding position asks_for
position_roots a decls roots roots' e =
    let admitted = background a decls in
    rw (
      run_roots a admitted roots roots' e,
      kept_roots a admitted roots roots' (run a admitted roots').reached e,
      same_chain a admitted roots roots' e (drop 1 a.queries) (earlier_asked a),
      same_chain a admitted roots roots' e a.queries (λ q i. any_intro (eqb q) i (eqb_refl q)),
    )

-- root lines of other queries do not matter
pub other_queries_do_not_matter : OtherQueriesDoNotMatter
other_queries_do_not_matter file file' s s' e e' a alike =
    let agree = agree_lines exclude_names alike 1 start start s s' (file_read exclude_names file s e) (file_read exclude_names file' s' e')
    (record { asks = refl; forms = refl; hides = refl; tables = refl; records = refl; queried = refl }) in
    record { asks = agree.asks; listed = rw agree.records (position_roots a s'.decls s.roots s'.roots agree.queried) }

-- where an element stands, what a function gives of it stands in what it gives of the list
pub at_map : {A B : Type 0} (f : A → B) {l : List A} {i : ℕ} {x : A} → At l i x → At (map f l) i (f x)
at_map f {l} {i} {x} h =
    let place = h.place in
    record {
      before = map f h.before;
      after = map f h.after;
      are = ap (map f) h.are ∙ map-append f h.before (x ∷ h.after);
      place = omega (arith, map_length f h.before);
    }

-- at each place two such files answer the same
pub filtered_alike : FilteredAlike
unfolding filtered
filtered_alike file file' s s' e e' i a at alike =
    let same = other_queries_do_not_matter file file' s s' e e' a alike in
    (position s'.decls s'.roots a, rw same.listed at (at_map (position s.decls s.roots) at), at_map (position s'.decls s'.roots) (rw same.asks at at))
