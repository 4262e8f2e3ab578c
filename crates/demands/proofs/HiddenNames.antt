-- The names that are no free names: the nine and those of the hide lines. Hiding a name that no line spells changes no answer.
use Prim.Native.Nat.{ℕ, ◌+◌}
use native.Mathlib.Nat.{add-zero}
use native.Mathlib.Omega.{arith}
use mathlib.Core.Path.{◌≡◌, refl, sym, ◌∙◌, ap, subst}
use mathlib.Core.Logic.{◌≢◌, inl, ⊎_elim}
use mathlib.Core.Bool.{Bool, true, false, cond, not, ◌&&◌, or-false}
use mathlib.Core.List.Memᴰ
use mathlib.Core.List.{List, [], ◌∷◌, ◌++◌, map, map-map, append-nil, append_assoc, Memᴰ}
use lib.Dec.{T, not_T}
use lib.ListN.{length, get_or, length-append}
use Rattle.model.specs.Lists.{keep, any, all, sum, collect, fold_left, holds, is_nil}
use Rattle.model.specs.Names.{Name, bytes, by_byte, order, is_same, same, mem}
use Rattle.model.specs.Lines.{Line, lines, Field, fields, is_name}
use Rattle.model.specs.Summaries.{exclude_names}
use Rattle.model.specs.Reading.{Head, hide, head, ok, next, end, name_field, kinds, word, content, Ask, Decl, State, start, read, in_head, a_hide, place, may_stand, is_position, fixed_count, parse}
use Rattle.model.specs.Reading.{head_asks, is_grouped, hidden_by, heads, nodes, spelled, spell, limits, summarize_decl, trimmed, root_of, excluded, add_line, repeats, read_line, read_lines, read_file}
use Rattle.model.specs.Rounds.{facts, definitions, declarations, run}
use Rattle.model.specs.Kept.{kept}
use Rattle.model.specs.Outcome.{Position, position}
use Rattle.model.specs.Text.{name_on}
use Rattle.model.specs.declared.LineKind.TheVariants as kind
use Rattle.model.proofs.ListLaws.{T_and, T_ext, T_true, cond_false, is_nil_elim, all_intro, map_intro, map_elim, map_cong}
use Rattle.model.proofs.SetLaws.{mem_append, mem_cons, mem_elim}
use Rattle.demands.specs.LinesRead.{LinesRead, records_for}
use Rattle.demands.specs.Demand2.{kept_list, followed_list}
use Rattle.demands.specs.Demand3.{run_of}
use Rattle.demands.specs.Counts.{hide_words, begins}
use Rattle.demands.specs.Asks.{head_words}
use Rattle.demands.specs.Moved.{moved_fact, moved_decl, moved, moved_root, moved_position}
use Rattle.demands.specs.Order.{listed_facts}
use Rattle.demands.specs.Bodies.{BodiesFollowed}
use Rattle.demands.specs.Printed.{NamesOnLines}
use Rattle.demands.specs.Hidden.{ExcludedExact, OneHides, RoomFor, down, OneDown, UnspelledHidden}
use Rattle.laws.proofs.ReadingLaws.{within, lines_read, none_read, added_line, line_read, file_read, kept_by_lines}
use Rattle.demands.proofs.Refusals.{lines_on, lines_append}
use Rattle.demands.proofs.LineForm.{parse_fields}
use Rattle.demands.proofs.LineFields.{HeadBy, one_ask, one_ask2, one_also, one_hide, no_head}
use Rattle.demands.proofs.Heads.{headed_line}
use Rattle.demands.proofs.Asks.{lines_split, on_lines, asked_lines}
use Rattle.demands.proofs.ListedLaws.{kept_fact_line}
use Rattle.demands.proofs.StateLaws.{StateLaws, laws_start, laws_line}
use Rattle.demands.proofs.Background.{admitted_fact, admitted_definition, admitted_declaration}
use Rattle.demands.proofs.Moved.{moved_background, moved_facts, moved_definitions, moved_declarations, lines_apart, kept_apart}
use Rattle.demands.proofs.Bodies.{list_followed}
use Rattle.demands.proofs.Printed.{printed_names}
use Rattle.demands.proofs.Unspelled.{lowered, OneNameMore, limits_lowered, grows_lines, room_before, lines_lowered}

-- the name of a hide line
abbrev name_field_of : Line → Field
name_field_of line = get_or (fields line.bytes) 1 []

-- the names of the hide lines among these
abbrev hidden_names : List Line → List Name
hidden_names ls = map name_field_of (keep (begins hide_words) ls)

-- a line hides its name where it is a hide line
hides_by : {name second third : Field} {b d g c : Bool} {l : List Head} → HeadBy name second third b d g c l → collect hidden_by l ≡ cond c (name ∷ []) []
unfolding collect hidden_by
hides_by (one_ask low few) = refl
hides_by (one_ask2 low few all) = refl
hides_by (one_also low) = refl
hides_by one_hide = refl
hides_by no_head = refl

-- lines hide the names of the hide lines among them
hidden_lines : (exclude : List Name) (ls : List Line) (n : ℕ) (s t : State) → read_lines exclude n s ls ≡ read t → t.hidden ≡ s.hidden ++ hidden_names ls
unfolding keep
hidden_lines exclude [] n s t e = ap (λ (x : State). x.hidden) (sym (none_read exclude n s t e)) ∙ sym (append-nil s.hidden)
hidden_lines exclude (line ∷ ls) n s t e =
    let (u, r, others) = lines_read exclude n s line ls t e in
    let h = headed_line exclude n s u line r in
    hidden_lines exclude ls (n + 1) u t others ∙ ap (◌++ hidden_names ls) (h.hides ∙ ap (s.hidden ++◌) (hides_by h.headed))
    ∙ append_assoc s.hidden _ (hidden_names ls) ∙ ap (s.hidden ++◌) (go (begins hide_words line))
  where
    go : (c : Bool) → cond c (name_field_of line ∷ []) [] ++ hidden_names ls ≡ map name_field_of (cond c (line ∷ keep (begins hide_words) ls) (keep (begins hide_words) ls))
    go true = refl
    go false = refl

-- the names excluded are the nine and those of the hide lines
pub excluded_exact : ExcludedExact
unfolding excluded start
excluded_exact ls s e = ap (exclude_names ++◌) (hidden_lines exclude_names ls 1 start s e)

-- ---- one hide line more

-- what the fields of a hide line say, where it may stand
hide_says : (s : State) (name : Name) → T (is_name name) → T (may_stand s a_hide) → parse s (bytes "hide" ∷ name ∷ []) ≡ ok (head (hide name))
unfolding word kinds same order by_byte is_same bytes place is_position fixed_count holds content next name_field end
hide_says s name t stands =
    parse_fields s (bytes "hide") (name ∷ []) {k = kind.Hide} refl (record { stands = stands; in_number = λ p. absurd p }) tt ∙ rw (T_true (is_name name) t)

-- what it adds
add_hide : (exclude : List Name) (n : ℕ) (s : State) (name : Name) → s.decls ≡ [] → s.roots ≡ [] → T (not (mem name s.names))
    → add_line exclude n s (head (hide name)) ≡ lowered (s.hidden ++ (name ∷ [])) (s.names ++ (name ∷ [])) s
unfolding add_line heads head_asks is_grouped hidden_by any collect nodes fold_left spelled trimmed summarize_decl root_of sum
add_hide exclude n s name none none' fresh =
    rw (append-nil s.asks, or-false s.grouped, none, none', add-zero s.references, add-zero s.entries, add-zero s.uses, spelled_new)
  where
    spelled_new : spell s.names name ≡ s.names ++ (name ∷ [])
    spelled_new = unfold spell in (cond_false (mem name s.names) s.names (s.names ++ (name ∷ [])) fresh)

-- the lists with one name more at their ends
one_at_end : (s : State) (name : Name) → OneNameMore name s (s.hidden ++ (name ∷ [])) (s.names ++ (name ∷ []))
one_at_end s name =
    record {
      hidden_count = length-append s.hidden (name ∷ []);
      hidden_same = λ k other. T_ext
          (λ t. ⊎_elim (λ u. u) (λ u. ⊎_elim (λ e. absurd (other e)) (λ v. absurd (Memᴰ.not-nil (mem_elim v))) ((mem_cons k name []).0 u)) ((mem_append k s.hidden (name ∷ [])).0 t))
          (λ t. (mem_append k s.hidden (name ∷ [])).1 (inl t));
      inserted = record { before = s.names; after = []; without = sym (append-nil s.names); with_it = refl };
    }

-- a hide line of a name that is not spelled yet, in the head
read_hide : (n : ℕ) (s : State) (name : Name) (line : Line) → T line.ended → fields line.bytes ≡ bytes "hide" ∷ name ∷ [] → T (is_name name)
    → T (in_head s) → T (not (is_nil s.asks)) → T (all within (limits s)) → RoomFor name s
    → read_line exclude_names n s line ≡ ok (lowered (s.hidden ++ (name ∷ [])) (s.names ++ (name ∷ [])) s)
read_hide n s name line ended are is_a_name in_the_head asked few room =
    let (rest, no_roots) = (T_and (is_nil s.terms && is_nil s.decls) (is_nil s.roots)).0 (unfold in_head in in_the_head) in
    let (no_terms, no_decls) = (T_and (is_nil s.terms) (is_nil s.decls)).0 rest in
    let stands : T (may_stand s a_hide) = unfold may_stand in ((T_and (in_head s) (not (is_nil s.asks))).1 (in_the_head, asked)) in
    let says : parse s (fields line.bytes) ≡ ok (head (hide name)) = rw are (hide_says s name is_a_name stands) in
    let new : T (not (mem name s.names)) = not_T (mem name s.names) (λ t. room.unspelled (mem_elim t)) in
    let added = add_hide exclude_names n s name (is_nil_elim s.decls no_decls) (is_nil_elim s.roots no_roots) new in
    let fresh : T (not (repeats exclude_names n s (head (hide name)))) = unfold repeats summarize_decl collect any in tt in
    let within_all = subst (λ x. T (all within (limits x))) (sym added) (limits_lowered exclude_names name s _ _ room (one_at_end s name) few) in
    added_line exclude_names n s line ended (head (hide name)) says fresh within_all ∙ ap ok added

-- the counts after lines that are read are within their limits
within_limits : (ls : List Line) (s : State) → read_lines exclude_names 1 start ls ≡ read s → T (all within (limits s))
unfolding limits all start
within_limits ls s e =
    kept_by_lines exclude_names (λ n s. T (all within (limits s)))
    (λ n s s' line r t. let l = line_read exclude_names n s line s' r in subst (λ x. T (all within (limits x))) (sym l.after) l.in_limits) ls 1 start s e tt

-- after lines of the head, of which there are some, the head goes on and something is asked
head_goes_on : (ls : List Line) (s : State) → read_lines exclude_names 1 start ls ≡ read s → ls ≢ []
    → ((l : Line) → Memᴰ l ls → T (begins head_words l)) → T (in_head s) × T (not (is_nil s.asks))
unfolding start in_head is_nil
head_goes_on [] s e not_nil are = absurd (not_nil refl)
head_goes_on (line ∷ ls) s e not_nil are = (
  subst T (sym (on_lines (line ∷ ls) 1 start s e)) (all_intro (begins head_words) (line ∷ ls) are),
  asked_lines line ls 1 start s e,
)

-- the lines with one more that hides a name, where those before it are read to a state and those behind it are read one line down
with_hide : (front : List Line) (line : Line) (others : List Line) (u u' s : State) → read_lines exclude_names 1 start front ≡ read u
    → read_line exclude_names (1 + length front) u line ≡ ok u'
    → (hidden : List Name) × (names : List Name) × (read_lines exclude_names (1 + length front + 1) u' others ≡ read (lowered hidden names s))
    → (hidden : List Name) × (names : List Name) × (read_lines exclude_names 1 start (front ++ (line ∷ others)) ≡ read (lowered hidden names s))
with_hide front line others u u' s here r (hidden, names, later) = (
  hidden,
  names,
  lines_append exclude_names front (line ∷ others) 1 start u here ∙ lines_on exclude_names (1 + length front) u u' line others r ∙ later,
)

-- they are read to the state one line down
lines_more : (ls ms : List Line) (s : State) (name : Name) → read_lines exclude_names 1 start ls ≡ read s → RoomFor name s → OneHides name ls ms
    → (hidden : List Name) × (names : List Name) × (read_lines exclude_names 1 start ms ≡ read (lowered hidden names s))
lines_more ls ms s name e room w =
    let (u, here, later) = lines_split w.front w.others 1 start s (rw w.without at e) in
    let (on, asked) = head_goes_on w.front u here w.behind_ask w.in_head in
    let room_here = room_before exclude_names name (grows_lines exclude_names name w.others (1 + length w.front) u s later) room in
    let laws = kept_by_lines exclude_names (λ n s. StateLaws s) (laws_line exclude_names) w.front 1 start u here laws_start in
    rw w.with_it
    (with_hide w.front w.hide_line w.others u (lowered (u.hidden ++ (name ∷ [])) (u.names ++ (name ∷ [])) u) s here
    (read_hide (1 + length w.front) u name w.hide_line w.ended w.hides w.a_name on asked (within_limits w.front u here) room_here)
    (lines_lowered exclude_names name w.others (1 + length w.front) u s _ _ later laws room (one_at_end u name) w.no_ask asked))

-- ---- the answers

-- a file with a line is its lines, read from the start
pub read_by_lines : (file : List ℕ) → lines file ≢ [] → read_file exclude_names file ≡ read_lines exclude_names 1 start (lines file)
unfolding read_file lines
read_by_lines [] some_line = absurd (some_line refl)
read_by_lines (b ∷ bs) some_line = refl

-- lines with one more are not none
not_none : (front : List Line) (line : Line) (others : List Line) → front ++ (line ∷ others) ≢ []
not_none [] line others e = let z : ◌≡◌ {A = ℕ} 0 1 = cc in omega arith
not_none (l ∷ front) line others e = let z : ◌≡◌ {A = ℕ} 0 1 = cc in omega arith

-- the kept lines of an ask whose answer is that of another state, moved
followed_moved : (a : Ask) (s t : State) → position t.decls t.roots a ≡ moved_position down (position s.decls s.roots a) → followed_list a t ≡ map down (followed_list a s)
unfolding position moved_position
followed_moved a s t e = ap (λ (p : Position). p.kept) e

module _ (file file' : List ℕ) (s : State) (hidden names : List Name) (e : LinesRead file s) (e' : LinesRead file' (lowered hidden names s)) where
  here : NamesOnLines file s
  here = printed_names file s e

  there : NamesOnLines file' (lowered hidden names s)
  there = printed_names file' (lowered hidden names s) e'

  of_line : {n line : ℕ} {name : Name} → line ≡ n → name_on file line ≡ name → name_on file' (down line) ≡ name → name_on file' (down n) ≡ name_on file n
  of_line p q r = ap (λ x. name_on file' (down x)) (sym p) ∙ r ∙ sym q ∙ ap (name_on file) p

  -- the name on the line of a kept fact, of a definition or of a declaration is that on the line below it in the second file
  name_down : (a : Ask) (defs funs : List Decl) → ((d : Decl) → Memᴰ d defs → Memᴰ d (definitions (records_for a s)))
      → ((d : Decl) → Memᴰ d funs → Memᴰ d (declarations (records_for a s)))
      → (n : ℕ) → Memᴰ n (map (λ f. f.line) (listed_facts a s) ++ map (λ d. d.line) (defs ++ funs)) → name_on file' (down n) ≡ name_on file n
  unfolding moved_fact moved_decl
  name_down a defs funs are_defs are_funs n m = ⊎_elim
      (λ i. let (f, k, p) = kept_fact_line a (facts (records_for a s)) (run_of a s).reached i in
      of_line p (here.of_fact f (admitted_fact a s.decls k))
      (there.of_fact (moved_fact down f) (rw (moved_facts down s.decls) (map_intro (moved_fact down) (admitted_fact a s.decls k)))))
      (λ i. let (d, j, p) = map_elim (λ (d : Decl). d.line) (defs ++ funs) i in
      ⊎_elim
      (λ k. let own = admitted_definition a s.decls (are_defs d k) in
      of_line p (here.of_definition d own) (there.of_definition (moved_decl down d) (rw (moved_definitions down s.decls) (map_intro (moved_decl down) own))))
      (λ k. let own = admitted_declaration a s.decls (are_funs d k) in
      of_line p (here.of_declaration d own) (there.of_declaration (moved_decl down d) (rw (moved_declarations down s.decls) (map_intro (moved_decl down) own))))
      (Memᴰ.append_cases defs j))
      (Memᴰ.append_cases (map (λ f. f.line) (listed_facts a s)) m)

  -- the same names stand on two lists, where one has the lines of the other moved down
  named_down : (l m : List ℕ) → m ≡ map down l → ((n : ℕ) → Memᴰ n l → name_on file' (down n) ≡ name_on file n) → map (name_on file') m ≡ map (name_on file) l
  named_down l m p h = ap (map (name_on file')) p ∙ map-map (name_on file') down l ∙ map_cong (λ n. name_on file' (down n)) (name_on file) l h

  -- every ask has the same answer, one line down
  one_down : OneDown file file' s (lowered hidden names s)
  one_down =
      record {
        accepted = e';
        asks = refl;
        listed = listed;
        followed = followed_down;
        kept = kept_down;
        followed_named = λ a. let p = parts a in
            named_down (followed_list a s) (followed_list a (lowered hidden names s)) (followed_down a)
            (λ n i. name_down a (p.defs ++ p.added_defs) (p.funs ++ p.added_funs) p.are_definitions p.are_declarations n (rw p.list at i));
        named = λ a. let p = parts a in
            named_down (kept_list a s) (kept_list a (lowered hidden names s)) (kept_down a)
            (λ n i. name_down a p.defs p.funs (λ d j. p.are_definitions d (Memᴰ.append_left p.added_defs j))
            (λ d j. p.are_declarations d (Memᴰ.append_left p.added_funs j)) n (rw p.without at i));
      }
    where
      parts : (a : Ask) → BodiesFollowed a s (followed_list a s)
      parts a = list_followed file s e a

      listed : (a : Ask) → position (map (moved down) s.decls) (map (moved_root down) s.roots) a ≡ moved_position down (position s.decls s.roots a)
      listed a = lines_apart down s.decls s.roots a

      followed_down : (a : Ask) → followed_list a (lowered hidden names s) ≡ map down (followed_list a s)
      followed_down a = followed_moved a s (lowered hidden names s) (listed a)

      kept_down : (a : Ask) → kept_list a (lowered hidden names s) ≡ map down (kept_list a s)
      kept_down a =
          let roots = map (moved_root down) s.roots in
          ap (λ decls. kept a decls roots (run a decls roots).reached) (moved_background down a s.decls) ∙ kept_apart down (records_for a s) s.roots a

-- hiding a name that no line spells changes no answer
pub unspelled_hidden : UnspelledHidden
unspelled_hidden file file' s name e room w =
    let (hidden, names, reads) = lines_more (lines file) (lines file') s name (file_read exclude_names file s e) room w in
    let some_line : lines file' ≢ [] = λ none. not_none w.front w.hide_line w.others (sym w.with_it ∙ none) in
    (lowered hidden names s, one_down file file' s hidden names e (read_by_lines file' some_line ∙ reads))
