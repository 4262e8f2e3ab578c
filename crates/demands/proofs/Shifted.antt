-- A file's lines behind its asks, read after other asks, with other names hidden and on other lines: they say the same, and
-- leave the same records there.
use Prim.Native.Nat.{ℕ, ◌+◌}
use native.Mathlib.Omega.{arith}
use mathlib.Core.Path.{◌≡◌, refl, sym, ◌∙◌, ap}
use mathlib.Core.Logic.{⊎_elim}
use mathlib.Core.Bool.{Bool, true, false, cond, not}
use Rattle.std.specs.Prelude.{Option, None as none, Some as some}
use mathlib.Core.List.{List, [], ◌∷◌, ◌++◌, map, map-append, append-nil, Memᴰ}
use lib.Dec.{T, leb}
use lib.ListN.{length, get_or}
use Rattle.model.specs.Lists.{sum, collect, fold_left, is_nil}
use Rattle.model.specs.Names.{Name}
use Rattle.model.specs.Lines.{Line, Field, fields}
use Rattle.model.specs.Terms.{Term}
use Rattle.model.specs.Summaries.{free_top_level_names, summarize_assumption}
use Rattle.model.specs.Reading.{Result, ok, refused, ◌>>=◌, next, kinds, word, Content, head, term, assume, fun, def, retain, root, Ask, Summary, sum_assume, sum_definefun, sum_declfun, sum_retain}
use Rattle.model.specs.Reading.{Root, State, Reading, read, refused_at, in_head, place, may_stand, is_position, fixed_count, parse, head_asks, hidden_by, heads, spelled, taken_by, entries_of, uses_of}
use Rattle.model.specs.Reading.{spell, limits, under_limits, go_on, summarize_decl, trimmed, root_of, excluded, add_line, repeats, read_line, read_lines}
use Rattle.model.specs.declared.LineKind.{LineKind}
use Rattle.model.specs.declared.LineKind.TheVariants as kind
use Rattle.model.specs.declared.Refusal.{Refusal}
use Rattle.model.specs.declared.Refusal.TheVariants as refusal
use Rattle.model.proofs.ListLaws.{T_dec, T_false}
use Rattle.model.proofs.ResultLaws.{result_cases}
use Rattle.demands.specs.Counts.{ask_words, grouped_words, also_words, hide_words, is_word, begins}
use Rattle.demands.specs.Moved.{moved_fact, moved_decl, moved, moved_root}
use Rattle.laws.proofs.ReadingLaws.{is_past, unended_line, unparsed_line, repeated_line, fresh_line}
use Rattle.demands.proofs.LineForm.{parse_unknown, after_kind, parse_known}
use Rattle.demands.proofs.LineFields.{place_by, position_by, known_place, line_fields}
use Rattle.demands.proofs.Heads.{none_by, asks_none, headed_line}
use Rattle.demands.proofs.Moved.{map_length, nil_map}
use Rattle.demands.proofs.SummaryRenaming.{same_kind}

-- the state with other asks, these names hidden and these spelled, and the record of line n on line `to n`
abbrev pub relaid : (ℕ → ℕ) → List Ask → List Name → List Name → State → State
relaid to asks hidden names s =
    record {
      asks = asks;
      grouped = s.grouped;
      hidden = hidden;
      terms = s.terms;
      names = names;
      decls = map (moved to) s.decls;
      roots = map (moved_root to) s.roots;
      references = s.references;
      entries = s.entries;
      uses = s.uses;
    }

-- a line has as many fields after any lines of one form
pub same_count : (s t : State) → s.grouped ≡ t.grouped → (k : LineKind) → fixed_count s k ≡ fixed_count t k
unfolding fixed_count
same_count s t form kind.Ask = refl
same_count s t form kind.Ask2 = refl
same_count s t form kind.Also = refl
same_count s t form kind.Hide = refl
same_count s t form kind.Free = refl
same_count s t form kind.Leaf = refl
same_count s t form kind.Call = refl
same_count s t form kind.Op = refl
same_count s t form kind.All = refl
same_count s t form kind.Some = refl
same_count s t form kind.Let = refl
same_count s t form kind.Label = refl
same_count s t form kind.Assume = ap (λ b. some (cond b 5 4)) form
same_count s t form kind.Fun = refl
same_count s t form kind.Def = refl
same_count s t form kind.Retain = refl
same_count s t form kind.Root = refl

module _ (to : ℕ → ℕ) where
  -- what is counted of records on other lines
  entries_moved : (l : List Summary) → sum (map entries_of (map (moved to) l)) ≡ sum (map entries_of l)
  unfolding sum entries_of moved moved_fact
  entries_moved [] = refl
  entries_moved (sum_assume f ∷ l) = rw (entries_moved l)
  entries_moved (sum_definefun d ∷ l) = rw (entries_moved l)
  entries_moved (sum_declfun d ∷ l) = rw (entries_moved l)
  entries_moved (sum_retain ∷ l) = rw (entries_moved l)

  uses_moved : (l : List Summary) → sum (map uses_of (map (moved to) l)) ≡ sum (map uses_of l)
  unfolding sum uses_of moved moved_fact moved_decl
  uses_moved [] = refl
  uses_moved (sum_assume f ∷ l) = rw (uses_moved l)
  uses_moved (sum_definefun d ∷ l) = rw (uses_moved l)
  uses_moved (sum_declfun d ∷ l) = rw (uses_moved l)
  uses_moved (sum_retain ∷ l) = rw (uses_moved l)

  root_uses_moved : (l : List Root) → sum (map (λ (r : Root). length r.free_names) (map (moved_root to) l)) ≡ sum (map (λ (r : Root). length r.free_names) l)
  unfolding sum moved_root
  root_uses_moved [] = refl
  root_uses_moved (r ∷ l) = rw (root_uses_moved l)

  -- the names that they take
  pub taken_moved : (l : List Summary) → collect taken_by (map (moved to) l) ≡ collect taken_by l
  unfolding collect taken_by moved moved_fact moved_decl
  taken_moved [] = refl
  taken_moved (sum_assume f ∷ l) = rw (taken_moved l)
  taken_moved (sum_definefun d ∷ l) = rw (taken_moved l)
  taken_moved (sum_declfun d ∷ l) = rw (taken_moved l)
  taken_moved (sum_retain ∷ l) = taken_moved l

  module _ (terms : List Term) (out out' : List Name) (same_free : (t : ℕ) → free_top_level_names out terms t ≡ free_top_level_names out' terms t) where
    -- the records of a line that stands on another, by excluded names that leave the same free names
    pub decls_moved : (n : ℕ) (c : Content) → summarize_decl out terms (to n) c ≡ map (moved to) (summarize_decl out' terms n c)
    unfolding summarize_decl summarize_assumption moved moved_fact moved_decl
    decls_moved n (head h) = refl
    decls_moved n (term node) = refl
    decls_moved n (assume name flag group t) = rw (same_free t, same_kind terms out out' same_free name t)
    decls_moved n (fun name) = refl
    decls_moved n (def name t) = rw (same_free t)
    decls_moved n (retain names) = refl
    decls_moved n (root q name t) = refl

    pub roots_moved : (n : ℕ) (c : Content) → root_of out terms (to n) c ≡ map (moved_root to) (root_of out' terms n c)
    unfolding root_of moved_root
    roots_moved n (head h) = refl
    roots_moved n (term node) = refl
    roots_moved n (assume name flag group t) = refl
    roots_moved n (fun name) = refl
    roots_moved n (def name t) = refl
    roots_moved n (retain names) = refl
    roots_moved n (root q name t) = rw (same_free t)

    -- the token that is trimmed
    same_trimmed : (c : Content) → trimmed out terms c ≡ trimmed out' terms c
    unfolding trimmed
    same_trimmed (head h) = refl
    same_trimmed (term node) = refl
    same_trimmed (assume name flag group t) = ap (λ k. k.trimmed) (same_kind terms out out' same_free name t)
    same_trimmed (fun name) = refl
    same_trimmed (def name t) = refl
    same_trimmed (retain names) = refl
    same_trimmed (root q name t) = refl

  module _ (asks : List Ask) (hidden names : List Name) where
    module _ (exclude : List Name) (n : ℕ) (s : State) (c : Content)
        (same_free : (t : ℕ) → free_top_level_names (exclude ++ hidden) s.terms t ≡ free_top_level_names (exclude ++ s.hidden) s.terms t) where
      -- a line adds the same on its other line
      pub add_relaid : add_line exclude (to n) (relaid to asks hidden names s) c
          ≡ relaid to (asks ++ collect (head_asks asks) (heads c)) (hidden ++ collect hidden_by (heads c))
          (fold_left spell names (spelled c ++ trimmed (excluded exclude s) s.terms c)) (add_line exclude n s c)
      unfolding add_line excluded
      add_relaid =
          let out = exclude ++ s.hidden in
          rw (
            same_trimmed s.terms (exclude ++ hidden) out same_free c,
            decls_moved s.terms (exclude ++ hidden) out same_free n c,
            roots_moved s.terms (exclude ++ hidden) out same_free n c,
            entries_moved (summarize_decl out s.terms n c),
            uses_moved (summarize_decl out s.terms n c),
            root_uses_moved (root_of out s.terms n c),
            map-append (moved to) s.decls (summarize_decl out s.terms n c),
            map-append (moved_root to) s.roots (root_of out s.terms n c),
          )

      -- it repeats a name where it did
      pub repeats_relaid : repeats exclude (to n) (relaid to asks hidden names s) c ≡ repeats exclude n s c
      unfolding repeats excluded
      repeats_relaid =
          rw (
            decls_moved s.terms (exclude ++ hidden) (exclude ++ s.hidden) same_free n c,
            taken_moved s.decls,
            taken_moved (summarize_decl (exclude ++ s.hidden) s.terms n c),
          )

    module _ (s : State) (asked : T (not (is_nil asks))) (asked' : T (not (is_nil s.asks))) where
      -- a line that is no ask may stand where it did
      stands_relaid : (is_also grouped is_hide : Bool)
          → may_stand (relaid to asks hidden names s) (place_by false is_also grouped is_hide) ≡ may_stand s (place_by false is_also grouped is_hide)
      unfolding may_stand place_by in_head
      stands_relaid is_also grouped true = rw (nil_map (moved to) s.decls, nil_map (moved_root to) s.roots, T_false (is_nil asks) asked, T_false (is_nil s.asks) asked')
      stands_relaid is_also grouped false = rw (T_false (is_nil asks) asked, T_false (is_nil s.asks) asked')

      -- its fields say the same, or are refused by the same
      pub parse_relaid : (fs : List Field) → T (not (is_word ask_words (get_or fs 0 []))) → parse (relaid to asks hidden names s) fs ≡ parse s fs
      parse_relaid [] t = unfold parse next in refl
      parse_relaid (f ∷ fs) t = go (word kinds f) refl
        where
          S : State
          S = relaid to asks hidden names s

          of_kind : (k : LineKind) → place k ≡ place_by false (is_word also_words f) (is_word grouped_words f) (is_word hide_words f) → may_stand S (place k) ≡ may_stand s (place k)
          of_kind k at = rw at (stands_relaid (is_word also_words f) (is_word grouped_words f) (is_word hide_words f))

          no_position : (k : LineKind) → place k ≡ place_by false (is_word also_words f) (is_word grouped_words f) (is_word hide_words f) → is_position (place k) ≡ false
          no_position k at = ap is_position at ∙ position_by false (is_word also_words f) (is_word grouped_words f) (is_word hide_words f)

          go : (o : Option LineKind) → word kinds f ≡ o → parse S (f ∷ fs) ≡ parse s (f ∷ fs)
          go none e = parse_unknown S f fs e ∙ sym (parse_unknown s f fs e)
          go (some k) e =
              let at : place k ≡ place_by false (is_word also_words f) (is_word grouped_words f) (is_word hide_words f) = known_place f e ∙ ap (λ b. place_by b (is_word also_words f) (is_word grouped_words f) (is_word hide_words f)) (T_false (is_word ask_words f) t) in
              let judged : cond (may_stand S (place k)) (cond (is_past S k) (refused refusal.FullAsks) (after_kind S f fs e)) (refused refusal.Form)
              ≡ cond (may_stand s (place k)) (cond (is_past s k) (refused refusal.FullAsks) (after_kind s f fs e)) (refused refusal.Form) =
              rw (of_kind k at, no_position k at, same_count S s refl k) in
              parse_known S f fs e ∙ judged ∙ sym (parse_known s f fs e)

-- ---- lines k further down

-- the state with other asks and its records k lines further down
abbrev pub shifted : ℕ → List Ask → State → State
shifted k asks s = relaid (λ n. n + k) asks s.hidden s.names s

-- a result, and what reading comes to, with the state so
abbrev pub shifted_result : ℕ → List Ask → Result State → Result State
shifted_result k asks r = r >>= λ s. ok (shifted k asks s)

unfoldable pub shifted_reading : ℕ → List Ask → Reading → Reading
shifted_reading k asks (read s) = read (shifted k asks s)
shifted_reading k asks (refused_at r n) = refused_at r (n + k)

-- limits that are judged of another value
under_other : {A B : Type 0} (f : A → B) (l : List (ℕ × ℕ × Refusal)) (a : A) → under_limits l (f a) ≡ (under_limits l a >>= λ x. ok (f x))
unfolding under_limits
under_other f [] a = refl
under_other {A} f ((counted, limit, r) ∷ more) a = rw (under_other f more a) (go (leb counted limit) (under_limits more a))
  where
    go : (b : Bool) (x : Result A) → cond b (x >>= λ x. ok (f x)) (refused r) ≡ (cond b x (refused r) >>= λ x. ok (f x))
    go true x = refl
    go false x = refl

module _ (k : ℕ) (asks : List Ask) (exclude : List Name) where
  -- the counts are the same
  limits_shifted : (s : State) → limits (shifted k asks s) ≡ limits s
  unfolding limits
  limits_shifted s = rw (map_length (moved (λ n. n + k)) s.decls, map_length (moved_root (λ n. n + k)) s.roots)

  -- a line that asks nothing adds the same
  add_shifted : (n : ℕ) (s : State) (c : Content) → ((asks : List Ask) → collect (head_asks asks) (heads c) ≡ []) → add_line exclude (n + k) (shifted k asks s) c ≡ shifted k asks (add_line exclude n s c)
  add_shifted n s c nothing =
      add_relaid (λ n. n + k) asks s.hidden s.names exclude n s c (λ t. refl) ∙ unfold add_line in (rw (nothing asks, append-nil asks))

  module _ (n : ℕ) (s : State) (line : Line) (no_ask : T (not (begins ask_words line))) (asked : T (not (is_nil asks))) (asked' : T (not (is_nil s.asks))) where
    abbrev S : State
    S = shifted k asks s

    -- what its fields say, or what they are refused by
    parse_shifted : parse S (fields line.bytes) ≡ parse s (fields line.bytes)
    unfolding begins
    parse_shifted = parse_relaid (λ n. n + k) asks s.hidden s.names s asked asked' (fields line.bytes) no_ask

    -- nothing is asked
    none_asked : (c : Content) → parse s (fields line.bytes) ≡ ok c → (asks : List Ask) → collect (head_asks asks) (heads c) ≡ []
    unfolding begins
    none_asked c e asks = none_by asks (line_fields s (fields line.bytes) e).headed no_ask

    -- a line comes to the same
    pub line_shifted : read_line exclude (n + k) S line ≡ shifted_result k asks (read_line exclude n s line)
    line_shifted = ⊎_elim by_fields (λ t. unended_line exclude (n + k) S line t ∙ sym (ap (shifted_result k asks) (unended_line exclude n s line t))) (T_dec line.ended)
      where
        by_repeat : T line.ended → (c : Content) → parse s (fields line.bytes) ≡ ok c → read_line exclude (n + k) S line ≡ shifted_result k asks (read_line exclude n s line)
        by_repeat t c e =
            let same_repeat = repeats_relaid (λ n. n + k) asks s.hidden s.names exclude n s c (λ t. refl) in
            let after = add_line exclude n s c in
            ⊎_elim
            (λ u. repeated_line exclude (n + k) S line t c (parse_shifted ∙ e) (rw same_repeat u) ∙ sym (ap (shifted_result k asks) (repeated_line exclude n s line t c e u)))
            (λ u. fresh_line exclude (n + k) S line t c (parse_shifted ∙ e) (rw same_repeat u)
            ∙ ap (λ x. under_limits (limits x) x) (add_shifted n s c (none_asked c e))
            ∙ ap (λ l. under_limits l (shifted k asks after)) (limits_shifted after)
            ∙ under_other (shifted k asks) (limits after) after
            ∙ sym (ap (shifted_result k asks) (fresh_line exclude n s line t c e u)))
            (T_dec (repeats exclude n s c))

        by_fields : T line.ended → read_line exclude (n + k) S line ≡ shifted_result k asks (read_line exclude n s line)
        by_fields t =
            ⊎_elim (λ p. by_repeat t p.0 p.1)
            (λ p. unparsed_line exclude (n + k) S line t (parse_shifted ∙ p.1) ∙ sym (ap (shifted_result k asks) (unparsed_line exclude n s line t p.1)))
            (result_cases (parse s (fields line.bytes)))

  -- so do all lines that are no asks, a refusal k lines further down
  pub lines_shifted : (ls : List Line) (n : ℕ) (s : State) → ((l : Line) → Memᴰ l ls → T (not (begins ask_words l)))
      → T (not (is_nil asks)) → T (not (is_nil s.asks))
      → read_lines exclude (n + k) (shifted k asks s) ls ≡ shifted_reading k asks (read_lines exclude n s ls)
  unfolding read_lines shifted_reading go_on
  lines_shifted [] n s no_asks asked asked' = refl
  lines_shifted (line ∷ ls) n s no_asks asked asked' =
      ap (λ r. go_on r (n + k) (λ next. read_lines exclude (n + k + 1) next ls)) (line_shifted n s line (no_asks line (Memᴰ.head refl)) asked asked')
      ∙ by_line (read_line exclude n s line) refl (λ u h. lines_shifted ls (n + 1) u (λ l i. no_asks l (Memᴰ.tail i)) asked h)
    where
      by_line : (x : Result State) → read_line exclude n s line ≡ x
          → ((u : State) → T (not (is_nil u.asks)) → read_lines exclude (n + 1 + k) (shifted k asks u) ls ≡ shifted_reading k asks (read_lines exclude (n + 1) u ls))
          → go_on (shifted_result k asks x) (n + k) (λ next. read_lines exclude (n + k + 1) next ls) ≡ shifted_reading k asks (go_on x n (λ next. read_lines exclude (n + 1) next ls))
      by_line (ok u) e below =
          let next : n + k + 1 ≡ n + 1 + k = omega arith in
          let stays = asks_none (headed_line exclude n s u line e) (no_asks line (Memᴰ.head refl)) in
          rw next (below u (rw stays asked'))
      by_line (refused r) e below = refl
