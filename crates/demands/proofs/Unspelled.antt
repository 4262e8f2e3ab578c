-- A hide line more, of a name that no line spells: the same records, one line down.
use Prim.Native.Nat.{ℕ, ◌+◌, ◌≤◌}
use native.Mathlib.Omega.{arith}
use mathlib.Core.Path.{◌≡◌, refl, sym, ◌∙◌, ap, subst}
use mathlib.Core.Logic.{inl, inr, ⊎_elim}
use mathlib.Core.Bool.{Bool, true, false, cond, not, ◌&&◌, ◌||◌}
use mathlib.Core.List.{List, [], ◌∷◌, ◌++◌, map, append_assoc, Memᴰ}
use lib.Dec.{T, leb, le→leb}
use lib.ListN.{length, length-append}
use Rattle.model.specs.Lists.{all, collect, fold_left, is_nil}
use Rattle.model.specs.Names.{Name, mem, diff, same}
use Rattle.model.specs.Lines.{Line, fields}
use Rattle.model.specs.Terms.{term as term_of}
use Rattle.model.specs.Summaries.{free_top_level_names}
use Rattle.model.specs.Reading.{ok, Content, State, read, parse, hidden_by, heads, spelled, spell, most_names, most_terms, most_references, most_records, most_entries, most_uses, limits, summarize_decl, trimmed, root_of, excluded, add_line, repeats, read_line, read_lines}
use Rattle.model.proofs.ListLaws.{T_and, T_or, T_ext, keep_cong, getD_case, any_append}
use Rattle.model.proofs.SetLaws.{Within, within_nil, mem_append, mem_cons, mem_intro, mem_elim, mem_first}
use Rattle.demands.specs.Counts.{ask_words, begins}
use Rattle.demands.specs.Moved.{moved, moved_root}
use Rattle.demands.specs.Hidden.{down, RoomFor}
use Rattle.laws.proofs.ReadingLaws.{within, line_read, lines_read, none_read, added_line}
use Rattle.demands.proofs.Refusals.{lines_on}
use Rattle.demands.proofs.Heads.{asks_none, headed_line}
use Rattle.demands.proofs.StateLaws.{spelled_exact, StateLaws, laws_line}
use Rattle.demands.proofs.Moved.{map_length}
use Rattle.demands.proofs.Shifted.{relaid, add_relaid, repeats_relaid, parse_relaid}

-- the names with this one put between two of them
pub record Inserted (name : Name) (l m : List Name) : Type 0 where
  pub before : List Name
  pub after : List Name
  pub without : l ≡ before ++ after
  pub with_it : m ≡ before ++ (name ∷ after)

module _ {name : Name} {l m : List Name} (i : Inserted name l m) where
  -- it is one name more
  pub inserted_length : length m ≡ length l + 1
  inserted_length = rw (i.without, i.with_it, length-append, length-append) (omega arith)

  -- and no other
  inserted_mem : (k : Name) → (k ≡ name → ⊥) → mem k m ≡ mem k l
  inserted_mem k other =
      rw (i.without, i.with_it)
      (T_ext
      (λ t. (mem_append k i.before i.after).1 (⊎_elim inl (λ u. ⊎_elim (λ e. absurd (other e)) inr ((mem_cons k name i.after).0 u)) ((mem_append k i.before (name ∷ i.after)).0 t)))
      (λ t. (mem_append k i.before (name ∷ i.after)).1 (⊎_elim inl (λ u. inr ((mem_cons k name i.after).1 (inr u))) ((mem_append k i.before i.after).0 t))))

-- another name that is spelled
inserted_spell : {name : Name} (l m : List Name) (k : Name) → (k ≡ name → ⊥) → Inserted name l m → Inserted name (spell l k) (spell m k)
unfolding spell
inserted_spell {name} l m k other i = rw (inserted_mem i k other) (go (mem k l))
  where
    go : (b : Bool) → Inserted name (cond b l (l ++ (k ∷ []))) (cond b m (m ++ (k ∷ [])))
    go true = i
    go false =
        record {
          before = i.before;
          after = i.after ++ (k ∷ []);
          without = ap (◌++ (k ∷ [])) i.without ∙ append_assoc i.before i.after (k ∷ []);
          with_it = ap (◌++ (k ∷ [])) i.with_it ∙ append_assoc i.before (name ∷ i.after) (k ∷ []);
        }

-- other names that are spelled
inserted_spelled : {name : Name} (ks l m : List Name) → (T (mem name ks) → ⊥) → Inserted name l m → Inserted name (fold_left spell l ks) (fold_left spell m ks)
unfolding fold_left
inserted_spelled [] l m other i = i
inserted_spelled {name} (k ∷ ks) l m other i =
    inserted_spelled ks (spell l k) (spell m k) (λ t. other ((mem_cons name k ks).1 (inr t)))
    (inserted_spell l m k (λ e. other (rw e (mem_first name ks))) i)

-- ---- records one line down

-- the state with its records one line down, these names hidden, and these spelled
abbrev pub lowered : List Name → List Name → State → State
lowered hidden names s = relaid down s.asks hidden names s

-- ---- a line, and all lines, read one line down

-- general law
exchange : (a a' b c d d' e : Bool) → T (a && (b && (c && (d && e)))) → T a' → T d' → T (a' && (b && (c && (d' && e))))
exchange a a' b c d d' e t u v =
    let (ta, tb) = (T_and a (b && (c && (d && e)))).0 t in
    let (tb, tc) = (T_and b (c && (d && e))).0 tb in
    let (tc, td) = (T_and c (d && e)).0 tc in
    let (td, te) = (T_and d e).0 td in
    (T_and a' (b && (c && (d' && e)))).1 (u, (T_and b (c && (d' && e))).1 (tb, (T_and c (d' && e)).1 (tc, (T_and d' e).1 (v, te))))

-- the lists of hidden names and of names with this one more
pub record OneNameMore (name : Name) (s : State) (hidden names : List Name) : Type 0 where
  pub hidden_count : length hidden ≡ length s.hidden + 1
  pub hidden_same : (k : Name) → (k ≡ name → ⊥) → mem k hidden ≡ mem k s.hidden
  pub inserted : Inserted name s.names names

module _ (exclude : List Name) (name : Name) where
  -- where no line spells the name, every term has the same free names
  same_free : (s : State) (hidden names : List Name) → StateLaws s → (T (mem name s.names) → ⊥) → OneNameMore name s hidden names
      → (t : ℕ) → free_top_level_names (exclude ++ hidden) s.terms t ≡ free_top_level_names (exclude ++ s.hidden) s.terms t
  unfolding free_top_level_names diff mem
  same_free s hidden names laws unspelled o t =
      keep_cong (λ n. not (mem n (exclude ++ hidden))) (λ n. not (mem n (exclude ++ s.hidden))) (term_of s.terms t).names
      (λ k i. ap not (any_append (same k) exclude hidden ∙ ap (mem k exclude ||◌) (o.hidden_same k (λ e. unspelled (spelled_of (rw e at (mem_intro i)))))
      ∙ sym (any_append (same k) exclude s.hidden)))
    where
      spelled_of : T (mem name (term_of s.terms t).names) → T (mem name s.names)
      spelled_of u =
          unfold term_of in
          (getD_case (λ x. Within x.names s.names) s.terms t _ (λ x i. (laws.numbered.terms x i).free) (within_nil s.names) name u)

  -- the counts of a state with one name and one record line more
  pub limits_lowered : (s : State) (hidden names : List Name) → RoomFor name s → OneNameMore name s hidden names
      → T (all within (limits s)) → T (all within (limits (lowered hidden names s)))
  unfolding limits all
  limits_lowered s hidden names room o t =
      let few_names : length names ≤ most_names = omega (arith, inserted_length o.inserted, room.names_left) in
      let few : length hidden + (length (map (moved down) s.decls) + length (map (moved_root down) s.roots)) ≤ most_records =
      rw (map_length (moved down) s.decls, map_length (moved_root down) s.roots) (omega (arith, o.hidden_count, room.records_left)) in
      exchange (leb (length s.names) most_names) (leb (length names) most_names) (leb (length s.terms) most_terms) (leb s.references most_references)
      (leb (length s.hidden + (length s.decls + length s.roots)) most_records)
      (leb (length hidden + (length (map (moved down) s.decls) + length (map (moved_root down) s.roots))) most_records)
      (leb s.entries most_entries && (leb s.uses most_uses && true)) t (le→leb (length names) most_names few_names)
      (le→leb (length hidden + (length (map (moved down) s.decls) + length (map (moved_root down) s.roots))) most_records few)

  -- nothing is spelled that is not there in the end, and no count falls
  pub record Grows (s t : State) : Type 0 where
    names_kept : Within s.names t.names
    more_names : length s.names ≤ length t.names
    more_records : length s.hidden + (length s.decls + length s.roots) ≤ length t.hidden + (length t.decls + length t.roots)

  -- so is a name that is spelled
  spell_grows : (names : List Name) (k : Name) → length names ≤ length (spell names k)
  unfolding spell
  spell_grows names k = go (mem k names)
    where
      go : (b : Bool) → length names ≤ length (cond b names (names ++ (k ∷ [])))
      go true = omega arith
      go false = rw length-append (omega arith)

  spelled_grows : (ks names : List Name) → length names ≤ length (fold_left spell names ks)
  unfolding fold_left
  spelled_grows [] names = omega arith
  spelled_grows (k ∷ ks) names = omega (arith, spell_grows names k, spelled_grows ks (spell names k))

  grows_line : (n : ℕ) (s u : State) (line : Line) → read_line exclude n s line ≡ ok u → Grows s u
  unfolding add_line
  grows_line n s u line e =
      let l = line_read exclude n s line u e in
      let ks = spelled l.content ++ trimmed (excluded exclude s) s.terms l.content in
      rw l.after
      (record {
        names_kept = λ k t. rw (spelled_exact s.names ks k) ((T_or (mem k s.names) (mem k ks)).1 (inl t));
        more_names = spelled_grows ks s.names;
        more_records = omega (
          arith,
          length-append s.hidden (collect hidden_by (heads l.content)),
          length-append s.decls (summarize_decl (excluded exclude s) s.terms n l.content),
          length-append s.roots (root_of (excluded exclude s) s.terms n l.content),
        );
      })

  pub grows_lines : (ls : List Line) (n : ℕ) (s t : State) → read_lines exclude n s ls ≡ read t → Grows s t
  grows_lines [] n s t e = rw (none_read exclude n s t e) (record { names_kept = λ k u. u; more_names = omega arith; more_records = omega arith })
  grows_lines (line ∷ ls) n s t e =
      let (u, r, others) = lines_read exclude n s line ls t e in
      let here = grows_line n s u line r in
      let later = grows_lines ls (n + 1) u t others in
      record {
        names_kept = λ k v. later.names_kept k (here.names_kept k v);
        more_names = omega (arith, here.more_names, later.more_names);
        more_records = omega (arith, here.more_records, later.more_records);
      }

  -- room in the end is room before
  pub room_before : {s t : State} → Grows s t → RoomFor name t → RoomFor name s
  room_before {s} {t} g room =
      record {
        unspelled = λ i. room.unspelled (mem_elim (g.names_kept name (mem_intro i)));
        names_left = omega (arith, g.more_names, room.names_left);
        records_left = omega (arith, g.more_records, room.records_left);
      }

  -- a line that is accepted is so one line down, with one name more hidden
  record Lowered (n : ℕ) (s u : State) (hidden names : List Name) (line : Line) : Type 0 where
    new_hidden : List Name
    new_names : List Name
    reads : read_line exclude (n + 1) (lowered hidden names s) line ≡ ok (lowered new_hidden new_names u)
    one_more : OneNameMore name u new_hidden new_names

  -- the names and the hidden names after a line that spells none such
  one_name_more : (n : ℕ) (s : State) (c : Content) (hidden names : List Name)
      → (T (mem name (spelled c ++ trimmed (excluded exclude s) s.terms c)) → ⊥) → OneNameMore name s hidden names
      → OneNameMore name (add_line exclude n s c) (hidden ++ collect hidden_by (heads c)) (fold_left spell names (spelled c ++ trimmed (excluded exclude s) s.terms c))
  unfolding add_line mem
  one_name_more n s c hidden names unspelled o =
      let more = collect hidden_by (heads c) in
      record {
        hidden_count = omega (arith, o.hidden_count, length-append hidden more, length-append s.hidden more);
        hidden_same = λ k other. any_append (same k) hidden more ∙ ap (◌|| mem k more) (o.hidden_same k other) ∙ sym (any_append (same k) s.hidden more);
        inserted = inserted_spelled (spelled c ++ trimmed (excluded exclude s) s.terms c) s.names names unspelled o.inserted;
      }

  -- of a name that is not there after a line: it was not before, and the line does not spell it
  unspelled_by : (n : ℕ) (s : State) (c : Content) → RoomFor name (add_line exclude n s c)
      → (T (mem name s.names) → ⊥) × (T (mem name (spelled c ++ trimmed (excluded exclude s) s.terms c)) → ⊥)
  unfolding add_line
  unspelled_by n s c room =
      let ks = spelled c ++ trimmed (excluded exclude s) s.terms c in
      let exact = spelled_exact s.names ks name in
      let no : T (mem name s.names || mem name ks) → ⊥ = λ t. room.unspelled (mem_elim (rw exact t)) in (
        λ t. no ((T_or (mem name s.names) (mem name ks)).1 (inl t)),
        λ t. no ((T_or (mem name s.names) (mem name ks)).1 (inr t)),
      )

  content_lowered : (n : ℕ) (s : State) (hidden names : List Name) (line : Line) (c : Content) → T line.ended → parse s (fields line.bytes) ≡ ok c
      → T (not (repeats exclude n s c)) → T (all within (limits (add_line exclude n s c)))
      → StateLaws s → RoomFor name (add_line exclude n s c) → OneNameMore name s hidden names → T (not (begins ask_words line)) → T (not (is_nil s.asks))
      → Lowered n s (add_line exclude n s c) hidden names line
  unfolding add_line begins
  content_lowered n s hidden names line c ended parsed fresh few laws room o no_ask asked =
      let (before, here) = unspelled_by n s c room in
      let free = same_free s hidden names laws before o in
      let added = add_relaid down s.asks hidden names exclude n s c free in
      let more = one_name_more n s c hidden names here o in
      let fresh' : T (not (repeats exclude (n + 1) (lowered hidden names s) c)) = rw (repeats_relaid down s.asks hidden names exclude n s c free) fresh in
      let few' : T (all within (limits (add_line exclude (n + 1) (lowered hidden names s) c))) =
      subst (λ x. T (all within (limits x))) (sym added) (limits_lowered (add_line exclude n s c) _ _ room more few) in
      record {
        new_hidden = hidden ++ collect hidden_by (heads c);
        new_names = fold_left spell names (spelled c ++ trimmed (excluded exclude s) s.terms c);
        reads = added_line exclude (n + 1) (lowered hidden names s) line ended c
            (parse_relaid down s.asks hidden names s asked asked (fields line.bytes) no_ask ∙ parsed) fresh' few' ∙ ap ok added;
        one_more = more;
      }

  line_lowered : (n : ℕ) (s u : State) (hidden names : List Name) (line : Line) → read_line exclude n s line ≡ ok u
      → StateLaws s → RoomFor name u → OneNameMore name s hidden names → T (not (begins ask_words line)) → T (not (is_nil s.asks)) → Lowered n s u hidden names line
  line_lowered n s u hidden names line e laws room o no_ask asked =
      let l = line_read exclude n s line u e in
      subst (λ x. Lowered n s x hidden names line) (sym l.after)
      (content_lowered n s hidden names line l.content l.ended l.parsed l.fresh l.in_limits laws (subst (RoomFor name) l.after room) o no_ask asked)

  -- such lines after such a line
  then_lowered : (n : ℕ) (s u t : State) (hidden names hidden₁ names₁ : List Name) (line : Line) (ls : List Line)
      → read_line exclude (n + 1) (lowered hidden names s) line ≡ ok (lowered hidden₁ names₁ u)
      → (hidden' : List Name) × (names' : List Name) × (read_lines exclude (n + 1 + 1) (lowered hidden₁ names₁ u) ls ≡ read (lowered hidden' names' t))
      → (hidden' : List Name) × (names' : List Name) × (read_lines exclude (n + 1) (lowered hidden names s) (line ∷ ls) ≡ read (lowered hidden' names' t))
  then_lowered n s u t hidden names hidden₁ names₁ line ls r (hidden', names', reads) =
      (hidden', names', lines_on exclude (n + 1) (lowered hidden names s) (lowered hidden₁ names₁ u) line ls r ∙ reads)

  -- so are all lines that are no asks
  pub lines_lowered : (ls : List Line) (n : ℕ) (s t : State) (hidden names : List Name) → read_lines exclude n s ls ≡ read t
      → StateLaws s → RoomFor name t → OneNameMore name s hidden names → ((l : Line) → Memᴰ l ls → T (not (begins ask_words l))) → T (not (is_nil s.asks))
      → (hidden' : List Name) × (names' : List Name) × (read_lines exclude (n + 1) (lowered hidden names s) ls ≡ read (lowered hidden' names' t))
  lines_lowered [] n s t hidden names e laws room o no_asks asked =
      (hidden, names, unfold read_lines in (ap (λ x. read (lowered hidden names x)) (none_read exclude n s t e)))
  lines_lowered (line ∷ ls) n s t hidden names e laws room o no_asks asked =
      let (u, r, others) = lines_read exclude n s line ls t e in
      let no_ask = no_asks line (Memᴰ.head refl) in
      let l = line_lowered n s u hidden names line r laws (room_before (grows_lines ls (n + 1) u t others) room) o no_ask asked in
      then_lowered n s u t hidden names l.new_hidden l.new_names line ls l.reads
      (lines_lowered ls (n + 1) u t l.new_hidden l.new_names others (laws_line exclude n s u line r laws) room l.one_more (λ m i. no_asks m (Memᴰ.tail i))
      (rw (asks_none (headed_line exclude n s u line r) no_ask) asked))
