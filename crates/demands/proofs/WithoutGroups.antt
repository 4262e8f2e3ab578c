-- The file without the group fields: there is one, it is no longer than the file, and a call answers it the same.
use Prim.Native.Nat.{ℕ, ◌+◌, ◌≤◌}
use native.Mathlib.Omega.{arith}
use mathlib.Core.Path.{◌≡◌, refl, sym, ◌∙◌, ap, subst}
use mathlib.Core.Logic.{◌⊎◌, inl, inr, ⊎_elim, ◌≢◌}
use mathlib.Core.Bool.{Bool, cond, not, not-not}
use mathlib.Core.List.Memᴰ
use mathlib.Core.List.{List, [], ◌∷◌, Memᴰ}
use lib.Dec.{T, T_not, eqb, eqb→eq, eqb_refl}
use lib.ListN.{length, get_or, length-append}
use Rattle.model.specs.Lists.{any, holds, collect, is_nil}
use Rattle.model.specs.Names.{Name, bytes}
use Rattle.model.specs.Lines.{Line, lines, Field, fields}
use Rattle.model.specs.Summaries.{exclude_names}
use Rattle.model.specs.Reading.{Content, ok, State, start, Reading, read, place, may_stand, fixed_count, read_line, read_lines}
use Rattle.model.specs.Outcome.{filtered, all_kept}
use Rattle.model.specs.Text.{comma}
use Rattle.model.specs.declared.LineKind.TheVariants as kind
use Rattle.model.proofs.ListLaws.{T_or, T_dec, T_true, any_intro}
use Rattle.laws.proofs.ReadingLaws.{Parsed, parse_ok, line_read, lines_read, file_read}
use Rattle.demands.specs.LinesRead.{Pairwise, ends, pair}
use Rattle.demands.specs.Counts.{grouped_words, begins}
use Rattle.demands.specs.Demand1.{Answers, all_lengths}
use Rattle.demands.specs.Bytes.{Without, line_bytes, Parted, none, ended}
use Rattle.demands.specs.Groups.{group_words, WithoutGroup, of_ask, of_fact, as_it_is, WithoutGroupsFile, AnsweredWithoutGroups}
use Rattle.demands.proofs.Heads.{headed_line}
use Rattle.demands.proofs.Asks.{one_word, more_words}
use Rattle.demands.proofs.Bytes.{lines_exact, fields_exact, fields_comma, comma_fields}
use Rattle.demands.proofs.Demand1.{answers_filtered, filtered_answers, filtered_lengths, list_given}
use Rattle.demands.proofs.Ungrouped.{known_words, kind_by, grouped_now, first_grouped, begins_grouped, groups_left_out}

-- ---- texts parted by commas

-- a byte of such a text is one of a field, or the comma
comma_elim : (b : ℕ) → b ≢ 0x2c → (fs : List Field) → Memᴰ b (comma fs) → (f : Field) × Memᴰ f fs × Memᴰ b f
unfolding comma
comma_elim b other [] i = absurd (Memᴰ.not-nil i)
comma_elim b other (f ∷ []) i = (f, Memᴰ.head refl, i)
comma_elim b other (f ∷ g ∷ fs) i =
    ⊎_elim (λ j. (f, Memᴰ.head refl, j))
    (λ j. ⊎_elim (λ e. absurd (other e)) (λ k. let (h, l, m) = comma_elim b other (g ∷ fs) k in (h, Memᴰ.tail l, m)) (Memᴰ.cases_cons j))
    (Memᴰ.append_cases f i)

-- a byte of a field is one of the text
comma_intro : {b : ℕ} (fs : List Field) {f : Field} → Memᴰ f fs → Memᴰ b f → Memᴰ b (comma fs)
unfolding comma
comma_intro [] i j = absurd (Memᴰ.not-nil i)
comma_intro {b} (f ∷ []) i j = ⊎_elim (λ e. subst (Memᴰ b) e j) (λ k. absurd (Memᴰ.not-nil k)) (Memᴰ.cases_cons i)
comma_intro {b} (f ∷ g ∷ fs) i j =
    ⊎_elim (λ e. Memᴰ.append_left (0x2c ∷ comma (g ∷ fs)) (subst (Memᴰ b) e j)) (λ k. Memᴰ.append_right f (Memᴰ.tail (comma_intro (g ∷ fs) k j))) (Memᴰ.cases_cons i)

-- its length
comma_length : (f g : Field) (fs : List Field) → length (comma (f ∷ g ∷ fs)) ≡ length f + (1 + length (comma (g ∷ fs)))
unfolding comma
comma_length f g fs = length-append f (0x2c ∷ comma (g ∷ fs)) ∙ omega arith

comma_one : (f : Field) → length (comma (f ∷ [])) ≡ length f
unfolding comma
comma_one f = refl

-- a text without a byte, by a test
lacks : (b : ℕ) (text : List ℕ) → T (not (any (eqb b) text)) → Without b text
lacks b text t i = T_not (any (eqb b) text) t (any_intro (eqb b) i (eqb_refl b))

-- the words of the older form have neither 0A nor comma
ask_lacks : Without 0x0a (bytes "ask") × Without 0x2c (bytes "ask")
unfolding any bytes
ask_lacks = (lacks 0x0a (bytes "ask") tt, lacks 0x2c (bytes "ask") tt)

assume_lacks : Without 0x0a (bytes "assume") × Without 0x2c (bytes "assume")
unfolding any bytes
assume_lacks = (lacks 0x0a (bytes "assume") tt, lacks 0x2c (bytes "assume") tt)

-- ---- a line without its group

-- a list by its length
three_of : {A : Type 0} (l : List A) → length l ≡ 3 → (a : A) × (b : A) × (c : A) × (l ≡ a ∷ b ∷ c ∷ [])
three_of [] e = absurd (omega arith)
three_of (a ∷ []) e = absurd (omega arith)
three_of (a ∷ b ∷ []) e = absurd (omega arith)
three_of (a ∷ b ∷ c ∷ []) e = (a, b, c, refl)
three_of (a ∷ b ∷ c ∷ d ∷ l) e = absurd (omega arith)

four_of : {A : Type 0} (l : List A) → length l ≡ 4 → (a : A) × (b : A) × (c : A) × (d : A) × (l ≡ a ∷ b ∷ c ∷ d ∷ [])
four_of [] e = absurd (omega arith)
four_of (a ∷ l) e = let (b, c, d, is) = three_of l (omega arith) in (a, b, c, d, ap (a ∷◌) is)

-- the line of some fields, ended as another, is one of these fields
record Rewritten (l : Line) (w : Field) (fs : List Field) : Type 0 where
  line : Line
  same_end : l.ended ≡ line.ended
  are : fields line.bytes ≡ w ∷ fs
  no_0a : Without 0x0a l.bytes → Without 0x0a line.bytes

rewritten : (l : Line) (w : Field) (fs : List Field) → Without 0x0a w → Without 0x2c w → ((f : Field) → Memᴰ f fs → Memᴰ f (fields l.bytes)) → Rewritten l w fs
rewritten l w fs clean whole within =
    let parts = (fields_exact l.bytes (fields l.bytes)).0 refl in
    record {
      line = record { bytes = comma (w ∷ fs); ended = l.ended };
      same_end = refl;
      are = fields_comma w fs (λ g i. ⊎_elim (λ e. subst (Without 0x2c) (sym e) whole) (λ j. parts.without_comma g (within g j)) (Memᴰ.cases_cons i));
      no_0a = λ h i.
          let (f, j, k) = comma_elim 0x0a (λ e. absurd (omega arith)) (w ∷ fs) i in
          ⊎_elim (λ e. clean (subst (Memᴰ 0x0a) e k))
          (λ m. h (subst (Memᴰ 0x0a) (comma_fields l.bytes) (comma_intro (fields l.bytes) (within f m) k))) (Memᴰ.cases_cons j);
    }

-- a line, and one without its group
record Made (l : Line) : Type 0 where
  line : Line
  without : WithoutGroup l line
  same_end : l.ended ≡ line.ended
  no_0a : Without 0x0a l.bytes → Without 0x0a line.bytes

-- the fixed count is the count
counted : (n c : ℕ) → T (not (not (eqb n c))) → n ≡ c
counted n c t = eqb→eq n c (rw not-not at t)

module _ (l : Line) where
  -- an ask with groups
  ask_made : (rest : List Field) → fields l.bytes ≡ bytes "ask2" ∷ rest → length rest ≡ 3 → Made l
  ask_made rest e count =
      let (q, o, g, is) = three_of rest count in
      let all : fields l.bytes ≡ bytes "ask2" ∷ q ∷ o ∷ g ∷ [] = e ∙ ap (bytes "ask2" ∷◌) is in
      let w = rewritten l (bytes "ask") (q ∷ o ∷ []) ask_lacks.0 ask_lacks.1 (λ f i. subst (Memᴰ f) (sym all) (two_of i)) in
      record { line = w.line; without = of_ask w.same_end all w.are; same_end = w.same_end; no_0a = w.no_0a }
    where
      two_of : {f k q o g : Field} → Memᴰ f (q ∷ o ∷ []) → Memᴰ f (k ∷ q ∷ o ∷ g ∷ [])
      two_of {g} i = Memᴰ.tail (Memᴰ.append_left (g ∷ []) i)

  -- an assume with its group
  fact_made : (rest : List Field) → fields l.bytes ≡ bytes "assume" ∷ rest → length rest ≡ 4 → Made l
  fact_made rest e count =
      let (n, b, g, t, is) = four_of rest count in
      let all : fields l.bytes ≡ bytes "assume" ∷ n ∷ b ∷ g ∷ t ∷ [] = e ∙ ap (bytes "assume" ∷◌) is in
      let w = rewritten l (bytes "assume") (n ∷ b ∷ t ∷ []) assume_lacks.0 assume_lacks.1 (λ f i. subst (Memᴰ f) (sym all) (three_in i)) in
      record { line = w.line; without = of_fact w.same_end all w.are; same_end = w.same_end; no_0a = w.no_0a }
    where
      three_in : {f k n b g t : Field} → Memᴰ f (n ∷ b ∷ t ∷ []) → Memᴰ f (k ∷ n ∷ b ∷ g ∷ t ∷ [])
      three_in i =
          ⊎_elim (λ e. Memᴰ.tail (Memᴰ.head e))
          (λ j. ⊎_elim (λ e. Memᴰ.tail (Memᴰ.tail (Memᴰ.head e))) (λ k. Memᴰ.tail (Memᴰ.tail (Memᴰ.tail (Memᴰ.tail k)))) (Memᴰ.cases_cons j))
          (Memᴰ.cases_cons i)

-- the fields of an ask with groups, and of an assume in the form with groups, are so many
ask_count : (s : State) (rest : List Field) (c : Content) → Parsed s (bytes "ask2" ∷ rest) c → length rest ≡ 3
unfolding fixed_count holds
ask_count s rest c p =
    let (is_kind, are) = kind_by s (bytes "ask2") rest kind.Ask2 c known_words.1 p in
    let test = subst (λ k. T (not (holds (λ c. not (eqb (length (bytes "ask2" ∷ rest)) c)) (fixed_count s k)))) is_kind p.counted in
    omega (arith, counted (length (bytes "ask2" ∷ rest)) 4 test)

fact_count : (s : State) (rest : List Field) (c : Content) → Parsed s (bytes "assume" ∷ rest) c → (T (not (is_nil s.asks)) → T s.grouped) → length rest ≡ 4
unfolding fixed_count holds place may_stand
fact_count s rest c p form =
    let (is_kind, are) = kind_by s (bytes "assume") rest kind.Assume c known_words.2 p in
    let behind : T (not (is_nil s.asks)) = subst (λ k. T (may_stand s (place k))) is_kind p.stands in
    let test = subst (λ k. T (not (holds (λ c. not (eqb (length (bytes "assume" ∷ rest)) c)) (fixed_count s k)))) is_kind p.counted in
    let five : T (not (not (eqb (length (bytes "assume" ∷ rest)) 5))) = subst (λ b. T (not (not (eqb (length (bytes "assume" ∷ rest)) (cond b 5 4))))) (T_true s.grouped (form behind)) test in
    omega (arith, counted (length (bytes "assume" ∷ rest)) 5 five)

-- a line with a group field begins with `ask2` or `assume`
has_word : (l : Line) → T (begins group_words l) → (get_or (fields l.bytes) 0 [] ≡ bytes "ask2") ⊎ (get_or (fields l.bytes) 0 [] ≡ bytes "assume")
unfolding begins group_words
has_word l t =
    let f = get_or (fields l.bytes) 0 [] in
    ⊎_elim inl (λ u. inr ((one_word "assume" f).0 u)) ((more_words "ask2" ("assume" ∷ []) f).0 t)

-- a file is of the form with groups behind a line that is, or in it
grouped_after : (exclude : List Name) (n : ℕ) (s u : State) (l : Line) → read_line exclude n s l ≡ ok u → T s.grouped ⊎ T (begins grouped_words l) → T u.grouped
grouped_after exclude n s u l r (inl t) = grouped_now exclude n s u l r t
grouped_after exclude n s u l r (inr t) = subst T (sym (headed_line exclude n s u l r).form) ((T_or s.grouped (begins grouped_words l)).1 (inr t))

-- fields by the first
first_split : {all : List Field} {w : Field} {others : List Field} → all ≡ w ∷ others → (v : Field) → get_or all 0 [] ≡ v → all ≡ v ∷ others
first_split {all} {w} {others} e v first = e ∙ ap (◌∷ others) (sym (ap (λ (x : List Field). get_or x 0 []) e) ∙ first)

-- every line that is read has one without its group, where what is behind an ask is of the form with groups
line_made : (exclude : List Name) (n : ℕ) (s u : State) (l : Line) → read_line exclude n s l ≡ ok u → (T (not (is_nil s.asks)) → T s.grouped) → Made l
line_made exclude n s u l r form =
    let w = line_read exclude n s l u r in
    go w.content (parse_ok s (fields l.bytes) w.parsed) (T_dec (begins group_words l))
  where
    of_word : (c : Content) (p : Parsed s (fields l.bytes) c) → (get_or (fields l.bytes) 0 [] ≡ bytes "ask2") ⊎ (get_or (fields l.bytes) 0 [] ≡ bytes "assume") → Made l
    of_word c p (inl e) =
        let all = first_split p.split (bytes "ask2") e in
        ask_made l p.others all (ask_count s p.others c (subst (λ fs. Parsed s fs c) all p))
    of_word c p (inr e) =
        let all = first_split p.split (bytes "assume") e in
        fact_made l p.others all (fact_count s p.others c (subst (λ fs. Parsed s fs c) all p) form)

    go : (c : Content) (p : Parsed s (fields l.bytes) c) → T (begins group_words l) ⊎ T (not (begins group_words l)) → Made l
    go c p (inl t) = of_word c p (has_word l t)
    go c p (inr t) = record { line = l; without = as_it_is t; same_end = refl; no_0a = λ h. h }

-- ---- all lines

-- lines, and those without their groups
record AllMade (ls : List Line) : Type 0 where
  lines_made : List Line
  pairs : Pairwise WithoutGroup ls lines_made
  no_0a : ((l : Line) → Memᴰ l ls → Without 0x0a l.bytes) → (m : Line) → Memᴰ m lines_made → Without 0x0a m.bytes
  parted : Parted lines_made

all_made : (exclude : List Name) (ls : List Line) (n : ℕ) (s t : State) → read_lines exclude n s ls ≡ read t → (T (not (is_nil s.asks)) → T s.grouped)
    → ((l : Line) (rest : List Line) → ls ≡ l ∷ rest → T s.grouped ⊎ T (begins grouped_words l)) → AllMade ls
all_made exclude [] n s t e form first =
    record { lines_made = []; pairs = ends; no_0a = λ h m i. absurd (Memᴰ.not-nil i); parted = none }
all_made exclude (l ∷ ls) n s t e form first =
    let (u, r, rest) = lines_read exclude n s l ls t e in
    let here = line_made exclude n s u l r form in
    let now = grouped_after exclude n s u l r (first l ls refl) in
    let more = all_made exclude ls (n + 1) u t rest (λ x. now) (λ m others is. inl now) in
    record {
      lines_made = here.line ∷ more.lines_made;
      pairs = pair here.without more.pairs;
      no_0a = λ h m i. ⊎_elim (λ x. subst (λ (y : Line). Without 0x0a y.bytes) (sym x) (here.no_0a (h l (Memᴰ.head refl)))) (more.no_0a (λ k j. h k (Memᴰ.tail j)) m) (Memᴰ.cases_cons i);
      parted = ended (sym here.same_end ∙ T_true l.ended (line_read exclude n s l u r).ended) more.parted;
    }

-- there is a file without the group fields
pub without_groups_file : WithoutGroupsFile
without_groups_file file s e grouped =
    let made = all_made exclude_names (lines file) 1 start s (file_read exclude_names file s e) (unfold start is_nil in (λ t. absurd t)) (λ l rest are. inr (begins_grouped l (first_grouped file s e grouped are))) in
    let w = (lines_exact file (lines file)).0 refl in
    let file' = collect line_bytes made.lines_made in
    let are : lines file' ≡ made.lines_made = (lines_exact file' made.lines_made).1 (record { together = refl; without_0a = made.no_0a w.without_0a; parted = made.parted }) in
    (file', subst (λ ms. Pairwise WithoutGroup (lines file) ms) (sym are) made.pairs)

-- ---- calls

-- the bytes of a line
line_length : (l : Line) (fs : List Field) → fields l.bytes ≡ fs → length l.bytes ≡ length (comma fs)
line_length l fs e = ap length (sym (comma_fields l.bytes) ∙ ap comma e)

-- a line without its group is no longer
line_shorter : {l m : Line} → WithoutGroup l m → length (line_bytes m) ≤ length (line_bytes l)
unfolding bytes
line_shorter (of_ask {l} {m} {q} {options} {groups} same e d) =
    let long = line_length l (bytes "ask2" ∷ q ∷ options ∷ groups ∷ []) e in
    let short = line_length m (bytes "ask" ∷ q ∷ options ∷ []) d in
    let end = ap (λ (b : Bool). length {A = ℕ} (cond b (0x0a ∷ []) [])) same in
    omega (
      arith,
      length-append m.bytes (cond m.ended (0x0a ∷ []) []),
      length-append l.bytes (cond l.ended (0x0a ∷ []) []),
      comma_length (bytes "ask2") q (options ∷ groups ∷ []),
      comma_length q options (groups ∷ []),
      comma_length options groups [],
      comma_length (bytes "ask") q (options ∷ []),
      comma_length q options [],
      comma_one options,
    )
line_shorter (of_fact {l} {m} {name} {flag} {group} {t} same e d) =
    let long = line_length l (bytes "assume" ∷ name ∷ flag ∷ group ∷ t ∷ []) e in
    let short = line_length m (bytes "assume" ∷ name ∷ flag ∷ t ∷ []) d in
    let end = ap (λ (b : Bool). length {A = ℕ} (cond b (0x0a ∷ []) [])) same in
    omega (
      arith,
      length-append m.bytes (cond m.ended (0x0a ∷ []) []),
      length-append l.bytes (cond l.ended (0x0a ∷ []) []),
      comma_length (bytes "assume") name (flag ∷ group ∷ t ∷ []),
      comma_length name flag (group ∷ t ∷ []),
      comma_length flag group (t ∷ []),
      comma_length group t [],
      comma_length (bytes "assume") name (flag ∷ t ∷ []),
      comma_length name flag (t ∷ []),
      comma_length flag t [],
    )
line_shorter (as_it_is {l} other) = omega arith

-- nor are all lines
lines_shorter : {ls ms : List Line} → Pairwise WithoutGroup ls ms → length (collect line_bytes ms) ≤ length (collect line_bytes ls)
unfolding collect
lines_shorter ends = omega arith
lines_shorter (pair {a = l} {b = m} {l = ls} {m = ms} this others) =
    omega (
      arith,
      line_shorter this,
      lines_shorter others,
      length-append (line_bytes m) (collect line_bytes ms),
      length-append (line_bytes l) (collect line_bytes ls),
    )

-- over the same slices the file without the group fields is answered with the same
pub answered_without_groups : AnsweredWithoutGroups
answered_without_groups file file' works room ps s e reads grouped all pairs =
    let (judged, (t, reads', given, fits)) = (list_given file works room ps).0 e in
    let same : t ≡ s = read_eq (sym reads' ∙ reads) in
    let (s', accepted, older, asks, answers) = groups_left_out file file' s reads grouped all pairs in
    let are : ps ≡ filtered s' = answers_filtered t given ∙ ap filtered same ∙ sym answers in
    let short = lines_shorter pairs in
    let whole = ap length ((lines_exact file (lines file)).0 refl).together in
    let part = ap length ((lines_exact file' (lines file')).0 refl).together in
    let room_left : all_lengths s' ≤ room = subst (λ n. n ≤ room) (sym (filtered_lengths t) ∙ ap (λ x. length (all_kept x)) (ap filtered same ∙ sym answers) ∙ filtered_lengths s') fits in
    (list_given file' works room ps).1 (
      record { long_slices = judged.long_slices; fits = omega (arith, judged.fits) },
      (s', accepted, subst (λ x. Pairwise (Answers s') s'.asks x) (sym are) (filtered_answers s'), room_left),
    )
  where
    read_eq : {x y : State} → ◌≡◌ {A = Reading} (read x) (read y) → x ≡ y
    read_eq e = cc
