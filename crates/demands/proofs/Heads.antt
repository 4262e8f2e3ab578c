-- The head of a file: what each line does to it, and that nothing is hidden after it.
use Prim.Native.Nat.{ℕ, ◌+◌, ◌<◌}
use mathlib.Core.Path.{◌≡◌, refl, sym, ◌∙◌, ap}
use mathlib.Core.Logic.{◌⊎◌, inl, inr, ⊎_elim}
use mathlib.Core.Bool.{Bool, true, false, cond, not, ◌&&◌, ◌||◌, and-true, and-false}
use mathlib.Core.List.{List, [], ◌∷◌, ◌++◌, append-nil}
use lib.Dec.{T, T_not}
use lib.ListN.{length, get_or}
use Rattle.model.specs.Lists.{any, collect, fold_left, is_nil, last}
use Rattle.model.specs.Names.{Name}
use Rattle.model.specs.Lines.{Line, Field, fields}
use Rattle.model.specs.Terms.{add_term}
use Rattle.model.specs.Reading.{Head, Content, head, term, assume, fun, def, retain, root, most_groups, ok, Ask, State, read, in_head, in_asks, may_stand, with_query, head_asks, is_grouped, hidden_by, heads, nodes, summarize_decl, root_of, excluded, add_line, read_line, read_lines}
use Rattle.model.proofs.ListLaws.{T_and, T_false}
use Rattle.demands.specs.LineForm.{value}
use Rattle.demands.specs.Counts.{ask_words, grouped_words, also_words, hide_words, begins}
use Rattle.laws.proofs.ReadingLaws.{line_read, lines_read, none_read}
use Rattle.demands.proofs.LineFields.{place_by, HeadBy, one_ask, one_ask2, one_also, one_hide, no_head, line_fields, line_stands, line_number}

-- a list with something behind it, or at its end, is not empty
pub not_nil_append : {A : Type 0} (l m : List A) → T (not (is_nil l)) → T (not (is_nil (l ++ m)))
unfolding is_nil
not_nil_append [] m t = absurd t
not_nil_append (x ∷ l) m t = tt

pub append_not_nil : {A : Type 0} (l : List A) (x : A) → T (not (is_nil (l ++ (x ∷ []))))
unfolding is_nil
append_not_nil [] x = tt
append_not_nil (y ∷ l) x = tt

-- a state with terms, records or roots is behind the head
behind : (s : State) → T (not (is_nil s.terms)) ⊎ T (not (is_nil s.decls)) ⊎ T (not (is_nil s.roots)) → T (not (in_head s))
unfolding in_head
behind s h = go (is_nil s.terms) (is_nil s.decls) (is_nil s.roots) h
  where
    go : (t d r : Bool) → T (not t) ⊎ T (not d) ⊎ T (not r) → T (not (t && d && r))
    go true true true h = ⊎_elim (λ x. x) (⊎_elim (λ x. x) (λ x. x)) h
    go true true false h = tt
    go true false r h = tt
    go false d r h = tt

module _ (exclude : List Name) (n : ℕ) (s : State) where
  -- a line of the head leaves it as it is
  on_in_head : (h : Head) → in_head (add_line exclude n s (head h)) ≡ in_head s
  unfolding in_head add_line nodes fold_left summarize_decl root_of
  on_in_head h = rw (append-nil s.decls, append-nil s.roots)

  -- a line is one of the head, or ends it
  pub head_or_behind : (c : Content) → ((h : Head) × (c ≡ head h)) ⊎ ((heads c ≡ []) × T (not (in_head (add_line exclude n s c))))
  unfolding add_line heads nodes fold_left add_term summarize_decl root_of
  head_or_behind (head h) = inl (h, refl)
  head_or_behind (term node) = inr (refl, behind (add_line exclude n s (term node)) (inl (append_not_nil s.terms _)))
  head_or_behind (assume name flag group t) = inr (refl, behind (add_line exclude n s (assume name flag group t)) (inr (inl (append_not_nil s.decls _))))
  head_or_behind (fun name) = inr (refl, behind (add_line exclude n s (fun name)) (inr (inl (append_not_nil s.decls _))))
  head_or_behind (def name t) = inr (refl, behind (add_line exclude n s (def name t)) (inr (inl (append_not_nil s.decls _))))
  head_or_behind (retain names) = inr (refl, behind (add_line exclude n s (retain names)) (inr (inl (append_not_nil s.decls _))))
  head_or_behind (root q name t) = inr (refl, behind (add_line exclude n s (root q name t)) (inr (inr (append_not_nil s.roots _))))

-- whether a line is one of the head, by its word
is_head : {first second third : Field} {is_ask is_also grouped is_hide : Bool} {l : List Head} → HeadBy first second third is_ask is_also grouped is_hide l → (is_ask || is_hide) ≡ not (is_nil l)
unfolding is_nil
is_head (one_ask low few) = refl
is_head (one_ask2 low few all) = refl
is_head (one_also low) = refl
is_head one_hide = refl
is_head no_head = refl

-- after a line the head goes on exactly where it did before and the line is one of it
on_by_word : (exclude : List Name) (n : ℕ) (s : State) (c : Content) {is_ask is_also grouped is_hide : Bool} {first second third : Field} → HeadBy first second third is_ask is_also grouped is_hide (heads c)
    → in_head (add_line exclude n s c) ≡ (in_head s && (is_ask || is_hide))
unfolding heads is_nil
on_by_word exclude n s c h = go (head_or_behind exclude n s c) ∙ ap (in_head s &&◌) (sym (is_head h))
  where
    go : ((h : Head) × (c ≡ head h)) ⊎ ((heads c ≡ []) × T (not (in_head (add_line exclude n s c))))
        → in_head (add_line exclude n s c) ≡ (in_head s && not (is_nil (heads c)))
    go (inl (h, e)) = rw e (on_in_head exclude n s h ∙ sym (and-true (in_head s)))
    go (inr (e, out)) = T_false (in_head (add_line exclude n s c)) out ∙ sym (and-false (in_head s)) ∙ ap (λ (x : List Head). in_head s && not (is_nil x)) (sym e)

-- a line is an ask with groups, by its word
form_by : {first second third : Field} {is_ask is_also grouped is_hide : Bool} {l : List Head} → HeadBy first second third is_ask is_also grouped is_hide l
    → any is_grouped l ≡ grouped
unfolding any is_grouped
form_by (one_ask low few) = refl
form_by (one_ask2 low few all) = refl
form_by (one_also low) = refl
form_by one_hide = refl
form_by no_head = refl

-- a line that is read: the line of the head that it is, where it may stand, and what it leaves
pub record Headed (is_ask is_also grouped is_hide : Bool) (first second third : Field) (s s' : State) : Type 0 where
  pub line_heads : List Head
  pub headed : HeadBy first second third is_ask is_also grouped is_hide line_heads
  pub stands : T (may_stand s (place_by is_ask is_also grouped is_hide))
  pub in_number : T is_ask → length s.asks < 16
  pub asks : s'.asks ≡ s.asks ++ collect (head_asks s.asks) line_heads
  pub hides : s'.hidden ≡ s.hidden ++ collect hidden_by line_heads
  pub on : in_head s' ≡ (in_head s && (is_ask || is_hide))
  pub form : s'.grouped ≡ (s.grouped || grouped)

-- what a line that counts as an ask asks, by whether it is an also or an ask with groups, by the three fields after its kind and
-- by the ask before it
unfoldable pub ask_by : Bool → Bool → Ask → Field → Field → Field → Ask
ask_by true grouped before first second third =
    record { queries = value first ∷ before.queries; options = before.options; groups = before.groups }
ask_by false grouped before first second third =
    record { queries = value first ∷ []; options = value second; groups = cond grouped (value third) most_groups }

-- the last of a list that is not empty
pub last_some : {A : Type 0} (l : List A) → T (not (is_nil l)) → (x : A) × (last l ≡ x ∷ [])
unfolding is_nil last
last_some [] t = absurd t
last_some (x ∷ []) t = (x, refl)
last_some (x ∷ y ∷ l) t = last_some (y ∷ l) tt

-- a line asks so where it counts as an ask, and nothing else
pub asks_by : (asks : List Ask) (before : Ask) {first second third : Field} {b d g c : Bool} {l : List Head} → (T d → last asks ≡ before ∷ [])
    → HeadBy first second third b d g c l → collect (head_asks asks) l ≡ cond b (ask_by d g before first second third ∷ []) []
unfolding collect head_asks ask_by with_query
asks_by asks before of_last (one_ask low few) = refl
asks_by asks before of_last (one_ask2 low few all) = refl
asks_by asks before of_last (one_also low) = rw (of_last tt)
asks_by asks before of_last one_hide = refl
asks_by asks before of_last no_head = refl

-- where it does not count as one it asks nothing
pub none_by : (asks : List Ask) {first second third : Field} {b d g c : Bool} {l : List Head} → HeadBy first second third b d g c l → T (not b) → collect (head_asks asks) l ≡ []
unfolding collect head_asks
none_by asks (one_ask low few) t = absurd t
none_by asks (one_ask2 low few all) t = absurd t
none_by asks (one_also low) t = absurd t
none_by asks one_hide t = refl
none_by asks no_head t = refl

-- an also line stands behind an ask
pub also_behind : (s : State) {first second third : Field} {b d g c : Bool} {l : List Head} → HeadBy first second third b d g c l → T (may_stand s (place_by b d g c)) → T d → T (not (is_nil s.asks))
unfolding may_stand place_by
also_behind s (one_ask low few) t u = absurd u
also_behind s (one_ask2 low few all) t u = absurd u
also_behind s (one_also low) t u = ((T_and (in_asks s) (not (is_nil s.asks))).0 t).1
also_behind s one_hide t u = absurd u
also_behind s no_head t u = absurd u

-- a line asks one thing where it counts as an ask
pub asks_counted : (s : State) {first second third : Field} {b d g c : Bool} {l : List Head} → HeadBy first second third b d g c l → T (may_stand s (place_by b d g c))
    → length (collect (head_asks s.asks) l) ≡ cond b 1 0
unfolding collect head_asks may_stand place_by
asks_counted s (one_ask low few) t = refl
asks_counted s (one_ask2 low few all) t = refl
asks_counted s (one_also low) t = let (x, e) = last_some s.asks ((T_and (in_asks s) (not (is_nil s.asks))).0 t).1 in rw e
asks_counted s one_hide t = refl
asks_counted s no_head t = refl

-- any other asks nothing
pub asks_none : {b d g c : Bool} {first second third : Field} {s s' : State} → Headed b d g c first second third s s' → T (not b) → s'.asks ≡ s.asks
asks_none {s} h t = h.asks ∙ ap (s.asks ++◌) (none_by s.asks h.headed t) ∙ append-nil s.asks

module _ (exclude : List Name) where
  -- every line that is read is such a line
  pub headed_line : (n : ℕ) (s s' : State) (line : Line) → read_line exclude n s line ≡ ok s'
      → Headed (begins ask_words line) (begins also_words line) (begins grouped_words line) (begins hide_words line)
      (get_or (fields line.bytes) 1 []) (get_or (fields line.bytes) 2 []) (get_or (fields line.bytes) 3 []) s s'
  unfolding begins add_line
  headed_line n s s' line e =
      let l = line_read exclude n s line s' e in
      let by = (line_fields s (fields line.bytes) l.parsed).headed in
      record {
        line_heads = heads l.content;
        headed = by;
        stands = line_stands s (fields line.bytes) l.parsed;
        in_number = line_number s (fields line.bytes) l.parsed;
        asks = ap (λ (x : State). x.asks) l.after;
        hides = ap (λ (x : State). x.hidden) l.after;
        on = ap in_head l.after ∙ on_by_word exclude n s l.content by;
        form = ap (λ (x : State). x.grouped) l.after ∙ ap (s.grouped ||◌) (form_by by);
      }

  -- behind the head a line hides nothing
  hides_none : {b d g c : Bool} {first second third : Field} {s s' : State} → Headed b d g c first second third s s' → T (not (in_head s)) → s'.hidden ≡ s.hidden
  hides_none {b} {d} {g} {c} {first} {second} {third} {s} {s'} h out = h.hides ∙ go h.headed h.stands
    where
      go : {b d g c : Bool} {l : List Head} → HeadBy first second third b d g c l → T (may_stand s (place_by b d g c)) → s.hidden ++ collect hidden_by l ≡ s.hidden
      go (one_ask low few) t = unfold collect hidden_by in append-nil s.hidden
      go (one_ask2 low few all) t = unfold collect hidden_by in append-nil s.hidden
      go (one_also low) t = unfold collect hidden_by in append-nil s.hidden
      go one_hide t = absurd (T_not (in_head s) out ((T_and (in_head s) (not (is_nil s.asks))).0 (unfold may_stand place_by in t)).0)
      go no_head t = unfold collect in append-nil s.hidden

  -- nor do all lines there
  hidden_stays : (ls : List Line) (n : ℕ) (s t : State) → read_lines exclude n s ls ≡ read t → T (not (in_head s)) → s.hidden ≡ t.hidden
  hidden_stays [] n s t e out = ap (λ (x : State). x.hidden) (none_read exclude n s t e)
  hidden_stays (line ∷ ls) n s t e out =
      let (u, r, others) = lines_read exclude n s line ls t e in
      let h = headed_line n s u line r in
      let later : T (not (in_head u)) = rw (h.on, T_false (in_head s) out) tt in
      sym (hides_none h out) ∙ hidden_stays ls (n + 1) u t others later

  -- what is excluded at a line behind the head is excluded at the end of the file
  pub excluded_to_the_end : (line : Line) (ls : List Line) (n : ℕ) (s t : State) (e : read_lines exclude n s (line ∷ ls) ≡ read t)
      → let c = (line_read exclude n s line (lines_read exclude n s line ls t e).0 (lines_read exclude n s line ls t e).1).content in
      ((h : Head) × (c ≡ head h)) ⊎ (excluded exclude s ≡ excluded exclude t)
  unfolding excluded add_line collect
  excluded_to_the_end line ls n s t e =
      let (u, r, others) = lines_read exclude n s line ls t e in
      let l = line_read exclude n s line u r in
      ⊎_elim inl
      (λ p. let same_hidden : s.hidden ≡ u.hidden = rw (l.after, p.0, append-nil) in
      let later : T (not (in_head u)) = rw l.after p.1 in
      inr (ap (exclude ++◌) (same_hidden ∙ hidden_stays ls (n + 1) u t others later)))
      (head_or_behind exclude n s l.content)
