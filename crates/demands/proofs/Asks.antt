-- The asks of an accepted file stand on its first lines, 1 to 16 of them, hide lines directly after them; a file asks what its
-- ask lines say, their numbers in their ranges.
use Prim.Native.Nat.{ℕ, suc, ◌+◌, ◌≤◌, ◌<◌}
use Prim.Native.String.{String}
use native.Mathlib.Nat.{add-zero}
use native.Mathlib.Omega.{arith}
use mathlib.Core.Path.{◌≡◌, refl, sym, ◌∙◌, ap, ap₂, subst}
use mathlib.Core.Logic.{◌↔◌, ◌⊎◌, inl, inr, ⊎_elim}
use mathlib.Core.Bool.{Bool, true, false, cond, not, ◌&&◌, ◌||◌, beq, true≢false, and-true, and-false, and_assoc, or-false, or-true, or_assoc}
use mathlib.Core.List.Memᴰ
use mathlib.Core.List.{List, [], ◌∷◌, ◌++◌, append-nil, cons-ne-nil, append_assoc, Memᴰ}
use lib.Dec.{T, T_not, not_T, eqb}
use lib.ListN.{length, get_or, length-append}
use Rattle.model.specs.Lists.{any, all, keep, is_nil, last, collect}
use Rattle.model.specs.Names.{Name, bytes, by_byte, order, is_same, same}
use Rattle.model.specs.Lines.{Line, line_cons, lines, Field, fields}
use Rattle.model.specs.Summaries.{exclude_names}
use Rattle.model.specs.Reading.{Head, ok, Ask, State, start, read, in_head, in_asks, of_form, may_stand, with_query, head_asks, hidden_by, read_line, read_lines, read_file}
use Rattle.model.proofs.ListLaws.{any_intro, any_elim, all_intro, all_elim, keep_all, keep_none, keep_append, T_and, T_or, T_false}
use Rattle.model.proofs.SetLaws.{same_eq, eq_same}
use Rattle.demands.specs.LinesRead.{LinesRead, At}
use Rattle.demands.specs.LineForm.{value}
use Rattle.demands.specs.Counts.{ask_words, form_words, grouped_words, also_words, hide_words, is_word, begins}
use Rattle.demands.specs.Asks.{head_words, PlacedKind, StandsExact, AcceptedHeadFirst, ask_on, ask_more, ask_after, asks_from, asks_on, FormExact, AsksExact, AsksChained, AcceptedAsks}
use Rattle.demands.specs.Demand1.{ask_word}
use Rattle.model.specs.Also.{with_queries}
use Rattle.laws.proofs.ReadingLaws.{not_read, lines_read, none_read, file_read, kept_by_lines, kept_by_file}
use Rattle.demands.proofs.Refusals.{lines_on}
use Rattle.demands.proofs.LineFields.{place_by, known_place, HeadBy, one_ask, one_ask2, one_also, one_hide, no_head}
use Rattle.demands.proofs.Heads.{not_nil_append, append_not_nil, Headed, ask_by, last_some, asks_by, also_behind, asks_none, headed_line}

-- ---- what one line does

-- after a line that is read something is asked
pub asked_now : {b d g c : Bool} {first second third : Field} {s s' : State} → Headed b d g c first second third s s' → T (not (is_nil s'.asks))
asked_now {first} {second} {third} {s} {s'} h = go h.headed h.stands h.asks
  where
    go : {b d g c : Bool} {l : List Head} → HeadBy first second third b d g c l → T (may_stand s (place_by b d g c)) → s'.asks ≡ s.asks ++ collect (head_asks s.asks) l
        → T (not (is_nil s'.asks))
    go (one_ask low few) t e = rw e (unfold collect head_asks in (append_not_nil s.asks _))
    go (one_ask2 low few all) t e = rw e (unfold collect head_asks in (append_not_nil s.asks _))
    go (one_also low) t e = rw e (not_nil_append s.asks _ ((T_and (in_asks s) (not (is_nil s.asks))).0 (unfold may_stand place_by in t)).1)
    go one_hide t e = rw e (not_nil_append s.asks _ ((T_and (in_head s) (not (is_nil s.asks))).0 (unfold may_stand place_by in t)).1)
    go no_head t e = rw e (not_nil_append s.asks _ (unfold may_stand place_by in t))

-- where nothing was asked it is no also
no_also_now : {b d g c : Bool} {first second third : Field} {s s' : State} → Headed b d g c first second third s s' → s.asks ≡ [] → T (not d)
unfolding is_nil
no_also_now {d} {s} h none = not_T d (λ u. absurd (rw none at (also_behind s h.headed h.stands u)))

-- after it nothing but asks was read exactly where it was so before and it counts as an ask
in_asks_now : {b d g c : Bool} {first second third : Field} {s s' : State} → Headed b d g c first second third s s' → in_asks s' ≡ (in_asks s && b)
unfolding in_asks collect hidden_by
in_asks_now {first} {second} {third} {s} {s'} h = go h.headed h.hides h.on
  where
    goes_on : s'.hidden ≡ s.hidden ++ [] → in_head s' ≡ (in_head s && true) → (in_head s' && is_nil s'.hidden) ≡ ((in_head s && is_nil s.hidden) && true)
    goes_on e on = ap₂ ◌&&◌ (on ∙ and-true (in_head s)) (ap is_nil (e ∙ append-nil s.hidden)) ∙ sym (and-true (in_head s && is_nil s.hidden))

    go : {b d g c : Bool} {l : List Head} → HeadBy first second third b d g c l → s'.hidden ≡ s.hidden ++ collect hidden_by l → in_head s' ≡ (in_head s && (b || c))
        → (in_head s' && is_nil s'.hidden) ≡ ((in_head s && is_nil s.hidden) && b)
    go (one_ask low few) e on = goes_on e on
    go (one_ask2 low few all) e on = goes_on e on
    go (one_also low) e on = goes_on e on
    go one_hide e on =
        ap (in_head s' &&◌) (ap is_nil e ∙ T_false (is_nil (s.hidden ++ (first ∷ []))) (append_not_nil s.hidden first))
        ∙ and-false (in_head s') ∙ sym (and-false (in_head s && is_nil s.hidden))
    go no_head e on = ap (◌&& is_nil s'.hidden) (on ∙ and-false (in_head s)) ∙ sym (and-false (in_head s && is_nil s.hidden))

-- the last of a list that ends so
pub last_end : {A : Type 0} (l : List A) (x : A) → last (l ++ (x ∷ [])) ≡ x ∷ []
unfolding last
last_end [] x = refl
last_end (y ∷ []) x = refl
last_end (y ∷ z ∷ l) x = last_end (z ∷ l) x

-- it is one of the list
last_member : {A : Type 0} (l : List A) {x : A} → last l ≡ x ∷ [] → Memᴰ x l
unfolding last
last_member [] {x} e = absurd (cons-ne-nil x [] (sym e))
last_member (y ∷ []) {x} e = let same : y ≡ x = cc in rw same (Memᴰ.head refl)
last_member (y ∷ z ∷ l) e = Memᴰ.tail (last_member (z ∷ l) e)

-- a line that counts as an ask asks what its fields say, after the ask before it; any other nothing
asks_now : (n : ℕ) (s s' : State) (line : Line) (before : Ask) → read_line exclude_names n s line ≡ ok s' → (T (not (is_nil s.asks)) → last s.asks ≡ before ∷ [])
    → s'.asks ≡ s.asks ++ cond (begins ask_words line) (ask_after before line ∷ []) []
unfolding ask_by ask_on ask_more ask_after
asks_now n s s' line before e of_last =
    let h = headed_line exclude_names n s s' line e in
    h.asks ∙ ap (s.asks ++◌) (asks_by s.asks before (λ u. of_last (also_behind s h.headed h.stands u)) h.headed ∙ ap (λ x. cond (begins ask_words line) (x ∷ []) []) (go (begins also_words line)))
  where
    go : (d : Bool) → ask_by d (begins grouped_words line) before (get_or (fields line.bytes) 1 []) (get_or (fields line.bytes) 2 []) (get_or (fields line.bytes) 3 [])
        ≡ cond d (ask_more before line) (ask_on line)
    go true = refl
    go false = refl

-- ---- what lines do

-- lines that are read are so in two parts
pub lines_split : (ls ms : List Line) (n : ℕ) (s t : State) → read_lines exclude_names n s (ls ++ ms) ≡ read t
    → (u : State) × (read_lines exclude_names n s ls ≡ read u) × (read_lines exclude_names (n + length ls) u ms ≡ read t)
lines_split [] ms n s t e = (s, unfold read_lines in refl, rw add-zero e)
lines_split (line ∷ ls) ms n s t e =
    let (v, r, others) = lines_read exclude_names n s line (ls ++ ms) t e in
    let (u, here, later) = lines_split ls ms (n + 1) v t others in
    let count : n + length (line ∷ ls) ≡ n + 1 + length ls = omega arith in
    (u, lines_on exclude_names n s v line ls r ∙ here, rw count later)

-- a line is one of the head exactly where it counts as an ask or is a hide
head_word : (f : Field) → is_word head_words f ≡ (is_word ask_words f || is_word hide_words f)
unfolding is_word head_words ask_words hide_words any
head_word f = go (same f (bytes "ask")) (same f (bytes "ask2")) (same f (bytes "also")) (same f (bytes "hide"))
  where
    go : (a y x b : Bool) → (a || (y || (x || (b || false)))) ≡ ((a || (y || (x || false))) || (b || false))
    go true y x b = refl
    go false true x b = refl
    go false false true b = refl
    go false false false b = refl

-- general law
or_not : (a b : Bool) → T (not a) → T (not b) → T (not (a || b))
or_not true b t u = absurd t
or_not false b t u = u

-- the head goes on as long as the lines are of it
pub on_lines : (ls : List Line) (n : ℕ) (s t : State) → read_lines exclude_names n s ls ≡ read t → in_head t ≡ (in_head s && all (begins head_words) ls)
unfolding all begins
on_lines [] n s t e = ap in_head (sym (none_read exclude_names n s t e)) ∙ sym (and-true (in_head s))
on_lines (line ∷ ls) n s t e =
    let (u, r, others) = lines_read exclude_names n s line ls t e in
    on_lines ls (n + 1) u t others ∙ ap (◌&& all (begins head_words) ls) ((headed_line exclude_names n s u line r).on ∙ ap (in_head s &&◌) (sym (head_word _)))
    ∙ and_assoc (in_head s) (begins head_words line) (all (begins head_words) ls)

-- and nothing but asks was read as long as they are asks
pub asks_on_lines : (ls : List Line) (n : ℕ) (s t : State) → read_lines exclude_names n s ls ≡ read t → in_asks t ≡ (in_asks s && all (begins ask_words) ls)
unfolding all
asks_on_lines [] n s t e = ap in_asks (sym (none_read exclude_names n s t e)) ∙ sym (and-true (in_asks s))
asks_on_lines (line ∷ ls) n s t e =
    let (u, r, others) = lines_read exclude_names n s line ls t e in
    asks_on_lines ls (n + 1) u t others ∙ ap (◌&& all (begins ask_words) ls) (in_asks_now (headed_line exclude_names n s u line r))
    ∙ and_assoc (in_asks s) (begins ask_words line) (all (begins ask_words) ls)

-- lines ask what their ask and also lines say
asks_of_lines : (ls : List Line) (n : ℕ) (s t : State) (before : Ask) → read_lines exclude_names n s ls ≡ read t
    → (T (not (is_nil s.asks)) → last s.asks ≡ before ∷ []) → t.asks ≡ s.asks ++ asks_from before ls
unfolding asks_from
asks_of_lines [] n s t before e of_last = ap (λ (x : State). x.asks) (sym (none_read exclude_names n s t e)) ∙ sym (append-nil s.asks)
asks_of_lines (line ∷ ls) n s t before e of_last =
    let (u, r, others) = lines_read exclude_names n s line ls t e in
    go u (begins ask_words line) (asks_now n s u line before r of_last) (λ x. asks_of_lines ls (n + 1) u t x others)
  where
    go : (u : State) (b : Bool) → u.asks ≡ s.asks ++ cond b (ask_after before line ∷ []) []
        → ((x : Ask) → (T (not (is_nil u.asks)) → last u.asks ≡ x ∷ []) → t.asks ≡ u.asks ++ asks_from x ls)
        → t.asks ≡ s.asks ++ cond b (ask_after before line ∷ asks_from (ask_after before line) ls) (asks_from before ls)
    go u true e below =
        let here = ask_after before line in
        below here (λ v. ap last e ∙ last_end s.asks here) ∙ ap (◌++ asks_from here ls) e ∙ append_assoc s.asks (here ∷ []) (asks_from here ls)
    go u false e below =
        let same = e ∙ append-nil s.asks in
        below before (λ v. ap last same ∙ of_last (subst (λ l. T (not (is_nil l))) same v)) ∙ ap (◌++ asks_from before ls) same

pub asks_exact : AsksExact
unfolding start is_nil asks_on
asks_exact ls s e = asks_of_lines ls 1 start s (record { queries = []; options = 0; groups = 0 }) e (λ v. absurd v)

-- as many as there are such lines
pub asks_length : (before : Ask) (ls : List Line) → length (asks_from before ls) ≡ length (keep (begins ask_words) ls)
unfolding asks_from keep
asks_length before [] = refl
asks_length before (line ∷ ls) = go (begins ask_words line) (asks_length (ask_after before line) ls) (asks_length before ls)
  where
    go : (b : Bool) → length (asks_from (ask_after before line) ls) ≡ length (keep (begins ask_words) ls) → length (asks_from before ls) ≡ length (keep (begins ask_words) ls)
        → length (cond b (ask_after before line ∷ asks_from (ask_after before line) ls) (asks_from before ls)) ≡ length (cond b (line ∷ keep (begins ask_words) ls) (keep (begins ask_words) ls))
    go true e d = ap suc e
    go false e d = d

-- what is asked stays asked
pub asked_later : (ls : List Line) (n : ℕ) (s t : State) → read_lines exclude_names n s ls ≡ read t → T (not (is_nil s.asks)) → T (not (is_nil t.asks))
asked_later [] n s t e some = rw (← (none_read exclude_names n s t e)) some
asked_later (line ∷ ls) n s t e some =
    let (u, r, others) = lines_read exclude_names n s line ls t e in
    asked_later ls (n + 1) u t others (asked_now (headed_line exclude_names n s u line r))

-- after a line something is asked
pub asked_lines : (line : Line) (ls : List Line) (n : ℕ) (s t : State) → read_lines exclude_names n s (line ∷ ls) ≡ read t → T (not (is_nil t.asks))
asked_lines line ls n s t e =
    let (u, r, others) = lines_read exclude_names n s line ls t e in
    asked_later ls (n + 1) u t others (asked_now (headed_line exclude_names n s u line r))

-- lines that are no asks ask nothing
pub asks_stay : (exclude : List Name) (ls : List Line) (n : ℕ) (s t : State) → read_lines exclude n s ls ≡ read t → ((l : Line) → Memᴰ l ls → T (not (begins ask_words l)))
    → t.asks ≡ s.asks
asks_stay exclude [] n s t e no_asks = ap (λ (x : State). x.asks) (sym (none_read exclude n s t e))
asks_stay exclude (line ∷ ls) n s t e no_asks =
    let (u, r, others) = lines_read exclude n s line ls t e in
    asks_stay exclude ls (n + 1) u t others (λ l i. no_asks l (Memᴰ.tail i)) ∙ asks_none (headed_line exclude n s u line r) (no_asks line (Memᴰ.head refl))

-- ---- where lines stand

module _ (n : ℕ) (before : List Line) (s : State) (reading : read_lines exclude_names 1 start before ≡ read s) (place : n ≡ length before + 1) where
  -- nothing was asked exactly where the next line is line 1
  nothing_asked : T (is_nil s.asks) ↔ (n ≡ 1)
  unfolding start is_nil
  nothing_asked = go before reading place
    where
      go : (ls : List Line) → read_lines exclude_names 1 start ls ≡ read s → n ≡ length ls + 1 → T (is_nil s.asks) ↔ (n ≡ 1)
      go [] e p = (λ t. p, λ q. rw (← (none_read exclude_names 1 start s e)) tt)
      go (line ∷ ls) e p = (λ t. absurd (T_not (is_nil s.asks) (asked_lines line ls 1 start s e) t), λ q. absurd (omega arith))

-- a field is one word, or one of two, exactly where it is so
pub one_word : (w : String) (f : Field) → T (is_word (w ∷ []) f) ↔ (f ≡ bytes w)
unfolding is_word
one_word w f = (
  λ t. let (v, i, u) = any_elim (λ v. same f (bytes v)) (w ∷ []) t in same_eq u ∙ ap bytes (Memᴰ.eq_of_singleton i),
  λ e. any_intro (λ v. same f (bytes v)) (Memᴰ.head refl) (eq_same e),
)

pub more_words : (w : String) (ws : List String) (f : Field) → T (is_word (w ∷ ws) f) ↔ ((f ≡ bytes w) ⊎ T (is_word ws f))
unfolding is_word any
more_words w ws f =
    let (to, back) = T_or (same f (bytes w)) (any (λ v. same f (bytes v)) ws) in
    (λ t. ⊎_elim (λ u. inl (same_eq u)) inr (to t), λ s. back (⊎_elim (λ e. inl (eq_same e)) inr s))

-- a field is the word of an ask exactly where it is `ask`, `ask2` or `also`, that of an also where it is `also`, that of an ask
-- with groups where it is `ask2`, that of a hide where it is `hide`, that of the asks of a form where it is the form's or `also`
pub asks_word : (f : Field) → T (is_word ask_words f) ↔ (((grouped : Bool) × (f ≡ bytes (ask_word grouped))) ⊎ (f ≡ bytes "also"))
unfolding ask_words ask_word
asks_word f = (
  λ t. ⊎_elim (λ e. inl (false, e)) (λ u. ⊎_elim (λ e. inl (true, e)) (λ v. inr ((one_word "also" f).0 v)) ((more_words "ask2" ("also" ∷ []) f).0 u))
      ((more_words "ask" ("ask2" ∷ "also" ∷ []) f).0 t),
  ⊎_elim by_form (λ e. (more_words "ask" ("ask2" ∷ "also" ∷ []) f).1 (inr ((more_words "ask2" ("also" ∷ []) f).1 (inr ((one_word "also" f).1 e))))),
)
  where
    by_form : (grouped : Bool) × (f ≡ bytes (ask_word grouped)) → T (is_word ask_words f)
    by_form (false, e) = (more_words "ask" ("ask2" ∷ "also" ∷ []) f).1 (inl e)
    by_form (true, e) = (more_words "ask" ("ask2" ∷ "also" ∷ []) f).1 (inr ((more_words "ask2" ("also" ∷ []) f).1 (inl e)))

pub also_word : (f : Field) → T (is_word also_words f) ↔ (f ≡ bytes "also")
unfolding also_words
also_word f = one_word "also" f

grouped_word : (f : Field) → T (is_word grouped_words f) ↔ (f ≡ bytes "ask2")
unfolding grouped_words
grouped_word f = one_word "ask2" f

hide_word : (f : Field) → T (is_word hide_words f) ↔ (f ≡ bytes "hide")
unfolding hide_words
hide_word f = one_word "hide" f

pub form_word : (grouped : Bool) (f : Field) → T (is_word (form_words grouped) f) ↔ ((f ≡ bytes (ask_word grouped)) ⊎ (f ≡ bytes "also"))
unfolding form_words
form_word grouped f =
    let (to, back) = more_words (ask_word grouped) ("also" ∷ []) f in
    (λ t. ⊎_elim inl (λ u. inr ((one_word "also" f).0 u)) (to t), λ s. back (⊎_elim inl (λ e. inr ((one_word "also" f).1 e)) s))

-- an ask of a form, or an also, counts as an ask
pub form_ask : (grouped : Bool) (f : Field) → T (is_word (form_words grouped) f) → T (is_word ask_words f)
form_ask grouped f t = (asks_word f).1 (⊎_elim (λ e. inl (grouped, e)) inr ((form_word grouped f).0 t))

pub begins_form : (grouped : Bool) (l : Line) → T (begins (form_words grouped) l) → T (begins ask_words l)
unfolding begins
begins_form grouped l t = form_ask grouped (get_or (fields l.bytes) 0 []) t

-- the words are apart
words_apart : (is_word ask_words (bytes "hide") ≡ false) × (is_word also_words (bytes "ask") ≡ false) × (is_word also_words (bytes "ask2") ≡ false)
    × (is_word grouped_words (bytes "ask") ≡ false)
unfolding is_word ask_words also_words grouped_words any same order by_byte is_same bytes
words_apart = (refl, refl, refl, refl)

pub ask_or_hide : (f : Field) → T (is_word ask_words f) → f ≡ bytes "hide" → ⊥
ask_or_hide f t e = absurd (rw (e, words_apart.0) at t)

pub ask_or_also : (grouped : Bool) (f : Field) → f ≡ bytes (ask_word grouped) → f ≡ bytes "also" → ⊥
unfolding ask_word
ask_or_also false f e d = absurd (rw (e, words_apart.1) at ((also_word f).1 d))
ask_or_also true f e d = absurd (rw (e, words_apart.2) at ((also_word f).1 d))

-- an ask is of one form
pub one_form : (g h : Bool) (f : Field) → f ≡ bytes (ask_word g) → f ≡ bytes (ask_word h) → g ≡ h
unfolding ask_word
one_form false false f e d = refl
one_form false true f e d = absurd (rw (e, words_apart.3) at ((grouped_word f).1 d))
one_form true false f e d = absurd (rw (d, words_apart.3) at ((grouped_word f).1 e))
one_form true true f e d = refl

-- ---- the form of a file

-- a field is a word of the asks of a form exactly where it counts as an ask and is an also or of that form
pub form_by_words : (g : Bool) (f : Field) → is_word (form_words g) f ≡ (is_word ask_words f && (is_word also_words f || beq g (is_word grouped_words f)))
unfolding is_word form_words ask_words also_words grouped_words ask_word any
form_by_words g f = by g (λ t u. absurd (apart (same_eq t) (same_eq u)))
  where
    apart : f ≡ bytes "ask" → f ≡ bytes "ask2" → ⊥
    apart e d = absurd (rw (e, words_apart.3) at ((grouped_word f).1 d))

    older : (a y x : Bool) → (T a → T y → ⊥) → (a || (x || false)) ≡ ((a || (y || (x || false))) && ((x || false) || beq false (y || false)))
    older true true x h = absurd (h tt tt)
    older true false true h = refl
    older true false false h = refl
    older false true true h = refl
    older false true false h = refl
    older false false true h = refl
    older false false false h = refl

    newer : (a y x : Bool) → (y || (x || false)) ≡ ((a || (y || (x || false))) && ((x || false) || beq true (y || false)))
    newer true true true = refl
    newer true true false = refl
    newer true false true = refl
    newer true false false = refl
    newer false true true = refl
    newer false true false = refl
    newer false false true = refl
    newer false false false = refl

    by : (g : Bool) → (T (same f (bytes "ask")) → T (same f (bytes "ask2")) → ⊥)
        → (same f (bytes (ask_word g)) || (same f (bytes "also") || false))
        ≡ ((same f (bytes "ask") || (same f (bytes "ask2") || (same f (bytes "also") || false)))
        && ((same f (bytes "also") || false) || beq g (same f (bytes "ask2") || false)))
    by false h = older (same f (bytes "ask")) (same f (bytes "ask2")) (same f (bytes "also")) h
    by true h = newer (same f (bytes "ask")) (same f (bytes "ask2")) (same f (bytes "also"))

form_begins : (g : Bool) (line : Line) → begins (form_words g) line ≡ (begins ask_words line && (begins also_words line || beq g (begins grouped_words line)))
unfolding begins
form_begins g line = form_by_words g (get_or (fields line.bytes) 0 [])

-- where nothing was asked the form is the older
abbrev Fresh : State → Type 0
Fresh s = T (is_nil s.asks) → s.grouped ≡ false

-- the test of a form after an ask of the older form, of the form with groups, and after an also
ask_form : (i none form g : Bool) → T (i && (none || beq false form)) → (T none → form ≡ false)
    → ((i && true) && beq g (form || false)) ≡ ((i && (none || beq g form)) && (true && (false || beq g false)))
ask_form false none form g t h = absurd t
ask_form true none true g t h = let same : none ≡ true = only none t in absurd (true≢false (h (rw same tt)))
  where
    only : (none : Bool) → T (none || false) → none ≡ true
    only true t = refl
    only false t = absurd t
ask_form true true false true t h = refl
ask_form true true false false t h = refl
ask_form true false false true t h = refl
ask_form true false false false t h = refl

ask2_form : (i none form g : Bool) → T (i && (none || beq true form))
    → ((i && true) && beq g (form || true)) ≡ ((i && (none || beq g form)) && (true && (false || beq g true)))
ask2_form false none form g t = absurd t
ask2_form true true true true t = refl
ask2_form true true true false t = refl
ask2_form true true false true t = refl
ask2_form true true false false t = refl
ask2_form true false true true t = refl
ask2_form true false true false t = refl
ask2_form true false false g t = absurd t

also_form : (i none form g : Bool) → T (i && not none)
    → ((i && true) && beq g (form || false)) ≡ ((i && (none || beq g form)) && (true && (true || beq g false)))
also_form false none form g t = absurd t
also_form true true form g t = absurd t
also_form true false true true t = refl
also_form true false true false t = refl
also_form true false false true t = refl
also_form true false false false t = refl

other_form : (i x y z : Bool) → ((i && false) && x) ≡ (y && (false && z))
other_form true x y z = sym (and-false y)
other_form false x y z = sym (and-false y)

-- after a line nothing but asks of this form was read exactly where it was so before and the line is one
form_now : {b d h c : Bool} {first second third : Field} {s s' : State} (w : Headed b d h c first second third s s') → Fresh s → (g : Bool)
    → (in_asks s' && of_form s' g) ≡ ((in_asks s && of_form s g) && (b && (d || beq g h)))
form_now {first = first} {second} {third} {s} {s'} w fresh g = now _ _ (in_asks_now w) w.form ∙ go w.headed w.stands
  where
    now : (b h : Bool) → in_asks s' ≡ (in_asks s && b) → s'.grouped ≡ (s.grouped || h) → (in_asks s' && of_form s' g) ≡ ((in_asks s && b) && beq g (s.grouped || h))
    now b h e form = ap₂ (λ x y. x && y) e (unfold of_form in (ap (◌|| beq g s'.grouped) (T_false (is_nil s'.asks) (asked_now w)) ∙ ap (beq g) form))

    go : {b d h c : Bool} {l : List Head} → HeadBy first second third b d h c l → T (may_stand s (place_by b d h c))
        → ((in_asks s && b) && beq g (s.grouped || h)) ≡ ((in_asks s && of_form s g) && (b && (d || beq g h)))
    go (one_ask low few) t = unfold of_form in ask_form (in_asks s) (is_nil s.asks) s.grouped g (unfold may_stand place_by of_form in t) fresh
    go (one_ask2 low few all) t = unfold of_form in ask2_form (in_asks s) (is_nil s.asks) s.grouped g (unfold may_stand place_by of_form in t)
    go (one_also low) t = unfold of_form in also_form (in_asks s) (is_nil s.asks) s.grouped g (unfold may_stand place_by in t)
    go one_hide t = other_form (in_asks s) (beq g (s.grouped || false)) (in_asks s && of_form s g) (false || beq g false)
    go no_head t = other_form (in_asks s) (beq g (s.grouped || false)) (in_asks s && of_form s g) (false || beq g false)

-- so after lines
form_lines : (g : Bool) (ls : List Line) (n : ℕ) (s t : State) → read_lines exclude_names n s ls ≡ read t → Fresh s
    → (in_asks t && of_form t g) ≡ ((in_asks s && of_form s g) && all (begins (form_words g)) ls)
unfolding all
form_lines g [] n s t e fresh = ap (λ (x : State). in_asks x && of_form x g) (sym (none_read exclude_names n s t e)) ∙ sym (and-true (in_asks s && of_form s g))
form_lines g (line ∷ ls) n s t e fresh =
    let (u, r, others) = lines_read exclude_names n s line ls t e in
    let w = headed_line exclude_names n s u line r in
    form_lines g ls (n + 1) u t others (λ none. absurd (T_not (is_nil u.asks) (asked_now w) none))
    ∙ ap (◌&& all (begins (form_words g)) ls) (form_now w fresh g ∙ ap ((in_asks s && of_form s g) &&◌) (sym (form_begins g line)))
    ∙ and_assoc (in_asks s && of_form s g) (begins (form_words g) line) (all (begins (form_words g)) ls)

-- an ask of this form may stand exactly after asks of it and alsos alone
pub form_stands : (g : Bool) (ls : List Line) (t : State) → read_lines exclude_names 1 start ls ≡ read t → (in_asks t && of_form t g) ≡ all (begins (form_words g)) ls
form_stands g ls t e = form_lines g ls 1 start t e (λ none. unfold start in refl) ∙ unfold start in_asks in_head of_form is_nil in refl

-- lines that count as asks are all of the form of the file
pub asks_of_form : (ls : List Line) (t : State) → read_lines exclude_names 1 start ls ≡ read t → ((l : Line) → Memᴰ l ls → T (begins ask_words l))
    → (l : Line) → Memᴰ l ls → T (begins (form_words t.grouped) l)
asks_of_form ls t e are l i =
    all_elim (begins (form_words t.grouped)) (subst T (form_stands t.grouped ls t e) ((T_and (in_asks t) (of_form t t.grouped)).1 (asking, own))) i
  where
    from_start : in_asks start ≡ true
    from_start = unfold start in_asks in_head is_nil in refl

    asking : T (in_asks t)
    asking = subst T (sym (asks_on_lines ls 1 start t e ∙ ap (◌&& all (begins ask_words) ls) from_start)) (all_intro (begins ask_words) ls are)

    own : T (of_form t t.grouped)
    own = unfold of_form in ((T_or (is_nil t.asks) (beq t.grouped t.grouped)).1 (inr (same_form t.grouped)))
      where
        same_form : (b : Bool) → T (beq b b)
        same_form true = tt
        same_form false = tt

-- the form of lines that are read
form_after : (ls : List Line) (n : ℕ) (s t : State) → read_lines exclude_names n s ls ≡ read t → t.grouped ≡ (s.grouped || any (begins grouped_words) ls)
unfolding any
form_after [] n s t e = ap (λ (x : State). x.grouped) (sym (none_read exclude_names n s t e)) ∙ sym (or-false s.grouped)
form_after (line ∷ ls) n s t e =
    let (u, r, others) = lines_read exclude_names n s line ls t e in
    form_after ls (n + 1) u t others ∙ ap (◌|| any (begins grouped_words) ls) (headed_line exclude_names n s u line r).form
    ∙ or_assoc s.grouped (begins grouped_words line) (any (begins grouped_words) ls)

pub form_exact : FormExact
form_exact ls s e = form_after ls 1 start s e ∙ unfold start in refl

-- ---- where a kind may stand

-- a kind that may stand here is an ask on line 1, an ask of the first one's form or an also after asks, a hide in the head, or
-- another later
pub stands_exact : StandsExact
stands_exact ls n l f k known =
    rw (known_place f known) (go (is_word ask_words f) (is_word also_words f) (is_word grouped_words f) (is_word hide_words f)
    (asks_word f) (also_word f) (grouped_word f) (hide_word f) (ask_or_hide f))
  where
    none : T (is_nil l.state.asks) ↔ (n ≡ 1)
    none = nothing_asked n l.before l.state l.reading l.place

    on : in_head l.state ≡ all (begins head_words) l.before
    on = on_lines l.before 1 start l.state l.reading ∙ unfold start in_head is_nil in refl

    asks_on_here : in_asks l.state ≡ all (begins ask_words) l.before
    asks_on_here = asks_on_lines l.before 1 start l.state l.reading ∙ unfold start in_asks in_head is_nil in refl

    asked : T (not (is_nil l.state.asks)) → n ≡ 1 → ⊥
    asked a e = T_not (is_nil l.state.asks) a (none.1 e)

    go : (b d h c : Bool) → T b ↔ (((grouped : Bool) × (f ≡ bytes (ask_word grouped))) ⊎ (f ≡ bytes "also")) → T d ↔ (f ≡ bytes "also")
        → T h ↔ (f ≡ bytes "ask2") → T c ↔ (f ≡ bytes "hide") → (T b → f ≡ bytes "hide" → ⊥)
        → T (may_stand l.state (place_by b d h c)) ↔ PlacedKind n l.before f
    go true true h c is alsos twos hides apart = (
      λ t. let (here, a) = (T_and (in_asks l.state) (not (is_nil l.state.asks))).0 (unfold may_stand place_by in t) in
          record {
            ask_in_asks = λ g e. absurd (ask_or_also g f e (alsos.0 tt));
            also_in_asks = λ e line m. all_elim (begins ask_words) (rw asks_on_here at here) m;
            first_ask = λ e. absurd (asked a e);
            hide_in_head = λ e. absurd (apart tt e);
          },
      λ p. unfold may_stand place_by in ((T_and (in_asks l.state) (not (is_nil l.state.asks))).1 (
        rw asks_on_here (all_intro (begins ask_words) l.before (p.also_in_asks (alsos.0 tt))),
        not_T (is_nil l.state.asks) (λ t. let (g, e) = p.first_ask (none.0 t) in ask_or_also g f e (alsos.0 tt)),
      )),
    )
    go true false h c is alsos twos hides apart = (
      λ t. let here : T (all (begins (form_words h)) l.before) = subst T (form_stands h l.before l.state l.reading) (unfold may_stand place_by in t) in
          record {
            ask_in_asks = λ g e line m. subst (λ x. T (begins (form_words x) line)) (one_form h g f an_ask e) (all_elim (begins (form_words h)) here m);
            also_in_asks = λ e. absurd (alsos.1 e);
            first_ask = λ e. (h, an_ask);
            hide_in_head = λ e. absurd (apart tt e);
          },
      λ p. unfold may_stand place_by in (subst T (sym (form_stands h l.before l.state l.reading)) (all_intro (begins (form_words h)) l.before (p.ask_in_asks h an_ask))),
    )
      where
        an_ask : f ≡ bytes (ask_word h)
        an_ask = ⊎_elim (λ (g, e). of_word g h e twos) (λ e. absurd (alsos.1 e)) (is.0 tt)
          where
            of_word : (g h : Bool) → f ≡ bytes (ask_word g) → T h ↔ (f ≡ bytes "ask2") → f ≡ bytes (ask_word h)
            of_word false false e w = e
            of_word false true e w = unfold ask_word in (w.0 tt)
            of_word true false e w = absurd (w.1 (unfold ask_word in e))
            of_word true true e w = e
    go false d h true is alsos twos hides apart = (
      λ t. let (i, a) = (T_and (in_head l.state) (not (is_nil l.state.asks))).0 (unfold may_stand place_by in t) in
          record {
            ask_in_asks = λ g e. absurd (is.1 (inl (g, e)));
            also_in_asks = λ e. absurd (is.1 (inr e));
            first_ask = λ e. absurd (asked a e);
            hide_in_head = λ e line m. all_elim (begins head_words) (rw on at i) m;
          },
      λ p. unfold may_stand place_by in ((T_and (in_head l.state) (not (is_nil l.state.asks))).1 (
        rw on (all_intro (begins head_words) l.before (p.hide_in_head (hides.0 tt))),
        not_T (is_nil l.state.asks) (λ t. is.1 (inl (p.first_ask (none.0 t)))),
      )),
    )
    go false d h false is alsos twos hides apart = (
      λ t. record {
        ask_in_asks = λ g e. absurd (is.1 (inl (g, e)));
        also_in_asks = λ e. absurd (is.1 (inr e));
        first_ask = λ e. absurd (asked (unfold may_stand place_by in t) e);
        hide_in_head = λ e. absurd (hides.1 e);
      },
      λ p. unfold may_stand place_by in (not_T (is_nil l.state.asks) (λ t. is.1 (inl (p.first_ask (none.0 t))))),
    )

-- ---- the head of an accepted file

-- behind the head a line is none of it
no_head_now : {b d g c : Bool} {first second third : Field} {s s' : State} → Headed b d g c first second third s s' → T (not (in_head s)) → T (not (b || c))
unfolding in_asks
no_head_now {b} {d} {g} {c} {s = s} h out = go b d c h.stands
  where
    in_head_here : T (in_asks s) → ⊥
    in_head_here t = T_not (in_head s) out ((T_and (in_head s) (is_nil s.hidden)).0 t).0

    go : (b d c : Bool) → T (may_stand s (place_by b d g c)) → T (not (b || c))
    go true true c t = absurd (in_head_here ((T_and (in_asks s) (not (is_nil s.asks))).0 (unfold may_stand place_by in t)).0)
    go true false c t = absurd (in_head_here ((T_and (in_asks s) (of_form s g)).0 (unfold may_stand place_by in t)).0)
    go false d true t = absurd (T_not (in_head s) out ((T_and (in_head s) (not (is_nil s.asks))).0 (unfold may_stand place_by in t)).0)
    go false d false t = tt

-- nor is any later one
no_head_later : (ls : List Line) (n : ℕ) (s t : State) → read_lines exclude_names n s ls ≡ read t → T (not (in_head s))
    → (l : Line) → Memᴰ l ls → T (not (begins head_words l))
no_head_later [] n s t e out l i = absurd (Memᴰ.not-nil i)
no_head_later (line ∷ ls) n s t e out l i =
    let (u, r, others) = lines_read exclude_names n s line ls t e in
    let h = headed_line exclude_names n s u line r in
    let later : T (not (in_head u)) = rw (h.on, T_false (in_head s) out) tt in
    let here : T (not (begins head_words line)) = unfold begins in (rw (head_word _) (no_head_now h out)) in
    ⊎_elim (λ p. rw p here) (no_head_later ls (n + 1) u t others later l) (Memᴰ.cases_cons i)

-- behind the asks a line is none
no_ask_now : {b d g c : Bool} {first second third : Field} {s s' : State} → Headed b d g c first second third s s' → T (not (in_asks s)) → T (not b)
no_ask_now {b} {d} {g} {c} {s = s} h out = go b d h.stands
  where
    go : (b d : Bool) → T (may_stand s (place_by b d g c)) → T (not b)
    go true true t = absurd (T_not (in_asks s) out ((T_and (in_asks s) (not (is_nil s.asks))).0 (unfold may_stand place_by in t)).0)
    go true false t = absurd (T_not (in_asks s) out ((T_and (in_asks s) (of_form s g)).0 (unfold may_stand place_by in t)).0)
    go false d t = tt

-- hide lines, then lines of which none is of the head
record HidesFirst (ls : List Line) : Type 0 where
  hides : List Line
  others : List Line
  are : ls ≡ hides ++ others
  are_hides : (l : Line) → Memᴰ l hides → T (begins hide_words l)
  no_other : (l : Line) → Memᴰ l others → T (not (begins head_words l))

-- general law
and_out : (b : Bool) → T (not (b && false))
and_out true = tt
and_out false = tt

-- a line that is no ask, and lines after it that begin so
hides_from : (line : Line) (ls : List Line) (n : ℕ) (s u t : State) → read_line exclude_names n s line ≡ ok u → read_lines exclude_names (n + 1) u ls ≡ read t
    → T (not (begins ask_words line)) → HidesFirst ls → HidesFirst (line ∷ ls)
hides_from line ls n s u t r others no_ask rest = go (begins hide_words line) refl (headed_line exclude_names n s u line r).on
  where
    go : (c : Bool) → begins hide_words line ≡ c → in_head u ≡ (in_head s && (begins ask_words line || c)) → HidesFirst (line ∷ ls)
    go true is on =
        let here : T (begins hide_words line) = rw is tt in
        record {
          hides = line ∷ rest.hides;
          others = rest.others;
          are = ap (line ∷◌) rest.are;
          are_hides = λ l i. ⊎_elim (λ p. rw p here) (rest.are_hides l) (Memᴰ.cases_cons i);
          no_other = rest.no_other;
        }
    go false is on =
        let later : T (not (in_head u)) = rw (on, T_false (begins ask_words line) no_ask) (and_out (in_head s)) in
        let here : T (not (begins head_words line)) = unfold begins in (rw (head_word _) (or_not (begins ask_words line) (begins hide_words line) no_ask (rw is tt))) in
        record {
          hides = [];
          others = line ∷ ls;
          are = refl;
          are_hides = λ l i. absurd (Memᴰ.not-nil i);
          no_other = λ l i. ⊎_elim (λ p. rw p here) (no_head_later ls (n + 1) u t others later l) (Memᴰ.cases_cons i);
        }

-- so are lines behind the asks
split_hides : (ls : List Line) (n : ℕ) (s t : State) → read_lines exclude_names n s ls ≡ read t → T (not (in_asks s)) → HidesFirst ls
split_hides [] n s t e out =
    record { hides = []; others = []; are = refl; are_hides = λ l i. absurd (Memᴰ.not-nil i); no_other = λ l i. absurd (Memᴰ.not-nil i) }
split_hides (line ∷ ls) n s t e out =
    let (u, r, others) = lines_read exclude_names n s line ls t e in
    let h = headed_line exclude_names n s u line r in
    let later : T (not (in_asks u)) = rw (in_asks_now h, T_false (in_asks s) out) tt in
    hides_from line ls n s u t r others (no_ask_now h out) (split_hides ls (n + 1) u t others later)

-- asks, then such lines
record AsksFirst (ls : List Line) : Type 0 where
  asks : List Line
  rest : List Line
  are : ls ≡ asks ++ rest
  are_asks : (l : Line) → Memᴰ l asks → T (begins ask_words l)
  behind : HidesFirst rest

split_asks : (ls : List Line) (n : ℕ) (s t : State) → read_lines exclude_names n s ls ≡ read t → AsksFirst ls
split_asks [] n s t e =
    record {
      asks = [];
      rest = [];
      are = refl;
      are_asks = λ l i. absurd (Memᴰ.not-nil i);
      behind = record { hides = []; others = []; are = refl; are_hides = λ l i. absurd (Memᴰ.not-nil i); no_other = λ l i. absurd (Memᴰ.not-nil i) };
    }
split_asks (line ∷ ls) n s t e =
    let (u, r, others) = lines_read exclude_names n s line ls t e in
    go u r others (begins ask_words line) refl (in_asks_now (headed_line exclude_names n s u line r)) (split_asks ls (n + 1) u t others)
  where
    go : (u : State) → read_line exclude_names n s line ≡ ok u → read_lines exclude_names (n + 1) u ls ≡ read t → (b : Bool) → begins ask_words line ≡ b
        → in_asks u ≡ (in_asks s && begins ask_words line) → AsksFirst ls → AsksFirst (line ∷ ls)
    go u r others true is on more =
        let here : T (begins ask_words line) = rw is tt in
        record {
          asks = line ∷ more.asks;
          rest = more.rest;
          are = ap (line ∷◌) more.are;
          are_asks = λ l i. ⊎_elim (λ p. rw p here) (more.are_asks l) (Memᴰ.cases_cons i);
          behind = more.behind;
        }
    go u r others false is on more =
        let later : T (not (in_asks u)) = rw (on, is) (and_out (in_asks s)) in
        let no_ask : T (not (begins ask_words line)) = rw is tt in
        record {
          asks = [];
          rest = line ∷ ls;
          are = refl;
          are_asks = λ l i. absurd (Memᴰ.not-nil i);
          behind = hides_from line ls n s u t r others no_ask (split_hides ls (n + 1) u t others later);
        }

-- ---- the asks of an accepted file

-- an ask whose numbers are in their ranges, with no more queries than so many
record GoodOf (most : ℕ) (a : Ask) : Type 0 where
  query : ℕ
  earlier : List ℕ
  has_query : a.queries ≡ query ∷ earlier
  in_range : (q : ℕ) → Memᴰ q a.queries → q ≤ 255
  few_queries : length a.queries ≤ most
  few_options : a.options ≤ 15
  few_groups : a.groups ≤ 65535

-- as many more may be
good_more : {n m : ℕ} → n ≤ m → {a : Ask} → GoodOf n a → GoodOf m a
good_more l h =
    let few = h.few_queries in
    record { query = h.query; earlier = h.earlier; has_query = h.has_query; in_range = h.in_range; few_queries = omega arith; few_options = h.few_options; few_groups = h.few_groups }

-- at most sixteen, each good, and all groups admitted in the older form
record Good (s : State) : Type 0 where
  few : length s.asks ≤ 16
  each : (a : Ask) → Memᴰ a s.asks → GoodOf (length s.asks) a
  older : T (not s.grouped) → (a : Ask) → Memᴰ a s.asks → a.groups ≡ 65535

-- so is it before line 1
good_start : Good start
good_start = unfold start in (record { few = omega arith; each = λ a i. absurd (Memᴰ.not-nil i); older = λ t a i. absurd (Memᴰ.not-nil i) })

-- one ask more
good_next : (asks : List Ask) (new : Ask) → ((a : Ask) → Memᴰ a asks → GoodOf (length asks) a) → GoodOf (length asks + 1) new
    → (a : Ask) → Memᴰ a (asks ++ (new ∷ [])) → GoodOf (length (asks ++ (new ∷ []))) a
good_next asks new old here a i =
    let count = length-append asks (new ∷ []) in
    ⊎_elim (λ j. good_more (omega arith) (old a j)) (λ j. let same : a ≡ new = Memᴰ.eq_of_singleton j in rw (same, count) here) (Memᴰ.append_cases asks i)

-- and every line keeps it
good_line : (n : ℕ) (s s' : State) (line : Line) → read_line exclude_names n s line ≡ ok s' → Good s → Good s'
good_line n s s' line e old = let h = headed_line exclude_names n s s' line e in go h.headed h.stands h.in_number h.asks h.form
  where
    unchanged : s'.asks ≡ s.asks → s'.grouped ≡ (s.grouped || false) → Good s'
    unchanged same form =
        record {
          few = rw same old.few;
          each = λ a i. rw same (old.each a (rw same at i));
          older = λ t a i. old.older (subst (λ b. T (not b)) (form ∙ or-false s.grouped) t) a (rw same at i);
        }

    one_more : (new : Ask) → length s.asks < 16 → s'.asks ≡ s.asks ++ (new ∷ []) → GoodOf (length s.asks + 1) new
        → (T (not s'.grouped) → T (not s.grouped) × (new.groups ≡ 65535)) → Good s'
    one_more new room are here form =
        record {
          few = rw are (omega (arith, length-append s.asks (new ∷ [])));
          each = λ a i. rw are (good_next s.asks new old.each here a (rw are at i));
          older = λ t a i. let (before, all) = form t in
              ⊎_elim (old.older before a) (λ j. ap (λ (x : Ask). x.groups) (Memᴰ.eq_of_singleton j) ∙ all) (Memᴰ.append_cases s.asks (rw are at i));
        }

    stays : s'.grouped ≡ (s.grouped || false) → T (not s'.grouped) → T (not s.grouped)
    stays form t = subst (λ b. T (not b)) (form ∙ or-false s.grouped) t

    go : {b d g c : Bool} {first second third : Field} {l : List Head} → HeadBy first second third b d g c l → T (may_stand s (place_by b d g c)) → (T b → length s.asks < 16)
        → s'.asks ≡ s.asks ++ collect (head_asks s.asks) l → s'.grouped ≡ (s.grouped || g) → Good s'
    go {first} {second} (one_ask low few) t less is form =
        one_more (record { queries = value first ∷ []; options = value second; groups = 65535 }) (less tt) (is ∙ unfold collect head_asks in refl)
        (record {
          query = value first;
          earlier = [];
          has_query = refl;
          in_range = λ q i. let same : q ≡ value first = Memᴰ.eq_of_singleton i in rw same low;
          few_queries = omega arith;
          few_options = few;
          few_groups = omega arith;
        })
        (λ u. (stays form u, refl))
    go {first} {second} {third} (one_ask2 low few all) t less is form =
        one_more (record { queries = value first ∷ []; options = value second; groups = value third }) (less tt) (is ∙ unfold collect head_asks in refl)
        (record {
          query = value first;
          earlier = [];
          has_query = refl;
          in_range = λ q i. let same : q ≡ value first = Memᴰ.eq_of_singleton i in rw same low;
          few_queries = omega arith;
          few_options = few;
          few_groups = all;
        })
        (λ u. absurd (subst (λ b. T (not b)) (form ∙ or-true s.grouped) u))
    go {first} (one_also low) t less is form =
        let (x, of_last) = last_some s.asks ((T_and (in_asks s) (not (is_nil s.asks))).0 (unfold may_stand place_by in t)).1 in
        let before = old.each x (last_member s.asks of_last) in
        let few = before.few_queries in
        one_more (record { queries = value first ∷ x.queries; options = x.options; groups = x.groups }) (less tt) (is ∙ unfold collect head_asks with_query in (rw of_last))
        (record {
          query = value first;
          earlier = x.queries;
          has_query = refl;
          in_range = λ q i. ⊎_elim (λ same. rw same low) (before.in_range q) (Memᴰ.cases_cons i);
          few_queries = omega arith;
          few_options = before.few_options;
          few_groups = before.few_groups;
        })
        (λ u. (stays form u, old.older (stays form u) x (last_member s.asks of_last)))
    go one_hide t less is form = unchanged (is ∙ unfold collect head_asks in (append-nil s.asks)) form
    go no_head t less is form = unchanged (is ∙ unfold collect in (append-nil s.asks)) form

-- at most sixteen are asked after lines that are read from the start
pub few_asks : (ls : List Line) (n : ℕ) (s : State) → read_lines exclude_names n start ls ≡ read s → length s.asks ≤ 16
few_asks ls n s e = (kept_by_lines exclude_names (λ n s. Good s) good_line ls n start s e good_start).few

-- ---- the chains of the asks

-- what stands at a place of a list with one more at its end
at_snoc : {A : Type 0} (l : List A) (x : A) {i : ℕ} {y : A} → At (l ++ (x ∷ [])) i y → At l i y ⊎ ((i ≡ length l) × (y ≡ x))
at_snoc {A} l x {i} {y} at = go l at.before at.are at.place
  where
    tail_eq : {a b : A} {l m : List A} → a ∷ l ≡ b ∷ m → l ≡ m
    tail_eq e = cc

    not_none : (bs : List A) → [] ≡ bs ++ (y ∷ at.after) → ⊥
    not_none [] e = cons-ne-nil y at.after (sym e)
    not_none (b ∷ bs) e = cons-ne-nil b (bs ++ (y ∷ at.after)) (sym e)

    go : (l before : List A) → l ++ (x ∷ []) ≡ before ++ (y ∷ at.after) → {i : ℕ} → length before ≡ i → At l i y ⊎ ((i ≡ length l) × (y ≡ x))
    go [] [] e p = inr (sym p, cc)
    go [] (b ∷ bs) e p = absurd (not_none bs (tail_eq e))
    go (z ∷ l) [] e p = let same : z ≡ y = cc in inl (record { before = []; after = l; are = ap (◌∷ l) same; place = p })
    go (z ∷ l) (b ∷ bs) e {i} p =
        ⊎_elim (λ (f : At l (length bs) y). inl (record { before = z ∷ f.before; after = f.after; are = ap (z ∷◌) f.are; place = ap suc f.place ∙ p }))
        (λ (q, is). inr (sym p ∙ ap suc q, is)) (go l bs (tail_eq e) refl)

-- what stands at a place of a list is one of it
pub at_member : {A : Type 0} {l : List A} {i : ℕ} {x : A} → At l i x → Memᴰ x l
at_member h = rw h.are (Memᴰ.append_right h.before (Memᴰ.head refl))

-- what stands in a list stands there with more behind it
at_more : {A : Type 0} (l m : List A) {i : ℕ} {y : A} → At l i y → At (l ++ m) i y
at_more l m {i} {y} at = record { before = at.before; after = at.after ++ m; are = ap (◌++ m) at.are ∙ append_assoc at.before (y ∷ at.after) m; place = at.place }

-- a list by its last element
last_split : {A : Type 0} (l : List A) {x : A} → last l ≡ x ∷ [] → (m : List A) × (l ≡ m ++ (x ∷ []))
unfolding last
last_split [] {x} e = absurd (cons-ne-nil x [] (sym e))
last_split (y ∷ []) e = ([], e)
last_split (y ∷ z ∷ l) e = let (m, is) = last_split (z ∷ l) e in (y ∷ m, ap (y ∷◌) is)

-- asks of which each that has two queries or more goes on from the one before it
pub record ChainedAsks (asks : List Ask) : Type 0 where
  pub on : (i : ℕ) (a : Ask) (q p : ℕ) (qs : List ℕ) → At asks i a → a.queries ≡ q ∷ p ∷ qs → (j : ℕ) × (i ≡ suc j) × At asks j (with_queries a (p ∷ qs))

-- one more, which goes on from the last where it has two queries or more
chained_next : (asks : List Ask) (x : Ask) → ChainedAsks asks
    → ((q p : ℕ) (qs : List ℕ) → x.queries ≡ q ∷ p ∷ qs → (m : List Ask) × (asks ≡ m ++ (with_queries x (p ∷ qs) ∷ []))) → ChainedAsks (asks ++ (x ∷ []))
chained_next asks x old new =
    record {
      on = λ i a q p qs at e. ⊎_elim
          (λ before. let (j, is, found) = old.on i a q p qs before e in (j, is, at_more asks (x ∷ []) found))
          (λ (is, same).
          let (m, split) = new q p qs (ap (λ (b : Ask). b.queries) (sym same) ∙ e) in
          let b = with_queries x (p ∷ qs) in
          let count : i ≡ suc (length m) = omega (arith, is, ap length split, length-append m (b ∷ [])) in
          let there : At asks (length m) b = record { before = m; after = []; are = split; place = refl } in
          (length m, count, at_more asks (x ∷ []) (subst (λ (z : Ask). At asks (length m) (with_queries z (p ∷ qs))) (sym same) there)))
          (at_snoc asks x at);
    }

-- an ask with one query more, without it
one_less : (q : ℕ) (x : Ask) (qs : List ℕ) → x.queries ≡ qs → with_queries (record { queries = q ∷ x.queries; options = x.options; groups = x.groups }) qs ≡ x
unfolding with_queries
one_less q x qs e = rw (← e)

-- every line keeps it
chained_line : (n : ℕ) (s s' : State) (line : Line) → read_line exclude_names n s line ≡ ok s' → ChainedAsks s.asks → ChainedAsks s'.asks
chained_line n s s' line e old = let h = headed_line exclude_names n s s' line e in go h.headed h.stands h.asks
  where
    alone : (a : Ask) (q : ℕ) → a.queries ≡ q ∷ [] → s'.asks ≡ s.asks ++ (a ∷ []) → ChainedAsks s'.asks
    alone a k one are =
        rw are (chained_next s.asks a old (λ q p qs two. absurd (let z : ◌≡◌ {A = List ℕ} [] (p ∷ qs) = cc in cons-ne-nil p qs (sym z))))

    go : {b d g c : Bool} {first second third : Field} {l : List Head} → HeadBy first second third b d g c l → T (may_stand s (place_by b d g c))
        → s'.asks ≡ s.asks ++ collect (head_asks s.asks) l → ChainedAsks s'.asks
    go {first} {second} (one_ask low few) t is =
        alone (record { queries = value first ∷ []; options = value second; groups = 65535 }) (value first) refl (is ∙ unfold collect head_asks in refl)
    go {first} {second} {third} (one_ask2 low few all) t is =
        alone (record { queries = value first ∷ []; options = value second; groups = value third }) (value first) refl (is ∙ unfold collect head_asks in refl)
    go {first} (one_also low) t is =
        let (x, of_last) = last_some s.asks ((T_and (in_asks s) (not (is_nil s.asks))).0 (unfold may_stand place_by in t)).1 in
        let a : Ask = record { queries = value first ∷ x.queries; options = x.options; groups = x.groups } in
        let are : s'.asks ≡ s.asks ++ (a ∷ []) = is ∙ unfold collect head_asks with_query in (rw of_last) in
        let (m, split) = last_split s.asks of_last in
        rw are (chained_next s.asks a old (λ q p qs two.
        let rest : x.queries ≡ p ∷ qs = cc in
        (m, split ∙ ap (λ (z : Ask). m ++ (z ∷ [])) (sym (one_less (value first) x (p ∷ qs) rest)))))
    go one_hide t is = let are : s'.asks ≡ s.asks = is ∙ unfold collect head_asks in (append-nil s.asks) in rw are old
    go no_head t is = let are : s'.asks ≡ s.asks = is ∙ unfold collect in (append-nil s.asks) in rw are old

-- so are the asks of lines that are read
pub chained_asks : (ls : List Line) (s : State) → read_lines exclude_names 1 start ls ≡ read s → ChainedAsks s.asks
unfolding start
chained_asks ls s e =
    kept_by_lines exclude_names (λ n s. ChainedAsks s.asks) chained_line ls 1 start s e (record { on = λ i a q p qs at two. absurd (no_place a at.before at.after at.are) })
  where
    no_place : (a : Ask) (before after : List Ask) → [] ≡ before ++ (a ∷ after) → ⊥
    no_place a [] after e = cons-ne-nil a after (sym e)
    no_place a (b ∷ before) after e = cons-ne-nil b (before ++ (a ∷ after)) (sym e)

pub asks_chained : AsksChained
asks_chained ls s e i a q p qs at two = (chained_asks ls s e).on i a q p qs at two

-- a file that is read has a line
pub some_line : (file : List ℕ) {s : State} → read_file exclude_names file ≡ read s → (first : Line) × (others : List Line) × (lines file ≡ first ∷ others)
unfolding read_file lines line_cons
some_line [] e = absurd (not_read e)
some_line (b ∷ bs) e = go (eqb b 0x0a) (lines bs)
  where
    go : (end : Bool) (rest : List Line)
        → (first : Line) × (others : List Line) × (cond end (record { bytes = []; ended = true } ∷ rest) (line_cons b rest) ≡ first ∷ others)
    go true rest = (_, rest, refl)
    go false [] = (_, [], refl)
    go false (l ∷ rest) = (_, rest, refl)

-- a list that is not empty has an element
one_at_least : {A : Type 0} (l : List A) → T (not (is_nil l)) → 1 ≤ length l
unfolding is_nil
one_at_least [] t = absurd t
one_at_least (a ∷ l) t = omega arith

-- an accepted file has 1 to 16 asks
pub accepted_asks : AcceptedAsks
accepted_asks file s e =
    let (first, others, are) = some_line file e in
    let good = kept_by_file exclude_names (λ n s. Good s) good_line file s e good_start in
    record {
      some_ask = one_at_least s.asks (asked_lines first others 1 start s (rw are at (file_read exclude_names file s e)));
      few = good.few;
      each = λ a i.
          let h = good_more good.few (good.each a i) in
          record { query = h.query; earlier = h.earlier; has_query = h.has_query; in_range = h.in_range; few_queries = h.few_queries; few_options = h.few_options; few_groups = h.few_groups };
      older_form = good.older;
    }

-- a hide line and a line behind the head are no asks
hide_no_ask : (l : Line) → T (begins hide_words l) → T (not (begins ask_words l))
unfolding begins
hide_no_ask l t = let f = get_or (fields l.bytes) 0 [] in not_T (is_word ask_words f) (λ u. ask_or_hide f u ((hide_word f).0 t))

head_no_ask : (l : Line) → T (not (begins head_words l)) → T (not (begins ask_words l))
unfolding begins
head_no_ask l t = let f = get_or (fields l.bytes) 0 [] in go (is_word ask_words f) (is_word hide_words f) (rw (head_word f) at t)
  where
    go : (a b : Bool) → T (not (a || b)) → T (not a)
    go true b t = t
    go false b t = tt

-- none of these is an ask
hides_no_asks : {ls : List Line} → HidesFirst ls → (l : Line) → Memᴰ l ls → T (not (begins ask_words l))
hides_no_asks {ls} h l i =
    ⊎_elim (λ j. hide_no_ask l (h.are_hides l j)) (λ j. head_no_ask l (h.no_other l j)) (Memᴰ.append_cases h.hides (rw h.are at i))

-- asks, then lines that are none: as many asks as lines that count as such
pub as_many_asks : (asks rest : List Line) (s : State) → read_lines exclude_names 1 start (asks ++ rest) ≡ read s
    → ((l : Line) → Memᴰ l asks → T (begins ask_words l)) → ((l : Line) → Memᴰ l rest → T (not (begins ask_words l))) → length s.asks ≡ length asks
unfolding asks_on
as_many_asks asks rest s e are_asks no_asks =
    ap length (asks_exact (asks ++ rest) s e) ∙ asks_length _ (asks ++ rest)
    ∙ ap length (keep_append (begins ask_words) asks rest ∙ ap₂ ◌++◌ (keep_all (begins ask_words) asks are_asks) (keep_none (begins ask_words) rest no_asks) ∙ append-nil asks)

-- an ask with groups counts as an ask
grouped_ask : (l : Line) → T (begins grouped_words l) → T (begins ask_words l)
unfolding begins ask_word
grouped_ask l t = let f = get_or (fields l.bytes) 0 [] in (asks_word f).1 (inl (true, (grouped_word f).0 t))

-- lines that are no asks have none with groups
no_grouped : (ls : List Line) → ((l : Line) → Memᴰ l ls → T (not (begins ask_words l))) → any (begins grouped_words) ls ≡ false
unfolding any
no_grouped [] h = refl
no_grouped (l ∷ ls) h =
    ap (◌|| any (begins grouped_words) ls)
    (T_false (begins grouped_words l) (not_T (begins grouped_words l) (λ t. T_not (begins ask_words l) (h l (Memᴰ.head refl)) (grouped_ask l t))))
    ∙ no_grouped ls (λ m i. h m (Memᴰ.tail i))

-- lines that are no asks leave the form
form_stays : (ls : List Line) (n : ℕ) (s t : State) → read_lines exclude_names n s ls ≡ read t → ((l : Line) → Memᴰ l ls → T (not (begins ask_words l)))
    → t.grouped ≡ s.grouped
form_stays ls n s t e none = form_after ls n s t e ∙ ap (s.grouped ||◌) (no_grouped ls none) ∙ or-false s.grouped

-- asks, then lines that are none: the asks are all of the form of the file
pub form_front : (asks rest : List Line) (s : State) → read_lines exclude_names 1 start (asks ++ rest) ≡ read s
    → ((l : Line) → Memᴰ l asks → T (begins ask_words l)) → ((l : Line) → Memᴰ l rest → T (not (begins ask_words l)))
    → (l : Line) → Memᴰ l asks → T (begins (form_words s.grouped) l)
form_front asks rest s e are_asks no_asks l i =
    let (u, first, others) = lines_split asks rest 1 start s e in
    subst (λ b. T (begins (form_words b) l)) (sym (form_stays rest (1 + length asks) u s others no_asks)) (asks_of_form asks u first are_asks l i)

-- the first line is no also
pub first_no_also : (line : Line) (ls : List Line) (s : State) → read_lines exclude_names 1 start (line ∷ ls) ≡ read s → T (not (begins also_words line))
unfolding start
first_no_also line ls s e =
    let (u, r, others) = lines_read exclude_names 1 start line ls s e in
    no_also_now (headed_line exclude_names 1 start u line r) refl

-- an accepted file is its asks, then lines that are none
pub record SplitFile (file : List ℕ) (s : State) : Type 0 where
  pub asks : List Line
  pub hides : List Line
  pub others : List Line
  pub are : lines file ≡ asks ++ (hides ++ others)
  pub are_asks : (l : Line) → Memᴰ l asks → T (begins ask_words l)
  pub of_form : (l : Line) → Memᴰ l asks → T (begins (form_words s.grouped) l)
  pub are_hides : (l : Line) → Memᴰ l hides → T (begins hide_words l)
  pub no_other : (l : Line) → Memᴰ l others → T (not (begins head_words l))
  pub no_asks : (l : Line) → Memᴰ l (hides ++ others) → T (not (begins ask_words l))
  pub count : length asks ≡ length s.asks

pub split_file : (file : List ℕ) (s : State) → LinesRead file s → SplitFile file s
split_file file s e =
    let reads = file_read exclude_names file s e in
    let a = split_asks (lines file) 1 start s reads in
    let h = a.behind in
    let no_asks = hides_no_asks h in
    let asked = as_many_asks a.asks a.rest s (rw a.are at reads) a.are_asks no_asks in
    record {
      asks = a.asks;
      hides = h.hides;
      others = h.others;
      are = a.are ∙ ap (a.asks ++◌) h.are;
      are_asks = a.are_asks;
      of_form = form_front a.asks a.rest s (rw a.are at reads) a.are_asks no_asks;
      are_hides = h.are_hides;
      no_other = h.no_other;
      no_asks = λ l i. no_asks l (rw h.are i);
      count = sym asked;
    }

-- the first lines of an accepted file are its asks, hide lines follow them, and no other is either
pub accepted_head_first : AcceptedHeadFirst
accepted_head_first file s e =
    let w = split_file file s e in
    let good = accepted_asks file s e in
    let count = w.count in
    record {
      asks = w.asks;
      hides = w.hides;
      others = w.others;
      are = w.are;
      some_ask = omega (arith, good.some_ask);
      few_asks = omega (arith, good.few);
      grouped = s.grouped;
      are_asks = w.of_form;
      first_ask = λ l more are. first_no_also l (more ++ (w.hides ++ w.others)) s
          (subst (λ ls. read_lines exclude_names 1 start ls ≡ read s) (w.are ∙ ap (◌++ (w.hides ++ w.others)) are) (file_read exclude_names file s e));
      are_hides = w.are_hides;
      no_other = w.no_other;
    }
