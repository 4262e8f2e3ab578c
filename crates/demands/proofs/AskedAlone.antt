-- Changes 7 and 11: each answer is that of the file with the chain of its line alone, line numbers apart; and files of one
-- chain each make one that answers what they do.
use Prim.Native.Nat.{ℕ, zero, suc, ◌+◌, ◌-◌, ◌≤◌, ◌<◌}
use native.Mathlib.Omega.{arith}
use mathlib.Core.Path.{◌≡◌, refl, sym, ◌∙◌, ap, subst}
use mathlib.Core.Logic.{◌⊎◌, inl, inr, ⊎_elim, ◌≢◌}
use mathlib.Core.Bool.{Bool, true, false, not, ◌&&◌, ◌||◌, beq, and-false, or-false, or-true}
use mathlib.Core.List.Memᴰ
use mathlib.Core.List.{List, [], ◌∷◌, ◌++◌, map, append-nil, append_assoc, cons-ne-nil, Memᴰ}
use lib.Dec.{T, T_not, eqb}
use lib.ListN.{length, get_or, length-append}
use Rattle.model.specs.Lists.{any, all, sum, collect, fold_left, holds, is_nil, last}
use Rattle.model.specs.Lines.{Line, lines, Field, fields}
use Rattle.model.specs.Summaries.{exclude_names}
use Rattle.model.specs.Reading.{ok, Head, ask, ask2, also, most_groups, Content, head, term, assume, fun, def, retain, root, Ask, State, start, Reading, read, refused_at, in_head, in_asks}
use Rattle.model.specs.Reading.{place, of_form, may_stand, is_position, fixed_count, parse, with_query, head_asks, is_grouped, hidden_by, heads, nodes, spelled, trimmed, limits, summarize_decl}
use Rattle.model.specs.Reading.{root_of, add_line, repeats, read_line, read_lines}
use Rattle.model.specs.Outcome.{Position, position, filtered}
use Rattle.model.proofs.ListLaws.{T_and, T_or, T_dec, T_true, collect_append, map_cong, sum_map_append}
use Rattle.model.proofs.ResultLaws.{ok_eq}
use Rattle.demands.specs.LinesRead.{LinesRead, At, Pairwise, ends, pair}
use Rattle.demands.specs.Demand2.{followed_list}
use Rattle.demands.specs.LineForm.{Allowed}
use Rattle.demands.specs.Demand1.{LinesJudged, all_lengths}
use Rattle.demands.specs.Counts.{ask_words, form_words, grouped_words, also_words, hide_words, is_word, begins}
use Rattle.demands.specs.Moved.{moved_position}
use Rattle.demands.specs.AskedAlone.{Day, AcceptedDay, ChainIn, chain_lines, EachChained, AloneFile, SameAnswers, AskedAlone, AnsweredAlone, AskFirst, ChainsRead, AskedTogether, AnsweredTogether}
use Rattle.demands.specs.Bytes.{line_bytes, Parted, none, unended, ended}
use Rattle.laws.proofs.ReadingLaws.{not_read, parse_ok, line_read, lines_read, none_read, added_line, file_read}
use Rattle.demands.proofs.Refusals.{lines_on, lines_append}
use Rattle.demands.proofs.LineForm.{parse_fields, count_formless, content_formless, position_formless}
use Rattle.demands.proofs.LineFields.{place_by, place_of, position_by, known_place, HeadBy, one_ask, one_ask2, one_also, line_fields}
use Rattle.demands.proofs.Heads.{not_nil_append, append_not_nil, last_some, also_behind, headed_line}
use Rattle.demands.proofs.Asks.{lines_split, begins_form, form_by_words, form_front, asks_stay, split_file, as_many_asks, first_no_also, few_asks}
use Rattle.demands.proofs.Moved.{map_length, lines_apart}
use Rattle.demands.proofs.Shifted.{shifted, shifted_reading, lines_shifted}
use Rattle.demands.proofs.Queries.{at_map}
use Rattle.demands.proofs.Demand1.{filtered_answers, answers_filtered, list_given}
use Rattle.demands.proofs.HiddenNames.{read_by_lines}
use Rattle.demands.proofs.Bytes.{lines_exact}

-- the form of a file after these asks: the older before the first, then this one
form_then : Bool → List Ask → Bool
form_then g asks = not (is_nil asks) && g

form_some : (g : Bool) (asks : List Ask) → T (not (is_nil asks)) → form_then g asks ≡ g
unfolding form_then
form_some g asks t = ap (◌&& g) (T_true (not (is_nil asks)) t)

-- the state after ask lines of a form and also lines alone
abbrev headed : Bool → List Ask → State
headed g asks = record { asks = asks; grouped = form_then g asks; hidden = []; terms = []; names = []; decls = []; roots = []; references = 0; entries = 0; uses = 0 }

-- other asks, where there are some, leave the form
shifted_headed : (g : Bool) (k : ℕ) (asks more : List Ask) → T (not (is_nil asks)) → T (not (is_nil more)) → shifted k more (headed g asks) ≡ headed g more
shifted_headed g k asks more t u = rw (form_some g asks t, form_some g more u)

-- a line of the head is that line of the head
head_only : (c : Content) {h : Head} → heads c ≡ h ∷ [] → c ≡ head h
unfolding heads
head_only (head g) e = cc
head_only (term node) e = absurd (let z : ◌≡◌ {A = ℕ} 0 1 = cc in omega arith)
head_only (assume name flag group t) e = absurd (let z : ◌≡◌ {A = ℕ} 0 1 = cc in omega arith)
head_only (fun name) e = absurd (let z : ◌≡◌ {A = ℕ} 0 1 = cc in omega arith)
head_only (def name t) e = absurd (let z : ◌≡◌ {A = ℕ} 0 1 = cc in omega arith)
head_only (retain names) e = absurd (let z : ◌≡◌ {A = ℕ} 0 1 = cc in omega arith)
head_only (root q name t) e = absurd (let z : ◌≡◌ {A = ℕ} 0 1 = cc in omega arith)

-- a head that is an ask of this form, or an also
data Asking (g : Bool) : Head → Bool → Type 0 where
  by_ask : {q o : ℕ} → g ≡ false → Asking g (ask q o) false
  by_ask2 : {q o a : ℕ} → g ≡ true → Asking g (ask2 q o a) false
  by_also : {q : ℕ} → Asking g (also q) true

-- an ask asks something more
one_more_asked : (g : Bool) (asks : List Ask) (a : Ask) → form_then g (asks ++ (a ∷ [])) ≡ g
one_more_asked g asks a = form_some g (asks ++ (a ∷ [])) (append_not_nil asks a)

-- such a line adds its ask and nothing else, where an also is not the first
add_asking : (g : Bool) (n : ℕ) (asks : List Ask) {h : Head} {d : Bool} → Asking g h d → (T d → T (not (is_nil asks)))
    → add_line exclude_names n (headed g asks) (head h) ≡ headed g (asks ++ head_asks asks h)
unfolding add_line heads collect head_asks is_grouped hidden_by any nodes fold_left spelled trimmed summarize_decl root_of sum
add_asking g n asks (by_ask {q} {o} e) some =
    let older : (form_then g asks || (false || false)) ≡ form_then g (asks ++ (record { queries = q ∷ []; options = o; groups = most_groups } ∷ [])) =
    rw e (or-false (form_then false asks) ∙ none_before asks ∙ sym (none_before _)) in
    rw older
  where
    none_before : (l : List Ask) → form_then false l ≡ false
    none_before l = unfold form_then in (and-false (not (is_nil l)))
add_asking g n asks (by_ask2 {q} {o} {a} e) some =
    let newer : (form_then g asks || (true || false)) ≡ form_then g (asks ++ (record { queries = q ∷ []; options = o; groups = a } ∷ [])) =
    or-true (form_then g asks) ∙ sym e ∙ sym (one_more_asked g asks _) in
    rw newer
add_asking g n asks (by_also {q}) some =
    let more = map (with_query q) (last asks) in
    let same : (form_then g asks || (false || false)) ≡ form_then g (asks ++ more) =
    or-false (form_then g asks) ∙ form_some g asks (some tt) ∙ sym (form_some g (asks ++ more) (not_nil_append asks more (some tt))) in
    rw (append-nil more, same)

-- a line says this, after whatever asks of its form, as long as they are fewer than sixteen and an also is not the first
record SaysThis (g : Bool) (line : Line) (h : Head) : Type 0 where
  asking : Asking g h (begins also_words line)
  reads : (n : ℕ) (asks : List Ask) → length asks < 16 → (T (begins also_words line) → T (not (is_nil asks)))
      → read_line exclude_names n (headed g asks) line ≡ ok (headed g (asks ++ head_asks asks h))

-- what the head of such a line is
asking_head : (g : Bool) {first second third : Field} {d form is_hide : Bool} {l : List Head} (b : Bool) → T (b && (d || beq g form))
    → HeadBy first second third b d form is_hide l → (h : Head) × (l ≡ h ∷ []) × Asking g h d
asking_head false true t (one_ask low few) = (_, refl, by_ask refl)
asking_head true true t (one_ask low few) = absurd t
asking_head false true t (one_ask2 low few all) = absurd t
asking_head true true t (one_ask2 low few all) = (_, refl, by_ask2 refl)
asking_head g true t (one_also low) = (_, refl, by_also)
asking_head g false t h = absurd t

-- it may stand there
stands_there : (g : Bool) (asks : List Ask) (b d form c : Bool) → T (b && (d || beq g form)) → (T d → T (not (is_nil asks)))
    → T (may_stand (headed g asks) (place_by b d form c))
stands_there g asks true true form c t some = unfold may_stand place_by in_asks in_head is_nil in (some tt)
stands_there g asks true false form c t some = unfold may_stand place_by in_asks in_head of_form is_nil in (own (is_nil asks) (T_dec (is_nil asks)))
  where
    own : (b : Bool) → T (is_nil asks) ⊎ T (not (is_nil asks)) → T (is_nil asks || beq form (form_then g asks))
    own b (inl u) = (T_or (is_nil asks) (beq form (form_then g asks))).1 (inl u)
    own b (inr u) = (T_or (is_nil asks) (beq form (form_then g asks))).1 (inr (subst (λ x. T (beq form x)) (sym (form_some g asks u)) (turned g form t)))
      where
        turned : (g form : Bool) → T (beq g form) → T (beq form g)
        turned true true t = tt
        turned true false t = t
        turned false true t = t
        turned false false t = tt
stands_there g asks false d form c t some = absurd t

-- an ask or also line that is read once is read so
says_this : (g : Bool) (n : ℕ) (asks : List Ask) (line : Line) (t : State) → read_line exclude_names n (headed g asks) line ≡ ok t → T (begins (form_words g) line)
    → (h : Head) × SaysThis g line h
unfolding begins
says_this g n asks line t e b =
    let fs = fields line.bytes in
    let f = get_or fs 0 [] in
    let S₀ = headed g asks in
    let l = line_read exclude_names n S₀ line t e in
    let p = parse_ok S₀ fs l.parsed in
    let word : T (is_word ask_words f && (is_word also_words f || beq g (is_word grouped_words f))) = subst T (form_by_words g f) b in
    let (h, is, asking) = asking_head g (is_word ask_words f) word (line_fields S₀ fs l.parsed).headed in
    let says : l.content ≡ head h = head_only l.content is in
    let first : f ≡ p.kind_word = ap (λ (x : List Field). get_or x 0 []) p.split in
    let at : place p.kind ≡ place_of f = known_place p.kind_word p.known ∙ ap place_of (sym first) in
    let counts : T (is_word ask_words f) = ((T_and (is_word ask_words f) (is_word also_words f || beq g (is_word grouped_words f))).0 word).0 in
    let a_position : T (is_position (place p.kind)) = rw (at, position_by (is_word ask_words f) (is_word also_words f) (is_word grouped_words f) (is_word hide_words f)) counts in
    let formless = position_formless p.kind a_position in
    let counted = subst (λ all. T (not (holds (λ c. not (eqb (length all) c)) (fixed_count S₀ p.kind)))) p.split p.counted in (
      h,
      record {
        asking = asking;
        reads = λ m others few some.
            let S = headed g others in
            let allowed : Allowed S p.kind = record {
              stands = rw at (stands_there g others (is_word ask_words f) (is_word also_words f) (is_word grouped_words f) (is_word hide_words f) word some);
              in_number = λ x. few;
            } in
            let parsed : parse S fs ≡ ok (head h) =
            ap (parse S) p.split ∙ parse_fields S p.kind_word p.others p.known allowed (rw (count_formless S₀ S p.kind formless) at counted)
            ∙ content_formless p.kind formless S.grouped S₀.grouped 0 p.others ∙ p.says ∙ ap ok says in
            added_line exclude_names m S line l.ended (head h) parsed (unfold repeats any collect summarize_decl in tt)
            (rw (add_asking g m others asking some) (unfold limits all in tt))
            ∙ ap ok (add_asking g m others asking some);
      },
    )

-- ---- what lines ask

-- what is asked after these heads
asked : List Ask → List Head → List Ask
asked asks [] = asks
asked asks (h ∷ hs) = asked (asks ++ head_asks asks h) hs

-- what was asked before is asked
asked_grows : (hs : List Head) (asks : List Ask) → (more : List Ask) × (asked asks hs ≡ asks ++ more)
unfolding asked
asked_grows [] asks = ([], sym (append-nil asks))
asked_grows (h ∷ hs) asks =
    let (more, e) = asked_grows hs (asks ++ head_asks asks h) in
    (head_asks asks h ++ more, e ∙ append_assoc asks (head_asks asks h) more)

-- the last of two lists, where the second is not empty
last_append : (l m : List Ask) → T (not (is_nil m)) → last (l ++ m) ≡ last m
unfolding last is_nil
last_append [] m t = refl
last_append (x ∷ []) [] t = absurd t
last_append (x ∷ []) (y ∷ m) t = refl
last_append (x ∷ y ∷ l) m t = last_append (y ∷ l) m t

-- an also asks the same after more asks before the last
also_head : (before asks : List Ask) {g : Bool} {h : Head} {d : Bool} → Asking g h d → T d → T (not (is_nil asks)) → head_asks (before ++ asks) h ≡ head_asks asks h
unfolding head_asks
also_head before asks (by_ask e) t some = absurd t
also_head before asks (by_ask2 e) t some = absurd t
also_head before asks (by_also {q}) t some = ap (map (with_query q)) (last_append before asks some)

-- an ask asks the same after any
ask_head : {g : Bool} {h : Head} {d : Bool} → Asking g h d → T (not d) → (a : Ask) × ((asks : List Ask) → head_asks asks h ≡ a ∷ [])
unfolding head_asks
ask_head (by_ask e) t = (_, λ asks. refl)
ask_head (by_ask2 e) t = (_, λ asks. refl)
ask_head by_also t = absurd t

-- also lines go on from the last alone
also_asked : {g : Bool} (ls : List Line) (hs : List Head) → Pairwise (SaysThis g) ls hs → ((l : Line) → Memᴰ l ls → T (begins also_words l))
    → (before asks : List Ask) → T (not (is_nil asks)) → asked (before ++ asks) hs ≡ before ++ asked asks hs
unfolding asked
also_asked [] hs ends are before asks some = refl
also_asked (l ∷ ls) hs (pair {b = h} {m = rest} this others) are before asks some =
    let more = also_head before asks this.asking (are l (Memᴰ.head refl)) some in
    ap (λ x. asked x rest) (ap ((before ++ asks) ++◌) more ∙ append_assoc before asks (head_asks asks h))
    ∙ also_asked ls rest others (λ m i. are m (Memᴰ.tail i)) before (asks ++ head_asks asks h) (not_nil_append asks (head_asks asks h) some)

-- a chain asks the same after any asks
chain_asked : {g : Bool} (first : Line) (further : List Line) (hs : List Head) → Pairwise (SaysThis g) (first ∷ further) hs → T (not (begins also_words first))
    → ((l : Line) → Memᴰ l further → T (begins also_words l)) → (before : List Ask) → asked before hs ≡ before ++ asked [] hs
unfolding asked
chain_asked first further hs (pair {b = h} {m = rest} this others) is_ask are before =
    let (a, e) = ask_head this.asking is_ask in
    ap (λ x. asked (before ++ x) rest) (e before) ∙ also_asked further rest others are before (a ∷ []) (unfold is_nil in tt) ∙ ap (λ x. before ++ asked x rest) (sym (e []))

-- a line asks one thing more
asks_one : (asks : List Ask) {g : Bool} {h : Head} (d : Bool) → Asking g h d → (T d → T (not (is_nil asks))) → (a : Ask) × (head_asks asks h ≡ a ∷ [])
unfolding head_asks
asks_one asks d (by_ask e) some = (_, refl)
asks_one asks d (by_ask2 e) some = (_, refl)
asks_one asks d (by_also {q}) some = let (x, e) = last_some asks (some tt) in (with_query q x, ap (map (with_query q)) e)

-- something is asked after lines of which the first is an ask
append_some : {A : Type 0} (l m : List A) → T (not (is_nil m)) → T (not (is_nil (l ++ m)))
unfolding is_nil
append_some [] m t = t
append_some (x ∷ l) m t = tt

asked_some : {g : Bool} (first : Line) (further : List Line) (hs : List Head) → Pairwise (SaysThis g) (first ∷ further) hs → T (not (begins also_words first)) → T (not (is_nil (asked [] hs)))
unfolding asked
asked_some first further hs (pair {b = h} {m = rest} this others) is_ask =
    let (a, e) = ask_head this.asking is_ask in
    let (more, grown) = asked_grows rest ([] ++ head_asks [] h) in
    subst (λ l. T (not (is_nil l))) (sym (grown ∙ ap (◌++ more) (e []))) (unfold is_nil in tt)

-- ---- ask and also lines that are read

-- each says something, and that is what is asked then
heads_read : (g : Bool) (ls : List Line) (n : ℕ) (asks : List Ask) (t : State) → read_lines exclude_names n (headed g asks) ls ≡ read t
    → ((l : Line) → Memᴰ l ls → T (begins (form_words g) l)) → (hs : List Head) × Pairwise (SaysThis g) ls hs × (t ≡ headed g (asked asks hs))
unfolding asked
heads_read g [] n asks t e are = ([], ends, sym (none_read exclude_names n (headed g asks) t e))
heads_read g (line ∷ ls) n asks t e are =
    let (u, r, others) = lines_read exclude_names n (headed g asks) line ls t e in
    let b = are line (Memᴰ.head refl) in
    let (h, this) = says_this g n asks line u r b in
    let w = headed_line exclude_names n (headed g asks) u line r in
    let next : u ≡ headed g (asks ++ head_asks asks h) = ok_eq (sym r ∙ this.reads n asks (w.in_number (begins_form g line b)) (λ d. also_behind (headed g asks) w.headed w.stands d)) in
    let (hs, rest, is) = heads_read g ls (n + 1) (asks ++ head_asks asks h) t (subst (λ x. read_lines exclude_names (n + 1) x ls ≡ read t) next others) (λ l i. are l (Memᴰ.tail i)) in
    (h ∷ hs, pair this rest, is)

-- and lines that say so are read, as long as they are no more than sixteen and the first is no also
heads_go : (g : Bool) (ls : List Line) (hs : List Head) → Pairwise (SaysThis g) ls hs → (n : ℕ) (asks : List Ask) → length asks + length ls ≤ 16
    → ((line : Line) (more : List Line) → ls ≡ line ∷ more → T (begins also_words line) → T (not (is_nil asks)))
    → read_lines exclude_names n (headed g asks) ls ≡ read (headed g (asked asks hs))
unfolding asked
heads_go g [] hs ends n asks few some = unfold read_lines in refl
heads_go g (line ∷ ls) hs (pair {b = h} {m = rest} this others) n asks few some =
    let behind = some line ls refl in
    let (a, e) = asks_one asks (begins also_words line) this.asking behind in
    let next = ap (asks ++◌) e in
    let count : length (asks ++ head_asks asks h) ≡ length asks + 1 = ap length next ∙ length-append asks (a ∷ []) in
    let filled : T (not (is_nil (asks ++ head_asks asks h))) = subst (λ l. T (not (is_nil l))) (sym next) (append_not_nil asks a) in
    lines_on exclude_names n (headed g asks) (headed g (asks ++ head_asks asks h)) line ls (this.reads n asks (omega arith) behind)
    ∙ heads_go g ls rest others (n + 1) (asks ++ head_asks asks h) (omega arith) (λ l more is d. filled)

-- ---- one chain alone

-- what is read, further down, was read
unshifted : (k : ℕ) (asks : List Ask) (x : Reading) {s : State} → shifted_reading k asks x ≡ read s → (s' : State) × (x ≡ read s') × (s ≡ shifted k asks s')
unfolding shifted_reading
unshifted k asks (read t) e = (t, refl, cc)
unshifted k asks (refused_at r n) e = absurd (not_read e)

module _ (g : Bool) (asks others : List Line) (are_asks : (l : Line) → Memᴰ l asks → T (begins (form_words g) l))
    (no_asks : (l : Line) → Memᴰ l others → T (not (begins ask_words l))) (c : ChainIn asks) where
  -- the lines of the chain, and those around it, are among the asks
  chain_asks : (l : Line) → Memᴰ l (chain_lines c) → T (begins (form_words g) l)
  chain_asks l i = are_asks l (subst (λ x. Memᴰ l x) (sym c.are) (Memᴰ.append_right c.before (Memᴰ.append_left c.after i)))

  before_asks : (l : Line) → Memᴰ l c.before → T (begins (form_words g) l)
  before_asks l i = are_asks l (subst (λ x. Memᴰ l x) (sym c.are) (Memᴰ.append_left _ i))

  after_asks : (l : Line) → Memᴰ l c.after → T (begins (form_words g) l)
  after_asks l i = are_asks l (subst (λ x. Memᴰ l x) (sym c.are) (Memᴰ.append_right c.before (Memᴰ.append_right (chain_lines c) i)))

  -- the three parts of the asks, as they are read: what is asked before the chain, what it asks, what is asked after it
  record PartsRead (s : State) : Type 0 where
    earlier : List Ask
    count : length earlier ≡ length c.before
    said : List Head
    says : Pairwise (SaysThis g) (chain_lines c) said
    later : List Ask
    on : read_lines exclude_names (1 + length asks) (headed g ((earlier ++ asked [] said) ++ later)) others ≡ read s

  parts_read : (s : State) → read_lines exclude_names 1 start (asks ++ others) ≡ read s → PartsRead s
  unfolding start form_then is_nil
  parts_read s e =
      let (t, All_here, rest) = lines_split asks others 1 start s e in
      let split = subst (λ ls. read_lines exclude_names 1 start ls ≡ read t) c.are All_here in
      let (u, first, others_here) = lines_split c.before (chain_lines c ++ c.after) 1 start t split in
      let (hs, pairs, is) = heads_read g c.before 1 [] u first before_asks in
      from_before t rest u first (asked [] hs) is others_here
    where
      from_chain : (t : State) → read_lines exclude_names (1 + length asks) t others ≡ read s → (A : List Ask) → length A ≡ length c.before
          → (hs : List Head) → Pairwise (SaysThis g) (chain_lines c) hs → (n : ℕ) → read_lines exclude_names n (headed g (A ++ asked [] hs)) c.after ≡ read t → PartsRead s
      from_chain t rest A count hs pairs n after =
          let (gs, more, is) = heads_read g c.after n (A ++ asked [] hs) t after after_asks in
          let (B, grown) = asked_grows gs (A ++ asked [] hs) in
          record {
            earlier = A;
            count = count;
            said = hs;
            says = pairs;
            later = B;
            on = subst (λ x. read_lines exclude_names (1 + length asks) x others ≡ read s) (is ∙ ap (headed g) grown) rest;
          }

      from_before : (t : State) → read_lines exclude_names (1 + length asks) t others ≡ read s → (u : State) → read_lines exclude_names 1 start c.before ≡ read u
          → (A : List Ask) → u ≡ headed g A → read_lines exclude_names (1 + length c.before) u (chain_lines c ++ c.after) ≡ read t → PartsRead s
      from_before t rest u first A is here =
          let n = 1 + length c.before in
          let (v, chained, after) = lines_split (chain_lines c) c.after n (headed g A) t (subst (λ x. read_lines exclude_names n x (chain_lines c ++ c.after) ≡ read t) is here) in
          let (hs, pairs, same) = heads_read g (chain_lines c) n A v chained chain_asks in
          let count : length u.asks ≡ length c.before = as_many_asks c.before [] u (subst (λ ls. read_lines exclude_names 1 start ls ≡ read u) (sym (append-nil c.before)) first) (λ l i. begins_form g l (before_asks l i)) (λ l i. absurd (Memᴰ.not-nil i)) in
          from_chain t rest A (ap (λ (x : State). length x.asks) (sym is) ∙ count) hs pairs (n + length (chain_lines c))
          (subst (λ x. read_lines exclude_names (n + length (chain_lines c)) x c.after ≡ read t) (same ∙ ap (headed g) (chain_asked c.first c.further hs pairs c.is_ask c.are_also A)) after)

  -- the chain alone, where its lines say so
  chain_alone : (hs : List Head) → Pairwise (SaysThis g) (chain_lines c) hs → length (chain_lines c) ≤ 16
      → read_lines exclude_names 1 start (chain_lines c ++ others) ≡ read_lines exclude_names (1 + length (chain_lines c)) (headed g (asked [] hs)) others
  unfolding start form_then is_nil
  chain_alone hs pairs few =
      lines_append exclude_names (chain_lines c) others 1 start (headed g (asked [] hs))
      (heads_go g (chain_lines c) hs pairs 1 [] (omega arith) (λ line more is d. let same : c.first ≡ line = cc in absurd (T_not (begins also_words c.first) c.is_ask (rw same d))))

  -- the chain of asks that are read is read alone with the others, and is answered the same
  alone_lines : (s : State) → read_lines exclude_names 1 start (asks ++ others) ≡ read s → (k : ℕ) → length asks ≡ k + length (chain_lines c)
      → (s' : State) × (read_lines exclude_names 1 start (chain_lines c ++ others) ≡ read s') × SameAnswers (length c.before) k s s'
  alone_lines s e k count =
      let p = parts_read s e in
      let m = 1 + length (chain_lines c) in
      let C = asked [] p.said in
      let more = (p.earlier ++ C) ++ p.later in
      let some_asked = asked_some c.first c.further p.said p.says c.is_ask in
      let place : 1 + length asks ≡ m + k = omega arith in
      let on : read_lines exclude_names (m + k) (headed g more) others ≡ read s = subst (λ n. read_lines exclude_names n (headed g more) others ≡ read s) place p.on in
      let some_more : T (not (is_nil more)) = not_nil_append (p.earlier ++ C) p.later (append_some p.earlier C some_asked) in
      let down : read_lines exclude_names (m + k) (headed g more) others ≡ shifted_reading k more (read_lines exclude_names m (headed g C) others) =
      ap (λ x. read_lines exclude_names (m + k) x others) (sym (shifted_headed g k C more some_asked some_more))
      ∙ lines_shifted k more exclude_names others m (headed g C) no_asks some_more some_asked in
      let (s', reads, moves) = unshifted k more (read_lines exclude_names m (headed g C) others) (sym down ∙ on) in
      let few : length asks ≤ 16 = omega (arith, few_asks (asks ++ others) 1 s e, as_many_asks asks others s e (λ l i. begins_form g l (are_asks l i)) no_asks) in
      let stay : s'.asks ≡ C = asks_stay exclude_names others m (headed g C) s' reads no_asks in (
        s',
        chain_alone p.said p.says (omega arith) ∙ reads,
        record {
          before = p.earlier;
          after = p.later;
          asks = ap (λ (x : State). x.asks) moves ∙ append_assoc p.earlier C p.later ∙ ap (λ x. p.earlier ++ (x ++ p.later)) (sym stay);
          place = p.count;
          same = λ a. ap (λ (t : State). position t.decls t.roots a) moves ∙ lines_apart (λ n. n + k) s'.decls s'.roots a;
        },
      )

-- ---- every line is the last of a chain

-- the line at a place of a list
data Nth : List Line → ℕ → Line → Type 0 where
  here : {l : Line} {ls : List Line} → Nth (l ∷ ls) 0 l
  there : {l m : Line} {ls : List Line} {i : ℕ} → Nth ls i l → Nth (m ∷ ls) (suc i) l

nth_member : (ls : List Line) {l : Line} → Memᴰ l ls → (i : ℕ) × Nth ls i l
nth_member [] i = absurd (Memᴰ.not-nil i)
nth_member (m ∷ ls) {l} i =
    ⊎_elim (λ e. (0, subst (λ x. Nth (m ∷ ls) 0 x) (sym e) here)) (λ j. let (k, n) = nth_member ls j in (suc k, there n)) (Memᴰ.cases_cons i)

nth_below : (ls : List Line) (i : ℕ) → i < length ls → (l : Line) × Nth ls i l
nth_below [] i h = absurd (omega arith)
nth_below (m ∷ ls) zero h = (m, here)
nth_below (m ∷ ls) (suc i) h = let (l, n) = nth_below ls i (omega arith) in (l, there n)

-- a chain whose last line stands at the place, and has this line
record Chained (asks : List Line) (i : ℕ) (line : Line) : Type 0 where
  chain : ChainIn asks
  place : length chain.before + length chain.further ≡ i
  has : Memᴰ line (chain_lines chain)

-- from a chain on, line after line
walk : (asks before : List Line) (first : Line) (further rest : List Line) → asks ≡ before ++ ((first ∷ further) ++ rest) → T (not (begins also_words first))
    → ((l : Line) → Memᴰ l further → T (begins also_words l)) → (j : ℕ) {line : Line} → Nth rest j line → (i : ℕ) → length before + length further + 1 + j ≡ i
    → Chained asks i line
walk asks before first further [] e is_ask are j p i at = elim p [ ]
walk asks before first further (l ∷ rest) e is_ask are zero here i at =
    ⊎_elim
    (λ t. record {
      chain = record {
        before = before;
        first = first;
        further = further ++ (l ∷ []);
        after = rest;
        are = e ∙ ap (λ x. before ++ (first ∷ x)) (sym (append_assoc further (l ∷ []) rest));
        is_ask = is_ask;
        are_also = λ m k. ⊎_elim (are m) (λ x. subst (λ z. T (begins also_words z)) (sym (Memᴰ.eq_of_singleton x)) t) (Memᴰ.append_cases further k);
      };
      place = omega (arith, length-append further (l ∷ []));
      has = Memᴰ.tail (Memᴰ.append_right further (Memᴰ.head refl));
    })
    (λ t. record {
      chain = record {
        before = before ++ (first ∷ further);
        first = l;
        further = [];
        after = rest;
        are = e ∙ sym (append_assoc before (first ∷ further) (l ∷ rest));
        is_ask = t;
        are_also = λ m k. absurd (Memᴰ.not-nil k);
      };
      place = omega (arith, length-append before (first ∷ further));
      has = Memᴰ.head refl;
    })
    (T_dec (begins also_words l))
walk asks before first further (l ∷ rest) e is_ask are (suc j) (there n) i at =
    ⊎_elim
    (λ t. walk asks before first (further ++ (l ∷ [])) rest (e ∙ ap (λ x. before ++ (first ∷ x)) (sym (append_assoc further (l ∷ []) rest))) is_ask
    (λ m k. ⊎_elim (are m) (λ x. subst (λ z. T (begins also_words z)) (sym (Memᴰ.eq_of_singleton x)) t) (Memᴰ.append_cases further k)) j n i (omega (arith, length-append further (l ∷ []))))
    (λ t. walk asks (before ++ (first ∷ further)) l [] rest (e ∙ sym (append_assoc before (first ∷ further) (l ∷ rest))) t
    (λ m k. absurd (Memᴰ.not-nil k)) j n i (omega (arith, length-append before (first ∷ further))))
    (T_dec (begins also_words l))

chained : (asks : List Line) → AskFirst asks → (i : ℕ) {line : Line} → Nth asks i line → Chained asks i line
chained [] first i p = elim p [ ]
chained (l ∷ rest) first zero here =
    record {
      chain = record { before = []; first = l; further = []; after = rest; are = refl; is_ask = first l rest refl; are_also = λ m k. absurd (Memᴰ.not-nil k) };
      place = refl;
      has = Memᴰ.head refl;
    }
chained (l ∷ rest) first (suc j) (there n) = walk (l ∷ rest) [] l [] rest refl (first l rest refl) (λ m k. absurd (Memᴰ.not-nil k)) j n (suc j) (omega arith)

-- ---- chains together

-- what one of two lists that are related one by one has is related to something
pair_member : {g : Bool} {hs : List Head} (ls : List Line) → Pairwise (SaysThis g) ls hs → {line : Line} → Memᴰ line ls → (h : Head) × SaysThis g line h
pair_member [] p i = absurd (Memᴰ.not-nil i)
pair_member {g} (l ∷ ls) (pair {b = h} this others) i =
    ⊎_elim (λ e. (h, subst (λ x. SaysThis g x h) (sym e) this)) (λ j. pair_member ls others j) (Memᴰ.cases_cons i)

-- lines of which each says something
all_say : {g : Bool} (ls : List Line) → ((l : Line) → Memᴰ l ls → (h : Head) × SaysThis g l h) → (hs : List Head) × Pairwise (SaysThis g) ls hs
all_say [] each = ([], ends)
all_say (l ∷ ls) each =
    let (h, this) = each l (Memᴰ.head refl) in
    let (hs, others) = all_say ls (λ m i. each m (Memᴰ.tail i)) in
    (h ∷ hs, pair this others)

module _ (g : Bool) (asks others : List Line) (are_asks : (l : Line) → Memᴰ l asks → T (begins (form_words g) l))
    (no_asks : (l : Line) → Memᴰ l others → T (not (begins ask_words l))) where
  -- a chain that is read with the others: what its lines say, and how the others are read after it
  chain_said : (c : ChainIn asks) (s' : State) → read_lines exclude_names 1 start (chain_lines c ++ others) ≡ read s'
      → (hs : List Head) × Pairwise (SaysThis g) (chain_lines c) hs × (read_lines exclude_names (1 + length (chain_lines c)) (headed g (asked [] hs)) others ≡ read s')
  unfolding start form_then is_nil
  chain_said c s' e =
      let (u, chained_here, rest) = lines_split (chain_lines c) others 1 start s' e in
      let (hs, pairs, is) = heads_read g (chain_lines c) 1 [] u chained_here (chain_asks g asks others are_asks no_asks c) in
      (hs, pairs, subst (λ x. read_lines exclude_names (1 + length (chain_lines c)) x others ≡ read s') is rest)

  -- lines of which each chain is read with the others are read together
  together_lines : 1 ≤ length asks → length asks ≤ 16 → AskFirst asks → ChainsRead asks others
      → (s : State) × (read_lines exclude_names 1 start (asks ++ others) ≡ read s)
  unfolding start form_then is_nil shifted_reading
  together_lines some few first each =
      let said : (l : Line) → Memᴰ l asks → (h : Head) × SaysThis g l h =
      λ l i. let (k, n) = nth_member asks i in
      let ch = chained asks first k n in
      let (s', e) = each ch.chain in
      let (hs, pairs, rest) = chain_said ch.chain s' e in
      pair_member (chain_lines ch.chain) pairs ch.has in
      let (hs, pairs) = all_say asks said in
      let (line, n) = nth_below asks 0 some in
      let c = (chained asks first 0 n).chain in
      let (s', e) = each c in
      let (gs, chain_pairs, rest) = chain_said c s' e in
      let m = 1 + length (chain_lines c) in
      let k = length asks - length (chain_lines c) in
      let whole = ap length c.are ∙ length-append c.before (chain_lines c ++ c.after) ∙ ap (length c.before +◌) (length-append (chain_lines c) c.after) in
      let place : 1 + length asks ≡ m + k = omega arith in
      let chain_asked_some = asked_some c.first c.further gs chain_pairs c.is_ask in
      let down : read_lines exclude_names (m + k) (headed g (asked [] hs)) others ≡ shifted_reading k (asked [] hs) (read_lines exclude_names m (headed g (asked [] gs)) others) =
      ap (λ x. read_lines exclude_names (m + k) x others) (sym (shifted_headed g k (asked [] gs) (asked [] hs) chain_asked_some (some_asked hs pairs)))
      ∙ lines_shifted k (asked [] hs) exclude_names others m (headed g (asked [] gs)) no_asks (some_asked hs pairs) chain_asked_some in
      let on : read_lines exclude_names (1 + length asks) (headed g (asked [] hs)) others ≡ read (shifted k (asked [] hs) s') =
      subst (λ n. read_lines exclude_names n (headed g (asked [] hs)) others ≡ read (shifted k (asked [] hs) s')) (sym place) (down ∙ ap (shifted_reading k (asked [] hs)) rest) in (
        shifted k (asked [] hs) s',
        lines_append exclude_names asks others 1 start (headed g (asked [] hs))
            (heads_go g asks hs pairs 1 [] (omega arith) (λ l more is d. absurd (T_not (begins also_words l) (first l more is) d))) ∙ on,
      )
    where
      some_asked : (hs : List Head) → Pairwise (SaysThis g) asks hs → T (not (is_nil (asked [] hs)))
      some_asked hs pairs = go asks refl pairs
        where
          go : (ls : List Line) → asks ≡ ls → Pairwise (SaysThis g) ls hs → T (not (is_nil (asked [] hs)))
          go [] e p = absurd (omega (arith, some, ap length e))
          go (l ∷ ls) e p = asked_some l ls hs p (first l ls e)

-- ---- files

-- the lines of an accepted file are a day's
pub accepted_day : AcceptedDay
accepted_day file s e =
    let w = split_file file s e in
    (w.asks, w.hides ++ w.others, record { are = w.are; are_asks = w.are_asks; no_asks = w.no_asks }, w.count)

-- the lines of a file that is read, as a day's
day_read : (file : List ℕ) (s : State) → LinesRead file s → {asks others : List Line} → Day (lines file) asks others → read_lines exclude_names 1 start (asks ++ others) ≡ read s
day_read file s e day = subst (λ ls. read_lines exclude_names 1 start ls ≡ read s) day.are (file_read exclude_names file s e)

-- every line of the asks is the last of a chain
pub each_chained : EachChained
each_chained file s e asks others day i h =
    let (line, n) = nth_below asks i h in
    let first : AskFirst asks = λ l more is. first_no_also l (more ++ others) s (subst (λ ls. read_lines exclude_names 1 start ls ≡ read s) (ap (◌++ others) is) (day_read file s e day)) in
    let ch = chained asks first i n in
    (ch.chain, ch.place)

-- each answer is that of the file with its chain alone
pub asked_alone : AskedAlone
asked_alone file s e asks others day c k count file' are =
    let whole = day_read file s e day in
    let (s', reads, same) = alone_lines s.grouped asks others (form_front asks others s whole day.are_asks day.no_asks) day.no_asks c s whole k count in (
      s',
      read_by_lines file' (λ none. cons-ne-nil c.first (c.further ++ others) (sym are ∙ none)) ∙ ap (read_lines exclude_names 1 start) are ∙ reads,
      as_many_asks (chain_lines c) others s' reads (λ l i. day.are_asks l (subst (λ x. Memᴰ l x) (sym c.are) (Memᴰ.append_right c.before (Memᴰ.append_left c.after i)))) day.no_asks,
      same,
    )

-- files of one chain each make one that is accepted and answers what they do
pub asked_together : AskedTogether
asked_together file asks others day some few first (g, form) each =
    let (s, e) = together_lines g asks others form day.no_asks some few first each in
    let has_line : lines file ≢ [] = λ none. absurd (no_line asks some (sym day.are ∙ none)) in (
      s,
      read_by_lines file has_line ∙ ap (read_lines exclude_names 1 start) day.are ∙ e,
      λ c k s' count alone.
          let (t, reads, same) = alone_lines g asks others form day.no_asks c s e k count in
          let is : t ≡ s' = cc in
          subst (λ x. SameAnswers (length c.before) k s x) is same,
    )
  where
    no_line : (ls : List Line) → 1 ≤ length ls → ls ++ others ≡ [] → ⊥
    no_line [] h e = omega arith
    no_line (l ∷ ls) h e = cons-ne-nil l (ls ++ others) e

-- ---- the file of the lines

-- lines behind others
parted_tail : {l : Line} {ls : List Line} → Parted (l ∷ ls) → Parted ls
parted_tail (unended e h) = none
parted_tail (ended e p) = p

parted_behind : (ls others : List Line) → Parted (ls ++ others) → Parted others
parted_behind [] others p = p
parted_behind (l ∷ ls) others p = parted_behind ls others (parted_tail p)

-- a line in front of those behind others
parted_front : (l : Line) (ls others : List Line) → Parted (l ∷ (ls ++ others)) → Parted (l ∷ others)
parted_front l [] others p = p
parted_front l (m ∷ ls) others (ended e p) = ended e (parted_behind (m ∷ ls) others p)

-- lines without some in their middle
parted_less : (ls mid others : List Line) → Parted (ls ++ (mid ++ others)) → Parted (ls ++ others)
parted_less [] mid others p = parted_behind mid others p
parted_less (l ∷ []) mid others p = parted_front l mid others p
parted_less (l ∷ m ∷ ls) mid others (ended e p) = ended e (parted_less (m ∷ ls) mid others p)

-- the lines of a day, in four parts
day_parts : {asks : List Line} (others : List Line) (c : ChainIn asks) → asks ++ others ≡ c.before ++ (chain_lines c ++ (c.after ++ others))
day_parts others c =
    ap (◌++ others) c.are ∙ append_assoc c.before (chain_lines c ++ c.after) others ∙ ap (c.before ++◌) (append_assoc (chain_lines c) c.after others)

-- there is a file with one chain alone
pub alone_file : AloneFile
alone_file file asks others day c =
    let w = (lines_exact file (asks ++ others)).0 day.are in
    let ls = chain_lines c ++ others in
    let parts = day_parts others c in
    let file' = collect line_bytes ls in (
      file',
      (lines_exact file' ls).1 (record {
        together = refl;
        without_0a = λ l j. w.without_0a l (subst (λ x. Memᴰ l x) (sym parts) (Memᴰ.append_right c.before
            (⊎_elim (λ i. Memᴰ.append_left (c.after ++ others) i) (λ i. Memᴰ.append_right (chain_lines c) (Memᴰ.append_right c.after i)) (Memᴰ.append_cases (chain_lines c) j))));
        parted = parted_less (chain_lines c) c.after others (parted_behind c.before (chain_lines c ++ (c.after ++ others)) (subst Parted parts w.parted));
      }),
    )

-- ---- calls

-- the bytes of some lines
abbrev byte_count : List Line → ℕ
byte_count ls = length (collect line_bytes ls)

byte_append : (ls ms : List Line) → byte_count (ls ++ ms) ≡ byte_count ls + byte_count ms
byte_append ls ms = ap length (collect_append line_bytes ls ms) ∙ length-append (collect line_bytes ls) (collect line_bytes ms)

-- a part of a file is no longer than it
file_less : (file file' : List ℕ) (asks others : List Line) (c : ChainIn asks) → lines file ≡ asks ++ others → lines file' ≡ chain_lines c ++ others → length file' ≤ length file
file_less file file' asks others c e d =
    let whole : length file ≡ byte_count (c.before ++ (chain_lines c ++ (c.after ++ others))) = ap length (sym ((lines_exact file (asks ++ others)).0 e).together) ∙ ap byte_count (day_parts others c) in
    let part : length file' ≡ byte_count (chain_lines c ++ others) = ap length (sym ((lines_exact file' (chain_lines c ++ others)).0 d).together) in
    omega (
      arith,
      whole,
      part,
      byte_append c.before (chain_lines c ++ (c.after ++ others)),
      byte_append (chain_lines c) (c.after ++ others),
      byte_append c.after others,
      byte_append (chain_lines c) others,
    )

-- the sum over a part of a list is at most that over the list
sum_part : {A : Type 0} (f : A → ℕ) (l m n : List A) → sum (map f m) ≤ sum (map f (l ++ (m ++ n)))
sum_part f l m n = omega (arith, sum_map_append f l (m ++ n), sum_map_append f m n)

-- what stands at a place of a list that a function made
at_unmap : {A B : Type 0} (f : A → B) (l : List A) {j : ℕ} {y : B} → At (map f l) j y → (x : A) × At l j x × (f x ≡ y)
at_unmap {A} {B} f l {j} {y} at = go l at.before at.are at.place
  where
    tail_eq : {a b : B} {l m : List B} → a ∷ l ≡ b ∷ m → l ≡ m
    tail_eq e = cc

    go : (l : List A) (before : List B) → map f l ≡ before ++ (y ∷ at.after) → {j : ℕ} → length before ≡ j → (x : A) × At l j x × (f x ≡ y)
    go [] [] e p = absurd (cons-ne-nil y at.after (sym e))
    go [] (b ∷ bs) e p = absurd (cons-ne-nil b (bs ++ (y ∷ at.after)) (sym e))
    go (x ∷ l) [] e p = (x, record { before = []; after = l; are = refl; place = p }, cc)
    go (x ∷ l) (b ∷ bs) e p =
        let (w, found, is) = go l bs (tail_eq e) refl in
        (w, record { before = x ∷ found.before; after = found.after; are = ap (x ∷◌) found.are; place = ap suc found.place ∙ p }, is)

-- what stands at a place of a part stands in the whole
at_part : {A : Type 0} (l m n : List A) {j : ℕ} {x : A} → At m j x → At (l ++ (m ++ n)) (length l + j) x
at_part l m n {j} {x} at =
    let place = at.place in
    record {
      before = l ++ at.before;
      after = at.after ++ n;
      are = ap (λ z. l ++ (z ++ n)) at.are ∙ ap (l ++◌) (append_assoc at.before (x ∷ at.after) n) ∙ sym (append_assoc l at.before (x ∷ (at.after ++ n)));
      place = omega (arith, length-append l at.before);
    }

-- what the file answers at the places of the other
answered_at : (i k : ℕ) (s s' : State) → SameAnswers i k s s' → {ps : List Position} → ps ≡ filtered s → (j : ℕ) (a : Ask) → At s'.asks j a
    → At ps (i + j) (moved_position (λ n. n + k) (position s'.decls s'.roots a))
unfolding filtered
answered_at i k s s' same {ps} is j a at =
    let whole : At s.asks (length same.before + j) a = subst (λ l. At l (length same.before + j) a) (sym same.asks) (at_part same.before s'.asks same.after at) in
    let found : At (map (position s.decls s.roots) s.asks) (length same.before + j) (position s.decls s.roots a) = at_map (position s.decls s.roots) whole in
    subst (λ l. At l (i + j) (moved_position (λ n. n + k) (position s'.decls s'.roots a))) (sym is)
    (subst (λ x. At (map (position s.decls s.roots) s.asks) (i + j) x) (same.same a)
    (subst (λ n. At (map (position s.decls s.roots) s.asks) (n + j) (position s.decls s.roots a)) same.place found))

-- over the same slices the file with one chain is answered too
pub answered_alone : AnsweredAlone
unfolding filtered position moved_position
answered_alone file works room ps e asks others day c k count file' are =
    let (j, (s, accepted, pairs, fits)) = (list_given file works room ps).0 e in
    let (s', accepted', many, same) = asked_alone file s accepted asks others day c k count file' are in
    let short = file_less file file' asks others c day.are are in
    let size : (a : Ask) → length (followed_list a s) ≡ length (followed_list a s') =
    λ a. ap (λ (p : Position). length p.kept) (same.same a) ∙ map_length (λ n. n + k) (followed_list a s') in
    let sizes : all_lengths s' ≡ sum (map (λ a. length (followed_list a s)) s'.asks) = ap sum (map_cong (λ a. length (followed_list a s')) (λ a. length (followed_list a s)) s'.asks (λ a i. sym (size a))) in
    let whole : all_lengths s ≡ sum (map (λ a. length (followed_list a s)) (same.before ++ (s'.asks ++ same.after))) = ap (λ l. sum (map (λ a. length (followed_list a s)) l)) same.asks in
    let all : all_lengths s' ≤ room = omega (arith, sizes, whole, fits, sum_part (λ a. length (followed_list a s)) same.before s'.asks same.after) in
    let judged : LinesJudged file' works = record { long_slices = j.long_slices; fits = omega (arith, j.fits) } in (
      filtered s',
      (list_given file' works room (filtered s')).1 (judged, (s', accepted', filtered_answers s', all)),
      map_length (position s'.decls s'.roots) s'.asks ∙ many,
      λ i p at.
          let (a, found, is) = at_unmap (position s'.decls s'.roots) s'.asks at in
          subst (λ x. At ps (length c.before + i) (moved_position (λ n. n + k) x)) is (answered_at (length c.before) k s s' same (answers_filtered s pairs) i a found),
    )

-- files of one chain each make one that is answered with what they come to
pub answered_together : AnsweredTogether
unfolding filtered
answered_together file works room judged asks others day some few first form each fits =
    let (s, accepted, same) = asked_together file asks others day some few first form each in (
      filtered s,
      (list_given file works room (filtered s)).1 (judged, (s, accepted, filtered_answers s, fits s accepted)),
      map_length (position s.decls s.roots) s.asks ∙ as_many_asks asks others s (day_read file s accepted day) day.are_asks day.no_asks,
      λ c k s' count alone j a at. answered_at (length c.before) k s s' (same c k s' count alone) refl j a at,
    )
