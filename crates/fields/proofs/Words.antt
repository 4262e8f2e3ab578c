-- Laws of words: the key of a field and what it stands for, the kind of a line, the number of its fields.
use Prim.Native.Nat.{ℕ, zero, suc, ◌+◌, ◌-◌, ◌*◌, ◌≤◌, ◌<◌}
use Prim.Native.String.{String}
use native.Mathlib.Omega.{arith}
use mathlib.Core.Path.{◌≡◌, refl, sym, ap, ap₂, ◌∙◌}
use mathlib.Core.Bool.{Bool, true, false, cond, not, ◌&&◌, beq, and-eq-true_iff}
use mathlib.Core.Logic.{◌⊎◌, inl, inr}
use mathlib.Core.List.{List, [], ◌∷◌}
use Rattle.std.specs.Prelude.{Option, None as none, Some as some}
use lib.ListN.{length, get_or}
use lib.Dec.{leb, ltb, eqb, eqb→eq, eqb_refl}
use borrow.Author.Tests.{eq-eqb, ne_eqb, ltb-true, leb-true}
use Rattle.model.specs.Lists.{all, holds, part}
use Rattle.model.specs.Names.{bytes, same}
use Rattle.model.specs.Lines.{Field}
use Rattle.model.specs.Reading.{Result, ok, refused, ◌>>=◌, need, next, word, op_words, kinds, State, an_ask, another, in_head, in_asks, of_form, place, may_stand, is_position, most_asks, kind_field, fixed_count, content, parse}
use Rattle.model.specs.declared.Counts.{Counts}
use Rattle.model.specs.declared.Op.{Op}
use Rattle.model.specs.declared.LineKind.{LineKind}
use Rattle.model.specs.declared.Refusal.{Refusal}
use Rattle.model.specs.declared.Refusal.TheVariants as refusal
use Rattle.model.proofs.PartLaws.{part_cons, part_nil}
use Rattle.model.proofs.ListLaws.{T_ext}
use Rattle.model.proofs.SetLaws.{same_eq, eq_same}
use Rattle.text.proofs.Laws.{same_sized}
use Rattle.fields.specs.declared.TermKind.{TermKind}
use Rattle.fields.specs.declared.TermKind.TheVariants as termed
use Rattle.fields.specs.declared.RecordKind.{RecordKind}
use Rattle.fields.specs.declared.RecordKind.TheVariants as recorded
use Rattle.fields.specs.declared.Kind.{Kind}
use Rattle.fields.specs.declared.Kind.TheVariants as kinded
use Rattle.fields.specs.Wording.{ask_line_kind, key_from, key_of, is_byte, longest_word, is_short, Keyed, look, term_kind, record_line_kind, known_kind, kind_result, stands, over, Placing, fixed_of, well_counted}

-- ---- keys

-- bytes put after a number make no smaller one
key_grows : (n : ℕ) (l : List ℕ) → n ≤ key_from n l
unfolding key_from
key_grows n [] = omega arith
key_grows n (b ∷ bs) = omega (arith, key_grows (n * 256 + b) bs)

-- bytes of which all are bytes: the first is, and the others are
byte_first : (b : ℕ) (bs : List ℕ) → all is_byte (b ∷ bs) ≡ true → (b < 256) × (all is_byte bs ≡ true)
unfolding all is_byte
byte_first b bs h = let (x, y) = (and-eq-true_iff (ltb b 256) (all is_byte bs)).0 h in (ltb-true b 256 x, y)

-- bytes that make one number after numbers of the same size are the same
key_same : (m n : ℕ) (f g : List ℕ) → all is_byte f ≡ true → all is_byte g ≡ true → m < n * 256 → n < m * 256
    → key_from m f ≡ key_from n g → (m ≡ n) × (f ≡ g)
unfolding key_from
key_same m n [] [] p q h k e = (e, refl)
key_same m n [] (b ∷ bs) p q h k e = absurd (omega (arith, key_grows (n * 256 + b) bs))
key_same m n (a ∷ l) [] p q h k e = absurd (omega (arith, key_grows (m * 256 + a) l))
key_same m n (a ∷ l) (b ∷ bs) p q h k e =
    let (x, xs) = byte_first a l p in
    let (y, ys) = byte_first b bs q in
    let (d, rest) = key_same (m * 256 + a) (n * 256 + b) l bs xs ys (omega arith) (omega arith) e in
    (omega arith, ap₂ ◌∷◌ (omega arith) rest)

-- a field's own key tells it from every word
pub key_short : (f : Field) {key : ℕ} → all is_byte f ≡ true → key ≡ key_of f → Keyed f key
unfolding key_of is_short
key_short f {key} p e = record { tells = λ w h. tell w ((and-eq-true_iff (leb (length w) longest_word) (all is_byte w)).0 h).1 }
  where
    tell : (w : Field) → all is_byte w ≡ true → same f w ≡ eqb key (key_of w)
    tell w q = rw e
        (T_ext (λ t. rw (same_eq t) (eqb_refl (key_from 1 w)))
        (λ t. eq_same (key_same 1 1 f w p q (omega arith) (omega arith) (eqb→eq (key_from 1 f) (key_from 1 w) t)).1))

-- a part that is longer than any word is none
pub key_long : (s : List ℕ) (a e : ℕ) → e ≤ length s → longest_word < e - a → Keyed (part s a e) 0
unfolding key_of is_short
key_long s a e k h = record { tells = tell }
  where
    tell : (w : Field) → is_short w ≡ true → same (part s a e) w ≡ eqb 0 (key_of w)
    tell w t =
        let l = leb-true (length w) longest_word ((and-eq-true_iff (leb (length w) longest_word) (all is_byte w)).0 t).0 in
        same_sized s a e w k (λ d. omega arith) ∙ sym (ne_eqb 0 (key_from 1 w) (λ d. omega (arith, key_grows 1 w)))

-- how large the key of n bytes is at most
unfoldable pub weight : ℕ → ℕ
weight zero = 2
weight (suc n) = weight n * 256

-- the key before any byte is 1
pub weight_start : (a : ℕ) → 1 < weight (a - a)
unfolding weight
weight_start a =
    let n : a - a ≡ 0 = omega arith in
    rw n (omega arith)

-- fewer bytes, a smaller key
weight_le : (m n : ℕ) → m ≤ n → weight m ≤ weight n
unfolding weight
weight_le zero zero h = omega arith
weight_le zero (suc n) h = omega (arith, weight_le zero n (omega arith))
weight_le (suc m) zero h = absurd (omega arith)
weight_le (suc m) (suc n) h = omega (arith, weight_le m n (omega arith))

-- another byte finds room
pub weight_room : (a i e : ℕ) → i < e → e - a ≤ longest_word → weight (i - a) ≤ 2199023255552
unfolding weight
weight_room a i e h k = weight_le (i - a) 5 (omega arith)

-- and goes into the key
pub weight_on : (key b a i : ℕ) → a ≤ i → key < weight (i - a) → b < 256 → key * 256 + b < weight (i + 1 - a)
unfolding weight
weight_on key b a i h k l =
    let n : i + 1 - a ≡ suc (i - a) = omega arith in
    rw n (omega arith)

-- a part from i up to e with bytes left: the byte at i goes into the key
pub key_on : (s : List ℕ) (i e key : ℕ) → i < e → e ≤ length s
    → key_from key (part s i e) ≡ key_from (key * 256 + get_or s i 0) (part s (i + 1) e)
unfolding key_from
key_on s i e key h k = rw (part_cons s i e h k)

-- one with no byte left: the key is made
pub key_end : (s : List ℕ) (i e key : ℕ) → e ≤ i → key_from key (part s i e) ≡ key
unfolding key_from
key_end s i e key h = rw (part_nil s i e h)

module _ {A : Type 0} where
  -- whether every word of a list is short
  unfoldable pub are_short : List (String × A) → Bool
  are_short [] = true
  are_short ((w, a) ∷ ws) = is_short (bytes w) && are_short ws

  -- what a field stands for is what its key stands for
  word_look : (ws : List (String × A)) (f : Field) {key : ℕ} → are_short ws ≡ true → Keyed f key → word ws f ≡ look ws key
  unfolding word look are_short
  word_look [] f h k = refl
  word_look ((w, a) ∷ ws) f h k =
      let (x, xs) = (and-eq-true_iff (is_short (bytes w)) (are_short ws)).0 h in
      rw (k.tells (bytes w) x, word_look ws f xs k)

-- ---- the kind of a line

-- where a term line may stand
term_place : (t : TermKind) → place (term_kind t) ≡ another
unfolding place term_kind
term_place termed.Free = refl
term_place termed.Leaf = refl
term_place termed.Call = refl
term_place termed.Op = refl
term_place termed.All = refl
term_place termed.Some = refl
term_place termed.Let = refl
term_place termed.Label = refl

-- and where a record line may
record_place : (r : RecordKind) → place (record_line_kind r) ≡ another
unfolding place record_line_kind
record_place recorded.Assume = refl
record_place recorded.Fun = refl
record_place recorded.Def = refl
record_place recorded.Retain = refl
record_place recorded.Root = refl

module _ {s : State} {k : Counts} (p : Placing s k) where
  -- there is a term line
  pub head_past : (k.terms ≡ 0 → ⊥) → false ≡ in_head s
  unfolding in_head
  head_past h = rw (p.no_terms, ne_eqb k.terms 0 h)

  -- there is none
  pub head_there : k.terms ≡ 0 → eqb k.records k.hides ≡ in_head s
  unfolding in_head
  head_there h = rw (p.no_terms, eq-eqb k.terms 0 h) (sym p.no_records)

  module _ {b : Bool} (e : b ≡ in_head s) where
    -- nothing but ask, also and hide lines: asks and also lines alone where there is no hide line
    pub asks_there : b ≡ true → eqb k.hides 0 ≡ in_asks s
    unfolding in_asks
    asks_there h = rw (← e, h) (sym p.no_hidden)

    -- and else they are not alone
    pub asks_past : b ≡ false → false ≡ in_asks s
    unfolding in_asks
    asks_past h = rw (← e, h)

    -- a hide line may stand behind an ask
    pub stands_hide : b ≡ true → not (eqb k.asks 0) ≡ stands s kinded.Hide
    unfolding stands known_kind place may_stand
    stands_hide h = rw (← e, h, p.no_asks)

    -- and nowhere else
    pub stands_hide_not : b ≡ false → false ≡ stands s kinded.Hide
    unfolding stands known_kind place may_stand
    stands_hide_not h = rw (← e, h)

  module _ {b : Bool} (e : b ≡ in_asks s) where
    -- an ask of either form before every other
    pub ask_first : b ≡ true → k.asks ≡ 0 → (grouped : Bool) → true ≡ may_stand s (an_ask grouped)
    unfolding may_stand of_form
    ask_first h n grouped = rw (← e, h, p.no_asks, eq-eqb k.asks 0 n)

    -- behind one, one of its form
    pub ask_alike : b ≡ true → (k.asks ≡ 0 → ⊥) → (grouped : Bool) → beq grouped k.grouped ≡ may_stand s (an_ask grouped)
    unfolding may_stand of_form
    ask_alike h n grouped = rw (← e, h, p.no_asks, ne_eqb k.asks 0 n, p.form)

    -- and none behind other lines
    pub ask_not : b ≡ false → (grouped : Bool) → false ≡ may_stand s (an_ask grouped)
    unfolding may_stand
    ask_not h grouped = rw (← e, h)

    -- an also line may stand behind an ask
    pub stands_also : b ≡ true → not (eqb k.asks 0) ≡ stands s kinded.Also
    unfolding stands known_kind place may_stand
    stands_also h = rw (← e, h, p.no_asks)

    -- and nowhere else
    pub stands_also_not : b ≡ false → false ≡ stands s kinded.Also
    unfolding stands known_kind place may_stand
    stands_also_not h = rw (← e, h)

  -- a line behind an ask
  later : not (eqb k.asks 0) ≡ may_stand s another
  unfolding may_stand
  later = ap not (sym p.no_asks)

  -- a term or record line may stand behind an ask
  pub stands_later : {line : Kind} → ((t : TermKind) × (line ≡ kinded.Term t)) ⊎ ((r : RecordKind) × (line ≡ kinded.Record r))
      → not (eqb k.asks 0) ≡ stands s line
  unfolding stands known_kind
  stands_later (inl (t, e)) = rw e (later ∙ ap (may_stand s) (sym (term_place t)))
  stands_later (inr (r, e)) = rw e (later ∙ ap (may_stand s) (sym (record_place r)))

  -- an ask or also line more than may be
  pub over_position : {line : Kind} → ((grouped : Bool) × (line ≡ kinded.Ask grouped)) ⊎ (line ≡ kinded.Also) → leb most_asks k.asks ≡ over s line
  unfolding over known_kind place is_position ask_line_kind
  over_position (inl (true, e)) = rw (e, p.asks)
  over_position (inl (false, e)) = rw (e, p.asks)
  over_position (inr e) = rw (e, p.asks)

-- an ask line of either form
pub stands_ask : (s : State) (grouped : Bool) → may_stand s (an_ask grouped) ≡ stands s (kinded.Ask grouped)
unfolding stands known_kind place ask_line_kind
stands_ask s true = refl
stands_ask s false = refl

-- no other line is a position
pub over_other : (s : State) {line : Kind}
    → (line ≡ kinded.Hide) ⊎ (((t : TermKind) × (line ≡ kinded.Term t)) ⊎ ((r : RecordKind) × (line ≡ kinded.Record r))) → false ≡ over s line
unfolding over known_kind place is_position
over_other s (inl e) = rw e
over_other s (inr (inl (t, e))) = rw (e, term_place t)
over_other s (inr (inr (r, e))) = rw (e, record_place r)

-- a known kind: 1 where it may not stand, then 13
abbrev judged_kind : State → LineKind → Result LineKind
judged_kind s k =
    cond (may_stand s (place k)) (ok k) (refused refusal.Form)
    >>= λ placed. cond (is_position (place placed) && leb most_asks (length s.asks)) (refused refusal.FullAsks) (ok placed)

placed_kind : (s : State) (k : LineKind) (b : Bool)
    → (cond b (ok k) (refused refusal.Form)
    >>= λ placed. cond (is_position (place placed) && leb most_asks (length s.asks)) (refused refusal.FullAsks) (ok placed))
    ≡ cond b (cond (is_position (place k) && leb most_asks (length s.asks)) (refused refusal.FullAsks) (ok k)) (refused refusal.Form)
placed_kind s k true = refl
placed_kind s k false = refl

module _ {key : ℕ} (f : Field) (d : Keyed f key) (r : Result Kind) (e : kind_result r ≡ need refusal.Form (look kinds key)) (s : State) where
  -- the kind of a line by the key of its first field
  kind_key : kind_field s f ≡ (kind_result r >>= judged_kind s)
  unfolding kind_field kinds are_short is_short is_byte all bytes
  kind_key =
      ap (λ (x : Result LineKind). x >>= judged_kind s)
      (ap (need refusal.Form) (word_look kinds f refl d) ∙ sym e)

  module _ {k : Kind} (q : r ≡ ok k) where
    -- a kind that is known
    kind_known : kind_field s f ≡ cond (stands s k) (cond (over s k) (refused refusal.FullAsks) (ok (known_kind k))) (refused refusal.Form)
    unfolding kind_result stands over
    kind_known = kind_key ∙ rw q (placed_kind s (known_kind k) (may_stand s (place (known_kind k))))

    -- it may stand
    pub kind_there : true ≡ stands s k → false ≡ over s k → kind_result (ok k) ≡ kind_field s f
    unfolding kind_result
    kind_there t o = sym (rw (← t, ← o) at kind_known)

    -- it is one too many
    pub kind_over : true ≡ stands s k → true ≡ over s k → kind_result (refused refusal.FullAsks) ≡ kind_field s f
    unfolding kind_result
    kind_over t o = sym (rw (← t, ← o) at kind_known)

    -- it may not
    pub kind_not : false ≡ stands s k → kind_result (refused refusal.Form) ≡ kind_field s f
    unfolding kind_result
    kind_not t = sym (rw (← t) at kind_known)

  -- a kind that is not known
  pub kind_unknown : {x : Refusal} → r ≡ refused x → kind_result (refused x) ≡ kind_field s f
  unfolding kind_result
  kind_unknown q = sym (rw q at kind_key)

-- ---- op words

-- the op word with the key of a field
pub op_key : {key : ℕ} {o : Option Op} (f : Field) → Keyed f key → o ≡ look op_words key → o ≡ word op_words f
unfolding op_words are_short is_short is_byte all bytes
op_key f k h = h ∙ sym (word_look op_words f refl k)

-- ---- the number of fields

-- an assume has one field more in the form with groups
pub assume_count : {s : State} {k : Counts} → Placing s k → some (cond k.grouped 5 4) ≡ fixed_of s (kinded.Record recorded.Assume)
unfolding fixed_of known_kind record_line_kind fixed_count
assume_count p = rw p.form refl

module _ (s : State) (k : Kind) (fs : List Field) {r : Option ℕ} (p : r ≡ fixed_of s k) where
  -- a count that is not fixed
  pub count_free : r ≡ none → true ≡ well_counted s (ok k) fs
  unfolding well_counted holds
  count_free e = rw (sym p ∙ e)

  -- a count that is
  pub count_fixed : {m n : ℕ} → m ≡ length fs → r ≡ some n → eqb m n ≡ well_counted s (ok k) fs
  unfolding well_counted holds
  count_fixed {m} {n} d e = rw (d, sym p ∙ e) (twice (eqb (length fs) n))
    where
      twice : (b : Bool) → b ≡ not (not b)
      twice true = refl
      twice false = refl

-- whether a line has another number of fields than its kind asks for
abbrev wrong : State → List Field → LineKind → Bool
wrong s fs k = holds (λ n. not (eqb (length fs) n)) (fixed_count s k)

-- a choice the other way round
turned : {A : Type 0} (b : Bool) (x y : A) → cond b x y ≡ cond (not b) y x
turned true x y = refl
turned false x y = refl

module _ (s : State) (f : Field) (fs : List Field) where
  -- a line by its kind and the number of its fields
  pub parse_law : {grouped : Bool} {count : ℕ} (k : Kind) → s.grouped ≡ grouped → length s.terms ≡ count → ok (known_kind k) ≡ kind_field s f
      → parse s (f ∷ fs) ≡ cond (well_counted s (ok k) (f ∷ fs)) (content (known_kind k) grouped count fs) (refused refusal.Form)
  unfolding parse next well_counted fixed_of
  parse_law k g d e =
      rw (← e, ← g, ← d)
      (turned (wrong s (f ∷ fs) (known_kind k)) (refused refusal.Form) (content (known_kind k) s.grouped (length s.terms) fs))

  -- a line without a kind
  pub parse_refused : {x : Refusal} → refused x ≡ kind_field s f → parse s (f ∷ fs) ≡ refused x
  unfolding parse next
  parse_refused e = rw (← e) refl
