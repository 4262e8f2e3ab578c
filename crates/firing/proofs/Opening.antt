-- The macro column says what the macros of the background open to.
use Prim.Native.Nat.{ℕ, zero, suc, ◌+◌, ◌-◌, ◌≤◌, ◌<◌}
use native.Mathlib.Omega.{arith}
use mathlib.Core.Path.{◌≡◌, refl, sym, ap, ◌∙◌}
use mathlib.Core.Bool.{Bool, true, false, cond, ◌&&◌}
use mathlib.Core.Logic.{◌⊎◌, inl, inr, ⊎_elim, ◌↔◌}
use Rattle.std.specs.Option as Option
use Rattle.std.specs.Prelude.{Option, None as none, Some as some}
use mathlib.Core.List.{List, [], ◌∷◌, map, Memᴰ}
use lib.ListN.{length, get_or}
use lib.Dec.{T, leb, ltb, eqb, eqb→eq, ltb→lt, leb→le, le→leb, lt→ltb}
use borrow.Author.Tests.{eq-eqb, ne_eqb, lt-ltb, le-ltb}
use Rattle.model.specs.Lists.{or_else}
use Rattle.model.specs.Names.{Name, bytes, same, is_same, order, by_byte}
use Rattle.model.specs.Reading.{Decl, most_records}
use Rattle.model.specs.Pruning.{Map, try_find, init_macro_freenames}
use Rattle.model.specs.Rounds.{definitions, macros}
use Rattle.model.specs.Summaries.{common_names}
use Rattle.model.proofs.ListLaws.{map_intro, map_elim, T_true, true_T, T_and}
use Rattle.model.proofs.SetLaws.{mem_intro, mem_elim, mem_from_list}
use Rattle.model.proofs.PartLaws.{part_elim}
use Rattle.laws.proofs.MapLaws.{Found, bound, unbound, found, try_find_append}
use Rattle.names.specs.Known.{known_names, head_code}
use Rattle.names.specs.Table.{Table, name_of, name_code}
use Rattle.names.proofs.Coded.{code_exact}
use Rattle.names.proofs.Laws.{distinct}
use Rattle.terms.proofs.Laws.{equal, below}
use Rattle.records.specs.Columns.{record_kind, record_name, uses_end, def_kind, taken_at}
use Rattle.records.specs.States.{uses_at, free_at, decl_at, decls_of}
use Rattle.records.specs.Filing.{Records, newest, Taken}
use Rattle.macros.specs.Macros.{opened_word, first_macro, macro_count, opened, start_word, is_def, macro_word, opens_at}
use Rattle.firing.proofs.Newest.{newest_at, newest_none}
use Rattle.firing.proofs.Background.{only, defs_elim, defs_intro}

-- ---- the five of the start

-- the name of a head code, from 0
abbrev known : ℕ → Name
known c = get_or (map bytes known_names) c []

-- what holds of each of the five head codes
five : (P : ℕ → Type 0) → P 10 → P 11 → P 12 → P 13 → P 14 → (c : ℕ) → first_macro ≤ c → c < first_macro + macro_count → P c
five P p q r s t c h l =
    ⊎_elim (λ (e : c ≡ 10). rw e p) (λ (d0 : c ≡ 10 → ⊥).
    ⊎_elim (λ (e : c ≡ 11). rw e q) (λ (d1 : c ≡ 11 → ⊥).
    ⊎_elim (λ (e : c ≡ 12). rw e r) (λ (d2 : c ≡ 12 → ⊥).
    ⊎_elim (λ (e : c ≡ 13). rw e s) (λ (d3 : c ≡ 13 → ⊥). let e : c ≡ 14 = omega arith in rw e t)
    (equal c 13)) (equal c 12)) (equal c 11)) (equal c 10)

-- a name with one of them is a macro of the start
start_opens : (c : ℕ) → first_macro ≤ c → c < first_macro + macro_count → (x : Name) → head_code x ≡ c
    → try_find init_macro_freenames x ≡ some (known (c + 4) ∷ [])
unfolding try_find init_macro_freenames known_names common_names bytes same is_same order by_byte
start_opens = five (λ c. (x : Name) → head_code x ≡ c → try_find init_macro_freenames x ≡ some (known (c + 4) ∷ []))
    (λ x e. rw ((code_exact x 10 (omega arith) (omega arith)).0 e))
    (λ x e. rw ((code_exact x 11 (omega arith) (omega arith)).0 e))
    (λ x e. rw ((code_exact x 12 (omega arith) (omega arith)).0 e))
    (λ x e. rw ((code_exact x 13 (omega arith) (omega arith)).0 e))
    (λ x e. rw ((code_exact x 14 (omega arith) (omega arith)).0 e))

-- and one with another is not
start_none : (x : Name) → (first_macro ≤ head_code x → head_code x < first_macro + macro_count → ⊥) → try_find init_macro_freenames x ≡ none
unfolding init_macro_freenames known_names common_names
start_none x h = go (found init_macro_freenames x)
  where
    no : (c : ℕ) → first_macro ≤ c → c < first_macro + macro_count → x ≡ known (c - 1) → ⊥
    no c a b e = let f = (code_exact x c (omega arith) (omega arith)).1 e in h (omega arith) (omega arith)

    one : {y : Name} {l : List Name} → (x ≡ y → ⊥) → (Memᴰ x l → ⊥) → Memᴰ x (y ∷ l) → ⊥
    one p q m = ⊎_elim p q (mathlib.Core.List.Memᴰ.cases_cons m)

    go : {o : Option (List Name)} → Found init_macro_freenames x o → o ≡ none
    go (bound m) =
        absurd
        (one (no 10 (omega arith) (omega arith)) (one (no 11 (omega arith) (omega arith)) (one (no 12 (omega arith) (omega arith))
        (one (no 13 (omega arith) (omega arith)) (one (no 14 (omega arith) (omega arith)) mathlib.Core.List.Memᴰ.not-nil))))
        (map_intro (λ (b : Name × List Name). b.0) m))
    go (unbound l) = refl

-- ---- what a macro word opens to

opens_none : (recs lists : List ℕ) → opens_at recs lists 0 ≡ []
unfolding opens_at
opens_none recs lists = refl

opens_record : (recs lists : List ℕ) (i : ℕ) → i < most_records → opens_at recs lists (i + 1) ≡ uses_at recs lists i
unfolding opens_at
opens_record recs lists i h =
    let e : i + 1 - 1 ≡ i = omega arith in
    rw (ne_eqb (i + 1) 0 (λ q. omega arith), lt-ltb (i + 1) opened_word (omega arith), e)

opens_name : (recs lists : List ℕ) (m : ℕ) → opens_at recs lists (opened_word + m) ≡ m ∷ []
unfolding opens_at
opens_name recs lists m =
    let e : opened_word + m - opened_word ≡ m = omega arith in
    rw (ne_eqb (opened_word + m) 0 (λ q. omega arith), le-ltb (opened_word + m) opened_word (omega arith), e)

-- a number that it opens to is one of a record's, or the word's own
pub opens_elim : (recs lists : List ℕ) (w m : ℕ) → Memᴰ m (opens_at recs lists w)
    → ((0 < w) × (w < opened_word) × Memᴰ m (uses_at recs lists (w - 1))) ⊎ ((opened_word ≤ w) × (m ≡ w - opened_word))
unfolding opens_at
opens_elim recs lists w m q = go (equal w 0) (below w opened_word)
  where
    go : (w ≡ 0) ⊎ (w ≡ 0 → ⊥) → (w < opened_word) ⊎ (opened_word ≤ w)
        → ((0 < w) × (w < opened_word) × Memᴰ m (uses_at recs lists (w - 1))) ⊎ ((opened_word ≤ w) × (m ≡ w - opened_word))
    go (inl z) b = absurd (mathlib.Core.List.Memᴰ.not-nil (rw (eq-eqb w 0 z) at q))
    go (inr z) (inl l) = inl (omega arith, l, rw (ne_eqb w 0 z, lt-ltb w opened_word l) at q)
    go (inr z) (inr l) = inr (l, only (rw (ne_eqb w 0 z, le-ltb w opened_word l) at q))

-- ---- the range of a macro word

opened_range : (f : ℕ → ℕ) (c named w : ℕ) → newest f c named ≡ w → (opened w ≡ 0) ⊎ ((opened_word ≤ opened w) × (opened w < opened_word + named))
unfolding opened
opened_range f c named zero e = inl refl
opened_range f c named (suc m) e = let (a, b) = newest_at f c named m e in inr (omega arith, omega arith)

start_range : (names : List ℕ) (named c : ℕ)
    → (start_word names named c ≡ 0) ⊎ ((opened_word ≤ start_word names named c) × (start_word names named c < opened_word + named))
unfolding start_word
start_range names named c = go (leb first_macro c && ltb c (first_macro + macro_count))
  where
    w : ℕ
    w = opened (newest (name_code names) (c + macro_count) named)

    go : (b : Bool) → (cond b w 0 ≡ 0) ⊎ ((opened_word ≤ cond b w 0) × (cond b w 0 < opened_word + named))
    go true = opened_range (name_code names) (c + macro_count) named (newest (name_code names) (c + macro_count) named) refl
    go false = inl refl

pub macro_range : (names recs : List ℕ) (named records n : ℕ) → taken_at names n ≤ records
    → (macro_word names recs named n ≤ records) ⊎ ((opened_word ≤ macro_word names recs named n) × (macro_word names recs named n < opened_word + named))
unfolding macro_word
macro_range names recs named records n h = go (is_def recs (taken_at names n)) (start_range names named (name_code names n))
  where
    s : ℕ
    s = start_word names named (name_code names n)

    w : Bool → ℕ
    w b = cond b (taken_at names n) s

    go : (b : Bool) → (s ≡ 0) ⊎ ((opened_word ≤ s) × (s < opened_word + named))
        → (w b ≤ records) ⊎ ((opened_word ≤ w b) × (w b < opened_word + named))
    go true r = inl h
    go false (inl z) = inl (omega arith)
    go false (inr z) = inr z

-- ---- the macro of a name

def_elim : (recs : List ℕ) (w : ℕ) → is_def recs w ≡ true → (0 < w) × (record_kind recs (w - 1) ≡ def_kind)
unfolding is_def
def_elim recs w e =
    let (a, b) = (T_and (ltb 0 w) (eqb (record_kind recs (w - 1)) def_kind)).0 (true_T e) in
    (ltb→lt 0 w a, eqb→eq (record_kind recs (w - 1)) def_kind b)

module _ {file names recs lists : List ℕ} {named records entries uses : ℕ} (table : Table file names named)
    (r : Records recs lists named records entries uses) (t : Taken names recs records) where
  abbrev name : ℕ → Name
  name = name_of file names

  -- the macros of the definitions
  abbrev defs : Map (List Name)
  defs = map (λ d. (d.name, d.free_names)) (definitions (decls_of name recs lists records))

  -- what a name is bound to
  abbrev SameNames : Option (List Name) → ℕ → List ℕ → Type 0
  SameNames o m ns = Memᴰ (name m) (Option.unwrap_or o []) ↔ Memᴰ m ns

  -- the free names of a record, by number
  free_exact : (i m : ℕ) → i < records → m < named → Memᴰ (name m) (free_at name recs lists i) ↔ Memᴰ m (uses_at recs lists i)
  unfolding free_at
  free_exact i m h l =
      let ns = uses_at recs lists i in
      let room : uses_end recs i ≤ length lists = omega (arith, r.uses_in i h, r.few_uses, r.lists_room) in (
        λ q.
            let (k, a, b) = map_elim name ns (mem_elim ((mem_from_list (name m) (map name ns)).0 (mem_intro q))) in
            let p = part_elim room a in
            let x = p.high in
            let small : k < named = rw (← p.is) (r.use_words p.place (omega (arith, r.uses_in i h))) in
            rw (distinct table m k l small (sym b)) a,
        λ q. mem_elim ((mem_from_list (name m) (map name ns)).1 (mem_intro (map_intro name q))),
      )

  -- a macro of the start, by number
  start_exact : (n m : ℕ) → n < named → m < named
      → SameNames (try_find init_macro_freenames (name n)) m (opens_at recs lists (start_word names named (name_code names n)))
  unfolding start_word opens_at opened
  start_exact n m h l = go (below c first_macro) (below c (first_macro + macro_count))
    where
      c : ℕ
      c = name_code names n

      code : head_code (name n) ≡ c
      code = sym (table.codes n h)

      -- a name that the macro opens to has the head code
      is_known : (k : ℕ) → k < named → first_macro ≤ c → c < first_macro + macro_count → (name k ≡ known (c + 4)) ↔ (name_code names k ≡ c + macro_count)
      is_known k l a b =
          let e : c + macro_count - 1 ≡ c + 4 = omega arith in
          let x = code_exact (name k) (c + macro_count) (omega arith) (omega arith) in
          (λ q. table.codes k l ∙ x.1 (q ∙ ap known (sym e)), λ q. x.0 (sym (table.codes k l) ∙ q) ∙ ap known e)

      found_at : first_macro ≤ c → c < first_macro + macro_count → (w : ℕ) → newest (name_code names) (c + macro_count) named ≡ w
          → Memᴰ (name m) (known (c + 4) ∷ []) ↔ Memᴰ m (opens_at recs lists (opened w))
      found_at a b zero e = (
        λ q. absurd (newest_none (name_code names) (c + macro_count) named e m l ((is_known m l a b).0 (only q))),
        λ q. absurd (mathlib.Core.List.Memᴰ.not-nil (rw (opens_none recs lists) at q)),
      )
      found_at a b (suc k) e =
          let (x, y) = newest_at (name_code names) (c + macro_count) named k e in (
            λ q. rw (opens_name recs lists k) (mathlib.Core.List.Memᴰ.head (distinct table m k l x (only q ∙ sym ((is_known k x a b).1 y)))),
            λ q. mathlib.Core.List.Memᴰ.head (ap name (only (rw (opens_name recs lists k) at q)) ∙ (is_known k x a b).1 y),
          )

      word : Bool → ℕ
      word b = cond b (opened (newest (name_code names) (c + macro_count) named)) 0

      nothing : (first_macro ≤ c → c < first_macro + macro_count → ⊥) → (b : Bool) → b ≡ false
          → SameNames (try_find init_macro_freenames (name n)) m (opens_at recs lists (word b))
      nothing q b e =
          rw (start_none (name n) (λ x y. q (omega (arith, code)) (omega (arith, code))), e, opens_none recs lists)
          (λ z. absurd (mathlib.Core.List.Memᴰ.not-nil z), λ z. absurd (mathlib.Core.List.Memᴰ.not-nil z))

      tests : first_macro ≤ c → c < first_macro + macro_count → (leb first_macro c && ltb c (first_macro + macro_count)) ≡ true
      tests a b = T_true _ ((T_and (leb first_macro c) (ltb c (first_macro + macro_count))).1 (le→leb first_macro c a, lt→ltb c (first_macro + macro_count) b))

      none_of : (b : Bool) → (T b → ⊥) → b ≡ false
      none_of true f = absurd (f tt)
      none_of false f = refl

      outside : (first_macro ≤ c → c < first_macro + macro_count → ⊥) → (leb first_macro c && ltb c (first_macro + macro_count)) ≡ false
      outside q =
          none_of (leb first_macro c && ltb c (first_macro + macro_count))
          (λ t. let (a, b) = (T_and (leb first_macro c) (ltb c (first_macro + macro_count))).0 t in
          q (leb→le first_macro c a) (ltb→lt c (first_macro + macro_count) b))

      go : (c < first_macro) ⊎ (first_macro ≤ c) → (c < first_macro + macro_count) ⊎ (first_macro + macro_count ≤ c)
          → SameNames (try_find init_macro_freenames (name n)) m (opens_at recs lists (word (leb first_macro c && ltb c (first_macro + macro_count))))
      go (inr a) (inl b) =
          rw (start_opens c a b (name n) code, tests a b) (found_at a b (newest (name_code names) (c + macro_count) named) refl)
      go (inr a) (inr b) = nothing (λ x y. omega arith) _ (outside (λ x y. omega arith))
      go (inl a) b = nothing (λ x y. omega arith) _ (outside (λ x y. omega arith))

  pub macro_exact : (n m : ℕ) → n < named → m < named
      → SameNames (try_find (macros (decls_of name recs lists records)) (name n)) m (opens_at recs lists (macro_word names recs named n))
  unfolding macros macro_word is_def decl_at or_else
  macro_exact n m h l = rw (try_find_append defs init_macro_freenames (name n)) (go (found defs (name n)))
    where
      -- a def took the name
      taken : (i : ℕ) → i < records → record_kind recs i ≡ def_kind → record_name recs i ≡ n → macro_word names recs named n ≡ i + 1
      taken i a b c =
          let z : taken_at names n ≡ i + 1 = ap (taken_at names) (sym c) ∙ t.took i a (omega arith) in
          let y : i + 1 - 1 ≡ i = omega arith in
          rw (z, y, lt-ltb 0 (i + 1) (omega arith), eq-eqb (record_kind recs i) def_kind b)

      -- no def did
      lacking : ((a : List Name) → Memᴰ (name n, a) defs → ⊥) → (b : Bool) → is_def recs (taken_at names n) ≡ b → b ≡ false
      lacking q true e =
          let (x, y) = def_elim recs (taken_at names n) e in
          let i : ℕ = taken_at names n - 1 in
          let z : taken_at names n ≡ i + 1 = omega arith in
          let (u, v) = t.takes n i (omega (arith, table.few)) z in
          let p : name (record_name recs i) ≡ name n = ap name v in
          let d = defs_intro name recs lists records i (omega (arith, t.low n (omega (arith, table.few)))) (true_T (eq-eqb (record_kind recs i) def_kind y)) in
          let k : Memᴰ (name (record_name recs i), free_at name recs lists i) defs = map_intro (λ (d : Decl). (d.name, d.free_names)) d in
          absurd (q (free_at name recs lists i) (rw p at k))
      lacking q false e = refl

      by_record : (a : List Name) (i : ℕ) → i < records → record_kind recs i ≡ def_kind → record_name recs i ≡ n → free_at name recs lists i ≡ a
          → SameNames (some a) m (opens_at recs lists (macro_word names recs named n))
      by_record a i u v w e = rw (taken i u v w, opens_record recs lists i (omega (arith, r.few)), ← e) (free_exact i m u l)

      go : {o : Option (List Name)} → Found defs (name n) o
          → SameNames (or_else o (try_find init_macro_freenames (name n))) m (opens_at recs lists (macro_word names recs named n))
      go (bound {a} q) =
          let (d, x, y) = map_elim (λ (d : Decl). (d.name, d.free_names)) (definitions (decls_of name recs lists records)) q in
          let (i, u, v, w) = defs_elim name recs lists records x in
          let nm : name (record_name recs i) ≡ name n = ap (λ (d : Decl). d.name) (sym w) ∙ ap (λ (b : Name × List Name). b.0) y in
          let fr : free_at name recs lists i ≡ a = ap (λ (d : Decl). d.free_names) (sym w) ∙ ap (λ (b : Name × List Name). b.1) y in
          let kind = eqb→eq (record_kind recs i) def_kind v in
          by_record a i u kind (distinct table (record_name recs i) n (r.named_in i u (λ z. omega arith)) h nm) fr
      go (unbound q) = rw (lacking q (is_def recs (taken_at names n)) refl) (start_exact n m h l)
