-- What a line, a field, a number and a name is, in the bytes of a file.
use Prim.Native.Nat.{ℕ, ◌≤◌}
use native.Mathlib.Omega.{arith}
use mathlib.Core.Path.{◌≡◌, refl, sym, ◌∙◌, ap, ap₂, subst}
use mathlib.Core.Logic.{◌↔◌, ◌≢◌, ⊎_elim}
use mathlib.Core.Bool.{Bool, true, false, cond, not, ◌&&◌}
use mathlib.Core.List.Memᴰ
use mathlib.Core.List.{List, [], ◌∷◌, ◌++◌, append-nil, append_assoc, cons-ne-nil, Memᴰ}
use lib.Dec.{T, not_T, leb, eqb, leb→le, le→leb, eqb→eq}
use lib.ListN.{length}
use borrow.Author.Tests.{eqb-true, eqb-false, ne_eqb}
use Rattle.model.specs.Lists.{all, collect}
use Rattle.model.specs.Lines.{Line, line_cons, lines, Field, field_cons, fields, is_name_byte, is_name}
use Rattle.model.specs.Text.{comma}
use Rattle.model.proofs.ListLaws.{T_and, T_false, all_intro, all_elim}
use Rattle.demands.specs.Bytes.{Without, line_bytes, Parted, none, unended, ended, LinesOf, LinesExact, FieldsOf, FieldsExact, ShownExact, NumberExact, NameExact}
use Rattle.demands.proofs.Decimal.{number_show, show_number, number_small, show_decimal, decimal_show}

-- ---- lines

-- a byte that is not in a text with one more is another
other_first : {b c : ℕ} {bs : List ℕ} → Without b (c ∷ bs) → eqb c b ≡ false
other_first {b} {c} h = ne_eqb c b (λ e. h (Memᴰ.head (sym e)))

-- the bytes of a line, its 0A, and what follows
pub lines_part : (bs rest : List ℕ) → Without 0x0a bs → lines (bs ++ (0x0a ∷ rest)) ≡ record { bytes = bs; ended = true } ∷ lines rest
unfolding lines line_cons
lines_part [] rest h = refl
lines_part (b ∷ bs) rest h = rw (other_first h, lines_part bs rest (λ i. h (Memᴰ.tail i)))

-- the bytes of a last line that lacks its 0A
lines_last : (bs : List ℕ) → Without 0x0a bs → bs ≢ [] → lines bs ≡ record { bytes = bs; ended = false } ∷ []
unfolding lines line_cons
lines_last [] h some_byte = absurd (some_byte refl)
lines_last (b ∷ []) h some_byte = rw (other_first h)
lines_last (b ∷ c ∷ bs) h some_byte = rw (other_first h, lines_last (c ∷ bs) (λ i. h (Memᴰ.tail i)) (cons-ne-nil c bs))

-- the lines of a file put together
lines_together : (file : List ℕ) → collect line_bytes (lines file) ≡ file
unfolding lines line_cons collect
lines_together [] = refl
lines_together (b ∷ bs) = go (eqb b 0x0a) refl (lines bs) (lines_together bs)
  where
    go : (t : Bool) → eqb b 0x0a ≡ t → (ls : List Line) → collect line_bytes ls ≡ bs
        → collect line_bytes (cond t (record { bytes = []; ended = true } ∷ ls) (line_cons b ls)) ≡ b ∷ bs
    go true e ls h = ap₂ ◌∷◌ (sym (eqb-true b 0x0a e)) h
    go false e [] h = ap (b ∷◌) h
    go false e (l ∷ ls) h = ap (b ∷◌) h

-- none of them holds a 0A
lines_without : (file : List ℕ) (l : Line) → Memᴰ l (lines file) → Without 0x0a l.bytes
unfolding lines line_cons
lines_without [] l i = absurd (Memᴰ.not-nil i)
lines_without (b ∷ bs) l i = go (eqb b 0x0a) refl (lines bs) (lines_without bs) i
  where
    no_byte : Without 0x0a []
    no_byte = Memᴰ.not-nil

    one_more : (l : Line) {cs : List ℕ} → l.bytes ≡ b ∷ cs → eqb b 0x0a ≡ false → Without 0x0a cs → Without 0x0a l.bytes
    one_more l e f h = subst (Without 0x0a) (sym e) (λ i. ⊎_elim (λ q. eqb-false b 0x0a f (sym q)) h (Memᴰ.cases_cons i))

    go : (t : Bool) → eqb b 0x0a ≡ t → (ls : List Line) → ((k : Line) → Memᴰ k ls → Without 0x0a k.bytes)
        → Memᴰ l (cond t (record { bytes = []; ended = true } ∷ ls) (line_cons b ls)) → Without 0x0a l.bytes
    go true e ls h i = ⊎_elim (λ q. subst (Without 0x0a) (sym (ap (λ k. k.bytes) q)) no_byte) (h l) (Memᴰ.cases_cons i)
    go false e [] h i = one_more l (ap (λ k. k.bytes) (Memᴰ.eq_of_singleton i)) e no_byte
    go false e (k ∷ ls) h i =
        ⊎_elim (λ q. one_more l (ap (λ k. k.bytes) q) e (h k (Memᴰ.head refl))) (λ j. h l (Memᴰ.tail j)) (Memᴰ.cases_cons i)

-- each but perhaps the last has its 0A
lines_parted : (file : List ℕ) → Parted (lines file)
unfolding lines line_cons
lines_parted [] = none
lines_parted (b ∷ bs) = go (eqb b 0x0a) (lines_parted bs)
  where
    go : (t : Bool) {ls : List Line} → Parted ls → Parted (cond t (record { bytes = []; ended = true } ∷ ls) (line_cons b ls))
    go true p = ended refl p
    go false none = unended refl (cons-ne-nil b [])
    go false (unended e some_byte) = unended e (cons-ne-nil b _)
    go false (ended e p) = ended e p

-- such lines put together are taken apart again
lines_again : (ls : List Line) → ((l : Line) → Memᴰ l ls → Without 0x0a l.bytes) → Parted ls → lines (collect line_bytes ls) ≡ ls
unfolding collect lines
lines_again ls h none = refl
lines_again ls h (unended {l} e some_byte) =
    rw (e, append-nil (l.bytes ++ []), append-nil l.bytes, lines_last l.bytes (h l (Memᴰ.head refl)) some_byte)
lines_again ls h (ended {l} {ls = more} e p) =
    let rest = collect line_bytes more in
    rw (e, append_assoc l.bytes (0x0a ∷ []) rest, lines_part l.bytes rest (h l (Memᴰ.head refl)), lines_again more (λ k i. h k (Memᴰ.tail i)) p)

-- the lines of a file are those
pub lines_exact : LinesExact
lines_exact file ls = (
  λ e. subst (LinesOf file) e (record { together = lines_together file; without_0a = lines_without file; parted = lines_parted file }),
  λ h. ap lines (sym h.together) ∙ lines_again ls h.without_0a h.parted,
)

-- ---- fields

-- a field, a comma, and what follows
pub fields_part : (f : Field) (rest : List ℕ) → Without 0x2c f → fields (f ++ (0x2c ∷ rest)) ≡ f ∷ fields rest
unfolding fields field_cons
fields_part [] rest h = refl
fields_part (b ∷ f) rest h = rw (other_first h, fields_part f rest (λ i. h (Memᴰ.tail i)))

-- the last field
fields_last : (f : Field) → Without 0x2c f → fields f ≡ f ∷ []
unfolding fields field_cons
fields_last [] h = refl
fields_last (b ∷ f) h = rw (other_first h, fields_last f (λ i. h (Memᴰ.tail i)))

-- fields put together are taken apart again
pub fields_comma : (f : Field) (fs : List Field) → ((g : Field) → Memᴰ g (f ∷ fs) → Without 0x2c g) → fields (comma (f ∷ fs)) ≡ f ∷ fs
unfolding comma
fields_comma f [] h = fields_last f (h f (Memᴰ.head refl))
fields_comma f (g ∷ fs) h =
    fields_part f (comma (g ∷ fs)) (h f (Memᴰ.head refl)) ∙ ap (f ∷◌) (fields_comma g fs (λ k i. h k (Memᴰ.tail i)))

-- a byte more in front of the first field is one in front of the line
comma_cons : (b : ℕ) (fs : List Field) → comma (field_cons b fs) ≡ b ∷ comma fs
unfolding comma field_cons
comma_cons b [] = refl
comma_cons b (f ∷ []) = refl
comma_cons b (f ∷ g ∷ fs) = refl

-- a line has a field
some_field : (line : List ℕ) → (f : Field) × (fs : List Field) × (fields line ≡ f ∷ fs)
unfolding fields field_cons
some_field [] = ([], [], refl)
some_field (b ∷ bs) = go (eqb b 0x2c) (fields bs)
  where
    go : (t : Bool) (rest : List Field) → (f : Field) × (fs : List Field) × (cond t ([] ∷ rest) (field_cons b rest) ≡ f ∷ fs)
    go true rest = (_, _, refl)
    go false [] = (_, _, refl)
    go false (f ∷ fs) = (_, _, refl)

-- the fields of a line put together are the line
pub comma_fields : (line : List ℕ) → comma (fields line) ≡ line
unfolding fields comma
comma_fields [] = refl
comma_fields (b ∷ bs) = go (eqb b 0x2c) refl (some_field bs) (comma_fields bs)
  where
    go : (t : Bool) → eqb b 0x2c ≡ t → (f : Field) × (fs : List Field) × (fields bs ≡ f ∷ fs) → comma (fields bs) ≡ bs
        → comma (cond t ([] ∷ fields bs) (field_cons b (fields bs))) ≡ b ∷ bs
    go true e (f, fs, is) h = ap (λ fs. comma ([] ∷ fs)) is ∙ ap₂ ◌∷◌ (sym (eqb-true b 0x2c e)) (ap comma (sym is) ∙ h)
    go false e (f, fs, is) h = comma_cons b (fields bs) ∙ ap (b ∷◌) h

-- none of them holds a comma
fields_without : (line : List ℕ) (f : Field) → Memᴰ f (fields line) → Without 0x2c f
unfolding fields field_cons
fields_without [] f i = subst (Without 0x2c) (sym (Memᴰ.eq_of_singleton i)) Memᴰ.not-nil
fields_without (b ∷ bs) f i = go (eqb b 0x2c) refl (fields bs) (fields_without bs) i
  where
    one_more : {g : Field} → f ≡ b ∷ g → eqb b 0x2c ≡ false → Without 0x2c g → Without 0x2c f
    one_more e other h = subst (Without 0x2c) (sym e) (λ i. ⊎_elim (λ q. eqb-false b 0x2c other (sym q)) h (Memᴰ.cases_cons i))

    go : (t : Bool) → eqb b 0x2c ≡ t → (fs : List Field) → ((g : Field) → Memᴰ g fs → Without 0x2c g)
        → Memᴰ f (cond t ([] ∷ fs) (field_cons b fs)) → Without 0x2c f
    go true e fs h i = ⊎_elim (λ q. subst (Without 0x2c) (sym q) Memᴰ.not-nil) (h f) (Memᴰ.cases_cons i)
    go false e [] h i = one_more (Memᴰ.eq_of_singleton i) e Memᴰ.not-nil
    go false e (g ∷ fs) h i = ⊎_elim (λ q. one_more q e (h g (Memᴰ.head refl))) (λ j. h f (Memᴰ.tail j)) (Memᴰ.cases_cons i)

-- the fields of a line are those
pub fields_exact : FieldsExact
fields_exact line fs = (
  λ e. subst (FieldsOf line) e (record {
    together = comma_fields line;
    without_comma = fields_without line;
    some_field = λ none. let (f, more, is) = some_field line in cons-ne-nil f more (sym is ∙ none);
  }),
  λ h. ap fields (sym h.together) ∙ again fs h.without_comma h.some_field,
)
  where
    again : (fs : List Field) → ((f : Field) → Memᴰ f fs → Without 0x2c f) → fs ≢ [] → fields (comma fs) ≡ fs
    again [] h some_one = absurd (some_one refl)
    again (f ∷ fs) h some_one = fields_comma f fs h

-- ---- numbers

-- a number in decimal is its text, and the only one
pub shown_exact : ShownExact
shown_exact n text h = (λ e. rw e (show_decimal n h), decimal_show n text h)

-- a field is a number exactly if it is that number in decimal
pub number_exact : NumberExact
number_exact f n = (λ e. (show_number f n e, number_small f n e), λ (e, h). rw e (number_show n h))

-- ---- names

-- a byte of a name
name_byte : (b : ℕ) → T (is_name_byte b) ↔ ((0x21 ≤ b) × (b ≤ 0x7e) × (b ≢ 0x2c))
unfolding is_name_byte
name_byte b = (
  λ t. let (low_high, other) = (T_and (leb 0x21 b && leb b 0x7e) (not (eqb b 0x2c))).0 t in
      let (low, high) = (T_and (leb 0x21 b) (leb b 0x7e)).0 low_high in
      (leb→le 0x21 b low, leb→le b 0x7e high, eqb-false b 0x2c (T_false (eqb b 0x2c) other)),
  λ (low, high, other). (T_and (leb 0x21 b && leb b 0x7e) (not (eqb b 0x2c))).1
      ((T_and (leb 0x21 b) (leb b 0x7e)).1 (le→leb 0x21 b low, le→leb b 0x7e high), not_T (eqb b 0x2c) (λ t. other (eqb→eq b 0x2c t))),
)

-- a field is a name exactly in document 01's words
pub name_exact : NameExact
unfolding is_name
name_exact f = (
  λ t. let (sized, bytes) = (T_and (leb 1 (length f) && leb (length f) 255) (all is_name_byte f)).0 t in
      let (low, high) = (T_and (leb 1 (length f)) (leb (length f) 255)).0 sized in
      record {
        at_least_1 = omega (arith, leb→le 1 (length f) low);
        at_most_255 = omega (arith, leb→le (length f) 255 high);
        each_byte = λ b i. (name_byte b).0 (all_elim is_name_byte bytes i);
      },
  λ h. (T_and (leb 1 (length f) && leb (length f) 255) (all is_name_byte f)).1 (
    (T_and (leb 1 (length f)) (leb (length f) 255)).1 (
      le→leb 1 (length f) (omega (arith, h.at_least_1)),
      le→leb (length f) 255 (omega (arith, h.at_most_255)),
    ),
    all_intro is_name_byte f (λ b i. (name_byte b).1 (h.each_byte b i)),
  ),
)
