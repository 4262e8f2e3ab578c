-- Change 9: the rows of the check are exactly those with a reason, by line and then by name, no more than name uses; where none is
-- of the first sort the lines of what a definition depends on fall, so no definition depends on itself.
use Prim.Native.Nat.{ℕ, ◌≤◌, ◌<◌}
use native.Mathlib.Omega.{arith}
use mathlib.Core.Path.{◌≡◌, refl, sym, ◌∙◌, ap}
use mathlib.Core.Logic.{◌⊎◌, inl, inr, ⊎_elim}
use mathlib.Core.Bool.{Bool, true, false, not}
use mathlib.Core.List.Memᴰ
use mathlib.Core.List.{List, [], ◌∷◌, ◌++◌, map, Memᴰ}
use Rattle.std.specs.Prelude.{Option, None as none, Some as some}
use lib.Dec.{T, leb, leb→le, nleb→lt, T_not}
use lib.ListN.{length, length-append}
use Rattle.model.specs.Lists.{any, all, keep, collect, is_nil, to_list, when, sum, ◌>>=◌}
use Rattle.model.specs.Names.{Name, same, name_number}
use Rattle.model.specs.Reading.{Decl, Summary, sum_assume, sum_definefun, sum_declfun, sum_retain, State, uses_of, limits, most_uses}
use Rattle.model.specs.Rounds.{definitions, declarations}
use Rattle.model.specs.Precedence.{parts, sort_of, late_in, late_rows}
use Rattle.model.specs.Summaries.{exclude_names}
use Rattle.model.specs.declared.Row.{Row}
use Rattle.model.proofs.ListLaws.{T_dec, true_T, false_T, all_elim, any_intro, any_elim, keep_intro, keep_elim, mem_not_nil, not_nil_mem, collect_intro, collect_elim, cond_true, cond_false, getD_mem}
use Rattle.model.proofs.SetLaws.{Ascending, ascending_tail, ascending_head, mem_intro, mem_elim, same_eq, eq_same}
use Rattle.model.proofs.IndexLaws.{number_in}
use Rattle.laws.proofs.Records.{definition_summary}
use Rattle.laws.proofs.ReadingLaws.{within, file_within}
use Rattle.demands.specs.LinesRead.{LinesRead}
use Rattle.demands.specs.FileOrder.{line_of, Rising}
use Rattle.demands.specs.Reasons.{Numbers}
use Rattle.demands.specs.Precedence.{ComesLate, HasNeither, LateReason, LateRowsExact, RowBefore, LateRise, none as no_row, one_more as one_row, LateRowsInOrder, LateRowsBound, Depends, at_once, through, NoCircle, ComesBefore, DeclaredBefore}
use Rattle.demands.proofs.RecordLines.{rising_head, rising_tail, records_rise}
use Rattle.demands.proofs.WellFormed.{accepted_well_formed}
use Rattle.demands.proofs.HistoryLaws.{le_or_lt}
use Rattle.demands.proofs.Reasons.{accepted_laws, distinct_place}

-- ---- the sort of a name

-- the sort of a name, with what it says
data Sorted (decls : List Summary) (d : Decl) (n : Name) : Option ℕ → Type 0 where
  late : ComesLate decls d n → Sorted decls d n (some 1)
  lacking : HasNeither decls n → Sorted decls d n (some 2)
  early : (p : Decl) → Memᴰ p (parts decls) → p.name ≡ n
      → ((p : Decl) → Memᴰ p (parts decls) → p.name ≡ n → p.line < d.line) → Sorted decls d n none

-- every name has its sort, or none where it has parts and all of them stand before
sorted : (decls : List Summary) (d : Decl) (n : Name) → Sorted decls d n (sort_of (parts decls) d n)
unfolding sort_of when
sorted decls d n = ⊎_elim
    (λ t. rw (cond_true {A = Option ℕ} (is_nil found) (some 2) _ t) (lacking (λ p i e. T_not (is_nil found) (mem_not_nil (here p i e)) t)))
    (λ t. rw (cond_false {A = Option ℕ} (is_nil found) (some 2) _ t) (by_line t (any at_or_after found) refl))
    (T_dec (is_nil found))
  where
    found : List Decl
    found = keep (λ p. same p.name n) (parts decls)

    at_or_after : Decl → Bool
    at_or_after p = leb d.line p.line

    here : (p : Decl) → Memᴰ p (parts decls) → p.name ≡ n → Memᴰ p found
    here p i e = keep_intro (λ p. same p.name n) i (eq_same e)

    by_line : T (not (is_nil found)) → (b : Bool) → any at_or_after found ≡ b → Sorted decls d n (when b 1)
    by_line some_part true e =
        let (p, i, t) = any_elim at_or_after found (true_T e) in
        let (j, u) = keep_elim (λ p. same p.name n) (parts decls) i in
        late (record { part = p; is_part = j; of_name = same_eq u; late = leb→le d.line p.line t })
    by_line some_part false e =
        let (p, i) = not_nil_mem found some_part in
        let (j, u) = keep_elim (λ p. same p.name n) (parts decls) i in
        early p j (same_eq u) (λ p i q. ⊎_elim (λ t. absurd (T_not (any at_or_after found) (false_T e) (any_intro at_or_after (here p i q) t))) (nleb→lt d.line p.line) (T_dec (at_or_after p)))

-- ---- the rows of a name, of a definition and of all

-- a row by its three numbers
abbrev row : ℕ → ℕ → ℕ → Row
row line number sort = record { line = line; number = number; cause = sort }

row_eq : (r : Row) {l n k : ℕ} → r.line ≡ l → r.number ≡ n → r.cause ≡ k → r ≡ row l n k
row_eq r p q e = rw (← p, ← q, ← e)

-- the row that a sort gives, if there is one
abbrev row_for : List Name → Decl → Name → Option ℕ → List Row
row_for names d n o = to_list (o >>= λ k. some (row d.line (name_number names n) k))

-- it has its line and number
row_parts : (names : List Name) (d : Decl) (n : Name) (o : Option ℕ) {r : Row} → Memᴰ r (row_for names d n o)
    → (r.line ≡ d.line) × (r.number ≡ name_number names n)
unfolding to_list
row_parts names d n none i = absurd (Memᴰ.not-nil i)
row_parts names d n (some k) i = let e = Memᴰ.eq_of_singleton i in (ap (λ (r : Row). r.line) e, ap (λ (r : Row). r.number) e)

module _ (s : State) (d : Decl) (is_definition : Memᴰ d (definitions s.decls)) (n : Name) (is_free : Memᴰ n d.free_names)
    (numbered : Numbers s (name_number s.names n) n) where
  -- a row that is listed for a name has its reason
  row_reason : {o : Option ℕ} (r : Row) → Sorted s.decls d n o → Memᴰ r (row_for s.names d n o) → LateReason s r
  unfolding to_list
  row_reason r (late l) m =
      let e : r ≡ row d.line (name_number s.names n) 1 = Memᴰ.eq_of_singleton m in
      record { definition = d; is_definition = is_definition; name = n; is_free = is_free; line = ap (λ (r : Row). r.line) e; number = rw e numbered; sort = inl (ap (λ (r : Row). r.cause) e, l) }
  row_reason r (lacking l) m =
      let e : r ≡ row d.line (name_number s.names n) 2 = Memᴰ.eq_of_singleton m in
      record { definition = d; is_definition = is_definition; name = n; is_free = is_free; line = ap (λ (r : Row). r.line) e; number = rw e numbered; sort = inr (ap (λ (r : Row). r.cause) e, l) }
  row_reason r (early p i q h) m = absurd (Memᴰ.not-nil m)

  -- a row with a reason is listed for its name
  reason_row : {o : Option ℕ} (r : Row) → Sorted s.decls d n o → r.line ≡ d.line → r.number ≡ name_number s.names n
      → ((r.cause ≡ 1) × ComesLate s.decls d n) ⊎ ((r.cause ≡ 2) × HasNeither s.decls n) → Memᴰ r (row_for s.names d n o)
  unfolding to_list
  reason_row r (late l) p q (inl e) = Memᴰ.head (row_eq r p q e.0)
  reason_row r (late l) p q (inr e) = absurd (e.1 l.part l.is_part l.of_name)
  reason_row r (lacking l) p q (inl e) = absurd (l e.1.part e.1.is_part e.1.of_name)
  reason_row r (lacking l) p q (inr e) = Memᴰ.head (row_eq r p q e.0)
  reason_row r (early x i u h) p q (inl e) = absurd (omega (arith, h e.1.part e.1.is_part e.1.of_name, e.1.late))
  reason_row r (early x i u h) p q (inr e) = absurd (e.1 x i u)

module _ (file : List ℕ) (s : State) (accepted : LinesRead file s) where
  -- a name free in the body of a def is numbered
  free_numbered : {d : Decl} {n : Name} → Memᴰ d (definitions s.decls) → Memᴰ n d.free_names → Numbers s (name_number s.names n) n
  free_numbered {d} {n} i j =
      number_in s.names (mem_elim (((accepted_laws file s accepted).numbered.records _ (definition_summary s.decls i)).free n (mem_intro j)))

  -- a number is that of the name
  number_only : {k : ℕ} {n : Name} → Numbers s k n → k ≡ name_number s.names n
  number_only {k} {n} (h, e) =
      let (l, d) = number_in s.names (Memᴰ.cast (sym e) (getD_mem s.names k [] h)) in
      distinct_place (accepted_laws file s accepted).numbered_once k (name_number s.names n) [] h l (e ∙ sym d)

-- the rows are those with a reason
pub late_rows_exact : LateRowsExact
unfolding late_rows late_in
late_rows_exact file s accepted r = (
  λ m.
      let (d, i, j) = collect_elim (late_in s.names (parts s.decls)) (definitions s.decls) m in
      let (n, k, l) = collect_elim (λ n. row_for s.names d n (sort_of (parts s.decls) d n)) d.free_names j in
      row_reason s d i n k (free_numbered file s accepted i k) r (sorted s.decls d n) l,
  λ l.
      collect_intro (late_in s.names (parts s.decls)) l.is_definition
      (collect_intro (λ n. row_for s.names l.definition n (sort_of (parts s.decls) l.definition n)) l.is_free
      (reason_row s l.definition l.is_definition l.name l.is_free (free_numbered file s accepted l.is_definition l.is_free) r
      (sorted s.decls l.definition l.name) l.line (number_only file s accepted l.number) l.sort)),
)

-- ---- their order

-- two lists in order, each of the first before each of the second
rise_append : {s : State} {l m : List Row} → LateRise s l → LateRise s m → ((r q : Row) → Memᴰ r l → Memᴰ q m → RowBefore s r q) → LateRise s (l ++ m)
rise_append no_row b h = b
rise_append (one_row {r} {rs} f a) b h =
    one_row (λ q i. ⊎_elim (f q) (h r q (Memᴰ.head refl)) (Memᴰ.append_cases rs i))
    (rise_append a b (λ p q i. h p q (Memᴰ.tail i)))

-- one at most is in order
one_rises : (s : State) (d : Decl) (n : Name) (o : Option ℕ) → LateRise s (row_for s.names d n o)
unfolding to_list
one_rises s d n none = no_row
one_rises s d n (some k) = one_row (λ q i. absurd (Memᴰ.not-nil i)) no_row

-- the rows of a set of names that are numbered
names_rise : (s : State) (d : Decl) (sort : Name → Option ℕ) (names : List Name) → Ascending names
    → ((n : Name) → Memᴰ n names → Numbers s (name_number s.names n) n)
    → LateRise s (collect (λ n. row_for s.names d n (sort n)) names)
unfolding collect
names_rise s d sort [] asc numbered = no_row
names_rise s d sort (n ∷ names) asc numbered =
    rise_append (one_rises s d n (sort n)) (names_rise s d sort names (ascending_tail asc) (λ n i. numbered n (Memᴰ.tail i)))
    (λ r q i j.
    let (m, k, o) = collect_elim (λ n. row_for s.names d n (sort n)) names j in
    let (l, e) = row_parts s.names d n (sort n) i in
    let (l', e') = row_parts s.names d m (sort m) o in
    inr (l ∙ sym l', rw (e, e', (numbered n (Memᴰ.head refl)).1, (numbered m (Memᴰ.tail k)).1) (ascending_head asc m (mem_intro k))))

-- the lines of definitions ascend where those of all records do
definition_below : {n : ℕ} (decls : List Summary) → ((k : ℕ) → Memᴰ k (collect line_of decls) → n < k) → (d : Decl) → Memᴰ d (definitions decls) → n < d.line
unfolding line_of
definition_below decls h d i = h d.line (collect_intro line_of (definition_summary decls i) (Memᴰ.head refl))

-- the rows of definitions whose lines ascend
definitions_rise : (s : State) (ps : List Decl) (decls : List Summary) → Rising (collect line_of decls)
    → ((d : Decl) → Memᴰ d (definitions decls) → LateRise s (late_in s.names ps d))
    → LateRise s (collect (late_in s.names ps) (definitions decls))
unfolding collect definitions line_of late_in
definitions_rise s ps [] rise each = no_row
definitions_rise s ps (sum_assume f ∷ decls) rise each = definitions_rise s ps decls (rising_tail rise) each
definitions_rise s ps (sum_definefun d ∷ decls) rise each =
    rise_append (each d (Memᴰ.head refl)) (definitions_rise s ps decls (rising_tail rise) (λ c i. each c (Memᴰ.tail i)))
    (λ r q i j.
    let (n, k, o) = collect_elim (λ n. row_for s.names d n (sort_of ps d n)) d.free_names i in
    let (c, k', j') = collect_elim (late_in s.names ps) (definitions decls) j in
    let (m, l, o') = collect_elim (λ n. row_for s.names c n (sort_of ps c n)) c.free_names j' in
    let (e, e₁) = row_parts s.names d n (sort_of ps d n) o in
    let (e', e₂) = row_parts s.names c m (sort_of ps c m) o' in
    inl (rw (e, e') (definition_below decls (rising_head rise) c k')))
definitions_rise s ps (sum_declfun d ∷ decls) rise each = definitions_rise s ps decls (rising_tail rise) each
definitions_rise s ps (sum_retain ∷ decls) rise each = definitions_rise s ps decls rise each

-- the rows stand by line and then by name
pub late_rows_in_order : LateRowsInOrder
unfolding late_rows late_in
late_rows_in_order file s e =
    let ps = parts s.decls in
    definitions_rise s ps s.decls (records_rise exclude_names file s e)
    (λ d i.
    names_rise s d (sort_of ps d) d.free_names ((accepted_well_formed file s e).definition_sets d i) (λ n j. free_numbered file s e i j))

-- ---- their number

-- a name gives one row at most
row_few : (names : List Name) (d : Decl) (n : Name) (o : Option ℕ) → length (row_for names d n o) ≤ 1
unfolding to_list
row_few names d n none = omega arith
row_few names d n (some k) = omega arith

-- what is collected of lists of at most one is no more than the list
collect_few : {A B : Type 0} (f : A → List B) (l : List A) → ((x : A) → length (f x) ≤ 1) → length (collect f l) ≤ length l
unfolding collect
collect_few f [] h = omega arith
collect_few f (x ∷ l) h = omega (arith, length-append (f x) (collect f l), h x, collect_few f l h)

-- definitions have no more rows than their records name uses
rows_few : (f : Decl → List Row) → ((d : Decl) → length (f d) ≤ length d.free_names) → (decls : List Summary)
    → length (collect f (definitions decls)) ≤ sum (map uses_of decls)
unfolding collect definitions sum uses_of
rows_few f h [] = omega arith
rows_few f h (sum_assume g ∷ decls) = omega (arith, rows_few f h decls)
rows_few f h (sum_definefun d ∷ decls) = omega (arith, length-append (f d) (collect f (definitions decls)), h d, rows_few f h decls)
rows_few f h (sum_declfun d ∷ decls) = omega (arith, rows_few f h decls)
rows_few f h (sum_retain ∷ decls) = omega (arith, rows_few f h decls)

-- the name uses of an accepted file are within their limit
uses_within : (s : State) → T (all within (limits s)) → s.uses ≤ most_uses
unfolding limits
uses_within s t =
    leb→le s.uses most_uses
    (all_elim within t (Memᴰ.tail (Memᴰ.tail (Memᴰ.tail (Memᴰ.tail (Memᴰ.tail (Memᴰ.head refl)))))))

-- a definition has no more rows than its body free names
late_in_few : (names : List Name) (ps : List Decl) (d : Decl) → length (late_in names ps d) ≤ length d.free_names
unfolding late_in
late_in_few names ps d = collect_few (λ n. row_for names d n (sort_of ps d n)) d.free_names (λ n. row_few names d n (sort_of ps d n))

-- the rows are no more than the name uses
late_rows_few : (file : List ℕ) (s : State) → LinesRead file s → length (late_rows s) ≤ s.uses
unfolding late_rows
late_rows_few file s e =
    omega (
      arith,
      (accepted_laws file s e).counts.uses,
      rows_few (late_in s.names (parts s.decls)) (late_in_few s.names (parts s.decls)) s.decls,
    )

pub late_rows_bound : LateRowsBound
late_rows_bound file s e =
    (late_rows_few file s e, omega (arith, late_rows_few file s e, uses_within s (file_within exclude_names file s e)))

-- ---- no circle

module _ (file : List ℕ) (s : State) (accepted : LinesRead file s) (none_late : (r : Row) → Memᴰ r (late_rows s) → r.cause ≡ 1 → ⊥) where
  -- what a definition depends on stands before it
  lines_fall : {d e : Decl} → Depends (definitions s.decls) d e → e.line < d.line
  unfolding parts
  lines_fall (at_once {d} {e} i j k) = ⊎_elim
      (λ (h : d.line ≤ e.line).
      absurd (none_late (row d.line (name_number s.names e.name) 1)
      ((late_rows_exact file s accepted (row d.line (name_number s.names e.name) 1)).1
      (record {
        definition = d;
        is_definition = i;
        name = e.name;
        is_free = k;
        line = refl;
        number = free_numbered file s accepted i k;
        sort = inl (refl, record { part = e; is_part = Memᴰ.append_left (declarations s.decls) j; of_name = refl; late = h });
      })) refl))
      (λ (h : e.line < d.line). h)
      (le_or_lt d.line e.line)
  lines_fall (through {c} {d} {e} p q) = omega (arith, lines_fall p, lines_fall q)

-- so none depends on itself
pub no_circle : NoCircle
no_circle file s accepted h d p = omega (arith, lines_fall file s accepted h p)

-- ---- every name before it is used

-- a name without a row has its part on an earlier line
pub declared_before : DeclaredBefore
declared_before file s accepted e d i n j = go (sorted s.decls d n)
  where
    no_row_of : (k : ℕ) → ((k ≡ 1) × ComesLate s.decls d n) ⊎ ((k ≡ 2) × HasNeither s.decls n) → ⊥
    no_row_of k why =
        Memᴰ.not-nil (rw e at ((late_rows_exact file s accepted (row d.line (name_number s.names n) k)).1
        (record { definition = d; is_definition = i; name = n; is_free = j; line = refl; number = free_numbered file s accepted i j; sort = why })))

    go : {o : Option ℕ} → Sorted s.decls d n o → ComesBefore s.decls d n
    go (late l) = absurd (no_row_of 1 (inl (refl, l)))
    go (lacking l) = absurd (no_row_of 2 (inr (refl, l)))
    go (early p k q h) = record { part = p; is_part = k; of_name = q; early = h p k q }
