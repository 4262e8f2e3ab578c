-- The rows on numbers are those of `model` over the state that the tables hold.
use Prim.Native.Nat.{ℕ, zero, suc, ◌-◌, ◌<◌}
use native.Mathlib.Numerals.{add-one}
use native.Mathlib.Omega.{arith}
use mathlib.Core.Path.{◌≡◌, refl, sym, ap, ap₂, ◌∙◌}
use mathlib.Core.Logic.{⊎_elim}
use mathlib.Core.Bool.{Bool, true, false, cond, not, ◌||◌}
use mathlib.Core.List.{List, [], ◌∷◌, ◌++◌, map}
use Rattle.std.specs.Prelude.{Option, None as none, Some as some, None, Some}
use lib.Dec.{T, eqb, leb, ltb}
use borrow.Author.Tests.{eq-eqb, ne_eqb, ltb-true, ltb-false, le-leb, lt-leb}
use Rattle.model.specs.Lists.{any, keep, collect, is_nil, to_list, when, ◌>>=◌}
use Rattle.model.specs.Names.{Name, same, mem, name_number}
use Rattle.model.specs.Reading.{Decl}
use Rattle.model.specs.Rounds.{definitions, declarations}
use Rattle.model.specs.Precedence.{parts, sort_of, late_in, late_rows}
use Rattle.model.specs.declared.Counts.{Counts}
use Rattle.model.specs.declared.Row.{Row}
use Rattle.model.proofs.ListLaws.{map_elim, collect_cong, collect_map, keep_append, keep_cong}
use Rattle.model.proofs.SetLaws.{mem_elim, mem_from_list, ascending_from_list}
use Rattle.names.specs.Table.{name_of, table_names, ranked}
use Rattle.names.proofs.Laws.{listed}
use Rattle.terms.proofs.Laws.{equal}
use Rattle.records.specs.Columns.{record_kind, record_line, assume_kind, fun_kind, def_kind}
use Rattle.records.specs.States.{uses_at, free_at, decl_at, decls_of, state_of}
use Rattle.macros.specs.Macros.{Filled}
use Rattle.firing.proofs.Background.{is_definition, def_at}
use Rattle.firing.proofs.Joining.{uses_low}
use Rattle.prune.specs.Listing.{from, record_behind, taker, kind_at, is_among}
use Rattle.prune.proofs.Ranges.{collect_keep, from_below}
use Rattle.prune.proofs.Filed.{fun_at, definitions_are}
use Rattle.prune.proofs.Picking.{kind_none, kind_not, kind_is}
use Rattle.prune.proofs.Takers.{one_zero, one_suc}
use Rattle.prune.proofs.Linking.{number_is, by_rank, in_all, free_has, def_found, fun_found}
use Rattle.precedence.specs.declared.Sort.{Sort}
use Rattle.precedence.specs.declared.Sort.TheVariants.{Late, Neither}
use Rattle.precedence.specs.Sorts.{sort_number, sort_at, late_at, sorted_row, rank_row, body_rows, def_rows, all_late}

-- ---- tests

-- the number of a sort, if there is one
abbrev sort_option : Option Sort → Option ℕ
sort_option None = none
sort_option (Some s) = some (sort_number s)

-- the row by the sort is that of the option
sorted_option : (recs : List ℕ) (i n number : ℕ) (s : Option Sort) → number ≡ n
    → to_list {A = Row} (sort_option s >>= λ (k : ℕ). some (record { line = record_line recs i; number = number; cause = k })) ≡ sorted_row recs i n s
unfolding to_list sorted_row
sorted_option recs i n number None e = refl
sorted_option recs i n number (Some s) e = rw e

-- no row without a sort
sorted_none : (recs : List ℕ) (i n : ℕ) → [] ≡ sorted_row recs i n None
unfolding sorted_row
sorted_none recs i n = refl

-- a line at most another, and not below it
leb_ltb : (a b : ℕ) → leb a b ≡ not (ltb b a)
leb_ltb a b = go (ltb b a) refl
  where
    go : (c : Bool) → ltb b a ≡ c → leb a b ≡ not c
    go true e = lt-leb a b (ltb-true b a e)
    go false e = le-leb a b (ltb-false b a e)

-- ---- the sort of a name, by what is found of it

-- no part
sort_nothing : (ps : List Decl) (d : Decl) (n : Name) → keep (λ p. same p.name n) ps ≡ [] → sort_of ps d n ≡ some 2
unfolding sort_of is_nil
sort_nothing ps d n e = rw e

-- one part
sort_single : (ps : List Decl) (d p : Decl) (n : Name) → keep (λ p. same p.name n) ps ≡ p ∷ []
    → sort_of ps d n ≡ sort_option (cond (ltb p.line d.line) None (Some Late))
unfolding sort_of is_nil any when sort_number
sort_single ps d p n e = rw e (go (leb d.line p.line) (ltb p.line d.line) (leb_ltb d.line p.line))
  where
    go : (b c : Bool) → b ≡ not c → when (b || false) 1 ≡ sort_option (cond c None (Some Late))
    go true true e = absurd (let z : ◌≡◌ {A = ℕ} (cond true 0 1) (cond (not true) 0 1) = ap (λ (b : Bool). cond b 0 1) e in omega arith)
    go true false e = refl
    go false true e = refl
    go false false e = absurd (let z : ◌≡◌ {A = ℕ} (cond false 0 1) (cond (not false) 0 1) = ap (λ (b : Bool). cond b 0 1) e in omega arith)

module _ {file names recs lists : List ℕ} {k : Counts} (x : Filled file names recs lists k) where
  abbrev name : ℕ → Name
  name = name_of file names

  abbrev rank_name : ℕ → Name
  rank_name r = name_of file names (ranked names r)

  -- the parts of the tables, and the def of a record
  abbrev ps : List Decl
  ps = parts (decls_of (name_of file names) recs lists k.records)

  abbrev def : ℕ → Decl
  def = def_at (name_of file names) recs lists

  -- the part found of the name of a rank
  part_found : (r : ℕ) → r < k.names → keep (λ p. same p.name (rank_name r)) ps
      ≡ map def (record_behind (kind_at names recs def_kind r)) ++ map (fun_at name recs lists) (record_behind (kind_at names recs fun_kind r))
  unfolding parts
  part_found r h =
      keep_append (λ p. same p.name (rank_name r)) (definitions (decls_of name recs lists k.records)) (declarations (decls_of name recs lists k.records))
      ∙ ap₂ ◌++◌ (def_found x r h) (fun_found x r h)

  -- the record of a kind that took it, and one
  kind_zero : (kind r : ℕ) → taker names r ≡ 0 → record_behind (kind_at names recs kind r) ≡ []
  kind_zero kind r e = one_zero _ (sym (kind_none names recs kind r (taker names r) refl e))

  module _ (kind r j : ℕ) (e : taker names r ≡ suc j) where
    kind_here : record_kind recs j ≡ record_kind recs (suc j - 1)
    kind_here = ap (record_kind recs) (let z : j ≡ suc j - 1 = omega arith in z)

    kind_other : (record_kind recs j ≡ kind → ⊥) → record_behind (kind_at names recs kind r) ≡ []
    kind_other q = one_zero _ (sym (kind_not names recs kind r (suc j) (sym e) (λ d. omega arith) (record_kind recs j) kind_here q))

    kind_same : record_kind recs j ≡ kind → record_behind (kind_at names recs kind r) ≡ j ∷ []
    kind_same q = one_suc _ j (sym (kind_is names recs kind r (suc j) (sym e) (λ d. omega arith) (record_kind recs j) kind_here q))

  -- the sort of the name of a rank
  sort_is : (i r : ℕ) → r < k.names → sort_of ps (def i) (rank_name r) ≡ sort_option (sort_at names recs i (ranked names r))
  unfolding sort_at decl_at sort_number
  sort_is i r h = go (taker names r) refl
    where
      go : (t : ℕ) → taker names r ≡ t → sort_of ps (def i) (rank_name r)
          ≡ sort_option (cond (eqb t 0) (Some Neither) (cond (eqb (record_kind recs (t - 1)) assume_kind) (Some Neither)
          (cond (ltb (record_line recs (t - 1)) (record_line recs i)) None (Some Late))))
      go zero e =
          sort_nothing ps (def i) (rank_name r)
          (part_found r h ∙ ap₂ (λ (a b : List ℕ). map def a ++ map (fun_at name recs lists) b) (kind_zero def_kind r e) (kind_zero fun_kind r e))
      go (suc j) e =
          let z : suc j - 1 ≡ j = omega arith in
          rw (ne_eqb (suc j) 0 (λ d. omega arith), z)
          (⊎_elim
          (λ (q : record_kind recs j ≡ def_kind).
          rw (ne_eqb (record_kind recs j) assume_kind (λ d. omega arith))
          (sort_single ps (def i) (def j) (rank_name r)
          (part_found r h ∙ ap₂ (λ (a b : List ℕ). map def a ++ map (fun_at name recs lists) b) (kind_same def_kind r j e q) (kind_other fun_kind r j e (λ d. omega arith)))))
          (λ (q : record_kind recs j ≡ def_kind → ⊥).
          ⊎_elim
          (λ (p : record_kind recs j ≡ fun_kind).
          rw (ne_eqb (record_kind recs j) assume_kind (λ d. omega arith))
          (sort_single ps (def i) (fun_at name recs lists j) (rank_name r)
          (part_found r h ∙ ap₂ (λ (a b : List ℕ). map def a ++ map (fun_at name recs lists) b) (kind_other def_kind r j e q) (kind_same fun_kind r j e p))))
          (λ (p : record_kind recs j ≡ fun_kind → ⊥).
          let low = (x.stocked.taken.takes (ranked names r) j (omega (arith, x.table.numbers r h, x.table.few)) (e ∙ sym (add-one j))).0 in
          rw (eq-eqb (record_kind recs j) assume_kind (fact_kind (record_kind recs j) low q p))
          (sort_nothing ps (def i) (rank_name r)
          (part_found r h ∙ ap₂ (λ (a b : List ℕ). map def a ++ map (fun_at name recs lists) b) (kind_other def_kind r j e q) (kind_other fun_kind r j e p))))
          (equal (record_kind recs j) fun_kind))
          (equal (record_kind recs j) def_kind))
        where
          fact_kind : (c : ℕ) → c < 3 → (c ≡ 2 → ⊥) → (c ≡ 1 → ⊥) → c ≡ 0
          fact_kind zero l q p = refl
          fact_kind (suc zero) l q p = absurd (p refl)
          fact_kind (suc (suc zero)) l q p = absurd (q refl)
          fact_kind (suc (suc (suc c))) l q p = absurd (omega arith)

  -- the names free in a body, by rank
  free_ranks : (i : ℕ) → i < k.records
      → free_at name recs lists i ≡ map rank_name (keep (λ r. is_among (ranked names r) (uses_at recs lists i)) (from 0 k.names))
  unfolding free_at
  free_ranks i h =
      by_rank x (free_at name recs lists i) (ascending_from_list (map name (uses_at recs lists i))) found
      ∙ ap (map rank_name)
      (keep_cong (λ r. mem (rank_name r) (free_at name recs lists i)) (λ r. is_among (ranked names r) (uses_at recs lists i)) (from 0 k.names)
      (λ r m. free_has x i (ranked names r) h (x.table.numbers r (from_below k.names m))))
    where
      found : (n : Name) → T (mem n (free_at name recs lists i)) → T (mem n (listed rank_name k.names))
      found n t =
          let (m, a, e) = map_elim name (uses_at recs lists i) (mem_elim ((mem_from_list n (map name (uses_at recs lists i))).0 t)) in
          rw (← e) (in_all x m (uses_low x i m h a))

  -- the rows of a def
  def_late : (i : ℕ) → i < k.records
      → late_in (table_names file names k.names) ps (def i) ≡ body_rows names recs (λ n. is_among n (uses_at recs lists i)) k.names i
  unfolding late_in body_rows rank_row late_at decl_at
  def_late i h =
      ap (collect row) (free_ranks i h)
      ∙ collect_map row rank_name (keep there (from 0 k.names))
      ∙ collect_keep (λ r. row (rank_name r)) there (from 0 k.names)
      ∙ collect_cong (λ r. cond (there r) (row (rank_name r)) []) (rank_row names recs (λ n. is_among n (uses_at recs lists i)) i) (from 0 k.names)
      (λ r m. each r (from_below k.names m) (there r))
    where
      row : Name → List Row
      row n = to_list (sort_of ps (def i) n >>= λ (c : ℕ). some (record { line = record_line recs i; number = name_number (table_names file names k.names) n; cause = c }))

      there : ℕ → Bool
      there r = is_among (ranked names r) (uses_at recs lists i)

      each : (r : ℕ) → r < k.names → (b : Bool)
          → cond b (row (rank_name r)) [] ≡ sorted_row recs i (ranked names r) (cond b (sort_at names recs i (ranked names r)) None)
      each r l true =
          rw (sort_is i r l)
          (sorted_option recs i (ranked names r) (name_number (table_names file names k.names) (rank_name r)) (sort_at names recs i (ranked names r))
          (number_is x (ranked names r) (x.table.numbers r l)))
      each r l false = sorted_none recs i (ranked names r)

  -- all rows
  pub late_is : (refs rows : List ℕ) → late_rows (state_of file names refs rows recs lists k) ≡ all_late names recs lists k
  unfolding late_rows all_late def_rows state_of
  late_is refs rows =
      ap (collect given) (definitions_are name recs lists k.records)
      ∙ collect_map given def (keep (is_definition recs) (from 0 k.records))
      ∙ collect_keep (λ i. given (def i)) (is_definition recs) (from 0 k.records)
      ∙ collect_cong (λ i. cond (is_definition recs i) (given (def i)) []) (def_rows names recs lists k.names) (from 0 k.records)
      (λ i m. ap (λ (l : List Row). cond (is_definition recs i) l []) (def_late i (from_below k.records m)))
    where
      given : Decl → List Row
      given = late_in (table_names file names k.names) ps
