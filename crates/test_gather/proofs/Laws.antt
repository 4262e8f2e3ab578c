-- Laws of the program: zeros, references pushed, and a row added to a table without marks.
use Prim.Native.Nat.{ℕ, ◌+◌, ◌*◌, ◌%◌, ◌≤◌, ◌<◌}
use native.Mathlib.Nat.{not-suc-le-zero}
use native.Mathlib.Omega.{arith}
use mathlib.Core.Path.{◌≡◌, ◌∙◌}
use mathlib.Core.Logic.{⊎_elim}
use mathlib.Core.List.{List}
use lib.ListN.{length, get_or, set, replicate, length-replicate, length-set}
use lib.Seq.{get_or-set_other}
use Rattle.model.specs.Names.{Name}
use Rattle.model.specs.Terms.{Node}
use Rattle.model.proofs.ListLaws.{zero_at}
use Rattle.additions.specs.Additions.{Addition}
use Rattle.additions.specs.Additions.{with_row, references_pushed, Patterns, AddsTerm}
use Rattle.gather.specs.Sets.{Fresh}
use Rattle.terms.proofs.Laws.{equal}
use Rattle.additions.proofs.Laws.{added_in}
use Rattle.terms.proofs.Table.{empty_rows}
use Rattle.additions.proofs.Adding.{push_agrees}
use Rattle.additions.proofs.Lines.{pushed_none, pushed_one, push_last}
use Rattle.test_gather.specs.Tables.{Blank, UnmarkedTable}

-- a list of zeros is blank
pub zeros_blank : (column n : ℕ) → 16384 ≤ n → Blank column (replicate n 0)
zeros_blank column n h = record { long = rw (length-replicate {A = ℕ} n 0) h; zeros = λ i l. zero_at n i }

-- a word before the column leaves a slice blank
pub set_blank : {column : ℕ} {words : List ℕ} (i v : ℕ) → i < column → Blank column words → Blank column (set words i v)
set_blank {column} {words} i v h b = record {
  long = rw (length-set words i v) b.long;
  zeros = λ j l. get_or-set_other words i j v 0 (λ e. omega arith) ∙ b.zeros j l;
}

-- blank slices are a table of no rows
pub no_rows : {refs rows : List ℕ} → 16384 ≤ length refs → Blank 12288 rows → UnmarkedTable refs rows 0 0 0
no_rows {refs} {rows} h b = record {
  behind = pushed_none (empty_rows refs rows 2048 h b.long (omega arith));
  marks = b;
  in_table = λ i l. absurd (not-suc-le-zero l);
}

-- where the references end, and how many rows there are, said otherwise
pub table_to : {refs rows : List ℕ} {start used used' many many' : ℕ} → used ≡ used' → many ≡ many' → UnmarkedTable refs rows start used many → UnmarkedTable refs rows start used' many'
table_to e f t = rw (e, f) at t

-- one reference more
pub table_pushed : {refs refs' rows : List ℕ} {start used used' many : ℕ} (term : ℕ) → refs' ≡ references_pushed refs used (term + 4096 * 0) → used' ≡ used + 1 → used < 16384 → term < many
    → UnmarkedTable refs rows start used many → UnmarkedTable refs' rows start used' many
table_pushed {refs} {refs'} {rows} {start} {used} {used'} {many} term is next l h t = rw (is, next) (record {
  behind = pushed_one term 0 t.behind h l;
  marks = t.marks;
  in_table = λ i k. ⊎_elim
      (λ (e : i ≡ used). rw (e, push_last refs used (term + 4096 * 0) t.behind.table.ref_room l) (omega arith))
      (λ (e : i ≡ used → ⊥). rw (push_agrees refs used (term + 4096 * 0) i (omega arith)) (t.in_table i (omega arith)))
      (equal i used);
})

-- the references behind a table are a body and patterns of one group
pub table_patterns : {refs rows : List ℕ} {start used many : ℕ} → start < used → UnmarkedTable refs rows start used many → Patterns refs start used 1
table_patterns {used = used} {many} h t =
    let few : many ≤ 4096 = t.behind.table.few_rows in
    record {
      bodied = h;
      grouped = λ i a b. omega (arith, t.in_table i b);
      rising = λ i a b. omega (arith, t.in_table i (omega arith));
    }

-- the references of a table are to its terms
pub table_lower : {refs rows : List ℕ} {start used many : ℕ} → UnmarkedTable refs rows start used many → (i : ℕ) → i < used → get_or refs i 0 % 4096 < many
table_lower t i h = omega (arith, t.in_table i h)

-- a new row leaves the marks blank
row_blank : {rows : List ℕ} (many word start extra : ℕ) → many < 4096 → Blank 12288 rows → Blank 12288 (with_row rows many word start extra)
unfolding with_row
row_blank many word start extra h b =
    set_blank (8192 + many) extra (omega arith) (set_blank (4096 + many) start (omega arith) (set_blank many word (omega arith) b))

-- a table with one row more
pub table_added : {refs rows rows' : List ℕ} {start used many word extra : ℕ} {node : (ℕ → Name) → Node} {r : Addition} → many < 4096 → UnmarkedTable refs rows start used many
    → AddsTerm refs rows rows' start used many 2048 word extra node r → UnmarkedTable refs rows' used used (many + 1)
table_added {rows = rows} {start = start} {many = many} {word = word} {extra} l t a = record {
  behind = pushed_none (a.table l);
  marks = rw (a.row_words, (added_in rows many word start extra l).1) (row_blank many word start extra l t.marks);
  in_table = λ i h. omega (arith, t.in_table i h);
}

-- slices without marks are fresh for mark 1
pub fresh_one : {names refs rows : List ℕ} {start used many : ℕ} → Blank 8192 names → UnmarkedTable refs rows start used many → Fresh names rows 1
fresh_one b t = record {
  row_marks = λ i l. omega (arith, t.marks.zeros (12288 + i) (omega arith));
  name_marks = λ i l. omega (arith, b.zeros (8192 + i) (omega arith));
}
