-- Marks below the next one.
use Prim.Native.Nat.{ℕ, ◌+◌, ◌≤◌}
use native.Mathlib.Omega.{arith}
use mathlib.Core.Logic.{⊎_elim}
use mathlib.Core.List.{List}
use Rattle.std.specs.Prelude.{Option}
use Rattle.gather.specs.Sets.{Fresh, Gathered}

-- marks below one mark are below a later one
pub fresh_later : {names rows : List ℕ} (m n : ℕ) → m ≤ n → Fresh names rows m → Fresh names rows n
fresh_later m n h f = record { row_marks = λ t l. omega (arith, f.row_marks t l); name_marks = λ k l. omega (arith, f.name_marks k l) }

-- the marks after gathering a set are below the next one
pub fresh_next : {names rows lists names' rows' lists' : List ℕ} {mark at room : ℕ} {r : Option ℕ} → Fresh names rows mark
    → Gathered names rows lists names' rows' lists' mark at room r → Fresh names' rows' (mark + 1)
fresh_next f g = record {
  row_marks = λ t l. ⊎_elim (λ e. omega arith) (λ e. omega (arith, f.row_marks t l)) (g.row_marks t l);
  name_marks = λ k l. ⊎_elim (λ e. omega arith) (λ e. omega (arith, f.name_marks k l)) (g.name_marks k l);
}
