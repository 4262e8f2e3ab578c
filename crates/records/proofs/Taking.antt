-- Whether a record takes part, by its kind and its group.
use Prim.Native.Nat.{ℕ}
use mathlib.Core.Path.{◌≡◌, sym}
use mathlib.Core.Bool.{Bool, false}
use mathlib.Core.List.{List}
use lib.Dec.{T, eqb, eqb→eq}
use borrow.Author.Tests.{ne_eqb}
use Rattle.model.specs.Reading.{Ask}
use Rattle.model.specs.Rounds.{admits}
use Rattle.model.proofs.ListLaws.{T_and}
use Rattle.records.specs.Columns.{record_kind, record_group, assume_kind}
use Rattle.records.specs.States.{takes_part}

module _ (recs : List ℕ) (a : Ask) (i : ℕ) {kind : ℕ} (is : kind ≡ record_kind recs i) where
  -- a record of another kind does not
  pub no_part : (kind ≡ assume_kind → ⊥) → false ≡ takes_part recs a i
  unfolding takes_part
  no_part other = rw (ne_eqb (record_kind recs i) assume_kind (λ e. other (rw is e)))

  -- a fact does where its group is admitted
  pub part_by : kind ≡ assume_kind → {group : ℕ} {r : Bool} → group ≡ record_group recs i → r ≡ admits a group → r ≡ takes_part recs a i
  unfolding takes_part
  part_by fact group admitted = rw (sym is, fact, sym group) admitted

-- a record that takes part is a fact
pub part_kind : (recs : List ℕ) (a : Ask) (i : ℕ) → T (takes_part recs a i) → record_kind recs i ≡ assume_kind
unfolding takes_part
part_kind recs a i t = eqb→eq (record_kind recs i) assume_kind ((T_and (eqb (record_kind recs i) assume_kind) (admits a (record_group recs i))).0 t).0

-- and its group is admitted
pub part_admits : (recs : List ℕ) (a : Ask) (i : ℕ) → T (takes_part recs a i) → T (admits a (record_group recs i))
unfolding takes_part
part_admits recs a i t = ((T_and (eqb (record_kind recs i) assume_kind) (admits a (record_group recs i))).0 t).1

-- asks of the same groups have the same facts take part
pub part_groups : (recs : List ℕ) (a b : Ask) → a.groups ≡ b.groups → (i : ℕ) → takes_part recs a i ≡ takes_part recs b i
unfolding takes_part admits
part_groups recs a b e i = rw e
