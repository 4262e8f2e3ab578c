-- A name table of the file is so in one way at most, so that a struct may hold the fact.
use Rattle.std.specs.Prelude.{ℕ, ◌<◌, ◌≤◌, ◌+◌, ◌≡◌, List, length}
use Rattle.std.proofs.lemmas.Bool.{cases_order}
use mathlib.Core.HLevel.{Π_prop}
use mathlib.Core.Logic.{⊎_elim}
use mathlib.Core.Path.{sym, ap, subst, ◌∙◌}
use denote.Struct.Props as logic
use Rattle.model.specs.Names.{order}
use Rattle.std.specs.declared.cmp.Ordering.TheVariants.{Less}
use Rattle.model.specs.Outcome.{most_bytes, working_words}
use Rattle.model.specs.Reading.{most_names}
use Rattle.model.proofs.SetLaws.{order_irrefl}
use Rattle.names.specs.Known.{head_code}
use Rattle.names.specs.Table.{Table, name_of, name_start, name_length, name_code, ranked}

module _ {file w : List ℕ} {named : ℕ} (t : Table file w named) where
  -- two ranks of one number are one
  one_rank : (r q n : ℕ) → r < named → q < named → ranked w r ≡ n → ranked w q ≡ n → r ≡ q
  one_rank r q n h k e d = ⊎_elim (λ l. l) (⊎_elim (λ l. absurd (order_irrefl (t.ascending r q l k) same))
      (λ l. absurd (order_irrefl (t.ascending q r l h) (sym same)))) (cases_order r q)
    where
      same : name_of file w (ranked w r) ≡ name_of file w (ranked w q)
      same = ap (name_of file w) (e ∙ sym d)

  -- a rank of a number, beside the facts on it, is one
  one_each : (n : ℕ) → IsProp ((r : ℕ) × (r < named) × (ranked w r ≡ n))
  one_each n (r, h, e) (q, k, d) =
      subst (λ z. (x : (z < named) × (ranked w z ≡ n)) → ◌≡◌ {A = (r : ℕ) × (r < named) × (ranked w r ≡ n)} (r, h, e) (z, x.0, x.1)) (one_rank r q n h k e d)
      (λ x i. let y = pair (h, e) x i in (r, y.0, y.1)) (k, d)
    where
      pair : IsProp ((r < named) × (ranked w r ≡ n))
      pair = Prim.hlevel logic.props

-- a name table is so in one way at most
pub Table-prop : {file w : List ℕ} {named : ℕ} → IsProp (Table file w named)
Table-prop {file} {w} {named} x y = λ i. record {
  room = room x.room y.room i;
  short = short x.short y.short i;
  few = few x.few y.few i;
  inside = inside x.inside y.inside i;
  numbers = numbers x.numbers y.numbers i;
  each = Π_prop (λ n. Π_prop (λ l. one_each x n)) x.each y.each i;
  ascending = ascending x.ascending y.ascending i;
  codes = codes x.codes y.codes i;
}
  where
    room : IsProp (working_words ≤ length w)
    room = Prim.hlevel logic.props

    short : IsProp (length file ≤ most_bytes)
    short = Prim.hlevel logic.props

    few : IsProp (named ≤ most_names)
    few = Prim.hlevel logic.props

    inside : IsProp ((n : ℕ) → n < named → name_start w n + name_length w n ≤ length file)
    inside = Prim.hlevel logic.props

    numbers : IsProp ((r : ℕ) → r < named → ranked w r < named)
    numbers = Prim.hlevel logic.props

    ascending : IsProp ((r q : ℕ) → r < q → q < named → order (name_of file w (ranked w r)) (name_of file w (ranked w q)) ≡ Less)
    ascending = Prim.hlevel logic.props

    codes : IsProp ((n : ℕ) → n < named → name_code w n ≡ head_code (name_of file w n))
    codes = Prim.hlevel logic.props
