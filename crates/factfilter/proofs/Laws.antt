-- Laws of the program.
use Prim.Native.Nat.{ℕ, zero, suc, ◌*◌, ◌≤◌, ◌<◌}
use native.Mathlib.Nat.{zero-add}
use native.Mathlib.Omega.{arith}
use mathlib.Core.Path.{◌≡◌, refl, sym, ◌∙◌, ap}
use mathlib.Core.Bool.{cond}
use mathlib.Core.List.{List, [], ◌∷◌}
use lib.ListN.{length, get_or}
use Rattle.model.specs.Lists.{any}
use Rattle.model.specs.Reading.{most_uses}
use Rattle.model.specs.Outcome.{Lent, most_kept, too_short}
use Rattle.model.specs.Working.{Working, sizes}
use Rattle.model.specs.Explaining.{Explanation, refusal_at, no_position, told, most_rows, explanation, why}
use Rattle.model.specs.Checking.{Checked, listed_rows, check, ordered}
use Rattle.model.specs.Checking as checking
use Rattle.model.specs.declared.Answer.{Answer}
use Rattle.model.specs.declared.Ordered.{Ordered}
use Rattle.model.specs.declared.Row.{Row}
use Rattle.model.specs.declared.Swept.{Swept}
use Rattle.model.specs.declared.Why.{Why}
use Rattle.words.specs.Slices.{Copied}
use Rattle.rows.specs.Rows.{rows_held}
use Rattle.rows.specs.Left.{RowsLeft}
use Rattle.demands.specs.Demand1.{ShortSlice}
use Rattle.demands.proofs.Demand1.{short_true}
use Rattle.filter.specs.Demands.{KeptPromise}
use Rattle.filter.proofs.Demands.{room_enough_of_calls}
use Rattle.explain.specs.Call.{rows_told, ExplainsTo}
use Rattle.precedence.specs.Call.{rows_of_check, Orders}
use Rattle.sweep.specs.Demands as second
use Rattle.printing.proofs.Answers.{swept_room}
use Rattle.factfilter.specs.Filters.{own_slices, Filters}
use Rattle.factfilter.specs.Explains.{row_words, Explains}
use Rattle.factfilter.specs.Sweeps.{Sweeps}
use Rattle.factfilter.specs.Orders.{late_words, OrdersFile}

-- no working slice of the program is too short
own_long : ShortSlice own_slices → ⊥
unfolding too_short any
own_long p = let z : ◌≡◌ {A = ℕ} 0 1 = ap (λ b. cond b 0 1) (sym (short_true own_slices p)) in omega arith

-- what `filter` promises is what the program asks of it
pub filters : (file out : List ℕ) (a : Answer) (out' : List ℕ) (lent left : Working)
    → KeptPromise (record { file = file; lent = lent; out = out; answer = a; left = left; out' = out' })
    → sizes lent ≡ own_slices → most_kept ≤ length out → Filters file out a out'
filters file out a out' lent left p e long =
    record {
      gives = rw e at p.exact.gives;
      never_7 = λ seven. own_long (rw e at ((p.demands.demand_1.front.refused_7 a.place).0 (seven, refl)).1);
      never_8 = λ eight. room_enough_of_calls _ p.exact long a.place (eight, refl);
    }

-- the rows in words are those in the words that were copied
pub rows_copied : (n : ℕ) (ws vs : List ℕ) → 2 * n ≤ length ws → 2 * n ≤ length vs
    → ((i : ℕ) → i < 2 * n → get_or vs i 0 ≡ get_or ws i 0) → rows_held n vs ≡ rows_held n ws
unfolding rows_held
rows_copied zero ws vs h k same = refl
rows_copied (suc n) [] vs h k same = absurd (omega arith)
rows_copied (suc n) (a ∷ []) vs h k same = absurd (omega arith)
rows_copied (suc n) (a ∷ b ∷ ws) [] h k same = absurd (omega arith)
rows_copied (suc n) (a ∷ b ∷ ws) (c ∷ []) h k same = absurd (omega arith)
rows_copied (suc n) (a ∷ b ∷ ws) (c ∷ d ∷ vs) h k same =
    let rest = rows_copied n ws vs (omega arith) (omega arith) (λ i l. same (suc (suc i)) (omega arith)) in
    let first : c ≡ a = same 0 (omega arith) in
    let second : d ≡ b = same 1 (omega arith) in
    rw (first, second, rest)

-- the rows that a call leaves in words stand in the words that they are copied to
rows_stand : {works : List Lent} {lent left : Working} {rs : List Row} {rows rows' : List ℕ} (n : ℕ) → RowsLeft works lent left rs
    → n ≡ length rs → 2 * n ≤ length rows → Copied left.run 0 0 (2 * n) rows rows'
    → (rows_held n rows' ≡ rs) × (2 * n ≤ length rows')
rows_stand {left = left} {rs = rs} {rows' = rows'} n l e h copied =
    let room : 2 * n ≤ length rows' = omega (arith, copied.same.same_length) in
    let inside : 2 * n ≤ length left.run = rw e l.inside in
    let stand : rows_held n left.run ≡ rs = rw e l.stand in
    (rows_copied n left.run rows' inside room (λ i k. simp zero-add at (copied.words i k)) ∙ stand, room)

-- an answer tells how many rows there are
reasons_count : (e : Explanation) → (why e).rows ≡ length (rows_told e)
unfolding why rows_told
reasons_count (refusal_at r place) = refl
reasons_count no_position = refl
reasons_count (told given met) = refl

-- what `explain` tells, its rows copied, is what the program asks of it
pub explains : (file : List ℕ) (position : ℕ) (lent left : Working) (w : Why) (rows rows' : List ℕ)
    → ExplainsTo file position lent most_rows w left → sizes lent ≡ own_slices → row_words ≤ length rows
    → Copied left.run 0 0 (2 * w.rows) rows rows' → Explains file position w rows'
explains file position lent left w rows rows' t e long copied =
    let count = ap (λ (a : Why). a.rows) t.answered ∙ reasons_count (explanation file position (sizes lent) most_rows) in
    let (stand, room) = rows_stand w.rows t.left count (omega (arith, t.fits)) copied in
    record { answered = rw e at t.answered; stand = rw e at stand; room = room }

-- the same of the check
late_count : (c : Checked) → (ordered c).rows ≡ length (rows_of_check c)
unfolding ordered rows_of_check
late_count (checking.refusal_at r place) = refl
late_count (listed_rows rs) = refl

pub orders : (file : List ℕ) (lent left : Working) (o : Ordered) (rows rows' : List ℕ)
    → Orders file lent most_uses o left → sizes lent ≡ own_slices → late_words ≤ length rows
    → Copied left.run 0 0 (2 * o.rows) rows rows' → OrdersFile file o rows'
orders file lent left o rows rows' t e long copied =
    let count = ap (λ (a : Ordered). a.rows) t.answered ∙ late_count (check file (sizes lent) most_uses) in
    let (stand, room) = rows_stand o.rows t.left count (omega (arith, t.fits)) copied in
    record { answered = rw e at t.answered; stand = rw e at stand; room = room }

-- what `sweep` promises is what the program asks of it
pub sweeps : (file out : List ℕ) (a : Swept) (out' : List ℕ) (lent left : Working)
    → second.KeptPromise (record { file = file; lent = lent; out = out; answer = a; left = left; out' = out' })
    → sizes lent ≡ own_slices → Sweeps file out a out'
sweeps file out a out' lent left p e =
    record {
      answered = rw e at p.exact.answered;
      result = rw e at p.exact.result;
      room = swept_room file (sizes lent) (length out) out a out' p.exact.answered p.exact.result;
    }
