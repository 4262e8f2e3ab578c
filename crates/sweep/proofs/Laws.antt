-- The answer of lists and passes, position after position; 8 or the lines.
use Prim.Native.Nat.{ℕ, ◌+◌, ◌≤◌, ◌<◌}
use native.Mathlib.Omega.{arith}
use mathlib.Core.Path.{◌≡◌, refl, sym, ◌∙◌, ap}
use mathlib.Core.Bool.{false}
use mathlib.Core.List.{List, [], ◌∷◌, ◌++◌, map}
use lib.ListN.{length, take, drop, set, replicate, length-append}
use borrow.Author.Tests.{le-leb, lt-leb}
use Rattle.model.specs.Reading.{most_records, most_asks}
use Rattle.model.specs.Outcome.{Position, refusal_at, lists, all_kept, padded, fitting, working_words, answer, result_after}
use Rattle.model.specs.declared.Refusal.TheVariants as refusal
use Rattle.model.specs.declared.Swept.{Swept}
use Rattle.model.specs.declared.Verdict.TheVariants.{Accepted}
use Rattle.words.specs.Slices.{SameBut}
use Rattle.filter.specs.Call as first_call
use Rattle.filter.proofs.Laws as first_laws
use Rattle.filter.proofs.Laws.{padded_next, count_next}
use Rattle.sweep.specs.Call.{telling, ListedAt, Replied, Gives}
use Rattle.sweep.specs.declared.Tally.{Tally}

-- ---- the lists of the asks, one after the other

-- a list as the first engine lists it
listed_first : {p : Position} {many at : ℕ} {lines lines' : List ℕ} {r : Tally} → ListedAt p many at lines lines' r
    → first_call.ListedAt p at lines lines'
    (record {
      kept = r.kept;
      visits = p.visits;
      rounds = p.rounds;
      scan = record { from = 0; to = 0; visits = 0; rounds = 0; triggered = false };
    })
listed_first one =
    record { kept = one.kept; visits = refl; rounds = refl; listed = one.listed; same = one.same; fits = one.fits }

-- the asks before a position answered
pub record ListsOn (ps : List Position) (passes : List ℕ) (n : ℕ) (a : Swept) (total : ℕ) (lines : List ℕ) : Type 0 where
  pub many : length passes ≡ n
  pub told : a ≡ telling (lists ps) passes
  pub listed : first_laws.ListsOn ps n (answer (lists ps)) total lines

-- none
pub lists_first : (lines : List ℕ)
    → ListsOn [] [] 0 (record { verdict = Accepted; place = 0; kept = replicate 16 0; passes = replicate 16 0 }) 0 lines
unfolding answer padded telling
lists_first lines = record { many = refl; told = refl; listed = first_laws.lists_first lines }

-- the answer with the counts of one list more
abbrev stored : Swept → ℕ → Tally → Swept
stored a i r =
    record { verdict = a.verdict; place = a.place; kept = set a.kept i r.kept; passes = set a.passes i r.passes }

-- one more
pub lists_next : {ps : List Position} {p : Position} {passes : List ℕ} {many n : ℕ} {a : Swept} {total : ℕ} {lines lines' : List ℕ} {r : Tally}
    → ListsOn ps passes n a total lines → n < most_asks → total + most_records ≤ length lines → ListedAt p many total lines lines' r
    → ListsOn (ps ++ (p ∷ [])) (passes ++ (many ∷ [])) (n + 1) (stored a n r) (total + r.kept) lines'
unfolding telling
lists_next {ps} {p} {passes} {many} {n} {a} {total} {lines} {lines'} {r} o h room one =
    let next = first_laws.lists_next o.listed h room (listed_first one) in
    let size = o.listed.sized in
    record {
      many = length-append passes (many ∷ []) ∙ ap (◌+ 1) o.many;
      told =
          ap (λ (b : Swept). stored b n r) o.told
          ∙ (λ j. record {
            verdict = Accepted;
            place = 0;
            kept = (ap (λ i. set (padded (map (λ q. length q.kept) ps)) i r.kept) (sym size)
                ∙ count_next (λ q. length q.kept) ps p r.kept (omega arith) one.kept) j;
            passes = (ap (λ i. set (padded passes) i r.passes) (sym o.many)
                ∙ padded_next passes r.passes (omega (arith, o.many))
                ∙ ap (λ x. padded (passes ++ (x ∷ []))) one.passes) j;
          });
      listed = rw (← next.answered) next;
    }

-- and no word past those that a call uses is written
pub lists_on : {total many : ℕ} {before lines lines' : List ℕ} {p : Position} {r : Tally} → SameBut 0 working_words before lines
    → total + most_records ≤ working_words → ListedAt p many total lines lines' r → SameBut 0 working_words before lines'
lists_on s h one = first_laws.lists_on s h (listed_first one)

-- all of them
pub lists_last : {ps : List Position} {passes : List ℕ} {n : ℕ} {a : Swept} {total : ℕ} {lines : List ℕ}
    → ListsOn ps passes n a total lines → n ≤ most_asks → Replied ps passes a total lines
lists_last o h = record { told = o.told; listed = first_laws.lists_last o.listed h }

-- ---- 8, or the lines

module _ {ps : List Position} {passes : List ℕ} {a : Swept} {total : ℕ} {lines : List ℕ} (p : Replied ps passes a total lines)
    {out out' : List ℕ} where
  -- lists that do not fit are 8
  pub gives_8 : {r : Swept} {n : ℕ} → length out < total → n ≡ total → out' ≡ out → r ≡ telling (refusal_at refusal.Room n) []
      → Gives (fitting (length out) (lists ps)) passes out r out'
  unfolding fitting result_after telling
  gives_8 k n q e =
      let many : total ≡ length (all_kept ps) = p.listed.counted in
      rw (lt-leb (length (all_kept ps)) (length out) (rw many at k)) (record { told = rw (n, many) at e; result = q })

  -- others stand in the result slice
  pub gives_lists : total ≤ length out → out' ≡ take total lines ++ drop total out → Gives (fitting (length out) (lists ps)) passes out a out'
  unfolding fitting
  gives_lists k q =
      let many : total ≡ length (all_kept ps) = p.listed.counted in
      let fits = le-leb (length (all_kept ps)) (length out) (rw many at k) in
      rw fits (record { told = p.told; result = rw fits at (first_laws.gives_lists p.listed k q).result })
