-- The lines of the scanned items are lines of the file, so that each fits half a word.
use Prim.Native.Nat.{ℕ, ◌≤◌, ◌<◌}
use native.Mathlib.Omega.{arith}
use mathlib.Core.Path.{◌≡◌, refl, ap}
use mathlib.Core.List.Memᴰ
use mathlib.Core.List.{List, [], ◌∷◌, Memᴰ}
use lib.ListN.{length, length-append}
use Rattle.model.specs.Lines.{Line}
use Rattle.model.specs.Names.{Name}
use Rattle.model.specs.Terms.{Term}
use Rattle.model.specs.Summaries.{Fact, summarize_assumption}
use Rattle.model.specs.Reading.{Ask, Root, State, Content, head, term, assume, fun, def, retain, root}
use Rattle.model.specs.Rounds.{facts}
use Rattle.model.specs.Reasons.{rows}
use Rattle.model.specs.declared.Row.{Row}
use Rattle.model.proofs.ListLaws.{collect_elim}
use Rattle.demands.specs.LinesRead.{LinesRead}
use Rattle.demands.specs.Demand1.{ReachedLine}
use Rattle.demands.specs.FileOrder.{fact_said, root_said}
use Rattle.demands.specs.Reasons.{Scanned, root as a_root, ambient_root, reached_fact}
use Rattle.demands.proofs.FileOrder.{file_order}
use Rattle.demands.proofs.Background.{admitted_fact}
use Rattle.demands.proofs.Reasons.{rows_exact}
use Rattle.front.proofs.Laws.{lines_few}
use Rattle.rows.proofs.Laws.{Small}

-- the place of a line is at most the number of lines
place_inside : {ls : List Line} {n : ℕ} → ReachedLine ls n → n ≤ length ls
place_inside l = omega (arith, l.place, ap length l.is_line, length-append l.before (l.line ∷ l.after))

-- a fact that a line gives is on that line
fact_place : (exclude : List Name) (terms : List Term) (n : ℕ) (c : Content) {f : Fact} → Memᴰ f (fact_said exclude terms n c) → f.line ≡ n
unfolding summarize_assumption
fact_place exclude terms n (head h) i = absurd (Memᴰ.not-nil i)
fact_place exclude terms n (term node) i = absurd (Memᴰ.not-nil i)
fact_place exclude terms n (assume name flag group t) i = ap (λ (f : Fact). f.line) (Memᴰ.eq_of_singleton i)
fact_place exclude terms n (fun name) i = absurd (Memᴰ.not-nil i)
fact_place exclude terms n (def name t) i = absurd (Memᴰ.not-nil i)
fact_place exclude terms n (retain names) i = absurd (Memᴰ.not-nil i)
fact_place exclude terms n (root q name t) i = absurd (Memᴰ.not-nil i)

-- so is a root
root_place : (exclude : List Name) (terms : List Term) (n : ℕ) (c : Content) {r : Root} → Memᴰ r (root_said exclude terms n c) → r.line ≡ n
root_place exclude terms n (head h) i = absurd (Memᴰ.not-nil i)
root_place exclude terms n (term node) i = absurd (Memᴰ.not-nil i)
root_place exclude terms n (assume name flag group t) i = absurd (Memᴰ.not-nil i)
root_place exclude terms n (fun name) i = absurd (Memᴰ.not-nil i)
root_place exclude terms n (def name t) i = absurd (Memᴰ.not-nil i)
root_place exclude terms n (retain names) i = absurd (Memᴰ.not-nil i)
root_place exclude terms n (root q name t) i = ap (λ (r : Root). r.line) (Memᴰ.eq_of_singleton i)

module _ (file : List ℕ) (s : State) (accepted : LinesRead file s) (small : length file ≤ 65535) where
  fact_small : {f : Fact} → Memᴰ f (facts s.decls) → f.line < 65536
  fact_small {f} i =
      let o = file_order file s accepted in
      let (l, j, m) = collect_elim _ o.said (rw o.facts_said at i) in
      omega (arith, fact_place _ _ l.place l.content m, place_inside l.line, lines_few file)

  root_small : {r : Root} → Memᴰ r s.roots → r.line < 65536
  root_small {r} i =
      let o = file_order file s accepted in
      let (l, j, m) = collect_elim _ o.said (rw o.roots_said at i) in
      omega (arith, root_place _ _ l.place l.content m, place_inside l.line, lines_few file)

  -- the line of a scanned item
  pub scanned_small : (a : Ask) {line round : ℕ} {free : List Name} → Scanned a s line round free → line < 65536
  scanned_small a (a_root r i q e k n) = omega (arith, e, root_small i)
  scanned_small a (ambient_root f i t u e k n) = omega (arith, e, fact_small (admitted_fact a s.decls i))
  scanned_small a (reached_fact f r h e n) = omega (arith, e, fact_small (admitted_fact a s.decls r.is_fact))

  all_small : (rs : List Row) → ((r : Row) → Memᴰ r rs → r.cause < 65536) → Small rs
  all_small [] h = tt
  all_small (r ∷ rs) h = (h r (Memᴰ.head refl), all_small rs (λ q i. h q (Memᴰ.tail i)))

  -- so those of the suppliers in the rows
  pub rows_small : (a : Ask) → Small (rows a s)
  rows_small a = all_small (rows a s) (λ r i. let q = (rows_exact file s accepted a r).0 i in scanned_small a q.supplied.is_scanned)
