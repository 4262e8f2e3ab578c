-- Laws of the printed lists of the sweep: what stands in the writer when the lists of the first positions are printed.
use Prim.Native.Nat.{ℕ, zero, suc, ◌+◌, ◌≤◌, ◌<◌}
use native.Mathlib.Omega.{arith}
use mathlib.Core.Path.{◌≡◌, refl, sym, ap, ◌∙◌, subst}
use mathlib.Core.Bool.{Bool, true, false, cond}
use mathlib.Core.List.{List, [], ◌∷◌, ◌++◌, map, append-nil, append_assoc}
use lib.Dec.{leb}
use lib.ListN.{length, take, drop, get_or, get_or-eq_default, length-map}
use lib.Seq.{drop-drop, take_at, drop_at, get_or-drop}
use Rattle.std.specs.declared.option.Option.{Option}
use Rattle.std.specs.Io.KnownBytes.{Appends}
use Rattle.std.specs.List.{concat}
use Rattle.std.proofs.KnownBytes.{Appends-nil, Appends-trans}
use Rattle.std.proofs.lemmas.List.Folds.{concat-append}
use Rattle.model.specs.Lists.{collect}
use Rattle.model.specs.Reading.{Ask, Root, Summary, State}
use Rattle.model.specs.Rounds.{background}
use Rattle.model.specs.Outcome.{Lent, Front, stopped, opened, front, Position, position, Outcome, refusal_at, lists, filtered, answered, all_kept}
use Rattle.model.specs.Outcome.{fitting, outcome, padded, answer, result_after}
use Rattle.model.specs.Text.{kept_line, refused_line, pass_line, pass_lists, printed_sweep}
use Rattle.model.specs.Sweep.{sweep, passes_of, passes_told, swept, sweep_answer}
use Rattle.model.specs.declared.Swept.{Swept}
use Rattle.model.specs.declared.Refusal.{Refusal}
use Rattle.model.specs.declared.Refusal.TheVariants.{Room}
use Rattle.model.specs.declared.Verdict.TheVariants.{Accepted, Refused}
use Rattle.laws.proofs.PassLaws.{sweep_some}
use Rattle.printing.specs.Answers.{EachPass, SweptTold}
use Rattle.printing.proofs.Sums.{padded_at}
use Rattle.printing.proofs.Lists.{counts}
use Rattle.printing.proofs.Answers.{written_again}

-- the lists of the positions before a place are printed: what is left, from a word of the result slice on, and what is written
pub record Printed (file kept passes out : List ℕ) (ps : List Position) (before after : Option (List ℕ)) (p from : ℕ) : Type 0 where
  pub rest : List Position
  pub counted : (i : ℕ) → get_or (drop p kept) i 0 ≡ get_or (counts rest) i 0
  pub tail : List ℕ
  pub listed : drop from out ≡ all_kept rest ++ tail
  pub passed : EachPass (lists rest) (drop p passes)
  pub done : List ℕ
  pub written : Appends before after done
  pub whole : concat (pass_lists file ps passes) ≡ done ++ concat (pass_lists file rest (drop p passes))

-- none is printed
pub printed_start : (file : List ℕ) (a : Swept) (out : List ℕ) (ps : List Position) (before : Option (List ℕ))
    → SweptTold a out (lists ps) → Printed file a.kept a.passes out ps before before 0 0
unfolding answer result_after
printed_start file a out ps before t =
    record {
      rest = ps;
      counted = λ i. ap (λ (l : List ℕ). get_or l i 0) t.kept ∙ padded_at (counts ps) i;
      tail = drop (length (all_kept ps)) out;
      listed = sym t.listed;
      passed = t.passed;
      done = [];
      written = Appends-nil before;
      whole = refl;
    }

-- the number at a place is the first from there on, and the rest stands behind it
first_from : (l : List ℕ) (p : ℕ) → get_or (drop p l) 0 0 ≡ get_or l p 0
first_from l p = get_or-drop p l 0 0 ∙ ap (λ n. get_or l n 0) (omega arith)

next_from : (l : List ℕ) (p i : ℕ) → get_or (drop (p + 1) l) i 0 ≡ get_or (drop p l) (suc i) 0
next_from l p i =
    get_or-drop (p + 1) l i 0 ∙ ap (λ n. get_or l n 0) (let z : p + 1 + i ≡ p + suc i = omega arith in z) ∙ sym (get_or-drop p l (suc i) 0)

-- the list at the place is printed: its kept lines, then its passes
pub printed_next : (file kept passes out : List ℕ) (ps : List Position) (a b c d : Option (List ℕ)) (p from : ℕ) (seg : List ℕ)
    → Printed file kept passes out ps a b p from → (get_or passes p 0 ≡ 0 → ⊥)
    → seg ≡ take (get_or kept p 0) (drop from out)
    → Appends b c (concat (map (kept_line file) seg)) → Appends c d (pass_line (get_or kept p 0) (get_or passes p 0))
    → Printed file kept passes out ps a d (p + 1) (from + get_or kept p 0)
unfolding all_kept collect pass_lists
printed_next file kept passes out ps a b c d p from seg s h e w v = go s.rest s.counted s.listed s.passed s.whole
  where
    go : (rest : List Position) → ((i : ℕ) → get_or (drop p kept) i 0 ≡ get_or (counts rest) i 0) → drop from out ≡ all_kept rest ++ s.tail
        → EachPass (lists rest) (drop p passes)
        → concat (pass_lists file ps passes) ≡ s.done ++ concat (pass_lists file rest (drop p passes))
        → Printed file kept passes out ps a d (p + 1) (from + get_or kept p 0)
    go [] counted listed passed whole = absurd (h (sym (first_from passes p) ∙ (passed 0).1 (omega arith)))
    go (q ∷ qs) counted listed passed whole =
        let many : get_or kept p 0 ≡ length q.kept = sym (first_from kept p) ∙ counted 0 in
        let behind = all_kept qs ++ s.tail in
        let there : drop from out ≡ q.kept ++ behind = listed ∙ append_assoc q.kept (all_kept qs) s.tail in
        let seg_is : seg ≡ q.kept = e ∙ rw (many, there) (take_at q.kept behind (length q.kept) refl) in
        let line = pass_line (get_or kept p 0) (get_or passes p 0) in
        record {
          rest = qs;
          counted = λ i. next_from kept p i ∙ counted (suc i);
          tail = s.tail;
          listed = sym (drop-drop (get_or kept p 0) from out) ∙ rw (many, there) (drop_at q.kept behind (length q.kept) refl);
          passed = λ i. (
            λ m. rw (next_from passes p i) ((passed (suc i)).0 (omega arith)),
            λ m. next_from passes p i ∙ (passed (suc i)).1 (omega arith),
          );
          done = (s.done ++ concat (map (kept_line file) seg)) ++ line;
          written = Appends-trans a c d _ _ (Appends-trans a b c _ _ s.written w) v;
          whole = whole
              ∙ rw (first_from passes p, ← many, ← seg_is, concat-append, drop-drop)
              (sym (append_assoc (s.done ++ concat (map (kept_line file) seg)) line (concat (pass_lists file qs (drop (p + 1) passes)))
              ∙ append_assoc s.done (concat (map (kept_line file) seg)) (line ++ concat (pass_lists file qs (drop (p + 1) passes)))));
        }

-- all are printed
pub printed_end : (file kept passes out : List ℕ) (ps : List Position) (a b : Option (List ℕ)) (p from : ℕ)
    → Printed file kept passes out ps a b p from → get_or passes p 0 ≡ 0 → Appends a b (concat (pass_lists file ps passes))
unfolding pass_lists
printed_end file kept passes out ps a b p from s h = go s.rest s.passed s.whole
  where
    go : (rest : List Position) → EachPass (lists rest) (drop p passes)
        → concat (pass_lists file ps passes) ≡ s.done ++ concat (pass_lists file rest (drop p passes))
        → Appends a b (concat (pass_lists file ps passes))
    go [] passed whole = subst (Appends a b) (sym (whole ∙ append-nil s.done)) s.written
    go (q ∷ qs) passed whole = absurd (omega (arith, (passed 0).0 (omega arith), first_from passes p))

-- what an accepted answer tells are lists
pub swept_lists : (file : List ℕ) (a : Swept) (out : List ℕ) (o : Outcome) → a.verdict ≡ Accepted → SweptTold a out o
    → (ps : List Position) × SweptTold a out (lists ps) × (printed_sweep file o a.passes ≡ pass_lists file ps a.passes)
unfolding printed_sweep answer
swept_lists file a out (refusal_at r place) e t = let z : ◌≡◌ {A = ℕ} 0 1 = cc in absurd (omega arith)
swept_lists file a out (lists ps) e t = (ps, t, refl)

-- what a refused answer tells is its refusal
pub swept_refused : (file : List ℕ) (a : Swept) (out : List ℕ) (o : Outcome) (r : Refusal) → a.verdict ≡ Refused r → SweptTold a out o
    → concat (printed_sweep file o a.passes) ≡ refused_line r a.place
unfolding printed_sweep answer
swept_refused file a out (refusal_at x place) r e t =
    let same : r ≡ x = cc in
    append-nil (refused_line x place) ∙ rw (same, t.place) refl
swept_refused file a out (lists ps) r e t = let z : ◌≡◌ {A = ℕ} 0 1 = cc in absurd (omega arith)

-- ---- a call

-- each ask has a pass
each_asked : (decls : List Summary) (roots : List Root) (asks : List Ask) (i : ℕ) → i < length asks
    → 1 ≤ get_or (map (λ (a : Ask). (sweep a (background a decls) roots).passes) asks) i 0
each_asked decls roots [] i h = absurd (omega arith)
each_asked decls roots (a ∷ asks) zero h = sweep_some a (background a decls) roots
each_asked decls roots (a ∷ asks) (suc i) h = each_asked decls roots asks i (omega arith)

-- each position of a file that was read has one
each_opened : (s : State) → EachPass (lists (filtered s)) (padded (passes_of s))
unfolding filtered passes_of
each_opened s i =
    let counts = map (λ (a : Ask). (sweep a (background a s.decls) s.roots).passes) s.asks in
    let many = length-map s.asks (position s.decls s.roots) in
    let same = length-map s.asks (λ (a : Ask). (sweep a (background a s.decls) s.roots).passes) in (
      λ h. rw (padded_at counts i) (each_asked s.decls s.roots s.asks i (omega arith)),
      λ h. padded_at counts i ∙ get_or-eq_default counts 0 (omega arith),
    )

-- each position of a call has one
each_passed : (f : Front) (room : ℕ) → EachPass (fitting room (answered f)) (padded (passes_told f (fitting room (answered f))))
unfolding fitting answered passes_told
each_passed (stopped r place) room = tt
each_passed (opened s) room = go (leb (length (all_kept (filtered s))) room)
  where
    go : (b : Bool) → EachPass (cond b (lists (filtered s)) (refusal_at Room (length (all_kept (filtered s)))))
        (padded (passes_told (opened s) (cond b (lists (filtered s)) (refusal_at Room (length (all_kept (filtered s)))))))
    go true = each_opened s
    go false = tt

-- a call of the sweep tells what it comes to
pub sweep_told : (file : List ℕ) (works : List Lent) (room : ℕ) (out : List ℕ) (a : Swept) (out' : List ℕ)
    → a ≡ sweep_answer file works room → out' ≡ result_after (outcome file works room) out → SweptTold a out' (outcome file works room)
unfolding sweep_answer swept outcome
sweep_told file works room out a out' e w =
    let o = fitting room (answered (front file works)) in
    record {
      verdict = ap (λ (x : Swept). x.verdict) e;
      place = ap (λ (x : Swept). x.place) e;
      kept = ap (λ (x : Swept). x.kept) e;
      listed = rw w (written_again o out);
      passed = rw e (each_passed (front file works) room);
    }
