-- The names of an accepted file are those of its lines, each where it first stands.
use Prim.Native.Nat.{ℕ, ◌+◌}
use mathlib.Core.Path.{◌≡◌, sym, ◌∙◌, ap, ap₂, subst}
use mathlib.Core.Logic.{inl, inr, ⊎_elim}
use mathlib.Core.Bool.{Bool, not, ◌||◌}
use mathlib.Core.List.{List, [], ◌∷◌, ◌++◌, map, map-map, append-nil, append_assoc}
use lib.Dec.{T, T_not, not_T}
use Rattle.model.specs.Lists.{any, keep, collect, fold_left}
use Rattle.model.specs.Names.{Name, same, mem, remove}
use Rattle.model.specs.Lines.{Line, lines, fields}
use Rattle.model.specs.Summaries.{exclude_names}
use Rattle.model.specs.Reading.{State, start, read, spelled, spell, trimmed, excluded, add_line, read_lines}
use Rattle.model.specs.Kept.{first_met}
use Rattle.model.proofs.ListLaws.{T_or, T_ext, keep_cong, keep_all, keep_not, collect_map, collect_cong, fold_left_append, cond_true, cond_false}
use Rattle.model.proofs.SetLaws.{same_eq, same_refl, mem_first, mem_append, mem_cons}
use Rattle.laws.proofs.ReadingLaws.{LineRead, line_read, lines_read, none_read, file_read}
use Rattle.demands.specs.FileOrder.{Said}
use Rattle.demands.specs.Counts.{name_fields}
use Rattle.demands.specs.Spelling.{names_on, NamesInOrder}
use Rattle.demands.proofs.LineFields.{line_fields}
use Rattle.demands.proofs.Counts.{token_is}
use Rattle.demands.proofs.StateLaws.{spell_cases}
use Rattle.demands.proofs.Refusals.{reaches_first, reaches_later}
use Rattle.demands.proofs.SaidLines.{reached, SaidFrom, said_first, said_later}
use Rattle.demands.proofs.FileOrder.{told, told_places, as_said}

-- whether a name is not among some
abbrev new_to : List Name → Name → Bool
new_to names k = not (mem k names)

module _ (names : List Name) (n : Name) where
  -- with one that is among the names nothing more is known
  known : T (mem n names) → (k : Name) → (mem k names || same n k) ≡ mem k names
  known t k = T_ext
      (λ u. ⊎_elim (λ v. v) (λ v. subst (λ (m : Name). T (mem m names)) (same_eq v) t) ((T_or (mem k names) (same n k)).0 u))
      (λ u. (T_or (mem k names) (same n k)).1 (inl u))

  -- with one more what is known is what was and that one
  one_known : (k : Name) → (mem k names || same n k) ≡ mem k (names ++ (n ∷ []))
  unfolding mem any
  one_known k = T_ext
      (λ u. (mem_append k names (n ∷ [])).1 (⊎_elim inl (λ v. inr (subst (λ (m : Name). T (mem m (n ∷ []))) (same_eq v) (mem_first n []))) ((T_or (mem k names) (same n k)).0 u)))
      (λ u. (T_or (mem k names) (same n k)).1
      (⊎_elim inl (λ v. ⊎_elim (λ (e : k ≡ n). inr (rw e (same_refl n))) (λ w. absurd w) ((mem_cons k n []).0 v)) ((mem_append k names (n ∷ [])).0 u)))

  -- names without this one: the new ones among them
  kept_without : (names' : List Name) → ((k : Name) → (mem k names || same n k) ≡ mem k names') → (l : List Name)
      → keep (new_to names) (remove n l) ≡ keep (new_to names') l
  unfolding remove
  kept_without names' h l =
      keep_not (λ k. mem k names) (same n) l ∙ keep_cong (λ k. not (mem k names || same n k)) (new_to names') l (λ k i. ap not (h k))

-- names spelled one after the other come behind those that are there, each where it first stands
spelled_in_order : (names l : List Name) → fold_left spell names l ≡ names ++ keep (new_to names) (first_met l)
unfolding fold_left first_met keep
spelled_in_order names [] = sym (append-nil names)
spelled_in_order names (n ∷ l) =
    let others = keep (new_to names) (remove n (first_met l)) in
    ⊎_elim
    (λ p. ap (λ (m : List Name). fold_left spell m l) p.1 ∙ spelled_in_order names l
    ∙ ap (names ++◌) (sym (kept_without names n names (known names n p.0) (first_met l)) ∙ sym (cond_false (new_to names n) (n ∷ others) others (not_T (new_to names n) (λ u. T_not (mem n names) u p.0)))))
    (λ p. ap (λ (m : List Name). fold_left spell m l) p.1 ∙ spelled_in_order (names ++ (n ∷ [])) l
    ∙ append_assoc names (n ∷ []) _
    ∙ ap (names ++◌) (ap (n ∷◌) (sym (kept_without names n (names ++ (n ∷ [])) (one_known names n) (first_met l))) ∙ sym (cond_true (new_to names n) (n ∷ others) others p.0)))
    (spell_cases names n)

-- what a line that is read spells, and the token that rule 4 trims
abbrev spelled_at : {n : ℕ} {s : State} {ls : List Line} → SaidFrom n s ls → List Name
spelled_at w = spelled w.content ++ trimmed (excluded exclude_names w.at.state) w.at.state.terms w.content

-- after some lines the names are those before with what the lines spell
told_names : (ls : List Line) (n : ℕ) (s t : State) (e : read_lines exclude_names n s ls ≡ read t)
    → t.names ≡ fold_left spell s.names (collect spelled_at (told ls n s t e))
unfolding told collect fold_left said_first said_later reaches_first reaches_later
told_names [] n s t e = ap (λ (s : State). s.names) (sym (none_read exclude_names n s t e))
told_names (line ∷ ls) n s t e =
    let (u, r, others) = lines_read exclude_names n s line ls t e in
    let l = line_read exclude_names n s line u r in
    let here = spelled l.content ++ trimmed (excluded exclude_names s) s.terms l.content in
    told_names ls (n + 1) u t others
    ∙ ap (λ (m : List Name). fold_left spell m (collect spelled_at (told ls (n + 1) u t others))) (after u l)
    ∙ sym (fold_left_append spell s.names here (collect spelled_at (told ls (n + 1) u t others)))
    ∙ ap (λ (m : List Name). fold_left spell s.names (here ++ m)) (sym (collect_map spelled_at (said_later n s u line r) (told ls (n + 1) u t others)))
  where
    after : (u : State) (l : LineRead exclude_names n s line u)
        → u.names ≡ fold_left spell s.names (spelled l.content ++ trimmed (excluded exclude_names s) s.terms l.content)
    after u l = unfold add_line in ap (λ (s : State). s.names) l.after

-- of a line of a file that is what the bytes of the line spell, and the token
said_names : (file : List ℕ) (w : SaidFrom 1 start (lines file)) → spelled_at w ≡ names_on {file = file} (as_said w)
unfolding as_said reached name_fields
said_names file w =
    ap₂ ◌++◌ (sym (line_fields w.at.state (fields w.at.line.bytes) w.parsed).names) (token_is (excluded exclude_names w.at.state) w.at.state.terms w.content)

-- the names of an accepted file are those of its lines, each where it first stands
pub names_in_order : NamesInOrder
unfolding as_said reached start
names_in_order file s e =
    let reading = file_read exclude_names file s e in
    let ls = told (lines file) 1 start s reading in
    record {
      said = map as_said ls;
      every_line = map-map (λ (l : Said file). l.place) as_said ls ∙ told_places (lines file) 1 start s reading;
      names =
          told_names (lines file) 1 start s reading ∙ spelled_in_order [] (collect spelled_at ls)
          ∙ keep_all (new_to []) (first_met (collect spelled_at ls)) (λ n i. unfold mem any in tt)
          ∙ ap first_met (collect_cong spelled_at (λ w. names_on (as_said w)) ls (λ w i. said_names file w) ∙ sym (collect_map names_on as_said ls));
    }
