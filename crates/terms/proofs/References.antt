-- The terms that a row names are those of its reference words.
use Prim.Native.Nat.{ℕ, zero, suc, ◌+◌, ◌%◌, ◌≤◌, ◌<◌}
use native.Mathlib.Omega.{arith}
use native.Mathlib.Numerals.{add-one}
use mathlib.Core.Path.{◌≡◌, refl, sym, ap, ap₂, ◌∙◌}
use mathlib.Core.List.{List, [], ◌∷◌, ◌++◌, append-nil}
use lib.ListN.{length, drop, get_or}
use lib.Dec.{T}
use Rattle.model.specs.Lists.{concat, part}
use Rattle.model.specs.Names.{Name}
use Rattle.model.specs.Terms.{term, references}
use Rattle.model.specs.declared.Op.{Op}
use Rattle.model.proofs.ListLaws.{concat_append}
use Rattle.model.proofs.PartLaws.{part_drop, part_nil}
use Rattle.terms.specs.Rows.{row_kind, row_op, row_head, row_start, row_end, row_extra, terms_of_words, group_of_words, groups_of_words, group_run, op_of_code, make_node, node_of, terms_of, has_groups, has_body, Rows}
use Rattle.terms.proofs.Table.{Right, row_right, term_node}
use Rattle.terms.proofs.Groups.{Before, terms_split, group_first, group_next, group_place, group_last}

module _ {refs rows : List ℕ} {used many named t : ℕ} (r : Rows refs rows used many named) (l : t < many) where
  -- the references are in the slice
  fits : row_end rows used many t ≤ length refs
  fits = omega (arith, r.in_use t l, r.few_references, r.ref_room)

  module _ (q : T (has_groups (row_kind rows t))) where
    -- the terms of the groups before the g-th stand before those of the g-th
    groups_before : (g : ℕ) → (p : ℕ) × Before refs (row_start rows t + 1) (row_end rows used many t) g p × (concat (groups_of_words (drop 1 (part refs (row_start rows t) (row_end rows used many t))) g) ≡ terms_of_words (part refs (row_start rows t + 1) p))
    unfolding groups_of_words concat terms_of_words
    groups_before zero = (row_start rows t + 1, group_first r l q, ap terms_of_words (sym (part_nil refs (row_start rows t + 1) (row_start rows t + 1) (omega arith))))
    groups_before (suc g) = group_after g (groups_before g)
      where
        group_after : (g : ℕ) → (p : ℕ) × Before refs (row_start rows t + 1) (row_end rows used many t) g p × (concat (groups_of_words (drop 1 (part refs (row_start rows t) (row_end rows used many t))) g) ≡ terms_of_words (part refs (row_start rows t + 1) p))
            → (p : ℕ) × Before refs (row_start rows t + 1) (row_end rows used many t) (suc g) p
            × (concat (groups_of_words (drop 1 (part refs (row_start rows t) (row_end rows used many t))) g
            ++ (group_of_words (drop 1 (part refs (row_start rows t) (row_end rows used many t))) g ∷ []))
            ≡ terms_of_words (part refs (row_start rows t + 1) p))
        group_after g (p, b, e) =
            let n : ℕ = p + group_run g (part refs p (row_end rows used many t)) in
            let m = group_next r l q b in
            let x = b.low in (
              n,
              rw (add-one g) at m,
              concat_append (groups_of_words (drop 1 (part refs (row_start rows t) (row_end rows used many t))) g) (group_of_words (drop 1 (part refs (row_start rows t) (row_end rows used many t))) g ∷ [])
                  ∙ ap₂ ◌++◌ e (append-nil _ ∙ sym (group_place r l q b))
                  ∙ sym (terms_split refs (row_start rows t + 1) p n x (omega arith) (omega (arith, m.high, fits))),
            )

    -- the terms of all groups are those of the references after the body
    groups_all : concat (groups_of_words (drop 1 (part refs (row_start rows t) (row_end rows used many t))) (row_extra rows t)) ≡ terms_of_words (part refs (row_start rows t + 1) (row_end rows used many t))
    groups_all = go (groups_before (row_extra rows t))
      where
        go : (p : ℕ) × Before refs (row_start rows t + 1) (row_end rows used many t) (row_extra rows t) p × (concat (groups_of_words (drop 1 (part refs (row_start rows t) (row_end rows used many t))) (row_extra rows t)) ≡ terms_of_words (part refs (row_start rows t + 1) p))
            → concat (groups_of_words (drop 1 (part refs (row_start rows t) (row_end rows used many t))) (row_extra rows t)) ≡ terms_of_words (part refs (row_start rows t + 1) (row_end rows used many t))
        go (p, b, e) = e ∙ ap (λ n. terms_of_words (part refs (row_start rows t + 1) n)) (group_last r l q b)

-- the terms that a body and other words name
body_terms : (ws : List ℕ) → ((w : ℕ) × (rest : List ℕ) × (ws ≡ w ∷ rest)) → get_or ws 0 0 % 4096 ∷ terms_of_words (drop 1 ws) ≡ terms_of_words ws
unfolding terms_of_words
body_terms ws (w, rest, e) = rw e refl

-- one word names one term
one_term : (ws : List ℕ) → length ws ≡ 1 → get_or ws 0 0 % 4096 ∷ [] ≡ terms_of_words ws
unfolding terms_of_words
one_term [] e = let z : ⊥ = omega arith in absurd z
one_term (w ∷ []) e = refl
one_term (w ∷ v ∷ ws) e = let z : ⊥ = omega arith in absurd z

-- the terms that a node names are those of its words, where the words are right and in the order of the groups
node_references : (kind : ℕ) (op : Op) (name : Name) (ws : List ℕ) (g : ℕ) → Right kind ws g → (T (has_groups kind) → concat (groups_of_words (drop 1 ws) g) ≡ terms_of_words (drop 1 ws))
    → references (make_node kind op name ws g) ≡ terms_of_words ws
unfolding references make_node terms_of_words has_groups has_body
node_references zero op name ws g h k = rw (h.childless (omega arith)) refl
node_references (suc zero) op name ws g h k = rw (h.childless (omega arith)) refl
node_references (suc (suc zero)) op name ws g h k = refl
node_references (suc (suc (suc zero))) op name ws g h k = refl
node_references (suc (suc (suc (suc zero)))) op name ws g h k = ap (λ l. get_or ws 0 0 % 4096 ∷ l) (k tt) ∙ body_terms ws (h.bodied tt)
node_references (suc (suc (suc (suc (suc zero))))) op name ws g h k = ap (λ l. get_or ws 0 0 % 4096 ∷ l) (k tt) ∙ body_terms ws (h.bodied tt)
node_references (suc (suc (suc (suc (suc (suc zero)))))) op name ws g h k = body_terms ws (h.bodied tt)
node_references (suc (suc (suc (suc (suc (suc (suc zero))))))) op name ws g h k = one_term ws (h.single refl)
node_references (suc (suc (suc (suc (suc (suc (suc (suc n)))))))) op name ws g h k = let z : ⊥ = omega (arith, h.small) in absurd z

-- the terms that a row names are those of its reference words
pub row_references : {refs rows : List ℕ} {used many named t : ℕ} → Rows refs rows used many named → t < many → (name : ℕ → Name)
    → references (term (terms_of name refs rows used many) t).node ≡ terms_of_words (part refs (row_start rows t) (row_end rows used many t))
unfolding node_of
row_references {refs} {rows} {used} {many} {named} {t} r l name =
    ap references (term_node name refs rows used many t l)
    ∙ node_references (row_kind rows t) (op_of_code (row_op rows t)) (name (row_head rows t)) (part refs (row_start rows t) (row_end rows used many t)) (row_extra rows t)
    (row_right name refs rows used many r t l)
    (λ q. groups_all r l q ∙ ap terms_of_words (sym (part_drop refs (row_start rows t) (row_end rows used many t) 1)))
