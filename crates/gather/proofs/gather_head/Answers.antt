-- `gather::gather_head` meets its contract: each way out is a law of Heads.antt and one of Rendering.antt.
use Rattle.gather.specs.Walks.{Heads}
use Rattle.model.proofs.ListLaws.{true_T}
use mathlib.Core.Bool.{true}
use Rattle.gather.proofs.Heads.{head_none, head_excluded, head_there, head_over, head_added}
use Rattle.gather.proofs.Rendering.{follow_none, follow_excluded, follow_found, follow_over, follow_added}
use Rattle.terms.specs.Rows.{has_head, row_kind, row_head}
use Rattle.gather.specs.Sets.{name_mark}
use Prim.Native.Nat.{ℕ, ◌<◌}
use mathlib.Core.List.{List}
use mathlib.Core.Path.{◌≡◌, sym, ◌∙◌}
use native.Mathlib.Omega.{arith}
use Rattle.gather.proofs.gather_head.Goals as goal

-- the head that was read is then the number of a name
head-is-small : {names rows lists : List ℕ} {t count room n : ℕ} → Heads names rows lists t count room → has_head (row_kind rows t) ≡ true
    → n ≡ row_head rows t → n < 2048
head-is-small h has n = rw n (h.head_small (true_T has))

pub returns-then-not-has_head : goal.returns-then-not-has_head
returns-then-not-has_head c =
    let none = sym c.has_head.ensures ∙ c.if-not-has_head.true in
    record { set = head_none c.requires c.args.mark none; walk = follow_none c.requires c.args.mark none }

pub is_excluded-requires : goal.is_excluded-requires
is_excluded-requires c =
    let has = sym c.has_head.ensures ∙ c.if-not-has_head.false in
    (head-is-small c.requires has c.head-n.ensures, c.requires.name_room)

pub returns-then-is_excluded : goal.returns-then-is_excluded
returns-then-is_excluded c =
    let has = sym c.has_head.ensures ∙ c.if-not-has_head.false in
    let lists = sym c.is_excluded.ensures ∙ c.if-is_excluded.true in
    record { set = head_excluded c.requires c.args.mark _ c.head-n.ensures lists; walk = follow_excluded c.requires c.args.mark _ c.head-n.ensures has lists }

pub overflow_add-n : goal.overflow_add-n
overflow_add-n c =
    let has = sym c.has_head.ensures ∙ c.if-not-has_head.false in
    omega (arith, head-is-small c.requires has c.head-n.ensures)

pub at-requires : goal.at-requires
at-requires c =
    let has = sym c.has_head.ensures ∙ c.if-not-has_head.false in
    omega (arith, head-is-small c.requires has c.head-n.ensures, c.requires.name_room)

pub returns-then-at-mark : goal.returns-then-at-mark
returns-then-at-mark c =
    let has = sym c.has_head.ensures ∙ c.if-not-has_head.false in
    let counted = sym c.is_excluded.ensures ∙ c.if-is_excluded.false in
    let there = sym c.at.ensures ∙ c.if-at-mark.true in
    record { set = head_there c.requires c.args.mark _ c.head-n.ensures there; walk = follow_found c.requires c.args.mark _ c.head-n.ensures has counted there }

pub returns-then-room-count : goal.returns-then-room-count
returns-then-room-count c =
    let has = sym c.has_head.ensures ∙ c.if-not-has_head.false in
    let counted = sym c.is_excluded.ensures ∙ c.if-is_excluded.false in
    let new : name_mark c.args.names.now c.head-n.result ≡ c.args.mark → ⊥ = λ e. c.if-at-mark.false (c.at.ensures ∙ e) in
    record { set = head_over c.requires c.args.mark _ c.head-n.ensures has counted new c.if-room-count.true; walk = follow_over c.requires c.args.mark _ c.head-n.ensures has counted new c.if-room-count.true }

pub overflow_cast-lists : goal.overflow_cast-lists
overflow_cast-lists c =
    let has = sym c.has_head.ensures ∙ c.if-not-has_head.false in
    omega (arith, head-is-small c.requires has c.head-n.ensures)

pub overflow_add-names : goal.overflow_add-names
overflow_add-names c =
    let has = sym c.has_head.ensures ∙ c.if-not-has_head.false in
    omega (arith, head-is-small c.requires has c.head-n.ensures)

pub offset_bounds-names-n : goal.offset_bounds-names-n
offset_bounds-names-n c =
    let has = sym c.has_head.ensures ∙ c.if-not-has_head.false in
    omega (arith, head-is-small c.requires has c.head-n.ensures)

pub bounds-names-n : goal.bounds-names-n
bounds-names-n c =
    let has = sym c.has_head.ensures ∙ c.if-not-has_head.false in
    omega (arith, head-is-small c.requires has c.head-n.ensures, c.requires.name_room)

pub returns : goal.returns
returns c =
    let has = sym c.has_head.ensures ∙ c.if-not-has_head.false in
    let counted = sym c.is_excluded.ensures ∙ c.if-is_excluded.false in
    let new : name_mark c.args.names.now c.head-n.result ≡ c.args.mark → ⊥ = λ e. c.if-at-mark.false (c.at.ensures ∙ e) in
    record { set = head_added c.requires c.args.mark _ c.head-n.ensures has counted new c.if-room-count.false; walk = follow_added c.requires c.args.mark _ c.head-n.ensures has counted new c.if-room-count.false }
