-- Every position of an accepted file asks for a query.
use Prim.Native.Nat.{ℕ, ◌+◌}
use mathlib.Core.Path.{◌≡◌, sym, ap, subst}
use mathlib.Core.Logic.{⊎_elim}
use mathlib.Core.List.Memᴰ
use mathlib.Core.List.{List, [], ◌∷◌, Memᴰ}
use Rattle.model.specs.Lists.{last}
use Rattle.model.specs.Names.{Name}
use Rattle.model.specs.Lines.{Line}
use Rattle.model.specs.Reading.{Ask, Head, ask, ask2, also, hide, heads, with_query, head_asks, State, start, ok, add_line, read, read_line, read_file}
use Rattle.model.proofs.ListLaws.{collect_elim, map_elim}
use Rattle.laws.proofs.ReadingLaws.{line_read, kept_by_file}

-- an ask has a query
abbrev pub HasQuery : Ask → Type 0
HasQuery a = (q : ℕ) × (qs : List ℕ) × (a.queries ≡ q ∷ qs)

-- what a line of the head asks has one
head_has : (asks : List Ask) (h : Head) (a : Ask) → Memᴰ a (head_asks asks h) → HasQuery a
unfolding head_asks with_query
head_has asks (ask q options) a m = (q, [], ap (λ (x : Ask). x.queries) (Memᴰ.eq_of_singleton m))
head_has asks (ask2 q options admitted) a m = (q, [], ap (λ (x : Ask). x.queries) (Memᴰ.eq_of_singleton m))
head_has asks (also q) a m = let (b, there, e) = map_elim (with_query q) (last asks) m in (q, b.queries, ap (λ (x : Ask). x.queries) (sym e))
head_has asks (hide name) a m = absurd (Memᴰ.not-nil m)

-- all asks have one, and still do with a line more
abbrev AllHave : ℕ → State → Type 0
AllHave n s = (a : Ask) → Memᴰ a s.asks → HasQuery a

line_has : (exclude : List Name) (n : ℕ) (s s' : State) (line : Line) → read_line exclude n s line ≡ ok s' → AllHave n s → AllHave (n + 1) s'
unfolding add_line
line_has exclude n s s' line e have a m =
    let r = line_read exclude n s line s' e in
    let c = r.content in
    ⊎_elim (have a)
    (λ i. let (h, there, j) = collect_elim (head_asks s.asks) (heads c) i in head_has s.asks h a j)
    (Memᴰ.append_cases s.asks (subst (λ (x : State). Memᴰ a x.asks) r.after m))

pub file_has : (exclude : List Name) (file : List ℕ) (s : State) → read_file exclude file ≡ read s → (a : Ask) → Memᴰ a s.asks → HasQuery a
unfolding start
file_has exclude file s e = kept_by_file exclude AllHave (line_has exclude) file s e (λ a m. absurd (Memᴰ.not-nil m))
