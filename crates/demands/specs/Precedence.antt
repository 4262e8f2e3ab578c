-- Document 02, Change 9, for every accepted file: which rows the check lists, in which order and how many at most; that without
-- a row of the first sort the definitions go in no circle; and that without any row every name is declared before it is used.
use Rattle.std.specs.Prelude.{ℕ, ◌≤◌, ◌<◌, ◌≡◌, ◌↔◌, ◌⊎◌, length, get_or}
use mathlib.Core.List.{List, [], ◌∷◌, Memᴰ}
use Rattle.model.specs.Names.{Name, order}
use Rattle.model.specs.Reading.{Decl, Summary, State}
use Rattle.model.specs.Rounds.{definitions}
use Rattle.model.specs.Precedence.{parts, late_rows}
use Rattle.std.specs.declared.cmp.Ordering.TheVariants.{Less as Before}
use Rattle.model.specs.declared.Row.{Row}
use Rattle.demands.specs.LinesRead.{LinesRead}
use Rattle.demands.specs.Reasons.{Numbers}

-- "whose def or fun stands on the same or a later line"
pub record ComesLate (decls : List Summary) (d : Decl) (n : Name) : Type 0 where
  pub part : Decl
  pub is_part : Memᴰ part (parts decls)
  pub of_name : part.name ≡ n
  pub late : d.line ≤ part.line

-- "each that has neither"
abbrev pub HasNeither : List Summary → Name → Type 0
HasNeither decls n = (p : Decl) → Memᴰ p (parts decls) → p.name ≡ n → ⊥

-- why a row is listed: "the def's line, the name's number and the sort, 1 or 2"
pub record LateReason (s : State) (r : Row) : Type 0 where
  pub definition : Decl
  pub is_definition : Memᴰ definition (definitions s.decls)
  pub name : Name
  pub is_free : Memᴰ name definition.free_names
  pub line : r.line ≡ definition.line
  pub number : Numbers s r.number name
  pub sort : ((r.cause ≡ 1) × ComesLate s.decls definition name) ⊎ ((r.cause ≡ 2) × HasNeither s.decls name)

-- the rows are those that have such a reason
abbrev pub LateRowsExact : Type 0
LateRowsExact = (file : List ℕ) (s : State) → LinesRead file s → (r : Row) → Memᴰ r (late_rows s) ↔ LateReason s r

-- the name of a row
abbrev pub name_of_row : State → Row → Name
name_of_row s r = get_or s.names r.number []

-- "by line and then by name in byte order"
abbrev pub RowBefore : State → Row → Row → Type 0
RowBefore s r q = (r.line < q.line) ⊎ ((r.line ≡ q.line) × (order (name_of_row s r) (name_of_row s q) ≡ Before))

-- each before all after it
pub data LateRise (s : State) : List Row → Type 0 where
  none : LateRise s []
  one_more : {r : Row} {rs : List Row} → ((q : Row) → Memᴰ q rs → RowBefore s r q) → LateRise s rs → LateRise s (r ∷ rs)

-- the rows stand in this order
abbrev pub LateRowsInOrder : Type 0
LateRowsInOrder = (file : List ℕ) (s : State) → LinesRead file s → LateRise s (late_rows s)

-- there are no more of them than name uses, of which a file has 6,144 at most
abbrev pub LateRowsBound : Type 0
LateRowsBound =
    (file : List ℕ) (s : State) → LinesRead file s → (length (late_rows s) ≤ s.uses) × (length (late_rows s) ≤ 6144)

-- a definition depends on another through the free names of bodies
pub data Depends (defs : List Decl) : Decl → Decl → Type 0 where
  at_once : {d e : Decl} → Memᴰ d defs → Memᴰ e defs → Memᴰ e.name d.free_names → Depends defs d e
  through : {c d e : Decl} → Depends defs c d → Depends defs d e → Depends defs c e

-- "if an accepted check lists no row of the first sort, no definition depends on itself through the free names of bodies"
abbrev pub NoCircle : Type 0
NoCircle =
    (file : List ℕ) (s : State) → LinesRead file s
    → ((r : Row) → Memᴰ r (late_rows s) → r.cause ≡ 1 → ⊥)
    → (d : Decl) → Depends (definitions s.decls) d d → ⊥

-- a def or fun of a name on an earlier line than d
pub record ComesBefore (decls : List Summary) (d : Decl) (n : Name) : Type 0 where
  pub part : Decl
  pub is_part : Memᴰ part (parts decls)
  pub of_name : part.name ≡ n
  pub early : part.line < d.line

-- if no row is listed, every name free in the body of a def has its def or fun on an earlier line
abbrev pub DeclaredBefore : Type 0
DeclaredBefore =
    (file : List ℕ) (s : State) → LinesRead file s → late_rows s ≡ []
    → (d : Decl) → Memᴰ d (definitions s.decls) → (n : Name) → Memᴰ n d.free_names → ComesBefore s.decls d n
