-- Document 01, modules 2 and 3: which names are free in a term, and what stands under its labels, said of the term lines and
-- not of the sets that are gathered from line to line.
use Rattle.std.specs.Prelude.{ℕ, ◌≡◌, ◌↔◌, ◌≢◌, length}
use mathlib.Core.List.{List, map, Memᴰ}
use Rattle.model.specs.Lists.{collect}
use Rattle.model.specs.Names.{Name, bytes, Ascending}
use Rattle.model.specs.Lines.{lines}
use Rattle.model.specs.Terms.{Node, free_v, call, app, forall, exists, let_in, labeled, Term, term}
use Rattle.model.specs.Summaries.{common_names, exclude_names, free_top_level_names, group_names}
use Rattle.model.specs.Reading.{State, nodes, excluded}
use Rattle.model.specs.declared.Op.{Op}
use Rattle.demands.specs.LinesRead.{LinesRead}
use Rattle.demands.specs.Demand1.{ReachedLine}
use Rattle.demands.specs.FileOrder.{Said, numbers_from}

-- the terms of a file are what its term lines say, in their order
pub record TermsInOrder (file : List ℕ) (s : State) : Type 0 where
  -- every line once, from the first to the last
  pub said : List (Said file)
  pub every_line : map (λ (l : Said file). l.place) said ≡ numbers_from 1 (length (lines file))
  pub terms_said : map (λ (t : Term). t.node) s.terms ≡ collect (λ (l : Said file). nodes l.content) said

abbrev pub TermLines : Type 0
TermLines = (file : List ℕ) (s : State) → LinesRead file s → TermsInOrder file s

-- the name that a term line has itself: that of a `free`, the head of a `call`
pub data OwnName (name : Name) : Node → Type 0 where
  of_free : OwnName name (free_v name)
  of_call : {ts : List ℕ} → OwnName name (call name ts)

-- a term that a term line names
pub data NamedTerm (t : ℕ) : Node → Type 0 where
  call_argument : {name : Name} {ts : List ℕ} → Memᴰ t ts → NamedTerm t (call name ts)
  op_argument : {word : Op} {ts : List ℕ} → Memᴰ t ts → NamedTerm t (app word ts)
  all_body : {groups : List (List ℕ)} → NamedTerm t (forall t groups)
  all_pattern : {body : ℕ} {groups : List (List ℕ)} {g : List ℕ} → Memᴰ g groups → Memᴰ t g → NamedTerm t (forall body groups)
  some_body : {groups : List (List ℕ)} → NamedTerm t (exists t groups)
  some_pattern : {body : ℕ} {groups : List (List ℕ)} {g : List ℕ} → Memᴰ g groups → Memᴰ t g → NamedTerm t (exists body groups)
  let_body : {ts : List ℕ} → NamedTerm t (let_in t ts)
  let_term : {body : ℕ} {ts : List ℕ} → Memᴰ t ts → NamedTerm t (let_in body ts)
  labelled : NamedTerm t (labeled t)

-- a name is free in a term if it is the term's own or free in one that it names
pub data FreeIn (terms : List Term) (name : Name) : ℕ → Type 0 where
  own : {t : ℕ} → OwnName name (term terms t).node → FreeIn terms name t
  within : {t u : ℕ} → NamedTerm u (term terms t).node → FreeIn terms name u → FreeIn terms name t

-- the line of a term, or the one under its labels
pub data UnderLabels (terms : List Term) (node : Node) : ℕ → Type 0 where
  no_label : {t : ℕ} → (term terms t).node ≡ node → ((u : ℕ) → node ≢ labeled u) → UnderLabels terms node t
  label : {t u : ℕ} → (term terms t).node ≡ labeled u → UnderLabels terms node u → UnderLabels terms node t

-- free in a term of a file that was read so far, and neither one of `exclude_names` nor hidden
pub record CountedFree (s : State) (name : Name) (t : ℕ) : Type 0 where
  pub free : FreeIn s.terms name t
  pub not_common : Memᴰ name (map bytes common_names) → ⊥
  pub not_hidden : Memᴰ name s.hidden → ⊥

-- what the definitions gather of the terms of a state is exactly this, each name once and in byte order
pub record ExactlyFree (s : State) : Type 0 where
  pub free : (t : ℕ) (name : Name)
      → Memᴰ name (free_top_level_names (excluded exclude_names s) s.terms t) ↔ CountedFree s name t
  pub free_set : (t : ℕ) → Ascending (free_top_level_names (excluded exclude_names s) s.terms t)
  -- of a pattern group: the names free in one of its terms
  pub group : (ts : List ℕ) (name : Name)
      → Memᴰ name (group_names (excluded exclude_names s) s.terms ts) ↔ ((t : ℕ) × Memᴰ t ts × CountedFree s name t)
  pub group_set : (ts : List ℕ) → Ascending (group_names (excluded exclude_names s) s.terms ts)
  pub bare : (t : ℕ) (node : Node) → ((term s.terms t).bare ≡ node) ↔ UnderLabels s.terms node t

-- before every line that is reached
abbrev pub FreeNamesExact : Type 0
FreeNamesExact = (file : List ℕ) (n : ℕ) (l : ReachedLine (lines file) n) → ExactlyFree l.state
