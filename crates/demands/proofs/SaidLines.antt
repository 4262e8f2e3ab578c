-- What holds after some lines because one of them says so: the line is found, and a line that says so is enough.
use Prim.Native.Nat.{ℕ, ◌+◌}
use native.Mathlib.Omega.{arith}
use mathlib.Core.Path.{◌≡◌, sym, ◌∙◌}
use mathlib.Core.Logic.{◌↔◌, ◌⊎◌, inl, inr, ⊎_elim}
use mathlib.Core.List.{List, [], ◌∷◌}
use lib.Dec.{T}
use lib.ListN.{length}
use Rattle.model.specs.Lines.{Line, fields}
use Rattle.model.specs.Summaries.{exclude_names}
use Rattle.model.specs.Reading.{Content, ok, State, start, read, parse, add_line, read_line, read_lines}
use Rattle.model.proofs.ResultLaws.{ok_eq}
use Rattle.demands.specs.Demand1.{ReachedLine, Says}
use Rattle.laws.proofs.ReadingLaws.{LineRead, line_read, lines_read, none_read}
use Rattle.demands.proofs.Refusals.{Reaches, reaches_first, reaches_later, lines_append}

-- a line that is reached from the start, in the words of the statement
unfoldable pub reached : {ls : List Line} {n : ℕ} → Reaches exclude_names 1 start ls n → ReachedLine ls n
reached l = let place = l.place in record { before = l.before; line = l.line; after = l.after; is_line = l.is_line; place = omega arith; state = l.state; reading = l.reading }

-- a line among these, read from a state on, and what it says
pub record SaidFrom (n : ℕ) (s : State) (ls : List Line) : Type 0 where
  pub place : ℕ
  pub at : Reaches exclude_names n s ls place
  pub content : Content
  pub ended : T at.line.ended
  pub parsed : parse at.state (fields at.line.bytes) ≡ ok content

-- the first of some lines, if it is read
unfoldable pub said_first : (n : ℕ) (s u : State) (line : Line) (ls : List Line) → LineRead exclude_names n s line u → SaidFrom n s (line ∷ ls)
unfolding reaches_first
said_first n s u line ls l =
    record { place = n; at = reaches_first exclude_names n s line ls; content = l.content; ended = l.ended; parsed = l.parsed }

-- a line after the first, if that is read
unfoldable pub said_later : (n : ℕ) (s u : State) (line : Line) {ls : List Line} → read_line exclude_names n s line ≡ ok u
    → SaidFrom (n + 1) u ls → SaidFrom n s (line ∷ ls)
unfolding reaches_later
said_later n s u line r w =
    record { place = w.place; at = reaches_later exclude_names n s u line r w.at; content = w.content; ended = w.ended; parsed = w.parsed }

-- a line among these that says something of which the law holds
pub record SaidIn (law : ℕ → State → Content → Type 0) (n : ℕ) (s : State) (ls : List Line) : Type 0 where
  pub said : SaidFrom n s ls
  pub lawful : law said.place said.at.state said.content

-- what holds of a state after a line exactly where it does before or the line says something of which the law holds
abbrev pub SaidBy : (State → Type 0) → (ℕ → State → Content → Type 0) → Type 0
SaidBy holds law = (n : ℕ) (s : State) (c : Content) → holds (add_line exclude_names n s c) ↔ (holds s ⊎ law n s c)

module _ {holds : State → Type 0} {law : ℕ → State → Content → Type 0} (by : SaidBy holds law) where
  -- what holds after some lines held before them or one of them says so
  pub said_lines : (ls : List Line) (n : ℕ) (s t : State) → read_lines exclude_names n s ls ≡ read t → holds t → holds s ⊎ SaidIn law n s ls
  unfolding said_first said_later
  said_lines [] n s t e h = inl (rw (none_read exclude_names n s t e) h)
  said_lines (line ∷ ls) n s t e h =
      let (u, r, others) = lines_read exclude_names n s line ls t e in
      let l = line_read exclude_names n s line u r in
      ⊎_elim (λ j. ⊎_elim inl (λ k. inr (here u l k)) ((by n s l.content).0 (rw l.after at j))) (λ w. inr (there u r w))
      (said_lines ls (n + 1) u t others h)
    where
      here : (u : State) (l : LineRead exclude_names n s line u) → law n s l.content → SaidIn law n s (line ∷ ls)
      here u l k = record { said = said_first n s u line ls l; lawful = k }

      there : (u : State) → read_line exclude_names n s line ≡ ok u → SaidIn law (n + 1) u ls → SaidIn law n s (line ∷ ls)
      there u r w = record { said = said_later n s u line r w.said; lawful = w.lawful }

  -- what holds before some lines holds after them
  pub said_on : (ls : List Line) (n : ℕ) (s t : State) → read_lines exclude_names n s ls ≡ read t → holds s → holds t
  said_on [] n s t e h = rw (none_read exclude_names n s t e) at h
  said_on (line ∷ ls) n s t e h =
      let (u, r, others) = lines_read exclude_names n s line ls t e in
      let l = line_read exclude_names n s line u r in
      said_on ls (n + 1) u t others (rw l.after ((by n s l.content).1 (inl h)))

  -- it holds after lines of which one says so
  pub said_reached : {ls : List Line} {t : State} → read_lines exclude_names 1 start ls ≡ read t
      → {m : ℕ} {c : Content} (l : ReachedLine ls m) → Says l c → law m l.state c → holds t
  said_reached {ls} {t} reading {m} l says said =
      let place = l.place in
      let count : m ≡ 1 + length l.before = omega arith in
      let rest : read_lines exclude_names m l.state (l.line ∷ l.after) ≡ read t = rw (count, ← (lines_append exclude_names l.before (l.line ∷ l.after) 1 start l.state l.reading), ← l.is_line) reading in
      let (u, r, others) = lines_read exclude_names m l.state l.line l.after t rest in
      let here = line_read exclude_names m l.state l.line u r in
      let same_content = ok_eq (sym says.parsed ∙ here.parsed) in
      said_on l.after (m + 1) u t others (rw here.after ((by m l.state here.content).1 (inr (rw same_content at said))))
