-- The order of the file: the records of an accepted file are those that its lines say, in the order of the lines.
use Prim.Native.Nat.{ℕ, ◌+◌}
use mathlib.Core.Path.{◌≡◌, refl, sym, ◌∙◌, ap, ap₂}
use mathlib.Core.Logic.{◌⊎◌, ⊎_elim}
use mathlib.Core.List.{List, [], ◌∷◌, ◌++◌, map, map-map, append-nil, append_assoc}
use lib.ListN.{length}
use Rattle.model.specs.Lists.{collect}
use Rattle.model.specs.Names.{Name}
use Rattle.model.specs.Lines.{Line, lines}
use Rattle.model.specs.Terms.{Term}
use Rattle.model.specs.Summaries.{exclude_names}
use Rattle.model.specs.Reading.{Head, Content, head, term, assume, fun, def, retain, root, State, start, read, summarize_decl, root_of, excluded, add_line, read_lines}
use Rattle.model.specs.Rounds.{facts, definitions, declarations}
use Rattle.model.proofs.ListLaws.{collect_map}
use Rattle.demands.specs.FileOrder.{Said, numbers_from, fact_said, definition_said, declaration_said, root_said, from_line, FileOrder}
use Rattle.laws.proofs.Records.{facts_append, definitions_append, declarations_append}
use Rattle.laws.proofs.ReadingLaws.{line_read, lines_read, none_read, file_read}
use Rattle.demands.proofs.SaidLines.{reached, SaidFrom, said_first, said_later}
use Rattle.demands.proofs.Heads.{excluded_to_the_end}
use Rattle.demands.proofs.RecordLines.{records_rise, roots_rise}

-- every line of those that are read, and what it says
unfoldable pub told : (ls : List Line) (n : ℕ) (s t : State) → read_lines exclude_names n s ls ≡ read t → List (SaidFrom n s ls)
told [] n s t e = []
told (line ∷ ls) n s t e =
    let (u, r, others) = lines_read exclude_names n s line ls t e in
    said_first n s u line ls (line_read exclude_names n s line u r) ∷ map (said_later n s u line r) (told ls (n + 1) u t others)

-- they stand on the lines from the n-th on
pub told_places : (ls : List Line) (n : ℕ) (s t : State) (e : read_lines exclude_names n s ls ≡ read t)
    → map (λ (w : SaidFrom n s ls). w.place) (told ls n s t e) ≡ numbers_from n (length ls)
unfolding told numbers_from said_first said_later
told_places [] n s t e = refl
told_places (line ∷ ls) n s t e =
    let (u, r, others) = lines_read exclude_names n s line ls t e in
    ap (n ∷◌) (map-map (λ (w : SaidFrom n s (line ∷ ls)). w.place) (said_later n s u line r) (told ls (n + 1) u t others)
    ∙ told_places ls (n + 1) u t others)

-- what a line says by these excluded names
abbrev SaysBy : Type 0 → Type 0
SaysBy X = List Name → List Term → ℕ → Content → List X

-- what a line that is read gives
abbrev from_said : {X : Type 0} {n : ℕ} {s : State} {ls : List Line} → List Name → SaysBy X → SaidFrom n s ls → List X
from_said exclude said w = said exclude w.at.state.terms w.place w.content

-- a part of the state to which each line adds what it says, a line of the head nothing
pub record AddsSaid {X : Type 0} (part : State → List X) (said : SaysBy X) : Type 0 where
  pub adds : (n : ℕ) (s : State) (c : Content) → part (add_line exclude_names n s c) ≡ part s ++ said (excluded exclude_names s) s.terms n c
  pub none : (exclude : List Name) (terms : List Term) (n : ℕ) (h : Head) → said exclude terms n (head h) ≡ []

-- what a line says by the names excluded at it, it says by those excluded at the end of the file
said_late : {X : Type 0} {part : State → List X} {said : SaysBy X} → AddsSaid part said → (n : ℕ) (s t : State) (c : Content)
    → ((h : Head) × (c ≡ head h)) ⊎ (excluded exclude_names s ≡ excluded exclude_names t)
    → said (excluded exclude_names s) s.terms n c ≡ said (excluded exclude_names t) s.terms n c
said_late {said} a n s t c w =
    ⊎_elim (λ p. rw p.1 (a.none (excluded exclude_names s) s.terms n p.0 ∙ sym (a.none (excluded exclude_names t) s.terms n p.0)))
    (λ e. ap (λ x. said x s.terms n c) e) w

-- after some lines it is what it was and what they say, by the names excluded after them
told_part : {X : Type 0} (part : State → List X) (said : SaysBy X) → AddsSaid part said
    → (ls : List Line) (n : ℕ) (s t : State) (e : read_lines exclude_names n s ls ≡ read t)
    → part t ≡ part s ++ collect (from_said (excluded exclude_names t) said) (told ls n s t e)
unfolding told collect said_first said_later
told_part part said h [] n s t e = rw (none_read exclude_names n s t e) (sym (append-nil (part t)))
told_part part said h (line ∷ ls) n s t e =
    let (u, r, others) = lines_read exclude_names n s line ls t e in
    let l = line_read exclude_names n s line u r in
    let out = excluded exclude_names t in
    let late = said_late h n s t l.content (excluded_to_the_end exclude_names line ls n s t e) in
    told_part part said h ls (n + 1) u t others
    ∙ ap₂ ◌++◌ (ap part l.after ∙ h.adds n s l.content ∙ ap (part s ++◌) late) (sym (collect_map (from_said out said) (said_later n s u line r) (told ls (n + 1) u t others)))
    ∙ append_assoc (part s) (said out s.terms n l.content) _

-- a line adds to the facts, the definitions, the declarations and the roots what it says
record_said : (exclude : List Name) (terms : List Term) (n : ℕ) (c : Content)
    → (facts (summarize_decl exclude terms n c) ≡ fact_said exclude terms n c)
    × (definitions (summarize_decl exclude terms n c) ≡ definition_said exclude terms n c)
    × (declarations (summarize_decl exclude terms n c) ≡ declaration_said exclude terms n c)
    × (root_of exclude terms n c ≡ root_said exclude terms n c)
unfolding facts definitions declarations summarize_decl root_of
record_said exclude terms n (head h) = (refl, refl, refl, refl)
record_said exclude terms n (term node) = (refl, refl, refl, refl)
record_said exclude terms n (assume name flag group t) = (refl, refl, refl, refl)
record_said exclude terms n (fun name) = (refl, refl, refl, refl)
record_said exclude terms n (def name t) = (refl, refl, refl, refl)
record_said exclude terms n (retain names) = (refl, refl, refl, refl)
record_said exclude terms n (root q name t) = (refl, refl, refl, refl)

-- a line of a file, in the words of the statement
unfoldable pub as_said : {file : List ℕ} → SaidFrom 1 start (lines file) → Said file
unfolding reached
as_said w = record { place = w.place; line = reached w.at; content = w.content; says = record { ended = w.ended; parsed = w.parsed } }

-- such a part of the state that is empty at first is what all lines say
pub said_part : {X : Type 0} (file : List ℕ) (part : State → List X) (said : SaysBy X) → part start ≡ [] → AddsSaid part said
    → (s : State) (e : read_lines exclude_names 1 start (lines file) ≡ read s)
    → part s ≡ collect (from_line (excluded exclude_names s) said) (map as_said (told (lines file) 1 start s e))
unfolding as_said reached
said_part file part said none h s e =
    told_part part said h (lines file) 1 start s e ∙ rw none (sym (collect_map (from_line (excluded exclude_names s) said) as_said (told (lines file) 1 start s e)))

-- the records of an accepted file are those that its lines say, in their order
pub file_order : FileOrder
unfolding as_said reached start facts definitions declarations add_line
file_order file s e =
    let reading = file_read exclude_names file s e in
    record {
      said = map as_said (told (lines file) 1 start s reading);
      every_line = map-map (λ (l : Said file). l.place) as_said (told (lines file) 1 start s reading) ∙ told_places (lines file) 1 start s reading;
      facts_said = said_part file (λ s. facts s.decls) fact_said refl
          (record {
            adds = λ n s c. facts_append s.decls _ ∙ ap (facts s.decls ++◌) (record_said (excluded exclude_names s) s.terms n c).0;
            none = λ exclude terms n h. refl;
          }) s reading;
      definitions_said = said_part file (λ s. definitions s.decls) definition_said refl
          (record {
            adds = λ n s c. definitions_append s.decls _ ∙ ap (definitions s.decls ++◌) (record_said (excluded exclude_names s) s.terms n c).1;
            none = λ exclude terms n h. refl;
          }) s reading;
      declarations_said = said_part file (λ s. declarations s.decls) declaration_said refl
          (record {
            adds = λ n s c. declarations_append s.decls _ ∙ ap (declarations s.decls ++◌) (record_said (excluded exclude_names s) s.terms n c).2;
            none = λ exclude terms n h. refl;
          }) s reading;
      roots_said = said_part file (λ s. s.roots) root_said refl
          (record { adds = λ n s c. ap (s.roots ++◌) (record_said (excluded exclude_names s) s.terms n c).3; none = λ exclude terms n h. refl }) s reading;
      decls_rise = records_rise exclude_names file s e;
      roots_rise = roots_rise exclude_names file s e;
    }
