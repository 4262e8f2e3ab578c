-- The counts towards the limits, at every line that a file reaches, are those of document 01.
use Prim.Native.Nat.{ℕ, ◌+◌, max}
use native.Mathlib.Omega.{arith}
use mathlib.Core.Path.{◌≡◌, refl, ◌∙◌}
use mathlib.Core.Bool.{Bool, true, false, cond}
use mathlib.Core.List.{List, [], ◌∷◌, ◌++◌, map}
use lib.ListN.{length, length-append}
use Rattle.model.specs.Lists.{keep, count, sum, collect, fold_left}
use Rattle.model.specs.Names.{Name}
use Rattle.model.specs.Lines.{Line, fields}
use Rattle.model.specs.Terms.{Node, Term, add_term}
use Rattle.model.specs.Summaries.{exclude_names, Fact, entries, summarize_kind}
use Rattle.model.specs.Reading.{Content, head, term, assume, fun, def, retain, root, ok, Decl, Summary, sum_assume, sum_definefun, sum_declfun, sum_retain, State, start, read, entries_of, uses_of}
use Rattle.model.specs.Reading.{head_asks, hidden_by, heads, nodes, spelled, trimmed, summarize_decl, root_of, excluded, parse, add_line, read_lines}
use Rattle.model.specs.Rounds.{facts, definitions}
use Rattle.model.proofs.ListLaws.{keep_append, count_append, sum_map_append}
use Rattle.demands.specs.Demand1.{ReachedLine, Says}
use Rattle.demands.specs.FileOrder.{of_record}
use Rattle.demands.specs.Counts.{state_with, lines_to, ask_words, term_words, record_words, begins, term_fields, name_fields, Counted, NamesAdded, CountsExact}
use Rattle.laws.proofs.ReadingLaws.{line_read, lines_read, none_read, kept_by_lines}
use Rattle.demands.proofs.TermNumbers.{named_below}
use Rattle.demands.proofs.LineFields.{line_fields, line_stands}
use Rattle.demands.proofs.Heads.{asks_counted}
use Rattle.demands.proofs.StateLaws.{spelled_exact, StateLaws, laws_start, laws_added, laws_line}

-- the trigger entries of the records are those of the facts
pub entries_facts : (decls : List Summary) → sum (map entries_of decls) ≡ sum (map (λ (f : Fact). sum (map (λ (d : List Name). max 1 (length d)) f.triggers)) (facts decls))
unfolding sum entries_of entries facts
entries_facts [] = refl
entries_facts (sum_assume f ∷ decls) = rw (entries_facts decls)
entries_facts (sum_definefun d ∷ decls) = omega (arith, entries_facts decls)
entries_facts (sum_declfun d ∷ decls) = omega (arith, entries_facts decls)
entries_facts (sum_retain ∷ decls) = omega (arith, entries_facts decls)

-- the name uses of the records are those of the facts and of the definitions
uses_facts : (decls : List Summary) → sum (map uses_of decls)
    ≡ sum (map (λ (f : Fact). length f.free_names) (facts decls)) + sum (map (λ (d : Decl). length d.free_names) (definitions decls))
unfolding sum uses_of facts definitions
uses_facts [] = omega arith
uses_facts (sum_assume f ∷ decls) = omega (arith, uses_facts decls)
uses_facts (sum_definefun d ∷ decls) = omega (arith, uses_facts decls)
uses_facts (sum_declfun d ∷ decls) = omega (arith, uses_facts decls)
uses_facts (sum_retain ∷ decls) = omega (arith, uses_facts decls)

-- the term references of the term lines among these lines
abbrev references_in : List Line → ℕ
references_in ls = sum (map (λ line. length (term_fields line)) (keep (begins term_words) ls))

-- what these lines add to the counts, from one state to another
record Adds (ls : List Line) (s t : State) : Type 0 where
  ask_lines : length t.asks ≡ length s.asks + count (begins ask_words) ls
  term_lines : length t.terms ≡ length s.terms + count (begins term_words) ls
  term_references : t.references ≡ s.references + references_in ls
  record_lines : length t.hidden + (length t.decls + length t.roots)
      ≡ length s.hidden + (length s.decls + length s.roots) + count (begins record_words) ls

-- lines one after the other add what each of the two parts adds
adds_append : {ls ms : List Line} {s t u : State} → Adds ls s t → Adds ms t u → Adds (ls ++ ms) s u
adds_append {ls} {ms} {s} {t} {u} a b =
    record {
      ask_lines = omega (arith, a.ask_lines, b.ask_lines, count_append (begins ask_words) ls ms);
      term_lines = omega (arith, a.term_lines, b.term_lines, count_append (begins term_words) ls ms);
      term_references = rw keep_append (omega (
        arith,
        a.term_references,
        b.term_references,
        sum_map_append (λ line. length (term_fields line)) (keep (begins term_words) ls) (keep (begins term_words) ms),
      ));
      record_lines = omega (arith, a.record_lines, b.record_lines, count_append (begins record_words) ls ms);
    }

-- no line adds nothing
adds_none : (s : State) → Adds [] s s
unfolding count keep sum
adds_none s = record { ask_lines = omega arith; term_lines = omega arith; term_references = omega arith; record_lines = omega arith }

-- the table with term lines more has as many terms more
terms_more : (terms : List Term) (ns : List Node) → length (fold_left add_term terms ns) ≡ length terms + length ns
unfolding fold_left add_term
terms_more terms [] = omega arith
terms_more terms (node ∷ ns) = terms_more (add_term terms node) ns ∙ rw length-append (omega arith)

-- a line alone, as it counts
one_counted : (test : Line → Bool) (line : Line) → count test (line ∷ []) ≡ cond (test line) 1 0
unfolding count
one_counted test line = go (test line)
  where
    go : (b : Bool) → cond b (1 + 0) 0 ≡ cond b 1 0
    go true = refl
    go false = refl

-- its term references, if it is a term line
one_referring : (line : Line) → references_in (line ∷ []) ≡ cond (begins term_words line) (length (term_fields line)) 0
unfolding keep sum
one_referring line = go (begins term_words line)
  where
    go : (b : Bool) → sum (map (λ line. length (term_fields line)) (cond b (line ∷ []) [])) ≡ cond b (length (term_fields line)) 0
    go true = omega arith
    go false = refl

-- a line that says something adds what it is counted as
adds_line : (exclude : List Name) (n : ℕ) (s : State) (line : Line) (c : Content) → parse s (fields line.bytes) ≡ ok c
    → Adds (line ∷ []) s (add_line exclude n s c)
unfolding add_line begins term_fields
adds_line exclude n s line c e =
    let l = line_fields s (fields line.bytes) e in
    let out = excluded exclude s in
    record {
      ask_lines = rw (one_counted (begins ask_words) line) (omega (arith, length-append s.asks (collect (head_asks s.asks) (heads c)), asks_counted s l.headed (line_stands s (fields line.bytes) e)));
      term_lines = rw (one_counted (begins term_words) line) (omega (arith, terms_more s.terms (nodes c), l.term_lines));
      term_references = rw (one_referring line) (omega (arith, l.term_references));
      record_lines = rw (one_counted (begins record_words) line) (omega (
        arith,
        l.record_lines out s.terms n,
        length-append s.hidden (collect hidden_by (heads c)),
        length-append s.decls (summarize_decl out s.terms n c),
        length-append s.roots (root_of out s.terms n c),
      ));
    }

-- so do all lines that are read
adds_lines : (ls : List Line) (n : ℕ) (s t : State) → read_lines exclude_names n s ls ≡ read t → Adds ls s t
adds_lines [] n s t e = rw (none_read exclude_names n s t e) (adds_none t)
adds_lines (line ∷ ls) n s t e =
    let (u, r, others) = lines_read exclude_names n s line ls t e in
    let l = line_read exclude_names n s line u r in
    adds_append {ls = line ∷ []} (rw l.after (adds_line exclude_names n s line l.content l.parsed)) (adds_lines ls (n + 1) u t others)

-- the counts of a state of which the laws hold, after lines that add up to it, are those of document 01
counted : (ls : List Line) (s : State) → Adds ls start s → StateLaws s → Counted ls s
unfolding start
counted ls s a h =
    record {
      ask_lines = omega (arith, a.ask_lines);
      term_lines = omega (arith, a.term_lines);
      term_references = omega (arith, a.term_references);
      record_lines = omega (arith, a.record_lines);
      trigger_entries = h.counts.entries ∙ entries_facts s.decls;
      name_uses = omega (arith, h.counts.uses, uses_facts s.decls);
      names_once = h.numbered_once;
    }

-- the token that rule 4 trims, of an assume line alone
pub token_is : (exclude : List Name) (terms : List Term) (c : Content) → trimmed exclude terms c
    ≡ of_record (λ name flag group t. (summarize_kind exclude terms name t).trimmed) (λ name. []) (λ name t. []) (λ q name t. []) c
unfolding trimmed
token_is exclude terms (head h) = refl
token_is exclude terms (term node) = refl
token_is exclude terms (assume name flag group t) = refl
token_is exclude terms (fun name) = refl
token_is exclude terms (def name t) = refl
token_is exclude terms (retain names) = refl
token_is exclude terms (root q name t) = refl

module _ {ls : List Line} {n : ℕ} (l : ReachedLine ls n) where
  -- the laws hold of the state before a line that is reached
  laws_reached : StateLaws l.state
  laws_reached = kept_by_lines exclude_names (λ n s. StateLaws s) (laws_line exclude_names) l.before 1 start l.state l.reading laws_start

  module _ (c : Content) (says : Says l c) where
    -- they hold with the line added
    laws_said : StateLaws (state_with l c)
    laws_said =
        laws_added exclude_names n l.state c (named_below l.state (fields l.line.bytes) says.parsed) laws_reached

    -- the lines up to it add up to the state with it
    adds_said : Adds (lines_to l) start (state_with l c)
    adds_said = adds_append (adds_lines l.before 1 start l.state l.reading) (adds_line exclude_names n l.state l.line c says.parsed)

    -- the names with the line added are those before, those that it spells and the token that rule 4 trims
    names_added : NamesAdded l c
    unfolding add_line name_fields
    names_added k =
        spelled_exact l.state.names (spelled c ++ trimmed (excluded exclude_names l.state) l.state.terms c) k
        ∙ rw ((line_fields l.state (fields l.line.bytes) says.parsed).names, token_is (excluded exclude_names l.state) l.state.terms c)

-- the counts are those of document 01 at every line that is reached
pub counts_exact : CountsExact
counts_exact file n l c says = (counted (lines_to l) (state_with l c) (adds_said l c says) (laws_said l c says), names_added l c says)
