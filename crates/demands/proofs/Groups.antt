-- The facts that an ask does not admit have no part in what it comes to; the older form admits all.
use Prim.Native.Nat.{ℕ, ◌≤◌}
use native.Mathlib.Omega.{arith}
use mathlib.Core.Path.{◌≡◌, refl, sym, ◌∙◌, ap, subst}
use mathlib.Core.Logic.{⊎_elim}
use mathlib.Core.Bool.{Bool, true, false, not, ◌||◌}
use mathlib.Core.List.Memᴰ
use mathlib.Core.List.{List, [], ◌∷◌, ◌++◌, map, Memᴰ}
use lib.Dec.{T, T_not, not_T}
use Rattle.model.specs.Lists.{any, keep}
use Rattle.model.specs.Names.{Name, mem}
use Rattle.model.specs.Lines.{Line, fields}
use Rattle.model.specs.Summaries.{exclude_names, Fact, summarize_assumption}
use Rattle.model.specs.Reading.{Content, head, term, assume, fun, def, retain, root, ok, Ask, Decl, Summary, sum_assume, sum_definefun, sum_declfun, sum_retain, State, start, is_grouped, heads, excluded, summarize_decl, add_line, read_line}
use Rattle.model.specs.Rounds.{facts, admits, is_admitted, background}
use Rattle.model.specs.Also.{chain}
use Rattle.model.specs.Outcome.{position}
use Rattle.model.proofs.ListLaws.{cond_false, keep_all, keep_append, map_elim}
use Rattle.laws.proofs.Records.{fact_summary, summary_fact, facts_append}
use Rattle.laws.proofs.ReadingLaws.{line_read, kept_by_file}
use Rattle.laws.proofs.OptionLaws.{all_places_on, admits_at_place}
use Rattle.laws.proofs.BackgroundLaws.{background_facts, background_definitions, background_declarations, background_elim, ambient_root_elim}
use Rattle.demands.specs.LinesRead.{records_for}
use Rattle.demands.specs.Demand2.{followed_list}
use Rattle.demands.specs.Demand3.{run_of}
use Rattle.demands.specs.Order.{listed_facts}
use Rattle.demands.specs.Also.{chain_at, chain_of}
use Rattle.demands.specs.Groups.{RecordsAdmitted, BackgroundOnly, NotThere, NotAdmittedLeftOut, AllAdmitted, OlderForm}
use Rattle.demands.proofs.Facts.{fact_by_name}
use Rattle.demands.proofs.RoundsLaws.{run_end}
use Rattle.demands.proofs.ListedLaws.{kept_fact_line}
use Rattle.demands.proofs.WellFormed.{accepted_well_formed}
use Rattle.demands.proofs.RecordLines.{read_file_lines, fact_by_line, fact_or_definition, fact_or_declaration}
use Rattle.demands.proofs.LineFields.{InGroup, line_fields}
use Rattle.demands.proofs.Background.{admitted_fact, admitted_definition, admitted_declaration, well_for}
use Rattle.demands.proofs.Asks.{accepted_asks}
use Rattle.demands.proofs.Bodies.{list_followed}
use Rattle.demands.proofs.Also.{chain_is_fresh}

-- ---- a fact that is not admitted

-- the records that an ask has to do with
pub records_admitted : RecordsAdmitted
records_admitted a s =
    record {
      admitted_facts = background_facts a s.decls;
      all_definitions = background_definitions a s.decls;
      all_declarations = background_declarations a s.decls;
    }

-- what an ask comes to depends on its background alone
pub background_only : BackgroundOnly
unfolding position
background_only a decls decls' roots e = rw e

-- it is as if a fact that is not admitted were not there
pub not_there : NotThere
not_there a before after f roots t =
    background_only a (before ++ (sum_assume f ∷ after)) (before ++ after) roots
    (unfold background keep is_admitted in (keep_append (is_admitted a) before (sum_assume f ∷ after)
    ∙ ap (keep (is_admitted a) before ++◌) (cond_false (admits a f.group) (sum_assume f ∷ keep (is_admitted a) after) (keep (is_admitted a) after) t)
    ∙ sym (keep_append (is_admitted a) before after)))

-- a fact that is not admitted has no part in what an ask comes to
pub not_admitted_left_out : NotAdmittedLeftOut
not_admitted_left_out file s e a f i t =
    record {
      not_filed = not_filed;
      no_ambient_root = λ j. not_filed (ambient_root_elim a (facts (records_for a s)) j).0;
      not_reached = not_reached;
      not_in_chain = not_in_chain a.queries refl;
      not_kept = not_kept;
    }
  where
    not_filed : Memᴰ f (facts (records_for a s)) → ⊥
    not_filed j = T_not (admits a f.group) t (unfold is_admitted in (background_elim a s.decls (fact_summary (records_for a s) j)).1)

    not_reached : T (not (mem f.name (run_of a s).reached))
    not_reached = not_T (mem f.name (run_of a s).reached) (λ u.
        let (g, j, same, retained, fired) = (run_end a (records_for a s) s.roots (well_for file s e a)).reached_fires f.name u in
        not_filed (subst (λ (x : Fact). Memᴰ x (facts (records_for a s))) (fact_by_name (accepted_well_formed file s e) (admitted_fact a s.decls j) i same) j))

    not_in_chain : (qs : List ℕ) → a.queries ≡ qs → T (not (mem f.name (chain_of a s).reached))
    not_in_chain [] none = subst (λ qs. T (not (mem f.name (chain_at a s qs).reached))) (sym none) (unfold chain mem any in tt)
    not_in_chain (q ∷ qs) has = subst (λ names. T (not (mem f.name names))) (sym (chain_is_fresh file s e a q qs has).same_reached) not_reached

    not_kept : Memᴰ f.line (followed_list a s) → ⊥
    not_kept j =
        let p = list_followed file s e a in
        let once = read_file_lines exclude_names file s e in
        ⊎_elim
        (λ k. let (g, l, same) = kept_fact_line a (facts (records_for a s)) (run_of a s).reached k in
        not_filed (subst (λ (x : Fact). Memᴰ x (facts (records_for a s))) (fact_by_line s.decls once (admitted_fact a s.decls l) i same) l))
        (λ k. let (d, l, same) = map_elim (λ (d : Decl). d.line) ((p.defs ++ p.added_defs) ++ (p.funs ++ p.added_funs)) k in
        ⊎_elim
        (λ m. fact_or_definition s.decls once i (admitted_definition a s.decls (p.are_definitions d m)) (sym same))
        (λ m. fact_or_declaration s.decls once i (admitted_declaration a s.decls (p.are_declarations d m)) (sym same))
        (Memᴰ.append_cases (p.defs ++ p.added_defs) l))
        (Memᴰ.append_cases (map (λ (f : Fact). f.line) (listed_facts a s)) (rw p.list at j))

-- ---- all groups admitted

-- an ask with all groups admits each
all_groups_on : (a : Ask) → a.groups ≡ 65535 → (k : ℕ) → k ≤ 15 → T (admits a k)
all_groups_on a e k h = rw (admits_at_place a k, e) (all_places_on k 16 65535 (omega arith) refl)

-- it has to do with every record
pub all_admitted : AllAdmitted
unfolding background
all_admitted a decls e low = keep_all (is_admitted a) decls each
  where
    each : (x : Summary) → Memᴰ x decls → T (is_admitted a x)
    each (sum_assume f) i = unfold is_admitted in (all_groups_on a e f.group (low f (summary_fact decls i)))
    each (sum_definefun d) i = unfold is_admitted in tt
    each (sum_declfun d) i = unfold is_admitted in tt
    each sum_retain i = unfold is_admitted in tt

-- ---- the older form

-- where the form is the older, all facts are of group 0
abbrev AllOf0 : State → Type 0
AllOf0 s = T (not s.grouped) → (f : Fact) → Memᴰ f (facts s.decls) → f.group ≡ 0

-- the facts of a line are of group 0
line_of_0 : (out : List Name) (s : State) (n : ℕ) (c : Content) → InGroup s.grouped c → T (not s.grouped)
    → (f : Fact) → Memᴰ f (facts (summarize_decl out s.terms n c)) → f.group ≡ 0
unfolding summarize_decl summarize_assumption facts
line_of_0 out s n (head h) g t f i = absurd (Memᴰ.not-nil i)
line_of_0 out s n (term node) g t f i = absurd (Memᴰ.not-nil i)
line_of_0 out s n (assume name flag group u) g t f i = ap (λ (x : Fact). x.group) (Memᴰ.eq_of_singleton i) ∙ g.1 t
line_of_0 out s n (fun name) g t f i = absurd (Memᴰ.not-nil i)
line_of_0 out s n (def name u) g t f i = absurd (Memᴰ.not-nil i)
line_of_0 out s n (retain names) g t f i = absurd (Memᴰ.not-nil i)
line_of_0 out s n (root q name u) g t f i = absurd (Memᴰ.not-nil i)

-- a line keeps it
keeps_0 : (exclude : List Name) (n : ℕ) (s s' : State) (line : Line) → read_line exclude n s line ≡ ok s' → AllOf0 s → AllOf0 s'
keeps_0 exclude n s s' line e old =
    let l = line_read exclude n s line s' e in
    subst AllOf0 (sym l.after) (added l.content (line_fields s (fields line.bytes) l.parsed).in_group)
  where
    before : (b c : Bool) → T (not (b || c)) → T (not b)
    before true c t = t
    before false c t = tt

    added : (c : Content) → InGroup s.grouped c → AllOf0 (add_line exclude n s c)
    added c g = unfold add_line in (λ t f i.
        let older = before s.grouped (any is_grouped (heads c)) t in
        ⊎_elim (old older f) (line_of_0 (excluded exclude s) s n c g older f)
        (Memᴰ.append_cases (facts s.decls) (rw facts_append at i)))

-- over a file of the older form every ask has to do with every record
pub older_form : OlderForm
older_form file s e t =
    let zero_groups = kept_by_file exclude_names (λ n s. AllOf0 s) (keeps_0 exclude_names) file s e (unfold start facts in (λ u f i. absurd (Memᴰ.not-nil i))) t in
    let all_groups = (accepted_asks file s e).older_form t in
    record {
      group_0 = zero_groups;
      all_groups = all_groups;
      all_records = λ a i. all_admitted a s.decls (all_groups a i) (λ f j. let z = zero_groups f j in omega arith);
    }
