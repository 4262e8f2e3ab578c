-- Change 14: two accepted files with the same ask, also, hide and term lines, and the same other record lines rearranged, give every
-- ask the same kept names, visits and rounds, and the reached facts in the same order.
use Prim.Native.Nat.{ℕ}
use mathlib.Core.Path.{◌≡◌, sym, ◌∙◌, ap, ap₂, subst}
use mathlib.Core.List.Permᴰ
use mathlib.Core.List.{List, ◌++◌, map, Permᴰ}
use Rattle.model.specs.Lists.{keep, collect, fold_left}
use Rattle.model.specs.Names.{Name, order}
use Rattle.model.specs.Lines.{Line, lines}
use Rattle.model.specs.Summaries.{exclude_names}
use Rattle.model.specs.Reading.{Ask, Root, Summary, State, start, taken_by, read, read_lines}
use Rattle.model.specs.Rounds.{Run}
use Rattle.model.specs.Outcome.{Position, position, filtered}
use Rattle.laws.proofs.ReadingLaws.{file_read}
use Rattle.demands.specs.LinesRead.{LinesRead, records_for, At, Distinct}
use Rattle.demands.specs.Demand3.{run_of}
use Rattle.demands.specs.Moved.{moved_position}
use Rattle.demands.specs.Sequence.{moves, Rearranged, SameAnswer, SequenceNoMatter, SameAtPlaces}
use Rattle.demands.proofs.Rearranged.{perm_collect, SameMembers}
use Rattle.demands.proofs.ListedLaws.{reached_are}
use Rattle.demands.proofs.Background.{well_for}
use Rattle.demands.proofs.StateLaws.{laws_start}
use Rattle.demands.proofs.WellFormed.{accepted_well_formed}
use Rattle.demands.proofs.Queries.{at_map}
use Rattle.demands.proofs.Listing.{Parts, kept_parts, followed_parts, listed_names, told_same, SameParts}
use Rattle.demands.proofs.Moved.{moved_background, lines_apart, run_apart, kept_names_apart, followed_names_apart}
use Rattle.demands.proofs.Shifted.{taken_moved}
use Rattle.demands.proofs.SameRecords.{SameRecords, background_same, run_same, kept_parts_same, followed_parts_same, position_same}
use Rattle.demands.proofs.ReadSequence.{plain, plain_root, Fixed, fixed_of, with_line, fixed_read, decls_by, roots_by, records_read}
use Rattle.demands.proofs.ListedNames.{kept_named, followed_named}
use Rattle.demands.proofs.ReachedPlaces.{listed_order, order_listed}

-- the records and the roots of two states are the same, rearranged and on other lines
abbrev SamePlain : State → State → Type 0
SamePlain s s' = SameRecords (map plain s.decls) (map plain s'.decls) (map plain_root s.roots) (map plain_root s'.roots)

-- lists that are rearranged, by other names
perm_to : {A : Type 0} {k k' l l' : List A} → k ≡ k' → l ≡ l' → Permᴰ k l → Permᴰ k' l'
perm_to {k'} {l} f g p = subst (λ x. Permᴰ k' x) g (subst (λ x. Permᴰ x l) f p)

-- what is read of rearranged lines
same_read : (s s' : State) (ls ls' : List Line) → read_lines exclude_names 1 start ls ≡ read s → read_lines exclude_names 1 start ls' ≡ read s' → Rearranged ls ls'
    → (s.asks ≡ s'.asks) × SamePlain s s'
same_read s s' ls ls' e e' r =
    let same_fixed : fixed_of s ≡ fixed_of s' =
    fixed_read exclude_names ls 1 start s e ∙ ap (fold_left with_line (fixed_of start)) r.fixed ∙ sym (fixed_read exclude_names ls' 1 start s' e') in
    let (p, q) = records_read exclude_names ls 1 start s laws_start e in
    let (p', q') = records_read exclude_names ls' 1 start s' laws_start e' in (
      ap (λ (x : Fixed). x.asks) same_fixed,
      record {
        of_decls = perm_to (sym p) (ap (λ x. map plain start.decls ++ collect (decls_by exclude_names x) (keep moves ls')) same_fixed ∙ sym p')
            (Permᴰ.append_left (map plain start.decls) (perm_collect (decls_by exclude_names (fixed_of s)) r.moved));
        of_roots = perm_to (sym q) (ap (λ x. map plain_root start.roots ++ collect (roots_by exclude_names x) (keep moves ls')) same_fixed ∙ sym q')
            (Permᴰ.append_left (map plain_root start.roots) (perm_collect (roots_by exclude_names (fixed_of s)) r.moved));
      },
    )

-- the visits and the rounds of a position do not depend on the lines
counts_apart : (decls : List Summary) (roots : List Root) (a : Ask)
    → ((position (map plain decls) (map plain_root roots) a).visits ≡ (position decls roots a).visits) × ((position (map plain decls) (map plain_root roots) a).rounds ≡ (position decls roots a).rounds)
unfolding moved_position
counts_apart decls roots a = let e = lines_apart (λ n. 0) decls roots a in (ap (λ (p : Position). p.visits) e, ap (λ (p : Position). p.rounds) e)

-- no name is taken twice, lines apart
taken_once : (decls : List Summary) → Distinct (collect taken_by decls) → Distinct (collect taken_by (map plain decls))
taken_once decls d = subst Distinct (sym (taken_moved (λ n. 0) decls)) d

module _ (file file' : List ℕ) (s s' : State) (e : LinesRead file s) (e' : LinesRead file' s') (all : SamePlain s s') (a : Ask) where
  -- so are the records that the ask has to do with
  same_for : SameRecords (map plain (records_for a s)) (map plain (records_for a s')) (map plain_root s.roots) (map plain_root s'.roots)
  same_for =
      let b = background_same all a in
      record { of_decls = perm_to (moved_background (λ n. 0) a s.decls) (moved_background (λ n. 0) a s'.decls) b.of_decls; of_roots = b.of_roots }

  -- the run is the same
  runs : run_of a s ≡ run_of a s'
  runs =
      sym (run_apart (λ n. 0) (records_for a s) s.roots a)
      ∙ run_same same_for (taken_once (records_for a s') (well_for file' s' e' a).distinct) a
      ∙ run_apart (λ n. 0) (records_for a s') s'.roots a

  -- lists of the same parts, lines apart, have the same names
  names_by : (make : List Summary → List Root → List Name → Parts)
      → ((decls : List Summary) (roots : List Root) (reached : List Name) → listed_names a (make (map plain decls) (map plain_root roots) reached) ≡ listed_names a (make decls roots reached))
      → ((reached : List Name)
      → SameParts (make (map plain (records_for a s)) (map plain_root s.roots) reached) (make (map plain (records_for a s')) (map plain_root s'.roots) reached))
      → SameMembers (listed_names a (make (records_for a s) s.roots (run_of a s).reached)) (listed_names a (make (records_for a s') s'.roots (run_of a s').reached))
  names_by make apart same =
      let r = (run_of a s).reached in
      let D = map plain (records_for a s) in
      let R = map plain_root s.roots in
      subst (λ l. SameMembers l (listed_names a (make (records_for a s') s'.roots (run_of a s').reached))) (apart (records_for a s) s.roots r)
      (subst (λ l. SameMembers (listed_names a (make D R r)) l)
      (apart (records_for a s') s'.roots r ∙ ap (λ (x : Run). listed_names a (make (records_for a s') s'.roots x.reached)) runs)
      (told_same (λ f. f.name) (λ d. d.name) a (same r)))

  -- the answer is the same
  same_answer : SameAnswer file file' s s' a
  same_answer =
      let (visits, rounds) = position_same all (taken_once s'.decls (accepted_well_formed file' s' e').distinct) a in
      let (visits_here, rounds_here) = counts_apart s.decls s.roots a in
      let (visits_there, rounds_there) = counts_apart s'.decls s'.roots a in
      let Kept_same = names_by (kept_parts a) (kept_names_apart (λ n. 0) a) (kept_parts_same same_for a) in
      let Followed_same = names_by (followed_parts a) (followed_names_apart (λ n. 0) a) (followed_parts_same same_for a) in
      record {
        names = λ k. (
          λ i. rw (followed_named file' s' e' a) (Followed_same.to k (rw (followed_named file s e a) at i)),
          λ i. rw (followed_named file s e a) (Followed_same.from k (rw (followed_named file' s' e' a) at i)),
        );
        plain_names = λ k. (
          λ i. rw (kept_named file' s' e' a) (Kept_same.to k (rw (kept_named file s e a) at i)),
          λ i. rw (kept_named file s e a) (Kept_same.from k (rw (kept_named file' s' e' a) at i)),
        );
        visits = sym visits_here ∙ visits ∙ visits_there;
        rounds = sym rounds_here ∙ rounds ∙ rounds_there;
        reached = reached_are a (records_for a s) s.roots (well_for file s e a) ∙ ap (λ (r : Run). r.reached) runs ∙ sym (reached_are a (records_for a s') s'.roots (well_for file' s' e' a));
        no_trade = λ f f' g g' p q b.
            order_listed file' s' e' a p.there q.there
            (sym (ap₂ order p.one_name q.one_name) ∙ listed_order file s e a p.here q.here b);
      }

-- the sequence of the record lines is no matter
pub sequence_no_matter : SequenceNoMatter
sequence_no_matter file file' s s' e e' r =
    let (asks, same) = same_read s s' (lines file) (lines file') (file_read exclude_names file s e) (file_read exclude_names file' s' e') r in
    (asks, λ a. same_answer file file' s s' e e' same a)

-- nor is it at any place
pub same_at_places : SameAtPlaces
unfolding filtered
same_at_places file file' s s' e e' r i a at =
    let (asks, same) = sequence_no_matter file file' s s' e e' r in
    let asked = subst (λ (l : List Ask). At l i a) asks at in
    record { asked = asked; here = at_map (position s.decls s.roots) at; there = at_map (position s'.decls s'.roots) asked; answer = same a }
