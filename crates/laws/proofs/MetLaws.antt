-- Laws of the names met.
use mathlib.Core.Path.{refl}
use mathlib.Core.Logic.{◌⊎◌, inl, inr, ⊎_elim}
use mathlib.Core.Bool.{Bool}
use Rattle.std.specs.Prelude.{unwrap_or as get_or}
use mathlib.Core.List.Memᴰ
use mathlib.Core.List.{List, [], ◌∷◌, ◌++◌, Memᴰ}
use lib.Dec.{T}
use Rattle.model.specs.Lists.{keep, collect}
use Rattle.model.specs.Names.{Name, mem}
use Rattle.model.specs.Summaries.{Fact}
use Rattle.model.specs.Pruning.{Map, try_find}
use Rattle.model.specs.Rounds.{Run, met_from, met_after}
use Rattle.model.proofs.ListLaws.{keep_intro, keep_elim, collect_intro, collect_elim}
use Rattle.model.proofs.SetLaws.{Within, Ascending, mem_intro, mem_elim, mem_union, mem_from_list, ascending_union, ascending_from_list}

-- what an item with this free name meets: the name, and what it opens to
unfoldable pub opened : Map (List Name) → Name → List Name
opened ms n = n ∷ get_or (try_find ms n) []

-- what an item with a free name of the list meets is met
pub met_intro : (ms : Map (List Name)) {names : List Name} {k n : Name} → Memᴰ n names → Memᴰ k (opened ms n) → T (mem k (met_from ms names))
unfolding met_from opened
met_intro ms {names} {k} {n} i m =
    let macro : Name → List Name = λ n. get_or (try_find ms n) [] in
    (mem_from_list k (names ++ collect macro names)).1
    (mem_intro
    (⊎_elim (λ e. Memᴰ.append_left (collect macro names) (Memᴰ.cast e i)) (λ j. Memᴰ.append_right names (collect_intro macro i j))
    (Memᴰ.cases_cons m)))

-- a name met is met by an item with one free name of the list
pub met_elim : (ms : Map (List Name)) (names : List Name) {k : Name} → T (mem k (met_from ms names)) → (n : Name) × Memᴰ n names × Memᴰ k (opened ms n)
unfolding met_from opened
met_elim ms names {k} t =
    let macro : Name → List Name = λ n. get_or (try_find ms n) [] in
    ⊎_elim (λ i. (k, i, Memᴰ.head refl)) (λ i. let (n, j, o) = collect_elim macro names i in (n, j, Memᴰ.tail o))
    (Memᴰ.append_cases names (mem_elim ((mem_from_list k (names ++ collect macro names)).0 t)))

-- more free names meet no less
pub met_within : (ms : Map (List Name)) (l m : List Name) → ((n : Name) → Memᴰ n l → Memᴰ n m) → Within (met_from ms l) (met_from ms m)
met_within ms l m h k t = let (n, i, o) = met_elim ms l t in met_intro ms (h n i) o

-- what two lists meet, one of them meets
pub met_append : (ms : Map (List Name)) (l m : List Name) (k : Name) → T (mem k (met_from ms (l ++ m))) → T (mem k (met_from ms l)) ⊎ T (mem k (met_from ms m))
met_append ms l m k t =
    let (n, i, o) = met_elim ms (l ++ m) t in
    ⊎_elim (λ j. inl (met_intro ms j o)) (λ j. inr (met_intro ms j o)) (Memᴰ.append_cases l i)

-- the free names of some facts
abbrev pub free_names_of : List Fact → List Name
free_names_of fs = collect (λ (f : Fact). f.free_names) fs

-- the names met from items with these free names and the facts of a set
unfoldable pub met_with : Map (List Name) → List Fact → List Name → (Fact → Bool) → List Name
met_with ms fs first set = met_from ms (first ++ free_names_of (keep set fs))

module _ (ms : Map (List Name)) where
  -- what an item of a list meets, the list meets
  pub met_collected : {A : Type 0} (free : A → List Name) {x : A} {l : List A} → Memᴰ x l → Within (met_from ms (free x)) (met_from ms (collect free l))
  met_collected free {x} {l} i = met_within ms (free x) (collect free l) (λ n j. collect_intro free i j)

  -- what a list of items meets, one of them meets
  pub collected_met : {A : Type 0} (free : A → List Name) (l : List A) (k : Name) → T (mem k (met_from ms (collect free l)))
      → (x : A) × Memᴰ x l × T (mem k (met_from ms (free x)))
  collected_met free l k t =
      let (n, i, o) = met_elim ms (collect free l) t in
      let (x, j, m) = collect_elim free l i in
      (x, j, met_intro ms m o)

  -- so it is with facts
  pub met_fact : {l : List Fact} {f : Fact} → Memᴰ f l → Within (met_from ms f.free_names) (met_from ms (free_names_of l))
  met_fact m = met_collected (λ (f : Fact). f.free_names) m

  pub fact_met : (l : List Fact) (k : Name) → T (mem k (met_from ms (free_names_of l)))
      → (f : Fact) × Memᴰ f l × T (mem k (met_from ms f.free_names))
  fact_met l k t = collected_met (λ (f : Fact). f.free_names) l k t

  module _ (fs : List Fact) (first : List Name) where
    -- the names met from the first items are met
    pub with_first : (set : Fact → Bool) → Within (met_from ms first) (met_with ms fs first set)
    unfolding met_with
    with_first set = met_within ms first _ (λ n. Memᴰ.append_left _)

    -- the names met from a fact of the set are met
    pub with_fact : (set : Fact → Bool) {f : Fact} → Memᴰ f fs → T (set f) → Within (met_from ms f.free_names) (met_with ms fs first set)
    unfolding met_with
    with_fact set m t = met_within ms _ _ (λ n i. Memᴰ.append_right first (collect_intro (λ (f : Fact). f.free_names) (keep_intro set m t) i))

    -- a name met is met from the first items or from a fact of the set
    pub with_elim : (set : Fact → Bool) (k : Name) → T (mem k (met_with ms fs first set))
        → T (mem k (met_from ms first)) ⊎ ((f : Fact) × Memᴰ f fs × T (set f) × T (mem k (met_from ms f.free_names)))
    unfolding met_with
    with_elim set k t =
        ⊎_elim inl (λ u. let (f, i, v) = fact_met (keep set fs) k u in let (m, w) = keep_elim set fs i in inr (f, m, w, v))
        (met_append ms first (free_names_of (keep set fs)) k t)

    -- the facts of a larger set meet no less
    pub with_more : (set set' : Fact → Bool) → ((f : Fact) → Memᴰ f fs → T (set f) → T (set' f)) → Within (met_with ms fs first set) (met_with ms fs first set')
    with_more set set' h k t =
        ⊎_elim (with_first set' k) (λ p. let (f, m, u, v) = p in with_fact set' m (h f m u) k v) (with_elim set k t)

-- the names met are a set
pub ascending_with : (ms : Map (List Name)) (fs : List Fact) (first : List Name) (set : Fact → Bool) → Ascending (met_with ms fs first set)
unfolding met_with met_from
ascending_with ms fs first set = ascending_from_list _

-- what is met before a round is met at its end
pub met_grows : (ms : Map (List Name)) (r : Run) (scanned : List Name) → Within r.met (met_after ms r scanned)
unfolding met_after
met_grows ms r scanned k t = (mem_union k (met_from ms scanned) r.met).1 (inr t)

-- what a round scans is met at its end
pub met_scans : (ms : Map (List Name)) (r : Run) (scanned : List Name) → Within (met_from ms scanned) (met_after ms r scanned)
unfolding met_after
met_scans ms r scanned k t = (mem_union k (met_from ms scanned) r.met).1 (inl t)

-- what is met at a round's end is met from what it scans, or was met before it
pub after_elim : (ms : Map (List Name)) (r : Run) (scanned : List Name) (k : Name) → T (mem k (met_after ms r scanned))
    → T (mem k (met_from ms scanned)) ⊎ T (mem k r.met)
unfolding met_after
after_elim ms r scanned k t = (mem_union k (met_from ms scanned) r.met).0 t

-- the names met at a round's end are a set where those before it are
pub ascending_after : (ms : Map (List Name)) (r : Run) (scanned : List Name) → Ascending r.met → Ascending (met_after ms r scanned)
unfolding met_after
ascending_after ms r scanned m = ascending_union (met_from ms scanned) m
