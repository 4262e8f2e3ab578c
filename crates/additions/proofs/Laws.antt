-- Room for references and rows.
use Prim.Native.Nat.{ℕ, ◌≤◌, ◌<◌}
use mathlib.Core.Path.{◌≡◌}
use mathlib.Core.List.{List}
use lib.ListN.{set}
use borrow.Author.Tests.{lt-ltb, le-ltb}
use Rattle.std.specs.Prelude.{Ok, Err}
use Rattle.model.specs.declared.Refusal.TheVariants as refusal
use Rattle.additions.specs.Additions.{added, rows_after, with_row, references_pushed, push_answer}

-- a reference goes in where there is room
pub pushed_in : (refs : List ℕ) (used word : ℕ) → used < 16384 → references_pushed refs used word ≡ set refs used word
unfolding references_pushed
pushed_in refs used word h = rw (lt-ltb used 16384 h)

-- full references stay
pub pushed_full : (refs : List ℕ) (used word : ℕ) → 16384 ≤ used → references_pushed refs used word ≡ refs
unfolding references_pushed
pushed_full refs used word h = rw (le-ltb used 16384 h)

-- the answer where there is room
pub answer_in : (used : ℕ) → used < 16384 → push_answer used ≡ Ok tt
unfolding push_answer
answer_in used h = rw (lt-ltb used 16384 h)

-- the answer of full references
pub answer_full : (used : ℕ) → 16384 ≤ used → push_answer used ≡ Err refusal.FullTerms
unfolding push_answer
answer_full used h = rw (le-ltb used 16384 h)

-- a row goes in where there is room
pub added_in : (rows : List ℕ) (many word start extra : ℕ) → many < 4096 → (added many ≡ Ok tt) × (rows_after rows many word start extra ≡ with_row rows many word start extra)
unfolding added rows_after
added_in rows many word start extra h = (rw (lt-ltb many 4096 h), rw (lt-ltb many 4096 h))

-- a full table stays
pub added_full : (rows : List ℕ) (many word start extra : ℕ) → 4096 ≤ many → (added many ≡ Err refusal.FullTerms) × (rows_after rows many word start extra ≡ rows)
unfolding added rows_after
added_full rows many word start extra h = (rw (le-ltb many 4096 h), rw (le-ltb many 4096 h))
