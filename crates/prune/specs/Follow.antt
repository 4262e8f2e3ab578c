-- Bodies followed, on numbers of names: which stamps they leave.
use Rattle.std.specs.Prelude.{ℕ, ◌-◌, ◌<◌, ◌≡◌, Bool, not, cond, T}
use mathlib.Core.List.{List, [], Memᴰ}
use Rattle.model.specs.Reading.{prune_decls, follow_bodies}
use Rattle.model.specs.declared.Asked.{Asked}
use Rattle.model.specs.declared.Counts.{Counts}
use Rattle.records.specs.Columns.{taken_at}
use Rattle.records.specs.States.{uses_at, ask_of}
use Rattle.macros.specs.Macros.{is_def}
use Rattle.prune.specs.Listing.{item_stamp, followed_stamp}

-- the names free in the body of a name's definition; none where it has none
unfoldable pub body_at : List ℕ → List ℕ → List ℕ → ℕ → List ℕ
body_at names recs lists n = cond (is_def recs (taken_at names n)) (uses_at recs lists (taken_at names n - 1)) []

-- names that get a stamp: those with one keep theirs, the others get that of the names followed, and each of these is in every
-- set that has the names of the start and the bodies of its names
pub record StampsGrown (named : ℕ) (body : ℕ → List ℕ) (before after : ℕ → ℕ) : Type 0 where
  pub old : (n : ℕ) → n < named → 0 < before n → after n ≡ before n
  pub new : (n : ℕ) → n < named → before n ≡ 0 → 0 < after n → after n ≡ followed_stamp
  pub least : (has : ℕ → Bool) → ((n : ℕ) → n < named → 0 < before n → T (has n))
      → ((n m : ℕ) → n < named → T (has n) → Memᴰ m (body n) → T (has m))
      → (n : ℕ) → n < named → 0 < after n → T (has n)

-- bodies followed to the end: every name of the body of a name with a stamp has one
pub record StampsClosed (named : ℕ) (body : ℕ → List ℕ) (before after : ℕ → ℕ) : Type 0 where
  pub grown : StampsGrown named body before after
  pub closed : (n m : ℕ) → n < named → 0 < after n → Memᴰ m (body n) → 0 < after m

-- the stamps of an ask: with option 8 bodies are followed, without it those of the items stay
pub record Stamps (names recs lists run : List ℕ) (k : Counts) (a : Asked) (stamp : ℕ → ℕ) : Type 0 where
  pub noted : T (not (follow_bodies (ask_of recs a))) → (n : ℕ) → n < k.names → stamp n ≡ item_stamp names recs lists run k a n
  pub followed : T (follow_bodies (ask_of recs a)) → StampsClosed k.names (body_at names recs lists) (item_stamp names recs lists run k a) stamp

-- without option 4 they do not matter
abbrev pub Stamped : List ℕ → List ℕ → List ℕ → List ℕ → Counts → Asked → (ℕ → ℕ) → Type 0
Stamped names recs lists run k a stamp = T (prune_decls (ask_of recs a)) → Stamps names recs lists run k a stamp
