-- Document 01, F10: "a result slice long enough for every accepted file".
use Rattle.std.specs.Prelude.{ℕ, ◌*◌, ◌≤◌, ◌≡◌, List, length}
use Rattle.model.specs.Reading.{Ask, State}
use Rattle.model.specs.Outcome.{Lent, refusal_at, most_kept, outcome}
use Rattle.model.specs.declared.Refusal.TheVariants as refusal
use Rattle.demands.specs.LinesRead.{LinesRead, records_for}
use Rattle.demands.specs.Demand2.{followed_list}
use Rattle.demands.specs.Demand1.{all_lengths}

-- there are no more kept lines than records, where bodies are followed too
abbrev pub FollowedRoom : Type 0
FollowedRoom = (file : List ℕ) (s : State) → LinesRead file s → (a : Ask) → length (followed_list a s) ≤ length (records_for a s)

-- the lists of all asks together have at most sixteen times as many
abbrev pub ListsRoom : Type 0
ListsRoom = (file : List ℕ) (s : State) → LinesRead file s → all_lengths s ≤ 16 * length s.decls

-- a call over a result slice with room for every record line, once for each ask that a file may have, never comes to 8
abbrev pub RoomEnough : Type 0
RoomEnough =
    (file : List ℕ) (works : List Lent) (room place : ℕ) → most_kept ≤ room → outcome file works room ≡ refusal_at refusal.Room place → ⊥
