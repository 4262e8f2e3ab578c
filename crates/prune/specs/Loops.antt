-- What the loops of `prune` leave in the run's slice.
use Rattle.std.specs.Prelude.{ℕ, ◌+◌, ◌-◌, ◌≤◌, ◌<◌, ◌≡◌, cond, List, [], ◌∷◌, map, T, eqb, length, get_or, set}
use Rattle.std.proofs.lemmas.List.Edits.{sets}
use Rattle.model.specs.Lists.{count, fold_left, part}
use Rattle.model.specs.Reading.{most_names, most_records}
use Rattle.model.specs.Outcome.{working_words}
use Rattle.model.specs.declared.Asked.{Asked}
use Rattle.model.specs.declared.Counts.{Counts}
use Rattle.names.specs.Table.{ranked}
use Rattle.words.specs.Slices.{SameBut}
use Rattle.records.specs.Columns.{taken_at, ask_room}
use Rattle.records.specs.States.{uses_at}
use Rattle.records.specs.Filing.{Records, newest}
use Rattle.macros.specs.Macros.{is_def}
use Rattle.firing.specs.declared.tables.RecordTables.{RecordTables}
use Rattle.firing.specs.Held.{upto}
use Rattle.firing.specs.Met.{marks}
use Rattle.prune.specs.Listing.{most_stamps, fact_records, followed_stamp, kept_records}
use Rattle.prune.specs.Follow.{body_at, StampsClosed, Stamped}

-- the columns behind those of the run: the kept list; by rank, the next lower rank of the same stamp, and one; by stamp,
-- counted from 0, its highest rank and one; by name, its stamp; the queue of the definitions whose bodies are followed, and
-- after it the records of the names that bodies add; and how many words they have
abbrev pub kept_column : ℕ
kept_column = 5120

abbrev pub below_column : ℕ
below_column = 6144

abbrev pub highest_column : ℕ
highest_column = 8192

abbrev pub stamp_column : ℕ
stamp_column = 10240

abbrev pub queue_column : ℕ
queue_column = 12288

abbrev pub prune_room : ℕ
prune_room = 9216

-- the stamp of a name, as it stands in the slice
abbrev pub stamp_of : List ℕ → ℕ → ℕ
stamp_of run n = get_or run (stamp_column + n) 0

-- that of the name of a rank
abbrev pub stamp_in : List ℕ → List ℕ → ℕ → ℕ
stamp_in names run r = stamp_of run (ranked names r)

-- the words of the stamps of a record's free names
unfoldable pub stamp_words : List ℕ → List ℕ → ℕ → List ℕ
stamp_words recs lists i = map (λ n. stamp_column + n) (uses_at recs lists i)

-- the index and the takers are in range
pub record Index (names : List ℕ) (named : ℕ) : Type 0 where
  pub room : working_words ≤ length names
  pub few : named ≤ most_names
  pub numbers : (r : ℕ) → r < named → ranked names r < named
  pub takers : (n : ℕ) → n < named → taken_at names n ≤ most_records

-- those of the tables that are lent
abbrev pub IsIndexed : RecordTables → Type 0
IsIndexed t = Index t.names.now t.k.names

-- records written behind the first m of a column
pub record Behind (column : ℕ) (w : List ℕ) (m : ℕ) (l : List ℕ) (v : List ℕ) (to : ℕ) : Type 0 where
  pub written : v ≡ sets w (column + m) l
  pub count : to ≡ m + length l

-- behind the first m of the kept list
abbrev pub KeptBehind : List ℕ → ℕ → List ℕ → List ℕ → ℕ → Type 0
KeptBehind w m l v to = Behind kept_column w m l v to

-- words marked list after list, each with the place of the first list that has it, counted from s
unfoldable pub noted : ℕ → List ℕ → List (List ℕ) → List ℕ
noted s w [] = w
noted s w (ns ∷ nss) = noted (s + 1) (marks s w ns) nss

-- what noting asks of the tables
pub record Notes (recs lists run : List ℕ) (k : Counts) : Type 0 where
  pub recorded : Records recs lists k.names k.records k.entries k.uses
  pub few : k.names ≤ most_names
  pub room : working_words ≤ length run

-- the ranks of each stamp of an item stand on its chain, highest first
pub record Linked (stamp : ℕ → ℕ) (named : ℕ) (run : List ℕ) : Type 0 where
  pub last : (s : ℕ) → s < most_stamps → get_or run (highest_column + s) 0 ≡ newest stamp (s + 1) named
  pub below : (r : ℕ) → r < named → 0 < stamp r → stamp r ≤ most_stamps → get_or run (below_column + r) 0 ≡ newest stamp (stamp r) r

-- the ranks put on the chains of their stamps
pub record Links (names before after : List ℕ) (named : ℕ) : Type 0 where
  pub linked : Linked (stamp_in names before) named after
  pub same : SameBut below_column (most_names + most_stamps) before after

-- a slice with its queue, which ends at a place
pub record Queue : Type 0 where
  pub run : List ℕ
  pub to : ℕ

abbrev pub queue : List ℕ → ℕ → Queue
queue w to = record { run = w; to = to }

-- the record at a place of the queue
abbrev pub queued : List ℕ → ℕ → ℕ
queued w p = get_or w (queue_column + p) 0

module _ (names recs : List ℕ) where
  -- the definition of a name, if it has one, put behind the queue
  unfoldable pub queue_def : Queue → ℕ → Queue
  queue_def q n =
      cond (is_def recs (taken_at names n)) (queue (set q.run (queue_column + q.to) (taken_at names n - 1)) (q.to + 1)) q

  -- a name that has no stamp followed: it gets that of the names that bodies add, and its definition stands behind the queue
  unfoldable pub follow_name : Queue → ℕ → Queue
  follow_name q n =
      cond (eqb (stamp_of q.run n) 0) (queue_def (queue (set q.run (stamp_column + n) followed_stamp) q.to) n) q

  -- names followed one after the other
  unfoldable pub follow_names : Queue → List ℕ → Queue
  follow_names q ns = fold_left follow_name q ns

  -- the queue holds the definitions of certain names, and nothing else
  pub record QueueOf (certain : ℕ → Type 0) (q : Queue) : Type 0 where
    pub each : (n : ℕ) → certain n → T (is_def recs (taken_at names n))
        → (p : ℕ) × (p < q.to) × (queued q.run p ≡ taken_at names n - 1)
    pub only : (p : ℕ) → p < q.to
        → (n : ℕ) × certain n × T (is_def recs (taken_at names n)) × (queued q.run p ≡ taken_at names n - 1)

-- a name whose taker can be looked up
pub record Readable (names recs : List ℕ) (n : ℕ) : Type 0 where
  pub room : working_words ≤ length names
  pub rows : working_words ≤ length recs
  pub low : n < most_names
  pub took : taken_at names n ≤ most_records

-- a name of the first so many that has a stamp
abbrev pub Noted : ℕ → List ℕ → ℕ → Type 0
Noted named w n = (n < named) × (0 < stamp_of w n)

-- how many names have no stamp
unfoldable pub unnoted : List ℕ → ℕ
unnoted w = count (λ n. eqb (stamp_of w n) 0) (upto most_names)

-- the queue has room for the names without a stamp
pub record QueueRoom (q : Queue) : Type 0 where
  pub fits : q.to + unnoted q.run ≤ most_names
  pub long : working_words ≤ length q.run

-- the definitions of the names with a stamp put on the queue
pub record QueueNoted (names recs : List ℕ) (named : ℕ) (before : List ℕ) (q : Queue) : Type 0 where
  pub holds : QueueOf names recs (Noted named q.run) q
  pub room : QueueRoom q
  pub same : SameBut queue_column most_names before q.run

-- what following asks of the tables
pub record Bodies (names recs lists : List ℕ) (k : Counts) : Type 0 where
  pub room : working_words ≤ length names
  pub few : k.names ≤ most_names
  pub took : (n : ℕ) → n < k.names → taken_at names n ≤ k.records
  pub recorded : Records recs lists k.names k.records k.entries k.uses

-- bodies followed from the stamps in the slice
pub record StampsFollowed (names recs lists : List ℕ) (k : Counts) (before after : List ℕ) : Type 0 where
  pub follows : StampsClosed k.names (body_at names recs lists) (stamp_of before) (stamp_of after)
  pub same : SameBut stamp_column (most_names + most_names) before after

-- the first records in the column of the queue
abbrev pub queue_part : List ℕ → ℕ → List ℕ
queue_part w count = part w queue_column (queue_column + count)

-- they are records
pub record QueueRecords (w : List ℕ) (count : ℕ) : Type 0 where
  pub few : count ≤ most_names
  pub low : (j : ℕ) → j < count → queued w j < most_records

-- what listing the kept records asks: tables in range, and room whatever the stamps of the ask
pub record Listable (names recs lists run : List ℕ) (k : Counts) (a : Asked) : Type 0 where
  pub index : Index names k.names
  pub took : (n : ℕ) → n < k.names → taken_at names n ≤ k.records
  pub notes : Notes recs lists run k
  pub asked : a.end ≤ ask_room
  pub few_facts : length (fact_records names recs run k a) ≤ most_records
  pub fits : (stamp : ℕ → ℕ) → Stamped names recs lists run k a stamp → length (kept_records names recs run k a stamp) ≤ most_records

-- the kept records stand in the slice, so many, by the stamps of the ask
pub record RecordsListed (names recs lists before after : List ℕ) (k : Counts) (a : Asked) (to : ℕ) : Type 0 where
  pub stamp : ℕ → ℕ
  pub stamped : Stamped names recs lists before k a stamp
  pub records : part after kept_column (kept_column + to) ≡ kept_records names recs before k a stamp
  pub count : to ≡ length (kept_records names recs before k a stamp)
  pub same : SameBut kept_column prune_room before after
