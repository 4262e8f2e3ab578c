-- The body of a definition in the tables, and its names followed.
use Prim.Native.Nat.{ℕ, ◌+◌, ◌-◌, ◌≤◌, ◌<◌}
use native.Mathlib.Omega.{arith}
use mathlib.Core.Path.{◌≡◌, refl, sym, ◌∙◌, ap, subst}
use mathlib.Core.List.{List, Memᴰ}
use lib.Dec.{T}
use lib.ListN.{length, get_or}
use Rattle.model.specs.Lists.{part}
use Rattle.model.specs.declared.Counts.{Counts}
use Rattle.model.proofs.PartLaws.{part_cons, part_nil}
use Rattle.records.specs.Columns.{uses_start, uses_end, taken_at}
use Rattle.records.specs.States.{uses_at}
use Rattle.macros.specs.Macros.{is_def}
use Rattle.prune.specs.Follow.{body_at}
use Rattle.prune.specs.Loops.{Notes, queue, queued, follow_name, follow_names, Readable, QueueRoom, Bodies}
use Rattle.prune.proofs.Noting.{uses_small, uses_place}
use Rattle.prune.proofs.Queueing.{def_is}
use Rattle.prune.proofs.Following.{follow_nil, follow_cons, room_next, next_length, body_is, body_def, QueueTo}

module _ {names recs lists : List ℕ} {k : Counts} (b : Bodies names recs lists k) where
  -- the definition of a name is a record
  def_record : {n : ℕ} → n < k.names → T (is_def recs (taken_at names n)) → taken_at names n - 1 < k.records
  def_record {n} h t = let a = (def_is recs (taken_at names n) t).0 in let c = b.took n h in omega arith

  -- the names free in a body are names of the table
  pub body_small : (n x : ℕ) → n < k.names → Memᴰ x (body_at names recs lists n) → x < k.names
  body_small n x h i =
      let t = body_def names recs lists n i in
      uses_small b.recorded (def_record h t) (subst (λ (l : List ℕ). Memᴰ x l) (body_is names recs lists n t refl) i)

  -- the taker of a name of the table can be looked up
  pub readable : (n : ℕ) → n < k.names → Readable names recs n
  readable n h =
      let c = b.few in
      let d = b.recorded.few in
      let t = b.took n h in
      record { room = b.room; rows = b.recorded.room; low = omega arith; took = omega arith }

  -- the definitions of the queue are records
  pub queued_record : {w₀ w : List ℕ} {to j i : ℕ} → QueueTo names recs lists k.names w₀ w to j → j < to → i ≡ queued w j
      → i < k.records
  queued_record {j = j} f h e =
      let (n, c, d, z) = f.following.holds.only j h in
      let r = def_record c.0 d in
      omega arith

-- the names from place j up to e are left
pub record BodyTo (names recs lists w₀ : List ℕ) (m a e : ℕ) (w : List ℕ) (to j : ℕ) : Type 0 where
  pub low : a ≤ j
  pub high : j ≤ e
  pub room : QueueRoom (queue w to)
  pub same_length : length w ≡ length w₀
  pub left : follow_names names recs (queue w₀ m) (part lists a e) ≡ follow_names names recs (queue w to) (part lists j e)

module _ {names recs lists : List ℕ} {k : Counts} (b : Bodies names recs lists k) {i : ℕ} (h : i < k.records) {a e : ℕ}
    (x : a ≡ uses_start recs i) (y : e ≡ uses_end recs i) {w₀ : List ℕ} {m : ℕ} (start : QueueRoom (queue w₀ m)) where
  place : (a ≤ e) × (e ≤ length lists)
  place =
      let n : Notes recs lists w₀ k = record { recorded = b.recorded; few = b.few; room = start.long } in
      uses_place n h x y

  pub names_fit : e ≤ length lists
  names_fit = place.1

  pub body_start : BodyTo names recs lists w₀ m a e w₀ m a
  body_start = record { low = omega arith; high = place.0; room = start; same_length = refl; left = refl }

  -- a name of the body
  pub body_name : {j n : ℕ} → j < e → n ≡ get_or lists j 0 → Readable names recs n
  body_name {j} {n} l q =
      let low = b.recorded.uses_in i h in
      let s = b.recorded.use_words j (omega arith) in
      readable b n (omega arith)

  module _ {w : List ℕ} {to j : ℕ} (g : BodyTo names recs lists w₀ m a e w to j) where
    pub body_next : {v : List ℕ} {next n : ℕ} → j < e → n ≡ get_or lists j 0
        → queue v next ≡ follow_name names recs (queue w to) n → BodyTo names recs lists w₀ m a e v next (j + 1)
    body_next {v} {next} {n} l q r =
        let low = g.low in
        let small = (body_name l q).low in
        record {
          low = omega arith;
          high = omega arith;
          room = rw r (room_next names recs g.room small);
          same_length = next_length names recs g.room small r ∙ g.same_length;
          left = g.left ∙ rw (part_cons lists j e l names_fit, follow_cons, ← q, ← r);
        }

    pub body_end : e ≤ j → queue w to ≡ follow_names names recs (queue w₀ m) (uses_at recs lists i)
    body_end l =
        sym (ap (follow_names names recs (queue w₀ m)) (rw (x, y)) ∙ g.left
        ∙ ap (follow_names names recs (queue w to)) (part_nil lists j e l) ∙ follow_nil names recs (queue w to))
