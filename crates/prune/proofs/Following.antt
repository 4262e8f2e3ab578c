-- Names followed: the queue grows by the definitions of the names that get a stamp, and in the end every body is followed.
use Prim.Native.Nat.{ℕ, ◌+◌, ◌-◌, ◌≤◌, ◌<◌}
use native.Mathlib.Omega.{arith}
use mathlib.Core.Path.{◌≡◌, refl, sym, ◌∙◌, ap, subst}
use mathlib.Core.Logic.{inl, inr, ⊎_elim}
use mathlib.Core.List.{List, [], ◌∷◌, Memᴰ}
use lib.Dec.{T, eqb, not_T, eqb→eq}
use lib.ListN.{length, set}
use lib.Seq.{get_or-set_same, get_or-set_other}
use borrow.Author.Tests.{eq-eqb, ne_eqb}
use Rattle.model.specs.Lists.{fold_left}
use Rattle.model.specs.Reading.{most_names}
use Rattle.model.proofs.ListLaws.{T_dec, T_true, T_false, true_T}
use Rattle.words.specs.Slices.{SameBut}
use Rattle.words.proofs.Slices.{same_then, same_wider, same_set}
use Rattle.terms.proofs.Laws.{equal}
use Rattle.records.specs.Columns.{taken_at}
use Rattle.records.specs.States.{uses_at}
use Rattle.macros.specs.Macros.{is_def}
use Rattle.firing.proofs.Numbers.{count_some, count_less}
use Rattle.prune.specs.Listing.{followed_stamp}
use Rattle.prune.specs.Follow.{body_at, StampsGrown, StampsClosed}
use Rattle.prune.specs.Loops.{stamp_column, queue_column, stamp_of, Queue, queue, queued, queue_def, follow_name, follow_names, QueueOf, Noted, unnoted, QueueRoom, QueueNoted}
use Rattle.prune.proofs.Queueing.{Put, put_def, put_stamp, holds_in, holds_def}

-- a name gets the stamp of the names that bodies add
abbrev pub marked : Queue → ℕ → Queue
marked q n = queue (set q.run (stamp_column + n) followed_stamp) q.to

module _ (names recs : List ℕ) where
  -- a name with a stamp is not followed again
  pub follow_old : (q : Queue) (n : ℕ) → (stamp_of q.run n ≡ 0 → ⊥) → follow_name names recs q n ≡ q
  unfolding follow_name
  follow_old q n d = rw (ne_eqb (stamp_of q.run n) 0 d)

  -- one without is
  pub follow_new : (q : Queue) (n : ℕ) → stamp_of q.run n ≡ 0
      → follow_name names recs q n ≡ queue_def names recs (marked q n) n
  unfolding follow_name
  follow_new q n e = rw (eq-eqb (stamp_of q.run n) 0 e)

  pub follow_nil : (q : Queue) → follow_names names recs q [] ≡ q
  unfolding follow_names fold_left
  follow_nil q = refl

  pub follow_cons : (q : Queue) (n : ℕ) (ns : List ℕ)
      → follow_names names recs q (n ∷ ns) ≡ follow_names names recs (follow_name names recs q n) ns
  unfolding follow_names fold_left
  follow_cons q n ns = refl

-- ---- one name that has no stamp

-- it is marked
mark_same : (w : List ℕ) (n : ℕ) → n < most_names
    → SameBut stamp_column (most_names + most_names) w (set w (stamp_column + n) followed_stamp)
mark_same w n h =
    same_set stamp_column (most_names + most_names) w (stamp_column + n) followed_stamp (omega arith) (omega arith)

-- it has room in the queue
pub place : {q : Queue} → QueueRoom q → {n : ℕ} → n < most_names → stamp_of q.run n ≡ 0 → q.to < most_names
unfolding unnoted
place {q} room {n} small e =
    let h = room.fits in
    let s = count_some (λ m. eqb (stamp_of q.run m) 0) most_names n small (true_T (eq-eqb (stamp_of q.run n) 0 e)) in
    omega arith

module _ (names recs : List ℕ) {q : Queue} (room : QueueRoom q) {n : ℕ} (small : n < most_names) where
  module _ (bare : stamp_of q.run n ≡ 0) where
    abbrev next : Queue
    next = queue_def names recs (marked q n) n

    put : Put (marked q n) next
    put = put_def names recs (marked q n) n (place room small bare)

    -- its stamp, and those of the others
    own_stamp : stamp_of next.run n ≡ followed_stamp
    own_stamp =
        let r = room.long in
        put_stamp put n small ∙ get_or-set_same q.run (stamp_column + n) followed_stamp 0 (omega arith)

    other_stamp : (m : ℕ) → m < most_names → (m ≡ n → ⊥) → stamp_of next.run m ≡ stamp_of q.run m
    other_stamp m h d =
        put_stamp put m h
        ∙ get_or-set_other q.run (stamp_column + n) (stamp_column + m) followed_stamp 0 (λ e. d (omega arith))

    -- the places of the queue stay
    mark_place : (p : ℕ) → p < q.to → queued (marked q n).run p ≡ queued q.run p
    mark_place p h = get_or-set_other q.run (stamp_column + n) (queue_column + p) followed_stamp 0 (λ e. omega arith)

    -- the other words stay
    new_same : SameBut stamp_column (most_names + most_names) q.run next.run
    new_same =
        same_then (mark_same q.run n small)
        (same_wider stamp_column (most_names + most_names) (omega arith) (omega arith) put.same)

    -- one name fewer has no stamp
    new_room : QueueRoom next
    unfolding unnoted
    new_room =
        let h = room.fits in
        let l = room.long in
        let s = new_same.same_length in
        let most = put.most in
        let fewer = count_less (λ m. eqb (stamp_of q.run m) 0) (λ m. eqb (stamp_of next.run m) 0) most_names n small
        (true_T (eq-eqb (stamp_of q.run n) 0 bare))
        (not_T (eqb (stamp_of next.run n) 0)
        (λ t. let z = eqb→eq (stamp_of next.run n) 0 t in let o = own_stamp in omega arith))
        (λ m g d. ap (λ (x : ℕ). eqb x 0) (other_stamp m g d)) in
        record { fits = omega arith; long = omega arith }

  -- room stays
  pub room_next : QueueRoom (follow_name names recs q n)
  room_next =
      ⊎_elim (λ e. rw (follow_new names recs q n e) (new_room e)) (λ d. rw (follow_old names recs q n d) room)
      (equal (stamp_of q.run n) 0)

  -- the slice is as long
  follow_length : length (follow_name names recs q n).run ≡ length q.run
  follow_length =
      ⊎_elim (λ e. rw (follow_new names recs q n e) (new_same e).same_length) (λ d. rw (follow_old names recs q n d))
      (equal (stamp_of q.run n) 0)

  pub next_length : {v : List ℕ} {to : ℕ} → queue v to ≡ follow_name names recs q n → length v ≡ length q.run
  next_length e = ap (λ (x : Queue). length x.run) e ∙ follow_length

-- ---- what stays when the queue grows

-- a queue grown from another: stamps and places stay
pub record Later (q v : Queue) : Type 0 where
  pub more : q.to ≤ v.to
  pub stays : (m : ℕ) → m < most_names → 0 < stamp_of q.run m → stamp_of v.run m ≡ stamp_of q.run m
  pub keeps : (p : ℕ) → p < q.to → queued v.run p ≡ queued q.run p

later_self : (q : Queue) → Later q q
later_self q = record { more = omega arith; stays = λ m h l. refl; keeps = λ p h. refl }

later_then : {q v u : Queue} → Later q v → Later v u → Later q u
later_then l m =
    let a = l.more in
    let b = m.more in
    record {
      more = omega arith;
      stays = λ n h p. let e = l.stays n h p in m.stays n h (omega arith) ∙ e;
      keeps = λ p h. m.keeps p (omega arith) ∙ l.keeps p h;
    }

-- a name stays noted
still_noted : {q v : Queue} → Later q v → (m : ℕ) → m < most_names → 0 < stamp_of q.run m → 0 < stamp_of v.run m
still_noted l m h p = let e = l.stays m h p in omega arith

module _ (names recs : List ℕ) {q : Queue} (room : QueueRoom q) {n : ℕ} (small : n < most_names) where
  new_later : (e : stamp_of q.run n ≡ 0) → Later q (queue_def names recs (marked q n) n)
  new_later e =
      let p : Put (marked q n) (queue_def names recs (marked q n) n) = put names recs room small e in
      let more = p.more in
      record {
        more = omega arith;
        stays = λ m h l. other_stamp names recs room small e m h
            (λ d. let z : stamp_of q.run n ≡ stamp_of q.run m = ap (stamp_of q.run) (sym d) in omega arith);
        keeps = λ i h. p.keeps i h ∙ mark_place names recs room small e i h;
      }

  later_next : Later q (follow_name names recs q n)
  later_next =
      ⊎_elim (λ e. rw (follow_new names recs q n e) (new_later e)) (λ d. rw (follow_old names recs q n d) (later_self q))
      (equal (stamp_of q.run n) 0)

  -- the name has a stamp then
  stamped_next : 0 < stamp_of (follow_name names recs q n).run n
  stamped_next =
      ⊎_elim (λ e. rw (follow_new names recs q n e) (let o = own_stamp names recs room small e in omega arith))
      (λ d. rw (follow_old names recs q n d) (omega (arith, d))) (equal (stamp_of q.run n) 0)

-- ---- what has been followed from the stamps of a slice

-- the queue holds the definitions of the names with a stamp, and those added are of bodies of names with a stamp
pub record Following (names recs lists : List ℕ) (named : ℕ) (w₀ : List ℕ) (q : Queue) : Type 0 where
  pub room : QueueRoom q
  pub same : SameBut stamp_column (most_names + most_names) w₀ q.run
  pub holds : QueueOf names recs (Noted named q.run) q
  pub grown : StampsGrown named (body_at names recs lists) (stamp_of w₀) (stamp_of q.run)

-- names followed one after the other: the queue grows, and all of them have a stamp then
pub record FollowedAll (names recs lists : List ℕ) (named : ℕ) (w₀ : List ℕ) (q : Queue) (ns : List ℕ)
    (v : Queue) : Type 0 where
  pub following : Following names recs lists named w₀ v
  pub later : Later q v
  pub all_noted : (m : ℕ) → Memᴰ m ns → 0 < stamp_of v.run m

-- the body of a name's definition
pub body_is : (names recs lists : List ℕ) (n : ℕ) {i : ℕ} → T (is_def recs (taken_at names n)) → i ≡ taken_at names n - 1
    → body_at names recs lists n ≡ uses_at recs lists i
unfolding body_at
body_is names recs lists n t e = rw (T_true (is_def recs (taken_at names n)) t, ← e)

-- a name with a body has a definition
pub body_def : (names recs lists : List ℕ) (n : ℕ) {x : ℕ} → Memᴰ x (body_at names recs lists n)
    → T (is_def recs (taken_at names n))
unfolding body_at
body_def names recs lists n i =
    ⊎_elim (λ t. t) (λ t. absurd (mathlib.Core.List.Memᴰ.not-nil (rw (T_false (is_def recs (taken_at names n)) t) at i)))
    (T_dec (is_def recs (taken_at names n)))

module _ {names recs lists : List ℕ} {named : ℕ} (few : named ≤ most_names) {w₀ : List ℕ} where
  following_start : {q : Queue} → QueueNoted names recs named w₀ q → Following names recs lists named w₀ q
  following_start {q} f =
      let still : (n : ℕ) → n < named → stamp_of q.run n ≡ stamp_of w₀ n = λ n h.
      f.same.same_words (stamp_column + n) (λ a b. omega arith) in
      record {
        room = f.room;
        same = same_wider stamp_column (most_names + most_names) (omega arith) (omega arith) f.same;
        holds = f.holds;
        grown = record {
          old = λ n h l. still n h;
          new = λ n h e l. absurd (let s = still n h in omega arith);
          least = λ has start on n h l. start n h (let s = still n h in omega arith);
        };
      }

  -- a name of the body of a name with a stamp that has none
  following_new : {q : Queue} → Following names recs lists named w₀ q → {n m : ℕ} → n < named → 0 < stamp_of q.run n
      → m < named → Memᴰ m (body_at names recs lists n) → stamp_of q.run m ≡ 0
      → Following names recs lists named w₀ (queue_def names recs (marked q m) m)
  following_new {q} f {n} {m} h l i j e =
      let r = f.room in
      let small : m < most_names = omega arith in
      let long = r.long in
      let v : Queue = queue_def names recs (marked q m) m in
      let same : SameBut stamp_column (most_names + most_names) q.run v.run = new_same names recs r small e in
      let own : stamp_of v.run m ≡ followed_stamp = own_stamp names recs r small e in
      let other : (k : ℕ) → k < named → (k ≡ m → ⊥) → stamp_of v.run k ≡ stamp_of q.run k = λ k g y.
      other_stamp names recs r small e k (omega arith) y in
      let size = (mark_same q.run m small).same_length in
      record {
        room = new_room names recs r small e;
        same = same_then f.same same;
        holds = holds_def names recs (holds_in names recs f.holds (marked q m).run (mark_place names recs r small e))
            (λ k c. let a = c.0 in let b = c.1 in
            (c.0, let s = other k c.0 (λ y. let x = ap (stamp_of q.run) y in omega arith) in omega arith))
            m (i, omega arith)
            (λ k c. ⊎_elim
            (λ (y : k ≡ m). inl y)
            (λ (y : k ≡ m → ⊥). let s = other k c.0 y in let b = c.1 in inr (c.0, omega arith))
            (equal k m))
            (omega arith) (place r small e);
        grown = record {
          old = λ k g z.
              let o = f.grown.old k g z in
              other k g (λ y. let x : stamp_of q.run k ≡ stamp_of q.run m = ap (stamp_of q.run) y in omega arith) ∙ o;
          new = λ k g z o. ⊎_elim
              (λ (y : k ≡ m). ap (stamp_of v.run) y ∙ own)
              (λ (y : k ≡ m → ⊥). let s = other k g y in s ∙ f.grown.new k g z (omega arith))
              (equal k m);
          least = λ has start on k g z. ⊎_elim
              (λ (y : k ≡ m). subst (λ (x : ℕ). T (has x)) (sym y) (on n m h (f.grown.least has start on n h l) j))
              (λ (y : k ≡ m → ⊥). let s = other k g y in f.grown.least has start on k g (omega arith))
              (equal k m);
        };
      }

  -- followed, whether it has a stamp or not
  following_next : {q : Queue} → Following names recs lists named w₀ q → {n m : ℕ} → n < named → 0 < stamp_of q.run n
      → m < named → Memᴰ m (body_at names recs lists n) → Following names recs lists named w₀ (follow_name names recs q m)
  following_next {q} f {n} {m} h l i j =
      ⊎_elim (λ e. rw (follow_new names recs q m e) (following_new f h l i j e)) (λ d. rw (follow_old names recs q m d) f)
      (equal (stamp_of q.run m) 0)

  -- names of a body
  followed_all : (n : ℕ) → n < named → (ns : List ℕ)
      → ((m : ℕ) → Memᴰ m ns → (m < named) × Memᴰ m (body_at names recs lists n))
      → (q : Queue) → Following names recs lists named w₀ q → 0 < stamp_of q.run n
      → FollowedAll names recs lists named w₀ q ns (follow_names names recs q ns)
  followed_all n h [] in_Body q f l =
      rw (follow_nil names recs q)
      (record { following = f; later = later_self q; all_noted = λ m i. absurd (mathlib.Core.List.Memᴰ.not-nil i) })
  followed_all n h (m ∷ ns) in_Body q f l =
      let (i, j) = in_Body m (mathlib.Core.List.Memᴰ.head refl) in
      let small : m < most_names = omega arith in
      let step : Later q (follow_name names recs q m) = later_next names recs f.room small in
      let rest = followed_all n h ns (λ k g. in_Body k (mathlib.Core.List.Memᴰ.tail g)) (follow_name names recs q m)
      (following_next f h l i j) (still_noted step n (omega arith) l) in
      rw (follow_cons names recs q m ns)
      (record {
        following = rest.following;
        later = later_then step rest.later;
        all_noted = λ k g. ⊎_elim
            (λ (y : k ≡ m). let z = still_noted rest.later m small (stamped_next names recs f.room small) in
            let x = ap (stamp_of (follow_names names recs (follow_name names recs q m) ns).run) y in omega arith)
            (rest.all_noted k) (mathlib.Core.List.Memᴰ.cases_cons g);
      })

-- ---- the queue worked off

-- the bodies of the first j definitions of the queue are followed
pub record QueueTo (names recs lists : List ℕ) (named : ℕ) (w₀ w : List ℕ) (to j : ℕ) : Type 0 where
  pub following : Following names recs lists named w₀ (queue w to)
  pub done : (p : ℕ) → p < j → (x : ℕ) → Memᴰ x (uses_at recs lists (queued w p)) → 0 < stamp_of w x

module _ {names recs lists : List ℕ} {named : ℕ} {w₀ : List ℕ} (few : named ≤ most_names)
    (small : (n x : ℕ) → n < named → Memᴰ x (body_at names recs lists n) → x < named) where
  pub queue_start : {w : List ℕ} {to : ℕ} → QueueNoted names recs named w₀ (queue w to)
      → QueueTo names recs lists named w₀ w to 0
  queue_start f = record { following = following_start few f; done = λ p g. absurd (omega arith) }

  module _ {w : List ℕ} {to j : ℕ} (f : QueueTo names recs lists named w₀ w to j) where
    -- a name of the body of a definition on the queue is one of the table
    queued_small : (p x : ℕ) → p < to → Memᴰ x (uses_at recs lists (queued w p)) → x < named
    queued_small p x h i =
        let (n, c, d, e) = f.following.holds.only p h in
        small n x c.0 (subst (λ (l : List ℕ). Memᴰ x l) (sym (body_is names recs lists n d e)) i)

    pub queue_next : {v : List ℕ} {next i : ℕ} → j < to → i ≡ queued w j
        → queue v next ≡ follow_names names recs (queue w to) (uses_at recs lists i)
        → QueueTo names recs lists named w₀ v next (j + 1)
    queue_next {v} {next} {i} h e q =
        let (n, c, d, z) = f.following.holds.only j h in
        let same : body_at names recs lists n ≡ uses_at recs lists i = body_is names recs lists n d (e ∙ z) in
        let p : FollowedAll names recs lists named w₀ (queue w to) (uses_at recs lists i) (queue v next) =
        rw q (followed_all few n c.0 (uses_at recs lists i)
        (λ m k.
        let b : Memᴰ m (body_at names recs lists n) = subst (λ (l : List ℕ). Memᴰ m l) (sym same) k in
        (small n m c.0 b, b))
        (queue w to) f.following c.1) in
        record {
          following = p.following;
          done = λ m g x k.
              let stays : queued v m ≡ queued w m = p.later.keeps m (omega arith) in
              ⊎_elim
              (λ (y : m ≡ j).
              p.all_noted x (subst (λ (z : ℕ). Memᴰ x (uses_at recs lists z)) (stays ∙ ap (queued w) y ∙ sym e) k))
              (λ (y : m ≡ j → ⊥).
              let b : Memᴰ x (uses_at recs lists (queued w m)) =
              subst (λ (z : ℕ). Memᴰ x (uses_at recs lists z)) stays k in
              let s = queued_small m x (omega arith) b in
              still_noted p.later x (omega arith) (f.done m (omega (arith, y)) x b))
              (equal m j);
        }

    -- all is followed
    pub queue_end : to ≤ j → StampsClosed named (body_at names recs lists) (stamp_of w₀) (stamp_of w)
    queue_end h = record {
      grown = f.following.grown;
      closed = λ n m g l i.
          let d = body_def names recs lists n i in
          let (p, b, c) = f.following.holds.each n (g, l) d in
          f.done p (omega arith) m (subst (λ (l : List ℕ). Memᴰ m l) (body_is names recs lists n d c) i);
    }
