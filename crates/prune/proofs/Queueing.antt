-- The definition of a name put behind the queue, and so those of all names with a stamp.
use Prim.Native.Nat.{ℕ, zero, suc, ◌+◌, ◌-◌, ◌≤◌, ◌<◌}
use native.Mathlib.Numerals.{add-one}
use native.Mathlib.Omega.{arith}
use mathlib.Core.Path.{◌≡◌, refl, sym, ◌∙◌, ap, subst}
use mathlib.Core.Bool.{Bool, true, false, cond, not}
use mathlib.Core.Logic.{◌⊎◌, inl, inr, ⊎_elim}
use mathlib.Core.List.{List}
use lib.Dec.{T, T_not, eqb, ltb, ltb→lt, eqb→eq}
use lib.ListN.{length, set}
use lib.Seq.{get_or-set_same, get_or-set_other}
use borrow.Author.Tests.{eq-eqb, ne_eqb}
use Rattle.model.specs.Lists.{count}
use Rattle.model.specs.Reading.{most_names}
use Rattle.model.specs.Outcome.{working_words}
use Rattle.model.proofs.ListLaws.{T_and, T_dec, T_true, T_false, true_T, count_cong}
use Rattle.words.specs.Slices.{SameBut}
use Rattle.words.proofs.Slices.{same_self, same_then, same_set}
use Rattle.terms.proofs.Laws.{equal}
use Rattle.records.specs.Columns.{record_kind, def_kind, taken_at}
use Rattle.macros.specs.Macros.{is_def}
use Rattle.firing.specs.Held.{upto}
use Rattle.firing.proofs.Numbers.{upto_elim}
use Rattle.prune.specs.Loops.{stamp_column, queue_column, stamp_of, Queue, queue, queued, queue_def, QueueOf, Noted, unnoted, QueueNoted}

-- a word of the taken column that is that of a def
pub def_is : (recs : List ℕ) (t : ℕ) → T (is_def recs t) → (0 < t) × (record_kind recs (t - 1) ≡ def_kind)
unfolding is_def
def_is recs t u =
    let (a, b) = (T_and (ltb 0 t) (eqb (record_kind recs (t - 1)) def_kind)).0 u in
    (ltb→lt 0 t a, eqb→eq (record_kind recs (t - 1)) def_kind b)

-- a record put behind the queue
abbrev pushed : Queue → ℕ → Queue
pushed q i = queue (set q.run (queue_column + q.to) i) (q.to + 1)

-- ---- what a look at a name's taker comes to

module _ (names recs : List ℕ) (n : ℕ) {t : ℕ} (e : t ≡ taken_at names n) {d : Bool} (f : d ≡ is_def recs t) where
  -- no definition
  pub def_none : d ≡ false → (q : Queue) → q ≡ queue_def names recs q n
  unfolding queue_def
  def_none z q = rw (← e, ← f, z)

  -- one
  pub def_one : d ≡ true → (q : Queue) → pushed q (t - 1) ≡ queue_def names recs q n
  unfolding queue_def
  def_one z q = rw (← e, ← f, z)

-- its word of the taken column is not 0
pub def_taken : (recs : List ℕ) (t : ℕ) {d : Bool} → d ≡ is_def recs t → d ≡ true → 0 < t
def_taken recs t f z = (def_is recs t (true_T (sym f ∙ z))).0

-- ---- the queue before and after

-- at most one record more, and nothing else changes
pub record Put (q v : Queue) : Type 0 where
  pub more : q.to ≤ v.to
  pub most : v.to ≤ q.to + 1
  pub keeps : (p : ℕ) → p < q.to → queued v.run p ≡ queued q.run p
  pub same : SameBut queue_column most_names q.run v.run

-- the stamps stay
pub put_stamp : {q v : Queue} → Put q v → (m : ℕ) → m < most_names → stamp_of v.run m ≡ stamp_of q.run m
put_stamp p m h = p.same.same_words (stamp_column + m) (λ a b. omega arith)

module _ (names recs : List ℕ) where
  -- a definition, or none
  def_case : (P : Queue → Type 0) (q : Queue) (n : ℕ)
      → (T (is_def recs (taken_at names n)) → P (pushed q (taken_at names n - 1)))
      → (T (not (is_def recs (taken_at names n))) → P q) → P (queue_def names recs q n)
  unfolding queue_def
  def_case P q n one none =
      ⊎_elim (λ t. rw (T_true (is_def recs (taken_at names n)) t) (one t))
      (λ t. rw (T_false (is_def recs (taken_at names n)) t) (none t))
      (T_dec (is_def recs (taken_at names n)))

  pub put_def : (q : Queue) (n : ℕ) → q.to < most_names → Put q (queue_def names recs q n)
  put_def q n h = def_case (Put q) q n
      (λ t. record {
        more = omega arith;
        most = omega arith;
        keeps = λ p l.
            get_or-set_other q.run (queue_column + q.to) (queue_column + p) (taken_at names n - 1) 0 (λ e. omega arith);
        same =
            same_set queue_column most_names q.run (queue_column + q.to) (taken_at names n - 1) (omega arith) (omega arith);
      })
      (λ t. record {
        more = omega arith;
        most = omega arith;
        keeps = λ p l. refl;
        same = same_self queue_column most_names q.run;
      })

  -- ---- what the queue holds

  module _ {certain : ℕ → Type 0} {q : Queue} (f : QueueOf names recs certain q) where
    -- the same in another slice
    pub holds_in : (w : List ℕ) → ((p : ℕ) → p < q.to → queued w p ≡ queued q.run p)
        → QueueOf names recs certain (queue w q.to)
    holds_in w keeps = record {
      each = λ n c d. let (p, h, e) = f.each n c d in (p, h, keeps p h ∙ e);
      only = λ p h. let (n, c, d, e) = f.only p h in (n, c, d, keeps p h ∙ e);
    }

    module _ {certain' : ℕ → Type 0} (wider : (m : ℕ) → certain m → certain' m) where
      -- the same names said in other words
      pub holds_as : ((m : ℕ) → certain' m → certain m) → QueueOf names recs certain' q
      holds_as back = record {
        each = λ n c d. f.each n (back n c) d;
        only = λ p h. let (n, c, d, e) = f.only p h in (n, wider n c, d, e);
      }

      -- one name more
      pub holds_def : (n : ℕ) → certain' n → ((m : ℕ) → certain' m → (m ≡ n) ⊎ certain m)
          → working_words ≤ length q.run → q.to < most_names → QueueOf names recs certain' (queue_def names recs q n)
      holds_def n own split long room = def_case (QueueOf names recs certain') q n
          (λ t.
          let last : queued (pushed q (taken_at names n - 1)).run q.to ≡ taken_at names n - 1 =
          get_or-set_same q.run (queue_column + q.to) (taken_at names n - 1) 0 (omega arith) in
          let keeps : (p : ℕ) → p < q.to → queued (pushed q (taken_at names n - 1)).run p ≡ queued q.run p = λ p h.
          get_or-set_other q.run (queue_column + q.to) (queue_column + p) (taken_at names n - 1) 0 (λ e. omega arith) in
          record {
            each = λ m c d. ⊎_elim
                (λ (y : m ≡ n). (q.to, omega arith, last ∙ ap (λ (x : ℕ). taken_at names x - 1) (sym y)))
                (λ old. let (p, h, e) = f.each m old d in (p, omega arith, keeps p h ∙ e))
                (split m c);
            only = λ p h. ⊎_elim
                (λ (y : p ≡ q.to). (n, own, t, ap (queued (pushed q (taken_at names n - 1)).run) y ∙ last))
                (λ (y : p ≡ q.to → ⊥).
                let g : p < q.to = omega (arith, y) in
                let (m, c, d, e) = f.only p g in
                (m, wider m c, d, keeps p g ∙ e))
                (equal p q.to);
          })
          (λ t. record {
            each = λ m c d. ⊎_elim
                (λ (y : m ≡ n).
                absurd (T_not (is_def recs (taken_at names n)) t (subst (λ (x : ℕ). T (is_def recs (taken_at names x))) y d)))
                (λ old. f.each m old d)
                (split m c);
            only = λ p h. let (m, c, d, e) = f.only p h in (m, wider m c, d, e);
          })

-- ---- the names with a stamp, one after the other

-- names without a stamp
abbrev bare : List ℕ → ℕ → Bool
bare w n = eqb (stamp_of w n) 0

count_next : (p : ℕ → Bool) (n : ℕ) → count p (upto (n + 1)) ≡ cond (p n) (1 + count p (upto n)) (count p (upto n))
unfolding count upto
count_next p n = rw (add-one n)

-- at most all of the numbers from n on are counted
count_more : (p : ℕ → Bool) (n k : ℕ) → n ≤ k → count p (upto k) ≤ count p (upto n) + (k - n)
unfolding count upto
count_more p n zero h = let e : n ≡ 0 = omega arith in rw e (omega arith)
count_more p n (suc k) h = ⊎_elim
    (λ (e : n ≡ suc k). rw e (omega arith))
    (λ (d : n ≡ suc k → ⊥). go (p k) (count_more p n k (omega (arith, d))) (omega (arith, d)))
    (equal n (suc k))
  where
    go : (b : Bool) → count p (upto k) ≤ count p (upto n) + (k - n) → n ≤ k
        → cond b (1 + count p (upto k)) (count p (upto k)) ≤ count p (upto n) + (suc k - n)
    go true l g = omega arith
    go false l g = omega arith

-- the definitions of the names below n with a stamp are on the queue
pub record NotedTo (names recs : List ℕ) (named : ℕ) (w₀ w : List ℕ) (to n : ℕ) : Type 0 where
  pub high : n ≤ named
  pub same : SameBut queue_column most_names w₀ w
  pub room : to + count (bare w₀) (upto n) ≤ n
  pub holds : QueueOf names recs (Noted n w₀) (queue w to)

pub noted_start : (names recs : List ℕ) (named : ℕ) (w : List ℕ) → NotedTo names recs named w w 0 0
unfolding count upto
noted_start names recs named w = record {
  high = omega arith;
  same = same_self queue_column most_names w;
  room = omega arith;
  holds = record { each = λ n c d. absurd (let h = c.0 in omega arith); only = λ p h. absurd (omega arith) };
}

module _ {names recs : List ℕ} {named : ℕ} (few : named ≤ most_names) {w₀ w : List ℕ} {to n : ℕ}
    (f : NotedTo names recs named w₀ w to n) where
  stamp_still : (m : ℕ) → m < most_names → stamp_of w m ≡ stamp_of w₀ m
  stamp_still m h = f.same.same_words (stamp_column + m) (λ a b. omega arith)

  module _ (h : n < named) where
    pub noted_room : to < most_names
    noted_room = let r = f.room in omega arith

    -- a name without a stamp
    pub noted_skip : stamp_of w n ≡ 0 → NotedTo names recs named w₀ w to (n + 1)
    noted_skip e =
        let z : stamp_of w₀ n ≡ 0 = sym (stamp_still n (omega arith)) ∙ e in
        let r = f.room in
        let c : count (bare w₀) (upto (n + 1)) ≡ 1 + count (bare w₀) (upto n) =
        count_next (bare w₀) n ∙ rw (eq-eqb (stamp_of w₀ n) 0 z) in
        record {
          high = omega arith;
          same = f.same;
          room = omega arith;
          holds = holds_as names recs f.holds (λ m c. (let a = c.0 in omega arith, c.1))
              (λ m c.
              let a = c.0 in
              let b = c.1 in
              let d : m ≡ n → ⊥ = λ y. let x = ap (stamp_of w₀) y in omega arith in
              (omega (arith, d), b));
        }

    -- one with a stamp
    pub noted_put : {v : List ℕ} {next : ℕ} → working_words ≤ length w₀ → (stamp_of w n ≡ 0 → ⊥)
        → queue v next ≡ queue_def names recs (queue w to) n → NotedTo names recs named w₀ v next (n + 1)
    noted_put {v} {next} long d e =
        let s = stamp_still n (omega arith) in
        let z : stamp_of w₀ n ≡ 0 → ⊥ = λ y. d (s ∙ y) in
        let r = f.room in
        let size = f.same.same_length in
        let c : count (bare w₀) (upto (n + 1)) ≡ count (bare w₀) (upto n) =
        count_next (bare w₀) n ∙ rw (ne_eqb (stamp_of w₀ n) 0 z) in
        let p : Put (queue w to) (queue v next) = rw e (put_def names recs (queue w to) n noted_room) in
        let most = p.most in
        record {
          high = omega arith;
          same = same_then f.same p.same;
          room = omega arith;
          holds = rw e (holds_def names recs f.holds (λ m c. (let a = c.0 in omega arith, c.1)) n
              (omega arith, omega (arith, z))
              (λ m c. ⊎_elim
              (λ (y : m ≡ n). inl y)
              (λ (y : m ≡ n → ⊥). inr (let a = c.0 in omega (arith, y), c.1))
              (equal m n))
              (omega arith) noted_room);
        }

  pub noted_end : working_words ≤ length w₀ → named ≤ n → QueueNoted names recs named w₀ (queue w to)
  unfolding unnoted
  noted_end long h =
      let b = f.high in
      let r = f.room in
      let e : n ≡ named = omega arith in
      let size = f.same.same_length in
      let c = count_cong (bare w) (bare w₀) (upto most_names)
      (λ m i. ap (λ (x : ℕ). eqb x 0) (stamp_still m (upto_elim most_names i))) in
      let g = count_more (bare w₀) n most_names (omega arith) in
      record {
        holds = holds_as names recs f.holds
            (λ m c. let a = c.0 in let b = c.1 in let s = stamp_still m (omega arith) in (omega arith, omega arith))
            (λ m c. let a = c.0 in let b = c.1 in let s = stamp_still m (omega arith) in (omega arith, omega arith));
        room = record { fits = omega arith; long = omega arith };
        same = f.same;
      }
