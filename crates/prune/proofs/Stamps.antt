-- The records of the names of a stamp listed from its chain, and stamp after stamp.
use Prim.Native.Nat.{ℕ, zero, suc, ◌+◌, ◌-◌, ◌≤◌, ◌<◌}
use native.Mathlib.Omega.{arith}
use mathlib.Core.Path.{◌≡◌, refl, sym, ◌∙◌, ap, subst}
use mathlib.Core.Bool.{Bool, true, false, cond}
use mathlib.Core.List.{List, [], ◌∷◌, ◌++◌, append-nil}
use lib.Dec.{eqb}
use lib.ListN.{length, get_or, set, length-append}
use borrow.Author.Tests.{eq-eqb}
use Rattle.model.specs.Lists.{keep, collect}
use Rattle.model.specs.Reading.{most_names, most_records}
use Rattle.model.proofs.ListLaws.{keep_cong, collect_cong}
use Rattle.names.specs.Table.{ranked}
use Rattle.records.specs.Columns.{def_kind, fun_kind}
use Rattle.records.specs.Filing.{newest}
use Rattle.records.proofs.Chaining.{newest_low}
use Rattle.firing.specs.Held.{upto}
use Rattle.firing.proofs.Numbers.{upto_elim}
use Rattle.firing.proofs.Newest.{newest_value}
use Rattle.prune.specs.Listing.{most_stamps, record_behind, picked, kind_at, stamp_records, kind_records, decl_records}
use Rattle.prune.specs.Loops.{kept_column, below_column, highest_column, stamp_column, stamp_in, Index, KeptBehind, Linked}
use Rattle.prune.proofs.Chains.{linked_same}
use Rattle.prune.proofs.Picking.{collect_next, collect_end}
use Rattle.prune.proofs.Writing.{Going, going_start, going_length, going_below, going_above, going_end, going_list, lists_both, list_room, pick_none, pick_one, pick_room}

-- ---- the ranks of a stamp listed

module _ (f : ℕ → ℕ) (n : ℕ) where
  -- the numbers of a value are those up to the newest
  newest_kept : (k : ℕ) → keep (λ d. eqb (f d) n) (upto k) ≡ keep (λ d. eqb (f d) n) (upto (newest f n k))
  unfolding newest upto keep
  newest_kept zero = refl
  newest_kept (suc k) = go (eqb (f k) n) refl (newest_kept k)
    where
      go : (b : Bool) → eqb (f k) n ≡ b → keep (λ d. eqb (f d) n) (upto k) ≡ keep (λ d. eqb (f d) n) (upto (newest f n k))
          → keep (λ d. eqb (f d) n) (upto (suc k)) ≡ keep (λ d. eqb (f d) n) (upto (cond b (suc k) (newest f n k)))
      go true e w = refl
      go false e w = rw e w

  -- the first of them
  kept_first : (p : ℕ) → 0 < p → f (p - 1) ≡ n → keep (λ d. eqb (f d) n) (upto p) ≡ (p - 1) ∷ keep (λ d. eqb (f d) n) (upto (p - 1))
  unfolding upto keep
  kept_first zero l e = absurd (let z : ◌<◌ 0 0 = l in omega arith)
  kept_first (suc p) l e =
      let z : suc p - 1 ≡ p = omega arith in
      rw z (rw (eq-eqb (f p) n (subst (λ x. f x ≡ n) z e)))

-- the chain of a stamp is listed down to rank p
pub record ListedTo (names recs : List ℕ) (f : ℕ → ℕ) (named kind s : ℕ) (w : List ℕ) (m : ℕ) (v : List ℕ) (to p : ℕ) : Type 0 where
  pub high : p ≤ named
  pub on : 0 < p → f (p - 1) ≡ s
  pub going : Going kept_column w m (stamp_records names recs named f kind s) v to (stamp_records names recs p f kind s)

module _ (names recs : List ℕ) (kind : ℕ) (f : ℕ → ℕ) where
  -- the ranks of a stamp are those up to the newest
  up_to_newest : (s n q : ℕ) → q ≡ newest f s n → stamp_records names recs n f kind s ≡ stamp_records names recs q f kind s
  unfolding stamp_records
  up_to_newest s n q e =
      ap (picked (kind_at names recs kind)) (newest_kept f s n ∙ ap (λ (x : ℕ). keep (λ d. eqb (f d) s) (upto x)) (sym e))

  -- the record of the first of them, then the others
  first_rank : (s p q : ℕ) → 0 < p → f (p - 1) ≡ s → q ≡ newest f s (p - 1)
      → stamp_records names recs p f kind s ≡ record_behind (kind_at names recs kind (p - 1)) ++ stamp_records names recs q f kind s
  unfolding stamp_records picked collect
  first_rank s p q h e n =
      ap (picked (kind_at names recs kind)) (kept_first f s p h e)
      ∙ ap (λ (l : List ℕ). record_behind (kind_at names recs kind (p - 1)) ++ l) (up_to_newest s (p - 1) q n)

module _ {names recs : List ℕ} {f : ℕ → ℕ} {named kind : ℕ} {w : List ℕ} (c : Linked f named w) where
  pub chain_start : {s p : ℕ} (m : ℕ) → 0 < s → s ≤ most_stamps → p ≡ get_or w (highest_column + (s - 1)) 0
      → ListedTo names recs f named kind s w m w m p
  chain_start {s} {p} m h l e =
      let z : s - 1 + 1 ≡ s = omega arith in
      let q : p ≡ newest f s named = e ∙ c.last (s - 1) (omega arith) ∙ ap (λ (t : ℕ). newest f t named) z in
      let low = newest_low f s named in
      let whole : List ℕ = stamp_records names recs named f kind s in
      record {
        high = omega arith;
        on = λ g. subst (λ (x : ℕ). f (x - 1) ≡ s) (sym q) (newest_value f s named (omega arith));
        going = subst (λ (l : List ℕ). Going kept_column w m whole w m l) (up_to_newest names recs kind f s named p q)
            (going_start kept_column w m whole);
      }

  module _ {s m : ℕ} {v : List ℕ} {to p : ℕ} (fits : m + length (stamp_records names recs named f kind s) ≤ most_records)
      (few : named ≤ most_names) (pos : 0 < s) (low : s ≤ most_stamps) (g : ListedTo names recs f named kind s w m v to p) (h : p ≡ 0 → ⊥) {q : ℕ}
      (e : q ≡ get_or v (below_column + (p - 1)) 0) where
    -- the next rank on the chain
    next_is : q ≡ newest f s (p - 1)
    next_is =
        let b = g.high in
        let o = g.on (omega (arith, h)) in
        e ∙ going_above g.going fits (below_column + (p - 1)) (omega arith) ∙ c.below (p - 1) (omega (arith, h)) (omega arith) (omega arith)
        ∙ ap (λ (t : ℕ). newest f t (p - 1)) o

    pub chain_less : q < p
    chain_less = let a = next_is in let b = newest_low f s (p - 1) in omega (arith, h)

    next_high : q ≤ named
    next_high = let a = chain_less in let b = g.high in omega arith

    next_on : 0 < q → f (q - 1) ≡ s
    next_on l = subst (λ (x : ℕ). f (x - 1) ≡ s) (sym next_is) (newest_value f s (p - 1) (let a = next_is in omega arith))

    left_is : stamp_records names recs p f kind s ≡ record_behind (kind_at names recs kind (p - 1)) ++ stamp_records names recs q f kind s
    left_is = first_rank names recs kind f s p q (omega (arith, h)) (g.on (omega (arith, h))) next_is

    module _ {t : ℕ} (d : t ≡ kind_at names recs kind (p - 1)) where
      pub chain_none : t ≡ 0 → ListedTo names recs f named kind s w m v to q
      chain_none z =
          record { high = next_high; on = next_on; going = pick_none (stamp_records names recs q f kind s) g.going left_is d z }

      pub chain_one : (t ≡ 0 → ⊥) → ListedTo names recs f named kind s w m (set v (kept_column + to) (t - 1)) (to + 1) q
      chain_one z =
          record { high = next_high; on = next_on; going = pick_one (stamp_records names recs q f kind s) g.going left_is d z }

      pub chain_room : (t ≡ 0 → ⊥) → to < most_records
      chain_room z = pick_room (stamp_records names recs q f kind s) g.going left_is d z fits

  pub chain_end : {s m : ℕ} {v : List ℕ} {to p : ℕ} → ListedTo names recs f named kind s w m v to p → p ≡ 0
      → KeptBehind w m (stamp_records names recs named f kind s) v to
  unfolding stamp_records picked collect keep upto
  chain_end {s} g z = going_end g.going (ap (λ (p : ℕ). stamp_records names recs p f kind s) z)

-- what is listed depends on the stamps of the ranks only
module _ (names recs : List ℕ) (named : ℕ) {f g : ℕ → ℕ} (same : (r : ℕ) → r < named → g r ≡ f r) where
  stamp_same : (kind s : ℕ) → stamp_records names recs named g kind s ≡ stamp_records names recs named f kind s
  unfolding stamp_records
  stamp_same kind s =
      ap (picked (kind_at names recs kind))
      (keep_cong (λ r. eqb (g r) s) (λ r. eqb (f r) s) (upto named) (λ r m. ap (λ (x : ℕ). eqb x s) (same r (upto_elim named m))))

  pub kinds_same : (kind s : ℕ) → kind_records names recs named g kind s ≡ kind_records names recs named f kind s
  unfolding kind_records
  kinds_same kind s =
      collect_cong (λ j. stamp_records names recs named g kind (j + 1)) (λ j. stamp_records names recs named f kind (j + 1)) (upto s)
      (λ j m. stamp_same kind (j + 1))

-- ---- stamp after stamp

-- words of the slice outside the kept list are those of the start
pub record Apart (w v : List ℕ) : Type 0 where
  pub size : length v ≡ length w
  pub low : (j : ℕ) → j < kept_column → get_or v j 0 ≡ get_or w j 0
  pub high : (j : ℕ) → below_column ≤ j → get_or v j 0 ≡ get_or w j 0

going_apart : {w : List ℕ} {m : ℕ} {whole v : List ℕ} {to : ℕ} {rest : List ℕ} → Going kept_column w m whole v to rest
    → m + length whole ≤ most_records → Apart w v
going_apart g f = record { size = going_length g; low = going_below g; high = going_above g f }

module _ {names w v : List ℕ} {named : ℕ} (index : Index names named) (apart : Apart w v) where
  -- the stamps of the ranks stay
  pub stamps_apart : (r : ℕ) → r < named → stamp_in names v r ≡ stamp_in names w r
  stamps_apart r h = apart.high (stamp_column + ranked names r) (omega arith)

  -- and the chains
  pub linked_apart : Linked (stamp_in names w) named w → Linked (stamp_in names v) named v
  linked_apart c = linked_same c stamps_apart apart.high index.few

-- the stamps from s downward are left
pub record KindsTo (names recs : List ℕ) (named kind stamps : ℕ) (w : List ℕ) (m : ℕ) (v : List ℕ) (to s : ℕ) : Type 0 where
  pub high : s ≤ stamps
  pub going : Going kept_column w m (kind_records names recs named (stamp_in names w) kind stamps) v to
      (kind_records names recs named (stamp_in names w) kind s)

pub kinds_start : (names recs : List ℕ) (named kind stamps : ℕ) (w : List ℕ) (m : ℕ) → KindsTo names recs named kind stamps w m w m stamps
kinds_start names recs named kind stamps w m =
    let whole : List ℕ = kind_records names recs named (stamp_in names w) kind stamps in
    record { high = omega arith; going = going_start kept_column w m whole }

module _ {names recs : List ℕ} {named kind stamps : ℕ} {w : List ℕ} {m : ℕ} {v : List ℕ} {to s : ℕ} (index : Index names named)
    (fits : m + length (kind_records names recs named (stamp_in names w) kind stamps) ≤ most_records)
    (g : KindsTo names recs named kind stamps w m v to s) where
  pub kinds_apart : Apart w v
  kinds_apart = going_apart g.going fits

  -- the list of the last stamp left, then the others
  left_kinds : 0 < s → kind_records names recs named (stamp_in names w) kind s
      ≡ stamp_records names recs named (stamp_in names v) kind s ++ kind_records names recs named (stamp_in names w) kind (s - 1)
  unfolding kind_records
  left_kinds h =
      collect_next (λ j. stamp_records names recs named (stamp_in names w) kind (j + 1)) s h
      ∙ ap (λ (l : List ℕ). l ++ collect (λ j. stamp_records names recs named (stamp_in names w) kind (j + 1)) (upto (s - 1)))
      (ap (stamp_records names recs named (stamp_in names w) kind) (let e : s - 1 + 1 ≡ s = omega arith in e)
      ∙ sym (stamp_same names recs named (stamps_apart index kinds_apart) kind s))

  pub kinds_room : 0 < s → to + length (stamp_records names recs named (stamp_in names v) kind s) ≤ most_records
  kinds_room h =
      list_room (stamp_records names recs named (stamp_in names v) kind s) (kind_records names recs named (stamp_in names w) kind (s - 1)) g.going
      (left_kinds h) fits

  pub kinds_next : {u : List ℕ} {next : ℕ} → 0 < s → KeptBehind v to (stamp_records names recs named (stamp_in names v) kind s) u next
      → KindsTo names recs named kind stamps w m u next (s - 1)
  kinds_next h p = let b = g.high in record { high = omega arith; going = going_list g.going (left_kinds h) p }

  pub kinds_end : s ≤ 0 → KeptBehind w m (kind_records names recs named (stamp_in names w) kind stamps) v to
  unfolding kind_records
  kinds_end h = going_end g.going (collect_end (λ j. stamp_records names recs named (stamp_in names w) kind (j + 1)) s h)

-- ---- definitions, then declarations

pub lists_apart : {w : List ℕ} {m : ℕ} {l v : List ℕ} {to : ℕ} → KeptBehind w m l v to → m + length l ≤ most_records → Apart w v
lists_apart {w} {m} {l} p f =
    going_apart {rest = []} (going_list {rest = []} (going_start kept_column w m l) (sym (append-nil l)) p) f

module _ (names recs : List ℕ) {named : ℕ} (s : ℕ) (w : List ℕ) (m : ℕ) (index : Index names named)
    (fits : m + length (decl_records names recs named (stamp_in names w) s) ≤ most_records) where
  -- there is room for the definitions
  pub defs_fit : m + length (kind_records names recs named (stamp_in names w) def_kind s) ≤ most_records
  unfolding decl_records
  defs_fit =
      let e = length-append (kind_records names recs named (stamp_in names w) def_kind s) (kind_records names recs named (stamp_in names w) fun_kind s) in
      omega arith

  module _ {v : List ℕ} {to : ℕ} (p : KeptBehind w m (kind_records names recs named (stamp_in names w) def_kind s) v to) where
    pub defs_apart : Apart w v
    defs_apart = lists_apart p defs_fit

    -- and for the declarations
    pub funs_fit : to + length (kind_records names recs named (stamp_in names v) fun_kind s) ≤ most_records
    unfolding decl_records
    funs_fit =
        let e = length-append (kind_records names recs named (stamp_in names w) def_kind s) (kind_records names recs named (stamp_in names w) fun_kind s) in
        let d = ap length (kinds_same names recs named (stamps_apart index defs_apart) fun_kind s) in
        let c = p.count in
        omega arith

    pub decls_listed : {u : List ℕ} {next : ℕ} → KeptBehind v to (kind_records names recs named (stamp_in names v) fun_kind s) u next
        → KeptBehind w m (decl_records names recs named (stamp_in names w) s) u next
    unfolding decl_records
    decls_listed {u} {next} q =
        lists_both p
        (subst (λ (l : List ℕ). KeptBehind v to l u next) (kinds_same names recs named (stamps_apart index defs_apart) fun_kind s) q)
