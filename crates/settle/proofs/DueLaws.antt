-- Laws of due routines: a turn of each loop of `due.rt`.
use mathlib.Core.Path.{◌≡◌, refl, ap, ◌∙◌}
use mathlib.Core.Logic.{◌≢◌, ◌⊎◌, inl, inr, ⊎_elim}
use mathlib.Core.List.{List}
use Prim.Native.Nat.{ℕ, ◌+◌, ◌-◌, ◌*◌, ◌%◌, ◌^◌, ◌≤◌, ◌<◌}
use native.Mathlib.Nat.{le_refl}
use native.Mathlib.Omega.{arith}
use native.Mathlib.Decide.{ℕ_discrete}
use lib.ListN.{length, get_or, set, length-set}
use lib.Seq.{get_or-set_same, get_or-set_other}
use lib.Bits.{bit_or, or_lt}
use lib.Pow.{pow-lt}
use Rattle.table.specs.Laws.ScopeMask.{grows, shift_one}
use Rattle.grid.specs.Rows.{Has}
use Rattle.grid.proofs.Laws.Masks.{has_zero, has_below, has_left, has_right, has_or, has_pow, pow_has, bits_map}
use Rattle.settle.specs.Due.{Highest, Taken, All, Below, CallerAdded, Callers}
use Rattle.settle.specs.Laws.Masks.{has_top, next_power, Gathered, gathered_none, gathered_more}
use Rattle.settle.specs.Laws.Off.{inside, rest_is, rest_bits, rest_less}

-- the highest routine of a mask is taken off it as code takes it
module _ (mask r : ℕ) (fits : mask < 2 ^ 64) (top : Highest mask r) where
  bit : Has mask r
  bit = has_top mask r top

  pub top_routine : r < 64
  top_routine = inside 64 mask r (le_refl 64) fits bit

  abbrev others : ℕ
  others = mask - (1 * 2 ^ r) % 18446744073709551616

  low : others < 2 ^ r
  low =
      let e = rest_is 64 mask r (le_refl 64) fits bit in
      let p = next_power r in
      let h = top.high in
      let l = top.low in
      omega arith

  pub taken_off : Taken mask r others
  taken_off = record {
    bit = bit;
    routine = top_routine;
    others = rest_bits 64 mask r (le_refl 64) fits bit;
    lower = λ q h. has_below others r q low h;
    less = rest_less 64 mask r (le_refl 64) fits bit;
  }

-- a mask of all numbers below r, as one of those with a property that all have
abbrev Any : ℕ → Type 0
Any q = Unit {0}

to_all : (r m : ℕ) → Gathered Any r m → All r m
to_all r m g = record { bits = bits_map (λ q h. h.0) (λ q h. (h, tt)) g.bits; below = g.below }

pub all_none : All 0 0
all_none = to_all 0 0 (gathered_none Any)

pub all_turn : (r m : ℕ) → r < 64 → All r m → All (r + 1) (m + (1 * 2 ^ r) % 18446744073709551616)
all_turn r m l b =
    to_all (r + 1) (m + (1 * 2 ^ r) % 18446744073709551616) (gathered_more Any r m _ l tt refl
    (record { bits = bits_map (λ q h. (h, tt)) (λ q h. h.0) b.bits; below = b.below }))

-- masks below 2 ^ r are below 2 ^ (r + 1), and so they are with r
wider : (r m : ℕ) → m < 2 ^ r → m < 2 ^ (r + 1)
wider r m l = let g : 2 ^ r ≤ 2 ^ (r + 1) = grows r (r + 1) (omega arith) in omega arith

with_r : (r m : ℕ) → m < 2 ^ (r + 1) → bit_or m (2 ^ r) < 2 ^ (r + 1)
with_r r m l = or_lt (r + 1) m (2 ^ r) l (pow-lt (omega arith))

module _ (before : List ℕ) (mask r : ℕ) where
  -- routine r was added to the callers of the routines of the mask, but for those that are left
  pub record Adding (after : List ℕ) (left : ℕ) : Type 0 where
    pub old : (q p : ℕ) → Has (get_or before q 0) p → Has (get_or after q 0) p
    pub new : (q : ℕ) → Has mask q → Has left q ⊎ Has (get_or after q 0) r
    pub only : (q p : ℕ) → Has (get_or after q 0) p → Has (get_or before q 0) p ⊎ ((p ≡ r) × Has mask q)
    pub left_of : (q : ℕ) → Has left q → Has mask q
    pub below : Below after (r + 1)

  pub adding_none : Below before r → Adding before mask
  adding_none b = record {
    old = λ q p h. h;
    new = λ q h. inl h;
    only = λ q p h. inl h;
    left_of = λ q h. h;
    below = (b.0, λ q. wider r (get_or before q 0) (b.1 q));
  }

  pub adding_done : (after : List ℕ) (left : ℕ) → left ≡ 0 → Adding after left → CallerAdded before mask r after
  adding_done after left e a = record {
    old = a.old;
    new = λ q h. ⊎_elim (λ x. absurd (has_zero q (rw e at x))) (λ x. x) (a.new q h);
    only = a.only;
    below = a.below;
  }

  -- a turn, for routine q of those that are left
  module _ (small : r < 64) (after : List ℕ) (left q rest : ℕ) (a : Adding after left) (t : Taken left q rest) where
    there : q < length after
    there = let i = t.routine in let l = a.below.0 in omega arith

    abbrev next : List ℕ
    next = set after q (bit_or (get_or after q 0) ((1 * 2 ^ r) % 18446744073709551616))

    here : get_or next q 0 ≡ bit_or (get_or after q 0) (2 ^ r)
    here = get_or-set_same after q _ 0 there ∙ ap (bit_or (get_or after q 0)) (shift_one r small)

    other : (p : ℕ) → p ≢ q → get_or next p 0 ≡ get_or after p 0
    other p n = get_or-set_other after q p _ 0 n

    pub adding_turn : Adding next rest
    adding_turn = record {
      old = λ p i h. kept p i (a.old p i h) (ℕ_discrete p q);
      new = λ p h. told p (a.new p h) (ℕ_discrete p q);
      only = λ p i h. only p i h (ℕ_discrete p q);
      left_of = λ p h. a.left_of p (t.others.to p h).1;
      below = (length-set after q _ ∙ a.below.0, λ p. low p (ℕ_discrete p q));
    }
      where
        kept : (p i : ℕ) → Has (get_or after p 0) i → Dec (p ≡ q) → Has (get_or next p 0) i
        kept p i h (yes e) = rw (e, here) (has_left (get_or after q 0) (2 ^ r) i (rw e at h))
        kept p i h (no n) = rw (other p n) h

        told : (p : ℕ) → Has left p ⊎ Has (get_or after p 0) r → Dec (p ≡ q) → Has rest p ⊎ Has (get_or next p 0) r
        told p h (yes e) = inr (rw (e, here) (has_right (get_or after q 0) (2 ^ r) r (has_pow r)))
        told p (inl h) (no n) = inl (t.others.from p (n, h))
        told p (inr h) (no n) = inr (rw (other p n) h)

        only : (p i : ℕ) → Has (get_or next p 0) i → Dec (p ≡ q) → Has (get_or before p 0) i ⊎ ((i ≡ r) × Has mask p)
        only p i h (no n) = a.only p i (rw (other p n) at h)
        only p i h (yes e) = go (has_or (get_or after q 0) (2 ^ r) i (rw (e, here) at h))
          where
            go : Has (get_or after q 0) i ⊎ Has (2 ^ r) i → Has (get_or before p 0) i ⊎ ((i ≡ r) × Has mask p)
            go (inl x) = a.only p i (rw e x)
            go (inr x) = inr (pow_has r i x, rw e (a.left_of q t.bit))

        low : (p : ℕ) → Dec (p ≡ q) → get_or next p 0 < 2 ^ (r + 1)
        low p (yes e) = rw (e, here) (with_r r (get_or after q 0) (a.below.1 q))
        low p (no n) = rw (other p n) (a.below.1 p)

module _ (calls : List ℕ) where
  -- the calls of the routines below r were turned round
  pub record Turned (callers : List ℕ) (r : ℕ) : Type 0 where
    pub told : (p q : ℕ) → p < r → Has (get_or calls p 0) q → Has (get_or callers q 0) p
    pub only : (p q : ℕ) → Has (get_or callers q 0) p → (p < r) × Has (get_or calls p 0) q
    pub below : Below callers r
    pub within : r ≤ length calls

  pub turned_none : (callers : List ℕ) → Below callers 0 → Turned callers 0
  turned_none callers b = record {
    told = λ p q k h. absurd (omega arith);
    only = λ p q h. absurd (has_zero p (let e : get_or callers q 0 ≡ 0 = (let l = b.1 q in omega arith) in rw e at h));
    below = b;
    within = omega arith;
  }

  pub turned_turn : (callers after : List ℕ) (r : ℕ) → r < length calls → Turned callers r
      → CallerAdded callers (get_or calls r 0) r after → Turned after (r + 1)
  turned_turn callers after r l t a = record {
    told = λ p q k h. step p q k h (ℕ_discrete p r);
    only = λ p q h. back p q (a.only q p h);
    below = a.below;
    within = omega arith;
  }
    where
      back : (p q : ℕ) → Has (get_or callers q 0) p ⊎ ((p ≡ r) × Has (get_or calls r 0) q)
          → (p < r + 1) × Has (get_or calls p 0) q
      back p q (inl h) = let w = t.only p q h in let k : p < r = w.0 in (omega arith, w.1)
      back p q (inr w) = let e = w.0 in (omega arith, rw e w.1)

      step : (p q : ℕ) → p < r + 1 → Has (get_or calls p 0) q → Dec (p ≡ r) → Has (get_or after q 0) p
      step p q k h (yes e) = rw e (a.new q (rw e at h))
      step p q k h (no n) = a.old q p (t.told p q (omega arith) h)

  pub turned_all : (callers : List ℕ) (r : ℕ) → length calls ≤ r → Turned callers r → Callers calls callers
  turned_all callers r l t =
      let w = t.within in
      let e : r ≡ length calls = omega arith in
      record {
        told = λ p q h. t.told p q (let k : p < length calls = h.0 in omega arith) h.1;
        only = λ p q h. let w = t.only p q h in let k : p < r = w.0 in (omega arith, w.1);
        below = rw e at t.below;
      }
