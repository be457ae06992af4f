-- Laws of reachability over call masks: what holds while calls are followed, and what a mask with none left has.
use mathlib.Core.Path.{◌≡◌, ap, ◌∙◌, subst}
use mathlib.Core.Logic.{◌⊎◌, inl, inr, ⊎_elim}
use mathlib.Core.List.{List}
use Prim.Native.Nat.{ℕ, ◌+◌, ◌-◌, ◌*◌, ◌%◌, ◌^◌, ◌≤◌, ◌<◌}
use native.Mathlib.Omega.{arith}
use native.Mathlib.Decide.{ℕ_discrete}
use lib.ListN.{length, get_or}
use lib.Bits.{bit_and, bit_or, bit_xor, or_lt, or_zero_l, or_add_and, xor_add_and}
use lib.Pow.{pow_pos, pow-lt}
use native.Mathlib.Nat.{le_refl}
use Rattle.table.specs.Laws.ScopeMask.{shift_one}
use Rattle.grid.specs.Rows.{Has, Bits}
use Rattle.grid.proofs.Laws.Masks.{has_zero, has_left, has_right, has_or, has_pow, pow_has, bits_beyond}
use Rattle.settle.specs.Due.{Highest}
use Rattle.settle.specs.Reach.{CallBit, Reachable, main, next, CanReach}
use Rattle.settle.specs.Laws.Masks.{and_part, has_top, less_bit}

pub few_there : {calls : List ℕ} {from : ℕ} → CanReach calls from → from < 64
few_there can = let l = can.there in let k = can.few in omega arith

module _ (calls : List ℕ) (from : ℕ) where
  -- every routine of the mask is reached, and `from` is in it; what they call is in it too, but for the routines that
  -- are left
  pub record Followed (mask left : ℕ) : Type 0 where
    pub only : (q : ℕ) → Has mask q → Reachable calls from q
    pub first_in : Has mask from
    pub still : (q : ℕ) → Has left q → Has mask q
    pub done : (r q : ℕ) → Has mask r → CallBit calls r q → Has left r ⊎ Has mask q
    pub fits : mask < 18446744073709551616

  -- routine `from` is left
  followed_none : from < 64 → Followed (2 ^ from) (2 ^ from)
  followed_none l = record {
    only = λ q h. main (pow_has from q h);
    first_in = has_pow from;
    still = λ q h. h;
    done = λ r q h c. inl h;
    fits = pow-lt l;
  }

  -- a mask with none left has every routine that is reached
  pub all_reached : (mask left : ℕ) → left ≡ 0 → Followed mask left → Bits mask (Reachable calls from)
  all_reached mask left e f = record { to = f.only; from = λ q h. inside q h }
    where
      inside : (q : ℕ) → Reachable calls from q → Has mask q
      inside q (main z) = rw z f.first_in
      inside q (next {r = r} h c) = ⊎_elim (λ x. absurd (has_zero r (rw e at x))) (λ x. x) (f.done r q (inside r h) c)

  -- a visit of routine r, one of those that are left: r is there, and what the mask and those left become
  pub record Visit (mask left r : ℕ) : Type 0 where
    pub there : r < length calls
    pub small : r < 64
    pub taken : (1 * 2 ^ r) % 18446744073709551616 ≤ left
    pub again : Followed (bit_or (get_or calls r 0) mask)
        (bit_or (left - (1 * 2 ^ r) % 18446744073709551616) (bit_xor (bit_or (get_or calls r 0) mask) mask))
    pub less :
        2 * (18446744073709551616 - bit_or (get_or calls r 0) mask)
        + bit_or (left - (1 * 2 ^ r) % 18446744073709551616) (bit_xor (bit_or (get_or calls r 0) mask) mask)
        < 2 * (18446744073709551616 - mask) + left

  module _ (can : CanReach calls from) (mask left r : ℕ) (f : Followed mask left) (top : Highest left r)
      (small-calls : get_or calls r 0 < 18446744073709551616) where
    bit : Has left r
    bit = has_top left r top

    there : (q : ℕ) → Reachable calls from q → q < length calls
    there q (main e) = rw e can.there
    there q (next {r = p} h c) = can.within p q c

    called_there : r < length calls
    called_there = there r (f.only r (f.still r bit))

    small : r < 64
    small = let l = called_there in let k = can.few in omega arith

    bit_taken : (1 * 2 ^ r) % 18446744073709551616 ≤ left
    bit_taken = rw (shift_one r small) top.low

    abbrev to : ℕ
    to = get_or calls r 0

    abbrev next_mask : ℕ
    next_mask = bit_or to mask

    abbrev new_ones : ℕ
    new_ones = bit_xor next_mask mask

    abbrev next_left : ℕ
    next_left = bit_or (left - (1 * 2 ^ r) % 18446744073709551616) new_ones

    left_is : next_left ≡ bit_or (left - 2 ^ r) new_ones
    left_is = ap (λ (v : ℕ). bit_or (left - v) new_ones) (shift_one r small)

    next_fits : next_mask < 18446744073709551616
    next_fits = or_lt 64 to mask small-calls f.fits

    followed_more : Followed next_mask next_left
    followed_more = record {
      only = λ q h. ⊎_elim (λ x. next (f.only r (f.still r bit)) (called_there, x)) (λ x. f.only q x)
          (has_or to mask q h);
      first_in = has_right to mask from f.first_in;
      still = λ q h. ⊎_elim (λ x. has_right to mask q (f.still q ((less_bit left r bit).to q x).1))
          (λ x. has_left to mask q ((bits_beyond to mask).to q x).0)
          (has_or (left - 2 ^ r) new_ones q (rw left_is at h));
      done = λ p q h c. rw left_is (step p q h c (ℕ_discrete p r));
      fits = next_fits;
    }
      where
        old : (p q : ℕ) → (p ≡ r → ⊥) → Has mask p → CallBit calls p q
            → Has (bit_or (left - 2 ^ r) new_ones) p ⊎ Has next_mask q
        old p q n h c = ⊎_elim (λ x. inl (has_left (left - 2 ^ r) new_ones p ((less_bit left r bit).from p (n, x))))
            (λ x. inr (has_right to mask q x)) (f.done p q h c)

        new : (p q : ℕ) → (p ≡ r → ⊥) → Has to p → CallBit calls p q → Dec (Has mask p)
            → Has (bit_or (left - 2 ^ r) new_ones) p ⊎ Has next_mask q
        new p q n h c (yes m) = old p q n m c
        new p q n h c (no m) = inl (has_right (left - 2 ^ r) new_ones p ((bits_beyond to mask).from p (h, m)))

        step : (p q : ℕ) → Has next_mask p → CallBit calls p q → Dec (p ≡ r)
            → Has (bit_or (left - 2 ^ r) new_ones) p ⊎ Has next_mask q
        step p q h c (yes e) = inr (has_left to mask q (rw e at c.1))
        step p q h c (no n) = ⊎_elim (λ x. new p q n x c (ℕ_discrete _ 1)) (λ x. old p q n x c) (has_or to mask p h)

    -- what is new comes into the mask and to those that are left, and r is left no more
    followed_less :
        2 * (18446744073709551616 - next_mask) + next_left < 2 * (18446744073709551616 - mask) + left
    followed_less =
        let both : bit_and next_mask mask ≡ mask = and_part 64 to mask f.fits in
        let New-is = xor_add_and next_mask mask in
        let sum = or_add_and (left - 2 ^ r) new_ones in
        let low = top.low in
        let some = pow_pos r in
        let e = left_is in
        let fits = next_fits in
        omega arith

    visit : Visit mask left r
    visit = record {
      there = called_there;
      small = small;
      taken = bit_taken;
      again = followed_more;
      less = followed_less;
    }

  -- routine `from` was visited; the bit of `from` is as code shifts it
  pub followed_first : CanReach calls from → get_or calls from 0 < 18446744073709551616
      → Followed (bit_or (get_or calls from 0) ((1 * 2 ^ from) % 18446744073709551616))
      (bit_xor (bit_or (get_or calls from 0) ((1 * 2 ^ from) % 18446744073709551616)) ((1 * 2 ^ from) % 18446744073709551616))
  followed_first can small-calls = rw (shift_one from few) (subst (Followed (bit_or (get_or calls from 0) (2 ^ from))) none_left
      (visit can (2 ^ from) (2 ^ from) from (followed_none few)
      (record { low = le_refl (2 ^ from); high = pow-lt (omega arith) }) small-calls).again)
    where
      few : from < 64
      few = few_there can

      new_ones : ℕ
      new_ones = bit_xor (bit_or (get_or calls from 0) (2 ^ from)) (2 ^ from)

      none_left : bit_or (2 ^ from - (1 * 2 ^ from) % 18446744073709551616) new_ones ≡ new_ones
      none_left =
          let e : 2 ^ from - (1 * 2 ^ from) % 18446744073709551616 ≡ 0 = rw (shift_one from few) (omega arith) in
          ap (λ (v : ℕ). bit_or v new_ones) e ∙ or_zero_l new_ones

-- a visit of the highest routine that is left, as code makes it
pub visited : {calls : List ℕ} {from mask left r : ℕ} → CanReach calls from → Followed calls from mask left
    → Highest left r → get_or calls r 0 < 18446744073709551616 → Visit calls from mask left r
visited {calls = calls} {from = from} {mask = mask} {left = left} {r = r} can f top small =
    visit calls from can mask left r f top small
