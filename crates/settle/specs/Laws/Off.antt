-- A routine is taken off a mask of routines, as the loops over a mask do, and put into another.
use Rattle.std.specs.Prelude.{◌≡◌, ◌≢◌, ℕ, ◌-◌, ◌*◌, ◌%◌, ◌^◌, ◌≤◌, ◌<◌}
use Rattle.std.proofs.Common.{ap, arith, pow_pos}
use Rattle.std.specs.Int.Bits.{bit_or}
use Rattle.std.proofs.lemmas.Nat.{or_lt}
use Rattle.std.proofs.Math.Pow.{pow-lt}
use Rattle.table.specs.Laws.ScopeMask.{shift_one}
use Rattle.grid.specs.Rows.{Has, Bits}
use Rattle.grid.proofs.Laws.Masks.{has_below, has_left, has_right, has_pow}
use Rattle.settle.specs.Laws.Masks.{bit_within, less_bit}

-- routine r, of a mask of routines below n
module _ (n left r : ℕ) (few : n ≤ 64) (below : left < 2 ^ n) (bit : Has left r) where
  pub inside : r < n
  inside = has_below left n r below bit

  pub taken : (1 * 2 ^ r) % 18446744073709551616 ≤ left
  taken = let i = inside in rw (shift_one r (omega arith)) (bit_within left r bit)

  -- the mask without r
  abbrev pub rest : ℕ
  rest = left - (1 * 2 ^ r) % 18446744073709551616

  pub rest_is : rest ≡ left - 2 ^ r
  rest_is = let i = inside in ap (λ (v : ℕ). left - v) (shift_one r (omega arith))

  pub rest_bits : Bits rest (λ j. (j ≢ r) × Has left j)
  rest_bits = rw rest_is (less_bit left r bit)

  pub rest_less : rest < left
  rest_less = let l = bit_within left r bit in let k = pow_pos r in rw rest_is (omega arith)

  pub rest_below : rest < 2 ^ n
  rest_below = let l = rest_less in omega arith

  -- another mask with r
  module _ (mask : ℕ) (low : mask < 2 ^ n) where
    abbrev pub more : ℕ
    more = bit_or mask ((1 * 2 ^ r) % 18446744073709551616)

    more_is : more ≡ bit_or mask (2 ^ r)
    more_is = let i = inside in ap (bit_or mask) (shift_one r (omega arith))

    pub more_below : more < 2 ^ n
    more_below = rw more_is (or_lt n mask (2 ^ r) low (pow-lt inside))

    pub more_old : (q : ℕ) → Has mask q → Has more q
    more_old q h = rw more_is (has_left mask (2 ^ r) q h)

    pub more_new : Has more r
    more_new = rw more_is (has_right mask (2 ^ r) r (has_pow r))
