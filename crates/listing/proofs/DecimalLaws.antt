-- Decimal numbers: they are what the library prints, and have few digits.
use Rattle.std.specs.Prelude.{◌≡◌, cond, [], ◌∷◌, ◌++◌, ℕ, suc, ◌/◌, ◌%◌, ◌^◌, ◌<◌, ◌≤◌, length}
use Rattle.std.proofs.Common.{ap, arith, lt-ltb, le-ltb}
use Rattle.std.specs.Fmt.{decimal as printed}
use Rattle.std.proofs.lemmas.Fmt.{AppendsLastDigit, decimal_from_appends, length-decimal-le, length-decimal-le_succ}
use Rattle.listing.specs.Text.{digit, digits, decimal}

-- the digits of a number are the front of it and its last digit
last_digit : AppendsLastDigit digits
unfolding digits
last_digit = record {
  one = λ k n h. ap (λ b. cond b (digit n ∷ []) (digits k (n / 10) ++ (digit (n % 10) ∷ []))) (lt-ltb n 10 h);
  more = λ k n h. ap (λ b. cond b (digit n ∷ []) (digits k (n / 10) ++ (digit (n % 10) ∷ []))) (le-ltb n 10 h);
}

-- so a decimal number is what the library prints
pub decimal_printed : (n : ℕ) → n < 2 ^ 64 → decimal n ≡ printed n
decimal_printed n h = decimal_from_appends digits last_digit (suc n) n h (omega (arith, length-decimal-le_succ n h))

-- and a number below ten is its digit
pub decimal_one : (n : ℕ) → n < 10 → decimal n ≡ digit n ∷ []
decimal_one n h = last_digit.one n n h

-- a number below 10 ^ k has at most k digits
pub few_digits : (k n : ℕ) → 0 < k → n < 10 ^ k → n < 2 ^ 64 → length (decimal n) ≤ k
few_digits k n some h g = omega (arith, ap length (decimal_printed n g), length-decimal-le k n some h g)

pub one_digit : (n : ℕ) → n < 10 → length (decimal n) ≤ 1
one_digit n h = few_digits 1 n (omega arith) h (omega arith)

pub two_digits : (n : ℕ) → n < 100 → length (decimal n) ≤ 2
two_digits n h = few_digits 2 n (omega arith) h (omega arith)

pub three_digits : (n : ℕ) → n < 1000 → length (decimal n) ≤ 3
three_digits n h = few_digits 3 n (omega arith) h (omega arith)
