-- Masks as numbers: a new highest bit is added as its power of two, so that a mask is put together bit by bit, and any
-- bit is taken off in the same way; what a mask has in common with a union that it is a part of.
use Rattle.std.specs.Prelude.{◌≡◌, ◌≢◌, ◌⊎◌, ℕ, zero, suc, ◌+◌, ◌-◌, ◌*◌, ◌/◌, ◌%◌, ◌^◌, ◌≤◌, ◌<◌}
use Rattle.std.proofs.Common.{sym, ap, ◌∙◌, inl, inr, ⊎_elim, mod-lt, arith, pow_pos, shr-shr}
use Rattle.std.proofs.Math.Nat.{div-eq_of_lt, div-eq_of_lt-le, div-eq-sub-div}
use Rattle.std.proofs.Math.Decide.{ℕ_discrete, dec_lt}
use Rattle.std.specs.Int.Bits.{bit_and, bit_or, and_step, and_zero_r, or_step}
use Rattle.std.specs.Int.Count.{count_leading_zeros}
use Rattle.std.proofs.lemmas.Nat.{leading_top}
use Rattle.std.proofs.Math.Pow.{field, mod-mod-pow}
use Rattle.table.specs.Laws.ScopeMask.{grows, double, lower, shift_one}
use Rattle.grid.specs.Rows.{Has, Bits}
use Rattle.grid.proofs.Laws.Masks.{has_zero, has_below}
use Rattle.settle.specs.Due.{Highest}

pub next_power : (r : ℕ) → 2 ^ (r + 1) ≡ 2 ^ r + 2 ^ r
next_power r = let e : r + 1 ≡ suc r = omega arith in ap (λ (v : ℕ). 2 ^ v) e ∙ double r

-- a mask with one bit more, above its own
module _ (m r : ℕ) (l : m < 2 ^ r) where
  pub top_below : m + 2 ^ r < 2 ^ (r + 1)
  top_below = let e = next_power r in omega arith

  turned : m + 2 ^ r ≡ 2 ^ r + m
  turned = omega arith

  top_is : (m + 2 ^ r) / 2 ^ r ≡ 1
  top_is = div-eq_of_lt-le (2 ^ r) (omega arith) (omega arith)

  pub add_top : Bits (m + 2 ^ r) (λ j. (j ≡ r) ⊎ Has m j)
  add_top = record { to = to; from = from }
    where
      to : (j : ℕ) → Has (m + 2 ^ r) j → (j ≡ r) ⊎ Has m j
      to j h = elim (dec_lt j r) [
        | yes p ↦ inr (sym (lower j r m p) ∙ ap (λ (v : ℕ). v / 2 ^ j % 2) (sym turned) ∙ h)
        | no p ↦ inl (let b : j < r + 1 = has_below (m + 2 ^ r) (r + 1) j top_below h in omega arith)
      ]

      from : (j : ℕ) → (j ≡ r) ⊎ Has m j → Has (m + 2 ^ r) j
      from j (inl e) = rw (e, top_is)
      from j (inr h) =
          let p : j < r = has_below m r j l h in
          ap (λ (v : ℕ). v / 2 ^ j % 2) turned ∙ lower j r m p ∙ h

-- and it fits 64 bits, as code adds it
pub top_fits : (m r : ℕ) → m < 2 ^ r → r < 64 → m + (1 * 2 ^ r) % 18446744073709551616 < 18446744073709551616
top_fits m r l k =
    let b = top_below m r l in
    let g : 2 ^ (r + 1) ≤ 2 ^ 64 = grows (r + 1) 64 (omega arith) in
    rw (shift_one r k) (omega arith)

-- the highest bit is one of the mask
pub has_top : (m r : ℕ) → Highest m r → Has m r
has_top m r h =
    let e = next_power r in
    let low = h.low in
    let high = h.high in
    let q : m / 2 ^ r ≡ 1 = div-eq_of_lt-le (2 ^ r) (omega arith) (omega arith) in
    rw q

-- and is found by the zeros above it
module _ (m : ℕ) (some : 0 < m) (fits : m < 2 ^ 64) where
  top : (j : ℕ) × (count_leading_zeros 64 m + suc j ≡ 64) × (2 ^ j ≤ m) × (m < 2 ^ suc j)
  top = leading_top 64 m some fits

  pub few_zeros : count_leading_zeros 64 m ≤ 63
  few_zeros = let e = top.1 in omega arith

  pub highest_at : Highest m (63 - count_leading_zeros 64 m)
  highest_at =
      let z = top.1 in
      let e : 63 - count_leading_zeros 64 m ≡ top.0 = omega arith in
      let f : top.0 + 1 ≡ suc top.0 = omega arith in
      rw e (record { low = top.2; high = rw f top.3 })

-- a bit of the part of a mask below a place is one of the mask
has_part : (m n r : ℕ) → Has (m % 2 ^ n) r → Has m r
has_part m n r h =
    let l : r < n = has_below (m % 2 ^ n) n r (mod-lt m (pow_pos n)) h in
    let e : n ≡ (n - r - 1) + 1 + r = omega arith in
    let f : m % 2 ^ ((n - r - 1) + 1 + r) / 2 ^ r ≡ m / 2 ^ r % 2 ^ ((n - r - 1) + 1) = field m ((n - r - 1) + 1) r in
    let g : m / 2 ^ r % 2 ^ ((n - r - 1) + 1) % 2 ^ 1 ≡ m / 2 ^ r % 2 ^ 1 = mod-mod-pow (m / 2 ^ r) (n - r - 1) 1 in
    let k : m % 2 ^ n / 2 ^ r ≡ m / 2 ^ r % 2 ^ ((n - r - 1) + 1) =
    ap (λ (v : ℕ). m % 2 ^ v / 2 ^ r) e ∙ f in
    sym g ∙ ap (λ (v : ℕ). v % 2) (sym k) ∙ h

-- the part below a place, as code divides by `1 << n`
pub some_shift : (n : ℕ) → n < 64 → 0 < (1 * 2 ^ n) % 18446744073709551616
some_shift n l = rw (shift_one n l) (pow_pos n)

pub has_below_shift : (m n r : ℕ) → n < 64 → Has (m % ((1 * 2 ^ n) % 18446744073709551616)) r → Has m r
has_below_shift m n r l h = has_part m n r (rw (shift_one n l) at h)

-- a mask less one of its bits
module _ (m r : ℕ) (h : Has m r) where
  pub bit_within : 2 ^ r ≤ m
  bit_within = elim (dec_lt m (2 ^ r)) [
    | yes p ↦ let z : m / 2 ^ r ≡ 0 = div-eq_of_lt p in absurd (omega arith)
    | no p ↦ omega arith
  ]

  again : 2 ^ r + (m - 2 ^ r) ≡ m
  again = let l = bit_within in omega arith

  down : m / 2 ^ r ≡ (m - 2 ^ r) / 2 ^ r + 1
  down = div-eq-sub-div (pow_pos r) bit_within

  -- a place above r
  abbrev place : ℕ → ℕ
  place i = r + (1 + i)

  above : (v i : ℕ) → v / 2 ^ place i ≡ v / 2 ^ r / 2 / 2 ^ i
  above v i = sym (shr-shr v r (1 + i)) ∙ sym (shr-shr (v / 2 ^ r) 1 i)

  same_bit : (j : ℕ) → j ≢ r → (m - 2 ^ r) / 2 ^ j % 2 ≡ m / 2 ^ j % 2
  same_bit j n = elim (dec_lt j r) [
    | yes p ↦ sym (lower j r (m - 2 ^ r) p) ∙ ap (λ (v : ℕ). v / 2 ^ j % 2) again
    | no p ↦
        let e : j ≡ place (j - r - 1) = omega arith in
        let d = down in
        let f : (m - 2 ^ r) / 2 ^ r / 2 ≡ m / 2 ^ r / 2 = omega arith in
        rw (e, above (m - 2 ^ r) (j - r - 1), above m (j - r - 1), f)
  ]

  pub less_bit : Bits (m - 2 ^ r) (λ j. (j ≢ r) × Has m j)
  less_bit = record {
    to = λ j k. (off j k, sym (same_bit j (off j k)) ∙ k);
    from = λ j k. same_bit j k.0 ∙ k.1;
  }
    where
      off : (j : ℕ) → Has (m - 2 ^ r) j → j ≢ r
      off j k e = let b : Has (m - 2 ^ r) r = rw e at k in let d = down in omega arith

-- a part of a union is all that the two have in common
pub and_part : (k a b : ℕ) → b < 2 ^ k → bit_and (bit_or a b) b ≡ b
and_part zero a b l = let z : b ≡ 0 = omega arith in rw z (and_zero_r (bit_or a 0))
and_part (suc k) a b l =
    let d = double k in
    let half : bit_or a b / 2 ≡ bit_or (a / 2) (b / 2) = omega (arith, or_step a b) in
    let rest : bit_and (bit_or a b / 2) (b / 2) ≡ b / 2 =
    ap (λ (v : ℕ). bit_and v (b / 2)) half ∙ and_part k (a / 2) (b / 2) (omega arith) in
    omega (arith, and_step (bit_or a b) b, or_step a b)

-- a mask of the numbers below r that have the property Q
module _ (Q : ℕ → Type 0) where
  pub record Gathered (r m : ℕ) : Type 0 where
    pub bits : Bits m (λ q. (q < r) × Q q)
    pub below : m < 2 ^ r

  pub gathered_none : Gathered 0 0
  gathered_none = record {
    bits = record { to = λ q h. absurd (has_zero q h); from = λ q h. absurd (let l : q < 0 = h.0 in omega arith) };
    below = omega arith;
  }

  -- r has it
  pub gathered_more : (r m n : ℕ) → r < 64 → Q r → n ≡ m + (1 * 2 ^ r) % 18446744073709551616 → Gathered r m
      → Gathered (r + 1) n
  gathered_more r m n s has e g = rw (e, shift_one r s) (record { bits = bits; below = top_below m r g.below })
    where
      one : Bits (m + 2 ^ r) (λ q. (q ≡ r) ⊎ Has m q)
      one = add_top m r g.below

      last : (q : ℕ) → q < r + 1 → (q ≡ r) ⊎ (q < r)
      last q k = elim (ℕ_discrete q r) [ yes z ↦ inl z | no z ↦ inr (omega arith) ]

      bits : Bits (m + 2 ^ r) (λ q. (q < r + 1) × Q q)
      bits = record {
        to = λ q h. ⊎_elim (λ z. (omega arith, rw z has))
            (λ x. let w = g.bits.to q x in let k : q < r = w.0 in (omega arith, w.1)) (one.to q h);
        from = λ q h. one.from q (⊎_elim (λ z. inl z) (λ k. inr (g.bits.from q (k, h.1))) (last q h.0));
      }

  -- r has it not
  pub gathered_same : (r m n : ℕ) → (Q r → ⊥) → n ≡ m → Gathered r m → Gathered (r + 1) n
  gathered_same r m n none e g = rw e (record {
    bits = record {
      to = λ q h. let w = g.bits.to q h in let k : q < r = w.0 in (omega arith, w.1);
      from = λ q h. elim (ℕ_discrete q r) [
        | yes z ↦ absurd (none (rw z at h.1))
        | no z ↦ g.bits.from q ((let k : q < r + 1 = h.0 in omega arith), h.1)
      ];
    };
    below = let d : 2 ^ r ≤ 2 ^ (r + 1) = grows r (r + 1) (omega arith) in let l = g.below in omega arith;
  })
