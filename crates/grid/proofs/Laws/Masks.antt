-- The bits of masks: what `|`, `^`, `&`, `!`, a power of two and a product with one bit have.
use Rattle.std.specs.Prelude.{◌≡◌, refl, ◌≢◌, ◌⊎◌, ℕ, zero, suc, ◌+◌, ◌*◌, ◌/◌, ◌%◌, ◌^◌, ◌<◌, ◌≤◌, max, List, [], ◌∷◌}
use Rattle.std.proofs.Common.{sym, ap, ◌∙◌, inl, inr, ⊎_elim, arith, div-lt_iff_lt-mul, div-one, pow-suc, one-mul, zero-mul}
use Rattle.std.proofs.Common.{pow_pos, shl_exact, shr-shr}
use Rattle.std.proofs.Math.Decide.{dec_lt, ℕ_discrete}
use Rattle.std.specs.Int.{bit_not, w16}
use Rattle.std.specs.Int.Bits.{bit_and, bit_or, bit_xor, differ, or_add_and}
use Rattle.std.specs.List.{fold}
use Rattle.std.proofs.lemmas.Nat.{and_le_r}
use Rattle.std.proofs.lemmas.Nat.Bits.{bit_at-zero, bit_at_and, bit_at_or, bit_at_xor, bit_at-pow_same, bit_at-pow_other, bit_at_not, bit_at-lt}
use Rattle.std.proofs.lemmas.Nat.Bits.{bit_at_above}
use Rattle.grid.specs.Rows.{Has, SomeRow, Bits}

-- the bit of `a | b` is the greater of the two bits
pub or_bit : (a b k : ℕ) → bit_or a b / 2 ^ k % 2 ≡ max (a / 2 ^ k % 2) (b / 2 ^ k % 2)
or_bit a b k = bit_at_or a b k

-- the bit of `a ^ b` is the sum of the two bits without its carry
differ_sum : (x y : ℕ) → x < 2 → y < 2 → differ x y ≡ (x + y) % 2
differ_sum zero y h k = omega arith
differ_sum (suc zero) zero h k = refl
differ_sum (suc zero) (suc zero) h k = refl
differ_sum (suc zero) (suc (suc y)) h k = absurd (omega arith)
differ_sum (suc (suc x)) y h k = absurd (omega arith)

xor_bit : (a b k : ℕ) → bit_xor a b / 2 ^ k % 2 ≡ (a / 2 ^ k % 2 + b / 2 ^ k % 2) % 2
xor_bit a b k = bit_at_xor a b k

-- a union is no less than its first part
pub or_le : (a b : ℕ) → a ≤ bit_or a b
or_le a b = omega (arith, or_add_and a b, and_le_r a b)

-- the bits of `a | b` are those of a and those of b

pub has_left : (a b k : ℕ) → Has a k → Has (bit_or a b) k
has_left a b k h = or_bit a b k ∙ omega arith

pub has_right : (a b k : ℕ) → Has b k → Has (bit_or a b) k
has_right a b k h = or_bit a b k ∙ omega arith

pub has_or : (a b k : ℕ) → Has (bit_or a b) k → Has a k ⊎ Has b k
has_or a b k h =
    elim (ℕ_discrete (a / 2 ^ k % 2) 1) [
      | yes p ↦ inl p
      | no p ↦ inr (omega (arith, or_bit a b k))
    ]

-- zero has no bit
pub has_zero : (k : ℕ) → Has 0 k → ⊥
has_zero k h = omega (arith, bit_at-zero k)

-- a mask below a power of two has no bit from there on
pub has_below : (m n k : ℕ) → m < 2 ^ n → Has m k → k < n
has_below m n k l h =
    elim (dec_lt k n) [
      | yes p ↦ p
      | no p ↦ absurd (omega (arith, bit_at_above m n k l (omega arith)))
    ]

-- a power of two has one bit
pub has_pow : (n : ℕ) → Has (2 ^ n) n
has_pow n = bit_at-pow_same n

pub pow_has : (n k : ℕ) → Has (2 ^ n) k → k ≡ n
pow_has n k h =
    elim (ℕ_discrete k n) [
      | yes p ↦ p
      | no p ↦ absurd (omega (arith, bit_at-pow_other n k p))
    ]

-- a mask has its own bits, and the same bits in other words
pub bits_self : (m : ℕ) → Bits m (Has m)
bits_self m = record { to = λ j h. h; from = λ j h. h }

pub bits_map : {m : ℕ} {P Q : ℕ → Type 0} → ((j : ℕ) → P j → Q j) → ((j : ℕ) → Q j → P j) → Bits m P → Bits m Q
bits_map f g b = record { to = λ j h. f j (b.to j h); from = λ j h. b.from j (g j h) }

-- masks put together one after another have the bits that some of them has
bits_next :
    (m a x : ℕ) (xs : List ℕ) → Bits m (λ j. Has (bit_or a x) j ⊎ SomeRow xs j)
    → Bits m (λ j. Has a j ⊎ SomeRow (x ∷ xs) j)
bits_next m a x xs r = record { to = λ j h. split j (r.to j h); from = λ j h. r.from j (join j h) }
  where
    split : (j : ℕ) → Has (bit_or a x) j ⊎ SomeRow xs j → Has a j ⊎ SomeRow (x ∷ xs) j
    split j (inl h) = ⊎_elim (λ p. inl p) (λ p. inr (0, p)) (has_or a x j h)
    split j (inr p) = inr (suc p.0, p.1)

    join : (j : ℕ) → Has a j ⊎ SomeRow (x ∷ xs) j → Has (bit_or a x) j ⊎ SomeRow xs j
    join j (inl h) = inl (has_left a x j h)
    join j (inr (zero, p)) = inl (has_right a x j p)
    join j (inr (suc i, p)) = inr (i, p)

fold_bits : (a : ℕ) (xs : List ℕ) → Bits (fold bit_or a xs) (λ j. Has a j ⊎ SomeRow xs j)
fold_bits a [] = record { to = λ j h. inl h; from = λ j h. ⊎_elim (λ p. p) (λ p. absurd (has_zero j p.1)) h }
fold_bits a (x ∷ xs) = bits_next _ a x xs (fold_bits (bit_or a x) xs)

pub bits_fold : (xs : List ℕ) → Bits (fold bit_or 0 xs) (SomeRow xs)
bits_fold xs = bits_map (λ j. ⊎_elim (λ p. absurd (has_zero j p)) (λ p. p)) (λ j p. inr p) (fold_bits 0 xs)

-- zero has the bits of what never holds
pub bits_zero : (P : ℕ → Type 0) → ((j : ℕ) → P j → ⊥) → Bits 0 P
bits_zero P n = record { to = λ j h. absurd (has_zero j h); from = λ j h. absurd (n j h) }

-- `a | b` has the bits of both
pub bits_or : {a b : ℕ} {P Q : ℕ → Type 0} → Bits a P → Bits b Q → Bits (bit_or a b) (λ j. P j ⊎ Q j)
bits_or {a} {b} p q = record {
  to = λ j h. ⊎_elim (λ x. inl (p.to j x)) (λ x. inr (q.to j x)) (has_or a b j h);
  from = λ j h. ⊎_elim (λ x. has_left a b j (p.from j x)) (λ x. has_right a b j (q.from j x)) h;
}

-- `a & b` has the bits that both have
pub bits_both : {a b : ℕ} {P Q : ℕ → Type 0} → Bits a P → Bits b Q → Bits (bit_and a b) (λ j. P j × Q j)
bits_both {a} {b} p q = record {
  to = λ j h.
      let e = bit_at_and a b j in
      let x : Has a j = omega (arith, bit_at-lt a j, bit_at-lt b j) in
      let y : Has b j = omega (arith, bit_at-lt a j, bit_at-lt b j) in
      (p.to j x, q.to j y);
  from = λ j h. let x = p.from j h.0 in let y = q.from j h.1 in omega (arith, bit_at_and a b j);
}

-- `a & !b` has the bits of a that b has not
pub bits_without :
    {a b : ℕ} {P Q : ℕ → Type 0} → a < 65536 → b < 65536 → Bits a P → Bits b Q
    → Bits (bit_and a (bit_not w16 b)) (λ j. P j × (Q j → ⊥))
bits_without {a} {b} la lb p q = record {
  to = λ j h.
      let e = bit_at_and a (bit_not w16 b) j in
      let x : Has a j = omega (arith, bit_at-lt a j, bit_at-lt (bit_not w16 b) j) in
      let s : j < 16 = has_below a 16 j la x in
      (p.to j x, λ v. let y = q.from j v in omega (arith, e, bit_at_not w16 b j lb s));
  from = λ j h.
      let x = p.from j h.0 in
      let s : j < 16 = has_below a 16 j la x in
      let z : Has b j → ⊥ = λ y. h.1 (q.to j y) in
      omega (arith, bit_at_and a (bit_not w16 b) j, bit_at_not w16 b j lb s, bit_at-lt b j);
}

-- the bits of a that b has not, as `(a | b) ^ b`
pub bits_beyond : (a b : ℕ) → Bits (bit_xor (bit_or a b) b) (λ j. Has a j × (Has b j → ⊥))
bits_beyond a b = record {
  to = λ j h. fwd j h (ℕ_discrete (b / 2 ^ j % 2) 1);
  from = λ j h. let x = h.0 in let y = h.1 in omega (arith, bit_at_xor (bit_or a b) b j, or_bit a b j);
}
  where
    fwd : (j : ℕ) → Has (bit_xor (bit_or a b) b) j → Dec (Has b j) → Has a j × (Has b j → ⊥)
    fwd j h (yes p) = absurd (omega (arith, bit_at_xor (bit_or a b) b j, or_bit a b j))
    fwd j h (no p) = (omega (arith, bit_at_xor (bit_or a b) b j, or_bit a b j), p)

-- one bit times a mask, as `(s >> k) % 2 * m`
pub bits_times : (s k m : ℕ) → Bits (s / 2 ^ k % 2 * m) (λ j. Has s k × Has m j)
bits_times s k m = record {
  to = λ j h. fwd j h (ℕ_discrete (s / 2 ^ k % 2) 1);
  from = λ j h. rw (h.0, one-mul) h.1;
}
  where
    fwd : (j : ℕ) → Has (s / 2 ^ k % 2 * m) j → Dec (Has s k) → Has s k × Has m j
    fwd j h (yes p) = (p, rw (p, one-mul) at h)
    fwd j h (no p) = let q : s / 2 ^ k % 2 ≡ 0 = omega arith in absurd (has_zero j (rw (q, zero-mul) at h))

pub times_le : (s k m : ℕ) → s / 2 ^ k % 2 * m ≤ m
times_le s k m =
    elim (ℕ_discrete (s / 2 ^ k % 2) 1) [
      | yes p ↦ rw (p, one-mul) (omega arith)
      | no p ↦ let q : s / 2 ^ k % 2 ≡ 0 = omega arith in rw (q, zero-mul) (omega arith)
    ]

-- one bit at place n, as `((s >> k) % 2) << n`
pub bits_shl : (s k n : ℕ) → n < 16 → Bits (s / 2 ^ k % 2 * 2 ^ n % 65536) (λ j. Has s k × (j ≡ n))
bits_shl s k n l =
    rw (shl_exact {a = s / 2 ^ k % 2} 1 n 16 (omega arith) (omega arith))
    (bits_map (λ j h. (h.0, pow_has n j h.1)) (λ j h. (h.0, rw h.1 (has_pow n))) (bits_times s k (2 ^ n)))

-- a mask less its bit n, as `m ^ ((m >> n) % 2) << n`
pub bits_less : (m n : ℕ) → n < 16 → Bits (bit_xor m (m / 2 ^ n % 2 * 2 ^ n % 65536)) (λ j. (n ≢ j) × Has m j)
bits_less m n l = record { to = λ j h. fwd j h (ℕ_discrete n j); from = λ j h. bwd j h }
  where
    x : ℕ
    x = m / 2 ^ n % 2 * 2 ^ n % 65536

    bit : Bits x (λ j. Has m n × (j ≡ n))
    bit = bits_shl m n n l

    clear : (j : ℕ) → n ≢ j → x / 2 ^ j % 2 ≡ 0
    clear j ne =
        elim (ℕ_discrete (x / 2 ^ j % 2) 1) [
          | yes p ↦ absurd (ne (sym (bit.to j p).1))
          | no p ↦ omega arith
        ]

    fwd : (j : ℕ) → Has (bit_xor m x) j → Dec (n ≡ j) → (n ≢ j) × Has m j
    fwd j h (no ne) = (ne, let z = clear j ne in omega (arith, bit_at_xor m x j))
    fwd j h (yes e) =
        elim (ℕ_discrete (m / 2 ^ n % 2) 1) [
          | yes p ↦
              let a : Has m j = rw e at p in
              let b : Has x j = bit.from j (p, sym e) in
              absurd (omega (arith, bit_at_xor m x j))
          | no p ↦
              let a : m / 2 ^ j % 2 ≡ 1 → ⊥ = rw e at p in
              let b : Has x j → ⊥ = λ h. p (bit.to j h).0 in
              absurd (omega (arith, bit_at_xor m x j))
        ]

    bwd : (j : ℕ) → (n ≢ j) × Has m j → Has (bit_xor m x) j
    bwd j h = let z = clear j h.0 in let y = h.1 in omega (arith, bit_at_xor m x j)

-- a number is below two to its power
lt_pow : (n : ℕ) → n < 2 ^ n
lt_pow zero = omega arith
lt_pow (suc n) = let l = lt_pow n in rw pow-suc (omega arith)

-- a number that is not zero has a bit
some_bit : (f m : ℕ) → m < 2 ^ f → 0 < m → (k : ℕ) × Has m k
some_bit zero m h p = absurd (omega arith)
some_bit (suc f) m h p =
    elim (ℕ_discrete (m % 2) 1) [
      | yes q ↦ (0, rw div-one q)
      | no q ↦
          let d : m < 2 ^ f * 2 = rw pow-suc at h in
          let r : (k : ℕ) × Has (m / 2) k = some_bit f (m / 2) (omega arith) (omega arith) in
          (1 + r.0, ap (λ x. x % 2) (sym (shr-shr m 1 r.0)) ∙ r.1)
    ]

-- a mask whose bits are all below n is below 2 ^ n
pub bits_below : (n m : ℕ) → ((k : ℕ) → Has m k → k < n) → m < 2 ^ n
bits_below n m h =
    elim (dec_lt 0 (m / 2 ^ n)) [
      | no q ↦ let z : m < 1 * 2 ^ n = (div-lt_iff_lt-mul (pow_pos n)).0 (omega arith) in rw one-mul at z
      | yes q ↦
          let f = m / 2 ^ n in
          let s : (k : ℕ) × Has f k = some_bit f f (lt_pow f) q in
          let z : n + s.0 < n = h (n + s.0) (ap (λ x. x % 2) (sym (shr-shr m n s.0)) ∙ s.1) in
          absurd (omega arith)
    ]

pub below_bits : (n m : ℕ) → m < 65536 → ((k : ℕ) → Has m k → k < n) → m < 2 ^ n
below_bits n m l h = bits_below n m h

-- one bit, as `1 << n`
pub bits_one : (n : ℕ) → n < 16 → Bits (1 * 2 ^ n % 65536) (λ j. j ≡ n)
bits_one n l =
    rw (shl_exact {a = 1} 1 n 16 (omega arith) (omega arith), one-mul)
    (record { to = λ j h. pow_has n j h; from = λ j h. rw h (has_pow n) })
