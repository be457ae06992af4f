-- The bits of masks: those of a low part, and the byte of a cell.
use mathlib.Core.Path.{◌≡◌, refl, sym, ap, ◌∙◌}
use mathlib.Core.Logic.{◌⊎◌, inl, inr, ⊎_elim}
use Prim.Native.Nat.{ℕ, zero, suc, ◌+◌, ◌*◌, ◌/◌, ◌%◌, ◌^◌, ◌<◌, ◌≤◌}
use native.Mathlib.Omega.{arith}
use native.Mathlib.Decide.{ℕ_discrete}
use native.Mathlib.Nat.{one-mul, zero-mul, eq-or-lt_of_le}
use lib.Pow.{pow_pos, shr-shr, mod-pow-add}
use Rattle.table.specs.Constants.{most_forks}
use Rattle.rules.specs.Label.{Label, own, forked, unknown, several, cut}
use Rattle.rules.specs.Number.{number, label_of, labels}
use Rattle.rules.proofs.Laws.Number.{LabelCase, is_own, is_fork, is_unknown, is_several, label_case}
use Rattle.grid.proofs.Laws.Masks.{has_below, below_bits}
use Rattle.grid.specs.Rows.{Has, Bits}
use Rattle.rows.specs.Bytes.{Labelled}
use Rattle.rows.specs.Added.{bit_of, CellBit}

mod_suc : (f x : ℕ) → x % 2 ^ suc f ≡ x / 2 ^ f % 2 * 2 ^ f + x % 2 ^ f
mod_suc f x = let e : suc f ≡ 1 + f = omega arith in ap (λ n. x % 2 ^ n) e ∙ mod-pow-add x 1 f

-- one of the lowest f bits is set, or their number is zero
low_bit : (f x : ℕ) → ((k : ℕ) × (k < f) × Has x k) ⊎ (x % 2 ^ f ≡ 0)
low_bit zero x = inr (omega arith)
low_bit (suc f) x = ⊎_elim (λ w. inl (w.0, omega arith, w.2)) here (low_bit f x)
  where
    here : x % 2 ^ f ≡ 0 → ((k : ℕ) × (k < suc f) × Has x k) ⊎ (x % 2 ^ suc f ≡ 0)
    here e =
        elim (ℕ_discrete (x / 2 ^ f % 2) 1) [
          | yes p ↦ inl (f, omega arith, p)
          | no p ↦
              let z : x / 2 ^ f % 2 ≡ 0 = omega arith in
              inr (mod_suc f x ∙ rw (z, e, zero-mul))
        ]

no_low_bit : (f x k : ℕ) → x % 2 ^ f ≡ 0 → k < f → Has x k → ⊥
no_low_bit zero x k e l h = omega arith
no_low_bit (suc f) x k e l h =
    ⊎_elim (λ i. here (rw i at h)) (λ i. no_low_bit f x k (omega (arith, sum)) i h) (eq-or-lt_of_le (omega arith))
  where
    sum : x / 2 ^ f % 2 * 2 ^ f + x % 2 ^ f ≡ 0
    sum = sym (mod_suc f x) ∙ e

    here : Has x f → ⊥
    here p = let q : 1 * 2 ^ f + x % 2 ^ f ≡ 0 = rw p at sum in omega (arith, one-mul (2 ^ f), pow_pos f)

half_bit : (m n : ℕ) → m / 2 / 2 ^ n % 2 ≡ m / 2 ^ suc n % 2
half_bit m n =
    let e : 1 + n ≡ suc n = omega arith in ap (λ x. x % 2) (shr-shr m 1 n) ∙ ap (λ k. m / 2 ^ k % 2) e

-- a byte with no bit is zero
pub no_bits : (m : ℕ) → m < 256 → ((k : ℕ) → Has m k → ⊥) → m ≡ 0
no_bits m l h = let z : m < 2 ^ 0 = below_bits 0 m (omega arith) (λ k p. absurd (h k p)) in omega arith

-- the forks and unknown have one bit in a row
middle_bit : (n : ℕ) → 1 ≤ n → n ≤ number unknown → bit_of (label_of n) ≡ 1
middle_bit n h k = go (label_case most_forks n)
  where
    go : LabelCase most_forks n (label_of n) → bit_of (label_of n) ≡ 1
    go (is_own e l) = absurd (omega arith)
    go (is_fork lo hi l) = rw l
    go (is_unknown e l) = rw l
    go (is_several lo l) = absurd (omega arith)

-- the byte of a cell, where u is 1 if a fork or unknown is in the mask, else 0
module _ (m v u : ℕ) (sum : v ≡ m % 2 + 4 * (m / 2 ^ number several % 2) + 2 * u) (low : u < 2) where
  module _ (some : u ≡ 1 → m / 2 % 2 ^ number unknown ≡ 0 → ⊥) (none : u ≡ 0 → m / 2 % 2 ^ number unknown ≡ 0) where
    from_bit : (j : ℕ) → Has v j → CellBit m j
    from_bit zero h = (own, (0, omega arith, refl, omega arith), refl)
    from_bit (suc zero) h =
        ⊎_elim
        (λ w. (
          label_of (suc w.0),
          (suc w.0, let l = w.1 in omega arith, refl, sym (half_bit m w.0) ∙ w.2),
          sym (middle_bit (suc w.0) (omega arith) w.1),
        ))
        (λ e. absurd (some (omega arith) e))
        (low_bit (number unknown) (m / 2))
    from_bit (suc (suc zero)) h = (several, (number several, omega arith, refl, omega arith), refl)
    from_bit (suc (suc (suc j))) h = let z = has_below v 3 (suc (suc (suc j))) (omega arith) h in absurd (omega arith)

    named_bit : (n : ℕ) → 1 ≤ n → n ≤ number unknown → Has m n → u ≡ 1
    named_bit zero l k h = absurd (omega arith)
    named_bit (suc n) l k h =
        elim (ℕ_discrete u 0) [
          | yes e ↦
              absurd (no_low_bit (number unknown) (m / 2) n (none e) (omega arith) (half_bit m n ∙ h))
          | no e ↦ omega arith
        ]

    to_bit : (j n : ℕ) → n < labels → Has m n → j ≡ bit_of (label_of n) → Has v j
    to_bit j n l h e = go (label_case most_forks n)
      where
        middle : 1 ≤ n → n ≤ number unknown → Has v j
        middle lo hi = let q = named_bit n lo hi h in rw (e, middle_bit n lo hi) (omega arith)

        go : LabelCase most_forks n (label_of n) → Has v j
        go (is_own z k) = let q : Has m 0 = rw z at h in rw (e, k) (omega arith)
        go (is_fork lo hi k) = middle lo (omega arith)
        go (is_unknown z k) = middle (omega arith) (omega arith)
        go (is_several lo k) =
            let i : n ≡ number several = omega arith in
            let q : Has m (number several) = rw i at h in
            rw (e, k) (omega arith)

    pub cell_bits_lem : Bits v (CellBit m)
    cell_bits_lem = record {
      to = from_bit;
      from = λ j w. to_bit j w.1.0 w.1.1 w.1.3 (w.2 ∙ ap bit_of w.1.2);
    }

pub bit_lt : (l : Label) → bit_of l < 3
bit_lt own = omega arith
bit_lt (forked i) = omega arith
bit_lt unknown = omega arith
bit_lt several = omega arith

-- the label in a row that a bit stands for
abbrev label_at : ℕ → Label
label_at zero = own
label_at (suc zero) = unknown
label_at (suc (suc j)) = several

label_at_lem : (l : Label) → label_at (bit_of l) ≡ cut l
label_at_lem own = refl
label_at_lem (forked i) = refl
label_at_lem unknown = refl
label_at_lem several = refl

-- a label of a row is the cut one of each label with its bit
pub cut_bit : (l m : Label) → l ≡ cut l → bit_of l ≡ bit_of m → l ≡ cut m
cut_bit l m e b = e ∙ (sym (label_at_lem l) ∙ (ap label_at b ∙ label_at_lem m))

pub labelled_has : (v : ℕ) (l : Label) → Labelled v l → Has v (bit_of l) × (l ≡ cut l)
labelled_has v (forked _) h = elim h [ ]
labelled_has v own h = (h, refl)
labelled_has v unknown h = (h, refl)
labelled_has v several h = (h, refl)

pub has_labelled : (v : ℕ) (l : Label) → Has v (bit_of l) → Labelled v (cut l)
has_labelled v own h = h
has_labelled v (forked i) h = h
has_labelled v unknown h = h
has_labelled v several h = h
