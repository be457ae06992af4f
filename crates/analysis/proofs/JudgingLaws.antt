-- The bits of a mask counted, and its lowest bit.
use mathlib.Core.Path.{◌≡◌, refl, sym, ap, ◌∙◌}
use mathlib.Core.Logic.{inl, inr}
use mathlib.Core.List.{List, [], ◌∷◌, map}
use Prim.Native.Nat.{ℕ, zero, suc, ◌+◌, ◌*◌, ◌/◌, ◌%◌, ◌^◌, ◌<◌}
use native.Mathlib.Nat.{div-one, pow-suc}
use native.Mathlib.Omega.{arith}
use native.Mathlib.Decide.{ℕ_discrete}
use lib.ListN.{length-map}
use lib.Count.{ones, ones_step, ones-le, count_trailing_zeros, under}
use lib.Pow.{shr-shr}
use Rattle.table.specs.WellFormed.{In, NoDup}
use Rattle.table.proofs.Laws.Lists.{In-map, NoDup-map}
use Rattle.rules.specs.Share.{Count}
use Rattle.rules.proofs.Laws.Share.{count_map}
use Rattle.grid.specs.Rows.{Has, Bits}
use Rattle.grid.proofs.Laws.Masks.{has_zero}
use Rattle.analysis.specs.Laws.Judging.{Lowest}

-- the bits of a number above its lowest are those of its half
half_bit : (m j : ℕ) → m / 2 / 2 ^ j % 2 ≡ m / 2 ^ suc j % 2
half_bit m j =
    let e : 1 + j ≡ suc j = omega arith in
    ap (λ (x : ℕ). x % 2) (shr-shr m 1 j ∙ ap (λ (i : ℕ). m / 2 ^ i) e)

has_half : (m j : ℕ) → Has (m / 2) j → Has m (suc j)
has_half m j h = sym (half_bit m j) ∙ h

half_has : (m j : ℕ) → Has m (suc j) → Has (m / 2) j
half_has m j h = half_bit m j ∙ h

has_odd : (m : ℕ) → m % 2 ≡ 1 → Has m 0
has_odd m e = ap (λ (x : ℕ). x % 2) (div-one m) ∙ e

odd_has : (m : ℕ) → Has m 0 → m % 2 ≡ 1
odd_has m h = ap (λ (x : ℕ). x % 2) (sym (div-one m)) ∙ h

in_suc : (j : ℕ) (l : List ℕ) → In j l → In (suc j) (map suc l)
in_suc j [] x' = elim x' [ ]
in_suc j (x ∷ l) (inl e) = inl (ap suc e)
in_suc j (x ∷ l) (inr i) = inr (in_suc j l i)

suc_once : (l : List ℕ) → NoDup l → NoDup (map suc l)
suc_once l d = NoDup-map suc (λ x y e. omega arith) l d

-- the bits of a number, from those of its half
module _ (m : ℕ) (half : Count (Has (m / 2)) (ones (m / 2))) where
  above : (j : ℕ) → In j (map suc half.list) → (i : ℕ) × Has m j × (j ≡ suc i)
  above j h =
      let w = In-map suc j half.list h in
      (w.0, rw w.2 (has_half m w.0 (half.only w.0 w.1)), w.2)

  inside : (j : ℕ) → Has m (suc j) → In (suc j) (map suc half.list)
  inside j h = in_suc j half.list (half.all j (half_has m j h))

  count_odd : m % 2 ≡ 1 → Count (Has m) (ones m)
  count_odd e = record {
    list = 0 ∷ map suc half.list;
    once = (
      (λ h. let w = above 0 h in let z : 0 ≡ suc w.0 = w.2 in omega arith),
      suc_once half.list half.once,
    );
    only = only;
    all = all;
    size = omega (arith, length-map half.list suc, half.size, ones_step m);
  }
    where
      only : (j : ℕ) → In j (0 ∷ map suc half.list) → Has m j
      only j (inl z) = rw z (has_odd m e)
      only j (inr h) = (above j h).1

      all : (j : ℕ) → Has m j → In j (0 ∷ map suc half.list)
      all zero h = inl refl
      all (suc j) h = inr (inside j h)

  count_even : m % 2 ≡ 0 → Count (Has m) (ones m)
  count_even e = record {
    list = map suc half.list;
    once = suc_once half.list half.once;
    only = λ j h. (above j h).1;
    all = all;
    size = omega (arith, length-map half.list suc, half.size, ones_step m);
  }
    where
      all : (j : ℕ) → Has m j → In j (map suc half.list)
      all zero h = let o = odd_has m h in absurd (omega arith)
      all (suc j) h = inside j h

count_below : (k m : ℕ) → m < 2 ^ k → Count (Has m) (ones m)
count_below zero m l = record {
  list = [];
  once = tt;
  only = λ r i. absurd i;
  all = λ r h. has_zero r (let z : m ≡ 0 = omega arith in rw z at h);
  size = omega (arith, ones-le 0 m l);
}
count_below (suc k) m l =
    let d : m < 2 ^ k * 2 = rw pow-suc at l in
    let half = count_below k (m / 2) (omega arith) in
    elim (ℕ_discrete (m % 2) 1) [
      | yes e ↦ count_odd m half e
      | no e ↦ count_even m half (omega arith)
    ]

-- a mask that has the bits of Q counts them
pub count_bits : (Q : ℕ → Type 0) (m : ℕ) → m < 2 ^ 64 → Bits m Q → Count Q (ones m)
count_bits Q m l b = count_map b.to b.from (count_below 64 m l)

-- the zeros below the lowest bit are its place
pub lowest_below : (k m : ℕ) → 0 < m → m < 2 ^ k → Lowest m (count_trailing_zeros k m)
unfolding count_trailing_zeros
lowest_below zero m p l = absurd (omega arith)
lowest_below (suc k) m p l = by (m % 2) refl (lowest_below k (m / 2))
  where
    d : m < 2 ^ k * 2
    d = rw pow-suc at l

    none : m % 2 ≡ 0 → Lowest (m / 2) (count_trailing_zeros k (m / 2))
        → (q : ℕ) → q < suc (count_trailing_zeros k (m / 2)) → Has m q → ⊥
    none e half zero s h = let o = odd_has m h in omega arith
    none e half (suc q) s h = half.lowest q (omega arith) (half_has m q h)

    by : (b : ℕ) → m % 2 ≡ b → (0 < m / 2 → m / 2 < 2 ^ k → Lowest (m / 2) (count_trailing_zeros k (m / 2)))
        → Lowest m (under b (count_trailing_zeros k (m / 2)))
    by zero e rest =
        let half = rest (omega arith) (omega arith) in
        record { bit = has_half m (count_trailing_zeros k (m / 2)) half.bit; lowest = none e half }
    by (suc b) e rest = record { bit = has_odd m (omega arith); lowest = λ q s h. absurd (omega arith) }
