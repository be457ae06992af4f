-- Numbers that are 0 where a fact holds, and nowhere else: how they are put together by `|`, `^` and `&`.
use mathlib.Core.Path.{◌≡◌, refl}
use mathlib.Core.Logic.{inl, inr}
use mathlib.Core.Bool.{Bool, true, false, ◌||◌, cond}
use Prim.Native.Nat.{ℕ, ◌*◌, ◌/◌, ◌%◌, max, ◌≤◌, ◌<◌}
use native.Mathlib.Decide.{dec_lt}
use native.Mathlib.Nat.{mod-eq_of_lt}
use native.Mathlib.Omega.{arith}
use lib.Bits.{bit_and, bit_or, and_le_l, and_le_r, and_mask, and_high, or_add_and}
use lib.Dec.{eqb, ltb}
use borrow.Author.Tests.{eqb-true, eqb-false, ltb-true, ltb-false}
use Rattle.update.specs.Answer.{NoPair}
use Rattle.update.specs.Parts.{CellFits, needed_for, outside_of}

-- v is 0 where Q holds, and nowhere else
pub record ZeroWhere (v : ℕ) (Q : Type 0) : Type 0 where
  pub holds : v ≡ 0 → Q
  pub zero : Q → v ≡ 0

pub zero_none : ZeroWhere 0 (Unit {0})
zero_none = record { holds = λ e. tt; zero = λ q. refl }

pub zero_map : {v : ℕ} {Q R : Type 0} → (Q → R) → (R → Q) → ZeroWhere v Q → ZeroWhere v R
zero_map f g z = record { holds = λ e. f (z.holds e); zero = λ r. z.zero (g r) }

-- both facts
pub zero_or : (v w : ℕ) {Q R : Type 0} → ZeroWhere v Q → ZeroWhere w R → ZeroWhere (bit_or v w) (Q × R)
zero_or v w p q = record {
  holds = λ e. let s = or_add_and v w in let l = and_le_l v w in let r = and_le_r v w in
      (p.holds (omega arith), q.holds (omega arith));
  zero = λ x. let s = or_add_and v w in let a = p.zero x.0 in let b = q.zero x.1 in omega arith;
}

-- a routine has too few parameters for a pair where no row of it has the pair
pub too_few : (k a b : ℕ) → k ≤ 7 → NoPair k a b → k < needed_for a b
too_few k a b l o = go (eqb a b) refl (eqb b 0) refl
  where
    less : NoPair k a b → ¬ (a ≡ b) → ¬ (b ≡ 0) → k < max a b
    less (inl e) x y = absurd (x e)
    less (inr (inl e)) x y = absurd (y e)
    less (inr (inr (inl h))) x y = omega arith
    less (inr (inr (inr h))) x y = omega arith

    go : (c : Bool) → eqb a b ≡ c → (d : Bool) → eqb b 0 ≡ d → k < cond (c || d) 8 (max a b)
    go true e d f = omega arith
    go false e true f = omega arith
    go false e false f = less o (eqb-false a b e) (eqb-false b 0 f)

pub no_pair_of : (k a b : ℕ) → k ≤ 7 → k < needed_for a b → NoPair k a b
no_pair_of k a b l h = go (eqb a b) refl (eqb b 0) refl h
  where
    go : (c : Bool) → eqb a b ≡ c → (d : Bool) → eqb b 0 ≡ d → k < cond (c || d) 8 (max a b) → NoPair k a b
    go true e d f g = inl (eqb-true a b e)
    go false e true f g = inr (inl (eqb-true b 0 f))
    go false e false f g = larger (dec_lt k a)
      where
        larger : Dec (k < a) → NoPair k a b
        larger (yes x) = inr (inr (inl x))
        larger (no x) = inr (inr (inr (omega arith)))

-- a byte has none of the bits that its cell may not have where it fits
pub zero_cell : (v k a b : ℕ) → v < 256 → k ≤ 7 → ZeroWhere (bit_and v (outside_of (needed_for a b) k)) (CellFits v a b k)
zero_cell v k a b l few = go (ltb k (needed_for a b)) refl
  where
    go : (c : Bool) → ltb k (needed_for a b) ≡ c → ZeroWhere (bit_and v (cond c 255 248)) (CellFits v a b k)
    go true t =
        let m : bit_and v 255 ≡ v % 256 = and_mask v 8 in
        let o = no_pair_of k a b few (ltb-true k (needed_for a b) t) in
        record {
          holds = λ e. record { small = omega arith; zero = λ x. omega arith };
          zero = λ c. let z = c.zero o in omega arith;
        }
    go false t =
        let m : bit_and v 248 ≡ (v / 8 % 32) * 8 = and_high v 5 3 in
        let d : v / 8 < 32 = omega arith in
        let q : v / 8 % 32 ≡ v / 8 = mod-eq_of_lt d in
        let n : ¬ NoPair k a b = λ x.
        let g = ltb-false k (needed_for a b) t in let h = too_few k a b few x in omega arith in
        record {
          holds = λ e. record { small = omega arith; zero = λ x. absurd (n x) };
          zero = λ c. let s = c.small in omega arith;
        }
