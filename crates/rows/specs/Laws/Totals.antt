-- The sum of a list's bytes: its bound, how a store changes it, and what flags tell of it.
use Rattle.std.specs.Prelude.{◌≡◌, Bool, true, false, ◌||◌, List, [], ◌∷◌, ℕ, zero, suc, ◌+◌, ◌-◌, ◌*◌, ◌<◌, ◌≤◌, get_or}
use Rattle.std.specs.Prelude.{set, length}
use Rattle.std.proofs.Common.{ap, ◌∙◌, arith}
use Rattle.rows.specs.Model.{total, Moves}

pub total_set : (l : List ℕ) (i v : ℕ) → i < length l → total (set l i v) + get_or l i 0 ≡ total l + v
unfolding total
total_set [] i v h = absurd (omega arith)
total_set (x ∷ l) zero v h = omega arith
total_set (x ∷ l) (suc i) v h =
    let e : total (set l i v) + get_or l i 0 ≡ total l + v = total_set l i v (omega arith) in omega arith

-- each byte is at most 255
pub total_le : (l : List ℕ) → ((i : ℕ) → get_or l i 0 < 256) → total l ≤ 255 * length l
unfolding total
total_le [] h = omega arith
total_le (x ∷ l) h =
    let p : x < 256 = h 0 in
    let q : total l ≤ 255 * length l = total_le l (λ i. h (suc i)) in
    omega arith

pub total_same : (l m : List ℕ) → l ≡ m → total l ≡ total m
total_same l m e = ap total e

-- no change lowers the sum
pub moves_le : (r : Bool) (l m : List ℕ) → Moves r l m → total l ≤ total m
moves_le true l m p = omega arith
moves_le false l m p = let e : total m ≡ total l = ap total p in omega arith

-- two steps, one after the other
pub moves_or : (c d : Bool) (e m x : List ℕ) → Moves c e m → Moves d m x → Moves (c || d) e x
moves_or true d e m x p q = let r : total m ≤ total x = moves_le d m x q in omega arith
moves_or false true e m x p q = rw p at q
moves_or false false e m x p q = q ∙ p

-- after a change there is less room for another
pub room_falls :
    (r : Bool) (l m : List ℕ) → r ≡ true → length m ≡ length l → ((i : ℕ) → get_or m i 0 < 256) → Moves r l m
    → 255 * length m - total m < 255 * length l - total l
room_falls r l m e k h t = let s : total l < total m = rw e at t in omega (arith, total_le m h)
