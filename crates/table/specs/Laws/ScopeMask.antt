-- The names in scope as the bits of a number, as code keeps them.
use Rattle.std.specs.Prelude.{◌≡◌, refl, Bool, true, false, cond, List, [], ◌∷◌, ℕ, zero, suc, ◌+◌, ◌*◌, ◌-◌, ◌/◌, ◌%◌, ◌^◌}
use Rattle.std.specs.Prelude.{◌≤◌, ◌<◌, leb, eqb}
use Rattle.std.proofs.Common.{sym, ap, subst, ◌∙◌, pow-suc, mul_assoc, arith, le-leb, eq-eqb, ne_eqb, leb-true, leb-false}
use Rattle.std.proofs.Math.Nat.{two-pow-succ, pow-le-pow_right, div-eq_of_lt, add-mul-div_left, div-eq_of_lt-le}
use Rattle.std.proofs.Math.Decide.{dec_lt}
use Rattle.std.proofs.lemmas.Bool.{lt-leb}
use Rattle.table.specs.Program.{names}
use Rattle.table.specs.Check.{in?}

-- the places below n of the bits of m, the highest first
abbrev pub bits_below : ℕ → ℕ → List ℕ
bits_below zero m = []
bits_below (suc n) m = cond (leb (2 ^ n) m) (n ∷ bits_below n (m - 2 ^ n)) (bits_below n m)

-- the names of a mask: names are below 16
unfoldable pub bits : ℕ → List ℕ
bits m = bits_below 16 m

pub grows : (x n : ℕ) → x ≤ n → 2 ^ x ≤ 2 ^ n
grows x n le = pow-le-pow_right (omega arith) le

some_pow : (n : ℕ) → 0 < 2 ^ n
some_pow n = let h : 2 ^ 0 ≤ 2 ^ n = grows 0 n (omega arith) in omega arith

pub double : (n : ℕ) → 2 ^ suc n ≡ 2 ^ n + 2 ^ n
double n = two-pow-succ n

-- what `1 << x` is
pub shift_one : (x : ℕ) → x < 64 → (1 * 2 ^ x) % 18446744073709551616 ≡ 2 ^ x
shift_one x l =
    let g : 2 ^ suc x ≤ 2 ^ 64 = grows (suc x) 64 l in
    let h : 2 ^ suc x ≡ 2 ^ x + 2 ^ x = double x in
    let k : 2 ^ 0 ≤ 2 ^ x = grows 0 x (omega arith) in
    omega arith

-- a name above all others comes first
add_below : (n x m : ℕ) → x < n → m < 2 ^ x → bits_below n (m + 2 ^ x) ≡ x ∷ bits_below n m
add_below zero x m l h = absurd (omega arith)
add_below (suc n) x m l h = elim (dec_lt x n) [
  | yes lt ↦
      let g : 2 ^ suc x ≤ 2 ^ n = grows (suc x) n lt in
      let e : 2 ^ suc x ≡ 2 ^ x + 2 ^ x = double x in
      rw (lt-leb (2 ^ n) (m + 2 ^ x) (omega arith), lt-leb (2 ^ n) m (omega arith)) (add_below n x m lt h)
  | no ge ↦
      let e : x ≡ n = omega arith in
      let h' : m < 2 ^ n = subst (λ (v : ℕ). m < 2 ^ v) e h in
      let e' : m + 2 ^ n - 2 ^ n ≡ m = omega arith in
      rw (e, le-leb (2 ^ n) (m + 2 ^ n) (omega arith), lt-leb (2 ^ n) m h', e')
]

pub bits_add : (x m : ℕ) → x < 16 → m < 2 ^ x → bits (m + 2 ^ x) ≡ x ∷ bits m
unfolding bits
bits_add x m l h = add_below 16 x m l h

-- the parameters
pub bits_names : (k : ℕ) → k ≤ 7 → bits (2 ^ (k + 1) - 2) ≡ names k
unfolding bits
bits_names zero l = refl
bits_names (suc zero) l = refl
bits_names (suc (suc zero)) l = refl
bits_names (suc (suc (suc zero))) l = refl
bits_names (suc (suc (suc (suc zero)))) l = refl
bits_names (suc (suc (suc (suc (suc zero))))) l = refl
bits_names (suc (suc (suc (suc (suc (suc zero)))))) l = refl
bits_names (suc (suc (suc (suc (suc (suc (suc zero))))))) l = refl
bits_names (suc (suc (suc (suc (suc (suc (suc (suc k)))))))) l = absurd (omega arith)

pow-add : (a b : ℕ) → 2 ^ (a + b) ≡ 2 ^ a * 2 ^ b
pow-add a zero = let e : a + 0 ≡ a = omega arith in rw e (let h : 2 ^ a * 1 ≡ 2 ^ a = omega arith in sym h)
pow-add a (suc b) =
    let e : a + suc b ≡ suc (a + b) = omega arith in
    rw (e, pow-suc 2 (a + b), pow-suc 2 b, pow-add a b) (mul_assoc (2 ^ a) (2 ^ b) 2)

-- a higher bit makes no difference to a lower one
pub lower : (x n r : ℕ) → x < n → (2 ^ n + r) / 2 ^ x % 2 ≡ r / 2 ^ x % 2
lower x n r lt =
    let e : n ≡ x + suc (n - suc x) = omega arith in
    let p : 2 ^ n ≡ 2 ^ x * 2 ^ suc (n - suc x) = ap (λ (v : ℕ). 2 ^ v) e ∙ pow-add x (suc (n - suc x)) in
    let q : 2 ^ n + r ≡ r + 2 ^ x * 2 ^ suc (n - suc x) = omega arith in
    let d : (r + 2 ^ x * 2 ^ suc (n - suc x)) / 2 ^ x ≡ r / 2 ^ x + 2 ^ suc (n - suc x) = add-mul-div_left r
    (2 ^ suc (n - suc x)) (some_pow x) in
    let t : 2 ^ suc (n - suc x) ≡ 2 ^ (n - suc x) + 2 ^ (n - suc x) = double (n - suc x) in
    rw (q, d, t) (omega arith)

none_above : (n x m : ℕ) → n ≤ x → in? x (bits_below n m) ≡ false
none_above zero x m l = refl
none_above (suc n) x m l = step (leb (2 ^ n) m) (none_above n x (m - 2 ^ n) (omega arith)) (none_above n x m
    (omega arith))
  where
    step : (b : Bool) → in? x (bits_below n (m - 2 ^ n)) ≡ false → in? x (bits_below n m) ≡ false → in? x
        (cond b (n ∷ bits_below n (m - 2 ^ n)) (bits_below n m)) ≡ false
    step true p q = rw (ne_eqb x n (λ e. omega arith)) p
    step false p q = q

test_below : (n x m : ℕ) → x < n → m < 2 ^ n → in? x (bits_below n m) ≡ eqb (m / 2 ^ x % 2) 1
test_below zero x m l h = absurd (omega arith)
test_below (suc n) x m l h = step (leb (2 ^ n) m) refl (λ lt g. test_below n x (m - 2 ^ n) lt g)
    (λ lt g. test_below n x m lt g)
  where
    step : (b : Bool) → leb (2 ^ n) m ≡ b → (x < n → m - 2 ^ n < 2 ^ n → in? x (bits_below n (m - 2 ^ n)) ≡ eqb
        ((m - 2 ^ n) / 2 ^ x % 2) 1) → (x < n → m < 2 ^ n → in? x (bits_below n m) ≡ eqb (m / 2 ^ x % 2) 1)
        → in? x (cond b (n ∷ bits_below n (m - 2 ^ n)) (bits_below n m)) ≡ eqb (m / 2 ^ x % 2) 1
    step true e p q =
        let le : 2 ^ n ≤ m = leb-true (2 ^ n) m e in
        let db : 2 ^ suc n ≡ 2 ^ n + 2 ^ n = double n in
        elim (dec_lt x n) [
          | yes lt ↦
              let s : 2 ^ n + (m - 2 ^ n) ≡ m = omega arith in
              rw (ne_eqb x n (λ z. omega arith)) (p lt (omega arith) ∙ ap (λ (v : ℕ). eqb v 1)
              (sym (lower x n (m - 2 ^ n) lt) ∙ ap (λ (v : ℕ). v / 2 ^ x % 2) s))
          | no ge ↦
              let z : x ≡ n = omega arith in
              let d : m / 2 ^ n ≡ 1 = div-eq_of_lt-le (2 ^ n) (omega arith) (omega arith) in
              rw (z, eq-eqb n n refl, d)
        ]
    step false e p q =
        let lt' : m < 2 ^ n = leb-false (2 ^ n) m e in
        elim (dec_lt x n) [
          | yes lt ↦ q lt lt'
          | no ge ↦
              let z : x ≡ n = omega arith in
              let d : m / 2 ^ n ≡ 0 = div-eq_of_lt lt' in
              rw (z, d) (none_above n n m (omega arith))
        ]

-- the test that code makes
pub bits_test : (x m : ℕ) → x < 16 → m < 2 ^ 16 → in? x (bits m) ≡ eqb (m / 2 ^ x % 2) 1
unfolding bits
bits_test x m l h = test_below 16 x m l h

-- a name of 16 or more is in no scope
pub bits_above : (x m : ℕ) → 16 ≤ x → in? x (bits m) ≡ false
unfolding bits
bits_above x m l = none_above 16 x m l
