-- Whether rows are ones that their routines may have, cell by cell and row by row; what tests tell.
use mathlib.Core.Path.{◌≡◌, refl, sym, ap, ◌∙◌}
use mathlib.Core.Logic.{◌⊎◌, inl, inr}
use mathlib.Core.Bool.{Bool, true, false, ◌||◌, cond}
use mathlib.Core.List.{List}
use Prim.Native.Nat.{ℕ, ◌+◌, ◌*◌, ◌/◌, ◌%◌, max, ◌≤◌, ◌<◌}
use native.Mathlib.Omega.{arith}
use native.Mathlib.Decide.{ℕ_discrete}
use lib.Bits.{bit_and, bit_or}
use lib.Dec.{T, eqb, leb, leb→le, le→leb}
use borrow.Author.Tests.{eqb-true, eqb-false, lt-ltb, le-ltb}
use lib.ListN.{length, get_or, set, length-set}
use lib.Seq.{get_or-set_same, get_or-set_other}
use lib.ListN.{take, drop}
use Prim.Native.Nat.{◌-◌}
use Rattle.std.proofs.lemmas.List.Edits.{get_or-between}
use Rattle.update.specs.Parts.{Answers, CellFits, needed_for, Needed, outside_of, RowFits}
use Rattle.update.proofs.ZeroLaws.{ZeroWhere, zero_none, zero_map, zero_or, zero_cell}

-- what a pair needs, by the cases of its ends
pub never_needed : (a b : ℕ) → (a ≡ b) ⊎ (b ≡ 0) → ◌≡◌ {A = ℕ} 8 (needed_for a b)
never_needed a b o = go (eqb a b) refl (eqb b 0) refl o
  where
    go : (c : Bool) → eqb a b ≡ c → (d : Bool) → eqb b 0 ≡ d → (a ≡ b) ⊎ (b ≡ 0)
        → ◌≡◌ {A = ℕ} 8 (cond (c || d) 8 (max a b))
    go true e d f o = refl
    go false e true f o = refl
    go false e false f (inl x) = absurd (eqb-false a b e x)
    go false e false f (inr y) = absurd (eqb-false b 0 f y)

pub max_needed : (a b v : ℕ) → ¬ (a ≡ b) → ¬ (b ≡ 0) → v ≡ max a b → v ≡ needed_for a b
max_needed a b v x y e = go (eqb a b) refl (eqb b 0) refl
  where
    go : (c : Bool) → eqb a b ≡ c → (d : Bool) → eqb b 0 ≡ d → v ≡ cond (c || d) 8 (max a b)
    go true g d f = absurd (x (eqb-true a b g))
    go false g true f = absurd (y (eqb-true b 0 f))
    go false g false f = e

-- the bits that a cell may not have, by the cases of the test
pub outside_few : (n k : ℕ) → k < n → ◌≡◌ {A = ℕ} 255 (outside_of n k)
outside_few n k l = ap (λ (c : Bool). cond c 255 248) (sym (lt-ltb k n l))

pub outside_enough : (n k : ℕ) → n ≤ k → ◌≡◌ {A = ℕ} 248 (outside_of n k)
outside_enough n k l = ap (λ (c : Bool). cond c 255 248) (sym (le-ltb k n l))

-- the entries below i are what pairs need
pub record NeededTo (t : List ℕ) (i : ℕ) : Type 0 where
  pub long : length t ≡ 64
  pub entries : (j : ℕ) → j < i → get_or t j 0 ≡ needed_for (j / 8) (j % 8)

pub needed_more : (t : List ℕ) (i v : ℕ) → i < 64 → NeededTo t i → v ≡ needed_for (i / 8) (i % 8)
    → NeededTo (set t i v) (i + 1)
needed_more t i v l o e = record {
  long = length-set t i v ∙ o.long;
  entries = λ j k. go j k (ℕ_discrete j i);
}
  where
    go : (j : ℕ) → j < i + 1 → Dec (j ≡ i) → get_or (set t i v) j 0 ≡ needed_for (j / 8) (j % 8)
    go j k (yes z) = rw z (get_or-set_same t i v 0 (let n = o.long in omega arith) ∙ e)
    go j k (no n) = get_or-set_other t i j v 0 n ∙ o.entries j (omega arith)

-- the cells of row r below n fit
abbrev pub CellsFit : List ℕ → ℕ → ℕ → ℕ → Type 0
CellsFit model r k n = (i : ℕ) → i < n → CellFits (get_or model (65 * r + i) 0) (i / 8) (i % 8) k

pub cells_none : (model : List ℕ) (r k : ℕ) → ZeroWhere 0 (CellsFit model r k 0)
cells_none model r k = zero_map (λ (t : Unit {0}) i l. absurd (omega arith)) (λ f. tt) zero_none

pub cells_more : (model t : List ℕ) (r k i bad m : ℕ) → i < 64 → k ≤ 7 → Needed t
    → get_or model (65 * r + i) 0 < 256 → m ≡ outside_of (get_or t i 0) k → ZeroWhere bad (CellsFit model r k i)
    → ZeroWhere (bit_or bad (bit_and (get_or model (65 * r + i) 0) m)) (CellsFit model r k (i + 1))
cells_more model t r k i bad m l few o small e z =
    zero_map (λ w j h. go w j h (ℕ_discrete j i)) (λ f. (λ j h. f j (omega arith), f i (omega arith)))
    (zero_or bad (bit_and (get_or model (65 * r + i) 0) m) z cell)
  where
    cell : ZeroWhere (bit_and (get_or model (65 * r + i) 0) m) (CellFits (get_or model (65 * r + i) 0) (i / 8) (i % 8) k)
    cell =
        let f : m ≡ outside_of (needed_for (i / 8) (i % 8)) k = e ∙ ap (λ (n : ℕ). outside_of n k) (o.1 i l) in
        rw f (zero_cell (get_or model (65 * r + i) 0) k (i / 8) (i % 8) small few)

    go : CellsFit model r k i × CellFits (get_or model (65 * r + i) 0) (i / 8) (i % 8) k → (j : ℕ) → j < i + 1
        → Dec (j ≡ i) → CellFits (get_or model (65 * r + j) 0) (j / 8) (j % 8) k
    go w j h (yes y) = rw y w.1
    go w j h (no n) = w.0 j (omega arith)

-- the same, as code reads the cell from the row
pub cells_turn : (model t : List ℕ) (r k i j bad m v n : ℕ)
    → v ≡ get_or (take (65 * r + 65 - 65 * r) (drop (65 * r) model)) i 0 → n ≡ get_or t i 0 → i < length t → j ≡ i + 1
    → k ≤ 7 → Needed t → ((x : ℕ) → get_or model x 0 < 256) → m ≡ outside_of n k
    → ZeroWhere bad (CellsFit model r k i) → ZeroWhere (bit_or bad (bit_and v m)) (CellsFit model r k j)
cells_turn model t r k i j bad m v n ev en l ej few o small em z =
    let h : i < 64 = let x = o.0 in omega arith in
    let e : v ≡ get_or model (65 * r + i) 0 = ev ∙ get_or-between model (65 * r) (65 * r + 65) i 0 (omega arith) in
    let f : m ≡ outside_of (get_or t i 0) k = em ∙ ap (λ (x : ℕ). outside_of x k) en in
    rw (e, ej) (cells_more model t r k i bad m h few o (small (65 * r + i)) f z)

-- the rows below n fit
abbrev pub RowsFitBelow : List ℕ → List ℕ → ℕ → Type 0
RowsFitBelow ks model n = (r : ℕ) → r < n → RowFits model r (get_or ks r 0)

pub one_more_row : (ks model : List ℕ) (n : ℕ) → RowsFitBelow ks model n → RowFits model n (get_or ks n 0)
    → RowsFitBelow ks model (n + 1)
one_more_row ks model n f c r l = go (ℕ_discrete r n)
  where
    go : Dec (r ≡ n) → RowFits model r (get_or ks r 0)
    go (yes e) = rw e c
    go (no ne) = f r (omega arith)

-- what a test tells
pub told_true : (c : Bool) (Q : Type 0) → c ≡ true → Answers c Q → Q
told_true true Q e t = t
told_true false Q e t = absurd (let z : ◌≡◌ {A = ℕ} 0 1 = cc in omega arith)

pub told_false : (c : Bool) (Q : Type 0) → c ≡ false → Answers c Q → ¬ Q
told_false true Q e t = absurd (let z : ◌≡◌ {A = ℕ} 0 1 = cc in omega arith)
told_false false Q e t = t

pub answers_le : (v : ℕ) → Answers (leb v 1) (v ≤ 1)
answers_le v = go (leb v 1) refl
  where
    go : (c : Bool) → leb v 1 ≡ c → Answers c (v ≤ 1)
    go true e = leb→le v 1 (rw e tt)
    go false e = λ l. let t : T (leb v 1) = le→leb v 1 l in rw e at t
