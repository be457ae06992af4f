-- Bytes of a list from an offset on, and what closes a code.
use Rattle.std.specs.Prelude.{◌≡◌, refl, Bool, true, false, cond, List, [], ◌∷◌, ◌++◌, ℕ, zero, suc, ◌+◌, ◌<◌}
use Rattle.std.specs.Prelude.{length, get_or, drop}
use Rattle.std.proofs.Common.{arith}
use Rattle.table.specs.Constants.{Op, END, OTHER, code}
use Rattle.links.specs.Lies.{closer}

-- the item that closes a first alternative, or another block
abbrev pub op_for : Bool → Op
op_for o = cond o OTHER END

pub closer_is : (o : Bool) → closer o ≡ code (op_for o)
closer_is true = refl
closer_is false = refl

-- the first of them
pub drop_inside : (s : List ℕ) (i x : ℕ) (l : List ℕ) → drop i s ≡ x ∷ l → i < length s
drop_inside [] zero x l e = absurd (let y : ◌≡◌ {A = ℕ} 0 1 = cc in omega arith)
drop_inside [] (suc i) x l e = absurd (let y : ◌≡◌ {A = ℕ} 0 1 = cc in omega arith)
drop_inside (y ∷ s) zero x l e = omega arith
drop_inside (y ∷ s) (suc i) x l e = let h = drop_inside s i x l e in omega (arith, h)

pub drop_here : (s : List ℕ) (i x : ℕ) (l : List ℕ) → drop i s ≡ x ∷ l → get_or s i 0 ≡ x
drop_here [] zero x l e = absurd (let y : ◌≡◌ {A = ℕ} 0 1 = cc in omega arith)
drop_here [] (suc i) x l e = absurd (let y : ◌≡◌ {A = ℕ} 0 1 = cc in omega arith)
drop_here (y ∷ s) zero x l e = cc
drop_here (y ∷ s) (suc i) x l e = drop_here s i x l e

-- those after it
pub drop_next : (s : List ℕ) (i x : ℕ) (l : List ℕ) → drop i s ≡ x ∷ l → drop (i + 1) s ≡ l
drop_next [] zero x l e = absurd (let y : ◌≡◌ {A = ℕ} 0 1 = cc in omega arith)
drop_next [] (suc i) x l e = absurd (let y : ◌≡◌ {A = ℕ} 0 1 = cc in omega arith)
drop_next (y ∷ s) zero x l e = cc
drop_next (y ∷ s) (suc i) x l e = let h : suc i + 1 ≡ suc (i + 1) = omega arith in rw h (drop_next s i x l e)

-- those after a list
pub drop_past : (s : List ℕ) (i : ℕ) (xs l : List ℕ) → drop i s ≡ xs ++ l → drop (i + length xs) s ≡ l
drop_past s i [] l e = let h : i + 0 ≡ i = omega arith in rw h e
drop_past s i (x ∷ xs) l e =
    let h : i + suc (length xs) ≡ i + 1 + length xs = omega arith in
    rw h (drop_past s (i + 1) xs l (drop_next s i x (xs ++ l) e))

-- the entries of the list
pub drop_entry : (s : List ℕ) (i : ℕ) (xs l : List ℕ) (j : ℕ) → drop i s ≡ xs ++ l → j < length xs
    → (i + j < length s) × (get_or s (i + j) 0 ≡ get_or xs j 0)
drop_entry s i [] l j e h = absurd (omega (arith, h))
drop_entry s i (x ∷ xs) l zero e h =
    let g : i + 0 ≡ i = omega arith in
    rw g (drop_inside s i x (xs ++ l) e, drop_here s i x (xs ++ l) e)
drop_entry s i (x ∷ xs) l (suc j) e h =
    let g : i + suc j ≡ i + 1 + j = omega arith in
    rw g (drop_entry s (i + 1) xs l j (drop_next s i x (xs ++ l) e) (omega (arith, h)))
