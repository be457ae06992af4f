-- A grid is square: what owning one tells, and what a store leaves.
use Rattle.std.specs.Prelude.{◌≡◌, List, [], ◌∷◌, ℕ, zero, suc, ◌<◌, get_or, length, set}
use Rattle.std.proofs.Common.{◌∙◌, arith, length-set, get_or-set_same, get_or-set_other}
use Rattle.std.proofs.Math.Decide.{ℕ_discrete}
use mir.Val.{Val}
use Rattle.std.specs.Int.{w16}
use denote.Array.{each, in_array}
use denote.Shadow.{shadow}
use denote.Plain.{UInt}
use Rattle.grid.specs.Grid.{Square}

-- what holding an array of rows tells: each row has n elements, and each element is a 16-bit number
pub row_long :
    (n : ℕ) (g : List (List ℕ)) (us : List Val) → shadow (each (List ℕ) (in_array ℕ (UInt w16).own_val n) g us)
    → (i : ℕ) → i < length g → length (get_or g i []) ≡ n
row_long n [] us p i h = absurd (omega arith)
row_long n (r ∷ rs) [] p i h = absurd p
row_long n (r ∷ rs) (u ∷ us) p zero h = p.0.1.0.1
row_long n (r ∷ rs) (u ∷ us) p (suc i) h = row_long n rs us p.1 i (omega arith)

-- a grid that is owned is square
pub square_of : (g : List (List ℕ)) (us : List Val) → length g ≡ 16
    → shadow (each (List ℕ) (in_array ℕ (UInt w16).own_val 16) g us) → Square g
square_of g us l h = record { rows = l; columns = λ a la. row_long 16 g us h a (omega arith) }

-- a store of a row leaves it square, and so does a store of a mask
pub square_put :
    (g : List (List ℕ)) (a : ℕ) (t : List ℕ) → a < 16 → length t ≡ 16 → Square g → Square (set g a t)
square_put g a t l e s = record {
  rows = length-set g a t ∙ s.rows;
  columns = λ i li. step i li (ℕ_discrete i a);
}
  where
    step : (i : ℕ) → i < 16 → Dec (i ≡ a) → length (get_or (set g a t) i []) ≡ 16
    step i li (yes q) = let r = s.rows in rw (q, get_or-set_same g a t [] (omega arith)) e
    step i li (no n) = rw (get_or-set_other g a i t [] n) (s.columns i li)

pub square_set : (g : List (List ℕ)) (a b v : ℕ) → a < 16 → Square g → Square (set g a (set (get_or g a []) b v))
square_set g a b v l s = square_put g a (set (get_or g a []) b v) l (length-set (get_or g a []) b v ∙ s.columns a l) s
