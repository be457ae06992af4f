-- The grid of zeros, a grid with a mask added to one cell, and the pairs that it then has.
use mathlib.Core.Path.{◌≡◌, sym, ap, ◌∙◌}
use mathlib.Core.Logic.{◌≢◌, ◌⊎◌, inl, inr, ⊎_elim}
use mathlib.Core.List.{List, []}
use Prim.Native.Nat.{ℕ, ◌^◌, ◌<◌, ◌≤◌}
use native.Mathlib.Omega.{arith}
use native.Mathlib.Decide.{dec_lt, ℕ_discrete}
use lib.ListN.{get_or, set, length, replicate}
use lib.Seq.{get_or-set_same, get_or-set_other}
use lib.Bits.{bit_or, or_lt}
use Rattle.rules.specs.Label.{Label, several}
use Rattle.rules.specs.Number.{number, label_of, labels}
use Rattle.rules.specs.Model.{Kept}
use Rattle.grid.specs.Rows.{Has, Bits}
use Rattle.grid.specs.Grid.{cell, In, Pair, Small, KeptIn, Empty, Added}
use Rattle.grid.proofs.Laws.Masks.{has_below, bits_below, bits_self, bits_or}
use Rattle.grid.proofs.Shapes.{zero_cell, zero_pair}
use Rattle.grid.proofs.Laws.Labels.{in_number, in_has}

-- row a with the mask k added at column b, and the grid with that row
abbrev put_row : List (List ℕ) → ℕ → ℕ → ℕ → List ℕ
put_row g a b k = set (get_or g a []) b (bit_or (cell g a b) k)

abbrev pub put : List (List ℕ) → ℕ → ℕ → ℕ → List (List ℕ)
put g a b k = set g a (put_row g a b k)

module _ (g : List (List ℕ)) (a b k : ℕ) (ha : a < length g) (hb : b < length (get_or g a [])) where
  -- the cells of the new grid: the new one, and the others
  row_here : (y : ℕ) → cell (put g a b k) a y ≡ get_or (put_row g a b k) y 0
  row_here y = ap (λ (r : List ℕ). get_or r y 0) (get_or-set_same g a (put_row g a b k) [] ha)

  cell_here : cell (put g a b k) a b ≡ bit_or (cell g a b) k
  cell_here = row_here b ∙ get_or-set_same (get_or g a []) b (bit_or (cell g a b) k) 0 hb

  cell_case : (x y : ℕ) → ((x ≡ a) × (y ≡ b)) ⊎ (cell (put g a b k) x y ≡ cell g x y)
  cell_case x y =
      elim (ℕ_discrete x a) [
        | no p ↦ inr (ap (λ (r : List ℕ). get_or r y 0) (get_or-set_other g a x (put_row g a b k) [] p))
        | yes p ↦
            elim (ℕ_discrete y b) [
              | yes q ↦ inl (p, q)
              | no q ↦ inr (rw p (row_here y ∙ get_or-set_other (get_or g a []) b y (bit_or (cell g a b) k) 0 q))
            ]
      ]

  -- the labels of the new cell
  put_bits : Bits (cell (put g a b k) a b) (λ j. Has (cell g a b) j ⊎ Has k j)
  put_bits = rw cell_here (bits_or (bits_self (cell g a b)) (bits_self k))

  -- the pairs of the labels of m, where k has those of m that are kept
  pub added : (m : ℕ) → m < 2 ^ labels → Small g → Bits k (KeptIn a b m) → Added g a b (In m) (put g a b k)
  added m hm small bits = record {
    small = λ x y.
        ⊎_elim
        (λ e. rw (e.0, e.1, cell_here) (or_lt labels (cell g a b) k (small a b) low))
        (λ e. rw e (small x y))
        (cell_case x y);
    kept = λ h x y l w. ⊎_elim (λ q. h x y l q) (λ q. rw (q.0, q.1) q.3) (only x y l w);
    only = only;
    old = λ x y l w. (w.0, w.1, w.2, stays x y w.0 w.3);
    new = λ l w h. (w.0, w.1, w.2, put_bits.from w.0 (inr (bits.from w.0 (w.3, numbered l w h))));
  }
    where
      low : k < 2 ^ labels
      low = bits_below labels k (λ j h. has_below m labels j hm (bits.to j h).0)

      stays : (x y j : ℕ) → Has (cell g x y) j → Has (cell (put g a b k) x y) j
      stays x y j h =
          ⊎_elim (λ e. rw (e.0, e.1) (put_bits.from j (inl (rw (e.0, e.1) at h)))) (λ e. rw e h) (cell_case x y)

      named : (n : ℕ) (l : Label) → l ≡ label_of n → (a ≢ b) ⊎ (n ≡ number several) → Kept a b l
      named n l e (inl h) = inl h
      named n l e (inr h) = inr (e ∙ ap label_of h)

      numbered : (l : Label) (w : In m l) → Kept a b l → (a ≢ b) ⊎ (w.0 ≡ number several)
      numbered l w (inl h) = inl h
      numbered l w (inr h) = inr (sym (in_number m l w) ∙ ap number h)

      only : (x y : ℕ) (l : Label) → Pair (put g a b k) x y l → Pair g x y l ⊎ ((x ≡ a) × (y ≡ b) × In m l × Kept a b l)
      only x y l w =
          ⊎_elim
          (λ e.
          ⊎_elim
          (λ h. inl (w.0, w.1, w.2, rw (e.0, e.1) h))
          (λ h.
          let q = bits.to w.0 h in
          inr (e.0, e.1, (w.0, w.1, w.2, q.0), named w.0 l w.2 q.1))
          (put_bits.to w.0 (rw (e.0, e.1) at w.3)))
          (λ e. inl (w.0, w.1, w.2, rw e at w.3))
          (cell_case x y)

-- the grid of zeros
pub empty_grid : (n m : ℕ) → Empty (replicate n (replicate m 0))
empty_grid n m = record {
  small = λ a b. rw (zero_cell n m a b) (omega arith);
  kept = λ a b l w. absurd (zero_pair n m a b w.0 w.3);
  none = λ a b l w. zero_pair n m a b w.0 w.3;
}

-- no name below x has a ring
pub no_lower :
    (g : List (List ℕ)) (x : ℕ) → ((y : ℕ) → y < x → Has (cell g y y) (number several) → ⊥)
    → (y : ℕ) → Pair g y y several → x ≤ y
no_lower g x h y w =
    elim (dec_lt y x) [
      | yes p ↦ absurd (h y p (in_has (cell g y y) several w))
      | no p ↦ omega arith
    ]
