-- A row of the buffer with the pairs and the ring of a grid added: the places of its bytes, and what each of them has.
use mathlib.Core.Path.{◌≡◌, refl, sym, ap, ◌∙◌}
use mathlib.Core.Logic.{◌≢◌, ◌⊎◌, inl, inr, ⊎_elim}
use mathlib.Core.Bool.{Bool, false, ◌||◌}
use mathlib.Core.List.{List}
use Prim.Native.Nat.{ℕ, ◌+◌, ◌*◌, ◌<◌, ◌≤◌}
use native.Mathlib.Omega.{arith}
use native.Mathlib.Decide.{ℕ_discrete}
use lib.ListN.{get_or}
use Rattle.std.specs.Prelude.{Option}
use Rattle.rules.specs.Label.{Label, cut}
use Rattle.grid.specs.Rows.{Has, Rel}
use Rattle.grid.specs.Grid.{Pair, RingName}
use Rattle.rows.specs.Bytes.{RowBits, RingByte}
use Rattle.rows.specs.Model.{ShapedRow, GridRow, HasRing, Moves, RowAdded}
use Rattle.rows.specs.Added.{bit_of, AtName, AtRing, InGrid, Added}
use Rattle.rows.proofs.Masks.{bit_lt, cut_bit, labelled_has, has_labelled}
use Rattle.grid.proofs.Laws.Masks.{has_below, below_bits}
use Rattle.rows.proofs.Adding.{added_then, ring_of_name}

-- a byte of a row's cells is in one cell alone
one_cell :
    (q r a b x y : ℕ) → a < 8 → b < 8 → x < 8 → y < 8 → 65 * q + 8 * a + b ≡ 65 * r + 8 * x + y
    → (q ≡ r) × (a ≡ x) × (b ≡ y)
one_cell q r a b x y ha hb hx hy e =
    let i : q ≡ r = omega arith in
    let j : a ≡ x = omega arith in
    (i, j, omega arith)

-- no cell is the last byte of a row
not_last : (q r i : ℕ) → i < 64 → 65 * q + i ≡ 65 * r + 64 → ⊥
not_last q r i h e = let s : q ≡ r = omega arith in omega arith

-- what is added to row r: the pairs of the names 0 to k, and a ring
abbrev RowWith : ℕ → ℕ → List (List ℕ) → Rel
RowWith r k g p j = InGrid (65 * r) g (k + 1) (k + 1) p j ⊎ AtRing (65 * r + 64) g p j

module _ (e x : List ℕ) (r k : ℕ) (g : List (List ℕ)) (c d : Bool) (few : k ≤ 7) where
  module _ (bytes : (i : ℕ) → get_or x i 0 < 256) (added : Added (RowWith r k g) e x (c || d)) where
    only : (q a b : ℕ) (l : Label) → RowBits x q a b l → RowBits e q a b l ⊎ ((q ≡ r) × GridRow k g a b l)
    only q a b l w = go ((added.bits (65 * q + 8 * a + b)).to (bit_of l) has.0)
      where
        has : Has (get_or x (65 * q + 8 * a + b) 0) (bit_of l) × (l ≡ cut l)
        has = labelled_has (get_or x (65 * q + 8 * a + b) 0) l w.2

        go : Has (get_or e (65 * q + 8 * a + b) 0) (bit_of l) ⊎ RowWith r k g (65 * q + 8 * a + b) (bit_of l)
            → RowBits e q a b l ⊎ ((q ≡ r) × GridRow k g a b l)
        go (inl h) = inl (w.0, w.1, rw has.1 (has_labelled (get_or e (65 * q + 8 * a + b) 0) l h))
        go (inr (inl (y, ly, (z, lz, (p, ne, (n, i, eb)))))) =
            let s = one_cell q r a b y z w.0 w.1 (omega arith) (omega arith) p in
            let pair : Pair g a b n = rw (s.1, s.2) i in
            inr (s.0, (n, pair, omega arith, omega arith, λ t. ne (sym s.1 ∙ t ∙ s.2), cut_bit l n has.1 eb))
        go (inr (inr (p, j, ring))) =
            let ha = w.0 in let hb = w.1 in absurd (not_last q r (8 * a + b) (omega arith) (omega arith))

    new : (a b : ℕ) (l : Label) → GridRow k g a b l → RowBits x r a b l
    new a b l (m, pair, la, lb, ne, el) = (
      omega arith,
      omega arith,
      rw el
          (has_labelled (get_or x (65 * r + 8 * a + b) 0) m
          ((added.bits (65 * r + 8 * a + b)).from (bit_of m)
          (inr (inl (a, omega arith, (b, omega arith, (refl, ne, (m, pair, refl)))))))),
    )

    old : (q a b : ℕ) (l : Label) → RowBits e q a b l → RowBits x q a b l
    old q a b l w =
        let has = labelled_has (get_or e (65 * q + 8 * a + b) 0) l w.2 in (
          w.0,
          w.1,
          rw has.1
              (has_labelled (get_or x (65 * q + 8 * a + b) 0) l
              ((added.bits (65 * q + 8 * a + b)).from (bit_of l) (inl has.0))),
        )

    outside : (i : ℕ) → (i < 65 * r) ⊎ (65 * r + 65 ≤ i) → get_or x i 0 ≡ get_or e i 0
    outside i h = added.rest i (λ j w. ⊎_elim (in_cell h) (in_last h) w)
      where
        in_cell : {j : ℕ} → (i < 65 * r) ⊎ (65 * r + 65 ≤ i) → InGrid (65 * r) g (k + 1) (k + 1) i j → ⊥
        in_cell (inl l) (y, ly, (z, lz, (p, ne, w))) = omega arith
        in_cell (inr l) (y, ly, (z, lz, (p, ne, w))) = omega arith

        in_last : {j : ℕ} → (i < 65 * r) ⊎ (65 * r + 65 ≤ i) → AtRing (65 * r + 64) g i j → ⊥
        in_last (inl l) w = let p = w.0 in omega arith
        in_last (inr l) w = let p = w.0 in omega arith

    other : (q : ℕ) → q ≢ r → get_or x (65 * q + 64) 0 ≡ get_or e (65 * q + 64) 0
    other q n = added.rest (65 * q + 64) (λ j w. never w)
      where
        never : {j : ℕ} → RowWith r k g (65 * q + 64) j → ⊥
        never (inl (y, ly, (z, lz, (p, ne, w)))) = not_last r q (8 * y + z) (omega arith) (omega arith)
        never (inr (p, ej, ring)) = n (omega arith)

    shaped_row : (q : ℕ) → ShapedRow e q → ShapedRow x q
    shaped_row q s = record {
      cells = λ i hi.
          below_bits 3 (get_or x (65 * q + i) 0) (let b = bytes (65 * q + i) in omega arith)
          (λ j h. cell_bit i hi j ((added.bits (65 * q + i)).to j h));
      last =
          let z : get_or x (65 * q + 64) 0 < 2 =
          below_bits 1 (get_or x (65 * q + 64) 0) (let b = bytes (65 * q + 64) in omega arith)
          (λ j h. last_bit j ((added.bits (65 * q + 64)).to j h)) in
          omega arith;
    }
      where
        cell_bit : (i : ℕ) → i < 64 → (j : ℕ) → Has (get_or e (65 * q + i) 0) j ⊎ RowWith r k g (65 * q + i) j → j < 3
        cell_bit i hi j (inl h) = has_below (get_or e (65 * q + i) 0) 3 j (s.cells i hi) h
        cell_bit i hi j (inr (inl (y, ly, (z, lz, (p, ne, (n, m, eb)))))) = let t = bit_lt n in omega arith
        cell_bit i hi j (inr (inr (p, ej, ring))) = absurd (not_last q r i hi p)

        last_bit : (j : ℕ) → Has (get_or e (65 * q + 64) 0) j ⊎ RowWith r k g (65 * q + 64) j → j < 1
        last_bit j (inl h) = has_below (get_or e (65 * q + 64) 0) 1 j (let t = s.last in omega arith) h
        last_bit j (inr (inl (y, ly, (z, lz, (p, ne, w))))) =
            absurd (not_last r q (8 * y + z) (omega arith) (omega arith))
        last_bit j (inr (inr (p, ej, ring))) = omega arith

    -- the last byte of row r is 0 or 1 before
    module _ (shape : ShapedRow e r) where
      ring_only : (q : ℕ) → Dec (q ≡ r) → RingByte x q → RingByte e q ⊎ ((q ≡ r) × HasRing g)
      ring_only q (no n) w = inl (sym (other q n) ∙ w)
      ring_only q (yes s) w = go ((added.bits (65 * q + 64)).to 0 (rw w))
        where
          go : Has (get_or e (65 * q + 64) 0) 0 ⊎ RowWith r k g (65 * q + 64) 0 → RingByte e q ⊎ ((q ≡ r) × HasRing g)
          go (inl h) = let t : get_or e (65 * q + 64) 0 ≤ 1 = rw s shape.last in inl (omega arith)
          go (inr (inl (y, ly, (z, lz, (p, ne, c))))) = absurd (not_last r q (8 * y + z) (omega arith) (omega arith))
          go (inr (inr (p, ej, ring))) = inr (s, ring)

      ring_old : (q : ℕ) → Dec (q ≡ r) → RingByte e q → RingByte x q
      ring_old q (no n) w = other q n ∙ w
      ring_old q (yes s) w =
          let t = (shaped_row r shape).last in
          let h : Has (get_or x (65 * r + 64) 0) 0 = (added.bits (65 * r + 64)).from 0 (inl (rw (← s, w))) in
          rw s (omega arith)

      ring_new : HasRing g → RingByte x r
      ring_new ring =
          let t = (shaped_row r shape).last in
          let h : Has (get_or x (65 * r + 64) 0) 0 = (added.bits (65 * r + 64)).from 0 (inr (inr (refl, refl, ring))) in
          omega arith

      row_of_added : (y : Option ℕ) → RingName g y
          → (c ≡ false → (q i : ℕ) → i < 64 → get_or x (65 * q + i) 0 ≡ get_or e (65 * q + i) 0) → RowAdded e x r k g c d y
      row_of_added y name same = record {
        long = added.long;
        outside = outside;
        only = only;
        old = old;
        new = new;
        ring_only = λ q w. ring_only q (ℕ_discrete q r) w;
        ring_old = λ q w. ring_old q (ℕ_discrete q r) w;
        ring_new = ring_new;
        shaped = λ n s q h. shaped_row q (s q h);
        told = added.told;
        same_cells = same;
        named = name;
      }

module _ (e m x : List ℕ) (r k : ℕ) (g : List (List ℕ)) (c d : Bool) (y : Option ℕ) where
  -- the last byte of row r is no cell
  last_alone : Added (AtRing (65 * r + 64) g) m x d → (q i : ℕ) → i < 64 → get_or x (65 * q + i) 0 ≡ get_or m (65 * q + i) 0
  last_alone p q i h = p.rest (65 * q + i) (λ j w. not_last q r i h w.0)

  pub row_added : k ≤ 7 → ((i : ℕ) → get_or x i 0 < 256) → RingName g y
      → ShapedRow e r → Added (InGrid (65 * r) g (k + 1) (k + 1)) e m c
      → Added (AtName (65 * r + 64) y) m x d → RowAdded e x r k g c d y
  row_added few bytes name shape p n =
      row_of_added e x r k g c d few bytes
      (added_then (InGrid (65 * r) g (k + 1) (k + 1)) (AtRing (65 * r + 64) g) e m x c d p q) shape y name
      (λ z i j h. last_alone q i j h ∙ ap (λ (v : List ℕ). get_or v (65 * i + j) 0) (told_same z p.told))
    where
      q : Added (AtRing (65 * r + 64) g) m x d
      q = ring_of_name (65 * r + 64) y g m x d name n

      told_same : c ≡ false → Moves c e m → m ≡ e
      told_same z t = rw z at t
