-- Rows that are all fresh are the least model, byte for byte, and the verdict is read off them.
use mathlib.Core.Path.{◌≡◌, refl, subst}
use mathlib.Core.List.{List}
use Prim.Native.Nat.{ℕ, ◌+◌, ◌*◌, ◌≤◌, ◌<◌}
use native.Mathlib.Omega.{arith}
use native.Mathlib.Decide.{dec_lt}
use lib.ListN.{length, get_or}
use Rattle.std.specs.Prelude.{Option, Some, None, IsSome}
use Rattle.table.specs.Program.{Program}
use Rattle.rules.specs.Model.{Row, Ring}
use Rattle.rules.specs.Verdict.{Reached, Clear, RingAt}
use Rattle.rows.specs.Bytes.{RingByte, RowsOf}
use Rattle.rows.specs.Laws.Fixpoint.{Settled, settled}
use Rattle.table.specs.Constants.{row_bytes, row_names}
use Rattle.analysis.specs.Answer.{Flag, Cell, Models}
use Rattle.analysis.proofs.Laws.Bytes.{bit_flag, cell_at}
use Rattle.settle.specs.Settle.{Named, Fresh, AllFresh}

module _ (P : Program) (before model : List ℕ) (names : List (Option ℕ)) (part : AllFresh P before model names) where
  fresh : (r : ℕ) → r < length P → Fresh P model names r
  fresh r l = part.fresh r l

  pub all_settled : Settled P (RowsOf (length P) model)
  all_settled = settled P (RowsOf (length P) model) part.sound (λ r l. (fresh r l).row)

  -- the last byte of a row tells whether there is a ring
  pub ring_told : (r x : ℕ) → r < length P → Ring P r x → RingByte model r
  ring_told r x l h = (fresh r l).ring x (all_settled.ring_from r x h)

  -- and then the routine has a ring name
  pub ring_named : (r : ℕ) → r < length P → RingByte model r → IsSome (get_or names r None)
  ring_named r l told = by (get_or names r None) (fresh r l).name
    where
      by : (name : Option ℕ) → Named P model r name → IsSome name
      by None none = let some = part.ring_sound r l told in absurd (none some.0 (all_settled.ring_from r some.0 some.1))
      by (Some x) name = refl

  is_cell : (r a b : ℕ) → r < length P → a < row_names → b < row_names
      → Cell P r a b (get_or model (row_bytes * r + (row_names * a + b)) 0)
  is_cell r a b l la lb =
      cell_at model r a b la lb (part.shaped r l) (Row P r a b) (λ m h. all_settled.row_to r a b m (l, h))
      (λ m w. (all_settled.row_from r a b m w).1)

  pub are_models : Models P model
  are_models = record { cells = is_cell; last = last }
    where
      last : (r : ℕ) → r < length P
          → Flag (get_or model (row_bytes * r + row_names * row_names) 0) ((x : ℕ) × Ring P r x)
      last r l =
          let s = (part.shaped r l).last in
          bit_flag (get_or model (65 * r + 64) 0) ((x : ℕ) × Ring P r x) (omega arith)
          (λ e. part.ring_sound r l e) (λ h. ring_told r h.0 l h.1)

  -- clear is said where no row of a routine that calls reach tells of a ring
  pub no_ring : ((q : ℕ) → Reached P q → q < length P) → ((q : ℕ) → Reached P q → RingByte model q → ⊥) → Clear P
  no_ring within none q x h ring = none q h (ring_told q x (within q h) ring)

  -- a ring, in the lowest of the routines that calls reach whose row tells of one
  module _ (within : (q : ℕ) → Reached P q → q < length P) (r : ℕ) (reached : Reached P r) (told : RingByte model r)
      (lowest : (q : ℕ) → q < r → Reached P q → RingByte model q → ⊥) where
    lower : (q y : ℕ) → Reached P q → Ring P q y → r ≤ q
    lower q y h z = elim (dec_lt q r) [
      | yes p ↦ absurd (lowest q p h (ring_told q y (within q h) z))
      | no p ↦ omega arith
    ]

    pub ring_at : (x : ℕ) → get_or names r None ≡ Some x → RingAt P r x × (x < 16)
    ring_at x e =
        let name : Named P model r (Some x) = subst (Named P model r) e (fresh r (within r reached)).name in (
          record {
            reached = reached;
            ring = all_settled.ring_to r x name.1;
            lowest_routine = lower;
            lowest_name = λ y h. name.2 y (all_settled.ring_from r y h);
          },
          name.0,
        )
