-- Rows that were cleared are on their way to the least: there is nothing in them that the least lack.
use Rattle.std.specs.Prelude.{◌≡◌, List, [], ℕ, ◌+◌, ◌*◌, ◌/◌, ◌%◌, ◌^◌, ◌≤◌, ◌<◌, length, get_or}
use Rattle.std.proofs.Common.{arith}
use Rattle.std.proofs.Math.Decide.{ℕ_discrete}
use Rattle.table.specs.Constants.{row_bytes}
use Rattle.table.specs.Program.{Program}
use Rattle.rules.specs.Label.{Label}
use Rattle.grid.specs.Rows.{Has}
use Rattle.grid.proofs.Laws.Masks.{has_below}
use Rattle.rows.specs.Bytes.{RowsOf}
use Rattle.rows.specs.Model.{ShapedRow}
use Rattle.rows.specs.Laws.Cells.{no_label}
use Rattle.settle.specs.Settle.{PartlyWith}

-- whether the mask has a routine
pub has? : (mask q : ℕ) → Dec (Has mask q)
has? mask q = ℕ_discrete (mask / 2 ^ q % 2) 1

-- rows of the mask that are all zero, beside rows that are as they were
pub cleared_with : (P : Program) (mask : ℕ) (before after : List ℕ) → mask < 2 ^ length P → length after ≡ length before
    → ((i : ℕ) → row_bytes * length P ≤ i → get_or after i 0 ≡ get_or before i 0)
    → ((q i : ℕ) → q < length P → Has mask q → i < row_bytes → get_or after (row_bytes * q + i) 0 ≡ 0)
    → ((q i : ℕ) → q < length P → (Has mask q → ⊥) → i < row_bytes
    → get_or after (row_bytes * q + i) 0 ≡ get_or before (row_bytes * q + i) 0)
    → ((q : ℕ) → q < length P → (Has mask q → ⊥) → ShapedRow before q)
    → PartlyWith P (Has mask) before after [] (Has mask)
cleared_with P mask before after low long rest none same formed = record {
  long = long;
  rest = rest;
  others = same;
  shaped = λ q h. shaped q h (has? mask q);
  sound = λ q a b m t w. absurd (no_label (get_or after (65 * q + 8 * a + b) 0) m (at q a b m t w) w.1.2);
  ring_sound = λ q t h. absurd (let z = none q 64 (has_below mask (length P) q low t) t (omega arith) in omega arith);
  fresh = λ q t n. absurd (n t);
}
  where
    at : (q a b : ℕ) (m : Label) → Has mask q → RowsOf (length P) after q a b m → get_or after (65 * q + 8 * a + b) 0 ≡ 0
    at q a b m t w =
        let e : 65 * q + 8 * a + b ≡ 65 * q + (8 * a + b) = omega arith in
        let la : a < 8 = w.1.0 in
        let lb : b < 8 = w.1.1 in
        rw e (none q (8 * a + b) w.0 t (omega arith))

    shaped : (q : ℕ) → q < length P → Dec (Has mask q) → ShapedRow after q
    shaped q h (yes t) = record {
      cells = λ i l. let z = none q i h t (omega arith) in omega arith;
      last = let z = none q 64 h t (omega arith) in omega arith;
    }
    shaped q h (no n) =
        let f = formed q h n in
        record {
          cells = λ i l. let z = same q i h n (omega arith) in let s = f.cells i l in omega arith;
          last = let z = same q 64 h n (omega arith) in let s = f.last in omega arith;
        }
