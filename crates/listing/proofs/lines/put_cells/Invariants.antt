-- `put_cells` meets its contract: after b turns the lines of the first b cells are written.
use Rattle.std.proofs.Common.{◌+◌, ◌*◌, ◌≤◌}
use Rattle.listing.specs.Text.{each, cell_line}
use Rattle.append.specs.Puts.{Puts}
use Rattle.listing.proofs.lines.put_cells.Given as goal

abbrev pub invariant-loop-b : goal.invariant-loop-b
invariant-loop-b l =
    (l.text.at ≤ l.initial.text.at + 16 * l.b) × Puts (each l.b (λ b. cell_line l.model l.r l.a b)) l.initial.text l.text
