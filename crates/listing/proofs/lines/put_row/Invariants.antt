-- `put_row` meets its contract: after a turns the lines of the first a runs of cells are written.
use Rattle.std.proofs.Common.{◌+◌, ◌*◌, ◌≤◌}
use Rattle.listing.specs.Text.{each, cell_line}
use Rattle.append.specs.Puts.{Puts}
use Rattle.listing.proofs.lines.put_row.Given as goal

abbrev pub invariant-loop-a : goal.invariant-loop-a
invariant-loop-a l =
    (l.text.at ≤ l.initial.text.at + 128 * l.a)
    × Puts (each l.a (λ a. each 8 (λ b. cell_line l.model l.r a b))) l.initial.text l.text
