-- `put_rows` meets its contract: after r turns the lines of the first r rows are written.
use Rattle.std.proofs.Common.{◌+◌, ◌*◌, ◌≤◌}
use Rattle.listing.specs.Text.{pair_lines}
use Rattle.append.specs.Puts.{Puts}
use Rattle.listing.proofs.lines.put_rows.Given as goal

abbrev pub invariant-loop-r : goal.invariant-loop-r
invariant-loop-r l =
    (l.text.at ≤ l.initial.text.at + 1024 * l.r) × Puts (pair_lines l.r l.model) l.initial.text l.text
