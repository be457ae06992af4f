-- `put_line` meets its contract: after i turns the first i numbers are written.
use Rattle.std.proofs.Common.{◌*◌, ◌+◌, ◌≤◌, take}
use Rattle.append.specs.Puts.{Puts}
use Rattle.listing.proofs.LineLaws.{spaced}
use Rattle.listing.proofs.lines.put_line.Given as goal

abbrev pub invariant-loop-n : goal.invariant-loop-n
invariant-loop-n l =
    (l.text.at ≤ l.initial.text.at + 4 * l.n-index) × Puts (spaced (take l.n-index l.numbers)) l.initial.text l.text
