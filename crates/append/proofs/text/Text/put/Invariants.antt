-- `put` meets its contract: after i turns the first i bytes of w are written.
use Rattle.std.proofs.Common.{◌≡◌, ◌+◌, take}
use Rattle.append.specs.Puts.{Puts}
use Rattle.append.proofs.text.Text.put.Given as goal

abbrev pub invariant-loop-b : goal.invariant-loop-b
invariant-loop-b l = (l.self.at ≡ l.initial.self.at + l.b-index) × Puts (take l.b-index l.w) l.initial.self l.self
