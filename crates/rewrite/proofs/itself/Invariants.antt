-- `itself` meets its contract: after x turns the first x names stand for themselves.
use Rattle.std.proofs.Common.{◌≡◌, ℕ, ◌<◌, get_or}
use Rattle.rewrite.proofs.itself.Given as goal

abbrev pub invariant-loop-x : goal.invariant-loop-x
invariant-loop-x l = (k : ℕ) → k < l.x → get_or l.name-items k 0 ≡ k
