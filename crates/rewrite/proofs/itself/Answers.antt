-- `itself` meets its contract: after x turns the first x names stand for themselves.
use Rattle.std.proofs.Common.{ℕ, arith}
use Rattle.std.proofs.lemmas.List.FromFn.{fill_by_all}
use Rattle.rewrite.proofs.itself.Goals as goal

pub returns : goal.returns
returns c =
    fill_by_all (λ (x : ℕ). x) c.loop-x.name-items 16 0 (omega arith) (λ k l. c.loop-x.invariant k (omega arith))
