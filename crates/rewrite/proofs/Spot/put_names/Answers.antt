-- `put_names` meets its contract: after i turns the first i names are written.
use Rattle.std.proofs.Common.{arith, get_or}
use Rattle.std.proofs.lemmas.List.{map_more}
use Rattle.append.specs.Laws.Putting.{then, equal_text}
use Rattle.rewrite.proofs.Spot.put_names.Goals as goal

pub loop-x-preserved : goal.loop-x-preserved
loop-x-preserved c =
    let l = c.loop-x in
    equal_text (map_more (λ x. get_or c.args.self.now.names x 0) c.args.xs.now l.x-index 0 (omega arith))
    (then l.invariant (rw c.from.ensures at c.put_byte.ensures))
