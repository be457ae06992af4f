-- `put_counts` meets its contract: after i turns the first i counts are written.
use Rattle.std.proofs.Common.{arith, get_or, rules}
use Rattle.std.proofs.lemmas.List.{map_more}
use Rattle.table.proofs.Laws.Lists.{get_or_in}
use Rattle.append.specs.Laws.Putting.{then, equal_text}
use Rattle.writer.proofs.put_counts.Goals as goal

pub bounds-ks-from : goal.bounds-ks-from
bounds-ks-from c =
    let h = c.requires.below _ (get_or_in c.args.routines.now c.loop-r.r-index (omega arith)).0 in
    search rules

pub loop-r-preserved : goal.loop-r-preserved
loop-r-preserved c =
    let l = c.loop-r in
    equal_text (map_more (λ r. get_or c.args.ks.now r 0) c.args.routines.now l.r-index 0 (omega arith))
    (then l.invariant (rw c.from.ensures at c.put_byte.ensures))
