-- `put_line` meets its contract: the word, the numbers and the end of the line, one after the other.
use Rattle.std.proofs.Common.{arith, ap, sym, take_all}
use Rattle.append.specs.Laws.Putting.{then, equal_text}
use Rattle.listing.proofs.LineLaws.{spaced, spaced_more, numbers_spaced}
use Rattle.listing.proofs.lines.put_line.Goals as goal

pub loop-n-preserved : goal.loop-n-preserved
loop-n-preserved c = (
  omega (arith, c.put_number.ensures.few),
  equal_text (spaced_more c.loop-n.n-index c.args.numbers.now (omega arith))
      (then c.loop-n.invariant.1 c.put_number.ensures.appends),
)

pub returns : goal.returns
returns c =
    let all = equal_text (ap spaced (sym (take_all c.loop-n.n-index c.args.numbers.now (omega arith)))) c.loop-n.invariant.1 in
    then c.put.ensures (equal_text (numbers_spaced c.args.numbers.now) (then all c.put_byte.ensures))
