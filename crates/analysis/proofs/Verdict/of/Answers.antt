-- `Verdict::of` meets its contract: the zeros below the lowest bit of the mask are its routine, and its ring name follows.
use Rattle.std.proofs.Common.{arith}
use Rattle.grid.proofs.Laws.Masks.{has_below}
use Rattle.analysis.proofs.JudgingLaws.{lowest_below}
use Rattle.analysis.proofs.Verdict.of.Goals as goal

pub unwrap-name-requires : goal.unwrap-name-requires
unwrap-name-requires c =
    let h = lowest_below 64 c.args.rings (omega arith) c.ranges.rings.fits in
    c.requires _ h.bit

pub returns : goal.returns
returns c =
    let h = lowest_below 64 c.args.rings (omega arith) c.ranges.rings.fits in
    rw (c.from.ensures, c.from-2.ensures) (h, has_below c.args.rings 64 _ c.ranges.rings.fits h.bit, c.unwrap-name.ensures)
