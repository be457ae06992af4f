-- `put_counts` meets its contract: after i turns the first i counts are written.
use Rattle.std.proofs.Common.{take}
use Rattle.append.specs.Puts.{Puts}
use Rattle.writer.specs.Parts.{counts_of}
use Rattle.writer.proofs.put_counts.Given as goal

abbrev pub invariant-loop-r : goal.invariant-loop-r
invariant-loop-r l = Puts (counts_of l.ks (take l.r-index l.routines)) l.initial.out l.out
