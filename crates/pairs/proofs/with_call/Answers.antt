-- `with_call` meets its contract: `|` adds the bit of q.
use Rattle.grid.proofs.Laws.Masks.{bits_or, bits_self}
use Rattle.pairs.proofs.Scanning.{bit_wide}
use Rattle.pairs.proofs.with_call.Goals as goal

pub returns : goal.returns
returns c = rw c.from.ensures (bits_or (bits_self c.args.calls) (bit_wide c.args.q c.requires))
