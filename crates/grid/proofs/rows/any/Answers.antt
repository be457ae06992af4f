-- `any` meets its contract: the fold has the bits of the rows.
use Rattle.std.proofs.Common.{◌≡◌, rules}
use Rattle.std.specs.Int.Bits.{bit_or}
use Rattle.std.specs.List.{fold}
use Rattle.grid.proofs.Laws.Masks.{bits_fold}
use Rattle.grid.proofs.rows.any.Goals as goal

pub returns : goal.returns
returns c = let e : c.fold.result ≡ fold bit_or 0 c.args.r.now = search rules in rw e (bits_fold c.args.r.now)
