-- `with_ring` meets its contract: a ring name sets the byte.
use Rattle.std.proofs.Common.{rules}
use Rattle.std.specs.Prelude.{IsSome}
use Rattle.rows.proofs.Adding.{name_of_byte}
use Rattle.rows.proofs.with_ring.Goals as goal

pub returns-then-is_some : goal.returns-then-is_some
returns-then-is_some c = let a = c.args in
    let some : IsSome a.ring = search rules in
    name_of_byte a.i a.ring _ _ _ some c.with_byte.ensures
