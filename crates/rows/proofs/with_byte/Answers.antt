-- `with_byte` meets its contract: the byte is what it was, or it has the bits of v besides.
use native.Mathlib.Omega.{arith}
use Rattle.rows.proofs.Adding.{byte_same, byte_set}
use Rattle.rows.proofs.with_byte.Goals as goal

pub returns-then-new-old : goal.returns-then-new-old
returns-then-new-old c = let a = c.args in byte_same a.model.now a.i a.v c.if-new-old.true

pub returns : goal.returns
returns c = let a = c.args in
    byte_set a.model.now a.i a.v c.requires (omega arith) c.if-new-old.false
