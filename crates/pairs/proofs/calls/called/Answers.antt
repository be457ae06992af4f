-- `called` meets its contract: its routine's row, and the bytes after the routine's for names.
use mathlib.Core.Path.{ap}
use Prim.Native.Nat.{ℕ, ◌+◌}
use lib.ListN.{take, drop}
use native.Mathlib.Omega.{arith}
use Rattle.pairs.specs.Walks.{walk_of}
use Rattle.pairs.proofs.Gaining.{row_gains}
use Rattle.pairs.proofs.calls.called.Goals as goal

pub returns-clause-gains : goal.returns-clause-gains
returns-clause-gains c = let a = c.args in
    row_gains a.t.now.counts.now a.t.now.bodies.now a.rows.now (walk_of a.p.now a.v.now) c.requires.0 _
    (ap (λ (n : ℕ). take n (drop (a.p.now.at + 2) a.t.now.bodies.now)) (rw c.from-r.ensures (omega arith)))
    (rw (c.from-r.ensures, c.from-k.ensures, c.at.ensures) at c.put_row.ensures.gains)
