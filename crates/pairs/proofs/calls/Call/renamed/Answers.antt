-- `renamed` meets its contract: name 0 is the holder, and name i is the root of the i-th byte of the names.
use mathlib.Core.Path.{ap, ◌∙◌}
use mathlib.Core.Option.{some}
use Prim.Native.Nat.{◌-◌}
use native.Mathlib.Omega.{arith}
use Rattle.pairs.specs.Walks.{held_by}
use Rattle.pairs.proofs.Gaining.{root_low, renamed_name}
use Rattle.pairs.proofs.calls.Call.renamed.Goals as goal

pub returns-clause-name : goal.returns-clause-name
returns-clause-name c = let a = c.args.self.now in
    ap some c.root_of-name.ensures
    ∙ renamed_name a.levels.now.roots a.names.now (held_by a.here.holder) c.args.i (omega arith) c.requires.1

pub returns-clause-low : goal.returns-clause-low
returns-clause-low c = let a = c.args.self.now in
    rw c.root_of-name.ensures
    (root_low a.levels.now.roots a.names.now c.requires.0.names.1 (c.args.i - 1) (omega arith))
