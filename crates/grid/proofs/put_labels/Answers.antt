-- `put_labels` meets its contract: one cell gets the kept labels of m.
use mathlib.Core.Path.{◌≡◌}
use mathlib.Core.List.{[]}
use native.Mathlib.Omega.{arith}
use lib.ListN.{length, get_or}
use Rattle.grid.proofs.Recorded.{added}
use Rattle.grid.proofs.put_labels.Goals as goal

pub returns-clause-added : goal.returns-clause-added
returns-clause-added c = let a = c.args in
    let l : length a.g.now ≡ 16 = c.requires.4.rows in
    let k : length (get_or a.g.now a.a []) ≡ 16 = c.requires.4.columns a.a c.requires.0 in
    added a.g.now a.a a.b c.kept.result (omega arith) (omega arith)
    a.m (omega arith) c.requires.3
    c.kept.ensures
