-- `with_cells` meets its contract: the cells passed have the pairs to the names passed.
use mathlib.Core.Path.{◌≡◌}
use Prim.Native.Nat.{◌+◌, ◌*◌}
use native.Mathlib.Omega.{arith}
use lib.ListN.{get_or, take}
use Rattle.std.proofs.lemmas.List.{get_or-take, length-take-le}
use Rattle.rows.specs.Added.{AtCell}
use Rattle.rows.proofs.Adding.{added_more}
use Rattle.rows.proofs.with_cells.Goals as goal

pub loop-b-preserved : goal.loop-b-preserved
loop-b-preserved c = let l = c.loop-b in
    let a = c.args in
    let row = a.row.now in
    let m : get_or (take (a.k + 1) row) l.b 0 ≡ get_or row l.b 0 =
    get_or-take (a.k + 1) row l.b 0 (omega (arith, length-take-le (a.k + 1) row (omega arith))) in
    added_more (λ b. AtCell (a.start + 8 * a.a + b) a.a b (get_or row b 0)) l.b _ _ _ l.changed
    c.with_cell-changed.result l.invariant (rw m at c.with_cell-changed.ensures)

pub returns : goal.returns
returns c = let l = c.loop-b in
    let k = c.args.k in
    let e : l.b ≡ k + 1 = omega (arith, length-take-le (k + 1) c.args.row.now (omega arith)) in
    rw e at l.invariant
