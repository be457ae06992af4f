-- `with_pairs` meets its contract: the cells passed have the pairs from the names passed.
use mathlib.Core.Path.{◌≡◌}
use mathlib.Core.List.{[]}
use Prim.Native.Nat.{◌+◌}
use native.Mathlib.Omega.{arith}
use lib.ListN.{get_or, take}
use Rattle.std.proofs.lemmas.List.{get_or-take, length-take-le}
use Rattle.rows.specs.Added.{InRow}
use Rattle.rows.proofs.Adding.{added_more}
use Rattle.rows.proofs.with_pairs.Goals as goal

pub loop-a-preserved : goal.loop-a-preserved
loop-a-preserved c = let l = c.loop-a in
    let p = c.args in
    let g = p.g.now in
    let row : get_or (take (p.k + 1) g) l.a [] ≡ get_or g l.a [] =
    get_or-take (p.k + 1) g l.a [] (omega (arith, length-take-le (p.k + 1) g (omega arith))) in
    added_more (λ a. InRow p.start a (get_or g a []) (p.k + 1)) l.a _ _ _ l.changed
    c.with_cells-changed.result l.invariant (rw row at c.with_cells-changed.ensures)

pub returns : goal.returns
returns c = let l = c.loop-a in
    let k = c.args.k in
    let e : l.a ≡ k + 1 = omega (arith, length-take-le (k + 1) c.args.g.now (omega arith)) in
    rw e at l.invariant
