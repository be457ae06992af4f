-- `Planes::put_named` meets its contract: the loop's turn l adds the walks of plane l.
use mathlib.Core.Path.{◌≡◌}
use mathlib.Core.Logic.{inl}
use mathlib.Core.List.{[]}
use Prim.Native.Nat.{◌<◌}
use native.Mathlib.Omega.{arith}
use lib.ListN.{get_or, take}
use Rattle.std.proofs.lemmas.Bool.{iff_false}
use Rattle.std.proofs.lemmas.List.{get_or-take, length-take}
use Rattle.rules.specs.Label.{unknown}
use Rattle.rules.specs.Number.{number}
use Rattle.grid.proofs.Growing.{planes_more, planes_skip}
use Rattle.grid.proofs.planes.Planes.put_named.Goals as goal
use Rattle.grid.proofs.planes.Planes.put_named.Goals.{then-has, else-has}

pub put_walks-requires : goal.put_walks-requires
put_walks-requires c = let l = c.loop-l in
    let p = c.args.self.now.planes in
    let low : l.l < number unknown = omega (arith, length-take (number unknown) p) in
    let plane : get_or (take (number unknown) p) l.l [] ≡ get_or p l.l [] = get_or-take (number unknown) p l.l [] low in (
      omega arith,
      l.invariant.0,
      λ b a e. (l.invariant.1.row a).from b l.l (inl ((c.requires.1 l.l (omega arith)).to b a (rw plane at e))),
    )

pub loop-l-preserved : goal.loop-l-preserved
loop-l-preserved c = let l = c.loop-l in
    let g = c.args.g.now in
    let p = c.args.self.now.planes in
    let low : l.l < number unknown = omega (arith, length-take (number unknown) p) in
    let plane : get_or (take (number unknown) p) l.l [] ≡ get_or p l.l [] = get_or-take (number unknown) p l.l [] low in
    elim c.if-has.branch [
      | then-has w ↦
          rw w.g-is (
            w.put_walks.ensures.proper,
            planes_more g p l.l l.g _ l.invariant.1 (rw plane at w.put_walks.ensures.grown),
          )
      | else-has w ↦
          rw w.g-is (
            l.invariant.0,
            planes_skip g p l.l l.g l.invariant.1
                (λ b a e. iff_false c.has.ensures w.if-has.false (c.args.self.now.within l.l (omega arith) b a e)),
          )
    ]

pub returns-clause-grown : goal.returns-clause-grown
returns-clause-grown c = let l = c.loop-l in
    let e : l.l ≡ number unknown = omega (arith, length-take (number unknown) c.args.self.now.planes) in
    rw e at l.invariant.1
