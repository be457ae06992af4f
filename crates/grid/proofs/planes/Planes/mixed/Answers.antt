-- `Planes::mixed` meets its contract: the loop's turn l adds plane l and then those that clash with it.
use mathlib.Core.Logic.{inl, inr, ⊎_elim}
use mathlib.Core.List.{[]}
use Prim.Native.Nat.{ℕ}
use native.Mathlib.Omega.{arith}
use lib.ListN.{get_or}
use Rattle.std.proofs.lemmas.Bool.{iff_false}
use Rattle.rules.specs.Label.{several}
use Rattle.rules.specs.Number.{number}
use Rattle.grid.specs.Rows.{Rel, Edge, Then}
use Rattle.grid.specs.Planes.{Other}
use Rattle.grid.proofs.Relations.{some_more, some_skip, same_or}
use Rattle.grid.proofs.planes.Planes.mixed.Goals as goal
use Rattle.grid.proofs.planes.Planes.mixed.Goals.{then-has, else-has}

pub loop-l-preserved : goal.loop-l-preserved
loop-l-preserved c = let l = c.loop-l in
    let p = c.args.self.now.planes in
    let F : ℕ → Rel = λ l. Then (Edge (get_or p l [])) (Other p l) in
    let R : Rel = Edge (get_or p (number several) []) in
    elim c.if-has.branch [
      | then-has w ↦ (
        omega arith,
        rw w.next-is
            (some_more R F (Edge l.next) _ l.l l.invariant.1
            (same_or (Edge l.next) _ (F l.l) w.product-t.ensures
            (λ i j q.
            let x = w.chosen.ensures.to q.0 j q.2 in
            (q.0, q.1, (x.0, x.1, (w.clashing.ensures.to x.0 x.2).1, x.3)))
            (λ i j q.
            let x = q.2 in
            let h = c.args.self.now.within x.0 x.1 q.0 j x.3 in
            (q.0, q.1, w.chosen.ensures.from q.0 j (x.0, x.1, w.clashing.ensures.from x.0 (h, x.2), x.3))))),
      )
      | else-has w ↦ (
        omega arith,
        rw w.next-is
            (some_skip R F (Edge l.next) l.l l.invariant.1
            (λ i j q. iff_false c.has.ensures w.if-has.false (c.args.self.now.within l.l (omega arith) i q.0 q.1))),
      )
    ]

pub returns : goal.returns
returns c = let s = c.loop-l.invariant.1 in
    record {
      to = λ i j p. ⊎_elim (λ q. inl q) (λ q. inr (q.0, (let z = q.1 in omega arith), q.2)) (s.to i j p);
      from = λ i j p. s.from i j (⊎_elim (λ q. inl q) (λ q. inr (q.0, (let z = q.1 in omega arith), q.2)) p);
    }
