-- `Planes::several` meets its contract: each product adds the mixes with walks on one side, and without a mix there is nothing.
use Prim.Native.Nat.{ℕ}
use Rattle.grid.specs.Rows.{Rel, Edge, Then, Walk, Star, Same}
use Rattle.grid.specs.Planes.{Chosen, Plane}
use Rattle.grid.proofs.Laws.Masks.{has_zero}
use Rattle.grid.proofs.Relations.{same_then, same_walk, star_left, star_right}
use Rattle.grid.proofs.planes.Planes.several.Goals as goal

pub returns-then-any-eq0 : goal.returns-then-any-eq0
returns-then-any-eq0 c = let m = c.mixed-m in
    let none : (i j : ℕ) → Edge m.result i j → ⊥ =
    λ i j e. has_zero j (rw c.if-any-eq0.true at (c.any.ensures.from j (i, e))) in
    record {
      to = λ i j e. absurd (none i j e);
      from = λ i j p. absurd (none p.0 p.1 (m.ensures.from p.0 p.1 p.3));
    }

pub returns : goal.returns
returns c = let r = c.close_rows-walks in
    let e = c.chosen in
    let m = c.mixed-m in
    let W : Rel = Plane c.args.self.now.planes in
    let all : Same (Chosen c.args.self.now.planes c.args.self.now.some) W =
    record {
      to = λ a b p. (p.0, p.1, p.3);
      from = λ a b p. (p.0, p.1, c.args.self.now.within p.0 p.1 a b p.2, p.2);
    } in
    let t : Same (Edge r.result) (Walk W) =
    same_then _ _ _ r.ensures (same_walk _ _ (same_then _ _ _ e.ensures all)) in
    let x : Same (Edge c.product-before.result) (Then (Star W) (Edge m.result)) =
    star_left _ W t _ _ c.product-before.ensures in
    let y = star_right _ W t _ _ c.product.ensures in
    record {
      to = λ i j p.
          let q = y.to i j p in
          let o = x.to i q.0 q.1 in
          (o.0, q.0, o.1, m.ensures.to o.0 q.0 o.2, q.2);
      from = λ i j p. y.from i j (p.1, x.from i p.1 (p.0, p.2, m.ensures.from p.0 p.1 p.3), p.4);
    }
