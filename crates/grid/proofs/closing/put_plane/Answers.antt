-- `put_plane` meets its contract: the loop's turn i adds label l in row i, and the rows left out have nothing to add.
use mathlib.Core.Logic.{inl, ⊎_elim}
use mathlib.Core.List.{[]}
use native.Mathlib.Omega.{arith}
use lib.ListN.{get_or}
use Rattle.std.proofs.lemmas.Bool.{iff_false}
use Rattle.std.proofs.lemmas.List.{set-get_or}
use Rattle.grid.specs.Rows.{Edge, Or, Same}
use Rattle.grid.specs.Planes.{InPlane}
use Rattle.grid.proofs.Laws.Square.{square_put}
use Rattle.grid.proofs.Relations.{same_or}
use Rattle.grid.proofs.Growing.{small_put}
use Rattle.grid.proofs.Shapes.{edge_column, cell_row}
use Rattle.grid.proofs.Loops.{passed_more, grid_all}
use Rattle.grid.proofs.closing.put_plane.Goals as goal
use Rattle.grid.proofs.closing.put_plane.Goals.{then-has, else-has}

pub loop-i-preserved : goal.loop-i-preserved
loop-i-preserved c = let l = c.loop-i in
    let a = c.args in
    let g = a.g.now in
    let row = l.invariant.1.rest l.i (omega arith) in
    elim c.if-has.branch [
      | then-has w ↦
          let t = w.spread.result in
          let s : Same (Edge t) (Or (Edge (get_or l.g l.i [])) (InPlane a.q.now a.l l.i)) =
          same_or _ _ _ w.spread.ensures (λ b k p. (w.one.ensures.to k p.1, p.0)) (λ b k p. (p.1, w.one.ensures.from k p.0)) in
          rw w.g-is (
            (
              square_put l.g l.i t (omega arith) (omega arith) l.invariant.0.0,
              small_put l.g l.i a.l t _ (omega (arith, l.invariant.1.long)) (omega arith) l.invariant.0.1 s,
            ),
            passed_more [] 16 _ g l.g l.i _ l.invariant.1 (omega arith) (rw row at s),
          )
      | else-has w ↦
          rw w.g-is (
            rw (set-get_or l.g l.i []) l.invariant.0,
            passed_more [] 16 _ g l.g l.i _ l.invariant.1 (omega arith)
                (rw row
                (record {
                  to = λ b k e. inl e;
                  from = λ b k. ⊎_elim (λ e. e)
                      (λ e. absurd (iff_false c.has.ensures w.if-has.false (c.any-c.ensures.from l.i (b, e.1))));
                })),
          )
    ]

pub returns-clause-grown : goal.returns-clause-grown
returns-clause-grown c = let l = c.loop-i in
    let q = c.args.q.now in record {
      row = grid_all _ _ _ _ l.invariant.1 (omega arith)
          (λ a b k. ⊎_elim
          (λ p. cell_row c.args.g.now 16 a b k c.requires.1.0.rows p)
          (λ p. edge_column q c.fits-q b a p.1));
    }
