-- `row_fits` meets its contract: `bad` is 0 where the cells passed fit.
use Rattle.std.specs.Prelude.{List, ℕ, ◌+◌, ◌-◌, ◌*◌, take, drop}
use Rattle.std.proofs.Common.{rules, arith, length-append}
use Rattle.std.proofs.lemmas.Slice.Zip.{zip_turn}
use Rattle.update.proofs.FitLaws.{cells_turn}
use Rattle.update.proofs.fits.row_fits.Goals as goal

pub loop-cell-preserved : goal.loop-cell-preserved
loop-cell-preserved c =
    let a = c.args in
    let l = c.loop-cell in
    let row : List ℕ = take (65 * a.r + 65 - 65 * a.r) (drop (65 * a.r) a.model.now) in
    let t = zip_turn row a.needed.now l.yielded c.into_iter-cell-iterator.result l.cell-iterator c.next.new.self
    c.next.result (search rules) (search rules) l.yielded_by _ c.in-Some.is c.next.ensures.steps in
    cells_turn a.model.now a.needed.now a.r a.k _ _ l.bad c.bits_outside.result c.in-Some.cell.now c.in-Some.n.now
    (t.2 0) (t.3 0) t.1 (simp length-append) c.requires.1 c.requires.2
    (λ x. omega (arith, c.type_inv.model x)) c.bits_outside.ensures l.invariant
