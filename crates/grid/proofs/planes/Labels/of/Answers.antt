-- `Labels::of` meets its contract: each label of a pair is in the row of its first name, and so in the mask of all.
use Rattle.grid.proofs.planes.Labels.of.Goals as goal

pub invariant_of-result : goal.invariant_of-result
invariant_of-result c = record {
  listed = λ a b l h.
      let e = c.row_labels-rows.ensures.from a l (b, h) in (e, c.any-some.ensures.from l (a, e));
}
