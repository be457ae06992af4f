-- `bring` meets its contract: the new bodies are surveyed, and the rest follows.
use Rattle.std.proofs.Common.{arith}
use native.Mathlib.Numerals.{unary_clauses}
use Rattle.table.proofs.Laws.Sections.{few}
use Rattle.settle.specs.Laws.Surveys.{cut_surveyed}
use Rattle.update.proofs.bring.Goals as goal

pub shared_ref_as_front-bring_surveyed : goal.shared_ref_as_front-bring_surveyed
shared_ref_as_front-bring_surveyed c =
    let f = few c.args.new.now.counts.now c.args.new.now.bodies.now (c.requires.new, c.requires.new_held) in
    omega arith

pub returns-clause-brings : goal.returns-clause-brings
returns-clause-brings c =
    let t = c.args.new.now in
    let v = c.fill in
    λ P Q p q. c.bring_surveyed.ensures.brings P Q p (record {
      holds = q;
      surveyed = simp unary_clauses at (cut_surveyed t.counts.now t.bodies.now v.new.self.starts v.new.self.calls v.ensures Q q);
    })
