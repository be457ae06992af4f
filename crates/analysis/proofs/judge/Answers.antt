-- `judge` meets its contract: the bodies are surveyed, and then judged.
use Rattle.std.proofs.Common.{arith}
use native.Mathlib.Numerals.{unary_clauses}
use Rattle.table.proofs.Laws.Sections.{few}
use Rattle.settle.specs.Laws.Surveys.{cut_surveyed}
use Rattle.analysis.proofs.judge.Goals as goal

pub shared_ref_as_front-judge_surveyed : goal.shared_ref_as_front-judge_surveyed
shared_ref_as_front-judge_surveyed c =
    let f = few c.args.t.now.counts.now c.args.t.now.bodies.now (c.requires.program, c.requires.holds) in
    omega arith

pub returns : goal.returns
returns c =
    let v = c.fill in
    let t = c.args.t.now in
    λ P h. c.judge_surveyed.ensures P (record {
      holds = h;
      surveyed = simp unary_clauses at (cut_surveyed t.counts.now t.bodies.now v.new.self.starts v.new.self.calls v.ensures P h);
    })
