-- `enter` meets its contract: the names are copied to the level above.
use Rattle.std.proofs.Common.{rules, ◌≡◌, ◌∙◌, List, ℕ, ◌+◌, ap, length, set}
use Rattle.schedule.specs.Limits.{all_names}
use Rattle.steps.specs.Records.{rec}
use Rattle.steps.proofs.Copies.{copied_is}
use Rattle.steps.proofs.thread.Thread.enter.Goals as goal

pub returns : goal.returns
returns c =
    let t = c.args.self.now in
    let long : length c.args.self.now.names ≡ all_names = search rules in
    ap (λ (ns : List ℕ). rec c.args.at (t.depth + 1) t.ended (set t.kinds t.depth c.args.kind) t.goes ns)
    (c.copy_within.ensures.after ∙ copied_is t.names t.depth c.requires long)
