-- `begin` meets its contract: the names given, before the names of the other levels.
use Rattle.std.proofs.Common.{rules, ◌≡◌, ◌∙◌, List, ℕ, ◌++◌, ap, false, length, drop}
use Rattle.table.specs.Constants.{most_names}
use Rattle.schedule.specs.Limits.{all_names}
use Rattle.steps.specs.Records.{rec}
use Rattle.steps.proofs.Copies.{taken_is}
use Rattle.steps.proofs.thread.Thread.begin.Goals as goal

pub returns : goal.returns
returns c =
    let t = c.args.self.now in
    let few : length c.args.names.now ≡ most_names = search rules in
    let long : length c.args.self.now.names ≡ all_names = search rules in
    ap (λ (ns : List ℕ). rec c.args.at 0 false t.kinds t.goes ns)
    (ap (λ (xs : List ℕ). xs ++ drop most_names t.names) c.copy_from_slice.ensures.after
    ∙ taken_is t.names c.args.names.now few long)
