-- `level` meets its contract: the part of the names that is the level's.
use Rattle.std.proofs.Common.{rules, ◌≡◌, ◌∙◌, ℕ, ◌+◌, ◌*◌, ◌-◌, ap, arith, length, take, drop}
use Rattle.table.specs.Constants.{most_names}
use Rattle.schedule.specs.Limits.{all_names}
use Rattle.steps.proofs.Copies.{level_is}
use Rattle.steps.proofs.thread.Thread.level.Goals as goal

pub returns : goal.returns
returns c =
    let t = c.args.self.now in
    let long : length c.args.self.now.names ≡ all_names = search rules in
    let n : most_names * c.args.self.now.depth + most_names - most_names * c.args.self.now.depth ≡ most_names = omega arith in
    c.copy_from_slice.ensures.after
    ∙ ap (λ (k : ℕ). take k (drop (most_names * c.args.self.now.depth) c.args.self.now.names)) n
    ∙ level_is t.names t.depth c.requires long
