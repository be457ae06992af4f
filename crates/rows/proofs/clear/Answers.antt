-- `clear` meets its contract: the part that is filled with zeros is zero.
use Rattle.std.proofs.Common.{◌≡◌, ◌-◌, replicate, rules}
use Rattle.rows.proofs.Clearing.{cleared_part}
use Rattle.rows.proofs.clear.Goals as goal

pub returns : goal.returns
returns c = let a = c.args in
    let z : c.fill.new.self ≡ replicate (a.end - a.start) 0 = search rules in
    cleared_part a.start a.end a.model.now c.fill.new.self c.requires.0 c.requires.1 z
