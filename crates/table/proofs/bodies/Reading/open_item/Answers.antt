-- `open_item` meets its contract: the two blocks of a CHOICE, and a byte that is no code.
use Rattle.std.proofs.Common.{get_or, arith}
use Rattle.table.proofs.OpeningLaws.{no_kind, unknown, choice_opens}
use Rattle.table.proofs.bodies.Reading.open_item.Goals as goal

pub returns-in-4 : goal.returns-in-4
returns-in-4 c =
    let a = c.args in
    choice_opens a.self.now.counts.now a.self.now.section.now a.self.now.own a.p a.depth a.first (omega arith)
    c.requires (omega arith) (omega arith)

pub returns-in_default-2 : goal.returns-in_default-2
returns-in_default-2 c =
    let a = c.args in
    let k = no_kind (get_or a.self.now.section.now a.p.at 0) (omega arith) in
    unknown a.self.now.counts.now a.self.now.section.now a.self.now.own a.p a.depth a.first (omega arith) k
