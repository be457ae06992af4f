-- `read` meets its contract: the mask that the code makes holds the parameters, so the block that it reads is the body.
use Rattle.std.proofs.Common.{◌∙◌}
use Rattle.table.proofs.BodyLaws.{body_is}
use Rattle.table.proofs.reader.Body.read.Goals as goal

pub returns : goal.returns
returns c =
    let a = c.args in
    c.read_block.ensures ∙ body_is a.ks.now a.self.section.now a.self.at a.own a.items c.requires.few_params
