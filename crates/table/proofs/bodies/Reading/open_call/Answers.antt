-- `open_call` meets its contract: its names are read as the check reads them.
use Rattle.std.proofs.Common.{◌≡◌, ◌∙◌, sym, ap, ◌+◌, ℕ, arith}
use Rattle.table.specs.Laws.Readers.{with_item}
use Rattle.table.specs.declared.bodies.Opening.TheVariants.{Plain}
use Rattle.std.specs.Prelude.{Ok}
use Rattle.table.proofs.OpeningLaws.{call_unnamed, call_named}
use Rattle.table.proofs.bodies.Reading.open_call.Goals as goal

pub returns-then-names_at : goal.returns-then-names_at
returns-then-names_at c =
    let a = c.args in
    let t = a.self.now in
    let e : c.from-then-names_at.result ≡ c.from.result = c.from-then-names_at.ensures ∙ sym c.from.ensures in
    ap (λ (v : ℕ). Ok (Plain (with_item a.p (a.p.at + 2 + v)))) e
    ∙ call_named t.counts.now t.section.now t.own a.p (omega arith) c.from-r.result c.from-r.ensures (omega arith)
    c.from.result c.from.ensures (sym c.names_at.ensures ∙ c.if-names_at.true)

pub returns-else-names_at : goal.returns-else-names_at
returns-else-names_at c =
    let a = c.args in
    let t = a.self.now in
    call_unnamed t.counts.now t.section.now t.own a.p (omega arith) c.from-r.result c.from-r.ensures (omega arith)
    c.from.result c.from.ensures (sym c.names_at.ensures ∙ c.if-names_at.false)
