-- `clashing` meets its contract: where l with l gives several each label clashes with l, else each but l.
use mathlib.Core.Path.{sym, ap, ◌∙◌}
use native.Mathlib.Omega.{arith}
use Rattle.rules.specs.Number.{number}
use Rattle.grid.proofs.Laws.Masks.{bits_map, bits_self, bits_without}
use Rattle.grid.proofs.Laws.Labels.{others_clash}
use Rattle.grid.proofs.planes.clashing.Goals as goal

pub returns-else-combine : goal.returns-else-combine
returns-else-combine c = let a = c.args in
    bits_map
    (λ m p. (p.0, others_clash a.l m (λ e. p.1 (sym e))))
    (λ m p. (p.0, λ e. c.if-combine.false (c.combine.ensures ∙ ap number (rw e at p.1))))
    (bits_without (omega arith) (omega arith) (bits_self a.c) c.one.ensures)
