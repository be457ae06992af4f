-- `kept` meets its contract: with equal ends the mask has several alone, if m has it.
use mathlib.Core.Logic.{inr, ⊎_elim}
use Rattle.grid.proofs.Laws.Masks.{bits_map, bits_self, bits_both}
use Rattle.grid.proofs.kept.Goals as goal

pub returns-then-a-b : goal.returns-then-a-b
returns-then-a-b c = let a = c.args in
    bits_map (λ k p. (p.0, inr p.1)) (λ k p. (p.0, ⊎_elim (λ n. absurd (n c.if-a-b.true)) (λ e. e) p.1))
    (bits_both (bits_self a.m) c.one.ensures)
