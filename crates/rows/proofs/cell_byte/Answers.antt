-- `cell_byte` meets its contract: the forks and unknown are bits in a row, whose number is zero where there is none.
use native.Mathlib.Omega.{arith}
use Rattle.rows.proofs.Masks.{cell_bits_lem}
use Rattle.rows.proofs.cell_byte.Goals as goal

pub returns-then-m-eq0 : goal.returns-then-m-eq0
returns-then-m-eq0 c = cell_bits_lem c.args.m _ 0 (omega arith) (omega arith) (λ e. absurd (omega arith)) (λ e. c.if-m-eq0.true)

pub returns-else-m-eq0 : goal.returns-else-m-eq0
returns-else-m-eq0 c = cell_bits_lem c.args.m _ 1 (omega arith) (omega arith) (λ e. c.if-m-eq0.false) (λ e. absurd (omega arith))
