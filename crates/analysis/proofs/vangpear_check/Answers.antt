-- `vangpear_check` meets its contract: the numbers of the answer are small enough for 32 bits.
use Rattle.std.proofs.Common.{rules, arith}
use Rattle.analysis.proofs.NumberLaws.{accepted_small}
use Rattle.analysis.proofs.vangpear_check.Goals as goal

pub overflow_mul-result : goal.overflow_mul-result
overflow_mul-result c =
    let h = accepted_small c.args.table.now c.in-Ok.a (λ i. omega (arith, c.type_inv.table i)) c.in-Ok.ensures in
    search rules

pub overflow_add-result : goal.overflow_add-result
overflow_add-result c =
    let h = accepted_small c.args.table.now c.in-Ok.a (λ i. omega (arith, c.type_inv.table i)) c.in-Ok.ensures in
    search rules

pub overflow_cast-result : goal.overflow_cast-result
overflow_cast-result c =
    let h = accepted_small c.args.table.now c.in-Ok.a (λ i. omega (arith, c.type_inv.table i)) c.in-Ok.ensures in
    search rules
