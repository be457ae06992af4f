-- `list` meets its contract, by the cases of the answer.
use Rattle.std.proofs.Common.{arith, refl, subst}
use Rattle.analysis.specs.Answer.{Fits}
use Rattle.listing.proofs.ListLaws.{judged_few, judged_small, listed}
use Rattle.listing.proofs.list.Goals as goal

pub list_judged-requires : goal.list_judged-requires
list_judged-requires c =
    let h = c.analyse.ensures.analysed in
    let few = judged_few _ _ _ _ h _ (λ i. omega (arith, c.type_inv.table i)) c.in-Ok.is in
    let small = judged_small _ _ _ _ h _ (λ i. omega (arith, c.type_inv.table i)) c.in-Ok.is in
    (omega (arith, few, c.routines.ensures), (subst Fits c.in-Ok.is c.analyse.ensures.fits).0, small)

pub returns-in-Ok-clause-listed : goal.returns-in-Ok-clause-listed
returns-in-Ok-clause-listed c =
    listed _ _ _ _ c.analyse.ensures.analysed _ _ c.routines.ensures c.in-Ok.is c.list_judged.ensures.appends

pub returns-in-Err-clause-listed : goal.returns-in-Err-clause-listed
returns-in-Err-clause-listed c =
    listed _ _ _ _ c.analyse.ensures.analysed _ _ refl c.in-Err.is c.list_refused.ensures.appends
