-- `Judgement::of` meets its contract: verdict and share are read off the routines that calls reach.
use Rattle.std.proofs.Common.{arith}
use Rattle.analysis.proofs.VerdictLaws.{can_reach, all_named, some_counted, few_counted, pronounced}
use Rattle.analysis.proofs.Judgement.of.Goals as goal

pub reached-mask-requires : goal.reached-mask-requires
reached-mask-requires c = can_reach c.args.calls.now c.args.model.now c.args.names.now c.requires

pub of-verdict-requires : goal.of-verdict-requires
of-verdict-requires c =
    all_named c.args.calls.now c.args.model.now c.args.names.now c.reached-mask.result c.ring_rows-rings.result
    c.reached-mask.ensures c.ring_rows-rings.ensures c.requires

pub of-share-requires : goal.of-share-requires
of-share-requires c =
    let m = c.reached-mask in
    let r = c.ring_rows-rings in
    let some = some_counted c.args.calls.now c.args.model.now c.args.names.now m.result r.result m.ensures r.ensures
    m.type_inv r.type_inv c.requires in
    let few = few_counted m.result r.result m.type_inv r.type_inv in
    (omega (arith, c.from.ensures), omega (arith, c.from-2.ensures))

pub returns-clause-pronounces : goal.returns-clause-pronounces
returns-clause-pronounces c =
    let m = c.reached-mask in
    let r = c.ring_rows-rings in
    pronounced c.args.calls.now c.args.model.now c.args.names.now m.result r.result m.ensures r.ensures m.type_inv
    r.type_inv c.from.result c.from-2.result
    (record { verdict = c.of-verdict.result; share = c.of-share.result; rounds = c.args.rounds }) c.from.ensures c.from-2.ensures c.of-verdict.ensures c.of-share.ensures
