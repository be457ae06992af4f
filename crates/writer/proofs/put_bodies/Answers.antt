-- `put_bodies` meets its contract: after i turns the bodies of the first i routines are written.
use Rattle.std.proofs.Common.{refl, rules}
use Rattle.writer.proofs.TableLaws.{start_here, count_here, body_ready, putting_on}
use Rattle.writer.proofs.put_bodies.Goals as goal

pub bounds-starts-r : goal.bounds-starts-r
bounds-starts-r c =
    let h = start_here c.requires.0 c.met-routines.ensures c.loop-x-test.true c.from-r.ensures in search rules

pub end_of-requires : goal.end_of-requires
end_of-requires c = start_here c.requires.0 c.met-routines.ensures c.loop-x-test.true c.from-r.ensures

pub bounds-t-r : goal.bounds-t-r
bounds-t-r c =
    let h = count_here c.requires.0 c.met-routines.ensures c.loop-x-test.true c.from-r.ensures in search rules

pub put_body-requires : goal.put_body-requires
put_body-requires c =
    body_ready c.requires.0 c.met-routines.ensures c.loop-x-test.true c.from-r.ensures refl c.end_of.ensures refl
    c.loop-x.invariant c.requires.1

pub loop-x-preserved : goal.loop-x-preserved
loop-x-preserved c =
    putting_on c.requires.0 c.met-routines.ensures c.loop-x-test.true c.from-r.ensures refl c.end_of.ensures refl
    c.loop-x.invariant c.requires.1 c.put_body.ensures
