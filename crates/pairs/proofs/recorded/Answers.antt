-- `recorded` meets its contract: for each body that the bytes can be, the grid gained what the items passed record.
use mathlib.Core.Path.{refl, ap, ◌∙◌}
use native.Mathlib.Omega.{arith}
use borrow.Author.Rules.{rules}
use Rattle.grid.proofs.Laws.Square.{square_of}
use Rattle.pairs.specs.Walks.{Walk, walk_of, level_of}
use Rattle.pairs.proofs.Steps.{Going, ready_pass}
use Rattle.pairs.proofs.Recording.{record_start, record_there, record_entries, record_ready, record_here, record_opened}
use Rattle.pairs.proofs.Recording.{record_inside, record_call_ready, record_lock, record_other}
use Rattle.pairs.proofs.Recording.{record_less, record_shrinks, record_called, record_close, record_end}
use Rattle.pairs.proofs.recorded.Goals as goal

pub loop-s-init : goal.loop-s-init
loop-s-init c = let a = c.args in
    rw (c.new-p.ensures, c.new-v.ensures) (record {
      gains = record_start a.t.now.counts.now a.k a.t.now.bodies.now a.at a.rows.now a.g c.requires.2;
      square = square_of a.g _ (omega arith) c.well_formed.0.1.1;
    })

pub bounds-s-p : goal.bounds-s-p
bounds-s-p c = record_there c.loop-s.invariant.gains c.requires.0

pub returns-then-p-eq0 : goal.returns-then-p-eq0
returns-then-p-eq0 c =
    record_end c.loop-s.invariant.gains c.requires.0 c.if-b-eq-END.true c.if-p-eq0.true

pub overflow_add-p : goal.overflow_add-p
overflow_add-p c = let z = record_there c.loop-s.invariant.gains c.requires.0 in search rules

pub loop-s-smaller-then-b-eq-END : goal.loop-s-smaller-then-b-eq-END
loop-s-smaller-then-b-eq-END c = let z = record_there c.loop-s.invariant.gains c.requires.0 in omega arith

pub loop-s-preserved-then-b-eq-END : goal.loop-s-preserved-then-b-eq-END
loop-s-preserved-then-b-eq-END c = let l = c.loop-s.invariant in record {
  gains = record_close l.gains c.requires.0 c.if-b-eq-END.true (let n = c.if-p-eq0.false in omega arith);
  square = l.square;
}

pub at-here-requires : goal.at-here-requires
at-here-requires c = record_entries c.loop-s.invariant.gains c.requires.0

pub called-requires : goal.called-requires
called-requires c =
    let l = c.loop-s.invariant in
    (record_call_ready l.gains c.requires.0 c.if-b-eq-CALL.true c.requires.1, l.gains.small, l.square)

pub past-requires : goal.past-requires
past-requires c =
    let g : Going c.args.t.now.bodies.now c.loop-s.p.at c.loop-s.p.top =
    λ e. absurd (c.if-b-eq-END.false e) in
    ready_pass c.args.t.now.counts.now c.args.t.now.bodies.now (walk_of c.loop-s.p c.loop-s.v)
    (record_ready c.loop-s.invariant.gains c.requires.0 g)

pub loop-s-smaller-then-b-eq-CALL : goal.loop-s-smaller-then-b-eq-CALL
loop-s-smaller-then-b-eq-CALL c =
    let g : Going c.args.t.now.bodies.now c.loop-s.p.at c.loop-s.p.top =
    λ e. absurd (c.if-b-eq-END.false e) in
    rw c.past.ensures (record_shrinks c.loop-s.invariant.gains c.requires.0 g)

pub loop-s-preserved-then-b-eq-CALL : goal.loop-s-preserved-then-b-eq-CALL
loop-s-preserved-then-b-eq-CALL c =
    let l = c.loop-s.invariant in
    let g : Going c.args.t.now.bodies.now c.loop-s.p.at c.loop-s.p.top =
    λ e. absurd (c.if-b-eq-END.false e) in
    rw c.past.ensures (record {
      gains = record_called l.gains c.requires.0 _ g c.if-b-eq-CALL.true c.called.ensures.gains;
      square = c.called.ensures.square;
    })

pub step-requires : goal.step-requires
step-requires c =
    (record_ready c.loop-s.invariant.gains c.requires.0 (λ e. absurd (c.if-b-eq-END.false e)), refl)

pub at-inside-requires : goal.at-inside-requires
at-inside-requires c =
    rw (ap (λ (w : Walk). w.top) c.step.ensures)
    (record_opened c.loop-s.invariant.gains c.requires.0 (λ e. absurd (c.if-b-eq-END.false e)) c.if-b-eq-LOCK.true).0

pub locked-requires : goal.locked-requires
locked-requires c =
    let l = c.loop-s.invariant in
    let g : Going c.args.t.now.bodies.now c.loop-s.p.at c.loop-s.p.top =
    λ e. absurd (c.if-b-eq-END.false e) in
    let h = record_here l.gains c.requires.0 in
    let i = record_inside l.gains c.requires.0 g c.if-b-eq-LOCK.true in
    let o = record_opened l.gains c.requires.0 g c.if-b-eq-LOCK.true in
    rw (c.at-here.ensures, c.at-inside.ensures ∙ (ap level_of c.step.ensures ∙ o.1))
    (h.0, i, h.1, l.gains.small, l.square)

pub loop-s-smaller-then-b-eq-LOCK : goal.loop-s-smaller-then-b-eq-LOCK
loop-s-smaller-then-b-eq-LOCK c =
    rw (ap (λ (w : Walk). w.at) c.step.ensures)
    (record_less c.loop-s.invariant.gains c.requires.0 (λ e. absurd (c.if-b-eq-END.false e)))

pub loop-s-preserved-then-b-eq-LOCK : goal.loop-s-preserved-then-b-eq-LOCK
loop-s-preserved-then-b-eq-LOCK c =
    let l = c.loop-s.invariant in
    let g : Going c.args.t.now.bodies.now c.loop-s.p.at c.loop-s.p.top =
    λ e. absurd (c.if-b-eq-END.false e) in
    let o = record_opened l.gains c.requires.0 g c.if-b-eq-LOCK.true in
    rw c.step.ensures (record {
      gains = record_lock l.gains c.requires.0 _ g c.if-b-eq-LOCK.true
          (rw (c.at-here.ensures, c.at-inside.ensures ∙ (ap level_of c.step.ensures ∙ o.1))
          at c.locked.ensures.gains);
      square = c.locked.ensures.square;
    })

pub loop-s-smaller : goal.loop-s-smaller
loop-s-smaller c =
    rw (ap (λ (w : Walk). w.at) c.step.ensures)
    (record_less c.loop-s.invariant.gains c.requires.0 (λ e. absurd (c.if-b-eq-END.false e)))

pub loop-s-preserved : goal.loop-s-preserved
loop-s-preserved c =
    let l = c.loop-s.invariant in
    let g : Going c.args.t.now.bodies.now c.loop-s.p.at c.loop-s.p.top =
    λ e. absurd (c.if-b-eq-END.false e) in
    rw c.step.ensures (record {
      gains = record_other l.gains c.requires.0 g (omega arith) (omega arith);
      square = l.square;
    })
