-- Wherever ticks lead on the run, one more can be taken and less is left to do.
use Rattle.std.specs.Prelude.{◌≡◌, refl, Bool, true, false, List, ◌<◌}
use Rattle.std.proofs.Common.{sym, ◌∙◌, ap, arith}
use Rattle.table.specs.Program.{Program}
use Rattle.run.specs.Run.{thread}
use Rattle.schedule.specs.Schedule.{Result}
use Rattle.steps.specs.declared.thread.Thread.{Thread as Record}
use Rattle.steps.specs.declared.machine.Machine.{Machine}
use Rattle.steps.specs.Machines.{is_born, is_over}
use Rattle.links.specs.Lies.{Section}
use Rattle.runner.specs.Ticks.{looked, machine_after, CanTick, left, Steady}
use Rattle.runner.proofs.Laws.Settles.{Stage, births, turns, over}
use Rattle.links.specs.Lies.{Bodies}
use Rattle.runner.proofs.Laws.Runs.{OnRun, on_ticks}
use Rattle.runner.proofs.Laws.States.{not_both}
use Rattle.runner.specs.Bounds.{Bounds}
use Rattle.runner.proofs.Laws.Less.{turn_less, birth_less}
use Rattle.runner.proofs.Laws.Ready.{wanting, ready_turn}

module _ (P : Program) (z : Section) (R : Result) (bodies : Bodies P z) (bounds : Bounds z) where
  -- one tick
  can_tick : (ts : List Record) (m : Machine) → OnRun P z R bodies ts m → is_over m.stage ≡ false
      → CanTick z ts m × (left z (machine_after z ts m) < left z m)
  can_tick ts m (s, on) going = by on.1
    where
      by : Stage P z R s m → CanTick z ts m × (left z (machine_after z ts m) < left z m)
      by (births e p n) =
          let r = on.0.room in (
            record {
              lent = omega (arith, p, r);
              ready = record {
                births = λ q. wanting z s ts m on.0;
                counts = λ q. absurd (not_both m.stage q (ap is_born e));
                items = λ q. absurd (not_both m.stage q (ap is_born e));
              };
            },
            birth_less z (looked ts m) m e,
          )
      by (turns e n d) =
          let r = on.0.room in
          let p = d.started in (
            record {
              lent = omega (arith, p, r);
              ready = (ready_turn P z R s ts m bounds (thread s m.pick) bodies
                  (record { tracks = on.0; stage = e; next = n; due = d; is = refl })).1;
            },
            turn_less z (looked ts m) m d.inside e,
          )
      by (over w e r) = absurd (let z : ◌≡◌ {A = Bool} false true = sym going ∙ ap is_over e in cc)

  -- any number of ticks
  pub steady : (ts : List Record) (m : Machine) → OnRun P z R bodies ts m → Steady z ts m
  steady ts m on us n ticks going = can_tick us n (on_ticks P z R bodies ts us m n ticks on) going
