-- Ticks keep the records and the machine on the run, and where nothing more is to be done they have its result.
use Rattle.std.specs.Prelude.{◌≡◌, refl, Bool, true, false, List, [], ◌∷◌}
use Rattle.std.proofs.Common.{sym, ◌∙◌, ap, subst, arith}
use Rattle.table.specs.Program.{Program, end, new, lock, fork, choice, call, mirror}
use Rattle.run.specs.Run.{frame, Thread, ended, at, State, thread}
use Rattle.schedule.specs.Schedule.{End, Result, stop}
use Rattle.steps.specs.declared.thread.Thread.{Thread as Record}
use Rattle.steps.specs.declared.machine.Machine.{Machine}
use Rattle.steps.specs.declared.machine.Ending.{Ending}
use Rattle.steps.specs.declared.machine.Stage.TheVariants.{Born, Turn, Over}
use Rattle.steps.specs.Machines.{is_over}
use Rattle.runner.specs.Answer.{ending_of}
use Rattle.links.specs.Lies.{Section}
use Rattle.runner.specs.Ticks.{Sized, looked, tick_as, records_after, machine_after, Ticks, start, more}
use Rattle.links.specs.Lies.{Bodies}
use Rattle.runner.specs.Tracks.{Tracks}
use Rattle.runner.proofs.Laws.Settles.{Stage, births, turns, over}
use Rattle.runner.proofs.Laws.Ticking.{On, tick_births}
use Rattle.runner.proofs.Laws.Turns.{Taking, tick_ended, tick_new, tick_lock, tick_choice, tick_call, tick_mirror}
use Rattle.runner.proofs.Laws.Turns.{tick_end, tick_close}
use Rattle.runner.proofs.Laws.Forks.{tick_fork}

module _ (P : Program) (z : Section) (R : Result) (bodies : Bodies P z) where
  -- in some state the records and the machine are on the run
  abbrev pub OnRun : List Record → Machine → Type 0
  OnRun ts m = (s : State) × On P z R s ts m

  -- a byte is taken, whatever the thread is
  taking :
      (s : State) (ts : List Record) (m : Machine) (x : Thread) → Taking P z R s ts m x
      → OnRun (records_after z ts m) (machine_after z ts m)
  taking s ts m ended k = (s, tick_ended P z R s ts m k)
  taking s ts m (at end e []) k = tick_end P z R s ts m e k
  taking s ts m (at end e (frame o g d ∷ fs)) k = tick_close P z R s ts m o d e g fs k
  taking s ts m (at (new x c) e fs) k = tick_new P z R s ts m x c e fs k
  taking s ts m (at (lock x c d) e fs) k = tick_lock P z R s ts m x c d e fs k
  taking s ts m (at (fork i c d) e fs) k = tick_fork P z R s ts m i c d e fs k
  taking s ts m (at (choice a b c) e fs) k = tick_choice P z R s ts m a b c e fs k
  taking s ts m (at (call r xs c) e fs) k = tick_call P z R s ts m r xs c e fs bodies k
  taking s ts m (at (mirror x y c) e fs) k = tick_mirror P z R s ts m x y c e fs k

  -- one tick
  pub on_tick :
      (ts : List Record) (m : Machine) → OnRun ts m → is_over m.stage ≡ false → Sized (tick_as z (looked ts m) m).thread
      → OnRun (records_after z ts m) (machine_after z ts m)
  on_tick ts m (s, on) going sized = by on.1
    where
      by : Stage P z R s m → OnRun (records_after z ts m) (machine_after z ts m)
      by (births e p n) =
          let r = on.0.room in
          (s, tick_births P z R s ts m on.0 e (omega (arith, p, r)) n sized)
      by (turns e n d) =
          taking s ts m (thread s m.pick) (record { tracks = on.0; stage = e; next = n; due = d; is = refl })
      by (over w e r) = absurd (let z : ◌≡◌ {A = Bool} false true = sym going ∙ ap is_over e in cc)

  -- any number of ticks
  pub on_ticks : (ts us : List Record) (m n : Machine) → Ticks z ts m us n → OnRun ts m → OnRun us n
  on_ticks ts us m n ticks on = go us n ticks
    where
      go : (ws : List Record) (j : Machine) → Ticks z ts m ws j → OnRun ws j
      go ws j start = on
      go ws j (more vs xs k i before going v w sized) =
          let r = on_tick vs k (go vs k before) going sized in
          subst (λ (q : Machine). OnRun ws q) (sym w)
          (subst (λ (q : List Record). OnRun q (machine_after z vs k)) (sym v) r)

  -- where nothing more is to be done, the machine and the records have the result of the run
  pub on_over : (ts : List Record) (m : Machine) (x : Ending) → OnRun ts m → m.stage ≡ Over x
      → (w : End) × (x ≡ ending_of w) × (R ≡ stop w m.read R.state) × Tracks z R.state ts m
  on_over ts m x (s, on) e = by on.1
    where
      by : Stage P z R s m
          → (w : End) × (x ≡ ending_of w) × (R ≡ stop w m.read R.state) × Tracks z R.state ts m
      by (births g p n) = absurd (let z : Born ≡ Over x = sym g ∙ e in cc)
      by (turns g n d) = absurd (let z : Turn ≡ Over x = sym g ∙ e in cc)
      by (over w g r) =
          let q : R.state ≡ s = ap (λ (v : Result). v.state) r in
          let h : Over x ≡ Over (ending_of w) = sym e ∙ g in
          (w, cc, r ∙ ap (stop w m.read) (sym q), subst (λ (v : State). Tracks z v ts m) (sym q) on.0)
