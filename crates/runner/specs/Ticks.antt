-- Ticks: the record that the machine looks at is stepped and stored, until nothing more is to be done.
use Rattle.std.specs.Prelude.{◌≡◌, false, cond, List, ℕ, ◌+◌, ◌*◌, ◌-◌, ◌<◌, length, get_or, set}
use Rattle.steps.specs.declared.thread.Thread.{Thread as Record}
use Rattle.steps.specs.Shown.{blank}
use Rattle.links.specs.Lies.{Section, section}
use Rattle.steps.specs.declared.machine.Machine.{Machine}
use Rattle.steps.specs.declared.Course.{Course}
use Rattle.steps.specs.Machines.{is_born, is_over}
use Rattle.steps.specs.Steps.{Ticked, step_as, Ready}
use Rattle.schedule.specs.Limits.{most_frames, all_names}

-- what a tick needs beside the records and the machine
abbrev pub course_of : Course → Section
course_of c = section c.sections.counts.now c.sections.bodies.now c.heads.now c.links.now c.schedule.now

-- a tick of the machine on the record t
abbrev pub tick_as : Section → Record → Machine → Ticked
tick_as z t m = step_as z.counts z.bytes z.heads z.links z.schedule t m

-- the record that the machine looks at
abbrev pub looked : List Record → Machine → Record
looked ts m = get_or ts m.pick blank

-- the records after a tick
abbrev pub records_after : Section → List Record → Machine → List Record
records_after z ts m = set ts m.pick (tick_as z (looked ts m) m).thread

-- the machine after a tick
abbrev pub machine_after : Section → List Record → Machine → Machine
machine_after z ts m = (tick_as z (looked ts m) m).machine

-- the arrays of a record have their lengths: every record that is written has
pub record Sized (t : Record) : Type 0 where
  pub kinds : length t.kinds ≡ most_frames
  pub goes : length t.goes ≡ most_frames
  pub names : length t.names ≡ all_names

-- the record t can be stepped
abbrev pub CanStep : Section → Record → Machine → Type 0
CanStep z t m = Ready z.counts z.bytes z.heads z.links z.schedule t m

-- a tick can be taken
pub record CanTick (z : Section) (ts : List Record) (m : Machine) : Type 0 where
  pub lent : m.pick < length ts
  pub ready : CanStep z (looked ts m) m

-- by ticks, from records and a machine to records and a machine
pub data Ticks (z : Section) (ts : List Record) (m : Machine) : List Record → Machine → Type 0 where
  start : Ticks z ts m ts m
  more : (us vs : List Record) (n k : Machine) → Ticks z ts m us n → is_over n.stage ≡ false → vs ≡ records_after z us n
      → k ≡ machine_after z us n → Sized (tick_as z (looked us n) n).thread → Ticks z ts m vs k

-- how much is left to do, at most: two ticks for each byte, for a thread may start
abbrev pub left : Section → Machine → ℕ
left z m =
    cond (is_over m.stage) 0 (2 * (length z.schedule - m.read) + cond (is_born m.stage) 2 1)

-- wherever ticks lead, one more can be taken and less is left to do, unless nothing more is to be done
abbrev pub Steady : Section → List Record → Machine → Type 0
Steady z ts m =
    (us : List Record) (n : Machine) → Ticks z ts m us n → is_over n.stage ≡ false
    → CanTick z us n × (left z (machine_after z us n) < left z n)
