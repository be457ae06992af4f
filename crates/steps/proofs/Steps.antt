-- What is done to the record that the machine looks at, by the stage and by whether the thread has ended.
use Rattle.std.proofs.Common.{◌≡◌, refl, ◌∙◌, true, false, List}
use Rattle.std.proofs.Common.{ℕ}
use Rattle.steps.specs.declared.thread.Thread.{Thread as Record}
use Rattle.steps.specs.declared.machine.Stage.{Stage}
use Rattle.steps.specs.declared.machine.Stage.TheVariants.{Born, Turn, Over}
use Rattle.steps.specs.declared.machine.Machine.{Machine}
use Rattle.steps.specs.Records.{born_at}
use Rattle.steps.specs.Machines.{is_born, settled_as}
use Rattle.steps.specs.Steps.{Ticked, pair, idle_as, item_as, step_as}

pub step_born :
    (ks s heads links bs : List ℕ) (t u : Record) (m v : Machine) → is_born m.stage ≡ true → u ≡ born_at t m.head m.born
    → v ≡ settled_as m bs → pair u v ≡ step_as ks s heads links bs t m
unfolding step_as
step_born ks s heads links bs t u m v h a b = rw (h, a, b) refl

pub step_idle :
    (ks s heads links bs : List ℕ) (t : Record) (m : Machine) (r : Ticked) → is_born m.stage ≡ false → t.ended ≡ true
    → r ≡ idle_as bs t m → r ≡ step_as ks s heads links bs t m
unfolding step_as
step_idle ks s heads links bs t m r h k e = e ∙ rw (h, k) refl

pub step_item :
    (ks s heads links bs : List ℕ) (t : Record) (m : Machine) (r : Ticked) → is_born m.stage ≡ false → t.ended ≡ false
    → r ≡ item_as ks s heads links bs t m → r ≡ step_as ks s heads links bs t m
unfolding step_as
step_item ks s heads links bs t m r h k e = e ∙ rw (h, k) refl

-- a stage that is not Born is another
pub unborn : (w : Stage) → (w ≡ Born → ⊥) → is_born w ≡ false
unborn Born n = absurd (n refl)
unborn Turn n = refl
unborn (Over v) n = refl
