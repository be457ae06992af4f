-- The turn that a byte of the schedule stands for, in the numbers of docs/FORMAT.md.
use Rattle.std.specs.Prelude.{◌≡◌, refl, Bool, cond, ℕ, ◌≤◌, ◌<◌, ◌%◌}
use Rattle.std.proofs.Common.{ap, lt-ltb, le-ltb}
use Rattle.run.specs.Run.{first, second}
use Rattle.schedule.specs.Schedule.{turn_of}

-- its thread is what is left over by 16
pub thread_of_byte : (b : ℕ) → (turn_of b).0 ≡ b % 16
thread_of_byte b = refl

-- it takes the first alternative below 128
pub first_below_128 : (b : ℕ) → b < 128 → (turn_of b).1 ≡ first
first_below_128 b l = ap (λ (c : Bool). cond c first second) (lt-ltb b 128 l)

-- and the second from 128 on
pub second_from_128 : (b : ℕ) → 128 ≤ b → (turn_of b).1 ≡ second
second_from_128 b l = ap (λ (c : Bool). cond c first second) (le-ltb b 128 l)
