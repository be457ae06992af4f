-- Worked places: where the threads of a program stand after some turns, computed. They try every clause.
use Rattle.std.specs.Prelude.{◌≡◌, refl, [], ◌∷◌}
use Rattle.std.proofs.Math.Decide.{ℕ_discrete}
use Rattle.table.specs.Program.{end, new, lock, choice, call, mirror, Program}
use Rattle.run.specs.Decide.{elsewhere?, some?, in?}
use Rattle.run.specs.Run.{taken?, first, second, Turn, step}
use Rattle.schedule.specs.Places.{places_step, places}
use Rattle.schedule.proofs.Laws.Courses.{opposite}

-- a turn of thread 0
abbrev pub go : Turn
go = (0, first)

-- where table b sticks, thread 0 stands at 12 and thread 1 at 5, in blocks after which they go on at 16 and at 9
b_places : places opposite (go ∷ go ∷ go ∷ go ∷ (1, first) ∷ []) ≡ (12 ∷ 16 ∷ []) ∷ (5 ∷ 9 ∷ []) ∷ []
unfolding places_step step taken? elsewhere? some? in? ℕ_discrete
b_places = refl

-- and there they wait
b_waits : places opposite (go ∷ go ∷ go ∷ go ∷ (1, first) ∷ go ∷ (1, first) ∷ [])
    ≡ (12 ∷ 16 ∷ []) ∷ (5 ∷ 9 ∷ []) ∷ []
unfolding places_step step taken? elsewhere? some? in? ℕ_discrete
b_waits = refl

-- a call with a name, out of a LOCK block in the second alternative: the bodies are at 0 and at 13
abbrev nested : Program
nested =
    record { count = 0; code = new 1 (choice end (mirror 2 1 (lock 2 (call 1 (1 ∷ []) end) end)) end) }
    ∷ record { count = 1; code = new 2 end }
    ∷ []

in_the_call : places nested (go ∷ (0, second) ∷ go ∷ go ∷ go ∷ []) ≡ (13 ∷ 10 ∷ 11 ∷ 12 ∷ []) ∷ []
unfolding places_step step taken? elsewhere? some? in? ℕ_discrete
in_the_call = refl

-- and back
out_of_the_block : places nested (go ∷ (0, second) ∷ go ∷ go ∷ go ∷ go ∷ go ∷ go ∷ []) ≡ (11 ∷ 12 ∷ []) ∷ []
unfolding places_step step taken? elsewhere? some? in? ℕ_discrete
out_of_the_block = refl

-- the first alternative, at 2, goes on behind the second, at 12
in_the_first : places nested (go ∷ go ∷ []) ≡ (2 ∷ 12 ∷ []) ∷ []
unfolding places_step step taken? elsewhere? some? in? ℕ_discrete
in_the_first = refl

-- a thread that has ended stands nowhere
at_the_end : places nested (go ∷ go ∷ go ∷ go ∷ go ∷ []) ≡ [] ∷ []
unfolding places_step step taken? elsewhere? some? in? ℕ_discrete
at_the_end = refl
