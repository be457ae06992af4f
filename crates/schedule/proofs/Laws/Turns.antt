-- The state and the places after one byte more.
use Rattle.std.specs.Prelude.{◌≡◌, refl, List, [], ◌∷◌, map, ℕ, zero, suc, ◌<◌, length, get_or, take}
use Rattle.std.proofs.Common.{arith}
use Rattle.table.specs.Program.{Program}
use Rattle.run.specs.Run.{State, start, turn, run}
use Rattle.schedule.specs.Schedule.{turn_of}
use Rattle.schedule.specs.Places.{Place, places_turn, places_from, places}

-- from any state and places
more_from : (P : Program) (s : State) (ps : List Place) (bs : List ℕ) (n : ℕ) → n < length bs
    → (run P s (map turn_of (take (suc n) bs)) ≡ turn P (run P s (map turn_of (take n bs))) (turn_of (get_or bs n 0)))
    × (places_from P s ps (map turn_of (take (suc n) bs))
    ≡ places_turn P (run P s (map turn_of (take n bs))) (places_from P s ps (map turn_of (take n bs)))
    (turn_of (get_or bs n 0)))
more_from P s ps [] n h = absurd (omega (arith, h))
more_from P s ps (b ∷ []) zero h = (refl, refl)
more_from P s ps (b ∷ (c ∷ bs)) zero h = (refl, refl)
more_from P s ps (b ∷ bs) (suc n) h =
    more_from P (turn P s (turn_of b)) (places_turn P s ps (turn_of b)) bs n (omega (arith, h))

-- from the start
pub one_more : (P : Program) (bs : List ℕ) (n : ℕ) → n < length bs
    → (run P (start P) (map turn_of (take (suc n) bs))
    ≡ turn P (run P (start P) (map turn_of (take n bs))) (turn_of (get_or bs n 0)))
    × (places P (map turn_of (take (suc n) bs))
    ≡ places_turn P (run P (start P) (map turn_of (take n bs))) (places P (map turn_of (take n bs)))
    (turn_of (get_or bs n 0)))
one_more P bs n h = more_from P (start P) ((0 ∷ []) ∷ []) bs n h
