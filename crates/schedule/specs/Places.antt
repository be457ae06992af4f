-- Where the threads of a run stand: a second run, with offsets of the body section, that goes along with document 01's
-- and decides nothing. `docs/FORMAT.md` says which bytes an item has; `encode` has them.
use Rattle.std.specs.Prelude.{◌≡◌, ◌⊎◌, List, [], ◌∷◌, ◌++◌, ℕ, ◌+◌, length, get_or, set, take, drop}
use Rattle.table.specs.Constants.{Op, END, OTHER}
use Rattle.table.specs.Program.{Code, end, new, lock, fork, choice, call, mirror, Program}
use Rattle.table.specs.Encoding.{encode, encode_bodies}
use Rattle.run.specs.Run.{held, alternative, called, Frame, frame, Thread, ended, at, State, start, thread, taken?}
use Rattle.run.specs.Run.{Side, first, second, Turn, turn}

-- where a thread stands: the offset of its next item, then those at which it goes on once what it has open is closed,
-- the innermost first
abbrev pub Place : Type 0
Place = List ℕ

-- the offset of its next item
abbrev pub here_of : Place → ℕ
here_of p = get_or p 0 0

-- where it stands once the innermost is closed
abbrev pub later_of : Place → Place
later_of p = drop 1 p

-- where thread t stands
abbrev pub place_of : List Place → ℕ → Place
place_of ps t = get_or ps t []

-- how many bytes a code has that an item of the kind z closes
abbrev pub size : Op → Code → ℕ
size z c = length (encode z c)

-- the offset of the body of routine r
abbrev pub body_of : Program → ℕ → ℕ
body_of P r = length (encode_bodies (take r P))

-- n bytes on
abbrev pub on : ℕ → Place → Place
on n p = (here_of p + n) ∷ later_of p

-- in what stands n bytes on, after which it goes on m bytes on
abbrev pub into : ℕ → ℕ → Place → Place
into n m p = (here_of p + n) ∷ on m p

-- Where the threads stand after a step of thread t, the last argument, at a CHOICE into the alternative a: past the
-- item, in its block or alternative, at the head of the routine that it calls, or where what it closes goes on. The
-- thread that a FORK starts stands in its block.
unfoldable pub places_step : Program → State → List Place → ℕ → Side → Thread → List Place
places_step P s ps t a ended = ps
places_step P s ps t a (at end e fs) = set ps t (later_of (place_of ps t))
places_step P s ps t a (at (new x c) e fs) = set ps t (on 1 (place_of ps t))
places_step P s ps t a (at (lock x c d) e fs) =
    elim (taken? s t (e x)) [ yes h ↦ ps | no n ↦ set ps t (into 2 (2 + size END c) (place_of ps t)) ]
places_step P s ps t a (at (fork i c d) e fs) =
    set ps t (on (1 + size END c) (place_of ps t)) ++ (((here_of (place_of ps t) + 1) ∷ []) ∷ [])
places_step P s ps t first (at (choice c d g) e fs) =
    set ps t (into 1 (1 + size OTHER c + size END d) (place_of ps t))
places_step P s ps t second (at (choice c d g) e fs) =
    set ps t (into (1 + size OTHER c) (1 + size OTHER c + size END d) (place_of ps t))
places_step P s ps t a (at (call r xs c) e fs) = set ps t (body_of P r ∷ on (2 + length xs) (place_of ps t))
places_step P s ps t a (at (mirror x y c) e fs) = set ps t (on 2 (place_of ps t))

-- where they stand after a turn
abbrev pub places_turn : Program → State → List Place → Turn → List Place
places_turn P s ps k = places_step P s ps k.0 k.1 (thread s k.0)

-- where they stand after a list of turns
abbrev pub places_from : Program → State → List Place → List Turn → List Place
places_from P s ps [] = ps
places_from P s ps (k ∷ turns) = places_from P (turn P s k) (places_turn P s ps k) turns

-- the same from the start of a run, where the main thread stands at offset 0
abbrev pub places : Program → List Turn → List Place
places P turns = places_from P (start P) ((0 ∷ []) ∷ []) turns

-- the code, closed by an item of the kind z, stands at the offset `from` of the section; `to` is the offset after it
abbrev pub Stands : List ℕ → Op → ℕ → Code → ℕ → Type 0
Stands s z from c to = drop from s ≡ encode z c ++ drop to s

-- The code c stands at the place, and what each frame goes on with stands at the offset that the place has for it:
-- after the block that it opened, or after the second alternative where it opened the first.
abbrev pub GoesOn : List ℕ → Place → Code → List Frame → Type 0
GoesOn s p c [] = (to : ℕ) × Stands s END (here_of p) c to
GoesOn s p c (frame (held l) e d ∷ fs) =
    Stands s END (here_of p) c (here_of (later_of p)) × GoesOn s (later_of p) d fs
GoesOn s p c (frame alternative e d ∷ fs) =
    (Stands s END (here_of p) c (here_of (later_of p))
    ⊎ ((other : ℕ) × (b : Code) × Stands s OTHER (here_of p) c other × Stands s END other b (here_of (later_of p))))
    × GoesOn s (later_of p) d fs
GoesOn s p c (frame called e d ∷ fs) = ((to : ℕ) × Stands s END (here_of p) c to) × GoesOn s (later_of p) d fs
