-- The definitions at work, computed: two writings of one program and their canonical table in bytes, and a program for
-- each rule of the writing.
use mathlib.Core.Path.{◌≡◌, refl}
use mathlib.Core.List.{[], ◌∷◌}
use Prim.Native.Nat.{ℕ}
use Rattle.table.specs.Program.{Code, end, new, lock, fork, choice, call, mirror, Routine, Program}
use Rattle.table.specs.Encoding.{encode_table}
use Rattle.table.specs.Check.{accepted, check_table, block_by, block}
use Rattle.canon.specs.Canonical.{found, order, canonical, canonical_table}

abbrev routine : ℕ → Code → Routine
routine k c = record { count = k; code = c }

-- name 2 of routine 0 mirrors 1, name 2 of routine 3 its parameter; routine 1 is called by nobody but itself
abbrev one : Program
one =
    routine 0 (new 1 (mirror 2 1 (new 3 (lock 2 (call 3 (3 ∷ []) end) (call 2 (2 ∷ 1 ∷ []) end)))))
    ∷ routine 1 (lock 1 (call 1 (1 ∷ []) end) end)
    ∷ routine 2 (lock 1 (lock 2 end end) end)
    ∷ routine 1 (mirror 2 1 (new 3 (lock 2 (lock 3 end end) end)))
    ∷ []

-- the same without mirrors, in another order
abbrev two : Program
two =
    routine 0 (new 1 (new 2 (lock 1 (call 2 (2 ∷ []) end) (call 1 (1 ∷ 1 ∷ []) end))))
    ∷ routine 2 (lock 1 (lock 2 end end) end)
    ∷ routine 1 (new 2 (lock 1 (lock 2 end end) end))
    ∷ []

one_bytes : encode_table one
    ≡ 4 ∷ 0 ∷ 1 ∷ 2 ∷ 1 ∷ 39 ∷ 0
    ∷ 1 ∷ 7 ∷ 1 ∷ 1 ∷ 2 ∷ 2 ∷ 6 ∷ 3 ∷ 3 ∷ 0 ∷ 6 ∷ 2 ∷ 2 ∷ 1 ∷ 0
    ∷ 2 ∷ 1 ∷ 6 ∷ 1 ∷ 1 ∷ 0 ∷ 0
    ∷ 2 ∷ 1 ∷ 2 ∷ 2 ∷ 0 ∷ 0 ∷ 0
    ∷ 7 ∷ 1 ∷ 1 ∷ 2 ∷ 2 ∷ 2 ∷ 3 ∷ 0 ∷ 0 ∷ 0 ∷ []
one_bytes = refl

-- routine 3 is met first, then routine 2
one_order : order one ≡ 0 ∷ 3 ∷ 2 ∷ []
unfolding order found
one_order = refl

one_canonical : canonical_table one
    ≡ 3 ∷ 0 ∷ 1 ∷ 2 ∷ 28 ∷ 0
    ∷ 1 ∷ 1 ∷ 2 ∷ 1 ∷ 6 ∷ 1 ∷ 2 ∷ 0 ∷ 6 ∷ 2 ∷ 1 ∷ 1 ∷ 0
    ∷ 1 ∷ 2 ∷ 1 ∷ 2 ∷ 2 ∷ 0 ∷ 0 ∷ 0
    ∷ 2 ∷ 1 ∷ 2 ∷ 2 ∷ 0 ∷ 0 ∷ 0 ∷ []
unfolding canonical order found
one_canonical = refl

two_canonical : canonical_table two ≡ canonical_table one
unfolding canonical order found
two_canonical = refl

-- the canonical table is read as the canonical program, and is its own canonical table
one_accepted : check_table (canonical_table one) ≡ accepted (canonical one)
unfolding canonical order found block block_by
one_accepted = refl

one_twice : canonical_table (canonical one) ≡ canonical_table one
unfolding canonical order found
one_twice = refl

-- the smallest program: its table of five bytes is canonical
abbrev smallest : Program
smallest = routine 0 end ∷ []

smallest_canonical : canonical_table smallest ≡ 1 ∷ 0 ∷ 1 ∷ 0 ∷ 0 ∷ []
unfolding canonical order found
smallest_canonical = refl

smallest_itself : canonical_table smallest ≡ encode_table smallest
unfolding canonical order found
smallest_itself = refl

-- Routine 0 calls 4 and then 2, routine 4 calls 1, and routine 2 calls 3. Bodies are read in the order of the new
-- numbers, so 4 and 2 come before what they call: the order is not 0, 4, 1, 2, 3, as it were if each call was followed
-- at once, and not 0, 2, 4, 1, 3, as it were if the routines that a body calls came by their numbers.
abbrev meeting : Program
meeting =
    routine 0 (call 4 [] (call 2 [] end))
    ∷ routine 0 (new 1 (lock 1 end end))
    ∷ routine 0 (call 3 [] end)
    ∷ routine 0 (new 1 end)
    ∷ routine 0 (call 1 [] end)
    ∷ []

meeting_order : order meeting ≡ 0 ∷ 4 ∷ 2 ∷ 1 ∷ 3 ∷ []
unfolding order found
meeting_order = refl

meeting_canonical : canonical meeting
    ≡ routine 0 (call 1 [] (call 2 [] end))
    ∷ routine 0 (call 3 [] end)
    ∷ routine 0 (call 4 [] end)
    ∷ routine 0 (new 1 (lock 1 end end))
    ∷ routine 0 (new 1 end)
    ∷ []
unfolding canonical order found
meeting_canonical = refl

-- calls are met as they are written: in the block of a LOCK, the block of a FORK, the first alternative, the second,
-- and then what follows; a routine that is met again, as 0 and 6 are, is not listed again
abbrev written : Program
written =
    routine 0
    (new 1 (lock 1 (call 6 [] end)
    (fork 1 (call 5 [] end)
    (choice (call 4 [] (call 6 [] end)) (call 3 [] (call 0 [] end)) (call 2 [] (call 1 [] end))))))
    ∷ routine 0 end
    ∷ routine 0 end
    ∷ routine 0 end
    ∷ routine 0 end
    ∷ routine 0 end
    ∷ routine 0 end
    ∷ []

written_order : order written ≡ 0 ∷ 6 ∷ 5 ∷ 4 ∷ 3 ∷ 2 ∷ 1 ∷ []
unfolding order found
written_order = refl

-- each call gets its new number, and routines with equal bodies stay as many as they are
written_canonical : canonical written
    ≡ routine 0
    (new 1 (lock 1 (call 1 [] end)
    (fork 1 (call 2 [] end)
    (choice (call 3 [] (call 1 [] end)) (call 4 [] (call 0 [] end)) (call 5 [] (call 6 [] end))))))
    ∷ routine 0 end
    ∷ routine 0 end
    ∷ routine 0 end
    ∷ routine 0 end
    ∷ routine 0 end
    ∷ routine 0 end
    ∷ []
unfolding canonical order found
written_canonical = refl

-- routine 2 calls itself and routine 0, under their new numbers; 1 and 3 call each other, and nobody else calls them
abbrev loops : Program
loops =
    routine 0 (call 2 [] end)
    ∷ routine 0 (call 3 [] end)
    ∷ routine 0 (call 2 [] (call 0 [] end))
    ∷ routine 0 (call 1 [] (call 2 [] end))
    ∷ []

loops_canonical : canonical loops ≡ routine 0 (call 1 [] end) ∷ routine 0 (call 1 [] (call 0 [] end)) ∷ []
unfolding canonical order found
loops_canonical = refl

-- Routine 1 has the parameter 1: 2 mirrors it, 3 mirrors 2, and 4 mirrors 3. 5 is a NEW and 6 mirrors it. Every use
-- gets what is at the end, as LOCK's name and as CALL's.
abbrev chains : Program
chains =
    routine 0 (new 1 (call 1 (1 ∷ []) end))
    ∷ routine 1
    (mirror 2 1 (mirror 3 2 (mirror 4 3 (new 5 (mirror 6 5
    (lock 4 (lock 6 (call 2 (6 ∷ 3 ∷ 5 ∷ []) end) end) (lock 2 end end)))))))
    ∷ routine 3 end
    ∷ []

chains_canonical : canonical chains
    ≡ routine 0 (new 1 (call 1 (1 ∷ []) end))
    ∷ routine 1 (new 2 (lock 1 (lock 2 (call 2 (2 ∷ 1 ∷ 2 ∷ []) end) end) (lock 1 end end)))
    ∷ routine 3 end
    ∷ []
unfolding canonical order found
chains_canonical = refl

-- Locals are numbered in written order over the whole body: 3 stands in the first alternative, 5 in the second, 6 after
-- both. With the mirrors 2 and 4 left out they are 2, 3 and 4.
abbrev alternatives : Program
alternatives =
    routine 0
    (new 1 (choice (mirror 2 1 (new 3 (lock 3 (lock 2 end end) end))) (mirror 4 1 (new 5 (lock 4 (lock 5 end end) end)))
    (new 6 (lock 6 end end))))
    ∷ []

alternatives_canonical : canonical alternatives
    ≡ routine 0
    (new 1 (choice (new 2 (lock 2 (lock 1 end end) end)) (new 3 (lock 1 (lock 3 end end) end))
    (new 4 (lock 4 end end))))
    ∷ []
unfolding canonical order found
alternatives_canonical = refl

-- Forks keep their numbers, and the blocks of FORK and LOCK use the mirrors that are in scope. A local after a block
-- comes after those in it.
abbrev blocks : Program
blocks =
    routine 0
    (new 1 (mirror 2 1
    (fork 1 (mirror 3 2 (new 4 (lock 3 (lock 4 end end) end)))
    (lock 2 (new 5 (fork 2 (lock 2 (lock 5 end end) end) end)) (new 6 (lock 6 end end))))))
    ∷ []

blocks_canonical : canonical blocks
    ≡ routine 0
    (new 1
    (fork 1 (new 2 (lock 1 (lock 2 end end) end))
    (lock 1 (new 3 (fork 2 (lock 1 (lock 3 end end) end) end)) (new 4 (lock 4 end end)))))
    ∷ []
unfolding canonical order found
blocks_canonical = refl
