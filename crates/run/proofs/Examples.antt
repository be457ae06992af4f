-- The definitions at work: runs that are computed, a table that sticks, and one that is safe in every run.
use mathlib.Core.Path.{◌≡◌, refl, sym}
use mathlib.Core.Logic.{inl, inr}
use mathlib.Core.List.{List, [], ◌∷◌, ◌++◌, map}
use Prim.Native.Nat.{ℕ, zero, suc, ◌<◌}
use native.Mathlib.Omega.{arith}
use native.Mathlib.Decide.{ℕ_discrete}
use lib.ListN.{length}
use Rattle.table.specs.Program.{Code, end, new, lock, fork, choice, call, mirror, Routine, Program, params}
use Rattle.table.specs.Program.{body, names}
use Rattle.table.specs.WellFormed.{In, NoDup, Scoped, Fresh, onces, WellFormed}
use Rattle.rules.specs.Verdict.{Clear}
use Rattle.rules.proofs.Laws.Judge.{is_clear}
use Rattle.run.specs.Decide.{in?, some?, elsewhere?}
use Rattle.run.specs.Run.{Thread, ended, at, start, first, second, step, Turn, run, locks}
use Rattle.run.specs.Run.{taken?, wants, Waits, Circle, Safe}
use Rattle.run.proofs.Laws.Safety.{clear_is_safe}

-- What is seen of a thread: it is over, or it is at the head of a code, with the locks of the names 1, 2 and 3 (0 where
-- one is not in scope), the locks it holds, the last taken first, and how many blocks and calls are open.
data Seen : Type 0 where
  over : Seen
  here : Code → List ℕ → List ℕ → ℕ → Seen

abbrev seen : Thread → Seen
seen ended = over
seen (at c e fs) = here c (e 1 ∷ e 2 ∷ e 3 ∷ []) (locks fs) (length fs)

-- the state after the turns: its threads as they are seen, and the number of locks made
record View : Type 0 where
  threads : List Seen
  made : ℕ

abbrev view : Program → List Turn → View
view P turns = let s = run P (start P) turns in record { threads = map seen s.threads; made = s.made }

-- a turn of thread t, and one that takes the second alternative
abbrev go : ℕ → Turn
go t = (t, first)

abbrev other : ℕ → Turn
other t = (t, second)

abbrev routine : ℕ → Code → Routine
routine k c = record { count = k; code = c }

-- A lock inside itself: the thread does not wait for itself and holds the lock twice; an END gives one hold back.
abbrev nested : Program
nested = routine 0 (new 1 (lock 1 (lock 1 end end) end)) ∷ []

twice_held :
    view nested (go 0 ∷ go 0 ∷ go 0 ∷ [])
    ≡ record { threads = here end (0 ∷ 0 ∷ 0 ∷ []) (0 ∷ 0 ∷ []) 2 ∷ []; made = 1 }
unfolding step taken? elsewhere? some? in? ℕ_discrete
twice_held = refl

once_held :
    view nested (go 0 ∷ go 0 ∷ go 0 ∷ go 0 ∷ [])
    ≡ record { threads = here end (0 ∷ 0 ∷ 0 ∷ []) (0 ∷ []) 1 ∷ []; made = 1 }
unfolding step taken? elsewhere? some? in? ℕ_discrete
once_held = refl

-- A FORK inside a LOCK block, in a called routine: the new thread has the same names, holds nothing, and has no call to
-- return from; after its END it is over. The old one goes on after the FORK, and holds the lock.
abbrev forking : Program
forking = routine 0 (new 1 (new 2 (call 1 (2 ∷ []) end))) ∷ routine 1 (lock 1 (fork 1 end end) end) ∷ []

fork_holds_nothing :
    view forking (go 0 ∷ go 0 ∷ go 0 ∷ go 0 ∷ go 0 ∷ [])
    ≡ record {
      threads = here end (1 ∷ 0 ∷ 0 ∷ []) (1 ∷ []) 2 ∷ here end (1 ∷ 0 ∷ 0 ∷ []) [] 0 ∷ [];
      made = 2;
    }
unfolding step taken? elsewhere? some? in? ℕ_discrete
fork_holds_nothing = refl

fork_ends :
    view forking (go 0 ∷ go 0 ∷ go 0 ∷ go 0 ∷ go 0 ∷ go 1 ∷ [])
    ≡ record { threads = here end (1 ∷ 0 ∷ 0 ∷ []) (1 ∷ []) 2 ∷ over ∷ []; made = 2 }
unfolding step taken? elsewhere? some? in? ℕ_discrete
fork_ends = refl

-- NEW run twice, by a routine called twice: two locks, and the name stands for the one that its own run made.
abbrev making : Program
making = routine 0 (call 1 [] (call 1 [] end)) ∷ routine 0 (new 1 end) ∷ []

first_made : view making (go 0 ∷ go 0 ∷ []) ≡ record { threads = here end (0 ∷ 0 ∷ 0 ∷ []) [] 1 ∷ []; made = 1 }
unfolding step taken? elsewhere? some? in? ℕ_discrete
first_made = refl

second_made :
    view making (go 0 ∷ go 0 ∷ go 0 ∷ go 0 ∷ go 0 ∷ [])
    ≡ record { threads = here end (1 ∷ 0 ∷ 0 ∷ []) [] 1 ∷ []; made = 2 }
unfolding step taken? elsewhere? some? in? ℕ_discrete
second_made = refl

-- MIRROR: both names stand for one lock, which a thread that holds it by the one takes again by the other.
abbrev mirroring : Program
mirroring = routine 0 (new 1 (new 2 (mirror 3 1 (lock 1 (lock 3 end end) end)))) ∷ []

both_names :
    view mirroring (go 0 ∷ go 0 ∷ go 0 ∷ [])
    ≡ record { threads = here (lock 1 (lock 3 end end) end) (0 ∷ 1 ∷ 0 ∷ []) [] 0 ∷ []; made = 2 }
unfolding step taken? elsewhere? some? in? ℕ_discrete
both_names = refl

held_by_both :
    view mirroring (go 0 ∷ go 0 ∷ go 0 ∷ go 0 ∷ go 0 ∷ [])
    ≡ record { threads = here end (0 ∷ 1 ∷ 0 ∷ []) (0 ∷ 0 ∷ []) 2 ∷ []; made = 2 }
unfolding step taken? elsewhere? some? in? ℕ_discrete
held_by_both = refl

-- The same with another lock between, while a fork waits for the first: the thread goes on, and holds the first twice.
abbrev mirroring_around : Program
mirroring_around =
    routine 0 (new 1 (new 2 (mirror 3 1
    (fork 1 (lock 1 (lock 2 end end) end)
    (lock 1 (lock 2 (lock 3 end end) end) end)))))
    ∷ []

held_around :
    view mirroring_around (go 0 ∷ go 0 ∷ go 0 ∷ go 0 ∷ go 0 ∷ go 0 ∷ go 1 ∷ go 0 ∷ [])
    ≡ record {
      threads =
          here end (0 ∷ 1 ∷ 0 ∷ []) (0 ∷ 1 ∷ 0 ∷ []) 3
          ∷ here (lock 1 (lock 2 end end) end) (0 ∷ 1 ∷ 0 ∷ []) [] 0
          ∷ [];
      made = 2;
    }
unfolding step taken? elsewhere? some? in? ℕ_discrete
held_around = refl

-- Inside a LOCK block, a called routine and an alternative: the parameter's lock has a second name there, which is out
-- of scope after the alternative.
abbrev mirroring_inside : Program
mirroring_inside =
    routine 0 (new 1 (new 2 (lock 1 (call 1 (2 ∷ []) end) end)))
    ∷ routine 1 (choice (mirror 2 1 (lock 2 end end)) end end)
    ∷ []

mirror_inside :
    view mirroring_inside (go 0 ∷ go 0 ∷ go 0 ∷ go 0 ∷ go 0 ∷ go 0 ∷ go 0 ∷ [])
    ≡ record { threads = here end (1 ∷ 1 ∷ 0 ∷ []) (1 ∷ 0 ∷ []) 4 ∷ []; made = 2 }
unfolding step taken? elsewhere? some? in? ℕ_discrete
mirror_inside = refl

mirror_closed :
    view mirroring_inside (go 0 ∷ go 0 ∷ go 0 ∷ go 0 ∷ go 0 ∷ go 0 ∷ go 0 ∷ go 0 ∷ go 0 ∷ [])
    ≡ record { threads = here end (1 ∷ 0 ∷ 0 ∷ []) (0 ∷ []) 2 ∷ []; made = 2 }
unfolding step taken? elsewhere? some? in? ℕ_discrete
mirror_closed = refl

-- OTHER is a step of its own, and so is the END of the second alternative; both go on after the choice.
abbrev choosing : Program
choosing = routine 0 (choice end end (new 1 end)) ∷ []

after_other :
    view choosing (go 0 ∷ go 0 ∷ [])
    ≡ record { threads = here (new 1 end) (0 ∷ 0 ∷ 0 ∷ []) [] 0 ∷ []; made = 0 }
unfolding step taken? elsewhere? some? in? ℕ_discrete
after_other = refl

after_second : view choosing (other 0 ∷ go 0 ∷ []) ≡ view choosing (go 0 ∷ go 0 ∷ [])
unfolding step taken? elsewhere? some? in? ℕ_discrete
after_second = refl

-- Table b: a fork nests the locks of the names 1 and 2, and the main thread those of 2 and 1.
abbrev table_b : Program
table_b = routine 0 (new 1 (new 2 (fork 1 (lock 1 (lock 2 end end) end) (lock 2 (lock 1 end end) end)))) ∷ []

turns_b : List Turn
turns_b = go 0 ∷ go 0 ∷ go 0 ∷ go 0 ∷ go 1 ∷ []

differ : ◌≡◌ {A = ℕ} 0 1 → ⊥
differ e = omega arith

-- the main thread has taken the lock 1 and the fork the lock 0, and they wait for each other
circle_b : Circle (run table_b (start table_b) turns_b)
unfolding turns_b step taken? elsewhere? some? in? ℕ_discrete
circle_b = record {
  one = 0;
  two = 1;
  more = [];
  different = ((λ h. elim h [ inl e ↦ differ e | inr f ↦ f ]), ((λ f. f), tt));
  waits = ((0, wants refl, (λ e. differ (sym e)), inl refl), (1, wants refl, differ, inl refl));
}

formed_b : WellFormed table_b
formed_b = record { main = refl; scoped = scoped; fresh = fresh; once = once; some_routine = omega arith }
  where
    scoped :
        (r : ℕ) → r < length table_b
        → Scoped table_b (params table_b r) (names (params table_b r)) (body table_b r)
    scoped zero lt = (
      omega arith,
      (
        omega arith,
        ((inr (inl refl), (inl refl, tt, tt), tt), (inl refl, (inr (inl refl), tt, tt), tt)),
      ),
    )
    scoped (suc r) lt = absurd (omega arith)

    fresh : (r : ℕ) → r < length table_b → Fresh (names (params table_b r)) (body table_b r)
    fresh zero lt = (
      (λ i. i),
      ((λ i. elim i [ inl e ↦ omega arith | inr x ↦ x ]), (((tt, tt), tt), ((tt, tt), tt))),
    )
    fresh (suc r) lt = absurd (omega arith)

    once : (r : ℕ) → r < length table_b → NoDup (onces (body table_b r))
    once zero lt = (
      (λ i. elim i [
        | inl e ↦ (let z : ◌≡◌ {A = ℕ} 1 2 = cc in omega arith)
        | inr j ↦ elim j [ inl e ↦ (let z : ◌≡◌ {A = ℕ} 0 1 = cc in omega arith) | inr x ↦ x ]
      ]),
      ((λ i. elim i [ inl e ↦ (let z : ◌≡◌ {A = ℕ} 0 1 = cc in omega arith) | inr x ↦ x ]), ((λ x. x), tt)),
    )
    once (suc r) lt = absurd (omega arith)

-- so table b is not clear
unclear_b : Clear table_b → ⊥
unclear_b clear = (clear_is_safe table_b formed_b clear turns_b).no_circle circle_b

-- Table g, the philosophers. Routine 1 eats, taking the lock of its name 2 and then that of 1; or it makes a lock,
-- forks a philosopher who takes the lock of name 1 and then the new one, and calls itself with the new lock as name 1.
abbrev eating : Code
eating = lock 2 (lock 1 end end) end

abbrev philosopher : Code
philosopher = lock 1 (lock 3 end end) end

abbrev table_g : Program
table_g =
    routine 0 (new 1 (call 1 (1 ∷ 1 ∷ []) end))
    ∷ routine 2 (choice eating (new 3 (fork 1 philosopher (call 1 (3 ∷ 2 ∷ []) end))) end)
    ∷ []

-- The main thread forks two philosophers, and each takes its first lock.
laid : List Turn
laid = go 0 ∷ go 0 ∷ other 0 ∷ go 0 ∷ go 0 ∷ go 0 ∷ other 0 ∷ go 0 ∷ go 0 ∷ go 1 ∷ go 2 ∷ []

laid_state :
    view table_g laid
    ≡ record {
      threads =
          here (call 1 (3 ∷ 2 ∷ []) end) (1 ∷ 0 ∷ 2 ∷ []) [] 4
          ∷ here (lock 3 end end) (0 ∷ 0 ∷ 1 ∷ []) (0 ∷ []) 1
          ∷ here (lock 3 end end) (1 ∷ 0 ∷ 2 ∷ []) (1 ∷ []) 1
          ∷ [];
      made = 3;
    }
unfolding laid step taken? elsewhere? some? in? ℕ_discrete
laid_state = refl

-- thread 1 now waits for thread 2, since its name 3 stands for the lock 1
laid_waits : Waits (run table_g (start table_g) laid) 1 2
unfolding laid step taken? elsewhere? some? in? ℕ_discrete
laid_waits = (1, wants refl, (λ e. omega arith), inl refl)

-- Then thread 1 has a turn, which is no step, and so has thread 5, which was never started. The main thread calls
-- routine 1 once more, chooses to eat, and waits for the lock 0. Thread 2 takes its second lock, gives both back and
-- ends, and thread 1 takes its second lock.
eaten : List Turn
eaten = go 1 ∷ go 5 ∷ go 0 ∷ go 0 ∷ go 0 ∷ go 2 ∷ go 2 ∷ go 2 ∷ go 2 ∷ go 1 ∷ []

eaten_state :
    view table_g (laid ++ eaten)
    ≡ record {
      threads =
          here eating (2 ∷ 0 ∷ 0 ∷ []) [] 6
          ∷ here end (0 ∷ 0 ∷ 1 ∷ []) (1 ∷ 0 ∷ []) 2
          ∷ over
          ∷ [];
      made = 3;
    }
unfolding laid eaten step taken? elsewhere? some? in? ℕ_discrete
eaten_state = refl

formed_g : WellFormed table_g
formed_g = record { main = refl; scoped = scoped; fresh = fresh; once = once; some_routine = omega arith }
  where
    ones : (x : ℕ) → In x (1 ∷ 1 ∷ []) → In x (1 ∷ [])
    ones x (inl e) = inl e
    ones x (inr (inr x3)) = elim x3 [ ]
    ones x (inr (inl e)) = inl e

    others : (x : ℕ) → In x (3 ∷ 2 ∷ []) → In x (3 ∷ 2 ∷ 1 ∷ [])
    others x (inl e) = inl e
    others x (inr (inr x3)) = elim x3 [ ]
    others x (inr (inl e)) = inr (inl e)

    scoped :
        (r : ℕ) → r < length table_g
        → Scoped table_g (params table_g r) (names (params table_g r)) (body table_g r)
    scoped zero lt = (omega arith, (omega arith, refl, ones, tt))
    scoped (suc zero) lt = (
      (inl refl, (inr (inl refl), tt, tt), tt),
      (omega arith, ((inr (inr (inl refl)), (inl refl, tt, tt), tt), (omega arith, refl, others, tt))),
      tt,
    )
    scoped (suc (suc r)) lt = absurd (omega arith)

    fresh : (r : ℕ) → r < length table_g → Fresh (names (params table_g r)) (body table_g r)
    fresh zero lt = ((λ i. i), tt)
    fresh (suc zero) lt = (
      ((tt, tt), tt),
      (
        (λ i. elim i [ inl e ↦ omega arith | inr j ↦ elim j [ inl e ↦ omega arith | inr x ↦ x ] ]),
        (((tt, tt), tt), tt),
      ),
      tt,
    )
    fresh (suc (suc r)) lt = absurd (omega arith)

    once : (r : ℕ) → r < length table_g → NoDup (onces (body table_g r))
    once zero lt = ((λ x. x), tt)
    once (suc zero) lt =
        ((λ i. elim i [ inl e ↦ (let z : ◌≡◌ {A = ℕ} 0 1 = cc in omega arith) | inr x ↦ x ]), ((λ x. x), tt))
    once (suc (suc r)) lt = absurd (omega arith)

clear_g : Clear table_g
clear_g = is_clear table_g tt

-- so table g is safe in every run
safe_g : (turns : List Turn) → Safe (run table_g (start table_g) turns)
safe_g = clear_is_safe table_g formed_g clear_g

-- A CALL of routine 2 and a CHOICE, inside a LOCK block: the callee and the alternative hold its lock, and after the
-- callee's END the names are the caller's again.
abbrev calling : Program
calling =
    routine 0 (new 1 (new 2 (lock 2 (call 2 (2 ∷ 1 ∷ []) (choice end end end)) end)))
    ∷ routine 0 (new 1 end)
    ∷ routine 2 (lock 2 end end)
    ∷ []

in_callee :
    view calling (go 0 ∷ go 0 ∷ go 0 ∷ go 0 ∷ go 0 ∷ [])
    ≡ record { threads = here end (1 ∷ 0 ∷ 0 ∷ []) (0 ∷ 1 ∷ []) 3 ∷ []; made = 2 }
unfolding step taken? elsewhere? some? in? ℕ_discrete
in_callee = refl

in_alternative :
    view calling (go 0 ∷ go 0 ∷ go 0 ∷ go 0 ∷ go 0 ∷ go 0 ∷ go 0 ∷ go 0 ∷ [])
    ≡ record { threads = here end (0 ∷ 1 ∷ 0 ∷ []) (1 ∷ []) 2 ∷ []; made = 2 }
unfolding step taken? elsewhere? some? in? ℕ_discrete
in_alternative = refl

-- a thread that has ended leaves the state as it is
ended_stays_ended :
    view making (go 0 ∷ go 0 ∷ go 0 ∷ go 0 ∷ go 0 ∷ go 0 ∷ go 0 ∷ go 0 ∷ [])
    ≡ record { threads = over ∷ []; made = 2 }
unfolding step taken? elsewhere? some? in? ℕ_discrete
ended_stays_ended = refl

-- Three threads in a circle: each holds one of the locks 0, 1 and 2 and wants the next.
abbrev three : Program
three =
    routine 0 (new 1 (new 2 (new 3
    (fork 1 (lock 1 (lock 2 end end) end)
    (fork 2 (lock 2 (lock 3 end end) end)
    (lock 3 (lock 1 end end) end))))))
    ∷ []

turns_three : List Turn
turns_three = go 0 ∷ go 0 ∷ go 0 ∷ go 0 ∷ go 0 ∷ go 0 ∷ go 1 ∷ go 2 ∷ []

circle_three : Circle (run three (start three) turns_three)
unfolding turns_three step taken? elsewhere? some? in? ℕ_discrete
circle_three = record {
  one = 0;
  two = 1;
  more = 2 ∷ [];
  different = (
    (λ h. elim h [ inl e ↦ omega arith | inr k ↦ elim k [ inl e ↦ omega arith | inr f ↦ f ] ]),
    ((λ h. elim h [ inl e ↦ omega arith | inr f ↦ f ]), ((λ f. f), tt)),
  );
  waits = (
    (0, wants refl, (λ e. omega arith), inl refl),
    ((1, wants refl, (λ e. omega arith), inl refl), (2, wants refl, (λ e. omega arith), inl refl)),
  );
}

-- Two threads in a circle by way of mirrors: 3 is a mirror of 1 and 4 one of 3, a fork nests 3 and 2, and the main
-- thread 2 and 4. The fork has taken the lock 0 and the main thread the lock 1, and each wants the other's.
abbrev mirrors_crossed : Program
mirrors_crossed =
    routine 0 (new 1 (new 2 (mirror 3 1 (mirror 4 3
    (fork 1 (lock 3 (lock 2 end end) end)
    (lock 2 (lock 4 end end) end))))))
    ∷ []

turns_crossed : List Turn
turns_crossed = go 0 ∷ go 0 ∷ go 0 ∷ go 0 ∷ go 0 ∷ go 0 ∷ go 1 ∷ []

circle_crossed : Circle (run mirrors_crossed (start mirrors_crossed) turns_crossed)
unfolding turns_crossed step taken? elsewhere? some? in? ℕ_discrete
circle_crossed = record {
  one = 0;
  two = 1;
  more = [];
  different = ((λ h. elim h [ inl e ↦ differ e | inr f ↦ f ]), ((λ f. f), tt));
  waits = ((0, wants refl, (λ e. differ (sym e)), inl refl), (1, wants refl, differ, inl refl));
}

formed_crossed : WellFormed mirrors_crossed
formed_crossed = record { main = refl; scoped = scoped; fresh = fresh; once = once; some_routine = omega arith }
  where
    scoped :
        (r : ℕ) → r < length mirrors_crossed
        → Scoped mirrors_crossed (params mirrors_crossed r) (names (params mirrors_crossed r)) (body mirrors_crossed r)
    scoped zero lt = (
      omega arith,
      (
        omega arith,
        (
          omega arith,
          inr (inl refl),
          (
            omega arith,
            inl refl,
            (
              (inr (inl refl), (inr (inr (inl refl)), tt, tt), tt),
              (inr (inr (inl refl)), (inl refl, tt, tt), tt),
            ),
          ),
        ),
      ),
    )
    scoped (suc r) lt = absurd (omega arith)

    -- 2, 3 and 4 are not among the names below
    not_one : (x : ℕ) → 1 < x → ¬ In x (1 ∷ [])
    not_one x lt (inr x'') = elim x'' [ ]
    not_one x lt (inl e) = omega arith

    not_two : (x : ℕ) → 2 < x → ¬ In x (2 ∷ 1 ∷ [])
    not_two x lt (inl e) = omega arith
    not_two x lt (inr i) = not_one x (omega arith) i

    not_three : (x : ℕ) → 3 < x → ¬ In x (3 ∷ 2 ∷ 1 ∷ [])
    not_three x lt (inl e) = omega arith
    not_three x lt (inr i) = not_two x (omega arith) i

    fresh : (r : ℕ) → r < length mirrors_crossed → Fresh (names (params mirrors_crossed r)) (body mirrors_crossed r)
    fresh zero lt = (
      (λ i. i),
      (
        not_one 2 (omega arith),
        (not_two 3 (omega arith), (not_three 4 (omega arith), (((tt, tt), tt), ((tt, tt), tt)))),
      ),
    )
    fresh (suc r) lt = absurd (omega arith)

    once : (r : ℕ) → r < length mirrors_crossed → NoDup (onces (body mirrors_crossed r))
    once zero lt = formed_b.once 0 (omega arith)
    once (suc r) lt = absurd (omega arith)

-- so this table is not clear
unclear_crossed : Clear mirrors_crossed → ⊥
unclear_crossed clear =
    (clear_is_safe mirrors_crossed formed_crossed clear turns_crossed).no_circle circle_crossed
