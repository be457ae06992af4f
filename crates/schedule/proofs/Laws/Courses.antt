-- Worked runs under a schedule: each with how it ends, computed. They try every clause, each limit and one beyond.
use Rattle.std.specs.Prelude.{◌≡◌, refl, List, [], ◌∷◌, ◌++◌, map, ℕ, replicate}
use Rattle.std.proofs.Math.Decide.{ℕ_discrete}
use Rattle.table.specs.Program.{Code, end, new, lock, fork, choice, call, mirror, Program}
use Rattle.run.specs.Decide.{elsewhere?, some?, in?}
use Rattle.run.specs.Run.{holds, step, taken?}
use Rattle.schedule.specs.Schedule.{End, all_ended, stuck, at_end, unstarted, beyond, Result, beyond?, run_from}
use Rattle.schedule.specs.Schedule.{runs}

-- what a run comes to, in short: why it stopped, how many bytes were read and locks made, and what each started thread
-- holds
pub record Course : Type 0 where
  pub why : End
  pub read : ℕ
  pub made : ℕ
  pub holding : List (List ℕ)

abbrev pub course_of : Result → Course
course_of r = record {
  why = r.why;
  read = r.read;
  made = r.state.made;
  holding = map holds r.state.threads;
}

-- a worked run: a program, how many records are lent, the schedule, and what it comes to
pub record Planned : Type 0 where
  pub program : Program
  pub lent : ℕ
  pub schedule : List ℕ
  pub course : Course

abbrev gives : Program → ℕ → List ℕ → End → ℕ → ℕ → List (List ℕ) → Planned
gives P lent bs why read made holding = record {
  program = P;
  lent = lent;
  schedule = bs;
  course = record { why = why; read = read; made = made; holding = holding };
}

-- a program of routine 0 alone, and one with a routine 1 of so many parameters
abbrev one : Code → Program
one c = record { count = 0; code = c } ∷ []

abbrev two : Code → ℕ → Code → Program
two c k d = record { count = 0; code = c } ∷ record { count = k; code = d } ∷ []

-- two locks; a fork takes 1 and then 2, the main thread 2 and then 1
abbrev pub opposite : Program
opposite = one (new 1 (new 2 (fork 1 (lock 1 (lock 2 end end) end) (lock 2 (lock 1 end end) end))))

-- one lock, taken twice
abbrev twice : Program
twice = one (new 1 (lock 1 (lock 1 end end) end))

-- a lock, and a choice: to take it, or to make one more and fork
abbrev choosing : Program
choosing = one (new 1 (choice (lock 1 end end) (new 2 (fork 1 end end)) end))

-- a routine that calls itself without end, and one that does so from a fork, or from within a block and a choice
abbrev calls : Program
calls = one (call 0 [] end)

abbrev fork_calls : Program
fork_calls = two (fork 1 (call 1 [] end) end) 0 (call 1 [] end)

abbrev mixed_calls : Program
mixed_calls = two (new 1 (call 1 (1 ∷ []) end)) 1 (lock 1 (choice (call 1 (1 ∷ []) end) end end) end)

-- a routine that forks, and one that makes a lock, and calls itself
abbrev forks : Program
forks = one (fork 1 end (call 0 [] end))

abbrev locks : Program
locks = one (new 1 (call 0 [] end))

-- two names for one lock, which a fork and the main thread take
abbrev mirrored : Program
mirrored = one (new 1 (mirror 2 1 (fork 1 (lock 2 end end) (lock 1 end end))))

-- a fork that calls itself down to a LOCK on the lock that the main thread has taken
abbrev deep_wait : Program
deep_wait = two (new 1 (fork 1 (choice (call 1 (1 ∷ []) end) end end) (lock 1 end end))) 1
    (choice (call 1 (1 ∷ []) end) (lock 1 end end) end)

-- the worked runs
abbrev pub planned : List Planned
planned =
    -- NEW, NEW, FORK, then each thread takes its first lock, and both wait; two bytes are left over
    gives opposite 3 (0 ∷ 0 ∷ 0 ∷ 0 ∷ 1 ∷ 0 ∷ 1 ∷ []) stuck 5 2 ((1 ∷ []) ∷ (0 ∷ []) ∷ [])
    -- the main thread to its end, then the fork to its own; with a byte for the main thread between, which has ended
    ∷ gives opposite 3 (replicate 8 0 ++ replicate 7 1) all_ended 13 2 ([] ∷ [] ∷ [])
    ∷ gives opposite 3 (replicate 9 0 ++ replicate 7 1) all_ended 14 2 ([] ∷ [] ∷ [])
    -- nothing read, and the schedule at its end inside
    ∷ gives opposite 3 [] at_end 0 0 ([] ∷ [])
    ∷ gives opposite 3 (replicate 5 0) at_end 5 2 ((0 ∷ 1 ∷ []) ∷ [] ∷ [])
    -- a byte for a waiting thread is read and does nothing
    ∷ gives opposite 3 (0 ∷ 0 ∷ 0 ∷ 0 ∷ 0 ∷ 1 ∷ 1 ∷ 1 ∷ []) at_end 8 2 ((0 ∷ 1 ∷ []) ∷ [] ∷ [])
    -- thread 1 is not started before the FORK; thread 2 never is; of a byte the thread is what is left over by 16
    ∷ gives opposite 3 (0 ∷ 1 ∷ []) unstarted 1 1 ([] ∷ [])
    ∷ gives opposite 3 (0 ∷ 0 ∷ 0 ∷ 2 ∷ []) unstarted 3 2 ([] ∷ [] ∷ [])
    ∷ gives opposite 3 (16 ∷ 32 ∷ 0 ∷ 17 ∷ 15 ∷ []) unstarted 4 2 ([] ∷ (0 ∷ []) ∷ [])
    -- one record: the FORK is beyond; none: nothing is read
    ∷ gives opposite 1 (replicate 9 0) beyond 2 2 ([] ∷ [])
    ∷ gives opposite 0 (0 ∷ []) beyond 0 0 []
    -- one hold is given back at each END
    ∷ gives twice 1 (replicate 4 0) at_end 4 1 ((0 ∷ []) ∷ [])
    ∷ gives twice 1 (replicate 7 0) all_ended 6 1 ([] ∷ [])
    -- the first alternative up to 127 (112 is the last of thread 0), the second from 128 on
    ∷ gives choosing 3 (0 ∷ 112 ∷ 0 ∷ []) at_end 3 1 ((0 ∷ []) ∷ [])
    ∷ gives choosing 3 (0 ∷ 128 ∷ 0 ∷ 0 ∷ []) at_end 4 2 ([] ∷ [] ∷ [])
    -- 64 calls pass, and the next is beyond; of a forked thread 63, beside its own block
    ∷ gives calls 1 (replicate 70 0) beyond 64 0 ([] ∷ [])
    ∷ gives fork_calls 2 (0 ∷ replicate 70 1) beyond 64 0 ([] ∷ [] ∷ [])
    -- blocks, alternatives and calls count together: the first call, and 21 times a block, an alternative and a call
    ∷ gives mixed_calls 1 (replicate 70 0) beyond 65 1 (replicate 21 0 ∷ [])
    -- a LOCK that waits is not beyond, though 64 are open; once the lock is given back it is
    ∷ gives deep_wait 2 (0 ∷ 0 ∷ 0 ∷ replicate 62 1 ++ (129 ∷ 1 ∷ 1 ∷ [])) at_end 68 1 ((0 ∷ []) ∷ [] ∷ [])
    ∷ gives deep_wait 2 (0 ∷ 0 ∷ 0 ∷ replicate 62 1 ++ (129 ∷ 1 ∷ 0 ∷ 1 ∷ [])) beyond 68 1 ([] ∷ [] ∷ [])
    -- 16 threads pass, and the next FORK is beyond, however many records there are; with 9 records 9 pass
    ∷ gives forks 20 (replicate 40 0) beyond 30 0 (replicate 16 [])
    ∷ gives forks 9 (replicate 40 0) beyond 16 0 (replicate 9 [])
    -- 64 locks pass
    ∷ gives locks 1 (replicate 140 0) beyond 128 64 ([] ∷ [])
    -- a mirror is the same lock: the fork waits for it
    ∷ gives mirrored 2 (0 ∷ 0 ∷ 0 ∷ 0 ∷ 1 ∷ []) at_end 5 1 ((0 ∷ []) ∷ [] ∷ [])
    ∷ []

-- the run comes to what is said
abbrev pub Comes : Planned → Type 0
Comes c = course_of (runs c.program c.lent c.schedule) ≡ c.course

-- so of each of a list
abbrev pub EachComes : List Planned → Type 0
EachComes [] = Unit {0}
EachComes (c ∷ cs) = Comes c × EachComes cs

pub planned_come : EachComes planned
unfolding step taken? elsewhere? some? in? beyond? run_from ℕ_discrete
planned_come = (
  refl,
  (
    refl,
    (
      refl,
      (
        refl,
        (
          refl,
          (
            refl,
            (
              refl,
              (
                refl,
                (
                  refl,
                  (
                    refl,
                    (
                      refl,
                      (
                        refl,
                        (
                          refl,
                          (refl, (refl, (refl, (refl, (refl, (refl, (refl, (refl, (refl, (refl, (refl, tt))))))))))),
                        ),
                      ),
                    ),
                  ),
                ),
              ),
            ),
          ),
        ),
      ),
    ),
  ),
)
