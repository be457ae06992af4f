-- How mirrors read: what each of these bodies records, whole, and a ring that mirrors close.
use mathlib.Core.Path.{refl}
use mathlib.Core.Logic.{◌≢◌, inl, inr}
use mathlib.Core.List.{[], ◌∷◌}
use Prim.Native.Nat.{ℕ, zero, suc}
use native.Mathlib.Omega.{arith}
use native.Mathlib.Decide.{ℕ_discrete}
use Rattle.table.specs.Program.{Code, end, new, lock, fork, call, mirror, Program, body}
use Rattle.rules.specs.Label.{Label, own, forked, several}
use Rattle.rules.specs.Model.{Row}
use Rattle.rules.specs.Verdict.{Clear, RingAt}
use Rattle.rules.specs.Derived.{Pairs, RowOf}
use Rattle.rules.proofs.Laws.Certificate.{pair, is_row}
use Rattle.rules.proofs.Laws.Older.{SatisfiesBy, ModelBy}
use Rattle.rules.proofs.Laws.Before104.{Unmirrored, ClearBefore, clear_before}
use Rattle.rules.proofs.Laws.Before105.{written}
use Rattle.rules.proofs.Laws.Judge.{is_clear, is_ring_at}
use Rattle.rules.proofs.Readings.{routine}
use Rattle.rules.proofs.Nests.{Records, records}

-- routine 0 runs the code with the locks 1 and 2, with 3 a mirror of 1 and 4 a mirror of 3; routine 1 locks a mirror of
-- its parameter
abbrev mirrored : Code → Program
mirrored c = routine 0 (new 1 (new 2 (mirror 3 1 (mirror 4 3 c)))) ∷ routine 1 (mirror 2 1 (lock 2 end end)) ∷ []

-- a mirror that is wanted is recorded as its root, however many mirrors lead there
mirror_wanted : Records (mirrored (lock 2 (lock 4 end end) end)) 0 (pair 0 2 own ∷ pair 2 1 own ∷ [])
unfolding ℕ_discrete
mirror_wanted = records (mirrored (lock 2 (lock 4 end end) end)) 0 _ tt refl

-- so is one that is the holder, at a LOCK and at a CALL
mirror_held : Records (mirrored (lock 4 (lock 2 end end) end)) 0 (pair 0 1 own ∷ pair 1 2 own ∷ [])
unfolding ℕ_discrete
mirror_held = records (mirrored (lock 4 (lock 2 end end) end)) 0 _ tt refl

mirror_held_at_call : Records (mirrored (lock 4 (call 1 (2 ∷ []) end) end)) 0 (pair 0 1 own ∷ pair 1 2 own ∷ [])
unfolding ℕ_discrete
mirror_held_at_call = records (mirrored (lock 4 (call 1 (2 ∷ []) end) end)) 0 _ tt refl

-- and one that is passed
mirror_passed : Records (mirrored (lock 2 (call 1 (4 ∷ []) end) end)) 0 (pair 0 2 own ∷ pair 2 1 own ∷ [])
unfolding ℕ_discrete
mirror_passed = records (mirrored (lock 2 (call 1 (4 ∷ []) end) end)) 0 _ tt refl

-- a mirror of a parameter is recorded as the parameter, which the row has
mirror_of_parameter : Records (mirrored end) 1 (pair 0 1 own ∷ [])
unfolding ℕ_discrete
mirror_of_parameter = records (mirrored end) 1 _ tt refl

row_of_parameter : Row (mirrored end) 1 0 1 own
unfolding ℕ_discrete
row_of_parameter = (is_row (mirrored end) tt 1 0 1 own).fact (inl refl)

-- the nest has roots: LOCK 1, LOCK 2, LOCK 3 with 3 a mirror of 1 records no pair (2, 1)
mirror_again : Records (mirrored (lock 1 (lock 2 (lock 3 end end) end) end)) 0 (pair 0 1 own ∷ pair 1 2 own ∷ [])
unfolding ℕ_discrete
mirror_again = records (mirrored (lock 1 (lock 2 (lock 3 end end) end) end)) 0 _ tt refl

-- nor does it where the mirror is the first to be taken, or where both are mirrors
root_again : Records (mirrored (lock 3 (lock 2 (lock 1 end end) end) end)) 0 (pair 0 1 own ∷ pair 1 2 own ∷ [])
unfolding ℕ_discrete
root_again = records (mirrored (lock 3 (lock 2 (lock 1 end end) end) end)) 0 _ tt refl

other_mirror : Records (mirrored (lock 4 (lock 2 (lock 3 end end) end) end)) 0 (pair 0 1 own ∷ pair 1 2 own ∷ [])
unfolding ℕ_discrete
other_mirror = records (mirrored (lock 4 (lock 2 (lock 3 end end) end) end)) 0 _ tt refl

-- inside such a block h is the one outside, for a LOCK and for a called routine's name 0: (2, 5), and not (1, 5)
holder_stays :
    Records (mirrored (new 5 (lock 1 (lock 2 (lock 3 (lock 5 end end) end) end) end))) 0
    (pair 0 1 own ∷ pair 1 2 own ∷ pair 2 5 own ∷ [])
unfolding ℕ_discrete
holder_stays = records (mirrored (new 5 (lock 1 (lock 2 (lock 3 (lock 5 end end) end) end) end))) 0 _ tt refl

holder_stays_at_call :
    Records (mirrored (new 5 (lock 1 (lock 2 (lock 3 (call 1 (5 ∷ []) end) end) end) end))) 0
    (pair 0 1 own ∷ pair 1 2 own ∷ pair 2 5 own ∷ [])
unfolding ℕ_discrete
holder_stays_at_call =
    records (mirrored (new 5 (lock 1 (lock 2 (lock 3 (call 1 (5 ∷ []) end) end) end) end))) 0 _ tt refl

-- directly inside its lock, too, a mirror records nothing
mirror_in_root : Records (mirrored (lock 1 (lock 3 (lock 2 end end) end) end)) 0 (pair 0 1 own ∷ pair 1 2 own ∷ [])
unfolding ℕ_discrete
mirror_in_root = records (mirrored (lock 1 (lock 3 (lock 2 end end) end) end)) 0 _ tt refl

-- the lock is in the nest no longer than its block is open
mirror_given_back :
    Records (mirrored (lock 1 end (lock 2 (lock 3 end end) end))) 0 (pair 0 1 own ∷ pair 0 2 own ∷ pair 2 1 own ∷ [])
unfolding ℕ_discrete
mirror_given_back = records (mirrored (lock 1 end (lock 2 (lock 3 end end) end))) 0 _ tt refl

-- a fork and a called routine have nests of their own: a mirror of what the parent or the caller holds is recorded
parents_lock :
    Records (mirrored (lock 1 (fork 1 (lock 2 (lock 3 end end) end) end) end)) 0
    (pair 0 1 own ∷ pair 2 1 (forked 1) ∷ [])
unfolding ℕ_discrete
parents_lock = records (mirrored (lock 1 (fork 1 (lock 2 (lock 3 end end) end) end) end)) 0 _ tt refl

callers_lock :
    Records (mirrored (lock 1 (lock 2 (call 1 (1 ∷ []) end) end) end)) 0
    (pair 0 1 own ∷ pair 1 2 own ∷ pair 2 1 own ∷ [])
unfolding ℕ_discrete
callers_lock = records (mirrored (lock 1 (lock 2 (call 1 (1 ∷ []) end) end) end)) 0 _ tt refl

-- a fork has the roots of its place
mirror_in_fork : Records (mirrored (fork 1 (lock 3 (lock 2 end end) end) end)) 0 (pair 1 2 (forked 1) ∷ [])
unfolding ℕ_discrete
mirror_in_fork = records (mirrored (fork 1 (lock 3 (lock 2 end end) end) end)) 0 _ tt refl

-- a MIRROR between two takings does not end the nest
mirror_between :
    Records (mirrored (lock 1 (mirror 5 2 (lock 5 (lock 1 end end) end)) end)) 0 (pair 0 1 own ∷ pair 1 2 own ∷ [])
unfolding ℕ_discrete
mirror_between = records (mirrored (lock 1 (mirror 5 2 (lock 5 (lock 1 end end) end)) end)) 0 _ tt refl

-- a fork nests 3 and 2, and the main thread 2 and 4
abbrev crossing : Code
crossing = fork 1 (lock 3 (lock 2 end end) end) (lock 2 (lock 4 end end) end)

-- with 3 and 4 as mirrors of 1, the ring is at their root
ring_of_mirrors : RingAt (mirrored crossing) 0 1
unfolding ℕ_discrete
ring_of_mirrors = is_ring_at (mirrored crossing) 0 1 tt

-- with two more locks in their place there is none
abbrev unmirrored : Program
unmirrored = routine 0 (new 1 (new 2 (new 3 (new 4 crossing)))) ∷ []

clear_of_locks : Clear unmirrored
unfolding ℕ_discrete
clear_of_locks = is_clear unmirrored tt

-- nor was there one before request 104
no_mirror : (r : ℕ) → Unmirrored (body unmirrored r)
no_mirror zero = (((tt, tt), tt), ((tt, tt), tt))
no_mirror (suc r) = tt

clear_of_locks_before : ClearBefore unmirrored
clear_of_locks_before = clear_before unmirrored no_mirror clear_of_locks

-- What request 105 moves (docs/MIRROR-AND-NEST.md). In each of these 3 is a mirror of 1, and some thread takes 1, 2, 3.
abbrev nest_1_2 : Code
nest_1_2 = lock 1 (lock 2 end end) end

abbrev nest_1_2_3 : Code
nest_1_2_3 = lock 1 (lock 2 (lock 3 end end) end) end

-- 1 and 2 differ
one_two : ◌≢◌ {A = ℕ} 1 2
one_two e = omega arith

two_one : ◌≢◌ {A = ℕ} 2 1
two_one e = omega arith

-- the main thread does so, and a fork takes 1, 2: it was a ring at 1, and is clear
abbrev own_ring : Program
own_ring = routine 0 (new 1 (new 2 (mirror 3 1 (fork 1 nest_1_2 nest_1_2_3)))) ∷ []

own_ring_before : ModelBy written own_ring 0 1 1 several
own_ring_before M ok =
    ok.follows 0 1 2 1 (forked 1) own
    (ok.records 0 1 2 (forked 1) (inl (inr (inl (inl (tt, refl, refl, refl))))) (inl one_two))
    (ok.records 0 2 1 own (inr (inr (inl (inr (inl (inl (tt, refl, refl, refl))))))) (inl two_one))
    (inr refl)

own_ring_now : Clear own_ring
unfolding ℕ_discrete
own_ring_now = is_clear own_ring tt

-- a handler does so: its row had (2, 1), and has it no longer
abbrev handler : Code → Program
handler c = routine 0 (new 1 (new 2 c)) ∷ routine 2 (mirror 3 1 nest_1_2_3) ∷ []

abbrev call_1_2 : Code → Code
call_1_2 c = call 1 (1 ∷ 2 ∷ []) c

handler_before : (c : Code) (M : Pairs) → SatisfiesBy written (handler c) M → M 1 1 2 own × M 1 2 1 own
handler_before c M ok = (
  ok.records 1 1 2 own (inr (inl (inl (tt, refl, refl, refl)))) (inl one_two),
  ok.records 1 2 1 own (inr (inl (inr (inl (inl (tt, refl, refl, refl)))))) (inl two_one),
)

handler_now : (l : Label) → ¬ Row (handler (call_1_2 end)) 1 2 1 l
unfolding ℕ_discrete
handler_now l row = (is_row (handler (call_1_2 end)) tt 1 2 1 l).entry row

-- two threads run the handler: the ring was their caller's
abbrev callers_ring : Program
callers_ring = handler (fork 1 (call_1_2 end) (call_1_2 end))

callers_ring_before : ModelBy written callers_ring 0 1 1 several
callers_ring_before M ok =
    let row = handler_before (fork 1 (call_1_2 end) (call_1_2 end)) M ok in
    let one-two-row : RowOf callers_ring M 1 1 2 own = (own, row.0, omega arith, omega arith, one_two, refl) in
    let two-one-row : RowOf callers_ring M 1 2 1 own = (own, row.1, omega arith, omega arith, two_one, refl) in
    ok.follows 0 1 2 1 (forked 1) own
    (ok.records 0 1 2 (forked 1) (inl (inl (1, 2, own, one-two-row, refl, refl, refl))) (inl one_two))
    (ok.records 0 2 1 own (inr (inl (2, 1, own, two-one-row, refl, refl, refl))) (inl two_one))
    (inr refl)

callers_ring_now : Clear callers_ring
unfolding ℕ_discrete
callers_ring_now = is_clear callers_ring tt
