-- A clear program is never answered stuck: in a safe state some thread can step unless all have ended.
use Rattle.std.specs.Prelude.{◌≡◌, refl, ◌≢◌, ◌⊎◌, Bool, true, false, cond, List, [], ◌∷◌, ℕ, zero, suc, ◌+◌, ◌%◌, leb, eqb}
use Rattle.std.specs.Prelude.{length, get_or}
use Rattle.std.proofs.Common.{sym, subst, ◌∙◌, inl, inr, arith}
use Rattle.table.specs.Program.{Code, end, new, lock, fork, choice, call, mirror, Program}
use Rattle.table.specs.WellFormed.{WellFormed, In}
use Rattle.rules.specs.Verdict.{Clear}
use Rattle.run.specs.Run.{Env, Frame, State, Thread, ended, at, start, thread, holds, taken?, Turn, turn, run}
use Rattle.run.specs.Run.{wants, Waits, CanStep, Safe}
use Rattle.run.proofs.Laws.Safety.{clear_is_safe}
use Rattle.schedule.specs.Schedule.{turn_of, waits?, Outlook, none_left, all_wait, some_can, and_waiting}
use Rattle.schedule.specs.Schedule.{outlook_from, outlook, stuck, at_end, unstarted, beyond, Result, stop, unless}
use Rattle.schedule.specs.Schedule.{beyond?, run_from, runs}
use Rattle.schedule.specs.Limits.{most_threads}

-- a thread that waits by the test waits for some thread
pub waits_some : (s : State) (t : ℕ) → waits? s t (thread s t) ≡ true → (u : ℕ) × Waits s t u
waits_some s t w = by (thread s t) refl w
  where
    lock_waits :
        (x : ℕ) (c d : Code) (e : Env) (fs : List Frame) → thread s t ≡ at (lock x c d) e fs
        → (q : Dec ((u : ℕ) × ((u ≢ t) × In (e x) (holds (thread s u)))))
        → ◌≡◌ {A = Bool} (elim q [ yes h ↦ true | no n ↦ false ]) true → (u : ℕ) × Waits s t u
    lock_waits x c d e fs is (yes h) y = (h.0, (e x, rw is (wants refl), h.1.0, h.1.1))
    lock_waits x c d e fs is (no n) y = absurd (let z : ◌≡◌ {A = ℕ} 0 1 = cc in omega arith)

    by : (z : Thread) → thread s t ≡ z → waits? s t z ≡ true → (u : ℕ) × Waits s t u
    by ended is y = absurd (let z : ◌≡◌ {A = ℕ} 0 1 = cc in omega arith)
    by (at (lock x c d) e fs) is y = lock_waits x c d e fs is (taken? s t (e x)) y
    by (at end e fs) is y = absurd (let z : ◌≡◌ {A = ℕ} 0 1 = cc in omega arith)
    by (at (new x c) e fs) is y = absurd (let z : ◌≡◌ {A = ℕ} 0 1 = cc in omega arith)
    by (at (fork i c d) e fs) is y = absurd (let z : ◌≡◌ {A = ℕ} 0 1 = cc in omega arith)
    by (at (choice a b c) e fs) is y = absurd (let z : ◌≡◌ {A = ℕ} 0 1 = cc in omega arith)
    by (at (call r xs c) e fs) is y = absurd (let z : ◌≡◌ {A = ℕ} 0 1 = cc in omega arith)
    by (at (mirror x y c) e fs) is q = absurd (let z : ◌≡◌ {A = ℕ} 0 1 = cc in omega arith)

-- where all of the threads from number t on that are left wait, each has ended or waits
pub each_waits :
    (s : State) (t : ℕ) (xs : List Thread) → outlook_from s t xs ≢ some_can
    → (i : ℕ) → (get_or xs i ended ≡ ended) ⊎ (waits? s (t + i) (get_or xs i ended) ≡ true)
each_waits s t [] o i = inl refl
each_waits s t (ended ∷ xs) o zero = inl refl
each_waits s t (ended ∷ xs) o (suc i) = shifted (each_waits s (suc t) xs o i)
  where
    shifted : (get_or xs i ended ≡ ended) ⊎ (waits? s (suc t + i) (get_or xs i ended) ≡ true)
        → (get_or xs i ended ≡ ended) ⊎ (waits? s (t + suc i) (get_or xs i ended) ≡ true)
    shifted (inl e) = inl e
    shifted (inr w) = inr (let h : t + suc i ≡ suc t + i = omega arith in rw h w)
each_waits s t (at c e fs ∷ xs) o zero = inr (by (waits? s t (at c e fs)) refl o)
  where
    by : (b : Bool) → waits? s t (at c e fs) ≡ b
        → cond b (and_waiting (outlook_from s (suc t) xs)) some_can ≢ some_can
        → waits? s (t + 0) (at c e fs) ≡ true
    by true is o =
        let h : t ≡ t + 0 = omega arith in
        subst (λ (n : ℕ). waits? s n (at c e fs) ≡ true) h is
    by false is o = absurd (o refl)
each_waits s t (at c e fs ∷ xs) o (suc i) = shifted (each_waits s (suc t) xs (rest (waits? s t (at c e fs)) o) i)
  where
    rest : (b : Bool) → cond b (and_waiting (outlook_from s (suc t) xs)) some_can ≢ some_can
        → outlook_from s (suc t) xs ≢ some_can
    rest true o q = o (rw q refl)
    rest false o q = o refl

    shifted : (get_or xs i ended ≡ ended) ⊎ (waits? s (suc t + i) (get_or xs i ended) ≡ true)
        → (get_or xs i ended ≡ ended) ⊎ (waits? s (t + suc i) (get_or xs i ended) ≡ true)
    shifted (inl e) = inl e
    shifted (inr w) = inr (let h : t + suc i ≡ suc t + i = omega arith in rw h w)

-- where some thread waits, some thread is left
pub some_left :
    (s : State) (t : ℕ) (xs : List Thread) → outlook_from s t xs ≢ none_left → (i : ℕ) × (get_or xs i ended ≢ ended)
some_left s t [] o = (0, λ z. o refl)
some_left s t (ended ∷ xs) o = let r = some_left s (suc t) xs o in (suc r.0, r.1)
some_left s t (at c e fs ∷ xs) o = (0, λ q. (let z : ◌≡◌ {A = ℕ} 0 1 = cc in omega arith))

-- in a safe state some thread can go on, or none is left
pub safe_not_stuck : (s : State) → Safe s → outlook s ≢ all_wait
safe_not_stuck s safe o = by safe.goes_on
  where
    by : ((t : ℕ) → thread s t ≡ ended) ⊎ ((t : ℕ) × CanStep s t) → ⊥
    by (inl all) = let r = some_left s 0 s.threads (λ q. no_two (sym o ∙ q)) in r.1 (all r.0)
      where
        no_two : all_wait ≢ none_left
        no_two q = (let z : ◌≡◌ {A = ℕ} 0 1 = cc in omega arith)
    by (inr (t, can)) = waits_on (each_waits s 0 s.threads (λ q. no_two (sym o ∙ q)) t)
      where
        no_two : all_wait ≢ some_can
        no_two q = (let z : ◌≡◌ {A = ℕ} 0 1 = cc in omega arith)

        waits_on : (thread s t ≡ ended) ⊎ (waits? s (0 + t) (thread s t) ≡ true) → ⊥
        waits_on (inl e) = can.not_ended e
        waits_on (inr w) =
            let h : 0 + t ≡ t = omega arith in
            let r = waits_some s t (rw h at w) in can.free r.0 r.1

-- a run that goes on where some thread can, or stops, is not stuck
unless_not : (o : Outlook) (n : ℕ) (s : State) (r : Result) → o ≢ all_wait → r.why ≢ stuck
    → (unless o n s r).why ≢ stuck
unless_not none_left n s r o q e = (let z : ◌≡◌ {A = ℕ} 0 1 = cc in omega arith)
unless_not all_wait n s r o q e = o refl
unless_not some_can n s r o q e = q e

either_not : (b : Bool) (x y : Result) → x.why ≢ stuck → y.why ≢ stuck → (cond b x y).why ≢ stuck
either_not true x y p q = p
either_not false x y p q = q

-- from a state all of whose runs are safe, a run under a schedule is not stuck
never_from :
    (P : Program) (lent : ℕ) (s : State) (n : ℕ) (bs : List ℕ) → ((turns : List Turn) → Safe (run P s turns))
    → (run_from P lent s n bs).why ≢ stuck
unfolding run_from
never_from P lent s n [] safe =
    unless_not (outlook s) n s (stop at_end n s) (safe_not_stuck s (safe []))
    (λ q. (let z : ◌≡◌ {A = ℕ} 0 1 = cc in omega arith))
never_from P lent s n (b ∷ bs) safe =
    unless_not (outlook s) n s _ (safe_not_stuck s (safe []))
    (either_not (leb (length s.threads) (b % most_threads)) (stop unstarted _ s) _
    (λ q. (let z : ◌≡◌ {A = ℕ} 0 1 = cc in omega arith))
    (either_not (beyond? lent s (b % most_threads) (thread s (b % most_threads))) (stop beyond _ s) _
    (λ q. (let z : ◌≡◌ {A = ℕ} 0 1 = cc in omega arith))
    (never_from P lent (turn P s (turn_of b)) (suc n) bs (λ turns. safe (turn_of b ∷ turns)))))

-- a clear program is never answered stuck
pub never_stuck :
    (P : Program) → WellFormed P → Clear P → (lent : ℕ) (bs : List ℕ) → (runs P lent bs).why ≢ stuck
never_stuck P wf clear lent bs =
    either_not (eqb lent 0) (stop beyond 0 (record { threads = []; made = 0 })) (run_from P lent (start P) 0 bs)
    (λ q. (let z : ◌≡◌ {A = ℕ} 0 1 = cc in omega arith))
    (never_from P lent (start P) 0 bs (clear_is_safe P wf clear))
