-- What a run under a schedule comes to: the state of document 01's run after the turns of the bytes read, and what each
-- way to stop means there.
use Rattle.std.specs.Prelude.{◌≡◌, refl, Bool, true, false, cond, List, [], ◌∷◌, map, ℕ, suc, ◌+◌, ◌<◌, ◌≤◌, ◌%◌, leb}
use Rattle.std.specs.Prelude.{length, take, drop}
use Rattle.std.proofs.Common.{arith, ne_eqb, leb-true, leb-false}
use Rattle.table.specs.Program.{Program}
use Rattle.run.specs.Run.{State, start, thread, turn, run}
use Rattle.schedule.specs.Limits.{most_threads}
use Rattle.schedule.specs.Schedule.{turn_of, beyond?, Outlook, none_left, all_wait, some_can, outlook}
use Rattle.schedule.specs.Schedule.{End, all_ended, stuck, at_end, unstarted, beyond, Result, stop, unless}
use Rattle.schedule.specs.Schedule.{run_from, runs}

-- what is so in the state s, where the bytes bs are left, if the run stops there
abbrev pub Means : ℕ → State → List ℕ → End → Type 0
Means lent s bs all_ended = outlook s ≡ none_left
Means lent s bs stuck = outlook s ≡ all_wait
Means lent s bs at_end = (outlook s ≡ some_can) × (bs ≡ [])
Means lent s [] unstarted = ⊥
Means lent s (b ∷ bs) unstarted = (outlook s ≡ some_can) × (length s.threads ≤ b % most_threads)
Means lent s [] beyond = ⊥
Means lent s (b ∷ bs) beyond =
    (outlook s ≡ some_can) × (b % most_threads < length s.threads)
    × (beyond? lent s (b % most_threads) (thread s (b % most_threads)) ≡ true)

-- a run of the bytes bs from the state s, after n bytes, that comes to r: it read k of them
pub record Stops (P : Program) (lent : ℕ) (s : State) (n : ℕ) (bs : List ℕ) (r : Result) : Type 0 where
  pub k : ℕ
  pub few : k ≤ length bs
  pub counted : r.read ≡ n + k
  pub state_is : r.state ≡ run P s (map turn_of (take k bs))
  pub means : Means lent r.state (drop k bs) r.why

-- a run that stops at once
at_once : (P : Program) (lent : ℕ) (s : State) (n : ℕ) (bs : List ℕ) (w : End) → Means lent s bs w
    → Stops P lent s n bs (stop w n s)
at_once P lent s n bs w m = record {
  k = 0;
  few = omega arith;
  counted = omega arith;
  state_is = none bs;
  means = rw (whole bs) m;
}
  where
    none : (l : List ℕ) → s ≡ run P s (map turn_of (take 0 l))
    none [] = refl
    none (x ∷ l) = refl

    whole : (l : List ℕ) → drop 0 l ≡ l
    whole [] = refl
    whole (x ∷ l) = refl

-- every run from a state
stops_from : (P : Program) (lent : ℕ) (s : State) (n : ℕ) (bs : List ℕ) → Stops P lent s n bs (run_from P lent s n bs)
unfolding run_from
stops_from P lent s n [] = by (outlook s) refl
  where
    by : (o : Outlook) → outlook s ≡ o → Stops P lent s n [] (unless o n s (stop at_end n s))
    by none_left e = at_once P lent s n [] all_ended e
    by all_wait e = at_once P lent s n [] stuck e
    by some_can e = at_once P lent s n [] at_end (e, refl)
stops_from P lent s n (b ∷ bs) = by (outlook s) refl (stops_from P lent (turn P s (turn_of b)) (suc n) bs)
  where
    t : ℕ
    t = b % most_threads

    more : Result → Result
    more r =
        cond (leb (length s.threads) (b % most_threads)) (stop unstarted n s)
        (cond (beyond? lent s (b % most_threads) (thread s (b % most_threads))) (stop beyond n s) r)

    on : (r : Result) → Stops P lent (turn P s (turn_of b)) (suc n) bs r → Stops P lent s n (b ∷ bs) r
    on r q =
        let f = q.few in
        let c = q.counted in
        record {
          k = suc q.k;
          few = omega (arith, f);
          counted = omega (arith, c);
          state_is = q.state_is;
          means = q.means;
        }

    limit : (p : Bool) → beyond? lent s (b % most_threads) (thread s (b % most_threads)) ≡ p → outlook s ≡ some_can
        → b % most_threads < length s.threads → (r : Result) → Stops P lent (turn P s (turn_of b)) (suc n) bs r
        → Stops P lent s n (b ∷ bs) (cond p (stop beyond n s) r)
    limit true h e l r q = at_once P lent s n (b ∷ bs) beyond (e, l, h)
    limit false h e l r q = on r q

    known : (p : Bool) → leb (length s.threads) (b % most_threads) ≡ p → outlook s ≡ some_can → (r : Result)
        → Stops P lent (turn P s (turn_of b)) (suc n) bs r
        → Stops P lent s n (b ∷ bs) (cond p (stop unstarted n s)
        (cond (beyond? lent s (b % most_threads) (thread s (b % most_threads))) (stop beyond n s) r))
    known true h e r q = at_once P lent s n (b ∷ bs) unstarted (e, leb-true (length s.threads) (b % most_threads) h)
    known false h e r q =
        limit (beyond? lent s (b % most_threads) (thread s (b % most_threads))) refl e
        (leb-false (length s.threads) (b % most_threads) h) r q

    by : (o : Outlook) → outlook s ≡ o
        → Stops P lent (turn P s (turn_of b)) (suc n) bs (run_from P lent (turn P s (turn_of b)) (suc n) bs)
        → Stops P lent s n (b ∷ bs) (unless o n s (more (run_from P lent (turn P s (turn_of b)) (suc n) bs)))
    by none_left e q = at_once P lent s n (b ∷ bs) all_ended e
    by all_wait e q = at_once P lent s n (b ∷ bs) stuck e
    by some_can e q =
        known (leb (length s.threads) (b % most_threads)) refl e (run_from P lent (turn P s (turn_of b)) (suc n) bs) q

-- the whole run, where some record is lent: the state is that of document 01's run after the turns of the bytes read
pub stops : (P : Program) (lent : ℕ) (bs : List ℕ) → 1 ≤ lent → Stops P lent (start P) 0 bs (runs P lent bs)
stops P lent bs l = rw (ne_eqb lent 0 (λ e. omega (arith, e, l))) (stops_from P lent (start P) 0 bs)
