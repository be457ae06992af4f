-- How threads stand, in the words of document 01's run.
use Rattle.std.specs.Prelude.{◌≡◌, refl, ◌≢◌, ◌⊎◌, Bool, true, false, cond, List, [], ◌∷◌, ℕ, zero, suc, ◌+◌, get_or}
use Rattle.std.proofs.Common.{sym, ◌∙◌, inl, inr, arith}
use Rattle.run.specs.Run.{State, Thread, ended, at, thread, Waits}
use Rattle.schedule.specs.Schedule.{waits?, Outlook, none_left, all_wait, some_can, and_waiting, outlook_from}
use Rattle.schedule.specs.Schedule.{outlook}
use Rattle.schedule.proofs.Laws.Stuck.{waits_some, each_waits, some_left}

-- with a thread that waits some are left
waiting_left : (o : Outlook) → and_waiting o ≢ none_left
waiting_left none_left e = let z : ◌≡◌ {A = ℕ} 0 1 = cc in omega arith
waiting_left all_wait e = let z : ◌≡◌ {A = ℕ} 0 1 = cc in omega arith
waiting_left some_can e = let z : ◌≡◌ {A = ℕ} 0 1 = cc in omega arith

-- where none is left, each has ended
each_ended : (s : State) (t : ℕ) (xs : List Thread) → outlook_from s t xs ≡ none_left → (i : ℕ) → get_or xs i ended ≡ ended
each_ended s t [] o i = refl
each_ended s t (ended ∷ xs) o zero = refl
each_ended s t (ended ∷ xs) o (suc i) = each_ended s (suc t) xs o i
each_ended s t (at c e fs ∷ xs) o i = absurd (by (waits? s t (at c e fs)) o)
  where
    by : (b : Bool) → cond b (and_waiting (outlook_from s (suc t) xs)) some_can ≢ none_left
    by true q = waiting_left (outlook_from s (suc t) xs) q
    by false q = let z : ◌≡◌ {A = ℕ} 0 1 = cc in omega arith

-- ended: no thread is left
pub none_is_left : (s : State) → outlook s ≡ none_left → (t : ℕ) → thread s t ≡ ended
none_is_left s o t = each_ended s 0 s.threads o t

-- stuck: some thread is left, and each that is left waits for some thread
pub all_are_waiting : (s : State) → outlook s ≡ all_wait
    → ((t : ℕ) × (thread s t ≢ ended)) × ((t : ℕ) → thread s t ≢ ended → (u : ℕ) × Waits s t u)
all_are_waiting s o = (
  some_left s 0 s.threads (λ q. let z : all_wait ≡ none_left = sym o ∙ q in no_two z),
  λ t left. by t left (each_waits s 0 s.threads (λ q. let z : all_wait ≡ some_can = sym o ∙ q in no_three z) t),
)
  where
    no_two : all_wait ≢ none_left
    no_two e = let z : ◌≡◌ {A = ℕ} 0 1 = cc in omega arith

    no_three : all_wait ≢ some_can
    no_three e = let z : ◌≡◌ {A = ℕ} 0 1 = cc in omega arith

    by : (t : ℕ) → thread s t ≢ ended → (thread s t ≡ ended) ⊎ (waits? s (0 + t) (thread s t) ≡ true)
        → (u : ℕ) × Waits s t u
    by t left (inl e) = absurd (left e)
    by t left (inr w) = let h : 0 + t ≡ t = omega arith in waits_some s t (rw h at w)
