-- A turn changes the state exactly where the thread can take its next step: a thread that waits, has ended or was never
-- started leaves it as it is.
use Rattle.std.specs.Prelude.{◌≡◌, ◌≢◌, set}
use Rattle.std.proofs.Math.Path.{refl, ap}
use Rattle.std.proofs.Common.{sym, ◌∙◌, get_or-set_same}
use mathlib.Core.List.{List, [], ◌∷◌, ◌++◌}
use Prim.Native.Nat.{ℕ, suc, ◌+◌, ◌≤◌, ◌<◌}
use native.Mathlib.Omega.{arith}
use Rattle.std.proofs.Math.ListN.{length, length-set, length-append, get_or-eq_default}
use Rattle.table.specs.Program.{Code, end, new, lock, fork, choice, call, mirror, Program, items}
use Rattle.rules.specs.Model.{bind}
use Rattle.run.specs.Run.{Env, held, Frame, frame, Thread, ended, at, State, thread, put, Side, first, second}
use Rattle.run.specs.Run.{step, turn, taken?, Wants, wants, Waits, CanStep}
use Rattle.run.proofs.Laws.Always.{running}

-- how much of a thread is open
abbrev opens : Thread → ℕ
opens ended = 0
opens (at c e fs) = suc (length fs)

-- how many items stand in the code that the thread is at
abbrev ahead : Thread → ℕ
ahead ended = 0
ahead (at c e fs) = items c

module _ (P : Program) (s : State) (t : ℕ) (a : Side) where
  -- it has ended
  pub ended_stays : thread s t ≡ ended → turn P s (t, a) ≡ s
  unfolding step
  ended_stays e = rw e

  -- it was never started
  pub not_started_stays : length s.threads ≤ t → turn P s (t, a) ≡ s
  not_started_stays le = ended_stays (get_or-eq_default s.threads ended {n = t} le)

  -- it waits
  pub waits_stays : (u : ℕ) → Waits s t u → turn P s (t, a) ≡ s
  unfolding step
  waits_stays u w = at_lock (thread s t) w.1
    where
      at_lock : (x : Thread) → Wants x w.0 → step P s t a x ≡ s
      at_lock x (wants {x = y} {c = c} {d = d} {e = e} {fs = fs} q) =
          elim (taken? s t (e y))
          as (λ k. elim k [ yes h ↦ s | no n ↦ put s t (at c e (frame (held (e y)) e d ∷ fs)) ] ≡ s)
          [ yes h ↦ refl | no n ↦ absurd (n (u, (w.2, rw q w.3))) ]

  -- the thread has another number of open blocks and calls, or of items
  put_changes :
      (f : Thread → ℕ) (x y : Thread) → thread s t ≡ x → t < length s.threads → f y ≢ f x → put s t y ≢ s
  put_changes f x y eq lt ne e =
      ne (ap f (sym (get_or-set_same s.threads t y ended lt) ∙ ap (λ (z : State). thread z t) e ∙ eq))

  -- it has one more open
  open_changes :
      (c d : Code) (e f : Env) (k : Frame) (fs : List Frame) → thread s t ≡ at c e fs → put s t (at d f (k ∷ fs)) ≢ s
  open_changes c d e f k fs eq =
      put_changes opens (at c e fs) (at d f (k ∷ fs)) eq (running s t c e fs eq)
      (λ q. let z : suc (suc (length fs)) ≡ suc (length fs) = q in omega arith)

  -- it can step
  pub can_step_changes : CanStep s t → turn P s (t, a) ≢ s
  unfolding step
  can_step_changes can = changes a (thread s t) refl
    where
      changes : (b : Side) (x : Thread) → thread s t ≡ x → step P s t b x ≢ s
      changes b ended eq = absurd (can.not_ended eq)
      changes b (at end e []) eq = put_changes opens _ ended eq (running s t _ e [] eq) (λ q. omega arith)
      changes b (at end e (frame o f c ∷ fs)) eq =
          put_changes opens _ (at c f fs) eq (running s t _ e _ eq)
          (λ q. let z : suc (length fs) ≡ suc (suc (length fs)) = q in omega arith)
      changes b (at (new x c) e fs) eq = λ q.
          let z : suc s.made ≡ s.made = ap (λ (z : State). z.made) q in omega arith
      changes b (at (lock x c d) e fs) eq =
          elim (taken? s t (e x))
          as (λ k. elim k [ yes h ↦ s | no n ↦ put s t (at c e (frame (held (e x)) e d ∷ fs)) ] ≢ s) [
            | yes h ↦ absurd (can.free h.0 (e x, rw eq (wants refl), h.1.0, h.1.1))
            | no n ↦ open_changes _ c e e _ fs eq
          ]
      changes b (at (fork i c d) e fs) eq = λ q.
          let z : length (set s.threads t (at d e fs) ++ (at c e [] ∷ [])) ≡ length s.threads
          = ap (λ (z : State). length z.threads) q in
          omega (
            arith,
            length-append (set s.threads t (at d e fs)) (at c e [] ∷ []),
            length-set s.threads t (at d e fs),
          )
      changes first (at (choice c d g) e fs) eq = open_changes _ c e e _ fs eq
      changes second (at (choice c d g) e fs) eq = open_changes _ d e e _ fs eq
      changes b (at (call r xs c) e fs) eq = open_changes _ _ e _ _ fs eq
      changes b (at (mirror x y c) e fs) eq =
          put_changes ahead _ (at c (bind x (e y) e) fs) eq (running s t _ e fs eq)
          (λ q. let z : items c ≡ 1 + items c = q in omega arith)
