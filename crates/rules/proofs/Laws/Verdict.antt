-- A program has at most one verdict, and calls reach routines of the program alone.
use Rattle.std.specs.Prelude.{◌≡◌, List, ◌∷◌, ℕ, ◌<◌, length}
use Rattle.std.proofs.Common.{inl, inr, le_antisymm}
use Rattle.table.specs.Program.{Code, new, lock, fork, choice, call, mirror, Program, body}
use Rattle.table.specs.WellFormed.{Scoped, WellFormed}
use Rattle.rules.specs.Verdict.{Calls, Reached, first, then, Clear, RingAt}

pub ring_at_unique : (P : Program) (r q x y : ℕ) → RingAt P r x → RingAt P q y → (r ≡ q) × (x ≡ y)
ring_at_unique P r q x y v w =
    (same, le_antisymm (v.lowest_name y (rw same w.ring)) (w.lowest_name x (rw (← same) v.ring)))
  where
    same : r ≡ q
    same = le_antisymm (v.lowest_routine q y w.reached w.ring) (w.lowest_routine r x v.reached v.ring)

pub clear_no_ring : (P : Program) (r x : ℕ) → Clear P → RingAt P r x → ⊥
clear_no_ring P r x clear v = clear r x v.reached v.ring

-- a call of a scoped code is of a routine of the program
calls_within : (P : Program) (k : ℕ) (s : List ℕ) (c : Code) (q : ℕ) → Scoped P k s c → Calls c q → q < length P
calls_within P k s Rattle.table.specs.Program.end q h w = elim w [ ]
calls_within P k s (new x c) q h w = calls_within P k (x ∷ s) c q h.1 w
calls_within P k s (lock x c d) q h (inl w) = calls_within P k s c q h.1 w
calls_within P k s (lock x c d) q h (inr w) = calls_within P k s d q h.2 w
calls_within P k s (fork i c d) q h (inl w) = calls_within P k s c q h.0 w
calls_within P k s (fork i c d) q h (inr w) = calls_within P k s d q h.1 w
calls_within P k s (choice a b c) q h (inl w) = calls_within P k s a q h.0 w
calls_within P k s (choice a b c) q h (inr (inl w)) = calls_within P k s b q h.1 w
calls_within P k s (choice a b c) q h (inr (inr w)) = calls_within P k s c q h.2 w
calls_within P k s (call r xs c) q h (inl e) = rw e h.0
calls_within P k s (call r xs c) q h (inr w) = calls_within P k s c q h.3 w
calls_within P k s (mirror x y c) q h w = calls_within P k (x ∷ s) c q h.2 w

module _ (P : Program) (wf : WellFormed P) where
  pub body_calls : (r q : ℕ) → r < length P → Calls (body P r) q → q < length P
  body_calls r q l w = calls_within P _ _ (body P r) q (wf.scoped r l) w

  -- calls reach routines of the program alone
  pub reached_within : (q : ℕ) → Reached P q → q < length P
  reached_within q first = wf.some_routine
  reached_within q (then {r = r} h w) = body_calls r q (reached_within r h) w
