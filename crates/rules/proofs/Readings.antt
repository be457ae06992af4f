-- How the definitions read where the worked tables (docs/FORMAT.md) do not show it, a program for each reading.
use mathlib.Core.Path.{◌≡◌, refl}
use mathlib.Core.Logic.{inl, inr}
use mathlib.Core.Bool.{false, not, ◌&&◌}
use mathlib.Core.List.{[], ◌∷◌}
use Prim.Native.Nat.{ℕ}
use native.Mathlib.Decide.{ℕ_discrete}
use lib.Dec.{eqb}
use Rattle.table.specs.Program.{Code, end, new, lock, fork, choice, call, Routine, Program}
use Rattle.rules.specs.Label.{Label, own, forked, unknown, several}
use Rattle.rules.specs.Model.{Model, follows, Ring}
use Rattle.rules.specs.Verdict.{Clear, RingAt}
use Rattle.rules.specs.Share.{ShareOf}
use Rattle.rules.proofs.Laws.Tests.{both, equal}
use Rattle.rules.proofs.Laws.Certificate.{has_pair, pair_passes, OneLabel, one_label}
use Rattle.rules.proofs.Laws.Judge.{is_clear, is_ring_at, ring_passes, is_share}

abbrev pub routine : ℕ → Code → Routine
routine k c = record { count = k; code = c }

-- a fork locks 1 then 2, the main thread 2 then 1
abbrev crossed : Code
crossed = new 1 (new 2 (fork 1 (lock 1 (lock 2 end end) end) (lock 2 (lock 1 end end) end)))

-- table b has the verdict ring, at routine 0 and name 1
abbrev table_b : Program
table_b = routine 0 crossed ∷ []

ring_b : RingAt table_b 0 1
unfolding ℕ_discrete
ring_b = is_ring_at table_b 0 1 tt

-- table g, the philosophers, has the verdict clear
abbrev pub table_g : Program
table_g =
    routine 0 (new 1 (call 1 (1 ∷ 1 ∷ []) end))
    ∷ routine 2
    (choice (lock 2 (lock 1 end end) end) (new 3 (fork 1 (lock 1 (lock 3 end end) end) (call 1 (3 ∷ 2 ∷ []) end))) end)
    ∷ []

pub clear_g : Clear table_g
unfolding ℕ_discrete
clear_g = is_clear table_g tt

-- a pair with equal ends labelled several is kept, and combines further
ring_combines : (P : Program) (r a b : ℕ) (l : Label) → Ring P r a → Model P r a b l → Model P r a b several
ring_combines P r a b l ring p = follows ring p refl (inr refl)

ring_combines_b : Model table_b 0 1 2 several
unfolding ℕ_discrete
ring_combines_b = ring_combines table_b 0 1 2 (forked 1) ring_b.ring (has_pair table_b 0 1 2 (forked 1) tt)

-- a ring of the called routine is not one of the caller
abbrev ring_called : Program
ring_called = routine 0 (call 1 [] end) ∷ routine 0 crossed ∷ []

ring_not_passed : Ring ring_called 1 1 × ((y : ℕ) → Ring ring_called 0 y → ⊥)
unfolding ℕ_discrete
ring_not_passed =
    (has_pair ring_called 1 1 1 several tt, λ y. ring_passes ring_called (0 ∷ []) (λ r x. false) tt 0 y (inl refl))

-- a ring of a routine that no call reaches does not decide the verdict
abbrev ring_unreached : Program
ring_unreached = routine 0 end ∷ routine 0 crossed ∷ []

clear_unreached : Ring ring_unreached 1 1 × Clear ring_unreached
unfolding ℕ_discrete
clear_unreached = (has_pair ring_unreached 1 1 1 several tt, is_clear ring_unreached tt)

-- of three reached routines, one of them reached through another, one has a ring: 200 is 66 × 3 and 2
abbrev three_reached : Program
three_reached = routine 0 (call 1 [] end) ∷ routine 0 (call 2 [] end) ∷ routine 0 crossed ∷ []

share_three : ShareOf three_reached 66 2 3
unfolding ℕ_discrete
share_three = is_share three_reached 66 2 3 tt

-- a routine that no call reaches does not count, with a ring or without one
share_unreached : ShareOf ring_unreached 100 0 1
unfolding ℕ_discrete
share_unreached = is_share ring_unreached 100 0 1 tt

abbrev clear_beside_ring : Program
clear_beside_ring = routine 0 crossed ∷ routine 0 end ∷ []

share_beside_ring : ShareOf clear_beside_ring 0 0 1
unfolding ℕ_discrete
share_beside_ring = is_share clear_beside_ring 0 0 1 tt

-- a routine that is called twice, or that calls routine 0, is one routine
abbrev called_twice : Program
called_twice = routine 0 (call 1 [] (fork 1 (call 1 [] end) end)) ∷ routine 0 (call 0 [] end) ∷ []

share_called_twice : ShareOf called_twice 100 0 2
unfolding ℕ_discrete
share_called_twice = is_share called_twice 100 0 2 tt

-- routine 1 locks its parameter, so it has the pair (0, 1); routine 0 runs d while it holds lock 2
abbrev calls_held : Code → Program
calls_held d = routine 0 (new 1 (new 2 (lock 2 d end))) ∷ routine 1 (lock 1 end end) ∷ []

-- at a CALL in a LOCK block, the called routine's name 0 stands for that block's lock
holder_at_call : Model (calls_held (call 1 (1 ∷ []) end)) 0 2 1 own
unfolding ℕ_discrete
holder_at_call = has_pair (calls_held (call 1 (1 ∷ []) end)) 0 2 1 own tt

-- and in a fork with no LOCK block open, the pairs from the called routine's name 0 are dropped
no_holder_at_call : (a : ℕ) (l : Label) → Model (calls_held (fork 1 (call 1 (1 ∷ []) end) end)) 0 a 1 l → ⊥
unfolding ℕ_discrete
no_holder_at_call a l =
    pair_passes (calls_held (fork 1 (call 1 (1 ∷ []) end) end)) (λ r c b m. not (eqb r 0 && eqb b 1)) tt

-- routine 1 runs c, which locks 1 then 2; routine 0 calls it with two locks inside a fork
abbrev calls_forked : Code → Program
calls_forked c = routine 0 (new 1 (new 2 (fork 1 (call 1 (1 ∷ 2 ∷ []) end) end))) ∷ routine 2 c ∷ []

-- own of a routine called inside a fork becomes that fork's label
own_in_fork : OneLabel (calls_forked (lock 1 (lock 2 end end) end)) 0 1 2 (forked 1)
unfolding ℕ_discrete
own_in_fork = one_label (calls_forked (lock 1 (lock 2 end end) end)) 0 1 2 (forked 1) tt

-- unknown of a routine called inside a fork stays unknown
unknown_in_fork : OneLabel (calls_forked (fork 1 (lock 1 (lock 2 end end) end) end)) 0 1 2 unknown
unfolding ℕ_discrete
unknown_in_fork = one_label (calls_forked (fork 1 (lock 1 (lock 2 end end) end) end)) 0 1 2 unknown tt

-- a fork in a LOCK block holds nothing, also after a LOCK block of its own has closed
abbrev fork_held : Program
fork_held = routine 0 (new 1 (new 2 (new 3 (lock 1 (fork 1 (lock 2 end (lock 3 end end)) end) end)))) ∷ []

fork_holds_nothing : (a b : ℕ) (l : Label) → Model fork_held 0 a b l → (a ≡ 0) × (b ≡ 1)
unfolding ℕ_discrete
fork_holds_nothing a b l m =
    (both (equal a 0) (equal b 1)).fact (pair_passes fork_held (λ r c d k. eqb c 0 && eqb d 1) tt m)
