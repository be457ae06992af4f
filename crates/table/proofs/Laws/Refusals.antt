-- The refusals are 1 to 14.
use Rattle.std.specs.Prelude.{◌≡◌, false, not, ◌&&◌, ◌||◌, List, [], ◌∷◌, ℕ, ◌+◌, ◌*◌, ◌≤◌, eqb, ltb, length, get_or, take, drop}
use Rattle.std.proofs.Common.{arith}
use Rattle.table.specs.Constants.{most_routines, most_bytes, most_open}
use Rattle.table.specs.Program.{Routine}
use Rattle.table.specs.Check.{Block, ok, bad, block, at_head, Outcome, refused, accepted, with_routine, body_then}
use Rattle.table.specs.Check.{bodies, small?, sections, check_table}
use Rattle.table.proofs.Laws.Cases.{cond_cases}
use Rattle.table.proofs.Laws.Fuel.{AheadBlock, block_ahead}

-- a refusal is one of 1 to 14
abbrev Listed : Outcome → Type 0
Listed (accepted P) = Unit {0}
Listed (refused e) = (1 ≤ e) × (e ≤ 14)

with_listed : (q : Routine) (x : Outcome) → Listed x → Listed (with_routine q x)
with_listed q (accepted P) h = tt
with_listed q (refused e) h = h

body_listed : (k : ℕ) (l : List ℕ) (p : Block) (rest : List ℕ → Outcome) → AheadBlock l p
    → ((t : List ℕ) → Listed (rest t)) → Listed (body_then k p rest)
body_listed k l (ok c t) rest h g = with_listed (record { count = k; code = c }) (rest t) (g t)
body_listed k l (bad e) rest h g = omega arith

bodies_listed : (ks qs l : List ℕ) → Listed (bodies ks qs l)
bodies_listed ks [] [] = tt
bodies_listed ks [] (b ∷ l) = omega arith
bodies_listed ks (k ∷ qs) l =
    body_listed k l (block ks most_open false (at_head k) l) (λ t. bodies ks qs t)
    (block_ahead ks most_open false (at_head k) l) (λ t. bodies_listed ks qs t)

sections_listed : (ks l : List ℕ) → Listed (sections ks l)
sections_listed ks [] = omega arith
sections_listed ks (lo ∷ []) = omega arith
sections_listed ks (lo ∷ hi ∷ s) =
    cond_cases Listed (not (small? ks && eqb (get_or ks 0 0) 0)) _ _ (λ e. omega arith)
    (λ e. cond_cases Listed (ltb most_bytes (lo + 256 * hi)) _ _ (λ e'. omega arith)
    (λ e'. cond_cases Listed (not (eqb (length s) (lo + 256 * hi))) _ _ (λ e''. omega arith)
    (λ e''. bodies_listed ks ks s)))

listed : (s : List ℕ) → Listed (check_table s)
listed [] = omega arith
listed (n ∷ l) =
    cond_cases Listed (eqb n 0 || ltb most_routines n) _ _ (λ e. omega arith)
    (λ e. sections_listed (take n l) (drop n l))

-- a refusal is one of 1 to 14
pub refusals : (s : List ℕ) (e : ℕ) → check_table s ≡ refused e → (1 ≤ e) × (e ≤ 14)
refusals s e p = rw p at (listed s)
