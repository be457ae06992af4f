-- What acyclic programs are: all but those with a routine that reaches itself by calls.
use Rattle.std.specs.Prelude.{◌⊎◌, ℕ, ◌<◌, length}
use Rattle.std.proofs.Common.{inl, inr, arith}
use Rattle.std.proofs.Math.Decide.{dec_lt}
use Rattle.table.specs.Program.{Program, body}
use Rattle.table.specs.WellFormed.{In}
use Rattle.rules.specs.Verdict.{Calls}
use Rattle.rules.proofs.Laws.Lists.{up_to, in_up_to}
use Rattle.rounds.specs.Reaches.{ReachesBy, calls, passes}
use Rattle.rounds.specs.Rounds.{Acyclic}
use Rattle.rounds.proofs.Laws.Reach.{some?, reaches?}

-- the routine is one of the program, and reaches itself by calls
abbrev pub Cyclic : Program → ℕ → Type 0
Cyclic P r = (r < length P) × ReachesBy P r r

cyclic? : (P : Program) (r : ℕ) → Dec (Cyclic P r)
cyclic? P r = go (dec_lt r (length P)) (reaches? P r r)
  where
    go : Dec (r < length P) → Dec (ReachesBy P r r) → Dec (Cyclic P r)
    go (no n) d = no (λ c. n c.0)
    go (yes l) (no n) = no (λ c. n c.1)
    go (yes l) (yes w) = yes (l, w)

-- a program is acyclic, or a routine of it reaches itself by calls
pub acyclic_or_cyclic : (P : Program) → Acyclic P ⊎ ((r : ℕ) × Cyclic P r)
acyclic_or_cyclic P = go (some? (Cyclic P) (cyclic? P) (up_to (length P)))
  where
    go : Dec ((r : ℕ) × In r (up_to (length P)) × Cyclic P r) → Acyclic P ⊎ ((r : ℕ) × Cyclic P r)
    go (yes w) = inr (w.0, w.2)
    go (no n) = inl (λ r l w. n (r, in_up_to r (length P) l, (l, w)))

-- a program in which some number falls with each call is acyclic, in whatever order its routines stand
module _ (P : Program) (rank : ℕ → ℕ) (falls : (r q : ℕ) → Calls (body P r) q → rank q < rank r) where
  reaches_lower : {r q : ℕ} → ReachesBy P r q → rank q < rank r
  reaches_lower {r} {q} (calls c) = falls r q c
  reaches_lower {r} {q} (passes {s = s} c w) = let a = falls r s c in let b = reaches_lower w in omega (arith, a, b)

  pub ranked_acyclic : Acyclic P
  ranked_acyclic r h w = let l = reaches_lower w in omega (arith, l)
