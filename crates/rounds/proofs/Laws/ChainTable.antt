-- The chain of 1 to 64 routines is within the limits, so its table is accepted.
use Rattle.std.specs.Prelude.{◌≡◌, refl, [], ◌∷◌, ℕ, zero, suc, ◌+◌, ◌*◌, ◌≤◌, ◌<◌, length, get_or}
use Rattle.std.proofs.Common.{subst, sym, inl, inr, arith}
use Rattle.std.proofs.Math.Decide.{dec_lt}
use Rattle.table.specs.Constants.{most_params, most_routines}
use Rattle.table.specs.Program.{Program, empty, params, names}
use Rattle.table.specs.WellFormed.{In}
use Rattle.table.specs.Encoding.{encode_bodies, Fits, WithinLimits}
use Rattle.table.specs.Check.{accepted, check_table}
use Rattle.table.proofs.Laws.Complete.{complete}
use Rattle.rounds.specs.Chain.{params_of, chain_from, chain, chain_table}
use Rattle.rounds.proofs.Laws.ChainRounds.{passing_at, opposing_at, links_long, link, last, params_at}

-- the names 1 and 2 are in scope after two NEW, whether they are the parameters or these
one_in : (r : ℕ) → In 1 (suc (suc (params_of r)) ∷ suc (params_of r) ∷ names (params_of r))
one_in zero = inr (inl refl)
one_in (suc r) = inr (inr (inr (inl refl)))

two_in : (r : ℕ) → In 2 (suc (suc (params_of r)) ∷ suc (params_of r) ∷ names (params_of r))
two_in zero = inl refl
two_in (suc r) = inr (inr (inl refl))

few : (r : ℕ) → params_of r ≤ most_params
few zero = omega arith
few (suc r) = omega arith

-- the names in scope at the call: the two locals and the parameters
abbrev InScope : ℕ → ℕ → Type 0
InScope r x = In x (suc (suc (params_of r)) ∷ suc (params_of r) ∷ names (params_of r))

-- a routine that calls the next one is within the limits
passing_fits : (P : Program) (r : ℕ) → suc r < length P → params P (suc r) ≡ 2
    → Fits P (passing_at r)
passing_fits P r h e = record {
  few_params = few r;
  scoped = (omega arith, (omega arith, (h, sym e, in_scope, tt)));
  numbered = (omega arith, (omega arith, tt));
  few_open = omega arith;
  few_locals = omega arith;
  few_forks = omega arith;
}
  where
    in_scope : (x : ℕ) → In x (1 ∷ 2 ∷ []) → InScope r x
    in_scope x (inl p) = subst (InScope r) (sym p) (one_in r)
    in_scope x (inr (inl p)) = subst (InScope r) (sym p) (two_in r)
    in_scope x (inr (inr z)) = absurd z

-- and so is the last one
opposing_fits : (P : Program) (r : ℕ) → Fits P (opposing_at r)
opposing_fits P r = record {
  few_params = few r;
  scoped = (omega arith, (omega arith, ((one_in r, (two_in r, tt, tt), tt), (two_in r, (one_in r, tt, tt), tt))));
  numbered = (omega arith, (omega arith, (refl, ((tt, tt), tt), ((tt, tt), tt))));
  few_open = omega arith;
  few_locals = omega arith;
  few_forks = omega arith;
}

-- how many bytes the bodies have
pub bodies_long : (r m : ℕ) → length (encode_bodies (chain_from r m)) ≡ 7 * m + 17
bodies_long r zero = refl
bodies_long r (suc m) = let e = bodies_long (suc r) m in omega arith

links_fit : (m : ℕ) → m < most_routines → WithinLimits (chain_from 0 m)
links_fit m h = record {
  some_routine = let e = links_long 0 m in omega arith;
  few_routines = let e = links_long 0 m in omega arith;
  main = params_at m 0 (omega arith);
  fits = λ r l. fits r l (dec_lt r m);
  few_bytes = let e = bodies_long 0 m in omega arith;
}
  where
    fits : (r : ℕ) → r < length (chain_from 0 m) → Dec (r < m) → Fits (chain_from 0 m) (get_or (chain_from 0 m) r empty)
    fits r l (yes lt) =
        let e = links_long 0 m in
        rw (link m r lt) (passing_fits (chain_from 0 m) r (omega arith) (params_at m (suc r) (omega arith)))
    fits r l (no n) =
        let e = links_long 0 m in
        let s : r ≡ m = omega arith in
        rw (s, last m) (opposing_fits (chain_from 0 m) m)

-- the chain of n routines is within the limits, and its table is accepted
pub chain_within : (n : ℕ) → 1 ≤ n → n ≤ most_routines → WithinLimits (chain n)
chain_within zero l h = absurd (omega arith)
chain_within (suc m) l h = links_fit m (omega arith)

pub chain_accepted : (n : ℕ) → 1 ≤ n → n ≤ most_routines → check_table (chain_table n) ≡ accepted (chain n)
chain_accepted n l h = complete (chain n) (chain_within n l h)
