-- The chain of n routines needs n + 1 rounds: the ring of the last routine takes a round for each call. As no routine
-- of the chain reaches itself, these are as many as such a program may need.
use Rattle.std.specs.Prelude.{◌≡◌, refl, ◌≢◌, [], ◌∷◌, ℕ, zero, suc, ◌+◌, ◌-◌, ◌≤◌, ◌<◌, length, get_or}
use Rattle.std.proofs.Common.{sym, ap, subst, inl, inr, arith}
use Rattle.std.proofs.Math.Decide.{dec_lt}
use Rattle.table.specs.Program.{Routine, Program, empty, params, body}
use Rattle.table.specs.WellFormed.{In}
use Rattle.table.proofs.Laws.Lists.{body_listed}
use Rattle.rules.specs.Label.{Label, own, forked, unknown, several, combine, cut, placed}
use Rattle.rules.specs.Model.{Kept}
use Rattle.rules.specs.Verdict.{Calls}
use Rattle.rules.specs.Derived.{Pairs, Closed, given, follows, KeptFrom}
use Rattle.rules.proofs.Laws.Closure.{closed_least}
use Rattle.rounds.specs.Reaches.{ReachesBy, calls, passes}
use Rattle.rounds.specs.Rounds.{PairsIn, RowsAfter, RingAfter, Changeless, Rounds, Acyclic}
use Rattle.rounds.specs.Chain.{params_of, passing, opposing, chain_from, chain}
use Rattle.rounds.proofs.Laws.Acyclic.{acyclic_changeless}

-- a routine that calls the next one, and the one that calls none, at place r
abbrev pub passing_at : ℕ → Routine
passing_at r = record { count = params_of r; code = passing (params_of r) (suc r) }

abbrev pub opposing_at : ℕ → Routine
opposing_at r = record { count = params_of r; code = opposing (params_of r) }

pub links_long : (r m : ℕ) → length (chain_from r m) ≡ suc m
links_long r zero = refl
links_long r (suc m) = ap suc (links_long (suc r) m)

-- what stands at the places of the chain
link_at : (r m j : ℕ) → j < m → get_or (chain_from r m) j empty ≡ passing_at (r + j)
link_at r zero j h = absurd (omega arith)
link_at r (suc m) zero h = let e : r ≡ r + 0 = omega arith in rw (← e) refl
link_at r (suc m) (suc j) h = let e : suc r + j ≡ r + suc j = omega arith in rw e at (link_at (suc r) m j (omega arith))

last_at : (r m : ℕ) → get_or (chain_from r m) m empty ≡ opposing_at (r + m)
last_at r zero = let e : r ≡ r + 0 = omega arith in rw (← e) refl
last_at r (suc m) = let e : suc r + m ≡ r + suc m = omega arith in rw e at (last_at (suc r) m)

-- the names 1 and 2 differ: a pair of them is kept, and 2 is not held in the block of 1, nor 1 in the block of 2
one_two : {l : Label} → Kept 1 2 l
one_two = inl (λ e. omega arith)

two_one : {l : Label} → Kept 2 1 l
two_one = inl (λ e. omega arith)

free : (x y : ℕ) → x ≢ y → ¬ In x (y ∷ [])
free x y ne (inl e) = ne e
free x y ne (inr z) = z

-- the last routine records (1, 2) for its fork and (2, 1) for the running thread
opposing_there : (R : Pairs) (r : ℕ) → KeptFrom R (opposing (params_of r)) 1 2 (forked 1)
opposing_there R zero = (inl (inr (inl (inl (free 2 1 (λ e. omega arith), refl, refl, refl)))), one_two)
opposing_there R (suc r) = (inl (inr (inl (inl (free 2 1 (λ e. omega arith), refl, refl, refl)))), one_two)

opposing_back : (R : Pairs) (r : ℕ) → KeptFrom R (opposing (params_of r)) 2 1 own
opposing_back R zero = (inr (inr (inl (inl (free 1 2 (λ e. omega arith), refl, refl, refl)))), two_one)
opposing_back R (suc r) = (inr (inr (inl (inl (free 1 2 (λ e. omega arith), refl, refl, refl)))), two_one)

-- the others record what the row of the routine called has at these names
passing_there : (R : Pairs) (r q : ℕ) (l : Label) → R q 1 2 l → KeptFrom R (passing (params_of r) q) 1 2 (placed own l)
passing_there R zero q l w = (inl (1, 2, l, w, refl, refl, refl), one_two)
passing_there R (suc r) q l w = (inl (1, 2, l, w, refl, refl, refl), one_two)

passing_back : (R : Pairs) (r q : ℕ) (l : Label) → R q 2 1 l → KeptFrom R (passing (params_of r) q) 2 1 (placed own l)
passing_back R zero q l w = (inl (2, 1, l, w, refl, refl, refl), two_one)
passing_back R (suc r) q l w = (inl (2, 1, l, w, refl, refl, refl), two_one)

-- and nothing else
passing_only : (R : Pairs) (k q : ℕ) → ((a b : ℕ) (l : Label) → R q a b l → ⊥)
    → {a b : ℕ} {l : Label} → Closed (KeptFrom R (passing k q)) a b l → ⊥
passing_only R k q f w = closed_least (KeptFrom R (passing k q)) (λ a b l. ⊥) none (λ a b c l m p q k. p) w
  where
    none : (a b : ℕ) (l : Label) → KeptFrom R (passing k q) a b l → ⊥
    none a b l (inl v, h) = f v.0 v.1 v.2 v.3
    none a b l (inr v, h) = v

-- what is called
passing_calls : (k p q : ℕ) → Calls (passing k p) q → q ≡ p
passing_calls k p q (inl e) = e
passing_calls k p q (inr z) = absurd z

opposing_calls : (k q : ℕ) → Calls (opposing k) q → ⊥
opposing_calls k q (inl (inl (inl z))) = z
opposing_calls k q (inl (inl (inr z))) = z
opposing_calls k q (inl (inr z)) = z
opposing_calls k q (inr (inl (inl z))) = z
opposing_calls k q (inr (inl (inr z))) = z
opposing_calls k q (inr (inr z)) = z

module _ (m : ℕ) where
  abbrev P : Program
  P = chain_from 0 m

  pub link : (r : ℕ) → r < m → get_or P r empty ≡ passing_at r
  link r h = let e : 0 + r ≡ r = omega arith in rw e at (link_at 0 m r h)

  pub last : get_or P m empty ≡ opposing_at m
  last = let e : 0 + m ≡ m = omega arith in rw e at (last_at 0 m)

  -- each routine has its parameters
  pub params_at : (r : ℕ) → r ≤ m → params P r ≡ params_of r
  params_at r h = go (dec_lt r m)
    where
      go : Dec (r < m) → params P r ≡ params_of r
      go (yes l) = ap (λ (q : Routine). q.count) (link r l)
      go (no n) = let e : r ≡ m = omega arith in rw e (ap (λ (q : Routine). q.count) last)

  -- a routine has no pair in the first rounds, as many as there are calls below it
  none_early : (i r a b : ℕ) (l : Label) → r + i ≤ m → PairsIn P i r a b l → ⊥
  none_early zero r a b l h w = w
  none_early (suc i) r a b l h w = passing_only (RowsAfter P i) (params_of r) (suc r)
      (λ a b l v. none_early i (suc r) a b v.0 (omega arith) v.1)
      (subst (λ (q : Routine). Closed (KeptFrom (RowsAfter P i) q.code) a b l) (link r (omega arith)) w)

  -- in the next one it has (1, 2) of another thread, and (2, 1)
  record Opposed (i r : ℕ) : Type 0 where
    label : Label
    cuts : cut label ≡ unknown
    joins : combine label own ≡ several
    there : PairsIn P i r 1 2 label
    back : PairsIn P i r 2 1 own

  opposed : (i r : ℕ) → r + i ≡ m → Opposed (suc i) r
  opposed zero r h = rw e (record {
    label = forked 1;
    cuts = refl;
    joins = refl;
    there = in_last (given (opposing_there (RowsAfter P 0) m));
    back = in_last (given (opposing_back (RowsAfter P 0) m));
  })
    where
      e : r ≡ m
      e = omega arith

      in_last : {a b : ℕ} {l : Label} → Closed (KeptFrom (RowsAfter P 0) (opposing (params_of m))) a b l
          → PairsIn P 1 m a b l
      in_last {a} {b} {l} w =
          subst (λ (q : Routine). Closed (KeptFrom (RowsAfter P 0) q.code) a b l) (sym last) w
  opposed (suc i) r h = go (opposed i (suc r) (omega arith))
    where
      lt : r < m
      lt = omega arith

      two : params P (suc r) ≡ 2
      two = params_at (suc r) (omega arith)

      in_link : {a b : ℕ} {l : Label} → Closed (KeptFrom (RowsAfter P (suc i)) (passing (params_of r) (suc r))) a b l
          → PairsIn P (suc (suc i)) r a b l
      in_link {a} {b} {l} w =
          subst (λ (q : Routine). Closed (KeptFrom (RowsAfter P (suc i)) q.code) a b l) (sym (link r lt)) w

      row : {a b : ℕ} {l : Label} → a ≤ 2 → b ≤ 2 → a ≢ b → PairsIn P (suc i) (suc r) a b l
          → RowsAfter P (suc i) (suc r) a b (cut l)
      row {a} {b} {l} ha hb ne w = (l, w, (rw two ha), (rw two hb), ne, refl)

      go : Opposed (suc i) (suc r) → Opposed (suc (suc i)) r
      go o = record {
        label = unknown;
        cuts = refl;
        joins = refl;
        there =
            let w = row (omega arith) (omega arith) (λ e. omega arith) o.there in
            in_link (given (passing_there (RowsAfter P (suc i)) r (suc r) unknown (rw o.cuts at w)));
        back =
            let w = row (omega arith) (omega arith) (λ e. omega arith) o.back in
            in_link (given (passing_back (RowsAfter P (suc i)) r (suc r) own w));
      }

  -- so it has a ring then
  ring_then : (i r : ℕ) → r + i ≡ m → RingAfter P (suc i) r
  ring_then i r h =
      let o = opposed i r h in
      (1, follows o.there o.back (sym o.joins) (inr refl))

  -- the first n rounds all change something
  changes : (i : ℕ) → Changeless P i → suc m ≤ i
  changes i c = go (dec_lt m i)
    where
      go : Dec (m < i) → suc m ≤ i
      go (yes l) = l
      go (no n) =
          let e : (m - i) + i ≡ m = omega arith in
          let w = (c.rings (m - i)).0 (ring_then i (m - i) e) in
          absurd (none_early i (m - i) w.0 w.0 several (omega arith) w.1)

  -- calls lead upwards
  upwards : (r q : ℕ) → Calls (body P r) q → r < q
  upwards r q c = go (dec_lt r m)
    where
      go : Dec (r < m) → r < q
      go (yes l) =
          let e = passing_calls (params_of r) (suc r) q (subst (λ (p : Routine). Calls p.code q) (link r l) c) in
          omega arith
      go (no n) =
          let l = body_listed P r (λ c. Calls c q) (λ z. z) c in
          let long = links_long 0 m in
          let e : r ≡ m = omega arith in
          absurd (opposing_calls (params_of m) q (subst (λ (p : Routine). Calls p.code q) last (rw e at c)))

  reach_up : {q r : ℕ} → ReachesBy P q r → q < r
  reach_up (calls {q = q} {r = r} c) = upwards q r c
  reach_up (passes {q = q} {s = s} c w) = let h = upwards q s c in let k = reach_up w in omega arith

-- the chain of n routines has n routines
pub chain_long : (n : ℕ) → length (chain n) ≡ n
chain_long zero = refl
chain_long (suc m) = links_long 0 m

-- none of which reaches itself
pub chain_acyclic : (n : ℕ) → Acyclic (chain n)
chain_acyclic zero r h w = absurd (omega arith)
chain_acyclic (suc m) r h w = let k = reach_up m w in omega arith

-- and needs n + 1 rounds: as many as a program of n routines in which no routine reaches itself may need
pub chain_rounds : (n : ℕ) → 1 ≤ n → Rounds (chain n) (n + 1)
chain_rounds zero h = absurd (omega arith)
chain_rounds (suc m) h = record {
  before = suc m;
  number = omega arith;
  changeless = rw (links_long 0 m) at (acyclic_changeless (chain_from 0 m) (chain_acyclic (suc m)));
  first = changes m;
}
