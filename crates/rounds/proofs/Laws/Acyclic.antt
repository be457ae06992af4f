-- Where the program is acyclic there are at most n + 1 rounds: a routine's pairs stay once those of the
-- routines that it calls do, and those reach fewer routines.
use Rattle.std.specs.Prelude.{◌≡◌, refl, ◌⊎◌, List, [], ◌∷◌, ℕ, zero, suc, ◌+◌, ◌≤◌, ◌<◌, length}
use Rattle.std.proofs.Common.{inl, inr, arith}
use Rattle.std.proofs.Math.Decide.{dec_lt}
use Rattle.table.specs.Program.{Program, body}
use Rattle.table.specs.WellFormed.{In}
use Rattle.table.proofs.Laws.Lists.{out, out_length, out_in}
use Rattle.rules.specs.Label.{Label}
use Rattle.rules.specs.Verdict.{Calls}
use Rattle.rules.proofs.Laws.Lists.{up_to, in_up_to, up_to_long}
use Rattle.rows.specs.Laws.Fixpoint.{calls_only}
use Rattle.rounds.specs.Reaches.{ReachesBy, calls, passes}
use Rattle.rounds.specs.Rounds.{RowsAfter, Changeless, Rounds, Acyclic}
use Rattle.rounds.specs.Laws.Steps.{Steady}
use Rattle.rounds.proofs.Laws.Steps.{changeless, none_beyond}

module _ (P : Program) (acyclic : Acyclic P) where
  -- a routine that reaches at most k routines, itself among them, is steady after k rounds
  steady_within : (k : ℕ) (rest : List ℕ) → length rest ≤ k → (r : ℕ) → r < length P
      → ((q : ℕ) → q < length P → (q ≡ r) ⊎ ReachesBy P r q → In q rest) → Steady P k r
  steady_within zero [] h r lt all = absurd (all r lt (inl refl))
  steady_within zero (x ∷ rest) h r lt all = absurd (omega arith)
  steady_within (suc k) rest h r lt all = calls_only P (RowsAfter P (suc k)) (RowsAfter P k) r
      (same (steady_within k others))
    where
      here : In r rest
      here = all r lt (inl refl)

      others : List ℕ
      others = out r rest here

      -- what is claimed of the routines that r calls
      Callees : Type 0
      Callees = length others ≤ k → (q : ℕ) → q < length P
          → ((p : ℕ) → p < length P → (p ≡ q) ⊎ ReachesBy P q p → In p others) → Steady P k q

      reach : (q : ℕ) → Calls (body P r) q → (p : ℕ) → (p ≡ q) ⊎ ReachesBy P q p → ReachesBy P r p
      reach q c p (inl e) = rw e (calls c)
      reach q c p (inr w) = passes c w

      callee : Callees → (q : ℕ) → Calls (body P r) q → Dec (q < length P) → Steady P k q
      callee f q c (yes l) = f (let e = out_length r rest here in omega arith) q l (λ p lp w.
          let u = reach q c p w in
          out_in r p rest here (λ e. acyclic r lt (rw e at u)) (all p lp (inr u)))
      callee f q c (no n) = λ a b l w. absurd (none_beyond P (suc k) q a b l (omega arith) w)

      same : Callees → (q a b : ℕ) (l : Label) → Calls (body P r) q
          → RowsAfter P (suc k) q a b l → RowsAfter P k q a b l
      same f q a b l c w = (w.0, callee f q c (dec_lt q (length P)) a b w.0 w.1, w.2, w.3, w.4, w.5)

  all_steady : (r : ℕ) → Steady P (length P) r
  all_steady r = go (dec_lt r (length P))
    where
      go : Dec (r < length P) → Steady P (length P) r
      go (yes l) = steady_within (length P) (up_to (length P)) (let e = up_to_long (length P) in omega arith) r l
          (λ q lq w. in_up_to q (length P) lq)
      go (no n) = λ a b l w. absurd (none_beyond P (suc (length P)) r a b l (omega arith) w)

  -- round n + 1 changes nothing
  pub acyclic_changeless : Changeless P (length P)
  acyclic_changeless = changeless P (length P) all_steady

  -- so there are at most n + 1 rounds
  pub rounds_acyclic : (m : ℕ) → Rounds P m → m ≤ length P + 1
  rounds_acyclic m p =
      let h = p.first (length P) acyclic_changeless in
      let e = p.number in
      omega arith
