-- The callers of each routine: none where none is known yet, and those of a program that was surveyed.
use Rattle.std.specs.Prelude.{◌≡◌, refl, List, ℕ, zero, suc, ◌<◌, length, get_or, replicate}
use Rattle.std.proofs.Common.{arith}
use Rattle.table.specs.Program.{Program}
use Rattle.settle.specs.Due.{Below, Callers}
use Rattle.settle.specs.Bodies.{Known, Linked}

-- no caller is known
pub no_callers : Below (replicate 64 0) 0
no_callers = (refl, λ q. let e = none 64 q in omega arith)
  where
    none : (n q : ℕ) → get_or {A = ℕ} (replicate n 0) q 0 ≡ 0
    none zero q = refl
    none (suc n) zero = refl
    none (suc n) (suc q) = none n q

module _ (ks s starts calls callers : List ℕ) (turned : Callers calls callers) where
  pub linked : (P : Program) → Known P ks s starts calls → Linked P ks s starts callers
  linked P known =
      let e = known.surveyed.calls_long in
      record {
        holds = known.holds;
        start = known.surveyed.start;
        starts_long = known.surveyed.starts_long;
        callers_of = λ r q l w. turned.told q r (omega arith, known.surveyed.calls_from q r l w);
        callers_only = λ r q h.
            let w = turned.only q r h in
            let l : q < length calls = w.0 in
            let l' : q < length P = omega arith in
            (l', known.surveyed.calls_to q r l' w.1);
        callers_below = rw e at turned.below;
      }
