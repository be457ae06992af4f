-- Table b under a schedule that sticks it, with its circle, and under one that ends it; and g, which never sticks.
use Rattle.std.specs.Prelude.{◌≡◌, refl, Bool, true, ◌&&◌, ◌≢◌, List, [], ◌∷◌, ◌++◌, ℕ, zero, suc, ◌<◌, T, ltb, get_or, replicate}
use Rattle.std.proofs.Common.{sym, ap, subst, inl, inr, arith, ltb-true}
use Rattle.table.specs.Program.{Program}
use Rattle.table.specs.Check.{Outcome, refused, accepted, check_table, block_by, block}
use Rattle.std.proofs.Math.Decide.{ℕ_discrete}
use Rattle.run.specs.Decide.{elsewhere?, some?, in?}
use Rattle.run.specs.Run.{step, taken?, wants, Circle}
use Rattle.schedule.specs.Schedule.{all_ended, stuck, beyond?, run_from, runs}
use Rattle.schedule.proofs.Laws.Stuck.{never_stuck}
use Rattle.table.proofs.Laws.Accepts.{Bytes, accepted_well_formed}
use Rattle.analysis.specs.declared.Verdict.TheVariants.{Clear}
use Rattle.worked.specs.Cases.{table_b, table_g, Case, Holds, cases}
use Rattle.worked.proofs.Laws.Proved.{every_case}
use Rattle.schedule.proofs.Laws.Courses.{course_of}

-- the program of a table that is accepted
abbrev pub program_of : Outcome → Program
program_of (accepted P) = P
program_of (refused e) = []

-- the schedule that sticks table b
abbrev sticking : List ℕ
sticking = 0 ∷ 0 ∷ 0 ∷ 0 ∷ 1 ∷ 0 ∷ 1 ∷ []

-- table b, from its bytes: it sticks after five of them, each thread with a lock; and under another schedule it ends
pub b_sticks : course_of (runs (program_of (check_table table_b)) 3 sticking)
    ≡ record { why = stuck; read = 5; made = 2; holding = (1 ∷ []) ∷ (0 ∷ []) ∷ [] }
unfolding block_by block step taken? elsewhere? some? in? beyond? run_from ℕ_discrete
b_sticks = refl

pub b_ends : course_of (runs (program_of (check_table table_b)) 2 (replicate 8 0 ++ replicate 7 1))
    ≡ record { why = all_ended; read = 13; made = 2; holding = [] ∷ [] ∷ [] }
unfolding block_by block step taken? elsewhere? some? in? beyond? run_from ℕ_discrete
b_ends = refl

-- there the main thread waits for the fork's lock, and the fork for the main thread's
pub b_circle : Circle (runs (program_of (check_table table_b)) 3 sticking).state
unfolding block_by block step taken? elsewhere? some? in? beyond? run_from ℕ_discrete
b_circle = record {
  one = 0;
  two = 1;
  more = [];
  different = ((λ h. elim h [ inl e ↦ omega (arith, e) | inr e ↦ e ]), ((λ h. h), tt));
  waits = ((0, wants refl, (λ e. omega (arith, e)), inl refl), (1, wants refl, (λ e. omega (arith, e)), inl refl));
}

-- whether all numbers of the list are bytes
abbrev low? : List ℕ → Bool
low? [] = true
low? (b ∷ s) = ltb b 256 && low? s

low_bytes : (s : List ℕ) → T (low? s) → Bytes s
low_bytes [] t i = omega arith
low_bytes (b ∷ s) t i = by (ltb b 256) refl t i (λ t i. low_bytes s t i)
  where
    by : (q : Bool) → ltb b 256 ≡ q → T (q && low? s) → (i : ℕ) → (T (low? s) → Bytes s) → get_or (b ∷ s) i 0 < 256
    by mathlib.Core.Bool.false e t _ again = elim t [ ]
    by true e t zero again = ltb-true b 256 e
    by true e t (suc i) again = again t i

-- the entry of g among the worked tables
abbrev case_g : Case
case_g = get_or cases 6 (record {
  table = [];
  verdict = Clear;
  share = record { percent = 0; remainder = 0; reached = 0 };
  cells = [];
  rings = [];
})

-- g is never stuck, under any schedule and with any number of records
pub g_never_stuck : (lent : ℕ) (bs : List ℕ) → (runs (program_of (check_table table_g)) lent bs).why ≢ stuck
g_never_stuck lent bs =
    let h : Holds case_g = every_case case_g (inr (inr (inr (inr (inr (inr (inl refl))))))) in
    let e : program_of (check_table table_g) ≡ h.program = ap program_of h.accepts in
    subst (λ (P : Program). (runs P lent bs).why ≢ stuck) (sym e)
    (never_stuck h.program (accepted_well_formed table_g h.program (low_bytes table_g tt) h.accepts) h.says
    lent bs)
