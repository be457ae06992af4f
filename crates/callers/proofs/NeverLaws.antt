-- What the analysis calls clear is never answered stuck: by the promises of `analyse` and of `run_fresh` alone.
use mathlib.Core.Path.{◌≡◌, refl, sym, ◌∙◌, ap}
use mathlib.Core.Logic.{◌≢◌}
use mathlib.Core.Bool.{true, false}
use mathlib.Core.List.{List}
use Prim.Native.Nat.{ℕ, ◌*◌, ◌<◌}
use native.Mathlib.Omega.{arith}
use native.Mathlib.Decide.{dec_lt}
use lib.ListN.{length, replicate, take}
use Rattle.table.specs.Constants.{row_bytes}
use Rattle.table.specs.Program.{Program}
use Rattle.table.specs.Check.{Outcome, refused, accepted, check_table}
use Rattle.rules.specs.Verdict.{Clear}
use Rattle.table.specs.declared.refusal.Refusal.{Refusal}
use Rattle.analysis.specs.declared.Verdict.{Verdict}
use Rattle.analysis.specs.declared.Verdict.TheVariants as verdict
use Rattle.analysis.specs.Answer.{Answer, Says, Analysed}
use Rattle.runner.specs.declared.Desk.{Desk}
use Rattle.runner.specs.declared.Extent.{Extent}
use Rattle.std.specs.Prelude.{Ok, Err}
use Rattle.steps.specs.declared.machine.Ending.{Ending}
use Rattle.steps.specs.declared.machine.Ending.TheVariants.{Ended, Stuck, Open, Unstarted, Beyond}
use Rattle.runner.specs.Answer.{Ran, Runs}
use Rattle.runner.specs.Desk.{fresh, lent_of, RunsFresh}
use Rattle.callers.specs.Calls.{clear_verdict?, clear?, ends_stuck?, stuck?}

-- an answer that is stuck for no extent is not stuck
no_stuck : (r : Ran) → ((x : Extent) → r ≢ Ok (record { ending = Stuck; extent = x })) → stuck? r ≡ false
no_stuck (Err e) n = refl
no_stuck (Ok x) n = by x.ending refl
  where
    by : (w : Ending) → x.ending ≡ w → ends_stuck? x.ending ≡ false
    by Ended e = ap ends_stuck? e
    by Stuck e = absurd (n x.extent (ap (λ (v : Ending). answer v) e))
      where
        answer : Ending → Ran
        answer v = Ok (record { ending = v; extent = x.extent })
    by Open e = ap ends_stuck? e
    by Unstarted e = ap ends_stuck? e
    by Beyond e = ap ends_stuck? e

-- a verdict that says clear
says_clear : (P : Program) (v : Verdict) → clear_verdict? v ≡ true → Says P v → Clear P
says_clear P verdict.Clear e c = c
says_clear P (verdict.Ring r) e c = let z : ◌≡◌ {A = ℕ} 0 1 = cc in absurd (omega arith)

module _ (table before after bs : List ℕ) (n : ℕ) (a : Answer) (d : Desk) (p : Analysed table before after a)
    (q : RunsFresh (check_table table) bs n d) (e : clear? a ≡ true) where
  -- the run is not stuck: where the table is refused, or its buffer too short, the answer is not clear
  pub never_both : stuck? d.ran ≡ false
  never_both = by (check_table table) refl q.ran
    where
      refusal : (y : Refusal) → a ≡ Err y → stuck? d.ran ≡ false
      refusal y h = let z : true ≡ false = sym e ∙ ap clear? h in let w : ◌≡◌ {A = ℕ} 0 1 = cc in absurd (omega arith)

      by : (o : Outcome) → check_table table ≡ o
          → Runs o bs (replicate (lent_of n) fresh) (take (lent_of n) d.records) d.ran
          → stuck? d.ran ≡ false
      by (refused y) h r = refusal _ (p.refused_table y h).0
      by (accepted P) h r = fits (dec_lt (length before) (row_bytes * length P))
        where
          fits : Dec (length before < row_bytes * length P) → stuck? d.ran ≡ false
          fits (yes l) = refusal _ (p.refused_buffer P h l).0
          fits (no m) =
              let j = p.judged P h (omega (arith, m)) in
              let c = says_clear P j.0.verdict (sym (ap clear? j.1) ∙ e) j.2.says in
              no_stuck d.ran (r.not_stuck c)
