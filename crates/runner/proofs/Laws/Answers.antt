-- Each way to stop has its answer, and no refusal has the number of one.
use Rattle.std.specs.Prelude.{◌≡◌, ◌≢◌, refl, Bool, true, false, ◌||◌, ℕ, ◌≤◌, eqb, ltb, Ok, Err}
use Rattle.std.proofs.Common.{sym, ◌∙◌, ap, arith}
use Rattle.table.specs.Refusal.{refusal_number, refusal_of}
use Rattle.table.specs.declared.refusal.Refusal.{Refusal}
use Rattle.table.specs.declared.refusal.Refusal.TheVariants.{NoBytes, RoutineCount, ShortHead, ParamCount, LongBodies}
use Rattle.table.specs.declared.refusal.Refusal.TheVariants.{BodiesLength, CutBody, UnknownCode, Misplaced, TooDeep}
use Rattle.table.specs.declared.refusal.Refusal.TheVariants.{TooMany, UnknownRoutine, UnknownName, LeftOver, ShortModel}
use Rattle.table.specs.declared.refusal.Refusal.TheVariants.{OtherTable, BadModel, ShortOutput}
use Rattle.table.proofs.Laws.Numbers.{number_of_refusal}
use Rattle.schedule.specs.Schedule.{End}
use Rattle.steps.specs.declared.machine.Ending.{Ending}
use Rattle.steps.specs.declared.machine.Ending.TheVariants.{Ended, Stuck, Open, Unstarted, Beyond}
use Rattle.runner.specs.declared.Extent.{Extent}
use Rattle.runner.specs.declared.Stop.{Stop}
use Rattle.runner.specs.Answer.{ran_as, ran_number, ending_of, ending_number}

-- the answer for the ending of why a run stopped
pub answer_is : (w : End) (e : Ending) (x : Extent) → e ≡ ending_of w → ran_as w x ≡ Ok (record { ending = e; extent = x })
answer_is w e x h = rw h refl

-- a number that a run which stopped may have
stops? : ℕ → Bool
stops? n = eqb n 0 || eqb n 16 || eqb n 17 || ltb 20 n

stopped : (v : Ending) → stops? (ending_number v) ≡ true
unfolding stops?
stopped Ended = refl
stopped Stuck = refl
stopped Open = refl
stopped Unstarted = refl
stopped Beyond = refl

apart : (r : Refusal) → stops? (refusal_number r) ≡ false
unfolding stops?
apart NoBytes = refl
apart RoutineCount = refl
apart ShortHead = refl
apart ParamCount = refl
apart LongBodies = refl
apart BodiesLength = refl
apart CutBody = refl
apart UnknownCode = refl
apart Misplaced = refl
apart TooDeep = refl
apart TooMany = refl
apart UnknownRoutine = refl
apart UnknownName = refl
apart LeftOver = refl
apart ShortModel = refl
apart OtherTable = refl
apart BadModel = refl
apart ShortOutput = refl

-- no refusal has the number of a run that stopped
pub answer_other : (r : Refusal) (x : Stop) → ran_number (Err r) ≢ ran_number (Ok x)
answer_other r x q =
    absurd (let z : ◌≡◌ {A = Bool} false true = sym (apart r) ∙ ap stops? q ∙ stopped x.ending in cc)

-- so for the refusals of the check, which have their own numbers
pub answer_low : (e : ℕ) (x : Stop) → 1 ≤ e → e ≤ 14
    → (ran_number (Err (refusal_of e)) ≡ e) × (ran_number (Ok x) ≢ e)
answer_low e x l h =
    let n : refusal_number (refusal_of e) ≡ e = number_of_refusal e l (omega (arith, h)) in
    (n, λ q. answer_other (refusal_of e) x (n ∙ sym q))
