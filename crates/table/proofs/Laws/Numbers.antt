-- A refusal and its number tell each other.
use Rattle.std.specs.Prelude.{◌≡◌, refl, List, [], ◌∷◌, ℕ, zero, suc, ◌+◌, ◌≤◌, ◌<◌, length, get_or}
use Rattle.std.proofs.Common.{◌∙◌, arith}
use Rattle.table.specs.declared.refusal.Refusal.{Refusal}
use Rattle.table.specs.declared.refusal.Refusal.TheVariants.{NoBytes, RoutineCount, ShortHead, ParamCount, LongBodies}
use Rattle.table.specs.declared.refusal.Refusal.TheVariants.{BodiesLength, CutBody, UnknownCode, Misplaced, TooDeep}
use Rattle.table.specs.declared.refusal.Refusal.TheVariants.{TooMany, UnknownRoutine, UnknownName, LeftOver, ShortModel}
use Rattle.table.specs.declared.refusal.Refusal.TheVariants.{OtherTable, BadModel, ShortOutput}
use Rattle.table.specs.Refusal.{refusal_number, refusal_of, refusals}

-- the first n refusals of the list have the numbers from k on
abbrev From : ℕ → ℕ → List Refusal → Type 0
From zero k rs = Unit {0}
From (suc n) k [] = Unit {0}
From (suc n) k (r ∷ rs) = (refusal_number r ≡ k) × From n (k + 1) rs

from_at : (n k i : ℕ) (rs : List Refusal) (d : Refusal) → From n k rs → i < n → i < length rs
    → refusal_number (get_or rs i d) ≡ k + i
from_at zero k i rs d h l l' = absurd (omega arith)
from_at (suc n) k i [] d h l l' = absurd (omega arith)
from_at (suc n) k zero (r ∷ rs) d h l l' = omega (arith, h.0)
from_at (suc n) k (suc i) (r ∷ rs) d h l l' =
    let e = from_at n (k + 1) i rs d h.1 (omega arith) (omega arith) in omega arith

first : From 15 1 refusals
first = (refl, (refl, (refl, (refl, (refl, (refl, (refl, (refl, (refl, (refl, (refl, (refl, (refl, (refl, (refl, tt)))))))))))))))

-- the refusal with a number from 1 to 15 has that number
pub number_of_refusal : (e : ℕ) → 1 ≤ e → e ≤ 15 → refusal_number (refusal_of e) ≡ e
number_of_refusal zero h l = absurd (omega arith)
number_of_refusal (suc i) h l =
    let e = from_at 15 1 i refusals ShortOutput first (omega arith) (omega arith) in e ∙ omega arith

-- the numbers tell the refusals apart
pub refusal_of_number : (r : Refusal) → refusal_of (refusal_number r) ≡ r
refusal_of_number NoBytes = refl
refusal_of_number RoutineCount = refl
refusal_of_number ShortHead = refl
refusal_of_number ParamCount = refl
refusal_of_number LongBodies = refl
refusal_of_number BodiesLength = refl
refusal_of_number CutBody = refl
refusal_of_number UnknownCode = refl
refusal_of_number Misplaced = refl
refusal_of_number TooDeep = refl
refusal_of_number TooMany = refl
refusal_of_number UnknownRoutine = refl
refusal_of_number UnknownName = refl
refusal_of_number LeftOver = refl
refusal_of_number ShortModel = refl
refusal_of_number OtherTable = refl
refusal_of_number BadModel = refl
refusal_of_number ShortOutput = refl
