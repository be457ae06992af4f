-- The numbers of refusals.
use Rattle.std.specs.Prelude.{List, [], ◌∷◌, ℕ, get_or}
use Rattle.table.specs.declared.refusal.Refusal.{Refusal}
use Rattle.table.specs.declared.refusal.Refusal.TheVariants.{NoBytes, RoutineCount, ShortHead, ParamCount, LongBodies}
use Rattle.table.specs.declared.refusal.Refusal.TheVariants.{BodiesLength, CutBody, UnknownCode, Misplaced, TooDeep}
use Rattle.table.specs.declared.refusal.Refusal.TheVariants.{TooMany, UnknownRoutine, UnknownName, LeftOver, ShortModel}
use Rattle.table.specs.declared.refusal.Refusal.TheVariants.{OtherTable, BadModel, ShortOutput}

-- the number of a refusal, as the papers give it; 16 and 17 are no refusals of a table
abbrev pub refusal_number : Refusal → ℕ
refusal_number NoBytes = 1
refusal_number RoutineCount = 2
refusal_number ShortHead = 3
refusal_number ParamCount = 4
refusal_number LongBodies = 5
refusal_number BodiesLength = 6
refusal_number CutBody = 7
refusal_number UnknownCode = 8
refusal_number Misplaced = 9
refusal_number TooDeep = 10
refusal_number TooMany = 11
refusal_number UnknownRoutine = 12
refusal_number UnknownName = 13
refusal_number LeftOver = 14
refusal_number ShortModel = 15
refusal_number OtherTable = 18
refusal_number BadModel = 19
refusal_number ShortOutput = 20

-- the refusals in the order of their numbers, from 1 on; those of 16 and 17 stand for none
abbrev pub refusals : List Refusal
refusals =
    NoBytes ∷ RoutineCount ∷ ShortHead ∷ ParamCount ∷ LongBodies ∷ BodiesLength ∷ CutBody ∷ UnknownCode ∷ Misplaced
    ∷ TooDeep ∷ TooMany ∷ UnknownRoutine ∷ UnknownName ∷ LeftOver ∷ ShortModel ∷ ShortOutput ∷ ShortOutput
    ∷ OtherTable ∷ BadModel ∷ ShortOutput ∷ []

-- the refusal with a number (law number_of_refusal)
abbrev pub refusal_of : ℕ → Refusal
refusal_of e = get_or (NoBytes ∷ refusals) e ShortOutput
