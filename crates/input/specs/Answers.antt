-- What is said of an answer to standard input.
use Rattle.std.specs.Prelude.{ℕ, Result, Ok, Err, List, ⊤, take, codes}
use Rattle.std.specs.declared.io.Error.{Error}
use Rattle.input.specs.Counts.{IsPrefixLen}
use Rattle.input.specs.declared.Unanswered.{Unanswered}
use Rattle.input.specs.declared.Unanswered.TheVariants.{Unread, Unwritten}

-- what is printed of what went wrong
abbrev pub words : Unanswered → List ℕ
words Unread = codes "standard input cannot be read"
words Unwritten = codes "standard output cannot be written"

module _ (Gives : List ℕ → Result ⊤ Error → Type 0) (xs : List ℕ) where
  -- what was read stands first in the buffer xs, and the call on it gave r
  abbrev pub Gave : Result ⊤ Error → Type 0
  Gave r = (n : ℕ) × IsPrefixLen n xs × Gives (take n xs) r

  -- the call gave an answer, or the error that kept it from being written; there was none where nothing can be read
  abbrev pub Answers : Result ⊤ Unanswered → Type 0
  Answers (Ok _) = Gave (Ok tt)
  Answers (Err Unread) = ⊤
  Answers (Err Unwritten) = (e : Error) × Gave (Err e)
