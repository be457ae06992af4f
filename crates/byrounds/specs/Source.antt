-- What the functions are given and leave: what is said of sections, offsets and masks, of a source.
use Rattle.std.specs.Prelude.{Bool, true, false, List, ℕ, Option, MatchOption}
use Rattle.settle.specs.declared.source.Source.{Source}
use Rattle.byrounds.specs.Round.{RoundReady, Rounded, AllZero, CanBegin, RoundsDone}

-- a round can begin
abbrev pub RoundReadyIn : Source → ℕ → List ℕ → List ℕ → List (Option ℕ) → Type 0
RoundReadyIn t due old model names =
    RoundReady t.sections.counts.now t.sections.bodies.now t.starts.now due old model names

-- a round was done: whether it changed anything, and which routines have a cell that it changed
abbrev pub RoundDoneIn : Source → ℕ → List ℕ → List ℕ → List ℕ → List (Option ℕ) → List (Option ℕ) → Bool → ℕ → Type 0
RoundDoneIn t due old before after names names' changed moved =
    Rounded t.sections.counts.now t.sections.bodies.now t.starts.now due old before after names names' changed moved

-- a round was done: which routines have a cell that it changed, or that it changed nothing
abbrev pub RoundedIn : Source → ℕ → List ℕ → List ℕ → List ℕ → List (Option ℕ) → List (Option ℕ) → Option ℕ → Type 0
RoundedIn t due old before after names names' moved =
    MatchOption moved ((m : ℕ) × RoundDoneIn t due old before after names names' false m)
    (λ m. RoundDoneIn t due old before after names names' true m)

-- all rows and ring names are those before the first round
abbrev pub AllZeroIn : Source → List ℕ → List ℕ → List (Option ℕ) → Type 0
AllZeroIn t old model names =
    AllZero t.sections.counts.now t.sections.bodies.now t.starts.now t.callers.now old model names

-- the rows can be worked out, and no ring name is known
abbrev pub CanBeginIn : Source → List ℕ → List (Option ℕ) → Type 0
CanBeginIn t model names =
    CanBegin t.sections.counts.now t.sections.bodies.now t.starts.now t.callers.now model names

-- the rounds were done: the rows are the model's, the list has the ring names, and m is the number of rounds
abbrev pub RoundsDoneIn : Source → List ℕ → List ℕ → List (Option ℕ) → ℕ → Type 0
RoundsDoneIn t before after names m =
    RoundsDone t.sections.counts.now t.sections.bodies.now t.starts.now t.callers.now before after names m
