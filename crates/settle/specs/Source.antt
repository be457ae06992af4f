-- What the functions of `source.rt` are given and leave: what is said of sections, offsets and masks, of a source.
use Rattle.std.specs.Prelude.{Bool, List, ℕ, ◌<◌, length, get_or, Option}
use Rattle.table.specs.Program.{Program}
use Rattle.settle.specs.declared.source.Source.{Source}
use Rattle.settle.specs.Bodies.{BodyReady, Works, RowReady, Improves, Linked, Started, Settles}

-- the offset at which the source has the body of routine r
abbrev pub at_in : Source → ℕ → ℕ
at_in t r = get_or t.starts.now r 0

-- the body of routine r is where the source says, and the buffer has all rows
abbrev pub BodyReadyIn : Source → ℕ → List ℕ → Type 0
BodyReadyIn t r rows =
    (r < length t.starts.now) × BodyReady t.sections.counts.now t.sections.bodies.now (at_in t r) r rows

-- the grid has what is worked out in the body of routine r
abbrev pub WorksIn : Source → ℕ → List ℕ → List (List ℕ) → Type 0
WorksIn t r rows g = Works t.sections.counts.now t.sections.bodies.now (at_in t r) r rows g

-- the body of routine r is where the source says, and its row is there and has labels alone
abbrev pub RowReadyIn : Source → ℕ → List ℕ → Type 0
RowReadyIn t r model = RowReady t.sections.counts.now t.sections.bodies.now (at_in t r) r model model

-- the row of routine r was worked out again from the rows, and name is its ring name
abbrev pub ImprovesIn : Source → ℕ → List ℕ → List ℕ → List ℕ → Bool → Bool → Option ℕ → Type 0
ImprovesIn t r rows before after cells last name =
    Improves t.sections.counts.now t.sections.bodies.now (at_in t r) r rows before after cells last name

-- the source is that of P
abbrev pub Of : Program → Source → Type 0
Of P t = Linked P t.sections.counts.now t.sections.bodies.now t.starts.now t.callers.now

-- the rows of the mask are on their way, and all of them are due
abbrev pub StartedIn : Source → ℕ → List ℕ → Type 0
StartedIn t mask model =
    Started t.sections.counts.now t.sections.bodies.now t.starts.now t.callers.now mask model

-- where the rows of the mask were due, none is, and the ring names are those of the list
abbrev pub SettlesIn : Source → ℕ → List ℕ → List ℕ → List (Option ℕ) → Type 0
SettlesIn t mask from to names =
    Settles t.sections.counts.now t.sections.bodies.now t.starts.now t.callers.now mask from to names
