-- What the functions that write the counts, the bodies and the whole table need and leave.
use Rattle.std.specs.Prelude.{Option, List, [], ◌∷◌, ◌++◌, map, ℕ, ◌≤◌, ◌<◌, length, get_or, Result}
use Rattle.table.specs.Constants.{most_routines, END}
use Rattle.table.specs.Program.{Program, params, body}
use Rattle.table.specs.WellFormed.{In}
use Rattle.table.specs.Laws.Sections.{Holds}
use Rattle.table.specs.declared.refusal.Refusal.{Refusal}
use Rattle.append.specs.Puts.{Puts}
use Rattle.append.specs.declared.text.Text.{Text}
use Rattle.canon.specs.Canonical.{canonical_table}
use Rattle.order.specs.Items.{items_of}
use Rattle.order.specs.Ordering.{list_of, Ordered}
use Rattle.order.specs.Standing.{HoldsAt, HeldAt}
use Rattle.order.specs.declared.Order.{Order}
use Rattle.rewrite.specs.Writing.{written_all, at_start}
use Rattle.writer.specs.Answer.{WritesOf}

-- the bodies of the routines, rewritten one after the other
abbrev pub texts : List (Option ℕ) → Program → List ℕ → List ℕ
texts ps P [] = []
texts ps P (r ∷ rs) = written_all ps (at_start (params P r)) (items_of END (body P r)) ++ texts ps P rs

-- the parameter counts of the routines
abbrev pub counts_of : List ℕ → List ℕ → List ℕ
counts_of ks routines = map (λ r. get_or ks r 0) routines

-- the routines have parameter counts, and there is room for them
pub record CanCount (ks routines : List ℕ) (p : ℕ) : Type 0 where
  pub below : (r : ℕ) → In r routines → r < length ks
  pub few : length routines ≤ most_routines
  pub place : p < 1000

-- the sections hold a program whose bodies start there, and the order is that of this program
pub record Ready (ks s starts : List ℕ) (o : Order) : Type 0 where
  pub held : HeldAt ks s starts
  pub ordered : Ordered ks s starts o

-- the bodies of the routines met were written at the end of the text a
abbrev pub BodiesWritten : List ℕ → List ℕ → List ℕ → Order → Text → Text → Type 0
BodiesWritten ks s starts o a b =
    (P : Program) → HoldsAt P ks s starts → Puts (texts o.places P (list_of o)) a b

-- the canonical table was written at the end of the text a
abbrev pub TableWritten : List ℕ → List ℕ → List ℕ → Text → Text → Type 0
TableWritten ks s starts a b =
    (P : Program) → HoldsAt P ks s starts → Puts (canonical_table P) a b

-- the answer and the buffer for the program that the sections hold
abbrev pub WritesAt : List ℕ → List ℕ → List ℕ → List ℕ → List ℕ → Result ℕ Refusal → Type 0
WritesAt ks s starts before after answer = (P : Program) → HoldsAt P ks s starts → WritesOf P before after answer

abbrev pub WritesHeld : List ℕ → List ℕ → List ℕ → List ℕ → Result ℕ Refusal → Type 0
WritesHeld ks s before after answer = (P : Program) → Holds P ks s → WritesOf P before after answer
