-- Request 101 (the nest) against the rules without it. Each pair and ring of the model is one by those rules
-- (`in-before`), so no table that was clear becomes a ring (`clear_stays`, `table_stays`); and where no LOCK is on a
-- name whose root is in its nest each of theirs is one of the model (`same-before`).
use Rattle.std.specs.Prelude.{◌≡◌, false, List, [], ◌∷◌, ℕ}
use Rattle.std.proofs.Common.{inl, inr}
use Rattle.table.specs.Program.{Code, end, new, lock, fork, choice, call, mirror, Program, body}
use Rattle.table.specs.WellFormed.{In, WellFormed}
use Rattle.table.specs.Check.{accepted, check_table}
use Rattle.table.proofs.Laws.Accepts.{Bytes, accepted_well_formed}
use Rattle.rules.specs.Label.{Label}
use Rattle.rules.specs.Model.{Place, at_head, naming, nested, under_fork, Model}
use Rattle.rules.specs.Verdict.{Clear}
use Rattle.rules.proofs.Laws.Nest.{by_nest}
use Rattle.rules.specs.Derived.{Pairs, RecordedFrom, RowOf}
use Rattle.rules.proofs.Laws.Least.{model_satisfies}
use Rattle.rules.proofs.Laws.Older.{Test, RecordedBy, ModelBy, ClearBy, older_place, in_older, clear_older}

-- without request 101 no LOCK is passed over
abbrev pub never : Test
never x n = false

-- each pair of the model is in the least model by the rules without request 101
pub in_before : (P : Program) → WellFormed P → {r a b : ℕ} {l : Label} → Model P r a b l → ModelBy never P r a b l
in_before P wf = in_older never (λ x n t. absurd t) P wf

-- no table that was clear becomes a ring
pub clear_stays : (P : Program) → WellFormed P → ClearBy never P → Clear P
clear_stays = clear_older never (λ x n t. absurd t)

-- of tables: one that is accepted and was clear is clear
pub table_stays : (s : List ℕ) (P : Program) → Bytes s → check_table s ≡ accepted P → ClearBy never P → Clear P
table_stays s P bytes e = clear_stays P (accepted_well_formed s P bytes e)

-- no LOCK of the code, at the place, is on a name whose root its nest has
abbrev pub FirstTakings : Code → Place → Type 0
FirstTakings end w = Unit {0}
FirstTakings (new x c) w = FirstTakings c (naming x x w)
FirstTakings (lock x c d) w =
    (¬ In (w.roots x) w.nest) × FirstTakings c (nested (w.roots x) w) × FirstTakings d w
FirstTakings (fork i c d) w = FirstTakings c (under_fork i w) × FirstTakings d w
FirstTakings (choice u v c) w = FirstTakings u w × FirstTakings v w × FirstTakings c w
FirstTakings (call r xs c) w = FirstTakings c w
FirstTakings (mirror x y c) w = FirstTakings c (naming x (w.roots y) w)

-- such a code records by today's rules what it records without request 101, whatever nest n those have
module _ (R : Pairs) (a b : ℕ) (l : Label) where
  before_recorded :
      (c : Code) (w : Place) (n : List ℕ) → FirstTakings c w → RecordedBy never R c (older_place w w.holder n) a b l
      → RecordedFrom R c w a b l
  before_recorded end w n f q = elim q [ ]
  before_recorded (new x c) w n f q = before_recorded c (naming x x w) n f q
  before_recorded (lock x c d) w n f (inl q) = inl (f.0, q.1, q.2, q.3)
  before_recorded (lock x c d) w n f (inr (inl q)) =
      inr (inl (by_nest (λ v. RecordedFrom R c v a b l) (w.roots x) w (λ i. absurd (f.0 i))
      (λ out. before_recorded c (nested (w.roots x) w) (x ∷ n) f.1 q)))
  before_recorded (lock x c d) w n f (inr (inr q)) = inr (inr (before_recorded d w n f.2 q))
  before_recorded (fork i c d) w n f (inl q) = inl (before_recorded c (under_fork i w) [] f.0 q)
  before_recorded (fork i c d) w n f (inr q) = inr (before_recorded d w n f.1 q)
  before_recorded (choice u v c) w n f (inl q) = inl (before_recorded u w n f.0 q)
  before_recorded (choice u v c) w n f (inr (inl q)) = inr (inl (before_recorded v w n f.1 q))
  before_recorded (choice u v c) w n f (inr (inr q)) = inr (inr (before_recorded c w n f.2 q))
  before_recorded (call r xs c) w n f (inl q) = inl q
  before_recorded (call r xs c) w n f (inr q) = inr (before_recorded c w n f q)
  before_recorded (mirror x y c) w n f q = before_recorded c (naming x (w.roots y) w) n f q

-- a program without such a LOCK has each pair that it had: with `in-before`, its model is what it was
pub same_before :
    (P : Program) → ((r : ℕ) → FirstTakings (body P r) at_head)
    → {r a b : ℕ} {l : Label} → ModelBy never P r a b l → Model P r a b l
same_before P f m = m (Model P) (record {
  records = λ r a b l q k.
      (model_satisfies P).records r a b l (before_recorded (RowOf P (Model P)) a b l (body P r) at_head [] (f r) q) k;
  follows = (model_satisfies P).follows;
})
