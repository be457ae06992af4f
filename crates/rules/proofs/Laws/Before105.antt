-- Request 105 (a mirror is resolved before the nest is asked) against the rules without it, those of request 104. Each
-- pair and ring of the model is one by those rules (`in-before`), so no table that was clear becomes a ring
-- (`clear_stays`, `table_stays`); and a program without MIRROR has the model that it had (`same-before`).
use Rattle.std.specs.Prelude.{◌≡◌, refl, Bool, true, false, cond, List, ℕ}
use Rattle.std.proofs.Common.{inl, inr}
use Rattle.table.specs.Program.{Code, new, lock, fork, choice, call, mirror, Program, body}
use Rattle.table.specs.WellFormed.{WellFormed}
use Rattle.table.specs.Check.{in?, accepted, check_table}
use Rattle.table.proofs.Laws.Accepts.{Bytes, accepted_well_formed}
use Rattle.rules.specs.Label.{Label}
use Rattle.rules.specs.Model.{Place, at_head, naming, nested, under_lock, under_fork, Model}
use Rattle.rules.specs.Verdict.{Clear}
use Rattle.rules.proofs.Laws.Tests.{negated}
use Rattle.rules.proofs.Laws.Nest.{is_in}
use Rattle.rules.specs.Derived.{Pairs, RecordedFrom, RowOf}
use Rattle.rules.proofs.Laws.Least.{model_satisfies}
use Rattle.rules.proofs.Laws.Older.{Test, under_lock_by, RecordedBy, ModelBy, ClearBy, in_older, clear_older}
use Rattle.rules.proofs.Laws.Before104.{Unmirrored, Plain, plain_new}

-- without request 105 a LOCK is passed over where its name, as it is written, is in the nest
abbrev pub written : Test
written = in?

-- each pair of the model is in the least model by the rules without request 105
pub in_before : (P : Program) → WellFormed P → {r a b : ℕ} {l : Label} → Model P r a b l → ModelBy written P r a b l
in_before P wf = in_older written (λ x n. (is_in x n).fact) P wf

-- no table that was clear becomes a ring
pub clear_stays : (P : Program) → WellFormed P → ClearBy written P → Clear P
clear_stays = clear_older written (λ x n. (is_in x n).fact)

-- of tables: one that is accepted and was clear is clear
pub table_stays : (s : List ℕ) (P : Program) → Bytes s → check_table s ≡ accepted P → ClearBy written P → Clear P
table_stays s P bytes e = clear_stays P (accepted_well_formed s P bytes e)

-- a code without MIRROR records by today's rules what it records without request 105: a name is its own root
module _ (R : Pairs) (a b : ℕ) (l : Label) where
  -- inside LOCK x, where x is taken again and where it is taken for the first time
  in_block :
      (c : Code) (x : ℕ) (w : Place) → w.roots x ≡ x
      → (RecordedBy written R c w a b l → RecordedFrom R c w a b l)
      → (RecordedBy written R c (nested x w) a b l → RecordedFrom R c (nested x w) a b l)
      → RecordedBy written R c (under_lock_by written x w) a b l → RecordedFrom R c (under_lock (w.roots x) w) a b l
  in_block c x w e again first = rw e (go (in? x w.nest))
    where
      go : (t : Bool) → RecordedBy written R c (cond t w (nested x w)) a b l
          → RecordedFrom R c (cond t w (nested x w)) a b l
      go true = again
      go false = first

  before_recorded :
      (c : Code) (w : Place) → Unmirrored c → Plain w.roots → RecordedBy written R c w a b l
      → RecordedFrom R c w a b l
  before_recorded (mirror _ _ _) w u p q = elim u [ ]
  before_recorded Rattle.table.specs.Program.end w u p q = elim q [ ]
  before_recorded (new x c) w u p q = before_recorded c (naming x x w) u (plain_new x w.roots p) q
  before_recorded (lock x c d) w u p (inl q) =
      inl (rw (p x) ((negated (is_in x w.nest)).fact q.0), q.1, q.2, q.3)
  before_recorded (lock x c d) w u p (inr (inl q)) =
      inr (inl (in_block c x w (p x) (before_recorded c w u.0 p) (before_recorded c (nested x w) u.0 p) q))
  before_recorded (lock x c d) w u p (inr (inr q)) = inr (inr (before_recorded d w u.1 p q))
  before_recorded (fork i c d) w u p (inl q) = inl (before_recorded c (under_fork i w) u.0 p q)
  before_recorded (fork i c d) w u p (inr q) = inr (before_recorded d w u.1 p q)
  before_recorded (choice s t c) w u p (inl q) = inl (before_recorded s w u.0 p q)
  before_recorded (choice s t c) w u p (inr (inl q)) = inr (inl (before_recorded t w u.1 p q))
  before_recorded (choice s t c) w u p (inr (inr q)) = inr (inr (before_recorded c w u.2 p q))
  before_recorded (call r xs c) w u p (inl q) = inl q
  before_recorded (call r xs c) w u p (inr q) = inr (before_recorded c w u p q)

-- a program without MIRROR has each pair that it had: with `in-before`, its model is what it was
pub same_before :
    (P : Program) → ((r : ℕ) → Unmirrored (body P r))
    → {r a b : ℕ} {l : Label} → ModelBy written P r a b l → Model P r a b l
same_before P u m = m (Model P) (record {
  records = λ r a b l q k.
      let rows = RowOf P (Model P) in
      (model_satisfies P).records r a b l (before_recorded rows a b l (body P r) at_head (u r) (λ y. refl) q) k;
  follows = (model_satisfies P).follows;
})
