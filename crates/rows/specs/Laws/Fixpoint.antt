-- The least model as a fixpoint over rows: rows that are sound stay sound when a routine's row is worked out anew, and
-- sound rows in which each routine is up to date are the model's rows.
use Rattle.std.specs.Prelude.{refl, ◌≢◌, ℕ, ◌<◌, ◌≤◌, length}
use Rattle.std.proofs.Common.{inl, inr, arith}
use Rattle.std.proofs.Math.Decide.{dec_lt}
use Rattle.table.proofs.Laws.Lists.{body_listed}
use Rattle.table.specs.Program.{Code, end, new, lock, fork, choice, call, mirror, Program}
use Rattle.table.specs.Program.{params, body}
use Rattle.rules.specs.Label.{Label, several, combine, cut}
use Rattle.rules.specs.Model.{Kept, Place, at_head, naming, under_lock, under_fork, Model, Row, Ring}
use Rattle.rules.specs.Verdict.{Calls}
use Rattle.rules.specs.Derived.{Pairs, RecordedFrom, RowOf, Closed, given, follows, KeptFrom, Derived}
use Rattle.rules.proofs.Laws.Satisfies.{Satisfies}
use Rattle.rules.proofs.Laws.Least.{recorded_mono, model_satisfies, model_least}
use Rattle.rules.proofs.Laws.Closure.{closed_least}

-- the rows R have only pairs of the model's rows
abbrev pub Sound : Program → Pairs → Type 0
Sound P R = (r a b : ℕ) (l : Label) → R r a b l → Row P r a b l

-- the rows R have the row that is worked out for routine r from them
abbrev pub UpToDate : Program → Pairs → ℕ → Type 0
UpToDate P R r =
    (a b : ℕ) (m : Label) → Derived P R r a b m → a ≤ params P r → b ≤ params P r → a ≢ b → R r a b (cut m)

-- larger pairs have a larger closure
pub closed_mono :
    (G H : ℕ → ℕ → Label → Type 0) → ((a b : ℕ) (l : Label) → G a b l → H a b l)
    → {a b : ℕ} {l : Label} → Closed G a b l → Closed H a b l
closed_mono G H f w =
    closed_least G (Closed H) (λ a b l p. given (f a b l p)) (λ a b c l m p q k. follows p q refl k) w

-- from sound rows only pairs of the model are worked out
pub sound_step : (P : Program) (R : Pairs) → Sound P R → (r a b : ℕ) (l : Label) → Derived P R r a b l → Model P r a b l
sound_step P R s r a b l w = closed_least (KeptFrom R (body P r)) (Model P r) base ((model_satisfies P).follows r) w
  where
    base : (a b : ℕ) (l : Label) → KeptFrom R (body P r) a b l → Model P r a b l
    base a b l p =
        (model_satisfies P).records r a b l
        (recorded_mono R (RowOf P (Model P)) s (body P r) at_head a b l p.0) p.1

-- a code that calls only routines whose rows S has as well records from S what it records from R
pub recorded_calls :
    (R S : Pairs) (c : Code) → ((q a b : ℕ) (l : Label) → Calls c q → R q a b l → S q a b l)
    → (π : Place) (a b : ℕ) (l : Label) → RecordedFrom R c π a b l → RecordedFrom S c π a b l
recorded_calls R S end f π a b l w = elim w [ ]
recorded_calls R S (new x c) f π a b l w = recorded_calls R S c f (naming x x π) a b l w
recorded_calls R S (lock x c d) f π a b l (inl w) = inl w
recorded_calls R S (lock x c d) f π a b l (inr (inl w)) =
    inr (inl (recorded_calls R S c (λ q a b l k. f q a b l (inl k)) (under_lock (π.roots x) π) a b l w))
recorded_calls R S (lock x c d) f π a b l (inr (inr w)) =
    inr (inr (recorded_calls R S d (λ q a b l k. f q a b l (inr k)) π a b l w))
recorded_calls R S (fork i c d) f π a b l (inl w) =
    inl (recorded_calls R S c (λ q a b l k. f q a b l (inl k)) (under_fork i π) a b l w)
recorded_calls R S (fork i c d) f π a b l (inr w) =
    inr (recorded_calls R S d (λ q a b l k. f q a b l (inr k)) π a b l w)
recorded_calls R S (choice u v c) f π a b l (inl w) =
    inl (recorded_calls R S u (λ q a b l k. f q a b l (inl k)) π a b l w)
recorded_calls R S (choice u v c) f π a b l (inr (inl w)) =
    inr (inl (recorded_calls R S v (λ q a b l k. f q a b l (inr (inl k))) π a b l w))
recorded_calls R S (choice u v c) f π a b l (inr (inr w)) =
    inr (inr (recorded_calls R S c (λ q a b l k. f q a b l (inr (inr k))) π a b l w))
recorded_calls R S (call q xs c) f π a b l (inl w) =
    inl (w.0, w.1, w.2, f q w.0 w.1 w.2 (inl refl) w.3, w.4, w.5, w.6)
recorded_calls R S (call q xs c) f π a b l (inr w) =
    inr (recorded_calls R S c (λ q a b l k. f q a b l (inr k)) π a b l w)
recorded_calls R S (mirror x y c) f π a b l w = recorded_calls R S c f (naming x (π.roots y) π) a b l w

-- what is worked out in a body depends on the rows of the routines that it calls alone
pub calls_only :
    (P : Program) (R S : Pairs) (r : ℕ)
    → ((q a b : ℕ) (l : Label) → Calls (body P r) q → R q a b l → S q a b l)
    → (a b : ℕ) (l : Label) → Derived P R r a b l → Derived P S r a b l
calls_only P R S r f a b l w =
    closed_mono (KeptFrom R (body P r)) (KeptFrom S (body P r))
    (λ a b l p. (recorded_calls R S (body P r) f at_head a b l p.0, p.1)) w

-- a routine stays up to date while its row keeps its pairs and the rows that it calls get none
pub up_to_date_kept :
    (P : Program) (R S : Pairs) (r : ℕ) → ((a b : ℕ) (l : Label) → R r a b l → S r a b l)
    → ((q a b : ℕ) (l : Label) → Calls (body P r) q → S q a b l → R q a b l)
    → UpToDate P R r → UpToDate P S r
up_to_date_kept P R S r keep back u a b m w ha hb ne =
    keep a b (cut m) (u a b m (calls_only P S R r back a b m w) ha hb ne)

-- a routine that the program does not have is up to date: its body records nothing
pub up_to_date_beyond : (P : Program) (R : Pairs) (r : ℕ) → length P ≤ r → UpToDate P R r
up_to_date_beyond P R r h a b m w ha hb ne =
    absurd (let l = body_listed P r (λ c. Closed (KeptFrom R c) a b m) none w in omega arith)
  where
    none_given : (a b : ℕ) (l : Label) → KeptFrom R end a b l → ⊥
    none_given a b l p = p.0

    none_follow : (a b c : ℕ) (l m : Label) → ⊥ → ⊥ → Kept a c (combine l m) → ⊥
    none_follow a b c l m p q k = p

    none : ¬ Closed (KeptFrom R end) a b m
    none v = closed_least (KeptFrom R end) (λ a b l. ⊥) none_given none_follow v

module _ (P : Program) (R : Pairs) (current : (r : ℕ) → r < length P → UpToDate P R r) where
  all_current : (r : ℕ) → UpToDate P R r
  all_current r =
      elim (dec_lt r (length P)) [
        | yes p ↦ current r p
        | no p ↦ up_to_date_beyond P R r (omega arith)
      ]

  row_derived : (r a b : ℕ) (l : Label) → RowOf P (Derived P R) r a b l → R r a b l
  row_derived r a b l w = rw w.5 (all_current r a b w.0 w.1 w.2 w.3 w.4)

  derived_satisfies : Satisfies P (Derived P R)
  derived_satisfies = record {
    records = λ r a b l w k.
        given (recorded_mono (RowOf P (Derived P R)) R row_derived (body P r) at_head a b l w, k);
    follows = λ r a b c l m p q k. follows p q refl k;
  }

  -- where each routine is up to date, the whole model is worked out
  pub complete : (r a b : ℕ) (l : Label) → Model P r a b l → Derived P R r a b l
  complete r a b l w = model_least P (Derived P R) derived_satisfies w

  -- and the rows have each pair of the model's rows
  pub rows_complete : (r a b : ℕ) (l : Label) → Row P r a b l → R r a b l
  rows_complete r a b l w = row_derived r a b l (w.0, complete r a b w.0 w.1, w.2, w.3, w.4, w.5)

-- sound rows in which each routine is up to date: what they have, and what is worked out from them
pub record Settled (P : Program) (R : Pairs) : Type 0 where
  pub row_to : (r a b : ℕ) (l : Label) → R r a b l → Row P r a b l
  pub row_from : (r a b : ℕ) (l : Label) → Row P r a b l → R r a b l
  pub model_to : (r a b : ℕ) (l : Label) → Derived P R r a b l → Model P r a b l
  pub model_from : (r a b : ℕ) (l : Label) → Model P r a b l → Derived P R r a b l
  pub ring_to : (r x : ℕ) → Derived P R r x x several → Ring P r x
  pub ring_from : (r x : ℕ) → Ring P r x → Derived P R r x x several

pub settled :
    (P : Program) (R : Pairs) → Sound P R → ((r : ℕ) → r < length P → UpToDate P R r) → Settled P R
settled P R s u = record {
  row_to = s;
  row_from = rows_complete P R u;
  model_to = sound_step P R s;
  model_from = complete P R u;
  ring_to = λ r x w. sound_step P R s r x x several w;
  ring_from = λ r x w. complete P R u r x x several w;
}
