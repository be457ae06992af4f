-- The model is the least family of pairs that satisfies the rules.
use Rattle.std.specs.Prelude.{refl, ℕ}
use Rattle.std.proofs.Common.{sym, ap, ◌∙◌, subst, inl, inr}
use Rattle.table.specs.Program.{Code, new, lock, fork, choice, call, mirror, Program, body}
use Rattle.rules.specs.Label.{Label, cut, placed}
use Rattle.rules.specs.Model.{
  Kept,
  Place,
  at_head,
  naming,
  under_lock,
  under_fork,
  Recorded,
  in_new,
  at_lock,
  in_lock,
  after_lock,
  in_fork,
  after_fork,
  in_first,
  in_second,
  after_choice,
  at_call,
  after_call,
  in_mirror,
  Model,
  records,
  follows,
}
use Rattle.rules.specs.Derived.{Pairs, RecordedFrom, RowOf}
use Rattle.rules.proofs.Laws.Satisfies.{Satisfies}

-- what is recorded from some rows is recorded from larger ones
pub recorded_mono :
    (R S : Pairs) → ((r a b : ℕ) (l : Label) → R r a b l → S r a b l)
    → (c : Code) (w : Place) (a b : ℕ) (l : Label)
    → RecordedFrom R c w a b l → RecordedFrom S c w a b l
recorded_mono R S f Rattle.table.specs.Program.end w a b l q = elim q [ ]
recorded_mono R S f (new x c) w a b l q = recorded_mono R S f c (naming x x w) a b l q
recorded_mono R S f (lock x c d) w a b l (inl q) = inl q
recorded_mono R S f (lock x c d) w a b l (inr (inl q)) =
    inr (inl (recorded_mono R S f c (under_lock (w.roots x) w) a b l q))
recorded_mono R S f (lock x c d) w a b l (inr (inr q)) = inr (inr (recorded_mono R S f d w a b l q))
recorded_mono R S f (fork i c d) w a b l (inl q) = inl (recorded_mono R S f c (under_fork i w) a b l q)
recorded_mono R S f (fork i c d) w a b l (inr q) = inr (recorded_mono R S f d w a b l q)
recorded_mono R S f (choice u v c) w a b l (inl q) = inl (recorded_mono R S f u w a b l q)
recorded_mono R S f (choice u v c) w a b l (inr (inl q)) = inr (inl (recorded_mono R S f v w a b l q))
recorded_mono R S f (choice u v c) w a b l (inr (inr q)) = inr (inr (recorded_mono R S f c w a b l q))
recorded_mono R S f (call t xs c) w a b l (inl q) =
    inl (q.0, q.1, q.2, f t q.0 q.1 q.2 q.3, q.4, q.5, q.6)
recorded_mono R S f (call t xs c) w a b l (inr q) = inr (recorded_mono R S f c w a b l q)
recorded_mono R S f (mirror x y c) w a b l q = recorded_mono R S f c (naming x (w.roots y) w) a b l q

-- larger pairs give larger rows
pub row_mono :
    (P : Program) (M N : Pairs) → ((r a b : ℕ) (l : Label) → M r a b l → N r a b l)
    → (r a b : ℕ) (l : Label) → RowOf P M r a b l → RowOf P N r a b l
row_mono P M N f r a b l w = (w.0, f r a b w.0 w.1, w.2, w.3, w.4, w.5)

-- what is recorded from the model's rows is recorded
pub recorded_of_rows :
    (P : Program) (c : Code) (w : Place) (a b : ℕ) (l : Label)
    → RecordedFrom (RowOf P (Model P)) c w a b l → Recorded P c w a b l
recorded_of_rows P Rattle.table.specs.Program.end w a b l q = elim q [ ]
recorded_of_rows P (new x c) w a b l q = in_new (recorded_of_rows P c (naming x x w) a b l q)
recorded_of_rows P (lock x c d) w a b l (inl q) = at_lock q.0 q.1 q.2 q.3
recorded_of_rows P (lock x c d) w a b l (inr (inl q)) =
    in_lock (recorded_of_rows P c (under_lock (w.roots x) w) a b l q)
recorded_of_rows P (lock x c d) w a b l (inr (inr q)) = after_lock (recorded_of_rows P d w a b l q)
recorded_of_rows P (fork i c d) w a b l (inl q) = in_fork (recorded_of_rows P c (under_fork i w) a b l q)
recorded_of_rows P (fork i c d) w a b l (inr q) = after_fork (recorded_of_rows P d w a b l q)
recorded_of_rows P (choice u v c) w a b l (inl q) = in_first (recorded_of_rows P u w a b l q)
recorded_of_rows P (choice u v c) w a b l (inr (inl q)) = in_second (recorded_of_rows P v w a b l q)
recorded_of_rows P (choice u v c) w a b l (inr (inr q)) = after_choice (recorded_of_rows P c w a b l q)
recorded_of_rows P (call t xs c) w a b l (inl q) =
    let row = q.3 in
    at_call row.1 row.2 row.3 row.4 q.4 q.5 (q.6 ∙ ap (placed w.thread) row.5)
recorded_of_rows P (call t xs c) w a b l (inr q) = after_call (recorded_of_rows P c w a b l q)
recorded_of_rows P (mirror x y c) w a b l q = in_mirror (recorded_of_rows P c (naming x (w.roots y) w) a b l q)

-- the model satisfies the rules
pub model_satisfies : (P : Program) → Satisfies P (Model P)
model_satisfies P =
    record {
      records = λ r a b l w k. records (recorded_of_rows P (body P r) at_head a b l w) k;
      follows = λ r a b c l m p q k. follows p q refl k;
    }

module _ (P : Program) (M : Pairs) (ok : Satisfies P M) where
  -- what is recorded is recorded from the rows of pairs that satisfy the rules, and those pairs have the whole model
  mutual
    pub recorded_least :
        {c : Code} {w : Place} {a b : ℕ} {l : Label}
        → Recorded P c w a b l → RecordedFrom (RowOf P M) c w a b l
    recorded_least (in_new w) = recorded_least w
    recorded_least (at_lock n p q e) = inl (n, p, q, e)
    recorded_least (in_lock w) = inr (inl (recorded_least w))
    recorded_least (after_lock w) = inr (inr (recorded_least w))
    recorded_least (in_fork w) = inl (recorded_least w)
    recorded_least (after_fork w) = inr (recorded_least w)
    recorded_least (in_first w) = inl (recorded_least w)
    recorded_least (in_second w) = inr (inl (recorded_least w))
    recorded_least (after_choice w) = inr (inr (recorded_least w))
    recorded_least (at_call {a₀ = a₀} {b₀ = b₀} {m = m} w la lb ne p q e) =
        inl (a₀, b₀, cut m, (m, model_least w, la, lb, ne, refl), p, q, e)
    recorded_least (after_call w) = inr (recorded_least w)
    recorded_least (in_mirror w) = recorded_least w

    pub model_least : {r a b : ℕ} {l : Label} → Model P r a b l → M r a b l
    model_least (records {r = r} {a = a} {b = b} {l = l} w k) = ok.records r a b l (recorded_least w) k
    model_least (follows {r = r} {a = a} {b = b} {c = c} {l = l} {m = m} p q e k) =
        subst (M r a c) (sym e) (ok.follows r a b c l m (model_least p) (model_least q) (subst (Kept a c) e k))

-- what is recorded is recorded from the model's rows
pub rows_of_recorded :
    {P : Program} {c : Code} {w : Place} {a b : ℕ} {l : Label}
    → Recorded P c w a b l → RecordedFrom (RowOf P (Model P)) c w a b l
rows_of_recorded {P} w = recorded_least P (Model P) (model_satisfies P) w
