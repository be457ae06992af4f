-- A routine that does not reach the one replaced has the pairs that it had.
use Rattle.std.specs.Prelude.{◌≡◌, refl, ◌≢◌, ℕ}
use Rattle.std.proofs.Common.{sym, subst, inl, inr}
use Rattle.std.proofs.Math.Decide.{ℕ_discrete}
use Rattle.table.specs.Program.{Code, Program, body}
use Rattle.rules.specs.Label.{Label}
use Rattle.rules.specs.Model.{Kept, at_head, Model, follows}
use Rattle.rules.specs.Verdict.{Calls}
use Rattle.rules.specs.Derived.{Pairs, RecordedFrom, RowOf}
use Rattle.rules.proofs.Laws.Satisfies.{Satisfies}
use Rattle.rules.proofs.Laws.Least.{model_satisfies, model_least}
use Rattle.rows.specs.Laws.Fixpoint.{recorded_calls}
use Rattle.rounds.specs.Reaches.{ReachesBy, calls, passes, Touched}
use Rattle.rounds.specs.OneBody.{OnlyBody}

-- the relation is the same both ways
pub only_body_back : (P Q : Program) (r : ℕ) → OnlyBody P Q r → OnlyBody Q P r
only_body_back P Q r o = record {
  listed = rw o.same_length o.listed;
  same_length = sym o.same_length;
  same_params = λ q. sym (o.same_params q);
  same_bodies = λ q ne. sym (o.same_bodies q ne);
}

module _ (P Q : Program) (r : ℕ) (only : OnlyBody P Q r) where
  -- a call in another body is in both programs
  call_moves : (q p : ℕ) → q ≢ r → Calls (body P q) p → Calls (body Q q) p
  call_moves q p ne c = subst (λ (v : Code). Calls v p) (sym (only.same_bodies q ne)) c

  reach_moves : {q p : ℕ} → ReachesBy P q p → p ≡ r → Touched Q r q
  reach_moves (calls {q = q} {r = p} c) e = go (ℕ_discrete q r)
    where
      go : Dec (q ≡ r) → Touched Q r q
      go (yes h) = inl h
      go (no ne) = inr (calls (call_moves q r ne (rw e at c)))
  reach_moves (passes {q = q} {s = s} {r = p} c w) e = go (ℕ_discrete q r) (reach_moves w e)
    where
      go : Dec (q ≡ r) → Touched Q r s → Touched Q r q
      go (yes h) t = inl h
      go (no ne) (inl h) = inr (calls (call_moves q r ne (rw h at c)))
      go (no ne) (inr v) = inr (passes (call_moves q s ne c) v)

  -- the routines that reach r are the same in both programs
  pub touched_moves : (q : ℕ) → Touched P r q → Touched Q r q
  touched_moves q (inl e) = inl e
  touched_moves q (inr w) = reach_moves w refl

module _ (P Q : Program) (r : ℕ) (only : OnlyBody P Q r) where
  -- the pairs of Q for the routines that do not reach r
  abbrev Others : Pairs
  Others q a b l = (Touched P r q → ⊥) → Model Q q a b l

  others_satisfy : Satisfies P Others
  others_satisfy = record {
    records = recorded;
    follows = λ q a b c l m x y k n. follows (x n) (y n) refl k;
  }
    where
      recorded : (q a b : ℕ) (l : Label) → RecordedFrom (RowOf P Others) (body P q) at_head a b l
          → Kept a b l → Others q a b l
      recorded q a b l w k n =
          (model_satisfies Q).records q a b l
          (subst (λ (c : Code). RecordedFrom (RowOf Q (Model Q)) c at_head a b l) (sym (only.same_bodies q ne))
          (recorded_calls (RowOf P Others) (RowOf Q (Model Q)) (body P q) rows at_head a b l w)) k
        where
          ne : q ≢ r
          ne e = n (inl e)

          rows : (p a b : ℕ) (l : Label) → Calls (body P q) p → RowOf P Others p a b l → RowOf Q (Model Q) p a b l
          rows p a b l c v = (
            v.0,
            v.1 free,
            rw (only.same_params p) v.2,
            rw (only.same_params p) v.3,
            v.4,
            v.5,
          )
            where
              free : Touched P r p → ⊥
              free (inl e) = n (inr (calls (rw e at c)))
              free (inr x) = n (inr (passes c x))

  -- a routine that does not reach r has its pairs in both programs
  pub untouched_same : (q a b : ℕ) (l : Label) → (Touched P r q → ⊥) → Model P q a b l → Model Q q a b l
  untouched_same q a b l n w = model_least P Others others_satisfy w n
