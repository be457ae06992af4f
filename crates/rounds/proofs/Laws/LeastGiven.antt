-- The model with given rows satisfies the rules, is the least that does, and is the model where the given rows are the
-- model's.
use Rattle.std.specs.Prelude.{◌≡◌, refl, ℕ, zero, suc, ◌+◌, ◌<◌, length}
use Rattle.std.proofs.Common.{inl, inr, arith}
use Rattle.table.proofs.Laws.Lists.{body_listed}
use Rattle.table.specs.Program.{Code, new, lock, fork, choice, call, mirror, Program, body}
use Rattle.rules.specs.Label.{Label, combine}
use Rattle.rules.specs.Model.{Kept, Place, at_head, naming, under_lock, under_fork, Model}
use Rattle.rules.specs.Derived.{Pairs, RecordedFrom, RowOf, given, follows, KeptFrom, Derived}
use Rattle.rules.proofs.Laws.Satisfies.{Satisfies}
use Rattle.rules.proofs.Laws.Least.{recorded_mono, row_mono, model_least}
use Rattle.rules.proofs.Laws.Closure.{closed_least}
use Rattle.rows.specs.Laws.Fixpoint.{calls_only, sound_step}
use Rattle.rounds.specs.Given.{RowsWith, PairsWith, ModelWith}

-- the pairs S have what the pairs R have
abbrev pub Within : Pairs → Pairs → Type 0
Within R S = (r a b : ℕ) (l : Label) → R r a b l → S r a b l

-- larger rows give larger pairs
pub derived_mono : (P : Program) (R S : Pairs) → Within R S → Within (Derived P R) (Derived P S)
derived_mono P R S f r = calls_only P R S r (λ q a b l k. f q a b l)

-- a routine with a pair is one of the program
pub model_listed : (P : Program) {r a b : ℕ} {l : Label} → Model P r a b l → r < length P
model_listed P = model_least P (λ r a b l. r < length P)
    (record { records = recorded; follows = λ r a b c l m p q k. p })
  where
    recorded : (r a b : ℕ) (l : Label)
        → RecordedFrom (RowOf P (λ r a b l. r < length P)) (body P r) at_head a b l → Kept a b l → r < length P
    recorded r a b l w k =
        body_listed P r (λ c. RecordedFrom (RowOf P (λ r a b l. r < length P)) c at_head a b l) (λ z. z) w

module _ (P : Program) (T : ℕ → Type 0) (G : Pairs) where
  -- larger pairs give larger rows
  with_mono : (M N : Pairs) → Within M N → Within (RowsWith P T G M) (RowsWith P T G N)
  with_mono M N f r a b l (inl w) = inl (w.0, row_mono P M N f r a b l w.1)
  with_mono M N f r a b l (inr w) = inr w

  -- a round only adds
  adds : (i : ℕ) → Within (PairsWith P T G i) (PairsWith P T G (suc i))
  adds zero = λ r a b l w. absurd w
  adds (suc i) =
      derived_mono P (RowsWith P T G (PairsWith P T G i)) (RowsWith P T G (PairsWith P T G (suc i)))
      (with_mono (PairsWith P T G i) (PairsWith P T G (suc i)) (adds i))

  adds_more : (j i : ℕ) → Within (PairsWith P T G i) (PairsWith P T G (j + i))
  adds_more zero i = λ r a b l w. let e : 0 + i ≡ i = omega arith in rw e w
  adds_more (suc j) i = λ r a b l w.
      let e : suc j + i ≡ suc (j + i) = omega arith in
      rw e (adds (j + i) r a b l (adds_more j i r a b l w))

  -- rows that have the given ones, and what is worked out from them for the routines of T, have all of the model's
  module _ (R : Pairs) (has_given : (q a b : ℕ) (l : Label) → (T q → ⊥) → G q a b l → R q a b l)
      (current : (q a b : ℕ) (l : Label) → T q → RowOf P (Derived P R) q a b l → R q a b l) where
    round_least : (i : ℕ) → Within (PairsWith P T G i) (Derived P R)
    round_least zero = λ r a b l w. absurd w
    round_least (suc i) = derived_mono P (RowsWith P T G (PairsWith P T G i)) R (λ q a b l. rows (round_least i) q a
        b l)
      where
        rows : Within (PairsWith P T G i) (Derived P R) → Within (RowsWith P T G (PairsWith P T G i)) R
        rows f q a b l (inl w) = current q a b l w.0 (row_mono P (PairsWith P T G i) (Derived P R) f q a b l w.1)
        rows f q a b l (inr w) = has_given q a b l w.0 w.1

    pub with_least : Within (ModelWith P T G) (Derived P R)
    with_least r a b l w = round_least w.0 r a b l w.1

    pub rows_least : Within (RowsWith P T G (ModelWith P T G)) R
    rows_least q a b l (inl w) = current q a b l w.0 (row_mono P (ModelWith P T G) (Derived P R) with_least q a b
        l w.1)
    rows_least q a b l (inr w) = has_given q a b l w.0 w.1

  -- what a code records from the model's rows it records from those of some round
  abbrev RecordedSome : Code → Place → ℕ → ℕ → Label → Type 0
  RecordedSome c w a b l = (i : ℕ) × RecordedFrom (RowsWith P T G (PairsWith P T G i)) c w a b l

  in_some : (c : Code) (w : Place) (a b : ℕ) (l : Label)
      → RecordedFrom (RowsWith P T G (ModelWith P T G)) c w a b l → RecordedSome c w a b l
  in_some Rattle.table.specs.Program.end w a b l p = elim p [ ]
  in_some (new x c) w a b l p = in_some c (naming x x w) a b l p
  in_some (lock x c d) w a b l (inl p) = (0, inl p)
  in_some (lock x c d) w a b l (inr (inl p)) =
      let v = in_some c (under_lock (w.roots x) w) a b l p in
      (v.0, inr (inl v.1))
  in_some (lock x c d) w a b l (inr (inr p)) = let v = in_some d w a b l p in (v.0, inr (inr v.1))
  in_some (fork i c d) w a b l (inl p) = let v = in_some c (under_fork i w) a b l p in (v.0, inl v.1)
  in_some (fork i c d) w a b l (inr p) = let v = in_some d w a b l p in (v.0, inr v.1)
  in_some (choice f s c) w a b l (inl p) = let v = in_some f w a b l p in (v.0, inl v.1)
  in_some (choice f s c) w a b l (inr (inl p)) = let v = in_some s w a b l p in (v.0, inr (inl v.1))
  in_some (choice f s c) w a b l (inr (inr p)) = let v = in_some c w a b l p in (v.0, inr (inr v.1))
  in_some (call q xs c) w a b l (inl p) = at p.3
    where
      at : RowsWith P T G (ModelWith P T G) q p.0 p.1 p.2 → RecordedSome (call q xs c) w a b l
      at (inl v) =
          let m = v.1.1 in (
            m.0,
            inl (
              p.0,
              p.1,
              p.2,
              inl (v.0, (v.1.0, m.1, v.1.2, v.1.3, v.1.4, v.1.5)),
              p.4,
              p.5,
              p.6,
            ),
          )
      at (inr v) = (0, inl (p.0, p.1, p.2, inr v, p.4, p.5, p.6))
  in_some (call q xs c) w a b l (inr p) = let v = in_some c w a b l p in (v.0, inr v.1)
  in_some (mirror x y c) w a b l p = in_some c (naming x (w.roots y) w) a b l p

  -- what is worked out from the model's rows is of the model
  pub with_satisfies : Within (Derived P (RowsWith P T G (ModelWith P T G))) (ModelWith P T G)
  with_satisfies r a b l w =
      closed_least (KeptFrom (RowsWith P T G (ModelWith P T G)) (body P r)) (ModelWith P T G r) base step w
    where
      base : (a b : ℕ) (l : Label) → KeptFrom (RowsWith P T G (ModelWith P T G)) (body P r) a b l
          → ModelWith P T G r a b l
      base a b l p =
          let v = in_some (body P r) at_head a b l p.0 in
          (suc v.0, given (v.1, p.1))

      step : (a b c : ℕ) (l m : Label) → ModelWith P T G r a b l → ModelWith P T G r b c m → Kept a c (combine l m)
          → ModelWith P T G r a c (combine l m)
      step a b c l m p q k = (suc (q.0 + p.0), follows (up q.0 p.0 p') (up₂ q.0 p.0 q') refl k)
        where
          up : (j i : ℕ) → PairsWith P T G (suc i) r a b l → PairsWith P T G (suc (j + i)) r a b l
          up j i w = let e : j + suc i ≡ suc (j + i) = omega arith in rw e at (adds_more j (suc i) r a b l w)

          up₂ : (j i : ℕ) → PairsWith P T G (suc j) r b c m → PairsWith P T G (suc (j + i)) r b c m
          up₂ j i w = let e : i + suc j ≡ suc (j + i) = omega arith in rw e at (adds_more i (suc j) r b c m w)

          p' : PairsWith P T G (suc p.0) r a b l
          p' = adds p.0 r a b l p.1

          q' : PairsWith P T G (suc q.0) r b c m
          q' = adds q.0 r b c m q.1

  -- where the given rows are the model's, so is the rest
  module _ (T? : (q : ℕ) → Dec (T q))
      (given_to : (q a b : ℕ) (l : Label) → (T q → ⊥) → G q a b l → RowOf P (Model P) q a b l)
      (given_from : (q a b : ℕ) (l : Label) → (T q → ⊥) → RowOf P (Model P) q a b l → G q a b l) where
    round_model : (i : ℕ) → Within (PairsWith P T G i) (Model P)
    round_model zero = λ r a b l w. absurd w
    round_model (suc i) = sound_step P (RowsWith P T G (PairsWith P T G i)) (λ q a b l. rows (round_model i) q a b l)
      where
        rows : Within (PairsWith P T G i) (Model P) → Within (RowsWith P T G (PairsWith P T G i)) (RowOf P (Model P))
        rows f q a b l (inl w) = row_mono P (PairsWith P T G i) (Model P) f q a b l w.1
        rows f q a b l (inr w) = given_to q a b l w.0 w.1

    pub model_to : Within (ModelWith P T G) (Model P)
    model_to r a b l w = round_model w.0 r a b l w.1

    satisfied : Satisfies P (ModelWith P T G)
    satisfied = record {
      records = λ r a b l w k. with_satisfies r a b l (given (
        recorded_mono (RowOf P (ModelWith P T G)) (RowsWith P T G (ModelWith P T G)) rows (body P r) at_head a b
            l w,
        k,
      ));
      follows = λ r a b c l m p q k. with_satisfies r a c (combine l m) (follows (out r a b l p) (out r b c m q) refl
          k);
    }
      where
        rows : Within (RowOf P (ModelWith P T G)) (RowsWith P T G (ModelWith P T G))
        rows q a b l w = go (T? q)
          where
            go : Dec (T q) → RowsWith P T G (ModelWith P T G) q a b l
            go (yes t) = inl (t, w)
            go (no n) = inr (n, given_from q a b l n (row_mono P (ModelWith P T G) (Model P) model_to q a b l w))

        out : Within (ModelWith P T G) (Derived P (RowsWith P T G (ModelWith P T G)))
        out r a b l w = go w.0 w.1
          where
            go : (i : ℕ) → PairsWith P T G i r a b l → Derived P (RowsWith P T G (ModelWith P T G)) r a b l
            go zero v = absurd v
            go (suc i) v = derived_mono P (RowsWith P T G (PairsWith P T G i)) (RowsWith P T G (ModelWith P T G))
                (with_mono (PairsWith P T G i) (ModelWith P T G) (λ r a b l x. (i, x))) r a b l v

    pub model_from : Within (Model P) (ModelWith P T G)
    model_from r a b l w = model_least P (ModelWith P T G) satisfied w

-- the same routines, told otherwise, give the same pairs
pub told_otherwise : (P : Program) (T U : ℕ → Type 0) (G : Pairs) → ((q : ℕ) → T q → U q) → ((q : ℕ) → U q → T q)
    → Within (ModelWith P T G) (ModelWith P U G)
told_otherwise P T U G f g r a b l w = (w.0, round w.0 r a b l w.1)
  where
    rows : (M N : Pairs) → Within M N → Within (RowsWith P T G M) (RowsWith P U G N)
    rows M N h q a b l (inl v) = inl (f q v.0, row_mono P M N h q a b l v.1)
    rows M N h q a b l (inr v) = inr ((λ u. v.0 (g q u)), v.1)

    round : (i : ℕ) → Within (PairsWith P T G i) (PairsWith P U G i)
    round zero = λ r a b l w. absurd w
    round (suc i) = derived_mono P (RowsWith P T G (PairsWith P T G i)) (RowsWith P U G (PairsWith P U G i))
        (rows (PairsWith P T G i) (PairsWith P U G i) (round i))
