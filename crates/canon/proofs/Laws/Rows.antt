-- The model of the canonical program: a kept routine has the pairs it had, under the new names of its locals, and so
-- the row it had; and the verdict is clear exactly when it was.
use Rattle.std.specs.Prelude.{◌≡◌, refl, ◌↔◌, ℕ, ◌+◌, ◌≤◌, ◌<◌, length, get_or}
use Rattle.std.proofs.Common.{sym, ap, ◌∙◌, inl, inr, arith}
use Rattle.std.proofs.Math.Option.{some-injective}
use Rattle.table.specs.Program.{Routine, Program, empty, params, body, names}
use Rattle.table.specs.WellFormed.{In, Scoped, WellFormed}
use Rattle.table.specs.Encoding.{Numbered, WithinLimits}
use Rattle.table.proofs.Laws.Lists.{names_low}
use Rattle.table.proofs.Laws.Formed.{well_formed}
use Rattle.rules.specs.Label.{Label, several, combine}
use Rattle.rules.specs.Model.{Kept, at_head, Model, follows, Row, Ring}
use Rattle.rules.specs.Verdict.{Calls, Reached, first, then, Clear}
use Rattle.rules.specs.Derived.{Pairs, RecordedFrom, RowOf}
use Rattle.rules.proofs.Laws.Satisfies.{Satisfies}
use Rattle.rules.proofs.Laws.Least.{model_satisfies, model_least}
use Rattle.rules.proofs.Laws.Verdict.{reached_within}
use Rattle.canon.specs.Canonical.{called, place, recalled, resolved, canonical}
use Rattle.canon.proofs.Laws.Lists.{map_in}
use Rattle.canon.proofs.Laws.Order.{is_called}
use Rattle.canon.proofs.Laws.Rewrite.{called_plain, called_recalled}
use Rattle.canon.proofs.Laws.Canonical.{place_main, place_apart, kept_routine}
use Rattle.canon.proofs.Laws.Limits.{keeps, original, canonical_within}
use Rattle.canon.proofs.Laws.Renaming.{Change, changes, Root, renaming, renaming_param, renaming_local}
use Rattle.canon.proofs.Laws.Renaming.{renaming_apart}
use Rattle.canon.proofs.Laws.Simulation.{Stands, Moves, recorded_moved}

module _ (P : Program) (within : WithinLimits P) where
  -- x is a root of routine r: 0, a parameter or the name of a NEW
  abbrev pub RootOf : ℕ → ℕ → Type 0
  RootOf r x = Root (params P r) (body P r) x

  -- the new name of a root of routine r
  abbrev pub fresh : ℕ → ℕ → ℕ
  fresh r = renaming (params P r) (body P r)

  ok : WellFormed P
  ok = well_formed P within

  below : (r : ℕ) → Reached P r → r < length P
  below r w = reached_within P ok r w

  numbered : (r : ℕ) → Reached P r → Numbered (params P r) 0 0 (body P r)
  numbered r w = (within.fits r (below r w)).numbered

  scoped : (r : ℕ) → Reached P r → Scoped P (params P r) (names (params P r)) (body P r)
  scoped r w = (within.fits r (below r w)).scoped

  -- name 0 and the parameters keep their names, and no two roots get one name
  pub fresh_param : (r x : ℕ) → Reached P r → x ≤ params P r → fresh r x ≡ x
  fresh_param r x w l = renaming_param (params P r) (body P r) (numbered r w) x l

  pub fresh_apart : (r x y : ℕ) → Reached P r → RootOf r x → RootOf r y → fresh r x ≡ fresh r y → x ≡ y
  fresh_apart r x y w = renaming_apart (params P r) (body P r) (numbered r w) x y

  given : (r : ℕ) → Reached P r → (p : Change) → In p (changes (params P r + 1) (body P r))
      → RootOf r p.old × (fresh r p.old ≡ p.fresh)
  given r w p i = (inr (p, i, refl), renaming_local (params P r) (body P r) (numbered r w) p i)

  zero_root : (r : ℕ) → RootOf r 0
  zero_root r = inl (omega arith)

  at_head_lem : (r : ℕ) → Reached P r → Stands (RootOf r) (fresh r) (names (params P r)) (λ x. x) at_head
  at_head_lem r w = record {
    links = λ z i. let l = names_low (params P r) z i in (inl l, sym (fresh_param r z w l));
    holder_in = λ x e. rw (some-injective 0 x e) at (zero_root r);
    nest_in = λ x i. absurd i;
  }

  body_kept : (r : ℕ) → Reached P r → body (canonical P) (place P r) ≡ recalled (place P) (resolved (get_or P r empty))
  body_kept r w = ap (λ (q : Routine). q.code) (kept_routine P ok r w)

  params_kept : (r : ℕ) → Reached P r → params (canonical P) (place P r) ≡ params P r
  params_kept r w = (keeps P within r w).1

  -- where the rows called are the same, the body of a kept routine records what it recorded, under the new names
  body_moved :
      (R S : Pairs) (r : ℕ) → Reached P r
      → ((q : ℕ) → Reached P q → (a b : ℕ) (m : Label) → R q a b m ↔ S (place P q) a b m)
      → (l : Label)
      → Moves (RootOf r) (fresh r) (λ a b. RecordedFrom R (body P r) at_head a b l)
      (λ a b. RecordedFrom S (body (canonical P) (place P r)) at_head a b l)
  body_moved R S r w rows l =
      let v = recorded_moved P (params P r) (RootOf r) (fresh r) (λ x y. fresh_apart r x y w) (place P) R S
      (names (params P r)) (λ x. x) (λ x. x) (params P r + 1) (body P r) at_head l (scoped r w) (given r w) (at_head_lem r w)
      (λ z. refl) (λ q h. rows q (then w h)) in
      rw (body_kept r w) (rw (fresh_param r 0 w (omega arith)) at v)

  -- the pairs that the canonical program gives a reached routine, under the old names
  abbrev There : Pairs
  There r a b l = Reached P r → RootOf r a × RootOf r b × Model (canonical P) (place P r) (fresh r a) (fresh r b) l

  rows_there : (q : ℕ) → Reached P q → (a b : ℕ) (l : Label)
      → RowOf P There q a b l ↔ RowOf (canonical P) (Model (canonical P)) (place P q) a b l
  rows_there q w a b l = (to, from)
    where
      to : RowOf P There q a b l → RowOf (canonical P) (Model (canonical P)) (place P q) a b l
      to v =
          let m : Model (canonical P) (place P q) a b v.0 =
          rw (fresh_param q a w v.2, fresh_param q b w v.3) at (v.1 w).2 in
          (v.0, m, rw (params_kept q w) v.2, rw (params_kept q w) v.3, v.4, v.5)

      from : RowOf (canonical P) (Model (canonical P)) (place P q) a b l → RowOf P There q a b l
      from v =
          let la : a ≤ params P q = rw (params_kept q w) at v.2 in
          let lb : b ≤ params P q = rw (params_kept q w) at v.3 in
          let m : Model (canonical P) (place P q) (fresh q a) (fresh q b) v.0 =
          rw (fresh_param q a w la, fresh_param q b w lb) v.1 in
          (v.0, (λ w'. (inl la, inl lb, m)), la, lb, v.4, v.5)

  kept_there : (r a b : ℕ) (l : Label) → Reached P r → RootOf r a → RootOf r b → Kept a b l
      → Kept (fresh r a) (fresh r b) l
  kept_there r a b l w da db (inl ne) = inl (λ e. ne (fresh_apart r a b w da db e))
  kept_there r a b l w da db (inr e) = inr e

  there_satisfies : Satisfies P There
  there_satisfies = record { records = recs; follows = fols }
    where
      recs : (r a b : ℕ) (l : Label) → RecordedFrom (RowOf P There) (body P r) at_head a b l → Kept a b l → There r a b l
      recs r a b l q k w =
          let v = (body_moved (RowOf P There) (RowOf (canonical P) (Model (canonical P))) r w rows_there l).0 a b q in (
            v.0,
            v.1,
            (model_satisfies (canonical P)).records (place P r) (fresh r a) (fresh r b) l v.2
                (kept_there r a b l w v.0 v.1 k),
          )

      fols : (r a b c : ℕ) (l m : Label) → There r a b l → There r b c m → Kept a c (combine l m)
          → There r a c (combine l m)
      fols r a b c l m p q k w =
          let u = p w in
          let v = q w in (
            u.0,
            v.1,
            (model_satisfies (canonical P)).follows (place P r) (fresh r a) (fresh r b) (fresh r c) l m u.2 v.2
                (kept_there r a c (combine l m) w u.0 v.1 k),
          )

  -- each pair of a reached routine is one of the canonical program's, under the new names
  pub model_to : (r a b : ℕ) (l : Label) → Reached P r → Model P r a b l
      → Model (canonical P) (place P r) (fresh r a) (fresh r b) l
  model_to r a b l w m = (model_least P There there_satisfies m w).2

  -- a pair of routine r that has the new names a' and b'
  abbrev pub Old : ℕ → ℕ → ℕ → Label → Type 0
  Old r a' b' l =
      (a : ℕ) × (b : ℕ) × (a' ≡ fresh r a) × (b' ≡ fresh r b) × RootOf r a × RootOf r b × Model P r a b l

  -- the pairs that the program gives the routines of the canonical program
  abbrev Here : Pairs
  Here p a' b' l = (r : ℕ) → Reached P r → place P r ≡ p → Old r a' b' l

  -- a root whose new name is a parameter is that parameter
  param_old : (r a x : ℕ) → Reached P r → a ≤ params P r → RootOf r x → a ≡ fresh r x → x ≡ a
  param_old r a x w l d e = fresh_apart r x a w d (inl l) (sym e ∙ sym (fresh_param r a w l))

  rows_here : (q : ℕ) → Reached P q → (a b : ℕ) (l : Label)
      → RowOf P (Model P) q a b l ↔ RowOf (canonical P) Here (place P q) a b l
  rows_here q w a b l = (to, from)
    where
      to : RowOf P (Model P) q a b l → RowOf (canonical P) Here (place P q) a b l
      to v =
          let old : Old q a b v.0 =
          (a, b, sym (fresh_param q a w v.2), sym (fresh_param q b w v.3), inl v.2, inl v.3, v.1) in (
            v.0,
            (λ r w' e. rw (place_apart P ok r q w' w e) old),
            rw (params_kept q w) v.2,
            rw (params_kept q w) v.3,
            v.4,
            v.5,
          )

      from : RowOf (canonical P) Here (place P q) a b l → RowOf P (Model P) q a b l
      from v =
          let la : a ≤ params P q = rw (params_kept q w) at v.2 in
          let lb : b ≤ params P q = rw (params_kept q w) at v.3 in
          let u = v.1 q w refl in
          let m : Model P q a b v.0 =
          rw (param_old q a u.0 w la u.4 u.2, param_old q b u.1 w lb u.5 u.3) at u.6 in
          (v.0, m, la, lb, v.4, v.5)

  kept_here : (r a b a' b' : ℕ) (l : Label) → a' ≡ fresh r a → b' ≡ fresh r b → Kept a' b' l → Kept a b l
  kept_here r a b a' b' l ea eb (inl ne) = inl (λ e. ne (ea ∙ ap (fresh r) e ∙ sym eb))
  kept_here r a b a' b' l ea eb (inr e) = inr e

  here_satisfies : Satisfies (canonical P) Here
  here_satisfies = record { records = recs; follows = fols }
    where
      recs : (p a b : ℕ) (l : Label)
          → RecordedFrom (RowOf (canonical P) Here) (body (canonical P) p) at_head a b l → Kept a b l → Here p a b l
      recs p a b l q k r w e =
          let m = body_moved (RowOf P (Model P)) (RowOf (canonical P) Here) r w rows_here l in
          let v = m.1 a b (rw e q) in
          let d = m.0 v.0 v.1 v.4 in (
            v.0,
            v.1,
            v.2,
            v.3,
            d.0,
            d.1,
            (model_satisfies P).records r v.0 v.1 l v.4 (kept_here r v.0 v.1 a b l v.2 v.3 k),
          )

      fols : (p a b c : ℕ) (l m : Label) → Here p a b l → Here p b c m → Kept a c (combine l m)
          → Here p a c (combine l m)
      fols p a b c l m x y k r w e =
          let u = x r w e in
          let v = y r w e in
          let q : Model P r u.1 v.1 m =
          rw (fresh_apart r v.0 u.1 w v.4 u.5 (sym v.2 ∙ u.3)) at v.6 in (
            u.0,
            v.1,
            u.2,
            v.3,
            u.4,
            v.5,
            follows u.6 q refl (kept_here r u.0 v.1 a c (combine l m) u.2 v.3 k),
          )

  -- each pair of the canonical program is one of the routine that has that new number
  pub model_from : (r a b : ℕ) (l : Label) → Reached P r → Model (canonical P) (place P r) a b l → Old r a b l
  model_from r a b l w m = model_least (canonical P) Here here_satisfies m r w refl

  -- a kept routine has the row it had
  pub row_kept : (r : ℕ) → Reached P r → (a b : ℕ) (l : Label)
      → Row P r a b l ↔ Row (canonical P) (place P r) a b l
  row_kept r w a b l = (to, from)
    where
      to : Row P r a b l → Row (canonical P) (place P r) a b l
      to v =
          (rows_there r w a b l).0
          (v.0, (λ w'. (inl v.2, inl v.3, model_to r a b v.0 w' v.1)), v.2, v.3, v.4, v.5)

      from : Row (canonical P) (place P r) a b l → Row P r a b l
      from v =
          (rows_here r w a b l).1
          (v.0, (λ r' w' e. model_from r' a b v.0 w' (rw e v.1)), v.2, v.3, v.4, v.5)

  -- a kept routine has a ring exactly when it had one
  pub ring_kept : (r : ℕ) → Reached P r → ((x : ℕ) × Ring P r x) ↔ ((x : ℕ) × Ring (canonical P) (place P r) x)
  ring_kept r w = (to, from)
    where
      to : ((x : ℕ) × Ring P r x) → (x : ℕ) × Ring (canonical P) (place P r) x
      to v = (fresh r v.0, model_to r v.0 v.0 several w v.1)

      from : ((x : ℕ) × Ring (canonical P) (place P r) x) → (x : ℕ) × Ring P r x
      from v =
          let u = model_from r v.0 v.0 several w v.1 in
          let e : u.1 ≡ u.0 = fresh_apart r u.1 u.0 w u.5 u.4 (sym u.3 ∙ u.2) in
          (u.0, rw e at u.6)

  -- a reached routine is reached at its new number
  pub reached_to : (r : ℕ) → Reached P r → Reached (canonical P) (place P r)
  reached_to r first = rw (place_main P) first
  reached_to q (then {r = r} w h) = then {r = place P r} {q = place P q} (reached_to r w) (rw (body_kept r w) calls)
    where
      listed : In q (called (resolved (get_or P r empty)))
      listed = rw (called_plain (λ x. x) (params P r + 1) (body P r)) ((is_called (body P r) q).entry h)

      calls : Calls (recalled (place P) (resolved (get_or P r empty))) (place P q)
      calls =
          (is_called (recalled (place P) (resolved (get_or P r empty))) (place P q)).fact
          (rw (called_recalled (place P) (resolved (get_or P r empty)))
          (map_in (place P) (called (resolved (get_or P r empty))) q listed))

  -- the verdict is clear exactly when it was
  pub clear_kept : Clear P ↔ Clear (canonical P)
  clear_kept = (to, from)
    where
      to : Clear P → Clear (canonical P)
      to c p x w ring =
          let there = well_formed (canonical P) (canonical_within P within) in
          let o = original P within p (reached_within (canonical P) there p w) in
          let here : Ring (canonical P) (place P o.0) x = rw o.2 ring in
          let v = (ring_kept o.0 o.1).1 (x, here) in
          c o.0 v.0 o.1 v.1

      from : Clear (canonical P) → Clear P
      from c r x w ring =
          let v = (ring_kept r w).0 (x, ring) in
          c (place P r) v.0 (reached_to r w) v.1
