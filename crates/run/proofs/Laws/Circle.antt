-- No threads wait in a circle. A thread that waits holds a lock and wants another, and by the invariant there are
-- dependencies of its own from the one to the other. Those of a circle of waiting threads form a closed chain by two
-- or more threads, and that cannot be in a clear program.
use Rattle.std.specs.Prelude.{◌≡◌, ◌⊎◌, ℕ}
use Rattle.std.proofs.Math.Path.{refl, subst}
use Rattle.std.proofs.Common.{sym, ◌∙◌}
use Rattle.std.proofs.Math.Logic.{inl, inr}
use mathlib.Core.List.{List, [], ◌∷◌}
use Rattle.table.specs.Program.{Program}
use Rattle.table.specs.WellFormed.{In}
use Rattle.rules.specs.Verdict.{Clear}
use Rattle.rules.proofs.Laws.Nest.{is_in}
use Rattle.rules.proofs.Laws.Tests.{decided}
use Rattle.run.specs.Run.{Thread, locks, Wants, wants, State}
use Rattle.run.specs.Run.{thread, Waits, Line, Circle}
use Rattle.run.proofs.Laws.History.{Activation, History}
use Rattle.run.proofs.Laws.Invariant.{Path, there, onward, Explained, Invariant, Holds}
use Rattle.run.proofs.Laws.Places.{held_already, to_lock}
use Rattle.run.proofs.Laws.Always.{Valid}
use Rattle.run.proofs.Laws.Tree.{may, forest}
use Rattle.run.proofs.Laws.Chain.{Forest, Links, none as no-links, next, AllBy, all_by_one}

module _
    (P : Program) (clear : Clear P) (H : History) (n : ℕ) (acts : ℕ → Activation) (forms : ℕ → Thread)
    (g : Invariant P H n acts forms) where
  abbrev F : Forest
  F = forest P clear H n acts forms g

  -- Any chain on from the lock z has one from the lock w before it, by dependencies of the thread t between the two. If
  -- all of that is by a thread s, the chain from z is too, and t is s unless nothing lies between.
  abbrev Goes : ℕ → ℕ → ℕ → Type 0
  Goes t w z =
      (v : ℕ) (rest : Links F v z)
      → (c : Links F v w) × ((s : ℕ) → AllBy F s c → AllBy F s rest × ((w ≡ z) ⊎ (t ≡ s)))

  -- along dependencies from locks that the thread holds
  along_path :
      (t : ℕ) (ls : List ℕ) → ((u : ℕ) → In u ls → Holds (forms t) u)
      → {v u : ℕ} → Path P H t ls v u → Goes t u v
  unfolding AllBy
  along_path t ls h {v} (there e) = subst (λ (w : ℕ). Goes t w v) (sym e) (λ y rest. (rest, λ s a. (a, inl refl)))
  along_path t ls h (onward {u = u} i f p) = λ y rest. let r = along_path t ls h p y rest in (
    next t
        (record {
          a = f.from;
          b = f.to;
          l = f.label;
          pair = (f.lawful, f.pair);
          start = f.stands_from;
          end = f.stands_to;
          kept = inl f.differ;
          owned = λ s e. subst (λ (z : ℕ). Holds (forms z) u) e (h u i);
          one = inr (t, refl, (f.lawful, may H f.act f.label t f.by));
        })
        r.0,
    λ s a. ((r.1 s a.1).0, inr a.0),
  )

  -- a thread holds the lock that it wants already, or goes on to it from each lock that it holds
  to_wanted :
      (t l m : ℕ) (A : Activation) (x : Thread) → Wants x l → Explained P H t A x
      → ((u : ℕ) → Holds x u → Holds (forms t) u) → Holds x m → Holds (forms t) l ⊎ Goes t m l
  to_wanted t l m A y (wants {x = x} {e = e} {fs = fs} q) w h i = subst (λ (z : ℕ). Holds (forms t) z ⊎ Goes t m z) q (
      elim (decided (is_in (w.0.place.roots x) w.0.place.nest)) [
        | yes k ↦ inl (h (e x) (held_already P g.made_once w.0 k))
        | no n ↦ inr (along_path t (locks fs) h (to_lock P g.made_once w.0 w.3 n m i))
      ])

module _ (P : Program) (clear : Clear P) (s : State) (v : Valid P s) where
  abbrev G : Forest
  G = forest P clear v.history v.serials v.acts (thread s) v.good

  -- any chain on from the lock m has one from the lock l before it; if all of that is by x, so is the chain, and t is x
  abbrev PassesOn : ℕ → ℕ → ℕ → Type 0
  PassesOn t l m =
      (y : ℕ) (rest : Links G y m)
      → (c : Links G y l) × ((x : ℕ) → AllBy G x c → AllBy G x rest × (t ≡ x))

  -- a thread that waits passes on from each lock that it holds to the lock by which it waits
  passes_on : (t z l : ℕ) (w : Waits s t z) → Holds (thread s t) l → PassesOn t l w.0
  passes_on t z l w h y rest =
      elim (to_wanted P clear v.history v.serials v.acts (thread s) v.good t w.0 l (v.acts t)
      (thread s t) w.1 (v.good.explained t) (λ u i. i) h) [
        | inl k ↦ absurd (w.2 (v.good.alone z t w.0 w.3 k))
        | inr f ↦ let r = f y rest in (
          r.0,
          λ x k. let q = r.1 x k in (
            q.0,
            elim q.1 [
              | inl e ↦ absurd (w.2 (v.good.alone z t w.0 w.3 (rw e at h)))
              | inr e ↦ e
            ],
          ),
        )
      ]

  -- the lock by which the last of a line waits
  last_lock : (t : ℕ) (us : List ℕ) (z : ℕ) → Line s t us z → ℕ
  last_lock t [] z w = w.0
  last_lock t (u ∷ us) z w = last_lock u us z w.1

  last_lock_held : (t : ℕ) (us : List ℕ) (z : ℕ) (w : Line s t us z) → Holds (thread s z) (last_lock t us z w)
  unfolding last_lock
  last_lock_held t [] z w = w.3
  last_lock_held t (u ∷ us) z w = last_lock_held u us z w.1

  -- along a line of waiting threads
  along :
      (t : ℕ) (us : List ℕ) (z : ℕ) (w : Line s t us z) (l : ℕ) → Holds (thread s t) l
      → PassesOn t l (last_lock t us z w)
  unfolding last_lock
  along t [] z w l h = passes_on t z l w h
  along t (u ∷ us) z w l h = λ y rest.
      let r = along u us z w.1 w.0.0 w.0.3 y rest in
      let k = passes_on t u l w.0 h y r.0 in
      (k.0, λ x a. let q = k.1 x a in ((r.1 x q.0).0, q.1))

  -- a line of waiting threads never comes back to its start
  pub no_closed_line : (t u : ℕ) (us : List ℕ) → Waits s t u → Line s u us t → ⊥
  no_closed_line t u us w ln =
      let m = last_lock u us t ln in
      let last = passes_on t u m w (last_lock_held u us t ln) w.0 (no-links refl) in
      let all = along u us t ln w.0 w.3 w.0 last.0 in
      let one = all_by_one G w.0 all.0 in
      let p = all.1 one.0 one.1 in
      let q = last.1 one.0 p.0 in
      w.2 (p.1 ∙ sym q.1)

  pub no_circle : ¬ Circle s
  no_circle c = no_closed_line c.one c.two c.more c.waits.0 c.waits.1
