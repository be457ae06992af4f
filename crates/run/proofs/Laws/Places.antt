-- A code at its place, one item further: each part of a code that is explained is explained, since it records no more
-- and calls no more than the whole. A LOCK is on a lock that is held, or dependencies lead to its lock from each held.
use Rattle.std.specs.Prelude.{◌≡◌, refl, List, [], ◌∷◌, ℕ}
use Rattle.std.proofs.Common.{subst, inl, inr}
use Rattle.std.proofs.Math.Option.{Option}
use Rattle.std.proofs.Math.Decide.{ℕ_discrete}
use Rattle.table.specs.Program.{Code, lock, fork, choice, call, mirror, Program, params}
use Rattle.table.specs.WellFormed.{Scoped, In}
use Rattle.rules.specs.Label.{Label, forked}
use Rattle.rules.specs.Model.{Place, bind, naming, nested, under_lock, under_fork, Recorded, at_lock, in_lock}
use Rattle.rules.specs.Model.{after_lock, in_fork, after_fork, in_first, in_second, after_choice, after_call}
use Rattle.rules.specs.Model.{in_mirror}
use Rattle.rules.specs.Verdict.{Calls}
use Rattle.rules.proofs.Laws.Nest.{by_nest, by_bind}
use Rattle.run.specs.Run.{Env, Open, held, alternative, called}
use Rattle.run.proofs.Laws.History.{Activation, root, child, routine, History, Single, Stands, stands_one, By}
use Rattle.run.proofs.Laws.Invariant.{under, Lawful, Dependency, Path, there, onward, Over, Here}

module _ (P : Program) where
  pub under_lawful : (H : History) (o : Open) (A : Activation) → Lawful P H A → Lawful P H (under o A)
  under_lawful H (held l) A w = w
  under_lawful H alternative A w = w
  under_lawful H called root w = tt
  under_lawful H called (child p r θ h xs t n) w = w.0

  -- a lock more is held
  wider : {H : History} {t v m : ℕ} {ls : List ℕ} {u : ℕ} → Path P H t ls v u → Path P H t (m ∷ ls) v u
  wider (there e) = there e
  wider (onward i d p) = onward (inr i) d (wider p)

  over_wider : {H : History} {t : ℕ} {A : Activation} {h : Option ℕ} {ls : List ℕ} {u m : ℕ}
      → Over P H t A h ls u → Over P H t A h (m ∷ ls) u
  over_wider r = record {
    name = r.name;
    lock = r.lock;
    is_name = r.is_name;
    stands = r.stands;
    held = inr r.held;
    path = wider r.path;
  }

  -- a dependency more, at the end
  extended : {H : History} {t v w : ℕ} {ls : List ℕ} {u : ℕ}
      → Path P H t ls v u → In v ls → Dependency P H t v w → Path P H t ls w u
  extended {w = w} (there e) i d = rw e (onward i d (there refl))
  extended (onward j k p) i d = onward j k (extended p i d)

  module _ {H : History} {t : ℕ} {A : Activation} {e : Env} {ls : List ℕ} where
    -- a part d of the code c at the same place
    part :
        {c d : Code} (w : Here P H t A e c ls)
        → ((a b : ℕ) (l : Label)
        → Recorded P d w.place a b l → Recorded P c w.place a b l)
        → Scoped P (params P (routine A)) w.scope d → ((q : ℕ) → Calls d q → Calls c q)
        → Here P H t A e d ls
    part w f k r = record {
      place = w.place;
      scope = w.scope;
      by = w.by;
      inside = λ a b l x. w.inside a b l (f a b l x);
      scoped = k;
      stands = w.stands;
      kept = w.kept;
      over = w.over;
      reach = λ q x. w.reach q (r q x);
    }

    pub choice_first : {a b c : Code} → Here P H t A e (choice a b c) ls → Here P H t A e a ls
    choice_first w = part w (λ x y l r. in_first r) w.scoped.0 (λ q r. inl r)

    pub choice_second : {a b c : Code} → Here P H t A e (choice a b c) ls → Here P H t A e b ls
    choice_second w = part w (λ x y l r. in_second r) w.scoped.1 (λ q r. inr (inl r))

    pub choice_rest : {a b c : Code} → Here P H t A e (choice a b c) ls → Here P H t A e c ls
    choice_rest w = part w (λ x y l r. after_choice r) w.scoped.2 (λ q r. inr (inr r))

    pub lock_rest : {x : ℕ} {c d : Code} → Here P H t A e (lock x c d) ls → Here P H t A e d ls
    lock_rest w = part w (λ x y l r. after_lock r) w.scoped.2 (λ q r. inr r)

    pub fork_rest : {i : ℕ} {c d : Code} → Here P H t A e (fork i c d) ls → Here P H t A e d ls
    fork_rest w = part w (λ x y l r. after_fork r) w.scoped.1 (λ q r. inr r)

    pub call_rest : {r : ℕ} {xs : List ℕ} {c : Code} → Here P H t A e (call r xs c) ls → Here P H t A e c ls
    call_rest w = part w (λ x y l r. after_call r) w.scoped.3 (λ q r. inr r)

    -- what follows a MIRROR
    pub mirror_rest :
        {x y : ℕ} {c : Code} → Here P H t A e (mirror x y c) ls → Here P H t A (bind x (e y) e) c ls
    mirror_rest {x} {y} w = record {
      place = naming x (w.place.roots y) w.place;
      scope = x ∷ w.scope;
      by = w.by;
      inside = λ a b l r. w.inside a b l (in_mirror r);
      scoped = w.scoped.2;
      stands = λ z i. by_bind (Stands P H A) x (w.place.roots y) (e y) w.place.roots e z
          (λ p. w.stands y w.scoped.1)
          (λ ne. elim i [ inl p ↦ absurd (ne p) | inr j ↦ w.stands z j ]);
      kept = w.kept;
      over = w.over;
      reach = w.reach;
    }

    -- the block of a FORK, run by the new thread u
    pub fork_block :
        {i : ℕ} {c d : Code} {u : ℕ} → By H A (forked i) u
        → Here P H t A e (fork i c d) ls → Here P H u A e c []
    fork_block {i} b w = record {
      place = under_fork i w.place;
      scope = w.scope;
      by = b;
      inside = λ x y l r. w.inside x y l (in_fork r);
      scoped = w.scoped.0;
      stands = w.stands;
      kept = λ z i. absurd i;
      over = λ v i. absurd i;
      reach = λ q r. w.reach q (inl r);
    }

    module _ (once : Single H.maker H.made) {x : ℕ} {c d : Code} (w : Here P H t A e (lock x c d) ls) where
      -- the root of the LOCK's name, which stands for its lock
      abbrev lock_root : ℕ
      lock_root = w.place.roots x

      here : Stands P H A lock_root (e x)
      here = w.stands x w.scoped.0

      -- a LOCK whose root is in the nest is on a lock that is held
      pub held_already : In lock_root w.place.nest → In (e x) ls
      held_already i =
          let r = w.kept lock_root i in
          subst (λ (u : ℕ). In u ls) (stands_one P H once A lock_root r.0 (e x) r.1 here) r.2

      -- to the lock of any other LOCK dependencies lead from each lock held
      pub to_lock : Lawful P H A → ¬ In lock_root w.place.nest → (u : ℕ) → In u ls → Path P H t ls (e x) u
      to_lock law new u i = let r = w.over u i in step r (ℕ_discrete r.name lock_root)
        where
          step : (r : Over P H t A w.place.holder ls u) → Dec (r.name ≡ lock_root) → Path P H t ls (e x) u
          step r (yes p) =
              subst (λ (v : ℕ). Path P H t ls v u)
              (stands_one P H once A lock_root r.lock (e x) (rw p at r.stands) here)
              r.path
          step r (no ne) = extended r.path r.held (record {
            act = A;
            from = r.name;
            to = lock_root;
            label = w.place.thread;
            differ = ne;
            lawful = law;
            by = w.by;
            pair = w.inside r.name lock_root _ (at_lock new r.is_name refl refl) (inl ne);
            stands_from = r.stands;
            stands_to = here;
          })

      -- the block of a LOCK, once the lock is taken
      pub lock_block : Lawful P H A → Here P H t A e c (e x ∷ ls)
      lock_block law = record {
        place = under_lock lock_root w.place;
        scope = w.scope;
        by = by_nest (λ v. By H A v.thread t) lock_root w.place (λ i. w.by) (λ n. w.by);
        inside = λ a b l r. w.inside a b l (in_lock r);
        scoped = w.scoped.1;
        stands = by_nest Means lock_root w.place (λ i. w.stands) (λ n. w.stands);
        kept = by_nest Keeps lock_root w.place (λ i. kept) new_kept;
        over = by_nest Covers lock_root w.place
            (λ i u j. over_wider (w.over u (elim j [ inl p ↦ rw p (held_already i) | inr k ↦ k ])))
            new_over;
        reach = λ q r. w.reach q (inl r);
      }
        where
          Means : Place → Type 0
          Means v = (y : ℕ) → In y w.scope → Stands P H A (v.roots y) (e y)

          Keeps : Place → Type 0
          Keeps v = (z : ℕ) → In z v.nest → (u : ℕ) × Stands P H A z u × In u (e x ∷ ls)

          kept : Keeps w.place
          kept z i = let r = w.kept z i in (r.0, r.1, inr r.2)

          new_kept : ¬ In lock_root w.place.nest → Keeps (nested lock_root w.place)
          new_kept n z (inl p) = (e x, rw p here, inl refl)
          new_kept n z (inr i) = kept z i

          Covers : Place → Type 0
          Covers v = (u : ℕ) → In u (e x ∷ ls) → Over P H t A v.holder (e x ∷ ls) u

          new_over : ¬ In lock_root w.place.nest → Covers (nested lock_root w.place)
          new_over n u i = record {
            name = lock_root;
            lock = e x;
            is_name = refl;
            stands = here;
            held = inl refl;
            path = elim i [ inl p ↦ there p | inr j ↦ wider (to_lock law n u j) ];
          }
