-- The invariant holds of every state of a run: of the start, and after each turn. So no lock ever has two holders.
use Rattle.std.specs.Prelude.{◌≡◌, refl, List, [], ◌∷◌, ◌++◌, ℕ, zero, suc, ◌<◌, length, get_or, set}
use Rattle.std.proofs.Common.{sym, ap, ◌∙◌, subst, inl, inr, append-nil, arith, not-suc-le-zero, length-set, length-append}
use Rattle.std.proofs.Common.{get_or-set_same, get_or-set_other}
use Rattle.std.proofs.Math.Path.{fun_ext}
use Rattle.std.proofs.Math.Decide.{ℕ_discrete, dec_lt}
use Rattle.std.proofs.Math.ListN.{get_or-eq_default, get_or-append}
use Rattle.std.proofs.Math.Seq.{get_or-append_seam}
use Rattle.table.specs.Program.{Code, end, new, lock, fork, choice, call, mirror, Program, params, body, names}
use Rattle.table.specs.WellFormed.{onces, In}
use Rattle.table.specs.WellFormed.{makes, starts, WellFormed}
use Rattle.rules.specs.Model.{at_head, bind, records}
use Rattle.rules.specs.Verdict.{first as reached-first, then}
use Rattle.run.specs.Run.{Env, held, Frame, frame, Thread, ended, at, State, thread, start, put}
use Rattle.run.specs.Run.{Side, first, second, step, Turn, turn, run, taken?}
use Rattle.table.proofs.Laws.Lists.{In-map, NoDup-map}
use Rattle.run.proofs.Laws.Update.{upd, upd_same, upd_other}
use Rattle.run.proofs.Laws.History.{Activation, root, Item, item, age, History, Ran, with_lock, with_thread}
use Rattle.run.proofs.Laws.Invariant.{todo, Here, Explained, Invariant, Holds}
use Rattle.run.proofs.Laws.Steps.{step_ended, step_end, step_first, step_second, step_lock, step_new, step_fork}
use Rattle.run.proofs.Laws.Steps.{step_call, step_mirror}

-- the threads as a function, in which a change of the list is a change at one place
abbrev forms : List Thread → ℕ → Thread
forms ths u = get_or ths u ended

forms_set : (ths : List Thread) (t : ℕ) (x : Thread) → t < length ths → forms (set ths t x) ≡ upd (forms ths) t x
forms_set ths t x lt = fun_ext (λ u. at_place u (ℕ_discrete u t))
  where
    at_place : (u : ℕ) → Dec (u ≡ t) → forms (set ths t x) u ≡ upd (forms ths) t x u
    at_place u (yes p) =
        ap (forms (set ths t x)) p ∙ get_or-set_same ths t x ended lt ∙ sym (upd_same (forms ths) t x u p)
    at_place u (no m) = get_or-set_other ths t u x ended m ∙ sym (upd_other (forms ths) t x u m)

forms_add : (ths : List Thread) (y : Thread) → forms (ths ++ (y ∷ [])) ≡ upd (forms ths) (length ths) y
forms_add ths y = fun_ext (λ u. at_place u (ℕ_discrete u (length ths)) (dec_lt u (length ths)))
  where
    at_place :
        (u : ℕ) → Dec (u ≡ length ths) → Dec (u < length ths)
        → forms (ths ++ (y ∷ [])) u ≡ upd (forms ths) (length ths) y u
    at_place u (yes p) d =
        ap (forms (ths ++ (y ∷ []))) p
        ∙ get_or-append_seam ths y [] ended
        ∙ sym (upd_same (forms ths) (length ths) y u p)
    at_place u (no m) (yes lt) =
        get_or-append ths (y ∷ []) ended u lt ∙ sym (upd_other (forms ths) (length ths) y u m)
    at_place u (no m) (no k) =
        get_or-eq_default (ths ++ (y ∷ [])) ended {n = u} (omega (arith, length-append ths (y ∷ [])))
        ∙ sym (get_or-eq_default ths ended {n = u} (omega arith))
        ∙ sym (upd_other (forms ths) (length ths) y u m)

-- a thread with a next item was started
pub running :
    (s : State) (t : ℕ) (c : Code) (e : Env) (fs : List Frame) → thread s t ≡ at c e fs → t < length s.threads
running s t c e fs eq = elim (dec_lt t (length s.threads)) [
  | yes p ↦ p
  | no k ↦
      let d : thread s t ≡ ended = get_or-eq_default s.threads ended {n = t} (omega arith) in
      let z : ◌≡◌ {A = ℕ} 0 1 = cc in absurd (omega arith)
]

-- the state has a history by which the invariant holds
pub record Valid (P : Program) (s : State) : Type 0 where
  pub history : History
  pub serials : ℕ
  pub acts : ℕ → Activation
  pub good : Invariant P history serials acts (thread s)
  pub made : s.made ≡ history.made
  pub forks : length s.threads ≡ suc history.forks

module _ (P : Program) where
  module _ (s : State) (v : Valid P s) (t : ℕ) where
    -- thread t takes the form x in the activation B, and the rest is as it was
    valid_put :
        (x : Thread) (B : Activation) (m : ℕ) → t < length s.threads
        → Invariant P v.history m (upd v.acts t B) (upd (thread s) t x)
        → Valid P (put s t x)
    valid_put x B m lt good = record {
      history = v.history;
      serials = m;
      acts = upd v.acts t B;
      good = subst (Invariant P v.history m (upd v.acts t B)) (sym (forms_set s.threads t x lt)) good;
      made = v.made;
      forks = length-set s.threads t x ∙ v.forks;
    }

    valid_new :
        (x : ℕ) (c : Code) (e : Env) (fs : List Frame) → thread s t ≡ at (new x c) e fs
        → Valid P (record { threads = set s.threads t (at c (bind x s.made e) fs); made = suc s.made })
    valid_new x c e fs eq =
        let B = v.acts t in
        let K : History = with_lock v.history (item B (makes x)) in
        let y : Thread = at c (bind x s.made e) fs in
        record {
          history = K;
          serials = v.serials;
          acts = upd v.acts t B;
          good =
              subst (Invariant P K v.serials (upd v.acts t B))
              (sym (forms_set s.threads t y (running s t _ e fs eq)))
              (rw v.made (step_new P v.history v.serials v.acts (thread s) v.good t x c e fs eq));
          made = ap suc v.made;
          forks = length-set s.threads t y ∙ v.forks;
        }

    valid_fork :
        (i : ℕ) (c d : Code) (e : Env) (fs : List Frame) → thread s t ≡ at (fork i c d) e fs
        → Valid P (record { threads = set s.threads t (at d e fs) ++ (at c e [] ∷ []); made = s.made })
    valid_fork i c d e fs eq =
        let B = v.acts t in
        let K : History = with_thread v.history (item B (starts i)) in
        let acts₂ = upd (upd v.acts t B) (suc v.history.forks) B in
        record {
          history = K;
          serials = v.serials;
          acts = acts₂;
          good =
              subst (Invariant P K v.serials acts₂) (sym same)
              (step_fork P v.history v.serials v.acts (thread s) v.good t i c d e fs eq);
          made = v.made;
          forks =
              length-append old (at c e [] ∷ [])
              ∙ (let q : length old ≡ suc v.history.forks = len in omega arith);
        }
      where
        old : List Thread
        old = set s.threads t (at d e fs)

        len : length old ≡ suc v.history.forks
        len = length-set s.threads t (at d e fs) ∙ v.forks

        same :
            forms (old ++ (at c e [] ∷ []))
            ≡ upd (upd (thread s) t (at d e fs)) (suc v.history.forks) (at c e [])
        same =
            forms_add old (at c e [])
            ∙ (λ k. upd (forms_set s.threads t (at d e fs) (running s t _ e fs eq) k) (len k) (at c e []))

  module _ (wf : WellFormed P) where
    valid_step : (s : State) → Valid P s → (t : ℕ) (a : Side) (x : Thread) → thread s t ≡ x → Valid P (step P s t a x)
    unfolding step
    valid_step s v t a ended eq = v
    valid_step s v t a (at end e []) eq =
        valid_put s v t ended (v.acts t) v.serials (running s t _ e _ eq)
        (step_ended P v.history v.serials v.acts (thread s) v.good t e eq)
    valid_step s v t a (at end e (frame o f c ∷ fs)) eq =
        valid_put s v t (at c f fs) _ v.serials (running s t _ e _ eq)
        (step_end P v.history v.serials v.acts (thread s) v.good t e o f c fs eq)
    valid_step s v t a (at (new x c) e fs) eq = valid_new s v t x c e fs eq
    valid_step s v t a (at (lock x c d) e fs) eq =
        elim (taken? s t (e x))
        as (λ k. Valid P (elim k [ yes h ↦ s | no m ↦ put s t (at c e (frame (held (e x)) e d ∷ fs)) ])) [
          | yes h ↦ v
          | no m ↦ valid_put s v t _ (v.acts t) v.serials (running s t _ e fs eq)
              (step_lock P v.history v.serials v.acts (thread s) v.good t x c d e fs eq
              (λ u ne h. m (u, (ne, h))))
        ]
    valid_step s v t a (at (fork i c d) e fs) eq = valid_fork s v t i c d e fs eq
    valid_step s v t first (at (choice c d g) e fs) eq =
        valid_put s v t _ (v.acts t) v.serials (running s t _ e fs eq)
        (step_first P v.history v.serials v.acts (thread s) v.good t c d g e fs eq)
    valid_step s v t second (at (choice c d g) e fs) eq =
        valid_put s v t _ (v.acts t) v.serials (running s t _ e fs eq)
        (step_second P v.history v.serials v.acts (thread s) v.good t c d g e fs eq)
    valid_step s v t a (at (call r xs c) e fs) eq =
        let w = step_call P v.history v.serials v.acts (thread s) v.good t wf r xs c e fs eq in
        valid_put s v t _ w.0 (suc v.serials) (running s t _ e fs eq) w.1
    valid_step s v t a (at (mirror x y c) e fs) eq =
        valid_put s v t _ (v.acts t) v.serials (running s t _ e fs eq)
        (step_mirror P v.history v.serials v.acts (thread s) v.good t x y c e fs eq)

    -- the history of the start
    abbrev nothing : History
    nothing = record { maker = λ l. item root (makes 0); made = 0; starter = λ l. item root (makes 0); forks = 0 }

    nothing_ran : (k : Item) → Ran nothing k → ⊥
    nothing_ran k (inl d) = not-suc-le-zero d.1
    nothing_ran k (inr d) = not-suc-le-zero d.1

    start_here : Here P nothing 0 root (λ x. 0) (body P 0) []
    start_here = record {
      place = at_head;
      scope = names (params P 0);
      by = refl;
      inside = λ a b l w k. records w k;
      scoped = wf.scoped 0 wf.some_routine;
      stands = λ x i. absurd (rw wf.main at i);
      kept = λ z i. absurd i;
      over = λ u i. absurd i;
      reach = λ q i. then reached-first i;
    }

    start_good : Invariant P nothing 1 (λ u. root) (thread (start P))
    start_good = record {
      explained = explained;
      alone = λ u v l i. absurd (idle u l i);
      apart = apart;
      unrun = λ u k i r. nothing_ran k r;
      young = young;
      ran_young = λ k r. absurd (nothing_ran k r);
      made_once = λ k p q. absurd (not-suc-le-zero p.1);
      started_once = λ k p q. absurd (not-suc-le-zero p.1);
    }
      where
        explained : (u : ℕ) → Explained P nothing u root (thread (start P) u)
        explained zero = (
          start_here,
          tt,
          rw append-nil (NoDup-map (item root) (λ x y q. cc) (onces (body P 0)) (wf.once 0 wf.some_routine)),
          tt,
        )
        explained (suc u) = tt

        idle : (u l : ℕ) → Holds (thread (start P) u) l → ⊥
        idle zero l i = i
        idle (suc u) l i = i

        apart :
            (u v : ℕ) (k : Item) → In k (todo root (thread (start P) u)) → In k (todo root (thread (start P) v)) → u ≡ v
        apart zero zero k i j = refl
        apart zero (suc v) k i j = absurd j
        apart (suc u) v k i j = absurd i

        young : (u : ℕ) (k : Item) → In k (todo root (thread (start P) u)) → age k < 1
        young zero k i =
            let q = In-map (item root) k (onces (body P 0)) (rw append-nil at i) in
            let a : age k ≡ 0 = ap age q.2 in omega arith
        young (suc u) k i = absurd i

    valid_run : (turns : List Turn) (s : State) → Valid P s → Valid P (run P s turns)
    valid_run [] s v = v
    valid_run (k ∷ turns) s v = valid_run turns (turn P s k) (valid_step s v k.0 k.1 (thread s k.0) refl)

    -- the invariant holds after every list of turns
    pub valid : (turns : List Turn) → Valid P (run P (start P) turns)
    valid turns =
        valid_run turns (start P)
        (record { history = nothing; serials = 1; acts = λ u. root; good = start_good; made = refl; forks = refl })

    -- at no moment do two threads hold one lock
    pub one_holder :
        (turns : List Turn) (u v l : ℕ)
        → Holds (thread (run P (start P) turns) u) l → Holds (thread (run P (start P) turns) v) l → u ≡ v
    one_holder turns = (valid turns).good.alone
