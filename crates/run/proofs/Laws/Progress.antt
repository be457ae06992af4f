-- Where no line of waiting threads comes back to its start, every thread has ended or some thread can take its next
-- step: else each thread that waits waits for one that waits in turn, and following them, each one met is new,
-- without end.
use Rattle.std.specs.Prelude.{◌≡◌, refl, ◌⊎◌, List, [], ◌∷◌, ◌++◌, ℕ, zero, suc, ◌≤◌, ◌<◌, length}
use Rattle.std.proofs.Common.{sym, subst, inl, inr, arith, le_refl}
use Rattle.std.proofs.Math.Decide.{ℕ_discrete, dec_lt}
use Rattle.std.proofs.Math.ListN.{get_or-eq_default}
use Rattle.table.specs.Program.{Code, end, new, lock, fork, choice, call, mirror}
use Rattle.table.specs.WellFormed.{In}
use Rattle.run.specs.Run.{Env, Frame, Thread, ended, at, Wants, wants, State, thread, taken?}
use Rattle.run.specs.Run.{Waits, Line, CanStep}
use Rattle.rules.proofs.Laws.Lists.{up_to, in_up_to}
use Rattle.table.proofs.Laws.Lists.{out, out_length, out_in}
use Rattle.run.proofs.Laws.Invariant.{Holds}

-- the thread's next item is a LOCK
abbrev Locking : Thread → Type 0
Locking ended = ⊥
Locking (at end e fs) = ⊥
Locking (at (new x c) e fs) = ⊥
Locking (at (lock x c d) e fs) = Unit {0}
Locking (at (fork i c d) e fs) = ⊥
Locking (at (choice a b c) e fs) = ⊥
Locking (at (call r xs c) e fs) = ⊥
Locking (at (mirror x y c) e fs) = ⊥

locking : {x : Thread} {l : ℕ} → Wants x l → Locking x
locking (wants q) = tt

same_lock :
    {x : ℕ} {c d : Code} {e : Env} {fs : List Frame} (y : Thread) (l : ℕ)
    → y ≡ at (lock x c d) e fs → Wants y l → e x ≡ l
same_lock y l eq (wants q) = cc

module _ (s : State) where
  -- thread t has ended, or waits
  abbrev Stuck : ℕ → Type 0
  Stuck t = (thread s t ≡ ended) ⊎ ((u : ℕ) × Waits s t u)

  not_started : (t : ℕ) → ¬ (t < length s.threads) → thread s t ≡ ended
  not_started t n = get_or-eq_default s.threads ended {n = t} (omega arith)

  started : (u l : ℕ) → Holds (thread s u) l → u < length s.threads
  started u l h = elim (dec_lt u (length s.threads)) [ yes p ↦ p | no n ↦ absurd (rw (not_started u n) at h) ]

  status : (t : ℕ) → CanStep s t ⊎ Stuck t
  status t = go (thread s t) refl
    where
      -- a thread whose next item is no LOCK
      free :
          (c : Code) (e : Env) (fs : List Frame) → thread s t ≡ at c e fs → ¬ Locking (at c e fs)
          → CanStep s t ⊎ Stuck t
      free c e fs q n = inl (record {
        not_ended = λ z. (let y : ◌≡◌ {A = ℕ} 0 1 = cc in omega arith);
        free = λ u w. n (rw q at (locking w.1));
      })

      go : (x : Thread) → thread s t ≡ x → CanStep s t ⊎ Stuck t
      go ended q = inr (inl q)
      go (at end e fs) q = free end e fs q (λ n. n)
      go (at (new x c) e fs) q = free (new x c) e fs q (λ n. n)
      go (at (fork i c d) e fs) q = free (fork i c d) e fs q (λ n. n)
      go (at (choice a b c) e fs) q = free (choice a b c) e fs q (λ n. n)
      go (at (call r xs c) e fs) q = free (call r xs c) e fs q (λ n. n)
      go (at (mirror x y c) e fs) q = free (mirror x y c) e fs q (λ n. n)
      go (at (lock x c d) e fs) q = elim (taken? s t (e x)) [
        | yes h ↦ inr (inr (h.0, (e x, rw q (wants refl), h.1.0, h.1.1)))
        | no n ↦ inl (record {
          not_ended = λ z. (let y : ◌≡◌ {A = ℕ} 0 1 = cc in omega arith);
          free = λ u w. n (u, (w.2, rw (same_lock (thread s t) w.0 q w.1) w.3));
        })
      ]

  -- the threads below n
  scan : (n : ℕ) → ((t : ℕ) × CanStep s t) ⊎ ((t : ℕ) → t < n → Stuck t)
  scan zero = inr (λ t lt. absurd (omega arith))
  scan (suc n) = join (status n) (scan n)
    where
      join :
          CanStep s n ⊎ Stuck n → ((t : ℕ) × CanStep s t) ⊎ ((t : ℕ) → t < n → Stuck t)
          → ((t : ℕ) × CanStep s t) ⊎ ((t : ℕ) → t < suc n → Stuck t)
      join (inl c) r = inl (n, c)
      join (inr w) (inl r) = inl r
      join (inr w) (inr f) =
          inr (λ t lt. elim (ℕ_discrete t n) [ yes e ↦ subst Stuck (sym e) w | no m ↦ f t (omega arith) ])

  line_on : (t : ℕ) (us : List ℕ) (z u : ℕ) → Line s t us z → Waits s z u → Line s t (us ++ (z ∷ [])) u
  line_on t [] z u w k = (w, k)
  line_on t (y ∷ us) z u w k = (w.0, line_on y us z u w.1 k)

  module _ (no_closed_line : (t u : ℕ) (us : List ℕ) → Waits s t u → Line s u us t → ⊥) where
    module _ (stuck : (t : ℕ) → Stuck t) where
      -- u waits for t in a line, or is t
      abbrev Behind : ℕ → ℕ → Type 0
      Behind u t = (u ≡ t) ⊎ ((us : List ℕ) × Line s u us t)

      -- every thread is still in the list, or behind t
      abbrev Covered : List ℕ → ℕ → Type 0
      Covered R t = (u : ℕ) → u < length s.threads → In u R ⊎ Behind u t

      moved : (R : List ℕ) (t u : ℕ) → Waits s t u → Covered R t → (i : In u R) → Covered (out u R i) u
      moved R t u w cover i y lt = go (ℕ_discrete y u) (cover y lt)
        where
          go : Dec (y ≡ u) → In y R ⊎ Behind y t → In y (out u R i) ⊎ Behind y u
          go (yes e) c = inr (inl e)
          go (no m) (inl j) = inl (out_in u y R i m j)
          go (no m) (inr (inl e)) = inr (inr ([], subst (λ (z : ℕ). Waits s z u) (sym e) w))
          go (no m) (inr (inr l)) = inr (inr (l.0 ++ (t ∷ []), line_on y l.0 t u l.1 w))

      -- the thread waited for is one of the list
      onward : (R : List ℕ) (t u : ℕ) → Waits s t u → Covered R t → In u R
      onward R t u w cover = go (cover u (started u w.0 w.3))
        where
          go : In u R ⊎ Behind u t → In u R
          go (inl i) = i
          go (inr (inl e)) = absurd (w.2 e)
          go (inr (inr l)) = absurd (no_closed_line t u l.0 w l.1)

      -- a thread that holds a lock has not ended, so it waits
      waits_too : (u l : ℕ) → Holds (thread s u) l → (v : ℕ) × Waits s u v
      waits_too u l h = elim (stuck u) [ inl e ↦ absurd (rw e at h) | inr w ↦ w ]

      follow : (fuel : ℕ) (R : List ℕ) → length R ≤ fuel → (t u : ℕ) → Waits s t u → Covered R t → ⊥
      follow zero R le t u w cover = let e = out_length u R (onward R t u w cover) in omega arith
      follow (suc fuel) R le t u w cover =
          let i = onward R t u w cover in
          let e = out_length u R i in
          let k = waits_too u w.0 w.3 in
          follow fuel (out u R i) (omega arith) u k.0 k.1 (moved R t u w cover i)

      none_waits : (t u : ℕ) → Waits s t u → ⊥
      none_waits t u w =
          let all = up_to (length s.threads) in
          follow (length all) all (le_refl _) t u w (λ y lt. inl (in_up_to y (length s.threads) lt))

    pub progress : ((t : ℕ) → thread s t ≡ ended) ⊎ ((t : ℕ) × CanStep s t)
    progress = elim (scan (length s.threads)) [ inl r ↦ inr r | inr f ↦ inl (λ t. ends (every f) t (every f t)) ]
      where
        every : ((t : ℕ) → t < length s.threads → Stuck t) → (t : ℕ) → Stuck t
        every f t = elim (dec_lt t (length s.threads)) [ yes p ↦ f t p | no n ↦ inl (not_started t n) ]

        ends : ((t : ℕ) → Stuck t) → (t : ℕ) → Stuck t → thread s t ≡ ended
        ends stuck t (inl e) = e
        ends stuck t (inr w) = absurd (none_waits stuck t w.0 w.1)
