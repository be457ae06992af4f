-- At its place stands what a thread has still to do, in every state of every run.
use Rattle.std.specs.Prelude.{◌≡◌, refl, ◌≢◌, ℕ, zero, suc, ◌+◌, ◌<◌, get_or, take, drop}
use Rattle.std.proofs.Common.{sym, ◌∙◌, ap, subst, inl, inr, length-set, length-append, get_or-set_same, get_or-set_other}
use mathlib.Core.List.{List, [], ◌∷◌, ◌++◌, append_assoc}
use native.Mathlib.Omega.{arith}
use Rattle.std.proofs.Math.Decide.{dec_lt, ℕ_discrete}
use Rattle.std.proofs.Math.ListN.{length, set, get_or-eq_default}
use Rattle.std.proofs.Math.Seq.{drop-append-add}
use Rattle.table.specs.Constants.{Op, END, OTHER}
use Rattle.table.specs.Program.{Program, Code, end, new, lock, fork, choice, call, mirror, params, body, names}
use Rattle.table.specs.WellFormed.{In, Scoped, WellFormed}
use Rattle.rules.specs.Model.{bind}
use Rattle.table.specs.Encoding.{encode, encode_bodies}
use Rattle.table.proofs.Laws.Within.{bodies_from}
use Rattle.run.specs.Run.{Env, held, alternative, called, Frame, frame, Thread, ended, at, State, start, thread, taken?}
use Rattle.run.specs.Run.{Side, first, second, Turn, step, turn, run, put, pass, holds}
use Rattle.schedule.specs.Places.{Place, here_of, later_of, place_of, size, body_of, on, into, places_step}
use Rattle.schedule.specs.Places.{places_turn, places_from, places, Stands, GoesOn}
use Rattle.links.specs.Laws.Bytes.{drop_next, drop_past}
use Rattle.runner.proofs.Laws.Codes.{code_at, Begins, begins_new, begins_mirror, begins_lock, begins_fork}
use Rattle.runner.proofs.Laws.Codes.{begins_choice, begins_call, begins_here, begins_body}
use Rattle.runner.proofs.Laws.Forks.{more_long, more_old, more_new}

-- the code stands at its place, closed by an item of the kind z, and whatever else stands before the same offset goes
-- on as well
pub record Onward (s : List ℕ) (p : Place) (c : Code) (fs : List Frame) : Type 0 where
  pub z : Op
  pub to : ℕ
  pub stands : Stands s z (here_of p) c to
  pub else : (from : ℕ) (d : Code) → Stands s z from d to → GoesOn s (from ∷ later_of p) d fs

pub onward : (s : List ℕ) (p : Place) (c : Code) (fs : List Frame) → GoesOn s p c fs → Onward s p c fs
onward s p c [] g = record { z = END; to = g.0; stands = g.1; else = λ from d h. (g.0, h) }
onward s p c (frame (held l) e b ∷ fs) g =
    record { z = END; to = here_of (later_of p); stands = g.0; else = λ from d h. (h, g.1) }
onward s p c (frame alternative e b ∷ fs) (inl g, k) =
    record { z = END; to = here_of (later_of p); stands = g; else = λ from d h. (inl h, k) }
onward s p c (frame alternative e b ∷ fs) (inr g, k) =
    record { z = OTHER; to = g.0; stands = g.2; else = λ from d h. (inr (g.0, g.1, h, g.3), k) }
onward s p c (frame called e b ∷ fs) g =
    record { z = END; to = g.0.0; stands = g.0.1; else = λ from d h. ((g.0.0, h), g.1) }

-- bytes after two lists
past_block : (s : List ℕ) (from : ℕ) (xs ys l : List ℕ) → drop from s ≡ (xs ++ ys) ++ l
    → (drop from s ≡ xs ++ drop (from + length xs) s) × (drop (from + length xs) s ≡ ys ++ l)
past_block s from xs ys l h =
    let g = h ∙ append_assoc xs ys l in
    let k = drop_past s from xs (ys ++ l) g in
    (g ∙ ap (λ (v : List ℕ). xs ++ v) (sym k), k)

-- two bytes on
two_on : (s : List ℕ) (from x y : ℕ) (l : List ℕ) → drop from s ≡ x ∷ (y ∷ l) → drop (from + 2) s ≡ l
two_on s from x y l h =
    let e : from + 2 ≡ from + 1 + 1 = omega arith in
    rw e (drop_next s (from + 1) y l (drop_next s from x (y ∷ l) h))

-- every call of the code is of a routine of the program
abbrev pub Known : Program → Code → Type 0
Known P end = Unit {0}
Known P (new x c) = Known P c
Known P (lock x c d) = Known P c × Known P d
Known P (fork i c d) = Known P c × Known P d
Known P (choice a b c) = Known P a × Known P b × Known P c
Known P (call r xs c) = (r < length P) × Known P c
Known P (mirror x y c) = Known P c

known : (P : Program) (k : ℕ) (s : List ℕ) (c : Code) → Scoped P k s c → Known P c
known P k s end h = tt
known P k s (new x c) h = known P k (x ∷ s) c h.1
known P k s (lock x c d) h = (known P k s c h.1, known P k s d h.2)
known P k s (fork i c d) h = (known P k s c h.0, known P k s d h.1)
known P k s (choice a b c) h = (known P k s a h.0, known P k s b h.1, known P k s c h.2)
known P k s (call r xs c) h = (h.0, known P k s c h.3)
known P k s (mirror x y c) h = known P k (x ∷ s) c h.2

abbrev AllKnown : Program → List Frame → Type 0
AllKnown P [] = Unit {0}
AllKnown P (frame o e c ∷ fs) = Known P c × AllKnown P fs

-- what a thread has still to do stands at its place
abbrev pub StandsAt : Program → Place → Thread → Type 0
StandsAt P p ended = Unit {0}
StandsAt P p (at c e fs) = GoesOn (encode_bodies P) p c fs

-- what the frames go on with begins where they do
abbrev Later : Program → Place → List Frame → Type 0
Later P p [] = Unit {0}
Later P p (frame o e c ∷ fs) = Begins P (here_of p) c × Later P (later_of p) fs

-- so it does, its calls are known, and its codes begin there
abbrev Good : Program → Place → Thread → Type 0
Good P p ended = Unit {0}
Good P p (at c e fs) =
    GoesOn (encode_bodies P) p c fs × Known P c × AllKnown P fs × Begins P (here_of p) c × Later P (later_of p) fs

-- the bodies from routine r on stand where its body starts
from_body : (P : Program) (r : ℕ) → drop (body_of P r) (encode_bodies P) ≡ encode_bodies (drop r P)
from_body [] zero = refl
from_body [] (suc r) = refl
from_body (q ∷ P) zero = whole (encode_bodies (q ∷ P))
  where
    whole : (l : List ℕ) → drop 0 l ≡ l
    whole [] = refl
    whole (x ∷ l) = refl
from_body (q ∷ P) (suc r) =
    ap (λ (n : ℕ). drop n (encode END q.code ++ encode_bodies P))
    (length-append (encode END q.code) (encode_bodies (take r P)))
    ∙ drop-append-add (encode END q.code) (encode_bodies P) (body_of P r) ∙ from_body P r

-- and the body itself
body_stands : (P : Program) (r : ℕ) → r < length P
    → Stands (encode_bodies P) END (body_of P r) (body P r) (body_of P r + size END (body P r))
body_stands P r h =
    let e = from_body P r ∙ bodies_from P r h in
    e ∙ ap (λ (l : List ℕ). encode END (body P r) ++ l)
    (sym (drop_past (encode_bodies P) (body_of P r) (encode END (body P r)) (encode_bodies (drop (suc r) P)) e))

module _ (P : Program) where
  abbrev B : List ℕ
  B = encode_bodies P

  -- the places are as many as the threads, and each thread is good at its place
  pub record AllGood (s : State) (ps : List Place) : Type 0 where
    pub as_many : length ps ≡ length s.threads
    pub good : (t : ℕ) → Good P (place_of ps t) (thread s t)

  -- a thread becomes x, at the place p
  put_good : (s : State) (ps : List Place) (t made : ℕ) (p : Place) (x : Thread) → AllGood s ps
      → t < length s.threads → Good P p x
      → AllGood (record { threads = set s.threads t x; made = made }) (set ps t p)
  put_good s ps t made p x a within g = record {
    as_many = length-set ps t p ∙ a.as_many ∙ sym (length-set s.threads t x);
    good = λ u. by u (ℕ_discrete u t);
  }
    where
      by : (u : ℕ) → Dec (u ≡ t) → Good P (place_of (set ps t p) u) (get_or (set s.threads t x) u ended)
      by u (yes e) =
          let known : t < length ps = let q = a.as_many in omega (arith, within, q) in
          rw (e, get_or-set_same ps t p [] known, get_or-set_same s.threads t x ended within) g
      by u (no n) = rw (get_or-set_other ps t u p [] n, get_or-set_other s.threads t u x ended n) (a.good u)

  -- one more thread x, at the place p
  more_good : (s : State) (ps : List Place) (p : Place) (x : Thread) → AllGood s ps → Good P p x
      → AllGood (record { threads = s.threads ++ (x ∷ []); made = s.made }) (ps ++ (p ∷ []))
  more_good s ps p x a g = record {
    as_many = more_long ps p ∙ ap suc a.as_many ∙ sym (more_long s.threads x);
    good = λ u. by u (ℕ_discrete u (length s.threads));
  }
    where
      by : (u : ℕ) → Dec (u ≡ length s.threads)
          → Good P (place_of (ps ++ (p ∷ [])) u) (get_or (s.threads ++ (x ∷ [])) u ended)
      by u (yes e) =
          subst (λ (q : Place). Good P q (get_or (s.threads ++ (x ∷ [])) u ended))
          (sym (ap (place_of (ps ++ (p ∷ []))) (e ∙ sym a.as_many) ∙ more_new ps p []))
          (subst (λ (y : Thread). Good P p y)
          (sym (ap (λ (i : ℕ). get_or (s.threads ++ (x ∷ [])) i ended) e ∙ more_new s.threads x ended)) g)
      by u (no n) =
          subst (λ (q : Place). Good P q (get_or (s.threads ++ (x ∷ [])) u ended))
          (sym (more_old ps p [] u (λ q. n (q ∙ a.as_many))))
          (subst (λ (y : Thread). Good P (place_of ps u) y) (sym (more_old s.threads x ended u n)) (a.good u))

  -- a thread that has not ended was started
  started : (s : State) (t : ℕ) (c : Code) (e : Env) (fs : List Frame) → thread s t ≡ at c e fs
      → t < length s.threads
  started s t c e fs h = by (dec_lt t (length s.threads))
    where
      by : Dec (t < length s.threads) → t < length s.threads
      by (yes l) = l
      by (no n) =
          let past : thread s t ≡ ended = get_or-eq_default s.threads ended (omega (arith, n)) in
          absurd (let q : ended ≡ at c e fs = sym past ∙ h in let y : ◌≡◌ {A = ℕ} 0 1 = cc in omega arith)

  -- where a CHOICE stands, so do its alternatives and what follows
  chosen : (p : Place) (c d f : Code) (fs : List Frame) → GoesOn B p (choice c d f) fs
      → Stands B OTHER (here_of p + 1) c (here_of p + (1 + size OTHER c))
      × Stands B END (here_of p + (1 + size OTHER c)) d (here_of p + (1 + size OTHER c + size END d))
      × GoesOn B (on (1 + size OTHER c + size END d) p) f fs
  chosen p c d f fs k =
      let h = here_of p in
      let o = onward B p (choice c d f) fs k in
      let m : h + (1 + size OTHER c) ≡ h + 1 + size OTHER c = omega arith in
      let n : h + (1 + size OTHER c + size END d) ≡ h + (1 + size OTHER c) + size END d = omega arith in
      let a = past_block B (h + 1) (encode OTHER c) (encode END d ++ encode o.z f) (drop o.to B)
      (drop_next B h _ _ o.stands) in
      let b = past_block B (h + (1 + size OTHER c)) (encode END d) (encode o.z f) (drop o.to B) (rw m a.1) in
      (rw m a.0, rw n b.0, o.else (h + (1 + size OTHER c + size END d)) f (rw n b.1))

  module _ (bodies : (r : ℕ) → r < length P → Known P (body P r)) where
    -- a step keeps them so
    step_good : (s : State) (ps : List Place) (t : ℕ) (a : Side) (x : Thread) → AllGood s ps → thread s t ≡ x
        → Good P (place_of ps t) x → AllGood (step P s t a x) (places_step P s ps t a x)
    unfolding step places_step
    step_good s ps t a ended g is k = g
    step_good s ps t a (at end e []) g is k =
        put_good s ps t s.made (later_of (place_of ps t)) ended g (started s t end e [] is) tt
    step_good s ps t a (at end e (frame (held l) f d ∷ fs)) g is k =
        put_good s ps t s.made (later_of (place_of ps t)) (at d f fs) g
        (started s t end e (frame (held l) f d ∷ fs) is) (k.0.1, k.2.0, k.2.1, k.4.0, k.4.1)
    step_good s ps t a (at end e (frame alternative f d ∷ fs)) g is k =
        put_good s ps t s.made (later_of (place_of ps t)) (at d f fs) g
        (started s t end e (frame alternative f d ∷ fs) is) (k.0.1, k.2.0, k.2.1, k.4.0, k.4.1)
    step_good s ps t a (at end e (frame called f d ∷ fs)) g is k =
        put_good s ps t s.made (later_of (place_of ps t)) (at d f fs) g
        (started s t end e (frame called f d ∷ fs) is) (k.0.1, k.2.0, k.2.1, k.4.0, k.4.1)
    step_good s ps t a (at (new x c) e fs) g is k =
        let h = here_of (place_of ps t) in
        let o = onward B (place_of ps t) (new x c) fs k.0 in
        put_good s ps t (suc s.made) (on 1 (place_of ps t)) (at c (bind x s.made e) fs) g
        (started s t (new x c) e fs is)
        (o.else (h + 1) c (drop_next B h _ _ o.stands), k.1, k.2, begins_new P h x c k.3, k.4)
    step_good s ps t a (at (mirror x y c) e fs) g is k =
        let h = here_of (place_of ps t) in
        let o = onward B (place_of ps t) (mirror x y c) fs k.0 in
        put_good s ps t s.made (on 2 (place_of ps t)) (at c (bind x (e y) e) fs) g
        (started s t (mirror x y c) e fs is)
        (o.else (h + 2) c (two_on B h _ _ _ o.stands), k.1, k.2, begins_mirror P h x y c k.3, k.4)
    step_good s ps t a (at (lock x c d) e fs) g is k = by (taken? s t (e x))
      where
        by : (q : Dec ((u : ℕ) × ((u ≢ t) × In (e x) (holds (thread s u)))))
            → AllGood (elim q [ yes h ↦ s | no n ↦ put s t (at c e (frame (held (e x)) e d ∷ fs)) ])
            (elim q [ yes h ↦ ps | no n ↦ set ps t (into 2 (2 + size END c) (place_of ps t)) ])
        by (yes h) = g
        by (no n) =
            let h = here_of (place_of ps t) in
            let o = onward B (place_of ps t) (lock x c d) fs k.0 in
            let m : h + (2 + size END c) ≡ h + 2 + size END c = omega arith in
            let b = past_block B (h + 2) (encode END c) (encode o.z d) (drop o.to B)
            (two_on B h _ _ _ o.stands) in
            let q = begins_lock P h x c d k.3 in
            put_good s ps t s.made (into 2 (2 + size END c) (place_of ps t)) (at c e (frame (held (e x)) e d ∷ fs)) g
            (started s t (lock x c d) e fs is) (
              (rw m b.0, o.else (h + (2 + size END c)) d (rw m b.1)),
              k.1.0,
              (k.1.1, k.2),
              q.0,
              (q.1, k.4),
            )
    step_good s ps t a (at (fork i c d) e fs) g is k =
        let h = here_of (place_of ps t) in
        let o = onward B (place_of ps t) (fork i c d) fs k.0 in
        let m : h + (1 + size END c) ≡ h + 1 + size END c = omega arith in
        let b = past_block B (h + 1) (encode END c) (encode o.z d) (drop o.to B) (drop_next B h _ _ o.stands)
        in
        let q = begins_fork P h i c d k.3 in
        more_good (put s t (at d e fs)) (set ps t (on (1 + size END c) (place_of ps t))) ((h + 1) ∷ []) (at c e [])
        (put_good s ps t s.made (on (1 + size END c) (place_of ps t)) (at d e fs) g
        (started s t (fork i c d) e fs is) (
          o.else (h + (1 + size END c)) d (rw m b.1),
          k.1.1,
          k.2,
          q.1,
          k.4,
        ))
        ((h + 1 + size END c, b.0), k.1.0, tt, q.0, tt)
    step_good s ps t first (at (choice c d f) e fs) g is k =
        put_good s ps t s.made (into 1 (1 + size OTHER c + size END d) (place_of ps t))
        (at c e (frame alternative e f ∷ fs)) g (started s t (choice c d f) e fs is)
        (let h = here_of (place_of ps t) in
        let q = chosen (place_of ps t) c d f fs k.0 in
        let b = begins_choice P h c d f k.3 in
        ((inr (h + (1 + size OTHER c), d, q.0, q.1), q.2), k.1.0, (k.1.2, k.2), b.0, (b.2, k.4)))
    step_good s ps t second (at (choice c d f) e fs) g is k =
        put_good s ps t s.made (into (1 + size OTHER c) (1 + size OTHER c + size END d) (place_of ps t))
        (at d e (frame alternative e f ∷ fs)) g (started s t (choice c d f) e fs is)
        (let q = chosen (place_of ps t) c d f fs k.0 in
        let b = begins_choice P (here_of (place_of ps t)) c d f k.3 in
        ((inl q.1, q.2), k.1.1, (k.1.2, k.2), b.1, (b.2, k.4)))
    step_good s ps t a (at (call r xs c) e fs) g is k =
        let h = here_of (place_of ps t) in
        let o = onward B (place_of ps t) (call r xs c) fs k.0 in
        let m : h + (2 + length xs) ≡ h + 2 + length xs = omega arith in
        let b = past_block B (h + 2) xs (encode o.z c) (drop o.to B) (two_on B h _ _ _ o.stands) in
        put_good s ps t s.made (body_of P r ∷ on (2 + length xs) (place_of ps t))
        (at (body P r) (pass xs e) (frame called e c ∷ fs)) g (started s t (call r xs c) e fs is) (
          (
            (body_of P r + size END (body P r), body_stands P r k.1.0),
            o.else (h + (2 + length xs)) c (rw m b.1),
          ),
          bodies r k.1.0,
          (k.1.1, k.2),
          begins_body P r k.1.0,
          (begins_call P h r xs c k.3, k.4),
        )

    -- and so do turns
    turns_good : (s : State) (ps : List Place) (turns : List Turn) → AllGood s ps
        → AllGood (run P s turns) (places_from P s ps turns)
    turns_good s ps [] g = g
    turns_good s ps (k ∷ turns) g =
        turns_good (turn P s k) (places_turn P s ps k) turns
        (step_good s ps k.0 k.1 (thread s k.0) g refl (g.good k.0))

-- in every state of every run each thread is good at its place
all_good : (P : Program) → WellFormed P → (turns : List Turn) (t : ℕ)
    → Good P (place_of (places P turns) t) (thread (run P (start P) turns) t)
all_good P w turns t =
    (turns_good P bodies (start P) ((0 ∷ []) ∷ []) turns (record { as_many = refl; good = begins })).good t
  where
    bodies : (r : ℕ) → r < length P → Known P (body P r)
    bodies r h = known P (params P r) (names (params P r)) (body P r) (w.scoped r h)

    begins : (u : ℕ) → Good P (place_of ((0 ∷ []) ∷ []) u) (thread (start P) u)
    begins zero = (
      (body_of P 0 + size END (body P 0), body_stands P 0 w.some_routine),
      bodies 0 w.some_routine,
      tt,
      begins_body P 0 w.some_routine,
      tt,
    )
    begins (suc u) = tt

-- at its place stands what a thread has still to do, in every state of every run
pub stands_there : (P : Program) → WellFormed P → (turns : List Turn) (t : ℕ)
    → StandsAt P (place_of (places P turns) t) (thread (run P (start P) turns) t)
stands_there P w turns t =
    by (place_of (places P turns) t) (thread (run P (start P) turns) t) (all_good P w turns t)
  where
    by : (p : Place) (x : Thread) → Good P p x → StandsAt P p x
    by p ended g = tt
    by p (at c e fs) g = g.0

-- and the place tells which code it is
abbrev pub CodeIs : Program → Place → Thread → Type 0
CodeIs P p ended = Unit {0}
CodeIs P p (at c e fs) = code_at P (here_of p) ≡ c

pub place_tells : (P : Program) → WellFormed P → (turns : List Turn) (t : ℕ)
    → CodeIs P (place_of (places P turns) t) (thread (run P (start P) turns) t)
place_tells P w turns t =
    by (place_of (places P turns) t) (thread (run P (start P) turns) t) (all_good P w turns t)
  where
    by : (p : Place) (x : Thread) → Good P p x → CodeIs P p x
    by p ended g = tt
    by p (at c e fs) g = begins_here P (here_of p) c g.3
