-- A record that follows a thread shows it, and routine 0 begins with no LOCK.
use Rattle.std.specs.Prelude.{◌≡◌, refl, Bool, true, false, List, [], ◌∷◌, ◌++◌, ℕ, suc, ◌+◌, ◌-◌, ◌<◌, length, get_or, drop}
use Rattle.std.proofs.Common.{sym, ◌∙◌, ap, subst, inl, inr, append_assoc, arith, add-one}
use Rattle.table.specs.Constants.{END, NEW, LOCK, FORK, CHOICE, OTHER, CALL, MIRROR, code}
use Rattle.table.specs.Program.{Program, Code, end, new, lock, fork, choice, call, mirror, names, params, body}
use Rattle.table.specs.WellFormed.{In, Scoped}
use Rattle.table.specs.Encoding.{encode, WithinLimits}
use Rattle.run.specs.Run.{held, alternative, called, Frame, frame, Thread, ended, at, locks}
use Rattle.schedule.specs.Limits.{most_locks}
use Rattle.steps.specs.declared.thread.Thread.{Thread as Record}
use Rattle.steps.specs.declared.machine.Want.TheVariants.{Free}
use Rattle.links.specs.Laws.Bytes.{op_for, closer_is}
use Rattle.steps.specs.Shown.{Stands, GoesOn, Shows}
use Rattle.links.specs.Lies.{Section, link_at, IsAt, closer, Lies}
use Rattle.runner.specs.Follows.{Rest, AllSmall, Follows}
use Rattle.runner.specs.Tracks.{want_of, SmallWant}
use Rattle.runner.proofs.Laws.Settles.{drop_step}

-- the byte at an offset, and those after it
drop_is : (z : Section) (from b : ℕ) → IsAt z from b → drop from z.bytes ≡ b ∷ drop (from + 1) z.bytes
drop_is z from b i =
    drop_step z.bytes from i.0
    ∙ ap (λ (v : ℕ). v ∷ drop (suc from) z.bytes) i.1
    ∙ ap (λ (v : ℕ). b ∷ drop v z.bytes) (sym (add-one from))

-- the bytes of a list, and those after it
list_is : (z : Section) (from : ℕ) (xs : List ℕ) → ((j : ℕ) → j < length xs → IsAt z (from + j) (get_or xs j 0))
    → drop from z.bytes ≡ xs ++ drop (from + length xs) z.bytes
list_is z from [] h = let e : from + 0 ≡ from = omega arith in rw e refl
list_is z from (x ∷ xs) h =
    let e : from + 0 ≡ from = omega arith in
    let g : from + suc (length xs) ≡ from + 1 + length xs = omega arith in
    drop_is z from x (subst (λ (v : ℕ). IsAt z v x) e (h 0 (omega arith)))
    ∙ ap (λ (v : List ℕ). x ∷ v)
    (list_is z (from + 1) xs (λ j l. let k : from + suc j ≡ from + 1 + j = omega arith in
    subst (λ (v : ℕ). IsAt z v (get_or xs j 0)) k (h (suc j) (omega (arith, l))))
    ∙ ap (λ (v : ℕ). xs ++ drop v z.bytes) (sym g))

-- the bytes of a code that lies at an offset
pub stands : (z : Section) (o : Bool) (from : ℕ) (c : Code) (to : ℕ) → Lies z o from c to → Stands z.bytes
    (op_for o) from c to
stands z o from end to l =
    drop_is z from (closer o) l.0
    ∙ ap (λ (v : ℕ). v ∷ drop (from + 1) z.bytes) (closer_is o)
    ∙ ap (λ (v : ℕ). code (op_for o) ∷ drop v z.bytes) (sym l.1)
stands z o from (new x c) to l =
    drop_is z from (code NEW) l.0 ∙ ap (λ (v : List ℕ). code NEW ∷ v) (stands z o (from + 1) c to l.3)
stands z o from (lock x c d) to l =
    let h : from + 1 + 1 ≡ from + 2 = omega arith in
    drop_is z from (code LOCK) l.0
    ∙ ap (λ (v : List ℕ). code LOCK ∷ v) (drop_is z (from + 1) x l.1)
    ∙ ap (λ (v : ℕ). code LOCK ∷ (x ∷ drop v z.bytes)) h
    ∙ ap (λ (v : List ℕ). code LOCK ∷ (x ∷ v))
    (stands z false (from + 2) c l.3.0 l.3.1
    ∙ ap (λ (v : List ℕ). encode END c ++ v) (stands z o l.3.0 d to l.3.2)
    ∙ sym (append_assoc (encode END c) (encode (op_for o) d) (drop to z.bytes)))
stands z o from (fork i c d) to l =
    drop_is z from (code FORK) l.0
    ∙ ap (λ (v : List ℕ). code FORK ∷ v)
    (stands z false (from + 1) c (link_at z from) l.1
    ∙ ap (λ (v : List ℕ). encode END c ++ v) (stands z o (link_at z from) d to l.2)
    ∙ sym (append_assoc (encode END c) (encode (op_for o) d) (drop to z.bytes)))
stands z o from (choice a b c) to l =
    drop_is z from (code CHOICE) l.0
    ∙ ap (λ (v : List ℕ). code CHOICE ∷ v)
    (stands z true (from + 1) a (link_at z from) l.1
    ∙ ap (λ (v : List ℕ). encode OTHER a ++ v)
    (stands z false (link_at z from) b (link_at z (link_at z from - 1)) l.2
    ∙ ap (λ (v : List ℕ). encode END b ++ v) (stands z o (link_at z (link_at z from - 1)) c to l.3)
    ∙ sym (append_assoc (encode END b) (encode (op_for o) c) (drop to z.bytes)))
    ∙ sym (append_assoc (encode OTHER a) (encode END b ++ encode (op_for o) c) (drop to z.bytes)))
stands z o from (call r xs c) to l =
    let h : from + 1 + 1 ≡ from + 2 = omega arith in
    drop_is z from (code CALL) l.0
    ∙ ap (λ (v : List ℕ). code CALL ∷ v) (drop_is z (from + 1) r l.1)
    ∙ ap (λ (v : ℕ). code CALL ∷ (r ∷ drop v z.bytes)) h
    ∙ ap (λ (v : List ℕ). code CALL ∷ (r ∷ v))
    (list_is z (from + 2) xs (λ j q. (l.5 j q).0)
    ∙ ap (λ (v : List ℕ). xs ++ v) (stands z o (from + 2 + length xs) c to l.6)
    ∙ sym (append_assoc xs (encode (op_for o) c) (drop to z.bytes)))
stands z o from (mirror x y c) to l =
    let h : from + 1 + 1 ≡ from + 2 = omega arith in
    drop_is z from (code MIRROR) l.0
    ∙ ap (λ (v : List ℕ). code MIRROR ∷ v) (drop_is z (from + 1) y l.3)
    ∙ ap (λ (v : ℕ). code MIRROR ∷ (y ∷ drop v z.bytes)) h
    ∙ ap (λ (v : List ℕ). code MIRROR ∷ (y ∷ v)) (stands z o (from + 2) c to l.5)

-- the code closed by END stands there
stands_end : (z : Section) (q : Bool) (from : ℕ) (c : Code) (to : ℕ) → q ≡ false → Lies z q from c to
    → Stands z.bytes END from c to
stands_end z q from c to e l = stands z false from c to (subst (λ (v : Bool). Lies z v from c to) e l)

-- what the frames go on with
pub goes_on : (z : Section) (goes : List ℕ) (fs : List Frame) (q : Bool) (from : ℕ) (c : Code) (to : ℕ)
    → Lies z q from c to
    → Rest z goes q to fs → GoesOn z.bytes goes from c fs
goes_on z goes [] q from c to l r = (to, stands_end z q from c to r l)
goes_on z goes (frame (held k) e d ∷ fs) q from c to l r =
    (to, stands_end z q from c to r.0 l, goes_on z goes fs r.1.0 to d r.1.1 r.1.2 r.1.3)
goes_on z goes (frame alternative e d ∷ fs) false from c to l r =
    inl (to, stands z false from c to l, goes_on z goes fs r.1.0 to d r.1.1 r.1.2 r.1.3)
goes_on z goes (frame alternative e d ∷ fs) true from c to l r =
    let second = r.0 refl in
    inr (
      to,
      second.0,
      link_at z (to - 1),
      stands z true from c to l,
      stands z false to second.0 (link_at z (to - 1)) second.1,
      goes_on z goes fs r.1.0 (link_at z (to - 1)) d r.1.1 r.1.2 r.1.3,
    )
goes_on z goes (frame called e d ∷ fs) q from c to l r = (
  (to, stands_end z q from c to r.0 l),
  goes_on z goes fs r.1.0 (get_or goes (length fs) 0) d r.1.1 r.1.2 r.1.3,
)

-- every lock held is small
low_locks : (fs : List Frame) → AllSmall fs → (l : ℕ) → In l (locks fs) → l < most_locks
low_locks [] a l i = absurd i
low_locks (frame (held k) e c ∷ fs) a l (inl q) = let h = a.0 in omega (arith, h, q)
low_locks (frame (held k) e c ∷ fs) a l (inr i) = low_locks fs a.2 l i
low_locks (frame alternative e c ∷ fs) a l i = low_locks fs a.2 l i
low_locks (frame called e c ∷ fs) a l i = low_locks fs a.2 l i

-- a record that follows a thread shows it
pub shows : (z : Section) (x : Thread) (r : Record) → Follows z x r → Shows z.bytes x r
shows z ended r f = f
shows z (at c e fs) r f = record {
  runs = f.runs;
  deep = f.deep;
  goes_on = goes_on z r.goes fs f.stand.0 r.at c f.stand.1 f.stand.2 f.stand.3;
  names = f.names;
  frames = f.frames;
  locks_low = low_locks fs f.all_small;
}

-- with no name in scope a code begins with no LOCK
free_code : (P : Program) (k : ℕ) (c : Code) → Scoped P k [] c → want_of (at c (λ x. 0) []) ≡ Free
free_code P k end s = refl
free_code P k (new x c) s = refl
free_code P k (lock x c d) s = absurd s.0
free_code P k (fork i c d) s = refl
free_code P k (choice a b c) s = refl
free_code P k (call r xs c) s = refl
free_code P k (mirror x y c) s = refl

small_code : (P : Program) (k : ℕ) (c : Code) → Scoped P k [] c → SmallWant (at c (λ x. 0) [])
small_code P k end s = tt
small_code P k (new x c) s = tt
small_code P k (lock x c d) s = absurd s.0
small_code P k (fork i c d) s = tt
small_code P k (choice a b c) s = tt
small_code P k (call r xs c) s = tt
small_code P k (mirror x y c) s = tt

-- routine 0 has no parameter
first_scoped : (P : Program) → WithinLimits P → Scoped P (params P 0) [] (body P 0)
first_scoped P h =
    subst (λ (v : List ℕ). Scoped P (params P 0) v (body P 0)) (ap names h.main) (h.fits 0
    h.some_routine).scoped

pub begins_free : (P : Program) → WithinLimits P → want_of (at (body P 0) (λ x. 0) []) ≡ Free
begins_free P h = free_code P (params P 0) (body P 0) (first_scoped P h)

pub begins_small : (P : Program) → WithinLimits P → SmallWant (at (body P 0) (λ x. 0) [])
begins_small P h = small_code P (params P 0) (body P 0) (first_scoped P h)
