-- Two sections compared before the body of one routine and after it: they differ in that body at most where both are the
-- same, and nowhere else.
use mathlib.Core.Path.{◌≡◌, sym, ap, ◌∙◌}
use mathlib.Core.Bool.{Bool, true, false}
use mathlib.Core.List.{List, ◌++◌}
use Prim.Native.Nat.{ℕ, suc, ◌+◌, ◌-◌, ◌≤◌, ◌<◌}
use native.Mathlib.Omega.{arith}
use lib.ListN.{length, get_or, take, drop, length-drop, take-append-drop}
use lib.Seq.{take_all}
use Rattle.table.specs.Constants.{END}
use Rattle.table.specs.Program.{Program, body}
use Rattle.table.specs.Encoding.{encode, encode_bodies, counts}
use Rattle.table.specs.Laws.Fine.{IsBody}
use Rattle.table.specs.Laws.Sections.{Holds}
use Rattle.table.proofs.Laws.Sections.{routines, few}
use Rattle.rounds.specs.OneBody.{OnlyBody}
use Rattle.rounds.proofs.Laws.OneBody.{SameBytes, prefix_unique, only_body_of_bytes, bytes_of_only_body}
use Rattle.pairs.specs.Parts.{Scans}
use Rattle.settle.specs.Bodies.{start_of, BodyOf}
use Rattle.settle.specs.Laws.Starts.{length_before, start_within, bodies_before_lem, bodies_from, start_next}
use Rattle.settle.specs.Laws.Surveys.{rest, fine_here, bytes_here, is_body}
use Rattle.update.specs.Parts.{Answers, SameBefore, CanPass, SameAfter, CanCompare, Compares}

-- what a test tells of a fact it tells of one that holds where the first does
pub answers_map : (c : Bool) {A B : Type 0} → (A → B) → (B → A) → Answers c A → Answers c B
answers_map true f g t = f t
answers_map false f g t = λ b. t (g b)

-- the parts before an offset, as code cuts them
pub before_told : (s t : List ℕ) (at : ℕ) (c : Bool) → at ≤ length s
    → Answers c (take (at - 0) (drop 0 s) ≡ take (at - 0) (drop 0 t)) → Answers c (SameBefore s t at)
before_told s t at c l w =
    let e : at - 0 ≡ at = omega arith in
    let w' : Answers c (take at s ≡ take at t) = rw e at w in
    answers_map c (λ q. (l, q)) (λ q. q.1) w'

-- the body of routine r is at the offset
module _ (P : Program) (ks s : List ℕ) (at r : ℕ) (o : BodyOf P ks s at r) where
  pub can_scan : ((k : ℕ) × IsBody ks k s at) × (length ks ≤ 64)
  can_scan = ((get_or ks r 0, is_body P ks s o.holds r o.listed at o.starts), few ks s (P, o.holds))

  -- a scan ends where the next body starts
  module _ (next mask : ℕ) (sc : Scans ks s at next mask) where
    end_is : next ≡ start_of P (suc r)
    end_is =
        sc.ends (get_or ks r 0) (body P r) (rest P ks s o.holds r o.listed)
        (fine_here P ks s o.holds r o.listed)
        (ap (λ (v : ℕ). drop v s) o.starts ∙ bytes_here P ks s o.holds r o.listed)
        ∙ ap (λ (v : ℕ). v + length (encode END (body P r))) o.starts ∙ sym (start_next P r o.listed)

    pub end_within : next ≤ length s
    end_within = rw (end_is, o.holds.bytes_are) (start_within P (suc r))

    -- what is left, as code cuts it
    pub left_is : take (length s - next) (drop next s) ≡ encode_bodies (drop (suc r) P)
    left_is =
        take_all (length s - next) (drop next s) (let d = length-drop next s in omega arith)
        ∙ ap (λ (v : ℕ). drop v s) end_is ∙ ap (drop (start_of P (suc r))) o.holds.bytes_are
        ∙ bodies_from P (suc r)

-- the parts after the two bodies, as code cuts them
pub after_told : (ks s t : List ℕ) (at e f m n : ℕ) (c : Bool) → Scans ks s at e m → Scans ks t at f n
    → Answers c (take (length s - e) (drop e s) ≡ take (length t - f) (drop f t)) → SameAfter ks s t at c
after_told ks s t at e f m n c sc tc w P Q r p q =
    answers_map c (λ x. sym (left_is P ks s at r p e m sc) ∙ x ∙ left_is Q ks t at r q f n tc)
    (λ x. left_is P ks s at r p e m sc ∙ x ∙ sym (left_is Q ks t at r q f n tc)) w

-- the first section holds P, and the second Q, whose routine r has its body at the offset
module _ (P Q : Program) (ks s t : List ℕ) (at r : ℕ) (p : Holds P ks s) (q : BodyOf Q ks t at r) where
  same_counts : counts P ≡ counts Q
  same_counts = sym p.params_are ∙ q.holds.params_are

  listed : r < length P
  listed =
      let e = routines P ks s p in
      let f = routines Q ks t q.holds in
      let l = q.listed in
      omega arith

  pub offset_there : at ≤ length t
  offset_there = rw (q.starts, q.holds.bytes_are) (start_within Q r)

  second_before : take at t ≡ encode_bodies (take r Q)
  second_before =
      ap (take at) q.holds.bytes_are ∙ ap (λ (v : ℕ). take v (encode_bodies Q)) q.starts ∙ bodies_before_lem Q r

  module _ (w : SameBefore s t at) where
    same_routines : take r P ≡ take r Q
    same_routines =
        prefix_unique P Q P Q (drop at s) r same_counts p.limits.fits q.holds.limits.fits same_counts
        (sym p.bytes_are ∙ sym (take-append-drop at s)
        ∙ ap (λ (v : List ℕ). v ++ drop at s) (w.1 ∙ second_before))

    pub first_body : BodyOf P ks s at r
    first_body = record {
      holds = p;
      listed = listed;
      starts =
          q.starts ∙ sym (length_before Q r) ∙ ap (λ (v : Program). length (encode_bodies v)) (sym same_routines)
          ∙ length_before P r;
    }

    pub only_of : encode_bodies (drop (suc r) P) ≡ encode_bodies (drop (suc r) Q) → OnlyBody P Q r
    only_of after = only_body_of_bytes P Q p.limits q.holds.limits r (record {
      listed = listed;
      same_counts = same_counts;
      before = ap encode_bodies same_routines;
      after = after;
    })

  module _ (o : OnlyBody P Q r) where
    bytes : SameBytes P Q p.limits q.holds.limits r
    bytes = bytes_of_only_body P Q p.limits q.holds.limits r o

    pub after_of : encode_bodies (drop (suc r) P) ≡ encode_bodies (drop (suc r) Q)
    after_of = bytes.after

    first_starts : at ≡ start_of P r
    first_starts = q.starts ∙ sym (length_before Q r) ∙ ap length (sym bytes.before) ∙ length_before P r

    pub before_of : SameBefore s t at
    before_of = (
      rw (first_starts, p.bytes_are) (start_within P r),
      ap (take at) p.bytes_are ∙ ap (λ (v : ℕ). take v (encode_bodies P)) first_starts ∙ bodies_before_lem P r
          ∙ bytes.before ∙ sym second_before,
    )

-- the comparison, where the parts before the bodies are the same, and where they are not
pub compared_after : (ks s t : List ℕ) (at : ℕ) (c : Bool) → SameBefore s t at → SameAfter ks s t at c
    → Compares ks s t at c
compared_after ks s t at c w a P Q r p q =
    answers_map c (only_of P Q ks s t at r p q w) (after_of P Q ks s t at r p q)
    (a P Q r (first_body P Q ks s t at r p q w) q)

pub compared_before : (ks s t : List ℕ) (at : ℕ) → ¬ SameBefore s t at → Compares ks s t at false
compared_before ks s t at n P Q r p q o = n (before_of P Q ks s t at r p q o)

pub can_pass : (ks s t : List ℕ) (at : ℕ) → CanCompare ks s t at → SameBefore s t at → CanPass ks s t at
can_pass ks s t at can w = record {
  routine = can.routine;
  old = can.old;
  old_body = first_body can.old can.new ks s t at can.routine can.old_held can.new_body w;
  new = can.new;
  new_body = can.new_body;
}
