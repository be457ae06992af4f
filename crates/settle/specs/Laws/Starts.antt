-- The bodies of a table: each stands where the survey says, and the call masks give the routines that calls reach.
use Rattle.std.specs.Prelude.{◌≡◌, refl, List, [], ◌∷◌, ◌++◌, ℕ, zero, suc, ◌+◌, ◌≤◌, ◌<◌, length, take, drop}
use Rattle.std.proofs.Common.{sym, ap, ◌∙◌, append_assoc, arith, length-append, take_at, drop_at}
use Rattle.table.specs.Constants.{END}
use Rattle.table.specs.Program.{Program, body}
use Rattle.table.specs.WellFormed.{WellFormed}
use Rattle.table.specs.Encoding.{encode, encode_bodies}
use Rattle.rules.specs.Verdict.{Reached, first, then}
use Rattle.rules.proofs.Laws.Verdict.{reached_within}
use Rattle.grid.specs.Rows.{Bits}
use Rattle.settle.specs.Bodies.{start_of, Surveyed}
use Rattle.settle.specs.Reach.{Reachable, main, next}

-- the bodies before that of routine r end where it starts, and with it begin the others
pub length_before : (P : Program) (r : ℕ) → length (encode_bodies (take r P)) ≡ start_of P r
length_before P zero = go P
  where
    go : (P : Program) → 0 ≡ start_of P 0
    go [] = refl
    go (q ∷ P) = refl
length_before [] (suc r) = refl
length_before (q ∷ P) (suc r) =
    length-append (encode END q.code) (encode_bodies (take r P))
    ∙ ap (λ (v : ℕ). length (encode END q.code) + v) (length_before P r)

pub bodies_split : (P : Program) (r : ℕ) → encode_bodies P ≡ encode_bodies (take r P) ++ encode_bodies (drop r P)
bodies_split P zero = refl
bodies_split [] (suc r) = refl
bodies_split (q ∷ P) (suc r) =
    ap (λ (v : List ℕ). encode END q.code ++ v) (bodies_split P r)
    ∙ sym (append_assoc (encode END q.code) (encode_bodies (take r P)) (encode_bodies (drop r P)))

pub start_within : (P : Program) (r : ℕ) → start_of P r ≤ length (encode_bodies P)
start_within P r =
    let e = length_before P r in
    let s = ap length (bodies_split P r) in
    let a = length-append (encode_bodies (take r P)) (encode_bodies (drop r P)) in
    omega arith

pub bodies_before_lem : (P : Program) (r : ℕ) → take (start_of P r) (encode_bodies P) ≡ encode_bodies (take r P)
bodies_before_lem P r =
    ap (take (start_of P r)) (bodies_split P r)
    ∙ take_at (encode_bodies (take r P)) (encode_bodies (drop r P)) (start_of P r) (length_before P r)

pub bodies_from : (P : Program) (r : ℕ) → drop (start_of P r) (encode_bodies P) ≡ encode_bodies (drop r P)
bodies_from P r =
    ap (drop (start_of P r)) (bodies_split P r)
    ∙ drop_at (encode_bodies (take r P)) (encode_bodies (drop r P)) (start_of P r) (length_before P r)

-- the bytes from the start of a body on
pub body_at : (P : Program) (r : ℕ) → r < length P
    → drop (start_of P r) (encode_bodies P) ≡ encode END (body P r) ++ encode_bodies (drop (suc r) P)
body_at P r l = bodies_from P r ∙ first P r l
  where
    first : (P : Program) (r : ℕ) → r < length P
        → encode_bodies (drop r P) ≡ encode END (body P r) ++ encode_bodies (drop (suc r) P)
    first [] r l = absurd (omega arith)
    first (q ∷ P) zero l = refl
    first (q ∷ P) (suc r) l = first P r (omega arith)

-- a body ends where the next one starts
pub start_next : (P : Program) (r : ℕ) → r < length P
    → start_of P (suc r) ≡ start_of P r + length (encode END (body P r))
start_next [] r l = absurd (omega arith)
start_next (q ∷ []) zero l = omega arith
start_next (q ∷ p ∷ P) zero l = omega arith
start_next (q ∷ P) (suc r) l = let h = start_next P r (omega arith) in omega arith

module _ (P : Program) (wf : WellFormed P) where
  module _ (starts calls : List ℕ) (sv : Surveyed P starts calls) where
    to_reached : (q : ℕ) → Reachable calls 0 q → Reached P q
    to_reached q (main e) = rw e first
    to_reached q (next {r = r} h w) =
        let e = sv.calls_long in
        let l : r < length calls = w.0 in
        then (to_reached r h) (sv.calls_to r q (omega arith) w.1)

    from_reached : (q : ℕ) → Reached P q → Reachable calls 0 q
    from_reached q first = main refl
    from_reached q (then {r = r} h w) =
        let l = reached_within P wf r h in
        let e = sv.calls_long in
        next (from_reached r h) (omega arith, sv.calls_from r q l w)

    pub reached_bits : (mask : ℕ) → Bits mask (Reachable calls 0) → Bits mask (Reached P)
    reached_bits mask b = record { to = λ q h. to_reached q (b.to q h); from = λ q h. b.from q (from_reached q h) }
