-- One way to write a table, in the words of the contract: tables that differ only in how they are written give one
-- answer; what is written is accepted, and is the same when written again; and a buffer as long as the table is enough.
use Rattle.std.specs.Prelude.{◌≡◌, refl, ◌≢◌, ◌↔◌, List, ℕ, ◌≤◌, ◌<◌, length, take, Result, Ok, Err}
use Rattle.std.proofs.Common.{sym, ap, ◌∙◌, arith, take_at}
use Rattle.std.proofs.Math.Decide.{dec_lt}
use Rattle.table.specs.Program.{Program}
use Rattle.table.specs.Encoding.{encode_table}
use Rattle.table.specs.Check.{Outcome, refused, accepted, check_table}
use Rattle.table.specs.Refusal.{refusal_of}
use Rattle.table.proofs.Laws.Accepts.{Bytes}
use Rattle.table.proofs.Laws.Sound.{sound}
use Rattle.table.proofs.Laws.Refusals.{refusals}
use Rattle.canon.specs.Canonical.{canonical, canonical_table, Alike}
use Rattle.canon.proofs.Laws.Limits.{canonical_short, alike_tables}
use Rattle.canon.proofs.Laws.Accepted.{canonical_accepted, canonical_table_twice}
use Rattle.writer.specs.Answer.{short_output, Writes, written_number}
use Rattle.table.specs.declared.refusal.Refusal.{Refusal}
use Rattle.writer.proofs.Laws.Unique.{table_unique}

-- tables that hold programs that differ only in how they are written give one answer, and leave one buffer
pub alike_written : (table table' : List ℕ) (P Q : Program) → Bytes table → Bytes table' → check_table table ≡ accepted P
    → check_table table' ≡ accepted Q → Alike P Q → (before after after' : List ℕ) (answer answer' : Result ℕ Refusal)
    → Writes table before after answer → Writes table' before after' answer' → (after ≡ after') × (answer ≡ answer')
alike_written table table' P Q bytes bytes' e f alike before after after' answer answer' w w' =
    table_unique P Q before after after' answer answer'
    (alike_tables P Q (sound table P bytes e).1 (sound table' Q bytes' f).1 alike)
    (w.accepted_table P e) (w'.accepted_table Q f)

-- a buffer is too short for a table: it is accepted, and its canonical table is longer than the buffer
abbrev pub TooShort : List ℕ → List ℕ → Type 0
TooShort table before = (P : Program) × (check_table table ≡ accepted P) × (length before < length (canonical_table P))

-- the answer is refusal 20 exactly where the buffer is too short
pub short_exactly : (table before after : List ℕ) (answer : Result ℕ Refusal) → Writes table before after answer
    → (answer ≡ Err (refusal_of short_output)) ↔ TooShort table before
short_exactly table before after answer w = (λ e. by e (check_table table) refl, λ t. short t.0 t.1 t.2)
  where
    short : (P : Program) → check_table table ≡ accepted P → length before < length (canonical_table P)
        → answer ≡ Err (refusal_of short_output)
    short P e lt = ((w.accepted_table P e).short lt).0

    sized : answer ≡ Err (refusal_of short_output) → (P : Program) → check_table table ≡ accepted P
        → Dec (length before < length (canonical_table P)) → TooShort table before
    sized a P e (yes lt) = (P, e, lt)
    sized a P e (no ge) =
        let x = ((w.accepted_table P e).written (omega (arith, ge))).0 in
        cc

    by : answer ≡ Err (refusal_of short_output) → (o : Outcome) → check_table table ≡ o → TooShort table before
    by a (refused n) e =
        let x = (w.refused_table n e).1 in
        let l = refusals table n e in
        let m : written_number answer ≡ short_output = ap written_number a in
        absurd (omega arith)
    by a (accepted P) e = sized a P e (dec_lt (length before) (length (canonical_table P)))

-- a buffer as long as the table is never too short
pub never_longer : (table before after : List ℕ) (answer : Result ℕ Refusal) → Bytes table → Writes table before after answer
    → length table ≤ length before → answer ≢ Err (refusal_of short_output)
never_longer table before after answer bytes w l a =
    let t = (short_exactly table before after answer w).0 a in
    let s = sound table t.0 bytes t.1 in
    let e : length table ≡ length (encode_table t.0) = ap length s.0 in
    let c = canonical_short t.0 s.1 in
    let h = t.2 in
    omega (arith, e, c, h, l)

-- what is there where a length is answered: the table holds a program, and its canonical table is what is written
pub record LengthFor (table before after : List ℕ) (n : ℕ) : Type 0 where
  pub program : Program
  pub holds : check_table table ≡ accepted program
  pub long : n ≡ length (canonical_table program)
  pub fits : n ≤ length before
  pub bytes : take n after ≡ canonical_table program

pub length_means : (table before after : List ℕ) (n : ℕ) → Writes table before after (Ok n)
    → LengthFor table before after n
length_means table before after n w = by (check_table table) refl
  where
    sized : (P : Program) → check_table table ≡ accepted P → Dec (length before < length (canonical_table P))
        → LengthFor table before after n
    sized P e (yes lt) =
        let x = ((w.accepted_table P e).short lt).0 in
        cc
    sized P e (no ge) =
        let x = (w.accepted_table P e).written (omega (arith, ge)) in
        let m : n ≡ length (canonical_table P) = cc x.0 in
        record {
          program = P;
          holds = e;
          long = m;
          fits = omega (arith, ge, m);
          bytes = ap (take n) x.1 ∙ take_at (canonical_table P) _ n (sym m);
        }

    by : (o : Outcome) → check_table table ≡ o → LengthFor table before after n
    by (refused d) e =
        let x = (w.refused_table d e).0 in
        cc
    by (accepted P) e = sized P e (dec_lt (length before) (length (canonical_table P)))

-- what is written is accepted, and holds the canonical program of the program that the table holds
pub written_accepted : (table before after : List ℕ) (n : ℕ) → Bytes table → Writes table before after (Ok n)
    → (P : Program) × (check_table table ≡ accepted P) × (check_table (take n after) ≡ accepted (canonical P))
written_accepted table before after n bytes w =
    let g = length_means table before after n w in
    let P = g.program in
    (P, g.holds, ap check_table g.bytes ∙ canonical_accepted P (sound table P bytes g.holds).1)

-- and it is the same when it is written again
pub written_again : (table before after : List ℕ) (n : ℕ) → Bytes table → Writes table before after (Ok n)
    → (before' after' : List ℕ) (answer : Result ℕ Refusal) → n ≤ length before' → Writes (take n after) before' after' answer
    → (answer ≡ Ok n) × (take n after' ≡ take n after)
written_again table before after n bytes w before' after' answer l w' =
    let g = length_means table before after n w in
    let P = g.program in
    let within = (sound table P bytes g.holds).1 in
    let twice = canonical_table_twice P within in
    let m : length (canonical_table (canonical P)) ≡ n = ap length twice ∙ sym g.long in
    let x = (w'.accepted_table (canonical P) (ap check_table g.bytes ∙ canonical_accepted P within)
    ).written (omega (arith, l, m)) in (
      x.0 ∙ ap Ok m,
      ap (take n) x.1 ∙ take_at (canonical_table (canonical P)) _ n m ∙ twice ∙ sym g.bytes,
    )
