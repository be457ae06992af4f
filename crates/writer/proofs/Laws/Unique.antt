-- The contract leaves nothing free: two answers to one table from one buffer, and the two buffers left, are equal. So
-- are the launcher's numbers, and a number tells its answer.
use Rattle.std.specs.Prelude.{◌≡◌, refl, List, ℕ, ◌<◌, length, Result, Ok, Err}
use Rattle.std.proofs.Common.{sym, ap, ◌∙◌, arith}
use Rattle.std.proofs.Math.Decide.{dec_lt}
use Rattle.table.specs.Program.{Program}
use Rattle.table.specs.Check.{Outcome, refused, accepted, check_table}
use Rattle.table.specs.Refusal.{refusal_of}
use Rattle.table.proofs.Laws.Numbers.{refusal_of_number}
use Rattle.canon.specs.Canonical.{canonical_table}
use Rattle.writer.specs.Answer.{WritesOf, Writes, Fits, written_number, WritesAs}
use Rattle.table.specs.declared.refusal.Refusal.{Refusal}

-- programs of one canonical table have one answer, and leave one buffer
pub table_unique : (P Q : Program) (before after after' : List ℕ) (answer answer' : Result ℕ Refusal)
    → canonical_table P ≡ canonical_table Q → WritesOf P before after answer → WritesOf Q before after' answer'
    → (after ≡ after') × (answer ≡ answer')
table_unique P Q before after after' answer answer' e p q = by (dec_lt (length before) (length (canonical_table P)))
  where
    long : length (canonical_table P) ≡ length (canonical_table Q)
    long = ap length e

    by : Dec (length before < length (canonical_table P)) → (after ≡ after') × (answer ≡ answer')
    by (yes lt) =
        let x = p.short lt in
        let y = q.short (omega (arith, long)) in
        (x.2 ∙ sym y.2, x.0 ∙ sym y.0)
    by (no ge) =
        let x = p.written (omega (arith, ge)) in
        let y = q.written (omega (arith, ge, long)) in
        (cc (e, x.1, y.1), cc (e, x.0, y.0))

-- two answers to one table, from one buffer, are equal, and so are the buffers left
pub writes_unique : (table before after after' : List ℕ) (answer answer' : Result ℕ Refusal)
    → Writes table before after answer → Writes table before after' answer' → (after ≡ after') × (answer ≡ answer')
writes_unique table before after after' answer answer' p q = by (check_table table) refl
  where
    by : (o : Outcome) → check_table table ≡ o → (after ≡ after') × (answer ≡ answer')
    by (refused n) e =
        let x = p.refused_table n e in
        let y = q.refused_table n e in
        (x.2 ∙ sym y.2, x.0 ∙ sym y.0)
    by (accepted P) e =
        table_unique P P before after after' answer answer' refl (p.accepted_table P e) (q.accepted_table P e)

-- and so are the launcher's numbers
pub number_unique : (table before after after' : List ℕ) (n m : ℕ) → WritesAs table before after n
    → WritesAs table before after' m → (after ≡ after') × (n ≡ m)
number_unique table before after after' n m p q =
    let same = writes_unique table before after after' p.0 q.0 p.3 q.3 in
    (same.0, p.1 ∙ ap written_number same.1 ∙ sym q.1)

-- a launcher's number tells its answer
pub number_tells : (a b : Result ℕ Refusal) → Fits a → Fits b → written_number a ≡ written_number b → a ≡ b
number_tells (Ok n) (Ok m) f g e = ap Ok (omega arith)
number_tells (Ok n) (Err y) f g e = let l = g.1 in absurd (omega arith)
number_tells (Err x) (Ok m) f g e = let l = f.1 in absurd (omega arith)
number_tells (Err x) (Err y) f g e = ap Err (sym (refusal_of_number x) ∙ ap refusal_of e ∙ refusal_of_number y)
