-- In the words of both contracts: where the analysis wrote the old model for the old table, and the answer is done, what
-- is left is what the analysis writes for the new table.
use Rattle.std.specs.Prelude.{◌≡◌, List, ℕ, ◌*◌, ◌<◌, length, get_or, Ok}
use Rattle.std.proofs.Common.{sym, ◌∙◌, arith, ext_get_or}
use Rattle.std.proofs.Math.Decide.{dec_lt}
use Rattle.table.specs.Constants.{row_bytes, row_names}
use Rattle.table.specs.Program.{Program, params}
use Rattle.table.specs.Encoding.{WithinLimits}
use Rattle.table.specs.Check.{accepted, check_table}
use Rattle.table.proofs.Laws.Accepts.{Bytes}
use Rattle.table.proofs.Laws.Sound.{sound}
use Rattle.analysis.specs.Answer.{Models, JudgedAs, Analysed}
use Rattle.analysis.specs.declared.Judgement.{Judgement}
use Rattle.analysis.proofs.Laws.Judged.{judged_fits, judged_program, judged_as}
use Rattle.analysis.proofs.Laws.Unique.{models_unique}
use Rattle.rounds.specs.OneBody.{OnlyBody}
use Rattle.rounds.proofs.Laws.OneBody.{same?}
use Rattle.update.specs.Answer.{Updated, Formed, UpToDateFrom, Compared, Replaced}
use Rattle.update.proofs.Laws.Own.{own_formed}
use Rattle.update.proofs.Laws.Fresh.{is_fresh}
use Rattle.update.proofs.Laws.Unique.{by_answer}

-- a model that the analysis wrote is brought to the one that it writes
pub as_analysed :
    (old new : List ℕ) (r : ℕ) (first before after after' : List ℕ) (i j : Judgement) → Bytes old
    → Analysed old first before (Ok i) → Replaced old new r before after (Ok tt)
    → Analysed new before after' (Ok j) → after ≡ after'
as_analysed old new r first before after after' i j bytes a u b =
    by_answer P Q r before (same? after after')
    (λ n. absurd (let x = (c.refused_other n).0 in let z : ◌≡◌ {A = ℕ} 0 1 = cc in omega arith))
    (λ o n. absurd (let x = (c.refused_model o n).0 in let z : ◌≡◌ {A = ℕ} 0 1 = cc in omega arith)) same
  where
    p : (P : Program) × (check_table old ≡ accepted P)
    p = judged_program old first before i a

    q : (Q : Program) × (check_table new ≡ accepted Q)
    q = judged_program new before after' j b

    P : Program
    P = p.0

    Q : Program
    Q = q.0

    judged : JudgedAs P first before i
    judged = judged_as old first before i a P p.1

    anew : JudgedAs Q before after' j
    anew = judged_as new before after' j b Q q.1

    c : Compared P Q r before after (Ok tt)
    c =
        let l = judged_fits old first before i a P p.1 in
        let e = judged.same_length in
        u.compared P Q p.1 q.1 (omega arith)

    limits : WithinLimits P
    limits = (sound old P bytes p.1).1

    few : (k : ℕ) → k < length P → params P k < row_names
    few k h = let l = (limits.fits k h).few_params in omega arith

    same : OnlyBody P Q r → Formed P before → after ≡ after'
    same o f =
        ext_get_or 0 after after' (up.same_length ∙ sym anew.same_length) (λ i h. go i (dec_lt i (row_bytes * length Q)))
      where
        up : UpToDateFrom Q r before after
        up = (c.done o f).1

        fresh : Models Q after
        fresh = is_fresh P Q r o before after few judged.model up

        go : (i : ℕ) → Dec (i < row_bytes * length Q) → get_or after i 0 ≡ get_or after' i 0
        go i (yes lt) = models_unique Q after after' fresh anew.model i lt
        go i (no ge) = up.rest i (omega arith) ∙ sym (anew.rest i (omega arith))

-- and it is never refused for the model: where the tables differ in that body at most, the answer is done
pub own_done :
    (old new : List ℕ) (r : ℕ) (first before after : List ℕ) (j : Judgement) (answer : Updated)
    → Bytes old → Analysed old first before (Ok j) → Replaced old new r before after answer → (P Q : Program)
    → check_table old ≡ accepted P → check_table new ≡ accepted Q → OnlyBody P Q r → answer ≡ Ok tt
own_done old new r first before after j answer bytes a u P Q e f only =
    let fit = judged_fits old first before j a P e in
    let judged = judged_as old first before j a P e in
    let long = judged.same_length in
    ((u.compared P Q e f (omega arith)).done only
    (own_formed P (sound old P bytes e).1 before judged.model)).0
