-- What clear promises, used: the contracts of the analysis alone give that a table that is clear never sticks.
use Rattle.std.specs.Prelude.{◌≡◌, refl, ◌≢◌, ◌⊎◌, List, ℕ, ◌*◌, ◌+◌, ◌≤◌, ◌<◌, length, Ok}
use Rattle.std.proofs.Common.{sym, ap, ◌∙◌, inl, inr, arith}
use Rattle.std.proofs.Math.Decide.{dec_lt}
use Rattle.table.specs.Program.{Program}
use Rattle.table.specs.Check.{Outcome, refused, accepted, check_table}
use Rattle.table.specs.Constants.{row_bytes}
use Rattle.table.proofs.Laws.Refusals.{refusals}
use Rattle.rules.proofs.Laws.Share.{clear_whole}
use Rattle.run.specs.Run.{State, thread, ended, start, run, Side, Turn, turn, Circle, CanStep, Safe}
use Rattle.run.proofs.Laws.Turns.{can_step_changes}
use Rattle.analysis.specs.Answer.{Answer, JudgedAs, Analysed, number_of, AnalysedAs}
use Rattle.analysis.specs.declared.Share.{Share}
use Rattle.analysis.specs.declared.Verdict.{Verdict}
use Rattle.analysis.specs.declared.Verdict.TheVariants.{Clear, Ring}
use Rattle.analysis.specs.declared.Judgement.{Judgement}

-- all threads have ended, or the turn of some thread, into either alternative, changes the state
abbrev pub GoesOn : Program → State → Type 0
GoesOn P s = ((t : ℕ) → thread s t ≡ ended) ⊎ ((t : ℕ) × ((a : Side) → turn P s (t, a) ≢ s))

goes_on : (P : Program) (s : State) → Safe s → GoesOn P s
goes_on P s safe = by safe.goes_on
  where
    by : ((t : ℕ) → thread s t ≡ ended) ⊎ ((t : ℕ) × CanStep s t) → GoesOn P s
    by (inl f) = inl f
    by (inr k) = inr (k.0, λ a. can_step_changes P s k.0 a k.1)

-- the judgement that a table is clear, and the answer with it
abbrev pub judged_clear : Share → ℕ → Judgement
judged_clear share m = record { verdict = Clear; share = share; rounds = m }

abbrev pub clear_answer : Share → ℕ → Answer
clear_answer share m = Ok (judged_clear share m)

-- where the answer is clear: after every list of turns there is no circle, and the run goes on unless all have ended
pub never_sticks :
    (table before after : List ℕ) (P : Program) (share : Share) (m : ℕ) → check_table table ≡ accepted P
    → row_bytes * length P ≤ length before → Analysed table before after (clear_answer share m) → (turns : List Turn)
    → (¬ Circle (run P (start P) turns)) × GoesOn P (run P (start P) turns)
never_sticks table before after P share m e l p turns =
    (safe.no_circle, goes_on P (run P (start P) turns) safe)
  where
    w : (j : Judgement) × (clear_answer share m ≡ Ok j) × JudgedAs P before after j
    w = p.judged P e l

    same : judged_clear share m ≡ w.0
    same = cc w.1

    safe : Safe (run P (start P) turns)
    safe = w.2.safe (sym (ap (λ (j : Judgement). j.verdict) same)) turns

-- the table is accepted, the buffer has room for its model, and the answer is clear, with the share of a clear table
pub record AnsweredClear (table before after : List ℕ) : Type 0 where
  pub program : Program
  pub accepts : check_table table ≡ accepted program
  pub long : row_bytes * length program ≤ length before
  pub share : Share
  pub rounds : ℕ
  pub analysed : Analysed table before after (clear_answer share rounds)
  pub whole : (share.percent ≡ 100) × (share.remainder ≡ 0)

-- that is so where the launcher's number is 0
pub zero_is_clear : (table before after : List ℕ) → AnalysedAs table before after 0 → AnsweredClear table before after
zero_is_clear table before after p = by (check_table table) refl
  where
    a : Analysed table before after p.0
    a = p.2

    clear : (v : Verdict) (s : Share) (m : ℕ) → p.0 ≡ Ok (record { verdict = v; share = s; rounds = m }) → v ≡ Clear
    clear Clear s m e = refl
    clear (Ring ring) s m e =
        let z : 0 ≡ 65536 + 1024 * ring.routine + 32 * ring.name = p.1 ∙ ap number_of e in absurd (omega arith)

    by : (o : Outcome) → check_table table ≡ o → AnsweredClear table before after
    by (refused e) h =
        let z : 0 ≡ e = p.1 ∙ (a.refused_table e h).1 in
        let l = refusals table e h in
        absurd (omega arith)
    by (accepted P) h = sized (dec_lt (length before) (row_bytes * length P))
      where
        sized : Dec (length before < row_bytes * length P) → AnsweredClear table before after
        sized (yes lt) =
            let z : ◌≡◌ {A = ℕ} 0 15 = p.1 ∙ (a.refused_buffer P h lt).1 in absurd (omega arith)
        sized (no ge) =
            let w = a.judged P h (omega arith) in
            let j = w.0 in
            let s = j.share in
            let e : j.verdict ≡ Clear = clear j.verdict s j.rounds w.1 in
            record {
              program = P;
              accepts = h;
              long = omega arith;
              share = s;
              rounds = j.rounds;
              analysed = let answer : p.0 ≡ clear_answer s j.rounds = w.1 ∙ rw (← e) refl in rw answer at a;
              whole = clear_whole P s.percent s.remainder s.reached w.2.shares (rw e at w.2.says);
            }
