-- The refusals of a run in their order and the other answers, with the numbers of docs/FORMAT.md.
use Rattle.std.specs.Prelude.{◌≡◌, List, ℕ, length}
use Rattle.std.proofs.Common.{◌∙◌, ap}
use Rattle.table.specs.Check.{refused, accepted}
use Rattle.table.specs.Program.{Program}
use Rattle.schedule.specs.Schedule.{End, all_ended, stuck, at_end, unstarted, beyond, runs}
use Rattle.steps.specs.declared.thread.Thread.{Thread as Record}
use Rattle.runner.specs.declared.Report.{Report}
use Rattle.runner.specs.Answer.{extent_of, ran_as, ran_number, report_of, Reports}

-- first the table's refusal, whatever the schedule is
pub table_first : (e : ℕ) (bs : List ℕ) (before after : List Record) (r : Report)
    → Reports (refused e) bs before after r → r.answer ≡ e
table_first e bs before after r p =
    ap (λ (v : Report). v.answer) (p.is) ∙ p.runs.1

module _ (P : Program) (bs : List ℕ) (before after : List Record) (r : Report)
    (p : Reports (accepted P) bs before after r) where
  -- the number of why the run stopped
  by_end : (w : End) → (runs P (length before) bs).why ≡ w
      → r.answer ≡ ran_number (ran_as w (extent_of (runs P (length before) bs)))
  by_end w h =
      ap (λ (v : Report). v.answer) (p.is ∙ ap report_of p.runs.answer)
      ∙ ap (λ (v : End). ran_number (ran_as v (extent_of (runs P (length before) bs)))) h

  -- 16 for a byte that names a thread not yet started
  pub unstarted_is_16 : (runs P (length before) bs).why ≡ unstarted → r.answer ≡ 16
  unstarted_is_16 = by_end unstarted

  -- 17 for a step beyond a limit
  pub beyond_is_17 : (runs P (length before) bs).why ≡ beyond → r.answer ≡ 17
  beyond_is_17 = by_end beyond

  -- 0 for ended, 65,536 for stuck, 65,537 for open
  pub ended_is_0 : (runs P (length before) bs).why ≡ all_ended → r.answer ≡ 0
  ended_is_0 = by_end all_ended

  pub stuck_is_65536 : (runs P (length before) bs).why ≡ stuck → r.answer ≡ 65536
  stuck_is_65536 = by_end stuck

  pub open_is_65537 : (runs P (length before) bs).why ≡ at_end → r.answer ≡ 65537
  open_is_65537 = by_end at_end

-- with no record lent 17 comes before any byte
pub none_lent : (P : Program) (bs : List ℕ) (before after : List Record) (r : Report)
    → Reports (accepted P) bs before after r → length before ≡ 0 → (r.answer ≡ 17) × (r.read ≡ 0)
none_lent P bs before after r p h = (ap (λ (v : Report). v.answer) is, ap (λ (v : Report). v.read) is)
  where
    is : r ≡ record { answer = 17; read = 0; threads = 0; locks = 0 }
    is = p.is ∙ ap report_of p.runs.answer
        ∙ ap (λ (n : ℕ). report_of (ran_as (runs P n bs).why (extent_of (runs P n bs)))) h
