-- What a verdict tells of the table: it is accepted, its rows fit the buffer, and what is left is its model.
use Rattle.std.specs.Prelude.{◌≡◌, refl, List, ℕ, ◌*◌, ◌≤◌, ◌<◌, length, Ok}
use Rattle.std.proofs.Math.Decide.{dec_lt}
use Rattle.std.proofs.Common.{arith}
use Rattle.table.specs.Constants.{row_bytes}
use Rattle.table.specs.Program.{Program}
use Rattle.table.specs.Check.{Outcome, refused, accepted, check_table}
use Rattle.analysis.specs.Answer.{Answer, JudgedAs, Analysed}
use Rattle.analysis.specs.declared.Judgement.{Judgement}

-- one answer is one judgement
judged_one : (P : Program) (before after : List ℕ) (i j : Judgement) → ◌≡◌ {A = Answer} (Ok i) (Ok j)
    → JudgedAs P before after j → JudgedAs P before after i
judged_one P before after i j e w = let ej : i ≡ j = cc in rw ej w

module _ (table before after : List ℕ) (j : Judgement) (a : Analysed table before after (Ok j)) where
  -- the rows of the program fit the buffer
  pub judged_fits : (P : Program) → check_table table ≡ accepted P → row_bytes * length P ≤ length before
  judged_fits P e = by (dec_lt (length before) (row_bytes * length P))
    where
      by : Dec (length before < row_bytes * length P) → row_bytes * length P ≤ length before
      by (yes lt) = absurd (let x = (a.refused_buffer P e lt).0 in let z : ◌≡◌ {A = ℕ} 0 1 = cc in omega arith)
      by (no ge) = omega (arith, ge)

  -- the table is accepted
  pub judged_program : (P : Program) × (check_table table ≡ accepted P)
  judged_program = by (check_table table) refl
    where
      by : (o : Outcome) → check_table table ≡ o → (P : Program) × (check_table table ≡ accepted P)
      by (refused n) e = absurd (let x = (a.refused_table n e).0 in let z : ◌≡◌ {A = ℕ} 0 1 = cc in omega arith)
      by (accepted P) e = (P, e)

  -- what is left is the model of its program, as the answer says
  pub judged_as : (P : Program) → check_table table ≡ accepted P → JudgedAs P before after j
  judged_as P e = let w = a.judged P e (judged_fits P e) in judged_one P before after j w.0 w.1 w.2
