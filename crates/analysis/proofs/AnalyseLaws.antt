-- The answer of the analysis, case by case: refused by the check, refused for the buffer, or judged.
use mathlib.Core.Path.{◌≡◌, refl, sym, ap, ◌∙◌}
use mathlib.Core.List.{List}
use Prim.Native.Nat.{ℕ, ◌*◌, ◌≤◌, ◌<◌}
use native.Mathlib.Omega.{arith}
use lib.ListN.{length}
use Rattle.table.specs.Program.{Program}
use Rattle.table.specs.Check.{refused, accepted, check_table}
use Rattle.table.specs.Constants.{row_bytes}
use Rattle.std.specs.Prelude.{Ok, Err}
use Rattle.table.specs.Refusal.{refusal_number, refusal_of}
use Rattle.table.specs.declared.refusal.Refusal.{Refusal}
use Rattle.table.proofs.Laws.Refusals.{refusals}
use Rattle.analysis.specs.Answer.{short_buffer, JudgedAs, Analysed, Fits}
use Rattle.analysis.specs.declared.Judgement.{Judgement}
use Rattle.analysis.proofs.Laws.Refusals.{number_refused}

module _ (table before : List ℕ) where
  pub refused_by_check : (e : ℕ) → check_table table ≡ refused e → Analysed table before before (Err (refusal_of e))
  refused_by_check e h = record {
    refused_table = λ y g.
        let o : refused e ≡ refused y = sym h ∙ g in
        let z : e ≡ y = cc in
        (cc, number_refused table e h ∙ z, refl);
    refused_buffer = λ P g l. absurd (let z : ◌≡◌ {A = ℕ} 0 1 = cc in omega arith);
    judged = λ P g l. absurd (let z : ◌≡◌ {A = ℕ} 0 1 = cc in omega arith);
  }

  module _ (P : Program) (h : check_table table ≡ accepted P) where
    same : (Q : Program) → check_table table ≡ accepted Q → P ≡ Q
    same Q g = let o : accepted P ≡ accepted Q = sym h ∙ g in cc

    pub refused_for_buffer : length before < row_bytes * length P → Analysed table before before (Err (refusal_of short_buffer))
    refused_for_buffer s = record {
      refused_table = λ y g. absurd (let z : ◌≡◌ {A = ℕ} 0 1 = cc in omega arith);
      refused_buffer = λ Q g l. (refl, refl, refl);
      judged = λ Q g l. absurd (let e : length P ≡ length Q = ap length (same Q g) in omega arith);
    }

    pub judged_as : row_bytes * length P ≤ length before → (after : List ℕ) (j : Judgement) → JudgedAs P before after j
        → Analysed table before after (Ok j)
    judged_as s after j w = record {
      refused_table = λ y g. absurd (let z : ◌≡◌ {A = ℕ} 0 1 = cc in omega arith);
      refused_buffer = λ Q g l. absurd (let e : length P ≡ length Q = ap length (same Q g) in omega arith);
      judged = λ Q g l. (j, refl, rw (same Q g) at w);
    }

-- a refusal of the check is one of those that an answer may have
pub refusal_fits : (table : List ℕ) (r : Refusal) → (e : ℕ) × (check_table table ≡ refused e) × (r ≡ refusal_of e)
    → Fits (Err r)
refusal_fits table r (e, h, q) =
    let l = refusals table e h in
    let n : refusal_number r ≡ e = ap refusal_number q ∙ number_refused table e h in
    (omega arith, omega arith)
