-- What the answer done means: the tables differ in the routine's body at most, the model was well formed, and it is up to
-- date.
use Rattle.std.specs.Prelude.{◌≡◌, List, ℕ, Ok}
use Rattle.std.proofs.Math.Decide.{ℕ_discrete, dec_le}
use Rattle.std.proofs.Common.{arith}
use Rattle.table.specs.Program.{Program}
use Rattle.table.specs.Encoding.{WithinLimits}
use Rattle.rows.specs.Bytes.{cell_byte, last_byte}
use Rattle.rounds.specs.OneBody.{OnlyBody}
use Rattle.rounds.proofs.Laws.OneBody.{only_body?}
use Rattle.update.specs.Answer.{Formed, UpToDateFrom, Compared}
use Rattle.update.proofs.Laws.Unique.{stable}

-- a model is well formed where it cannot fail to be
formed_stable : (P : Program) (model : List ℕ) → ¬ ¬ Formed P model → Formed P model
formed_stable P model n = record {
  small = λ r a b h la lb. stable (dec_le (cell_byte model r a b) 7) (λ m. n (λ f. m (f.small r a b h la lb)));
  zero = λ r a b h la lb o. stable (ℕ_discrete (cell_byte model r a b) 0) (λ m. n (λ f. m (f.zero r a b h la lb o)));
  last = λ r h. stable (dec_le (last_byte model r) 1) (λ m. n (λ f. m (f.last r h)));
}

pub done_means : (P Q : Program) → WithinLimits P → WithinLimits Q → (r : ℕ) (before after : List ℕ)
    → Compared P Q r before after (Ok tt) → OnlyBody P Q r × Formed P before × UpToDateFrom Q r before after
done_means P Q wp wq r before after c = go (only_body? P Q wp wq r)
  where
    go : Dec (OnlyBody P Q r) → OnlyBody P Q r × Formed P before × UpToDateFrom Q r before after
    go (no n) = absurd (let x = (c.refused_other n).0 in let z : ◌≡◌ {A = ℕ} 0 1 = cc in omega arith)
    go (yes o) = (o, formed, (c.done o formed).1)
      where
        formed : Formed P before
        formed = formed_stable P before
            (λ n. let x = (c.refused_model o n).0 in let z : ◌≡◌ {A = ℕ} 0 1 = cc in omega arith)
