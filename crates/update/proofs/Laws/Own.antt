-- The analysis's own model is well formed: it is never refused by 19.
use Rattle.std.proofs.Common.{inl, inr, arith}
use Rattle.std.specs.Prelude.{List, ℕ}
use Rattle.table.specs.Program.{Program, params}
use Rattle.table.specs.Encoding.{WithinLimits}
use Rattle.table.proofs.Laws.Formed.{well_formed}
use Rattle.rules.specs.Label.{Label}
use Rattle.rules.specs.Model.{Row, Ring}
use Rattle.rounds.proofs.Laws.Positive.{model_positive}
use Rattle.rows.specs.Bytes.{cell_byte, last_byte}
use Rattle.analysis.specs.Answer.{Models}
use Rattle.analysis.proofs.Laws.Bytes.{flag_small, cell_small, cell_none}
use Rattle.update.specs.Answer.{NoPair, Formed}

module _ (P : Program) (within : WithinLimits P) (model : List ℕ) (models : Models P model) where
  -- no row has such a pair
  no_pair : (r a b : ℕ) → NoPair (params P r) a b → (l : Label) → ¬ Row P r a b l
  no_pair r a b (inl e) l w = w.4 e
  no_pair r a b (inr (inl e)) l w = let h = model_positive P (well_formed P within) w.1 in omega arith
  no_pair r a b (inr (inr (inl h))) l w = let k = w.2 in omega arith
  no_pair r a b (inr (inr (inr h))) l w = let k = w.3 in omega arith

  pub own_formed : Formed P model
  own_formed = record {
    small = λ r a b h la lb.
        let s = cell_small (Row P r a b) (cell_byte model r a b) (models.cells r a b h la lb) in omega arith;
    zero = λ r a b h la lb o.
        cell_none (Row P r a b) (cell_byte model r a b) (models.cells r a b h la lb) (no_pair r a b o);
    last = λ r h. let s = flag_small (last_byte model r) ((x : ℕ) × Ring P r x) (models.last r h) in omega arith;
  }
