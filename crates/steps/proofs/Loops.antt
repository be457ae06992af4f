-- One more turn of the loop over the names that a CALL passes.
use Rattle.std.proofs.Common.{◌≡◌, refl, List, ℕ, suc, ◌+◌, ◌*◌, arith, get_or}
use Rattle.std.specs.Prelude.{set}
use Rattle.table.specs.Constants.{most_names}
use Rattle.steps.specs.Records.{name_at, passed}

pub passed_none : (ns : List ℕ) (d : ℕ) (s : List ℕ) (from k : ℕ) → ns ≡ passed ns d s from k 0
unfolding passed
passed_none ns d s from k = refl

pub passed_next :
    (ns : List ℕ) (d : ℕ) (s : List ℕ) (from k j : ℕ) (now : List ℕ) (x : ℕ) → now ≡ passed ns d s from k j
    → x ≡ name_at s from k j
    → set now (most_names * d + most_names + 1 + j) (get_or now (most_names * d + x) 0) ≡ passed ns d s from k (j + 1)
unfolding passed
passed_next ns d s from k j now x e i = let h : j + 1 ≡ suc j = omega arith in rw (h, e, i) refl
