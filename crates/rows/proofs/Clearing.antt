-- Laws of clearing: the bytes of a part that was filled with zeros.
use Rattle.std.specs.Prelude.{◌≡◌, List, ℕ, ◌-◌, ◌≤◌, ◌<◌, length, get_or, replicate, ◌⊎◌}
use Rattle.std.proofs.Common.{inl, inr, rules}
use Rattle.std.proofs.lemmas.List.{places}
use borrow.Rule.Slice.PartMut.{put_mid}
use Rattle.rows.specs.Model.{Cleared}

pub cleared_part :
    (start end : ℕ) (e ys : List ℕ) → start ≤ end → end ≤ length e → ys ≡ replicate (end - start) 0
    → Cleared start end e (put_mid start (end - start) e ys)
cleared_part start end e ys a b z = rw z (record {
  long = search (rules, places);
  zero = λ i lo hi. search (rules, places);
  rest = rest;
})
  where
    rest : (i : ℕ) → (i < start) ⊎ (end ≤ i)
        → get_or (put_mid start (end - start) e (replicate (end - start) 0)) i 0 ≡ get_or e i 0
    rest i (inl h) = search (rules, places)
    rest i (inr h) = search (rules, places)
