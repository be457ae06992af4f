-- What a function that appends to a text leaves. The text may be longer than its buffer.
use Rattle.std.specs.Prelude.{◌≡◌, List, ℕ, ◌+◌, length}
use Rattle.std.proofs.lemmas.List.Edits.{sets}

-- w was written from `at` on, as far as there was room, and `after` is the place after it
pub record Appends (at : ℕ) (w before now : List ℕ) (after : ℕ) : Type 0 where
  pub bytes : now ≡ sets before at w
  pub place : after ≡ at + length w
