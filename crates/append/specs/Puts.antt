-- What a method that appends to a text leaves.
use Rattle.std.specs.Prelude.{◌≡◌, List, ℕ}
use Rattle.append.specs.Appends.{Appends}
use Rattle.append.specs.declared.text.Text.{Text}

-- the text is in the same buffer, and w was appended to it
pub record Puts (w : List ℕ) (before after : Text) : Type 0 where
  pub same : after.bytes.ghost_name ≡ before.bytes.ghost_name
  pub appends : Appends before.at w before.bytes.now after.bytes.now after.at
