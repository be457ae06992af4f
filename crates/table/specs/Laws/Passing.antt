-- How far an item reaches, by its code and its operands.
use Rattle.std.specs.Prelude.{◌≡◌, cond, List, ℕ, ◌+◌, ◌<◌, eqb, length, get_or}
use Rattle.table.specs.Constants.{LOCK, CALL, MIRROR, code}

-- the offset past the item with code b at an offset: its code, and then its operands
abbrev pub past_by : List ℕ → List ℕ → ℕ → ℕ → ℕ
past_by ks s at b =
    cond (eqb b (code LOCK)) (at + 2)
    (cond (eqb b (code MIRROR)) (at + 2)
    (cond (eqb b (code CALL)) (at + 2 + get_or ks (get_or s (at + 1) 0) 0)
    (at + 1)))

-- the offset past the item at an offset
abbrev pub past_item : List ℕ → List ℕ → ℕ → ℕ
past_item ks s at = past_by ks s at (get_or s at 0)

-- the item at the offset can be passed
pub record Passable (ks s : List ℕ) (at : ℕ) : Type 0 where
  pub here : at < length s
  pub routine : get_or s at 0 ≡ code CALL → (at + 1 < length s) × (get_or s (at + 1) 0 < length ks)
