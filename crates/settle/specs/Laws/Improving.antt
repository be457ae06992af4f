-- What is added from the grid of a body improves its row and tells its ring name; and one lowest name told in other words.
use Rattle.std.specs.Prelude.{◌≡◌, Bool, List, [], ℕ, ◌<◌, length, get_or, Option, Some, None}
use Rattle.std.proofs.Common.{◌∙◌, subst, arith}
use Rattle.std.proofs.Math.Decide.{dec_lt}
use Rattle.std.proofs.Math.ListN.{get_or-eq_default}
use Rattle.table.specs.Program.{Program}
use Rattle.table.proofs.Laws.Sections.{params_at}
use Rattle.rules.specs.Label.{Label, several}
use Rattle.grid.specs.Grid.{Pair, RingName}
use Rattle.grid.proofs.Laws.Masks.{has_zero}
use Rattle.rows.specs.Model.{RowAdded}
use Rattle.settle.specs.Settle.{GridOf, LowestOf, Named}
use Rattle.settle.specs.Bodies.{Works, Improves}

-- a pair of a grid starts at one of its rows
pair_inside : (g : List (List ℕ)) (a b : ℕ) (l : Label) → Pair g a b l → a < length g
pair_inside g a b l p = elim (dec_lt a (length g)) [
  | yes q ↦ q
  | no q ↦
      let e : get_or g a [] ≡ [] = get_or-eq_default g [] {n = a} (omega arith) in
      absurd (has_zero p.0 (rw e at p.3))
]

-- the ring name of a grid is that of the body
named_by : (P : Program) (model : List ℕ) (r : ℕ) (g : List (List ℕ)) (name : Option ℕ) → GridOf P model r g
    → RingName g name → Named P model r name
named_by P model r g None pairs none = λ y w. none y (pairs.all y y several w)
named_by P model r g (Some x) pairs ring =
    (ring.0, pairs.only x x several ring.1, λ y w. ring.2 y (pairs.all y y several w))

-- the lowest name of which Q holds is that of which R holds, where these are the same names
pub lowest_same : {Q R : ℕ → Type 0} (name : Option ℕ) → ((y : ℕ) → Q y → R y) → ((y : ℕ) → R y → Q y)
    → LowestOf Q name → LowestOf R name
lowest_same None to from none = λ y h. none y (from y h)
lowest_same (Some x) to from low = (low.0, to x low.1, λ y h. low.2 y (from y h))

module _ (ks s : List ℕ) (at r : ℕ) (rows : List ℕ) where
  -- a row that was added for as many names as the byte says was added for the parameters
  pub improves : (k : ℕ) → k ≡ get_or ks r 0 → (before after : List ℕ) (g : List (List ℕ)) (cells last : Bool)
      (name : Option ℕ) → Works ks s at r rows g → RowAdded before after r k g cells last name
      → Improves ks s at r rows before after cells last name
  improves k e before after g cells last name works added P o = record {
    grid = g;
    pairs = works P o;
    added = subst (λ (v : ℕ). RowAdded before after r v g cells last name) (e ∙ params_at P ks s o.holds r) added;
    named = named_by P rows r g name (works P o) added.named;
  }
