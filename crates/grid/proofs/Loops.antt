-- Loops over the elements of an array, each of which a turn replaces or leaves.
use mathlib.Core.Path.{◌≡◌, refl, ◌∙◌}
use mathlib.Core.List.{List, []}
use Prim.Native.Nat.{ℕ, ◌+◌, ◌<◌, ◌≤◌}
use native.Mathlib.Omega.{arith}
use native.Mathlib.Decide.{ℕ_discrete}
use lib.ListN.{get_or, set, length}
use lib.Seq.{get_or-set_same, get_or-set_other}
use borrow.Author.Rules.{set_long}
use Rattle.grid.specs.Rows.{Rel, Edge, Same, Bits}
use Rattle.grid.proofs.Shapes.{edge_row, cell_row}

-- a loop over a list's elements has passed those below n, each of which now is as Done says, and left the rest
pub record Passed {A : Type 0} (d : A) (size : ℕ) (Done : ℕ → A → Type 0) (r₀ r : List A) (n : ℕ) : Type 0 where
  pub within : n ≤ size
  pub long : length r ≡ size
  pub done : (i : ℕ) → i < n → Done i (get_or r i d)
  pub rest : (i : ℕ) → n ≤ i → get_or r i d ≡ get_or r₀ i d

-- at the start; a turn that replaces element n; a turn that leaves it
module _ {A : Type 0} (d : A) (size : ℕ) (Done : ℕ → A → Type 0) (r₀ : List A) where
  pub passed_none : length r₀ ≡ size → Passed d size Done r₀ r₀ 0
  passed_none l = record { within = omega arith; long = l; done = λ i h. absurd (omega arith); rest = λ i h. refl }

  pub passed_more :
      (r : List A) (n : ℕ) (t : A) → Passed d size Done r₀ r n → n < size → Done n t
      → Passed d size Done r₀ (set r n t) (n + 1)
  passed_more r n t p h q = record {
    within = omega arith;
    long = set_long A r n size t p.long;
    done = λ i k. here i k (ℕ_discrete i n);
    rest = λ i k. get_or-set_other r n i t d (λ e. omega arith) ∙ p.rest i (omega arith);
  }
    where
      here : (i : ℕ) → i < n + 1 → Dec (i ≡ n) → Done i (get_or (set r n t) i d)
      here i k (yes e) = rw (e, get_or-set_same r n t d (let z = p.long in omega arith)) q
      here i k (no e) = rw (get_or-set_other r n i t d e) (p.done i (omega arith))

  pub passed_skip :
      (r : List A) (n : ℕ) → Passed d size Done r₀ r n → n < size → Done n (get_or r₀ n d)
      → Passed d size Done r₀ r (n + 1)
  passed_skip r n p h q = record {
    within = omega arith;
    long = p.long;
    done = λ i k. here i k (ℕ_discrete i n);
    rest = λ i k. p.rest i (omega arith);
  }
    where
      here : (i : ℕ) → i < n + 1 → Dec (i ≡ n) → Done i (get_or r i d)
      here i k (yes e) = rw (e, p.rest n (omega arith)) q
      here i k (no e) = p.done i (omega arith)

-- row i has the bits that S relates i to
abbrev pub RowIs : Rel → ℕ → ℕ → Type 0
RowIs S i m = Bits m (S i)

-- all sixteen rows passed
pub rows_all :
    (S : Rel) (r₀ r : List ℕ) (n : ℕ) → Passed 0 16 (RowIs S) r₀ r n → 16 ≤ n → ((i j : ℕ) → S i j → i < 16)
    → Same (Edge r) S
rows_all S r₀ r n p h b = record {
  to = λ i j e. (p.done i (let z = edge_row r 16 i j p.long e in omega arith)).to j e;
  from = λ i j e. (p.done i (let z = b i j e in omega arith)).from j e;
}

-- all sixteen rows of a grid passed
pub grid_all :
    (S : ℕ → Rel) (r₀ r : List (List ℕ)) (n : ℕ) → Passed [] 16 (λ a row. Same (Edge row) (S a)) r₀ r n → 16 ≤ n
    → ((a b k : ℕ) → S a b k → a < 16) → (a : ℕ) → Same (Edge (get_or r a [])) (S a)
grid_all S r₀ r n p h f a = record {
  to = λ b k e. (p.done a (let z = cell_row r 16 a b k p.long e in omega arith)).to b k e;
  from = λ b k e. (p.done a (let z = f a b k e in omega arith)).from b k e;
}
