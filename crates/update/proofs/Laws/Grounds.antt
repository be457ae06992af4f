-- The grounds of refusal 19, with the numbers of docs/FORMAT.md: what each says of every well-formed model, and computed
-- models that have one each.
use Rattle.std.specs.Prelude.{◌≡◌, refl, Bool, true, false, List, [], ◌∷◌, map, ℕ, zero, suc, ◌+◌, ◌*◌, ◌≤◌, ◌<◌, length}
use Rattle.std.specs.Prelude.{get_or, set, replicate}
use Rattle.std.proofs.Math.Bool.{decide}
use Rattle.std.proofs.Common.{inl, inr, arith}
use Rattle.std.proofs.Math.Decide.{ℕ_discrete, dec_lt, dec_le}
use Rattle.table.specs.Constants.{row_names}
use Rattle.table.specs.Program.{end, Program, params}
use Rattle.rows.specs.Bytes.{cell_byte, last_byte}
use Rattle.update.specs.Answer.{NoPair, Formed}
use Rattle.update.specs.Parts.{CellFits}

module _ (P : Program) (model : List ℕ) (f : Formed P model) (r : ℕ) (h : r < length P) where
  -- no cell is above 7
  pub cells_few : (a b : ℕ) → a < 8 → b < 8 → get_or model (65 * r + (8 * a + b)) 0 ≤ 7
  cells_few a b la lb = f.small r a b h la lb

  -- a cell is zero where its ends are equal
  pub equal_ends : (a : ℕ) → a < 8 → get_or model (65 * r + (8 * a + a)) 0 ≡ 0
  equal_ends a la = f.zero r a a h la la (inl refl)

  -- where its second end is 0
  pub second_end_0 : (a : ℕ) → a < 8 → get_or model (65 * r + (8 * a + 0)) 0 ≡ 0
  second_end_0 a la = f.zero r a 0 h la (omega arith) (inr (inl refl))

  -- where its first end exceeds k
  pub first_end_above : (a b : ℕ) → a < 8 → b < 8 → params P r < a → get_or model (65 * r + (8 * a + b)) 0 ≡ 0
  first_end_above a b la lb k = f.zero r a b h la lb (inr (inr (inl k)))

  -- and where its second end does
  pub second_end_above : (a b : ℕ) → a < 8 → b < 8 → params P r < b → get_or model (65 * r + (8 * a + b)) 0 ≡ 0
  second_end_above a b la lb k = f.zero r a b h la lb (inr (inr (inr k)))

  -- no last byte is above 1
  pub last_few : get_or model (65 * r + 64) 0 ≤ 1
  last_few = f.last r h

-- whether all numbers below n have a property
below? : (F : ℕ → Type 0) → ((x : ℕ) → Dec (F x)) → (n : ℕ) → Dec ((x : ℕ) → x < n → F x)
below? F d zero = yes (λ x h. absurd (omega (arith, h)))
below? F d (suc n) = go (d n) (below? F d n)
  where
    go : Dec (F n) → Dec ((x : ℕ) → x < n → F x) → Dec ((x : ℕ) → x < suc n → F x)
    go (no m) e = no (λ f. m (f n (omega arith)))
    go (yes p) (no m) = no (λ f. m (λ x h. f x (omega (arith, h))))
    go (yes p) (yes f) = yes (λ x h. by x h (ℕ_discrete x n))
      where
        by : (x : ℕ) → x < suc n → Dec (x ≡ n) → F x
        by x h (yes e) = rw e p
        by x h (no m) = f x (omega (arith, h, m))

-- whether no row of a routine with k parameters has the pair (a, b)
no_pair? : (k a b : ℕ) → Dec (NoPair k a b)
no_pair? k a b = go (ℕ_discrete a b) (ℕ_discrete b 0) (dec_lt k a) (dec_lt k b)
  where
    go : Dec (a ≡ b) → Dec (b ≡ 0) → Dec (k < a) → Dec (k < b) → Dec (NoPair k a b)
    go (yes e) x y z = yes (inl e)
    go (no l) (yes e) y z = yes (inr (inl e))
    go (no l) (no m) (yes e) z = yes (inr (inr (inl e)))
    go (no l) (no m) (no n) (yes e) = yes (inr (inr (inr e)))
    go (no l) (no m) (no n) (no o) = no (λ p. none p)
      where
        none : NoPair k a b → ⊥
        none (inl e) = l e
        none (inr (inl e)) = m e
        none (inr (inr (inl e))) = n e
        none (inr (inr (inr e))) = o e

-- whether v is a byte that the cell (a, b) may have
cell? : (v a b k : ℕ) → Dec (CellFits v a b k)
cell? v a b k = go (dec_le v 7) (no_pair? k a b) (ℕ_discrete v 0)
  where
    go : Dec (v ≤ 7) → Dec (NoPair k a b) → Dec (v ≡ 0) → Dec (CellFits v a b k)
    go (no n) p z = no (λ c. n c.small)
    go (yes l) p (yes z) = yes (record { small = l; zero = λ q. z })
    go (yes l) (yes p) (no n) = no (λ c. n (c.zero p))
    go (yes l) (no m) (no n) = yes (record { small = l; zero = λ q. absurd (m q) })

module _ (P : Program) (model : List ℕ) where
  -- the cells of row r are those of a well-formed model
  abbrev Cells : ℕ → Type 0
  Cells r = (a : ℕ) → a < row_names → (b : ℕ) → b < row_names → CellFits (cell_byte model r a b) a b (params P r)

  cells? : (r : ℕ) → Dec (Cells r)
  cells? r = below? (λ a. (b : ℕ) → b < row_names → CellFits (cell_byte model r a b) a b (params P r))
      (λ a. below? (λ b. CellFits (cell_byte model r a b) a b (params P r))
      (λ b. cell? (cell_byte model r a b) a b (params P r)) row_names) row_names

  -- whether a model is well formed
  pub formed? : Dec (Formed P model)
  formed? = go (below? Cells cells? (length P))
      (below? (λ r. last_byte model r ≤ 1) (λ r. dec_le (last_byte model r) 1) (length P))
    where
      go : Dec ((r : ℕ) → r < length P → Cells r) → Dec ((r : ℕ) → r < length P → last_byte model r ≤ 1)
          → Dec (Formed P model)
      go (no n) l = no (λ f. n (λ r h a la b lb.
          record { small = f.small r a b h la lb; zero = f.zero r a b h la lb }))
      go (yes c) (no n) = no (λ f. n f.last)
      go (yes c) (yes l) = yes (record {
        small = λ r a b h la lb. (c r h a la b lb).small;
        zero = λ r a b h la lb. (c r h a la b lb).zero;
        last = l;
      })

-- two routines, the second of two parameters
abbrev two : Program
two = record { count = 0; code = end } ∷ record { count = 2; code = end } ∷ []

-- the model of these with 7 in the cell (0, 1) of routine 1, v in the byte i of its row, and else zero
abbrev with : ℕ → ℕ → List ℕ
with i v = set (set (replicate 130 0) 66 7) (65 + i) v

-- a computed model, and whether it is well formed
pub record Tried : Type 0 where
  pub model : List ℕ
  pub formed : Bool

abbrev try : ℕ → ℕ → Bool → Tried
try i v formed = record { model = with i v; formed = formed }

abbrev pub models : List Tried
models =
    -- the cell (1, 2) may have each of its three labels, and the last byte may be 1
    try (8 * 1 + 2) 7 true ∷ try 64 1 true
    -- a cell above 7, and a last byte above 1
    ∷ try (8 * 1 + 2) 8 false ∷ try 64 2 false
    -- equal ends, the second end 0, a first and a second end above k
    ∷ try (8 * 1 + 1) 1 false ∷ try (8 * 1 + 0) 1 false ∷ try (8 * 3 + 1) 1 false ∷ try (8 * 1 + 3) 1 false
    ∷ []

-- each is well formed, or is not, as is said of it
pub grounds_tried : map (λ m. decide (formed? two m.model)) models ≡ map (λ m. m.formed) models
unfolding decide ℕ_discrete dec_lt dec_le no_pair? cell? below? cells? formed?
grounds_tried = refl
