-- There are at most 148 × n + 1 rounds: each but the last sets one of the 49 × 3 label bits of a row, or its last byte.
use Rattle.std.specs.Prelude.{◌≡◌, refl, ◌≢◌, List, ℕ, zero, suc, ◌+◌, ◌*◌, ◌≤◌, ◌<◌, length}
use Rattle.std.proofs.Common.{inl, inr, arith, length-append}
use Rattle.table.specs.Constants.{row_names}
use Rattle.table.specs.Program.{Program}
use Rattle.table.specs.WellFormed.{In}
use Rattle.table.specs.Encoding.{WithinLimits}
use Rattle.table.proofs.Laws.Formed.{well_formed}
use Rattle.rules.specs.Label.{Label, own, forked, unknown, several, cut}
use Rattle.rules.proofs.Laws.Tests.{both, equal, at_most, negated}
use Rattle.rules.proofs.Laws.Lists.{up_to, in_up_to, gather, gathered, guarded}
use Rattle.rounds.specs.Rounds.{RowsAfter, RingAfter, Changeless, Rounds, most_changes}
use Rattle.rounds.proofs.Laws.Bits.{Bit, cell, last, lowest, three_bits, cell_bits, row_bits}
use Rattle.rounds.proofs.Laws.Steps.{in_model, rows_add, rings_add, all_same}
use Rattle.rounds.proofs.Laws.Counts.{changes_le}
use Rattle.rounds.proofs.Laws.Positive.{model_positive}

-- the rows of n routines have 148 × n bits
rows_long : (n : ℕ) → length (gather row_bits (up_to n)) ≡ most_changes * n
rows_long zero = refl
rows_long (suc n) =
    let e = rows_long n in
    let s = length-append (row_bits n) (gather row_bits (up_to n)) in
    omega arith

-- an entry of a list that is gathered
in_gather : {A B : Type 0} (f : A → List B) (xs : List A) (x : A) (y : B) → In x xs → In y (f x) → In y (gather f xs)
in_gather f xs x y i j = (gathered {y = y} xs (λ z. record { fact = λ p. p; entry = λ p. p })).entry (x, i, j)

cut_bits : (r a b : ℕ) (m : Label) → In (cell r a b (cut m)) (three_bits r a b)
cut_bits r a b own = inl refl
cut_bits r a b (forked i) = inr (inl refl)
cut_bits r a b unknown = inr (inl refl)
cut_bits r a b several = inr (inr (inl refl))

cell_in :
    (r a b : ℕ) (m : Label) → a < row_names → b < row_names → lowest ≤ b → a ≢ b → In (cell r a b (cut m)) (row_bits r)
cell_in r a b m ha hb low ne =
    inr (in_gather (λ a. gather (cell_bits r a) (up_to row_names)) (up_to row_names) a (cell r a b (cut m))
    (in_up_to a row_names ha)
    (in_gather (cell_bits r a) (up_to row_names) b (cell r a b (cut m)) (in_up_to b row_names hb)
    ((guarded {x = cell r a b (cut m)} (both (negated (equal a b)) (at_most lowest b))
    (record { fact = λ p. p; entry = λ p. p })).entry ((ne, low), cut_bits r a b m))))

module _ (P : Program) (within : WithinLimits P) where
  -- the bit is set after i rounds
  abbrev Set : ℕ → Bit → Type 0
  Set i (cell r a b l) = RowsAfter P i r a b l
  Set i (last r) = RingAfter P i r

  stays : (i : ℕ) (x : Bit) → Set i x → Set (suc i) x
  stays i (cell r a b l) = rows_add P i r a b l
  stays i (last r) = rings_add P i r

  abbrev bits : List Bit
  bits = gather row_bits (up_to (length P))

  -- a round that sets no bit changes nothing
  none_set : (i : ℕ) → ((x : Bit) → In x bits → Set (suc i) x → Set i x) → Changeless P i
  none_set i f = all_same P i (λ r h. record { cells = cells r h; ring = ring r h })
    where
      cells : (r : ℕ) → r < length P → (a b : ℕ) (l : Label) → RowsAfter P (suc i) r a b l → RowsAfter P i r a b l
      cells r h a b l w =
          let k = (within.fits r h).few_params in
          let p = w.2 in
          let q = w.3 in
          let pos = model_positive P (well_formed P within) (in_model P (suc i) r a b w.0 w.1) in
          let j = cell_in r a b w.0 (omega arith) (omega arith) (omega arith) w.4 in
          let j' : In (cell r a b l) (row_bits r) = rw w.5 j in
          f (cell r a b l) (in_gather row_bits (up_to (length P)) r (cell r a b l) (in_up_to r (length P) h) j') w

      ring : (r : ℕ) → r < length P → RingAfter P (suc i) r → RingAfter P i r
      ring r h w =
          f (last r) (in_gather row_bits (up_to (length P)) r (last r) (in_up_to r (length P) h) (inl refl)) w

  -- at most 148 × n rounds change something
  pub changing_le : (m : ℕ) → ((i : ℕ) → i < m → Changeless P i → ⊥) → m ≤ most_changes * length P
  changing_le m f =
      let h = changes_le Set bits stays m (λ i l g. f i l (none_set i g)) in
      let e = rows_long (length P) in
      omega arith

  -- so there are at most 148 × n + 1 rounds
  pub rounds_le : (m : ℕ) → Rounds P m → m ≤ most_changes * length P + 1
  rounds_le m p =
      let h = changing_le p.before (λ i l c. let g = p.first i c in omega arith) in
      let s = p.number in
      omega arith

  -- in the number of docs/FORMAT.md
  pub at_most_148 : (m : ℕ) → Rounds P m → m ≤ 148 * length P + 1
  at_most_148 = rounds_le
