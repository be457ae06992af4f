-- Rounds one after the other: they only add, they add nothing that the model lacks, and after the last one the rows are
-- the model's.
use Rattle.rounds.specs.Laws.Steps.{Steady, SameRow}
use Rattle.std.specs.Prelude.{◌≡◌, refl, ◌↔◌, ℕ, zero, suc, ◌+◌, ◌-◌, ◌≤◌, ◌<◌, length}
use Rattle.std.proofs.Math.Decide.{dec_lt}
use Rattle.std.proofs.Common.{arith}
use Rattle.table.specs.Program.{Program}
use Rattle.rules.specs.Label.{Label, several, cut}
use Rattle.rules.specs.Model.{Model, Ring}
use Rattle.rules.proofs.Laws.Least.{row_mono}
use Rattle.rows.specs.Laws.Fixpoint.{UpToDate, sound_step, settled, Settled}
use Rattle.rounds.specs.Rounds.{PairsIn, RowsAfter, RingAfter, Changeless, Rounds}
use Rattle.rounds.proofs.Laws.LeastGiven.{Within, derived_mono, model_listed}

-- a round only adds
pub adds : (P : Program) (i : ℕ) → Within (PairsIn P i) (PairsIn P (suc i))
adds P zero = λ r a b l w. absurd w
adds P (suc i) =
    derived_mono P (RowsAfter P i) (RowsAfter P (suc i)) (row_mono P (PairsIn P i) (PairsIn P (suc i)) (adds P i))

-- every pair is one of the model
pub in_model : (P : Program) (i : ℕ) → Within (PairsIn P i) (Model P)
in_model P zero = λ r a b l w. absurd w
in_model P (suc i) = sound_step P (RowsAfter P i) (row_mono P (PairsIn P i) (Model P) (in_model P i))

-- nothing is worked out for a routine that the program does not have
pub none_beyond : (P : Program) (i r a b : ℕ) (l : Label) → length P ≤ r → PairsIn P i r a b l → ⊥
none_beyond P i r a b l h w = let k = model_listed P (in_model P i r a b l w) in omega arith

-- the rows that a changeless round leaves are up to date, so they are the model's
last_is_model : (P : Program) (i : ℕ) → Changeless P i → Settled P (RowsAfter P i)
last_is_model P i c =
    settled P (RowsAfter P i) (row_mono P (PairsIn P i) (Model P) (in_model P i)) (λ r h. current r)
  where
    current : (r : ℕ) → UpToDate P (RowsAfter P i) r
    current r a b m w ha hb ne = (c.cells r a b (cut m)).0 (m, w, ha, hb, ne, refl)

-- the number of rounds is one
pub rounds_unique : (P : Program) (m n : ℕ) → Rounds P m → Rounds P n → m ≡ n
rounds_unique P m n p q =
    let h = p.first q.before q.changeless in
    let k = q.first p.before p.changeless in
    let e = p.number in
    let f = q.number in
    omega arith

-- a round only adds to rows and last bytes, too
pub rows_add : (P : Program) (i : ℕ) → Within (RowsAfter P i) (RowsAfter P (suc i))
rows_add P i = row_mono P (PairsIn P i) (PairsIn P (suc i)) (adds P i)

pub rings_add : (P : Program) (i r : ℕ) → RingAfter P i r → RingAfter P (suc i) r
rings_add P i r w = (w.0, adds P i r w.0 w.0 several w.1)

pub steady_same : (P : Program) (i r : ℕ) → Steady P i r → SameRow P i r
steady_same P i r s = record {
  cells = λ a b l w. (w.0, s a b w.0 w.1, w.2, w.3, w.4, w.5);
  ring = λ w. (w.0, s w.0 w.0 several w.1);
}

-- where that is so of each routine of the program, the next round changes nothing
pub all_same : (P : Program) (i : ℕ) → ((r : ℕ) → r < length P → SameRow P i r) → Changeless P i
all_same P i f = record {
  cells = λ r a b l. (λ w. cells r a b l w (dec_lt r (length P)), rows_add P i r a b l);
  rings = λ r. (λ w. rings r w (dec_lt r (length P)), rings_add P i r);
}
  where
    cells : (r a b : ℕ) (l : Label) → RowsAfter P (suc i) r a b l → Dec (r < length P) → RowsAfter P i r a b l
    cells r a b l w (yes h) = (f r h).cells a b l w
    cells r a b l w (no n) = absurd (none_beyond P (suc i) r a b w.0 (omega arith) w.1)

    rings : (r : ℕ) → RingAfter P (suc i) r → Dec (r < length P) → RingAfter P i r
    rings r w (yes h) = (f r h).ring w
    rings r w (no n) = absurd (none_beyond P (suc i) r w.0 w.0 several (omega arith) w.1)

-- so it is where nothing more is worked out for any routine
pub changeless : (P : Program) (i : ℕ) → ((r : ℕ) → Steady P i r) → Changeless P i
changeless P i s = all_same P i (λ r h. steady_same P i r (s r))

-- a round that changes nothing is followed by others that change nothing
changeless_next : (P : Program) (i : ℕ) → Changeless P i → Changeless P (suc i)
changeless_next P i c =
    changeless P (suc i) (derived_mono P (RowsAfter P (suc i)) (RowsAfter P i) (λ r a b l w. (c.cells r a b l).0 w))

changeless_after : (P : Program) (i j : ℕ) → Changeless P i → Changeless P (j + i)
changeless_after P i zero c = let e : 0 + i ≡ i = omega arith in rw e c
changeless_after P i (suc j) c =
    let e : suc j + i ≡ suc (j + i) = omega arith in
    rw e (changeless_next P (j + i) (changeless_after P i j c))

changeless_from : (P : Program) (i m : ℕ) → i ≤ m → Changeless P i → Changeless P m
changeless_from P i m h c = let e : (m - i) + i ≡ m = omega arith in rw e at (changeless_after P i (m - i) c)

-- one more round after the last would change nothing
rounds_changeless : (P : Program) (m : ℕ) → Rounds P m → Changeless P m
rounds_changeless P m p = changeless_from P p.before m (let e = p.number in omega arith) p.changeless

-- the rows after the last round are the model's
pub rounds_model : (P : Program) (m : ℕ) → Rounds P m → Settled P (RowsAfter P m)
rounds_model P m p = last_is_model P m (rounds_changeless P m p)

-- and their last bytes are those of the model's rings
pub rounds_rings : (P : Program) (m r : ℕ) → Rounds P m → RingAfter P m r ↔ ((x : ℕ) × Ring P r x)
rounds_rings P m r p = (to, from)
  where
    to : RingAfter P m r → (x : ℕ) × Ring P r x
    to w = (w.0, in_model P m r w.0 w.0 several w.1)

    from : ((x : ℕ) × Ring P r x) → RingAfter P m r
    from w = ((rounds_changeless P m p).rings r).0 (w.0, (rounds_model P m p).ring_from r w.0 w.1)
