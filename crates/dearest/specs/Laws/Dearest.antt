-- What is written: one text alone, no longer than the longest, and a table that needs as many rounds as an acyclic one
-- may.
use Rattle.std.specs.Prelude.{◌≡◌, ◌⊎◌, List, ℕ, ◌+◌, ◌≤◌, ◌<◌, length, take, drop}
use Rattle.std.proofs.Common.{sym, ap, ◌∙◌, inl, inr, arith, take_at}
use Rattle.std.proofs.Math.Decide.{dec_lt}
use Rattle.std.proofs.lemmas.List.Edits.{sets-eq}
use Rattle.table.specs.Constants.{most_routines}
use Rattle.table.specs.Program.{Program}
use Rattle.table.specs.Check.{accepted, check_table}
use Rattle.append.specs.Appends.{Appends}
use Rattle.rounds.specs.Rounds.{Rounds, Acyclic}
use Rattle.rounds.specs.Chain.{chain, chain_table}
use Rattle.rounds.proofs.Laws.ChainRounds.{chain_long, chain_acyclic, chain_rounds}
use Rattle.rounds.proofs.Laws.ChainTable.{chain_accepted}
use Rattle.dearest.specs.Written.{Written}
use Rattle.dearest.specs.Laws.Parts.{table_long}

-- there is a chain of n routines, or there is none
which : (n : ℕ) → ((1 ≤ n) × (n ≤ most_routines)) ⊎ ((n ≡ 0) ⊎ (most_routines < n))
which n = go (dec_lt 0 n) (dec_lt most_routines n)
  where
    go : Dec (0 < n) → Dec (most_routines < n) → ((1 ≤ n) × (n ≤ most_routines)) ⊎ ((n ≡ 0) ⊎ (most_routines < n))
    go (no h) d = inr (inl (omega arith))
    go (yes l) (yes h) = inr (inr h)
    go (yes l) (no h) = inl (omega arith, omega arith)

-- the contract leaves nothing free
pub written_unique : (n : ℕ) {before after after' : List ℕ} {size size' : ℕ}
    → Written n before after size → Written n before after' size' → (after ≡ after') × (size ≡ size')
written_unique n {before} {after} {after'} {size} {size'} p q = go (which n)
  where
    go : ((1 ≤ n) × (n ≤ most_routines)) ⊎ ((n ≡ 0) ⊎ (most_routines < n)) → (after ≡ after') × (size ≡ size')
    go (inl w) =
        let f = p.chain w.0 w.1 in
        let g = q.chain w.0 w.1 in
        (f.bytes ∙ sym g.bytes, f.place ∙ sym g.place)
    go (inr o) =
        let f = p.none o in
        let g = q.none o in
        (f.0 ∙ sym g.0, f.1 ∙ sym g.1)

-- how long the table of a chain is at most
pub written_short : (n : ℕ) {before after : List ℕ} {size : ℕ} → Written n before after size → size ≤ 525
written_short n {before} {after} {size} p = go (which n)
  where
    go : ((1 ≤ n) × (n ≤ most_routines)) ⊎ ((n ≡ 0) ⊎ (most_routines < n)) → size ≤ 525
    go (inl w) =
        let l = w.0 in
        let h = w.1 in
        let e = (p.chain l h).place in
        let s = table_long n l in
        omega arith
    go (inr o) = let e = (p.none o).1 in omega arith

-- the bytes hold a program of n routines, none of which reaches itself, that needs n + 1 rounds
pub record Dearest (n : ℕ) (table : List ℕ) : Type 0 where
  pub program : Program
  pub holds : check_table table ≡ accepted program
  pub long : length program ≡ n
  pub acyclic : Acyclic program
  pub rounds : Rounds program (n + 1)

-- and so do those that are written where there is room for them
pub written_dearest : (n : ℕ) {before after : List ℕ} {size : ℕ} → 1 ≤ n → n ≤ most_routines
    → Written n before after size → size ≤ length before → Dearest n (take size after)
written_dearest n {before} {after} {size} l h p room =
    rw text (record {
      program = chain n;
      holds = chain_accepted n l h;
      long = chain_long n;
      acyclic = chain_acyclic n;
      rounds = chain_rounds n l;
    })
  where
    f : Appends 0 (chain_table n) before after size
    f = p.chain l h

    whole : 0 + length (chain_table n) ≤ length before
    whole = let e = f.place in omega arith

    text : take size after ≡ chain_table n
    text = ap (take size) (f.bytes ∙ sets-eq (chain_table n) before 0 whole)
        ∙ take_at (chain_table n) (drop (0 + length (chain_table n)) before) size (let e = f.place in omega arith)
