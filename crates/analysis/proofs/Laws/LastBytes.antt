-- The share that is answered is that of the bytes left in the buffer: of the reached routines, c have a last byte of 0.
use Rattle.std.specs.Prelude.{◌≡◌, List, ℕ}
use Rattle.table.specs.Program.{Program}
use Rattle.table.specs.Check.{accepted, check_table}
use Rattle.table.proofs.Laws.Accepts.{Bytes}
use Rattle.table.proofs.Laws.Sound.{sound}
use Rattle.table.proofs.Laws.Formed.{well_formed}
use Rattle.rules.specs.Model.{Ring}
use Rattle.rules.specs.Verdict.{Reached}
use Rattle.rules.specs.Share.{Count, ReachedRingless}
use Rattle.rules.proofs.Laws.Verdict.{reached_within}
use Rattle.rules.proofs.Laws.Share.{count_map}
use Rattle.rows.specs.Bytes.{last_byte}
use Rattle.analysis.specs.Answer.{Flag, Shares, JudgedAs}
use Rattle.analysis.proofs.Laws.Bytes.{flag_none, flag_false}
use Rattle.analysis.specs.declared.Share.{Share}
use Rattle.analysis.specs.declared.Judgement.{Judgement}

-- the share is that of P, and its c is the number of reached routines that have a last byte of 0
pub record SharesBytes (P : Program) (model : List ℕ) (share : Share) : Type 0 where
  pub shares : Shares P share
  pub zeros : Count (λ r. Reached P r × (last_byte model r ≡ 0)) shares.c

-- of a table that is accepted
pub shares_bytes :
    (table : List ℕ) (P : Program) (before after : List ℕ) (j : Judgement) → Bytes table → check_table table ≡ accepted P
    → JudgedAs P before after j → SharesBytes P after j.share
shares_bytes table P before after j bytes accepts w =
    record { shares = w.shares; zeros = count_map to from w.shares.ringless }
  where
    flag : (r : ℕ) → Reached P r → Flag (last_byte after r) ((x : ℕ) × Ring P r x)
    flag r h = w.model.last r (reached_within P (well_formed P (sound table P bytes accepts).1) r h)

    to : (r : ℕ) → ReachedRingless P r → Reached P r × (last_byte after r ≡ 0)
    to r h = (h.0, flag_none (last_byte after r) ((x : ℕ) × Ring P r x) (flag r h.0) (λ w. h.1 w.0 w.1))

    from : (r : ℕ) → Reached P r × (last_byte after r ≡ 0) → ReachedRingless P r
    from r h =
        (h.0, λ x ring. flag_false (last_byte after r) ((y : ℕ) × Ring P r y) (flag r h.0) h.1 (x, ring))
