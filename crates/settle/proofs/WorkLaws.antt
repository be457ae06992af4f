-- What is worked out in a body: the walk records, and the closing composes.
use mathlib.Core.Path.{◌≡◌, ap, ◌∙◌}
use mathlib.Core.Logic.{⊎_elim}
use mathlib.Core.List.{List, ◌++◌}
use Prim.Native.Nat.{ℕ, ◌*◌, ◌≤◌}
use native.Mathlib.Omega.{arith}
use lib.ListN.{length, get_or, drop}
use Rattle.table.specs.Constants.{END}
use Rattle.table.specs.Program.{body}
use Rattle.table.specs.Encoding.{encode}
use Rattle.table.proofs.Laws.Formed.{well_formed}
use Rattle.rules.specs.Label.{Label}
use Rattle.rules.specs.Model.{at_head}
use Rattle.rules.specs.Derived.{RecordedFrom, Closed, KeptFrom}
use Rattle.grid.specs.Grid.{Pair, Small, AllKept, Empty, Closure}
use Rattle.rows.specs.Bytes.{RowBits, RowsOf}
use Rattle.rows.specs.Laws.Fixpoint.{closed_mono, recorded_calls}
use Rattle.table.specs.Laws.Fine.{IsBody}
use Rattle.pairs.specs.Gains.{Gains}
use Rattle.pairs.specs.Parts.{Records}
use Rattle.settle.specs.Bodies.{BodyReady, Works}
use Rattle.rules.proofs.Laws.Verdict.{body_calls}
use Rattle.table.proofs.Laws.Sections.{routines}
use Rattle.settle.specs.Laws.Surveys.{rest, fine_here, bytes_here, is_body}

module _ (ks s : List ℕ) (at r : ℕ) (rows : List ℕ) where
  pub can_record : BodyReady ks s at r rows → IsBody ks (get_or ks r 0) s at × (65 * length ks ≤ length rows)
  can_record b =
      let o = b.body_of in
      let e = routines b.program ks s o.holds in
      let l = b.long in
      (is_body b.program ks s o.holds r o.listed at o.starts, omega arith)

  -- what is recorded from an empty grid can be closed
  pub can_close : (e g : List (List ℕ)) → BodyReady ks s at r rows → Empty e
      → Records ks (get_or ks r 0) s at rows e g
      → Small g × AllKept g
  can_close e g b em rec =
      let c = (can_record b).0 in
      let q = rec c.0 c.1 c.2 c.3 in
      (q.small, q.kept em.kept)

  pub works : (e g c : List (List ℕ)) → Empty e → Records ks (get_or ks r 0) s at rows e g → Closure g c
      → Works ks s at r rows c
  works e g c em rec cl P o = record { only = only; all = all }
    where
      bytes : drop at s ≡ encode END (body P r) ++ rest P ks s o.holds r o.listed
      bytes = ap (λ (v : ℕ). drop v s) o.starts ∙ bytes_here P ks s o.holds r o.listed

      gains : Gains e (RecordedFrom (RowBits rows) (body P r) at_head) g
      gains = rec (body P r) _ (fine_here P ks s o.holds r o.listed) bytes

      -- the rows of the routines that the body calls are rows of the program
      to_rows : (a b : ℕ) (l : Label) → Pair g a b l → KeptFrom (RowsOf (length P) rows) (body P r) a b l
      to_rows a b l p =
          let w = ⊎_elim (λ q. absurd (em.none a b l q)) (λ q. q) (gains.only a b l p) in (
            recorded_calls (RowBits rows) (RowsOf (length P) rows) (body P r)
                (λ q x y m k h. (body_calls P (well_formed P o.holds.limits) r q o.listed k, h)) at_head a b l
                w.0,
            w.1,
          )

      from_rows : (a b : ℕ) (l : Label) → KeptFrom (RowsOf (length P) rows) (body P r) a b l → Pair g a b l
      from_rows a b l w =
          gains.new a b l
          (recorded_calls (RowsOf (length P) rows) (RowBits rows) (body P r) (λ q x y m k h. h.1) at_head
          a b l w.0)
          w.1

      only : (a b : ℕ) (l : Label) → Pair c a b l → Closed (KeptFrom (RowsOf (length P) rows) (body P r)) a b l
      only a b l p = closed_mono (Pair g) (KeptFrom (RowsOf (length P) rows) (body P r)) to_rows (cl.only a b l p)

      all : (a b : ℕ) (l : Label) → Closed (KeptFrom (RowsOf (length P) rows) (body P r)) a b l → Pair c a b l
      all a b l w = cl.all a b l (closed_mono (KeptFrom (RowsOf (length P) rows) (body P r)) (Pair g) from_rows w)
