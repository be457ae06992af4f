-- What is written is the canonical table.
use mathlib.Core.Path.{◌≡◌, refl, ap, ◌∙◌}
use Rattle.std.specs.Prelude.{Option}
use mathlib.Core.Logic.{inl, inr}
use mathlib.Core.List.{List, [], ◌∷◌, map}
use Prim.Native.Nat.{ℕ, zero, suc, ◌+◌, ◌<◌}
use native.Mathlib.Omega.{arith}
use lib.ListN.{length, get_or}
use Rattle.table.specs.Constants.{END}
use Rattle.table.specs.Program.{names}
use Rattle.table.specs.WellFormed.{In}
use Rattle.table.proofs.Laws.Lists.{names_in}
use Rattle.table.specs.Program.{Program, empty, params, body, locals}
use Rattle.table.specs.Encoding.{encode, encode_bodies, counts, WithinLimits}
use Rattle.rules.specs.Verdict.{Reached, then}
use Rattle.canon.specs.Canonical.{order, position, recalled, resolved, rewritten, canonical}
use Rattle.table.proofs.Laws.Formed.{well_formed}
use Rattle.rules.proofs.Laws.Verdict.{reached_within}
use Rattle.canon.proofs.Laws.Order.{order_reached, reached_order}
use Rattle.canon.proofs.Laws.Rewrite.{recalled_agree}
use Rattle.canon.proofs.Laws.Canonical.{calls_resolved}
use Rattle.order.specs.Items.{items_of}
use Rattle.rewrite.specs.Writing.{new_number, written_all}
use Rattle.rewrite.specs.Laws.Written.{At, written_code, number}
use Rattle.rewrite.specs.Writing.{at_start, itself16}
use Rattle.writer.specs.Parts.{texts}

-- the numbers from a on, n of them
from : ℕ → ℕ → List ℕ
from a zero = []
from a (suc n) = a ∷ from (a + 1) n

from_at : (n a x : ℕ) → x < n → get_or (from a n) x 0 ≡ a + x
unfolding from
from_at zero a x l = absurd (omega arith)
from_at (suc n) a zero l = omega arith
from_at (suc n) a (suc x) l = let h = from_at n (a + 1) x (omega arith) in omega arith

itself_at : (x : ℕ) → x < 16 → get_or itself16 x 0 ≡ x
unfolding from
itself_at x l = let h : get_or itself16 x 0 ≡ 0 + x = from_at 16 0 x l in omega arith

module _ (P : Program) (within : WithinLimits P) (ps : List (Option ℕ))
    (placed : (r : ℕ) → In r (order P) → new_number ps r ≡ position (order P) r) where
  at_head_lem : (r : ℕ) → r < length P → At P (params P r) ps 0 (locals (body P r)) (names (params P r)) (λ x. x)
      (params P r + 1) (at_start (params P r))
  at_head_lem r l =
      let f = within.fits r l in
      let k = f.few_params in
      let n = f.few_locals in
      record {
        old = omega arith;
        next = refl;
        room = omega arith;
        knows = record {
          low = λ x i. let m = names_in (params P r) x i in let a = m.1 in let b = m.2 in omega arith;
          name = λ x i. itself_at x (let m = names_in (params P r) x i in let a = m.1 in let b = m.2 in omega arith);
        };
      }

  -- the text of one body
  body_text : (r : ℕ) → Reached P r
      → written_all ps (at_start (params P r)) (items_of END (body P r))
      ≡ encode END (recalled (position (order P)) (resolved (get_or P r empty)))
  body_text r w =
      let ok = well_formed P within in
      let l = reached_within P ok r w in
      let f = within.fits r l in
      let k = params P r in
      (written_code P k ps 0 0 END (names k) (λ x. x) (k + 1) (body P r) f.scoped f.numbered (at_start k)
      (at_head_lem r l)).0
      ∙ ap (encode END) (recalled_agree (number P k ps) (position (order P)) (resolved (get_or P r empty))
      (λ q h. placed q (reached_order P ok q (then w (calls_resolved (get_or P r empty) q h)))))

  texts_some : (rs : List ℕ) → ((r : ℕ) → In r rs → In r (order P))
      → texts ps P rs ≡ encode_bodies (map (λ r. rewritten (position (order P)) (get_or P r empty)) rs)
  texts_some [] all = refl
  texts_some (r ∷ rs) all =
      let e = body_text r (order_reached P r (all r (inl refl))) in
      let f = texts_some rs (λ q i. all q (inr i)) in
      cc

  -- the text of the bodies
  pub texts_canonical : texts ps P (order P) ≡ encode_bodies (canonical P)
  unfolding canonical
  texts_canonical = texts_some (order P) (λ r i. i)

counts_some : (P : Program) (f : ℕ → ℕ) (rs : List ℕ)
    → counts (map (λ r. rewritten f (get_or P r empty)) rs) ≡ map (params P) rs
counts_some P f [] = refl
counts_some P f (r ∷ rs) = ap (λ (l : List ℕ). params P r ∷ l) (counts_some P f rs)

pub counts_canonical : (P : Program) → counts (canonical P) ≡ map (params P) (order P)
unfolding canonical
counts_canonical P = counts_some P (position (order P)) (order P)
