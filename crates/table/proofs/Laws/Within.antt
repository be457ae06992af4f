-- The bodies of a program within the limits are fine.
use Rattle.std.specs.Prelude.{◌≡◌, refl, List, [], ◌∷◌, ◌++◌, ℕ, zero, suc, ◌+◌, ◌<◌, length, drop}
use Rattle.std.proofs.Common.{sym, ap, ◌∙◌, arith, add-one, drop-drop, drop_at}
use Rattle.table.specs.Constants.{END}
use Rattle.table.specs.Program.{Code, end, new, lock, fork, choice, call, mirror, Program, params, body}
use Rattle.table.specs.Program.{names}
use Rattle.table.specs.WellFormed.{Scoped}
use Rattle.table.specs.Encoding.{encode, encode_bodies, counts, WithinLimits}
use Rattle.table.proofs.Laws.Sound.{counts_length, counts_params}
use Rattle.table.specs.Laws.Fine.{Calling, Uses, Fine, IsBody}

-- its calls are of routines of the program, with a name for each parameter
module _ (P : Program) (h : WithinLimits P) (k : ℕ) where
  calling : (s : List ℕ) (c : Code) → Scoped P k s c → Calling (counts P) c
  calling s end p = tt
  calling s (new x c) p = calling (x ∷ s) c p.1
  calling s (lock x c d) p = (calling s c p.1, calling s d p.2)
  calling s (fork i c d) p = (calling s c p.0, calling s d p.1)
  calling s (choice a b c) p = (calling s a p.0, calling s b p.1, calling s c p.2)
  calling s (call r xs c) p = (
    rw (counts_length P) p.0,
    rw (counts_params P r) p.1,
    rw p.1 (h.fits r p.0).few_params,
    calling s c p.3,
  )
  calling s (mirror x y c) p = calling (x ∷ s) c p.2

-- and its names are in scope
uses : (P : Program) (k : ℕ) (s : List ℕ) (c : Code) → Scoped P k s c → Uses s c
uses P k s end p = tt
uses P k s (new x c) p = uses P k (x ∷ s) c p.1
uses P k s (lock x c d) p = (p.0, uses P k s c p.1, uses P k s d p.2)
uses P k s (fork i c d) p = (uses P k s c p.0, uses P k s d p.1)
uses P k s (choice a b c) p = (uses P k s a p.0, uses P k s b p.1, uses P k s c p.2)
uses P k s (call r xs c) p = (p.2, uses P k s c p.3)
uses P k s (mirror x y c) p = (p.1, uses P k (x ∷ s) c p.2)

-- each body of a program within the limits is fine
pub fine : (P : Program) (r : ℕ) → WithinLimits P → r < length P → Fine (counts P) (params P r) (body P r)
fine P r h l =
    let f = h.fits r l in
    let a = f.few_params in
    let b = f.few_locals in
    record {
      calling = calling P h (params P r) (names (params P r)) (body P r) f.scoped;
      uses = uses P (params P r) (names (params P r)) (body P r) f.scoped;
      few_open = f.few_open;
      numbered = f.numbered;
      few_names = omega arith;
      few_forks = f.few_forks;
    }

-- the bodies from routine r on are its body and those after it
pub bodies_from : (P : Program) (r : ℕ) → r < length P
    → encode_bodies (drop r P) ≡ encode END (body P r) ++ encode_bodies (drop (suc r) P)
bodies_from [] r l = absurd (omega arith)
bodies_from (q ∷ P) zero l = refl
bodies_from (q ∷ P) (suc r) l = bodies_from P r (omega arith)

module _ (P : Program) (h : WithinLimits P) (s : List ℕ) (at r : ℕ) (e : drop at s ≡ encode_bodies (drop r P))
    (l : r < length P) where
  -- where the bodies from routine r on are left, its body starts
  pub is_body : IsBody (counts P) (params P r) s at
  is_body = (body P r, encode_bodies (drop (suc r) P), fine P r h l, e ∙ bodies_from P r l)

  -- past it the bodies after it are left
  pub next_body : drop (at + length (encode END (body P r))) s ≡ encode_bodies (drop (r + 1) P)
  next_body =
      sym (drop-drop (length (encode END (body P r))) at s)
      ∙ ap (drop (length (encode END (body P r)))) (e ∙ bodies_from P r l)
      ∙ drop_at (encode END (body P r)) (encode_bodies (drop (suc r) P)) _ refl
      ∙ ap (λ (v : ℕ). encode_bodies (drop v P)) (sym (add-one r))
