-- Names in the code of a table are below 16.
use Rattle.std.specs.Prelude.{◌≡◌, List, ◌∷◌, ℕ, ◌+◌, ◌<◌, ◌≤◌, length, get_or}
use Rattle.std.proofs.Common.{inl, inr, arith}
use Rattle.table.specs.Constants.{most_names, most_params}
use Rattle.table.specs.Program.{Code, end, new, lock, fork, choice, call, mirror, names, locals}
use Rattle.table.specs.WellFormed.{In}
use Rattle.table.specs.Encoding.{Numbered}
use Rattle.table.proofs.Laws.Lists.{names_low}
use Rattle.table.specs.Laws.Fine.{Calling, Uses, Fine}

-- every name that an item has is below 16, and each call is of a routine of ks, with a name for each parameter
abbrev pub Named : List ℕ → Code → Type 0
Named ks end = Unit {0}
Named ks (new x c) = Named ks c
Named ks (lock x c d) = (x < most_names) × Named ks c × Named ks d
Named ks (fork i c d) = Named ks c × Named ks d
Named ks (choice a b c) = Named ks a × Named ks b × Named ks c
Named ks (call r xs c) =
    (r < length ks) × (length xs ≡ get_or ks r 0) × (length xs ≤ most_params) × ((x : ℕ) → In x xs → x < most_names)
    × Named ks c
Named ks (mirror x y c) = (y < most_names) × Named ks c

-- the names in scope are below 16
abbrev Low : List ℕ → Type 0
Low s = (x : ℕ) → In x s → x < most_names

-- so with one name more
low_more : (x : ℕ) (s : List ℕ) → x < most_names → Low s → Low (x ∷ s)
low_more x s l low y (inl e) = rw e l
low_more x s l low y (inr i) = low y i

-- the names of k parameters
low_params : (k : ℕ) → k < most_names → Low (names k)
low_params k l x i = let h = names_low k x i in omega (arith, h, l)

-- where m locals stand before the code, and its own fit
named_in : (ks s : List ℕ) (k m j : ℕ) (c : Code) → Low s → Calling ks c → Uses s c → Numbered k m j c
    → k + m + locals c < most_names → Named ks c
named_in ks s k m j end low g u n l = tt
named_in ks s k m j (new x c) low g u n l =
    let e = n.0 in
    named_in ks (x ∷ s) k (m + 1) j c (low_more x s (omega (arith, e, l)) low) g u n.1 (omega (arith, l))
named_in ks s k m j (lock x c d) low g u n l = (
  low x u.0,
  named_in ks s k m j c low g.0 u.1 n.0 (omega (arith, l)),
  named_in ks s k (m + locals c) _ d low g.1 u.2 n.1 (omega (arith, l)),
)
named_in ks s k m j (fork i c d) low g u n l = (
  named_in ks s k m (j + 1) c low g.0 u.0 n.1 (omega (arith, l)),
  named_in ks s k (m + locals c) _ d low g.1 u.1 n.2 (omega (arith, l)),
)
named_in ks s k m j (choice a b c) low g u n l = (
  named_in ks s k m j a low g.0 u.0 n.0 (omega (arith, l)),
  named_in ks s k (m + locals a) _ b low g.1 u.1 n.1 (omega (arith, l)),
  named_in ks s k (m + locals a + locals b) _ c low g.2 u.2 n.2 (omega (arith, l)),
)
named_in ks s k m j (call r xs c) low g u n l =
    (g.0, g.1, g.2, λ x i. low x (u.0 x i), named_in ks s k m j c low g.3 u.1 n l)
named_in ks s k m j (mirror x y c) low g u n l =
    let e = n.0 in (
      low y u.0,
      named_in ks (x ∷ s) k (m + 1) j c (low_more x s (omega (arith, e, l)) low) g u.1 n.1 (omega (arith, l)),
    )

-- the names of a fine body
pub named : (ks : List ℕ) (k : ℕ) (c : Code) → Fine ks k c → Named ks c
named ks k c f =
    let l = f.few_names in
    named_in ks (names k) k 0 0 c (low_params k (omega (arith, l))) f.calling f.uses f.numbered
    (omega (arith, l))
