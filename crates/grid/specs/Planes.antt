-- A grid as one relation a label, from the second name of a pair to the first, and the mixes that give several.
use Rattle.std.specs.Prelude.{◌≡◌, ◌⊎◌, List, [], ℕ, ◌<◌, get_or, Option, IfSome}
use Rattle.rules.specs.Label.{unknown, several, combine}
use Rattle.rules.specs.Number.{number, label_of, labels}
use Rattle.grid.specs.Rows.{Has, Rel, Edge, Or, Then, Star, Apart, Walk, Same}
use Rattle.grid.specs.Grid.{cell, Pair}
use Rattle.grid.specs.Laws.Walks.{Mixed}

-- from b to a where the pair (a, b) has label number l
abbrev pub Labelled : List (List ℕ) → ℕ → Rel
Labelled g l b a = Has (cell g a b) l

-- some pair from a has label number l
abbrev pub RowLabels : List (List ℕ) → Rel
RowLabels g a l = (b : ℕ) × Has (cell g a b) l

-- each label of a pair is in the row of its first name, and in the mask of all
abbrev pub Listed : List (List ℕ) → List ℕ → ℕ → Type 0
Listed g u c = (a b l : ℕ) → Labelled g l b a → Edge u a l × Has c l

-- the label number, if there is one, is that of own or a fork, and the mask c has it alone
abbrev pub Sole : ℕ → Option ℕ → Type 0
Sole c o = IfSome o (λ l. (l < number unknown) × ((j : ℕ) → Has c j → j ≡ l))

-- each pair that r relates has label number l
abbrev pub PlaneIn : List (List ℕ) → List ℕ → ℕ → Type 0
PlaneIn g r l = (b a : ℕ) → Edge r b a → Labelled g l b a

-- plane l of p relates the pairs that have label number l
abbrev pub PlanesOf : List (List ℕ) → List (List ℕ) → Type 0
PlanesOf g p = (l : ℕ) → l < labels → Same (Edge (get_or p l [])) (Labelled g l)

-- each plane that relates names is in the mask c
abbrev pub Within : List (List ℕ) → ℕ → Type 0
Within p c = (l : ℕ) → l < labels → (a b : ℕ) → Edge (get_or p l []) a b → Has c l

-- some plane
abbrev pub Plane : List (List ℕ) → Rel
Plane p a b = (l : ℕ) × (l < labels) × Edge (get_or p l []) a b

-- some plane in the mask c
abbrev pub Chosen : List (List ℕ) → ℕ → Rel
Chosen p c a b = (l : ℕ) × (l < labels) × Has c l × Edge (get_or p l []) a b

-- label number m and then l combine to several
abbrev pub Clashing : ℕ → ℕ → Type 0
Clashing l m = combine (label_of m) (label_of l) ≡ several

-- some plane that clashes with plane l
abbrev pub Other : List (List ℕ) → ℕ → Rel
Other p l a b = (m : ℕ) × (m < labels) × Clashing l m × Edge (get_or p m []) a b

-- the plane of several, or one plane and then one that clashes with it
abbrev pub MixOf : List (List ℕ) → Rel
MixOf p a b =
    Edge (get_or p (number several) []) a b ⊎ ((l : ℕ) × (l < labels) × Then (Edge (get_or p l [])) (Other p l) a b)

-- a mix, with walks of any labels before and after it
abbrev pub SeveralOf : List (List ℕ) → Rel
SeveralOf p a b = (u : ℕ) × (v : ℕ) × Star (Plane p) a u × MixOf p u v × Star (Plane p) v b

-- r is g with each label number k added to the pair (a, b) for which F a b k holds
pub record Grown (g : List (List ℕ)) (F : ℕ → Rel) (r : List (List ℕ)) : Type 0 where
  pub row : (a : ℕ) → Same (Edge (get_or r a [])) (Or (Edge (get_or g a [])) (F a))

-- label number l, of the pairs that q relates
abbrev pub InPlane : List ℕ → ℕ → ℕ → Rel
InPlane q l a b k = (k ≡ l) × Edge q b a

-- label number l, of the walks of R from one name to another
abbrev pub InWalks : Rel → ℕ → ℕ → Rel
InWalks R l a b k = (k ≡ l) × Apart (Walk R) b a

-- each label number below n, of the walks of its plane from one name to another
abbrev pub InPlanes : ℕ → List (List ℕ) → ℕ → Rel
InPlanes n p a b k = (k < n) × Apart (Walk (Edge (get_or p k []))) b a

-- what follows from the pairs of g: own and each fork of their walks, several of the mixes
abbrev pub Follows : List (List ℕ) → ℕ → Rel
Follows g a b k = ((k < number unknown) × Apart (Walk (Labelled g k)) b a) ⊎ ((k ≡ number several) × Mixed (Pair g) a b)
