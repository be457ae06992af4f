-- How much is written for items: all their bytes but those of mirrors.
use Rattle.std.specs.Prelude.{◌≡◌, refl, Option, List, [], ◌∷◌, ℕ, length}
use Rattle.std.proofs.Common.{arith, length-append}
use Rattle.std.proofs.lemmas.List.{length-map}
use Rattle.order.specs.Items.{Item, mark, making, mirroring, locking, calling, size_of, sizes}
use Rattle.rewrite.specs.Writing.{Known, name_of, after_item, written, written_all}

pub written_size : (ps : List (Option ℕ)) (e : Known) (t : Item) → length (written ps e t) ≡ size_of t
written_size ps e (mark b) = refl
written_size ps e making = refl
written_size ps e (mirroring y) = refl
written_size ps e (locking x) = refl
written_size ps e (calling r xs) = let h = length-map xs (name_of e) in omega arith

pub all_size : (ps : List (Option ℕ)) (e : Known) (ts : List Item) → length (written_all ps e ts) ≡ sizes ts
all_size ps e [] = refl
all_size ps e (t ∷ ts) =
    let a = written_size ps e t in
    let b = all_size ps (after_item e t) ts in
    let c = length-append (written ps e t) (written_all ps (after_item e t) ts) in
    omega arith
