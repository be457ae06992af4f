-- An item takes a byte at least, so a table has no more items than body bytes.
use Rattle.std.specs.Prelude.{[], ◌∷◌, ◌++◌, ◌+◌, ◌≤◌, length}
use Rattle.std.proofs.Common.{arith, length-append}
use Rattle.table.specs.Constants.{Op, END, OTHER}
use Rattle.table.specs.Program.{Code, end, new, lock, fork, choice, call, mirror, Program, items}
use Rattle.table.specs.Program.{program_items}
use Rattle.table.specs.Encoding.{encode, encode_bodies}

-- every code has an item: the one that closes it
pub items_some : (c : Code) → 1 ≤ items c
items_some end = omega arith
items_some (new x c) = omega arith
items_some (lock x b c) = omega arith
items_some (fork i b c) = omega arith
items_some (choice a b c) = omega arith
items_some (call r xs c) = omega arith
items_some (mirror x y c) = omega arith

-- a block and what follows it
items_two : (y z : Op) (b c : Code) → items b ≤ length (encode y b) → items c ≤ length (encode z c)
    → items b + items c ≤ length (encode y b ++ encode z c)
items_two y z b c h g = omega (arith, length-append (encode y b) (encode z c))

pub items_bytes : (z : Op) (c : Code) → items c ≤ length (encode z c)
items_bytes z end = omega arith
items_bytes z (new x c) = let h : items c ≤ length (encode z c) = items_bytes z c in omega arith
items_bytes z (lock x b c) = let h = items_two END z b c (items_bytes END b) (items_bytes z c) in omega arith
items_bytes z (fork i b c) = let h = items_two END z b c (items_bytes END b) (items_bytes z c) in omega arith
items_bytes z (choice a b c) =
    let h = items_two END z b c (items_bytes END b) (items_bytes z c) in
    let g : items a ≤ length (encode OTHER a) = items_bytes OTHER a in
    omega (arith, length-append (encode OTHER a) (encode END b ++ encode z c))
items_bytes z (call r xs c) =
    let h : items c ≤ length (encode z c) = items_bytes z c in
    omega (arith, length-append xs (encode z c))
items_bytes z (mirror x y c) = let h : items c ≤ length (encode z c) = items_bytes z c in omega arith

pub items_bodies : (P : Program) → program_items P ≤ length (encode_bodies P)
items_bodies [] = omega arith
items_bodies (q ∷ P) =
    let h : items q.code ≤ length (encode END q.code) = items_bytes END q.code in
    let g : program_items P ≤ length (encode_bodies P) = items_bodies P in
    omega (arith, length-append (encode END q.code) (encode_bodies P))
