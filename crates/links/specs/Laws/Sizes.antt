-- How many bytes codes have where they lie, and where bodies start.
use Rattle.std.specs.Prelude.{◌≡◌, Bool, true, false, List, [], ◌∷◌, ◌++◌, ℕ, zero, suc, ◌+◌, ◌-◌, ◌≤◌, length, take, drop}
use Rattle.std.proofs.Common.{ap, arith, length-append, length-drop}
use Rattle.table.specs.Constants.{END, OTHER}
use Rattle.table.specs.Program.{Program, Code, end, new, lock, fork, choice, call, mirror}
use Rattle.table.specs.Encoding.{encode, encode_bodies}
use Rattle.links.specs.Lies.{Section, link_at, Lies}
use Rattle.links.specs.Laws.Bytes.{op_for}

-- the bodies of the first routines and those of the others
bodies_size : (P : Program) (r : ℕ)
    → length (encode_bodies P) ≡ length (encode_bodies (take r P)) + length (encode_bodies (drop r P))
bodies_size [] zero = omega arith
bodies_size [] (suc r) = omega arith
bodies_size (q ∷ P) zero = omega arith
bodies_size (q ∷ P) (suc r) =
    let e = bodies_size P r in
    let a = length-append (encode END q.code) (encode_bodies P) in
    let b = length-append (encode END q.code) (encode_bodies (take r P)) in
    omega (arith, e, a, b)

-- where the bodies from routine r on stand, the body of routine r starts
pub starts_at : (P : Program) (s : List ℕ) (r from : ℕ) → s ≡ encode_bodies P → drop from s ≡ encode_bodies (drop r P)
    → from ≤ length s → from ≡ length (encode_bodies (take r P))
starts_at P s r from e h l =
    let a = bodies_size P r in
    let b = ap length e in
    let c = ap length h in
    let d = length-drop from s in
    omega (arith, a, b, c, d, l)

-- the offset after a code is as many bytes on as it has
pub lies_size : (z : Section) (o : Bool) (from : ℕ) (c : Code) (to : ℕ) → Lies z o from c to
    → to ≡ from + length (encode (op_for o) c)
lies_size z o from end to l = l.1
lies_size z o from (new x c) to l = let h = lies_size z o (from + 1) c to l.3 in omega (arith, h)
lies_size z o from (lock x c d) to l =
    let g = lies_size z false (from + 2) c l.3.0 l.3.1 in
    let h = lies_size z o l.3.0 d to l.3.2 in
    let a = length-append (encode END c) (encode (op_for o) d) in
    omega (arith, g, h, a)
lies_size z o from (fork i c d) to l =
    let g = lies_size z false (from + 1) c (link_at z from) l.1 in
    let h = lies_size z o (link_at z from) d to l.2 in
    let a = length-append (encode END c) (encode (op_for o) d) in
    omega (arith, g, h, a)
lies_size z o from (choice a b c) to l =
    let f = lies_size z true (from + 1) a (link_at z from) l.1 in
    let g = lies_size z false (link_at z from) b (link_at z (link_at z from - 1)) l.2 in
    let h = lies_size z o (link_at z (link_at z from - 1)) c to l.3 in
    let k = length-append (encode OTHER a) (encode END b ++ encode (op_for o) c) in
    let m = length-append (encode END b) (encode (op_for o) c) in
    omega (arith, f, g, h, k, m)
lies_size z o from (call r xs c) to l =
    let h = lies_size z o (from + 2 + length xs) c to l.6 in
    let a = length-append xs (encode (op_for o) c) in
    omega (arith, h, a)
lies_size z o from (mirror x y c) to l = let h = lies_size z o (from + 2) c to l.5 in omega (arith, h)
