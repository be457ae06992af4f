-- The check of a table: the program that it holds, or the refusal that comes first in the order of docs/FORMAT.md.
use Rattle.std.specs.Prelude.{Bool, true, false, cond, not, ◌&&◌, ◌||◌, List, [], ◌∷◌, ℕ, zero, suc, ◌+◌, ◌*◌, ◌-◌, leb, eqb}
use Rattle.std.specs.Prelude.{ltb, length, get_or, take, drop}
use Rattle.std.proofs.Math.Option.{Option, none, some}
use Rattle.table.specs.Constants.{most_routines, most_params, most_bytes, most_open, most_locals, most_forks}
use Rattle.table.specs.Constants.{Op, END, NEW, LOCK, FORK, CHOICE, OTHER, CALL, MIRROR, op_of}
use Rattle.table.specs.Program.{Code, end, new, lock, fork, choice, call, mirror, Routine, Program, names}
use Rattle.table.specs.Program.{locals, forks}

-- one item with its blocks, without what follows it
pub data Item : Type 0 where
  a_new : ℕ → Item
  a_lock : ℕ → Code → Item
  a_fork : ℕ → Code → Item
  a_choice : Code → Code → Item
  a_call : ℕ → List ℕ → Item
  a_mirror : ℕ → ℕ → Item

-- the item, and then the code
abbrev pub then : Item → Code → Code
then (a_new x) c = new x c
then (a_lock x d) c = lock x d c
then (a_fork i d) c = fork i d c
then (a_choice a b) c = choice a b c
then (a_call r xs) c = call r xs c
then (a_mirror x y) c = mirror x y c

-- a place in a body: the routine's parameter count, the names in scope, and how many of its NEW and MIRROR, and of its
-- FORK, stand before
pub record Place : Type 0 where
  pub own : ℕ
  pub scope : List ℕ
  pub made : ℕ
  pub started : ℕ

-- the place after a block: its locals have left the scope
abbrev pub past : Place → Code → Place
past w c = record { own = w.own; scope = w.scope; made = w.made + locals c; started = w.started + forks c }

-- the place at the head of a fork's block
abbrev pub starting : Place → Place
starting w = record { own = w.own; scope = w.scope; made = w.made; started = w.started + 1 }

-- the name of the next local: they are numbered above the parameters
abbrev pub next_local : Place → ℕ
next_local w = w.own + w.made + 1

-- the place after a NEW or MIRROR that gives the local x
abbrev pub adding : Place → ℕ → Place
adding w x = record { own = w.own; scope = x ∷ w.scope; made = w.made + 1; started = w.started }

-- the place after an item
abbrev pub after : Place → Item → Place
after w (a_new x) = adding w x
after w (a_lock x c) = past w c
after w (a_fork i c) = past (starting w) c
after w (a_choice a b) = past (past w a) b
after w (a_call r xs) = w
after w (a_mirror x y) = adding w x

-- what reading a block gives: its code and the bytes after it, or a refusal
pub data Block : Type 0 where
  ok : Code → List ℕ → Block
  bad : ℕ → Block

-- what reading an item gives: the item or the close of the block, each with the bytes after it, or a refusal
pub data Head : Type 0 where
  more : Item → List ℕ → Head
  closed : List ℕ → Head
  wrong : ℕ → Head

-- how a block is read: with the depth left, as a first alternative or not, at a place, from the bytes left
abbrev pub Reader : Type 0
Reader = ℕ → Bool → Place → List ℕ → Block

-- a block's refusal, or what is made of its code and of the bytes after it
abbrev pub opened : Block → (Code → List ℕ → Head) → Head
opened (ok c l) f = f c l
opened (bad e) f = wrong e

-- x is in the list s
abbrev pub in? : ℕ → List ℕ → Bool
in? x [] = false
in? x (y ∷ s) = eqb x y || in? x s

-- the next q bytes are there, and each is a name in the scope s
abbrev pub named : ℕ → List ℕ → List ℕ → Bool
named zero s l = true
named (suc q) s [] = false
named (suc q) s (x ∷ l) = in? x s && named q s l

-- LOCK, after its code: its name and its block
abbrev pub lock_item : Reader → ℕ → Place → List ℕ → Head
lock_item read d w [] = wrong 13
lock_item read d w (x ∷ l) =
    cond (in? x w.scope) (opened (read (d - 1) false w l) (λ c t. more (a_lock x c) t)) (wrong 13)

-- CALL, after its code: its routine byte and its names; ks has the parameter counts of the routines
abbrev pub call_item : List ℕ → Place → List ℕ → Head
call_item ks w [] = wrong 12
call_item ks w (r ∷ l) =
    cond (leb (length ks) r) (wrong 12)
    (cond (named (get_or ks r 0) w.scope l)
    (more (a_call r (take (get_or ks r 0) l)) (drop (get_or ks r 0) l))
    (wrong 13))

-- MIRROR, after its code: the name that it mirrors
abbrev pub mirror_item : Place → List ℕ → Head
mirror_item w [] = wrong 13
mirror_item w (y ∷ l) = cond (in? y w.scope) (more (a_mirror (next_local w) y) l) (wrong 13)

-- an item after its code, of each kind; its blocks are read by `read`
abbrev pub item_of : Reader → List ℕ → ℕ → Bool → Place → Op → List ℕ → Head
item_of read ks d first w END l = cond first (wrong 9) (closed l)
item_of read ks d first w NEW l =
    cond (leb most_locals w.made) (wrong 11) (more (a_new (next_local w)) l)
item_of read ks d first w LOCK l = cond (eqb d 0) (wrong 10) (lock_item read d w l)
item_of read ks d first w FORK l =
    cond (eqb d 0) (wrong 10)
    (cond (leb most_forks w.started) (wrong 11)
    (opened (read (d - 1) false (starting w) l) (λ c t. more (a_fork (w.started + 1) c) t)))
item_of read ks d first w CHOICE l =
    cond (eqb d 0) (wrong 10)
    (opened (read (d - 1) true w l) (λ a t.
    opened (read (d - 1) false (past w a) t) (λ b u. more (a_choice a b) u)))
item_of read ks d first w OTHER l = cond first (closed l) (wrong 9)
item_of read ks d first w CALL l = call_item ks w l
item_of read ks d first w MIRROR l = cond (leb most_locals w.made) (wrong 11) (mirror_item w l)

-- an item whose code is of that kind, if of any
abbrev pub item_if : Reader → List ℕ → ℕ → Bool → Place → Option Op → List ℕ → Head
item_if read ks d first w none l = wrong 8
item_if read ks d first w (some o) l = item_of read ks d first w o l

-- an item from its code on
abbrev pub item_by : Reader → List ℕ → ℕ → Bool → Place → List ℕ → Head
item_by read ks d first w [] = wrong 7
item_by read ks d first w (b ∷ l) = item_if read ks d first w (op_of b) l

-- the item before the rest of its block
abbrev pub joined : Item → Block → Block
joined i (ok c l) = ok (then i c) l
joined i (bad e) = bad e

-- a block, given what reading its first item gives
abbrev pub go_on : Reader → ℕ → Bool → Place → Head → Block
go_on read d first w (more i l) = joined i (read d first (after w i) l)
go_on read d first w (closed l) = ok end l
go_on read d first w (wrong e) = bad e

-- a block of which at most f items follow one another or nest
unfoldable pub block_by : ℕ → List ℕ → Reader
block_by zero ks d first w l = bad 7
block_by (suc f) ks d first w l = go_on (block_by f ks) d first w (item_by (block_by f ks) ks d first w l)

-- a block: each item takes a byte, so the bytes left are fuel enough (law block_step)
unfoldable pub block : List ℕ → Reader
block ks d first w l = block_by (suc (length l)) ks d first w l

-- an item
abbrev pub item : List ℕ → ℕ → Bool → Place → List ℕ → Head
item ks d first w l = item_by (block ks) ks d first w l

-- the place at the head of the body of a routine with k parameters
abbrev pub at_head : ℕ → Place
at_head k = record { own = k; scope = names k; made = 0; started = 0 }

-- what the check of a table comes to: a refusal, or the program that the table holds
pub data Outcome : Type 0 where
  refused : ℕ → Outcome
  accepted : Program → Outcome

-- a routine before the others
abbrev pub with_routine : Routine → Outcome → Outcome
with_routine q (refused e) = refused e
with_routine q (accepted P) = accepted (q ∷ P)

-- the routine whose body was read, and then the rest
abbrev pub body_then : ℕ → Block → (List ℕ → Outcome) → Outcome
body_then k (ok c l) rest = with_routine (record { count = k; code = c }) (rest l)
body_then k (bad e) rest = refused e

-- the bodies of the routines whose parameter counts are qs, in a table whose parameter counts are ks
abbrev pub bodies : List ℕ → List ℕ → List ℕ → Outcome
bodies ks [] [] = accepted []
bodies ks [] (b ∷ l) = refused 14
bodies ks (k ∷ qs) l = body_then k (block ks most_open false (at_head k) l) (λ t. bodies ks qs t)

-- no parameter count is above the limit
abbrev pub small? : List ℕ → Bool
small? [] = true
small? (k ∷ ks) = leb k most_params && small? ks

-- the table after its parameter counts ks
abbrev pub sections : List ℕ → List ℕ → Outcome
sections ks [] = refused 3
sections ks (lo ∷ []) = refused 3
sections ks (lo ∷ hi ∷ s) =
    cond (not (small? ks && eqb (get_or ks 0 0) 0)) (refused 4)
    (cond (ltb most_bytes (lo + 256 * hi)) (refused 5)
    (cond (not (eqb (length s) (lo + 256 * hi))) (refused 6)
    (bodies ks ks s)))

-- the whole table
abbrev pub check_table : List ℕ → Outcome
check_table [] = refused 1
check_table (n ∷ l) = cond (eqb n 0 || ltb most_routines n) (refused 2) (sections (take n l) (drop n l))
