-- What the readers of bodies answer at a cursor of the section s: the check's reading of the bytes from there on, with the
-- names in scope as a mask and the bytes left as an offset. Only contracts of functions inside this crate cite it.
use Rattle.std.specs.Prelude.{◌≡◌, Bool, true, false, cond, List, ℕ, ◌+◌, ◌-◌, ◌^◌, ◌≤◌, ◌<◌, leb, length, drop}
use Rattle.std.specs.Prelude.{Result, Ok, Err}
use Rattle.table.specs.Constants.{most_params, most_open, most_locals, most_forks}
use Rattle.table.specs.Program.{Code, locals, forks, items, program_items}
use Rattle.table.specs.Check.{Item, a_new, a_lock, a_fork, a_choice, a_call, a_mirror, Place, Block, ok, bad}
use Rattle.table.specs.Check.{Head, more, closed, wrong, call_item, mirror_item, block, item, at_head, Outcome}
use Rattle.table.specs.Check.{refused, accepted}
use Rattle.table.specs.Laws.ScopeMask.{bits}
use Rattle.table.specs.declared.bodies.Cursor.{Cursor}
use Rattle.table.specs.declared.bodies.Opening.{Opening}
use Rattle.table.specs.declared.bodies.Opening.TheVariants.{Plain, One, Two, Close}
use Rattle.table.specs.declared.bodies.ItemRead.{ItemRead}
use Rattle.table.specs.declared.bodies.ItemRead.TheVariants.{More, Closed}
use Rattle.table.specs.Refusal.{refusal_of}
use Rattle.table.specs.declared.Accepted.{Accepted}
use Rattle.table.specs.declared.refusal.Refusal.{Refusal}

-- the place that the code's numbers stand for, in a routine with so many parameters
abbrev pub place_of : ℕ → Cursor → Place
place_of own p = record { own = own; scope = bits p.scope; made = p.locals; started = p.forks }

-- the cursor at an offset with one item more
abbrev pub with_item : Cursor → ℕ → Cursor
with_item p x =
    record { at = x; scope = p.scope; locals = p.locals; forks = p.forks; items = p.items + 1 }

-- the cursor at an offset with one NEW or MIRROR more, which gives the local v
abbrev pub with_local : ℕ → Cursor → ℕ → Cursor
with_local v p x =
    record { at = x; scope = p.scope + 2 ^ v; locals = p.locals + 1; forks = p.forks; items = p.items + 1 }

-- the cursor at an offset with one FORK more
abbrev pub with_fork : Cursor → ℕ → Cursor
with_fork p x =
    record { at = x; scope = p.scope; locals = p.locals; forks = p.forks + 1; items = p.items + 1 }

-- the cursor after a block that ends at an offset: the block's locals have left the scope
abbrev pub past_block : Code → Cursor → ℕ → Cursor
past_block c p x =
    record {
      at = x;
      scope = p.scope;
      locals = p.locals + locals c;
      forks = p.forks + forks c;
      items = p.items + items c;
    }

-- the cursor after an item that ends at an offset
abbrev pub after_item : Item → Cursor → ℕ → Cursor
after_item (a_new v) p x = with_local v p x
after_item (a_lock v c) p x = past_block c (with_item p x) x
after_item (a_fork i c) p x = past_block c (with_fork p x) x
after_item (a_choice a b) p x = past_block b (past_block a (with_item p x) x) x
after_item (a_call r vs) p x = with_item p x
after_item (a_mirror v w) p x = with_local v p x

-- a block that was read from p, with the cursor after it
abbrev pub read_of : List ℕ → Cursor → Block → Result Cursor Refusal
read_of s p (ok c t) = Ok (past_block c p (length s - length t))
read_of s p (bad e) = Err (refusal_of e)

-- an item that was read from p, with the cursor after it
abbrev pub head_of : List ℕ → Cursor → Head → Result ItemRead Refusal
head_of s p (more i t) = Ok (More (after_item i p (length s - length t)))
head_of s p (closed t) = Ok (Closed (length s - length t))
head_of s p (wrong e) = Err (refusal_of e)

-- what the block reader answers
abbrev pub block_answer : List ℕ → List ℕ → ℕ → Cursor → ℕ → Bool → Result Cursor Refusal
block_answer ks s own p d first = read_of s p (block ks d first (place_of own p) (drop p.at s))

-- what the item reader answers
abbrev pub item_answer : List ℕ → List ℕ → ℕ → Cursor → ℕ → Bool → Result ItemRead Refusal
item_answer ks s own p d first = head_of s p (item ks d first (place_of own p) (drop p.at s))

-- the item whose last block was read
abbrev pub after_last : Result Cursor Refusal → Result ItemRead Refusal
after_last (Ok q) = Ok (More q)
after_last (Err e) = Err e

-- the choice whose first alternative was read
abbrev pub after_first : List ℕ → List ℕ → ℕ → ℕ → Result Cursor Refusal → Result ItemRead Refusal
after_first ks s own d (Ok q) = after_last (block_answer ks s own q (d - 1) false)
after_first ks s own d (Err e) = Err e

-- the item of an opening
abbrev pub finished : List ℕ → List ℕ → ℕ → ℕ → Result Opening Refusal → Result ItemRead Refusal
finished ks s own d (Ok (Plain q)) = Ok (More q)
finished ks s own d (Ok (One q)) = after_last (block_answer ks s own q (d - 1) false)
finished ks s own d (Ok (Two q)) = after_first ks s own d (block_answer ks s own q (d - 1) true)
finished ks s own d (Ok (Close x)) = Ok (Closed x)
finished ks s own d (Err e) = Err e

-- what holds of the numbers wherever a reader is called: each name is below 16, and an item takes a byte at least
pub record Ready (own : ℕ) (p : Cursor) : Type 0 where
  pub few_params : own ≤ most_params
  pub few_locals : p.locals ≤ most_locals
  pub few_forks : p.forks ≤ most_forks
  pub below : p.scope < 2 ^ (own + p.locals + 1)
  pub few_items : p.items ≤ p.at

-- the cursor at the head of a body with k parameters, with i items before it
abbrev pub fresh : ℕ → ℕ → ℕ → Cursor
fresh k at i = record { at = at; scope = 2 ^ (k + 1) - 2; locals = 0; forks = 0; items = i }

-- what the reader of a body with k parameters answers, with i items before it
abbrev pub body_answer : List ℕ → List ℕ → ℕ → ℕ → ℕ → Result Cursor Refusal
body_answer ks s at k i = read_of s (fresh k at i) (block ks most_open false (at_head k) (drop at s))

-- what holds of the numbers at the head of a body
pub record AtBody (at k i : ℕ) : Type 0 where
  pub few_params : k ≤ most_params
  pub few_items : i ≤ at

-- the blocks of an opening can be read
abbrev pub CanRead : ℕ → ℕ → Result Opening Refusal → Type 0
CanRead own d (Ok (Plain q)) = Unit {0}
CanRead own d (Ok (One q)) = (0 < d) × Ready own q
CanRead own d (Ok (Two q)) = (0 < d) × Ready own q
CanRead own d (Ok (Close x)) = Unit {0}
CanRead own d (Err e) = Unit {0}

-- what stands at a cursor
pub record Opens (ks s : List ℕ) (own : ℕ) (p : Cursor) (d : ℕ) (first : Bool) (o : Result Opening Refusal) : Type 0 where
  pub answer : finished ks s own d o ≡ item_answer ks s own p d first
  pub ready : CanRead own d o

-- what is asked of the numbers at a CALL or a MIRROR: its code is there
pub record AtItem (s : List ℕ) (own : ℕ) (p : Cursor) : Type 0 where
  pub inside : p.at < length s
  pub ready : Ready own p

-- an item without a block that was read from p, with the cursor after it
abbrev pub plain_of : List ℕ → Cursor → Head → Result Opening Refusal
plain_of s p (more i t) = Ok (Plain (after_item i p (length s - length t)))
plain_of s p (closed t) = Ok (Close (length s - length t))
plain_of s p (wrong e) = Err (refusal_of e)

-- what stands at a CALL
abbrev pub call_answer : List ℕ → List ℕ → ℕ → Cursor → Result Opening Refusal
call_answer ks s own p = plain_of s p (call_item ks (place_of own p) (drop (p.at + 1) s))

-- what stands at a MIRROR
abbrev pub mirror_answer : List ℕ → ℕ → Cursor → Result Opening Refusal
mirror_answer s own p =
    plain_of s p (cond (leb most_locals p.locals) (wrong 11) (mirror_item (place_of own p) (drop (p.at + 1) s)))

-- what is answered of bodies where r routines with i items were read before
abbrev pub checked_from : ℕ → ℕ → Outcome → Result Accepted Refusal
checked_from r i (accepted P) = Ok (record { routines = r + length P; items = i + program_items P })
checked_from r i (refused e) = Err (refusal_of e)
