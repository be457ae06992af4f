-- `step` meets its contract: each arm is the walk past an item with that code.
use mathlib.Core.Path.{◌≡◌, refl, sym, ap, ◌∙◌}
use mathlib.Core.List.{List}
use Prim.Native.Nat.{ℕ}
use native.Mathlib.Omega.{arith}
use borrow.Author.Rules.{rules}
use Rattle.table.specs.Constants.{END, NEW, LOCK, FORK, CHOICE, MIRROR}
use Rattle.pairs.specs.Walks.{Walk, walk_of, byte_of, past_by, past_item, moved_walk}
use Rattle.pairs.proofs.Steps.{by_byte, by_rest, past_byte, top_rest, ready_pass}
use Rattle.pairs.proofs.walk.Levels.step.Goals as goal

-- the offset past the item, by the byte at the place
past_at : (ks s : List ℕ) (w : Walk) (r b : ℕ) → r ≡ past_item ks s w.at → byte_of s w ≡ b → r ≡ past_by ks s w.at b
past_at ks s w r b p e = p ∙ past_byte ks s w.at b e

pub past-p-requires : goal.past-p-requires
past-p-requires c = let a = c.args in ready_pass a.t.now.counts.now a.t.now.bodies.now (walk_of a.p.now a.self.now) c.requires.0

pub overflow_sub-p : goal.overflow_sub-p
overflow_sub-p c = c.requires.0.room END (c.requires.1 ∙ c.in-0.is)

pub overflow_add-x : goal.overflow_add-x
overflow_add-x c = let k = c.requires.0.names NEW (c.requires.1 ∙ c.in-1.is) in search rules

pub add_local-requires : goal.add_local-requires
add_local-requires c = c.requires.0.names NEW (c.requires.1 ∙ c.in-1.is)

pub bounds-s-i : goal.bounds-s-i
bounds-s-i c = (c.requires.0.room LOCK (c.requires.1 ∙ c.in-2.is)).0

pub inside_lock-inside-requires : goal.inside_lock-inside-requires
inside_lock-inside-requires c = (c.requires.0.few, c.requires.0.names LOCK (c.requires.1 ∙ c.in-2.is))

pub open-requires : goal.open-requires
open-requires c = (c.requires.0.room LOCK (c.requires.1 ∙ c.in-2.is)).1

pub overflow_add-n : goal.overflow_add-n
overflow_add-n c = let k = c.requires.0.names FORK (c.requires.1 ∙ c.in-3.is) in search rules

pub open-requires-in-3 : goal.open-requires-in-3
open-requires-in-3 c = c.requires.0.room FORK (c.requires.1 ∙ c.in-3.is)

pub open-requires-in-4 : goal.open-requires-in-4
open-requires-in-4 c = c.requires.0.room CHOICE (c.requires.1 ∙ c.in-4.is)

pub bounds-s-i-in-7 : goal.bounds-s-i-in-7
bounds-s-i-in-7 c = c.requires.0.room MIRROR (c.requires.1 ∙ c.in-7.is)

pub root_of-root-requires : goal.root_of-root-requires
root_of-root-requires c = (c.requires.0.names MIRROR (c.requires.1 ∙ c.in-7.is)).0

pub add_local-requires-in-7 : goal.add_local-requires-in-7
add_local-requires-in-7 c = (c.requires.0.names MIRROR (c.requires.1 ∙ c.in-7.is)).1

pub returns-in-0 : goal.returns-in-0
returns-in-0 c =
    let a = c.args in
    let w = walk_of a.p.now a.self.now in
    let e = c.requires.1 ∙ c.in-0.is in
    let p = past_at a.t.now.counts.now a.t.now.bodies.now w c.past-p.result 0 c.past-p.ensures e in
    rw p (sym (by_byte a.t.now.counts.now a.t.now.bodies.now w 0 e))

pub returns-in-1 : goal.returns-in-1
returns-in-1 c =
    let a = c.args in
    let w = walk_of a.p.now a.self.now in
    let e = c.requires.1 ∙ c.in-1.is in
    let p = past_at a.t.now.counts.now a.t.now.bodies.now w c.past-p.result 1 c.past-p.ensures e in
    (rw p at c.add_local.ensures) ∙ sym (by_byte a.t.now.counts.now a.t.now.bodies.now w 1 e)

pub returns-in-2 : goal.returns-in-2
returns-in-2 c =
    let a = c.args in
    let w = walk_of a.p.now a.self.now in
    let e = c.requires.1 ∙ c.in-2.is in
    let p = past_at a.t.now.counts.now a.t.now.bodies.now w c.past-p.result 2 c.past-p.ensures e in
    (rw (p, c.inside_lock-inside.ensures) at c.open.ensures)
    ∙ sym (by_byte a.t.now.counts.now a.t.now.bodies.now w 2 e)

pub returns-in-3 : goal.returns-in-3
returns-in-3 c =
    let a = c.args in
    let w = walk_of a.p.now a.self.now in
    let e = c.requires.1 ∙ c.in-3.is in
    let p = past_at a.t.now.counts.now a.t.now.bodies.now w c.past-p.result 3 c.past-p.ensures e in
    (rw (p, c.of_thread.ensures) at c.open-in-3.ensures) ∙ sym (by_byte a.t.now.counts.now a.t.now.bodies.now w 3 e)

pub returns-in-4 : goal.returns-in-4
returns-in-4 c =
    let a = c.args in
    let w = walk_of a.p.now a.self.now in
    let e = c.requires.1 ∙ c.in-4.is in
    let p = past_at a.t.now.counts.now a.t.now.bodies.now w c.past-p.result 4 c.past-p.ensures e in
    (rw (p, c.at-here.ensures) at c.open-in-4.ensures)
    ∙ sym (by_byte a.t.now.counts.now a.t.now.bodies.now w 4 e)

pub returns-in-7 : goal.returns-in-7
returns-in-7 c =
    let a = c.args in
    let w = walk_of a.p.now a.self.now in
    let e = c.requires.1 ∙ c.in-7.is in
    let p = past_at a.t.now.counts.now a.t.now.bodies.now w c.past-p.result 7 c.past-p.ensures e in
    (rw (p, c.root_of-root.ensures) at c.add_local-in-7.ensures)
    ∙ sym (by_byte a.t.now.counts.now a.t.now.bodies.now w 7 e)

pub returns-in_default : goal.returns-in_default
returns-in_default c =
    let a = c.args in
    let ks = a.t.now.counts.now in
    let s = a.t.now.bodies.now in
    let w = walk_of a.p.now a.self.now in
    let b = byte_of s w in
    let same = c.requires.1 in
    let n = top_rest w.top b (omega arith) (omega arith) (omega arith) (omega arith) in
    rw c.past-p.ensures
    (sym (by_byte ks s w b refl
    ∙ by_rest ks s w b (omega arith) (omega arith) (omega arith) (omega arith) (omega arith)
    ∙ ap (λ (v : ℕ). moved_walk w (past_item ks s w.at) v) n))
