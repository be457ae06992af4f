-- Laws of the bodies in order: what reading one by its cursor leaves of the check of the others.
use Rattle.std.proofs.Common.{◌≡◌, refl, sym, ap, ◌∙◌, false, List, ◌∷◌, ℕ, ◌+◌, ◌-◌, ◌*◌, ◌%◌, ◌^◌, ◌≤◌, ◌<◌}
use Rattle.std.proofs.Common.{length, get_or, drop, drop-cons, add-one, Bor, arith}
use Rattle.std.proofs.Math.ListN.{drop_of_length-le}
use Rattle.std.specs.Prelude.{Result, Ok, Err}
use Rattle.table.specs.Constants.{most_params, most_open}
use Rattle.table.specs.Program.{Code, Routine, items}
use Rattle.table.specs.Check.{Place, Block, ok, bad, block, at_head, Outcome, refused, accepted, with_routine}
use Rattle.table.specs.Check.{body_then, bodies}
use Rattle.table.specs.Laws.ScopeMask.{bits_names, grows, shift_one}
use Rattle.table.specs.Answer.{checked_of}
use Rattle.table.specs.Laws.Readers.{place_of, past_block, read_of, block_answer, fresh, body_answer, Ready, checked_from}
use Rattle.table.specs.declared.Accepted.{Accepted}
use Rattle.table.specs.declared.bodies.Cursor.{Cursor}
use Rattle.table.specs.declared.refusal.Refusal.{Refusal}
use Rattle.table.specs.declared.refusal.Refusal.TheVariants.{LeftOver}
use Rattle.table.proofs.ReaderLaws.{read_ready}

-- the mask of the parameters, as code makes it
abbrev pub mask : ℕ → ℕ
mask k = (1 * 2 ^ (k + 1)) % 18446744073709551616 - 2

-- the block that the code reads at the head of a body is the body
pub body_is : (ks s : List ℕ) (at k i : ℕ) → k ≤ most_params
    → block_answer ks s k (record { at = at; scope = mask k; locals = 0; forks = 0; items = i }) most_open false
    ≡ body_answer ks s at k i
body_is ks s at k i l =
    ap (λ (v : ℕ). block_answer ks s k (record { at = at; scope = v; locals = 0; forks = 0; items = i }) most_open false)
    (ap (λ (v : ℕ). v - 2) (shift_one (k + 1) (omega arith)))
    ∙ ap (λ (w : Place). read_of s (fresh k at i) (block ks most_open false w (drop at s))) (at_head_is k at i l)
  where
    at_head_is : (k at i : ℕ) → k ≤ most_params → place_of k (fresh k at i) ≡ at_head k
    at_head_is k at i l =
        ap {B = Place} (λ (v : List ℕ). record { own = k; scope = v; made = 0; started = 0 }) (bits_names k l)

-- the same section, offset and parameter count
pub same_answer : (ks : List ℕ) (s s' : Bor (List ℕ)) (at at' k k' i : ℕ) → s' ≡ s → at' ≡ at → k' ≡ k
    → body_answer ks s'.now at' k' i ≡ body_answer ks s.now at k i
same_answer ks s s' at at' k k' i e f g = rw (e, f, g)

same_accepted : (a a' b b' : ℕ) → a ≡ a' → b ≡ b'
    → ◌≡◌ {A = Result Accepted Refusal} (Ok (record { routines = a; items = b })) (Ok (record { routines = a'; items = b' }))
same_accepted a a' b b' p q = rw (p, q)

with_from : (r i : ℕ) (q : Routine) (x : Outcome)
    → checked_from r i (with_routine q x) ≡ checked_from (r + 1) (i + items q.code) x
with_from r i q (refused e) = refl
with_from r i q (accepted P) = same_accepted _ _ _ _ (omega arith) (omega arith)

pub from_start : (x : Outcome) → checked_of x ≡ checked_from 0 0 x
from_start (refused e) = refl
from_start (accepted P) = same_accepted _ _ _ _ (omega arith) (omega arith)

module _ (ks s : List ℕ) (r at i : ℕ) where
  -- what the rest of the bodies gives
  abbrev pub left : Result Accepted Refusal
  left = checked_from r i (bodies ks (drop r ks) (drop at s))

  -- the next body, of a routine with k parameters
  module _ (l : r < length ks) (small : get_or ks r 0 ≤ most_params) (h : i ≤ at) where
    abbrev k : ℕ
    k = get_or ks r 0

    abbrev next : Block
    next = block ks most_open false (at_head k) (drop at s)

    abbrev others : List ℕ → Outcome
    others t = bodies ks (drop (r + 1) ks) t

    here : left ≡ checked_from r i (body_then k next others)
    here =
        ap (λ (v : List ℕ). checked_from r i (bodies ks v (drop at s)))
        (drop-cons ks r 0 l ∙ ap (λ (v : ℕ). k ∷ drop v ks) (sym (add-one r)))

    pub body_bad : (e : Refusal) → body_answer ks s at k i ≡ Err e → left ≡ Err e
    body_bad e p = here ∙ go next p
      where
        go : (b : Block) → read_of s (fresh k at i) b ≡ Err e → checked_from r i (body_then k b others) ≡ Err e
        go (ok c t) q = cc
        go (bad x) q = cc

    pub body_read : (q : Cursor) → body_answer ks s at k i ≡ Ok q
        → (q.items ≤ q.at) × (left ≡ checked_from (r + 1) q.items (others (drop q.at s)))
    body_read q p = (rr.0.few_items, here ∙ go next refl)
      where
        ready : Ready k (fresh k at i)
        ready = record {
          few_params = small;
          few_locals = omega arith;
          few_forks = omega arith;
          below = let g : 2 ^ 0 ≤ 2 ^ (k + 1) = grows 0 (k + 1) (omega arith) in
              let e : k + 0 + 1 ≡ k + 1 = omega arith in
              rw e (omega arith);
          few_items = h;
        }

        same : place_of k (fresh k at i) ≡ at_head k
        same = ap {B = Place} (λ (v : List ℕ). record { own = k; scope = v; made = 0; started = 0 }) (bits_names k small)

        rr : Ready k q × ((c : Code) (t : List ℕ)
            → block ks most_open false (place_of k (fresh k at i)) (drop at s) ≡ ok c t → t ≡ drop q.at s)
        rr = read_ready ks s k (fresh k at i) most_open false ready q
            (ap (λ (w : Place). read_of s (fresh k at i) (block ks most_open false w (drop at s))) same ∙ p)

        go : (b : Block) → next ≡ b
            → checked_from r i (body_then k b others) ≡ checked_from (r + 1) q.items (others (drop q.at s))
        go (ok c t) e =
            let o : read_of s (fresh k at i) (ok c t) ≡ Ok q = sym (ap (read_of s (fresh k at i)) e) ∙ p in
            let o' : past_block c (fresh k at i) (length s - length t) ≡ q = cc in
            with_from r i (record { count = k; code = c }) (others t)
            ∙ ap (λ (v : List ℕ). checked_from (r + 1) (i + items c) (others v))
            (rr.1 c t (ap (λ (w : Place). block ks most_open false w (drop at s)) same ∙ e))
            ∙ ap (λ (v : Cursor). checked_from (r + 1) v.items (others (drop q.at s))) o'
        go (bad y) e =
            let o : read_of s (fresh k at i) (bad y) ≡ Ok q = sym (ap (read_of s (fresh k at i)) e) ∙ p in cc

  pub bodies_over : length ks ≤ r → at < length s → left ≡ Err LeftOver
  bodies_over l h = rw (drop_of_length-le ks l, drop-cons s at 0 h)
