-- What the check promises, in one place: the theorems that crates above cite.
use Rattle.std.specs.Prelude.{◌≡◌, refl, ◌↔◌, List, ℕ, ◌+◌, ◌*◌, ◌≤◌, ◌<◌, length, get_or, Ok, Err}
use Rattle.std.proofs.Common.{sym, ap, ◌∙◌, arith}
use Rattle.table.specs.Constants.{most_routines, most_bytes}
use Rattle.table.specs.Program.{Program, program_items}
use Rattle.table.specs.WellFormed.{WellFormed}
use Rattle.table.specs.Encoding.{encode_table, WithinLimits}
use Rattle.table.specs.Check.{Outcome, refused, accepted, check_table}
use Rattle.table.specs.Answer.{checked_of, check_number}
use Rattle.table.specs.Refusal.{refusal_number, refusal_of}
use Rattle.table.specs.declared.Accepted.{Accepted}
use Rattle.table.specs.declared.refusal.Refusal.{Refusal}
use Rattle.table.proofs.Laws.Sound.{sound}
use Rattle.table.proofs.Laws.Complete.{complete}
use Rattle.table.proofs.Laws.Formed.{well_formed}
use Rattle.table.proofs.Laws.Items.{items_bodies}
use Rattle.table.proofs.Laws.Refusals.{refusals}
use Rattle.table.proofs.Laws.Numbers.{number_of_refusal}

-- the list holds bytes
abbrev pub Bytes : List ℕ → Type 0
Bytes s = (i : ℕ) → get_or s i 0 < 256

-- a table of bytes is accepted as P exactly where it is the encoding of P, and P is within the limits
pub accepts : (s : List ℕ) (P : Program) → Bytes s
    → (check_table s ≡ accepted P) ↔ ((s ≡ encode_table P) × WithinLimits P)
accepts s P byte = (sound s P byte, λ h. ap check_table h.0 ∙ complete P h.1)

-- an accepted program is well formed
pub accepted_well_formed : (s : List ℕ) (P : Program) → Bytes s → check_table s ≡ accepted P → WellFormed P
accepted_well_formed s P byte e = well_formed P (sound s P byte e).1

-- no two programs have the same table
pub encoding_injective : (P Q : Program) → WithinLimits P → WithinLimits Q → encode_table P ≡ encode_table Q → P ≡ Q
encoding_injective P Q h g e =
    let o : accepted P ≡ accepted Q = sym (complete P h) ∙ ap check_table e ∙ complete Q g in
    cc

-- an accepted program has at most 64 routines and 4,096 items
pub accepted_few : (s : List ℕ) (P : Program) → Bytes s → check_table s ≡ accepted P
    → (length P ≤ most_routines) × (program_items P ≤ most_bytes)
accepted_few s P byte e =
    let h = (sound s P byte e).1 in
    let b = h.few_bytes in
    let i = items_bodies P in
    (h.few_routines, omega arith)

-- what `check` answers tells what the check came to: how many routines and items the program has, or the refusal
pub accepted_of : (x : Outcome) (a : Accepted) → Ok a ≡ checked_of x
    → (P : Program) × (x ≡ accepted P) × (a.routines ≡ length P) × (a.items ≡ program_items P)
accepted_of (accepted P) a e =
    let q : a ≡ record { routines = length P; items = program_items P } = cc in
    (P, refl, ap (λ (v : Accepted). v.routines) q, ap (λ (v : Accepted). v.items) q)
accepted_of (refused y) a e = cc

pub refused_of : (x : Outcome) (r : Refusal) → Err r ≡ checked_of x → (e : ℕ) × (x ≡ refused e) × (r ≡ refusal_of e)
refused_of (accepted P) r e = cc
refused_of (refused z) r e = (z, refl, cc)

-- the refusal that `check` answers has the number that the check came to
pub refused_as : (s : List ℕ) (r : Refusal) → Err r ≡ checked_of (check_table s) → check_table s ≡ refused (refusal_number r)
refused_as s r q =
    let o = refused_of (check_table s) r q in
    let l = refusals s o.0 o.1 in
    let n : refusal_number r ≡ o.0 = ap refusal_number o.2 ∙ number_of_refusal o.0 l.0 (omega (arith, l.1)) in
    o.1 ∙ ap refused (sym n)

-- the launcher's number of an accepted table
pub accepted_number : (a : Accepted) → check_number (Ok a) ≡ 65536 * a.routines + a.items
accepted_number a = refl

-- the launcher's number of a refused table is the number of its refusal
pub refused_number : (s : List ℕ) (e : ℕ) → check_table s ≡ refused e → check_number (checked_of (check_table s)) ≡ e
refused_number s e h =
    let l = refusals s e h in
    ap (λ (o : Outcome). check_number (checked_of o)) h ∙ number_of_refusal e l.0 (omega arith)

-- the launcher's number tells what `check` answers
pub check_number_tells : (s t : List ℕ) → Bytes s → Bytes t
    → check_number (checked_of (check_table s)) ≡ check_number (checked_of (check_table t))
    → checked_of (check_table s) ≡ checked_of (check_table t)
check_number_tells s t byte byte' = go (check_table s) (check_table t) refl refl
  where
    many : (u : List ℕ) (P : Program) → Bytes u → check_table u ≡ accepted P
        → (0 < length P) × (program_items P ≤ most_bytes)
    many u P b h = ((accepted_well_formed u P b h).some_routine, (accepted_few u P b h).1)

    number : (u : List ℕ) (e : ℕ) → check_table u ≡ refused e → (refusal_number (refusal_of e) ≡ e) × (e ≤ 14)
    number u e h = let l = refusals u e h in (number_of_refusal e l.0 (omega arith), l.1)

    go : (x y : Outcome) → check_table s ≡ x → check_table t ≡ y → check_number (checked_of x) ≡ check_number (checked_of y)
        → checked_of x ≡ checked_of y
    go (refused d) (refused e) h g q =
        let m = number s d h in
        let n = number t e g in
        let same : d ≡ e = sym m.0 ∙ q ∙ n.0 in
        ap (λ (v : ℕ). checked_of (refused v)) same
    go (refused d) (accepted Q) h g q =
        let l = many t Q byte' g in
        let m = number s d h in
        absurd (omega arith)
    go (accepted P) (refused e) h g q =
        let l = many s P byte h in
        let m = number t e g in
        absurd (omega arith)
    go (accepted P) (accepted Q) h g q =
        let l = (many s P byte h).1 in
        let m = (many t Q byte' g).1 in
        let r : length P ≡ length Q = omega arith in
        let i : program_items P ≡ program_items Q = omega arith in
        rw (r, i)
