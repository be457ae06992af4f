-- The verdict and the share by computation: from the model as a list and the reached routines as a list.
use Rattle.std.specs.Prelude.{◌≡◌, refl, ◌⊎◌, Bool, true, false, not, ◌&&◌, ◌||◌, List, [], ◌∷◌, ◌++◌, ℕ, suc, ◌+◌, ◌*◌, ◌≤◌}
use Rattle.std.specs.Prelude.{◌<◌, T, eqb, leb, length}
use Rattle.std.proofs.Common.{inl, inr, arith}
use Rattle.table.specs.Program.{Code, end, new, lock, fork, choice, call, mirror, Program, body}
use Rattle.table.specs.WellFormed.{In, NoDup}
use Rattle.rules.specs.Label.{Label, several}
use Rattle.rules.specs.Model.{Ring}
use Rattle.rules.specs.Verdict.{Calls, Reached, first, then, Clear, RingAt}
use Rattle.rules.specs.Share.{Count, ReachedRingless, ShareOf}
use Rattle.rules.proofs.Laws.Tests.{Decides, both, either, negated, implied, equal, at_most, itself, halves}
use Rattle.rules.proofs.Laws.Lists.{Found, changed, nowhere, alone, appended, only, guarded, gather, gathered}
use Rattle.rules.proofs.Laws.Lists.{member?, saturate, closed?, member, saturate_holds, closed_in}
use Rattle.rules.proofs.Laws.Certificate.{Entry, entry, same_label?, same_label, same_entry?, same_entry}
use Rattle.rules.proofs.Laws.Certificate.{model_of, in_model, settled?, is_model, every_pair?, pair_passes}

-- the routines that the code calls
abbrev pub calls_of : Code → List ℕ
calls_of end = []
calls_of (new x c) = calls_of c
calls_of (lock x c d) = calls_of c ++ calls_of d
calls_of (fork i c d) = calls_of c ++ calls_of d
calls_of (choice a b c) = calls_of a ++ (calls_of b ++ calls_of c)
calls_of (call r xs c) = r ∷ calls_of c
calls_of (mirror x y c) = calls_of c

pub is_call : (c : Code) (q : ℕ) → Found q (calls_of c) (Calls c q)
is_call end q = nowhere q
is_call (new x c) q = is_call c q
is_call (lock x c d) q = appended (is_call c q) (is_call d q)
is_call (fork i c d) q = appended (is_call c q) (is_call d q)
is_call (choice a b c) q = appended (is_call a q) (appended (is_call b q) (is_call c q))
is_call (call r xs c) q = appended (alone q r) (is_call c q)
is_call (mirror x y c) q = is_call c q

-- routine 0, and the routines that those of the list call
abbrev pub called : Program → List ℕ → List ℕ
called P rs = 0 ∷ gather (λ r. calls_of (body P r)) rs

-- the reached routines as a list, after at most 64 rounds
abbrev pub reached_of : Program → List ℕ
reached_of P = saturate eqb (called P) 64 []

abbrev pub reach_settled? : Program → Bool
reach_settled? P = closed? eqb (called P) (reached_of P)

-- q is routine 0, or a routine of the list calls it
abbrev Called : Program → List ℕ → ℕ → Type 0
Called P rs q = (q ≡ 0) ⊎ ((r : ℕ) × In r rs × Calls (body P r) q)

is_called : (P : Program) (rs : List ℕ) (q : ℕ) → Found q (called P rs) (Called P rs q)
is_called P rs q = appended (alone q 0) (gathered rs (λ r. is_call (body P r) q))

-- the list is the reached routines
pub is_reached : (P : Program) → T (reach_settled? P) → (r : ℕ) → Found r (reached_of P) (Reached P r)
is_reached P t r =
    record {
      fact = saturate_holds eqb equal (Reached P) (called P) sound 64 [] (λ q i. absurd i) r;
      entry = to;
    }
  where
    sound : (rs : List ℕ) → ((q : ℕ) → In q rs → Reached P q) → (q : ℕ) → In q (called P rs) → Reached P q
    sound rs all q i = go ((is_called P rs q).fact i)
      where
        go : Called P rs q → Reached P q
        go (inl e) = rw e first
        go (inr w) = then (all w.0 w.1) w.2

    put : (q : ℕ) → Called P (reached_of P) q → In q (reached_of P)
    put q w = closed_in eqb equal (called P) (reached_of P) q t ((is_called P (reached_of P) q).entry w)

    to : {q : ℕ} → Reached P q → In q (reached_of P)
    to first = put 0 (inl refl)
    to (then {r = s} {q = q} p c) = put q (inr (s, to p, c))

-- where the pair is a ring of a routine of the list, it passes the test
abbrev pub ring_passes? : List ℕ → (ℕ → ℕ → Bool) → ℕ → ℕ → ℕ → Label → Bool
ring_passes? rs f r a b l = not (eqb a b && (same_label? l several && member? eqb r rs)) || f r a

abbrev pub every_ring? : Program → List ℕ → (ℕ → ℕ → Bool) → Bool
every_ring? P rs f = every_pair? P (ring_passes? rs f)

pub ring_passes :
    (P : Program) (rs : List ℕ) (f : ℕ → ℕ → Bool) → T (every_ring? P rs f)
    → (r x : ℕ) → In r rs → Ring P r x → T (f r x)
ring_passes P rs f t r x i ring =
    (implied (both (equal x x) (both (same_label several several) (member eqb equal r rs))) (itself (f r x))).fact
    (pair_passes P (ring_passes? rs f) t ring) (refl, (refl, i))

-- no ring in a reached routine
abbrev pub clear? : Program → Bool
clear? P = reach_settled? P && every_ring? P (reached_of P) (λ r x. false)

pub is_clear : (P : Program) → T (clear? P) → Clear P
is_clear P t r x reached ring =
    let w = halves (reach_settled? P) (every_ring? P (reached_of P) (λ q y. false)) t in
    ring_passes P (reached_of P) (λ q y. false) w.1 r x ((is_reached P w.0 r).entry reached) ring

-- (s, y) is not before (r, x), by routine and then by name
abbrev pub not_before? : ℕ → ℕ → ℕ → ℕ → Bool
not_before? r x s y = leb (suc r) s || (eqb r s && leb x y)

-- (r, x) is a ring of a reached routine, and no other is before it
abbrev pub ring_at? : Program → ℕ → ℕ → Bool
ring_at? P r x =
    reach_settled? P
    && (member? eqb r (reached_of P)
    && (member? same_entry? (entry r x x several) (model_of P) && every_ring? P (reached_of P) (not_before? r x)))

pub is_ring_at : (P : Program) (r x : ℕ) → T (ring_at? P r x) → RingAt P r x
is_ring_at P r x t =
    record {
      reached = (is_reached P w.0 r).fact w.1.0;
      ring = in_model P (entry r x x several) w.1.1.0;
      lowest_routine = λ q y h g.
          elim (low q y ((is_reached P w.0 q).entry h) g) [ inl k ↦ omega arith | inr k ↦ omega arith ];
      lowest_name = λ y g. elim (low r y w.1.0 g) [ inl k ↦ omega arith | inr k ↦ k.1 ];
    }
  where
    w :
        T (reach_settled? P) × (In r (reached_of P)
        × (In (entry r x x several) (model_of P) × T (every_ring? P (reached_of P) (not_before? r x))))
    w =
        (both (itself (reach_settled? P)) (both (member eqb equal r (reached_of P))
        (both (member same_entry? same_entry (entry r x x several) (model_of P))
        (itself (every_ring? P (reached_of P) (not_before? r x)))))).fact t

    low : (q y : ℕ) → In q (reached_of P) → Ring P q y → (r < q) ⊎ ((r ≡ q) × (x ≤ y))
    low q y j g =
        (either (at_most (suc r) q) (both (equal r q) (at_most x y))).fact
        (ring_passes P (reached_of P) (not_before? r x) w.1.1.1 q y j g)

-- the name at which the entry is a ring of routine r
abbrev ring_of : ℕ → Entry → List ℕ
ring_of r (entry s a b m) = only (eqb s r && (eqb a b && same_label? m several)) (a ∷ [])

-- the names at which routine r has a ring
abbrev pub rings_of : Program → ℕ → List ℕ
rings_of P r = gather (ring_of r) (model_of P)

-- they are the rings of the rules
pub is_ring : (P : Program) → T (settled? P) → (r x : ℕ) → Found x (rings_of P r) (Ring P r x)
is_ring P t r x = changed (λ w. to w.0 w.1 w.2) from (gathered (model_of P) is_at)
  where
    RingOfEntry : Entry → Type 0
    RingOfEntry (entry s a b m) = ((s ≡ r) × ((a ≡ b) × (m ≡ several))) × (x ≡ a)

    is_at : (e : Entry) → Found x (ring_of r e) (RingOfEntry e)
    is_at (entry s a b m) = guarded (both (equal s r) (both (equal a b) (same_label m several))) (alone x a)

    to : (e : Entry) → In e (model_of P) → RingOfEntry e → Ring P r x
    to (entry s a b m) i w =
        rw w.1 (rw (w.0.0, ← w.0.1.0, w.0.1.1) at (in_model P (entry s a b m) i))

    from : Ring P r x → (e : Entry) × In e (model_of P) × RingOfEntry e
    from ring = (entry r x x several, (is_model P t r x x several).entry ring, ((refl, (refl, refl)), refl))

-- whether there is an entry
abbrev pub some? : List ℕ → Bool
some? [] = false
some? (x ∷ xs) = true

-- an entry is something that the list stands for
pub is_some : (xs : List ℕ) {Q : ℕ → Type 0} → ((x : ℕ) → Found x xs (Q x)) → Decides (some? xs) ((x : ℕ) × Q x)
is_some [] f = record { fact = λ t. absurd t; test = λ w. (f w.0).entry w.1 }
is_some (x ∷ xs) f = record { fact = λ t. (x, (f x).fact (inl refl)); test = λ w. tt }

-- whether no two entries of the list are equal
abbrev no_dup? : List ℕ → Bool
no_dup? [] = true
no_dup? (x ∷ xs) = let rest = no_dup? xs in not (member? eqb x xs) && rest

no_dup : (xs : List ℕ) → Decides (no_dup? xs) (NoDup xs)
no_dup [] = record { fact = λ t. tt; test = λ d. tt }
no_dup (x ∷ xs) = both (negated (member eqb equal x xs)) (no_dup xs)

-- the reached routines without a ring as a list
abbrev pub ringless_of : Program → List ℕ
ringless_of P = gather (λ r. only (not (some? (rings_of P r))) (r ∷ [])) (reached_of P)

is_reached_ringless :
    (P : Program) → T (settled? P) → T (reach_settled? P) → (r : ℕ) → Found r (ringless_of P) (ReachedRingless P r)
is_reached_ringless P t u r = changed to from (gathered (reached_of P) at)
  where
    NoRing : ℕ → Type 0
    NoRing s = ((x : ℕ) × Ring P s x) → ⊥

    at : (s : ℕ) → Found r (only (not (some? (rings_of P s))) (s ∷ [])) (NoRing s × (r ≡ s))
    at s = guarded (negated (is_some (rings_of P s) (is_ring P t s))) (alone r s)

    to : ((s : ℕ) × In s (reached_of P) × (NoRing s × (r ≡ s))) → ReachedRingless P r
    to w = rw w.2.1 ((is_reached P u w.0).fact w.1, λ x ring. w.2.0 (x, ring))

    from : ReachedRingless P r → (s : ℕ) × In s (reached_of P) × (NoRing s × (r ≡ s))
    from h = (r, (is_reached P u r).entry h.0, ((λ ring. h.1 ring.0 ring.1), refl))

-- a list that is found to have the property, and no entry twice, counts it
listed : {Q : ℕ → Type 0} (xs : List ℕ) → T (no_dup? xs) → ((r : ℕ) → Found r xs (Q r)) → Count Q (length xs)
listed xs t f = record {
  list = xs;
  once = (no_dup xs).fact t;
  only = λ r. (f r).fact;
  all = λ r. (f r).entry;
  size = refl;
}

-- the numbers are those of the share
abbrev pub share? : Program → ℕ → ℕ → ℕ → Bool
share? P q rest m =
    settled? P
    && (reach_settled? P
    && (no_dup? (reached_of P)
    && (no_dup? (ringless_of P)
    && (eqb (length (reached_of P)) m && (eqb (100 * length (ringless_of P)) (q * m + rest) && leb (suc rest) m)))))

pub is_share : (P : Program) (q rest m : ℕ) → T (share? P q rest m) → ShareOf P q rest m
is_share P q rest m t = from (tests.fact t)
  where
    tests :
        Decides (share? P q rest m) (T (settled? P) × (T (reach_settled? P) × (T (no_dup? (reached_of P))
        × (T (no_dup? (ringless_of P))
        × ((length (reached_of P) ≡ m) × ((100 * length (ringless_of P) ≡ q * m + rest) × (rest < m)))))))
    tests =
        both (itself (settled? P)) (both (itself (reach_settled? P)) (both (itself (no_dup? (reached_of P)))
        (both (itself (no_dup? (ringless_of P)))
        (both (equal (length (reached_of P)) m)
        (both (equal (100 * length (ringless_of P)) (q * m + rest)) (at_most (suc rest) m))))))

    from : T (settled? P) × (T (reach_settled? P) × (T (no_dup? (reached_of P)) × (T (no_dup? (ringless_of P))
        × ((length (reached_of P) ≡ m) × ((100 * length (ringless_of P) ≡ q * m + rest) × (rest < m))))))
        → ShareOf P q rest m
    from (s, (u, (d, (e, (em, (sum, below)))))) =
        record {
          c = length (ringless_of P);
          reached = rw em at (listed (reached_of P) d (is_reached P u));
          ringless = listed (ringless_of P) e (is_reached_ringless P s u);
          sum = sum;
          below = below;
        }
