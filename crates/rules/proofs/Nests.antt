-- How the nest reads: what each of these bodies records, whole; and what tables j, g and e are by the rules without it.
use mathlib.Core.Path.{◌≡◌, refl}
use mathlib.Core.Logic.{◌⊎◌, inl, inr}
use mathlib.Core.List.{List, [], ◌∷◌}
use mathlib.Core.Option.{Option, some, none-ne-some}
use Prim.Native.Nat.{ℕ, zero, suc, ◌<◌}
use native.Mathlib.Omega.{arith}
use native.Mathlib.Decide.{ℕ_discrete}
use lib.Dec.{T}
use Rattle.table.specs.Program.{Code, end, new, lock, fork, choice, call, Program, body}
use Rattle.rules.specs.Label.{Label, own, forked, several}
use Rattle.rules.specs.Model.{Kept, at_head, Recorded}
use Rattle.rules.specs.Verdict.{Clear, RingAt}
use Rattle.rules.proofs.Laws.Lists.{Found}
use Rattle.rules.specs.Derived.{Pairs, RowOf}
use Rattle.rules.proofs.Laws.Certificate.{Pair, pair, recorded_of, settled?, is_recorded_by}
use Rattle.rules.proofs.Laws.Older.{RecordedBy, ModelBy, ClearBy}
use Rattle.rules.proofs.Laws.Before101.{never, FirstTakings, same_before}
use Rattle.rules.proofs.Laws.Judge.{is_clear, is_ring_at}
use Rattle.rules.proofs.Readings.{routine, table_g, clear_g}

-- the body of routine r records the pairs of the list, and no others
abbrev pub Records : Program → ℕ → List Pair → Type 0
Records P r ps = (a b : ℕ) (l : Label) → Found (pair a b l) ps (Recorded P (body P r) at_head a b l)

pub records : (P : Program) (r : ℕ) (ps : List Pair) → T (settled? P) → recorded_of P r ≡ ps → Records P r ps
records P r ps t e a b l = rw (← e) (is_recorded_by P t r a b l)

-- routine 0 runs the code with three locks, and routine 1 locks its parameter
abbrev nesting : Code → Program
nesting c = routine 0 (new 1 (new 2 (new 3 c))) ∷ routine 1 (lock 1 end end) ∷ []

-- LOCK 1 { c } and LOCK 1 { LOCK 2 { c } }, with nothing after the blocks
abbrev in_1 : Code → Code
in_1 c = lock 1 c end

abbrev in_1_2 : Code → Code
in_1_2 c = in_1 (lock 2 c end)

-- a lock taken again: h inside is the one outside, so that LOCK 3 records (2, 3), and (2, 1) and (1, 3) are not
-- recorded
taken_again : Records (nesting (in_1_2 (in_1 (lock 3 end end)))) 0 (pair 0 1 own ∷ pair 1 2 own ∷ pair 2 3 own ∷ [])
unfolding ℕ_discrete
taken_again = records (nesting (in_1_2 (in_1 (lock 3 end end)))) 0 _ tt refl

-- the same for a called routine's name 0
taken_again_at_call :
    Records (nesting (in_1_2 (in_1 (call 1 (3 ∷ []) end)))) 0 (pair 0 1 own ∷ pair 1 2 own ∷ pair 2 3 own ∷ [])
unfolding ℕ_discrete
taken_again_at_call = records (nesting (in_1_2 (in_1 (call 1 (3 ∷ []) end)))) 0 _ tt refl

-- twice over: both names are in the nest, and 2 stays the holder
taken_twice : Records (nesting (in_1_2 (in_1_2 (lock 3 end end)))) 0 (pair 0 1 own ∷ pair 1 2 own ∷ pair 2 3 own ∷ [])
unfolding ℕ_discrete
taken_twice = records (nesting (in_1_2 (in_1_2 (lock 3 end end)))) 0 _ tt refl

-- of three open, the outermost
taken_again_outermost :
    Records (nesting (in_1_2 (lock 3 (in_1 end) end))) 0 (pair 0 1 own ∷ pair 1 2 own ∷ pair 2 3 own ∷ [])
unfolding ℕ_discrete
taken_again_outermost = records (nesting (in_1_2 (lock 3 (in_1 end) end))) 0 _ tt refl

-- a FORK, a CHOICE, a CALL or a NEW between the two takings does not end the nest
abbrev taken_later : Program
taken_later =
    nesting (in_1 (fork 1 end (choice end end (call 1 (2 ∷ []) (new 4 (lock 2 (in_1 (lock 3 end end)) end))))))

taken_again_later : Records taken_later 0 (pair 0 1 own ∷ pair 1 2 own ∷ pair 1 2 own ∷ pair 2 3 own ∷ [])
unfolding ℕ_discrete
taken_again_later = records taken_later 0 _ tt refl

-- a fork has a nest of its own: what its parent holds is recorded as before
forked_again : Records (nesting (in_1 (fork 1 (lock 2 (in_1 end) end) end))) 0 (pair 0 1 own ∷ pair 2 1 (forked 1) ∷ [])
unfolding ℕ_discrete
forked_again = records (nesting (in_1 (fork 1 (lock 2 (in_1 end) end) end))) 0 _ tt refl

-- and inside that nest the rule holds as elsewhere
taken_again_in_fork :
    Records (nesting (fork 1 (in_1_2 (in_1 (lock 3 end end))) end)) 0 (pair 1 2 (forked 1) ∷ pair 2 3 (forked 1) ∷ [])
unfolding ℕ_discrete
taken_again_in_fork = records (nesting (fork 1 (in_1_2 (in_1 (lock 3 end end))) end)) 0 _ tt refl

-- a called routine has a nest of its own: what its caller holds is recorded as before
called_again : Records (nesting (in_1_2 (call 1 (1 ∷ []) end))) 0 (pair 0 1 own ∷ pair 1 2 own ∷ pair 2 1 own ∷ [])
unfolding ℕ_discrete
called_again = records (nesting (in_1_2 (call 1 (1 ∷ []) end))) 0 _ tt refl

-- two parameters that stand for one lock are two names
passed_twice :
    Records (routine 0 (new 1 (call 1 (1 ∷ 1 ∷ []) end)) ∷ routine 2 (in_1_2 end) ∷ []) 1
    (pair 0 1 own ∷ pair 1 2 own ∷ [])
unfolding ℕ_discrete
passed_twice = records (routine 0 (new 1 (call 1 (1 ∷ 1 ∷ []) end)) ∷ routine 2 (in_1_2 end) ∷ []) 1 _ tt refl

-- a name is in the nest no longer than its block is open
closed_again :
    Records (nesting (lock 1 end (lock 2 (in_1 end) end))) 0 (pair 0 1 own ∷ pair 0 2 own ∷ pair 2 1 own ∷ [])
unfolding ℕ_discrete
closed_again = records (nesting (lock 1 end (lock 2 (in_1 end) end))) 0 _ tt refl

-- where it was taken again inside, it is in the nest until the first block is closed
closed_inside : Records (nesting (in_1 (lock 1 end (lock 2 (in_1 end) end)))) 0 (pair 0 1 own ∷ pair 1 2 own ∷ [])
unfolding ℕ_discrete
closed_inside = records (nesting (in_1 (lock 1 end (lock 2 (in_1 end) end)))) 0 _ tt refl

-- both alternatives have the nest outside the choice, and neither has that of the other
chosen_again :
    Records (nesting (in_1 (choice (lock 2 (in_1 end) end) (lock 3 (in_1 (lock 2 end end)) end) end))) 0
    (pair 0 1 own ∷ pair 1 2 own ∷ pair 1 3 own ∷ pair 3 2 own ∷ [])
unfolding ℕ_discrete
chosen_again =
    records (nesting (in_1 (choice (lock 2 (in_1 end) end) (lock 3 (in_1 (lock 2 end end)) end) end))) 0 _ tt refl

chosen_apart :
    Records (nesting (choice (in_1 end) (lock 2 (in_1 end) end) end)) 0
    (pair 0 1 own ∷ pair 0 2 own ∷ pair 2 1 own ∷ [])
unfolding ℕ_discrete
chosen_apart = records (nesting (choice (in_1 end) (lock 2 (in_1 end) end) end)) 0 _ tt refl

-- table j: the main thread nests 1, 2, 1 and a fork nests 1, 2
abbrev table_j : Program
table_j = routine 0 (new 1 (new 2 (fork 1 (in_1_2 end) (in_1_2 (in_1 end))))) ∷ []

-- it is clear, and by the rules without the nest it has a ring at 1
clear_j : Clear table_j
unfolding ℕ_discrete
clear_j = is_clear table_j tt

ring_j_before : ModelBy never table_j 0 1 1 several
ring_j_before M ok =
    ok.follows 0 1 2 1 (forked 1) own
    (ok.records 0 1 2 (forked 1) (inl (inr (inl (inl (tt, refl, refl, refl))))) (inl (λ e. omega arith)))
    (ok.records 0 2 1 own (inr (inr (inl (inr (inl (inl (tt, refl, refl, refl))))))) (inl (λ e. omega arith)))
    (inr refl)

-- table j with LOCK 2 and the second LOCK 1 of the main thread in a fork: the ring is there
ring_j_forked : RingAt (nesting (fork 1 (in_1_2 end) (in_1 (fork 2 (lock 2 (in_1 end) end) end)))) 0 1
unfolding ℕ_discrete
ring_j_forked = is_ring_at (nesting (fork 1 (in_1_2 end) (in_1 (fork 2 (lock 2 (in_1 end) end) end)))) 0 1 tt

-- x is not in the nest that has y alone
other_than : (x y : ℕ) → (x ≡ y → ⊥) → (x ≡ y) ⊎ ⊥ → ⊥
other_than x y n (inl e) = n e
other_than x y n (inr i) = i

-- table g has no LOCK on a name whose root is in its nest, so it was clear as it is now
first_takings_g : (r : ℕ) → FirstTakings (body table_g r) at_head
first_takings_g zero = tt
first_takings_g (suc zero) = (
  ((λ i. i), (other_than 1 2 (λ e. omega arith), tt, tt), tt),
  (((λ i. i), (other_than 3 1 (λ e. omega arith), tt, tt), tt), tt),
  tt,
)
first_takings_g (suc (suc r)) = tt

clear_g_before : ClearBy never table_g
clear_g_before r x reached ring = clear_g r x reached (same_before table_g first_takings_g ring)

-- table e takes a name again in each of its threads, and was clear: by the rules without the nest, too, its pairs lead
-- from name 0 alone
abbrev table_e : Program
table_e = routine 0 (new 1 (fork 1 (in_1 (in_1 end)) (in_1 (in_1 end)))) ∷ []

abbrev FromZero : Pairs
FromZero r a b l = (a ≡ 0) × (0 < b)

-- a LOCK inside a block of the same name: its pair has equal ends and one thread, and is not kept
not_kept :
    {a b : ℕ} {l m : Label} → Unit {0} × (◌≡◌ {A = Option ℕ} (some 1) (some a)) × (b ≡ 1) × (l ≡ m)
    → (m ≡ several → ⊥)
    → Kept a b l → ⊥
not_kept q n (inl ne) = ne (let z : _ ≡ _ = cc in z)
not_kept q n (inr e) = n (cc)

recorded_e :
    (r a b : ℕ) (l : Label)
    → RecordedBy never (RowOf table_e FromZero) (body table_e r) at_head a b l → Kept a b l
    → FromZero r a b l
recorded_e zero a b l (inl (inl q)) k = absurd (none-ne-some a q.1)
recorded_e (suc _) a b l x4 k = elim x4 [ ]
recorded_e zero a b l (inr (inr (inr x7))) k = elim x7 [ ]
recorded_e zero a b l (inl (inr (inr x7))) k = elim x7 [ ]
recorded_e zero a b l (inl (inr (inl (inl q)))) k =
    absurd (not_kept q (λ e. let z : ◌≡◌ {A = ℕ} 0 1 = cc in omega arith) k)
recorded_e zero a b l (inl (inr (inl (inr (inl q))))) k = absurd q
recorded_e zero a b l (inl (inr (inl (inr (inr q))))) k = absurd q
recorded_e zero a b l (inr (inl q)) k = (cc, (let z : b ≡ 1 = q.2 in omega arith))
recorded_e zero a b l (inr (inr (inl (inl q)))) k =
    absurd (not_kept q (λ e. let z : ◌≡◌ {A = ℕ} 0 1 = cc in omega arith) k)
recorded_e zero a b l (inr (inr (inl (inr (inl q))))) k = absurd q
recorded_e zero a b l (inr (inr (inl (inr (inr q))))) k = absurd q

clear_e_before : ClearBy never table_e
clear_e_before r x reached ring =
    let q = ring FromZero (record {
      records = recorded_e;
      follows = λ r a b c l m p q k. let z : b ≡ 0 = q.0 in let y : 0 < b = p.1 in absurd (omega arith);
    }) in
    let z : x ≡ 0 = q.0 in
    let y : 0 < x = q.1 in
    omega arith
