-- The model of a program as a computed list: each entry is in the model, and a list that is closed has the whole model.
use Rattle.std.specs.Prelude.{◌≡◌, refl, ◌≢◌, ◌⊎◌, Bool, true, false, not, ◌&&◌, ◌||◌, List, [], ◌∷◌, ◌++◌, map, ℕ, ◌≤◌, ◌<◌}
use Rattle.std.specs.Prelude.{T, eqb, leb, length}
use Rattle.std.proofs.Common.{sym, ap, ◌∙◌, inl, inr, arith}
use Rattle.std.proofs.Math.Option.{Option, none, some, none-ne-some}
use Rattle.std.proofs.Math.Decide.{dec_lt}
use Rattle.table.proofs.Laws.Lists.{body_listed}
use Rattle.table.specs.Program.{Code, end, new, lock, fork, choice, call, mirror, Program}
use Rattle.table.specs.Program.{params, body}
use Rattle.table.specs.WellFormed.{In}
use Rattle.table.specs.Check.{in?}
use Rattle.rules.specs.Label.{Label, own, forked, unknown, several, combine, cut, placed}
use Rattle.rules.specs.Model.{Kept, renamed, Place, at_head, naming, under_lock, under_fork}
use Rattle.rules.specs.Model.{Recorded, Model, follows, Row}
use Rattle.rules.specs.Derived.{Pairs, RecordedFrom, RowOf}
use Rattle.rules.proofs.Laws.Satisfies.{Satisfies}
use Rattle.rules.proofs.Laws.Least.{recorded_mono, row_mono, recorded_of_rows, model_satisfies}
use Rattle.rules.proofs.Laws.Least.{recorded_least, model_least}
use Rattle.rules.proofs.Laws.Nest.{is_in}
use Rattle.rules.proofs.Laws.Tests.{Decides, both, either, negated, implied, equal, at_most, halves}
use Rattle.rules.proofs.Laws.Lists.{Found, changed, nowhere, alone, appended, only, guarded, gather, gathered}
use Rattle.rules.proofs.Laws.Lists.{up_to, in_up_to, every?, every_at, member?, saturate, closed?}
use Rattle.rules.proofs.Laws.Lists.{member, saturate_holds, closed_in}

-- a labelled pair, and one of a routine
pub data Pair : Type 0 where
  pair : ℕ → ℕ → Label → Pair

pub data Entry : Type 0 where
  entry : ℕ → ℕ → ℕ → Label → Entry

abbrev pub same_label? : Label → Label → Bool
same_label? own own = true
same_label? own (forked j) = false
same_label? own unknown = false
same_label? own several = false
same_label? (forked i) own = false
same_label? (forked i) (forked j) = eqb i j
same_label? (forked i) unknown = false
same_label? (forked i) several = false
same_label? unknown own = false
same_label? unknown (forked j) = false
same_label? unknown unknown = true
same_label? unknown several = false
same_label? several own = false
same_label? several (forked j) = false
same_label? several unknown = false
same_label? several several = true

pub same_label : (l m : Label) → Decides (same_label? l m) (l ≡ m)
same_label l m = record { fact = to l m; test = λ e. rw e (self m) }
  where
    to : (l m : Label) → T (same_label? l m) → l ≡ m
    to several unknown t = elim t [ ]
    to several (forked j) t = elim t [ ]
    to several own t = elim t [ ]
    to unknown several t = elim t [ ]
    to unknown (forked j) t = elim t [ ]
    to unknown own t = elim t [ ]
    to (forked i) several t = elim t [ ]
    to (forked i) unknown t = elim t [ ]
    to (forked i) own t = elim t [ ]
    to own several t = elim t [ ]
    to own unknown t = elim t [ ]
    to own (forked j) t = elim t [ ]
    to own own t = refl
    to (forked i) (forked j) t = ap forked ((equal i j).fact t)
    to unknown unknown t = refl
    to several several t = refl

    self : (l : Label) → T (same_label? l l)
    self own = tt
    self (forked i) = (equal i i).test refl
    self unknown = tt
    self several = tt

abbrev pub same_entry? : Entry → Entry → Bool
same_entry? (entry r a b l) (entry s c d m) = let rest = eqb b d && (eqb r s && same_label? l m) in eqb a c && rest

pub same_entry : (e f : Entry) → Decides (same_entry? e f) (e ≡ f)
same_entry (entry r a b l) (entry s c d m) =
    let p = both (equal a c) (both (equal b d) (both (equal r s) (same_label l m))) in
    record {
      fact = λ t. let w = p.fact t in cc (w.0, w.1.0, w.1.1.0, w.1.1.1);
      test = λ e. p.test (cc, (cc, (cc, cc)));
    }

abbrev pub kept? : ℕ → ℕ → Label → Bool
kept? a b l = not (eqb a b) || same_label? l several

pub is_kept : (a b : ℕ) (l : Label) → Decides (kept? a b l) (Kept a b l)
is_kept a b l = either (negated (equal a b)) (same_label l several)

-- the pairs that a list of entries has
abbrev pub Listed : List Entry → Pairs
Listed es r a b l = In (entry r a b l) es

-- the pair of two names, where both are there
abbrev pub joined : Option ℕ → Option ℕ → Label → List Pair
joined none v l = []
joined (some a) none l = []
joined (some a) (some b) l = pair a b l ∷ []

is_joined :
    (u v : Option ℕ) (θ : Label) (a b : ℕ) (l : Label)
    → Found (pair a b l) (joined u v θ) ((u ≡ some a) × (v ≡ some b) × (l ≡ θ))
is_joined none v θ a b l = changed (λ z. absurd z) (λ w. none-ne-some a w.0) (nowhere (pair a b l))
is_joined (some x) none θ a b l = changed (λ z. absurd z) (λ w. none-ne-some b w.1) (nowhere (pair a b l))
is_joined (some x) (some y) θ a b l =
    changed (λ e. (cc, cc, cc)) (λ w. cc (w.0, w.1, w.2)) (alone (pair a b l) (pair x y θ))

-- two different ends in 0 to k
abbrev pub ends? : Program → ℕ → ℕ → ℕ → Bool
ends? P q a b = leb a (params P q) && (leb b (params P q) && not (eqb a b))

is_ends : (P : Program) (q a b : ℕ) → Decides (ends? P q a b) ((a ≤ params P q) × ((b ≤ params P q) × (a ≢ b)))
is_ends P q a b = both (at_most a (params P q)) (both (at_most b (params P q)) (negated (equal a b)))

-- the pair that an entry gives a call of q with the names xs, at a place of thread θ and with the holder h
abbrev pub taken : Program → ℕ → List ℕ → Label → Option ℕ → Entry → List Pair
taken P q xs θ h (entry s a b m) =
    let p = joined (renamed h xs a) (renamed h xs b) (placed θ (cut m)) in only (eqb s q && ends? P q a b) p

-- the pairs that the code records, where the entries give the rows of the routines called
abbrev pub records_of : Program → List Entry → Code → Place → List Pair
records_of P es end w = []
records_of P es (new x c) w = records_of P es c (naming x x w)
records_of P es (lock x c d) w =
    only (not (in? (w.roots x) w.nest)) (joined w.holder (some (w.roots x)) w.thread)
    ++ (records_of P es c (under_lock (w.roots x) w) ++ records_of P es d w)
records_of P es (fork i c d) w = records_of P es c (under_fork i w) ++ records_of P es d w
records_of P es (choice u v c) w = records_of P es u w ++ (records_of P es v w ++ records_of P es c w)
records_of P es (call q xs c) w = gather (taken P q (map w.roots xs) w.thread w.holder) es ++ records_of P es c w
records_of P es (mirror x y c) w = records_of P es c (naming x (w.roots y) w)

module _ (P : Program) (es : List Entry) where
  -- what an entry must be to give the pair at a call
  abbrev Gives : ℕ → List ℕ → Label → Option ℕ → ℕ → ℕ → Label → Entry → Type 0
  Gives q xs θ h a b l (entry s a₀ b₀ m) =
      ((s ≡ q) × ((a₀ ≤ params P q) × ((b₀ ≤ params P q) × (a₀ ≢ b₀))))
      × ((renamed h xs a₀ ≡ some a) × (renamed h xs b₀ ≡ some b) × (l ≡ placed θ (cut m)))

  is_taken :
      (q : ℕ) (xs : List ℕ) (θ : Label) (h : Option ℕ) (a b : ℕ) (l : Label) (e : Entry)
      → Found (pair a b l) (taken P q xs θ h e) (Gives q xs θ h a b l e)
  is_taken q xs θ h a b l (entry s a₀ b₀ m) =
      guarded (both (equal s q) (is_ends P q a₀ b₀))
      (is_joined (renamed h xs a₀) (renamed h xs b₀) (placed θ (cut m)) a b l)

  -- what the call takes from the rows that the entries give
  abbrev Taken : ℕ → List ℕ → Label → Option ℕ → ℕ → ℕ → Label → Type 0
  Taken q xs θ h a b l =
      (a₀ : ℕ) × (b₀ : ℕ) × (m : Label) × RowOf P (Listed es) q a₀ b₀ m
      × (renamed h xs a₀ ≡ some a) × (renamed h xs b₀ ≡ some b) × (l ≡ placed θ m)

  is_called :
      (q : ℕ) (xs : List ℕ) (θ : Label) (h : Option ℕ) (a b : ℕ) (l : Label)
      → Found (pair a b l) (gather (taken P q xs θ h) es) (Taken q xs θ h a b l)
  is_called q xs θ h a b l = changed (λ w. to w.0 w.1 w.2) from (gathered es (is_taken q xs θ h a b l))
    where
      to : (e : Entry) → In e es → Gives q xs θ h a b l e → Taken q xs θ h a b l
      to (entry s a₀ b₀ m) i w =
          let v = w.0.1 in
          (a₀, b₀, cut m, (m, (rw w.0.0 at i), v.0, v.1.0, v.1.1, refl), w.1.0, w.1.1, w.1.2)

      from : Taken q xs θ h a b l → (e : Entry) × In e es × Gives q xs θ h a b l e
      from w =
          let v = w.3 in
          let e = w.6 ∙ ap (placed θ) v.5 in
          (entry q w.0 w.1 v.0, v.1, ((refl, (v.2, (v.3, v.4))), (w.4, w.5, e)))

  -- the list of recorded pairs has what the code records from the rows that the entries give, and nothing else
  pub is_recorded :
      (c : Code) (w : Place) (a b : ℕ) (l : Label)
      → Found (pair a b l) (records_of P es c w) (RecordedFrom (RowOf P (Listed es)) c w a b l)
  is_recorded end w a b l = nowhere (pair a b l)
  is_recorded (new x c) w a b l = is_recorded c (naming x x w) a b l
  is_recorded (lock x c d) w a b l =
      appended
      (changed (λ q. (q.0, q.1.0, cc q.1.1, q.1.2)) (λ q. (q.0, (q.1, ap some (sym q.2), q.3)))
      (guarded (negated (is_in (w.roots x) w.nest)) (is_joined w.holder (some (w.roots x)) w.thread a b l)))
      (appended (is_recorded c (under_lock (w.roots x) w) a b l) (is_recorded d w a b l))
  is_recorded (fork i c d) w a b l = appended (is_recorded c (under_fork i w) a b l) (is_recorded d w a b l)
  is_recorded (choice u v c) w a b l =
      appended (is_recorded u w a b l) (appended (is_recorded v w a b l) (is_recorded c w a b l))
  is_recorded (call q xs c) w a b l =
      appended (is_called q (map w.roots xs) w.thread w.holder a b l) (is_recorded c w a b l)
  is_recorded (mirror x y c) w a b l = is_recorded c (naming x (w.roots y) w) a b l

-- the pair as an entry of routine r, where it is kept
abbrev pub of_routine : ℕ → Pair → List Entry
of_routine r (pair a b l) = only (kept? a b l) (entry r a b l ∷ [])

-- the entry that follows from two
abbrev pub following : Entry → Entry → List Entry
following (entry r a b l) (entry s c d m) = let e = of_routine r (pair a d (combine l m)) in only (eqb b c && eqb r s) e

-- what the rules give from the entries: the pairs that each body records, and those that follow from two entries
abbrev pub step : Program → List Entry → List Entry
step P es =
    gather (λ r. gather (of_routine r) (records_of P es (body P r) at_head)) (up_to (length P))
    ++ gather (λ e. gather (following e) es) es

-- the entry is of the model
abbrev pub InModel : Program → Entry → Type 0
InModel P (entry r a b l) = Model P r a b l

-- the entry e is the kept pair p of routine r
abbrev Of : ℕ → Entry → Pair → Type 0
Of r e (pair a b l) = Kept a b l × (e ≡ entry r a b l)

is_of : (r : ℕ) (e : Entry) (p : Pair) → Found e (of_routine r p) (Of r e p)
is_of r e (pair a b l) = guarded (is_kept a b l) (alone e (entry r a b l))

-- the entry e follows from two
abbrev Follows : Entry → Entry → Entry → Type 0
Follows e (entry r a b l) (entry s c d m) = ((b ≡ c) × (r ≡ s)) × Of r e (pair a d (combine l m))

is_following : (e f g : Entry) → Found e (following f g) (Follows e f g)
is_following e (entry r a b l) (entry s c d m) =
    guarded (both (equal b c) (equal r s)) (is_of r e (pair a d (combine l m)))

-- where the entries are of the model, so are their rows
rows_of_model :
    (P : Program) (es : List Entry) → ((e : Entry) → In e es → InModel P e)
    → (r a b : ℕ) (l : Label) → RowOf P (Listed es) r a b l → RowOf P (Model P) r a b l
rows_of_model P es all = row_mono P (Listed es) (Model P) (λ r a b l j. all (entry r a b l) j)

module _ (P : Program) (es : List Entry) where
  -- the entry e is a pair that the body of a routine records, or follows from two entries
  abbrev Given : Entry → Type 0
  Given e =
      ((r : ℕ) × In r (up_to (length P)) × ((p : Pair) × In p (records_of P es (body P r) at_head) × Of r e p))
      ⊎ ((f : Entry) × In f es × ((g : Entry) × In g es × Follows e f g))

  is_given : (e : Entry) → Found e (step P es) (Given e)
  is_given e =
      appended (gathered (up_to (length P)) (λ r. gathered (records_of P es (body P r) at_head) (is_of r e)))
      (gathered es (λ f. gathered es (is_following e f)))

  -- the step leads from entries of the model to entries of the model
  step_sound : ((e : Entry) → In e es → InModel P e) → (e : Entry) → In e (step P es) → InModel P e
  step_sound all e i = go ((is_given e).fact i)
    where
      recorded : (r : ℕ) (p : Pair) → In p (records_of P es (body P r) at_head) → Of r e p → InModel P e
      recorded r (pair a b l) j w =
          rw w.1
          ((model_satisfies P).records r a b l
          (recorded_mono (RowOf P (Listed es)) (RowOf P (Model P)) (rows_of_model P es all) (body P r) at_head a b l
          ((is_recorded P es (body P r) at_head a b l).fact j))
          w.0)

      follow : (f g : Entry) → InModel P f → InModel P g → Follows e f g → InModel P e
      follow (entry r a b l) (entry s c d m) p q w =
          let q' : Model P r b d m = rw (w.0.0, w.0.1) q in
          rw w.1.1 (follows p q' refl w.1.0)

      go : Given e → InModel P e
      go (inl w) = recorded w.0 w.2.0 w.2.1 w.2.2
      go (inr w) = follow w.0 w.2.0 (all w.0 w.1) (all w.2.0 w.2.1) w.2.2

  -- entries that are closed under the step satisfy the rules
  pub closed_satisfies : T (closed? same_entry? (step P) es) → Satisfies P (Listed es)
  closed_satisfies t = record { records = recorded; follows = follow }
    where
      put : (e : Entry) → Given e → In e es
      put e w = closed_in same_entry? same_entry (step P) es e t ((is_given e).entry w)

      recorded :
          (r a b : ℕ) (l : Label)
          → RecordedFrom (RowOf P (Listed es)) (body P r) at_head a b l → Kept a b l → Listed es r a b l
      recorded r a b l w k = go (dec_lt r (length P))
        where
          go : Dec (r < length P) → Listed es r a b l
          go (yes lt) =
              put (entry r a b l)
              (inl (
                r,
                in_up_to r (length P) lt,
                (pair a b l, (is_recorded P es (body P r) at_head a b l).entry w, (k, refl)),
              ))
          go (no ge) =
              absurd (let lt = body_listed P r (λ c. RecordedFrom (RowOf P (Listed es)) c at_head a b l) (λ z. z) w in
              omega arith)

      follow :
          (r a b c : ℕ) (l m : Label)
          → Listed es r a b l → Listed es r b c m → Kept a c (combine l m) → Listed es r a c (combine l m)
      follow r a b c l m p q k =
          put (entry r a c (combine l m)) (inr (entry r a b l, p, (entry r b c m, q, ((refl, refl), (k, refl)))))

-- the model as a list, after at most 64 rounds
abbrev pub model_of : Program → List Entry
model_of P = saturate same_entry? (step P) 64 []

-- the rounds were enough
abbrev pub settled? : Program → Bool
settled? P = closed? same_entry? (step P) (model_of P)

pub in_model : (P : Program) (e : Entry) → In e (model_of P) → InModel P e
in_model P = saturate_holds same_entry? same_entry (InModel P) (step P) (step_sound P) 64 [] (λ e i. absurd i)

-- the list is the model
pub is_model :
    (P : Program) → T (settled? P) → (r a b : ℕ) (l : Label) → Found (entry r a b l) (model_of P) (Model P r a b l)
is_model P t r a b l =
    record {
      fact = in_model P (entry r a b l);
      entry = λ m. model_least P (Listed (model_of P)) (closed_satisfies P (model_of P) t) m;
    }

-- the pairs that the body of routine r records, as a list
abbrev pub recorded_of : Program → ℕ → List Pair
recorded_of P r = records_of P (model_of P) (body P r) at_head

-- the list has what the body records, and nothing else
pub is_recorded_by :
    (P : Program) → T (settled? P) → (r a b : ℕ) (l : Label)
    → Found (pair a b l) (recorded_of P r) (Recorded P (body P r) at_head a b l)
is_recorded_by P t r a b l =
    changed
    (λ q. recorded_of_rows P (body P r) at_head a b l
    (recorded_mono (RowOf P (Listed es)) (RowOf P (Model P)) (rows_of_model P es (in_model P)) (body P r) at_head a b l
    q))
    (λ q. recorded_least P (Listed es) (closed_satisfies P es t) q)
    (is_recorded P es (body P r) at_head a b l)
  where
    es : List Entry
    es = model_of P

-- the pair is of the model, by its place in the list
abbrev pub has? : Program → ℕ → ℕ → ℕ → Label → Bool
has? P r a b l = member? same_entry? (entry r a b l) (model_of P)

pub has_pair : (P : Program) (r a b : ℕ) (l : Label) → T (has? P r a b l) → Model P r a b l
has_pair P r a b l t = in_model P (entry r a b l) ((member same_entry? same_entry (entry r a b l) (model_of P)).fact t)

-- the test passes at each pair of the model
abbrev pub on_entry : (ℕ → ℕ → ℕ → Label → Bool) → Entry → Bool
on_entry f (entry r a b l) = f r a b l

abbrev pub every_pair? : Program → (ℕ → ℕ → ℕ → Label → Bool) → Bool
every_pair? P f = settled? P && every? (on_entry f) (model_of P)

pub pair_passes :
    (P : Program) (f : ℕ → ℕ → ℕ → Label → Bool) → T (every_pair? P f)
    → {r a b : ℕ} {l : Label} → Model P r a b l → T (f r a b l)
pair_passes P f t {r} {a} {b} {l} m =
    let w = halves (settled? P) (every? (on_entry f) (model_of P)) t in
    every_at (on_entry f) (model_of P) (entry r a b l) w.1 ((is_model P w.0 r a b l).entry m)

-- the pair (a, b) of routine r has the label m and no other
abbrev pub OneLabel : Program → ℕ → ℕ → ℕ → Label → Type 0
OneLabel P r a b m = Model P r a b m × ((l : Label) → Model P r a b l → l ≡ m)

abbrev label_is? : ℕ → ℕ → ℕ → Label → ℕ → ℕ → ℕ → Label → Bool
label_is? r a b m s c d l = not (eqb s r && (eqb c a && eqb d b)) || same_label? l m

abbrev pub one_label? : Program → ℕ → ℕ → ℕ → Label → Bool
one_label? P r a b m = has? P r a b m && every_pair? P (label_is? r a b m)

pub one_label : (P : Program) (r a b : ℕ) (m : Label) → T (one_label? P r a b m) → OneLabel P r a b m
one_label P r a b m t = (has_pair P r a b m w.0, same)
  where
    w : T (has? P r a b m) × T (every_pair? P (label_is? r a b m))
    w = halves (has? P r a b m) (every_pair? P (label_is? r a b m)) t

    same : (l : Label) → Model P r a b l → l ≡ m
    same l p =
        (implied (both (equal r r) (both (equal a a) (equal b b))) (same_label l m)).fact
        (pair_passes P (label_is? r a b m) w.1 p) (refl, (refl, refl))

-- the label of the entry, where it is the pair (a, b) of routine r
abbrev pub label_at : ℕ → ℕ → ℕ → Entry → List Label
label_at r a b (entry s c d m) = only (eqb s r && (eqb c a && eqb d b)) (cut m ∷ [])

-- the labels of the pair (a, b) in the row of routine r
abbrev pub row_labels : Program → ℕ → ℕ → ℕ → List Label
row_labels P r a b = only (ends? P r a b) (gather (label_at r a b) (model_of P))

pub is_row : (P : Program) → T (settled? P) → (r a b : ℕ) (l : Label) → Found l (row_labels P r a b) (Row P r a b l)
is_row P t r a b l =
    changed (λ w. to w.0 w.1.0 w.1.1 w.1.2) from
    (guarded (is_ends P r a b) (gathered (model_of P) is_label))
  where
    Ends : Type 0
    Ends = (a ≤ params P r) × ((b ≤ params P r) × (a ≢ b))

    LabelAt : Entry → Type 0
    LabelAt (entry s c d m) = ((s ≡ r) × ((c ≡ a) × (d ≡ b))) × (l ≡ cut m)

    is_label : (e : Entry) → Found l (label_at r a b e) (LabelAt e)
    is_label (entry s c d m) = guarded (both (equal s r) (both (equal c a) (equal d b))) (alone l (cut m))

    to : Ends → (e : Entry) → In e (model_of P) → LabelAt e → Row P r a b l
    to k (entry s c d m) i w =
        let n : Model P r a b m = rw (w.0.0, w.0.1.0, w.0.1.1) at (in_model P (entry s c d m) i) in
        (m, n, k.0, k.1.0, k.1.1, w.1)

    from : Row P r a b l → Ends × ((e : Entry) × In e (model_of P) × LabelAt e)
    from w = (
      (w.2, (w.3, w.4)),
      (entry r a b w.0, (is_model P t r a b w.0).entry w.1, ((refl, (refl, refl)), w.5)),
    )
