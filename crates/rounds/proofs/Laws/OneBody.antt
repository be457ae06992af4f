-- Two tables that differ in one body alone, by their bytes: the parameter counts are the same, and so are the bytes
-- before that body and after it.
use Rattle.std.specs.Prelude.{◌≡◌, refl, ◌≢◌, List, [], ◌∷◌, ◌++◌, false, ℕ, zero, suc, ◌+◌, ◌-◌, ◌<◌, length, get_or, take, drop}
use Rattle.std.proofs.Common.{sym, ap, ◌∙◌, subst, append_assoc, arith, get_or-take, get_or-drop, ext_get_or}
use Rattle.std.proofs.Math.Decide.{ℕ_discrete, dec_lt}
use Rattle.table.specs.Constants.{END, most_open}
use Rattle.table.specs.Program.{Routine, Program, empty}
use Rattle.table.specs.Encoding.{encode, encode_bodies, counts, Fits, WithinLimits}
use Rattle.table.specs.Check.{ok, block, at_head}
use Rattle.table.proofs.Laws.Complete.{block_complete}
use Rattle.table.proofs.Laws.Sound.{Sits, counts_length, counts_params}
use Rattle.rounds.specs.OneBody.{OnlyBody}

-- whether two runs of bytes are the same
pub same? : (a b : List ℕ) → Dec (a ≡ b)
same? [] [] = yes refl
same? [] (y ∷ b) = no (λ e. let z : 0 ≡ length (y ∷ b) = ap length e in omega arith)
same? (x ∷ a) [] = no (λ e. let z : length (x ∷ a) ≡ 0 = ap length e in omega arith)
same? (x ∷ a) (y ∷ b) = go (ℕ_discrete x y) (same? a b)
  where
    go : Dec (x ≡ y) → Dec (a ≡ b) → Dec (x ∷ a ≡ y ∷ b)
    go (yes e) (yes f) = yes (λ i. e i ∷ f i)
    go (no n) d = no (λ e. n cc)
    go (yes e) (no n) = no (λ e. n cc)

stands : (P : Program) (x : Routine) → Fits P x → Sits P x
stands P x f = record {
  scoped = f.scoped;
  numbered = f.numbered;
  few_open = f.few_open;
  few_locals = let n = f.few_locals in omega arith;
  few_forks = let n = f.few_forks in omega arith;
}

-- bytes that begin with a body have one body there
body_unique : (P Q : Program) (x y : Routine) (t u : List ℕ) → counts P ≡ counts Q → x.count ≡ y.count
    → Fits P x → Fits Q y → encode END x.code ++ t ≡ encode END y.code ++ u → (x.code ≡ y.code) × (t ≡ u)
body_unique P Q x y t u ks k f g e =
    let a = block_complete P x.code most_open false (at_head x.count) t (stands P x f) in
    let b = block_complete Q y.code most_open false (at_head y.count) u (stands Q y g) in
    let c : block (counts P) most_open false (at_head x.count) (encode END x.code ++ t)
    ≡ block (counts Q) most_open false (at_head y.count) (encode END y.code ++ u)
    = λ i. block (ks i) most_open false (at_head (k i)) (e i) in
    let o : ok x.code t ≡ ok y.code u = sym a ∙ c ∙ b in
    (cc, cc)

-- routines with the same parameter counts and the same bytes are the same
routines_unique : (P Q A B : Program) → counts P ≡ counts Q
    → ((i : ℕ) → i < length A → Fits P (get_or A i empty)) → ((i : ℕ) → i < length B → Fits Q (get_or B i empty))
    → counts A ≡ counts B → encode_bodies A ≡ encode_bodies B → A ≡ B
routines_unique P Q [] [] ks f g k e = refl
routines_unique P Q [] (y ∷ B) ks f g k e = absurd (let z : ◌≡◌ {A = ℕ} 0 1 = cc in omega arith)
routines_unique P Q (x ∷ A) [] ks f g k e = absurd (let z : ◌≡◌ {A = ℕ} 0 1 = cc in omega arith)
routines_unique P Q (x ∷ A) (y ∷ B) ks f g k e =
    let kx : x.count ≡ y.count = cc in
    let kr : counts A ≡ counts B = cc in
    let w = body_unique P Q x y (encode_bodies A) (encode_bodies B) ks kx (f 0 (omega arith)) (g 0 (omega arith)) e in
    let r = routines_unique P Q A B ks (λ i l. f (suc i) (omega arith)) (λ i l. g (suc i) (omega arith)) kr w.1 in
    λ i. record { count = kx i; code = w.0 i } ∷ r i

-- routines whose bytes begin with those of r others, with the same parameter counts, begin with these
pub prefix_unique :
    (P Q A B : Program) (rest : List ℕ) (r : ℕ) → counts P ≡ counts Q
    → ((i : ℕ) → i < length A → Fits P (get_or A i empty)) → ((i : ℕ) → i < length B → Fits Q (get_or B i empty))
    → counts A ≡ counts B → encode_bodies A ≡ encode_bodies (take r B) ++ rest → take r A ≡ take r B
prefix_unique P Q A B rest zero ks f g k e = refl
prefix_unique P Q [] [] rest (suc r) ks f g k e = refl
prefix_unique P Q [] (y ∷ B) rest (suc r) ks f g k e = absurd (let z : ◌≡◌ {A = ℕ} 0 1 = cc in omega arith)
prefix_unique P Q (x ∷ A) [] rest (suc r) ks f g k e = absurd (let z : ◌≡◌ {A = ℕ} 0 1 = cc in omega arith)
prefix_unique P Q (x ∷ A) (y ∷ B) rest (suc r) ks f g k e =
    let kx : x.count ≡ y.count = cc in
    let kr : counts A ≡ counts B = cc in
    let w = body_unique P Q x y (encode_bodies A) (encode_bodies (take r B) ++ rest) ks kx (f 0 (omega arith))
    (g 0 (omega arith)) (e ∙ append_assoc (encode END y.code) (encode_bodies (take r B)) rest) in
    let s = prefix_unique P Q A B rest r ks (λ i l. f (suc i) (omega arith)) (λ i l. g (suc i) (omega arith)) kr
    w.1 in
    λ i. record { count = kx i; code = w.0 i } ∷ s i

counts_take : (r : ℕ) (P : Program) → counts (take r P) ≡ take r (counts P)
counts_take zero P = refl
counts_take (suc r) [] = refl
counts_take (suc r) (x ∷ P) = ap (λ (l : List ℕ). x.count ∷ l) (counts_take r P)

counts_drop : (r : ℕ) (P : Program) → counts (drop r P) ≡ drop r (counts P)
counts_drop zero P = refl
counts_drop (suc r) [] = refl
counts_drop (suc r) (x ∷ P) = counts_drop r P

long_take : (r i : ℕ) (P : Program) → i < length (take r P) → (i < r) × (i < length P)
long_take zero i P h = absurd (omega arith)
long_take (suc r) i [] h = absurd (omega arith)
long_take (suc r) zero (x ∷ P) h = (omega arith, omega arith)
long_take (suc r) (suc i) (x ∷ P) h = let w = long_take r i P (omega arith) in
    let a = w.0 in
    let b = w.1 in
    (omega arith, omega arith)

long_drop : (r i : ℕ) (P : Program) → i < length (drop r P) → r + i < length P
long_drop zero i P h = omega arith
long_drop (suc r) i [] h = absurd (omega arith)
long_drop (suc r) i (x ∷ P) h = let w = long_drop r i P h in omega arith

module _ (P Q : Program) (wp : WithinLimits P) (wq : WithinLimits Q) (r : ℕ) where
  -- the bytes say that the programs differ in that body alone
  pub record SameBytes : Type 0 where
    pub listed : r < length P
    pub same_counts : counts P ≡ counts Q
    pub before : encode_bodies (take r P) ≡ encode_bodies (take r Q)
    pub after : encode_bodies (drop (suc r) P) ≡ encode_bodies (drop (suc r) Q)

  fits_take : (P : Program) → WithinLimits P → (i : ℕ) → i < length (take r P) → Fits P (get_or (take r P) i empty)
  fits_take P w i h =
      let l = long_take r i P h in
      rw (get_or-take r P i empty l.0) (w.fits i l.1)

  fits_drop : (P : Program) → WithinLimits P → (i : ℕ) → i < length (drop (suc r) P)
      → Fits P (get_or (drop (suc r) P) i empty)
  fits_drop P w i h = rw (get_or-drop (suc r) P i empty) (w.fits (suc r + i) (long_drop (suc r) i P h))

  pub only_body_of_bytes : SameBytes → OnlyBody P Q r
  only_body_of_bytes s = record {
    listed = s.listed;
    same_length = sym (counts_length Q) ∙ ap length (sym s.same_counts) ∙ counts_length P;
    same_params = λ q. sym (counts_params Q q) ∙ ap (λ (l : List ℕ). get_or l q 0) (sym s.same_counts) ∙
        counts_params P q;
    same_bodies = λ q ne. sym (ap (λ (x : Routine). x.code) (at q ne (dec_lt q r)));
  }
    where
      first : take r P ≡ take r Q
      first = routines_unique P Q (take r P) (take r Q) s.same_counts (fits_take P wp) (fits_take Q wq)
          (counts_take r P ∙ ap (take r) s.same_counts ∙ sym (counts_take r Q)) s.before

      last : drop (suc r) P ≡ drop (suc r) Q
      last = routines_unique P Q (drop (suc r) P) (drop (suc r) Q) s.same_counts (fits_drop P wp) (fits_drop Q wq)
          (counts_drop (suc r) P ∙ ap (drop (suc r)) s.same_counts ∙ sym (counts_drop (suc r) Q)) s.after

      at : (q : ℕ) → q ≢ r → Dec (q < r) → get_or P q empty ≡ get_or Q q empty
      at q ne (yes l) =
          sym (get_or-take r P q empty l) ∙ ap (λ (v : Program). get_or v q empty) first ∙ get_or-take r Q q empty l
      at q ne (no n) =
          let e : suc r + (q - suc r) ≡ q = omega arith in
          subst (λ (i : ℕ). get_or P i empty ≡ get_or Q i empty) e
          (sym (get_or-drop (suc r) P (q - suc r) empty) ∙ ap (λ (v : Program). get_or v (q - suc r) empty) last
          ∙ get_or-drop (suc r) Q (q - suc r) empty)

  pub bytes_of_only_body : OnlyBody P Q r → SameBytes
  bytes_of_only_body o = record {
    listed = o.listed;
    same_counts = ext_get_or 0 (counts P) (counts Q) (counts_length P ∙ sym o.same_length ∙ sym (counts_length Q))
        (λ i h. counts_params P i ∙ sym (o.same_params i) ∙ sym (counts_params Q i));
    before = ap encode_bodies (ext_get_or empty (take r P) (take r Q) (long_takes r P Q (sym o.same_length))
        (λ i h.
        let l = long_take r i P h in
        get_or-take r P i empty l.0 ∙ routine i (λ e. let a = l.0 in omega arith) ∙ sym (get_or-take r Q i empty l.0)));
    after = ap encode_bodies (ext_get_or empty (drop (suc r) P) (drop (suc r) Q) (long_drops (suc r) P Q (sym o.same_length))
        (λ i h. get_or-drop (suc r) P i empty ∙ routine (suc r + i) (λ e. omega arith) ∙ sym (get_or-drop (suc r) Q i
        empty)));
  }
    where
      routine : (q : ℕ) → q ≢ r → get_or P q empty ≡ get_or Q q empty
      routine q ne = sym (λ i. record { count = o.same_params q i; code = o.same_bodies q ne i })

      long_takes : (r : ℕ) (P Q : Program) → length P ≡ length Q → length (take r P) ≡ length (take r Q)
      long_takes zero P Q e = refl
      long_takes (suc r) [] [] e = refl
      long_takes (suc r) [] (y ∷ Q) e = absurd (omega arith)
      long_takes (suc r) (x ∷ P) [] e = absurd (omega arith)
      long_takes (suc r) (x ∷ P) (y ∷ Q) e = ap suc (long_takes r P Q (omega arith))

      long_drops : (r : ℕ) (P Q : Program) → length P ≡ length Q → length (drop r P) ≡ length (drop r Q)
      long_drops zero P Q e = e
      long_drops (suc r) [] [] e = refl
      long_drops (suc r) [] (y ∷ Q) e = absurd (omega arith)
      long_drops (suc r) (x ∷ P) [] e = absurd (omega arith)
      long_drops (suc r) (x ∷ P) (y ∷ Q) e = long_drops r P Q (omega arith)

  -- whether they do
  pub only_body? : Dec (OnlyBody P Q r)
  only_body? =
      go (dec_lt r (length P)) (same? (counts P) (counts Q))
      (same? (encode_bodies (take r P)) (encode_bodies (take r Q)))
      (same? (encode_bodies (drop (suc r) P)) (encode_bodies (drop (suc r) Q)))
    where
      go : Dec (r < length P) → Dec (counts P ≡ counts Q) → Dec (encode_bodies (take r P) ≡ encode_bodies (take r Q))
          → Dec (encode_bodies (drop (suc r) P) ≡ encode_bodies (drop (suc r) Q)) → Dec (OnlyBody P Q r)
      go (yes l) (yes c) (yes b) (yes a) =
          yes (only_body_of_bytes (record { listed = l; same_counts = c; before = b; after = a }))
      go (no n) c b a = no (λ o. n o.listed)
      go (yes l) (no n) b a = no (λ o. n (bytes_of_only_body o).same_counts)
      go (yes l) (yes c) (no n) a = no (λ o. n (bytes_of_only_body o).before)
      go (yes l) (yes c) (yes b) (no n) = no (λ o. n (bytes_of_only_body o).after)
