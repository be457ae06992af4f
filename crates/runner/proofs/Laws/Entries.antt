-- Entries of the arrays of a record after a change.
use Rattle.std.specs.Prelude.{◌≡◌, refl, List, [], ◌∷◌, ℕ, zero, suc, ◌+◌, ◌*◌, ◌<◌, ◌≤◌, length, get_or, set, eqb, cond, Bool}
use Rattle.std.proofs.Common.{sym, ◌∙◌, ap, arith, length-set, get_or-set_same, get_or-set_other, eq-eqb, ne_eqb}
use Rattle.std.proofs.Math.Decide.{ℕ_discrete}
use Rattle.table.specs.Constants.{most_names}
use Rattle.schedule.specs.Limits.{most_frames, all_names}
use Rattle.rules.specs.Model.{bind}
use Rattle.run.specs.Run.{Env, Frame, frame}
use Rattle.steps.specs.Records.{copied, name_at, passed, taken, level}
use Rattle.steps.specs.Shown.{NamesAt, FramesAt}

-- copying names keeps the length
pub copied_long : (ns : List ℕ) (d j : ℕ) → length (copied ns d j) ≡ length ns
unfolding copied
copied_long ns d zero = refl
copied_long ns d (suc j) = length-set (copied ns d j) _ _ ∙ copied_long ns d j

-- and every entry below the level that is made
pub copied_old :
    (ns : List ℕ) (d j i : ℕ) → i < most_names * d + most_names → get_or (copied ns d j) i 0 ≡ get_or ns i 0
unfolding copied
copied_old ns d zero i h = refl
copied_old ns d (suc j) i h =
    get_or-set_other (copied ns d j) (most_names * d + most_names + j) i _ 0 (λ e. (omega (arith, h, e)))
    ∙ copied_old ns d j i h

-- the level that is made has the entries of the one below
pub copied_new :
    (ns : List ℕ) (d j x : ℕ) → x < j → j ≤ most_names → most_names * d + most_names + j ≤ length ns
    → get_or (copied ns d j) (most_names * d + most_names + x) 0 ≡ get_or ns (most_names * d + x) 0
unfolding copied
copied_new ns d zero x h below long = absurd (omega (arith, h))
copied_new ns d (suc j) x h below long =
    by (ℕ_discrete x j) (λ k. copied_new ns d j x k (omega (arith, below)) (omega (arith, long)))
  where
    made : List ℕ
    made = copied ns d j

    entry : ℕ
    entry = get_or made (most_names * d + j) 0

    by : Dec (x ≡ j)
        → (x < j → get_or made (most_names * d + most_names + x) 0 ≡ get_or ns (most_names * d + x) 0)
        → get_or (set made (most_names * d + most_names + j) entry) (most_names * d + most_names + x) 0
        ≡ get_or ns (most_names * d + x) 0
    by (yes e) less =
        rw e
        (get_or-set_same made (most_names * d + most_names + j) entry 0
        (let k = copied_long ns d j in omega (arith, k, long))
        ∙ copied_old ns d j (most_names * d + j) (omega (arith, h, e, below)))
    by (no n) less =
        get_or-set_other made (most_names * d + most_names + j) (most_names * d + most_names + x) entry 0
        (λ q. n (omega (arith, q)))
        ∙ less (omega (arith, h, n))

-- the names of a level after one of them is bound
pub bound_names :
    (ns : List ℕ) (d : ℕ) (e : Env) (x l : ℕ) → x < most_names → d ≤ most_frames → length ns ≡ all_names
    → NamesAt ns d e → NamesAt (set ns (most_names * d + x) l) d (bind x l e)
bound_names ns d e x l small deep long at y h = by (ℕ_discrete y x)
  where
    by : Dec (y ≡ x) → get_or (set ns (most_names * d + x) l) (most_names * d + y) 0 ≡ cond (eqb y x) l (e y)
    by (yes p) =
        let g : get_or (set ns (most_names * d + x) l) (most_names * d + y) 0 ≡ l =
        rw p (get_or-set_same ns (most_names * d + x) l 0 (omega (arith, small, deep, long))) in
        g ∙ sym (ap (λ (b : Bool). cond b l (e y)) (eq-eqb y x p))
    by (no n) =
        get_or-set_other ns (most_names * d + x) (most_names * d + y) l 0 (λ q. n (omega (arith, q))) ∙ at y h
        ∙ sym (ap (λ (b : Bool). cond b l (e y)) (ne_eqb y x n))

-- the frames of a record whose names changed at and above level d alone
pub kept_frames :
    (kinds ns ms : List ℕ) (fs : List Frame) (d : ℕ) → length fs ≤ d
    → ((i : ℕ) → i < most_names * d → get_or ms i 0 ≡ get_or ns i 0) → FramesAt kinds ns fs → FramesAt kinds ms fs
kept_frames kinds ns ms [] d h same f = tt
kept_frames kinds ns ms (frame o e c ∷ fs) d h same f = (
  f.0,
  (λ x k. same (most_names * length fs + x) (omega (arith, h, k)) ∙ f.1 x k),
  kept_frames kinds ns ms fs d (omega (arith, h)) same f.2,
)

-- the frames of a record whose mark changed at d alone
pub kept_marks :
    (kinds ns : List ℕ) (fs : List Frame) (d k : ℕ) → length fs ≤ d → FramesAt kinds ns fs
    → FramesAt (set kinds d k) ns fs
kept_marks kinds ns [] d k h f = tt
kept_marks kinds ns (frame o e c ∷ fs) d k h f = (
  get_or-set_other kinds d (length fs) k 0 (λ q. omega (arith, h, q)) ∙ f.0,
  f.1,
  kept_marks kinds ns fs d k (omega (arith, h)) f.2,
)

-- the names of a new level are those of the level below
pub copied_names :
    (ns : List ℕ) (d : ℕ) (e : Env) → d < most_frames → length ns ≡ all_names → NamesAt ns d e
    → NamesAt (copied ns d most_names) (suc d) e
copied_names ns d e deep long at x h =
    let i : most_names * suc d + x ≡ most_names * d + most_names + x = omega arith in
    rw i (copied_new ns d most_names x h (omega arith) (omega (arith, deep, long)) ∙ at x h)

-- passing names keeps the length
pub passed_long : (ns : List ℕ) (d : ℕ) (s : List ℕ) (from k j : ℕ) → length (passed ns d s from k j) ≡ length ns
unfolding passed
passed_long ns d s from k zero = refl
passed_long ns d s from k (suc j) = length-set (passed ns d s from k j) _ _ ∙ passed_long ns d s from k j

-- and every entry up to that of name 0 of the level that is made
pub passed_old :
    (ns : List ℕ) (d : ℕ) (s : List ℕ) (from k j i : ℕ) → i ≤ most_names * d + most_names
    → get_or (passed ns d s from k j) i 0 ≡ get_or ns i 0
unfolding passed
passed_old ns d s from k zero i h = refl
passed_old ns d s from k (suc j) i h =
    get_or-set_other (passed ns d s from k j) (most_names * d + most_names + 1 + j) i _ 0 (λ q. omega (arith, h, q))
    ∙ passed_old ns d s from k j i h

-- parameter x + 1 has the entry of the name that the CALL gives it
pub passed_new :
    (ns : List ℕ) (d : ℕ) (s : List ℕ) (from k j x : ℕ) → x < j → most_names * d + most_names + 1 + j ≤ length ns
    → ((y : ℕ) → name_at s from k y < most_names)
    → get_or (passed ns d s from k j) (most_names * d + most_names + 1 + x) 0
    ≡ get_or ns (most_names * d + name_at s from k x) 0
unfolding passed
passed_new ns d s from k zero x h long named = absurd (omega (arith, h))
passed_new ns d s from k (suc j) x h long named =
    by (ℕ_discrete x j) (λ g. passed_new ns d s from k j x g (omega (arith, long)) named)
  where
    made : List ℕ
    made = passed ns d s from k j

    entry : ℕ
    entry = get_or made (most_names * d + name_at s from k j) 0

    by : Dec (x ≡ j)
        → (x < j → get_or made (most_names * d + most_names + 1 + x) 0 ≡ get_or ns (most_names * d + name_at s from k x) 0)
        → get_or (set made (most_names * d + most_names + 1 + j) entry) (most_names * d + most_names + 1 + x) 0
        ≡ get_or ns (most_names * d + name_at s from k x) 0
    by (yes e) less =
        rw e
        (get_or-set_same made (most_names * d + most_names + 1 + j) entry 0
        (let g = passed_long ns d s from k j in omega (arith, g, long))
        ∙ passed_old ns d s from k j (most_names * d + name_at s from k j) (let g = named j in omega (arith, g)))
    by (no n) less =
        get_or-set_other made (most_names * d + most_names + 1 + j) (most_names * d + most_names + 1 + x) entry 0
        (λ q. n (omega (arith, q)))
        ∙ less (omega (arith, h, n))

-- taking names keeps the length
pub taken_long : (ns from : List ℕ) (j : ℕ) → length (taken ns from j) ≡ length ns
unfolding taken
taken_long ns from zero = refl
taken_long ns from (suc j) = length-set (taken ns from j) _ _ ∙ taken_long ns from j

-- the entries taken
pub taken_new :
    (ns from : List ℕ) (j x : ℕ) → x < j → j ≤ length ns → get_or (taken ns from j) x 0 ≡ get_or from x 0
unfolding taken
taken_new ns from zero x h long = absurd (omega (arith, h))
taken_new ns from (suc j) x h long = by (ℕ_discrete x j) (λ g. taken_new ns from j x g (omega (arith, long)))
  where
    by : Dec (x ≡ j) → (x < j → get_or (taken ns from j) x 0 ≡ get_or from x 0)
        → get_or (set (taken ns from j) j (get_or from j 0)) x 0 ≡ get_or from x 0
    by (yes e) less =
        rw e
        (get_or-set_same (taken ns from j) j (get_or from j 0) 0 (let g = taken_long ns from j in omega (arith, g, long)))
    by (no n) less =
        get_or-set_other (taken ns from j) j x (get_or from j 0) 0 n ∙ less (omega (arith, h, n))

-- a level as a list has most_names entries
pub level_long : (ns : List ℕ) (d j : ℕ) → length (level ns d j) ≡ most_names
unfolding level
level_long ns d zero = refl
level_long ns d (suc j) = length-set (level ns d j) _ _ ∙ level_long ns d j

-- its entries
pub level_new :
    (ns : List ℕ) (d j x : ℕ) → x < j → j ≤ most_names → get_or (level ns d j) x 0 ≡ get_or ns (most_names * d + x) 0
unfolding level
level_new ns d zero x h few = absurd (omega (arith, h))
level_new ns d (suc j) x h few = by (ℕ_discrete x j) (λ g. level_new ns d j x g (omega (arith, few)))
  where
    by : Dec (x ≡ j) → (x < j → get_or (level ns d j) x 0 ≡ get_or ns (most_names * d + x) 0)
        → get_or (set (level ns d j) j (get_or ns (most_names * d + j) 0)) x 0 ≡ get_or ns (most_names * d + x) 0
    by (yes e) less =
        rw e
        (get_or-set_same (level ns d j) j (get_or ns (most_names * d + j) 0) 0
        (let g = level_long ns d j in omega (arith, g, few)))
    by (no n) less =
        get_or-set_other (level ns d j) j x (get_or ns (most_names * d + j) 0) 0 n ∙ less (omega (arith, h, n))
