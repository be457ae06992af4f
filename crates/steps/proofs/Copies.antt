-- What std's copies leave is what copying one name after another does.
use Rattle.std.specs.Prelude.{◌≡◌, List, ℕ, zero, suc, ◌+◌, ◌*◌, ◌-◌, ◌<◌, ◌≤◌, length, get_or, set, take, drop, ◌++◌, replicate}
use Rattle.std.specs.List.{copy_within}
use Rattle.std.proofs.Common.{sym, ◌∙◌, ap, arith, length-append, length-drop}
use Rattle.std.proofs.Math.ListN.{get_or-append}
use Rattle.std.proofs.Math.Seq.{paste, paste-zero, paste-suc}
use Rattle.std.proofs.lemmas.List.{length-take-le, get_or-take, get_or-drop, append-nil, drop-replicate, length-replicate}
use Rattle.std.proofs.lemmas.List.Edits.{paste_all}
use Rattle.table.specs.Constants.{most_names}
use Rattle.schedule.specs.Limits.{most_frames, all_names}
use Rattle.steps.specs.Records.{copied, taken, level}

-- an entry before what is pasted
before_paste : (d s : List ℕ) (to n i : ℕ) → i < to → to ≤ length d → get_or (paste d to s n) i 0 ≡ get_or d i 0
before_paste d s to n i h long =
    let front = take to d in
    let mid = take n s in
    let a : length front ≡ to = length-take-le to d long in
    get_or-append (front ++ mid) (drop (to + n) d) 0 i (let b = length-append front mid in omega (arith, a, b, h))
    ∙ get_or-append front mid 0 i (omega (arith, a, h))
    ∙ get_or-take to d i 0 h

copied_part : (ns : List ℕ) (d j : ℕ) → j ≤ most_names → most_names * d + most_names + j ≤ length ns
    → copied ns d j ≡ paste ns (most_names * d + most_names) (drop (most_names * d) ns) j
unfolding copied
copied_part ns d zero few long = paste-zero ns (most_names * d + most_names) (drop (most_names * d) ns)
copied_part ns d (suc j) few long =
    ap (λ (xs : List ℕ). set xs (most_names * d + most_names + j) (get_or xs (most_names * d + j) 0))
    (copied_part ns d j (omega (arith, few)) (omega (arith, long)))
    ∙ ap (λ (l : ℕ). set (paste ns (most_names * d + most_names) (drop (most_names * d) ns) j)
    (most_names * d + most_names + j) l)
    (before_paste ns (drop (most_names * d) ns) (most_names * d + most_names) j (most_names * d + j)
    (omega (arith, few)) (omega (arith, long))
    ∙ sym (get_or-drop (most_names * d) ns j 0))
    ∙ paste-suc ns (most_names * d + most_names) (drop (most_names * d) ns) j 0 (omega (arith, long))
    (let g = length-drop (most_names * d) ns in omega (arith, g, long))

-- the names of a level, copied to the level above
pub copied_is : (ns : List ℕ) (d : ℕ) → d < most_frames → length ns ≡ all_names
    → copy_within ns (most_names * d) (most_names * d + most_names) (most_names * d + most_names)
    ≡ copied ns d most_names
copied_is ns d room long =
    let e : most_names * d + most_names - most_names * d ≡ most_names = omega arith in
    ap (λ (n : ℕ). paste ns (most_names * d + most_names) (drop (most_names * d) ns) n) e
    ∙ sym (copied_part ns d most_names (omega arith) (omega (arith, room, long)))

taken_part : (ns given : List ℕ) (j : ℕ) → j ≤ length ns → j ≤ length given → taken ns given j ≡ paste ns 0 given j
unfolding taken
taken_part ns given zero h l = paste-zero ns 0 given
taken_part ns given (suc j) h l =
    let z : 0 + j ≡ j = omega arith in
    ap (λ (xs : List ℕ). set xs j (get_or given j 0)) (taken_part ns given j (omega (arith, h)) (omega (arith, l)))
    ∙ ap (λ (i : ℕ). set (paste ns 0 given j) i (get_or given j 0)) (sym z)
    ∙ paste-suc ns 0 given j 0 (omega (arith, h)) (omega (arith, l))

-- level 0 with the names given
pub taken_is : (ns given : List ℕ) → length given ≡ most_names → length ns ≡ all_names
    → given ++ drop most_names ns ≡ taken ns given most_names
taken_is ns given few long =
    sym (paste_all ns 0 given most_names (sym few))
    ∙ sym (taken_part ns given most_names (omega (arith, long)) (omega (arith, few)))

level_part : (ns : List ℕ) (d j : ℕ) → j ≤ most_names → most_names * d + j ≤ length ns
    → level ns d j ≡ paste (replicate most_names 0) 0 (drop (most_names * d) ns) j
unfolding level
level_part ns d zero few long = paste-zero (replicate most_names 0) 0 (drop (most_names * d) ns)
level_part ns d (suc j) few long =
    let z : 0 + j ≡ j = omega arith in
    ap (λ (xs : List ℕ). set xs j (get_or ns (most_names * d + j) 0))
    (level_part ns d j (omega (arith, few)) (omega (arith, long)))
    ∙ ap (λ (l : ℕ). set (paste (replicate most_names 0) 0 (drop (most_names * d) ns) j) j l)
    (sym (get_or-drop (most_names * d) ns j 0))
    ∙ ap (λ (i : ℕ). set (paste (replicate most_names 0) 0 (drop (most_names * d) ns) j) i
    (get_or (drop (most_names * d) ns) j 0)) (sym z)
    ∙ paste-suc (replicate most_names 0) 0 (drop (most_names * d) ns) j 0
    (let k = length-replicate {A = ℕ} most_names 0 in omega (arith, few, k))
    (let g = length-drop (most_names * d) ns in omega (arith, g, long))

-- the names of a level, as a list
pub level_is : (ns : List ℕ) (d : ℕ) → d ≤ most_frames → length ns ≡ all_names
    → take most_names (drop (most_names * d) ns) ≡ level ns d most_names
level_is ns d deep long =
    sym (append-nil (take most_names (drop (most_names * d) ns)))
    ∙ ap (λ (l : List ℕ). take most_names (drop (most_names * d) ns) ++ l) (sym (drop-replicate most_names most_names 0))
    ∙ sym (level_part ns d most_names (omega arith) (omega (arith, deep, long)))
