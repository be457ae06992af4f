-- How threads stand, looked at one more.
use Rattle.std.proofs.Common.{◌≡◌, refl, ℕ, suc, ◌+◌, arith}
use Rattle.steps.specs.declared.machine.Ending.{Ending}
use Rattle.steps.specs.declared.machine.Ending.TheVariants.{Ended}
use Rattle.std.proofs.Common.{◌<◌, length, take, get_or}
use Rattle.std.proofs.lemmas.List.{length-take, get_or-take}
use Rattle.steps.specs.declared.machine.Want.TheVariants.{Free}
use Rattle.steps.specs.declared.machine.Machine.{Machine}
use Rattle.steps.specs.Machines.{join_at, view}

pub view_none : (m : Machine) → Ended ≡ view m 0
unfolding view
view_none m = refl

pub view_next : (m : Machine) (t : ℕ) (v : Ending) → v ≡ view m t → join_at m t v ≡ view m (t + 1)
unfolding view
view_next m t v e = let h : t + 1 ≡ suc t = omega arith in rw (h, e) refl

-- what a started thread wants, among what the started threads want
pub want_in :
    (m : Machine) (t : ℕ) → t < length (take m.threads m.wants)
    → (t < m.threads) × (get_or (take m.threads m.wants) t Free ≡ get_or m.wants t Free)
want_in m t h =
    let e = length-take m.threads m.wants in
    let l : t < m.threads = omega (arith, e, h) in
    (l, get_or-take m.threads m.wants t Free l)
