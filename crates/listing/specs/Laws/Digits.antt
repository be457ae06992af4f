-- The numbers of a share that the analysis answers have few digits.
use Rattle.std.specs.Prelude.{◌≡◌, ◌≤◌, ◌<◌}
use Rattle.analysis.specs.declared.Share.{Share}

-- at most 100 percent, and then nothing is left over; the two other numbers have two digits at most
pub record FewDigits (share : Share) : Type 0 where
  pub percent_few : share.percent ≤ 100
  pub whole_exact : share.percent ≡ 100 → share.remainder ≡ 0
  pub remainder_few : share.remainder < 100
  pub reached_few : share.reached < 100
