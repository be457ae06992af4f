-- `put_number` meets its contract: a space, and then the number.
use Rattle.std.proofs.Common.{arith}
use Rattle.append.specs.Laws.Putting.{then}
use Rattle.listing.proofs.DecimalLaws.{three_digits}
use Rattle.listing.proofs.text.put_number.Goals as goal

pub returns-clause-appends : goal.returns-clause-appends
returns-clause-appends c = then c.put_byte.ensures c.put_decimal.ensures

pub returns-clause-few : goal.returns-clause-few
returns-clause-few c =
    omega (
      arith,
      three_digits c.args.n (omega arith),
      c.put_byte.ensures.appends.place,
      c.put_decimal.ensures.appends.place,
    )
