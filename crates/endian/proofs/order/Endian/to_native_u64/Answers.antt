use Rattle.std.proofs.Common.{ap, arith, rules}
use Rattle.format.specs.Orders.{number}
use Rattle.endian.proofs.Spelled.{spelled}
use Rattle.endian.proofs.order.Endian.to_native_u64.Goals as goal

pub returns : goal.returns
returns g c = omega (arith, c.restore.ensures, ap number (spelled 8 c.restore.new.bytes (search rules)))
