use Rattle.std.proofs.Common.{◌≡◌, length, subst, sym, rules}
use Rattle.format.specs.Orders.{Width}
use Rattle.format.proofs.OrderLaws.{width_4}
use Rattle.endian.proofs.order.Endian.to_native_u32.Goals as goal

pub restore-requires : goal.restore-requires
restore-requires g c = let e : length c.args.bytes ≡ 4 = search rules in subst Width (sym e) width_4
