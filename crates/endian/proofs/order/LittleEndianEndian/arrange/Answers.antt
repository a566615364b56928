use Rattle.std.proofs.Common.{sym}
use Rattle.format.proofs.ByteLists.{typed_bytes}
use Rattle.format.proofs.OrderLaws.{low_first-number}
use Rattle.endian.proofs.order.LittleEndianEndian.arrange.Goals as goal

pub returns : goal.returns
returns c = sym (low_first-number c.args.bytes.now (typed_bytes c.args.bytes.now c.type_inv.bytes))
