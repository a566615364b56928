use Rattle.std.proofs.Common.{◌-◌, ◌+◌, arith}
use Rattle.texts.proofs.Facts.{number_then}
use Rattle.texts.proofs.zero_str.put_head.Goals as goal

pub returns : goal.returns
returns g c =
    number_then g.E.Endian.order g.met.E.Endian.undoes c.args.out.now c.lay.new.out c.lead.new.out (g.E.Endian.order.lay 4 (c.args.tail - (c.args.head + 4))) c.args.head c.args.count c.requires.small (omega arith) c.lay.ensures.bytes c.lead.ensures
