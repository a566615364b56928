use Rattle.std.proofs.Common.{◌+◌, arith, sym, ap}
use Rattle.holding.proofs.Through.{leads, led_copied}
use Rattle.links.proofs.link.LinkKind.copy.Goals as goal

pub led-requires : goal.led-requires
led-requires g c = (c.requires.seated.within, (c.requires.seated.capped, leads g.M.Mark.MARK (g.K.Kind.meaning c.args.self.now.item) g.E.Endian.order c.args.archive.now c.args.at c.requires.sheet c.requires.read))

pub returns : goal.returns
returns g c s h =
    led_copied g.M.Mark.MARK (g.K.Kind.meaning c.args.self.now.item) g.E.Endian.order c.args.archive.now c.args.at s h c.led.result c.led.ensures
    c.args.out.now c.put_at.new.out c.copy.new.out c.args.to (c.args.to + 2) c.copy.result (omega (arith, c.requires.room)) (cc) (ap (λ z. c.args.to + z) (sym g.M.Mark.two)) c.copy.ensures
