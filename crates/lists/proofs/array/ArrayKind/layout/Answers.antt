use Rattle.lists.proofs.ArrayCalls.{array-next, array_askable, array_foretold}
use Rattle.lists.proofs.array.ArrayKind.layout.Goals as goal

pub layout-requires : goal.layout-requires
layout-requires g c = array_askable c.args.self.now.items.count.value (g.K.Kind.meaning c.args.self.now.items.item) c.args.sheet.now c.args.at.now c.args.tail c.requires

pub returns : goal.returns
returns g c = record {
  foretold = array_foretold c.args.self.now.items.count.value (g.K.Kind.meaning c.args.self.now.items.item) c.args.sheet.now c.args.at.now c.requires.next c.args.tail c.layout.result.0 c.layout.result.1 c.requires.found c.layout.ensures.foretold;
  next = array-next c.args.self.now.items.count.value (g.K.Kind.meaning c.args.self.now.items.item) c.args.sheet.now c.args.at.now c.requires.next c.layout.new.at c.requires.found c.layout.ensures.next;
}
