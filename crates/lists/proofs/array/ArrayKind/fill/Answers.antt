use Rattle.std.proofs.Common.{ap, ◌∙◌}
use Rattle.kind.specs.Asked.{filled}
use Rattle.lists.proofs.ArrayCalls.{array-next, array_fillable, array-laid}
use Rattle.lists.proofs.array.ArrayKind.fill.Goals as goal

pub fill-requires : goal.fill-requires
fill-requires g c = array_fillable c.args.self.now.items.count.value (g.K.Kind.meaning c.args.self.now.items.item) c.args.sheet.now c.args.at.now c.args.out.now c.args.head c.args.tail c.requires

pub returns : goal.returns
returns g c =
    let laid = array-laid c.args.self.now.items.count.value (g.K.Kind.meaning c.args.self.now.items.item) c.args.sheet.now c.args.at.now c.requires.next c.args.head c.args.tail c.requires.found in
    record {
      bytes = c.fill.ensures.bytes ∙ ap (filled c.args.out.now c.args.head c.args.tail) laid;
      end = c.fill.ensures.end ∙ ap (λ x. x.end) laid;
      next = array-next c.args.self.now.items.count.value (g.K.Kind.meaning c.args.self.now.items.item) c.args.sheet.now c.args.at.now c.requires.next c.fill.new.at c.requires.found c.fill.ensures.next;
    }
