use Rattle.std.proofs.Common.{ap, ◌∙◌}
use Rattle.format.specs.Answers.{good}
use Rattle.format.proofs.ByteLists.{typed_bytes}
use Rattle.builder.specs.Model.{model, planned}
use Rattle.builder.proofs.Facts.{sound}
use Rattle.builder.proofs.Commits.{growable, fillable, committed}
use Rattle.builder.proofs.ZeroBuilder.commit.Goals as goal

pub grow-requires : goal.grow-requires
grow-requires g c =
    let m = g.K.Kind.meaning c.args.kind.now in
    let v = c.args.sheet.now in
    let b = model c.args.self.now in
    growable m v b (planned b m v c.args.plan) (g.met.K.Kind.lawful c.args.kind.now) (sound c.args.self.now) (typed_bytes v c.type_inv.sheet) c.requires.planned c.args.buffer.now c.requires.own

pub lay-requires : goal.lay-requires
lay-requires g c =
    let m = g.K.Kind.meaning c.args.kind.now in
    let v = c.args.sheet.now in
    let b = model c.args.self.now in
    fillable m v b (planned b m v c.args.plan) (g.met.K.Kind.lawful c.args.kind.now) (sound c.args.self.now) (typed_bytes v c.type_inv.sheet) c.requires.planned c.args.buffer.now c.requires.own c.size.result c.size.ensures c.grow.new.buffer c.grow.auto.buffer

pub returns : goal.returns
returns g c =
    let m = g.K.Kind.meaning c.args.kind.now in
    let v = c.args.sheet.now in
    let b = model c.args.self.now in
    ap (λ z. record { answer = good c.args.plan.place; builder = z; buffer = c.lay.new.buffer }) c.grow.ensures.builder ∙
    committed m v b (planned b m v c.args.plan) (g.met.K.Kind.lawful c.args.kind.now) (sound c.args.self.now) (typed_bytes v c.type_inv.sheet) c.requires.planned c.args.buffer.now c.requires.own c.size.result c.size.ensures c.grow.new.buffer c.grow.auto.buffer c.lay.new.buffer c.grow.ensures.bytes c.lay.ensures
