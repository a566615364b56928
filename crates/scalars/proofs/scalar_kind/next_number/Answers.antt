use Rattle.std.proofs.Common.{◌≡◌, ◌+◌, sym, ap, ◌∙◌, arith}
use Rattle.format.specs.Answers.{good}
use Rattle.format.proofs.FoundLaws.{found}
use Rattle.scalars.proofs.scalar_kind.next_number.Goals as goal

pub returns : goal.returns
returns g c =
    let f = found g.S.Scalar.MARK g.S.Width.Primitive.SIZE g.S.Scalar.passes c.args.sheet.now c.args.at.now c.requires.0 c.requires.1 in
    let end : c.requires.0 ≡ c.args.at.now + 2 + c.SIZE.result = let n = f.next in let w = c.SIZE.ensures in omega arith in
    record {
      value = c.take_back-n.ensures.value ∙ sym f.value;
      next = c.requires.1 ∙ ap good end;
    }
