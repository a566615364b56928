use Rattle.std.proofs.Common.{arith}
use Rattle.std.proofs.lemmas.List.{length-take}
use Rattle.texts.proofs.Facts.{length-behind, found}
use Rattle.texts.proofs.sheet_text.next_text.Goals as goal

pub slice_bounds-result-end : goal.slice_bounds-result-end
slice_bounds-result-end c = omega (arith, (length-behind c.args.sheet.now c.args.at.now c.take_back-length.result c.requires c.take_back-length.ensures.value).1)

pub returns : goal.returns
returns c =
    let s = c.args.sheet.now in
    let p = c.args.at.now in
    let n = c.take_back-length.result in
    record {
      found = λ mark next h. found mark s p next n h (length-behind s p n c.requires c.take_back-length.ensures.value).0;
      small = simp length-take (omega arith);
    }
