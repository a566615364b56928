use Rattle.std.proofs.Common.{arith}
use Rattle.texts.proofs.Facts.{put-sheet, sheet-length}
use Rattle.texts.proofs.sheet_text.put_text.Goals as goal

pub returns : goal.returns
returns c =
    let l = sheet-length c.args.mark.now c.args.bytes.now c.told-mark in
    record {
      bytes = put-sheet c.args.out.now c.put_at.new.out c.lay.new.out c.put_at-2.new.out c.args.mark.now c.args.bytes.now c.args.to c.told-mark (omega arith) c.put_at.ensures c.lay.ensures.bytes c.put_at-2.ensures;
      end = omega arith;
    }
