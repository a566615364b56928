use Rattle.std.proofs.Common.{rules, length, sym, ◌∙◌, arith}
use Rattle.std.proofs.lemmas.List.{take_all}
use Rattle.format.proofs.CutLaws.{cut_fits}
use Rattle.texts.proofs.Cuts.{cut_on, cut_at}
use Rattle.texts.proofs.cut.cut_length.Goals as goal

pub returns-then-bytes-capacity : goal.returns-then-bytes-capacity
returns-then-bytes-capacity c =
    let bs = c.args.bytes.now in
    let r = cut_at bs c.args.capacity (length bs) (omega arith) (take_all (length bs) bs (omega arith) ∙ sym (cut_fits c.args.capacity bs c.if-bytes-capacity.true)) in
    record { long = r.long; front = r.front; within = r.within }

pub loop-end-preserved : goal.loop-end-preserved
loop-end-preserved c =
    let inside = c.loop-end.invariant.0 in
    (omega arith, cut_on c.args.bytes.now c.loop-end.end (search rules) inside (search rules) ∙ c.loop-end.invariant.1)
