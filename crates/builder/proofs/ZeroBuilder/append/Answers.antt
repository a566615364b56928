use Rattle.std.proofs.Common.{◌+◌, ◌≤◌, leb, sym, ap, ◌∙◌, subst, arith}
use Rattle.format.specs.Answers.{good, fault, unless}
use Rattle.format.proofs.BuildLaws.{appended-good}
use Rattle.builder.specs.Additions.{bytes_of}
use Rattle.builder.specs.Model.{model}
use Rattle.builder.proofs.ZeroBuilder.append.Goals as goal

pub returns : goal.returns
returns c =
    let p = c.in_ok-place.place in
    let b = model c.args.self.now in
    let n = c.count-count.result in
    let fits = ap (λ z. unless (leb (z + n) b.room) (fault 4 0) (good z)) (sym c.next.ensures.place) ∙ sym c.in_ok-place.ensures.told in
    let low = subst (λ z. b.used ≤ z) (sym c.in_ok-place.ensures.within.0) c.next.ensures.low in
    ap (λ z. record { answer = good p; builder = z; buffer = c.put.new.buffer }) c.grow.ensures.builder ∙
    sym (appended-good b c.args.buffer.now c.args.alignment.bytes (bytes_of c.args.addition) n (sym c.count-count.ensures) p c.larger-align.result.bytes c.grow.new.buffer c.put.new.buffer fits low (omega arith) c.larger-align.ensures c.grow.ensures.bytes c.put.ensures)
