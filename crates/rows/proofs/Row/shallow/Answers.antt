use Rattle.std.proofs.Common.{◌≡◌, sym, ap, ◌∙◌, arith}
use Rattle.std.proofs.lemmas.Result.{err_from_is_err_and}
use Rattle.rows.proofs.ReadLeft.{head, head-seated, shallow-more, shallow-bad, shallow_all}
use Rattle.rows.proofs.Row.shallow.Goals as goal

pub shallow-requires : goal.shallow-requires
shallow-requires g c =
    head-seated (g.K.Kind.meaning c.args.self.now.item.now) c.args.self.now.count c.requires (g.met.K.Kind.lawful c.args.self.now.item.now).keeps c.loop-index.index c.place.result c.loop-index-test.true c.place.ensures

pub returns-in_err-shallow : goal.returns-in_err-shallow
returns-in_err-shallow g c =
    let p = err_from_is_err_and c.from_residual.result c.from_residual.ensures.1 in
    rw (p.1, p.2) (sym (shallow-bad c.loop-index.invariant c.loop-index-test.true c.place.result c.place.ensures _ (sym c.in_err-shallow.ensures)))

pub loop-index-preserved : goal.loop-index-preserved
loop-index-preserved g c = shallow-more c.loop-index.invariant c.loop-index-test.true c.place.result c.place.ensures c.in_ok-shallow.field-0 (sym c.in_ok-shallow.ensures)

pub returns : goal.returns
returns g c =
    let all = c.loop-index.auto.index-end in
    let last : c.args.self.now.count ≡ c.loop-index.index = let past = c.loop-index-test.false in omega arith in
    sym (shallow_all c.loop-index.invariant c.loop-index-test.false c.place-2.result (c.place-2.ensures ∙ ap (head (g.K.Kind.meaning c.args.self.now.item.now) c.args.at) last))
