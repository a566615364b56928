use Rattle.std.proofs.Common.{sym, ap, ◌∙◌}
use Rattle.format.specs.Answers.{good}
use Rattle.std.proofs.lemmas.Result.{err_from_is_err_and}
use Rattle.rows.proofs.ReadLeft.{head-seated, deep_more, deep-bad, deep_all, deep_always}
use Rattle.rows.proofs.Row.deep.Goals as goal

pub returns-in-Some : goal.returns-in-Some
returns-in-Some g c =
    ap good c.saturating_mul.ensures ∙ sym (deep_always (g.K.Kind.meaning c.args.self.now.item.now) c.in-Some.length c.in-Some.ensures c.args.self.now.count c.args.archive.now c.args.at)

pub deep-requires : goal.deep-requires
deep-requires g c =
    head-seated (g.K.Kind.meaning c.args.self.now.item.now) c.args.self.now.count c.requires (g.met.K.Kind.lawful c.args.self.now.item.now).keeps c.loop-index.index c.place.result c.loop-index-test.true c.place.ensures

pub returns-in_err-length : goal.returns-in_err-length
returns-in_err-length g c =
    let p = err_from_is_err_and c.from_residual.result c.from_residual.ensures.1 in
    rw (p.1, p.2) (sym (deep-bad c.loop-index.invariant c.loop-index-test.true c.place.result c.place.ensures _ (sym c.in_err-length.ensures)))

pub loop-index-preserved : goal.loop-index-preserved
loop-index-preserved g c =
    deep_more c.loop-index.invariant c.loop-index-test.true c.place.result c.place.ensures c.in_ok-length.length c.saturating_add-total.result (sym c.in_ok-length.ensures) c.saturating_add-total.ensures

pub returns : goal.returns
returns g c = sym (deep_all c.loop-index.invariant c.loop-index-test.false)
