use Rattle.rows.proofs.CopyLeft.{copy_none, copy_item, copy_more, copy_all}
use Rattle.rows.proofs.Row.copy.Goals as goal

pub loop-index-init : goal.loop-index-init
loop-index-init g c = copy_none (g.K.Kind.meaning c.args.self.now.item.now) c.args.self.now.count c.args.archive.now c.args.at c.args.out.now c.args.to c.requires

pub copy-end-requires : goal.copy-end-requires
copy-end-requires g c = copy_item c.loop-index.invariant c.loop-index-test.true c.place-place.result c.place-place.ensures (g.met.K.Kind.lawful c.args.self.now.item.now).keeps c.requires

pub loop-index-preserved : goal.loop-index-preserved
loop-index-preserved g c =
    copy_more c.loop-index.invariant c.loop-index-test.true c.place-place.result c.place-place.ensures c.copy-end.new.out c.copy-end.result c.copy-end.ensures c.copy-end.auto.out

pub returns : goal.returns
returns g c = copy_all c.loop-index.invariant c.loop-index-test.false
