use Rattle.std.proofs.Common.{sym}
use Rattle.std.proofs.lemmas.Result.{err_from_is_err_and}
use Rattle.rows.proofs.ScanLeft.{scan_left_more, scan_left_bad, scan_all}
use Rattle.rows.proofs.Row.scan.Goals as goal

pub returns-in_err-end : goal.returns-in_err-end
returns-in_err-end g c =
    let p = err_from_is_err_and c.from_residual.result c.from_residual.ensures.1 in
    rw (p.1, p.2) (record { told = sym (scan_left_bad c.loop.invariant c.loop-test.true _ (sym c.in_err-end.ensures.told)); within = tt })

pub loop-preserved : goal.loop-preserved
loop-preserved g c =
    let e = c.in_ok-end.ensures in
    scan_left_more c.loop.invariant c.loop-test.true c.in_ok-end.end (sym e.told) e.within.0 e.within.1

pub returns : goal.returns
returns g c = record { told = sym (scan_all c.loop.invariant c.loop-test.false); within = (c.loop.invariant.onward, c.loop.invariant.within) }
