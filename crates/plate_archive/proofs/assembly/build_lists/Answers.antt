use Rattle.std.proofs.Common.{ap, ◌∙◌}
use Rattle.std.proofs.lemmas.Result.{err_from_is_err_and}
use Rattle.refusal.specs.Told.{fault_of}
use Rattle.builder.specs.Model.{model}
use Rattle.plate_archive.specs.declared.roots.Which.TheVariants.{Numbers, Casts, Parts}
use Rattle.plate_archive.specs.Assembly.{build}
use Rattle.plate_archive.specs.Told.{sheets_of}
use Rattle.plate_archive.proofs.AssemblyLaws.{casts_refused, parts_refused, lists_built}
use Rattle.plate_archive.proofs.assembly.build_lists.Goals as goal

pub returns-in_err-build-2 : goal.returns-in_err-build-2
returns-in_err-build-2 c =
    let p = err_from_is_err_and c.from_residual-in_err-build-2.result c.from_residual-in_err-build-2.ensures.1 in
    let b = model c.args.builder.now in
    let s = c.args.buffer.now in
    rw (p.1, p.2)
    (casts_refused (sheets_of c.args.sheets.now) b s
    c.in_ok-build.field-0 (model c.build.new.builder) c.build.new.buffer (c.in_ok-build.ensures ∙ ap (λ v. build Numbers v b s) c.as_slice.ensures.value)
    (model c.build-2.new.builder) c.build-2.new.buffer (fault_of c.in_err-build-2.field-0.0)
    (c.in_err-build-2.ensures ∙ ap (λ v. build Casts v (model c.build.new.builder) c.build.new.buffer) c.as_slice-2.ensures.value))

pub returns-in_err-build-3 : goal.returns-in_err-build-3
returns-in_err-build-3 c =
    let p = err_from_is_err_and c.from_residual-in_err-build-3.result c.from_residual-in_err-build-3.ensures.1 in
    let b = model c.args.builder.now in
    let s = c.args.buffer.now in
    rw (p.1, p.2)
    (parts_refused (sheets_of c.args.sheets.now) b s
    c.in_ok-build.field-0 (model c.build.new.builder) c.build.new.buffer (c.in_ok-build.ensures ∙ ap (λ v. build Numbers v b s) c.as_slice.ensures.value)
    c.in_ok-build-2.field-0 (model c.build-2.new.builder) c.build-2.new.buffer (c.in_ok-build-2.ensures ∙ ap (λ v. build Casts v (model c.build.new.builder) c.build.new.buffer) c.as_slice-2.ensures.value)
    (model c.build-3.new.builder) c.build-3.new.buffer (fault_of c.in_err-build-3.field-0.0)
    (c.in_err-build-3.ensures ∙ ap (λ v. build Parts v (model c.build-2.new.builder) c.build-2.new.buffer) c.as_slice-3.ensures.value))

pub returns : goal.returns
returns c =
    let b = model c.args.builder.now in
    let s = c.args.buffer.now in
    lists_built (sheets_of c.args.sheets.now) b s
    c.in_ok-build.field-0 (model c.build.new.builder) c.build.new.buffer (c.in_ok-build.ensures ∙ ap (λ v. build Numbers v b s) c.as_slice.ensures.value)
    c.in_ok-build-2.field-0 (model c.build-2.new.builder) c.build-2.new.buffer (c.in_ok-build-2.ensures ∙ ap (λ v. build Casts v (model c.build.new.builder) c.build.new.buffer) c.as_slice-2.ensures.value)
    (model c.build-3.new.builder) c.build-3.new.buffer c.in_ok-build-3.field-0
    (c.in_ok-build-3.ensures ∙ ap (λ v. build Parts v (model c.build-2.new.builder) c.build-2.new.buffer) c.as_slice-3.ensures.value)
