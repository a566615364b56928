use Rattle.std.proofs.Common.{ap}
use Rattle.std.proofs.Common.{◌++◌, ◌∙◌}
use Rattle.naming.specs.Forms.{pointer, array, far_array, slice, leaves, held, named_among}
use Rattle.naming.specs.Senses.{meant}
use Rattle.naming.proofs.Naming.{named_pointer, named_array, named_far_array, named_slice, named_leaf}
use Rattle.catalogue.proofs.UsedLaws.{used_behind}
use Rattle.catalogue.proofs.names.LayerPart.run.Goals as goal

pub returns-in-Some-Pointer-default : goal.returns-in-Some-Pointer-default
returns-in-Some-Pointer-default g c =
    let fs = g.P.Part.forms in
    let here = c.in-Some-Pointer-default in
    used_behind g.U.Use.tells (λ f. g.H.Hold.holds g.E.Endian.order (meant g.E.Endian.order f)) pointer _ (named_among fs here.rest.now) _ _ _
    (ap (named_among (leaves ++ held fs)) (rw here.field-0-0-is at here.ensures) ∙ named_pointer fs here.rest.now) c.run.ensures

pub returns-in-Some-Array-default : goal.returns-in-Some-Array-default
returns-in-Some-Array-default g c =
    let fs = g.P.Part.forms in
    let here = c.in-Some-Array-default in
    used_behind g.U.Use.tells (λ f. g.H.Hold.holds g.E.Endian.order (meant g.E.Endian.order f)) (array 2) _ (named_among fs here.rest.now) _ _ _
    (ap (named_among (leaves ++ held fs)) (rw here.field-0-0-is at here.ensures) ∙ named_array fs here.rest.now) c.run-in-Some-Array-default.ensures

pub returns-in-Some-Far-default : goal.returns-in-Some-Far-default
returns-in-Some-Far-default g c =
    let fs = g.P.Part.forms in
    let here = c.in-Some-Far-default in
    used_behind g.U.Use.tells (λ f. g.H.Hold.holds g.E.Endian.order (meant g.E.Endian.order f)) (far_array 3) _ (named_among fs here.rest.now) _ _ _
    (ap (named_among (leaves ++ held fs)) (rw here.field-0-0-is at here.ensures) ∙ named_far_array fs here.rest.now) c.run-in-Some-Far-default.ensures

pub returns-in-Some-Slice-default : goal.returns-in-Some-Slice-default
returns-in-Some-Slice-default g c =
    let fs = g.P.Part.forms in
    let here = c.in-Some-Slice-default in
    used_behind g.U.Use.tells (λ f. g.H.Hold.holds g.E.Endian.order (meant g.E.Endian.order f)) slice _ (named_among fs here.rest.now) _ _ _
    (ap (named_among (leaves ++ held fs)) (rw here.field-0-0-is at here.ensures) ∙ named_slice fs here.rest.now) c.run-in-Some-Slice-default.ensures

pub returns-in-None : goal.returns-in-None
returns-in-None g c =
    let fs = g.P.Part.forms in
    rw (named_leaf fs c.args.name.now c.in-None.ensures) c.run-in-None.ensures
