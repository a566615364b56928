use Rattle.std.proofs.Common.{◌≡◌, rules, codes, refl}
use Rattle.std.specs.Cmp.Lexicographic.{same_text}
use Rattle.naming.specs.Forms.{vast, named_among}
use Rattle.catalogue.proofs.UsedLaws.{used_inline_array}
use Rattle.catalogue.proofs.names.StoppingPart.run.Goals as goal

pub returns-in_ok-new : goal.returns-in_ok-new
returns-in_ok-new g c =
    let named : c.args.name.now ≡ codes "r32767.i65535." = same_text _ _ (search rules) in
    used_inline_array g.U.Use.tells (g.H.Hold.holds g.E.Endian.order) g.E.Endian.order (named_among vast c.args.name.now) 32767 65535 c.in_ok-new.field-0.capacity.value c.args.purpose.now c.run-then-is-6.result c.run-then-is-6.new.purpose
    (rw named refl) c.in_ok-new.ensures c.run-then-is-6.ensures
