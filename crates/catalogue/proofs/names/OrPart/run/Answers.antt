use Rattle.naming.specs.Senses.{meant}
use Rattle.catalogue.proofs.UsedLaws.{sense_either, used_first, used_second}
use Rattle.catalogue.proofs.names.OrPart.run.Goals as goal

pub returns-in-Ok : goal.returns-in-Ok
returns-in-Ok g c =
    rw (sense_either (λ f. g.H.Hold.holds g.E.Endian.order (meant g.E.Endian.order f)) g.P.Part.forms g.Q.Part.forms c.args.name.now)
    (used_first g.U.Use.tells (λ f. g.H.Hold.holds g.E.Endian.order (meant g.E.Endian.order f)) _ _ _ _ _ (λ e. cc) c.in-Ok.ensures)

pub returns-in-Err-Refused : goal.returns-in-Err-Refused
returns-in-Err-Refused g c =
    rw (sense_either (λ f. g.H.Hold.holds g.E.Endian.order (meant g.E.Endian.order f)) g.P.Part.forms g.Q.Part.forms c.args.name.now)
    (used_first g.U.Use.tells (λ f. g.H.Hold.holds g.E.Endian.order (meant g.E.Endian.order f)) _ _ _ _ _ (λ e. cc) (rw c.in-Err-Refused.field-0-is at c.in-Err-Refused.ensures))

pub returns-in-Err-NoKind : goal.returns-in-Err-NoKind
returns-in-Err-NoKind g c =
    rw (sense_either (λ f. g.H.Hold.holds g.E.Endian.order (meant g.E.Endian.order f)) g.P.Part.forms g.Q.Part.forms c.args.name.now)
    (used_second g.U.Use.tells (λ f. g.H.Hold.holds g.E.Endian.order (meant g.E.Endian.order f)) _ _ _ _ _ _ (rw c.in-Err-NoKind.field-0-is at c.in-Err-NoKind.ensures) c.run-in-Err-NoKind.ensures)
