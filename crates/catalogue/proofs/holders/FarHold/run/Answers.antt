use Rattle.catalogue.proofs.holders.FarHold.run.Goals as goal

pub returns : goal.returns
returns g c = rw (← c.in_ok-new.ensures.told, ← c.in_ok-new.ensures.item) c.run.ensures
