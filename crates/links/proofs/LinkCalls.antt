-- What a mark and a distance hold, in a sheet. Assumes nothing.
use Rattle.std.proofs.Common.{◌≡◌, ℕ, ◌+◌, ◌-◌, List, length, refl, ap}
use Rattle.format.specs.Places.{up, Bytes}
use Rattle.format.specs.Orders.{Order, Undoes}
use Rattle.format.specs.Meaning.{Meaning, Laws}
use Rattle.format.specs.Links.{far, link}
use Rattle.format.proofs.LinkLaws.{link_laws}
use Rattle.holding.proofs.Fronts.{held-there, held-found}
use Rattle.holding.proofs.FarCalls.{HeldFar}

pub link_holds :
    (mark : List ℕ) → Bytes mark → length mark ≡ 2 → {m : Meaning} {o : Order} → Laws m → Undoes o → (s : List ℕ) (p : ℕ) → Bytes s → HeldFar (link mark m o) m s p (p + 2) (λ h q. o.lay 4 (q - h))
link_holds mark letters two {m} {o} law undoes s p bytes = record {
  holder = (link_laws mark m o letters two law.keeps undoes).keeps;
  keeps = law.keeps;
  bytes = bytes;
  found = held-found mark 0 m m refl s p;
  laid = λ n h t f. ap (λ u. far (o.lay 4 (up t m.align - h)) m u t) (held-there mark 0 m s p n f).value;
}
