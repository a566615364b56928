use Rattle.std.proofs.Common.{◌≡◌, ℕ, List, reverse, length, sym, ap, ◌∙◌}
use Rattle.std.proofs.lemmas.List.{reverse-reverse}
use Rattle.format.specs.Places.{Bytes}
use Rattle.format.specs.Orders.{big, number}
use Rattle.format.proofs.ByteLists.{bytes-reverse}
use Rattle.format.proofs.ByteLists.{typed_bytes}
use Rattle.format.proofs.OrderLaws.{low_first-number}
use Rattle.endian.proofs.order.BigEndianEndian.arrange.Goals as goal

turned : (bs new : List ℕ) → new ≡ reverse bs → Bytes new → new ≡ big.lay (length bs) (number bs)
turned bs new e b = e ∙ ap reverse (sym (low_first-number bs (rw reverse-reverse at (rw e at (bytes-reverse new b)))))

pub returns : goal.returns
returns c = turned c.args.bytes.now c.reverse.new.self c.reverse.ensures.after (typed_bytes c.reverse.new.self c.type_inv.bytes)
