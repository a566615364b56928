-- What an order of the code says, and which letter names it. Assumes nothing.
use Rattle.std.specs.Prelude.{ℕ, if◌then◌else◌, ◌==◌, Option, Some, None}
use Rattle.format.specs.Orders as orders
use Rattle.catalogue.specs.declared.order.Order.{Order}
use Rattle.catalogue.specs.declared.order.Order.TheVariants.{Little, Big}

abbrev pub order_of : Order → orders.Order
order_of Little = orders.little
order_of Big = orders.big

-- l and b, as ASCII has them, and no other letter
abbrev pub order_named : ℕ → Option Order
order_named letter = if letter == 108 then Some Little else if letter == 98 then Some Big else None
