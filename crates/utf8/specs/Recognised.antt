-- What the text check tells. Assumes nothing.
use Rattle.std.specs.Prelude.{◌≡◌, ℕ, Bool, List, IsUtf8, Decides}
use Rattle.format.specs.Text.{Text}
use Rattle.format.specs.Recogniser.{is_text}

pub record Recognised (bs : List ℕ) (r : Bool) : Type 0 where
  pub value : r ≡ is_text bs
  -- true just where the grammar of RFC 3629 makes the bytes
  pub grammar : Decides r (Text bs)
  -- and just where they encode Unicode scalar values
  pub scalars : Decides r (IsUtf8 bs)
