-- What a part of an archive in the code says. Assumes nothing.
use Rattle.std.specs.Prelude.{ℕ, ◌+◌, List, length}
use Rattle.format.specs.Orders.{Order}
use Rattle.format.specs.Answers.{Answer, good, fault, unless, both}
use Rattle.format.specs.Meaning.{sits}
use Rattle.format.specs.Recogniser.{is_text}
use Rattle.format.specs.Texts.{Part, target, if_text}
pub use Rattle.kind.specs.Finds.{part_of}

-- a part, if it is text: else 23 at the head p
abbrev pub judge : ℕ → Part → Answer Part
judge p x = unless (is_text x.bytes) (fault 23 p) (good x)

-- the text of n bytes to which the distance of the head p leads
abbrev pub led : Order → List ℕ → ℕ → ℕ → Answer Part
led o a p n = both (both (target o a (p + 4)) (λ q. sits (p + 4) q n 1 (length a))) (λ q. if_text a p q n)
