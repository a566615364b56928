-- What a finding of the code says. Assumes nothing.
use Rattle.format.specs.Texts as texts
use Rattle.format.specs.Archive as archive
use Rattle.format.specs.Archive.{found_target, found_items, found_text}
use Rattle.kind.specs.declared.found.Part.{Part}
use Rattle.kind.specs.declared.found.Found.{Found}
use Rattle.kind.specs.declared.found.Found.TheVariants.{Target, Items, Text}

abbrev pub part_of : Part → texts.Part
part_of x = record { place = x.place; bytes = x.bytes.now }

abbrev pub found_of : Found → archive.Found
found_of (Target p) = found_target p
found_of (Items p n) = found_items (record { place = p; count = n })
found_of (Text x) = found_text (part_of x)
