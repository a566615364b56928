use Rattle.std.proofs.Common.{◌≡◌, ◌-◌, map, vec_items}
use Rattle.sheet.specs.Words.{word_of}
use Rattle.plate_lists.specs.Lists.{list_words}
use Rattle.plate_lists.proofs.ReadLaws.{rest}
use Rattle.plate_lists.proofs.words.list_words.Given as goal

abbrev pub invariant-loop : goal.invariant-loop
invariant-loop l = rest (map word_of (vec_items l.words)) (l.end - l.counter) l.sheet l.at ≡ list_words l.sheet
