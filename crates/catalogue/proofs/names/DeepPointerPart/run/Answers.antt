use Rattle.std.proofs.Common.{◌≡◌, rules, codes}
use Rattle.std.specs.Cmp.Lexicographic.{same_text}
use Rattle.format.specs.Answers.{good}
use Rattle.catalogue.proofs.names.DeepPointerPart.run.Goals as goal

pub returns-in_ok-new : goal.returns-in_ok-new
returns-in_ok-new g c =
    let named : c.args.name.now ≡ codes "psa3.i5." = same_text _ _ (search rules) in
    let told : good c.in_ok-new.field-0.capacity.value ≡ good 5 = c.in_ok-new.ensures in
    let capacity : c.in_ok-new.field-0.capacity.value ≡ 5 = cc told in
    rw named (rw capacity at c.run-then-is-4.ensures)
