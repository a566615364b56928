use Rattle.std.proofs.Common.{◌≡◌, ℕ, ◌+◌, ◌-◌, ◌≤◌, List, length, take, drop, Some, Option, Bor, sym, ap, ◌∙◌, subst, arith}
use Rattle.std.specs.Option.{MatchOption}
use Rattle.std.specs.List.{slice_range}
use Rattle.refusal.specs.Told.{refused}
use Rattle.format.specs.Answers.{good}
use Rattle.format.specs.Places.{part}
use Rattle.format.specs.Recogniser.{is_text}
use Rattle.format.proofs.SheetLaws.{text_read_wrong, text_read-good}
use Rattle.sheet.proofs.parts.text.Goals as goal

-- the slice that is got is the part of the definition
got :
    (s : List ℕ) (a n : ℕ) (none : Type 0) (r : Option (Bor (List ℕ))) (x : Bor (List ℕ)) →
    MatchOption r none (λ z. (a ≤ a + n) × (a + n ≤ length s) × (z.now ≡ slice_range s a (a + n)) × (length z.now + a ≡ a + n)) →
    r ≡ Some x → (n ≤ length s - a) × (x.now ≡ part a n s)
got s a n none r x h e =
    let y = subst (λ q. MatchOption q none (λ z. (a ≤ a + n) × (a + n ≤ length s) × (z.now ≡ slice_range s a (a + n)) × (length z.now + a ≡ a + n))) e h in
    let fits = y.1 in
    let same = y.2 in
    let k : (a + n) - a ≡ n = omega arith in
    (omega (arith, fits), same ∙ ap (λ k. take k (drop a s)) k)

pub returns-then-not-is_text-clause-told : goal.returns-then-not-is_text-clause-told
returns-then-not-is_text-clause-told c =
    let g = got c.args.sheet.now (c.args.at + 6) c.in_ok-length.field-0 _ c.get.result c.in_ok-bytes.bytes c.get.ensures.lookup.0 c.in_ok-bytes.ensures.ok_part in
    ap refused c.at-then-not-is_text.ensures ∙
    sym (text_read_wrong c.args.mark.now c.args.sheet.now c.args.at c.in_ok-length.field-0 (sym c.in_ok-length.ensures.told) g.0 (ap is_text (sym g.1) ∙ (sym c.is_text.ensures.value ∙ c.if-not-is_text.true)))

pub returns-clause-told : goal.returns-clause-told
returns-clause-told c =
    let g = got c.args.sheet.now (c.args.at + 6) c.in_ok-length.field-0 _ c.get.result c.in_ok-bytes.bytes c.get.ensures.lookup.0 c.in_ok-bytes.ensures.ok_part in
    ap good g.1 ∙
    sym (text_read-good c.args.mark.now c.args.sheet.now c.args.at c.in_ok-length.field-0 (sym c.in_ok-length.ensures.told) g.0 (ap is_text (sym g.1) ∙ (sym c.is_text.ensures.value ∙ c.if-not-is_text.false)))
