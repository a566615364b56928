use Rattle.std.proofs.Common.{◌≡◌, ℕ, ◌+◌, ◌%◌, ◌<◌, ◌≤◌, List, [], ◌∷◌, length, get_or, sym, refl, ap, ◌∙◌, arith}
use Rattle.format.specs.Answers.{good, both}
use Rattle.format.specs.Places.{put}
use Rattle.format.specs.Sheets.{number_sheet}
use Rattle.format.proofs.AnswerLaws.{both_parts, unless_parts, good-same}
use Rattle.format.proofs.FoundLaws.{copied}
use Rattle.twice.specs.Twice.{twice_mark, byte_at}
use Rattle.twice.proofs.TwiceByteKind.copy.Goals as goal

read : (a : List ℕ) (p : ℕ) (s : List ℕ) → both (byte_at a p) (λ n. good (number_sheet twice_mark 1 n)) ≡ good s → s ≡ number_sheet twice_mark 1 (get_or a p 0)
read a p s h =
    let x = both_parts (byte_at a p) _ s h in
    let y = unless_parts _ _ _ x.0 x.1.0 in
    sym (good-same _ _ x.1.1) ∙ ap (number_sheet twice_mark 1) (sym (good-same _ _ y.1))

-- a byte is laid in one byte as it is
laid : (b : ℕ) (mid new : List ℕ) (q : ℕ) → b < 256 → new ≡ put mid q (b ∷ []) → new ≡ put mid q ((b % 256) ∷ [])
laid b mid new q h e = let k : b ≡ b % 256 = omega arith in e ∙ ap (λ z. put mid q (z ∷ [])) k

pub returns : goal.returns
returns c s h =
    let a = c.args.archive.now in
    let byte : get_or a c.args.at 0 < 256 = omega (arith, c.type_inv.archive c.args.at) in
    let room : c.args.to ≤ length c.args.out.now = omega (arith, c.requires.room) in
    let is = read a c.args.at s h in
    let r = copied twice_mark twice_mark c.args.out.now c.put_at.new.out c.put_at-2.new.out c.args.to 1 (get_or a c.args.at 0) s refl refl c.put_at.ensures (laid (get_or a c.args.at 0) c.put_at.new.out c.put_at-2.new.out (c.args.to + 2) byte c.put_at-2.ensures) is room in
    (r.0, omega (arith, r.1))
