use Rattle.std.proofs.Common.{◌≡◌, ℕ, ◌+◌, ◌*◌, ◌<◌, List, [], ◌∷◌, length, get_or, take, sym, refl, ap, ◌∙◌, arith}
use Rattle.std.proofs.lemmas.List.{drop_more}
use Rattle.format.specs.Answers.{good}
use Rattle.format.specs.Places.{part}
use Rattle.format.specs.Orders.{number}
use Rattle.format.specs.Sheets.{any}
use Rattle.format.proofs.PutLaws.{head-alone}
use Rattle.format.proofs.FoundLaws.{found}
use Rattle.twice.specs.Twice.{twice_mark}
use Rattle.twice.proofs.TwiceByteKind.fill.Goals as goal

-- the number of one byte is that byte
one_byte : (s : List ℕ) (q : ℕ) → q < length s → number (part q 1 s) ≡ get_or s q 0
one_byte s q h = ap (λ z. number (take 1 z)) (drop_more s q 0 h) ∙ (let e : get_or s q 0 + 256 * 0 ≡ get_or s q 0 = omega arith in e)

pub returns : goal.returns
returns c =
    let s = c.args.sheet.now in
    let p = c.args.at.now in
    let f = found twice_mark 1 any s p c.requires.next c.requires.found in
    record {
      bytes = head-alone (λ z. z ∷ z ∷ []) (get_or s (p + 2) 0) _ c.args.out.now c.put_at.new.out c.args.head c.args.tail (sym (f.value ∙ one_byte s (p + 2) (omega arith))) c.put_at.ensures;
      end = refl;
      next = c.requires.found ∙ ap good f.next;
    }
