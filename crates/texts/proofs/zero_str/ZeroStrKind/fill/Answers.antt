use Rattle.std.proofs.Common.{◌≡◌, ℕ, ◌+◌, ◌-◌, ◌≤◌, List, ◌++◌, length, sym, ap, ◌∙◌, arith}
use Rattle.format.specs.Places.{put, stop, limit}
use Rattle.format.specs.Orders.{Order}
use Rattle.format.specs.Sheets.{text_mark}
use Rattle.texts.proofs.zero_str.ZeroStrKind.fill.Goals as goal

-- the length and the distance in the head, and the bytes in the tail
filled : (o : Order) (out mid new bs xs : List ℕ) (h t : ℕ) → xs ≡ bs → mid ≡ put out h (o.lay 4 (length bs) ++ o.lay 4 (t - (h + 4))) → new ≡ put mid t bs → new ≡ put (put out h (o.lay 4 (length xs) ++ o.lay 4 (t - (h + 4)))) t xs
filled o out mid new bs xs h t e a b = b ∙ (ap (λ z. put z t bs) a ∙ ap (λ z. put (put out h (o.lay 4 (length z) ++ o.lay 4 (t - (h + 4)))) t z) (sym e))

-- a tail that ends within the limit ends where it says
stops_past : (t len : ℕ) (bs xs : List ℕ) → xs ≡ bs → len ≤ limit → stop (t + length xs) ≤ len → t + length bs ≤ len
stops_past t len bs xs e l h = let k = ap length e in omega arith

pub put_at-requires : goal.put_at-requires
put_at-requires g c =
    let f = c.next_text-bytes.ensures.found text_mark c.requires.next c.requires.found in
    let r = stops_past c.args.tail (length c.args.out.now) c.next_text-bytes.result.now _ f.text c.requires.capped c.requires.room in
    omega arith

pub returns : goal.returns
returns g c =
    let f = c.next_text-bytes.ensures.found text_mark c.requires.next c.requires.found in
    let r = stops_past c.args.tail (length c.args.out.now) c.next_text-bytes.result.now _ f.text c.requires.capped c.requires.room in
    let k = ap length f.text in
    record {
      bytes = filled g.E.Endian.order c.args.out.now c.put_head.new.out c.put_at.new.out c.next_text-bytes.result.now _ c.args.head c.args.tail f.text c.put_head.ensures c.put_at.ensures;
      end = omega arith;
      next = f.next;
    }
