use Rattle.std.proofs.Common.{◌≡◌, ℕ, ◌+◌, ◌-◌, ◌<◌, ◌≤◌, List, [], ◌++◌, length, take, sym, refl, ap, ◌∙◌, arith}
use Rattle.format.specs.Places.{put, zeros}
use Rattle.format.specs.Orders.{Order, Undoes}
use Rattle.format.specs.Sheets.{inline_mark}
use Rattle.format.specs.Texts.{cut, inline_size}
use Rattle.format.proofs.PutLaws.{put_nil, put-put}
use Rattle.texts.proofs.Facts.{number_then}
use Rattle.texts.proofs.zero_string.ZeroStringKind.fill.Goals as goal

-- the length, the cut bytes and zeros in the head, and nothing in the tail
filled :
    (o : Order) → Undoes o → (out m₁ m₂ new bs xs : List ℕ) (h t k c : ℕ) → xs ≡ bs → k ≡ length (cut c bs) → take k bs ≡ cut c bs → k < 4294967296 → h ≤ length out → h + 4 ≤ length m₁ →
    m₁ ≡ put out h (o.lay 4 k) → m₂ ≡ put m₁ (h + 4) (take (k - 0) bs) → new ≡ put m₂ (h + 4 + k) (zeros (inline_size c - (4 + k))) →
    new ≡ put (put out h (o.lay 4 (length (cut c xs)) ++ (cut c xs ++ zeros (inline_size c - (4 + length (cut c xs)))))) t []
filled o law out m₁ m₂ new bs xs h t k c e n front small room room₁ a b d =
    let cs = cut c bs in
    let rest = zeros (inline_size c - (4 + k)) in
    let k₀ : k - 0 ≡ k = omega arith in
    let cut-put : m₂ ≡ put m₁ (h + 4) cs = b ∙ ap (put m₁ (h + 4)) (ap (λ z. take z bs) k₀ ∙ front) in
    let both-put : new ≡ put m₁ (h + 4) (cs ++ rest) = d ∙ (ap (λ z. put z (h + 4 + k) rest) cut-put ∙ put-put m₁ (h + 4) cs rest (h + 4 + k) room₁ (omega arith)) in
    let all : List ℕ → ℕ → List ℕ = λ x m. put out h (o.lay 4 m ++ (cut c x ++ zeros (inline_size c - (4 + m)))) in
    number_then o law out m₁ new (cs ++ rest) h k small room a both-put ∙ (ap (all bs) n ∙ (ap (λ z. all z (length (cut c z))) (sym e) ∙ sym (put_nil (all xs (length (cut c xs))) t)))

pub returns : goal.returns
returns g c =
    let f = c.next_text-bytes.ensures.found inline_mark c.requires.next c.requires.found in
    let k = c.cut_length-kept.result in
    let bs = c.next_text-bytes.result.now in
    let same = c.capacity.ensures in
    record {
      bytes = filled g.E.Endian.order g.met.E.Endian.undoes c.args.out.now c.lay.new.out c.put_at.new.out c.put_zeros.new.out bs _ c.args.head c.args.tail k c.args.self.now.capacity.value f.text (c.cut_length-kept.ensures.long ∙ ap (λ z. length (cut z bs)) same) (c.cut_length-kept.ensures.front ∙ ap (λ z. cut z bs) same) c.lay.ensures.small (omega arith) (omega arith) c.lay.ensures.bytes c.put_at.ensures (c.put_zeros.ensures ∙ ap (λ z. put c.put_at.new.out (c.args.head + 4 + k) (zeros (z - (4 + k)))) c.size.ensures);
      end = refl;
      next = f.next;
    }
