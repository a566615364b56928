-- Text and inline text keep the laws of a kind in every byte order that keeps its law. Assumes nothing.
use Rattle.std.proofs.Common.{◌≡◌, ℕ, ◌+◌, ◌-◌, ◌<◌, ◌≤◌, min, Bool, true, false, eqb, List, [], ◌++◌, length, sym, refl, ap, ◌∙◌, add-zero, arith, lit<, lit≤}
use native.Mathlib.Nat.{mod-one}
use lib.ListN.{length-replicate}
use Rattle.std.proofs.lemmas.List.{length-append, nil_from_length}
use Rattle.std.proofs.lemmas.Bool.{eqb-true}
use Rattle.format.specs.Places.{Bytes, Alignment, Holds, part, zeros}
use Rattle.format.specs.Orders.{Order, Undoes, low_first}
use Rattle.format.specs.Recogniser.{is_text}
use Rattle.format.specs.Answers.{Answer, good, fault, unless, both}
use Rattle.format.specs.Sheets.{text_mark, inline_mark, text_of, text_sheet}
use Rattle.format.specs.Meaning.{Belongs, Placed, Laws, sits}
use Rattle.format.specs.Texts.{Part, target, if_text, text_of_length, text_at, text_kind, cut, inline_at, inline_size, inline_kind}
use Rattle.format.proofs.ByteLists.{bytes-append, bytes-zeros}
use Rattle.format.proofs.OrderLaws.{bytes_low_first, width_4}
use Rattle.format.proofs.AnswerLaws.{unless-true, unless-false, both-good, both_parts}
use Rattle.format.proofs.PlaceLaws.{holds_left, part-longer}
use Rattle.format.proofs.RoundLaws.{up_ge, up-mod}
use Rattle.format.proofs.FrontLaws.{TextSheet, text_sheet_is, text_of-sheet, scan_text-sheet, scan_text-ends}
use Rattle.format.proofs.DistanceLaws.{number-long, number-bytes, number-held, target-moved, target-longer, sits-good, sits_parts, sits-longer}
use Rattle.format.proofs.CutLaws.{is_text_of_cut, bytes_cut, cut-length, cut-cut}

pub alignment_4 : Alignment 4
alignment_4 = (2, (lit≤ tt, refl))

-- bytes that an archive holds, tested and handed out
if_text-good : (a : List ℕ) (p q : ℕ) (bs : List ℕ) → Holds a q bs → is_text bs ≡ true → if_text a p q (length bs) ≡ good (record { place = q; bytes = bs })
if_text-good a p q bs x t = ap (λ z. unless (is_text z) (fault 23 p) (good (record { place = q; bytes = z }))) x.same ∙ unless-true (is_text bs) _ _ t

if_text-longer : (a b : List ℕ) (p q n : ℕ) → q + n ≤ length a → if_text (a ++ b) p q n ≡ if_text a p q n
if_text-longer a b p q n h = ap (λ z. unless (is_text z) (fault 23 p) (good (record { place = q; bytes = z }))) (part-longer a b q n h)

-- what is found in an archive is found in a longer one
module _ (o : Order) (a b : List ℕ) (p : ℕ) (x : Part) where
  text_of_length-longer : (n : ℕ) → p + 8 ≤ length a → text_of_length o a p n ≡ good x → text_of_length o (a ++ b) p n ≡ good x
  text_of_length-longer n l h = go (eqb n 0) h where
    find : List ℕ → Answer Part
    find c = both (both (target o c (p + 4)) (λ q. sits (p + 4) q n 1 (length c))) (λ q. if_text c p q n)

    found : find a ≡ good x → find (a ++ b) ≡ good x
    found e =
        let k = both_parts (both (target o a (p + 4)) (λ q. sits (p + 4) q n 1 (length a))) (λ q. if_text a p q n) x e in
        let j = both_parts (target o a (p + 4)) (λ q. sits (p + 4) q n 1 (length a)) k.0 k.1.0 in
        let s = sits_parts (p + 4) j.0 n 1 (length a) k.0 j.1.1 in
        let same_place : j.0 ≡ k.0 = s.0 in
        let fits = s.1 in
        both-good _ k.0 (λ q. if_text (a ++ b) p q n)
        (both-good _ j.0 _ (target-longer o a b (p + 4) (omega arith) ∙ j.1.0) ∙ sits-longer (p + 4) j.0 n 1 a b k.0 j.1.1) ∙
        (if_text-longer a b p k.0 n (omega arith) ∙ k.1.1)

    go : (z : Bool) → unless z (find a) (good (record { place = p + 4; bytes = [] })) ≡ good x → unless z (find (a ++ b)) (good (record { place = p + 4; bytes = [] })) ≡ good x
    go true e = e
    go false e = found e

  text_at-longer : p + 8 ≤ length a → text_at o a p ≡ good x → text_at o (a ++ b) p ≡ good x
  text_at-longer l h = ap (λ z. text_of_length o (a ++ b) p (o.take_back z)) (part-longer a b p 4 (omega arith)) ∙ text_of_length-longer _ l h

inline_at-longer : (c : ℕ) (o : Order) (a b : List ℕ) (p : ℕ) → p + 4 + c ≤ length a → inline_at c o (a ++ b) p ≡ inline_at c o a p
inline_at-longer c o a b p l =
    ap (λ z. if_text (a ++ b) p (p + 4) (min c (o.take_back z))) (part-longer a b p 4 (omega arith)) ∙ if_text-longer a b p (p + 4) (min c (o.take_back (part p 4 a))) (omega arith)

-- a text that was filled in and moved is found
module _ (o : Order) (law : Undoes o) (a bs : List ℕ) (small : length bs < 4294967296) (text : is_text bs ≡ true) where
  text-found : (h t p s : ℕ) → h + 8 ≤ t → t ≤ 2147483648 → s + h ≡ p + t → Holds a p (o.lay 4 (length bs) ++ o.lay 4 (t - (h + 4))) → Holds a s bs → (x : Part) × ((text_at o a p ≡ good x) × (x.bytes ≡ bs))
  text-found h t p s l u m head tail = go (eqb (length bs) 0) refl where
    both-held : (o.take_back (part p 4 a) ≡ length bs) × Holds a (p + 4) (o.lay 4 (t - (h + 4)))
    both-held = number-held o law a (length bs) (o.lay 4 (t - (h + 4))) p small head

    to_text : both (target o a (p + 4)) (λ q. sits (p + 4) q (length bs) 1 (length a)) ≡ good s
    to_text = both-good _ s _ (target-moved o law a (h + 4) t (p + 4) s (omega arith) (omega arith) (omega arith) both-held.1) ∙ sits-good (p + 4) s (length bs) 1 (length a) tail.within (mod-one s)

    go : (z : Bool) → eqb (length bs) 0 ≡ z → (x : Part) × ((text_at o a p ≡ good x) × (x.bytes ≡ bs))
    go true e = (record { place = p + 4; bytes = [] }, (ap (text_of_length o a p) both-held.0 ∙ unless-true (eqb (length bs) 0) _ _ e, sym (nil_from_length bs (eqb-true (length bs) 0 e))))
    go false e = (
      record { place = s; bytes = bs },
      (ap (text_of_length o a p) both-held.0 ∙ (unless-false (eqb (length bs) 0) _ _ e ∙ (both-good _ s (λ q. if_text a p q (length bs)) to_text ∙ if_text-good a p s bs tail text)), refl),
    )

  inline_found : (c p : ℕ) (zs : List ℕ) → length bs ≤ c → Holds a p (o.lay 4 (length bs) ++ (bs ++ zs)) → inline_at c o a p ≡ good (record { place = p + 4; bytes = bs })
  inline_found c p zs l head =
      let held = number-held o law a (length bs) (bs ++ zs) p small head in
      let n : min c (length bs) ≡ length bs = omega arith in
      ap (λ z. if_text a p (p + 4) (min c z)) held.0 ∙ (ap (if_text a p (p + 4)) n ∙ if_text-good a p (p + 4) bs (holds_left a (p + 4) bs zs held.1) text)

-- text: its bytes are its tail, and its head is their length and the distance to them
pub text_laws : (o : Order) → Undoes o → Laws (text_kind o)
text_laws o law =
    let Sheet : (v : List ℕ) → Belongs (text_kind o) v → TextSheet text_mark v = λ v b. text_sheet_is text_mark v b.0 b.1 in
    let near : (v : List ℕ) (h t : ℕ) → Placed (text_kind o) v h t → t - (h + 4) < 4294967296 = λ v h t x. let r = x.reached in omega arith in
    record {
      some = lit≤ tt;
      keeps = record {
        capped = lit≤ tt;
        whole = refl;
        power = alignment_4;
        longer = λ a b s p _ in-a h.
            let k = both_parts (text_at o a p) (λ x. good (text_sheet text_mark x.bytes)) s h in
            both-good (text_at o (a ++ b) p) k.0 _ (text_at-longer o a b p k.0 in-a.0 k.1.0) ∙ k.1.1;
        kept_belongs = λ v b. b;
        kept_kept = λ v b. refl;
        ends = scan_text-ends text_mark;
        onward = λ v h t b l. (omega arith, omega arith);
        widest_power = λ v h t b. (alignment_4, lit≤ tt);
        head_long = λ v h t x.
            number-long o law (length (text_of v)) (o.lay 4 (t - (h + 4))) (Sheet v x.belongs).small ∙ ap (λ z. 4 + z) (law.long 4 (t - (h + 4)) width_4 (near v h t x));
        tail_long = λ v h t x. let f = x.fits in omega arith;
        bytes = λ v h t x.
            (number-bytes o law (length (text_of v)) (o.lay 4 (t - (h + 4))) (Sheet v x.belongs).small (law.bytes 4 (t - (h + 4)) width_4 (near v h t x)), (Sheet v x.belongs).bytes);
        back = λ v h t p s a x moved head tail.
            let f = Sheet v x.belongs in
            let k = text-found o law a (text_of v) f.small f.text h t p s x.behind x.reached moved.together head tail in
            both-good (text_at o a p) k.0 _ k.1.0 ∙ ap good (ap (text_sheet text_mark) k.1.1 ∙ f.sheet);
      };
    }

-- inline text of at most c bytes: what is left of a longer one is its cut
pub inline_laws : (c : ℕ) (o : Order) → Undoes o → c ≤ 65535 → Laws (inline_kind c o)
inline_laws c o law most =
    let room = up_ge (4 + c) 4 (lit≤ tt) in
    let text : List ℕ → List ℕ = λ v. cut c (text_of v) in
    let small : (v : List ℕ) → length (text v) < 4294967296 = λ v. let k = cut-length c (text_of v) in omega arith in
    let is : (v : List ℕ) → Belongs (inline_kind c o) v → is_text (text v) ≡ true = λ v b. is_text_of_cut c (text_of v) (text_sheet_is inline_mark v b.0 b.1).text in
    let bytes_are : (v : List ℕ) → Belongs (inline_kind c o) v → Bytes (text v) = λ v b. bytes_cut c (text_of v) (text_sheet_is inline_mark v b.0 b.1).bytes in
    let rest : List ℕ → List ℕ = λ v. zeros (inline_size c - (4 + length (text v))) in
    record {
      some = omega arith;
      keeps = record {
        capped = omega arith;
        whole = up-mod (4 + c) 4;
        power = alignment_4;
        longer = λ a b s p _ in-a h. let fits = in-a.0 in ap (λ z. both z (λ x. good (text_sheet inline_mark x.bytes))) (inline_at-longer c o a b p (omega arith)) ∙ h;
        kept_belongs = λ v b. (
          bytes-append inline_mark (low_first 4 (length (text v)) ++ text v) (lit< tt, (lit< tt, tt)) (bytes-append (low_first 4 (length (text v))) (text v) (bytes_low_first 4 (length (text v))) (bytes_are v b)),
          scan_text-sheet inline_mark (text v) refl (small v) (is v b),
        );
        kept_kept = λ v b. ap (λ z. text_sheet inline_mark (cut c z)) (text_of-sheet inline_mark (text v) refl (small v)) ∙ ap (text_sheet inline_mark) (cut-cut c (text_of v));
        ends = scan_text-ends inline_mark;
        onward = λ v h t b l. (omega arith, l);
        widest_power = λ v h t b. (alignment_4, lit≤ tt);
        head_long = λ v h t x.
            let k = cut-length c (text_of v) in
            let l = length-append (text v) (rest v) in
            let z = length-replicate {A = ℕ} (inline_size c - (4 + length (text v))) 0 in
            number-long o law (length (text v)) (text v ++ rest v) (small v) ∙ (omega arith);
        tail_long = λ v h t x. add-zero t;
        bytes = λ v h t x. (number-bytes o law (length (text v)) (text v ++ rest v) (small v) (bytes-append (text v) (rest v) (bytes_are v x.belongs) (bytes-zeros (inline_size c - (4 + length (text v))))), tt);
        back = λ v h t p s a x _ head _.
            both-good (inline_at c o a p) _ _ (inline_found o law a (text v) (small v) (is v x.belongs) c p (rest v) (cut-length c (text_of v)) head);
      };
    }
