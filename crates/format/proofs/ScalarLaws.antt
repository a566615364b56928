-- Numbers, truths and characters keep the laws of a kind in every byte order that keeps its law. Assumes nothing.
use Rattle.std.proofs.Common.{◌≡◌, ℕ, ◌^◌, ◌<◌, Bool, true, List, length, refl, ap, ◌∙◌, add-zero, arith}
use native.Mathlib.Nat.{mod_self}
use Rattle.format.specs.Places.{Bytes, Alignment}
use Rattle.format.specs.Orders.{Width, Order, Undoes}
use Rattle.format.specs.Answers.{good, fault, unless, both}
use Rattle.format.specs.Sheets.{number_mark, truth_mark, character_mark, scan_number, number_of, number_sheet, any, is_truth, is_character}
use Rattle.format.specs.Meaning.{Belongs, Laws}
use Rattle.format.specs.Scalars.{number_at, scalar_kind, number_kind, truth_kind, character_kind}
use Rattle.format.proofs.OrderLaws.{width_1, width_4, width_bounds}
use Rattle.format.proofs.AnswerLaws.{unless-true, both-good}
use Rattle.format.proofs.SheetLaws.{scan_number-end}
use Rattle.format.proofs.PlaceLaws.{part-longer}
use Rattle.format.proofs.FrontLaws.{number_of_lt, number_sheet_is, scan_number-mark, scan_number-ends}
use Rattle.format.proofs.DistanceLaws.{taken-there}

-- every width is an alignment
pub width_alignment : (w : ℕ) → Width w → Alignment w
width_alignment w (k, (h, e)) = (k, (omega arith, e))

-- what the whole sheet of a scalar says
pub record ScalarSheet (mark : List ℕ) (w : ℕ) (valid : ℕ → Bool) (v : List ℕ) : Type 0 where
  pub small : number_of w v < 256 ^ w
  pub holds : valid (number_of w v) ≡ true
  pub sheet : number_sheet mark w (number_of w v) ≡ v

pub scalar_sheet_is : (mark : List ℕ) (w : ℕ) (valid : ℕ → Bool) (v : List ℕ) → Bytes v → scan_number mark w valid v ≡ good (length v) → ScalarSheet mark w valid v
scalar_sheet_is mark w valid v b h =
    let k = scan_number-end mark v (length v) w valid h in
    record {
      small = number_of_lt v w b k.1;
      holds = k.2;
      sheet = number_sheet_is mark v w (scan_number-mark mark w valid v (length v) h) b k.0;
    }

-- once for all marks, widths and tests
pub scalar_laws : (mark : List ℕ) (w : ℕ) (valid : ℕ → Bool) (o : Order) → Width w → Undoes o → Laws (scalar_kind mark w valid o)
scalar_laws mark w valid o k law =
    let bounds = width_bounds w k in
    let Sheet : (v : List ℕ) → Belongs (scalar_kind mark w valid o) v → ScalarSheet mark w valid v = λ v b. scalar_sheet_is mark w valid v b.0 b.1 in
    record {
      some = bounds.0;
      keeps = record {
        capped = omega arith;
        whole = mod_self w;
        power = width_alignment w k;
        longer = λ a b s p _ in-a h. ap (λ z. both (unless (valid (o.take_back z)) (fault 24 p) (good (o.take_back z))) (λ n. good (number_sheet mark w n))) (part-longer a b p w in-a.0) ∙ h;
        kept_belongs = λ v b. b;
        kept_kept = λ v b. refl;
        ends = scan_number-ends mark w valid;
        onward = λ v h t b l. (omega arith, l);
        widest_power = λ v h t b. (width_alignment w k, omega arith);
        head_long = λ v h t x. law.long w (number_of w v) k (Sheet v x.belongs).small;
        tail_long = λ v h t x. add-zero t;
        bytes = λ v h t x. (law.bytes w (number_of w v) k (Sheet v x.belongs).small, tt);
        back = λ v h t p s a x _ head _.
            let f = Sheet v x.belongs in
            both-good (number_at w valid o a p) (number_of w v) _
            (ap (λ z. unless (valid z) (fault 24 p) (good z)) (taken-there o law a w (number_of w v) p k f.small head) ∙ unless-true (valid (number_of w v)) _ _ f.holds) ∙
            ap good f.sheet;
      };
    }

pub number_laws : (w : ℕ) (o : Order) → Width w → Undoes o → Laws (number_kind w o)
number_laws w o k law = scalar_laws (number_mark w) w any o k law

pub truth_laws : (o : Order) → Undoes o → Laws (truth_kind o)
truth_laws o law = scalar_laws truth_mark 1 is_truth o width_1 law

pub character_laws : (o : Order) → Undoes o → Laws (character_kind o)
character_laws o law = scalar_laws character_mark 4 is_character o width_4 law
