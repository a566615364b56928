-- A builder of the code as lives have it, and the alignments of kinds. Assumes nothing.
use Rattle.std.proofs.Common.{◌≡◌, ℕ, max, sym, subst, arith}
use Rattle.format.specs.Places.{Alignment}
use Rattle.format.specs.Meaning.{Meaning, Laws}
use Rattle.format.proofs.RoundLaws.{alignment_pos}
use Rattle.format.proofs.BuilderLaws.{Sound, allowed-power}
use Rattle.format.proofs.BuildLaws.{alignment-allowed}
use Rattle.builder.specs.declared.ZeroBuilder.{ZeroBuilder}
use Rattle.builder.specs.Alignments.{Power}
use Rattle.builder.specs.Model.{model}

pub sound : (b : ZeroBuilder) → Sound (model b)
sound b = record {
  inside = b.inside;
  within = b.within;
  power =
      let p = b.align.power in
      let e : max 1 b.align.bytes ≡ b.align.bytes = omega arith in
      subst Alignment e (allowed-power b.align.bytes p.listed);
}

pub power : (a : ℕ) → Alignment a → Power a
power a h = record { listed = alignment-allowed a h; some = alignment_pos a h }

-- of what a kind tells
pub kind_power : (m : Meaning) → Laws m → {a : ℕ} → a ≡ m.align → Power a
kind_power m laws e = subst Power (sym e) (power m.align laws.keeps.power)
