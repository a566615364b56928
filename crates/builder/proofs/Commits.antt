-- An accepted build, by its change: what it asks of the parts that write it, and what they leave. Assumes nothing.
use Rattle.std.proofs.Common.{◌≡◌, ℕ, ◌+◌, ◌-◌, List, length, sym, ap, ◌∙◌, arith}
use Rattle.format.specs.Places.{put, zeros, Bytes}
use Rattle.format.specs.Answers.{good}
use Rattle.format.specs.Meaning.{Meaning, Laws}
use Rattle.format.specs.Builder.{Builder, build, Change, change, done}
use Rattle.format.proofs.BuilderLaws.{Sound}
use Rattle.format.proofs.BuildLaws.{Ordered, ordered, build-found, build-value, build-done}
use Rattle.kind.specs.Asked.{value_at, Fillable, filled}
use Rattle.builder.specs.Model.{Growable}

module _ (m : Meaning) (v : List ℕ) (b : Builder) (x : Change) (laws : Laws m) (s : Sound b) (bytes : Bytes v) (h : change b (build m v) ≡ good x) (buf : List ℕ) (own : length buf ≡ b.room) where
  order : Ordered m v b x
  order = ordered m v b x laws s bytes h

  pub growable : Growable b buf x.answer x.used
  growable = let o = order in record { own = own; low = o.low; high = omega arith; room = o.room }

  -- a tail's start as the code adds it up
  module _ (size : ℕ) (told : size ≡ m.size) (mid : List ℕ) (long : length mid ≡ length buf) where
    pub fillable : Fillable m v 0 mid x.answer (x.answer + size)
    fillable =
        let o = order in
        let w = s.within in
        let same : (m.lay (value_at m v 0) x.answer (x.answer + size)).end ≡ x.used =
        ap (λ z. (m.lay (value_at m v 0) x.answer (x.answer + z)).end) told ∙ (ap (λ z. (m.lay z x.answer (x.answer + m.size)).end) (build-value m v b x laws s bytes h) ∙ o.end) in
        record {
          next = length v;
          found = build-found m v b x laws s bytes h;
          aligned = o.placed.aligned;
          behind = omega arith;
          starts = omega arith;
          room = omega arith;
          capped = omega arith;
        }

    pub committed :
        (out : List ℕ) → mid ≡ put buf b.used (zeros (x.answer - b.used)) → out ≡ filled mid x.answer (x.answer + size) (m.lay (value_at m v 0) x.answer (x.answer + size)) →
        record { answer = good x.answer; builder = record { used = x.used; align = x.align; room = b.room }; buffer = out } ≡ done b buf (change b (build m v))
    committed out em eo =
        build-done m v b x laws s bytes h buf mid out (sym own) em (eo ∙ (ap (λ z. filled mid x.answer (x.answer + z) (m.lay (value_at m v 0) x.answer (x.answer + z))) told ∙ ap (λ z. filled mid x.answer (x.answer + m.size) (m.lay z x.answer (x.answer + m.size))) (build-value m v b x laws s bytes h)))
