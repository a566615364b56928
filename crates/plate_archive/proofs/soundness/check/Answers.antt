use Rattle.std.proofs.Common.{◌≡◌, rules}
use Rattle.plate_archive.specs.Archives.{check}
use Rattle.plate_archive.specs.Told.{judged, spans_of}
use Rattle.plate_archive.proofs.SoundLaws.{sound_if, readable_if}
use Rattle.plate_archive.proofs.soundness.check.Goals as goal

pub returns : goal.returns
returns c =
    let told : judged spans_of c.even.result ≡ check c.args.archive.now = search rules in record {
      told = told;
      sound = sound_if c.even.result c.args.archive.now told;
      readable = readable_if c.even.result c.args.archive.now told;
    }
