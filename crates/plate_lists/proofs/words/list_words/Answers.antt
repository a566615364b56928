use Rattle.std.proofs.Common.{◌+◌, ◌-◌, map, ap, ◌∙◌, arith}
use Rattle.std.proofs.lemmas.List.{map_push}
use Rattle.sheet.specs.Words.{word_of, read_of}
use Rattle.plate_lists.specs.declared.error.ListError.TheVariants.{Memory, Refused}
use Rattle.plate_lists.proofs.ToldLaws.{tells_error}
use Rattle.plate_lists.proofs.ReadLaws.{rest_more, text-bad, rest_none, end-bad}
use Rattle.plate_lists.proofs.BackLaws.{reads_back}
use Rattle.plate_lists.proofs.KindLaws.{scans_as_kind}
use Rattle.plate_lists.proofs.words.list_words.Goals as goal

pub returns-in_err-text : goal.returns-in_err-text
returns-in_err-text c = record {
  told = tells_error _ _ _ (Refused c.in_err-text.field-0.0) c.from_residual-in_err-text.ensures.1 (text-bad c.args.sheet.now _ _ c.loop.at c.loop.invariant (c.followers-end.result - (c.loop.counter + 1)) (omega arith) _ c.in_err-text.ensures);
  back = reads_back c.args.sheet.now;
  kind = scans_as_kind c.args.sheet.now;
}

pub returns-in_err-push : goal.returns-in_err-push
returns-in_err-push c = record {
  told = tells_error _ _ _ Memory c.from_residual-in_err-push.ensures.1 tt;
  back = reads_back c.args.sheet.now;
  kind = scans_as_kind c.args.sheet.now;
}

pub loop-preserved : goal.loop-preserved
loop-preserved c =
    rest_more c.args.sheet.now _ _ c.loop.at c.loop.invariant (c.followers-end.result - (c.loop.counter + 1)) (omega arith) (read_of c.in_ok-text.text) _ c.in_ok-text.ensures (ap (map word_of) c.in_ok-push.ensures.items ∙ map_push word_of _ _)

pub returns-in_err-ended : goal.returns-in_err-ended
returns-in_err-ended c = record {
  told = tells_error _ _ _ (Refused c.in_err-ended.field-0.0) c.from_residual-in_err-ended.ensures.1 (end-bad c.args.sheet.now _ _ c.loop.at c.loop.invariant (omega arith) _ c.in_err-ended.ensures);
  back = reads_back c.args.sheet.now;
  kind = scans_as_kind c.args.sheet.now;
}

pub returns : goal.returns
returns c = record {
  told = rest_none c.args.sheet.now _ _ c.loop.at c.loop.invariant (omega arith) _ c.in_ok-ended.ensures;
  back = reads_back c.args.sheet.now;
  kind = scans_as_kind c.args.sheet.now;
}
