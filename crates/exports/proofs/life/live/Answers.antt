use Rattle.std.proofs.Common.{Some, sym, ap, ◌∙◌, rules, arith}
use Rattle.builder.specs.Model.{model}
use Rattle.exports.specs.Steps.{asked_of, with_rest}
use Rattle.exports.proofs.LifeLaws.{goes_on, ends}
use Rattle.exports.proofs.life.live.Goals as goal

pub returns-in-Finish : goal.returns-in-Finish
returns-in-Finish c =
    ends c.loop-answer.invariant (omega arith) c.in-Some.behind.now
    (sym c.read.ensures ∙ ap with_rest c.in-Some.is ∙ ap (λ s. Some (record { what = asked_of s; behind = c.in-Some.behind.now })) c.in-Finish.is)
    c.into-in-Finish-2.result (search rules) c.saturating_add.result (search rules)

pub loop-answer-preserved : goal.loop-answer-preserved
loop-answer-preserved c = record {
  on =
      goes_on c.loop-answer.invariant (omega arith) _ c.in-Some.behind.now
      (sym c.read.ensures ∙ ap with_rest c.in-Some.is ∙ ap (λ s. Some (record { what = asked_of s; behind = c.in-Some.behind.now })) c.in-Event.is)
      (record { answer = c.into.result; builder = model c.make.new.builder; buffer = c.make.new.buffer })
      (ap (λ a. record { answer = a; builder = model c.make.new.builder; buffer = c.make.new.buffer }) c.into.ensures ∙ c.make.ensures);
  counted = search rules;
  runs = c.loop-answer.invariant.runs;
}
