use Rattle.builder.specs.Model.{model}
use Rattle.exports.specs.Lives.{course}
use Rattle.exports.proofs.LifeLaws.{Lives}
use Rattle.exports.proofs.life.live.Given as goal

abbrev pub invariant-loop-answer : goal.invariant-loop-answer
invariant-loop-answer l =
    Lives (course l.fn.answers (model l.fn.builder) l.fn.buffer l.fn.calls) l.answer-items l.answer-index (model l.builder) l.buffer l.course.rest.now l.course.made l.course.stopped
