use Rattle.std.proofs.Common.{◌-◌, ◌∙◌, arith, rules}
use Rattle.std.specs.Prelude.{string_bytes}
use Rattle.std.specs.Str.{chars}
use Rattle.grammar_reader_words.proofs.Joined.{front_more}
use Rattle.grammar_reader_words.proofs.words.front.Goals as goal

pub loop-remaining-preserved : goal.loop-remaining-preserved
loop-remaining-preserved c =
    let pushed : _ = c.in_ok-push-in-Some.ensures in
    record {
      text = search rules;
      same =
          front_more (string_bytes c.loop-remaining.name) (string_bytes c.push.new.self) c.in-Some.c c.loop-remaining.remaining (c.loop-remaining.remaining - 1)
          (chars c.loop-remaining.rest.now) (chars c.in-Some.after.now)
          (omega arith) c.in-Some.ensures.same pushed.bytes
          ∙ c.loop-remaining.invariant.same;
    }
