use Rattle.std.proofs.Common.{◌≡◌, ◌<◌, ◌+◌, ◌-◌, ◌*◌, ◌^◌, suc, take, ap, ◌∙◌, arith, rules}
use Rattle.std.specs.Str.{chars}
use Rattle.grammar_reader_words.specs.Quoted.{hex_after}
use Rattle.grammar_reader_words.proofs.Hex.{small, grown, further}
use Rattle.grammar_reader_words.proofs.quoted.hex_value.Goals as goal

pub overflow_mul-value : goal.overflow_mul-value
overflow_mul-value c =
    let below : c.loop-read.value < 2 ^ 20 = small c.loop-read.read c.loop-read.value (omega arith) c.loop-read.invariant.small in
    omega arith

pub overflow_add-value : goal.overflow_add-value
overflow_add-value c =
    let below : c.loop-read.value < 2 ^ 20 = small c.loop-read.read c.loop-read.value (omega arith) c.loop-read.invariant.small in
    omega arith

pub loop-read-preserved : goal.loop-read-preserved
loop-read-preserved c =
    let found : _ = c.in-Some.ensures in
    let more : c.args.n - c.loop-read.read ≡ suc (c.args.n - (c.loop-read.read + 1)) = omega arith in
    record {
      text = search rules;
      count = omega arith;
      same =
          ap (λ d. hex_after (c.loop-read.value * 16 + d) (take (c.args.n - (c.loop-read.read + 1)) (chars c.in-Some.after.now))) c.hex_digit.ensures.same
          ∙ further (c.args.n - c.loop-read.read) (c.args.n - (c.loop-read.read + 1)) c.loop-read.value c.in-Some.c (chars c.loop-read.rest.now)
          (chars c.in-Some.after.now) found.same more
          ∙ c.loop-read.invariant.same;
      small = grown c.loop-read.read c.loop-read.value c.hex_digit.result c.loop-read.invariant.small c.hex_digit.ensures.small;
    }
