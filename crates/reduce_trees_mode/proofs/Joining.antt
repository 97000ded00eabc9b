-- The parts of an input.
use Rattle.token_print.specs.Readings.{TokensAreFound}
use Rattle.std.specs.Str.{chars}
use Rattle.reduce_trees_mode.specs.InputParts.{PartsJoin}

pub parts_join : TokensAreFound → PartsJoin
parts_join found input =
    let law = found input.grammar.grammar input.grammar.start input.formed (chars input.start) input.tokens in
    record {
      is = λ checked utf8 is_whole joined.
          record {
            checked = checked;
            form_is = joined.form_is;
            symbol_is = joined.symbol_is;
            utf8 = utf8;
            has_tokens = law.0 joined.tokens_are;
            is_whole = is_whole;
            kinds_are = joined.kinds_are;
          };
      joined = λ of. record { form_is = of.form_is; symbol_is = of.symbol_is; tokens_are = law.1 of.has_tokens; kinds_are = of.kinds_are };
    }
