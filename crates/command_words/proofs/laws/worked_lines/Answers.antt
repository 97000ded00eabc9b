use Rattle.std.proofs.Common.{refl}
use Rattle.command_words.proofs.laws.worked_lines.Goals as goal

pub returns : goal.returns
returns c = record {
  refused = refl;
  apart = refl;
  joined = refl;
  by_grammar = refl;
  respelled = refl;
  normal = refl;
  split = refl;
  selftest = refl;
  in_mode = refl;
  all = refl;
  check = refl;
  check_all = refl;
}
