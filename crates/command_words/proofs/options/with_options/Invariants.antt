use Rattle.std.proofs.Common.{◌≡◌, fold, map, take}
use Rattle.clap.specs.Words.{app_of, with_rule}
use Rattle.command_words.specs.inner.Read.{option_rule, read_row}
use Rattle.command_words.proofs.options.with_options.Given as goal

-- the options so far
abbrev pub invariant-loop-row : goal.invariant-loop-row
invariant-loop-row l = app_of l.command ≡ fold with_rule (app_of l.initial.command) (map (λ row. option_rule (read_row row)) (take l.row-index l.rows))
