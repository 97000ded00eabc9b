-- What is asked for by the command line that was read.
use Rattle.std.specs.Prelude.{ℕ, ◌≤◌, ◌++◌, List, codes, map, option_map, unwrap_or}
use Rattle.command_words.specs.Options.{LineSpan}
use Rattle.command_words.specs.Commands.{CheckOptions, Command, GrammarSource, ModeOptions, ProtectOptions, ReduceOptions, SelftestOptions}
use Rattle.command_words.specs.declared.commands.CheckLine.{CheckLine}
use Rattle.command_words.specs.declared.commands.CommandLine.{CommandLine}
use Rattle.command_words.specs.declared.commands.CommandLine.TheVariants as read
use Rattle.command_words.specs.declared.commands.ModeLine.{ModeLine}
use Rattle.command_words.specs.declared.commands.ModeLine.TheVariants as mode_read
use Rattle.command_words.specs.declared.commands.NamedGrammar.{NamedGrammar}
use Rattle.command_words.specs.declared.commands.LineSpan.{LineSpan as LineSpanRead}
use Rattle.command_words.specs.declared.commands.ProtectLine.{ProtectLine}
use Rattle.command_words.specs.declared.commands.ReduceLine.{ReduceLine}
use Rattle.command_words.specs.declared.commands.SelftestLine.{SelftestLine}

abbrev pub grammar_read : NamedGrammar → GrammarSource
grammar_read grammar =
    record { path = grammar.path.now; lexer = option_map (λ lexer. lexer.now) grammar.lexer; start = option_map (λ start. start.now) grammar.start }

abbrev pub mode_of : ModeLine → ModeOptions
mode_of mode_read.Lines = ModeOptions.lines
mode_of (mode_read.ByGrammar line) = ModeOptions.by_grammar (record { grammar = grammar_read line.grammar; mode = line.mode; squeeze = line.squeeze })

abbrev pub span_read : LineSpanRead → LineSpan
span_read span = record { first = span.first; last = span.last }

abbrev pub protects_read : ProtectLine → ProtectOptions
protects_read protects = record {
  lines = map span_read protects.lines.items;
  texts = map (λ text. text.now) protects.texts.items;
  only = option_map span_read protects.only;
}

-- the journal's path: the output's followed by `.journal` where none is named
abbrev pub journal_of : ReduceLine → List ℕ
journal_of line = unwrap_or (option_map (λ journal. journal.now) line.journal) (line.output.now ++ codes ".journal")

abbrev pub reduce_read : ReduceLine → ReduceOptions
reduce_read line = record {
  mode = mode_of line.mode;
  respell = line.respell;
  input = line.input.now;
  output = line.output.now;
  script = line.script.now;
  journal = journal_of line;
  resume = option_map (λ resume. resume.now) line.resume;
  work = line.work.now;
  jobs = line.jobs;
  keeps = map (λ keep. keep.now) line.keeps.items;
  protects = protects_read line.protects;
}

abbrev pub selftest_read : SelftestLine → SelftestOptions
selftest_read line = record { number = line.number; size = line.size; mode = line.mode }

abbrev pub check_read : CheckLine → CheckOptions
check_read line = record {
  mode = mode_of line.mode;
  input = line.input.now;
  output = line.output.now;
  journal = line.journal.now;
  keeps = map (λ keep. keep.now) line.keeps.items;
}

abbrev pub command_read : CommandLine → Command
command_read (read.Reduce line) = Command.reduce (reduce_read line)
command_read (read.Normal line) = Command.normal (grammar_read line)
command_read (read.Selftest line) = Command.selftest (selftest_read line)
command_read (read.Check line) = Command.check (check_read line)

-- there are 1 to 16 workers, and the size of a program is from 1 to 1500
abbrev pub IsSized : CommandLine → Type 0
IsSized (read.Reduce line) = (1 ≤ line.jobs) × (line.jobs ≤ 16)
IsSized (read.Normal line) = Unit {0}
IsSized (read.Selftest line) = (1 ≤ line.size) × (line.size ≤ 1500)
IsSized (read.Check line) = Unit {0}
