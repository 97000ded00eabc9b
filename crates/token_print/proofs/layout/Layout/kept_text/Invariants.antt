use Rattle.std.proofs.Common.{◌≡◌, ◌≤◌, ◌-◌, ◌++◌, length, map}
use Rattle.lexer.specs.Tokens.{token_of}
use Rattle.token_print.specs.Runs.{stretches}
use Rattle.token_print.specs.inner.RunTexts.{runs_text, text_from}
use Rattle.token_print.proofs.layout.Layout.kept_text.Given as goal

abbrev pub invariant-loop-next : goal.invariant-loop-next
invariant-loop-next l = record {
  inside : l.next ≤ length l.kept;
  written : l.text.items ++ text_from l.self.skips l.self.start.now (map token_of l.self.tokens.now) l.self.style l.kept l.next
      ≡ runs_text l.self.skips l.self.start.now (map token_of l.self.tokens.now) l.self.style (stretches l.self.style l.kept);
}

abbrev pub decreases-loop-next : goal.decreases-loop-next
decreases-loop-next l = length l.kept - l.next
