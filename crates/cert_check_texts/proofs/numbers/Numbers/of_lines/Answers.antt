use Rattle.std.proofs.Common.{◌≡◌, ℕ, [], ap, arith, length, refl, subst, sym, ◌∙◌}
use Rattle.std.proofs.lemmas.List.{length-drop}
use Rattle.cert_check_texts.specs.inner.Numbers.{HasNumbers, line_at}
use Rattle.cert_check_texts.specs.declared.numbers.Numbers.{Numbers}
use Rattle.cert_check_texts.proofs.Lists.{more_numbers, no_numbers}
use Rattle.cert_check_texts.proofs.Taking.{all_read, empty_is, line_there, lines_after, split_lines}
use Rattle.cert_check_texts.proofs.numbers.Numbers.of_lines.Goals as goal

pub overflow_add-number : goal.overflow_add-number
overflow_add-number c = omega (arith, c.loop-lines.invariant.few, c.requires)

pub loop-lines-init : goal.loop-lines-init
loop-lines-init c =
    let numbers : Numbers = record { lists = c.new.result } in
    record {
      few = omega arith;
      rest = refl;
      within = omega arith;
      has = no_numbers numbers (line_at c.args.start.now) (λ bytes. rw c.new.ensures.empty refl);
    }

pub loop-lines-preserved : goal.loop-lines-preserved
loop-lines-preserved c =
    let before = c.loop-lines.invariant in
    let is =
    split_lines c.loop-lines.lines.now c.split_at.result.0.now c.split_at.result.1.now c.first_line_end.result c.first_line_end.ensures.line
    c.split_at.ensures.front c.split_at.ensures.back in
    let there = line_there c.args.start.now c.split_at.result.0.now c.split_at.result.1.now c.loop-lines.number (before.rest ∙ is) in
    record {
      few =
          omega (
            arith,
            before.few,
            ap length c.split_at.ensures.back,
            length-drop c.first_line_end.result c.loop-lines.lines.now,
            c.first_line_end.ensures.some,
            c.first_line_end.ensures.within,
          );
      rest = lines_after c.args.start.now c.split_at.result.0.now c.split_at.result.1.now c.loop-lines.number (before.rest ∙ is);
      within = omega (arith, there.0);
      has =
          more_numbers c.loop-lines.numbers c.add.new.self (line_at c.args.start.now) c.loop-lines.number c.split_at.result.0.now (sym there.1)
          c.in_ok-add.ensures before.has;
    }

pub returns : goal.returns
returns c =
    let none : c.loop-lines.lines.now ≡ [] = (empty_is c.loop-lines.lines.now _ c.is_empty.result refl c.is_empty.ensures).0 c.loop-lines-test.false in
    subst (λ (n : ℕ). HasNumbers c.loop-lines.numbers (line_at c.args.start.now) n)
    (all_read c.args.start.now c.loop-lines.lines.now c.loop-lines.number none c.loop-lines.invariant.rest c.loop-lines.invariant.within)
    c.loop-lines.invariant.has
