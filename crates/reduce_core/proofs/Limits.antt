-- How long lines and their texts are.
use Rattle.std.proofs.Common.{◌≤◌, ◌+◌, ℕ, Bool, true, false, List, [], ◌∷◌, length, ap, arith}
use Rattle.std.proofs.lemmas.Bool.{cond_both}
use Rattle.std.proofs.lemmas.List.{length-append}
use Rattle.std.specs.Prelude.{◌==◌}
use Rattle.list_ddmin.specs.ListStep.{kept_of}
use Rattle.reduce_step.specs.Limits.{text_limit}
use Rattle.reduce_core.specs.declared.lines.Line.{Line}
use Rattle.reduce_core.specs.Lines.{at_front_of, lines_of, numbered_lines, text_of}
use Rattle.reduce_core.specs.inner.Fields.{IsInLimit}
use Rattle.reduce_core.proofs.LinesLemmas.{kept_of-rises, length-numbered, numbered_lines-rise, text-numbered_lines}
use Rattle.reduce_core.proofs.Keeping.{length-kept_of}

pub length-text-kept_of : (keep : List Bool) (lines : List Line) → length (text_of (kept_of keep lines)) ≤ length (text_of lines)
length-text-kept_of [] lines = omega arith
length-text-kept_of (true ∷ keep) [] = omega arith
length-text-kept_of (false ∷ keep) [] = omega arith
length-text-kept_of (true ∷ keep) (line ∷ lines) =
    let rest = length-text-kept_of keep lines in
    omega (arith, length-append line.bytes (text_of (kept_of keep lines)), length-append line.bytes (text_of lines))
length-text-kept_of (false ∷ keep) (line ∷ lines) =
    let rest = length-text-kept_of keep lines in omega (arith, length-append line.bytes (text_of lines))

-- fewer lines are in the limit too
pub limit-kept : (keep : List Bool) (lines : List Line) → IsInLimit lines → IsInLimit (kept_of keep lines)
limit-kept keep lines limit = record {
  few = let fewer = length-kept_of keep lines in omega (arith, limit.few);
  short = let shorter = length-text-kept_of keep lines in omega (arith, limit.short);
  rising = kept_of-rises keep lines limit.rising;
}

length-at_front_of : (byte : ℕ) (lines : List (List ℕ)) → length (at_front_of byte lines) ≤ length lines + 1
length-at_front_of byte [] = omega arith
length-at_front_of byte (line ∷ lines) = omega arith

-- a text has no more lines than bytes
length-lines_of : (text : List ℕ) → length (lines_of text) ≤ length text
length-lines_of [] = omega arith
length-lines_of (byte ∷ text) =
    let rest = length-lines_of text in
    cond_both (byte == 10) ((byte ∷ []) ∷ lines_of text) (at_front_of byte (lines_of text)) (λ lines. length lines ≤ length (byte ∷ text))
    (λ _. omega arith) (λ _. let front = length-at_front_of byte (lines_of text) in omega arith)

pub limit-lines_of : (text : List ℕ) → length text ≤ text_limit → IsInLimit (numbered_lines text)
limit-lines_of text short = record {
  few = let fewer = length-lines_of text in omega (arith, length-numbered 0 (lines_of text));
  short = let same = ap length (text-numbered_lines text) in omega arith;
  rising = numbered_lines-rise text;
}
