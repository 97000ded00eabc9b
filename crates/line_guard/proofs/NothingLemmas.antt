-- What is protected where nothing is wished for.
use Rattle.std.proofs.Common.{◌≡◌, ◌+◌, ℕ, Bool, true, false, ◌&&◌, ◌||◌, List, [], ◌∷◌, refl, ap, ◌∙◌}
use Rattle.std.proofs.Math.Path.{fun_ext}
use Rattle.std.specs.List.{list_any}
use Rattle.grammar_tree.specs.Lexes.{PlacedToken}
use Rattle.keep_guard.specs.Keep.{holds_all}
use Rattle.reduce_core.specs.Lines.{numbered_lines}
use Rattle.reduce_core.specs.declared.lines.Line.{Line}
use Rattle.line_guard.specs.Laws.{NothingIsProtected}
use Rattle.line_guard.specs.Protected.{is_protected, is_token_protected, lies_on, numbers_where}

and-false : (b : Bool) → (b && false) ≡ false
and-false true = refl
and-false false = refl

and-true : (b : Bool) → (b && true) ≡ b
and-true true = refl
and-true false = refl

no-line : (number : ℕ) (lines : List Line) → numbers_where (is_protected []) number lines ≡ []
no-line number [] = refl
no-line number (line ∷ lines) = no-line (number + 1) lines

on-none : (start : List ℕ) (token : PlacedToken) (lines : List Line) → list_any (λ line. lies_on start token line && is_protected [] line) lines ≡ false
on-none start token [] = refl
on-none start token (line ∷ lines) =
    ap (λ (b : Bool). b || list_any (λ line. lies_on start token line && is_protected [] line) lines) (and-false (lies_on start token line))
    ∙ on-none start token lines

no-token : (start : List ℕ) (number : ℕ) (tokens : List PlacedToken) → numbers_where (is_token_protected [] start) number tokens ≡ []
no-token start number [] = refl
no-token start number (token ∷ tokens) =
    rw (on-none start token (numbered_lines start)) (no-token start (number + 1) tokens)

pub nothing_is_protected : NothingIsProtected
nothing_is_protected = record {
  lines = λ start. no-line 0 (numbered_lines start);
  tokens = λ start tokens. no-token start 0 tokens;
  admits = λ texts. fun_ext (λ kept. fun_ext (λ text. and-true (holds_all texts text)));
}
