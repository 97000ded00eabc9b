-- The texts of a start that may be asked are the candidates of its reduction.
use Rattle.std.proofs.Common.{◌≡◌, ℕ, Bool, List, sym, ap, ◌∙◌, subst}
use Rattle.grammar_tree.specs.Written.{CheckedGrammar}
use Rattle.grammar_tree.specs.Lexes.{PlacedToken}
use Rattle.token_print.specs.declared.style.Style.{Style}
use Rattle.token_print.specs.Kept.{AreKept, KeepsTokens}
use Rattle.token_print.specs.Printed.{IsPrinted}
use Rattle.reduce_trees_mode.specs.Candidates.{InLanguage}
use Rattle.reduce_trees_mode.specs.Input.{TreeInput}
use Rattle.cert_check_texts.specs.Laws.{IsInputFrom, TextsAreCandidates}
use Rattle.cert_check_texts.specs.Texts.{TreeStart}

-- a grammar, a start and its tokens
abbrev Parts : Type 0
Parts = CheckedGrammar × (List ℕ × List PlacedToken)

same_parts : (from : TreeStart) (input : TreeInput) → IsInputFrom from input
    → ◌≡◌ {A = Parts} (input.grammar, (input.start, input.tokens)) (from.grammar, (from.start, from.tokens))
same_parts from input is = λ i. (is.same_grammar i, (is.same_start i, is.same_tokens i))

-- What is said of a text of these parts.
abbrev Prints : List ℕ → Style → List ℕ → Parts → Type 0
Prints kept style text p =
    AreKept p.1.1 kept × IsPrinted p.0.grammar p.1.0 p.1.1 kept style text × KeepsTokens p.0.grammar p.1.0 p.1.1 kept text × InLanguage p.0 text

pub texts_are_candidates : TextsAreCandidates
texts_are_candidates from input text is = (
  λ one.
      let it =
      subst (Prints one.print.kept one.style text) (sym (same_parts from input is))
      (one.print.are_kept, one.print.printed_so, one.print.keeps, one.in_language) in
      record {
        kept = one.print.kept;
        style = one.style;
        are_kept = it.0;
        printed_so = it.1;
        keeps = it.2;
        admitted = ap (λ (a : List ℕ → List ℕ → Bool). a one.print.kept text) is.admits ∙ one.held;
        in_language = it.3;
      },
  λ one.
      let it = subst (Prints one.kept one.style text) (same_parts from input is) (one.are_kept, one.printed_so, one.keeps, one.in_language) in
      record {
        style = one.style;
        print = record { kept = one.kept; are_kept = it.0; printed_so = it.1; keeps = it.2 };
        held = sym (ap (λ (a : List ℕ → List ℕ → Bool). a one.kept text) is.admits) ∙ one.admitted;
        in_language = it.3;
      },
)
