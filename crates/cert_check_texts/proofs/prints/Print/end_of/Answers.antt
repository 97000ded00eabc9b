use Rattle.std.proofs.Common.{◌++◌, List, ℕ, length, arith, length-append, ap, refl, sym, ◌∙◌}
use Rattle.std.proofs.lemmas.List.{length-drop, length-map}
use Rattle.lexer.specs.Tokens.{token_of}
use Rattle.cert_check_texts.specs.inner.Print.{tokens_in}
use Rattle.cert_check_texts.proofs.Ending as ending
use Rattle.cert_check_texts.proofs.prints.Print.end_of.Goals as goal

pub overflow_sub-result : goal.overflow_sub-result
overflow_sub-result c =
    omega (
      arith,
      ap length c.rest_from-rest.ensures,
      length-drop c.args.offset c.args.self.now.text.now,
      ap length c.in_ok-after_front.ensures,
      length-append c.as_bytes-front.result.now c.in_ok-after_front.after_front.now,
      ap length c.in_ok-after_word.ensures,
      length-append c.as_bytes-word.result.now c.in_ok-after_word.after_word.now,
    )

pub returns-in_err-after_front : goal.returns-in_err-after_front
returns-in_err-after_front c =
    let front = c.as_bytes-front.ensures.value ∙ c.before-2.ensures in
    rw c.from_residual.ensures (ending.no_front c.args.self.now.layout.skips c.args.self.now.layout.start.now
    (tokens_in c.args.self.now) c.args.self.now.layout.style c.args.self.now.text.now c.args.last c.args.offset c.args.index c.rest_from-rest.result.now
    c.rest_from-rest.ensures (λ other is. c.in_err-after_front.ensures other (is ∙ ap (λ (t : List ℕ). t ++ other) (sym front))))

pub returns-in_err-after_word : goal.returns-in_err-after_word
returns-in_err-after_word c =
    let front = c.as_bytes-front.ensures.value ∙ c.before-2.ensures in
    let word = c.as_bytes-word.ensures.value ∙ c.spelling.ensures in
    rw c.from_residual-in_err-after_word.ensures (ending.no_word c.args.self.now.layout.skips c.args.self.now.layout.start.now
    (tokens_in c.args.self.now) c.args.self.now.layout.style c.args.self.now.text.now c.args.last c.args.offset c.args.index c.rest_from-rest.result.now
    c.in_ok-after_front.after_front.now c.rest_from-rest.ensures
    (c.in_ok-after_front.ensures ∙ ap (λ (t : List ℕ). t ++ c.in_ok-after_front.after_front.now) front)
    (λ other is. c.in_err-after_word.ensures other (is ∙ ap (λ (t : List ℕ). t ++ other) (sym word))))

pub returns : goal.returns
returns c =
    let front = c.as_bytes-front.ensures.value ∙ c.before-2.ensures in
    let word = c.as_bytes-word.ensures.value ∙ c.spelling.ensures in
    ending.ends_there c.args.self.now.layout.skips c.args.self.now.layout.start.now
    (tokens_in c.args.self.now) c.args.self.now.layout.style c.args.self.now.text.now c.args.last c.args.offset c.args.index c.requires.laid.order
    c.requires.after (omega (arith, c.requires.there, length-map c.args.self.now.layout.tokens.now token_of)) c.rest_from-rest.result.now
    c.in_ok-after_front.after_front.now c.in_ok-after_word.after_word.now _ c.rest_from-rest.ensures
    (c.in_ok-after_front.ensures ∙ ap (λ (t : List ℕ). t ++ c.in_ok-after_front.after_front.now) front)
    (c.in_ok-after_word.ensures ∙ ap (λ (t : List ℕ). t ++ c.in_ok-after_word.after_word.now) word) refl
