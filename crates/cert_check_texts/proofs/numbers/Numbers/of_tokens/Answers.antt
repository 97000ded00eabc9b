use Rattle.std.proofs.Common.{◌≡◌, ℕ, arith, length, map, refl, subst, ◌∙◌}
use Rattle.lexer.specs.Tokens.{token_of}
use Rattle.token_print.specs.Spelling.{spelling_at}
use Rattle.token_print.proofs.Lent.{slice}
use Rattle.cert_check_texts.specs.inner.Numbers.{HasNumbers}
use Rattle.cert_check_texts.specs.declared.numbers.Numbers.{Numbers}
use Rattle.cert_check_texts.proofs.Lists.{more_numbers, no_numbers}
use Rattle.cert_check_texts.proofs.Offsets.{spelled}
use Rattle.cert_check_texts.proofs.numbers.Numbers.of_tokens.Goals as goal

pub spelling-spelling-requires : goal.spelling-spelling-requires
spelling-spelling-requires c = slice c.args.start.now c.args.tokens.now c.requires.order.slices c.loop-index.index _ (omega arith)

pub loop-index-init : goal.loop-index-init
loop-index-init c =
    let numbers : Numbers = record { lists = c.new.result } in
    no_numbers numbers (spelling_at c.args.start.now (map token_of c.args.tokens.now)) (λ bytes. rw c.new.ensures.empty refl)

pub loop-index-preserved : goal.loop-index-preserved
loop-index-preserved c =
    more_numbers c.loop-index.numbers c.add.new.self (spelling_at c.args.start.now (map token_of c.args.tokens.now)) c.loop-index.index c.as_bytes.result.now
    (c.as_bytes.ensures.value ∙ c.spelling-spelling.ensures ∙ spelled c.args.start.now c.args.tokens.now c.loop-index.index _ (omega arith))
    c.in_ok-add.ensures c.loop-index.invariant

pub returns : goal.returns
returns c =
    let done : c.loop-index.index ≡ length c.args.tokens.now = omega arith in
    subst (λ (n : ℕ). HasNumbers c.loop-index.numbers (spelling_at c.args.start.now (map token_of c.args.tokens.now)) n) done c.loop-index.invariant
