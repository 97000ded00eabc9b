use Rattle.std.proofs.Common.{◌≡◌, true, false, [], ◌∷◌, MatchOption, IfSome, subst}
use Rattle.grammar_reader_words.specs.Words.{is_last}
use Rattle.grammar_reader.proofs.reader.next_word.Goals as goal

pub returns-in-Some-clause-word : goal.returns-in-Some-clause-word
returns-in-Some-clause-word c =
    subst (λ o. MatchOption o ((c.args.words.now ≡ []) × (c.next.new.self ≡ [])) (λ p. c.args.words.now ≡ p ∷ c.next.new.self)) c.in-Some.is
    c.in-Ok.ensures.word

pub returns-in-Some-clause-ends : goal.returns-in-Some-clause-ends
returns-in-Some-clause-ends c = subst (λ o. IfSome o (λ p. is_last p.word ≡ true → c.next.new.self ≡ [])) c.in-Some.is c.in-Ok.ensures.ends

pub returns-in-Some-clause-goes_on : goal.returns-in-Some-clause-goes_on
returns-in-Some-clause-goes_on c = subst (λ o. IfSome o (λ p. is_last p.word ≡ false → c.next.new.self ≡ [] → ⊥)) c.in-Some.is c.in-Ok.ensures.goes_on
