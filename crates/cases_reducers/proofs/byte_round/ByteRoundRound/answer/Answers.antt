use Rattle.std.proofs.Common.{◌≡◌, sym, ◌∙◌, ap, subst, rules, Some}
use Rattle.std.specs.Prelude.{option_map}
use Rattle.reduce_rounds.specs.Trials.{state_after, trials_after}
use Rattle.cases_reducers.specs.Fields.{IsNext, rest_at}
use Rattle.cases_reducers.proofs.RoundLemmas as lemmas
use Rattle.cases_reducers.proofs.byte_round.ByteRoundRound.answer.Goals as goal

pub returns-clause-rest : goal.returns-clause-rest
returns-clause-rest c =
    let is : option_map (λ v. v.items) c.args.self.now.next ≡ Some c.in-Some.next.items = search rules in
    let other : c.args.self.now.at ≡ 0 → ⊥ = search rules in
    let both =
    lemmas.answered-at c.args.yes c.args.self.now.text.items c.in-Some.next.items c.go_on.new.text.items
    (option_map (λ v. v.items) c.in_ok-self.field-0) c.args.self.now.at c.go_on.new.at
    (subst (λ n. IsNext c.args.self.now.text.items n c.args.self.now.at) is c.args.self.now.agrees.next_is) other c.go_on.ensures.text c.go_on.ensures.at
    (search rules) in
    both.0 ∙ ap (λ n. trials_after (rest_at c.args.self.now.text.items n c.args.self.now.at) c.args.yes) (sym is)

pub returns-clause-state : goal.returns-clause-state
returns-clause-state c =
    let is : option_map (λ v. v.items) c.args.self.now.next ≡ Some c.in-Some.next.items = search rules in
    let other : c.args.self.now.at ≡ 0 → ⊥ = search rules in
    let both = lemmas.answered-at c.args.yes c.args.self.now.text.items c.in-Some.next.items c.go_on.new.text.items
    (option_map (λ v. v.items) c.in_ok-self.field-0) c.args.self.now.at c.go_on.new.at
    (subst (λ n. IsNext c.args.self.now.text.items n c.args.self.now.at) is c.args.self.now.agrees.next_is) other c.go_on.ensures.text
    c.go_on.ensures.at (search rules) in
    both.1 ∙ ap (λ n. state_after c.args.self.now.text.items (rest_at c.args.self.now.text.items n c.args.self.now.at) c.args.yes) (sym is)
