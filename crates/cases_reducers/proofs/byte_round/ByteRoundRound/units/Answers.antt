use Rattle.std.proofs.Common.{◌≡◌, length, sym, ap, subst, rules, Some}
use Rattle.std.specs.Prelude.{option_map}
use Rattle.reduce_rounds.specs.Trials.{tried_state}
use Rattle.std.specs.Option.{IfSome}
use Rattle.cases_reducers.specs.Fields.{IsNext, rest_at}
use Rattle.cases_reducers.proofs.RoundLemmas as lemmas
use Rattle.cases_reducers.proofs.byte_round.ByteRoundRound.units.Goals as goal

pub returns : goal.returns
returns c =
    let is : option_map (λ v. v.items) c.args.self.now.next ≡ Some c.in-Some.next.items = ap (option_map (λ v. v.items)) c.in-Some.is in
    let h =
    lemmas.units-now c.args.self.now.text.items c.in-Some.next.items c.args.self.now.at
    (subst (λ n. IsNext c.args.self.now.text.items n c.args.self.now.at) is c.args.self.now.agrees.next_is) in
    subst (λ n. IfSome (tried_state (rest_at c.args.self.now.text.items n c.args.self.now.at)) (λ s. c.len.result ≡ length s)) (sym is)
    (subst (λ u. IfSome (tried_state (rest_at c.args.self.now.text.items (Some c.in-Some.next.items) c.args.self.now.at)) (λ s. u ≡ length s))
    (sym (search rules)) h)
