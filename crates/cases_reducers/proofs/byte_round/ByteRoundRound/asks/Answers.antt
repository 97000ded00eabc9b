use Rattle.std.proofs.Common.{◌≡◌, length, sym, ◌∙◌, refl, ap, subst, rules, Some, true}
use Rattle.std.specs.Prelude.{option_map, nat_lt}
use Rattle.reduce_rounds.specs.Fields.{listed_text, text_if}
use Rattle.cases_reducers.specs.Fields.{IsNext, rest_at}
use Rattle.cases_reducers.specs.ByteMode.{byte_mode}
use Rattle.cases_reducers.proofs.RoundLemmas as lemmas
use Rattle.cases_reducers.proofs.byte_round.ByteRoundRound.asks.Goals as goal

pub returns-then-len-gt1-clause-text : goal.returns-then-len-gt1-clause-text
returns-then-len-gt1-clause-text c =
    let is : option_map (λ v. v.items) c.args.self.now.next ≡ Some c.in-Some.next.items = ap (option_map (λ v. v.items)) c.in-Some.is in
    let h =
    lemmas.asks-now c.args.self.now.start.now c.args.self.now.text.items c.in-Some.next.items c.args.self.now.at
    (subst (λ n. IsNext c.args.self.now.text.items n c.args.self.now.at) is c.args.self.now.agrees.next_is) in
    let long : nat_lt 1 (length c.in-Some.next.items) ≡ true = search rules in
    let listed : text_if (nat_lt 1 (length c.in-Some.next.items)) c.in-Some.next.items ≡ Some c.in-Some.next.items = rw long refl in
    ap (λ t. Some t) c.as_slice.ensures.value ∙ sym listed ∙ sym h
    ∙ ap (λ n. listed_text (byte_mode c.args.self.now.start.now) (rest_at c.args.self.now.text.items n c.args.self.now.at)) (sym is)
