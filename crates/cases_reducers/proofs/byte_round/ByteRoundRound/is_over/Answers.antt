use Rattle.std.proofs.Common.{rules}
use Rattle.std.specs.Prelude.{option_map}
use Rattle.cases_reducers.proofs.RoundLemmas as lemmas
use Rattle.cases_reducers.proofs.byte_round.ByteRoundRound.is_over.Goals as goal

pub returns : goal.returns
returns c = let h =
    lemmas.over-now c.args.self.now.text.items (option_map (λ v. v.items) c.args.self.now.next) c.args.self.now.at c.args.self.now.agrees.next_is in
    search rules
