use Rattle.std.proofs.Common.{arith, ◌∷◌, [], ◌++◌, ap, ◌∙◌}
use Rattle.lexer_match.proofs.Found.{numbered_last, sets_as, sets_more, starts_as}
use Rattle.lexer_match.proofs.subsets.FoundSets.add.Goals as goal

pub returns-then-not-may-clause-grown : goal.returns-then-not-may-clause-grown
returns-then-not-may-clause-grown c = starts_as c.may_look-may.new.self.sets.items c.args.self.now.sets.items c.may_look-may.ensures.sets

pub returns-then-not-may-clause-sets : goal.returns-then-not-may-clause-sets
returns-then-not-may-clause-sets c P set are = sets_as P c.may_look-may.new.self.sets.items c.args.self.now.sets.items c.may_look-may.ensures.sets are

pub returns-clause-grown : goal.returns-clause-grown
returns-clause-grown c = (c.args.states ∷ [], c.in_ok-push.ensures.items ∙ ap (λ l. l ++ c.args.states ∷ []) c.may_look-may.ensures.sets)

pub returns-clause-sets : goal.returns-clause-sets
returns-clause-sets c P set are =
    let mid = c.may_look-may.new.self.sets.items in
    sets_more P mid c.push.new.self.items c.args.states c.in_ok-push.ensures.items set
    (sets_as P mid c.args.self.now.sets.items c.may_look-may.ensures.sets are)

pub returns-clause-number : goal.returns-clause-number
returns-clause-number c =
    numbered_last c.may_look-may.new.self.sets.items c.push.new.self.items c.args.states c.len-number.result c.in_ok-push.ensures.items
    (omega (arith, c.len-number.ensures, c.may_look-may.new.self.sets.ok.0))
