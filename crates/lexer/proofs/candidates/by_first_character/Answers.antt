use Rattle.std.proofs.Common.{◌∷◌, [], map, arith, ap, length, length-append}
use Rattle.lexer.specs.declared.candidates.Beginning.{Beginning}
use Rattle.lexer.proofs.Listed.{listed_more}
use Rattle.lexer.proofs.candidates.by_first_character.Goals as goal

pub loop-c-preserved : goal.loop-c-preserved
loop-c-preserved c =
    record {
      listed =
          listed_more c.args.nfa.now (map (λ (b : Beginning). b.alternative) c.args.beginnings.now) c.loop-c.lists.items c.push.new.self.items c.in_ok-list.list
          c.loop-c.c c.in_ok-push.ensures.items c.loop-c.invariant.count c.loop-c.invariant.listed c.in_ok-list.ensures;
      count = omega (arith, ap length c.in_ok-push.ensures.items, length-append c.loop-c.lists.items (c.in_ok-list.list ∷ []), c.loop-c.invariant.count);
    }
