use Rattle.std.proofs.Common.{◌≡◌, Some, map, slice_get, sym, ap, ◌∙◌, arith}
use Rattle.std.proofs.lemmas.Option.{slice_get-get_or}
use Rattle.lexer.specs.declared.candidates.Beginning.{Beginning}
use Rattle.lexer.proofs.Singles.{below_next, get_contains, mapped_get, single_all, single_more, up_to_next}
use Rattle.lexer.proofs.gaps.singles_of.Goals as goal

pub add_alternative-requires-clause-beginning : goal.add_alternative-requires-clause-beginning
add_alternative-requires-clause-beginning c =
    let bs = c.args.beginnings.now in
    let i = c.loop-beginning.beginning-index in
    let b = c.beginning-item.result in
    let at : slice_get bs i ≡ Some b = slice_get-get_or bs i b (omega arith) ∙ ap Some (sym c.beginning-item.is) in
    c.requires.beginnings b (get_contains bs b i at)

pub add_alternative-requires-clause-start : goal.add_alternative-requires-clause-start
add_alternative-requires-clause-start c =
    let bs = c.args.beginnings.now in
    let i = c.loop-beginning.beginning-index in
    let b = c.beginning-item.result in
    let at : slice_get bs i ≡ Some b = slice_get-get_or bs i b (omega arith) ∙ ap Some (sym c.beginning-item.is) in
    let all = map (λ (x : Beginning). x.alternative) bs in
    c.requires.nfa.inside b.alternative (get_contains all b.alternative i (mapped_get bs b i at))

pub loop-beginning-preserved : goal.loop-beginning-preserved
loop-beginning-preserved c =
    let P = c.args.nfa.now in
    let bs = c.args.beginnings.now in
    let i = c.loop-beginning.beginning-index in
    let b = c.beginning-item.result in
    let at : slice_get bs i ≡ Some b = slice_get-get_or bs i b (omega arith) ∙ ap Some (sym c.beginning-item.is) in
    let old = c.loop-beginning.singles.items in
    let new = c.add_alternative.new.singles.items in
    let before = c.loop-beginning.invariant in
    let order = c.in_ok-add_alternative.ensures.order (up_to_next P bs old i b at c.requires.order before.never_fall before.below) in
    record {
      singles = λ k d scalar. single_more P bs old new i k d b at (before.singles k d scalar) (c.in_ok-add_alternative.ensures.added k d scalar);
      never_fall = order.never_fall;
      below = below_next P bs new i b at order;
    }

pub returns-clause-singles : goal.returns-clause-singles
returns-clause-singles c k d scalar =
    single_all c.args.nfa.now c.args.beginnings.now c.loop-beginning.singles.items c.loop-beginning.beginning-index k d (omega arith)
    (c.loop-beginning.invariant.singles k d scalar)
