use Rattle.std.proofs.Common.{List, ℕ, true, false, sym, ◌∙◌, subst}
use Rattle.std.proofs.Math.ListN.{set}
use Rattle.lexer_match.specs.inner.StateSets.{HasGrown}
use Rattle.lexer_match.proofs.StateSets.{index_default, push_marks}
use Rattle.lexer_match.proofs.state_set.StateSet.add.Goals as goal

pub returns-clause-grown : goal.returns-clause-grown
returns-clause-grown c =
    let states = c.args.self.now.states.items in
    let marks = c.args.self.now.marks.items in
    let P : List ℕ → Type 0 = λ x. HasGrown states x marks (set marks c.args.state true) in
    subst P (sym c.in_ok-push.ensures.items)
    (push_marks states marks c.args.state c.requires.inside
    (index_default marks c.args.state false c.index.result.now c.requires.inside ∙ sym c.index.ensures ∙ c.if-index.false) c.requires.marked)
