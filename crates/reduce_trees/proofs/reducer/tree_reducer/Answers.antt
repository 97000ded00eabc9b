use Rattle.std.proofs.Common.{◌≡◌, ◌∙◌, ap, sym, length, vec_len, arith, rules}
use Rattle.std.proofs.lemmas.List.{length-map}
use Rattle.lexer.specs.Tokens.{token_of}
use Rattle.reduce_rounds.specs.RoundsPlan.{plan_first}
use Rattle.syntax_tree.specs.Trees.{weight}
use Rattle.token_print.specs.declared.style.Style.{Style}
use Rattle.reduce_trees_mode.specs.Input.{TreeInput}
use Rattle.reduce_trees_mode.specs.Listed.{text_of_state}
use Rattle.reduce_trees_mode.specs.InStyles.{in_style}
use Rattle.reduce_trees_mode.proofs.Lent.{weight_whole}
use Rattle.reduce_trees_mode.specs.InputOf.{input_of}
use Rattle.reduce_trees.specs.WalkMode.{walk_mode}
use Rattle.reduce_trees.proofs.reducer.tree_reducer.Goals as goal

pub new-requires-2-clause-state : goal.new-requires-2-clause-state
new-requires-2-clause-state g c = c.in_ok-round.ensures.state ∙ ap (λ (input : TreeInput). in_style Style.AsWas input.whole) (sym c.in_ok-round.ensures.input)

pub new-requires-2-clause-rest : goal.new-requires-2-clause-rest
new-requires-2-clause-rest g c =
    c.in_ok-round.ensures.rest ∙ ap (λ (input : TreeInput). (walk_mode g.W.TreeWalk.round input).opening) (sym c.in_ok-round.ensures.input)

pub new-requires-2-clause-text : goal.new-requires-2-clause-text
new-requires-2-clause-text g c =
    let parts = c.args.parts.now in
    let input =
    input_of parts.start.grammar parts.formed parts.tree parts.start.bytes parts.tokens.items.items (g.F.Relation.admits parts.guard) parts.squeezes in
    let bytes : c.in_ok-text.text.items ≡ c.args.parts.now.start.bytes = search rules in
    bytes ∙ sym (c.whole_is_start.ensures input c.is_input.ensures.is).text
    ∙ ap (λ (other : TreeInput). text_of_state other (in_style Style.AsWas other.whole)) (sym c.in_ok-round.ensures.input)

pub new-requires-2-clause-units : goal.new-requires-2-clause-units
new-requires-2-clause-units g c =
    let parts = c.args.parts.now in
    let input = input_of parts.start.grammar parts.formed parts.tree parts.start.bytes parts.tokens.items.items
    (g.F.Relation.admits parts.guard) parts.squeezes in
    let tokens = c.args.parts.now.tokens.items in
    let many : vec_len tokens ≡ length tokens.items = omega (arith, tokens.ok.0) in
    c.len-tokens.ensures ∙ many ∙ sym (length-map tokens.items token_of) ∙ sym (weight_whole input c.is_input.ensures.is)
    ∙ ap (λ (other : TreeInput). weight other.whole) (sym c.in_ok-round.ensures.input)

pub returns-clause-plan : goal.returns-clause-plan
returns-clause-plan g c = c.new-2.ensures.plan ∙ ap (λ (input : TreeInput). plan_first (walk_mode g.W.TreeWalk.round input)) c.in_ok-round.ensures.input

pub returns-clause-first : goal.returns-clause-first
returns-clause-first g c = c.new-2.ensures.first ∙ ap (λ (input : TreeInput). plan_first (walk_mode g.W.TreeWalk.round input)) c.in_ok-round.ensures.input

pub returns-clause-start : goal.returns-clause-start
returns-clause-start g c =
    let start = c.new-2.ensures.start in (
      start.0 ∙ ap (λ (input : TreeInput). (walk_mode g.W.TreeWalk.round input).text (walk_mode g.W.TreeWalk.round input).start) c.in_ok-round.ensures.input,
      start.1 ∙ ap (λ (input : TreeInput). (walk_mode g.W.TreeWalk.round input).size (walk_mode g.W.TreeWalk.round input).start) c.in_ok-round.ensures.input,
    )
