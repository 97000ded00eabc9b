use Rattle.std.proofs.Common.{◌≡◌, ◌∙◌, List, ap, sym, subst, length, vec_len, arith, rules}
use Rattle.std.proofs.lemmas.List.{length-map}
use Rattle.grammar_tree.specs.Lexes.{PlacedToken}
use Rattle.lexer.specs.Tokens.{token_of}
use Rattle.reduce_rounds.specs.RoundsPlan.{plan_first}
use Rattle.syntax_tree.specs.Trees.{weight}
use Rattle.token_print.specs.declared.style.Style.{Style}
use Rattle.reduce_trees_mode.specs.Input.{TreeInput}
use Rattle.reduce_trees_mode.specs.InputOf.{input_of}
use Rattle.reduce_trees_mode.specs.Listed.{text_of_state}
use Rattle.reduce_trees_mode.specs.InStyles.{in_style}
use Rattle.reduce_trees_mode.proofs.Lent.{weight_whole}
use Rattle.spell_shrink.specs.KindWords.{AreWordsOf}
use Rattle.spell_shrink.specs.Respelled.{Reduced}
use Rattle.spell_shrink.specs.SpellMode.{spell_mode, trials_as}
use Rattle.spell_shrink.proofs.speller.tree_speller.Goals as goal

pub new-round-requires : goal.new-round-requires
new-round-requires g c = subst (λ (input : TreeInput). AreWordsOf input.start input.tokens c.args.words.now) (sym c.requires.input) c.requires.words

pub new-requires-clause-state : goal.new-requires-clause-state
new-requires-clause-state g c =
    c.new-round.ensures.state ∙ ap Reduced c.requires.state
    ∙ ap (λ (input : TreeInput). Reduced (in_style Style.AsWas input.whole)) (sym (c.new-round.ensures.input ∙ c.requires.input))

pub new-requires-clause-rest : goal.new-requires-clause-rest
new-requires-clause-rest g c =
    c.new-round.ensures.rest ∙ ap (trials_as Reduced) c.requires.rest
    ∙ ap (λ (input : TreeInput). (spell_mode g.W.TreeWalk.round input).opening) (sym (c.new-round.ensures.input ∙ c.requires.input))

pub new-requires-clause-text : goal.new-requires-clause-text
new-requires-clause-text g c =
    let parts = c.args.parts.now in
    let input =
    input_of parts.start.grammar parts.formed parts.tree parts.start.bytes parts.tokens.items.items (g.F.Relation.admits parts.guard) parts.squeezes in
    let bytes : c.in_ok-text.text.items ≡ parts.start.bytes = search rules in
    bytes ∙ sym (c.whole_is_start.ensures input c.is_input.ensures.is).text
    ∙ ap (λ (other : TreeInput). text_of_state other (in_style Style.AsWas other.whole)) (sym (c.new-round.ensures.input ∙ c.requires.input))

pub new-requires-clause-units : goal.new-requires-clause-units
new-requires-clause-units g c =
    let parts = c.args.parts.now in
    let input =
    input_of parts.start.grammar parts.formed parts.tree parts.start.bytes parts.tokens.items.items (g.F.Relation.admits parts.guard) parts.squeezes in
    let tokens = c.tokens.result.now.items in
    let many : vec_len tokens ≡ length tokens.items = omega (arith, tokens.ok.0) in
    c.len-tokens.ensures ∙ many ∙ sym (length-map tokens.items token_of) ∙ ap (λ (l : List PlacedToken). length l) c.tokens.ensures
    ∙ sym (weight_whole input c.is_input.ensures.is)
    ∙ ap (λ (other : TreeInput). weight other.whole) (sym (c.new-round.ensures.input ∙ c.requires.input))

pub returns-clause-plan : goal.returns-clause-plan
returns-clause-plan g c =
    c.new.ensures.plan ∙ ap (λ (input : TreeInput). plan_first (spell_mode g.W.TreeWalk.round input)) (c.new-round.ensures.input ∙ c.requires.input)

pub returns-clause-first : goal.returns-clause-first
returns-clause-first g c =
    c.new.ensures.first ∙ ap (λ (input : TreeInput). plan_first (spell_mode g.W.TreeWalk.round input)) (c.new-round.ensures.input ∙ c.requires.input)

pub returns-clause-start : goal.returns-clause-start
returns-clause-start g c =
    let start = c.new.ensures.start in
    let all = c.new-round.ensures.input ∙ c.requires.input in (
      start.0 ∙ ap (λ (input : TreeInput). (spell_mode g.W.TreeWalk.round input).text (spell_mode g.W.TreeWalk.round input).start) all,
      start.1 ∙ ap (λ (input : TreeInput). (spell_mode g.W.TreeWalk.round input).size (spell_mode g.W.TreeWalk.round input).start) all,
    )
