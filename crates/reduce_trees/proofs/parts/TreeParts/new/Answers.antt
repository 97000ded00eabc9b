use Rattle.std.proofs.Common.{◌≡◌, map, sym, subst}
use Rattle.std.specs.Prelude.{string_bytes}
use Rattle.grammar_tree.specs.Faults.{IsWellFormed}
use Rattle.lexer.specs.Tokens.{token_of}
use Rattle.reduce_trees_mode.specs.InputOf.{input_of}
use Rattle.reduce_trees.specs.inner.Parts.{BelongTogether}
use Rattle.reduce_trees.specs.inner.StartText.{TextOf}
use Rattle.reduce_trees.proofs.PartsLemmas.{belong, one_input}
use Rattle.reduce_trees.proofs.parts.TreeParts.new.Goals as goal

pub new-requires-clause-tokens : goal.new-requires-clause-tokens
new-requires-clause-tokens g c = (map token_of c.args.tokens.items.items, c.requires.tokens)

pub invariant_of-result : goal.invariant_of-result
invariant_of-result g c =
    let admits = g.F.Relation.admits c.args.guard in
    let P : TextOf → Type 0 =
    λ t. (formed : IsWellFormed t.grammar.grammar t.grammar.start)
    × BelongTogether (input_of t.grammar formed c.args.tree t.bytes c.args.tokens.items.items admits c.args.squeezes) c.args.compat in
    let formed = c.requires.checked.well_formed in
    let both = subst P (sym c.in_ok-start.ensures) (
      formed,
      belong c.args.lexer c.args.tree (string_bytes c.args.start) c.args.tokens.items.items admits c.args.squeezes formed c.args.compat
          c.tokens_are_found.ensures c.requires.checked c.requires.short c.requires.tokens c.requires.form c.requires.symbol c.requires.kinds c.requires.compat,
    ) in
    record { formed = both.0; together = both.1 }

pub returns : goal.returns
returns g c = λ formed.
    let admits = g.F.Relation.admits c.args.guard in
    let P : TextOf → Type 0 =
    λ t. (other : IsWellFormed t.grammar.grammar t.grammar.start)
    → input_of t.grammar other c.args.tree t.bytes c.args.tokens.items.items admits c.args.squeezes ≡ input_of c.args.lexer formed c.args.tree
    (string_bytes c.args.start) c.args.tokens.items.items admits c.args.squeezes in
    subst P (sym c.in_ok-start.ensures) (λ other. one_input c.args.lexer c.args.tree
    (string_bytes c.args.start) c.args.tokens.items.items admits c.args.squeezes other formed) _
