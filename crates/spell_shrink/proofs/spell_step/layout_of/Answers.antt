use Rattle.std.proofs.Common.{◌≡◌, ◌↔◌, Bool, true, false, ℕ, refl, sym, ap₂, subst}
use Rattle.grammar_tree.specs.Faults.{IsWellFormed}
use Rattle.grammar_tree.specs.Written.{CheckedGrammar, WrittenGrammar}
use Rattle.token_print.proofs.Lent.{gaps_are}
use Rattle.token_print.specs.declared.style.Skips.{Skips}
use Rattle.token_print.specs.Laws.{skips_in}
use Rattle.token_print.specs.Printed.{AreSkipped}
use Rattle.reduce_trees_mode.specs.Input.{TreeInput}
use Rattle.reduce_trees_mode.specs.InputOf.{input_of}
use Rattle.spell_shrink.proofs.spell_step.layout_of.Goals as goal

-- two answers to one question are the same
same_answer : {A : Type 0} (b c : Bool) → (b ≡ true) ↔ A → (c ≡ true) ↔ A → b ≡ c
same_answer true true p q = refl
same_answer true false p q = sym (q.1 (p.0 refl))
same_answer false true p q = p.1 (q.0 refl)
same_answer false false p q = refl

-- what a lexer is found to skip is what its grammar skips
skips_are : (G : WrittenGrammar) (rule : ℕ) → IsWellFormed G rule → (skips : Skips) → AreSkipped G skips → skips ≡ skips_in G
skips_are G rule formed skips are =
    ap₂ (λ n s. record { newline = n; space = s }) (same_answer skips.newline (skips_in G).newline are.newline (gaps_are G rule formed 10))
    (same_answer skips.space (skips_in G).space are.space (gaps_are G rule formed 32))

pub returns-clause-skips : goal.returns-clause-skips
returns-clause-skips g c =
    let parts = c.args.parts.now in
    let input : TreeInput =
    input_of parts.start.grammar parts.formed parts.tree parts.start.bytes parts.tokens.items.items (g.F.Relation.admits parts.guard) parts.squeezes in
    let skips = c.in_ok-skips.field-0 in
    skips_are input.grammar.grammar input.grammar.start input.formed skips
    (subst (λ (k : CheckedGrammar). AreSkipped k.grammar skips) c.lexer.ensures c.in_ok-skips.ensures)
