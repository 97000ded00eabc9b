use Rattle.std.proofs.Common.{◌≡◌, ◌∙◌, ◌&&◌, ◌↔◌, Bool, sym, ap, subst, arith}
use Rattle.std.specs.Prelude.{IsTrue}
use Rattle.grammar_tree.specs.Written.{CheckedGrammar, WrittenGrammar}
use Rattle.lexer.specs.Reads.{LexReads}
use Rattle.token_print.specs.Spells.{SpellsTokens}
use Rattle.reduce_trees.proofs.Lent.{kept_rise}
use Rattle.reduce_trees_mode.specs.Input.{TreeInput}
use Rattle.reduce_trees_mode.specs.InputOf.{input_of}
use Rattle.spell_shrink.specs.inner.Rereads.{IsReread, expected_pieces}
use Rattle.spell_shrink.proofs.TrialLemmas.{reads_as}
use Rattle.spell_shrink.proofs.spell_step.is_listed.Goals as goal

pub keeps-requires-clause-reread : goal.keeps-requires-clause-reread
keeps-requires-clause-reread g c =
    let same = ap (λ (r : LexReads). r.checked.grammar) c.new-reader.ensures ∙ ap (λ (k : CheckedGrammar). k.grammar) c.lexer.ensures in
    subst (λ (G : WrittenGrammar). ∥ IsReread G c.args.reread ∥₁) (sym same) c.requires.reread

pub keeps-requires-clause-few : goal.keeps-requires-clause-few
keeps-requires-clause-few g c =
    let none : c.new-reader.result.reads ≡ 0 = ap (λ (r : LexReads). r.reads) c.new-reader.ensures in omega (arith, none)

pub admits-requires : goal.admits-requires
admits-requires g c = kept_rise c.args.reread.expected.kept.now c.requires.kept.rise

pub returns-then-not-keeps : goal.returns-then-not-keeps
returns-then-not-keeps g c =
    let parts = c.args.parts.now in
    let input : TreeInput =
    input_of parts.start.grammar parts.formed parts.tree parts.start.bytes parts.tokens.items.items (g.F.Relation.admits parts.guard) parts.squeezes in
    let r = c.args.reread in
    let keeps = c.in_ok-keeps.keeps in
    let same = ap (λ (x : LexReads). x.checked.grammar) c.new-reader.ensures ∙ ap (λ (k : CheckedGrammar). k.grammar) c.lexer.ensures in
    let P : WrittenGrammar → Type 0 = λ G. IsTrue keeps ↔ ∥ SpellsTokens G r.text.now (expected_pieces r.expected) ∥₁ in
    let reads =
    reads_as c.spelled_are_found.ensures input.grammar.grammar input.grammar.start input.formed r.text.now (expected_pieces r.expected) keeps
    (subst P same c.in_ok-keeps.ensures.keeps) in
    ap (λ (b : Bool). b && input.admits r.expected.kept.now r.text.now) (sym c.if-not-keeps.true ∙ reads)

pub returns : goal.returns
returns g c =
    let parts = c.args.parts.now in
    let input : TreeInput =
    input_of parts.start.grammar parts.formed parts.tree parts.start.bytes parts.tokens.items.items (g.F.Relation.admits parts.guard) parts.squeezes in
    let r = c.args.reread in
    let keeps = c.in_ok-keeps.keeps in
    let same = ap (λ (x : LexReads). x.checked.grammar) c.new-reader.ensures ∙ ap (λ (k : CheckedGrammar). k.grammar) c.lexer.ensures in
    let P : WrittenGrammar → Type 0 = λ G. IsTrue keeps ↔ ∥ SpellsTokens G r.text.now (expected_pieces r.expected) ∥₁ in
    let reads =
    reads_as c.spelled_are_found.ensures input.grammar.grammar input.grammar.start input.formed r.text.now (expected_pieces r.expected) keeps
    (subst P same c.in_ok-keeps.ensures.keeps) in
    c.admits.ensures ∙ ap (g.F.Relation.admits c.guard-guard.result.now r.expected.kept.now) c.as_bytes.ensures.value
    ∙ (λ i. c.guard-guard.ensures i r.expected.kept.now r.text.now)
    ∙ ap (λ (b : Bool). b && input.admits r.expected.kept.now r.text.now) (sym c.if-not-keeps.false ∙ reads)
