use Rattle.std.proofs.Common.{◌≡◌, ◌↔◌, ℕ, List, Bool, ◌&&◌, length, map, sym, ap, ◌∙◌, subst, arith}
use Rattle.std.specs.Prelude.{IsTrue}
use Rattle.std.specs.Str.{chars}
use Rattle.grammar_tree.specs.Written.{CheckedGrammar, WrittenGrammar}
use Rattle.lexer.specs.Pieces.{ArePiecesOf}
use Rattle.lexer.specs.Reads.{LexReads}
use Rattle.lexer.specs.Tokens.{HasTokens, token_of}
use Rattle.token_print.specs.Kept.{KeepsTokens}
use Rattle.token_print.specs.Printed.{IsPrinted}
use Rattle.reduce_trees_mode.specs.Input.{TreeInput}
use Rattle.reduce_trees_mode.specs.InputOf.{input_of}
use Rattle.reduce_trees.proofs.CandidateLemmas.{kept_rise, listed_in}
use Rattle.reduce_trees.proofs.candidate.is_listed.Goals as goal

pub keeps_printed-requires-clause-tokens : goal.keeps_printed-requires-clause-tokens
keeps_printed-requires-clause-tokens g c =
    let tokens = map token_of c.args.parts.now.tokens.items.items in
    let same = ap (λ (r : LexReads). r.checked.grammar) c.new-reader.ensures ∙ ap (λ (k : CheckedGrammar). k.grammar) c.lexer.ensures in
    let P : WrittenGrammar → Type 0 = λ G. HasTokens G (chars c.text.result.now) tokens in
    let Q : List ℕ → Type 0 = λ s. HasTokens c.args.parts.now.start.grammar.grammar (chars s) tokens in
    subst P (sym same) (subst Q (sym c.text.ensures) c.is_input.ensures.is.has_tokens)

pub keeps_printed-requires-clause-pieces : goal.keeps_printed-requires-clause-pieces
keeps_printed-requires-clause-pieces g c =
    let same = ap (λ (r : LexReads). r.checked.grammar) c.new-reader.ensures ∙ ap (λ (k : CheckedGrammar). k.grammar) c.lexer.ensures in
    let P : WrittenGrammar → Type 0 = λ G. ArePiecesOf G c.text.result.now c.pieces.result.now in
    let Q : List ℕ → Type 0 = λ s. ArePiecesOf c.args.parts.now.start.grammar.grammar s c.pieces.result.now in
    subst P (sym same) (subst Q (sym c.text.ensures) c.pieces.ensures)

pub keeps_printed-requires-clause-printed : goal.keeps_printed-requires-clause-printed
keeps_printed-requires-clause-printed g c =
    let parts = c.args.parts.now in
    let grammar = parts.start.grammar in
    let tokens = map token_of parts.tokens.items.items in
    let same = ap (λ (r : LexReads). r.checked.grammar) c.new-reader.ensures ∙ ap (λ (k : CheckedGrammar). k.grammar) c.lexer.ensures in
    let P : WrittenGrammar → Type 0 = λ G. IsPrinted G c.text.result.now tokens c.args.kept.now c.args.style c.args.text.now in
    let Q : List ℕ → Type 0 = λ s. IsPrinted grammar.grammar s tokens c.args.kept.now c.args.style c.args.text.now in
    subst P (sym same) (subst Q (sym c.text.ensures)
    ((c.printed_with_skips.ensures grammar.grammar grammar.start parts.formed parts.start.bytes tokens c.args.kept.now c.args.style c.args.text.now).1
    c.requires.printed))

pub keeps_printed-requires-clause-small_start : goal.keeps_printed-requires-clause-small_start
keeps_printed-requires-clause-small_start g c =
    let same : length c.text.result.now ≡ length c.args.parts.now.start.bytes = ap length c.text.ensures in
    omega (arith, same, c.is_input.ensures.short)

pub keeps_printed-requires-clause-few : goal.keeps_printed-requires-clause-few
keeps_printed-requires-clause-few g c =
    let none : c.new-reader.result.reads ≡ 0 = ap (λ (r : LexReads). r.reads) c.new-reader.ensures in
    omega (arith, none)

pub admits-requires : goal.admits-requires
admits-requires g c = kept_rise c.args.kept.now c.requires.kept.rise

pub returns-then-not-keeps : goal.returns-then-not-keeps
returns-then-not-keeps g c =
    let parts = c.args.parts.now in
    let input : TreeInput =
    input_of parts.start.grammar parts.formed parts.tree parts.start.bytes parts.tokens.items.items (g.F.Relation.admits parts.guard) parts.squeezes in
    let keeps = c.in_ok-keeps.keeps in
    let same = ap (λ (r : LexReads). r.checked.grammar) c.new-reader.ensures ∙ ap (λ (k : CheckedGrammar). k.grammar) c.lexer.ensures in
    let P : WrittenGrammar → Type 0 = λ G. IsTrue keeps ↔ KeepsTokens G c.text.result.now input.tokens c.args.kept.now c.args.text.now in
    ap (λ (b : Bool). b && input.admits c.args.kept.now c.args.text.now) (sym c.if-not-keeps.true)
    ∙ listed_in c.spelled_are_found.ensures input c.args.kept.now c.args.style c.text.result.now c.args.text.now keeps c.text.ensures
    (subst P same c.in_ok-keeps.ensures.keeps) c.requires.printed

pub returns : goal.returns
returns g c =
    let parts = c.args.parts.now in
    let input : TreeInput = input_of parts.start.grammar parts.formed parts.tree parts.start.bytes parts.tokens.items.items
    (g.F.Relation.admits parts.guard) parts.squeezes in
    let keeps = c.in_ok-keeps.keeps in
    let same = ap (λ (r : LexReads). r.checked.grammar) c.new-reader.ensures ∙ ap (λ (k : CheckedGrammar). k.grammar) c.lexer.ensures in
    let P : WrittenGrammar → Type 0 = λ G. IsTrue keeps ↔ KeepsTokens G c.text.result.now input.tokens c.args.kept.now c.args.text.now in
    c.admits.ensures
    ∙ ap (λ (b : Bool). b && input.admits c.args.kept.now c.args.text.now) (sym c.if-not-keeps.false)
    ∙ listed_in c.spelled_are_found.ensures input c.args.kept.now c.args.style c.text.result.now c.args.text.now keeps
    c.text.ensures (subst P same c.in_ok-keeps.ensures.keeps) c.requires.printed
