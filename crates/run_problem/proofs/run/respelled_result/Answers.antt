use Rattle.std.proofs.Common.{◌∙◌, ℕ, List, map, ap, sym, subst}
use Rattle.grammar_tree.specs.Lexes.{PlacedToken}
use Rattle.lexer.specs.Tokens.{token_of}
use Rattle.token_print.specs.LexingLaws.{AreInOrder}
use Rattle.reduce_trees_mode.specs.Input.{TreeInput}
use Rattle.reduce_trees_mode.specs.InputOf.{input_of}
use Rattle.run_gated.specs.Seen.{reached}
use Rattle.run_gated.specs.Run.{Run, run_of}
use Rattle.spell_shrink.specs.Words.{words_of}
use Rattle.run_problem.specs.Problem.{Problem}
use Rattle.run_problem.proofs.ModeLemmas.{refused_of, refused_sound}
use Rattle.run_problem.proofs.run.respelled_result.Goals as goal

-- the tokens of the input are in order in its start, so that their spellings are there
pub of-requires : goal.of-requires
of-requires g c =
    let parts = c.args.parts.now in
    let input : TreeInput =
    input_of parts.start.grammar parts.formed parts.tree parts.start.bytes parts.tokens.items.items (g.F.Relation.admits parts.guard) parts.squeezes in
    let is = c.is_input.ensures.is in
    subst (λ text. AreInOrder text (map token_of c.tokens.result.now.items.items)) (sym c.start.ensures)
    (subst (AreInOrder input.start) (sym c.tokens.ensures) (c.tokens_are_in_order.ensures input.grammar.grammar input.start input.tokens is.utf8 is.has_tokens))

pub spelled_result-requires-clause-words : goal.spelled_result-requires-clause-words
spelled_result-requires-clause-words g c κs within kind =
    let parts = c.args.parts.now in
    let input : TreeInput =
    input_of parts.start.grammar parts.formed parts.tree parts.start.bytes parts.tokens.items.items (g.F.Relation.admits parts.guard) parts.squeezes in
    c.in-Ok.ensures kind ∙ ap (λ (tokens : List PlacedToken). words_of c.start.result.now tokens kind) c.tokens.ensures
    ∙ ap (λ (text : List ℕ). words_of text input.tokens kind) c.start.ensures

pub returns-in-Err-clause-sound : goal.returns-in-Err-clause-sound
returns-in-Err-clause-sound g c =
    let run : Run =
    run_of g.G.Gate.log g.G.Gate.faults g.J.Sink.put_so_far g.J.Sink.faults c.args.workers.now c.args.workers.now c.args.journal c.args.known
    c.refused.result in
    refused_sound run c.refused.ensures.events c.refused.ensures.outcome
    (ap (reached g.G.Gate.log g.G.Gate.faults g.J.Sink.put_so_far g.J.Sink.faults c.args.workers.now) c.refused.ensures.journal) g.G.Gate.may_say

pub returns-in-Err-clause-problem : goal.returns-in-Err-clause-problem
returns-in-Err-clause-problem g c =
    let run : Run = run_of g.G.Gate.log g.G.Gate.faults g.J.Sink.put_so_far g.J.Sink.faults c.args.workers.now c.args.workers.now c.args.journal c.args.known
    c.refused.result in
    refused_of run c.refused.ensures.events c.refused.ensures.outcome
    (ap (reached g.G.Gate.log g.G.Gate.faults g.J.Sink.put_so_far g.J.Sink.faults c.args.workers.now) c.refused.ensures.journal) _
    (Problem.of_respelling c.args.mode _)
