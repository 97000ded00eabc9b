use Rattle.std.proofs.Common.{subst}
use Rattle.normal_form.specs.declared.normal.Sym.{Sym}
use Rattle.normal_form.specs.Form.{NormalForm}
use Rattle.syntax_tree.specs.Left.{IsRemainderOf}
use Rattle.syntax_tree.specs.Trees.{PlainTree}
use Rattle.syntax_tree.specs.Valid.{IsTreeFor}
use Rattle.reduce_trees_mode.specs.Input.{TreeInput}
use Rattle.reduce_trees_mode.specs.InputOf.{input_of}
use Rattle.reduce_trees.proofs.RoundLemmas.{walk_over}
use Rattle.reduce_trees.proofs.tree_round.TreeRound.kept.Goals as goal

pub left_tokens-requires : goal.left_tokens-requires
left_tokens-requires g c =
    let parts = c.args.self.now.parts.now in
    walk_over (input_of parts.start.grammar parts.formed parts.tree parts.start.bytes parts.tokens.items.items (g.F.Relation.admits parts.guard) parts.squeezes)
    c.args.self.now.style (g.W.TreeWalk.left c.args.self.now.walk) (g.W.TreeWalk.rest c.args.self.now.walk) c.args.self.now.trial c.args.self.now.agrees.tried
    c.requires c.in_ok-refusal.ensures

pub returns-clause-kept : goal.returns-clause-kept
returns-clause-kept g c =
    let parts = c.args.self.now.parts.now in
    let input : TreeInput =
    input_of parts.start.grammar parts.formed parts.tree parts.start.bytes parts.tokens.items.items (g.F.Relation.admits parts.guard) parts.squeezes in
    let tree = g.W.TreeWalk.tree c.args.self.now.walk in
    let left = g.W.TreeWalk.left c.args.self.now.walk in
    let of = c.args.self.now.agrees.tree_of in
    record {
      fits =
          subst (λ (N : NormalForm). IsTreeFor N input.symbol left) of.form
          (subst (λ (s : Sym). IsTreeFor tree.form s left) of.symbol c.in_ok-kept.ensures.fits);
      left = subst (λ (t : PlainTree). IsRemainderOf t left) of.whole_is c.in_ok-kept.ensures.part;
      may_keep = c.args.self.now.agrees.may_keep;
    }
