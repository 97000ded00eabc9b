use Rattle.std.proofs.Common.{◌≡◌, ◌∙◌, length, vec_len, sym, arith}
use Rattle.std.proofs.Math.Logic.{∥∥₁_elim}
use Rattle.std.proofs.Props.{props}
use Rattle.reduce_trees_mode.specs.Input.{TreeInput}
use Rattle.reduce_trees_mode.specs.InputOf.{input_of}
use Rattle.spell_shrink.specs.inner.Spelled.{respelling_of}
use Rattle.spell_shrink.proofs.WordPrinting.{respelling_long}
use Rattle.spell_shrink.proofs.TrialLemmas.{units_are}
use Rattle.spell_shrink.proofs.spell_step.SpellStep+TreeParts+F.units.Goals as goal

pub returns : goal.returns
returns g c =
    let parts = c.args.self.now.parts.now in
    let input : TreeInput =
    input_of parts.start.grammar parts.formed parts.tree parts.start.bytes parts.tokens.items.items (g.F.Relation.admits parts.guard) parts.squeezes in
    let step = c.args.self.now in
    let s = step.spelled in
    let long : length (respelling_of s) ≡ length s.kept.items =
    ∥∥₁_elim step.agrees.print (hlevel props) (λ print. respelling_long s.kept.items s.words.items print.long) in
    let many : vec_len s.kept ≡ length s.kept.items = omega (arith, s.kept.ok) in
    units_are input step.words.now step.style (respelling_of s) step.trial step.agrees.tried c.len.result (c.len.ensures ∙ many ∙ sym long)
