use Rattle.std.proofs.Common.{ℕ, Bool, ap, arith, length, subst, ◌∙◌}
use Rattle.std.proofs.lemmas.List.{length-map}
use Rattle.std.specs.Prelude.{◌↔◌, IfOk, IsTrue}
use Rattle.grammar_tree.specs.Checked.{StartDerives}
use Rattle.grammar_tree.specs.Lexes.{PlacedToken}
use Rattle.normal_form.specs.NormalDerives.{NormalDerives}
use Rattle.normal_form.specs.declared.normal.Sym.TheVariants.{Rule}
use Rattle.cert_check_texts.specs.Texts.{TreeStart}
use Rattle.cert_check_texts.specs.inner.Fields.{kinds_in, tokens_in}
use Rattle.cert_check_texts.proofs.Language.{answered, derived_so}
use Rattle.cert_check_texts.proofs.tree_texts.TreeTexts.are_derived.Goals as goal

pub derives-requires : goal.derives-requires
derives-requires c =
    omega (
      arith,
      c.requires,
      ap length (c.deref.ensures.value ∙ c.in_ok-kinds.ensures),
      length-map (tokens_in c.args.found.now) (λ (t : PlacedToken). t.kind),
    )

pub returns : goal.returns
returns c =
    subst (λ (t : TreeStart). IfOk c.derives.result (λ (b : Bool). IsTrue b ↔ StartDerives t.grammar (kinds_in (tokens_in c.args.found.now)))) c.self.view_is
    (answered c.derives.result
    (derived_so c.equal_languages.ensures c.self.inside.lexer c.self.invariant.checked c.self.inside.normal c.self.invariant.form_is c.deref.result.now
    (kinds_in (tokens_in c.args.found.now)) (c.deref.ensures.value ∙ c.in_ok-kinds.ensures))
    (subst (λ (n : ℕ). IfOk c.derives.result (λ (b : Bool). IsTrue b ↔ NormalDerives c.self.inside.normal (Rule n) c.deref.result.now)) c.start.ensures
    c.derives.ensures))
