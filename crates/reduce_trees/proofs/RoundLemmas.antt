-- What is tried now, with how many tokens it has.
use Rattle.std.proofs.Common.{◌≡◌, true, ap, Option, Some, refl, sym, ◌∙◌, subst}
use Rattle.std.specs.Option.{IfSome}
use Rattle.std.proofs.lemmas.Bool.{false≢true}
use Rattle.syntax_tree.specs.Trees.{PlainTree, weight}
use Rattle.reduce_rounds.specs.Trials.{Trials, Done, Try, is_done, tried_state}
use Rattle.token_print.specs.declared.style.Style.{Style}
use Rattle.reduce_trees_mode.specs.Input.{TreeInput, TreeState}
use Rattle.reduce_trees_mode.specs.InStyles.{in_style}
use Rattle.reduce_trees_mode.proofs.Lent.{leaves_length}
use Rattle.reduce_trees.specs.declared.candidate.Candidate.{Candidate}
use Rattle.reduce_trees.specs.declared.trial.Trial.{Trial}
use Rattle.reduce_trees.specs.declared.trial.Trial.TheVariants.{Over, Squeezed, Edit, Refused}
use Rattle.reduce_trees.specs.inner.Fields.{IsCandidateOf, IsMade, IsTried, candidate_in, rest_of}

done_is : (rest : Trials PlainTree) → is_done rest ≡ true → rest ≡ Done
done_is Done is = refl
done_is (Try tree at_yes at_no) is = absurd (false≢true is)

module _ (input : TreeInput) (style : Style) where
  -- the state that is tried now, with its candidate
  tried_now : (left : PlainTree) (rest : Trials PlainTree) (trial : Trial) (candidate : Candidate) → IsTried input style left rest trial
      → candidate_in trial ≡ Some candidate →
      (state : TreeState) × (tried_state (rest_of input style rest trial) ≡ Some state) × IsCandidateOf input state candidate
  tried_now left rest Over candidate is e = absurd (cc e)
  tried_now left rest (Refused memory) candidate is e = absurd (cc e)
  tried_now left rest (Squeezed other) candidate is e =
      let same : other ≡ candidate =
      cc e in (in_style Style.Squeezed input.whole, refl, subst (IsCandidateOf input (in_style Style.Squeezed input.whole)) same is.3)
  tried_now left Done (Edit other) candidate is e = absurd is
  tried_now left (Try tree at_yes at_no) (Edit other) candidate is e =
      let same : other ≡ candidate = cc e in (in_style style tree, refl, subst (IsCandidateOf input (in_style style tree)) same is)

  pub units_now : (left : PlainTree) (rest : Trials PlainTree) (trial : Trial) (candidate : Candidate) → IsTried input style left rest trial
      → candidate_in trial ≡ Some candidate →
      IfSome (tried_state (rest_of input style rest trial)) (λ (state : TreeState). candidate.tokens ≡ weight state.tree)
  units_now left rest trial candidate is now =
      let tried = tried_now left rest trial candidate is now in
      subst (λ (o : Option TreeState). IfSome o (λ (state : TreeState). candidate.tokens ≡ weight state.tree)) (sym tried.1)
      (tried.2.tokens ∙ leaves_length (λ k i. i) tried.0.tree)

  -- where nothing more is tried, and nothing was refused, the walk tries nothing
  pub walk_over : (left : PlainTree) (rest : Trials PlainTree) (trial : Trial) → IsTried input style left rest trial
      → rest_of input style rest trial ≡ Done → IsMade trial → rest ≡ Done
  walk_over left rest Over is over made = done_is rest is
  walk_over left rest (Squeezed candidate) is over made = absurd (false≢true (ap is_done over))
  walk_over left Done (Edit candidate) is over made = refl
  walk_over left (Try tree at_yes at_no) (Edit candidate) is over made = absurd (false≢true (ap is_done over))
  walk_over left rest (Refused memory) is over made = absurd made
