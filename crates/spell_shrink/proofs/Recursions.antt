-- The reductions of the mode of two phases are those of one recursion.
use Rattle.std.proofs.Common.{◌≡◌, ◌∙◌, Bool, List, ℕ, refl, sym, ap}
use Rattle.normal_form.specs.declared.normal.Sym.{Sym}
use Rattle.normal_form.specs.Form.{NormalForm}
use Rattle.syntax_tree.specs.Trees.{PlainTree}
use Rattle.reduce_step.specs.declared.mode.TreeMode.{TreeMode}
use Rattle.reduce_step.specs.declared.mode.TreeMode.TheVariants.{Hdd, Perses}
use Rattle.reduce_rounds.specs.ByTrials.{round_of, texts_of}
use Rattle.reduce_rounds.specs.Trials.{Trials}
use Rattle.reduce_rounds.proofs.Lent.{recursions_reduce_alike}
use Rattle.reduce_trees_mode.specs.Input.{IsInput, TreeInput, TreeState}
use Rattle.reduce_trees_mode.specs.InStyles.{end_in, in_style, squeezed_first, trees_in}
use Rattle.reduce_trees_mode.specs.Laws.{OpeningIsOneTest}
use Rattle.reduce_trees_mode.specs.Listed.{IsKept}
use Rattle.reduce_trees_mode.specs.TreeTrials.{opening_trials}
use Rattle.token_print.specs.declared.style.Style.{Style}
use Rattle.reduce_perses.specs.VisitRounds.{visit_round}
use Rattle.reduce_hdd.specs.LevelRounds.{level_round}
use Rattle.reduce_trees.specs.Laws.{HddRoundsAreLevels, PersesRoundsAreVisits}
use Rattle.reduce_trees.specs.TreeRounds.{tree_round}
use Rattle.reduce_trees.specs.WalkMode.{walk_mode}
use Rattle.spell_shrink.specs.Respelled.{Reduced, Respelled, SpellState, respelling_mode, spell_round}
use Rattle.spell_shrink.specs.SpellMode.{IsKeptInPhase, spell_mode}
use Rattle.spell_shrink.specs.SpellRecursion.{spell_phase_round, state_end}
use Rattle.spell_shrink.specs.Laws.{SpellModeIsLawful, SpellersAreRecursions}
use Rattle.spell_shrink.proofs.Phases.{end_as}

-- over a verdict a round of trees comes to this in the mode
abbrev RoundsAre : TreeMode → (NormalForm → Sym → PlainTree → Trials PlainTree) → Type 0
RoundsAre mode round = (input : TreeInput) (verdict : List ℕ → Bool) (state : TreeState) → IsInput input → IsKept input state
    → round_of (walk_mode round input) verdict state ≡ end_in state.style (tree_round mode input (trees_in input state.style) verdict state.tree)

module _ (mode : TreeMode) (round : NormalForm → Sym → PlainTree → Trials PlainTree) (rounds : RoundsAre mode round)
    (input : TreeInput) (is : IsInput input) (verdict : List ℕ → Bool) where
  round_same : (state : SpellState) → IsKeptInPhase input state → spell_phase_round mode input verdict state ≡ round_of (spell_mode round input) verdict state
  round_same (Reduced state) kept =
      ap (state_end Reduced) (sym (rounds input verdict state is kept))
      ∙ sym (end_as Reduced (texts_of (walk_mode round input)) (texts_of (spell_mode round input)) (λ s. refl) (λ s. refl) verdict state
      ((walk_mode round input).round state))
  round_same (Respelled style r) kept =
      sym (end_as (Respelled style) (texts_of (respelling_mode input style r)) (texts_of (spell_mode round input)) (λ s. refl) (λ s. refl) verdict r
      (spell_round input.start input.tokens r))

speller_is_its_recursion : (mode : TreeMode) (round : NormalForm → Sym → PlainTree → Trials PlainTree) → RoundsAre mode round → OpeningIsOneTest
    → SpellModeIsLawful round → SpellersAreRecursions round mode
speller_is_its_recursion mode round rounds opens lawful input verdict is =
    recursions_reduce_alike (spell_mode round input) (IsKeptInPhase input) (lawful input is).keeps
    (λ v. state_end Reduced (squeezed_first input v)) (spell_phase_round mode input) verdict
    (ap (state_end Reduced) (sym (opens input (round input.form input.symbol) verdict))
    ∙ sym (end_as Reduced (texts_of (walk_mode round input)) (texts_of (spell_mode round input)) (λ s. refl) (λ s. refl) verdict
    (in_style Style.AsWas input.whole) (opening_trials input)))
    (round_same mode round rounds input is verdict)

pub perses_speller : PersesRoundsAreVisits → OpeningIsOneTest → SpellModeIsLawful visit_round → SpellersAreRecursions visit_round Perses
perses_speller rounds opens lawful = speller_is_its_recursion Perses visit_round rounds opens lawful

pub hdd_speller : HddRoundsAreLevels → OpeningIsOneTest → SpellModeIsLawful level_round → SpellersAreRecursions level_round Hdd
hdd_speller rounds opens lawful =
    speller_is_its_recursion Hdd level_round (λ input verdict state is kept. rounds input verdict state) opens lawful
