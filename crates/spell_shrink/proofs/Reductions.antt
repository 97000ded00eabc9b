-- A reduction of the mode of two phases is that of the tree, with the respelling that follows.
use Rattle.std.proofs.Common.{◌≡◌, ◌∙◌, ◌+◌, ◌<◌, ◌++◌, ℕ, zero, suc, Bool, true, false, cond, List, ◌∷◌, append-nil, append_assoc, refl, sym, ap, arith}
use Rattle.normal_form.specs.declared.normal.Sym.{Sym}
use Rattle.normal_form.specs.Form.{NormalForm}
use Rattle.syntax_tree.specs.LeftLaws.{LeftIsPart}
use Rattle.syntax_tree.specs.Trees.{PlainTree, leaves, weight}
use Rattle.token_print.specs.declared.style.Style.{Style}
use Rattle.reduce_rounds.specs.ByTrials.{recursion_of, round_of, texts_of}
use Rattle.reduce_rounds.specs.Mode.{IsLawful, RoundMode}
use Rattle.reduce_rounds.specs.Reduction.{Reduction, RoundEnd, after_opening, after_round, asks_first, ends_with, next_rounds, reduction, rounds_of}
use Rattle.reduce_rounds.specs.Trials.{Trials}
use Rattle.reduce_rounds.proofs.Lent.{goes_by_its_rounds, remaining-kept, rounds_not_refused, smaller_after_yes}
use Rattle.reduce_trees_mode.specs.Input.{IsInput, TreeInput, TreeState}
use Rattle.reduce_trees_mode.specs.InStyles.{in_style}
use Rattle.reduce_trees_mode.specs.Listed.{IsKept}
use Rattle.reduce_trees_mode.specs.TreeTrials.{opening_trials}
use Rattle.reduce_trees.specs.Laws.{WalksAreLawful}
use Rattle.reduce_trees.specs.WalkMode.{walk_mode}
use Rattle.spell_shrink.specs.Respelling.{Respelling, own_spellings}
use Rattle.spell_shrink.specs.Respelled.{Reduced, Respelled, SpellState, followed_by, respelled, respelling_mode, respelling_of, spell_round, word_bytes}
use Rattle.spell_shrink.specs.SpellMode.{IsKeptInPhase, IsRespellingOf, spell_mode}
use Rattle.spell_shrink.specs.SpellRecursion.{state_end}
use Rattle.spell_shrink.specs.Laws.{RespellsReductions, SpellModeIsLawful}
use Rattle.spell_shrink.proofs.Lawful.{own_kept, respelling_lawful}
use Rattle.spell_shrink.proofs.Phases.{end_as}

-- what rounds over respellings come to, as states
abbrev as_respelled : Style → Reduction Respelling → Reduction SpellState
as_respelled style r = record { questions = r.questions; state = Respelled style r.state; rounds = r.rounds; refused = false }

module _ (round : NormalForm → Sym → PlainTree → Trials PlainTree) (input : TreeInput) (verdict : List ℕ → Bool)
    (lawful : IsLawful (spell_mode round input) (IsKeptInPhase input)) where
  abbrev both : RoundMode SpellState
  both = spell_mode round input

  abbrev go : SpellState → Reduction SpellState
  go state = rounds_of (recursion_of both) verdict state

  -- ---- the second phase

  module _ (style : Style) (first : Respelling) (first_of : IsRespellingOf input style first) where
    abbrev alone : RoundMode Respelling
    alone = respelling_mode input style first

    abbrev go_alone : Respelling → Reduction Respelling
    go_alone r = rounds_of (recursion_of alone) verdict r

    lawful_alone : IsLawful alone (IsRespellingOf input style)
    lawful_alone = respelling_lawful input style first first_of

    next_as : (last : RoundEnd Respelling) → (last.changed ≡ true → go (Respelled style last.state) ≡ as_respelled style (go_alone last.state))
        → next_rounds both.next_phase go (state_end (Respelled style) last) ≡ as_respelled style (next_rounds alone.next_phase go_alone last)
    next_as last same = by last.changed same
      where
        by : (changed : Bool) → (changed ≡ true → go (Respelled style last.state) ≡ as_respelled style (go_alone last.state))
            → cond changed (go (Respelled style last.state)) (ends_with (Respelled style last.state) false)
            ≡ as_respelled style (cond changed (go_alone last.state) (ends_with last.state false))
        by true same = same refl
        by false same = refl

    rounds_as : (n : ℕ) (r : Respelling) → IsRespellingOf input style r → word_bytes r < n → go (Respelled style r) ≡ as_respelled style (go_alone r)
    rounds_as zero r of less = absurd (omega (arith, less))
    rounds_as (suc n) r of less =
        let last : RoundEnd Respelling = round_of alone verdict r in
        goes_by_its_rounds both (IsKeptInPhase input) lawful verdict (Respelled style r) of
        ∙ ap (λ (end : RoundEnd SpellState). after_round end (next_rounds both.next_phase go end))
        (end_as (Respelled style) (texts_of alone) (texts_of both) (λ s. refl) (λ s. refl) verdict r (spell_round input.start input.tokens r))
        ∙ ap (after_round (state_end (Respelled style) last))
        (next_as last (λ yes. let fewer = smaller_after_yes alone verdict (IsRespellingOf input style) lawful_alone r of yes in
        rounds_as n last.state
        (remaining-kept alone verdict (IsRespellingOf input style) r (spell_round input.start input.tokens r) of (lawful_alone.keeps.round r of))
        (omega (arith, less, fewer))))
        ∙ ap (as_respelled style) (sym (goes_by_its_rounds alone (IsRespellingOf input style) lawful_alone verdict r of))

  -- ---- the first phase, and what follows

  module _ (is : IsInput input) (part : LeftIsPart) (walks : IsLawful (walk_mode round input) (IsKept input)) where
    abbrev walk : RoundMode TreeState
    walk = walk_mode round input

    abbrev go_walk : TreeState → Reduction TreeState
    go_walk state = rounds_of (recursion_of walk) verdict state

    -- the respelling follows
    abbrev follows : Reduction TreeState → Reduction SpellState
    follows first = followed_by first (respelling_of input verdict first.state)

    -- a round before it
    round_before : (last : RoundEnd TreeState) (later : Reduction TreeState) → after_round (state_end Reduced last) (follows later)
        ≡ follows (after_round last later)
    round_before last later =
        let after : Reduction Respelling = respelling_of input verdict later.state in
        let questions = sym (append_assoc last.questions later.questions after.questions) in
        let rounds : (later.rounds + after.rounds) + 1 ≡ (later.rounds + 1) + after.rounds = omega arith in
        λ i. record { questions = questions i; state = Respelled later.state.style after.state; rounds = rounds i; refused = false }

    -- the last round before it
    last_before : (last : RoundEnd TreeState) → after_round (state_end Reduced last) (as_respelled last.state.style (respelling_of input verdict last.state))
        ≡ follows (after_round last (ends_with last.state false))
    last_before last =
        let after : Reduction Respelling = respelling_of input verdict last.state in
        let questions = ap (λ (texts : List (List ℕ)). texts ++ after.questions) (sym (append-nil last.questions)) in
        let rounds : after.rounds + 1 ≡ (0 + 1) + after.rounds = omega arith in
        λ i. record { questions = questions i; state = Respelled last.state.style after.state; rounds = rounds i; refused = false }

    after_last : (last : RoundEnd TreeState) → IsKept input last.state → (last.changed ≡ true → go (Reduced last.state) ≡ follows (go_walk last.state))
        → after_round (state_end Reduced last) (next_rounds both.next_phase go (state_end Reduced last))
        ≡ follows (after_round last (next_rounds walk.next_phase go_walk last))
    after_last last kept same = by last.changed same
      where
        own : Respelling
        own = own_spellings input.start input.tokens (leaves last.state.tree)

        by : (changed : Bool) → (changed ≡ true → go (Reduced last.state) ≡ follows (go_walk last.state))
            → after_round (state_end Reduced last) (cond changed (go (Reduced last.state)) (go (Respelled last.state.style own)))
            ≡ follows (after_round last (cond changed (go_walk last.state) (ends_with last.state false)))
        by true same = ap (after_round (state_end Reduced last)) (same refl) ∙ round_before last (go_walk last.state)
        by false same =
            let own_of = own_kept input is part last.state kept in
            ap (after_round (state_end Reduced last)) (rounds_as last.state.style own own_of (suc (word_bytes own)) own own_of (omega arith))
            ∙ last_before last

    rounds_follow : (n : ℕ) (state : TreeState) → IsKept input state → weight state.tree < n → go (Reduced state) ≡ follows (go_walk state)
    rounds_follow zero state kept less = absurd (omega (arith, less))
    rounds_follow (suc n) state kept less =
        let last : RoundEnd TreeState = round_of walk verdict state in
        let last_kept = remaining-kept walk verdict (IsKept input) state (walk.round state) kept (walks.keeps.round state kept) in
        goes_by_its_rounds both (IsKeptInPhase input) lawful verdict (Reduced state) kept
        ∙ ap (λ (end : RoundEnd SpellState). after_round end (next_rounds both.next_phase go end))
        (end_as Reduced (texts_of walk) (texts_of both) (λ s. refl) (λ s. refl) verdict state (walk.round state))
        ∙ after_last last last_kept (λ yes. let fewer = smaller_after_yes walk verdict (IsKept input) walks state kept yes in
        rounds_follow n last.state last_kept (omega (arith, less, fewer)))
        ∙ ap follows (sym (goes_by_its_rounds walk (IsKept input) walks verdict state kept))

    -- ---- the whole

    abbrev opened : RoundEnd TreeState
    opened = (recursion_of walk).opening verdict

    opening_before : (later : Reduction TreeState) → asks_first (walk.text walk.start) (after_opening (state_end Reduced opened) (follows later))
        ≡ follows (asks_first (walk.text walk.start) (after_opening opened later))
    opening_before later =
        let after : Reduction Respelling = respelling_of input verdict later.state in
        let questions =
        ap (λ (texts : List (List ℕ)). walk.text walk.start ∷ texts) (sym (append_assoc opened.questions later.questions after.questions)) in
        λ i. record { questions = questions i; state = Respelled later.state.style after.state; rounds = later.rounds + after.rounds; refused = false }

    -- what isn't refused is followed
    unless_refused : (first : Reduction TreeState) → first.refused ≡ false → follows first ≡ respelled input verdict first
    unless_refused first not_refused =
        ap
        (λ (refused : Bool). cond refused
        (record { questions = first.questions; state = Reduced first.state; rounds = first.rounds; refused = true }) (follows first)) (sym not_refused)

    reductions_follow : reduction (recursion_of both) verdict ≡ respelled input verdict (reduction (recursion_of walk) verdict)
    unfolding reduction
    reductions_follow = by (verdict (walk.text walk.start))
      where
        by : (answer : Bool)
            → asks_first (walk.text walk.start)
            (cond answer (after_opening ((recursion_of both).opening verdict) (go ((recursion_of both).opening verdict).state))
            (ends_with (Reduced walk.start) true))
            ≡ respelled input verdict
            (asks_first (walk.text walk.start) (cond answer (after_opening opened (go_walk opened.state)) (ends_with walk.start true)))
        by false = refl
        by true =
            let kept = remaining-kept walk verdict (IsKept input) walk.start walk.opening walks.keeps.start walks.keeps.opening in
            ap (λ (end : RoundEnd SpellState). asks_first (walk.text walk.start) (after_opening end (go end.state)))
            (end_as Reduced (texts_of walk) (texts_of both) (λ s. refl) (λ s. refl) verdict (in_style Style.AsWas input.whole) (opening_trials input))
            ∙ ap (λ (r : Reduction SpellState). asks_first (walk.text walk.start) (after_opening (state_end Reduced opened) r))
            (rounds_follow (suc (weight opened.state.tree)) opened.state kept (omega arith))
            ∙ opening_before (go_walk opened.state)
            ∙ unless_refused (asks_first (walk.text walk.start) (after_opening opened (go_walk opened.state)))
            (rounds_not_refused (recursion_of walk) verdict opened.state)

pub respells_reductions : (round : NormalForm → Sym → PlainTree → Trials PlainTree) → WalksAreLawful round → SpellModeIsLawful round → LeftIsPart
    → RespellsReductions round
respells_reductions round walks lawful part input verdict is =
    reductions_follow round input verdict (lawful input is) is part (walks input is)
