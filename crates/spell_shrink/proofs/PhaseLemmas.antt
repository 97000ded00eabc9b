-- What a round says in the one phase or the other.
use Rattle.std.proofs.Common.{◌≡◌, ◌∙◌, ℕ, Bool, List, Option, Result, length, refl, sym, ap, subst}
use Rattle.std.specs.Prelude.{IfSome, IsSome, OnOk}
use Rattle.std.proofs.lemmas.Result.{on_ok_weaker}
use Rattle.normal_form.specs.declared.normal.Sym.{Sym}
use Rattle.normal_form.specs.Form.{NormalForm}
use Rattle.syntax_tree.specs.LeftLaws.{LeftIsPart}
use Rattle.syntax_tree.specs.Trees.{PlainTree, leaves, weight}
use Rattle.token_print.specs.declared.style.Style.{Style}
use Rattle.reduce_rounds.specs.Fields.{listed_text}
use Rattle.reduce_rounds.specs.Trials.{Trials, Done, Try, is_done, state_after, tried_state, trials_after}
use Rattle.reduce_trees.specs.WalkMode.{walk_mode}
use Rattle.reduce_trees_mode.specs.Input.{IsInput, TreeInput, TreeState}
use Rattle.reduce_trees_mode.specs.Listed.{IsKept}
use Rattle.spell_shrink.specs.declared.spell_round.Phase.{Phase}
use Rattle.spell_shrink.specs.declared.spell_round.Phase.TheVariants as phases
use Rattle.spell_shrink.specs.Respelling.{Respelling, own_spellings}
use Rattle.spell_shrink.specs.Respelled.{Reduced, Respelled, SpellState, respelling_mode}
use Rattle.spell_shrink.specs.SpellMode.{IsRespellingOf, spell_mode, tokens_in, trials_as}
use Rattle.spell_shrink.proofs.Lawful.{own_kept}
use Rattle.spell_shrink.proofs.Phases.{after_as, done_as, listed_text_as, state_after_as}

module _ {T : Type 0} (as_state : T → SpellState) where
  pub units_as : (size : T → ℕ) → ((state : T) → tokens_in (as_state state) ≡ size state) → (n : ℕ) (trials : Trials T)
      → IfSome (tried_state trials) (λ state. n ≡ size state) → IfSome (tried_state (trials_as as_state trials)) (λ state. n ≡ tokens_in state)
  units_as size is n Done same = tt
  units_as size is n (Try state at_yes at_no) same = same ∙ sym (is state)

  pub some_as : (trials : Trials T) → IsSome (tried_state (trials_as as_state trials)) → IsSome (tried_state trials)
  some_as Done some = some
  some_as (Try state at_yes at_no) some = some

  pub is_done_as : (trials : Trials T) → trials_as as_state trials ≡ Done → trials ≡ Done
  is_done_as Done is = refl
  is_done_as (Try state at_yes at_no) is = absurd (cc is)

  -- what is tried after an answer, and the last yes
  pub rest_after : {X E : Type 0} (result : Result X E) (old new : Trials T) (said : Bool) → OnOk result (new ≡ trials_after old said)
      → OnOk result (trials_as as_state new ≡ trials_after (trials_as as_state old) said)
  rest_after result old new said after = on_ok_weaker result (λ same. ap (trials_as as_state) same ∙ sym (after_as as_state old said)) after

  pub yes_after : {X E : Type 0} (result : Result X E) (state new : T) (old : Trials T) (said : Bool) → OnOk result (new ≡ state_after state old said)
      → OnOk result (as_state new ≡ state_after (as_state state) (trials_as as_state old) said)
  yes_after result state new old said after = on_ok_weaker result (λ same. ap as_state same ∙ sym (state_after_as as_state state old said)) after

-- ---- trees as states

pub reducing_over : (over : Bool) (rest : Trials TreeState) → over ≡ is_done rest → over ≡ is_done (trials_as Reduced rest)
reducing_over over rest same = same ∙ sym (done_as Reduced rest)

module _ (walk : NormalForm → Sym → PlainTree → Trials PlainTree) (input : TreeInput) where
  pub reducing_text : (rest : Trials TreeState) (text : Option (List ℕ)) → text ≡ listed_text (walk_mode walk input) rest
      → text ≡ listed_text (spell_mode walk input) (trials_as Reduced rest)
  reducing_text rest text same = same ∙ sym (listed_text_as Reduced (walk_mode walk input) (spell_mode walk input) (λ s. refl) (λ s. refl) rest)

pub reducing_units : (n : ℕ) (rest : Trials TreeState) → IfSome (tried_state rest) (λ s. n ≡ weight s.tree)
    → IfSome (tried_state (trials_as Reduced rest)) (λ s. n ≡ tokens_in s)
reducing_units n rest same = units_as Reduced (λ (s : TreeState). weight s.tree) (λ s. refl) n rest same

-- what begins the next phase: the tokens' own spellings
pub own_next : (input other : TreeInput) (state : TreeState) (kept : List ℕ) (style : Style) (r : Respelling) → other ≡ input
    → kept ≡ leaves state.tree → style ≡ state.style → r ≡ own_spellings other.start other.tokens kept
    → Respelled style r ≡ Respelled state.style (own_spellings input.start input.tokens (leaves state.tree))
own_next input other state kept style r same tokens style_is own =
    let all = own ∙ (λ i. own_spellings (same i).start (same i).tokens (tokens i)) in λ i. Respelled (style_is i) (all i)

-- it is a respelling of what is left
pub own_of : (input other : TreeInput) (state : TreeState) (kept : List ℕ) (style : Style) → IsInput other → LeftIsPart → other ≡ input
    → kept ≡ leaves state.tree → style ≡ state.style → IsKept input state → IsRespellingOf other style (own_spellings other.start other.tokens kept)
own_of input other state kept style is part same tokens style_is reached =
    subst (λ (s : Style). IsRespellingOf other s (own_spellings other.start other.tokens kept)) (sym style_is)
    (subst (λ (l : List ℕ). IsRespellingOf other state.style (own_spellings other.start other.tokens l)) (sym tokens)
    (own_kept other is part state (subst (λ (i : TreeInput). IsKept i state) (sym same) reached)))

-- where it isn't the one phase it is the other
pub other_phase : {R S : Type 0} (phase : Phase R S) → ((round : R) → phase ≡ phases.Reducing round → ⊥) → (step : S) × (phase ≡ phases.Respelling step)
other_phase (phases.Reducing round) other = absurd (other round refl)
other_phase (phases.Respelling step) other = (step, refl)

-- ---- respellings as states, in a style that stays

pub respelling_over : (style : Style) (over : Bool) (rest : Trials Respelling) → over ≡ is_done rest → over ≡ is_done (trials_as (Respelled style) rest)
respelling_over style over rest same = same ∙ sym (done_as (Respelled style) rest)

pub respelling_text : (walk : NormalForm → Sym → PlainTree → Trials PlainTree) (input : TreeInput) (style : Style) (first : Respelling)
    (rest : Trials Respelling) (text : Option (List ℕ)) → text ≡ listed_text (respelling_mode input style first) rest
    → text ≡ listed_text (spell_mode walk input) (trials_as (Respelled style) rest)
respelling_text walk input style first rest text same =
    same ∙ sym (listed_text_as (Respelled style) (respelling_mode input style first) (spell_mode walk input) (λ r. refl) (λ r. refl) rest)

pub respelling_units : (style : Style) (n : ℕ) (rest : Trials Respelling) → IfSome (tried_state rest) (λ r. n ≡ length r)
    → IfSome (tried_state (trials_as (Respelled style) rest)) (λ s. n ≡ tokens_in s)
respelling_units style n rest same = units_as (Respelled style) (λ (r : Respelling). length r) (λ r. refl) n rest same

module _ {X E : Type 0} (result : Result X E) (style new_style : Style) (stays : new_style ≡ style) where
  pub respelling_rest : (old new : Trials Respelling) (said : Bool) → OnOk result (new ≡ trials_after old said)
      → OnOk result (trials_as (Respelled new_style) new ≡ trials_after (trials_as (Respelled style) old) said)
  respelling_rest old new said after =
      on_ok_weaker result (λ same. ap (λ (s : Style). trials_as (Respelled s) new) stays ∙ same) (rest_after (Respelled style) result old new said after)

  pub respelling_state : (r new : Respelling) (old : Trials Respelling) (said : Bool) → OnOk result (new ≡ state_after r old said)
      → OnOk result (Respelled new_style new ≡ state_after (Respelled style r) (trials_as (Respelled style) old) said)
  respelling_state r new old said after =
      on_ok_weaker result (λ same. ap (λ (s : Style). Respelled s new) stays ∙ same) (yes_after (Respelled style) result r new old said after)

  pub respelling_begun : (rest all : Trials Respelling) → OnOk result (rest ≡ all)
      → OnOk result (trials_as (Respelled new_style) rest ≡ trials_as (Respelled style) all)
  respelling_begun rest all begun = on_ok_weaker result (λ same i. trials_as (Respelled (stays i)) (same i)) begun
