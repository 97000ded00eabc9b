-- A reduction with respelling as one mode. It has two phases: the rounds of trees, and then those of respellings.
use Rattle.std.specs.Prelude.{◌≡◌, ◌+◌, ◌≤◌, ℕ, suc, Bool, List, Option, Some, None, length}
use Rattle.std.specs.List.{All}
use Rattle.normal_form.specs.declared.normal.Sym.{Sym}
use Rattle.normal_form.specs.Form.{NormalForm}
use Rattle.syntax_tree.specs.Trees.{PlainTree, leaves, weight}
use Rattle.token_print.specs.Spelling.{spelling_at}
use Rattle.token_print.specs.declared.style.Style.{Style}
use Rattle.reduce_rounds.specs.Trials.{Trials, Done, Try}
use Rattle.reduce_rounds.specs.Mode.{RoundMode}
use Rattle.reduce_trees_mode.specs.Input.{TreeInput}
use Rattle.reduce_trees_mode.specs.InStyles.{in_style}
use Rattle.reduce_trees_mode.specs.Listed.{IsKept, is_listed, text_of_state}
use Rattle.reduce_trees_mode.specs.TreeTrials.{opening_trials}
use Rattle.reduce_trees.specs.WalkMode.{walk_mode}
use Rattle.spell_shrink.specs.Respelling.{IsRespelling, Respelling, SpelledToken, numbers_of, own_spellings}
use Rattle.spell_shrink.specs.Texts.{is_listed_respelling, text_of_respelling}
use Rattle.spell_shrink.specs.Respelled.{Reduced, Respelled, SpellState, spell_round, word_bytes}

-- the same trials, of trees or of respellings as states
abbrev pub trials_as : {T : Type 0} → (T → SpellState) → Trials T → Trials SpellState
trials_as as_state Done = Done
trials_as as_state (Try state at_yes at_no) = Try (as_state state) (trials_as as_state at_yes) (trials_as as_state at_no)

abbrev pub text_in_phase : TreeInput → SpellState → List ℕ
text_in_phase input (Reduced state) = text_of_state input state
text_in_phase input (Respelled style r) = text_of_respelling input style r

abbrev pub is_listed_in_phase : TreeInput → SpellState → Bool
is_listed_in_phase input (Reduced state) = is_listed input state
is_listed_in_phase input (Respelled style r) = is_listed_respelling input style r

-- how many tokens a state has
abbrev pub tokens_in : SpellState → ℕ
tokens_in (Reduced state) = weight state.tree
tokens_in (Respelled style r) = length r

-- A tree counts by its tokens, and for more than the bytes of any spellings; a respelling counts by the bytes of its spellings.
abbrev pub spell_measure : TreeInput → SpellState → ℕ
spell_measure input (Reduced state) = weight state.tree + suc (length input.start)
spell_measure input (Respelled style r) = word_bytes r

-- what is left of the tree begins the next phase with the tokens' own spellings
abbrev pub respelled_next : TreeInput → SpellState → Option SpellState
respelled_next input (Reduced state) = Some (Respelled state.style (own_spellings input.start input.tokens (leaves state.tree)))
respelled_next input (Respelled style r) = None

module _ (round : NormalForm → Sym → PlainTree → Trials PlainTree) where
  -- what one round tries
  abbrev pub round_in_phase : TreeInput → SpellState → Trials SpellState
  round_in_phase input (Reduced state) = trials_as Reduced ((walk_mode round input).round state)
  round_in_phase input (Respelled style r) = trials_as (Respelled style) (spell_round input.start input.tokens r)

  -- the mode whose rounds try this of a tree, and whose next phase respells what is left
  abbrev pub spell_mode : TreeInput → RoundMode SpellState
  spell_mode input = record {
    start = Reduced (in_style Style.AsWas input.whole);
    text = text_in_phase input;
    is_listed = is_listed_in_phase input;
    size = tokens_in;
    opening = trials_as Reduced (opening_trials input);
    round = round_in_phase input;
    measure = spell_measure input;
    next_phase = respelled_next input;
  }

-- The spelling has no more bytes than the token's own.
abbrev pub IsNoLonger : TreeInput → SpelledToken → Type 0
IsNoLonger input p = length p.word ≤ length (spelling_at input.start input.tokens p.number)

-- The respelling is one of the tokens of a tree that a reduction may reach in this style, and no spelling is longer than the token's own.
pub record IsRespellingOf (input : TreeInput) (style : Style) (r : Respelling) : Type 0 where
  pub tree : PlainTree
  pub kept : IsKept input (in_style style tree)
  pub numbers : numbers_of r ≡ leaves tree
  pub spelled : IsRespelling input.start input.tokens r
  pub no_longer : All (IsNoLonger input) r

-- what holds of each state that is reached
abbrev pub IsKeptInPhase : TreeInput → SpellState → Type 0
IsKeptInPhase input (Reduced state) = IsKept input state
IsKeptInPhase input (Respelled style r) = IsRespellingOf input style r
