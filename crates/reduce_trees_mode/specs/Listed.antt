-- The texts of states, and which states may be asked.
use Rattle.std.specs.Prelude.{ℕ, ◌<◌, ◌&&◌, ⊤, Bool, List, IsTrue, length}
use Rattle.token_print.specs.Readings.{spells}
use Rattle.token_print.specs.Spelling.{kinds_and_spellings}
use Rattle.syntax_tree.specs.Trees.{leaves}
use Rattle.syntax_tree.specs.Valid.{IsTreeFor}
use Rattle.syntax_tree.specs.Left.{IsRemainderOf}
use Rattle.token_print.specs.declared.style.Skips.{Skips}
use Rattle.token_print.specs.declared.style.Style.{Style}
use Rattle.token_print.specs.Kept.{KeepsTokens}
use Rattle.token_print.specs.Laws.{skips_in}
use Rattle.token_print.specs.Printed.{printed}
use Rattle.reduce_trees_mode.specs.Input.{TreeInput, TreeState}

-- which of the characters that separate tokens the grammar skips
abbrev pub skips_of : TreeInput → Skips
skips_of input = skips_in input.grammar.grammar

-- the text of some of the start's tokens
abbrev pub text_in : TreeInput → List ℕ → Style → List ℕ
text_in input kept style = printed (skips_of input) input.start input.tokens kept style

-- the text of a state: that of the tokens that are left of the tree
abbrev pub text_of_state : TreeInput → TreeState → List ℕ
text_of_state input state = text_in input (leaves state.tree) state.style

-- The state may be asked: its text is cut into tokens with the kinds and spellings of those that are left, and it is admitted.
pub record IsListed (input : TreeInput) (state : TreeState) : Type 0 where
  pub keeps : KeepsTokens input.grammar.grammar input.start input.tokens (leaves state.tree) (text_of_state input state)
  pub admitted : IsTrue (input.admits (leaves state.tree) (text_of_state input state))

-- whether it may: each text is read to its end or to where it stops, so it is known which tokens it spells
abbrev pub is_listed : TreeInput → TreeState → Bool
is_listed input state =
    spells input.grammar.grammar (text_of_state input state) (kinds_and_spellings input.start input.tokens (leaves state.tree))
    && input.admits (leaves state.tree) (text_of_state input state)

-- The style is one that a reduction may reach: squeezed texts are kept only where they are
-- asked for, and where that of the whole has fewer bytes than the start.
abbrev pub MayKeepStyle : TreeInput → Style → Type 0
MayKeepStyle input Style.AsWas = ⊤
MayKeepStyle input Style.Squeezed = IsTrue input.squeezes × (length (text_in input (leaves input.whole) Style.Squeezed) < length input.start)

-- What holds of each state that a reduction reaches: its tree is valid for the start rule and
-- is left of the tree of all tokens, and its style is one that may be kept.
pub record IsKept (input : TreeInput) (state : TreeState) : Type 0 where
  pub fits : IsTreeFor input.form input.symbol state.tree
  pub left : IsRemainderOf input.whole state.tree
  pub may_keep : MayKeepStyle input state.style
