-- The spellings of an input's start are those that a speller takes.
use Rattle.std.proofs.Common.{◌≡◌, ℕ, List, sym, subst}
use Rattle.grammar_tree.specs.Lexes.{PlacedToken}
use Rattle.token_print.specs.LexingLaws.{AreInOrder, TokensAreInOrder}
use Rattle.reduce_trees_mode.specs.Input.{TreeInput, IsInput}

module _ (input : TreeInput) (start : List ℕ) (tokens : List PlacedToken) (starts : start ≡ input.start) (has : tokens ≡ input.tokens) where
  -- the tokens are in order in the start
  pub in_order : IsInput input → TokensAreInOrder → AreInOrder start tokens
  in_order is laws = subst (λ text. AreInOrder text tokens) (sym starts)
      (subst (AreInOrder input.start) (sym has) (laws input.grammar.grammar input.start input.tokens is.utf8 is.has_tokens))

  -- what holds of the start and the tokens holds of the input's
  pub of_input : (P : List ℕ → List PlacedToken → Type 0) → P start tokens → P input.start input.tokens
  of_input P holds = subst (λ text. P text input.tokens) starts (subst (P start) has holds)
