-- A text that was worked out by hand, in both styles.
use Rattle.std.specs.Prelude.{◌≡◌, true, ℕ, ◌+◌, List, [], ◌∷◌, codes}
use Rattle.grammar_tree.specs.Lexes.{PlacedToken}
use Rattle.token_print.specs.declared.style.Style.{Style}
use Rattle.token_print.specs.Printed.{printed}

-- a token of one byte
abbrev pub one_byte : ℕ → ℕ → PlacedToken
one_byte kind start = record { kind = kind; start = start; end = start + 1 }

-- the tokens of `x=((1));`
abbrev pub worked_tokens : List PlacedToken
worked_tokens = one_byte 7 0 ∷ one_byte 0 1 ∷ one_byte 5 2 ∷ one_byte 5 3 ∷ one_byte 8 4 ∷ one_byte 6 5 ∷ one_byte 6 6 ∷ one_byte 1 7 ∷ []

-- the text of its tokens 0, 1, 4 and 7, where newlines and spaces are skipped
abbrev pub worked_text : Style → List ℕ
worked_text style = printed (record { newline = true; space = true }) (codes "x=((1));") worked_tokens (0 ∷ 1 ∷ 4 ∷ 7 ∷ []) style

abbrev pub WorkedTexts : Type 0
WorkedTexts = (worked_text Style.AsWas ≡ codes "x= 1 ;") × (worked_text Style.Squeezed ≡ codes "x = 1 ;\n")
