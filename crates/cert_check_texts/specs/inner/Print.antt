-- A text beside the layout of the print that it may be: what is said in Reached, of its layout and its text.
use Rattle.std.specs.Prelude.{◌≡◌, ◌<◌, ◌^◌, ℕ, List, Option, Some, length, map}
use Rattle.std.specs.List.{Contains}
use Rattle.grammar_tree.specs.Lexes.{PlacedToken}
use Rattle.lexer.specs.Tokens.{token_of}
use Rattle.token_print.specs.LexingLaws.{AreInOrder}
use Rattle.token_print.specs.Spelling.{spelling_at}
use Rattle.cert_check_texts.specs.inner.Numbers.{HasNumbers}
use Rattle.cert_check_texts.specs.inner.Reached as steps
use Rattle.cert_check_texts.specs.inner.Reached.{AreSeparators, Follows, LeavesOut}
use Rattle.cert_check_texts.specs.declared.reached.Reached.{Reached}
use Rattle.cert_check_texts.specs.declared.prints.Print.{Print}

-- the start's tokens
abbrev pub tokens_in : Print → List PlacedToken
tokens_in p = map token_of p.layout.tokens.now

-- The start's tokens are in order and fewer than 2^32, their separators are known, and with each spelling are kept its tokens.
pub record IsLaidOut (p : Print) : Type 0 where
  pub order : AreInOrder p.layout.start.now (tokens_in p)
  pub few : length p.layout.tokens.now < 2 ^ 32
  pub separate : AreSeparators p.layout.skips p.layout.start.now (tokens_in p) (length (tokens_in p)) p.separators.now
  pub equal : HasNumbers p.equal.now (spelling_at p.layout.start.now (tokens_in p)) (length (tokens_in p))

abbrev pub GoesOn : Print → Option ℕ → ℕ → ℕ → ℕ → Type 0
GoesOn p = steps.GoesOn p.layout.skips p.layout.start.now (tokens_in p) p.layout.style p.text.now

abbrev pub CanEnd : Print → Option ℕ → ℕ → List (List ℕ) → Type 0
CanEnd p = steps.CanEnd p.layout.skips p.layout.start.now (tokens_in p) p.layout.style p.text.now

abbrev pub SomeCanEnd : Print → List Reached → List (List ℕ) → Type 0
SomeCanEnd p = steps.SomeCanEnd p.layout.skips p.layout.start.now (tokens_in p) p.layout.style p.text.now

abbrev pub AreAfterFirst : Print → List ℕ → List Reached → Type 0
AreAfterFirst p = steps.AreAfterFirst p.layout.skips p.layout.start.now (tokens_in p) p.layout.style p.text.now

abbrev pub AreAfterBy : Print → (ℕ → ℕ → Type 0) → List Reached → List ℕ → List Reached → Type 0
AreAfterBy p = steps.AreAfterBy p.layout.skips p.layout.start.now (tokens_in p) p.layout.style p.text.now

abbrev pub AreSomeAfter : Print → List Reached → List ℕ → List Reached → Type 0
AreSomeAfter p = steps.AreSomeAfter p.layout.skips p.layout.start.now (tokens_in p) p.layout.style p.text.now

abbrev pub AreAfterToken : Print → List Reached → List ℕ → List Reached → Type 0
AreAfterToken p = steps.AreAfterToken p.layout.skips p.layout.start.now (tokens_in p) p.layout.style p.text.now

-- from the offset, after the last token, the text goes on with this token to the pair
abbrev pub LeadsTo : Print → Option ℕ → ℕ → ℕ → Reached → Type 0
LeadsTo p last offset index pair = (pair.last ≡ index) × GoesOn p last offset index pair.offset

-- from the one pair it does with a token of this spelling that follows
abbrev pub LeadsToNext : Print → List ℕ → Reached → Reached → Type 0
LeadsToNext p spelling from pair =
    Follows from.last pair.last × (spelling_at p.layout.start.now (tokens_in p) pair.last ≡ spelling)
    × GoesOn p (Some from.last) from.offset pair.last pair.offset

-- from the one pair it does with this token, before which one at least is left out
abbrev pub LeadsToLater : Print → ℕ → Reached → Reached → Type 0
LeadsToLater p index from pair = LeavesOut from.last index × LeadsTo p (Some from.last) from.offset index pair

-- Each of these numbers is that of a token of this spelling.
abbrev pub AreOf : Print → List ℕ → List ℕ → Type 0
AreOf p spelling list =
    (index : ℕ) → Contains list index → (index < length (tokens_in p)) × (spelling_at p.layout.start.now (tokens_in p) index ≡ spelling)
