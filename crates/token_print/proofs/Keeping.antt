-- A text that was lexed keeps tokens where its own have their kinds and spellings.
use Rattle.std.proofs.Common.{◌≡◌, ◌↔◌, ℕ, Bool, true, List, map, slice_get, sym, ap, ◌∙◌, subst}
use Rattle.std.specs.List.{filter_map}
use Rattle.std.specs.Str.{chars, IsUtf8}
use Rattle.grammar_tree.specs.Written.{WrittenGrammar}
use Rattle.grammar_tree.specs.Lexes.{Piece, PlacedToken, StopsAt}
use Rattle.lexer.specs.Tokens.{HasTokens, ReportsStop, token_of}
use Rattle.lexer.specs.declared.token.LexFault.{LexFault}
use Rattle.lexer.specs.declared.token.Token.{Token}
use Rattle.token_print.specs.Spelling.{kind_and_spelling, kinds_and_spellings}
use Rattle.token_print.specs.Spells.{SpellsTokens}
use Rattle.token_print.proofs.Once.{no_stop, unique}
use Rattle.token_print.proofs.Spelled as spelled
use Rattle.token_print.specs.Laws.{KeptKinds}

module _ (G : WrittenGrammar) (text : List ℕ) (spelled : List Piece) where
  pub spells : (found : List PlacedToken) → IsUtf8 text → HasTokens G (chars text) found → (map (kind_and_spelling text) found ≡ spelled)
      ↔ SpellsTokens G text spelled
  spells found utf8 has = (
    λ e. record { utf8 = utf8; tokens = found; has = has; same = e },
    λ s. ap (map (kind_and_spelling text)) (unique G (chars text) found s.tokens has s.has)
        ∙ s.same,
  )

  pub never : (read : List ℕ) (fault : LexFault) (offset : ℕ) → read ≡ text → fault ≡ LexFault.NoToken offset → ReportsStop G (chars read) fault
      → ¬ SpellsTokens G text spelled
  never read fault offset same is stop s =
      let P : LexFault → Type 0 = λ f. ReportsStop G (chars read) f in
      let Q : List ℕ → Type 0 = λ x. StopsAt G (chars x) offset in no_stop G (chars text) s.tokens offset s.has (subst Q same (subst P is stop))

both : {A B C : Type 0} → A ↔ B → B ↔ C → A ↔ C
both f g = (λ a. g.0 (f.0 a), λ c. f.1 (g.1 c))

-- what is answered of the text that was read, and of the lists of tokens as they are lent
pub answered : (G : WrittenGrammar) (bytes text start : List ℕ) (found seen tokens known : List Token) (kept : List ℕ) (answer : Bool) → text ≡ bytes
    → IsUtf8 bytes → HasTokens G (chars text) (map token_of found) → seen ≡ found → known ≡ tokens →
    (answer ≡ true) ↔ (map (kind_and_spelling text) (map token_of seen) ≡ kinds_and_spellings start (map token_of known) kept) →
    (answer ≡ true) ↔ SpellsTokens G bytes (kinds_and_spellings start (map token_of tokens) kept)
answered G bytes text start found seen tokens known kept answer read utf8 has lent also exact =
    let spelled = kinds_and_spellings start (map token_of tokens) kept in
    let U : List ℕ → Type 0 = λ x. IsUtf8 x in
    let P : List Token → Type 0 =
    λ x. (answer ≡ true) ↔ (map (kind_and_spelling text) (map token_of x) ≡ kinds_and_spellings start (map token_of known) kept) in
    let Q : List Token → Type 0 =
    λ x. (answer ≡ true) ↔ (map (kind_and_spelling text) (map token_of found) ≡ kinds_and_spellings start (map token_of x) kept) in
    let R : List ℕ → Type 0 = λ x. (answer ≡ true) ↔ SpellsTokens G x spelled in
    subst R read (both (subst Q also (subst P lent exact)) (spells G text spelled (map token_of found) (subst U (sym read) utf8) has))

pub have_kinds : KeptKinds
have_kinds G start tokens kept text keeps =
    let (found, has, same) = spelled.have_kinds G text (kinds_and_spellings start tokens kept) keeps in
    (found, has, same ∙ sym (spelled.kinds start (filter_map (slice_get tokens) kept)))
