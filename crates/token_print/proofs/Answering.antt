-- What is answered and counted of a printed text, by the start, the tokens and the text as they are lent.
use Rattle.std.proofs.Common.{◌≡◌, ◌<◌, ◌-◌, ◌^◌, ◌↔◌, ℕ, Bool, List, length, map, sym, ap, ap₂, subst, arith}
use Rattle.std.specs.Prelude.{IfOk, IsTrue, Result, Ok, Err}
use Rattle.std.specs.Str.{chars, IsUtf8}
use Rattle.grammar_tree.specs.Written.{WrittenGrammar}
use Rattle.grammar_tree.specs.Lexes.{LexesTo}
use Rattle.lexer.specs.declared.token.Token.{Token}
use Rattle.lexer.specs.Pieces.{ArePiecesOf}
use Rattle.lexer.specs.Tokens.{HasTokens, token_of}
use Rattle.token_print.specs.LexingLaws.{AreInOrder, TokensArePieces}
use Rattle.token_print.specs.Spelling.{kinds_and_spellings}
use Rattle.token_print.specs.declared.joins.Joins.{Joins}
use Rattle.token_print.specs.declared.style.Skips.{Skips}
use Rattle.token_print.specs.inner.Joins.{IsJoinsOf, IsKeptFrom, ReadsFewFrom, SpellsFrom, items_of, start_of}
use Rattle.token_print.specs.Kept.{AreKept, KeepsTokens}
use Rattle.token_print.specs.Printed.{AreSkipped}
use Rattle.token_print.specs.Reads.{ReadsFew}
use Rattle.token_print.specs.Runs.{runs, uncarried}
use Rattle.token_print.proofs.PrintedCopies.{ArePrintedCopies, spells_from}
use Rattle.token_print.proofs.Skipped.{same_skips}
use Rattle.token_print.proofs.StartPieces.{pieces_rise}

module _ (G : WrittenGrammar) (j : Joins) (tokens : List Token) (text : List ℕ) (same : j.layout.tokens.now ≡ tokens) (read : j.text.now ≡ text) where
  pub joins_of : (skips : Skips) → skips ≡ j.layout.skips → IsUtf8 (start_of j) → HasTokens G (chars (start_of j)) (map token_of tokens)
      → AreInOrder (start_of j) (map token_of tokens) → ArePiecesOf G (start_of j) j.pieces.now → AreKept (map token_of tokens) j.kept.now →
      ArePrintedCopies (start_of j) text (runs skips (start_of j) (map token_of tokens) j.kept.now j.layout.style) → length (start_of j) < 2 ^ 32 - 1
      → length text < 2 ^ 32 - 1 → IsJoinsOf G j
  joins_of skips agree utf8 has order pieces kept copies small_start small =
      let P : List Token → Type 0 = λ ts. HasTokens G (chars (start_of j)) (map token_of ts) in
      let Q : List Token → Type 0 = λ ts. AreInOrder (start_of j) (map token_of ts) in
      let R : List Token → Type 0 = λ ts. AreKept (map token_of ts) j.kept.now in
      let S : List Token → Type 0 = λ ts. ArePrintedCopies (start_of j) text (runs skips (start_of j) (map token_of ts) j.kept.now j.layout.style) in
      let T : Skips → Type 0 = λ s. ArePrintedCopies (start_of j) text (runs s (start_of j) (map token_of j.layout.tokens.now) j.kept.now j.layout.style) in
      let U : List ℕ → Type 0 =
      λ t. ArePrintedCopies (start_of j) t (runs j.layout.skips (start_of j) (map token_of j.layout.tokens.now) j.kept.now j.layout.style) in
      let copied = subst U (sym read) (subst T agree (subst S (sym same) copies)) in
      record {
        utf8 = utf8;
        tokens = subst P (sym same) has;
        order = subst Q (sym same) order;
        pieces = pieces;
        rise = pieces_rise G (start_of j) (items_of j) pieces.cut;
        kept = subst R (sym same) kept;
        text = copied.0;
        copied = copied.1;
        small_start = small_start;
        small = omega (arith, small, ap length read);
      }

  pub keeps_of : TokensArePieces → IsUtf8 text → (keeps : Bool) → IsTrue keeps ↔ IsKeptFrom G j (record { at = 0; found = 0 }) → IsTrue keeps
      ↔ KeepsTokens G (start_of j) (map token_of tokens) j.kept.now text
  keeps_of law utf8 keeps says =
      let spelled = kinds_and_spellings (start_of j) (map token_of tokens) j.kept.now in
      let P : List Token → Type 0 = λ ts. IsTrue keeps ↔ SpellsFrom G j.text.now 0 (kinds_and_spellings (start_of j) (map token_of ts) j.kept.now) in
      let Q : List ℕ → Type 0 = λ t. IsTrue keeps ↔ SpellsFrom G t 0 spelled in
      let by = subst Q read (subst P same says) in
      let from = spells_from law G text spelled utf8 in (λ t. from.1 (by.0 t), λ k. by.1 (from.0 k))

  pub reads_of : (before after : ℕ) → AreSkipped G j.layout.skips → ReadsFewFrom G j 0 before after
      → ReadsFew G (start_of j) (items_of j) (map token_of tokens) j.kept.now j.layout.style text before after
  reads_of before after skipped few skips found left more also lexed end =
      let P : List ℕ → Type 0 = λ t. LexesTo G (chars t) found left in
      let all : runs j.layout.skips (start_of j) (map token_of j.layout.tokens.now) j.kept.now j.layout.style ≡ runs skips (start_of j)
      (map token_of tokens) j.kept.now j.layout.style =
      ap₂ (λ s ts. runs s (start_of j) (map token_of ts) j.kept.now j.layout.style) (same_skips G j.layout.skips skips skipped also) same in
      omega (arith, few found left more (subst P (sym read) lexed) end, ap (λ rs. uncarried (items_of j) rs 0 found) all)

-- what holds of an answer, where something else follows from it
pub if_ok : {A E : Type 0} (r : Result A E) (P Q : A → Type 0) → ((a : A) → P a → Q a) → IfOk r P → IfOk r Q
if_ok (Ok a) P Q f h = f a h
if_ok (Err e) P Q f h = tt
