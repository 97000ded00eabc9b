-- Bytes have one fault at most, other than out of memory, and with one they aren't in the language.
use Rattle.std.proofs.Common.{◌≡◌, ◌≢◌, ℕ, List, refl, sym, ap, ◌∙◌, subst}
use Rattle.std.specs.Str.{chars}
use Rattle.faults.specs.Memory.{ran_out}
use Rattle.grammar_tree.specs.Written.{CheckedGrammar}
use Rattle.grammar_tree.specs.Checked.{StartDerives}
use Rattle.grammar_tree.specs.Lexes.{PlacedToken}
use Rattle.grammar_tree.specs.Laws.{StopsOnce}
use Rattle.lexer.specs.Tokens.{HasTokens}
use Rattle.token_print.specs.LexingLaws.{TokensAreUnique, TokensHaveNoStop}
use Rattle.reduce_trees_mode.specs.Candidates.{InLanguage}
use Rattle.reduce_trees_input.specs.Parsed.{kinds_in}
use Rattle.reduce_trees_input.specs.Faults.{IsInputFault}
use Rattle.reduce_trees_input.specs.Laws.{InputFaultOnce}
use Rattle.reduce_trees_input.specs.declared.fault.InputFault.{InputFault}
use Rattle.reduce_trees_input.specs.declared.fault.InputFault.TheVariants.{NotUtf8, NoToken, NoParse, Memory}

module _ (unique : TokensAreUnique) (no_stop : TokensHaveNoStop) (once : StopsOnce) (grammar : CheckedGrammar) (bytes : List ℕ) where
  -- tokens that the start rule doesn't derive are the only ones
  underived : (tokens others : List PlacedToken) → HasTokens grammar.grammar (chars bytes) tokens → (¬ StartDerives grammar (kinds_in tokens))
      → HasTokens grammar.grammar (chars bytes) others → ¬ StartDerives grammar (kinds_in others)
  underived tokens others has none also derived =
      none (subst (λ (ts : List PlacedToken). StartDerives grammar (kinds_in ts)) (unique grammar.grammar (chars bytes) others tokens also has) derived)

  same_fault : (one other : InputFault) → one ≢ Memory ran_out → other ≢ Memory ran_out → IsInputFault grammar bytes one → IsInputFault grammar bytes other
      → one ≡ other
  same_fault (NotUtf8 a) (NotUtf8 b) s t (invalid, e) (also, f) = ap NotUtf8 (e ∙ sym f)
  same_fault (NotUtf8 a) (NoToken b) s t (invalid, e) (utf8, stop) = absurd (invalid utf8)
  same_fault (NotUtf8 a) NoParse s t (invalid, e) (utf8, rest) = absurd (invalid utf8)
  same_fault (NoToken a) (NotUtf8 b) s t (utf8, stop) (invalid, e) = absurd (invalid utf8)
  same_fault (NoToken a) (NoToken b) s t (utf8, stop) (also, other) = ap NoToken (once grammar.grammar (chars bytes) a b stop other)
  same_fault (NoToken a) NoParse s t (utf8, stop) (also, (tokens, has, none)) = absurd (no_stop grammar.grammar (chars bytes) tokens a has stop)
  same_fault NoParse (NotUtf8 b) s t (utf8, rest) (invalid, e) = absurd (invalid utf8)
  same_fault NoParse (NoToken b) s t (utf8, (tokens, has, none)) (also, stop) = absurd (no_stop grammar.grammar (chars bytes) tokens b has stop)
  same_fault NoParse NoParse s t it that = refl
  same_fault (Memory _) other s t it that = absurd (s refl)
  same_fault one (Memory _) s t it that = absurd (t refl)

  pub refused : (fault : InputFault) → fault ≢ Memory ran_out → IsInputFault grammar bytes fault → ¬ InLanguage grammar bytes
  refused (NotUtf8 a) s (invalid, e) of = invalid of.utf8
  refused (NoToken a) s (utf8, stop) of = no_stop grammar.grammar (chars bytes) of.tokens a of.has stop
  refused NoParse s (utf8, (tokens, has, none)) of = underived tokens of.tokens has none of.has of.derived
  refused (Memory _) s it of = s refl

pub input_fault_once : TokensAreUnique → TokensHaveNoStop → StopsOnce → InputFaultOnce
input_fault_once unique no_stop once grammar bytes =
    record { once = same_fault unique no_stop once grammar bytes; refused = refused unique no_stop once grammar bytes }
