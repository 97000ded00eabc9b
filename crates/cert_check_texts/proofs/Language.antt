-- Whether a text with its tokens is in the language.
use Rattle.std.proofs.Common.{◌≡◌, ℕ, Bool, true, List, Result, Ok, Err, [], ◌∷◌, map, refl, sym, ap, subst}
use Rattle.std.specs.Prelude.{◌↔◌, IfOk, IsTrue}
use Rattle.std.specs.Str.{chars, IsUtf8}
use Rattle.grammar_tree.specs.Written.{CheckedGrammar, WrittenGrammar}
use Rattle.grammar_tree.specs.Checked.{IsChecked, StartDerives}
use Rattle.grammar_tree.specs.Lexes.{PlacedToken}
use Rattle.lexer.specs.Tokens.{HasTokens, ReportsStop, token_of}
use Rattle.lexer.specs.declared.token.LexFault.{LexFault}
use Rattle.lexer.specs.declared.token.Token.{Token}
use Rattle.normal_form.specs.declared.normal.Sym.TheVariants.{Rule}
use Rattle.normal_form.specs.Form.{NormalForm}
use Rattle.normal_form.specs.Laws.{EqualLanguages}
use Rattle.normal_form.specs.NormalDerives.{NormalDerives}
use Rattle.normal_form.specs.NormalOf.{normal_of}
use Rattle.token_print.specs.LexingLaws.{TokensAreUnique, TokensHaveNoStop}
use Rattle.token_print.specs.declared.style.Style.{Style}
use Rattle.reduce_trees_mode.specs.Candidates.{InLanguage}
use Rattle.keep_guard.specs.Keep.{holds_all}
use Rattle.cert_check_texts.specs.inner.Fields.{IsPrint, kinds_in}
use Rattle.cert_check_texts.specs.Texts.{IsCandidateFrom, IsPrintOf, TreeStart}

-- what has tokens has no fault but out of memory
pub never : TokensHaveNoStop → (G : WrittenGrammar) (characters : List ℕ) (tokens : List PlacedToken) → HasTokens G characters tokens
    → (fault : LexFault) (offset : ℕ) → fault ≡ LexFault.NoToken offset → ReportsStop G characters fault → ⊥
never no_stop G characters tokens has fault offset is stop =
    no_stop G characters tokens offset has (subst (λ (f : LexFault). ReportsStop G characters f) is stop)

-- the kinds of tokens, one by one
pub same_kinds : (tokens : List Token) → map (λ (t : Token). t.kind) tokens ≡ kinds_in (map token_of tokens)
same_kinds [] = refl
same_kinds (t ∷ tokens) = ap (λ (kinds : List ℕ). t.kind ∷ kinds) (same_kinds tokens)

-- what is answered of one of two facts that hold together
pub answered : {E P Q : Type 0} (r : Result Bool E) → P ↔ Q → IfOk r (λ b. IsTrue b ↔ P) → IfOk r (λ b. IsTrue b ↔ Q)
answered (Ok b) both exact = (λ is. both.0 (exact.0 is), λ q. exact.1 (both.1 q))
answered (Err e) both exact = tt

-- what the normal form derives from its start, the grammar derives
pub derived_so : EqualLanguages → (g : CheckedGrammar) → IsChecked g → (N : NormalForm) → N ≡ normal_of g → (kinds w : List ℕ) → kinds ≡ w
    → NormalDerives N (Rule N.start) kinds ↔ StartDerives g w
derived_so equal g checked N form kinds w same =
    let base = (equal g checked).starts w in
    let by_form = subst (λ (M : NormalForm). NormalDerives M (Rule M.start) w ↔ StartDerives g w) (sym form) (base.1, base.0) in
    subst (λ (k : List ℕ). NormalDerives N (Rule N.start) k ↔ StartDerives g w) (sym same) by_form

-- a text with these tokens is in the language exactly where the start derives their kinds
pub in_language : TokensAreUnique → (g : CheckedGrammar) (text : List ℕ) (tokens : List PlacedToken) → IsUtf8 text → HasTokens g.grammar (chars text) tokens
    → StartDerives g (kinds_in tokens) ↔ InLanguage g text
in_language unique g text tokens utf8 has = (
  λ derived. record { utf8 = utf8; tokens = tokens; has = has; derived = derived },
  λ of. subst (λ (ts : List PlacedToken). StartDerives g (kinds_in ts)) (unique g.grammar (chars text) of.tokens tokens of.has has) of.derived,
)

pub with_print : (from : TreeStart) (text : List ℕ) → IsPrint from text → {P Q : Type 0} → P ↔ Q → P ↔ (IsPrint from text × Q)
with_print from text print both = (λ p. (print, both.0 p), λ q. both.1 q.1)

-- a text that isn't printed as it was is printed squeezed, if at all
pub squeezed_only : (from : TreeStart) (text : List ℕ) → (IsPrintOf from Style.AsWas text → ⊥) → IsPrintOf from Style.Squeezed text ↔ IsPrint from text
squeezed_only from text not = (λ one. (Style.Squeezed, one), only)
  where
    only : IsPrint from text → IsPrintOf from Style.Squeezed text
    only (Style.AsWas, one) = absurd (not one)
    only (Style.Squeezed, one) = one

-- a print in the language, in which each text that stays occurs, may be asked
pub may_be_asked : (from : TreeStart) (text : List ℕ) → holds_all from.keeps text ≡ true → (IsPrint from text × InLanguage from.grammar text)
    ↔ IsCandidateFrom from text
may_be_asked from text held = (λ p. asked p.0 p.1, λ one. ((one.style, one.print), one.in_language))
  where
    asked : IsPrint from text → InLanguage from.grammar text → IsCandidateFrom from text
    asked (style, one) language = record { style = style; print = one; held = held; in_language = language }
