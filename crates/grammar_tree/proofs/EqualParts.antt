-- Rules, grammars and kinds with equal parts.
use Rattle.std.proofs.Common.{◌≡◌, ℕ, Bool, List, ap, ◌∙◌}
use Rattle.grammar_tree.specs.Written.{CheckedGrammar, LexerAlts, Source, TokenKind, WrittenGrammar, WrittenRule}

abbrev lexer_rule_of : List ℕ → Bool → Bool → LexerAlts → WrittenRule
lexer_rule_of n f g a = WrittenRule.lexer_rule (record { name = n; fragment = f; gap = g; alts = a })

pub same_lexer_rule : {n m : List ℕ} {a b : LexerAlts} (fragment gap : Bool) → n ≡ m → a ≡ b → lexer_rule_of n fragment gap a ≡ lexer_rule_of m fragment gap b
same_lexer_rule {n} {m} {a} {b} fragment gap e f = ap (λ x. lexer_rule_of x fragment gap a) e ∙ ap (λ x. lexer_rule_of m fragment gap x) f

abbrev grammar_with : List ℕ → List (List ℕ) → List WrittenRule → WrittenGrammar
grammar_with n t r = record { name = n; tokens = t; rules = r }

pub same_grammar : {n m : List ℕ} {t u : List (List ℕ)} {r s : List WrittenRule} → n ≡ m → t ≡ u → r ≡ s → grammar_with n t r ≡ grammar_with m u s
same_grammar {n} {m} {t} {u} {r} {s} e f g = ap (λ x. grammar_with x t r) e ∙ ap (λ x. grammar_with m x r) f ∙ ap (λ x. grammar_with m u x) g

abbrev kind_with : List ℕ → Bool → Source → TokenKind
kind_with n g s = record { name = n; gap = g; source = s }

pub same_kind : {n m : List ℕ} (gap : Bool) (source : Source) → n ≡ m → kind_with n gap source ≡ kind_with m gap source
same_kind gap source e = ap (λ x. kind_with x gap source) e

abbrev checked_with : WrittenGrammar → List TokenKind → ℕ → CheckedGrammar
checked_with g k s = record { grammar = g; kinds = k; start = s }

pub same_checked : {g h : WrittenGrammar} {k l : List TokenKind} (start : ℕ) → g ≡ h → k ≡ l → checked_with g k start ≡ checked_with h l start
same_checked {g} {h} {k} {l} start e f = ap (λ x. checked_with x k start) e ∙ ap (λ x. checked_with h x start) f
