-- Beside `../InputParts.antt`: what private functions and proofs need.
use Rattle.std.specs.Prelude.{ℕ, List, Option, refl}
use Rattle.std.proofs.Props.{props}
use Rattle.std.specs.Coded.{Coded-set, code_by, coded×, coded_list, coded_option, coded_ℕ}
use Rattle.grammar_tree.specs.Lexes.{PlacedToken}
use Rattle.normal_form.specs.declared.normal.Sym.{Sym}
use Rattle.normal_form.specs.inner.Code.{normal_coded, symbol_coded}
use Rattle.normal_form.specs.Form.{NormalForm}
use Rattle.reduce_trees_mode.specs.Input.{TreeInput}
use Rattle.reduce_trees_mode.specs.InputParts.{AreJoined}

pub form_set : IsSet NormalForm
form_set = Coded-set normal_coded

pub symbol_set : IsSet Sym
symbol_set = Coded-set symbol_coded

tokens_set : IsSet (Option (List PlacedToken))
tokens_set =
    Coded-set
    (coded_option
    (coded_list (code_by (ℕ × (ℕ × ℕ)) (coded× coded_ℕ (coded× coded_ℕ coded_ℕ)) (λ t. (t.kind, (t.start, t.end)))
    (λ p. record { kind = p.0; start = p.1.0; end = p.1.1 }) (λ _. refl))))

kinds_set : IsSet (List ℕ)
kinds_set = Coded-set (coded_list coded_ℕ)

pub joined_prop : (input : TreeInput) → IsProp (AreJoined input)
joined_prop input = hlevel (props, form_set, symbol_set, tokens_set, kinds_set)
