-- Normal forms have a code, so that a type can be seen as one.
use Rattle.std.specs.Prelude.{◌≡◌, ℕ, zero, suc, List, [], refl}
use Rattle.std.specs.Coded.{Coded, code_by, coded×, coded_ℕ, coded_list}
use Rattle.normal_form.specs.declared.normal.Sym.{Sym}
use Rattle.normal_form.specs.declared.normal.Sym.TheVariants.{Kind, Set, Rule}
use Rattle.normal_form.specs.Form.{RuleForm, NormalForm}

abbrev symbol_parts : Sym → ℕ × ℕ
symbol_parts (Kind k) = (0, k)
symbol_parts (Set i) = (1, i)
symbol_parts (Rule r) = (2, r)

abbrev symbol_back : ℕ × ℕ → Sym
symbol_back (zero, n) = Kind n
symbol_back (suc zero, n) = Set n
symbol_back (suc (suc k), n) = Rule n

pub symbol_same : (s : Sym) → symbol_back (symbol_parts s) ≡ s
symbol_same (Kind k) = refl
symbol_same (Set i) = refl
symbol_same (Rule r) = refl

-- symbols have a code
abbrev pub symbol_coded : Coded Sym
symbol_coded = code_by (ℕ × ℕ) (coded× coded_ℕ coded_ℕ) symbol_parts symbol_back symbol_same

-- the kind of the form, its symbol, and its alternatives
abbrev Parts : Type 0
Parts = ℕ × (Sym × List (List Sym))

abbrev form_parts : RuleForm → Parts
form_parts (RuleForm.regular alts) = (0, (Kind 0, alts))
form_parts (RuleForm.star s) = (1, (s, []))
form_parts (RuleForm.plus s) = (2, (s, []))
form_parts (RuleForm.opt s) = (3, (s, []))

abbrev form_back : Parts → RuleForm
form_back (zero, (s, alts)) = RuleForm.regular alts
form_back (suc zero, (s, alts)) = RuleForm.star s
form_back (suc (suc zero), (s, alts)) = RuleForm.plus s
form_back (suc (suc (suc k)), (s, alts)) = RuleForm.opt s

pub form_same : (f : RuleForm) → form_back (form_parts f) ≡ f
form_same (RuleForm.regular alts) = refl
form_same (RuleForm.star s) = refl
form_same (RuleForm.plus s) = refl
form_same (RuleForm.opt s) = refl

abbrev form_coded : Coded RuleForm
form_coded = code_by Parts (coded× coded_ℕ (coded× symbol_coded (coded_list (coded_list symbol_coded)))) form_parts form_back form_same

abbrev pub normal_coded : Coded NormalForm
normal_coded =
    code_by (List RuleForm × (List (List ℕ) × (List (List ℕ) × ℕ)))
    (coded× (coded_list form_coded) (coded× (coded_list (coded_list coded_ℕ)) (coded× (coded_list (coded_list coded_ℕ)) coded_ℕ)))
    (λ n. (n.rules, (n.names, (n.sets, n.start)))) (λ p. record { rules = p.0; names = p.1.0; sets = p.1.1.0; start = p.1.1.1 }) (λ _. refl)
