-- The alternatives and forms of rules that are read from a normal form.
use Rattle.std.proofs.Common.{◌≡◌, ◌⊎◌, inl, inr, ℕ, zero, suc, ◌+◌, ◌<◌, ◌≤◌, List, [], ◌∷◌, ◌++◌, Some, None}
use Rattle.std.proofs.Common.{length, get_or, slice_get, sym, ap, ◌∙◌, subst, arith}
use Rattle.std.specs.Global.{Vec}
use Rattle.std.specs.Prelude.{map}
use Rattle.std.proofs.lemmas.Bool.{cases_lt}
use Rattle.std.proofs.lemmas.List.{length-map}
use Rattle.std.proofs.lemmas.Option.{same_Some, slice_get_past, slice_get_within}
use Rattle.normal_form.specs.declared.normal.NormalRule.{NormalRule}
use Rattle.normal_form.specs.declared.normal.Sym.{Sym}
use Rattle.normal_form.specs.declared.normal.Sym.TheVariants.{Rule}
use Rattle.normal_form.specs.Form.{RuleForm, NormalForm}
use Rattle.normal_form.specs.View.{alts_form, rule_form}
use Rattle.normal_form.specs.Spans.{DerivesSpan, DerivesSpanMany, DerivesSpanSeq}
use Rattle.normal_form.specs.SpanLaws.{SpansByForm}
use Rattle.chart_parser.specs.declared.part.Part.{Part}
use Rattle.chart_parser.specs.inner.GoingOn.{IsListOf}
use Rattle.chart_parser.specs.inner.Parts.{IsContent}

pub alternative_is : (alts : List (Vec Sym)) (n : ℕ) (v : Vec Sym) (symbols : List Sym) → n < length alts → v ≡ get_or alts n v → symbols ≡ v.items
    → slice_get (alts_form alts) n ≡ Some symbols
alternative_is [] n v symbols l e f = absurd (omega (arith, l))
alternative_is (x ∷ alts) zero v symbols l e f = ap Some (sym (f ∙ ap (λ (y : Vec Sym). y.items) e))
alternative_is (x ∷ alts) (suc n) v symbols l e f = alternative_is alts n v symbols (omega (arith, l)) e f

pub one_more_refused : (P : List Sym → Type 0) (alts : List (List Sym)) (n : ℕ) (this : List Sym) → slice_get alts n ≡ Some this → (P this → ⊥)
    → ((b : ℕ) (alt : List Sym) → b < n → slice_get alts b ≡ Some alt → P alt → ⊥) →
    (b : ℕ) (alt : List Sym) → b < n + 1 → slice_get alts b ≡ Some alt → P alt → ⊥
one_more_refused P alts n this at refused before b alt l there p = by (cases_lt b n)
  where
    by : (b < n) ⊎ (n ≤ b) → ⊥
    by (inl a) = before b alt a there p
    by (inr a) = let e : b ≡ n = omega (arith, a, l) in refused (subst P (same_Some alt this (sym there ∙ ap (slice_get alts) e ∙ at)) p)

pub alternative_before : (alts : List (Vec Sym)) (n a : ℕ) (alt : List Sym) → length alts ≤ n → slice_get (alts_form alts) a ≡ Some alt → a < n
alternative_before alts n a alt l at = omega (arith, l, slice_get_within (alts_form alts) a alt at, length-map alts (λ (v : Vec Sym). v.items))

pub count_alternatives : (alts : List (Vec Sym)) → length (alts_form alts) ≡ length alts
count_alternatives alts = length-map alts (λ (v : Vec Sym). v.items)

pub rule_at : (rules : List NormalRule) (forms : List RuleForm) (r : ℕ) (rule : NormalRule) (form : RuleForm) → map rule_form rules ≡ forms → r < length rules
    → rule ≡ get_or rules r rule → rule_form rule ≡ form → slice_get forms r ≡ Some form
rule_at rules forms r rule form e l at is = subst (λ (l : List RuleForm). slice_get l r ≡ Some form) e (mapped rules r l at ∙ ap Some is)
  where
    mapped : (rules : List NormalRule) (r : ℕ) → r < length rules → rule ≡ get_or rules r rule → slice_get (map rule_form rules) r ≡ Some (rule_form rule)
    mapped [] r l at = absurd (omega (arith, l))
    mapped (x ∷ rules) zero l at = ap (λ (y : NormalRule). Some (rule_form y)) (sym at)
    mapped (x ∷ rules) (suc r) l at = mapped rules r (omega (arith, l)) at

pub rule_within : (N : NormalForm) (K : List ℕ) (form : SpansByForm N K) (rules : List NormalRule) (s : Sym) (r i j : ℕ) → map rule_form rules ≡ N.rules
    → s ≡ Rule r → DerivesSpan N K s i j → r < length rules
rule_within N K form rules s r i j e is d = by (cases_lt r (length rules))
  where
    by : (r < length rules) ⊎ (length rules ≤ r) → r < length rules
    by (inl a) = a
    by (inr a) =
        let none : slice_get N.rules r ≡ None = slice_get_past N.rules r (omega (arith, a, ap length (sym e), length-map rules rule_form)) in
        absurd (form.no_rule r i j none (subst (λ (x : Sym). DerivesSpan N K x i j) is d))

-- A star or plus is a list of its symbol.
pub star_is_list : (N : NormalForm) (K : List ℕ) (form : SpansByForm N K) (s list : Sym) (r i : ℕ) → list ≡ Rule r
    → slice_get N.rules r ≡ Some (RuleForm.star s) → IsListOf N K list s i
star_is_list N K form s list r i is at = subst (λ (x : Sym). IsListOf N K x s i) (sym is) (λ e lt. form.star r i e s at)

pub plus_is_list : (N : NormalForm) (K : List ℕ) (form : SpansByForm N K) (s list : Sym) (r i : ℕ) → list ≡ Rule r
    → slice_get N.rules r ≡ Some (RuleForm.plus s) → IsListOf N K list s i
plus_is_list N K form s list r i is at = subst (λ (x : Sym). IsListOf N K x s i) (sym is) (λ e lt. ((λ d. to e d), (λ d. back e lt (((form.many s i e).0 d)))))
  where
    to : (e : ℕ) → DerivesSpan N K (Rule r) i e → DerivesSpanMany N K s i e
    to e d = let (m, one, rest) = (form.plus r i e s at).0 d in DerivesSpanMany.of_more i m e one rest

    back : (e : ℕ) → i < e → ((i ≡ e) × (e ≤ length K)) ⊎ ((m : ℕ) × DerivesSpan N K s i m × DerivesSpanMany N K s m e) → DerivesSpan N K (Rule r) i e
    back e lt (inl a) = absurd (omega (arith, lt, a.0))
    back e lt (inr h) = (form.plus r i e s at).1 h

pub star_derived : (N : NormalForm) (K : List ℕ) (form : SpansByForm N K) (s list : Sym) (r i j : ℕ) → list ≡ Rule r
    → slice_get N.rules r ≡ Some (RuleForm.star s) → DerivesSpan N K list i j → DerivesSpanMany N K s i j
star_derived N K form s list r i j is at d = (form.star r i j s at).0 (subst (λ (x : Sym). DerivesSpan N K x i j) is d)

pub plus_derived : (N : NormalForm) (K : List ℕ) (form : SpansByForm N K) (s list : Sym) (r i j : ℕ) → list ≡ Rule r
    → slice_get N.rules r ≡ Some (RuleForm.plus s) → DerivesSpan N K list i j → (m : ℕ) × DerivesSpan N K s i m × DerivesSpanMany N K s m j
plus_derived N K form s list r i j is at d = (form.plus r i j s at).0 (subst (λ (x : Sym). DerivesSpan N K x i j) is d)

pub regular_derived : (N : NormalForm) (K : List ℕ) (form : SpansByForm N K) (alts : List (List Sym)) (s : Sym) (r i j : ℕ) → s ≡ Rule r
    → slice_get N.rules r ≡ Some (RuleForm.regular alts) → DerivesSpan N K s i j → (a : ℕ) × (alt : List Sym) × (slice_get alts a ≡ Some alt)
    × DerivesSpanSeq N K alt i j
regular_derived N K form alts s r i j is at d = (form.regular r i j alts at).0 (subst (λ (x : Sym). DerivesSpan N K x i j) is d)

pub optional_derived : (N : NormalForm) (K : List ℕ) (form : SpansByForm N K) (s list : Sym) (r i j : ℕ) → list ≡ Rule r
    → slice_get N.rules r ≡ Some (RuleForm.opt s) → DerivesSpan N K list i j → ((i ≡ j) × (i ≤ length K)) ⊎ DerivesSpan N K s i j
optional_derived N K form s list r i j is at d =
    elim ((form.opt r i j s at).0 (subst (λ (x : Sym). DerivesSpan N K x i j) is d)) [ inl a ↦ inl (a.0, omega (arith, a.0, a.1)) | inr a ↦ inr a ]

-- The content of an optional.
pub content_there : (N : NormalForm) (K : List ℕ) (s : Sym) (i j : ℕ) (part : Part) (old parts : List Part) → DerivesSpan N K s i j → part.slot ≡ s
    → part.first ≡ i → part.end ≡ j → old ≡ [] → parts ≡ old ++ part ∷ [] → IsContent N K s i j parts
content_there N K s i j part old parts d slot first end none e =
    subst (IsContent N K s i j) (sym (e ∙ ap (λ (l : List Part). l ++ part ∷ []) none)) (slot, first, end, d)

pub content_absent : (N : NormalForm) (K : List ℕ) (s : Sym) (i j : ℕ) (parts : List Part) → ((i ≡ j) × (i ≤ length K)) ⊎ DerivesSpan N K s i j
    → (DerivesSpan N K s i j → ⊥) → parts ≡ [] → IsContent N K s i j parts
content_absent N K s i j parts (inl a) refused none = subst (IsContent N K s i j) (sym none) (a.0, a.1, refused)
content_absent N K s i j parts (inr d) refused none = absurd (refused d)
