-- A checked grammar and its normal form have equal languages.
use Rattle.std.proofs.Common.{◌≡◌, ◌↔◌, ℕ, zero, suc, ◌<◌, length, List, [], ◌∷◌, Some, slice_get, refl, sym, subst, arith, get_or}
use Rattle.std.specs.List.{Contains, flat_map}
use Rattle.std.proofs.lemmas.List.Elements.{Contains-append_left, Contains-append_right}
use Rattle.std.proofs.lemmas.Option.{slice_get-get_or}
use Rattle.grammar_tree.specs.Written.{CheckedGrammar}
use Rattle.grammar_tree.specs.Checked.{IsChecked}
use Rattle.grammar_tree.specs.Derives.{Alts, RuleDerives, Term, bodies}
use Rattle.grammar_tree.specs.Faults.{number_at}
use Rattle.grammar_tree.proofs.Lent.{numbers}
use Rattle.normal_form.specs.declared.normal.Sym.TheVariants.{Rule}
use Rattle.normal_form.specs.Numbering.{groups, group}
use Rattle.normal_form.specs.NormalOf.{normal_of, numbering, own_rule, alts_sets}
use Rattle.normal_form.specs.NormalDerives.{NormalDerives}
use Rattle.normal_form.specs.Laws.{EqualLanguages}
use Rattle.normal_form.proofs.Bounds.{number_within}
use Rattle.normal_form.proofs.Represents.{HasEachRule}
use Rattle.normal_form.proofs.Closed.{IsClosedAlts, bodies_closed}
use Rattle.normal_form.proofs.SetNumbers.{set_is_there}
use Rattle.normal_form.proofs.Named.{At, IsThere, At_all, group_at, group_represented}
use Rattle.normal_form.proofs.Forward.{forward}
use Rattle.normal_form.proofs.Backward.{backward}

-- the sets of a rule are among all sets
pub sets_among : (G : List Alts) (r : ℕ) (a : Alts) → slice_get G r ≡ Some a → (ks : List ℕ) → Contains (alts_sets a) ks → Contains (flat_map alts_sets G) ks
sets_among [] r a e ks c = absurd (cc)
sets_among (b ∷ G) zero a e ks c =
    let same : b ≡ a = cc in
    let P : Alts → Type 0 = λ x. Contains (alts_sets x) ks in
    Contains-append_left (alts_sets b) (flat_map alts_sets G) ks (subst P (sym same) c)
sets_among (b ∷ G) (suc r) a e ks c = Contains-append_right (alts_sets b) (flat_map alts_sets G) ks (sets_among G r a e ks c)

-- Each parser rule's group of rules has the shape of the rule.
pub has_each : (c : CheckedGrammar) → IsChecked c → HasEachRule (bodies c.grammar) (normal_of c) (own_rule (bodies c.grammar))
unfolding normal_of
has_each c checked r a e =
    let G = bodies c.grammar in
    let N = normal_of c in
    let M = numbering G in
    let closed : IsClosedAlts G (IsThere N M) a =
    bodies_closed c.grammar c.start (IsThere N M) checked.well_formed
    (λ b q at ks k. set_is_there (flat_map alts_sets G) ks (sets_among G q b at ks k)) r a e in
    let at : At N (own_rule G r) (group M (own_rule G r) r a) =
    group_at N M 0 0 G r a (At_all N (groups M 0 0 G) refl) e (own_rule G r) r (omega arith) (omega arith) in
    group_represented G N M r (own_rule G r) a refl closed _ refl at

any_alts : Alts
any_alts = Alts.none

-- a parser rule and its rule in the normal form
equal_rules : (c : CheckedGrammar) → IsChecked c → (r : ℕ) → r < length (bodies c.grammar) → (w : List ℕ) → RuleDerives c.grammar r w
    ↔ NormalDerives (normal_of c) (Rule (own_rule (bodies c.grammar) r)) w
equal_rules c checked r known w =
    let G = bodies c.grammar in
    let a = get_or G r any_alts in
    let at : slice_get G r ≡ Some a = slice_get-get_or G r any_alts known in
    let shape = has_each c checked in (
      λ d. forward shape d (Rule (own_rule G r)) (refl, (a, at)),
      λ d. backward shape d (Term.rule r) (refl, (a, at)),
    )

pub equal_languages : EqualLanguages
unfolding normal_of
equal_languages c checked =
    record {
      rules = equal_rules c checked;
      starts = equal_rules c checked (number_at c.grammar c.start) (number_within c checked (numbers c.grammar));
    }
