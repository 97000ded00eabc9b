-- The sets that a grammar's tokens name, by what they lack, and their numbers.
use Rattle.std.proofs.Common.{◌≡◌, ℕ, not, List, Option, ap, ◌∙◌}
use Rattle.std.specs.Prelude.{position, unwrap_or}
use Rattle.std.specs.List.{filter_map}
use Rattle.grammar_tree.specs.Written.{Reference, WrittenGrammar}
use Rattle.grammar_tree.specs.Kinds.{any_kinds, other_kinds, reference_kind, same_text}
use Rattle.grammar_tree.specs.Derives.{bodies}
use Rattle.grammar_names.specs.KindLists.{IsPartOf, is_in, lacking, named_kinds}
use Rattle.grammar_names.proofs.Lent.{filter_agree_on, in_filter, others_are}
use Rattle.normal_form_sets.specs.Sets.{SetsOfKinds}
use Rattle.normal_form_sets.proofs.Lent.{and_in, kept_part}
use Rattle.normal_form.specs.NormalOf.{set_number, sets_of}

-- `~` lacks the kinds that are named
pub named_part : (G : WrittenGrammar) (refs : List Reference) → IsPartOf (any_kinds G) (named_kinds G refs)
named_part G refs = kept_part (is_in (filter_map (reference_kind G) refs)) (any_kinds G)

pub lacks_named : (G : WrittenGrammar) (refs : List Reference) → lacking (any_kinds G) (named_kinds G refs) ≡ other_kinds G refs
lacks_named G refs =
    let named = is_in (filter_map (reference_kind G) refs) in
    filter_agree_on (λ k. not (is_in (named_kinds G refs) k)) (λ k. not (named k)) (any_kinds G)
    (λ k h. ap not (in_filter named (any_kinds G) k ∙ and_in (named k) (is_in (any_kinds G) k) h))
    ∙ others_are G refs

-- the number of a set, as the grammar's definition has it
pub number_of : (G : WrittenGrammar) (s : SetsOfKinds) (missing : List ℕ) (o : Option ℕ) → s.all ≡ any_kinds G → s.sets ≡ sets_of (bodies G)
    → o ≡ position (λ other. same_text other (lacking s.all missing)) s.sets → unwrap_or o 0 ≡ set_number (sets_of (bodies G)) (lacking (any_kinds G) missing)
number_of G s missing o a b e =
    ap (λ x. unwrap_or x 0) (e ∙ ap (λ l. position (λ other. same_text other (lacking l missing)) s.sets) a
    ∙ ap (position (λ other. same_text other (lacking (any_kinds G) missing))) b)
