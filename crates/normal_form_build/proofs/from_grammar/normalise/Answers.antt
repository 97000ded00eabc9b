-- What the parts are, in the words of the definition.
use Rattle.std.proofs.Common.{List, length, map, arith, sym, ap, ◌∙◌}
use Rattle.std.proofs.lemmas.List.{length-map}
use Rattle.grammar_tree.specs.Corners.{normal_count_from}
use Rattle.grammar_tree.specs.Derives.{Alts, bodies}
use Rattle.grammar_tree.specs.Kinds.{any_kinds, parser_rules}
use Rattle.grammar_tree.specs.GrammarView.{rule_of}
use Rattle.normal_form.specs.NormalOf.{names_from, sets_of}
use Rattle.normal_form_sets.specs.Sets.{SetsOfKinds}
use Rattle.normal_form.specs.View.{rule_form}
use Rattle.normal_form_build.specs.inner.ParserRules.{bodies_of, parser_rule}
use Rattle.normal_form.proofs.Lent.{few_rules, number_within}
use Rattle.normal_form_build.proofs.Assembly.{assembled, bodies_are, languages_are, made_are, numbers_are}
use Rattle.normal_form_build.proofs.Assembly.{own_rule_read, own_rules_known, start_length, start_number}
use Rattle.normal_form_build.proofs.from_grammar.normalise.Goals as goal

pub slice_bounds-count_parser_rules-end : goal.slice_bounds-count_parser_rules-end
slice_bounds-count_parser_rules-end c =
    start_length c.args.checked.now c.is_checked.ensures c.deref-5.result.now c.grammar-grammar.result.now.rules.items c.start.result c.deref-5.ensures.value
    (ap (λ g. g.rules) c.grammar-grammar.ensures) c.start.ensures

pub index-start-requires : goal.index-start-requires
index-start-requires c =
    let G = c.args.checked.now.grammar in
    let same = c.in_ok-names.ensures ∙ c.grammar-grammar.ensures in
    let rules = ap (map rule_of) c.deref.ensures.value ∙ ap (λ g. g.rules) c.grammar-grammar.ensures in
    let found = ap (map parser_rule) c.deref-2.ensures.value ∙ c.in_ok-rules.ensures in
    let all = bodies_are G c.in_ok-names.names c.deref-2.result.now (map rule_of c.deref.result.now) same rules found in
    let known =
    own_rules_known G c.in_ok-names.names c.in_ok-own_rules.own_rules.items
    (bodies_of c.in_ok-names.names c.deref-2.result.now) all c.in_ok-own_rules.ensures in
    let number =
    start_number c.args.checked.now c.deref-5.result.now c.grammar-grammar.result.now.rules.items c.count_parser_rules.result c.start.result
    c.deref-5.ensures.value (ap (λ g. g.rules) c.grammar-grammar.ensures) c.start.ensures c.count_parser_rules.ensures in
    omega (arith, number, known, number_within c.args.checked.now c.is_checked.ensures (c.places_have_numbers.ensures G))

pub new-numbers-requires : goal.new-numbers-requires
new-numbers-requires c =
    let G = c.args.checked.now.grammar in
    let same = c.in_ok-names.ensures ∙ c.grammar-grammar.ensures in
    let rules = ap (map rule_of) c.deref.ensures.value ∙ ap (λ g. g.rules) c.grammar-grammar.ensures in
    let B = bodies_of c.in_ok-names.names c.deref-2.result.now in
    let all =
    bodies_are G c.in_ok-names.names c.deref-2.result.now (map rule_of c.deref.result.now) same rules
    (ap (map parser_rule) c.deref-2.ensures.value ∙ c.in_ok-rules.ensures) in
    let lists = ap (bodies_of c.in_ok-names.names) (c.deref-3.ensures.value ∙ sym c.deref-2.ensures.value) in
    let of_bodies = λ (l : List Alts). (let s : SetsOfKinds = record { all = any_kinds c.in_ok-names.names; sets = sets_of l } in s) in
    numbers_are G c.in_ok-names.names c.in_ok-own_rules.own_rules.items c.in_ok-sets.sets B same all c.in_ok-own_rules.ensures
    (c.in_ok-sets.ensures ∙ ap of_bodies lists) c.is_checked.ensures.small

pub own_rules-requires : goal.own_rules-requires
own_rules-requires c =
    let G = c.args.checked.now.grammar in
    let same = c.in_ok-names.ensures ∙ c.grammar-grammar.ensures in
    let rules = ap (map rule_of) c.deref.ensures.value ∙ ap (λ g. g.rules) c.grammar-grammar.ensures in
    let made =
    bodies_are G c.in_ok-names.names c.deref-2.result.now
    (map rule_of c.deref.result.now) same rules (ap (map parser_rule) c.deref-2.ensures.value ∙ c.in_ok-rules.ensures) in
    let found = c.in_ok-rules.ensures ∙ ap parser_rules rules in
    let counts = c.counts_fit.ensures G in
    record {
      few = omega (arith, ap (normal_count_from 0) made, few_rules c.args.checked.now c.is_checked.ensures);
      small =
          omega (
            arith,
            ap length c.deref-2.ensures.value,
            length-map c.in_ok-rules.rules.items parser_rule,
            ap length found,
            counts.parser_rules,
            counts.rules,
            c.is_checked.ensures.small,
          );
    }

pub rule_names-requires : goal.rule_names-requires
rule_names-requires c =
    let G = c.args.checked.now.grammar in
    let same = c.in_ok-names.ensures ∙ c.grammar-grammar.ensures in
    let rules = ap (map rule_of) c.deref.ensures.value ∙ ap (λ g. g.rules) c.grammar-grammar.ensures in
    let made =
    bodies_are G c.in_ok-names.names c.deref-4.result.now (map rule_of c.deref.result.now) same rules
    (ap (map parser_rule) c.deref-4.ensures.value ∙ c.in_ok-rules.ensures) in
    let found = c.in_ok-rules.ensures ∙ ap parser_rules rules in
    let counts = c.counts_fit.ensures G in
    record {
      few = omega (arith, ap (normal_count_from 0) made, few_rules c.args.checked.now c.is_checked.ensures);
      small =
          omega (
            arith,
            ap length c.deref-4.ensures.value,
            length-map c.in_ok-rules.rules.items parser_rule,
            ap length found,
            counts.parser_rules,
            counts.rules,
            c.is_checked.ensures.small,
          );
    }

pub all_rules-requires : goal.all_rules-requires
all_rules-requires c =
    let G = c.args.checked.now.grammar in
    let numbers = c.new-numbers.ensures ∙ c.in_ok-names.ensures ∙ c.grammar-grammar.ensures in
    let rules = ap (map rule_of) c.deref.ensures.value ∙ ap (λ g. g.rules) c.grammar-grammar.ensures in
    let made =
    bodies_are G c.new-numbers.result c.deref-6.result.now (map rule_of c.deref.result.now) numbers rules
    (ap (map parser_rule) c.deref-6.ensures.value ∙ c.in_ok-rules.ensures) in
    let found = c.in_ok-rules.ensures ∙ ap parser_rules rules in
    let counts = c.counts_fit.ensures G in
    record {
      few = omega (arith, ap (normal_count_from 0) made, few_rules c.args.checked.now c.is_checked.ensures);
      small =
          omega (
            arith,
            ap length c.deref-6.ensures.value,
            length-map c.in_ok-rules.rules.items parser_rule,
            ap length found,
            counts.parser_rules,
            counts.rules,
            c.is_checked.ensures.small,
          );
    }

pub new-requires-2 : goal.new-requires-2
new-requires-2 c =
    let G = c.args.checked.now.grammar in
    let same = c.in_ok-names.ensures ∙ c.grammar-grammar.ensures in
    let numbers = c.new-numbers.ensures ∙ same in
    let rules = ap (map rule_of) c.deref.ensures.value ∙ ap (λ g. g.rules) c.grammar-grammar.ensures in
    let made = bodies_are G c.new-numbers.result c.deref-6.result.now (map rule_of c.deref.result.now) numbers rules
    (ap (map parser_rule) c.deref-6.ensures.value ∙ c.in_ok-rules.ensures) in
    let all = bodies_are G c.in_ok-names.names c.deref-2.result.now (map rule_of c.deref.result.now) same rules
    (ap (map parser_rule) c.deref-2.ensures.value ∙ c.in_ok-rules.ensures) in
    let number = start_number c.args.checked.now c.deref-5.result.now c.grammar-grammar.result.now.rules.items c.count_parser_rules.result c.start.result
    c.deref-5.ensures.value (ap (λ g. g.rules) c.grammar-grammar.ensures) c.start.ensures c.count_parser_rules.ensures in
    let whole = assembled c.args.checked.now c.in_ok-made.made.items c.in_ok-rule_names.rule_names.items c.into_sets.result.sets c.index-start.result.now
    (made_are G c.new-numbers.result (bodies_of c.new-numbers.result c.deref-6.result.now)
    (map rule_form c.in_ok-made.made.items) numbers made c.in_ok-made.ensures)
    (c.in_ok-rule_names.ensures ∙ ap (λ H. names_from H 0 (map parser_rule c.deref-4.result.now)) same
    ∙ ap (names_from G 0) (ap (map parser_rule) c.deref-4.ensures.value ∙ c.in_ok-rules.ensures ∙ ap parser_rules rules))
    (c.into_sets.ensures ∙ ap (λ H. sets_of (bodies H)) numbers)
    (own_rule_read G c.in_ok-own_rules.own_rules.items
    (bodies_of c.in_ok-names.names c.deref-2.result.now) c.count_parser_rules.result _ c.index-start.result.now all c.in_ok-own_rules.ensures number
    (number_within c.args.checked.now c.is_checked.ensures (c.places_have_numbers.ensures G)) c.index-start.ensures) in
    record { grammar = c.args.checked.now; checked = c.is_checked.ensures; is = whole }

pub returns : goal.returns
returns c =
    let G = c.args.checked.now.grammar in
    let same = c.in_ok-names.ensures ∙ c.grammar-grammar.ensures in
    let numbers = c.new-numbers.ensures ∙ same in
    let rules = ap (map rule_of) c.deref.ensures.value ∙ ap (λ g. g.rules) c.grammar-grammar.ensures in
    let made = bodies_are G c.new-numbers.result c.deref-6.result.now
    (map rule_of c.deref.result.now) numbers rules (ap (map parser_rule) c.deref-6.ensures.value ∙ c.in_ok-rules.ensures) in
    let all = bodies_are G c.in_ok-names.names c.deref-2.result.now
    (map rule_of c.deref.result.now) same rules (ap (map parser_rule) c.deref-2.ensures.value ∙ c.in_ok-rules.ensures) in
    let number = start_number c.args.checked.now c.deref-5.result.now c.grammar-grammar.result.now.rules.items c.count_parser_rules.result
    c.start.result c.deref-5.ensures.value (ap (λ g. g.rules) c.grammar-grammar.ensures) c.start.ensures c.count_parser_rules.ensures in
    let whole = assembled c.args.checked.now c.in_ok-made.made.items c.in_ok-rule_names.rule_names.items c.into_sets.result.sets c.index-start.result.now
    (made_are G c.new-numbers.result (bodies_of c.new-numbers.result c.deref-6.result.now) (map rule_form c.in_ok-made.made.items) numbers made
    c.in_ok-made.ensures)
    (c.in_ok-rule_names.ensures ∙ ap (λ H. names_from H 0 (map parser_rule c.deref-4.result.now)) same ∙ ap (names_from G 0)
    (ap (map parser_rule) c.deref-4.ensures.value ∙ c.in_ok-rules.ensures ∙ ap parser_rules rules))
    (c.into_sets.ensures ∙ ap (λ H. sets_of (bodies H)) numbers)
    (own_rule_read G c.in_ok-own_rules.own_rules.items (bodies_of c.in_ok-names.names c.deref-2.result.now) c.count_parser_rules.result _
    c.index-start.result.now all c.in_ok-own_rules.ensures number
    (number_within c.args.checked.now c.is_checked.ensures (c.places_have_numbers.ensures G)) c.index-start.ensures) in
    let form = c.new-2.ensures ∙ whole in
    record { form = form; equal_languages = languages_are c.args.checked.now c.new-2.result c.equal_languages.ensures c.is_checked.ensures form }
