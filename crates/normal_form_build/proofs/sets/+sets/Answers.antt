use Rattle.std.proofs.Common.{◌≡◌, ℕ, List, [], ◌∷◌, IfOk, map, refl, subst, sym, ap, ◌∙◌}
use Rattle.grammar_tree.specs.Written.{WrittenTerm, written_seq, written_alts}
use Rattle.grammar_tree.specs.Derives.{resolved, resolved_seq, resolved_alts}
use Rattle.grammar_tree.specs.Kinds.{any_kinds}
use Rattle.grammar_tree.specs.View.{token_ref, parser_term, parser_terms, parser_node, parser_alts_node, parser_seq_node}
use Rattle.grammar_tree.specs.declared.parser_term.ParserTerm.{ParserTerm}
use Rattle.grammar_tree.specs.declared.parser_term.ParserTerms.{ParserTerms, fold_out-ParserTerms}
use Rattle.grammar_tree.specs.declared.parser_term.ParserAlts.{fold_out-ParserAlts}
use Rattle.grammar_tree.proofs.Lent.{parser_term-Any, parser_term-Not}
use Rattle.grammar_names.specs.KindLists.{IsPartOf, lacking, named_kinds}
use Rattle.normal_form.specs.NormalOf.{term_sets, seq_sets, alts_sets}
use Rattle.normal_form_sets.specs.Sets.{SetsOfKinds, with_each}
use Rattle.normal_form_sets.proofs.Lent.{lacks_none, none_part, sets_step, sets_end}
use Rattle.normal_form_build.proofs.NamedSets.{lacks_named, named_part}
use Rattle.normal_form_build.proofs.sets.+sets.Goals as goal

pub with_term-with-requires : goal.with_term-with-requires
with_term-with-requires t c = subst (IsPartOf c.args.sets.all) (sym c.new.ensures.items) (none_part c.args.sets.all)

pub with_term-with-requires-in-Not : goal.with_term-with-requires-in-Not
with_term-with-requires-in-Not t c =
    let G = c.args.names.now in
    let missing = c.in_ok-named_kinds-in-Not.field-0.items in
    let P : List ℕ → Type 0 = λ l. IsPartOf l missing in
    subst P (sym c.requires) (subst (IsPartOf (any_kinds G)) (sym c.in_ok-named_kinds-in-Not.ensures)
    (named_part G (map token_ref c.in-Not.tokens.items.items)))

pub with_term-returns-in-Any : goal.with_term-returns-in-Any
with_term-returns-in-Any t c =
    let G = c.args.names.now in
    let sets = c.args.sets in
    let P : List (List ℕ) → Type 0 = λ l. IfOk c.with.result (λ found. found ≡ with_each sets l) in
    subst P (ap (λ (l : List ℕ). l ∷ []) (ap (lacking sets.all) c.new.ensures.items ∙ lacks_none sets.all ∙ c.requires)
    ∙ sym (ap (λ x. term_sets (resolved G (parser_term x))) c.in-Any.is ∙ ap (λ x. term_sets (resolved G x)) parser_term-Any)) c.with.ensures

pub with_term-returns-in_ok-named_kinds-in-Not : goal.with_term-returns-in_ok-named_kinds-in-Not
with_term-returns-in_ok-named_kinds-in-Not t c =
    let G = c.args.names.now in
    let sets = c.args.sets in
    let refs = map token_ref c.in-Not.tokens.items.items in
    let P : List (List ℕ) → Type 0 = λ l. IfOk c.with-in-Not.result (λ found. found ≡ with_each sets l) in
    subst P
    (ap (λ (l : List ℕ). l ∷ []) (ap (lacking sets.all) c.in_ok-named_kinds-in-Not.ensures ∙ ap (λ l. lacking l (named_kinds G refs)) c.requires
    ∙ lacks_named G refs)
    ∙ sym (ap (λ x. term_sets (resolved G (parser_term x))) c.in-Not.is ∙ ap (λ x. term_sets (resolved G x)) (parser_term-Not c.in-Not.tokens)))
    c.with-in-Not.ensures

pub with_terms-loop-term-preserved : goal.with_terms-loop-term-preserved
with_terms-loop-term-preserved t c =
    let G = c.args.names.now in
    let h = λ (l : List ParserTerm). seq_sets (resolved_seq G (written_seq (map parser_term l))) in
    record {
      kinds = ap (λ (s : SetsOfKinds). s.all) c.in_ok-found.ensures ∙ c.loop-term.invariant.kinds;
      sets =
          sets_step (λ x. term_sets (resolved G (parser_term x))) h
          (λ x xs. refl) c.loop-term.found c.in_ok-found.found c.deref-term-items.result.now c.loop-term.term-index c.term-item.result c.loop-term-test.true
          c.term-item.is c.in_ok-found.ensures
          ∙ c.loop-term.invariant.sets;
    }

pub with_terms-returns : goal.with_terms-returns
with_terms-returns t c =
    let G = c.args.names.now in
    let h = λ (l : List ParserTerm). seq_sets (resolved_seq G (written_seq (map parser_term l))) in
    let terms = fold_out-ParserTerms WrittenTerm (List (List WrittenTerm)) (List WrittenTerm) parser_node parser_alts_node parser_seq_node c.args.terms.now in
    sym (sets_end (λ x. term_sets (resolved G (parser_term x))) h refl c.loop-term.found c.deref-term-items.result.now c.loop-term.term-index
    c.loop-term-test.false)
    ∙ c.loop-term.invariant.sets
    ∙ ap (λ l. with_each c.args.sets (seq_sets (resolved_seq G (written_seq l)))) (ap (map parser_term) c.deref-term-items.ensures.value ∙ sym terms)

pub with_alts-loop-alt-preserved : goal.with_alts-loop-alt-preserved
with_alts-loop-alt-preserved t c =
    let G = c.args.names.now in
    let h = λ (l : List ParserTerms). alts_sets (resolved_alts G (written_alts (map parser_terms l))) in
    record {
      kinds = ap (λ (s : SetsOfKinds). s.all) c.in_ok-found.ensures ∙ c.loop-alt.invariant.kinds;
      sets =
          sets_step (λ x. seq_sets (resolved_seq G (written_seq (parser_terms x)))) h
          (λ x xs. refl) c.loop-alt.found c.in_ok-found.found c.deref-alt-items.result.now c.loop-alt.alt-index c.alt-item.result c.loop-alt-test.true
          c.alt-item.is c.in_ok-found.ensures
          ∙ c.loop-alt.invariant.sets;
    }

pub with_alts-returns : goal.with_alts-returns
with_alts-returns t c =
    let G = c.args.names.now in
    let h = λ (l : List ParserTerms). alts_sets (resolved_alts G (written_alts (map parser_terms l))) in
    let alts = fold_out-ParserAlts WrittenTerm (List (List WrittenTerm)) (List WrittenTerm) parser_node parser_alts_node parser_seq_node c.args.alts.now in
    sym (sets_end (λ x. seq_sets (resolved_seq G (written_seq (parser_terms x)))) h refl c.loop-alt.found c.deref-alt-items.result.now c.loop-alt.alt-index
    c.loop-alt-test.false)
    ∙ c.loop-alt.invariant.sets
    ∙ ap (λ l. with_each c.args.sets (alts_sets (resolved_alts G (written_alts l)))) (ap (map parser_terms) c.deref-alt-items.ensures.value ∙ sym alts)
