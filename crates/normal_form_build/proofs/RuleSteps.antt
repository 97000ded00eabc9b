-- One more term, or one more alternative, while rules are made.
use Rattle.std.proofs.Common.{◌≡◌, ℕ, ◌+◌, ◌<◌, ◌≤◌, ◌^◌, true, false, List, [], ◌∷◌, ◌++◌, Option, Some, None, is_some}
use Rattle.std.proofs.Common.{length, map, drop, slice_index_or, refl, sym, ap, ◌∙◌, arith, append_assoc}
use Rattle.std.proofs.lemmas.List.{append-nil, at_drop_all, at_drop_more, map-append}
use Rattle.std.specs.Global.{Vec}
use Rattle.grammar_tree.specs.Written.{WrittenGrammar, WrittenTerm, written_alts, written_seq}
use Rattle.grammar_tree.specs.Kinds.{literal_kind, name_kind, rule_number}
use Rattle.grammar_tree.specs.Corners.{alts_new_rules, new_rules, rest_of, seq_new_rules}
use Rattle.grammar_tree.specs.Derives.{Term, Seq, Alts, kind, among, rule, block, opt, star, plus, eof, done, next, none, or}
use Rattle.grammar_tree.specs.Derives.{kind_term, name_term, resolved, resolved_alts, resolved_seq}
use Rattle.grammar_tree.specs.View.{parser_alts, parser_alts_node, parser_node, parser_seq_node, parser_term, parser_terms}
use Rattle.grammar_tree.specs.declared.parser_term.ParserTerm.{ParserTerm}
use Rattle.grammar_tree.specs.declared.parser_term.ParserTerms.{ParserTerms, fold_out-ParserTerms}
use Rattle.grammar_tree.specs.declared.parser_term.ParserAlts.{ParserAlts, fold_out-ParserAlts, out-ParserAlts}
use Rattle.normal_form.specs.declared.normal.Sym.{Sym}
use Rattle.normal_form.specs.Form.{RuleForm}
use Rattle.normal_form.specs.View.{alts_form}
use Rattle.normal_form.specs.Numbering.{Numbering, alts_rules, alts_symbols, and_symbol, base_symbols, rest_symbols, seq_rules}
use Rattle.normal_form.specs.Numbering.{seq_symbols, symbol, tail, term_rules, with_base, with_rest}
use Rattle.normal_form_build.specs.inner.Terms.{has_symbol}

-- the terms from an index on, of which one is taken
pub term_taken : (G : WrittenGrammar) (items : List ParserTerm) (i : ℕ) (t : ParserTerm) → i < length items → t ≡ slice_index_or items i t →
    resolved_seq G (written_seq (map parser_term (drop i items))) ≡ next (resolved G (parser_term t))
    (resolved_seq G (written_seq (map parser_term (drop (i + 1) items))))
term_taken G items i t lt is =
    at_drop_more (λ ts. resolved_seq G (written_seq (map parser_term ts))) items i t lt
    ∙ ap (λ x. next (resolved G (parser_term x)) (resolved_seq G (written_seq (map parser_term (drop (i + 1) items))))) (sym is)

-- none is left to be taken
pub terms_end : (G : WrittenGrammar) (items : List ParserTerm) (i : ℕ) → length items ≤ i → resolved_seq G (written_seq (map parser_term (drop i items))) ≡ done
terms_end G items i past = at_drop_all (λ ts. resolved_seq G (written_seq (map parser_term ts))) items i past

-- the terms as they are written
pub terms_are : (terms : ParserTerms) (items : List ParserTerm) → items ≡ terms.items.items → map parser_term items ≡ parser_terms terms
terms_are terms items is =
    ap (map parser_term) is
    ∙ sym (fold_out-ParserTerms WrittenTerm (List (List WrittenTerm)) (List WrittenTerm) parser_node parser_alts_node parser_seq_node terms)

-- the alternatives from an index on, of which one is taken
pub alt_taken : (G : WrittenGrammar) (items : List ParserTerms) (i : ℕ) (s : ParserTerms) → i < length items → s ≡ slice_index_or items i s →
    resolved_alts G (written_alts (map parser_terms (drop i items))) ≡ or (resolved_seq G (written_seq (parser_terms s)))
    (resolved_alts G (written_alts (map parser_terms (drop (i + 1) items))))
alt_taken G items i s lt is =
    at_drop_more (λ ss. resolved_alts G (written_alts (map parser_terms ss))) items i s lt
    ∙ ap (λ x. or (resolved_seq G (written_seq (parser_terms x))) (resolved_alts G (written_alts (map parser_terms (drop (i + 1) items))))) (sym is)

-- none is left to be taken
pub alts_end : (G : WrittenGrammar) (items : List ParserTerms) (i : ℕ) → length items ≤ i
    → resolved_alts G (written_alts (map parser_terms (drop i items))) ≡ none
alts_end G items i past = at_drop_all (λ ss. resolved_alts G (written_alts (map parser_terms ss))) items i past

-- the alternatives as they are written
pub alts_are : (alts : ParserAlts) (items : List ParserTerms) → items ≡ (out-ParserAlts alts).items.items → map parser_terms items ≡ parser_alts alts
alts_are alts items is =
    ap (map parser_terms) is
    ∙ sym (fold_out-ParserAlts WrittenTerm (List (List WrittenTerm)) (List WrittenTerm) parser_node parser_alts_node parser_seq_node alts)

-- the new rules of the alternative that is taken are few, where those of all alternatives are
pub alt_fits : (G : WrittenGrammar) (alts : ParserAlts) (items : List ParserTerms) (i : ℕ) (s : ParserTerms) (n first : ℕ)
    → items ≡ (out-ParserAlts alts).items.items → i < length items → s ≡ slice_index_or items i s
    → n + alts_new_rules (resolved_alts G (written_alts (map parser_terms (drop i items)))) ≡ first + alts_new_rules
    (resolved_alts G (written_alts (map parser_terms items))) → first + alts_new_rules (resolved_alts G (written_alts (parser_alts alts))) < 2 ^ 32
    → n + seq_new_rules (resolved_seq G (written_seq (parser_terms s))) < 2 ^ 32
alt_fits G alts items i s n first are lt is so_far few =
    omega (
      arith,
      ap alts_new_rules (alt_taken G items i s lt is),
      ap (λ ss. alts_new_rules (resolved_alts G (written_alts ss))) (alts_are alts items are),
      so_far,
      few,
    )

and_symbols : (t : Term) (x : Sym) (ss : List Sym) → and_symbol t x [] ++ ss ≡ and_symbol t x ss
and_symbols (kind k) x ss = refl
and_symbols (among ks) x ss = refl
and_symbols (rule r) x ss = refl
and_symbols (block a) x ss = refl
and_symbols (opt t) x ss = refl
and_symbols (star t) x ss = refl
and_symbols (plus t) x ss = refl
and_symbols eof x ss = refl

-- what is made so far, and then the parts of a list
pub more_made : {X : Type 0} (old new part rest all whole : List X) → new ≡ old ++ part → all ≡ part ++ rest → old ++ all ≡ whole → new ++ rest ≡ whole
more_made old new part rest all whole made cut so_far =
    ap (λ l. l ++ rest) made ∙ append_assoc old part rest ∙ ap (λ l. old ++ l) (sym cut) ∙ so_far

-- what is made, where no part is left
pub all_made : {X : Type 0} (made rest whole : List X) → rest ≡ [] → made ++ rest ≡ whole → made ≡ whole
all_made made rest whole nothing so_far = sym (append-nil made) ∙ ap (λ l. made ++ l) (sym nothing) ∙ so_far

-- one alternative more
pub alts_form_more : (old new : List (Vec Sym)) (alt : Vec Sym) (ss : List Sym) → new ≡ old ++ alt ∷ [] → alt.items ≡ ss
    → alts_form new ≡ alts_form old ++ ss ∷ []
alts_form_more old new alt ss made is = ap alts_form made ∙ map-append (λ (a : Vec Sym). a.items) old (alt ∷ []) ∙ ap (λ x. alts_form old ++ x ∷ []) is

with_base_more : (o : Option Seq) (ss : List Sym) (more : List (List Sym)) → with_base o ss [] ++ more ≡ with_base o ss more
with_base_more None ss more = refl
with_base_more (Some rest) ss more = refl

with_rest_more : (o : Option Seq) (ss : List Sym) (more : List (List Sym)) → with_rest o ss [] ++ more ≡ with_rest o ss more
with_rest_more None ss more = refl
with_rest_more (Some rest) ss more = refl

kind_has_symbol : (o : Option ℕ) (s : Sym) → and_symbol (kind_term o) s [] ≡ s ∷ []
kind_has_symbol None s = refl
kind_has_symbol (Some k) s = refl

name_has_symbol : (o token : Option ℕ) (s : Sym) → and_symbol (name_term o token) s [] ≡ s ∷ []
name_has_symbol None token s = kind_has_symbol token s
name_has_symbol (Some r) token s = refl

-- the symbols of one term, by whether it has one
pub one_symbol : (G : WrittenGrammar) (t : WrittenTerm) (s : Sym) → has_symbol t ≡ true → and_symbol (resolved G t) s [] ≡ s ∷ []
one_symbol G (WrittenTerm.literal l) s h = kind_has_symbol (literal_kind G l) s
one_symbol G (WrittenTerm.name n) s h = name_has_symbol (rule_number G n) (name_kind G n) s
one_symbol G WrittenTerm.any s h = refl
one_symbol G (WrittenTerm.but refs) s h = refl
one_symbol G (WrittenTerm.block a) s h = refl
one_symbol G (WrittenTerm.opt t) s h = refl
one_symbol G (WrittenTerm.star t) s h = refl
one_symbol G (WrittenTerm.plus t) s h = refl
one_symbol G WrittenTerm.eof s h = absurd (cc)

pub no_symbol : (G : WrittenGrammar) (t : WrittenTerm) (s : Sym) → has_symbol t ≡ false → and_symbol (resolved G t) s [] ≡ []
no_symbol G WrittenTerm.eof s h = refl
no_symbol G (WrittenTerm.literal l) s h = absurd (cc)
no_symbol G (WrittenTerm.name n) s h = absurd (cc)
no_symbol G WrittenTerm.any s h = absurd (cc)
no_symbol G (WrittenTerm.but refs) s h = absurd (cc)
no_symbol G (WrittenTerm.block a) s h = absurd (cc)
no_symbol G (WrittenTerm.opt t) s h = absurd (cc)
no_symbol G (WrittenTerm.star t) s h = absurd (cc)
no_symbol G (WrittenTerm.plus t) s h = absurd (cc)

-- the symbols of an alternative among the rests, where it has a rest
pub is_rest : (o : Option Seq) (ss : List Sym) → is_some o ≡ true → with_rest o ss [] ≡ tail ss ∷ []
is_rest None ss h = absurd (cc)
is_rest (Some rest) ss h = refl

module _ (M : Numbering) (n k : ℕ) where
  module _ (t : Term) (a b : Seq) (taken : a ≡ next t b) (counted : k ≡ n + new_rules t) where
    pub seq_total : (m : ℕ) → n + seq_new_rules a ≡ m → k + seq_new_rules b ≡ m
    seq_total m so_far = omega (arith, ap seq_new_rules taken, counted, so_far)

    pub seq_symbols_more : (i : ℕ) (old new whole : List Sym) → i ≡ n → new ≡ old ++ and_symbol t (symbol M i t) [] → old ++ seq_symbols M n a ≡ whole
        → new ++ seq_symbols M k b ≡ whole
    seq_symbols_more i old new whole at made so_far =
        more_made old new (and_symbol t (symbol M i t) []) (seq_symbols M k b) (seq_symbols M n a) whole made
        (ap (seq_symbols M n) taken ∙ ap (λ j. and_symbol t (symbol M n t) (seq_symbols M j b)) (sym counted)
        ∙ ap (λ j. and_symbol t (symbol M j t) (seq_symbols M k b)) (sym at) ∙ sym (and_symbols t (symbol M i t) (seq_symbols M k b))) so_far

    pub seq_rules_more : (old new whole : List RuleForm) → new ≡ old ++ term_rules M n t → old ++ seq_rules M n a ≡ whole → new ++ seq_rules M k b ≡ whole
    seq_rules_more old new whole made so_far =
        more_made old new (term_rules M n t) (seq_rules M k b) (seq_rules M n a) whole made
        (ap (seq_rules M n) taken ∙ ap (λ j. term_rules M n t ++ seq_rules M j b) (sym counted)) so_far

  module _ (s : Seq) (a b : Alts) (taken : a ≡ or s b) (counted : k ≡ n + seq_new_rules s) where
    pub alts_total : (m : ℕ) → n + alts_new_rules a ≡ m → k + alts_new_rules b ≡ m
    alts_total m so_far = omega (arith, ap alts_new_rules taken, counted, so_far)

    pub alts_symbols_more : (old new whole : List (List Sym)) → new ≡ old ++ seq_symbols M n s ∷ [] → old ++ alts_symbols M n a ≡ whole
        → new ++ alts_symbols M k b ≡ whole
    alts_symbols_more old new whole made so_far =
        more_made old new (seq_symbols M n s ∷ []) (alts_symbols M k b) (alts_symbols M n a) whole made
        (ap (alts_symbols M n) taken ∙ ap (λ j. seq_symbols M n s ∷ alts_symbols M j b) (sym counted)) so_far

    pub alts_rules_more : (old new whole : List RuleForm) → new ≡ old ++ seq_rules M n s → old ++ alts_rules M n a ≡ whole → new ++ alts_rules M k b ≡ whole
    alts_rules_more old new whole made so_far =
        more_made old new (seq_rules M n s) (alts_rules M k b) (alts_rules M n a) whole made
        (ap (alts_rules M n) taken ∙ ap (λ j. seq_rules M n s ++ alts_rules M j b) (sym counted)) so_far

    module _ (r : ℕ) (ss : List Sym) (is : ss ≡ seq_symbols M n s) where
      pub bases_more : (old new whole : List (List Sym)) → new ≡ old ++ with_base (rest_of r s) ss [] → old ++ base_symbols M r n a ≡ whole
          → new ++ base_symbols M r k b ≡ whole
      bases_more old new whole made so_far =
          more_made old new (with_base (rest_of r s) ss []) (base_symbols M r k b) (base_symbols M r n a) whole made
          (ap (base_symbols M r n) taken ∙ ap (λ j. with_base (rest_of r s) (seq_symbols M n s) (base_symbols M r j b)) (sym counted)
          ∙ ap (λ x. with_base (rest_of r s) x (base_symbols M r k b)) (sym is) ∙ sym (with_base_more (rest_of r s) ss (base_symbols M r k b))) so_far

      pub rests_more : (old new whole : List (List Sym)) → new ≡ old ++ with_rest (rest_of r s) ss [] → old ++ rest_symbols M r n a ≡ whole
          → new ++ rest_symbols M r k b ≡ whole
      rests_more old new whole made so_far =
          more_made old new (with_rest (rest_of r s) ss []) (rest_symbols M r k b) (rest_symbols M r n a) whole made
          (ap (rest_symbols M r n) taken ∙ ap (λ j. with_rest (rest_of r s) (seq_symbols M n s) (rest_symbols M r j b)) (sym counted)
          ∙ ap (λ x. with_rest (rest_of r s) x (rest_symbols M r k b)) (sym is) ∙ sym (with_rest_more (rest_of r s) ss (rest_symbols M r k b))) so_far

-- what is made once no term or no alternative is left
module _ (M : Numbering) (n : ℕ) where
  module _ (a : Seq) (none_left : a ≡ done) where
    pub seq_total_end : (m : ℕ) → n + seq_new_rules a ≡ m → n ≡ m
    seq_total_end m so_far = omega (arith, ap seq_new_rules none_left, so_far)

    pub seq_symbols_end : (made whole : List Sym) → made ++ seq_symbols M n a ≡ whole → made ≡ whole
    seq_symbols_end made whole so_far = all_made made (seq_symbols M n a) whole (ap (seq_symbols M n) none_left) so_far

    pub seq_rules_end : (made whole : List RuleForm) → made ++ seq_rules M n a ≡ whole → made ≡ whole
    seq_rules_end made whole so_far = all_made made (seq_rules M n a) whole (ap (seq_rules M n) none_left) so_far

  module _ (a : Alts) (none_left : a ≡ none) where
    pub alts_total_end : (m : ℕ) → n + alts_new_rules a ≡ m → n ≡ m
    alts_total_end m so_far = omega (arith, ap alts_new_rules none_left, so_far)

    pub alts_symbols_end : (made whole : List (List Sym)) → made ++ alts_symbols M n a ≡ whole → made ≡ whole
    alts_symbols_end made whole so_far = all_made made (alts_symbols M n a) whole (ap (alts_symbols M n) none_left) so_far

    pub alts_rules_end : (made whole : List RuleForm) → made ++ alts_rules M n a ≡ whole → made ≡ whole
    alts_rules_end made whole so_far = all_made made (alts_rules M n a) whole (ap (alts_rules M n) none_left) so_far

    pub bases_end : (r : ℕ) (made whole : List (List Sym)) → made ++ base_symbols M r n a ≡ whole → made ≡ whole
    bases_end r made whole so_far = all_made made (base_symbols M r n a) whole (ap (base_symbols M r n) none_left) so_far

    pub rests_end : (r : ℕ) (made whole : List (List Sym)) → made ++ rest_symbols M r n a ≡ whole → made ≡ whole
    rests_end r made whole so_far = all_made made (rest_symbols M r n a) whole (ap (rest_symbols M r n) none_left) so_far
