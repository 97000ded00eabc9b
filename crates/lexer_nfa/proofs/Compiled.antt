-- What each function that adds states has added.
use Rattle.std.proofs.Common.{map, get_or, true, None, slice_index_or, ◌≡◌, ◌<◌, ◌↔◌, ℕ, zero, suc, List, [], ◌∷◌, ◌++◌, Some}
use Rattle.std.proofs.Common.{slice_get, length, refl, sym, ap, ◌∙◌, subst, arith, append_assoc, length-append}
use Rattle.std.specs.Prelude.{encode_utf8, encode_utf8_all}
use Rattle.std.specs.Str.{chars, IsUtf8}
use Rattle.std.specs.Option.{option_map}
use Rattle.std.proofs.lemmas.Option.{slice_get-map, slice_get_read, slice_get-get_or, get_or_from_slice_get}
use Rattle.std.proofs.lemmas.List.Quantifiers.{position-Some}
use Rattle.std.proofs.lemmas.Slice.Eq.{bytes_eq-Decides}
use Rattle.std.proofs.lemmas.Bool.{false≢true}
use Rattle.grammar_tree.proofs.Lent.{some_position}
use Rattle.grammar_tree.specs.declared.rule.Rule.{Rule}
use Rattle.grammar_tree.specs.GrammarView.{rule_of}
use Rattle.std.proofs.lemmas.Str.{chars_from_encodes}
use Rattle.std.specs.List.{Contains}
use Rattle.std.proofs.Math.ListN.{set}
use Rattle.grammar_tree.specs.Written.{LexerAlts, LexerTerm, LexerRule, WrittenRule}
use Rattle.grammar_tree.specs.Faults.{LexerHasEmptyLoopAlts}
use Rattle.grammar_tree.specs.Kinds.{lexer_rules}
use Rattle.grammar_tree.proofs.Lent as forms
use Rattle.grammar_tree.specs.Matches.{Matches, MatchesAlts}
use Rattle.grammar_tree.specs.Laws.{CutsInto}
use Rattle.lexer_match.specs.declared.nfa.State.{State}
use Rattle.lexer_match.specs.Nfa.{GoesBelow, IsClosed}
use Rattle.lexer_nfa.specs.inner.Compile.{IsAdded, MatchesRuleAt}
use Rattle.lexer_nfa.specs.inner.Names.{HaveNoLoops, HaveOneName, is_named, rule_index}
use Rattle.lexer_match.proofs.Lent.{get_within}
use Rattle.lexer_nfa.proofs.Added.{added_as, added_call, added_never, added_then, added_char, added_set, added_star, added_plus, pushed_closed}

-- the NFA and the entry under other names
pub added_to : {R : List WrittenRule} (A : List ℕ → Type 0) (old new made : List State) (entry number next : ℕ) → made ≡ new → number ≡ entry
    → IsAdded R A old new entry next → IsAdded R A old made number next
added_to {R} A old new made entry number next e n a =
    let Q : List State → Type 0 = λ x. IsAdded R A old x number next in
    let S : ℕ → Type 0 = λ x. IsAdded R A old new x next in subst Q (sym e) (subst S (sym n) a)

one_more : (c : ℕ) (cs w : List ℕ) → CutsInto (λ u. u ≡ c ∷ []) (λ v. v ≡ cs) w ↔ (w ≡ c ∷ cs)
one_more c cs w = (λ (u, v, e, a, b). e ∙ ap (λ l. l ++ v) a ∙ ap (λ l. c ∷ l) b, λ e. (c ∷ [], cs, e, refl, refl))

-- one character more, in front of those that were added
pub literal_more : {R : List WrittenRule} (old mid new : List State) (c entry number next : ℕ) (cs : List ℕ) → IsAdded R (λ w. w ≡ cs) old mid entry next
    → new ≡ mid ++ State.Char c entry ∷ [] → number ≡ length mid → IsAdded R (λ w. w ≡ c ∷ cs) old new number next
literal_more old mid new c entry number next cs a e n =
    added_to (λ w. w ≡ c ∷ cs) old (mid ++ State.Char c entry ∷ []) new (length mid) number next e n
    (added_as (CutsInto (λ u. u ≡ c ∷ []) (λ v. v ≡ cs)) (λ w. w ≡ c ∷ cs) old (mid ++ State.Char c entry ∷ []) (length mid) next (one_more c cs)
    (added_then (λ u. u ≡ c ∷ []) (λ v. v ≡ cs) old mid (mid ++ State.Char c entry ∷ []) (length mid) entry next a (added_char mid c entry a.closed a.inside)))

pub text_more : (text rest left : List ℕ) (c : ℕ) (cs : List ℕ) → text ≡ rest ++ encode_utf8_all cs → rest ≡ left ++ encode_utf8 c
    → text ≡ left ++ encode_utf8_all (c ∷ cs)
text_more text rest left c cs e f = e ∙ ap (λ l. l ++ encode_utf8_all cs) f ∙ append_assoc left (encode_utf8 c) (encode_utf8_all cs)

no_bytes : (rest : List ℕ) → length rest ≡ 0 → rest ≡ []
no_bytes [] e = refl
no_bytes (x ∷ rest) e = absurd (omega (arith, e))

pub literal_all : {R : List WrittenRule} (text rest : List ℕ) (old new : List State) (entry next : ℕ) (cs : List ℕ) → IsUtf8 text
    → text ≡ rest ++ encode_utf8_all cs → length rest ≡ 0 → IsAdded R (λ w. w ≡ cs) old new entry next → IsAdded R (λ w. w ≡ chars text) old new entry next
literal_all text rest old new entry next cs utf8 e none a =
    let all : cs ≡ chars text = chars_from_encodes cs text utf8 (sym (e ∙ ap (λ l. l ++ encode_utf8_all cs) (no_bytes rest none))) in
    added_as (λ w. w ≡ cs) (λ w. w ≡ chars text) old new entry next (λ w. (λ h. h ∙ all, λ h. h ∙ sym all)) a

pub set_all : {R : List WrittenRule} (G : List LexerRule) (old new : List State) (s copy : List (ℕ × ℕ)) (number next : ℕ) → IsClosed old → next < length old
    → copy ≡ s → new ≡ old ++ State.Set copy next ∷ [] → number ≡ length old → IsAdded R (Matches G (LexerTerm.set s)) old new number next
set_all {R} G old new s copy number next closed h same e n =
    let Q : List (ℕ × ℕ) → Type 0 = λ x. IsAdded R (Matches G (LexerTerm.set x)) old new number next in
    subst Q same (added_to (Matches G (LexerTerm.set copy)) old (old ++ State.Set copy next ∷ []) new (length old) number next e n
    (added_set G old copy next closed h))

pub pushed_is_closed : (old new : List State) (state : State) → IsClosed old → GoesBelow (suc (length old)) state → new ≡ old ++ state ∷ [] → IsClosed new
pushed_is_closed old new state closed below e = let Q : List State → Type 0 = λ x. IsClosed x in subst Q (sym e) (pushed_closed old state closed below)

no_empty_char : (G : List LexerRule) (s : List (ℕ × ℕ)) → ¬ Matches G (LexerTerm.set s) []
no_empty_char G s m = let (c, e, h) = ((forms.by_form G).set s []).0 m in absurd (cc)

-- the states of a loop, with its state under another name
pub loop_base : {R : List WrittenRule} (A : List ℕ → Type 0) (old pushed mid : List State) (again body : ℕ) → pushed ≡ old ++ State.Never ∷ []
    → again ≡ length old → IsAdded R A pushed mid body again → IsAdded R A (old ++ State.Never ∷ []) mid body (length old)
loop_base {R} A old pushed mid again body e n a =
    let Q : List State → Type 0 = λ x. IsAdded R A x mid body (length old) in
    let S : ℕ → Type 0 = λ x. IsAdded R A pushed mid body x in subst Q e (subst S n a)

pub star_all : {R : List WrittenRule} (G : List LexerRule) (t : LexerTerm) → (¬ Matches G t []) → (old pushed mid new : List State) (again entry body next : ℕ)
    → next < length old → pushed ≡ old ++ State.Never ∷ [] → again ≡ length old → IsAdded R (Matches G t) pushed mid body again →
    new ≡ set mid again (State.Split body next) → entry ≡ again → IsAdded R (Matches G (LexerTerm.star t)) old new entry next
star_all G t some old pushed mid new again entry body next h e n a made same =
    added_to (Matches G (LexerTerm.star t)) old (set mid (length old) (State.Split body next)) new (length old) entry next
    (made ∙ ap (λ x. set mid x (State.Split body next)) n) (same ∙ n)
    (added_star G t some old mid body next h (loop_base (Matches G t) old pushed mid again body e n a))

pub plus_all : {R : List WrittenRule} (G : List LexerRule) (t : LexerTerm) → (¬ Matches G t []) → (old pushed mid new : List State) (again body next : ℕ)
    → next < length old → pushed ≡ old ++ State.Never ∷ [] → again ≡ length old → IsAdded R (Matches G t) pushed mid body again
    → new ≡ set mid again (State.Split body next) → IsAdded R (Matches G (LexerTerm.plus t)) old new body next
plus_all G t some old pushed mid new again body next h e n a made =
    added_to (Matches G (LexerTerm.plus t)) old (set mid (length old) (State.Split body next)) new body body next
    (made ∙ ap (λ x. set mid x (State.Split body next)) n) refl
    (added_plus G t some old mid body next h (loop_base (Matches G t) old pushed mid again body e n a))

pub short_all : {R : List WrittenRule} (G : List LexerRule) (s : List (ℕ × ℕ)) (old pushed mid new : List State) (again entry body next : ℕ) → next < length old
    → pushed ≡ old ++ State.Never ∷ [] → again ≡ length old → IsAdded R (Matches G (LexerTerm.set s)) pushed mid body again →
    new ≡ set mid again (State.Split body next) → entry ≡ again → IsAdded R (Matches G (LexerTerm.short s)) old new entry next
short_all G s old pushed mid new again entry body next h e n a made same =
    added_as (Matches G (LexerTerm.star (LexerTerm.set s))) (Matches G (LexerTerm.short s)) old new entry next
    (λ w. let is = (forms.by_form G).short s w in (is.1, is.0))
    (star_all G (LexerTerm.set s) (no_empty_char G s) old pushed mid new again entry body next h e n a made same)

-- a rule among the lexer rules is one of all rules
pub lexer_in : (rules : List WrittenRule) (k : ℕ) (r : LexerRule) → slice_get rules k ≡ Some (WrittenRule.lexer_rule r) → Contains (lexer_rules rules) r
lexer_in [] k r e = absurd (cc)
lexer_in (WrittenRule.parser_rule p ∷ rules) zero r e = absurd (cc)
lexer_in (WrittenRule.lexer_rule q ∷ rules) zero r e = let same : q ≡ r = cc in (zero, omega arith, same)
lexer_in (WrittenRule.parser_rule p ∷ rules) (suc k) r e = lexer_in rules k r e
lexer_in (WrittenRule.lexer_rule q ∷ rules) (suc k) r e = let (j, h, at) = lexer_in rules k r e in (suc j, omega (arith, h), at)

pub lexer_from : (rules : List WrittenRule) (r : LexerRule) → Contains (lexer_rules rules) r → (k : ℕ) × (slice_get rules k ≡ Some (WrittenRule.lexer_rule r))
lexer_from [] r (k, h, e) = absurd (omega (arith, h))
lexer_from (WrittenRule.parser_rule p ∷ rules) r c = let (k, e) = lexer_from rules r c in (suc k, e)
lexer_from (WrittenRule.lexer_rule q ∷ rules) r (zero, h, e) = (zero, ap (λ x. Some (WrittenRule.lexer_rule x)) e)
lexer_from (WrittenRule.lexer_rule q ∷ rules) r (suc k, h, e) = let (j, f) = lexer_from rules r (k, omega (arith, h), e) in (suc j, f)

pub grown : (old new : List State) (state : State) → new ≡ old ++ state ∷ [] → length new ≡ suc (length old)
grown old new state e = ap length e ∙ length-append old (state ∷ []) ∙ omega arith

-- the rule at an index, as it is written
pub written_at : (rules : List Rule) (k : ℕ) (rule : Rule) → k < length rules → rule ≡ slice_index_or rules k rule
    → slice_get (map rule_of rules) k ≡ Some (rule_of rule)
written_at rules k rule h e = slice_get-map rule_of rules k ∙ ap (λ x. option_map rule_of x) (slice_get_read rules (length rules) k rule refl h e)

-- a name matches what the one rule with this name does
named_matches : (R : List WrittenRule) (name : List ℕ) (index : ℕ) (w : List ℕ) → HaveOneName R → rule_index R name ≡ Some index → MatchesRuleAt R index w
    ↔ Matches (lexer_rules R) (LexerTerm.name name) w
named_matches R name index w one found = (
  λ (rule, at, m). ((forms.by_form (lexer_rules R)).name name w).1 (rule, lexer_in R index rule at, has_name rule at, m),
  λ m. back (((forms.by_form (lexer_rules R)).name name w).0 m),
)
  where
    there : (d : WrittenRule) → (index < length R) × (is_named name (get_or R index d) ≡ true)
    there d = let (inside, passes, first) = position-Some (is_named name) R index d found in (inside, passes)

    test_at : (rule : LexerRule) → slice_get R index ≡ Some (WrittenRule.lexer_rule rule) → is_named name (WrittenRule.lexer_rule rule) ≡ true
    test_at rule at =
        ap (λ x. is_named name x) (sym (get_or_from_slice_get R index (WrittenRule.lexer_rule rule) (WrittenRule.lexer_rule rule) at))
        ∙ (there (WrittenRule.lexer_rule rule)).1

    has_name : (rule : LexerRule) → slice_get R index ≡ Some (WrittenRule.lexer_rule rule) → rule.name ≡ name
    has_name rule at = (bytes_eq-Decides rule.name name).0 (test_at rule at)

    is_lexer : (found : WrittenRule) → is_named name found ≡ true → (rule : LexerRule) × (found ≡ WrittenRule.lexer_rule rule)
    is_lexer (WrittenRule.parser_rule r) e = absurd (false≢true e)
    is_lexer (WrittenRule.lexer_rule r) e = (r, refl)

    back : (rule : LexerRule) × Contains (lexer_rules R) rule × (rule.name ≡ name) × MatchesAlts (lexer_rules R) rule.alts w → MatchesRuleAt R index w
    back (rule, among, named, m) =
        let (k, e) = lexer_from R rule among in
        let d = WrittenRule.lexer_rule rule in
        let (inside, passes) = there d in
        let (other, is) = is_lexer (get_or R index d) passes in
        let at : slice_get R index ≡ Some (WrittenRule.lexer_rule other) = slice_get-get_or R index d inside ∙ ap Some is in
        let same : index ≡ k = one index k other rule at e (has_name other at ∙ sym named) in
        (rule, ap (λ x. slice_get R x) same ∙ e, m)

pub call_all : {R : List WrittenRule} (name : List ℕ) (old new : List State) (index number next : ℕ) → HaveOneName R → rule_index R name ≡ Some index
    → IsClosed old → next < length old → new ≡ old ++ State.Call index next ∷ [] → number ≡ length old →
    IsAdded R (Matches (lexer_rules R) (LexerTerm.name name)) old new number next
call_all {R} name old new index number next one found closed h e n =
    added_to (Matches (lexer_rules R) (LexerTerm.name name)) old (old ++ State.Call index next ∷ []) new (length old) number next e n
    (added_as (MatchesRuleAt R index) (Matches (lexer_rules R) (LexerTerm.name name)) old (old ++ State.Call index next ∷ []) (length old) next
    (λ w. named_matches R name index w one found) (added_call old index next closed h))

-- no lexer rule has the name
pub unnamed_all : {R : List WrittenRule} (name : List ℕ) (old new : List State) (number next : ℕ) → rule_index R name ≡ None → IsClosed old → 0 < length old
    → new ≡ old ++ State.Never ∷ [] → number ≡ length old →
    IsAdded R (Matches (lexer_rules R) (LexerTerm.name name)) old new number next
unnamed_all {R} name old new number next missing closed h e n =
    added_to (Matches (lexer_rules R) (LexerTerm.name name)) old (old ++ State.Never ∷ []) new (length old) number next e n
    (added_never (Matches (lexer_rules R) (LexerTerm.name name)) old next (λ w m. none w (((forms.by_form (lexer_rules R)).name name w).0 m)) closed h)
  where
    none : (w : List ℕ) → (rule : LexerRule) × Contains (lexer_rules R) rule × (rule.name ≡ name) × MatchesAlts (lexer_rules R) rule.alts w → ⊥
    none w (rule, among, named, m) =
        let (k, e) = lexer_from R rule among in
        let (i, found) =
        some_position (is_named name) R (WrittenRule.lexer_rule rule)
        (k, get_within R (WrittenRule.lexer_rule rule) k e, get_or_from_slice_get R k (WrittenRule.lexer_rule rule) (WrittenRule.lexer_rule rule) e)
        ((bytes_eq-Decides rule.name name).1 named) in
        let bad : None ≡ Some i = sym missing ∙ found in absurd (cc)

-- the alternatives of a rule that is found have no loop over what matches the empty text
pub found_no_loop : (R : List WrittenRule) (index : ℕ) (alts : LexerAlts) → HaveNoLoops R → (rule : LexerRule)
    × (slice_get R index ≡ Some (WrittenRule.lexer_rule rule)) × (rule.alts ≡ alts) → ¬ LexerHasEmptyLoopAlts (lexer_rules R) alts
found_no_loop R index alts none (rule, at, same) =
    let Q : LexerAlts → Type 0 = λ x. ¬ LexerHasEmptyLoopAlts (lexer_rules R) x in subst Q same (none rule (lexer_in R index rule at))

-- states for the alternatives of the rule at an index
pub rule_all : {R : List WrittenRule} (index : ℕ) (alts : LexerAlts) (old new : List State) (entry next : ℕ) → (rule : LexerRule)
    × (slice_get R index ≡ Some (WrittenRule.lexer_rule rule)) × (rule.alts ≡ alts) →
    IsAdded R (MatchesAlts (lexer_rules R) alts) old new entry next → IsAdded R (MatchesRuleAt R index) old new entry next
rule_all {R} index alts old new entry next (rule, at, same) a =
    added_as (MatchesAlts (lexer_rules R) alts) (MatchesRuleAt R index) old new entry next
    (λ w. (λ m. (rule, at, to w m), λ (other, there, m). from w other there m)) a
  where
    to : (w : List ℕ) → MatchesAlts (lexer_rules R) alts w → MatchesAlts (lexer_rules R) rule.alts w
    to w m = let Q : LexerAlts → Type 0 = λ x. MatchesAlts (lexer_rules R) x w in subst Q (sym same) m

    from : (w : List ℕ) (other : LexerRule) → slice_get R index ≡ Some (WrittenRule.lexer_rule other) → MatchesAlts (lexer_rules R) other.alts w
        → MatchesAlts (lexer_rules R) alts w
    from w other there m =
        let k : Some (WrittenRule.lexer_rule other) ≡ Some (WrittenRule.lexer_rule rule) = sym there ∙ at in
        let is : other ≡ rule = cc in
        let Q : LexerAlts → Type 0 = λ x. MatchesAlts (lexer_rules R) x w in subst Q (ap (λ (x : LexerRule). x.alts) is ∙ same) m

pub no_rule_all : {R : List WrittenRule} (index : ℕ) (old new : List State) (number next : ℕ)
    → ((rule : LexerRule) → ¬ (slice_get R index ≡ Some (WrittenRule.lexer_rule rule))) → IsClosed old → 0 < length old → new ≡ old ++ State.Never ∷ []
    → number ≡ length old →
    IsAdded R (MatchesRuleAt R index) old new number next
no_rule_all {R} index old new number next none closed h e n =
    added_to (MatchesRuleAt R index) old (old ++ State.Never ∷ []) new (length old) number next e n
    (added_never (MatchesRuleAt R index) old next (λ w (rule, at, m). none rule at) closed h)
