-- Which lexer terms match the empty text.
use Rattle.std.proofs.Common.{◌≡◌, inl, inr, ℕ, Bool, true, false, List, [], ◌∷◌, Option, Some, None, slice_get}
use Rattle.std.proofs.Common.{slice_index_or, slice_set, length, ◌<◌, get_or-set_other, refl, sym, ap, ◌∙◌, subst}
use Rattle.std.specs.List.{Contains}
use Rattle.std.specs.Option.{option_map_or}
use Rattle.std.proofs.lemmas.Bool.{cases_eq, false≢true}
use Rattle.std.proofs.lemmas.List.Quantifiers.{position-Some}
use Rattle.std.proofs.lemmas.Option.{slice_get-get_or, slice_get_within}
use Rattle.std.proofs.lemmas.Slice.Eq.{bytes_eq-Decides}
use Rattle.grammar_tree.specs.Faults.{LexerHasEmptyLoop, LexerHasEmptyLoopSeq, LexerHasEmptyLoopAlts}
use Rattle.grammar_tree.specs.Kinds.{as_lexer_rule, lexer_rules}
use Rattle.grammar_tree.proofs.Lent.{contains_filter_map, some_position, at_of_contains, contains_at, lexer_place as index_of_rule}
use Rattle.grammar_tree.specs.Matches.{Matches, MatchesAlts, MatchesMany, MatchesSeq}
use Rattle.grammar_tree.specs.Written.{LexerTerm, LexerSeq, LexerAlts, LexerRule, WrittenAlts, WrittenRule}
use Rattle.grammar_check_nodes.specs.Flags.{flag}
use Rattle.grammar_check_lexer_rules.specs.Lexer.{AreEmptyLexerRules, OneRule, is_nil, lexer_alts_are_empty, lexer_alts_have_loop}
use Rattle.grammar_check_lexer_rules.specs.Lexer.{lexer_has_loop, lexer_is_empty, lexer_index, lexer_seq_has_loop, lexer_seq_is_empty}
use Rattle.grammar_check_lexer_rules.specs.inner.Lexer.{lexer_rule_is_empty, rule_is_empty}
use Rattle.grammar_check_nodes.specs.Marking.{IsClosedAt, IsMarked}
use Rattle.grammar_check_parser_rules.specs.Rules.{has_key}
use Rattle.grammar_check_parser_rules.specs.declared.rules.Key.TheVariants.{LexerName}
use Rattle.grammar_check_parser_rules.proofs.Lent.{and_both, from_both, from_first, from_second, nil_parts, or_one}

-- The table has no rule whose alternatives don't match the empty text.
abbrev HasOnlyEmptyLexerRules : List WrittenRule → List Bool → Type 0
HasOnlyEmptyLexerRules rules flags =
    (i : ℕ) (rule : LexerRule) → slice_get rules i ≡ Some (WrittenRule.lexer_rule rule) → flag flags i ≡ true → MatchesAlts (lexer_rules rules) rule.alts []

-- The table has the rule at this index, where its alternatives match the empty text by the rules in the table.
abbrev IsSettledAt : List WrittenRule → List Bool → ℕ → Type 0
IsSettledAt rules flags i =
    (rule : LexerRule) → slice_get rules i ≡ Some (WrittenRule.lexer_rule rule) → lexer_alts_are_empty (lexer_index rules) (flag flags) rule.alts ≡ true
    → flag flags i ≡ true

nil_of : (t : List ℕ) → is_nil t ≡ true → t ≡ []
nil_of [] e = refl
nil_of (c ∷ t) e = absurd (false≢true e)

of_nil : (t : List ℕ) → t ≡ [] → is_nil t ≡ true
of_nil t e = ap is_nil e

module _ (rules : List WrittenRule) where
  abbrev L : List LexerRule
  L = lexer_rules rules

  -- an index that a name has is a lexer rule's of this name
  named_key : (n : List ℕ) (rule : WrittenRule) → has_key LexerName n rule ≡ true → (r : LexerRule) × (rule ≡ WrittenRule.lexer_rule r) × (r.name ≡ n)
  named_key n (WrittenRule.parser_rule r) e = absurd (false≢true e)
  named_key n (WrittenRule.lexer_rule r) e = (r, refl, (bytes_eq-Decides r.name n).0 e)

  pub rule_of_index : (n : List ℕ) (i : ℕ) → lexer_index rules n ≡ Some i → (r : LexerRule) × (slice_get rules i ≡ Some (WrittenRule.lexer_rule r))
      × (r.name ≡ n)
  rule_of_index n i e =
      let none = WrittenRule.parser_rule (record { name = []; alts = WrittenAlts.none }) in
      let found = position-Some (has_key LexerName n) rules i none e in
      let it = named_key n (slice_index_or rules i none) found.1 in
      (it.0, slice_get-get_or rules i none found.0 ∙ ap Some it.1, it.2)

  -- the index of a lexer rule is what its name has
  pub index_of_name : OneRule rules → (i : ℕ) (r : LexerRule) → slice_get rules i ≡ Some (WrittenRule.lexer_rule r) → lexer_index rules r.name ≡ Some i
  index_of_name one i r at =
      let found =
      some_position (has_key LexerName r.name) rules (WrittenRule.lexer_rule r) (contains_at rules i (WrittenRule.lexer_rule r) at)
      ((bytes_eq-Decides r.name r.name).1 refl) in
      let it = rule_of_index r.name found.0 found.1 in
      found.1 ∙ ap Some (one found.0 i (WrittenRule.lexer_rule it.0) (WrittenRule.lexer_rule r) it.1 at it.2)

  pub contains_rule : (i : ℕ) (r : LexerRule) → slice_get rules i ≡ Some (WrittenRule.lexer_rule r) → Contains L r
  contains_rule i r at = contains_filter_map as_lexer_rule rules (WrittenRule.lexer_rule r) r refl (contains_at rules i (WrittenRule.lexer_rule r) at)

  module _ (flags : List Bool) where
    abbrev f : List ℕ → Option ℕ
    f = lexer_index rules

    abbrev e : ℕ → Bool
    e = flag flags

    module _ (sound : HasOnlyEmptyLexerRules rules flags) where
      name_empty : (n : List ℕ) (o : Option ℕ) → f n ≡ o → option_map_or e o false ≡ true → Matches L (LexerTerm.name n) []
      name_empty n None h k = absurd (false≢true k)
      name_empty n (Some i) h k =
          let it = rule_of_index n i h in
          Matches.by_name n it.0 [] (contains_rule i it.0 it.1) it.2 (sound i it.0 it.1 k)

      mutual
        pub empty : (t : LexerTerm) → lexer_is_empty f e t ≡ true → Matches L t []
        empty (LexerTerm.literal t) h = let P : List ℕ → Type 0 = λ w. Matches L (LexerTerm.literal t) w in subst P (nil_of t h) (Matches.by_literal t)
        empty (LexerTerm.set s) h = absurd (false≢true h)
        empty (LexerTerm.name n) h = name_empty n (f n) refl h
        empty (LexerTerm.block a) h = Matches.by_block a [] (alts_empty a h)
        empty (LexerTerm.opt t) h = Matches.by_absent t
        empty (LexerTerm.star t) h = Matches.by_star t [] (MatchesMany.by_end t)
        empty (LexerTerm.plus t) h = Matches.by_plus t [] [] (empty t h) (MatchesMany.by_end t)
        empty (LexerTerm.short s) h = Matches.by_short s [] (MatchesMany.by_end (LexerTerm.set s))

        seq_empty : (s : LexerSeq) → lexer_seq_is_empty f e s ≡ true → MatchesSeq L s []
        seq_empty LexerSeq.done h = MatchesSeq.by_done
        seq_empty (LexerSeq.next t s) h =
            let both = and_both (lexer_is_empty f e t) (lexer_seq_is_empty f e s) h in
            MatchesSeq.by_next t s [] [] (empty t both.0) (seq_empty s both.1)

        pub alts_empty : (a : LexerAlts) → lexer_alts_are_empty f e a ≡ true → MatchesAlts L a []
        alts_empty LexerAlts.none h = absurd (false≢true h)
        alts_empty (LexerAlts.or s a) h = elim (or_one (lexer_seq_is_empty f e s) (lexer_alts_are_empty f e a) h) [
          | inl one ↦ MatchesAlts.by_first s a [] (seq_empty s one)
          | inr more ↦ MatchesAlts.by_later s a [] (alts_empty a more)
        ]

    module _ (one : OneRule rules) (settled : (i : ℕ) → IsSettledAt rules flags i) where
      name_found : (n : List ℕ) (i : ℕ) → f n ≡ Some i → e i ≡ true → lexer_is_empty f e (LexerTerm.name n) ≡ true
      name_found n i h k = ap (λ o. option_map_or e o false) h ∙ k

      mutual
        is_found : {t : LexerTerm} {w : List ℕ} → Matches L t w → w ≡ [] → lexer_is_empty f e t ≡ true
        is_found (Matches.by_literal t) h = of_nil t h
        is_found (Matches.by_set s c k) h = absurd cc
        is_found (Matches.by_name n rule w c name m) h =
            let it = at_of_contains L rule c in
            let at = index_of_rule rules it.0 rule it.1 in
            let index : f n ≡ Some at.0 = ap f (sym name) ∙ index_of_name one at.0 rule at.1 in
            name_found n at.0 index (settled at.0 rule at.1 (alts_found m h))
        is_found (Matches.by_block a w m) h = alts_found m h
        is_found (Matches.by_absent t) h = refl
        is_found (Matches.by_present t w m) h = refl
        is_found (Matches.by_star t w m) h = refl
        is_found (Matches.by_plus t u v m more) h = is_found m (nil_parts u v h).0
        is_found (Matches.by_short s w m) h = refl

        seq_found : {s : LexerSeq} {w : List ℕ} → MatchesSeq L s w → w ≡ [] → lexer_seq_is_empty f e s ≡ true
        seq_found MatchesSeq.by_done h = refl
        seq_found (MatchesSeq.by_next t s u v m more) h =
            from_both (lexer_is_empty f e t) (lexer_seq_is_empty f e s) (is_found m (nil_parts u v h).0) (seq_found more (nil_parts u v h).1)

        alts_found : {a : LexerAlts} {w : List ℕ} → MatchesAlts L a w → w ≡ [] → lexer_alts_are_empty f e a ≡ true
        alts_found (MatchesAlts.by_first s a w m) h = from_first (lexer_seq_is_empty f e s) (lexer_alts_are_empty f e a) (seq_found m h)
        alts_found (MatchesAlts.by_later s a w m) h = from_second (lexer_seq_is_empty f e s) (lexer_alts_are_empty f e a) (alts_found m h)

      pub found_in_alts : {a : LexerAlts} → MatchesAlts L a [] → lexer_alts_are_empty f e a ≡ true
      found_in_alts m = alts_found m refl

  exact : OneRule rules → (flags : List Bool) → HasOnlyEmptyLexerRules rules flags → ((i : ℕ) → IsSettledAt rules flags i) → AreEmptyLexerRules rules flags
  exact one flags sound settled = λ i rule at. (sound i rule at, λ m. settled i rule at (found_in_alts flags one settled m))

  -- one more rule that matches the empty text
  marked : (flags : List Bool) (n : ℕ) (rule : LexerRule) → slice_get rules n ≡ Some (WrittenRule.lexer_rule rule)
      → lexer_alts_are_empty (lexer_index rules) (flag flags) rule.alts ≡ true →
      HasOnlyEmptyLexerRules rules flags → HasOnlyEmptyLexerRules rules (slice_set flags n true)
  marked flags n rule at h sound i r at' k = elim (cases_eq i n) [
    | inl same ↦
        let P : ℕ → Type 0 = λ m. slice_get rules m ≡ Some (WrittenRule.lexer_rule r) in
        let is : rule ≡ r = lexer_same rule r (sym at ∙ subst P same at') in
        let Q : LexerRule → Type 0 = λ x. MatchesAlts L x.alts [] in
        subst Q is (alts_empty flags sound rule.alts h)
    | inr differ ↦ sound i r at' (sym (get_or-set_other flags n i true false differ) ∙ k)
  ]
    where
      lexer_same : (a b : LexerRule) → Some (WrittenRule.lexer_rule a) ≡ Some (WrittenRule.lexer_rule b) → a ≡ b
      lexer_same a b e' = cc

  sound_more : (flags : List Bool) (n : ℕ) (o : Option WrittenRule) → slice_get rules n ≡ o
      → option_map_or (rule_is_empty (lexer_index rules) (flag flags)) o false ≡ true → HasOnlyEmptyLexerRules rules flags
      → HasOnlyEmptyLexerRules rules (slice_set flags n true)
  sound_more flags n None at h sound = absurd (false≢true h)
  sound_more flags n (Some (WrittenRule.parser_rule r)) at h sound = absurd (false≢true h)
  sound_more flags n (Some (WrittenRule.lexer_rule r)) at h sound = marked flags n r at h sound

  are_sound : {flags : List Bool} → IsMarked (lexer_rule_is_empty rules) flags → HasOnlyEmptyLexerRules rules flags
  are_sound (IsMarked.by_none flags none) = λ i rule at h. absurd (false≢true (sym (none i) ∙ h))
  are_sound (IsMarked.by_one flags n before lt passes) = sound_more flags n (slice_get rules n) refl passes (are_sound before)

  pub are_empty : OneRule rules → (flags : List Bool) → IsMarked (lexer_rule_is_empty rules) flags
      → ((i : ℕ) → i < length rules → IsClosedAt (lexer_rule_is_empty rules) flags i) → AreEmptyLexerRules rules flags
  are_empty one flags marks closed = exact one flags (are_sound marks)
      (λ i rule at h. closed i (slice_get_within rules i (WrittenRule.lexer_rule rule) at)
      (ap (λ o. option_map_or (rule_is_empty (lexer_index rules) (flag flags)) o false) at ∙ h))

  -- from an exact table: what matches the empty text, and loops
  module _ (flags : List Bool) (one : OneRule rules) (are : AreEmptyLexerRules rules flags) where
    sound : HasOnlyEmptyLexerRules rules flags
    sound i rule at = (are i rule at).0

    settled : (i : ℕ) → IsSettledAt rules flags i
    settled i rule at h = (are i rule at).1 (alts_empty flags sound rule.alts h)

    is_empty : (t : LexerTerm) → Matches L t [] → lexer_is_empty (lexer_index rules) (flag flags) t ≡ true
    is_empty t m = is_found flags one settled m refl

    mutual
      loop : (t : LexerTerm) → lexer_has_loop (lexer_index rules) (flag flags) t ≡ true → LexerHasEmptyLoop L t
      loop (LexerTerm.literal t) h = false≢true h
      loop (LexerTerm.set s) h = false≢true h
      loop (LexerTerm.name n) h = false≢true h
      loop (LexerTerm.block a) h = loop_alts a h
      loop (LexerTerm.opt t) h = loop t h
      loop (LexerTerm.star t) h =
          elim (or_one (lexer_is_empty (lexer_index rules) (flag flags) t) (lexer_has_loop (lexer_index rules) (flag flags) t) h)
          [ inl x ↦ inl (empty flags sound t x) | inr y ↦ inr (loop t y) ]
      loop (LexerTerm.plus t) h =
          elim (or_one (lexer_is_empty (lexer_index rules) (flag flags) t) (lexer_has_loop (lexer_index rules) (flag flags) t) h) [
            | inl x ↦ inl
                (empty flags sound t x)
            | inr y ↦ inr (loop t y)
          ]
      loop (LexerTerm.short s) h = false≢true h

      loop_seq : (s : LexerSeq) → lexer_seq_has_loop (lexer_index rules) (flag flags) s ≡ true → LexerHasEmptyLoopSeq L s
      loop_seq LexerSeq.done h = false≢true h
      loop_seq (LexerSeq.next t s) h =
          elim (or_one (lexer_has_loop (lexer_index rules) (flag flags) t) (lexer_seq_has_loop (lexer_index rules) (flag flags) s) h)
          [ inl x ↦ inl (loop t x) | inr y ↦ inr (loop_seq s y) ]

      pub loop_alts : (a : LexerAlts) → lexer_alts_have_loop (lexer_index rules) (flag flags) a ≡ true → LexerHasEmptyLoopAlts L a
      loop_alts LexerAlts.none h = false≢true h
      loop_alts (LexerAlts.or s a) h =
          elim (or_one (lexer_seq_has_loop (lexer_index rules) (flag flags) s) (lexer_alts_have_loop (lexer_index rules) (flag flags) a) h)
          [ inl x ↦ inl (loop_seq s x) | inr y ↦ inr (loop_alts a y) ]

    mutual
      looped : (t : LexerTerm) → LexerHasEmptyLoop L t → lexer_has_loop (lexer_index rules) (flag flags) t ≡ true
      looped (LexerTerm.literal t) h = absurd h
      looped (LexerTerm.set s) h = absurd h
      looped (LexerTerm.name n) h = absurd h
      looped (LexerTerm.block a) h = looped_alts a h
      looped (LexerTerm.opt t) h = looped t h
      looped (LexerTerm.star t) (inl h) =
          from_first (lexer_is_empty (lexer_index rules) (flag flags) t) (lexer_has_loop (lexer_index rules) (flag flags) t) (is_empty t h)
      looped (LexerTerm.star t) (inr h) =
          from_second (lexer_is_empty (lexer_index rules) (flag flags) t) (lexer_has_loop (lexer_index rules) (flag flags) t) (looped t h)
      looped (LexerTerm.plus t) (inl h) =
          from_first (lexer_is_empty (lexer_index rules) (flag flags) t) (lexer_has_loop (lexer_index rules) (flag flags) t) (is_empty t h)
      looped (LexerTerm.plus t) (inr h) =
          from_second (lexer_is_empty (lexer_index rules) (flag flags) t) (lexer_has_loop (lexer_index rules) (flag flags) t) (looped t h)
      looped (LexerTerm.short s) h = absurd h

      looped_seq : (s : LexerSeq) → LexerHasEmptyLoopSeq L s → lexer_seq_has_loop (lexer_index rules) (flag flags) s ≡ true
      looped_seq LexerSeq.done h = absurd h
      looped_seq (LexerSeq.next t s) (inl h) =
          from_first (lexer_has_loop (lexer_index rules) (flag flags) t) (lexer_seq_has_loop (lexer_index rules) (flag flags) s) (looped t h)
      looped_seq (LexerSeq.next t s) (inr h) =
          from_second (lexer_has_loop (lexer_index rules) (flag flags) t) (lexer_seq_has_loop (lexer_index rules) (flag flags) s) (looped_seq s h)

      pub looped_alts : (a : LexerAlts) → LexerHasEmptyLoopAlts L a → lexer_alts_have_loop (lexer_index rules) (flag flags) a ≡ true
      looped_alts LexerAlts.none h = absurd h
      looped_alts (LexerAlts.or s a) (inl h) =
          from_first (lexer_seq_has_loop (lexer_index rules) (flag flags) s) (lexer_alts_have_loop (lexer_index rules) (flag flags) a) (looped_seq s h)
      looped_alts (LexerAlts.or s a) (inr h) =
          from_second (lexer_seq_has_loop (lexer_index rules) (flag flags) s) (lexer_alts_have_loop (lexer_index rules) (flag flags) a) (looped_alts a h)
