-- In a well-formed grammar the plain tests say which texts a lexer rule matches: no rule
-- uses itself, so that there is an end to writing out the names of rules.
use Rattle.std.proofs.Common.{◌≡◌, ◌≢◌, ◌⊎◌, inl, inr, ◌↔◌, ℕ, zero, suc, ◌+◌, ◌<◌, ◌≤◌, Bool, true, false, ◌&&◌, ◌||◌, cond, not, List}
use Rattle.std.proofs.Common.{[], ◌∷◌, ◌++◌, length, refl, sym, ap, ◌∙◌, subst, arith, true≢false, length-append}
use Rattle.std.specs.Bool.{Decides}
use Rattle.std.specs.List.{Contains}
use Rattle.std.specs.Str.{bytes_eq}
use Rattle.std.proofs.lemmas.Bool.{cases_Bool}
use Rattle.std.proofs.lemmas.Bool.Decides.{Decides-and, Decides-not, Decides-or}
use Rattle.std.proofs.lemmas.List.Elements.{Contains-append_left, Contains-append_right}
use Rattle.std.proofs.lemmas.Slice.Eq.{bytes_eq-Decides}
use Rattle.grammar_tree.specs.Chars.{has}
use Rattle.grammar_tree.specs.Written.{LexerTerm, LexerSeq, LexerAlts, LexerRule, WrittenGrammar}
use Rattle.grammar_tree.specs.Kinds.{lexer_rules, same_text}
use Rattle.grammar_tree.specs.Faults.{IsWellFormed, LexerHasEmptyLoop, LexerHasEmptyLoopSeq, LexerHasEmptyLoopAlts}
use Rattle.grammar_tree.specs.Faults.{Uses, UsesThrough, term_names, seq_names, used_names}
use Rattle.grammar_tree.specs.Laws.{CutsInto}
use Rattle.grammar_tree.specs.Matches.{Matches, MatchesAlternative, MatchesAlts, MatchesRule, MatchesSeq, is_short}
use Rattle.grammar_tree.specs.Places.{NamesAreKnown}
use Rattle.grammar_tree.proofs.Lent.{contains_cases, contains_first, elements_contains_later as contains_later}
use Rattle.grammar_tree.proofs.Lent.{contains_none, by_form, rule_by_form, lexer_places, well_formed_names}
use Rattle.token_print.specs.Reading.{all_match, alternative_matches, has_rule, is_cut, is_cut_up, is_cut_within, is_filled}
use Rattle.token_print.specs.Reading.{is_one_of, name_matches, rule_matches, some_match, term_matches}
use Rattle.token_print.proofs.Decided as decided
use Rattle.token_print.proofs.Decided.{always, both_where, decides_by, never}

swap : {A B : Type 0} → A ↔ B → B ↔ A
swap same = (same.1, same.0)

module _ (R : List LexerRule) where
  one_of : (set : List (ℕ × ℕ)) (w : List ℕ) → Decides (is_one_of set w) (Matches R (LexerTerm.set set) w)
  one_of set [] = never (λ m. let (c, e, h) = ((by_form R).set set []).0 m in cc)
  one_of set (c ∷ []) = (λ is. ((by_form R).set set (c ∷ [])).1 (c, refl, is), λ m. let (d, e, h) = ((by_form R).set set (c ∷ [])).0 m in same d e h)
    where
      same : (d : ℕ) → c ∷ [] ≡ d ∷ [] → has set d ≡ true → has set c ≡ true
      same d e h = let one : c ≡ d = cc in ap (has set) one ∙ h
  one_of set (c ∷ (d ∷ w)) = never (λ m. let (x, e, h) = ((by_form R).set set (c ∷ (d ∷ w))).0 m in cc)

  -- a star over a term that doesn't match the empty text
  module _ (t : LexerTerm) (filled : ¬ Matches R t []) (test : List ℕ → Bool) (each : (w : List ℕ) → Decides (test w) (Matches R t w)) where
    star_more : (c : ℕ) (w : List ℕ) → CutsInto (λ u. Matches R t (c ∷ u)) (Matches R (LexerTerm.star t)) w ↔ Matches R (LexerTerm.star t) (c ∷ w)
    star_more c w = (there, λ m. back (((by_form R).star t (c ∷ w)).0 m))
      where
        there : CutsInto (λ u. Matches R t (c ∷ u)) (Matches R (LexerTerm.star t)) w → Matches R (LexerTerm.star t) (c ∷ w)
        there (u, v, e, m, more) = ((by_form R).star t (c ∷ w)).1 (inr (c ∷ u, v, ap (λ l. c ∷ l) e, m, more))

        cut_off : (u v : List ℕ) → c ∷ w ≡ u ++ v → Matches R t u → Matches R (LexerTerm.star t) v
            → CutsInto (λ u. Matches R t (c ∷ u)) (Matches R (LexerTerm.star t)) w
        cut_off [] v e m more = absurd (filled m)
        cut_off (d ∷ u) v e m more =
            let first : d ≡ c = cc in
            let rest : w ≡ u ++ v = cc in
            let P : ℕ → Type 0 = λ x. Matches R t (x ∷ u) in (u, v, rest, subst P first m, more)

        back : (c ∷ w ≡ []) ⊎ CutsInto (Matches R t) (Matches R (LexerTerm.star t)) (c ∷ w)
            → CutsInto (λ u. Matches R t (c ∷ u)) (Matches R (LexerTerm.star t)) w
        back (inl e) = absurd cc
        back (inr (u, v, e, m, more)) = cut_off u v e m more

    star_within : (n : ℕ) (w : List ℕ) → length w ≤ n → Decides (is_cut_within n test w) (Matches R (LexerTerm.star t) w)
    star_within n [] h = always (((by_form R).star t []).1 (inl refl))
    star_within zero (c ∷ w) h = absurd (omega (arith, h))
    star_within (suc n) (c ∷ w) h =
        decides_by (star_more c w)
        (decided.cut (λ u. Matches R t (c ∷ u)) (Matches R (LexerTerm.star t)) (λ u. test (c ∷ u)) (is_cut_within n test) w (λ u v e. each (c ∷ u))
        (λ u v e. star_within n v (omega (arith, h, ap length e, length-append u v))))

    star_of : (w : List ℕ) → Decides (is_cut_up test w) (Matches R (LexerTerm.star t) w)
    star_of w = star_within (length w) w (omega arith)

    plus_of : (w : List ℕ) → Decides (is_cut test (is_cut_up test) w) (Matches R (LexerTerm.plus t) w)
    plus_of w =
        decides_by (swap ((by_form R).plus t w))
        (decided.cut (Matches R t) (Matches R (LexerTerm.star t)) test (is_cut_up test) w (λ u v e. each u) (λ u v e. star_of v))

  set_filled : (set : List (ℕ × ℕ)) → ¬ Matches R (LexerTerm.set set) []
  set_filled set m = let (c, e, h) = ((by_form R).set set []).0 m in cc

  -- the sequence matches a proper prefix of the text
  abbrev MatchesPrefix : LexerSeq → List ℕ → Type 0
  MatchesPrefix s w = CutsInto (MatchesSeq R s) (λ v. v ≢ []) w

  -- where the names of some kind are decided, so are the terms that use only these
  module _ (Known : List ℕ → Type 0) (test : List ℕ → List ℕ → Bool)
      (named : (n : List ℕ) → Known n → (w : List ℕ) → Decides (test n w) (Matches R (LexerTerm.name n) w)) where
    abbrev OnlyKnown : List (List ℕ) → Type 0
    OnlyKnown names = (n : List ℕ) → Contains names n → Known n

    left_known : (xs ys : List (List ℕ)) → OnlyKnown (xs ++ ys) → OnlyKnown xs
    left_known xs ys k n c = k n (Contains-append_left xs ys n c)

    right_known : (xs ys : List (List ℕ)) → OnlyKnown (xs ++ ys) → OnlyKnown ys
    right_known xs ys k n c = k n (Contains-append_right xs ys n c)

    mutual
      term : (t : LexerTerm) → OnlyKnown (term_names t) → (¬ LexerHasEmptyLoop R t) → (w : List ℕ) → Decides (term_matches test t w) (Matches R t w)
      term (LexerTerm.literal text) k none w = decides_by (swap ((by_form R).literal text w)) (bytes_eq-Decides w text)
      term (LexerTerm.set set) k none w = one_of set w
      term (LexerTerm.name n) k none w = named n (k n (0, omega arith, refl)) w
      term (LexerTerm.block a) k none w = decides_by (swap ((by_form R).block a w)) (alternatives a k none w)
      term (LexerTerm.opt t) k none w =
          decides_by (swap ((by_form R).opt t w)) (Decides-or (bytes_eq w []) (term_matches test t w) (bytes_eq-Decides w []) (term t k none w))
      term (LexerTerm.star t) k none w = star_of t (λ m. none (inl m)) (term_matches test t) (term t k (λ h. none (inr h))) w
      term (LexerTerm.plus t) k none w = plus_of t (λ m. none (inl m)) (term_matches test t) (term t k (λ h. none (inr h))) w
      term (LexerTerm.short set) k none w =
          decides_by (swap ((by_form R).short set w)) (star_of (LexerTerm.set set) (set_filled set) (is_one_of set) (one_of set) w)

      sequence : (s : LexerSeq) → OnlyKnown (seq_names s) → (¬ LexerHasEmptyLoopSeq R s) → (w : List ℕ) → Decides (all_match test s w) (MatchesSeq R s w)
      sequence LexerSeq.done k none w = decides_by (swap ((by_form R).done w)) (bytes_eq-Decides w [])
      sequence (LexerSeq.next t s) k none w =
          decides_by (swap ((by_form R).next t s w))
          (decided.cut (Matches R t) (MatchesSeq R s) (term_matches test t) (all_match test s) w
          (λ u v e. term t (left_known (term_names t) (seq_names s) k) (λ h. none (inl h)) u)
          (λ u v e. sequence s (right_known (term_names t) (seq_names s) k) (λ h. none (inr h)) v))

      alternatives : (a : LexerAlts) → OnlyKnown (used_names a) → (¬ LexerHasEmptyLoopAlts R a) → (w : List ℕ)
          → Decides (some_match test a w) (MatchesAlts R a w)
      alternatives LexerAlts.none k none w = never ((by_form R).none w)
      alternatives (LexerAlts.or s a) k none w =
          decides_by (swap ((by_form R).or s a w))
          (Decides-or (all_match test s w) (some_match test a w)
          (sequence s (left_known (seq_names s) (used_names a) k) (λ h. none (inl h)) w)
          (alternatives a (right_known (seq_names s) (used_names a) k) (λ h. none (inr h)) w))

    -- an alternative, non-greedy or not
    alternative : (s : LexerSeq) → OnlyKnown (seq_names s) → (¬ LexerHasEmptyLoopSeq R s) → (w : List ℕ)
        → Decides (alternative_matches test s w) (MatchesAlternative R s w)
    alternative s k none w =
        decides_by (there, back)
        (Decides-and (all_match test s w) (not (is_short s && is_cut (all_match test s) is_filled w))
        (sequence s k none w)
        (Decides-not (is_short s && is_cut (all_match test s) is_filled w)
        (Decides-and (is_short s) (is_cut (all_match test s) is_filled w) (λ is. is, λ is. is) shorter)))
      where
        filled : (v : List ℕ) → Decides (is_filled v) (v ≢ [])
        filled [] = never (λ h. h refl)
        filled (c ∷ v) = always (λ (e : c ∷ v ≡ []). cc)

        shorter : Decides (is_cut (all_match test s) is_filled w) (MatchesPrefix s w)
        shorter = decided.cut (MatchesSeq R s) (λ v. v ≢ []) (all_match test s) is_filled w (λ u v e. sequence s k none u) (λ u v e. filled v)

        ends : (¬ MatchesPrefix s w) → (u v : List ℕ) → w ≡ u ++ v → MatchesSeq R s u → v ≡ []
        ends never_so u [] e m = refl
        ends never_so u (c ∷ v) e m = absurd (never_so (u, c ∷ v, e, m, λ f. cc))

        there : MatchesSeq R s w × (¬ ((is_short s ≡ true) × MatchesPrefix s w)) → MatchesAlternative R s w
        there (m, never_so) = record { greedily = m; shortest = λ is u v e n. ends (λ it. never_so (is, it)) u v e n }

        no_more : MatchesAlternative R s w → is_short s ≡ true → MatchesPrefix s w → ⊥
        no_more it is (u, v, e, n, more) = more (it.shortest is u v e n)

        back : MatchesAlternative R s w → MatchesSeq R s w × (¬ ((is_short s ≡ true) × MatchesPrefix s w))
        back it = (it.greedily, λ both. no_more it both.0 both.1)

    pub rule_of : (a : LexerAlts) → OnlyKnown (used_names a) → (¬ LexerHasEmptyLoopAlts R a) → (w : List ℕ)
        → Decides (rule_matches test a w) (MatchesRule R a w)
    rule_of LexerAlts.none k none w = never ((rule_by_form R).none w)
    rule_of (LexerAlts.or s a) k none w =
        decides_by (swap ((rule_by_form R).or s a w))
        (Decides-or (alternative_matches test s w) (rule_matches test a w)
        (alternative s (left_known (seq_names s) (used_names a) k) (λ h. none (inl h)) w)
        (rule_of a (right_known (seq_names s) (used_names a) k) (λ h. none (inr h)) w))

  -- where the rules of a name are decided, so is whether one of these rules has it and matches
  in_rules : (test : LexerAlts → Bool) (rules : List LexerRule) (n w : List ℕ)
      → ((r : LexerRule) → Contains rules r → r.name ≡ n → Decides (test r.alts) (MatchesAlts R r.alts w)) →
      Decides (has_rule test rules n) ((r : LexerRule) × Contains rules r × (r.name ≡ n) × MatchesAlts R r.alts w)
  in_rules test [] n w each = never (λ (r, c, e, m). contains_none r c)
  in_rules test (r ∷ rules) n w each =
      decides_by (there, λ (s, c, e, m). back s e m (contains_cases r rules s c))
      (Decides-or (same_text r.name n && test r.alts) (has_rule test rules n)
      (both_where (bytes_eq-Decides r.name n) (λ e. each r (contains_first r rules r refl) e))
      (in_rules test rules n w (λ s c e. each s (contains_later r rules s c) e)))
    where
      there : ((r.name ≡ n) × MatchesAlts R r.alts w) ⊎ ((s : LexerRule) × Contains rules s × (s.name ≡ n) × MatchesAlts R s.alts w) → (s : LexerRule)
          × Contains (r ∷ rules) s × (s.name ≡ n) × MatchesAlts R s.alts w
      there (inl (e, m)) = (r, contains_first r rules r refl, e, m)
      there (inr (s, c, e, m)) = (s, contains_later r rules s c, e, m)

      back : (s : LexerRule) → s.name ≡ n → MatchesAlts R s.alts w → (r ≡ s) ⊎ Contains rules s → ((r.name ≡ n) × MatchesAlts R r.alts w)
          ⊎ ((s : LexerRule) × Contains rules s × (s.name ≡ n) × MatchesAlts R s.alts w)
      back s e m (inl same) = let P : LexerRule → Type 0 = λ x. (x.name ≡ n) × MatchesAlts R x.alts w in inl (subst P (sym same) (e, m))
      back s e m (inr later) = inr (s, later, e, m)

-- the name is one of the path
abbrev among : List ℕ → List (List ℕ) → Bool
among name [] = false
among name (n ∷ path) = same_text name n || among name path

-- how many rules aren't in the path
abbrev outside : List LexerRule → List (List ℕ) → ℕ
outside [] path = 0
outside (r ∷ rules) path = cond (among r.name path) 0 1 + outside rules path

outside_less : (rules : List LexerRule) (name : List ℕ) (path : List (List ℕ)) → outside rules (name ∷ path) ≤ outside rules path
outside_less [] name path = omega arith
outside_less (r ∷ rules) name path = pick (same_text r.name name) (among r.name path) (outside_less rules name path)
  where
    pick : (same before : Bool) → outside rules (name ∷ path) ≤ outside rules path
        → cond (same || before) 0 1 + outside rules (name ∷ path) ≤ cond before 0 1 + outside rules path
    pick true true h = omega (arith, h)
    pick true false h = omega (arith, h)
    pick false true h = omega (arith, h)
    pick false false h = omega (arith, h)

-- all rules are outside the empty path
outside_all : (rules : List LexerRule) → outside rules [] ≤ length rules
outside_all [] = omega arith
outside_all (r ∷ rules) = omega (arith, outside_all rules)

-- a rule that isn't in the path is one fewer outside once it is
outside_drop : (rules : List LexerRule) (rule : LexerRule) (path : List (List ℕ)) → Contains rules rule → among rule.name path ≡ false
    → outside rules (rule.name ∷ path) < outside rules path
outside_drop [] rule path (k, h, e) out = absurd (omega (arith, h))
outside_drop (r ∷ rules) rule path (zero, h, e) out =
    let itself : same_text r.name rule.name ≡ true = (bytes_eq-Decides r.name rule.name).1 (ap (λ (x : LexerRule). x.name) e) in
    let new : among r.name path ≡ false = ap (λ (x : LexerRule). among x.name path) e ∙ out in
    let now : ◌≡◌ {A = ℕ} (cond (same_text r.name rule.name || among r.name path) 0 1) 0 = ap (λ b. cond (b || among r.name path) 0 1) itself in
    let before : ◌≡◌ {A = ℕ} (cond (among r.name path) 0 1) 1 = ap (λ b. cond b 0 1) new in omega (arith, now, before, outside_less rules rule.name path)
outside_drop (r ∷ rules) rule path (suc k, h, e) out =
    pick (same_text r.name rule.name) (among r.name path) (outside_drop rules rule path (k, omega (arith, h), e) out)
  where
    pick : (same before : Bool) → outside rules (rule.name ∷ path) < outside rules path
        → cond (same || before) 0 1 + outside rules (rule.name ∷ path) < cond before 0 1 + outside rules path
    pick true true h = omega (arith, h)
    pick true false h = omega (arith, h)
    pick false true h = omega (arith, h)
    pick false false h = omega (arith, h)

module _ (G : WrittenGrammar) (start : ℕ) (W : IsWellFormed G start) where
  abbrev rules : List LexerRule
  rules = lexer_rules G.rules

  known : NamesAreKnown G
  known = well_formed_names G start W

  further : {a b c : List ℕ} → UsesThrough G a b → Uses G b c → UsesThrough G a c
  further (UsesThrough.directly a b u) v = UsesThrough.through a b _ u (UsesThrough.directly b _ v)
  further (UsesThrough.through a m b u more) v = UsesThrough.through a m _ u (further more v)

  -- a rule uses the name, and each rule of the path does, directly or through others
  record IsUsed (path : List (List ℕ)) (name : List ℕ) : Type 0 where
    user : List ℕ
    uses : Uses G user name
    through : (from : List ℕ) → among from path ≡ true → UsesThrough G from name

  -- such a name isn't in the path, since no rule uses itself
  is_new : (path : List (List ℕ)) (name : List ℕ) (rule : LexerRule) → IsUsed path name → Contains rules rule → rule.name ≡ name → among name path ≡ false
  is_new path name rule u c e = pick (cases_Bool (among name path))
    where
      pick : (among name path ≡ true) ⊎ (among name path ≡ false) → among name path ≡ false
      pick (inl is) =
          let (i, at) = lexer_places G rule c in
          let P : List ℕ → Type 0 = λ x. UsesThrough G x x in
          absurd (W.no_fragment_loop i (rule, at, subst P (sym e) (u.through name is)))
      pick (inr not) = not

  -- one step further along the path
  used_on : (path : List (List ℕ)) (name : List ℕ) (rule : LexerRule) → IsUsed path name → Contains rules rule → rule.name ≡ name → (n : List ℕ)
      → Contains (used_names rule.alts) n → IsUsed (name ∷ path) n
  used_on path name rule u c e n k = record { user = name; uses = uses; through = λ from is. pick from (same_text from name) refl is }
    where
      uses : Uses G name n
      uses = record { rule = rule; of_grammar = c; named = e; uses = k }

      pick : (from : List ℕ) (same : Bool) → same_text from name ≡ same → (same || among from path) ≡ true → UsesThrough G from n
      pick from true is h = let P : List ℕ → Type 0 =
          λ x. UsesThrough G x n in subst P (sym ((bytes_eq-Decides from name).0 is)) (UsesThrough.directly name n uses)
      pick from false is h = further (u.through from h) uses

  no_loop : (rule : LexerRule) → Contains rules rule → ¬ LexerHasEmptyLoopAlts rules rule.alts
  no_loop rule c h = let (i, at) = lexer_places G rule c in W.no_empty_loop i (inr (rule, at, h))

  -- a name, with so many rules outside the path
  named : (count : ℕ) (path : List (List ℕ)) (n : List ℕ) → outside rules path ≤ count → IsUsed path n → (w : List ℕ)
      → Decides (name_matches count rules n w) (Matches rules (LexerTerm.name n) w)
  named zero path n h u w =
      let (r, c, e) = known.lexer_name u.user n u.uses in
      let new : among r.name path ≡ false = ap (λ x. among x path) e ∙ is_new path n r u c e in
      absurd (omega (arith, h, outside_drop rules r path c new))
  named (suc count) path n h u w =
      decides_by (swap ((by_form rules).name n w))
      (in_rules rules (λ a. some_match (name_matches count rules) a w) rules n w (each (λ less m k v. named count (n ∷ path) m less k v)))
    where
      each : (outside rules (n ∷ path) ≤ count → (m : List ℕ) → IsUsed (n ∷ path) m → (v : List ℕ)
          → Decides (name_matches count rules m v) (Matches rules (LexerTerm.name m) v)) →
          (r : LexerRule) → Contains rules r → r.name ≡ n → Decides (some_match (name_matches count rules) r.alts w) (MatchesAlts rules r.alts w)
      each more r c e =
          let new : among r.name path ≡ false = ap (λ x. among x path) e ∙ is_new path n r u c e in
          let P : List ℕ → Type 0 = λ x. outside rules (x ∷ path) < outside rules path in
          let fewer = subst P e (outside_drop rules r path c new) in
          alternatives rules (IsUsed (n ∷ path)) (name_matches count rules) (more (omega (arith, h, fewer))) r.alts (used_on path n r u c e) (no_loop r c) w

  -- a lexer rule
  pub matching : (r : LexerRule) → Contains rules r → (w : List ℕ)
      → Decides (rule_matches (name_matches (length rules) rules) r.alts w) (MatchesRule rules r.alts w)
  matching r c w =
      rule_of rules (IsUsed []) (name_matches (length rules) rules) (λ n k v. named (length rules) [] n (outside_all rules) k v) r.alts
      (λ n k. record { user = r.name; uses = record { rule = r; of_grammar = c; named = refl; uses = k }; through = λ from is. absurd (true≢false (sym is)) })
      (no_loop r c) w
