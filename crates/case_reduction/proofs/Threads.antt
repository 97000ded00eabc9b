-- A lexer rule is matched character by character: what is left to match is a list of sequences, the threads.
use Rattle.std.proofs.Common.{◌≡◌, ℕ, Bool, true, false, ◌&&◌, ◌||◌, cond, nat_eq, List, [], ◌∷◌, ◌++◌, refl}
use Rattle.std.proofs.Common.{sym, ap, ◌∙◌, subst, append_assoc, append-nil, true≢false}
use Rattle.std.proofs.lemmas.Bool.{and_parts, and_from, eq-eqb}
use Rattle.grammar_tree.specs.Chars.{has}
use Rattle.grammar_tree.specs.Written.{LexerTerm, LexerSeq, LexerAlts, LexerRule}
use Rattle.grammar_tree.specs.Matches.{Matches, MatchesAlts, MatchesMany, MatchesSeq}
use Rattle.grammar_tree.proofs.Lent.{by_form}
use Rattle.case_reduction.proofs.Tests.{or_later}

-- no name is used
abbrev mutual
  pub nameless : LexerTerm → Bool
  nameless (LexerTerm.literal t) = true
  nameless (LexerTerm.set s) = true
  nameless (LexerTerm.name n) = false
  nameless (LexerTerm.block a) = nameless_alts a
  nameless (LexerTerm.opt t) = nameless t
  nameless (LexerTerm.star t) = nameless t
  nameless (LexerTerm.plus t) = nameless t
  nameless (LexerTerm.short s) = true

  pub nameless_seq : LexerSeq → Bool
  nameless_seq LexerSeq.done = true
  nameless_seq (LexerSeq.next t s) = nameless t && nameless_seq s

  pub nameless_alts : LexerAlts → Bool
  nameless_alts LexerAlts.none = true
  nameless_alts (LexerAlts.or s a) = nameless_seq s && nameless_alts a

-- the empty text is matched
abbrev mutual
  pub empty : LexerTerm → Bool
  empty (LexerTerm.literal []) = true
  empty (LexerTerm.literal (c ∷ t)) = false
  empty (LexerTerm.set s) = false
  empty (LexerTerm.name n) = false
  empty (LexerTerm.block a) = empty_alts a
  empty (LexerTerm.opt t) = true
  empty (LexerTerm.star t) = true
  empty (LexerTerm.plus t) = empty t
  empty (LexerTerm.short s) = true

  pub empty_seq : LexerSeq → Bool
  empty_seq LexerSeq.done = true
  empty_seq (LexerSeq.next t s) = empty t && empty_seq s

  pub empty_alts : LexerAlts → Bool
  empty_alts LexerAlts.none = false
  empty_alts (LexerAlts.or s a) = empty_seq s || empty_alts a

-- one sequence after another
abbrev pub joined : LexerSeq → LexerSeq → LexerSeq
joined LexerSeq.done k = k
joined (LexerSeq.next t s) k = LexerSeq.next t (joined s k)

-- what is left to match after a character, and then a sequence
abbrev mutual
  pub after : ℕ → LexerTerm → LexerSeq → List LexerSeq
  after c (LexerTerm.literal []) k = []
  after c (LexerTerm.literal (d ∷ t)) k = cond (nat_eq c d) (LexerSeq.next (LexerTerm.literal t) k ∷ []) []
  after c (LexerTerm.set s) k = cond (has s c) (k ∷ []) []
  after c (LexerTerm.name n) k = []
  after c (LexerTerm.block a) k = after_alts c a k
  after c (LexerTerm.opt t) k = after c t k
  after c (LexerTerm.star t) k = after c t (LexerSeq.next (LexerTerm.star t) k)
  after c (LexerTerm.plus t) k = after c t (LexerSeq.next (LexerTerm.star t) k)
  after c (LexerTerm.short s) k = cond (has s c) (LexerSeq.next (LexerTerm.short s) k ∷ []) []

  pub after_seq : ℕ → LexerSeq → LexerSeq → List LexerSeq
  after_seq c LexerSeq.done k = []
  after_seq c (LexerSeq.next t s) k = after c t (joined s k) ++ cond (empty t) (after_seq c s k) []

  pub after_alts : ℕ → LexerAlts → LexerSeq → List LexerSeq
  after_alts c LexerAlts.none k = []
  after_alts c (LexerAlts.or s a) k = after_seq c s k ++ after_alts c a k

-- no thread uses a name
abbrev pub all_nameless : List LexerSeq → Bool
all_nameless [] = true
all_nameless (k ∷ ks) = nameless_seq k && all_nameless ks

both_nameless : (ks others : List LexerSeq) → all_nameless ks ≡ true → all_nameless others ≡ true → all_nameless (ks ++ others) ≡ true
both_nameless [] others p q = q
both_nameless (k ∷ ks) others p q =
    let (one, other) =
    and_parts (nameless_seq k) (all_nameless ks) p in and_from (nameless_seq k) (all_nameless (ks ++ others)) one (both_nameless ks others other q)

choice_nameless : (b : Bool) (k : LexerSeq) → nameless_seq k ≡ true → all_nameless (cond b (k ∷ []) []) ≡ true
choice_nameless true k p = and_from (nameless_seq k) true p refl
choice_nameless false k p = refl

some_nameless : (b : Bool) (ks : List LexerSeq) → all_nameless ks ≡ true → all_nameless (cond b ks []) ≡ true
some_nameless true ks p = p
some_nameless false ks p = refl

joined_nameless : (s k : LexerSeq) → nameless_seq s ≡ true → nameless_seq k ≡ true → nameless_seq (joined s k) ≡ true
joined_nameless LexerSeq.done k p q = q
joined_nameless (LexerSeq.next t s) k p q =
    let (one, other) = and_parts (nameless t) (nameless_seq s) p in and_from (nameless t) (nameless_seq (joined s k)) one (joined_nameless s k other q)

mutual
  after_nameless : (c : ℕ) (t : LexerTerm) (k : LexerSeq) → nameless t ≡ true → nameless_seq k ≡ true → all_nameless (after c t k) ≡ true
  after_nameless c (LexerTerm.literal []) k p q = refl
  after_nameless c (LexerTerm.literal (d ∷ t)) k p q = choice_nameless (nat_eq c d) (LexerSeq.next (LexerTerm.literal t) k) q
  after_nameless c (LexerTerm.set s) k p q = choice_nameless (has s c) k q
  after_nameless c (LexerTerm.name n) k p q = refl
  after_nameless c (LexerTerm.block a) k p q = after_alts_nameless c a k p q
  after_nameless c (LexerTerm.opt t) k p q = after_nameless c t k p q
  after_nameless c (LexerTerm.star t) k p q = after_nameless c t (LexerSeq.next (LexerTerm.star t) k) p (and_from (nameless t) (nameless_seq k) p q)
  after_nameless c (LexerTerm.plus t) k p q = after_nameless c t (LexerSeq.next (LexerTerm.star t) k) p (and_from (nameless t) (nameless_seq k) p q)
  after_nameless c (LexerTerm.short s) k p q = choice_nameless (has s c) (LexerSeq.next (LexerTerm.short s) k) q

  pub after_seq_nameless : (c : ℕ) (s k : LexerSeq) → nameless_seq s ≡ true → nameless_seq k ≡ true → all_nameless (after_seq c s k) ≡ true
  after_seq_nameless c LexerSeq.done k p q = refl
  after_seq_nameless c (LexerSeq.next t s) k p q =
      let (one, other) = and_parts (nameless t) (nameless_seq s) p in
      both_nameless (after c t (joined s k)) (cond (empty t) (after_seq c s k) []) (after_nameless c t (joined s k) one (joined_nameless s k other q))
      (some_nameless (empty t) (after_seq c s k) (after_seq_nameless c s k other q))

  after_alts_nameless : (c : ℕ) (a : LexerAlts) (k : LexerSeq) → nameless_alts a ≡ true → nameless_seq k ≡ true → all_nameless (after_alts c a k) ≡ true
  after_alts_nameless c LexerAlts.none k p q = refl
  after_alts_nameless c (LexerAlts.or s a) k p q =
      let (one, other) = and_parts (nameless_seq s) (nameless_alts a) p in
      both_nameless (after_seq c s k) (after_alts c a k) (after_seq_nameless c s k one q) (after_alts_nameless c a k other q)

-- the threads after one more character, and after more of them
abbrev pub moved : ℕ → List LexerSeq → List LexerSeq
moved c [] = []
moved c (k ∷ ks) = after_seq c k LexerSeq.done ++ moved c ks

abbrev pub run : List LexerSeq → List ℕ → List LexerSeq
run ks [] = ks
run ks (c ∷ cs) = run (moved c ks) cs

-- one of the threads matches the empty text
abbrev pub accepts : List LexerSeq → Bool
accepts [] = false
accepts (k ∷ ks) = empty_seq k || accepts ks

moved_nameless : (c : ℕ) (ks : List LexerSeq) → all_nameless ks ≡ true → all_nameless (moved c ks) ≡ true
moved_nameless c [] p = refl
moved_nameless c (k ∷ ks) p =
    let (one, other) = and_parts (nameless_seq k) (all_nameless ks) p in
    both_nameless (after_seq c k LexerSeq.done) (moved c ks) (after_seq_nameless c k LexerSeq.done one refl) (moved_nameless c ks other)

pub run_nameless : (ks : List LexerSeq) (w : List ℕ) → all_nameless ks ≡ true → all_nameless (run ks w) ≡ true
run_nameless ks [] p = p
run_nameless ks (c ∷ w) p = run_nameless (moved c ks) w (moved_nameless c ks p)

module _ (R : List LexerRule) where
  -- one of the threads matches the text
  pub data Any : List LexerSeq → List ℕ → Type 0 where
    here : (k : LexerSeq) (ks : List LexerSeq) (w : List ℕ) → MatchesSeq R k w → Any (k ∷ ks) w
    there : (k : LexerSeq) (ks : List LexerSeq) (w : List ℕ) → Any ks w → Any (k ∷ ks) w

  pub left_any : (ks others : List LexerSeq) (w : List ℕ) → Any ks w → Any (ks ++ others) w
  left_any [] others w a = elim a [ ]
  left_any (k ∷ ks) others w (Any.here _ _ _ m) = Any.here k (ks ++ others) w m
  left_any (k ∷ ks) others w (Any.there _ _ _ a) = Any.there k (ks ++ others) w (left_any ks others w a)

  pub right_any : (ks others : List LexerSeq) (w : List ℕ) → Any others w → Any (ks ++ others) w
  right_any [] others w a = a
  right_any (k ∷ ks) others w a = Any.there k (ks ++ others) w (right_any ks others w a)

  -- what is chosen by a test
  chosen : (b : Bool) (k : LexerSeq) (w : List ℕ) → b ≡ true → MatchesSeq R k w → Any (cond b (k ∷ []) []) w
  chosen true k w e m = Any.here k [] w m
  chosen false k w e m = absurd (true≢false (sym e))

  pub joined_match : (s k : LexerSeq) (u v : List ℕ) → MatchesSeq R s u → MatchesSeq R k v → MatchesSeq R (joined s k) (u ++ v)
  joined_match _ k _ v MatchesSeq.by_done n = n
  joined_match _ k _ v (MatchesSeq.by_next t s u1 u2 m ms) n =
      let P : List ℕ → Type 0 = λ x. MatchesSeq R (LexerSeq.next t (joined s k)) x in
      subst P (sym (append_assoc u1 u2 v)) (MatchesSeq.by_next t (joined s k) u1 (u2 ++ v) m (joined_match s k u2 v ms n))

  -- the empty text
  mutual
    pub empty_found : (t : LexerTerm) (u : List ℕ) → Matches R t u → nameless t ≡ true → u ≡ [] → empty t ≡ true
    empty_found _ _ (Matches.by_literal []) p e = refl
    empty_found _ _ (Matches.by_literal (c ∷ t)) p e = cc e
    empty_found _ _ (Matches.by_set s c h) p e = cc e
    empty_found _ _ (Matches.by_name n rule w c i m) p e = absurd (true≢false (sym p))
    empty_found _ _ (Matches.by_block a w m) p e = empty_found_alts a w m p e
    empty_found _ _ (Matches.by_absent t) p e = refl
    empty_found _ _ (Matches.by_present t w m) p e = refl
    empty_found _ _ (Matches.by_star t w m) p e = refl
    empty_found _ _ (Matches.by_plus t [] v m n) p e = empty_found t [] m p refl
    empty_found _ _ (Matches.by_plus t (c ∷ u) v m n) p e = cc e
    empty_found _ _ (Matches.by_short s w m) p e = refl

    pub empty_found_seq : (s : LexerSeq) (u : List ℕ) → MatchesSeq R s u → nameless_seq s ≡ true → u ≡ [] → empty_seq s ≡ true
    empty_found_seq _ _ MatchesSeq.by_done p e = refl
    empty_found_seq _ _ (MatchesSeq.by_next t s [] v m ms) p e =
        let (one, other) =
        and_parts (nameless t) (nameless_seq s) p in and_from (empty t) (empty_seq s) (empty_found t [] m one refl) (empty_found_seq s v ms other e)
    empty_found_seq _ _ (MatchesSeq.by_next t s (c ∷ u) v m ms) p e = cc e

    empty_found_alts : (a : LexerAlts) (u : List ℕ) → MatchesAlts R a u → nameless_alts a ≡ true → u ≡ [] → empty_alts a ≡ true
    empty_found_alts _ _ (MatchesAlts.by_first s a w m) p e =
        let (one, other) = and_parts (nameless_seq s) (nameless_alts a) p in ap (λ b. b || empty_alts a) (empty_found_seq s w m one e)
    empty_found_alts _ _ (MatchesAlts.by_later s a w m) p e =
        let (one, other) = and_parts (nameless_seq s) (nameless_alts a) p in or_later (empty_seq s) (empty_alts a) (empty_found_alts a w m other e)

  -- a character further
  mutual
    pub stepped : (t : LexerTerm) (k : LexerSeq) (u : List ℕ) (c : ℕ) (w v : List ℕ) → Matches R t u → nameless t ≡ true → u ≡ c ∷ w → MatchesSeq R k v
        → Any (after c t k) (w ++ v)
    stepped _ k _ c w v (Matches.by_literal []) p e n = cc e
    stepped _ k _ c w v (Matches.by_literal (d ∷ t)) p e n =
        let same : d ≡ c = cc in
        let rest : t ≡ w = cc in
        let P : List ℕ → Type 0 = λ x. MatchesSeq R (LexerSeq.next (LexerTerm.literal t) k) (x ++ v) in
        chosen (nat_eq c d) (LexerSeq.next (LexerTerm.literal t) k) (w ++ v) (eq-eqb c d (sym same))
        (subst P rest (MatchesSeq.by_next (LexerTerm.literal t) k t v (Matches.by_literal t) n))
    stepped _ k _ c w v (Matches.by_set s d h) p e n =
        let same : d ≡ c = cc in
        let rest : [] ≡ w = cc in
        let P : List ℕ → Type 0 = λ x. MatchesSeq R k (x ++ v) in
        chosen (has s c) k (w ++ v) (ap (has s) (sym same) ∙ h) (subst P rest n)
    stepped _ k _ c w v (Matches.by_name m rule u o i x) p e n = absurd (true≢false (sym p))
    stepped _ k _ c w v (Matches.by_block a u m) p e n = stepped_alts a k u c w v m p e n
    stepped _ k _ c w v (Matches.by_absent t) p e n = cc e
    stepped _ k _ c w v (Matches.by_present t u m) p e n = stepped t k u c w v m p e n
    stepped _ k _ c w v (Matches.by_star t u m) p e n = stepped_many t k u c w v m p e n
    stepped _ k _ c w v (Matches.by_plus t [] u2 m ms) p e n = stepped_many t k u2 c w v ms p e n
    stepped _ k _ c w v (Matches.by_plus t (d ∷ u1) u2 m ms) p e n =
        let same : d ≡ c = cc in
        let rest : u1 ++ u2 ≡ w = cc in
        let P : List ℕ → Type 0 = λ x. Any (after c t (LexerSeq.next (LexerTerm.star t) k)) x in
        subst P (sym (append_assoc u1 u2 v) ∙ ap (λ x. x ++ v) rest)
        (stepped t (LexerSeq.next (LexerTerm.star t) k) (d ∷ u1) c u1 (u2 ++ v) m p (ap (λ x. x ∷ u1) same)
        (MatchesSeq.by_next (LexerTerm.star t) k u2 v (Matches.by_star t u2 ms) n))
    stepped _ k _ c w v (Matches.by_short s u m) p e n = stepped_short s k u c w v m e n

    stepped_many : (t : LexerTerm) (k : LexerSeq) (u : List ℕ) (c : ℕ) (w v : List ℕ) → MatchesMany R t u → nameless t ≡ true → u ≡ c ∷ w → MatchesSeq R k v
        → Any (after c t (LexerSeq.next (LexerTerm.star t) k)) (w ++ v)
    stepped_many _ k _ c w v (MatchesMany.by_end t) p e n = cc e
    stepped_many _ k _ c w v (MatchesMany.by_more t [] u2 m ms) p e n = stepped_many t k u2 c w v ms p e n
    stepped_many _ k _ c w v (MatchesMany.by_more t (d ∷ u1) u2 m ms) p e n =
        let same : d ≡ c = cc in
        let rest : u1 ++ u2 ≡ w = cc in
        let P : List ℕ → Type 0 = λ x. Any (after c t (LexerSeq.next (LexerTerm.star t) k)) x in
        subst P (sym (append_assoc u1 u2 v) ∙ ap (λ x. x ++ v) rest)
        (stepped t (LexerSeq.next (LexerTerm.star t) k) (d ∷ u1) c u1 (u2 ++ v) m p
        (ap (λ x. x ∷ u1) same) (MatchesSeq.by_next (LexerTerm.star t) k u2 v (Matches.by_star t u2 ms) n))

    stepped_short : (s : List (ℕ × ℕ)) (k : LexerSeq) (u : List ℕ) (c : ℕ) (w v : List ℕ) → MatchesMany R (LexerTerm.set s) u → u ≡ c ∷ w → MatchesSeq R k v
        → Any (after c (LexerTerm.short s) k) (w ++ v)
    stepped_short s k _ c w v (MatchesMany.by_end _) e n = cc e
    stepped_short s k _ c w v (MatchesMany.by_more _ u1 u2 m ms) e n =
        let (d, is, h) = ((by_form R).set s u1).0 m in
        let whole : d ∷ u2 ≡ c ∷ w = ap (λ x. x ++ u2) (sym is) ∙ e in
        let same : d ≡ c = cc in
        let rest : u2 ≡ w = cc in
        let P : List ℕ → Type 0 = λ x. MatchesSeq R (LexerSeq.next (LexerTerm.short s) k) (x ++ v) in
        chosen (has s c) (LexerSeq.next (LexerTerm.short s) k) (w ++ v) (ap (has s) (sym same) ∙ h)
        (subst P rest (MatchesSeq.by_next (LexerTerm.short s) k u2 v (Matches.by_short s u2 ms) n))

    pub stepped_seq : (s k : LexerSeq) (u : List ℕ) (c : ℕ) (w v : List ℕ) → MatchesSeq R s u → nameless_seq s ≡ true → u ≡ c ∷ w → MatchesSeq R k v
        → Any (after_seq c s k) (w ++ v)
    stepped_seq _ k _ c w v MatchesSeq.by_done p e n = cc e
    stepped_seq _ k _ c w v (MatchesSeq.by_next t s [] u2 m ms) p e n =
        let (one, other) = and_parts (nameless t) (nameless_seq s) p in
        let later : Any (after_seq c s k) (w ++ v) = stepped_seq s k u2 c w v ms other e n in
        let P : Bool → Type 0 = λ b. Any (after c t (joined s k) ++ cond b (after_seq c s k) []) (w ++ v) in
        subst P (sym (empty_found t [] m one refl)) (right_any (after c t (joined s k)) (after_seq c s k) (w ++ v) later)
    stepped_seq _ k _ c w v (MatchesSeq.by_next t s (d ∷ u1) u2 m ms) p e n =
        let (one, other) = and_parts (nameless t) (nameless_seq s) p in
        let same : d ≡ c = cc in
        let rest : u1 ++ u2 ≡ w = cc in
        let P : List ℕ → Type 0 = λ x. Any (after c t (joined s k)) x in
        left_any (after c t (joined s k)) (cond (empty t) (after_seq c s k) []) (w ++ v)
        (subst P (sym (append_assoc u1 u2 v) ∙ ap (λ x. x ++ v) rest)
        (stepped t (joined s k) (d ∷ u1) c u1 (u2 ++ v) m one (ap (λ x. x ∷ u1) same) (joined_match s k u2 v ms n)))

    stepped_alts : (a : LexerAlts) (k : LexerSeq) (u : List ℕ) (c : ℕ) (w v : List ℕ) → MatchesAlts R a u → nameless_alts a ≡ true → u ≡ c ∷ w
        → MatchesSeq R k v → Any (after_alts c a k) (w ++ v)
    stepped_alts _ k _ c w v (MatchesAlts.by_first s a u m) p e n =
        let (one, other) =
        and_parts (nameless_seq s) (nameless_alts a) p in left_any (after_seq c s k) (after_alts c a k) (w ++ v) (stepped_seq s k u c w v m one e n)
    stepped_alts _ k _ c w v (MatchesAlts.by_later s a u m) p e n =
        let (one, other) =
        and_parts (nameless_seq s) (nameless_alts a) p in right_any (after_seq c s k) (after_alts c a k) (w ++ v) (stepped_alts a k u c w v m other e n)

  -- what a thread matches is matched by a thread after its first character, and so on
  pub any_moved : (ks : List LexerSeq) (c : ℕ) (w : List ℕ) → all_nameless ks ≡ true → Any ks (c ∷ w) → Any (moved c ks) w
  any_moved [] c w p a = elim a [ ]
  any_moved (k ∷ ks) c w p (Any.here _ _ _ m) =
      let (one, other) = and_parts (nameless_seq k) (all_nameless ks) p in
      let P : List ℕ → Type 0 = λ x. Any (after_seq c k LexerSeq.done) x in
      left_any (after_seq c k LexerSeq.done) (moved c ks) w (subst P (append-nil w) (stepped_seq k LexerSeq.done (c ∷ w) c w [] m one refl MatchesSeq.by_done))
  any_moved (k ∷ ks) c w p (Any.there _ _ _ a) =
      let (one, other) = and_parts (nameless_seq k) (all_nameless ks) p in
      right_any (after_seq c k LexerSeq.done) (moved c ks) w (any_moved ks c w other a)

  pub any_run : (ks : List LexerSeq) (u w : List ℕ) → all_nameless ks ≡ true → Any ks (u ++ w) → Any (run ks u) w
  any_run ks [] w p a = a
  any_run ks (c ∷ u) w p a = any_run (moved c ks) u w (moved_nameless c ks p) (any_moved ks c (u ++ w) p a)

  pub any_accepts : (ks : List LexerSeq) → all_nameless ks ≡ true → Any ks [] → accepts ks ≡ true
  any_accepts [] p a = elim a [ ]
  any_accepts (k ∷ ks) p (Any.here _ _ _ m) =
      let (one, other) = and_parts (nameless_seq k) (all_nameless ks) p in ap (λ b. b || accepts ks) (empty_found_seq k [] m one refl)
  any_accepts (k ∷ ks) p (Any.there _ _ _ a) =
      let (one, other) = and_parts (nameless_seq k) (all_nameless ks) p in or_later (empty_seq k) (accepts ks) (any_accepts ks other a)
