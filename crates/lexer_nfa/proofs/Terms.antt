-- Each form of term, when its states are added: what can be added, and what its states read.
use Rattle.std.proofs.Common.{◌≡◌, ◌<◌, ◌≤◌, ◌⊎◌, inl, inr, ◌↔◌, ℕ, zero, suc, map, take, drop, List, [], ◌∷◌}
use Rattle.std.proofs.Common.{◌++◌, slice_index_or, length, refl, sym, ap, ◌∙◌, subst, arith}
use Rattle.grammar_tree.specs.Written.{LexerTerm, LexerSeq, LexerAlts, LexerRule, WrittenRule, lexer_seq, lexer_alts}
use Rattle.grammar_tree.specs.Faults.{LexerHasEmptyLoop, LexerHasEmptyLoopSeq, LexerHasEmptyLoopAlts}
use Rattle.grammar_tree.specs.Matches.{Matches, MatchesSeq, MatchesAlts}
use Rattle.grammar_tree.specs.Laws.{CutsInto}
use Rattle.grammar_tree.specs.Size.{lexer_alts_size, lexer_seq_size, lexer_term_size}
use Rattle.grammar_tree.specs.View.{lex_term, lex_terms, lex_alts, lex_node, lex_seq_node, lex_alts_node}
use Rattle.grammar_tree.specs.declared.lex_term.LexAlts.{LexAlts, out-LexAlts, fold_out-LexAlts}
use Rattle.grammar_tree.specs.declared.lex_term.LexTerms.{LexTerms, out-LexTerms, fold_out-LexTerms}
use Rattle.grammar_tree.specs.declared.lex_term.LexTerm.{LexTerm}
use Rattle.grammar_tree.proofs.Lent as forms
use Rattle.lexer_match.specs.declared.nfa.State.{State}
use Rattle.lexer_match.specs.Nfa.{IsClosed}
use Rattle.lexer_nfa.specs.inner.Compile.{IsAdded}
use Rattle.lexer_nfa.proofs.Added.{added_as, added_nothing, added_never, added_opt, added_or, added_then}
use Rattle.lexer_nfa.proofs.Compiled.{added_to}

pub alts_out : (a : LexAlts) → lex_alts a ≡ map lex_terms (out-LexAlts a).items.items
alts_out a = fold_out-LexAlts LexerTerm (List (List LexerTerm)) (List LexerTerm) lex_node lex_alts_node lex_seq_node a

pub terms_out : (s : LexTerms) → lex_terms s ≡ map lex_term (out-LexTerms s).items.items
terms_out s = fold_out-LexTerms LexerTerm (List (List LexerTerm)) (List LexerTerm) lex_node lex_alts_node lex_seq_node s

module _ (G : List LexerRule) where
  -- a term without a loop over what matches the empty text, by its form
  pub star_no_loop : (t u : LexerTerm) → t ≡ LexerTerm.star u → ¬ LexerHasEmptyLoop G t → (¬ Matches G u []) × (¬ LexerHasEmptyLoop G u)
  star_no_loop t u e h = let P : LexerTerm → Type 0 = λ x. ¬ LexerHasEmptyLoop G x in let none = subst P e h in (λ m. none (inl m), λ l. none (inr l))

  pub plus_no_loop : (t u : LexerTerm) → t ≡ LexerTerm.plus u → ¬ LexerHasEmptyLoop G t → (¬ Matches G u []) × (¬ LexerHasEmptyLoop G u)
  plus_no_loop t u e h = let P : LexerTerm → Type 0 = λ x. ¬ LexerHasEmptyLoop G x in let none = subst P e h in (λ m. none (inl m), λ l. none (inr l))

  pub opt_no_loop : (t u : LexerTerm) → t ≡ LexerTerm.opt u → ¬ LexerHasEmptyLoop G t → ¬ LexerHasEmptyLoop G u
  opt_no_loop t u e h = let P : LexerTerm → Type 0 = λ x. ¬ LexerHasEmptyLoop G x in subst P e h

  pub block_no_loop : (t : LexerTerm) (a : LexerAlts) → t ≡ LexerTerm.block a → ¬ LexerHasEmptyLoop G t → ¬ LexerHasEmptyLoopAlts G a
  block_no_loop t a e h = let P : LexerTerm → Type 0 = λ x. ¬ LexerHasEmptyLoop G x in subst P e h

  pub term_no_loop : (t u : LexerTerm) → t ≡ u → ¬ LexerHasEmptyLoop G t → ¬ LexerHasEmptyLoop G u
  term_no_loop t u e h = let P : LexerTerm → Type 0 = λ x. ¬ LexerHasEmptyLoop G x in subst P e h

  pub as_term : {R : List WrittenRule} (t u : LexerTerm) (old new : List State) (entry next : ℕ) → t ≡ u → IsAdded R (Matches G u) old new entry next
      → IsAdded R (Matches G t) old new entry next
  as_term {R} t u old new entry next e a = let P : LexerTerm → Type 0 = λ x. IsAdded R (Matches G x) old new entry next in subst P (sym e) a

  pub literal_term : {R : List WrittenRule} (t : LexerTerm) (text cs : List ℕ) (old new : List State) (entry next : ℕ) → t ≡ LexerTerm.literal text → cs ≡ text
      → IsAdded R (λ w. w ≡ cs) old new entry next → IsAdded R (Matches G t) old new entry next
  literal_term {R} t text cs old new entry next e same a =
      as_term t (LexerTerm.literal text) old new entry next e
      (added_as (λ w. w ≡ cs) (Matches G (LexerTerm.literal text)) old new entry next
      (λ w. let m = (forms.by_form G).literal text w in (λ h. m.1 (h ∙ same), λ h. m.0 h ∙ sym same)) a)

  pub block_term : {R : List WrittenRule} (t : LexerTerm) (alts : LexerAlts) (old new : List State) (entry next : ℕ) → t ≡ LexerTerm.block alts
      → IsAdded R (MatchesAlts G alts) old new entry next → IsAdded R (Matches G t) old new entry next
  block_term {R} t alts old new entry next e a =
      as_term t (LexerTerm.block alts) old new entry next e
      (added_as (MatchesAlts G alts) (Matches G (LexerTerm.block alts)) old new entry next
      (λ w. let same = (forms.by_form G).block alts w in (same.1, same.0)) a)

  pub opt_term : {R : List WrittenRule} (t u v : LexerTerm) (old mid new : List State) (present entry next : ℕ) → t ≡ LexerTerm.opt u → v ≡ u → IsClosed old
      → next < length old → IsAdded R (Matches G v) old mid present next →
      new ≡ mid ++ State.Split present next ∷ [] → entry ≡ length mid → IsAdded R (Matches G t) old new entry next
  opt_term {R} t u v old mid new present entry next e same closed h a made n =
      as_term t (LexerTerm.opt u) old new entry next e
      (added_to (Matches G (LexerTerm.opt u)) old (mid ++ State.Split present next ∷ []) new (length mid) entry next made n
      (added_opt G u old mid present next closed h (as_term u v old mid present next (sym same) a)))

  -- nothing of the sequence is there yet
  pub seq_none : {R : List WrittenRule} (xs : List LexTerm) (i : ℕ) (old : List State) (next : ℕ) → i ≡ length xs → IsClosed old → next < length old
      → IsAdded R (MatchesSeq G (lexer_seq (map lex_term (drop i xs)))) old old next next
  seq_none {R} [] zero old next e closed h =
      added_as (λ w. w ≡ []) (MatchesSeq G LexerSeq.done) old old next next (λ w. let same = (forms.by_form G).done w in (same.1, same.0))
      (added_nothing old next closed h)
  seq_none {R} [] (suc i) old next e closed h = absurd (omega (arith, e))
  seq_none {R} (x ∷ xs) zero old next e closed h = absurd (omega (arith, e))
  seq_none {R} (x ∷ xs) (suc i) old next e closed h = seq_none xs i old next (omega (arith, e)) closed h

  pub drop_at : (xs : List LexTerm) (i : ℕ) (x : LexTerm) → i < length xs → slice_index_or xs i x ≡ x → drop i xs ≡ x ∷ drop (suc i) xs
  drop_at [] i x h e = absurd (omega (arith, h))
  drop_at (y ∷ xs) zero x h e = ap (λ z. z ∷ xs) e
  drop_at (y ∷ xs) (suc i) x h e = drop_at xs i x (omega arith) e

  -- one term more, in front of those that were added
  pub seq_more : {R : List WrittenRule} (xs : List LexTerm) (i : ℕ) (x : LexTerm) (old mid new : List State) (entry between next : ℕ) → i < length xs
      → slice_index_or xs i x ≡ x →
      IsAdded R (MatchesSeq G (lexer_seq (map lex_term (drop (suc i) xs)))) old mid between next → IsAdded R (Matches G (lex_term x)) mid new entry between →
      IsAdded R (MatchesSeq G (lexer_seq (map lex_term (drop i xs)))) old new entry next
  seq_more {R} xs i x old mid new entry between next h e b a =
      let rest = lexer_seq (map lex_term (drop (suc i) xs)) in
      let P : List LexTerm → Type 0 = λ l. IsAdded R (MatchesSeq G (lexer_seq (map lex_term l))) old new entry next in
      subst P (sym (drop_at xs i x h e))
      (added_as (CutsInto (Matches G (lex_term x)) (MatchesSeq G rest)) (MatchesSeq G (LexerSeq.next (lex_term x) rest)) old new entry next
      (λ w. let same = (forms.by_form G).next (lex_term x) rest w in (same.1, same.0))
      (added_then (Matches G (lex_term x)) (MatchesSeq G rest) old mid new entry between next b a))

  seq_loop : (ts : List LexerTerm) (i : ℕ) (t : LexerTerm) → i < length ts → slice_index_or ts i t ≡ t → LexerHasEmptyLoop G t
      → LexerHasEmptyLoopSeq G (lexer_seq ts)
  seq_loop [] i t h e l = absurd (omega (arith, h))
  seq_loop (u ∷ ts) zero t h e l = let P : LexerTerm → Type 0 = λ x. LexerHasEmptyLoop G x in inl (subst P (sym e) l)
  seq_loop (u ∷ ts) (suc i) t h e l = inr (seq_loop ts i t (omega arith) e l)

  alts_loop : (ss : List (List LexerTerm)) (i : ℕ) (s : List LexerTerm) → i < length ss → slice_index_or ss i s ≡ s → LexerHasEmptyLoopSeq G (lexer_seq s)
      → LexerHasEmptyLoopAlts G (lexer_alts ss)
  alts_loop [] i s h e l = absurd (omega (arith, h))
  alts_loop (u ∷ ss) zero s h e l = let P : List LexerTerm → Type 0 = λ x. LexerHasEmptyLoopSeq G (lexer_seq x) in inl (subst P (sym e) l)
  alts_loop (u ∷ ss) (suc i) s h e l = inr (alts_loop ss i s (omega arith) e l)

  -- no alternative is there yet
  pub alts_none : {R : List WrittenRule} (old new : List State) (entry next : ℕ) → IsClosed old → next < length old → new ≡ old ++ State.Never ∷ []
      → entry ≡ length old → IsAdded R (MatchesAlts G LexerAlts.none) old new entry next
  alts_none {R} old new entry next closed h e n =
      added_to (MatchesAlts G LexerAlts.none) old (old ++ State.Never ∷ []) new (length old) entry next e n
      (added_never (MatchesAlts G LexerAlts.none) old next (forms.by_form G).none closed (omega (arith, h)))

  -- alternatives with one more after them
  alts_snoc : (ss : List (List LexerTerm)) (s : List LexerTerm) (w : List ℕ) → MatchesAlts G (lexer_alts (ss ++ s ∷ [])) w
      ↔ (MatchesAlts G (lexer_alts ss) w ⊎ MatchesSeq G (lexer_seq s) w)
  alts_snoc [] s w =
      let same = (forms.by_form G).or (lexer_seq s) LexerAlts.none w in
      (λ m. flip (same.0 m), λ m. same.1 (back m))
    where
      flip : MatchesSeq G (lexer_seq s) w ⊎ MatchesAlts G LexerAlts.none w → MatchesAlts G LexerAlts.none w ⊎ MatchesSeq G (lexer_seq s) w
      flip (inl m) = inr m
      flip (inr m) = inl m

      back : MatchesAlts G LexerAlts.none w ⊎ MatchesSeq G (lexer_seq s) w → MatchesSeq G (lexer_seq s) w ⊎ MatchesAlts G LexerAlts.none w
      back (inl m) = inr m
      back (inr m) = inl m
  alts_snoc (u ∷ ss) s w =
      let more = alts_snoc ss s w in
      let whole = (forms.by_form G).or (lexer_seq u) (lexer_alts (ss ++ s ∷ [])) w in
      let part = (forms.by_form G).or (lexer_seq u) (lexer_alts ss) w in
      (λ m. to more.0 part.1 (whole.0 m), λ m. whole.1 (from more.1 part.0 m))
    where
      A : Type 0
      A = MatchesAlts G (lexer_alts (ss ++ s ∷ [])) w

      to : (MatchesAlts G (lexer_alts (ss ++ s ∷ [])) w → MatchesAlts G (lexer_alts ss) w ⊎ MatchesSeq G (lexer_seq s) w)
          → (MatchesSeq G (lexer_seq u) w ⊎ MatchesAlts G (lexer_alts ss) w → MatchesAlts G (lexer_alts (u ∷ ss)) w) →
          MatchesSeq G (lexer_seq u) w ⊎ MatchesAlts G (lexer_alts (ss ++ s ∷ [])) w → MatchesAlts G (lexer_alts (u ∷ ss)) w ⊎ MatchesSeq G (lexer_seq s) w
      to f g (inl m) = inl (g (inl m))
      to f g (inr m) = elim (f m) [ inl k ↦ inl (g (inr k)) | inr k ↦ inr k ]

      from : (MatchesAlts G (lexer_alts ss) w ⊎ MatchesSeq G (lexer_seq s) w → MatchesAlts G (lexer_alts (ss ++ s ∷ [])) w)
          → (MatchesAlts G (lexer_alts (u ∷ ss)) w → MatchesSeq G (lexer_seq u) w ⊎ MatchesAlts G (lexer_alts ss) w) →
          MatchesAlts G (lexer_alts (u ∷ ss)) w ⊎ MatchesSeq G (lexer_seq s) w → MatchesSeq G (lexer_seq u) w ⊎ MatchesAlts G (lexer_alts (ss ++ s ∷ [])) w
      from f g (inr m) = inr (f (inr m))
      from f g (inl m) = elim (g m) [ inl k ↦ inl k | inr k ↦ inr (f (inl k)) ]

  pub take_at : (xs : List LexTerms) (i : ℕ) (x : LexTerms) → i < length xs → slice_index_or xs i x ≡ x
      → map lex_terms (take (suc i) xs) ≡ map lex_terms (take i xs) ++ lex_terms x ∷ []
  take_at [] i x h e = absurd (omega (arith, h))
  take_at (y ∷ xs) zero x h e = ap (λ z. lex_terms z ∷ []) e
  take_at (y ∷ xs) (suc i) x h e = ap (λ l. lex_terms y ∷ l) (take_at xs i x (omega arith) e)

  -- one alternative more, after those that were added
  pub alts_more : {R : List WrittenRule} (xs : List LexTerms) (i : ℕ) (x : LexTerms) (old mid last new : List State) (first entry number next : ℕ)
      → i < length xs → slice_index_or xs i x ≡ x → 0 < length old →
      IsAdded R (MatchesAlts G (lexer_alts (map lex_terms (take i xs)))) old mid entry next
      → IsAdded R (MatchesSeq G (lexer_seq (lex_terms x))) mid last first next →
      new ≡ last ++ State.Split first entry ∷ [] → number ≡ length last →
      IsAdded R (MatchesAlts G (lexer_alts (map lex_terms (take (suc i) xs)))) old new number next
  alts_more {R} xs i x old mid last new first entry number next h e some a b made n =
      let P : List (List LexerTerm) → Type 0 = λ l. IsAdded R (MatchesAlts G (lexer_alts l)) old new number next in
      let before = map lex_terms (take i xs) in
      let whole = MatchesAlts G (lexer_alts (before ++ lex_terms x ∷ [])) in
      subst P (sym (take_at xs i x h e))
      (added_to (MatchesAlts G (lexer_alts (before ++ lex_terms x ∷ []))) old (last ++ State.Split first entry ∷ []) new (length last) number next made n
      (added_as (λ w. MatchesAlts G (lexer_alts before) w ⊎ MatchesSeq G (lexer_seq (lex_terms x)) w)
      (MatchesAlts G (lexer_alts (before ++ lex_terms x ∷ []))) old (last ++ State.Split first entry ∷ []) (length last) next
      (λ w. let same = alts_snoc before (lex_terms x) w in (same.1, same.0))
      (added_or (MatchesAlts G (lexer_alts before)) (MatchesSeq G (lexer_seq (lex_terms x))) old mid last entry first next some a b)))

  pub index_map : {X Y : Type 0} (f : X → Y) (xs : List X) (i : ℕ) (x : X) → i < length xs → x ≡ slice_index_or xs i x → slice_index_or (map f xs) i (f x) ≡ f x
  index_map f [] i x h e = absurd (omega (arith, h))
  index_map f (y ∷ xs) zero x h e = ap f (sym e)
  index_map f (y ∷ xs) (suc i) x h e = index_map f xs i x (omega arith) e

  pub map_length : {X Y : Type 0} (f : X → Y) (xs : List X) → length (map f xs) ≡ length xs
  map_length f [] = refl
  map_length f (x ∷ xs) = omega (arith, map_length f xs)

  -- nor has an item of alternatives or of a sequence
  pub alts_item : (a : LexAlts) (i : ℕ) (x : LexTerms) → i < length (out-LexAlts a).items.items → x ≡ slice_index_or (out-LexAlts a).items.items i x
      → ¬ LexerHasEmptyLoopAlts G (lexer_alts (lex_alts a)) → ¬ LexerHasEmptyLoopSeq G (lexer_seq (lex_terms x))
  alts_item a i x h e none l =
      let xs = (out-LexAlts a).items.items in
      let P : List (List LexerTerm) → Type 0 = λ l. LexerHasEmptyLoopAlts G (lexer_alts l) in
      none
      (subst P (sym (alts_out a)) (alts_loop (map lex_terms xs) i (lex_terms x) (omega (arith, h, map_length lex_terms xs)) (index_map lex_terms xs i x h e) l))

  pub terms_item : (s : LexTerms) (i : ℕ) (x : LexTerm) → i < length (out-LexTerms s).items.items → x ≡ slice_index_or (out-LexTerms s).items.items i x
      → ¬ LexerHasEmptyLoopSeq G (lexer_seq (lex_terms s)) → ¬ LexerHasEmptyLoop G (lex_term x)
  terms_item s i x h e none l =
      let xs = (out-LexTerms s).items.items in
      let P : List LexerTerm → Type 0 = λ l. LexerHasEmptyLoopSeq G (lexer_seq l) in
      none
      (subst P (sym (terms_out s)) (seq_loop (map lex_term xs) i (lex_term x) (omega (arith, h, map_length lex_term xs)) (index_map lex_term xs i x h e) l))

  seq_size : (ts : List LexerTerm) (i : ℕ) (t : LexerTerm) → i < length ts → slice_index_or ts i t ≡ t → lexer_term_size t ≤ lexer_seq_size (lexer_seq ts)
  seq_size [] i t h e = absurd (omega (arith, h))
  seq_size (u ∷ ts) zero t h e = omega (arith, ap lexer_term_size e)
  seq_size (u ∷ ts) (suc i) t h e = omega (arith, seq_size ts i t (omega arith) e)

  alts_size : (ss : List (List LexerTerm)) (i : ℕ) (s : List LexerTerm) → i < length ss → slice_index_or ss i s ≡ s
      → lexer_seq_size (lexer_seq s) ≤ lexer_alts_size (lexer_alts ss)
  alts_size [] i s h e = absurd (omega (arith, h))
  alts_size (u ∷ ss) zero s h e = omega (arith, ap (λ l. lexer_seq_size (lexer_seq l)) e)
  alts_size (u ∷ ss) (suc i) s h e = omega (arith, alts_size ss i s (omega arith) e)

  -- an item is no larger than the alternatives or the sequence
  pub alts_item_size : (a : LexAlts) (i : ℕ) (x : LexTerms) → i < length (out-LexAlts a).items.items → x ≡ slice_index_or (out-LexAlts a).items.items i x
      → lexer_seq_size (lexer_seq (lex_terms x)) ≤ lexer_alts_size (lexer_alts (lex_alts a))
  alts_item_size a i x h e =
      let xs = (out-LexAlts a).items.items in
      omega (
        arith,
        alts_size (map lex_terms xs) i (lex_terms x) (omega (arith, h, map_length lex_terms xs)) (index_map lex_terms xs i x h e),
        ap (λ l. lexer_alts_size (lexer_alts l)) (alts_out a),
      )

  pub terms_item_size : (s : LexTerms) (i : ℕ) (x : LexTerm) → i < length (out-LexTerms s).items.items → x ≡ slice_index_or (out-LexTerms s).items.items i x
      → lexer_term_size (lex_term x) ≤ lexer_seq_size (lexer_seq (lex_terms s))
  terms_item_size s i x h e =
      let xs = (out-LexTerms s).items.items in
      omega (
        arith,
        seq_size (map lex_term xs) i (lex_term x) (omega (arith, h, map_length lex_term xs)) (index_map lex_term xs i x h e),
        ap (λ l. lexer_seq_size (lexer_seq l)) (terms_out s),
      )

  pub take_all : {X : Type 0} (xs : List X) (i : ℕ) → length xs ≤ i → take i xs ≡ xs
  take_all [] zero h = refl
  take_all [] (suc i) h = refl
  take_all (x ∷ xs) zero h = absurd (omega (arith, h))
  take_all (x ∷ xs) (suc i) h = ap (λ l. x ∷ l) (take_all xs i (omega arith))

  pub alts_all : {R : List WrittenRule} (a : LexAlts) (i : ℕ) (old new : List State) (entry next : ℕ) → length (out-LexAlts a).items.items ≤ i →
      IsAdded R (MatchesAlts G (lexer_alts (map lex_terms (take i (out-LexAlts a).items.items)))) old new entry next
      → IsAdded R (MatchesAlts G (lexer_alts (lex_alts a))) old new entry next
  alts_all {R} a i old new entry next h x =
      let P : List (List LexerTerm) → Type 0 = λ l. IsAdded R (MatchesAlts G (lexer_alts l)) old new entry next in
      subst P (ap (λ l. map lex_terms l) (take_all (out-LexAlts a).items.items i h) ∙ sym (alts_out a)) x
