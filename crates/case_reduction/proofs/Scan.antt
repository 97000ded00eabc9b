-- What comes next in a text, by the threads of all kinds.
use Rattle.std.proofs.Common.{◌≡◌, ◌≢◌, ◌⊎◌, inl, inr, ℕ, zero, suc, ◌≤◌, Bool, true, false, ◌&&◌, not, List, [], ◌∷◌, ◌++◌, Option, Some, None}
use Rattle.std.proofs.Common.{slice_get, length, refl, sym, ap, ◌∙◌, subst, arith, append-nil, length-append, true≢false}
use Rattle.std.proofs.lemmas.Bool.{and_parts}
use Rattle.grammar_tree.specs.Written.{LexerTerm, LexerSeq, LexerAlts, LexerRule, WrittenRule, WrittenGrammar, Source, TokenKind}
use Rattle.grammar_tree.specs.Kinds.{kinds_of, lexer_rules}
use Rattle.grammar_tree.specs.Matches.{MatchesRule, MatchesSeq, Matches}
use Rattle.grammar_tree.specs.Lexes.{IsNext, KindMatches, SourceMatches}
use Rattle.case_reduction.proofs.Tests.{not_both}
use Rattle.case_reduction.proofs.Threads.{Any, accepts, all_nameless, any_accepts, any_moved, any_run, moved, run, run_nameless}

abbrev rule_alts : Option WrittenRule → LexerAlts
rule_alts None = LexerAlts.none
rule_alts (Some (WrittenRule.parser_rule r)) = LexerAlts.none
rule_alts (Some (WrittenRule.lexer_rule r)) = r.alts

-- what a kind matches, as alternatives
abbrev pub alts_of : WrittenGrammar → Source → List ℕ → LexerAlts
alts_of G Source.implicit name = LexerAlts.or (LexerSeq.next (LexerTerm.literal name) LexerSeq.done) LexerAlts.none
alts_of G (Source.written place) name = rule_alts (slice_get G.rules place)
alts_of G Source.declared name = LexerAlts.none

abbrev pub threads : LexerAlts → List LexerSeq
threads LexerAlts.none = []
threads (LexerAlts.or s a) = s ∷ threads a

abbrev pub kind_threads : WrittenGrammar → TokenKind → List LexerSeq
kind_threads G kind = threads (alts_of G kind.source kind.name)

-- the threads of each kind after a text
abbrev pub states : WrittenGrammar → List TokenKind → List ℕ → List (List LexerSeq)
states G [] w = []
states G (kind ∷ kinds) w = run (kind_threads G kind) w ∷ states G kinds w

abbrev pub ended : List LexerSeq → Bool
ended [] = true
ended (k ∷ ks) = false

-- no kind goes on with this character
abbrev pub all_end : ℕ → List (List LexerSeq) → Bool
all_end c [] = true
all_end c (ks ∷ states) = ended (moved c ks) && all_end c states

-- no kind but the one of this number does
abbrev pub others_end : ℕ → ℕ → List (List LexerSeq) → Bool
others_end k c [] = true
others_end zero c (ks ∷ states) = all_end c states
others_end (suc k) c (ks ∷ states) = ended (moved c ks) && others_end k c states

-- no kind below this number matches
abbrev pub none_below : ℕ → List (List LexerSeq) → Bool
none_below zero states = true
none_below (suc k) [] = true
none_below (suc k) (ks ∷ states) = not (accepts ks) && none_below k states

abbrev pub kinds_nameless : WrittenGrammar → List TokenKind → Bool
kinds_nameless G [] = true
kinds_nameless G (kind ∷ kinds) = all_nameless (kind_threads G kind) && kinds_nameless G kinds

pub rule_any : (R : List LexerRule) (a : LexerAlts) (w : List ℕ) → MatchesRule R a w → Any R (threads a) w
rule_any R _ _ (MatchesRule.by_first s a w m) = Any.here s (threads a) w m.greedily
rule_any R _ _ (MatchesRule.by_later s a w m) = Any.there s (threads a) w (rule_any R a w m)

source_any : (G : WrittenGrammar) (source : Source) (name w : List ℕ) → SourceMatches G source name w
    → Any (lexer_rules G.rules) (threads (alts_of G source name)) w
source_any G Source.implicit name w e =
    let R : List LexerRule = lexer_rules G.rules in
    let s : LexerSeq = LexerSeq.next (LexerTerm.literal name) LexerSeq.done in
    let m : MatchesSeq R s (name ++ []) = MatchesSeq.by_next (LexerTerm.literal name) LexerSeq.done name [] (Matches.by_literal name) MatchesSeq.by_done in
    let P : List ℕ → Type 0 = λ x. MatchesSeq R s x in
    Any.here s [] w (subst P (append-nil name ∙ sym e) m)
source_any G (Source.written place) name w (rule, is, m) =
    let P : Option WrittenRule → Type 0 = λ o. Any (lexer_rules G.rules) (threads (rule_alts o)) w in
    subst P (sym is) (rule_any (lexer_rules G.rules) rule.alts w m)
source_any G Source.declared name w m = absurd m

ended_none : (R : List LexerRule) (ks : List LexerSeq) (w : List ℕ) → ended ks ≡ true → Any R ks w → ⊥
ended_none R [] w e a = elim a [ ]
ended_none R (k ∷ ks) w e a = true≢false (sym e)

end_of : (G : WrittenGrammar) (kinds : List TokenKind) (c : ℕ) (w : List ℕ) (i : ℕ) (kind : TokenKind) → slice_get kinds i ≡ Some kind
    → all_end c (states G kinds w) ≡ true → ended (moved c (run (kind_threads G kind) w)) ≡ true
end_of G [] c w i kind is h = cc is
end_of G (k ∷ kinds) c w zero kind is h =
    let same : k ≡ kind = cc in
    let P : TokenKind → Type 0 = λ x. ended (moved c (run (kind_threads G x) w)) ≡ true in
    subst P same (and_parts (ended (moved c (run (kind_threads G k) w))) (all_end c (states G kinds w)) h).0
end_of G (k ∷ kinds) c w (suc i) kind is h =
    end_of G kinds c w i kind is (and_parts (ended (moved c (run (kind_threads G k) w))) (all_end c (states G kinds w)) h).1

end_of_other : (G : WrittenGrammar) (kinds : List TokenKind) (k c : ℕ) (w : List ℕ) (i : ℕ) (kind : TokenKind) → slice_get kinds i ≡ Some kind
    → others_end k c (states G kinds w) ≡ true
    → (i ≡ k) ⊎ (ended (moved c (run (kind_threads G kind) w)) ≡ true)
end_of_other G [] k c w i kind is h = cc is
end_of_other G (x ∷ kinds) zero c w zero kind is h = inl refl
end_of_other G (x ∷ kinds) zero c w (suc i) kind is h = inr (end_of G kinds c w i kind is h)
end_of_other G (x ∷ kinds) (suc k) c w zero kind is h =
    let same : x ≡ kind = cc in
    let P : TokenKind → Type 0 = λ y. ended (moved c (run (kind_threads G y) w)) ≡ true in
    inr (subst P same (and_parts (ended (moved c (run (kind_threads G x) w))) (others_end k c (states G kinds w)) h).0)
end_of_other G (x ∷ kinds) (suc k) c w (suc i) kind is h =
    elim (end_of_other G kinds k c w i kind is (and_parts (ended (moved c (run (kind_threads G x) w))) (others_end k c (states G kinds w)) h).1) [
      | inl same ↦ inl (ap suc same)
      | inr e ↦ inr e
    ]

least_of : (G : WrittenGrammar) (kinds : List TokenKind) (k : ℕ) (w : List ℕ) (i : ℕ) (kind : TokenKind) → slice_get kinds i ≡ Some kind
    → none_below k (states G kinds w) ≡ true
    → accepts (run (kind_threads G kind) w) ≡ true → k ≤ i
least_of G [] k w i kind is h a = cc is
least_of G (x ∷ kinds) zero w i kind is h a = omega arith
least_of G (x ∷ kinds) (suc k) w zero kind is h a =
    let same : kind ≡ x = cc in
    let P : TokenKind → Type 0 = λ y. accepts (run (kind_threads G y) w) ≡ true in
    absurd (not_both (accepts (run (kind_threads G x) w)) (and_parts (not (accepts (run (kind_threads G x) w))) (none_below k (states G kinds w)) h).0
    (subst P same a))
least_of G (x ∷ kinds) (suc k) w (suc i) kind is h a =
    omega (arith, least_of G kinds k w i kind is (and_parts (not (accepts (run (kind_threads G x) w))) (none_below k (states G kinds w)) h).1 a)

nameless_of : (G : WrittenGrammar) (kinds : List TokenKind) (i : ℕ) (kind : TokenKind) → slice_get kinds i ≡ Some kind → kinds_nameless G kinds ≡ true
    → all_nameless (kind_threads G kind) ≡ true
nameless_of G [] i kind is h = cc is
nameless_of G (x ∷ kinds) zero kind is h =
    let same : x ≡ kind = cc in
    let P : TokenKind → Type 0 = λ y. all_nameless (kind_threads G y) ≡ true in
    subst P same (and_parts (all_nameless (kind_threads G x)) (kinds_nameless G kinds) h).0
nameless_of G (x ∷ kinds) (suc i) kind is h = nameless_of G kinds i kind is (and_parts (all_nameless (kind_threads G x)) (kinds_nameless G kinds) h).1

-- a beginning of a text is no longer than a piece, or goes on after it
cut_at : (piece front back : List ℕ) (c : ℕ) (w : List ℕ) → piece ++ (c ∷ w) ≡ front ++ back → (length front ≤ length piece)
    ⊎ ((more : List ℕ) × (front ≡ piece ++ (c ∷ more)))
cut_at [] [] back c w e = inl (omega arith)
cut_at [] (d ∷ front) back c w e = let same : d ≡ c = cc in inr (front, ap (λ x. x ∷ front) same)
cut_at (a ∷ piece) [] back c w e = inl (omega arith)
cut_at (a ∷ piece) (d ∷ front) back c w e =
    let same : d ≡ a = cc in
    let rest : piece ++ (c ∷ w) ≡ front ++ back = cc in
    elim (cut_at piece front back c w rest) [
      | inl h ↦ inl (omega (arith, h))
      | inr m ↦ let is = m.1 in inr (m.0, cc)
    ]

module _ (G : WrittenGrammar) (kinds : List TokenKind) (numbered : kinds_of G ≡ kinds) (nameless : kinds_nameless G kinds ≡ true) where
  abbrev R : List LexerRule
  R = lexer_rules G.rules

  -- a kind that matches a text: what it is, and a thread that matches
  record Found (k : ℕ) (w : List ℕ) : Type 0 where
    kind : TokenKind
    is : slice_get kinds k ≡ Some kind
    any : Any R (kind_threads G kind) w

  found : (k : ℕ) (w : List ℕ) → KindMatches G k w → Found k w
  found k w (kind, is, m) = record { kind = kind; is = ap (λ l. slice_get l k) (sym numbered) ∙ is; any = source_any G kind.source kind.name w m }

  no_more : (kind : TokenKind) (i : ℕ) (piece : List ℕ) (c : ℕ) (more : List ℕ) → slice_get kinds i ≡ Some kind
      → ended (moved c (run (kind_threads G kind) piece)) ≡ true → Any R (kind_threads G kind) (piece ++ (c ∷ more)) → ⊥
  no_more kind i piece c more is e a =
      let p : all_nameless (kind_threads G kind) ≡ true = nameless_of G kinds i kind is nameless in
      ended_none R (moved c (run (kind_threads G kind) piece)) more e
      (any_moved R (run (kind_threads G kind) piece) c more (run_nameless (kind_threads G kind) piece p) (any_run R (kind_threads G kind) piece (c ∷ more) p a))

  -- where all end, no kind matches more
  pub ends_all : (piece : List ℕ) (c : ℕ) → all_end c (states G kinds piece) ≡ true → (other : ℕ) (more : List ℕ) → KindMatches G other (piece ++ (c ∷ more))
      → ⊥
  ends_all piece c h other more m =
      let it : Found other (piece ++ (c ∷ more)) = found other (piece ++ (c ∷ more)) m in
      no_more it.kind other piece c more it.is (end_of G kinds c piece other it.kind it.is h) it.any

  -- where all others end, only that kind can match more
  pub ends_but : (k : ℕ) (piece : List ℕ) (c : ℕ) → others_end k c (states G kinds piece) ≡ true → ((more : List ℕ) → KindMatches G k (piece ++ (c ∷ more)) → ⊥)
      → (other : ℕ) (more : List ℕ) → KindMatches G other (piece ++ (c ∷ more)) → ⊥
  ends_but k piece c h own other more m =
      let it : Found other (piece ++ (c ∷ more)) = found other (piece ++ (c ∷ more)) m in
      elim (end_of_other G kinds k c piece other it.kind it.is h) [
        | inl same ↦ own more (subst (λ x. KindMatches G x (piece ++ (c ∷ more))) same m)
        | inr e ↦ no_more it.kind other piece c more it.is e it.any
      ]

  -- where none below matches, the kind is the least one
  pub least : (k : ℕ) (piece : List ℕ) → none_below k (states G kinds piece) ≡ true → (other : ℕ) → KindMatches G other piece → k ≤ other
  least k piece h other m =
      let it : Found other piece = found other piece m in
      let p : all_nameless (kind_threads G it.kind) ≡ true = nameless_of G kinds other it.kind it.is nameless in
      let P : List ℕ → Type 0 = λ x. Any R (kind_threads G it.kind) x in
      least_of G kinds k piece other it.kind it.is h
      (any_accepts R (run (kind_threads G it.kind) piece) (run_nameless (kind_threads G it.kind) piece p)
      (any_run R (kind_threads G it.kind) piece [] p (subst P (sym (append-nil piece)) it.any)))

  -- what comes next, before a character with which no kind goes on
  pub next_before : (k : ℕ) (piece : List ℕ) (c : ℕ) (w : List ℕ) → piece ≢ [] → KindMatches G k piece → none_below k (states G kinds piece) ≡ true
      → ((other : ℕ) (more : List ℕ) → KindMatches G other (piece ++ (c ∷ more)) → ⊥) → IsNext G (piece ++ (c ∷ w)) k piece (c ∷ w)
  next_before k piece c w some m below ends =
      record { cut = refl; some = some; matched = m; longest = longest; least = least k piece below }
    where
      longest : (other : ℕ) (front back : List ℕ) → piece ++ (c ∷ w) ≡ front ++ back → KindMatches G other front → length front ≤ length piece
      longest other front back cut n = elim (cut_at piece front back c w cut) [
        | inl h ↦ h
        | inr it ↦ absurd (ends other it.0 (subst (λ x. KindMatches G other x) it.1 n))
      ]

  -- and at the end of the text
  pub next_last : (k : ℕ) (piece : List ℕ) → piece ≢ [] → KindMatches G k piece → none_below k (states G kinds piece) ≡ true → IsNext G piece k piece []
  next_last k piece some m below =
      record { cut = sym (append-nil piece); some = some; matched = m; longest = longest; least = least k piece below }
    where
      longest : (other : ℕ) (front back : List ℕ) → piece ≡ front ++ back → KindMatches G other front → length front ≤ length piece
      longest other front back cut n = omega (arith, ap length cut, length-append front back)
