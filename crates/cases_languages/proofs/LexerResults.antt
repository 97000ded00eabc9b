-- What the ends of a term and of an alternative from the start of a list say of what they match.
use Rattle.std.proofs.Common.{◌≡◌, ◌<◌, ◌+◌, ◌↔◌, ℕ, Bool, true, false, not, List, [], ◌∷◌, ◌++◌, IsTrue}
use Rattle.std.proofs.Common.{length, refl, sym, ap, subst, true≢false, arith, length-append}
use Rattle.grammar_tree.specs.Written.{LexerTerm, LexerSeq, WrittenRule}
use Rattle.grammar_tree.specs.Kinds.{lexer_rules}
use Rattle.grammar_tree.specs.Matches.{Matches, MatchesAlternative, MatchesSeq, is_short}
use Rattle.cases_languages.specs.Positions.{IsExact, IsIn, Known, SpansBy}
use Rattle.cases_languages.specs.Spelled.{spelled, spelled_rules, spelled_seq}
use Rattle.cases_languages.specs.declared.chart.Row.{Row}
use Rattle.cases_languages.proofs.Reading.{front_of, reads_front, reads_whole, whole_of}
use Rattle.cases_languages.proofs.LexerMeaning.{term_meaning, seq_meaning}

module _ (rules : List WrittenRule) (K : List ℕ) (rows : List Row) (exact : IsExact rows (spelled_rules rules) K (length K + 1)) (ends : List Bool) where
  pub term_matches : (t : LexerTerm) → ((j : ℕ) → IsIn ends j ↔ SpansBy (Known rows) K (spelled rules t) 0 j) → IsIn ends (length K)
      ↔ Matches (lexer_rules rules) t K
  term_matches t e = (
    λ h. let x = (term_meaning rules K rows exact t (length K)).0 ((e (length K)).0 h) in
        let P : List ℕ → Type 0 = λ w. Matches (lexer_rules rules) t w in subst P (whole_of K x.0 x.1) x.2,
    λ m. (e (length K)).1 ((term_meaning rules K rows exact t (length K)).1 (K, reads_whole K, m)),
  )

  module _ (s : LexerSeq) (e : (j : ℕ) → IsIn ends j ↔ SpansBy (Known rows) K (spelled_seq rules s) 0 j) where
    pub seq_matches : IsIn ends (length K) ↔ MatchesSeq (lexer_rules rules) s K
    seq_matches = (
      λ h. let x = (seq_meaning rules K rows exact s (length K)).0 ((e (length K)).0 h) in
          let P : List ℕ → Type 0 = λ w. MatchesSeq (lexer_rules rules) s w in subst P (whole_of K x.0 x.1) x.2,
      λ m. (e (length K)).1 ((seq_meaning rules K rows exact s (length K)).1 (K, reads_whole K, m)),
    )

    -- the alternative matches a front that is shorter than the list
    abbrev pub Shorter : Type 0
    Shorter = (j : ℕ) × (j < length K) × IsIn ends j

    no_shorter : (Shorter → ⊥) → (u v : List ℕ) → K ≡ u ++ v → MatchesSeq (lexer_rules rules) s u → v ≡ []
    no_shorter none u [] d m = refl
    no_shorter none u (c ∷ v) d m =
        absurd (none (
          length u,
          omega (arith, ap length d, length-append u (c ∷ v)),
          (e (length u)).1 ((seq_meaning rules K rows exact s (length u)).1 (u, reads_front K u (c ∷ v) d, m)),
        ))

    pub is_alternative : IsIn ends (length K) → (is_short s ≡ true → Shorter → ⊥) → MatchesAlternative (lexer_rules rules) s K
    is_alternative h none = record { greedily = seq_matches.0 h; shortest = λ short. no_shorter (none short) }

    pub not_shorter : MatchesAlternative (lexer_rules rules) s K → is_short s ≡ true → Shorter → ⊥
    not_shorter m short (j, h, in_ends) =
        let x = (seq_meaning rules K rows exact s j).0 ((e j).0 in_ends) in
        let f = front_of K j x.0 x.1 in
        let none = m.shortest short x.0 f.0 f.1 x.2 in
        absurd (omega (arith, h, f.2, ap length f.1, length-append x.0 f.0, ap length none))

-- the answer to whether a shorter front matches decides
pub by_answer : (Shorter : Type 0) (b : Bool) → (b ≡ true → Shorter) → (b ≡ false → Shorter → ⊥) → {S A : Type 0} → ((S → Shorter → ⊥) → A)
    → (A → S → Shorter → ⊥) → S → IsTrue (not b) ↔ A
by_answer Shorter true some none make break short = (λ t. absurd (true≢false (sym t)), λ a. absurd (break a short (some refl)))
by_answer Shorter false some none make break short = (λ _. make (λ _. none refl), λ _. refl)
