-- What a round over respellings tries.
use Rattle.std.proofs.Common.{◌≡◌, inl, inr, ◌+◌, ◌<◌, ℕ, zero, suc, List, [], ◌∷◌, length, refl, sym, ap, subst, arith}
use Rattle.grammar_tree.specs.Lexes.{PlacedToken}
use Rattle.reduce_rounds.specs.Trials.{Trials, AllTried, EachIsSmaller, IsTriedAtNo}
use Rattle.spell_shrink.specs.Words.{words_of}
use Rattle.spell_shrink.specs.Respelling.{IsSpelled, Respelling, kind_at, number_at, with_word_at, word_at}
use Rattle.spell_shrink.specs.Respelled.{shorter_words, spell_round, spell_trials, word_bytes, word_trials}
use Rattle.spell_shrink.specs.Laws.{RoundsTryNeighbours}
use Rattle.spell_shrink.proofs.Changed.{fewer_bytes}
use Rattle.spell_shrink.proofs.SpelledWords.{Has, from_shorter, from_words_of, in_shorter, in_words_of}

-- ---- the spellings of one token

module _ (go : Respelling → Trials Respelling) (r : Respelling) (k : ℕ) where
  in_words : (words : List (List ℕ)) (word : List ℕ) → Has word words → IsTriedAtNo (word_trials go r k words) (with_word_at r k word)
  in_words [] word has = absurd has
  in_words (other ∷ words) word (inl same) = inl (ap (with_word_at r k) same)
  in_words (other ∷ words) word (inr later) = inr (in_words words word later)

  after_words : (words : List (List ℕ)) (other : Respelling) → IsTriedAtNo (go r) other → IsTriedAtNo (word_trials go r k words) other
  after_words [] other tried = tried
  after_words (word ∷ words) other tried = inr (after_words words other tried)

  all_words : (P : Respelling → Type 0) (words : List (List ℕ))
      → ((word : List ℕ) → Has word words → P (with_word_at r k word) × AllTried P (go (with_word_at r k word))) → AllTried P (go r)
      → AllTried P (word_trials go r k words)
  all_words P [] each rest = rest
  all_words P (word ∷ words) each rest =
      let here = each word (inl refl) in
      (here.0, (here.1, all_words P words (λ other has. each other (inr has)) rest))

  smaller_words : (n : ℕ) (words : List (List ℕ))
      → ((word : List ℕ) → Has word words → (word_bytes (with_word_at r k word) < n)
      × EachIsSmaller word_bytes (word_bytes (with_word_at r k word)) (go (with_word_at r k word)))
      → EachIsSmaller word_bytes n (go r) → EachIsSmaller word_bytes n (word_trials go r k words)
  smaller_words n [] each rest = rest
  smaller_words n (word ∷ words) each rest =
      let here = each word (inl refl) in
      (here.0, (here.1, smaller_words n words (λ other has. each other (inr has)) rest))

-- ---- those of one token after another

module _ (start : List ℕ) (tokens : List PlacedToken) where
  -- a shorter spelling of the kind is one that a token of the kind has
  pub spelled_word : (r : Respelling) (k : ℕ) (word : List ℕ) → Has word (shorter_words start tokens r k)
      → IsSpelled start tokens (record { number = number_at r k; word = word })
  spelled_word r k word has =
      let kind = kind_at tokens (number_at r k) in
      let of = from_words_of start kind tokens word (from_shorter (length (word_at r k)) word (words_of start tokens kind) has).0 in
      record { token = of.token; there = of.there; kind = of.kind_is; word = of.word_is }

  pub shorter_word : (r : Respelling) (k : ℕ) (word : List ℕ) → Has word (shorter_words start tokens r k) → length word < length (word_at r k)
  shorter_word r k word has =
      (from_shorter (length (word_at r k)) word (words_of start tokens (kind_at tokens (number_at r k))) has).1

  tries_word : (n j k : ℕ) (r : Respelling) (word : List ℕ) → j < n → Has word (shorter_words start tokens r (k + j))
      → IsTriedAtNo (spell_trials start tokens n k r) (with_word_at r (k + j) word)
  tries_word zero j k r word less has = absurd (omega (arith, less))
  tries_word (suc n) zero k r word less has =
      let at : k + 0 ≡ k = omega arith in
      subst (λ i. IsTriedAtNo (spell_trials start tokens (suc n) k r) (with_word_at r i word)) (sym at)
      (in_words (spell_trials start tokens n (k + 1)) r k (shorter_words start tokens r k) word
      (subst (λ i. Has word (shorter_words start tokens r i)) at has))
  tries_word (suc n) (suc j) k r word less has =
      let at : k + suc j ≡ (k + 1) + j = omega arith in
      subst (λ i. IsTriedAtNo (spell_trials start tokens (suc n) k r) (with_word_at r i word)) (sym at)
      (after_words (spell_trials start tokens n (k + 1)) r k (shorter_words start tokens r k) (with_word_at r ((k + 1) + j) word)
      (tries_word n j (k + 1) r word (omega (arith, less)) (subst (λ i. Has word (shorter_words start tokens r i)) at has)))

  -- what holds of a respelling holds of each that is tried, where it stays with a shorter spelling
  pub all_spelled : (P : Respelling → Type 0)
      → ((r : Respelling) (k : ℕ) (word : List ℕ) → P r → Has word (shorter_words start tokens r k) → P (with_word_at r k word))
      → (n k : ℕ) (r : Respelling) → P r → AllTried P (spell_trials start tokens n k r)
  all_spelled P stays zero k r holds = tt
  all_spelled P stays (suc n) k r holds =
      all_words (spell_trials start tokens n (k + 1)) r k P (shorter_words start tokens r k)
      (λ word has. (stays r k word holds has, all_spelled P stays n (k + 1) (with_word_at r k word) (stays r k word holds has)))
      (all_spelled P stays n (k + 1) r holds)

  -- each has fewer bytes than the last yes
  pub smaller_spelled : (n k : ℕ) (r : Respelling) → EachIsSmaller word_bytes (word_bytes r) (spell_trials start tokens n k r)
  smaller_spelled zero k r = tt
  smaller_spelled (suc n) k r =
      smaller_words (spell_trials start tokens n (k + 1)) r k (word_bytes r) (shorter_words start tokens r k)
      (λ word has. (fewer_bytes r k word (shorter_word r k word has), smaller_spelled n (k + 1) (with_word_at r k word)))
      (smaller_spelled n (k + 1) r)

pub rounds_try_neighbours : RoundsTryNeighbours
rounds_try_neighbours input r other near =
    let start = input.start in
    let tokens = input.tokens in
    let k = near.index in
    let kind = kind_at tokens (number_at r k) in
    let of = near.spelled in
    let from_first : 0 + k ≡ k = omega arith in
    let has : Has near.word (shorter_words start tokens r k) =
    in_shorter (length (word_at r k)) near.word (words_of start tokens kind) near.shorter
    (subst (λ (w : List ℕ). Has w (words_of start tokens kind)) (sym of.word) (in_words_of start kind tokens of.token of.there of.kind)) in
    subst (IsTriedAtNo (spell_round start tokens r)) (sym near.same)
    (subst (λ i. IsTriedAtNo (spell_trials start tokens (length r) 0 r) (with_word_at r i near.word)) from_first
    (tries_word start tokens (length r) k 0 r near.word near.within (subst (λ i. Has near.word (shorter_words start tokens r i)) (sym from_first) has)))
