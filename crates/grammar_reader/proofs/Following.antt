-- What may follow the words that were read, by what the machine reads next.
use Rattle.std.proofs.Common.{ℕ, ◌≡◌, Bool, true, false, List, [], ◌∷◌, ◌++◌, Option, Some, None, refl, sym, ap, ◌∙◌}
use Rattle.grammar_reader_words.specs.declared.word.Word.{Word}
use Rattle.grammar_reader_machine.specs.Machine as m
use Rattle.grammar_reader.specs.WordByWord.{run, and_then}
use Rattle.grammar_reader_notation.specs.Notation.{BeginsOf}
use Rattle.grammar_reader_notation.specs.Naming.{MayFollow}
use Rattle.grammar_reader.proofs.Runs.{reached, stuck}

abbrev pub reads : Option m.State → Bool
reads None = false
reads (Some s) = true

-- the words may follow
abbrev pub goes : m.State → List Word → Bool
goes s words = reads (run 64 s words)

pub run_parts : (d : ℕ) (s : m.State) (words more : List Word) → run d s (words ++ more) ≡ and_then (run d s words) (λ t. run d t more)
run_parts d s [] more = refl
run_parts d s (word ∷ words) more = spread (m.step d s word) (λ t. run_parts d t words more) where
  spread : (o : Option m.State) → ((t : m.State) → run d t (words ++ more) ≡ and_then (run d t words) (λ u. run d u more)) →
      and_then o (λ t. run d t (words ++ more)) ≡ and_then (and_then o (λ t. run d t words)) (λ t. run d t more)
  spread None k = refl
  spread (Some t) k = k t

-- after words that were read
pub after : (d : ℕ) (before words : List Word) (s : m.State) → run d m.AtStart before ≡ Some s → run d m.AtStart (before ++ words) ≡ run d s words
after d before words s e = run_parts d m.AtStart before words ∙ ap (λ o. and_then o (λ t. run d t words)) e

pub some_read : (d : ℕ) (before : List Word) (o : Option m.State) → run d m.AtStart before ≡ o → reads o ≡ true → BeginsOf d before
some_read d before None e k = cc k
some_read d before (Some t) e k = reached d t before e

pub none_read : (d : ℕ) (before : List Word) (o : Option m.State) → run d m.AtStart before ≡ o → reads o ≡ false → BeginsOf d before → ⊥
none_read d before None e k = stuck d before e
none_read d before (Some t) e k = cc k

module _ (before : List Word) (s : m.State) (e : run 64 m.AtStart before ≡ Some s) where
  pub may_follow : (words : List Word) → goes s words ≡ true → MayFollow before words
  may_follow words k = some_read 64 (before ++ words) (run 64 s words) (after 64 before words s e) k

  pub cannot_follow : (words : List Word) → goes s words ≡ false → MayFollow before words → ⊥
  cannot_follow words k = none_read 64 (before ++ words) (run 64 s words) (after 64 before words s e) k

  -- both ways
  pub follows_as : (words : List Word) (b : Bool) → b ≡ goes s words → MayFollow before words → b ≡ true
  follows_as words b k h = tried (goes s words) refl k where
    tried : (c : Bool) → goes s words ≡ c → b ≡ goes s words → b ≡ true
    tried true f k = k ∙ f
    tried false f k = absurd (cannot_follow words f h)

-- where words may follow, the words before were read, and they are read next
pub record Following (before words : List Word) : Type 0 where
  pub state : m.State
  pub read : run 64 m.AtStart before ≡ Some state
  pub goes_on : goes state words ≡ true

pub following : (before words : List Word) → MayFollow before words → Following before words
following before words h = found (run 64 m.AtStart before) refl where
  found : (o : Option m.State) → run 64 m.AtStart before ≡ o → Following before words
  found None e = absurd (stuck 64 (before ++ words) (run_parts 64 m.AtStart before words ∙ ap (λ o. and_then o (λ t. run 64 t words)) e) h)
  found (Some s) e = record { state = s; read = e; goes_on = follows_as before s e words (goes s words) refl h }

pub stepped : (o : Option m.State) → and_then o (λ t. Some t) ≡ o
stepped None = refl
stepped (Some t) = refl

-- the state in between
pub record Passed (before words : List Word) (s : m.State) : Type 0 where
  pub from : m.State
  pub read : run 64 m.AtStart before ≡ Some from
  pub remaining : run 64 from words ≡ Some s

pub passed : (before words : List Word) (s : m.State) → run 64 m.AtStart (before ++ words) ≡ Some s → Passed before words s
passed before words s e = found (run 64 m.AtStart before) refl where
  found : (o : Option m.State) → run 64 m.AtStart before ≡ o → Passed before words s
  found None f = let x : None ≡ Some s = sym (run_parts 64 m.AtStart before words ∙ ap (λ o. and_then o (λ t. run 64 t words)) f) ∙ e in cc x
  found (Some t) f = record { from = t; read = f; remaining = sym (after 64 before words t f) ∙ e }

pub record Led (from : m.State) (word : Word) (words : List Word) (s : m.State) : Type 0 where
  pub to : m.State
  pub step : m.step 64 from word ≡ Some to
  pub remaining : run 64 to words ≡ Some s

pub led : (from : m.State) (word : Word) (words : List Word) (s : m.State) → run 64 from (word ∷ words) ≡ Some s → Led from word words s
led from word words s e = found (m.step 64 from word) refl e where
  found : (o : Option m.State) → m.step 64 from word ≡ o → and_then o (λ t. run 64 t words) ≡ Some s → Led from word words s
  found None f e = cc e
  found (Some t) f e = record { to = t; step = f; remaining = e }
