-- A text has one first fault at most.
use Rattle.std.proofs.Common.{ℕ, ◌≡◌, List, [], ◌∷◌, ◌++◌, refl, sym, ap, subst, ◌∙◌, append_assoc}
use Rattle.grammar_reader_words.specs.declared.word.Placed.{Placed}
use Rattle.grammar_reader_notation.specs.Notation.{IsTextOf, Begins}
use Rattle.grammar_reader_notation.specs.Naming.{IsNamed}
use Rattle.grammar_reader_notation.specs.Reads.{only_words, IsFirstFault, FaultsOnce}
use Rattle.grammar_reader_notation.specs.declared.fault.ReadFault.{ReadFault}
use Rattle.grammar_reader_notation.proofs.Named.{one_name}

-- two cuts of one list: at the same position, or one before the other
data Cuts (xs : List Placed) (x : Placed) (ys : List Placed) (y : Placed) : Type 0 where
  same : xs ≡ ys → x ≡ y → Cuts xs x ys y
  before : (mid : List Placed) → ys ≡ (xs ++ x ∷ []) ++ mid → Cuts xs x ys y
  after : (mid : List Placed) → xs ≡ (ys ++ y ∷ []) ++ mid → Cuts xs x ys y

one_more : (p : Placed) {xs ys : List Placed} {x y : Placed} → Cuts xs x ys y → Cuts (p ∷ xs) x (p ∷ ys) y
one_more p (same e f) = same (ap (λ ps. p ∷ ps) e) f
one_more p (before mid e) = before mid (ap (λ ps. p ∷ ps) e)
one_more p (after mid e) = after mid (ap (λ ps. p ∷ ps) e)

cuts : (xs : List Placed) (x : Placed) (more : List Placed) (ys : List Placed) (y : Placed) (others : List Placed) → xs ++ x ∷ more ≡ ys ++ y ∷ others
    → Cuts xs x ys y
cuts [] x more [] y others e = same refl (cc e)
cuts [] x more (q ∷ ys) y others e = let f : x ≡ q = cc e in before ys (ap (λ p. p ∷ ys) (sym f))
cuts (p ∷ xs) x more [] y others e = let f : y ≡ p = cc e in after xs (ap (λ q. q ∷ xs) (sym f))
cuts (p ∷ xs) x more (q ∷ ys) y others e =
    let f : p ≡ q = cc e in
    let g : xs ++ x ∷ more ≡ ys ++ y ∷ others = cc e in
    subst (λ r. Cuts (p ∷ xs) x (r ∷ ys) y) f (one_more p (cuts xs x more ys y others g))

words_of_both : (xs ys : List Placed) → only_words (xs ++ ys) ≡ only_words xs ++ only_words ys
words_of_both [] ys = refl
words_of_both (x ∷ xs) ys = ap (λ ws. x.word ∷ ws) (words_of_both xs ys)

-- the first words of first words
begin_too : (xs ys : List Placed) → Begins (only_words (xs ++ ys)) → Begins (only_words xs)
begin_too xs ys b =
    let e : only_words (xs ++ ys) ++ b.0 ≡ only_words xs ++ (only_words ys ++ b.0) =
    ap (λ ws. ws ++ b.0) (words_of_both xs ys) ∙ append_assoc (only_words xs) (only_words ys) b.0 in
    (only_words ys ++ b.0, b.1, subst (λ ws. IsTextOf 64 ws b.1) e b.2)

compared : (bytes : List ℕ) (fault other : ReadFault) (a : IsFirstFault bytes fault) (b : IsFirstFault bytes other) → Cuts a.before a.current b.before b.current
    → fault ≡ other
compared bytes fault other a b (same e f) =
    one_name (only_words b.before) b.current fault other
    (subst (λ p. IsNamed (only_words b.before) p fault) f (subst (λ ps. IsNamed (only_words ps) a.current fault) e a.named)) b.named
compared bytes fault other a b (before mid e) = absurd (a.stuck (begin_too (a.before ++ a.current ∷ []) mid (subst (λ ps. Begins (only_words ps)) e b.begun)))
compared bytes fault other a b (after mid e) = absurd (b.stuck (begin_too (b.before ++ b.current ∷ []) mid (subst (λ ps. Begins (only_words ps)) e a.begun)))

pub faults_once : FaultsOnce
faults_once bytes fault other a b = compared bytes fault other a b (cuts a.before a.current a.after b.before b.current b.after (sym a.cut ∙ b.cut))
