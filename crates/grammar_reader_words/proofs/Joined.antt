-- Marks and ranges, as far as they are read.
use Rattle.std.proofs.Common.{◌≡◌, ◌&&◌, ℕ, zero, suc, Bool, false, take, List, [], ◌∷◌, ◌++◌, Option, Some, None, true}
use Rattle.std.proofs.Common.{refl, ap, sym, ◌∙◌, length, get_or, arith, append_assoc, append-nil}
use Rattle.std.proofs.Math.ListN.{set}
use Rattle.std.proofs.lemmas.Str.{chars-encodes, encodes-append, scalars-chars}
use Rattle.grammar_reader_words.specs.Cursor.{uncons}
use Rattle.std.specs.Str.{IsUtf8, all_scalars, chars, encode_utf8_all}
use Rattle.std.specs.Char.{encode_utf8}
use lib.Utf8.{scalar}
use Rattle.grammar_reader_words.specs.Quoted.{Pieces, put, with_range, plain, last_plain}
use Rattle.grammar_reader_words.specs.declared.quoted.Mark.{Mark}

-- what is read, before what comes
abbrev pub joined : {A : Type 0} → List A → Pieces A → Pieces A
joined as' None = None
joined as' (Some (more, rest)) = Some (as' ++ more, rest)

pub joined_put : {A : Type 0} (as' : List A) (a : A) (o : Pieces A) → joined (as' ++ a ∷ []) o ≡ joined as' (put a o)
joined_put as' a None = refl
joined_put as' a (Some (more, rest)) = ap (λ l. Some (l, rest)) (append_assoc as' (a ∷ []) more)

abbrev pub after : List (ℕ × ℕ) → Option (List (ℕ × ℕ)) → Option (List (ℕ × ℕ))
after rs None = None
after rs (Some more) = Some (rs ++ more)

pub after_range : (rs : List (ℕ × ℕ)) (r : ℕ × ℕ) (o : Option (List (ℕ × ℕ))) → after (rs ++ r ∷ []) o ≡ after rs (with_range r o)
after_range rs r None = refl
after_range rs r (Some more) = ap Some (append_assoc rs (r ∷ []) more)

pub joined_all : {A : Type 0} (as' : List A) (rest : List ℕ) → joined as' (Some ([], rest)) ≡ Some (as', rest)
joined_all as' rest = ap (λ l. Some (l, rest)) (append-nil as')

pub last_set : (ms : List Mark) (k : ℕ) (d p : Mark) → suc k ≡ length ms → p ≡ plain (get_or ms k d) → set ms k p ≡ last_plain ms
last_set [] k d p h e = absurd (omega arith)
last_set (m ∷ []) zero d p h e = ap (λ x. x ∷ []) e
last_set (m ∷ []) (suc k) d p h e = absurd (omega arith)
last_set (m ∷ (n ∷ ms)) zero d p h e = absurd (omega arith)
last_set (m ∷ (n ∷ ms)) (suc k) d p h e = ap (λ l. m ∷ l) (last_set (n ∷ ms) k d p (omega arith) e)

-- the content of a literal, as far as it is read
pub record IsRead (bytes : List ℕ) (remaining all : Pieces ℕ) : Type 0 where
  pub read : List ℕ
  pub scalars : all_scalars read ≡ true
  pub spelled : bytes ≡ encode_utf8_all read
  pub same : joined read remaining ≡ all

joined_none : {A : Type 0} (o : Pieces A) → joined [] o ≡ o
joined_none None = refl
joined_none (Some (more, rest)) = refl

pub read_none : (bytes : List ℕ) (o : Pieces ℕ) → bytes ≡ [] → IsRead bytes o o
read_none bytes o e = record { read = []; scalars = refl; spelled = e; same = joined_none o }

scalars_more : (cs : List ℕ) (c : ℕ) → all_scalars cs ≡ true → scalar c ≡ true → all_scalars (cs ++ c ∷ []) ≡ true
scalars_more [] c h k = ap (λ b. b && true) k
scalars_more (d ∷ cs) c h k = both (scalar d) (all_scalars cs) (all_scalars (cs ++ c ∷ [])) h (λ e. scalars_more cs c e k) where
  both : (a b b' : Bool) → a && b ≡ true → (b ≡ true → b' ≡ true) → a && b' ≡ true
  both true b b' h f = f h
  both false b b' h f = h

pub scalars_take : (n : ℕ) (cs : List ℕ) → all_scalars cs ≡ true → all_scalars (take n cs) ≡ true
scalars_take zero cs h = refl
scalars_take (suc n) [] h = refl
scalars_take (suc n) (d ∷ cs) h = both (scalar d) (all_scalars cs) (all_scalars (take n cs)) h (λ e. scalars_take n cs e) where
  both : (a b b' : Bool) → a && b ≡ true → (b ≡ true → b' ≡ true) → a && b' ≡ true
  both true b b' h f = f h
  both false b b' h f = h

-- the first characters of a text
pub front_chars : (bytes text : List ℕ) (n : ℕ) → IsUtf8 text → bytes ≡ encode_utf8_all (take n (chars text)) → chars bytes ≡ take n (chars text)
front_chars bytes text n u e = ap chars e ∙ chars-encodes (take n (chars text)) (scalars_take n (chars text) (scalars-chars text u))

pub uncons_some : (c : ℕ) (cs all : List ℕ) → Some (c, cs) ≡ uncons all → all ≡ c ∷ cs
uncons_some c cs [] e = absurd (cc e)
uncons_some c cs (x ∷ xs) e =
    let pair : ◌≡◌ {A = ℕ × List ℕ} (x, xs) (c, cs) = cc in
    ap (λ p. p.0 ∷ p.1) pair

-- the bytes so far, and those of the characters to come
pub front_more : (bytes next : List ℕ) (c remaining less : ℕ) (all cs : List ℕ) → remaining ≡ suc less → Some (c, cs) ≡ uncons all
    → next ≡ bytes ++ encode_utf8 c →
    next ++ encode_utf8_all (take less cs) ≡ bytes ++ encode_utf8_all (take remaining all)
front_more bytes next c remaining less all cs h e n =
    ap (λ b. b ++ encode_utf8_all (take less cs)) n ∙ append_assoc bytes (encode_utf8 c) (encode_utf8_all (take less cs))
    ∙ ap (λ p. bytes ++ encode_utf8_all (take p (c ∷ cs))) (sym h) ∙ ap (λ l. bytes ++ encode_utf8_all (take remaining l)) (sym (uncons_some c cs all e))

pub read_more : (bytes next : List ℕ) (o remaining all : Pieces ℕ) (c : ℕ) → IsRead bytes o all → scalar c ≡ true → o ≡ put c remaining
    → next ≡ bytes ++ encode_utf8 c → IsRead next remaining all
read_more bytes next o remaining all c r k e n = record {
  read = r.read ++ c ∷ [];
  scalars = scalars_more r.read c r.scalars k;
  spelled =
      n ∙ ap (λ b. b ++ encode_utf8 c) r.spelled ∙ ap (λ b. encode_utf8_all r.read ++ b) (sym (append-nil (encode_utf8 c)))
      ∙ sym (encodes-append r.read (c ∷ []));
  same = joined_put r.read c remaining ∙ ap (joined r.read) (sym e) ∙ r.same;
}

pub read_all : (bytes rest : List ℕ) (o all : Pieces ℕ) → IsRead bytes o all → o ≡ Some ([], rest) → Some (chars bytes, rest) ≡ all
read_all bytes rest o all r e =
    ap (λ cs. Some (cs, rest)) (ap chars r.spelled ∙ chars-encodes r.read r.scalars) ∙ sym (joined_all r.read rest) ∙ ap (joined r.read) (sym e) ∙ r.same
