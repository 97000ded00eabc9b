-- A number that is added to an index.
use Rattle.std.proofs.Common.{◌≡◌, ℕ, Bool, true, false, cond, List, Option, Some, None, String, BTreeMap, is_some, refl, sym, ap, ◌∙◌, true≢false}
use Rattle.std.specs.BTreeMap.{get_by_text}
use Rattle.std.specs.Map.{update}
use Rattle.std.specs.Str.{IsUtf8, bytes_eq, chars}
use Rattle.std.specs.Prelude.{encode_utf8_all}
use Rattle.std.proofs.lemmas.Slice.Eq.{bytes_eq-Decides}
use Rattle.std.proofs.lemmas.Str.{encodes-chars}
use Rattle.grammar_tree.specs.Kinds.{same_text}
use Rattle.std.proofs.Common.{Result, Ok, Err, OnOk}
use Rattle.grammar_names.specs.declared.index.Index.{Index}
use Rattle.grammar_names.specs.Index.{or_added}
use Rattle.grammar_names.specs.inner.Index.{IsAdded}

-- a map of bytes has for each text the number that the function gives
abbrev pub MapFinds : {Y : Type 0} → BTreeMap (String Y) ℕ → (List ℕ → Option ℕ) → Type 0
MapFinds m f = (bytes : List ℕ) → IsUtf8 bytes → get_by_text m bytes ≡ f (chars bytes)

same_bytes : (a b : List ℕ) → IsUtf8 a → IsUtf8 b → chars a ≡ chars b → a ≡ b
same_bytes a b ua ub e = sym (encodes-chars a ua) ∙ ap encode_utf8_all e ∙ encodes-chars b ub

not_same : (a b : List ℕ) → IsUtf8 a → IsUtf8 b → bytes_eq a b ≡ false → (s : Bool) → same_text (chars a) (chars b) ≡ s → s ≡ false
not_same a b ua ub e false h = refl
not_same a b ua ub e true h = absurd (true≢false (sym ((bytes_eq-Decides a b).1 (same_bytes a b ua ub ((bytes_eq-Decides (chars a) (chars b)).0 h))) ∙ e))

added_none : (o : Option ℕ) (number : ℕ) → is_some o ≡ false → or_added o true number ≡ Some number
added_none None number e = refl
added_none (Some k) number e = absurd (true≢false e)

added_other : (o : Option ℕ) (number : ℕ) → or_added o false number ≡ o
added_other None number = refl
added_other (Some k) number = refl

module _ {Y : Type 0} where
  pub added : (m n : BTreeMap (String Y) ℕ) (text : List ℕ) (number : ℕ) → IsUtf8 text
      → ((bytes : List ℕ) → get_by_text n bytes ≡ update bytes_eq (get_by_text m) text (Some number) bytes) → is_some (get_by_text m text) ≡ false
      → (f : List ℕ → Option ℕ) → MapFinds m f → MapFinds n (λ t. or_added (f t) (same_text (chars text) t) number)
  added m n text number u updates absent f finds bytes ub = updates bytes ∙ go (bytes_eq text bytes) refl
    where
      go : (b : Bool) → bytes_eq text bytes ≡ b
          → cond b (Some number) (get_by_text m bytes) ≡ or_added (f (chars bytes)) (same_text (chars text) (chars bytes)) number
      go true h =
          let same : text ≡ bytes = (bytes_eq-Decides text bytes).0 h in
          let test : same_text (chars text) (chars bytes) ≡ true = (bytes_eq-Decides (chars text) (chars bytes)).1 (ap chars same) in
          let none : is_some (f (chars bytes)) ≡ false = ap is_some (sym (finds bytes ub)) ∙ ap (λ x. is_some (get_by_text m x)) (sym same) ∙ absent in
          sym (ap (λ b. or_added (f (chars bytes)) b number) test ∙ added_none (f (chars bytes)) number none)
      go false h =
          let test : same_text (chars text) (chars bytes) ≡ false = not_same text bytes u ub h (same_text (chars text) (chars bytes)) refl in
          finds bytes ub ∙ sym (ap (λ b. or_added (f (chars bytes)) b number) test ∙ added_other (f (chars bytes)) number)

-- a number that is added by tests which agree, and one that is added to no text
pub added_so : {E : Type 0} (r : Result (Unit {0}) E) (old new : Index) (test other : List ℕ → Bool) (number : ℕ) → ((t : List ℕ) → test t ≡ other t)
    → OnOk r (IsAdded old new test number) → OnOk r (IsAdded old new other number)
added_so (Ok u) old new test other number same d =
    λ f finds bytes utf8. d f finds bytes utf8 ∙ ap (λ b. or_added (f (chars bytes)) b number) (same (chars bytes))
added_so (Err e) old new test other number same d = tt

pub added_to_none : (index : Index) (test : List ℕ → Bool) (number : ℕ) → ((t : List ℕ) → test t ≡ false) → IsAdded index index test number
added_to_none index test number none f finds bytes utf8 =
    finds bytes utf8 ∙ sym (ap (λ b. or_added (f (chars bytes)) b number) (none (chars bytes)) ∙ added_other (f (chars bytes)) number)
