-- Where bytes occur in a text.
use Rattle.std.proofs.Common.{◌≡◌, ◌+◌, ◌<◌, ◌≤◌, ◌⊎◌, inl, inr, ⊎_elim, ℕ, zero, suc, Bool, true, false, cond, ◌||◌, ◌&&◌, List, []}
use Rattle.std.proofs.Common.{◌∷◌, ◌++◌, length, Option, Some, None, option_map, refl, sym, ap, ◌∙◌, arith, subst}
use Rattle.std.proofs.lemmas.Bool.{eqb-true, eq-eqb, false≢true}
use Rattle.std.specs.Prelude.{◌==◌, is_some, not, slice_index}
use Rattle.memchr.specs.Find.{FindsNeedle, OccursAt}
use Rattle.keep_guard.specs.Keep.{HoldsAllOrMisses, OccursAsPart, begins_with, first_missing, holds_all, occurs}

either : (b : Bool) → (b ≡ true) ⊎ (b ≡ false)
either true = inl refl
either false = inr refl

both : (a b : Bool) → (a && b) ≡ true → (a ≡ true) × (b ≡ true)
both true true is = (refl, refl)
both true false is = absurd (false≢true is)
both false b is = absurd (false≢true is)

both-true : (a b : Bool) → a ≡ true → b ≡ true → (a && b) ≡ true
both-true a b p q = rw (p, q) refl

or-first : (a b : Bool) → a ≡ true → (a || b) ≡ true
or-first a b is = rw is refl

or-second : (a b : Bool) → b ≡ true → (a || b) ≡ true
or-second true b is = refl
or-second false b is = is

one-of : (a b : Bool) → (a || b) ≡ true → (a ≡ true) ⊎ (b ≡ true)
one-of true b is = inl refl
one-of false b is = inr is

-- a text that begins with the bytes is the bytes, and then some text
begins-part : (keep text : List ℕ) → begins_with keep text ≡ true → (after : List ℕ) × (text ≡ keep ++ after)
begins-part [] text is = (text, refl)
begins-part (byte ∷ keep) [] is = absurd (false≢true is)
begins-part (byte ∷ keep) (first ∷ text) is =
    let parts = both (byte == first) (begins_with keep text) is in
    let rest = begins-part keep text parts.1 in
    let same : byte ≡ first = eqb-true byte first parts.0 in
    (rest.0, λ i. sym same i ∷ rest.1 i)

begins-joined : (keep after : List ℕ) → begins_with keep (keep ++ after) ≡ true
begins-joined [] after = refl
begins-joined (byte ∷ keep) after = both-true (byte == byte) (begins_with keep (keep ++ after)) (eq-eqb byte byte refl) (begins-joined keep after)

begins-occurs : (keep text : List ℕ) → begins_with keep text ≡ true → occurs keep text ≡ true
begins-occurs keep [] is = is
begins-occurs keep (first ∷ text) is = or-first (begins_with keep (first ∷ text)) (occurs keep text) is

occurs-after : (before keep text : List ℕ) → begins_with keep text ≡ true → occurs keep (before ++ text) ≡ true
occurs-after [] keep text is = begins-occurs keep text is
occurs-after (first ∷ before) keep text is =
    or-second (begins_with keep (first ∷ (before ++ text))) (occurs keep (before ++ text)) (occurs-after before keep text is)

occurs-part : (keep text : List ℕ) → occurs keep text ≡ true → (before : List ℕ) × (after : List ℕ) × (text ≡ before ++ (keep ++ after))
occurs-part keep [] is = let part = begins-part keep [] is in ([], part.0, part.1)
occurs-part keep (first ∷ text) is =
    ⊎_elim
    (λ here. let part = begins-part keep (first ∷ text) here in ([], part.0, part.1))
    (λ later. let part = occurs-part keep text later in (first ∷ part.0, part.1, ap (λ t. first ∷ t) part.2))
    (one-of (begins_with keep (first ∷ text)) (occurs keep text) is)

pub occurs_as_part : OccursAsPart
occurs_as_part keep text = (
  λ is. occurs-part keep text is,
  λ part. subst (λ t. occurs keep t ≡ true) (sym part.2) (occurs-after part.0 keep (keep ++ part.1) (begins-joined keep part.1)),
)

-- the same at an index
at-begins : (keep text : List ℕ) → OccursAt text keep 0 → begins_with keep text ≡ true
at-begins [] text at = refl
at-begins (byte ∷ keep) [] at = absurd (let fits = at.fits in omega arith)
at-begins (byte ∷ keep) (first ∷ text) at =
    both-true (byte == first) (begins_with keep text) (eq-eqb byte first (sym (at.reads 0 (omega arith))))
    (at-begins keep text (record {
      fits = let fits = at.fits in omega arith;
      reads = λ j below. let next : 0 + suc j ≡ suc (0 + j) = omega arith in
          subst (λ i. slice_index (first ∷ text) i ≡ slice_index keep j) next (at.reads (suc j) (omega arith));
    }))

begins-at : (keep text : List ℕ) → begins_with keep text ≡ true → OccursAt text keep 0
begins-at [] text is = record { fits = omega arith; reads = λ j below. absurd (omega arith) }
begins-at (byte ∷ keep) [] is = absurd (false≢true is)
begins-at (byte ∷ keep) (first ∷ text) is =
    let parts = both (byte == first) (begins_with keep text) is in
    let rest = begins-at keep text parts.1 in
    record {
      fits = let fits = rest.fits in omega arith;
      reads = λ j below. let same : j ≡ 0 + j =
          omega arith in subst (λ i. slice_index (first ∷ text) i ≡ slice_index (byte ∷ keep) j) same (at_index parts.0 rest j below);
    }
  where
    at_index : (byte == first) ≡ true → OccursAt text keep 0 → (j : ℕ) → j < suc (length keep) → slice_index (first ∷ text) j ≡ slice_index (byte ∷ keep) j
    at_index same rest zero below = sym (eqb-true byte first same)
    at_index same rest (suc j) below = let at : 0 + j ≡ j = omega arith in subst (λ i. slice_index text i ≡ slice_index keep j) at (rest.reads j (omega arith))

later-at : (keep text : List ℕ) (first k : ℕ) → OccursAt text keep k → OccursAt (first ∷ text) keep (suc k)
later-at keep text first k at = record {
  fits = let fits = at.fits in omega arith;
  reads = λ j below. let next : suc (k + j) ≡ suc k + j = omega arith in subst (λ i. slice_index (first ∷ text) i ≡ slice_index keep j) next (at.reads j below);
}

earlier-at : (keep text : List ℕ) (first k : ℕ) → OccursAt (first ∷ text) keep (suc k) → OccursAt text keep k
earlier-at keep text first k at = record {
  fits = let fits = at.fits in omega arith;
  reads = λ j below. let next : suc k + j ≡ suc (k + j) = omega arith in subst (λ i. slice_index (first ∷ text) i ≡ slice_index keep j) next (at.reads j below);
}

some-occurs : (keep text : List ℕ) (k : ℕ) → OccursAt text keep k → occurs keep text ≡ true
some-occurs keep text zero at = begins-occurs keep text (at-begins keep text at)
some-occurs keep [] (suc k) at = absurd (let fits = at.fits in omega arith)
some-occurs keep (first ∷ text) (suc k) at =
    or-second (begins_with keep (first ∷ text)) (occurs keep text) (some-occurs keep text k (earlier-at keep text first k at))

occurs-some : (keep text : List ℕ) → occurs keep text ≡ true → (k : ℕ) × (k ≤ length text) × OccursAt text keep k
occurs-some keep [] is = (0, omega arith, begins-at keep [] is)
occurs-some keep (first ∷ text) is =
    ⊎_elim (λ here. (0, omega arith, begins-at keep (first ∷ text) here))
    (λ later. let at = occurs-some keep text later in (suc at.0, (let low = at.1 in omega arith), later-at keep text first at.0 at.2))
    (one-of (begins_with keep (first ∷ text)) (occurs keep text) is)

-- a search finds the bytes exactly where they occur
found-occurs : (keep text : List ℕ) (k : ℕ) → FindsNeedle text keep 0 (Some k) → occurs keep text ≡ true
found-occurs keep text k found = some-occurs keep text k found.1

lost-occurs : (keep text : List ℕ) → FindsNeedle text keep 0 None → occurs keep text ≡ false
lost-occurs keep text nowhere =
    ⊎_elim (λ is. absurd (let at = occurs-some keep text is in nowhere at.0 (omega arith) (let low = at.1 in omega arith) at.2)) (λ is. is)
    (either (occurs keep text))

pub found-is : (keep text : List ℕ) (r : Option ℕ) → FindsNeedle text keep 0 r → is_some r ≡ occurs keep text
found-is keep text None found = sym (lost-occurs keep text found)
found-is keep text (Some k) found = sym (found-occurs keep text k found)

suc-none : (o : Option ℕ) → option_map (λ k. suc k) o ≡ None → o ≡ None
suc-none None is = refl
suc-none (Some k) is = absurd (cc is)

holds-none : (keeps : List (List ℕ)) (text : List ℕ) → holds_all keeps text ≡ true → first_missing keeps text ≡ None
holds-none [] text is = refl
holds-none (keep ∷ keeps) text is =
    let parts = both (occurs keep text) (holds_all keeps text) is in
    rw parts.0 (ap (option_map (λ k. suc k)) (holds-none keeps text parts.1))

none-holds : (keeps : List (List ℕ)) (text : List ℕ) → first_missing keeps text ≡ None → holds_all keeps text ≡ true
none-holds [] text is = refl
none-holds (keep ∷ keeps) text is = ⊎_elim
    (λ occurs_is. both-true (occurs keep text) (holds_all keeps text) occurs_is
    (none-holds keeps text (suc-none (first_missing keeps text)
    (sym (ap (λ b. cond b (option_map (λ k. suc k) (first_missing keeps text)) (Some 0)) occurs_is) ∙ is))))
    (λ missing. absurd (cc (sym (ap (λ b. cond b (option_map (λ k. suc k) (first_missing keeps text)) (Some 0)) missing) ∙ is)))
    (either (occurs keep text))

pub holds_all_or_misses : HoldsAllOrMisses
holds_all_or_misses keeps text = (holds-none keeps text, none-holds keeps text)

negated : (a b : Bool) → a ≡ not b → b ≡ not a
negated true true is = absurd (false≢true (sym is))
negated true false is = refl
negated false true is = refl
negated false false is = absurd (false≢true is)

-- each keep text occurs where none is missing, and else one doesn't
missing-or-holds : (keeps : List (List ℕ)) (text : List ℕ) → is_some (first_missing keeps text) ≡ not (holds_all keeps text)
missing-or-holds keeps text = ⊎_elim
    (λ holds. ap is_some (holds-none keeps text holds) ∙ ap not (sym holds))
    (λ misses. by_missing (first_missing keeps text) (none-holds keeps text) misses)
    (either (holds_all keeps text))
  where
    by_missing : (o : Option ℕ) → (o ≡ None → holds_all keeps text ≡ true) → holds_all keeps text ≡ false → is_some o ≡ not (holds_all keeps text)
    by_missing None never misses = absurd (false≢true (sym misses ∙ never refl))
    by_missing (Some k) never misses = ap not (sym misses)

twice : (c : Bool) → not (not c) ≡ c
twice true = refl
twice false = refl

pub holds-is : (keeps : List (List ℕ)) (text : List ℕ) (b : Bool) (r : Option ℕ) → r ≡ first_missing keeps text → is_some r ≡ not b → b ≡ holds_all keeps text
holds-is keeps text b r is answer =
    negated (is_some r) b answer ∙ ap not (ap is_some is ∙ missing-or-holds keeps text) ∙ twice (holds_all keeps text)
