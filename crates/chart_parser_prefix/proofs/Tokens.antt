-- The kinds that symbols stand for.
use Rattle.std.proofs.Common.{◌≡◌, ◌⊎◌, inl, inr, ◌↔◌, ℕ, ◌+◌, ◌<◌, ◌≤◌, Bool, true, false, not, cond, ltb, List, [], ◌∷◌, ◌++◌}
use Rattle.std.proofs.Common.{Option, Some, None, length, take, get_or, slice_get, refl, sym, ap, ◌∙◌, subst, arith}
use Rattle.std.specs.Prelude.{filter}
use Rattle.std.specs.List.{Contains}
use Rattle.std.specs.Option.{option_map_or}
use Rattle.std.proofs.lemmas.Bool.{le-ltb, lt-ltb}
use Rattle.std.proofs.lemmas.List.{take_all}
use Rattle.std.proofs.lemmas.List.Elements.{Contains-append_cases, Contains-append_left, Contains-append_right}
use Rattle.std.proofs.lemmas.Option.{none-some, same_Some}
use Rattle.grammar_names.specs.KindLists.{IsPartOf, is_in, lacking}
use Rattle.normal_form.specs.declared.normal.Sym.{Sym}
use Rattle.normal_form.specs.declared.normal.Sym.TheVariants.{Kind, Set}
use Rattle.normal_form.specs.Form.{NormalForm}
use Rattle.chart_parser_ends.specs.inner.Exact.{IsTokenOf}
use Rattle.chart_parser_ends.specs.Positions.{HasExactly}
use Rattle.chart_parser_ends.proofs.Lent.{contains_none, contains_one, exactly_same}
use Rattle.chart_parser_prefix.specs.inner.Following.{AddsKinds, IsTokenOfOne}
use Rattle.chart_parser_prefix.specs.inner.Productive.{has_some}
use Rattle.chart_parser_prefix.proofs.Growing.{taken_before, taken_cases, taken_last}

-- What a filter keeps and what it doesn't are the whole list.
halves : (p : ℕ → Bool) (xs : List ℕ) → length (filter p xs) + length (filter (λ k. not (p k)) xs) ≡ length xs
halves p [] = refl
halves p (x ∷ xs) = by (p x) (halves p xs)
  where
    by : (b : Bool) → length (filter p xs) + length (filter (λ k. not (p k)) xs) ≡ length xs
        → length (cond b (x ∷ filter p xs) (filter p xs)) + length (cond (not b) (x ∷ filter (λ k. not (p k)) xs) (filter (λ k. not (p k)) xs)) ≡ length
        (x ∷ xs)
    by true e = omega (arith, e)
    by false e = omega (arith, e)

fewer : (m n : ℕ) (l : List ℕ) → m + length l ≡ n → ltb m n ≡ has_some l
fewer m n [] e = le-ltb m n (omega (arith, e))
fewer m n (k ∷ ks) e = lt-ltb m n (omega (arith, e))

-- A set has a kind where it lacks fewer than there are.
pub lacks_fewer : (all missing : List ℕ) → IsPartOf all missing → ltb (length missing) (length all) ≡ has_some (lacking all missing)
lacks_fewer all missing part =
    fewer (length missing) (length all) (lacking all missing) (ap (λ l. length l + length (lacking all missing)) (sym part) ∙ halves (is_in missing) all)

pub adds_nothing : {P : ℕ → Type 0} (old : List ℕ) → ((k : ℕ) → P k → ⊥) → AddsKinds P old old
adds_nothing {P} old none k = (λ c. inl c, by)
  where
    by : Contains old k ⊎ P k → Contains old k
    by (inl c) = c
    by (inr p) = absurd (none k p)

pub adds_list : {P : ℕ → Type 0} (old more : List ℕ) → ((k : ℕ) → Contains more k ↔ P k) → AddsKinds P old (old ++ more)
adds_list {P} old more is k = (λ c. to (Contains-append_cases old more k c), back)
  where
    to : Contains old k ⊎ Contains more k → Contains old k ⊎ P k
    to (inl c) = inl c
    to (inr c) = inr ((is k).0 c)

    back : Contains old k ⊎ P k → Contains (old ++ more) k
    back (inl c) = Contains-append_left old more k c
    back (inr p) = Contains-append_right old more k ((is k).1 p)

pub one_kind : (N : NormalForm) (own k : ℕ) → Contains (own ∷ []) k ↔ IsTokenOf N (Kind own) k
one_kind N own k = (λ c. sym (contains_one own k c), λ e. (0, omega arith, e))

pub kinds_in_set : (N : NormalForm) (g : ℕ) (set : Option (List ℕ)) (kinds : List ℕ) → slice_get N.sets g ≡ set → kinds ≡ option_map_or (λ l. l) set []
    → (k : ℕ) → Contains kinds k ↔ IsTokenOf N (Set g) k
kinds_in_set N g None kinds at e k = (λ c. absurd (contains_none k (subst (λ l. Contains l k) e c)), λ (ks, there, c). absurd (none-some ks (sym at ∙ there)))
kinds_in_set N g (Some set) kinds at e k =
    (λ c. (set, at, subst (λ l. Contains l k) e c), λ (ks, there, c). subst (λ l. Contains l k) (same_Some ks set (sym there ∙ at) ∙ sym e) c)

pub no_kinds : (N : NormalForm) (symbols : List Sym) (kinds : List ℕ) → kinds ≡ [] → (k : ℕ) → Contains kinds k ↔ IsTokenOfOne N (take 0 symbols) k
no_kinds N symbols kinds e k = (λ c. absurd (contains_none k (subst (λ l. Contains l k) e c)), λ (s, (i, l, at), is). absurd (omega (arith, l)))

pub kinds_more : (N : NormalForm) (symbols : List Sym) (i : ℕ) (s : Sym) (old new : List ℕ) → i < length symbols → s ≡ get_or symbols i s
    → ((k : ℕ) → Contains old k ↔ IsTokenOfOne N (take i symbols) k) → AddsKinds (IsTokenOf N s) old new → (k : ℕ) → Contains new k
    ↔ IsTokenOfOne N (take (i + 1) symbols) k
kinds_more N symbols i s old new l at before adds k = (λ c. to ((adds k).0 c), λ (t, c, is). (adds k).1 (back t is (taken_cases symbols i s t l c)))
  where
    to : Contains old k ⊎ IsTokenOf N s k → IsTokenOfOne N (take (i + 1) symbols) k
    to (inl c) = let (t, there, is) = (before k).0 c in (t, taken_before symbols i s t l there, is)
    to (inr is) = (s, subst (Contains (take (i + 1) symbols)) (sym at) (taken_last symbols i s l), is)

    back : (t : Sym) → IsTokenOf N t k → Contains (take i symbols) t ⊎ (t ≡ get_or symbols i s) → Contains old k ⊎ IsTokenOf N s k
    back t is (inl c) = inl ((before k).1 (t, c, is))
    back t is (inr e) = inr (subst (λ x. IsTokenOf N x k) (e ∙ sym at) is)

pub kinds_done : (N : NormalForm) (symbols : List Sym) (i : ℕ) (kinds result : List ℕ) → length symbols ≤ i
    → ((k : ℕ) → Contains kinds k ↔ IsTokenOfOne N (take i symbols) k) → HasExactly (Contains kinds) result → HasExactly (IsTokenOfOne N symbols) result
kinds_done N symbols i kinds result l is h =
    let whole : take i symbols ≡ symbols = take_all i symbols l in
    exactly_same (Contains kinds) (IsTokenOfOne N symbols) result (λ k c. subst (λ x. IsTokenOfOne N x k) whole ((is k).0 c))
    (λ k c. (is k).1 (subst (λ x. IsTokenOfOne N x k) (sym whole) c)) h
