-- How calls are replaced by states for their rules.
use Rattle.std.proofs.Common.{◌≡◌, ◌≢◌, ◌<◌, ◌≤◌, ◌⊎◌, inl, inr, ◌↔◌, ℕ, List, [], ◌+◌, Some, None, slice_get}
use Rattle.std.proofs.Common.{slice_index_or, length, refl, sym, ap, ◌∙◌, subst, arith}
use Rattle.std.proofs.lemmas.Option.{slice_get_read}
use Rattle.std.proofs.Math.ListN.{set, length-set}
use Rattle.std.proofs.lemmas.Bool.{cases_lt}
use Rattle.grammar_tree.specs.Written.{WrittenRule}
use Rattle.grammar_tree.specs.Laws.{CutsInto}
use Rattle.lexer_match.specs.declared.nfa.State.{State}
use Rattle.lexer_match.specs.Nfa.{Reads, IsClosed}
use Rattle.lexer_nfa.specs.inner.Compile.{AreExpanded, Implements, ImplementsAll, IsAdded, IsCompiled, IsExpanded, IsNoCall, MatchesRuleAt}
use Rattle.lexer_match.proofs.Lent.{call_reads, get_within, set_at, set_other, split_reads, both_ways}
use Rattle.lexer_nfa.proofs.Added.{set_closed}

two_states : (x y : State) → Some x ≡ Some y → x ≡ y
two_states x y e = cc

either : {A : Type 0} → (A ⊎ A) ↔ A
either {A} = (pick, λ a. inl a)
  where
    pick : A ⊎ A → A
    pick (inl a) = a
    pick (inr a) = a

-- a call goes on where the states for its rule begin
module _ (R : List WrittenRule) (old mid : List State) (number rule entry next : ℕ) (at : slice_get old number ≡ Some (State.Call rule next))
    (some : 0 < number) (a : IsAdded R (MatchesRuleAt R rule) old mid entry next) where
  abbrev replaced : List State
  replaced = set mid number (State.Split entry entry)

  same_length : length replaced ≡ length mid
  same_length = length-set mid number (State.Split entry entry)

  inside : number < length old
  inside = get_within old (State.Call rule next) number at

  split_at : slice_get replaced number ≡ Some (State.Split entry entry)
  split_at = set_at mid (State.Split entry entry) number (omega (arith, inside, a.longer))

  module _ (low : ℕ) (h : low ≤ number) (P : List State) (all : ImplementsAll R P replaced low (length replaced)) where
    beyond : ImplementsAll R P mid (length old) (length mid)
    beyond n state from to g =
        all n state (omega (arith, h, inside, from)) (omega (arith, to, same_length))
        (set_other mid (State.Split entry entry) number n (λ e. omega (arith, e, from, inside)) ∙ g)

    splits : slice_get P number ≡ Some (State.Split entry entry)
    splits = all number (State.Split entry entry) h (omega (arith, inside, a.longer, same_length)) split_at

    call_means : (w : List ℕ) → Reads P number w ↔ CutsInto (MatchesRuleAt R rule) (Reads P next) w
    call_means w = both_ways (both_ways (split_reads P number entry entry w some splits) either) (a.means P beyond w)

    here : (n : ℕ) (state : State) → n ≡ number → slice_get old n ≡ Some state → Implements R P n state
    here n state e g =
        let is : State.Call rule next ≡ state = two_states (State.Call rule next) state (sym at ∙ ap (λ x. slice_get old x) (sym e) ∙ g) in
        let Q : State → Type 0 = λ x. Implements R P n x in
        let S : ℕ → Type 0 = λ x. (w : List ℕ) → Reads P x w ↔ CutsInto (MatchesRuleAt R rule) (Reads P next) w in
        subst Q is (subst S (sym e) call_means)

    other : (n : ℕ) (state : State) → n ≢ number → low ≤ n → n < length old → slice_get old n ≡ Some state → Implements R P n state
    other n state d from to g =
        all n state from (omega (arith, to, a.longer, same_length)) (set_other mid (State.Split entry entry) number n d ∙ a.kept n (omega arith) to ∙ g)

    all_old : ImplementsAll R P old low (length old)
    all_old n state from to g = pick (cases_lt n number) (cases_lt number n)
      where
        pick : (n < number) ⊎ (number ≤ n) → (number < n) ⊎ (n ≤ number) → Implements R P n state
        pick (inl k) m = other n state (λ e. omega (arith, e, k)) from to g
        pick (inr k) (inl m) = other n state (λ e. omega (arith, e, m)) from to g
        pick (inr k) (inr m) = here n state (omega (arith, k, m)) g

  pub expanded_call : (new : List State) → new ≡ replaced → IsExpanded R old new number
  expanded_call new made =
      let Q : List State → Type 0 = λ x. IsExpanded R old x number in
      let it : IsExpanded R old replaced number =
      record {
        longer = omega (arith, a.longer, same_length);
        closed = set_closed mid number (State.Split entry entry) a.closed (a.inside, a.inside);
        kept = λ n h d. set_other mid (State.Split entry entry) number n d ∙ a.kept n (omega arith) h;
        expanded = λ state there. let S : State → Type 0 = λ x. IsNoCall x in subst S (two_states (State.Split entry entry) state (sym split_at ∙ there)) tt;
        means = λ low h P all. all_old low h P all;
      }
      in
      subst Q (sym made) it

pub expanded_none : (R : List WrittenRule) (old : List State) (first : ℕ) → IsClosed old → AreExpanded R old old first first
expanded_none R old first closed =
    record {
      longer = omega arith;
      closed = closed;
      kept = λ n low high. refl;
      expanded = λ n state low high g. absurd (omega (arith, low, high));
      means = λ P all. all;
    }

-- one state more
pub expanded_more : (R : List WrittenRule) (old mid new : List State) (first number : ℕ) → first ≤ length old → first ≤ number → number < length mid
    → AreExpanded R old mid first number → IsExpanded R mid new number → AreExpanded R old new first (number + 1)
expanded_more R old mid new first number within low inside before x =
    record {
      longer = omega (arith, before.longer, x.longer);
      closed = x.closed;
      kept = λ n from to. x.kept n (omega (arith, to, within, before.longer)) (λ e. omega (arith, e, to, low)) ∙ before.kept n from to;
      expanded = λ n state from to g. pick n state from to g (cases_lt n number);
      means = λ P all. before.means P (x.means first low P all);
    }
  where
    pick : (n : ℕ) (state : State) → first ≤ n → n < number + 1 → slice_get new n ≡ Some state → (n < number) ⊎ (number ≤ n) → IsNoCall state
    pick n state from to g (inl h) = before.expanded n state from h (sym (x.kept n (omega (arith, h, inside)) (λ e. omega (arith, e, h))) ∙ g)
    pick n state from to g (inr h) =
        let same : n ≡ number = omega (arith, h, to) in
        x.expanded state (ap (λ k. slice_get new k) (sym same) ∙ g)

pub expanded_all : (R : List WrittenRule) (old new : List State) (first number : ℕ) → length new ≤ number → AreExpanded R old new first number
    → AreExpanded R old new first (length new)
expanded_all R old new first number h x =
    record {
      longer = x.longer;
      closed = x.closed;
      kept = x.kept;
      expanded = λ n state from to g. x.expanded n state from (omega (arith, to, h)) g;
      means = x.means;
    }

-- the NFA has a state that is no call
no_call_is : (R : List WrittenRule) (P : List State) (n : ℕ) (state : State) → IsNoCall state → slice_get P n ≡ Some state → Implements R P n state
no_call_is R P n State.Never none g = g
no_call_is R P n (State.Char c next) none g = g
no_call_is R P n (State.Set s next) none g = g
no_call_is R P n (State.Split x y) none g = g
no_call_is R P n (State.Call rule next) none g = absurd none

pub compiled : {R : List WrittenRule} (Language : List ℕ → Type 0) (old mid new : List State) (entry next : ℕ) → IsAdded R Language old mid entry next
    → AreExpanded R mid new (length old) (length new) → IsCompiled Language old new entry next
compiled {R} Language old mid new entry next a x =
    record {
      longer = omega (arith, a.longer, x.longer);
      kept = λ n low high. x.kept n low high ∙ a.kept n low high;
      inside = omega (arith, a.inside, x.longer);
      closed = x.closed;
      means = λ P same w. a.means P (x.means P (λ n state from to g. no_call_is R P n state (x.expanded n state from to g) (same n from to ∙ g))) w;
    }

-- where no rule is there, a call reads nothing, and so does what replaces it
no_rule_is : (P : List State) (n : ℕ) (state : State) → 0 < n → slice_get P n ≡ Some state → Implements [] P n state
no_rule_is P n State.Never some g = g
no_rule_is P n (State.Char c next) some g = g
no_rule_is P n (State.Set s next) some g = g
no_rule_is P n (State.Split x y) some g = g
no_rule_is P n (State.Call rule next) some g =
    λ w. (
      λ r. absurd (call_reads P n rule next w some g r),
      λ (u, v, e, (r, at, m), more). let bad : None ≡ Some (WrittenRule.lexer_rule r) = at in
          absurd (cc),
    )

pub compiled_alone : (Language : List ℕ → Type 0) (old new : List State) (entry next : ℕ) → next < length old → IsAdded [] Language old new entry next
    → IsCompiled Language old new entry next
compiled_alone Language old new entry next h a =
    record {
      longer = a.longer;
      kept = a.kept;
      inside = a.inside;
      closed = a.closed;
      means = λ P same w. a.means P (λ n state from to g. no_rule_is P n state (omega (arith, h, from)) (same n from to ∙ g)) w;
    }

pub state_is : (states : List State) (number : ℕ) (x state : State) → number < length states → x ≡ slice_index_or states number x → x ≡ state
    → slice_get states number ≡ Some state
state_is states number x state h e is = slice_get_read states (length states) number x refl h e ∙ ap Some is
