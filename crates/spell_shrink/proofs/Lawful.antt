-- The mode of two phases is lawful.
use Rattle.std.proofs.Common.{◌≡◌, ◌∙◌, ◌+◌, ◌&&◌, ℕ, suc, List, length, refl, sym, ap, subst, arith}
use Rattle.std.specs.Prelude.{IfSome}
use Rattle.std.proofs.lemmas.List.Elements.{All-map}
use Rattle.normal_form.specs.declared.normal.Sym.{Sym}
use Rattle.normal_form.specs.Form.{NormalForm}
use Rattle.syntax_tree.specs.LeftLaws.{LeftIsPart}
use Rattle.syntax_tree.specs.Trees.{PlainTree, leaves, weight}
use Rattle.token_print.specs.Readings.{spells}
use Rattle.token_print.specs.declared.style.Style.{Style}
use Rattle.token_print.specs.Kept.{AreKept}
use Rattle.reduce_rounds.specs.Mode.{BeginsPhase, IsLawful}
use Rattle.reduce_rounds.specs.Trials.{Trials, AllTried, EachIsSmaller}
use Rattle.reduce_trees_mode.specs.Input.{IsInput, TreeInput, TreeState}
use Rattle.reduce_trees_mode.specs.Laws.{TextsAreNoLonger}
use Rattle.reduce_trees_mode.specs.Listed.{IsKept, skips_of}
use Rattle.reduce_trees_mode.specs.TreeTrials.{opening_trials}
use Rattle.reduce_trees_mode.proofs.Lent.{are_kept}
use Rattle.reduce_trees.specs.Laws.{WalksAreLawful}
use Rattle.reduce_trees.specs.WalkMode.{walk_mode}
use Rattle.spell_shrink.specs.Respelling.{IsSpelled, Respelling, own_spellings, with_word_at}
use Rattle.spell_shrink.specs.Respelled.{Reduced, Respelled, SpellState, respelling_mode, shorter_words, spell_round, word_bytes}
use Rattle.spell_shrink.specs.SpellMode.{IsKeptInPhase, IsNoLonger, IsRespellingOf, respelled_next, round_in_phase, spell_measure, spell_mode}
use Rattle.spell_shrink.specs.Laws.{SpellModeIsLawful}
use Rattle.spell_shrink.proofs.Changed.{all_changed, at_index, same_numbers}
use Rattle.spell_shrink.proofs.Neighbours.{all_spelled, shorter_word, smaller_spelled, spelled_word}
use Rattle.spell_shrink.proofs.Own.{own, own_bytes, own_numbers, own_pieces, own_spelled, own_text}
use Rattle.spell_shrink.proofs.Phases.{all_as, smaller_as}
use Rattle.spell_shrink.proofs.SpelledWords.{Has}

module _ (input : TreeInput) where
  -- a respelling stays one of the tree's tokens with a shorter spelling
  pub stays : (style : Style) (r : Respelling) (k : ℕ) (word : List ℕ) → IsRespellingOf input style r
      → Has word (shorter_words input.start input.tokens r k) → IsRespellingOf input style (with_word_at r k word)
  stays style r k word of has = record {
    tree = of.tree;
    kept = of.kept;
    numbers = same_numbers r k word ∙ of.numbers;
    spelled = record {
      kept = subst (AreKept input.tokens) (sym (same_numbers r k word)) of.spelled.kept;
      spelled =
          all_changed (IsSpelled input.start input.tokens) r k word of.spelled.spelled (λ less. spelled_word input.start input.tokens r k word has);
    };
    no_longer =
        all_changed (IsNoLonger input) r k word of.no_longer
        (λ less. omega (arith, shorter_word input.start input.tokens r k word has, at_index (IsNoLonger input) r k of.no_longer less));
  }

  -- a round over respellings keeps them, and makes each yes smaller
  pub respellings_kept : (style : Style) (r : Respelling) → IsRespellingOf input style r
      → AllTried (IsRespellingOf input style) (spell_round input.start input.tokens r)
  respellings_kept style r of = all_spelled input.start input.tokens (IsRespellingOf input style) (stays style) (length r) 0 r of

  pub respellings_smaller : (r : Respelling) → EachIsSmaller word_bytes (word_bytes r) (spell_round input.start input.tokens r)
  respellings_smaller r = smaller_spelled input.start input.tokens (length r) 0 r

  -- so rounds over respellings alone are lawful
  pub respelling_lawful : (style : Style) (first : Respelling) → IsRespellingOf input style first
      → IsLawful (respelling_mode input style first) (IsRespellingOf input style)
  respelling_lawful style first of = record {
    keeps = record { start = of; opening = tt; round = respellings_kept style; phase = λ r kept. tt };
    smaller = λ r kept. respellings_smaller r;
    phases = λ r kept. tt;
  }

  module _ (is : IsInput input) (part : LeftIsPart) where
    -- what is left of the tree begins the next phase with its own spellings
    pub own_kept : (state : TreeState) → IsKept input state
        → IsRespellingOf input state.style (own_spellings input.start input.tokens (leaves state.tree))
    own_kept state kept =
        let numbers = leaves state.tree in
        let are = are_kept input is state kept part in
        let same = own_numbers input.start input.tokens numbers in
        record {
          tree = state.tree;
          kept = kept;
          numbers = same;
          spelled = record {
            kept = subst (AreKept input.tokens) (sym same) are;
            spelled = own_spelled input.start input.tokens numbers are.there;
          };
          no_longer = All-map (IsNoLonger input) (own input.start input.tokens) numbers (λ k d less. omega arith);
        }

    -- it may be asked where that may, and has fewer bytes than the start
    own_begins : (round : NormalForm → Sym → PlainTree → Trials PlainTree) → TextsAreNoLonger → (state : TreeState) → IsKept input state
        → BeginsPhase (spell_mode round input) (Reduced state)
        (Respelled state.style (own_spellings input.start input.tokens (leaves state.tree)))
    own_begins round short state kept =
        let numbers = leaves state.tree in
        let are = are_kept input is state kept part in
        let text = own_text (skips_of input) input.start input.tokens state.style numbers in
        let pieces = own_pieces input.start input.tokens numbers are.there in
        let same = own_numbers input.start input.tokens numbers in
        let few = own_bytes (skips_of input) input.start input.tokens state.style numbers in
        let as_long = ap (λ (t : List ℕ). length t) text in
        let no_longer = short input state is kept in
        record {
          listed = λ i. spells input.grammar.grammar (text i) (pieces i) && input.admits (same i) (text i);
          smaller = omega (arith, few, as_long, no_longer);
        }

module _ (round : NormalForm → Sym → PlainTree → Trials PlainTree) (walks : WalksAreLawful round) (short : TextsAreNoLonger) (part : LeftIsPart)
    (input : TreeInput) (is : IsInput input) where
  law : IsLawful (walk_mode round input) (IsKept input)
  law = walks input is

  in_round : (state : SpellState) → IsKeptInPhase input state → AllTried (IsKeptInPhase input) (round_in_phase round input state)
  in_round (Reduced state) kept =
      all_as Reduced (IsKept input) (IsKeptInPhase input) (λ other other_kept. other_kept) ((walk_mode round input).round state) (law.keeps.round state kept)
  in_round (Respelled style r) kept =
      all_as (Respelled style) (IsRespellingOf input style) (IsKeptInPhase input) (λ other other_kept. other_kept) (spell_round input.start input.tokens r)
      (respellings_kept input style r kept)

  in_phase : (state : SpellState) → IsKeptInPhase input state → IfSome (respelled_next input state) (IsKeptInPhase input)
  in_phase (Reduced state) kept = own_kept input is part state kept
  in_phase (Respelled style r) kept = tt

  in_measure : (state : SpellState) → IsKeptInPhase input state
      → EachIsSmaller (spell_measure input) (spell_measure input state) (round_in_phase round input state)
  in_measure (Reduced state) kept =
      smaller_as Reduced (λ (s : TreeState). weight s.tree) (spell_measure input) (suc (length input.start)) (λ s. refl) (weight state.tree)
      ((walk_mode round input).round state) (law.smaller state kept)
  in_measure (Respelled style r) kept =
      let same : word_bytes r + 0 ≡ word_bytes r = omega arith in
      subst (λ n. EachIsSmaller (spell_measure input) n (round_in_phase round input (Respelled style r))) same
      (smaller_as (Respelled style) word_bytes (spell_measure input) 0 (λ s. omega arith) (word_bytes r) (spell_round input.start input.tokens r)
      (respellings_smaller input r))

  begins : (state : SpellState) → IsKeptInPhase input state → IfSome (respelled_next input state) (BeginsPhase (spell_mode round input) state)
  begins (Reduced state) kept = own_begins input is part round short state kept
  begins (Respelled style r) kept = tt

  spell_lawful : IsLawful (spell_mode round input) (IsKeptInPhase input)
  spell_lawful = record {
    keeps = record {
      start = law.keeps.start;
      opening = all_as Reduced (IsKept input) (IsKeptInPhase input) (λ other other_kept. other_kept) (opening_trials input) law.keeps.opening;
      round = in_round;
      phase = in_phase;
    };
    smaller = in_measure;
    phases = begins;
  }

pub spell_mode_is_lawful : (round : NormalForm → Sym → PlainTree → Trials PlainTree) → WalksAreLawful round → TextsAreNoLonger → LeftIsPart
    → SpellModeIsLawful round
spell_mode_is_lawful round walks short part input is = spell_lawful round walks short part input is
