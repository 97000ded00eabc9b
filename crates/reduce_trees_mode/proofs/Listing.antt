-- Which states may be asked, and that their texts are candidates.
use Rattle.std.proofs.Common.{◌≡◌, ℕ, ◌<◌, Bool, true, false, List, length, map, slice_get, refl, sym, ap, ◌∙◌, subst}
use Rattle.std.specs.Prelude.{◌&&◌}
use Rattle.std.specs.List.{All, filter_map, range_with_len}
use Rattle.std.specs.Str.{chars, IsUtf8}
use Rattle.std.proofs.lemmas.List.{length-map}
use Rattle.grammar_tree.specs.Lexes.{PlacedToken}
use Rattle.lexer.specs.Tokens.{HasTokens}
use Rattle.normal_form.specs.declared.normal.Sym.{Sym}
use Rattle.normal_form.specs.declared.normal.Sym.TheVariants.{Rule}
use Rattle.normal_form.specs.Form.{NormalForm}
use Rattle.normal_form.specs.Laws.{EqualLanguages}
use Rattle.normal_form.specs.NormalDerives.{NormalDerives}
use Rattle.normal_form.specs.NormalOf.{normal_of}
use Rattle.token_print.specs.Readings.{SpelledAreFound, spells}
use Rattle.token_print.specs.Spelling.{kinds_and_spellings}
use Rattle.syntax_tree.specs.Trees.{kinds_of, leaves, weight}
use Rattle.syntax_tree.specs.Laws.{ValidTreesAreDerived}
use Rattle.syntax_tree.specs.LeftLaws.{LeavesKeepKinds, LeftIsPart}
use Rattle.token_print.specs.Kept.{AreKept}
use Rattle.token_print.specs.Laws.{KeptKinds, PrintedWithSkips, all_kept}
use Rattle.reduce_trees_mode.specs.Input.{IsInput, TreeInput, TreeState}
use Rattle.reduce_trees_mode.specs.Candidates.{InLanguage}
use Rattle.reduce_trees_mode.specs.Listed.{IsKept, IsListed, text_of_state}
use Rattle.reduce_trees_mode.specs.Laws.{ListedAreCandidates, ListedIsDecided}
use Rattle.reduce_trees_mode.proofs.Leaves.{leaves_from, leaves_length, mapped_at, range_below, sublist_below}

pub and_true : (a b : Bool) → a && b ≡ true → (a ≡ true) × (b ≡ true)
and_true true b e = (refl, e)
and_true false b e = absurd (let no : false ≡ true = e in cc)

both_true : (a b : Bool) → a ≡ true → b ≡ true → a && b ≡ true
both_true a b one two = ap (λ (x : Bool). x && b) one ∙ two

-- whether the state's text keeps its tokens
abbrev keeps_them : TreeInput → TreeState → Bool
keeps_them input state = spells input.grammar.grammar (text_of_state input state) (kinds_and_spellings input.start input.tokens (leaves state.tree))

pub listed_is_decided : SpelledAreFound → ListedIsDecided
listed_is_decided spelled input state =
    let law =
    spelled input.grammar.grammar input.grammar.start input.formed (text_of_state input state)
    (kinds_and_spellings input.start input.tokens (leaves state.tree)) in (
      λ is.
          let both = and_true (keeps_them input state) (input.admits (leaves state.tree) (text_of_state input state)) is in
          record { keeps = law.0 both.0; admitted = both.1 },
      λ it. both_true (keeps_them input state) (input.admits (leaves state.tree) (text_of_state input state)) (law.1 it.keeps) it.admitted,
    )

module _ (input : TreeInput) (of : IsInput input) where
  pub weight_whole : weight input.whole ≡ length input.tokens
  weight_whole = sym (leaves_length (λ k i. k) input.whole) ∙ ap length of.kinds_are ∙ length-map input.tokens (λ (t : PlacedToken). t.kind)

  pub leaves_whole : leaves input.whole ≡ all_kept input.tokens
  leaves_whole = leaves_from 0 input.whole of.is_whole.tokens ∙ ap (λ (n : ℕ). range_with_len 0 n) weight_whole

  module _ (state : TreeState) (kept : IsKept input state) (part : LeftIsPart) where
    pub are_kept : AreKept input.tokens (leaves state.tree)
    are_kept =
        record {
          rise = kept.fits.rising;
          there = sublist_below (length input.tokens) (leaves state.tree) (leaves input.whole) (part input.whole state.tree kept.left).leaves_are
              (subst (λ (l : List ℕ). All (λ i. i < length input.tokens) l) (sym leaves_whole) (range_below (length input.tokens)));
        }

    -- the kinds of the leaves are those of their tokens
    kinds_left : LeavesKeepKinds → kinds_of state.tree ≡ map (λ (t : PlacedToken). t.kind) (filter_map (slice_get input.tokens) (leaves state.tree))
    kinds_left keep =
        keep input.whole state.tree of.is_whole.tokens kept.left
        ∙ ap (λ (ks : List ℕ). filter_map (λ i. slice_get ks i) (leaves state.tree)) of.kinds_are
        ∙ mapped_at (λ (t : PlacedToken). t.kind) input.tokens (leaves state.tree)

    -- the start rule derives them in the normal form
    derived : ValidTreesAreDerived → NormalDerives (normal_of input.grammar) (Rule (normal_of input.grammar).start) (kinds_of state.tree)
    derived valid =
        subst (λ (N : NormalForm). NormalDerives N (Rule N.start) (kinds_of state.tree)) of.form_is
        (subst (λ (s : Sym). NormalDerives input.form s (kinds_of state.tree)) of.symbol_is (valid input.form input.symbol state.tree kept.fits.valid))

    -- a text whose tokens have these kinds is in the language
    pub language_by_kinds : ValidTreesAreDerived → LeavesKeepKinds → EqualLanguages → (text : List ℕ) → IsUtf8 text → (found : List PlacedToken)
        → HasTokens input.grammar.grammar (chars text) found
        → map (λ (t : PlacedToken). t.kind) found ≡ map (λ (t : PlacedToken). t.kind) (filter_map (slice_get input.tokens) (leaves state.tree))
        → InLanguage input.grammar text
    language_by_kinds valid keep equal text utf8 found has same =
        record {
          utf8 = utf8;
          tokens = found;
          has = has;
          derived = ((equal input.grammar of.checked).starts (map (λ (t : PlacedToken). t.kind) found)).1
              (subst (λ (w : List ℕ). NormalDerives (normal_of input.grammar) (Rule (normal_of input.grammar).start) w) (kinds_left keep ∙ sym same)
              (derived valid));
        }

    pub in_language : ValidTreesAreDerived → LeavesKeepKinds → KeptKinds → EqualLanguages → IsListed input state
        → InLanguage input.grammar (text_of_state input state)
    in_language valid keep kinds equal listed =
        let found = kinds input.grammar.grammar input.start input.tokens (leaves state.tree) (text_of_state input state) listed.keeps in
        language_by_kinds valid keep equal (text_of_state input state) listed.keeps.utf8 found.0 found.1 found.2

pub listed_are_candidates : PrintedWithSkips → LeftIsPart → ValidTreesAreDerived → LeavesKeepKinds → KeptKinds → EqualLanguages → ListedAreCandidates
listed_are_candidates printed part valid keep kinds equal input state of kept listed =
    record {
      kept = leaves state.tree;
      style = state.style;
      are_kept = are_kept input of state kept part;
      printed_so =
          (printed input.grammar.grammar input.grammar.start input.formed input.start input.tokens (leaves state.tree) state.style
          (text_of_state input state)).1 refl;
      keeps = listed.keeps;
      admitted = listed.admitted;
      in_language = in_language input of state kept part valid keep kinds equal listed;
    }
