-- What a reduction with respelling begins with, what it asks, and how it ends.
use Rattle.std.proofs.Common.{◌≡◌, ◌∙◌, ◌↔◌, ◌≤◌, ◌<◌, inl, inr, ℕ, Bool, true, All, List, [], ◌∷◌, Option, refl, sym, ap, subst, length, map, arith}
use Rattle.std.specs.Prelude.{slice_get}
use Rattle.std.specs.List.{cons_option, filter_map}
use Rattle.std.specs.Option.{option_map_or}
use Rattle.std.proofs.lemmas.Bool.{and_from, and_parts}
use Rattle.std.proofs.lemmas.List.Elements.{All-head, All-tail}
use Rattle.script_gate_trait.specs.declared.gate.Verdict.{Verdict}
use Rattle.normal_form.specs.Laws.{EqualLanguages}
use Rattle.normal_form.specs.declared.normal.Sym.{Sym}
use Rattle.normal_form.specs.Form.{NormalForm}
use Rattle.grammar_tree.specs.Lexes.{Piece, PlacedToken}
use Rattle.syntax_tree.specs.Laws.{ValidTreesAreDerived}
use Rattle.syntax_tree.specs.LeftLaws.{LeavesKeepKinds, LeftIsPart}
use Rattle.syntax_tree.specs.Trees.{PlainTree, leaves}
use Rattle.token_print.specs.Readings.{SpelledAreFound, spells}
use Rattle.token_print.specs.Spells.{SpelledKinds}
use Rattle.token_print.specs.declared.style.Style.{Style}
use Rattle.reduce_rounds.specs.Laws.{EndsWell}
use Rattle.reduce_rounds.specs.Trials.{IsTriedAtNo, Trials}
use Rattle.reduce_trees_mode.specs.Candidates.{InLanguage}
use Rattle.reduce_trees_mode.specs.Input.{IsInput, TreeInput}
use Rattle.reduce_trees_mode.specs.InStyles.{in_style}
use Rattle.reduce_trees_mode.specs.Laws.{TextsAreNoLonger}
use Rattle.reduce_trees_mode.specs.Listed.{skips_of}
use Rattle.reduce_trees_mode.proofs.Lent.{language_by_kinds}
use Rattle.reduce_trees.specs.Ends.{WalksAskCandidates, WalksBegin}
use Rattle.spell_shrink.specs.Respelling.{Respelling, numbers_of, own_spellings}
use Rattle.spell_shrink.specs.Texts.{IsListedRespelling, is_listed_respelling, respelled_pieces, text_of_respelling}
use Rattle.spell_shrink.specs.Respelled.{Reduced, Respelled, SpellState, spell_round}
use Rattle.spell_shrink.specs.SpellMode.{IsKeptInPhase, IsRespellingOf, is_listed_in_phase, spell_mode, text_in_phase}
use Rattle.spell_shrink.specs.Laws.{IsEndOfRespelling, IsSpellCandidate, RespellsCandidates, RespellsFromStart, RespellsToEnd, RoundsTryNeighbours}
use Rattle.spell_shrink.proofs.Own.{found_at, no_longer_text, own_text}
use Rattle.spell_shrink.proofs.Phases.{tried_as}

-- whether a respelling may be asked is decided
decided : SpelledAreFound → (input : TreeInput) (style : Style) (r : Respelling)
    → (is_listed_respelling input style r ≡ true) ↔ IsListedRespelling input style r
decided spelled input style r =
    let text = text_of_respelling input style r in
    let pieces = respelled_pieces input.tokens r in
    let reads : Bool = spells input.grammar.grammar text pieces in
    let admits : Bool = input.admits (numbers_of r) text in
    let law = spelled input.grammar.grammar input.grammar.start input.formed text pieces in (
      λ is. let parts = and_parts reads admits is in record { spells_it = law.0 parts.0; admitted = parts.1 },
      λ it. and_from reads admits (law.1 it.spells_it) it.admitted,
    )

pub respells_from_start : (round : NormalForm → Sym → PlainTree → Trials PlainTree) → WalksBegin round → RespellsFromStart round
respells_from_start round begins input is admitted = let start = begins input is admitted in (start.text, start.listed)

-- ---- the end

module _ (round : NormalForm → Sym → PlainTree → Trials PlainTree) (spelled : SpelledAreFound) (tries : RoundsTryNeighbours) (input : TreeInput)
    (V : List ℕ → Option Verdict) where
  abbrev Ends : SpellState → Type 0
  Ends = EndsWell (spell_mode round input) (IsKeptInPhase input) (λ one other. IsTriedAtNo ((spell_mode round input).round one) other) V

  ends_as : (state : SpellState) → Ends state → IsEndOfRespelling input V state
  ends_as (Reduced state) ends = absurd (let no = ends.last in cc no)
  ends_as (Respelled style r) ends =
      record {
        style = style;
        respelling = r;
        is_respelled = refl;
        yes_at_end = ends.yes_at_end;
        listed = (decided spelled input style r).0 ends.listed;
        minimal = λ other near listed. ends.minimal (Respelled style other)
            (tried_as (Respelled style) (spell_round input.start input.tokens r) other (tries input r other near))
            ((decided spelled input style other).1 listed);
      }

pub respells_to_end : (round : NormalForm → Sym → PlainTree → Trials PlainTree) → SpelledAreFound → RoundsTryNeighbours → RespellsToEnd round
respells_to_end round spelled tries input V state is ends = ends_as round spelled tries input V state ends

-- ---- what is asked

-- the kinds of a respelling are those of its tokens
kinds_are : (tokens : List PlacedToken) (r : Respelling) → All (λ i. i < length tokens) (numbers_of r)
    → map (λ (p : Piece). p.kind) (respelled_pieces tokens r) ≡ map (λ (t : PlacedToken). t.kind) (filter_map (slice_get tokens) (numbers_of r))
kinds_are tokens [] there = refl
kinds_are tokens (p ∷ r) there =
    let found = found_at tokens p.number (All-head (λ i. i < length tokens) p.number (numbers_of r) there) in
    let later = map (λ (q : Piece). q.kind) (respelled_pieces tokens r) in
    subst
    (λ (o : Option PlacedToken).
    option_map_or (λ (t : PlacedToken). t.kind) o 0 ∷ later
    ≡ map (λ (t : PlacedToken). t.kind) (cons_option o (filter_map (slice_get tokens) (numbers_of r))))
    (sym found.1)
    (ap (λ (kinds : List ℕ). found.0.kind ∷ kinds) (kinds_are tokens r (All-tail (λ i. i < length tokens) p.number (numbers_of r) there)))

module _ (kinds : SpelledKinds) (valid : ValidTreesAreDerived) (keep : LeavesKeepKinds) (equal : EqualLanguages) (part : LeftIsPart) (input : TreeInput)
    (is : IsInput input) where
  -- the text of a listed respelling of the tokens of a kept tree is in the language
  in_language : (style : Style) (r : Respelling) → IsRespellingOf input style r → IsListedRespelling input style r
      → InLanguage input.grammar (text_of_respelling input style r)
  in_language style r of listed =
      let text = text_of_respelling input style r in
      let found = kinds input.grammar.grammar text (respelled_pieces input.tokens r) listed.spells_it in
      language_by_kinds input is (in_style style of.tree) of.kept part valid keep equal text listed.spells_it.utf8 found.0 found.1
      (found.2 ∙ kinds_are input.tokens r of.spelled.kept.there
      ∙ ap (λ (numbers : List ℕ). map (λ (t : PlacedToken). t.kind) (filter_map (slice_get input.tokens) numbers)) of.numbers)

-- it isn't longer than the start
pub no_longer : TextsAreNoLonger → (input : TreeInput) → IsInput input → (style : Style) (r : Respelling) → IsRespellingOf input style r
    → length (text_of_respelling input style r) ≤ length input.start
no_longer short input is style r of =
    let skips = skips_of input in
    let own = no_longer_text skips input.start input.tokens style r of.no_longer in
    let same = ap (λ (numbers : List ℕ). length (text_of_respelling input style (own_spellings input.start input.tokens numbers))) of.numbers in
    let as_tree = ap (λ (text : List ℕ). length text) (own_text skips input.start input.tokens style (leaves of.tree)) in
    let of_tree = short input (in_style style of.tree) is of.kept in
    omega (arith, own, same, as_tree, of_tree)

module _ (round : NormalForm → Sym → PlainTree → Trials PlainTree) (asks : WalksAskCandidates round) (short : TextsAreNoLonger) (spelled : SpelledAreFound)
    (kinds : SpelledKinds) (valid : ValidTreesAreDerived) (keep : LeavesKeepKinds) (equal : EqualLanguages) (part : LeftIsPart) (input : TreeInput)
    (is : IsInput input) where
  asked : (text : List ℕ) (state : SpellState) → IsKeptInPhase input state → is_listed_in_phase input state ≡ true → text ≡ text_in_phase input state
      → IsSpellCandidate input text × (length text ≤ length input.start)
  asked text (Reduced state) kept listed same = (
    inl (asks input text is (record { state = state; kept = kept; listed = listed; same = same })),
    subst (λ (t : List ℕ). length t ≤ length input.start) (sym same) (short input state is kept),
  )
  asked text (Respelled style r) kept listed same =
      let may = (decided spelled input style r).0 listed in (
        inr
            (record {
              style = style;
              respelling = r;
              is_respelling = kept.spelled;
              listed = may;
              same = same;
              in_language = subst (InLanguage input.grammar) (sym same) (in_language kinds valid keep equal part input is style r kept may);
            }),
        subst (λ (t : List ℕ). length t ≤ length input.start) (sym same) (no_longer short input is style r kept),
      )

pub respells_candidates : (round : NormalForm → Sym → PlainTree → Trials PlainTree) → WalksAskCandidates round → TextsAreNoLonger → SpelledAreFound
    → SpelledKinds → ValidTreesAreDerived → LeavesKeepKinds → EqualLanguages → LeftIsPart → RespellsCandidates round
respells_candidates round asks short spelled kinds valid keep equal part input text is of =
    asked round asks short spelled kinds valid keep equal part input is text of.state of.kept of.listed of.same
