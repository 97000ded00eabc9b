use Rattle.std.proofs.Common.{◌≡◌, ℕ, [], ◌∷◌, ◌∙◌}
use Rattle.regex_class.specs.Ranges.{in_ranges, in_range}
use Rattle.regex_class.proofs.RangesLemmas.{or-false}
use Rattle.grammar_tree.specs.Chars.{is_surrogate}
use Rattle.grammar_tree.proofs.char_set.surrogates.Goals as goal

one_range : (x : ℕ) → in_ranges ((0xD800, 0xDFFF) ∷ []) x ≡ is_surrogate x
unfolding in_ranges in_range
one_range x = or-false (is_surrogate x)

pub returns : goal.returns
returns c = λ x le. c.in_ok-from_ranges.ensures x le ∙ one_range x
