-- No text that may be asked has more than twice the bytes of the start, and one more.
use Rattle.std.proofs.Common.{◌+◌, ◌*◌, ◌≤◌, ℕ, List, length, ap, arith}
use Rattle.token_print.specs.declared.style.Style.{Style}
use Rattle.token_print.specs.Laws.{NoLongerThanStart, NoLongerThanTwice}
use Rattle.cert_check_texts.specs.Laws.{TextsAreShort}
use Rattle.cert_check_texts.specs.Texts.{IsPrintOf, IsTreeStart, TreeStart}

module _ (as_was : NoLongerThanStart) (squeezed : NoLongerThanTwice) where
  short_in : (from : TreeStart) (text : List ℕ) → IsTreeStart from → (style : Style) → IsPrintOf from style text → length text ≤ 2 * length from.start + 1
  short_in from text is Style.AsWas one =
      let skips = (one.printed_so).skips in
      omega (arith, ap length (one.printed_so).same, as_was (from.grammar).grammar skips from.start from.tokens one.kept is.utf8 is.has_tokens one.are_kept)
  short_in from text is Style.Squeezed one =
      let skips = (one.printed_so).skips in
      omega (arith, ap length (one.printed_so).same, squeezed (from.grammar).grammar skips from.start from.tokens one.kept is.utf8 is.has_tokens one.are_kept)

  pub texts_are_short : TextsAreShort
  texts_are_short from text is one = short_in from text is one.style one.print
