-- Texts that name lines.
use Rattle.std.proofs.Common.{◌≡◌, ◌∙◌, ℕ, ◌+◌, ◌<◌, Bool, true, false, List, [], map, length, get_or, Some, None}
use Rattle.std.proofs.Common.{ap, arith, sym, if◌then◌else◌}
use Rattle.std.specs.Borrow.{Bor}
use Rattle.std.specs.List.{after_first, list_all, position_or_len}
use Rattle.std.proofs.lemmas.Bool.{and_left, and_right}
use Rattle.std.proofs.lemmas.List.{drop_all}
use Rattle.std.proofs.lemmas.List.Folds.{list_all_at, list_all-map}
use Rattle.std.proofs.lemmas.Simd.{map-map}
use Rattle.command_words.specs.Options.{LineSpan, is_hyphen, is_number_in, is_span_in, span_of, takes_value}
use Rattle.command_words.specs.Tables.{any_lines}
use Rattle.command_words.specs.inner.Found.{spans_in}

-- a text without a hyphen is none
pub no_hyphen : (text : List ℕ) → position_or_len is_hyphen text ≡ length text → is_span_in 1 4294967295 text ≡ false
no_hyphen text none =
    let after : after_first is_hyphen text ≡ [] = drop_all (position_or_len is_hyphen text + 1) text (omega arith) in
    and_right _ _ (and_left _ _ (ap (is_number_in 1 4294967295) after))

-- one of the texts is none
pub no_spans_in : (texts : List (Bor (List ℕ))) (i : ℕ) (d : Bor (List ℕ)) → i < length texts → is_span_in 1 4294967295 (get_or texts i d).now ≡ false
    → None ≡ spans_in (map (λ text. text.now) texts)
no_spans_in texts i d inside is =
    sym (ap (λ (b : Bool). if b then Some (map span_of (map (λ text. text.now) texts)) else None)
    (list_all-map (takes_value any_lines) (λ text. text.now) texts ∙ list_all_at (λ (text : Bor (List ℕ)). takes_value any_lines text.now) texts i d inside is))

-- each of them is such
pub these_spans : (texts : List (Bor (List ℕ))) (spans : List LineSpan) → spans ≡ map (λ text. span_of text.now) texts
    → list_all (λ text. takes_value any_lines text.now) texts ≡ true → Some spans ≡ spans_in (map (λ text. text.now) texts)
these_spans texts spans read are =
    ap (λ (s : List LineSpan). Some s) (read ∙ sym (map-map span_of (λ (text : Bor (List ℕ)). text.now) texts))
    ∙ sym (ap (λ (b : Bool). if b then Some (map span_of (map (λ text. text.now) texts)) else None)
    (list_all-map (takes_value any_lines) (λ text. text.now) texts ∙ are))
