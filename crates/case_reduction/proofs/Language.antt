-- Each program is in the language of Mini.
use Rattle.std.proofs.Common.{◌≡◌, ℕ, suc, zero, ◌+◌, ◌<◌, ◌≤◌, ◌%◌, ◌^◌, Bool, true, false, ◌&&◌, cond, nat_eq, nat_lt, List}
use Rattle.std.proofs.Common.{[], ◌∷◌, ◌++◌, map, codes, decimal, IsAscii, chars, refl, sym, subst, arith}
use Rattle.std.specs.List.{flat_map, range_with_len}
use Rattle.std.proofs.lemmas.Bool.{and_parts, ltb-true}
use Rattle.std.proofs.lemmas.Fmt.{IsAscii-decimal}
use Rattle.std.proofs.lemmas.Str.{IsAscii-append, IsUtf8-from_ascii, chars-IsAscii}
use Rattle.grammar_tree.specs.Written.{CheckedGrammar, WrittenGrammar}
use Rattle.grammar_tree.specs.Derives.{Alts, Term, Derives, RuleDerives}
use Rattle.grammar_tree.specs.Checked.{StartDerives}
use Rattle.grammar_tree.specs.Faults.{number_at}
use Rattle.grammar_tree.specs.Lexes.{PlacedToken, placed_tokens}
use Rattle.lexer.specs.Tokens.{HasTokens}
use Rattle.reduce_trees_mode.specs.Candidates.{InLanguage}
use Rattle.case_maker.specs.Cases.{case_text, form_line, function_text, target_line, target_of}
use Rattle.case_reduction.specs.Mini.{mini}
use Rattle.case_reduction.proofs.MiniKinds.{bodies_mini}
use Rattle.case_reduction.proofs.Functions.{case_derives, case_pieces, case_reads}

abbrev all_ascii : List ℕ → Bool
all_ascii [] = true
all_ascii (c ∷ w) = nat_lt c 128 && all_ascii w

pub ascii : (w : List ℕ) → all_ascii w ≡ true → IsAscii w
ascii [] h i = omega arith
ascii (c ∷ w) h zero = ltb-true c 128 (and_parts (nat_lt c 128) (all_ascii w) h).0
ascii (c ∷ w) h (suc i) = ascii w (and_parts (nat_lt c 128) (all_ascii w) h).1 i

form_ascii : (n : ℕ) → IsAscii (form_line n)
form_ascii zero = ascii (form_line 0) refl
form_ascii (suc zero) = ascii (form_line 1) refl
form_ascii (suc (suc zero)) = ascii (form_line 2) refl
form_ascii (suc (suc (suc n))) = ascii (form_line 3) refl

target_ascii : (b : Bool) → IsAscii (cond b target_line [])
target_ascii true = ascii target_line refl
target_ascii false = ascii [] refl

function_ascii : (index : ℕ) (is_target : Bool) → index < 2 ^ 64 → IsAscii (function_text index is_target)
function_ascii index is_target small =
    let end : List ℕ = codes "}\n" in
    let target : List ℕ = cond is_target target_line [] in
    let third : List ℕ = form_line ((index + 2) % 4) in
    let second : List ℕ = form_line ((index + 1) % 4) in
    let first : List ℕ = form_line (index % 4) in
    let head : List ℕ = codes "(int a, char b) {\n" in
    IsAscii-append (codes "int f") (decimal index ++ (head ++ (first ++ (second ++ (third ++ (target ++ end)))))) (ascii (codes "int f") refl)
    (IsAscii-append (decimal index) (head ++ (first ++ (second ++ (third ++ (target ++ end))))) (IsAscii-decimal index small)
    (IsAscii-append head (first ++ (second ++ (third ++ (target ++ end)))) (ascii head refl)
    (IsAscii-append first (second ++ (third ++ (target ++ end))) (form_ascii (index % 4))
    (IsAscii-append second (third ++ (target ++ end)) (form_ascii ((index + 1) % 4))
    (IsAscii-append third (target ++ end) (form_ascii ((index + 2) % 4))
    (IsAscii-append target end (target_ascii is_target) (ascii end refl)))))))

all_are_ascii : (f : ℕ → List ℕ) (first n : ℕ) → ((index : ℕ) → index < first + n → IsAscii (f index)) → IsAscii (flat_map f (range_with_len first n))
all_are_ascii f first zero each = ascii [] refl
all_are_ascii f first (suc n) each =
    IsAscii-append (f first) (flat_map f (range_with_len (first + 1) n)) (each first (omega arith))
    (all_are_ascii f (first + 1) n (λ index h. each index (omega (arith, h))))

pub case_ascii : (number size : ℕ) → size ≤ 1500 → IsAscii (case_text number size)
unfolding case_text
case_ascii number size small =
    all_are_ascii (λ index. function_text index (nat_eq index (target_of number size))) 0 size
    (λ index h. function_ascii index (nat_eq index (target_of number size)) (omega (arith, h, small)))

-- The grammar is Mini, and its start is the first rule.
pub record IsMini (grammar : CheckedGrammar) : Type 0 where
  pub same : grammar.grammar ≡ mini
  pub start : grammar.start ≡ 0

pub in_language : (grammar : CheckedGrammar) (number size : ℕ) → IsMini grammar → size ≤ 1500 → InLanguage grammar (case_text number size)
in_language grammar number size is small =
    let text : List ℕ = case_text number size in
    let tokens : List PlacedToken = placed_tokens mini 0 (case_pieces number size) in
    let same : chars text ≡ text = chars-IsAscii text (case_ascii number size small) in
    let found : HasTokens mini (chars text) tokens =
    subst (λ x. HasTokens mini x tokens) (sym same) (case_pieces number size, case_reads number size small, refl) in
    let derived : RuleDerives mini 0 (map (λ (t : PlacedToken). t.kind) tokens) =
    subst (λ (x : List Alts). Derives x (Term.rule 0) (map (λ (t : PlacedToken). t.kind) tokens)) (sym bodies_mini) (case_derives number size 0) in
    record {
      utf8 = IsUtf8-from_ascii text (case_ascii number size small);
      tokens = tokens;
      has = subst (λ (G : WrittenGrammar). HasTokens G (chars text) tokens) (sym is.same) found;
      derived = start_derives is tokens derived;
    }
  where
    start_derives : IsMini grammar → (tokens : List PlacedToken) → RuleDerives mini 0 (map (λ (t : PlacedToken). t.kind) tokens)
        → StartDerives grammar (map (λ (t : PlacedToken). t.kind) tokens)
    start_derives is tokens derived =
        let w : List ℕ = map (λ (t : PlacedToken). t.kind) tokens in
        let P : WrittenGrammar → Type 0 = λ G. RuleDerives G (number_at G grammar.start) w in
        subst P (sym is.same) (subst (λ x. RuleDerives mini (number_at mini x) w) (sym is.start) derived)
