use Rattle.std.proofs.Common.{◌≡◌, ◌≢◌, ◌++◌, List, ℕ, None, Some, inl, inr, length, drop, sym, ◌∙◌, arith}
use Rattle.std.proofs.lemmas.Bool.{both_ways, le-leb, leb-true}
use Rattle.std.proofs.lemmas.Bool.Decides.{Decides-eqb}
use Rattle.std.proofs.lemmas.Slice.Eq.{starts_is, strip_prefix_is}
use Rattle.reduce_journal.specs.declared.head.Head.TheVariants.{Version1}
use Rattle.reduce_journal.specs.Journal.{head_text}
use Rattle.reduce_journal.proofs.Heads.{second}
use Rattle.reduce_journal.proofs.BegunHeads.{begun_digits, begun_short, digits_begun, first_begun, second_begun}
use Rattle.reduce_journal.proofs.head.is_head_begun.Goals as goal

pub returns-then-bytes-le-DIGITS_END : goal.returns-then-bytes-le-DIGITS_END
returns-then-bytes-le-DIGITS_END c =
    let bytes : List ℕ = c.args.bytes.now in
    let are : bytes ≡ second ++ c.in-Some.digits.now = strip_prefix_is Decides-eqb bytes second (Some c.in-Some.digits) c.in-Some.ensures.cases in (
      λ all. digits_begun bytes c.in-Some.digits.now are (omega arith) (sym c.are_digits.ensures ∙ all),
      λ begun. c.are_digits.ensures ∙ (begun_digits bytes c.in-Some.digits.now are begun).1,
    )

pub returns-else-bytes-le-DIGITS_END : goal.returns-else-bytes-le-DIGITS_END
returns-else-bytes-le-DIGITS_END c =
    let bytes : List ℕ = c.args.bytes.now in
    let are : bytes ≡ second ++ c.in-Some.digits.now = strip_prefix_is Decides-eqb bytes second (Some c.in-Some.digits) c.in-Some.ensures.cases in
    (λ few. absurd (omega (arith, leb-true (length bytes) 83 few)), λ begun. le-leb (length bytes) 83 (begun_digits bytes c.in-Some.digits.now are begun).0)

pub returns-then-starts_with : goal.returns-then-starts_with
returns-then-starts_with c =
    let bytes : List ℕ = c.args.bytes.now in
    let is = starts_is Decides-eqb second bytes c.starts_with.result c.starts_with.ensures.value in
    (λ there. second_begun bytes (drop (length bytes) second) (is.0 there), λ begun. c.if-starts_with.true)

pub returns-then-bytes : goal.returns-then-bytes
returns-then-bytes c =
    let bytes : List ℕ = c.args.bytes.now in
    let lacks : (digits : List ℕ) → bytes ≢ second ++ digits = strip_prefix_is Decides-eqb bytes second None c.in-None.ensures.cases in
    let is_second = starts_is Decides-eqb second bytes c.starts_with.result c.starts_with.ensures.value in
    let is_first = starts_is Decides-eqb (head_text Version1) bytes c.starts_with-then-bytes.result c.starts_with-then-bytes.ensures.value in (
      λ there. first_begun bytes (drop (length bytes) (head_text Version1)) (omega arith) (is_first.0 there),
      λ begun. elim (begun_short bytes lacks begun) [
        | inl front ↦ absurd (both_ways c.starts_with.result c.if-starts_with.false (is_second.1 front.0 front.1))
        | inr front ↦ is_first.1 front.1 front.2
      ],
    )
