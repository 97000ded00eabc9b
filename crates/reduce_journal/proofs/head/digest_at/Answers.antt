use Rattle.std.proofs.Common.{◌≡◌, ◌≤◌, ℕ, List, true, false, Result, Ok, arith, length, ap, ◌∙◌}
use Rattle.std.specs.Result.{is_ok, result_ok}
use Rattle.hex.specs.Hex.{decode_sized}
use Rattle.hex.specs.declared.error.FromHexError.{FromHexError}
use Rattle.reduce_journal.proofs.Heads.{decoded, digits_there, found_digest}
use Rattle.reduce_journal.proofs.head.digest_at.Goals as goal

pub returns-in_err-digits-clause-each : goal.returns-in_err-digits-clause-each
returns-in_err-digits-clause-each c = λ start rest is begins.
    let long : 83 ≤ length c.args.bytes.now = digits_there start rest c.args.bytes.now is begins in
    let some = c.in_err-digits.ensures.lookup.1 (omega arith, long) in absurd (cc some)

pub returns-in_err-bytes-clause-each : goal.returns-in_err-bytes-clause-each
returns-in_err-bytes-clause-each c = λ start rest is begins.
    let e : c.from_hex.result ≡ Ok start.bytes =
    c.from_hex.ensures ∙ (ap (λ (t : List ℕ). decode_sized t 32) c.in_ok-digits.ensures.lookup.0.2 ∙ decoded start rest c.args.bytes.now is begins) in
    let no : false ≡ true = c.in_err-bytes.ensures.variant ∙ ap (λ (r : Result (List ℕ) FromHexError). is_ok r) e in cc no

pub returns-clause-each : goal.returns-clause-each
returns-clause-each c = λ start rest is begins.
    let e : c.from_hex.result ≡ Ok start.bytes =
    c.from_hex.ensures ∙ (ap (λ (t : List ℕ). decode_sized t 32) c.in_ok-digits.ensures.lookup.0.2 ∙ decoded start rest c.args.bytes.now is begins) in
    found_digest c.in_ok-bytes.bytes start (c.in_ok-bytes.ensures.value ∙ ap (λ (r : Result (List ℕ) FromHexError). result_ok r) e)
