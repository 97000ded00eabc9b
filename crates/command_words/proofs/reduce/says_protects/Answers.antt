use Rattle.std.proofs.Common.{◌≡◌, ◌∙◌, ◌||◌, Bool, codes, refl, sym, ap}
use Rattle.command_words.specs.Commands.{is_given}
use Rattle.command_words.specs.Tables.{reduce_table}
use Rattle.command_words.proofs.Firsts.{any_of_three, is_there}
use Rattle.command_words.proofs.FoundValues.{named_by}
use Rattle.command_words.proofs.reduce.says_protects.Goals as goal
use Rattle.command_words.proofs.reduce.says_protects.Goals.{then-lines, else-lines}

pub returns-then-named : goal.returns-then-named
returns-then-named c = λ uses has.
    let m = c.args.matches.now in
    let lines = is_given (codes "protect") uses in
    let texts = is_given (codes "protect-text") uses in
    let only = is_given (codes "only") uses in
    let lines_are : c.contains_id-lines.result ≡ lines =
    c.contains_id-lines.ensures ∙ is_there reduce_table uses m (codes "protect") has (named_by reduce_table (codes "protect") refl) in
    let texts_are : c.contains_id-texts.result ≡ texts =
    c.contains_id-texts.ensures ∙ is_there reduce_table uses m (codes "protect-text") has (named_by reduce_table (codes "protect-text") refl) in
    let first : c.if-lines.named ≡ (lines || texts) = elim c.if-lines.branch [
      | then-lines w ↦ w.named-is ∙ w.if-lines.true ∙ sym (ap (λ (b : Bool). b || texts) (sym lines_are ∙ w.if-lines.true))
      | else-lines w ↦ w.named-is ∙ texts_are ∙ sym (ap (λ (b : Bool). b || texts) (sym lines_are ∙ w.if-lines.false))
    ] in
    any_of_three lines texts only c.if-lines.named c.if-lines.named first (c.if-named.true ∙ sym (ap (λ (b : Bool). b || only) c.if-named.true))

pub returns-else-named : goal.returns-else-named
returns-else-named c = λ uses has.
    let m = c.args.matches.now in
    let lines = is_given (codes "protect") uses in
    let texts = is_given (codes "protect-text") uses in
    let only = is_given (codes "only") uses in
    let lines_are : c.contains_id-lines.result ≡ lines =
    c.contains_id-lines.ensures ∙ is_there reduce_table uses m (codes "protect") has (named_by reduce_table (codes "protect") refl) in
    let texts_are : c.contains_id-texts.result ≡ texts =
    c.contains_id-texts.ensures ∙ is_there reduce_table uses m (codes "protect-text") has (named_by reduce_table (codes "protect-text") refl) in
    let only_is : c.contains_id-only.result ≡ only =
    c.contains_id-only.ensures ∙ is_there reduce_table uses m (codes "only") has (named_by reduce_table (codes "only") refl) in
    let first : c.if-lines.named ≡ (lines || texts) = elim c.if-lines.branch [
      | then-lines w ↦ w.named-is ∙ w.if-lines.true ∙ sym (ap (λ (b : Bool). b || texts) (sym lines_are ∙ w.if-lines.true))
      | else-lines w ↦ w.named-is ∙ texts_are ∙ sym (ap (λ (b : Bool). b || texts) (sym lines_are ∙ w.if-lines.false))
    ] in
    any_of_three lines texts only c.if-lines.named c.contains_id-only.result first (only_is ∙ sym (ap (λ (b : Bool). b || only) c.if-named.false))
