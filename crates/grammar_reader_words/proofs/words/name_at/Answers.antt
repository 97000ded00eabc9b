use Rattle.std.proofs.Common.{◌≡◌, ◌∙◌, ap, List, ℕ, take, drop}
use Rattle.std.specs.Prelude.{string_bytes}
use Rattle.std.specs.Str.{chars}
use Rattle.grammar_reader_words.specs.Names.{name_word}
use Rattle.grammar_reader_words.specs.declared.word.Word.{Word}
use Rattle.grammar_reader_words.proofs.Joined.{front_chars}
use Rattle.grammar_reader_words.proofs.words.name_at.Goals as goal

both : (w w' : Word) (r r' : List ℕ) → w ≡ w' → r ≡ r' → ◌≡◌ {A = Word × List ℕ} (w, r) (w', r')
both w w' r r' e f = ap (λ x. (x, r)) e ∙ ap (λ x. (w', x)) f

pub returns : goal.returns
returns c =
    let cs : List ℕ = chars c.args.text.now in
    let n : ℕ = c.name_len-n.result in
    let name : c.in_ok-name-2.name ≡ take n cs =
    c.in_ok-name-2.ensures ∙ ap chars c.as_str.ensures.value
    ∙ front_chars (string_bytes c.in_ok-name.name) c.args.text.now n c.utf8.text c.in_ok-name.ensures in
    both _ _ _ _ (c.named.ensures ∙ ap (name_word c.args.c) (name ∙ ap (λ k. take k cs) c.name_len-n.ensures))
    (c.skip.ensures.same ∙ ap (λ k. drop k cs) c.name_len-n.ensures)
