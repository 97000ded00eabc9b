-- Options that are added to a command one after the other.
use Rattle.std.proofs.Common.{◌≡◌, ◌∙◌, ℕ, ◌+◌, ◌<◌, List, [], ◌∷◌, ◌++◌, length, get_or, take, fold, map, refl, sym, ap, ap₂}
use Rattle.std.proofs.lemmas.List.{take_more}
use Rattle.clap.specs.Words.{App, Rule, with_rule}
use Rattle.command_words.specs.declared.options.ClapOption.{ClapOption}
use Rattle.command_words.specs.inner.Read.{option_rule, read_row}

-- one option more
one_added : (a : App) (rows : List ClapOption) (row : ClapOption)
    → fold with_rule a (map (λ r. option_rule (read_row r)) (rows ++ row ∷ [])) ≡ with_rule (fold with_rule a (map (λ r. option_rule (read_row r)) rows))
    (option_rule (read_row row))
one_added a [] row = refl
one_added a (r ∷ rs) row = one_added (with_rule a (option_rule (read_row r))) rs row

pub added_so_far : (a b made : App) (rule : Rule) (rows : List ClapOption) (i : ℕ) (other : ClapOption) → i < length rows
    → rule ≡ option_rule (read_row (get_or rows i other))
    → b ≡ fold with_rule a (map (λ r. option_rule (read_row r)) (take i rows)) → made ≡ with_rule b rule
    → made ≡ fold with_rule a (map (λ r. option_rule (read_row r)) (take (i + 1) rows))
added_so_far a b made rule rows i other within rule_is before added =
    added ∙ ap₂ with_rule before rule_is ∙ sym (one_added a (take i rows) (get_or rows i other))
    ∙ sym (ap (λ (rs : List ClapOption). fold with_rule a (map (λ r. option_rule (read_row r)) rs)) (take_more rows i other within))
