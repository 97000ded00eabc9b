-- Whether a literal or a set is a word, found piece by piece.
use Rattle.std.specs.Prelude.{ℕ, Bool, true, false, cond, nat_le, List, [], ◌∷◌, Option, Some, None}
use Rattle.grammar_reader_words.specs.Quoted.{Pieces}
use Rattle.grammar_reader_words.specs.declared.quoted.Mark.{Mark}
use Rattle.grammar_reader_words.specs.declared.quoted.Mark.TheVariants.{Code, Dash, Property}
use Rattle.grammar_reader_words.specs.declared.span.SetPart.{SetPart}
use Rattle.grammar_reader_words.specs.declared.span.SetPart.TheVariants.{Start, Between, After, Sign, Last}

-- What follows a literal that has at least one character. The first value says that one was read before these.
abbrev pub literal_rest : Bool → Pieces ℕ → Option (List ℕ)
literal_rest some None = None
literal_rest true (Some (cs, rest)) = Some rest
literal_rest false (Some ([], rest)) = None
literal_rest false (Some (c ∷ cs, rest)) = Some rest

-- what is read of a set with one more code
abbrev pub after_code : SetPart → ℕ → Option SetPart
after_code Start code = Some (After code)
after_code Between code = Some (After code)
after_code (After first) code = Some (After code)
after_code (Sign first) code = cond (nat_le first code) (Some Between) None
after_code Last code = None

-- with a `-`: itself where it is the first item, or has to be the last one
abbrev pub after_dash : SetPart → Option SetPart
after_dash Start = Some (After 45)
after_dash Between = Some Last
after_dash (After first) = Some (Sign first)
after_dash (Sign first) = cond (nat_le first 45) (Some Last) None
after_dash Last = None

abbrev pub after_mark : SetPart → Mark → Option SetPart
after_mark part (Code code) = after_code part code
after_mark part Dash = after_dash part
after_mark part Property = None

-- there is an item
abbrev pub has_item : SetPart → Bool
has_item Start = false
has_item _ = true

abbrev pub if_part : Option SetPart → (SetPart → Bool) → Bool
if_part None go = false
if_part (Some next) go = go next

-- with these marks too it is a set
abbrev pub ends_as_set : SetPart → List Mark → Bool
ends_as_set part [] = has_item part
ends_as_set part (mark ∷ marks) = if_part (after_mark part mark) (λ next. ends_as_set next marks)

-- what follows a set of which this part is read
abbrev pub set_rest : SetPart → Pieces Mark → Option (List ℕ)
set_rest part None = None
set_rest part (Some (marks, rest)) = cond (ends_as_set part marks) (Some rest) None
