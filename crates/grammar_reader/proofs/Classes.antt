-- What is known of the words by the region that they led to, both ways.
use Rattle.std.proofs.Common.{◌≡◌, Bool, true, false, Option, Some, None, refl, sym, ◌∙◌}
use Rattle.grammar_reader_machine.specs.Machine as m
use Rattle.grammar_reader.specs.Positions as at
use Rattle.grammar_reader.proofs.Regions.{Side, parsing, lexing, Region, starting, prequel, named, opening, body, suffixed, looped, last, command}
use Rattle.grammar_reader.proofs.RegionSteps.{region_of, region_of_owner, region_of_value}

-- the side of a rule between whose `:` and `;` a region is
abbrev pub side_within : Region → Option Side
side_within (body side) = Some side
side_within (suffixed side) = Some side
side_within (looped side) = Some side
side_within (last side) = Some side
side_within (command side) = Some side
side_within _ = None

abbrev pub is_suffixed : Region → Bool
is_suffixed (suffixed side) = true
is_suffixed _ = false

abbrev pub is_looped : Region → Bool
is_looped (looped side) = true
is_looped _ = false

abbrev pub is_last : Region → Bool
is_last (last side) = true
is_last _ = false

abbrev pub is_command : Region → Bool
is_command (command side) = true
is_command _ = false

-- options are none of these
module _ (P : Region → Bool) (in_prequel : P prequel ≡ false) (in_opening : (side : Side) → P (opening side) ≡ false) where
  not_owner : (o : m.Owner) → P (region_of_owner o) ≡ true → ⊥
  not_owner m.OfText e = let x : false ≡ true = sym in_prequel ∙ e in cc x
  not_owner (m.OfRule (m.ParserHead k)) e = let x : false ≡ true = sym (in_opening parsing) ∙ e in cc x
  not_owner (m.OfRule (m.LexerHead k f)) e = let x : false ≡ true = sym (in_opening lexing) ∙ e in cc x

  not_value : P (body parsing) ≡ false → (v : m.ValueOf) → P (region_of_value v) ≡ true → ⊥
  not_value h (m.InEntry g o) e = not_owner o e
  not_value h (m.InOpening b) e = let x : false ≡ true = sym h ∙ e in cc x

pub loop_region : (s : m.State) → at.after_loop s ≡ true → is_looped (region_of s) ≡ true
loop_region (m.AfterLoop b k) e = refl
loop_region _ e = cc e

pub region_loop : (s : m.State) → is_looped (region_of s) ≡ true → at.after_loop s ≡ true
region_loop (m.AtOptionsBrace g o) e = absurd (not_owner is_looped refl (λ side. refl) o e)
region_loop (m.AtEntry g o) e = absurd (not_owner is_looped refl (λ side. refl) o e)
region_loop (m.AtEntryEquals g o) e = absurd (not_owner is_looped refl (λ side. refl) o e)
region_loop (m.AtValue v) e = absurd (not_value is_looped refl (λ side. refl) refl v e)
region_loop (m.InPath v) e = absurd (not_value is_looped refl (λ side. refl) refl v e)
region_loop (m.AtPathName v) e = absurd (not_value is_looped refl (λ side. refl) refl v e)
region_loop (m.AfterValue v) e = absurd (not_value is_looped refl (λ side. refl) refl v e)
region_loop _ e = cc e

pub last_region : (s : m.State) → at.after_last s ≡ true → is_last (region_of s) ≡ true
last_region (m.AltDone b) e = refl
last_region _ e = cc e

pub region_last : (s : m.State) → is_last (region_of s) ≡ true → at.after_last s ≡ true
region_last (m.AtOptionsBrace g o) e = absurd (not_owner is_last refl (λ side. refl) o e)
region_last (m.AtEntry g o) e = absurd (not_owner is_last refl (λ side. refl) o e)
region_last (m.AtEntryEquals g o) e = absurd (not_owner is_last refl (λ side. refl) o e)
region_last (m.AtValue v) e = absurd (not_value is_last refl (λ side. refl) refl v e)
region_last (m.InPath v) e = absurd (not_value is_last refl (λ side. refl) refl v e)
region_last (m.AtPathName v) e = absurd (not_value is_last refl (λ side. refl) refl v e)
region_last (m.AfterValue v) e = absurd (not_value is_last refl (λ side. refl) refl v e)
region_last _ e = cc e

pub arrow_region : (s : m.State) → at.after_arrow s ≡ true → is_command (region_of s) ≡ true
arrow_region (m.AtCommand b) e = refl
arrow_region (m.AtChannelOpen b) e = refl
arrow_region (m.AtChannelName b) e = refl
arrow_region (m.AtChannelClose b) e = refl
arrow_region (m.AfterCommand b) e = refl
arrow_region _ e = cc e

pub region_arrow : (s : m.State) → is_command (region_of s) ≡ true → at.after_arrow s ≡ true
region_arrow (m.AtOptionsBrace g o) e = absurd (not_owner is_command refl (λ side. refl) o e)
region_arrow (m.AtEntry g o) e = absurd (not_owner is_command refl (λ side. refl) o e)
region_arrow (m.AtEntryEquals g o) e = absurd (not_owner is_command refl (λ side. refl) o e)
region_arrow (m.AtValue v) e = absurd (not_value is_command refl (λ side. refl) refl v e)
region_arrow (m.InPath v) e = absurd (not_value is_command refl (λ side. refl) refl v e)
region_arrow (m.AtPathName v) e = absurd (not_value is_command refl (λ side. refl) refl v e)
region_arrow (m.AfterValue v) e = absurd (not_value is_command refl (λ side. refl) refl v e)
region_arrow _ e = cc e

pub suffix_region : (s : m.State) → at.after_suffix s ≡ true → is_suffixed (region_of s) ≡ true
suffix_region (m.Suffixed b) e = refl
suffix_region (m.LexSuffixed b) e = refl
suffix_region (m.AfterSetStar b k) e = refl
suffix_region _ e = cc e

pub name_region : (s : m.State) → at.after_name s ≡ true → region_of s ≡ named parsing
name_region (m.AtHead g (m.ParserHead k)) e = refl
name_region (m.AtHead g (m.LexerHead k f)) e = cc e
name_region _ e = cc e

pub start_region : (s : m.State) → at.at_start s ≡ true → region_of s ≡ starting
start_region m.AtStart e = refl
start_region _ e = cc e

abbrev pub is_side : Side → Option Side → Bool
is_side parsing (Some parsing) = true
is_side lexing (Some lexing) = true
is_side _ _ = false

pub parser_region : (s : m.State) → at.within_parser_rule s ≡ true → is_side parsing (side_within (region_of s)) ≡ true
parser_region (m.AtValue (m.InEntry g o)) e = cc e
parser_region (m.InPath (m.InEntry g o)) e = cc e
parser_region (m.AtPathName (m.InEntry g o)) e = cc e
parser_region (m.AfterValue (m.InEntry g o)) e = cc e
parser_region (m.AtValue (m.InOpening b)) e = refl
parser_region (m.InPath (m.InOpening b)) e = refl
parser_region (m.AtPathName (m.InOpening b)) e = refl
parser_region (m.AfterValue (m.InOpening b)) e = refl
parser_region (m.AtOptionsBrace g o) e = cc e
parser_region (m.AtEntry g o) e = cc e
parser_region (m.AtEntryEquals g o) e = cc e
parser_region (m.AtHead g head) e = cc e
parser_region (m.AtColon g head) e = cc e
parser_region _ e = cc e

abbrev pub in_side : Side → Region → Bool
in_side side p = is_side side (side_within p)

pub region_parser : (s : m.State) → in_side parsing (region_of s) ≡ true → at.within_parser_rule s ≡ true
region_parser (m.AtOptionsBrace g o) e = absurd (not_owner (in_side parsing) refl (λ side. refl) o e)
region_parser (m.AtEntry g o) e = absurd (not_owner (in_side parsing) refl (λ side. refl) o e)
region_parser (m.AtEntryEquals g o) e = absurd (not_owner (in_side parsing) refl (λ side. refl) o e)
region_parser (m.AtValue (m.InEntry g o)) e = absurd (not_owner (in_side parsing) refl (λ side. refl) o e)
region_parser (m.InPath (m.InEntry g o)) e = absurd (not_owner (in_side parsing) refl (λ side. refl) o e)
region_parser (m.AtPathName (m.InEntry g o)) e = absurd (not_owner (in_side parsing) refl (λ side. refl) o e)
region_parser (m.AfterValue (m.InEntry g o)) e = absurd (not_owner (in_side parsing) refl (λ side. refl) o e)
region_parser (m.AtValue (m.InOpening b)) e = refl
region_parser (m.InPath (m.InOpening b)) e = refl
region_parser (m.AtPathName (m.InOpening b)) e = refl
region_parser (m.AfterValue (m.InOpening b)) e = refl
region_parser _ e = cc e

pub lexer_region : (s : m.State) → at.within_lexer_rule s ≡ true → in_side lexing (region_of s) ≡ true
lexer_region (m.InLex b) e = refl
lexer_region _ e = cc e

pub region_lexer : (s : m.State) → in_side lexing (region_of s) ≡ true → at.within_lexer_rule s ≡ true
region_lexer (m.AtOptionsBrace g o) e = absurd (not_owner (in_side lexing) refl (λ side. refl) o e)
region_lexer (m.AtEntry g o) e = absurd (not_owner (in_side lexing) refl (λ side. refl) o e)
region_lexer (m.AtEntryEquals g o) e = absurd (not_owner (in_side lexing) refl (λ side. refl) o e)
region_lexer (m.AtValue v) e = absurd (not_value (in_side lexing) refl (λ side. refl) refl v e)
region_lexer (m.InPath v) e = absurd (not_value (in_side lexing) refl (λ side. refl) refl v e)
region_lexer (m.AtPathName v) e = absurd (not_value (in_side lexing) refl (λ side. refl) refl v e)
region_lexer (m.AfterValue v) e = absurd (not_value (in_side lexing) refl (λ side. refl) refl v e)
region_lexer _ e = cc e
