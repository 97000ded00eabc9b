-- Where single words lead, whatever the state.
use Rattle.std.proofs.Common.{ℕ, ◌≡◌, Bool, true, false, ◌||◌, List, [], ◌∷◌, Option, Some, None, refl, sym, ap, ◌∙◌}
use Rattle.grammar_tree.specs.Written.{LexerTerm}
use Rattle.grammar_reader_words.specs.declared.word.Word.TheVariants as w
use Rattle.grammar_reader_notation.specs.Sets.{outside}
use Rattle.grammar_reader_machine.specs.Machine as m
use Rattle.grammar_reader.specs.Positions.{after_suffix, after_loop, after_arrow}
use Rattle.grammar_reader.proofs.Going.{no_end}

after : (P : m.State → Bool) {s t : m.State} → Some s ≡ Some t → P s ≡ true → P t ≡ true
after P {s} {t} e h = let f : t ≡ s = cc e in ap P f ∙ h

not_some : {t : m.State} (o : Option m.State) → o ≡ None → o ≡ Some t → ⊥
not_some {t} o e f = let x : None ≡ Some t = sym e ∙ f in cc x

-- `*`, `+` and `?`

no_more : {s t : m.State} → Some s ≡ Some t → m.step 64 s w.Question ≡ None → m.step 64 t w.Question ≡ None
no_more {s} {t} e h = let f : t ≡ s = cc e in ap (λ u. m.step 64 u w.Question) f ∙ h

pub star_suffixes : (s t : m.State) → m.step 64 s w.Star ≡ Some t → after_suffix t ≡ true
star_suffixes (m.InPath (m.InEntry g o)) t e = cc e
star_suffixes (m.InPath (m.InOpening b)) t e = cc e
star_suffixes (m.AfterValue (m.InEntry g o)) t e = cc e
star_suffixes (m.AfterValue (m.InOpening b)) t e = cc e
star_suffixes (m.AfterName b k) t e = after after_suffix e refl
star_suffixes (m.AfterAtom b k) t e = after after_suffix e refl
star_suffixes (m.InLex b) t e = absurd (not_some (m.step_lex_end b b.enclosing w.Star) (no_end b b.enclosing w.Star refl) e)
star_suffixes (m.LexSuffixed b) t e = absurd (not_some (m.step_lex_end b b.enclosing w.Star) (no_end b b.enclosing w.Star refl) e)
star_suffixes (m.AfterLexAtom b k) t e = after after_suffix e refl
star_suffixes (m.AfterLiteral b k) t e = after after_suffix e refl
star_suffixes (m.AfterSet b k) t e = after after_suffix e refl
star_suffixes (m.AfterSetStar b k) t e =
    let c : m.LexBody =
    m.lex_add b (LexerTerm.star (LexerTerm.set k)) in absurd (not_some (m.step_lex_end c b.enclosing w.Star) (no_end c b.enclosing w.Star refl) e)
star_suffixes (m.AfterItemChar b m.Alone k) t e = after after_suffix e refl
star_suffixes (m.AfterItemChar b (m.Listed ranges) k) t e = cc e
star_suffixes _ t e = cc e

pub record Closes (t : m.State) : Type 0 where
  pub suffixed : (after_suffix t || after_loop t) ≡ true
  pub closed : m.step 64 t w.Question ≡ None

closed_by : {s t : m.State} → Some s ≡ Some t → (after_suffix s || after_loop s) ≡ true → m.step 64 s w.Question ≡ None → Closes t
closed_by e h k = record { suffixed = after (λ u. after_suffix u || after_loop u) e h; closed = no_more e k }

lex_closed_by : (b : m.LexBody) {t : m.State} → Some (m.LexSuffixed b) ≡ Some t → Closes t
lex_closed_by b e = closed_by e refl (no_end b b.enclosing w.Question refl)

pub plus_closes : (s t : m.State) → m.step 64 s w.Plus ≡ Some t → Closes t
plus_closes (m.InPath (m.InEntry g o)) t e = cc e
plus_closes (m.InPath (m.InOpening b)) t e = cc e
plus_closes (m.AfterValue (m.InEntry g o)) t e = cc e
plus_closes (m.AfterValue (m.InOpening b)) t e = cc e
plus_closes (m.AfterName b k) t e = closed_by e refl refl
plus_closes (m.AfterAtom b k) t e = closed_by e refl refl
plus_closes (m.InLex b) t e = absurd (not_some (m.step_lex_end b b.enclosing w.Plus) (no_end b b.enclosing w.Plus refl) e)
plus_closes (m.LexSuffixed b) t e = absurd (not_some (m.step_lex_end b b.enclosing w.Plus) (no_end b b.enclosing w.Plus refl) e)
plus_closes (m.AfterLexAtom b k) t e = lex_closed_by (m.lex_add b (LexerTerm.plus k)) e
plus_closes (m.AfterLiteral b k) t e = lex_closed_by (m.lex_add b (LexerTerm.plus (LexerTerm.literal k))) e
plus_closes (m.AfterSet b k) t e = lex_closed_by (m.lex_add b (LexerTerm.plus (LexerTerm.set k))) e
plus_closes (m.AfterSetStar b k) t e =
    let c : m.LexBody =
    m.lex_add b (LexerTerm.star (LexerTerm.set k)) in absurd (not_some (m.step_lex_end c b.enclosing w.Plus) (no_end c b.enclosing w.Plus refl) e)
plus_closes (m.AfterItemChar b m.Alone k) t e = lex_closed_by (m.lex_add b (LexerTerm.plus (LexerTerm.set (outside ((k, k) ∷ []))))) e
plus_closes (m.AfterItemChar b (m.Listed ranges) k) t e = cc e
plus_closes _ t e = cc e

loop_closes : (b : m.LexBody) (k : List (ℕ × ℕ)) (enclosing : List (m.Frame LexerTerm)) (fragment : Bool) (t : m.State)
    → m.loop_end b k enclosing fragment ≡ Some t → Closes t
loop_closes b k [] true t e = cc e
loop_closes b k [] false t e = closed_by e refl refl
loop_closes b k (f ∷ enclosing) fragment t e = cc e

pub question_closes : (s t : m.State) → m.step 64 s w.Question ≡ Some t → Closes t
question_closes (m.InPath (m.InEntry g o)) t e = cc e
question_closes (m.InPath (m.InOpening b)) t e = cc e
question_closes (m.AfterValue (m.InEntry g o)) t e = cc e
question_closes (m.AfterValue (m.InOpening b)) t e = cc e
question_closes (m.AfterName b k) t e = closed_by e refl refl
question_closes (m.AfterAtom b k) t e = closed_by e refl refl
question_closes (m.InLex b) t e = absurd (not_some (m.step_lex_end b b.enclosing w.Question) (no_end b b.enclosing w.Question refl) e)
question_closes (m.LexSuffixed b) t e = absurd (not_some (m.step_lex_end b b.enclosing w.Question) (no_end b b.enclosing w.Question refl) e)
question_closes (m.AfterLexAtom b k) t e = lex_closed_by (m.lex_add b (LexerTerm.opt k)) e
question_closes (m.AfterLiteral b k) t e = lex_closed_by (m.lex_add b (LexerTerm.opt (LexerTerm.literal k))) e
question_closes (m.AfterSet b k) t e = lex_closed_by (m.lex_add b (LexerTerm.opt (LexerTerm.set k))) e
question_closes (m.AfterSetStar b k) t e = loop_closes b k b.enclosing b.fragment t e
question_closes (m.AfterItemChar b m.Alone k) t e = lex_closed_by (m.lex_add b (LexerTerm.opt (LexerTerm.set (outside ((k, k) ∷ []))))) e
question_closes (m.AfterItemChar b (m.Listed ranges) k) t e = cc e
question_closes _ t e = cc e

-- `->`

command_follows : (b : m.LexBody) (known : Option Bool) (t : m.State) → m.with_command known (m.AtCommand b) ≡ Some t → after_arrow t ≡ true
command_follows b None t e = after after_arrow e refl
command_follows b (Some true) t e = after after_arrow e refl
command_follows b (Some false) t e = cc e

end_follows : (b : m.LexBody) (enclosing : List (m.Frame LexerTerm)) (t : m.State) → m.step_lex_end b enclosing w.Arrow ≡ Some t → after_arrow t ≡ true
end_follows b [] t e = command_follows b b.known t e
end_follows b (f ∷ enclosing) t e = cc e

pub arrow_leads : (s t : m.State) → m.step 64 s w.Arrow ≡ Some t → after_arrow t ≡ true
arrow_leads (m.InPath (m.InEntry g o)) t e = cc e
arrow_leads (m.InPath (m.InOpening b)) t e = cc e
arrow_leads (m.AfterValue (m.InEntry g o)) t e = cc e
arrow_leads (m.AfterValue (m.InOpening b)) t e = cc e
arrow_leads (m.InLex b) t e = end_follows b b.enclosing t e
arrow_leads (m.LexSuffixed b) t e = end_follows b b.enclosing t e
arrow_leads (m.AfterLexAtom b k) t e = end_follows (m.lex_add b k) b.enclosing t e
arrow_leads (m.AfterLiteral b k) t e = end_follows (m.lex_add b (LexerTerm.literal k)) b.enclosing t e
arrow_leads (m.AfterSet b k) t e = end_follows (m.lex_add b (LexerTerm.set k)) b.enclosing t e
arrow_leads (m.AfterSetStar b k) t e = end_follows (m.lex_add b (LexerTerm.star (LexerTerm.set k))) b.enclosing t e
arrow_leads (m.AfterItemChar b m.Alone k) t e = end_follows (m.lex_add b (LexerTerm.set (outside ((k, k) ∷ [])))) b.enclosing t e
arrow_leads (m.AfterItemChar b (m.Listed ranges) k) t e = cc e
arrow_leads (m.AltDone b) t e = command_follows b b.known t e
arrow_leads _ t e = cc e

pub no_semicolon : (s t : m.State) → after_loop s ≡ true → m.step 64 s w.Semicolon ≡ Some t → ⊥
no_semicolon (m.AfterLoop b k) t h e = cc e
no_semicolon _ t h e = cc h
