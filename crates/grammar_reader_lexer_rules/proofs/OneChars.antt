-- Texts of one character, at the states where one is wanted.
use Rattle.std.proofs.Common.{ℕ, ◌≡◌, List, [], ◌∷◌, Option, Some, None, nat_le, refl, sym, ap, ◌∙◌}
use Rattle.grammar_reader_words.specs.Cursor.{uncons}
use Rattle.grammar_reader_machine.specs.Machine as m
use Rattle.grammar_reader_lexer_rules.specs.inner.OneChar.{only_char}

pub no_char : (cs : List ℕ) → None ≡ uncons cs → None ≡ only_char cs
no_char [] e = refl
no_char (c ∷ cs) e = cc e

pub one_char : (c : ℕ) (rest cs : List ℕ) → Some (c, rest) ≡ uncons cs → None ≡ uncons rest → Some c ≡ only_char cs
one_char c rest [] e f = cc e
one_char c rest (x ∷ []) e f =
    let pair : ◌≡◌ {A = ℕ × List ℕ} (c, rest) (x, []) = cc e in
    ap (λ p. Some p.0) pair
one_char c rest (x ∷ (y ∷ ys)) e f =
    let pair : ◌≡◌ {A = ℕ × List ℕ} (c, rest) (x, y ∷ ys) = cc e in
    let none : ◌≡◌ {A = Option (ℕ × List ℕ)} None (Some (y, ys)) = f ∙ ap (λ p. uncons p.1) pair in
    cc none

pub more_chars : (c d : ℕ) (rest other cs : List ℕ) → Some (c, rest) ≡ uncons cs → Some (d, other) ≡ uncons rest → None ≡ only_char cs
more_chars c d rest other [] e f = cc e
more_chars c d rest other (x ∷ []) e f =
    let pair : ◌≡◌ {A = ℕ × List ℕ} (c, rest) (x, []) = cc e in
    let none : ◌≡◌ {A = Option (ℕ × List ℕ)} (Some (d, other)) None = f ∙ ap (λ p. uncons p.1) pair in
    cc none
more_chars c d rest other (x ∷ (y ∷ ys)) e f = refl

pub no_start : (b : m.LexBody) (text : List ℕ) → None ≡ only_char text → m.start_of_range b text ≡ None
no_start b [] h = refl
no_start b (c ∷ []) h = cc h
no_start b (c ∷ (e ∷ es)) h = refl

pub one_start : (b : m.LexBody) (text : List ℕ) (c : ℕ) → Some c ≡ only_char text → m.start_of_range b text ≡ Some (m.AtRangeEnd b c)
one_start b [] c h = cc h
one_start b (x ∷ []) c h = let e : c ≡ x = cc h in ap (λ k. Some (m.AtRangeEnd b k)) (sym e)
one_start b (x ∷ (e ∷ es)) c h = cc h

pub no_end : (go : ℕ → m.State) (first : ℕ) (text : List ℕ) → None ≡ only_char text → m.end_of_range go first text ≡ None
no_end go first [] h = refl
no_end go first (c ∷ []) h = cc h
no_end go first (c ∷ (e ∷ es)) h = refl

pub one_end : (go : ℕ → m.State) (first : ℕ) (text : List ℕ) (c : ℕ) → Some c ≡ only_char text
    → m.end_of_range go first text ≡ m.provided (nat_le first c) (go c)
one_end go first [] c h = cc h
one_end go first (x ∷ []) c h = let e : c ≡ x = cc h in ap (λ k. m.provided (nat_le first k) (go k)) (sym e)
one_end go first (x ∷ (e ∷ es)) c h = cc h

pub none_item : (b : m.LexBody) (p : m.ItemPosition) (text : List ℕ) → None ≡ only_char text → m.one_char b p text ≡ None
none_item b p [] h = refl
none_item b p (c ∷ []) h = cc h
none_item b p (c ∷ (e ∷ es)) h = refl

pub one_item : (b : m.LexBody) (p : m.ItemPosition) (text : List ℕ) (c : ℕ) → Some c ≡ only_char text → m.one_char b p text ≡ Some (m.AfterItemChar b p c)
one_item b p [] c h = cc h
one_item b p (x ∷ []) c h = let e : c ≡ x = cc h in ap (λ k. Some (m.AfterItemChar b p k)) (sym e)
one_item b p (x ∷ (e ∷ es)) c h = cc h

pub ruleset one_chars = (no_start, one_start, no_end, one_end, none_item, one_item)
