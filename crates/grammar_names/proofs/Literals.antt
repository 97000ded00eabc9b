-- Which rules a literal can name.
use Rattle.std.proofs.Common.{◌≡◌, ℕ, false, List, [], ◌∷◌, length, map, get_or, refl, sym, ap, ◌∙◌, subst, arith}
use Rattle.std.proofs.lemmas.List.{length-map}
use Rattle.grammar_tree.specs.Written.{LexerTerm, LexerSeq, LexerAlts, lexer_alts, lexer_seq}
use Rattle.grammar_tree.specs.Kinds.{is_just}
use Rattle.grammar_tree.specs.View.{lex_term, lex_terms, lex_alts, lex_node, lex_alts_node, lex_seq_node}
use Rattle.grammar_tree.specs.declared.lex_term.LexTerm.{LexTerm, LexTerm-F, out-LexTerm, fold-roll-LexTerm, roll-out-LexTerm, roll-LexTerm}
use Rattle.grammar_tree.specs.declared.lex_term.LexTerm.TheVariants.{rolls-Literal}
use Rattle.grammar_tree.specs.declared.lex_term.LexTerms.{LexTerms, out-LexTerms, fold_out-LexTerms}
use Rattle.grammar_tree.specs.declared.lex_term.LexAlts.{LexAlts, out-LexAlts, fold_out-LexAlts}

terms_are : (ts : LexTerms) → lex_terms ts ≡ map lex_term (out-LexTerms ts).items.items
terms_are ts = fold_out-LexTerms LexerTerm (List (List LexerTerm)) (List LexerTerm) lex_node lex_alts_node lex_seq_node ts

alts_are : (a : LexAlts) → lex_alts a ≡ map lex_terms (out-LexAlts a).items.items
alts_are a = fold_out-LexAlts LexerTerm (List (List LexerTerm)) (List LexerTerm) lex_node lex_alts_node lex_seq_node a

-- a term that is no literal
abbrev no_literal : LexTerm → Type 0
no_literal x = (text : List ℕ) → x ≡ LexTerm.Literal text → ⊥

other_node : (f : LexTerm-F LexTerm LexAlts LexTerms) (t : List ℕ) → no_literal (roll-LexTerm f)
    → is_just t (lexer_alts ((lex_term (roll-LexTerm f) ∷ []) ∷ [])) ≡ false
other_node (LexTerm-F.Literal u) t h = absurd (h u (rolls-Literal u))
other_node (LexTerm-F.Set u) t h =
    let P : LexerTerm → Type 0 = λ z. is_just t (lexer_alts ((z ∷ []) ∷ [])) ≡ false in
    subst P (sym (fold-roll-LexTerm LexerTerm (List (List LexerTerm)) (List LexerTerm) lex_node lex_alts_node lex_seq_node (LexTerm-F.Set u))) refl
other_node (LexTerm-F.Name u) t h =
    let P : LexerTerm → Type 0 = λ z. is_just t (lexer_alts ((z ∷ []) ∷ [])) ≡ false in
    subst P (sym (fold-roll-LexTerm LexerTerm (List (List LexerTerm)) (List LexerTerm) lex_node lex_alts_node lex_seq_node (LexTerm-F.Name u))) refl
other_node (LexTerm-F.Block u) t h =
    let P : LexerTerm → Type 0 = λ z. is_just t (lexer_alts ((z ∷ []) ∷ [])) ≡ false in
    subst P (sym (fold-roll-LexTerm LexerTerm (List (List LexerTerm)) (List LexerTerm) lex_node lex_alts_node lex_seq_node (LexTerm-F.Block u))) refl
other_node (LexTerm-F.Opt u) t h =
    let P : LexerTerm → Type 0 = λ z. is_just t (lexer_alts ((z ∷ []) ∷ [])) ≡ false in
    subst P (sym (fold-roll-LexTerm LexerTerm (List (List LexerTerm)) (List LexerTerm) lex_node lex_alts_node lex_seq_node (LexTerm-F.Opt u))) refl
other_node (LexTerm-F.Star u) t h =
    let P : LexerTerm → Type 0 = λ z. is_just t (lexer_alts ((z ∷ []) ∷ [])) ≡ false in
    subst P (sym (fold-roll-LexTerm LexerTerm (List (List LexerTerm)) (List LexerTerm) lex_node lex_alts_node lex_seq_node (LexTerm-F.Star u))) refl
other_node (LexTerm-F.Plus u) t h =
    let P : LexerTerm → Type 0 = λ z. is_just t (lexer_alts ((z ∷ []) ∷ [])) ≡ false in
    subst P (sym (fold-roll-LexTerm LexerTerm (List (List LexerTerm)) (List LexerTerm) lex_node lex_alts_node lex_seq_node (LexTerm-F.Plus u))) refl
other_node (LexTerm-F.Short u) t h =
    let P : LexerTerm → Type 0 = λ z. is_just t (lexer_alts ((z ∷ []) ∷ [])) ≡ false in
    subst P (sym (fold-roll-LexTerm LexerTerm (List (List LexerTerm)) (List LexerTerm) lex_node lex_alts_node lex_seq_node (LexTerm-F.Short u))) refl

pub other_term : (x : LexTerm) (t : List ℕ) → no_literal x → is_just t (lexer_alts ((lex_term x ∷ []) ∷ [])) ≡ false
other_term x t h =
    let P : LexTerm → Type 0 = λ y. is_just t (lexer_alts ((lex_term y ∷ []) ∷ [])) ≡ false in
    subst P (roll-out-LexTerm x) (other_node (out-LexTerm x) t (λ u e. h u (sym (roll-out-LexTerm x) ∙ e)))

two_alts : (s b : LexerSeq) (a : LexerAlts) (t : List ℕ) → is_just t (LexerAlts.or s (LexerAlts.or b a)) ≡ false
two_alts LexerSeq.done b a t = refl
two_alts (LexerSeq.next (LexerTerm.literal x) LexerSeq.done) b a t = refl
two_alts (LexerSeq.next (LexerTerm.literal x) (LexerSeq.next y s)) b a t = refl
two_alts (LexerSeq.next (LexerTerm.set x) s) b a t = refl
two_alts (LexerSeq.next (LexerTerm.name x) s) b a t = refl
two_alts (LexerSeq.next (LexerTerm.block x) s) b a t = refl
two_alts (LexerSeq.next (LexerTerm.opt x) s) b a t = refl
two_alts (LexerSeq.next (LexerTerm.star x) s) b a t = refl
two_alts (LexerSeq.next (LexerTerm.plus x) s) b a t = refl
two_alts (LexerSeq.next (LexerTerm.short x) s) b a t = refl

two_terms : (x y : LexerTerm) (s : LexerSeq) (t : List ℕ) → is_just t (LexerAlts.or (LexerSeq.next x (LexerSeq.next y s)) LexerAlts.none) ≡ false
two_terms (LexerTerm.literal x) y s t = refl
two_terms (LexerTerm.set x) y s t = refl
two_terms (LexerTerm.name x) y s t = refl
two_terms (LexerTerm.block x) y s t = refl
two_terms (LexerTerm.opt x) y s t = refl
two_terms (LexerTerm.star x) y s t = refl
two_terms (LexerTerm.plus x) y s t = refl
two_terms (LexerTerm.short x) y s t = refl

not_one_alt : (xs : List (List LexerTerm)) (t : List ℕ) → (length xs ≡ 1 → ⊥) → is_just t (lexer_alts xs) ≡ false
not_one_alt [] t h = refl
not_one_alt (x ∷ []) t h = absurd (h refl)
not_one_alt (x ∷ y ∷ xs) t h = two_alts (lexer_seq x) (lexer_seq y) (lexer_alts xs) t

not_one_term : (xs : List LexerTerm) (t : List ℕ) → (length xs ≡ 1 → ⊥) → is_just t (lexer_alts (xs ∷ [])) ≡ false
not_one_term [] t h = refl
not_one_term (x ∷ []) t h = absurd (h refl)
not_one_term (x ∷ y ∷ xs) t h = two_terms x y (lexer_seq xs) t

only : {X : Type 0} (xs : List X) (x : X) → length xs ≡ 1 → x ≡ get_or xs 0 x → xs ≡ x ∷ []
only [] x e is = absurd (omega (arith, e))
only (y ∷ []) x e is = ap (λ z. z ∷ []) (sym is)
only (y ∷ z ∷ xs) x e is = absurd (omega (arith, e))

-- the same of terms in memory, whose items are given
pub not_one_in : (ts : LexTerms) (items : List LexTerm) (t : List ℕ) → items ≡ (out-LexTerms ts).items.items → (length items ≡ 1 → ⊥)
    → is_just t (lexer_alts (lex_terms ts ∷ [])) ≡ false
not_one_in ts items t e h =
    let P : List LexerTerm → Type 0 = λ l. is_just t (lexer_alts (l ∷ [])) ≡ false in
    subst P (ap (map lex_term) e ∙ sym (terms_are ts)) (not_one_term (map lex_term items) t (λ k. h (sym (length-map items lex_term) ∙ k)))

pub one_in : (ts : LexTerms) (items : List LexTerm) (x : LexTerm) → items ≡ (out-LexTerms ts).items.items → length items ≡ 1 → x ≡ get_or items 0 x
    → lex_terms ts ≡ lex_term x ∷ []
one_in ts items x e k is = terms_are ts ∙ ap (map lex_term) (sym e ∙ only items x k is)

pub not_one_of : (a : LexAlts) (items : List LexTerms) (t : List ℕ) → items ≡ (out-LexAlts a).items.items → (length items ≡ 1 → ⊥)
    → is_just t (lexer_alts (lex_alts a)) ≡ false
not_one_of a items t e h =
    let P : List (List LexerTerm) → Type 0 = λ l. is_just t (lexer_alts l) ≡ false in
    subst P (ap (map lex_terms) e ∙ sym (alts_are a)) (not_one_alt (map lex_terms items) t (λ k. h (sym (length-map items lex_terms) ∙ k)))

pub one_of : (a : LexAlts) (items : List LexTerms) (x : LexTerms) → items ≡ (out-LexAlts a).items.items → length items ≡ 1 → x ≡ get_or items 0 x
    → lex_alts a ≡ lex_terms x ∷ []
one_of a items x e k is = alts_are a ∙ ap (map lex_terms) (sym e ∙ only items x k is)
