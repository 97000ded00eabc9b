-- Pieces of printed text, and their bytes.
use Rattle.std.proofs.Common.{◌≡◌, ℕ, zero, suc, ◌+◌, ◌<◌, List, [], ◌∷◌, ◌++◌, refl, sym, ap, ◌∙◌, arith, append_assoc}
use Rattle.std.specs.Prelude.{encode_utf8_all}
use Rattle.std.specs.List.{flat_map, join_by}
use Rattle.std.specs.Str.{IsAscii}
use Rattle.std.proofs.lemmas.Str.{encodes-IsAscii, encodes-append}
use Rattle.grammar_literal.specs.Literal.{content}
use Rattle.normal_form.specs.declared.normal.Sym.{Sym}
use Rattle.normal_form.specs.declared.normal.Sym.TheVariants.{Rule}
use Rattle.normal_form.specs.Form.{RuleForm}
use Rattle.normal_form_print.specs.Print.{body_text, but_text, lines_from}

nil_ascii : IsAscii []
nil_ascii i = omega arith

cons_ascii : (c : ℕ) (cs : List ℕ) → c < 128 → IsAscii cs → IsAscii (c ∷ cs)
cons_ascii c cs h a zero = h
cons_ascii c cs h a (suc i) = a i

one_ascii : (c : ℕ) → c < 128 → encode_utf8_all (c ∷ []) ≡ c ∷ []
one_ascii c h = encodes-IsAscii (c ∷ []) (cons_ascii c [] h nil_ascii)

-- two pieces, one after the other
pub grown_twice : (bytes xs ys : List ℕ) → (bytes ++ encode_utf8_all xs) ++ encode_utf8_all ys ≡ bytes ++ encode_utf8_all (xs ++ ys)
grown_twice bytes xs ys = append_assoc bytes (encode_utf8_all xs) (encode_utf8_all ys) ∙ ap (λ l. bytes ++ l) (sym (encodes-append xs ys))

-- a literal in its quotes
pub quoted : (old printed last literal : List ℕ) → printed ≡ 39 ∷ (encode_utf8_all (content literal) ++ (39 ∷ [])) → last ≡ old ++ printed
    → last ≡ old ++ encode_utf8_all (39 ∷ (content literal ++ (39 ∷ [])))
quoted old printed last literal is grown =
    let end : List ℕ = 39 ∷ [] in
    let quote : encode_utf8_all end ≡ end = one_ascii 39 (omega arith) in
    grown
    ∙ ap (λ x. old ++ x) (is
    ∙ sym (encodes-append end (content literal ++ end)
    ∙ ap (λ x. x ++ encode_utf8_all (content literal ++ end)) quote
    ∙ ap (λ x. 39 ∷ x) (encodes-append (content literal) end ∙ ap (λ x. encode_utf8_all (content literal) ++ x) quote)))

-- the same pieces joined, in bytes
module _ {X : Type 0} (f g : X → List ℕ) (sep : List ℕ) (same : (x : X) → g x ≡ encode_utf8_all (f x)) (ascii : encode_utf8_all sep ≡ sep) where
  rest_bytes : (xs : List X) → flat_map (λ x. sep ++ g x) xs ≡ encode_utf8_all (flat_map (λ x. sep ++ f x) xs)
  rest_bytes [] = refl
  rest_bytes (x ∷ xs) =
      ap (λ l. (l ++ g x) ++ flat_map (λ y. sep ++ g y) xs) (sym ascii)
      ∙ ap (λ l. (encode_utf8_all sep ++ l) ++ flat_map (λ y. sep ++ g y) xs) (same x)
      ∙ ap (λ l. l ++ flat_map (λ y. sep ++ g y) xs) (sym (encodes-append sep (f x)))
      ∙ ap (λ l. encode_utf8_all (sep ++ f x) ++ l) (rest_bytes xs)
      ∙ sym (encodes-append (sep ++ f x) (flat_map (λ y. sep ++ f y) xs))

  pub joined_bytes : (xs : List X) → join_by g sep xs ≡ encode_utf8_all (join_by f sep xs)
  joined_bytes [] = refl
  joined_bytes (x ∷ xs) =
      ap (λ l. l ++ flat_map (λ y. sep ++ g y) xs) (same x) ∙ ap (λ l. encode_utf8_all (f x) ++ l) (rest_bytes xs)
      ∙ sym (encodes-append (f x) (flat_map (λ y. sep ++ f y) xs))

-- one more piece of a text, after what separates it from the one before
pub piece_more : {X : Type 0} (f : X → List ℕ) (sep text separated more whole : List ℕ) (x : X) (all rest : List X) → all ≡ x ∷ rest → separated ≡ text ++ sep
    → more ≡ separated ++ f x → text ++ flat_map (λ y. sep ++ f y) all ≡ whole → more ++ flat_map (λ y. sep ++ f y) rest ≡ whole
piece_more f sep text separated more whole x all rest cut first second so_far =
    ap (λ l. l ++ flat_map (λ y. sep ++ f y) rest) (second ∙ ap (λ l. l ++ f x) first ∙ append_assoc text sep (f x))
    ∙ append_assoc text (sep ++ f x) (flat_map (λ y. sep ++ f y) rest)
    ∙ ap (λ l. text ++ l) (sym (ap (flat_map (λ y. sep ++ f y)) cut))
    ∙ so_far

three_ascii : (a b c : ℕ) → a < 128 → b < 128 → c < 128 → encode_utf8_all (a ∷ b ∷ c ∷ []) ≡ a ∷ b ∷ c ∷ []
three_ascii a b c i j k = encodes-IsAscii (a ∷ b ∷ c ∷ []) (cons_ascii a (b ∷ c ∷ []) i (cons_ascii b (c ∷ []) j (cons_ascii c [] k nil_ascii)))

-- what a set misses, in bytes
pub but_bytes : (f g : ℕ → List ℕ) → ((k : ℕ) → g k ≡ encode_utf8_all (f k)) → (ks : List ℕ) → but_text g ks ≡ encode_utf8_all (but_text f ks)
but_bytes f g same [] = sym (one_ascii 46 (omega arith))
but_bytes f g same (k ∷ []) =
    ap (λ l. l ++ g k) (sym (one_ascii 126 (omega arith))) ∙ ap (λ l. encode_utf8_all (126 ∷ []) ++ l) (same k) ∙ sym (encodes-append (126 ∷ []) (f k))
but_bytes f g same (k ∷ l ∷ ks) =
    let bar = one_ascii 124 (omega arith) in
    let opened : encode_utf8_all (126 ∷ 40 ∷ []) ≡ 126 ∷ 40 ∷ [] =
    encodes-IsAscii (126 ∷ 40 ∷ []) (cons_ascii 126 (40 ∷ []) (omega arith) (cons_ascii 40 [] (omega arith) nil_ascii)) in
    let close = one_ascii 41 (omega arith) in
    let all = join_by f (124 ∷ []) (k ∷ l ∷ ks) in
    ap (λ x. (126 ∷ 40 ∷ []) ++ (x ++ (41 ∷ []))) (joined_bytes f g (124 ∷ []) same bar (k ∷ l ∷ ks))
    ∙ ap (λ x. (126 ∷ 40 ∷ []) ++ (encode_utf8_all all ++ x)) (sym close)
    ∙ ap (λ x. (126 ∷ 40 ∷ []) ++ x) (sym (encodes-append all (41 ∷ [])))
    ∙ ap (λ x. x ++ encode_utf8_all (all ++ (41 ∷ []))) (sym opened)
    ∙ sym (encodes-append (126 ∷ 40 ∷ []) (all ++ (41 ∷ [])))

-- a rule's body, and lines, in bytes
suffixed_bytes : (x y : List ℕ) (c : ℕ) → c < 128 → y ≡ encode_utf8_all x → y ++ (c ∷ []) ≡ encode_utf8_all (x ++ (c ∷ []))
suffixed_bytes x y c h e = ap (λ l. l ++ (c ∷ [])) e ∙ ap (λ l. encode_utf8_all x ++ l) (sym (one_ascii c h)) ∙ sym (encodes-append x (c ∷ []))

module _ (f g : Sym → List ℕ) (same : (s : Sym) → g s ≡ encode_utf8_all (f s)) where
  body_bytes : (rule : RuleForm) → body_text g rule ≡ encode_utf8_all (body_text f rule)
  body_bytes (RuleForm.regular alts) =
      joined_bytes (join_by f (32 ∷ [])) (join_by g (32 ∷ [])) (32 ∷ 124 ∷ 32 ∷ []) (joined_bytes f g (32 ∷ []) same (one_ascii 32 (omega arith)))
      (three_ascii 32 124 32 (omega arith) (omega arith) (omega arith)) alts
  body_bytes (RuleForm.star s) = suffixed_bytes (f s) (g s) 42 (omega arith) (same s)
  body_bytes (RuleForm.plus s) = suffixed_bytes (f s) (g s) 43 (omega arith) (same s)
  body_bytes (RuleForm.opt s) = suffixed_bytes (f s) (g s) 63 (omega arith) (same s)

  pub lines_bytes : (n : ℕ) (rules : List RuleForm) → lines_from g n rules ≡ encode_utf8_all (lines_from f n rules)
  lines_bytes n [] = refl
  lines_bytes n (rule ∷ rules) =
      let colon = three_ascii 32 58 32 (omega arith) (omega arith) (omega arith) in
      let semi = three_ascii 32 59 10 (omega arith) (omega arith) (omega arith) in
      let rest = lines_from f (n + 1) rules in
      let name = f (Rule n) in
      let body = body_text f rule in
      ap (λ l. g (Rule n) ++ ((32 ∷ 58 ∷ 32 ∷ []) ++ (body_text g rule ++ ((32 ∷ 59 ∷ 10 ∷ []) ++ l)))) (lines_bytes (n + 1) rules)
      ∙ ap (λ l. g (Rule n) ++ ((32 ∷ 58 ∷ 32 ∷ []) ++ (body_text g rule ++ (l ++ encode_utf8_all rest)))) (sym semi)
      ∙ ap (λ l. g (Rule n) ++ ((32 ∷ 58 ∷ 32 ∷ []) ++ (body_text g rule ++ l))) (sym (encodes-append (32 ∷ 59 ∷ 10 ∷ []) rest))
      ∙ ap (λ l. g (Rule n) ++ ((32 ∷ 58 ∷ 32 ∷ []) ++ (l ++ encode_utf8_all ((32 ∷ 59 ∷ 10 ∷ []) ++ rest)))) (body_bytes rule)
      ∙ ap (λ l. g (Rule n) ++ ((32 ∷ 58 ∷ 32 ∷ []) ++ l)) (sym (encodes-append body ((32 ∷ 59 ∷ 10 ∷ []) ++ rest)))
      ∙ ap (λ l. g (Rule n) ++ (l ++ encode_utf8_all (body ++ ((32 ∷ 59 ∷ 10 ∷ []) ++ rest)))) (sym colon)
      ∙ ap (λ l. g (Rule n) ++ l) (sym (encodes-append (32 ∷ 58 ∷ 32 ∷ []) (body ++ ((32 ∷ 59 ∷ 10 ∷ []) ++ rest))))
      ∙ ap (λ l. l ++ encode_utf8_all ((32 ∷ 58 ∷ 32 ∷ []) ++ (body ++ ((32 ∷ 59 ∷ 10 ∷ []) ++ rest)))) (same (Rule n))
      ∙ sym (encodes-append name ((32 ∷ 58 ∷ 32 ∷ []) ++ (body ++ ((32 ∷ 59 ∷ 10 ∷ []) ++ rest))))
