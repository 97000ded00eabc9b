-- Passing over parts of a printed text, one after another.
use Rattle.std.proofs.Common.{◌≡◌, ◌≢◌, ◌<◌, ◌≤◌, ◌+◌, ◌↔◌, inl, inr, ℕ, suc, false, List, [], ◌∷◌, ◌++◌, drop, length, refl, ap, subst, arith}
use Rattle.std.specs.Prelude.{encode_utf8_all}
use Rattle.std.specs.Str.{chars, IsCharBoundary, IsUtf8}
use Rattle.std.proofs.lemmas.List.{length-drop}
use Rattle.std.proofs.lemmas.Str.{IsUtf8-drop, encodes-chars}
use Rattle.grammar_tree.specs.Written.{WrittenGrammar}
use Rattle.grammar_tree.specs.Lexes.{IsNext, LexesTo, Piece, tokens_of}
use Rattle.lexer.specs.Pieces.{HasNoPieceAt}
use Rattle.token_print.specs.declared.joins.Joins.{Joins}
use Rattle.token_print.specs.declared.joins.Progress.{Progress}
use Rattle.token_print.specs.inner.Joins.{IsKeptFrom, IsPassed, ReadsFewFrom, SpellsFrom, items_of, runs_of, spelled_from, uncarried_from}
use Rattle.token_print.specs.Reads.{IsEndWith}
use Rattle.token_print.specs.Runs.{is_carried}
use Rattle.token_print.proofs.Lexing.{none_left, size_of, sizes, through, uncarried_one, uncarried_over}
use Rattle.token_print.proofs.Rests.{some_rest, spells_at_end, spells_none, spells_nothing, spells_on}

module _ (G : WrittenGrammar) (j : Joins) where
  -- nothing was passed
  pub passed_none : (p : Progress) (reads : ℕ) → IsCharBoundary j.text.now p.at → p.found ≤ length j.kept.now → IsPassed G j p p reads reads
  passed_none p reads boundary few =
      record {
        boundary = boundary;
        few = few;
        keeps = (λ k. k, λ k. k);
        reads = λ found left more lexed end. (found, lexed, omega arith);
        slow = omega arith;
      }

  -- one part and then another
  pub passed_on : {p q r : Progress} {a b c : ℕ} → IsPassed G j p q a b → IsPassed G j q r b c → IsPassed G j p r a c
  passed_on {p} {q} {r} {a} {b} {c} first then =
      record {
        boundary = then.boundary;
        few = then.few;
        keeps = (λ k. then.keeps.0 (first.keeps.0 k), λ k. first.keeps.1 (then.keeps.1 k));
        reads = λ found left more lexed end.
            let (middle, lexed_middle, m) = first.reads found left more lexed end in
            let (rest, lexed_rest, n) = then.reads middle left more lexed_middle end in
            (rest, lexed_rest, omega (arith, m, n));
        slow = omega (arith, first.slow, then.slow);
      }

  pub few_after : {p q : Progress} {a b c : ℕ} → IsPassed G j p q a b → ReadsFewFrom G j q.at b c → ReadsFewFrom G j p.at a c
  few_after {p} {q} {a} {b} {c} passed few found left more lexed end =
      let (rest, lexed_rest, m) = passed.reads found left more lexed end in omega (arith, m, few rest left more lexed_rest end)

  pub few_passed : {p q : Progress} {a b : ℕ} → IsPassed G j p q a b → ReadsFewFrom G j p.at a b
  few_passed {p} {q} {a} {b} passed found left more lexed end = let (rest, lexed_rest, m) = passed.reads found left more lexed end in omega (arith, m)

  module _ (utf8 : IsUtf8 j.text.now) where
    abbrev rest_at : ℕ → List ℕ
    rest_at at = chars (drop at j.text.now)

    rest_size : (at : ℕ) → IsCharBoundary j.text.now at → at + length (encode_utf8_all (rest_at at)) ≡ length j.text.now
    rest_size at boundary =
        omega (arith, boundary.0, length-drop at j.text.now, ap length (encodes-chars (drop at j.text.now) (IsUtf8-drop j.text.now at utf8 boundary)))

    size_between : (at to : ℕ) (middle : List Piece) → IsCharBoundary j.text.now at → IsCharBoundary j.text.now to → LexesTo G (rest_at at) middle (rest_at to)
        → to ≡ at + size_of middle
    size_between at to middle begins ends lexed = omega (arith, rest_size at begins, rest_size to ends, sizes G lexed)

    some_left : (at : ℕ) → IsCharBoundary j.text.now at → at < length j.text.now → rest_at at ≢ []
    some_left at boundary h = some_rest G j.text.now utf8 at boundary h

    module _ (p q : Progress) (middle : List Piece) (lexed : LexesTo G (rest_at p.at) middle (rest_at q.at)) where
      -- The tokens of a part that was read are the next kept ones.
      pub keeps_on : spelled_from j p.found ≡ tokens_of G middle ++ spelled_from j q.found → IsKeptFrom G j p ↔ IsKeptFrom G j q
      keeps_on next = spells_on G j.text.now p.at q.at middle lexed (spelled_from j p.found) (spelled_from j q.found) next

      -- They aren't.
      pub keeps_none : ((rest : List Piece) → ¬ (spelled_from j p.found ≡ tokens_of G middle ++ rest)) → ¬ IsKeptFrom G j p
      keeps_none others = spells_none G j.text.now p.at q.at middle lexed (spelled_from j p.found) others

      module _ (begins : IsCharBoundary j.text.now p.at) (ends : IsCharBoundary j.text.now q.at) (few : q.found ≤ length j.kept.now)
          (next : spelled_from j p.found ≡ tokens_of G middle ++ spelled_from j q.found) where
        -- a part that was passed without a read
        pub passed_over : (reads : ℕ) → IsPassed G j p q reads reads
        passed_over reads =
            let to = size_between p.at q.at middle begins ends lexed in
            record {
              boundary = ends;
              few = few;
              keeps = keeps_on next;
              reads = λ found left more all end.
                  let (rest, is, lexed_rest) = through G lexed all (none_left G left more end) in
                  (rest, lexed_rest, omega (arith, uncarried_over (items_of j) (runs_of j) middle rest p.at q.at to, ap (uncarried_from j p.at) is));
              slow = omega (arith, to);
            }

    -- The one piece that was read isn't carried.
    module _ (p q : Progress) (kind : ℕ) (piece : List ℕ) (is_next : IsNext G (rest_at p.at) kind piece (rest_at q.at)) where
      abbrev read_piece : Piece
      read_piece = record { kind = kind; text = piece }

      pub one_lexed : LexesTo G (rest_at p.at) (read_piece ∷ []) (rest_at q.at)
      one_lexed = LexesTo.by_piece (rest_at p.at) kind piece (rest_at q.at) (rest_at q.at) [] is_next (LexesTo.by_end (rest_at q.at))

      pub passed_read : IsCharBoundary j.text.now p.at → IsCharBoundary j.text.now q.at → p.at < q.at → q.found ≤ length j.kept.now
          → is_carried (items_of j) (runs_of j) p.at ≡ false →
          spelled_from j p.found ≡ tokens_of G (read_piece ∷ []) ++ spelled_from j q.found → (reads : ℕ) → IsPassed G j p q reads (suc reads)
      passed_read begins ends rises few uncarried next reads =
          let to = size_between p.at q.at (read_piece ∷ []) begins ends one_lexed in
          record {
            boundary = ends;
            few = few;
            keeps = keeps_on p q (read_piece ∷ []) one_lexed next;
            reads = λ found left more all end.
                let (rest, is, lexed_rest) = through G one_lexed all (none_left G left more end) in (
                  rest,
                  lexed_rest,
                  omega (
                    arith,
                    uncarried_one (items_of j) (runs_of j) read_piece rest p.at q.at (omega (arith, to)) uncarried,
                    ap (uncarried_from j p.at) is,
                  ),
                );
            slow = omega (arith, rises);
          }

    module _ (at : ℕ) (begins : IsCharBoundary j.text.now at) (inside : at < length j.text.now) where
      -- where the next piece isn't carried, it may be read
      pub few_read : is_carried (items_of j) (runs_of j) at ≡ false → (reads : ℕ) → ReadsFewFrom G j at reads (suc reads)
      few_read uncarried reads [] left more lexed end = by lexed end
        where
          by : LexesTo G (rest_at at) [] left → IsEndWith G left more → suc reads ≤ reads + (0 + more)
          by lexed (inl (e, z)) = absurd (some_left at begins inside (none_is lexed e))
            where
              none_is : {text left : List ℕ} → LexesTo G text [] left → left ≡ [] → text ≡ []
              none_is (LexesTo.by_end text) e = e
          by lexed (inr (one, stuck)) = omega (arith, one)
      few_read uncarried reads (p ∷ found) left more lexed end =
          omega (arith, uncarried_one (items_of j) (runs_of j) p found at (at + length (encode_utf8_all p.text)) refl uncarried)

      -- where no rule matches, the rest has no tokens
      pub keeps_nothing : (p : Progress) → p.at ≡ at → HasNoPieceAt G j.text.now at → ¬ IsKeptFrom G j p
      keeps_nothing p here none kept =
          let P : ℕ → Type 0 = λ n. SpellsFrom G j.text.now n (spelled_from j p.found) in
          spells_nothing G j.text.now utf8 at begins inside (spelled_from j p.found) none (subst P here kept)

    -- at the end nothing is left
    pub keeps_at_end : (p : Progress) → length j.text.now ≤ p.at → IsKeptFrom G j p ↔ (spelled_from j p.found ≡ [])
    keeps_at_end p end = spells_at_end G j.text.now p.at (spelled_from j p.found) end
