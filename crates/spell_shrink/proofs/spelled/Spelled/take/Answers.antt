use Rattle.std.proofs.Common.{◌≡◌, ◌∙◌, ◌<◌, ◌++◌, ℕ, List, None, length, take, drop, slice_index, string_bytes, ap, refl, sym, subst, arith, length-set}
use Rattle.std.proofs.Math.Logic.{∥∥₁_elim}
use Rattle.std.proofs.Math.Seq.{take-append_seam}
use Rattle.std.proofs.Props.{props}
use Rattle.std.specs.Str.{IsUtf8}
use Rattle.std.specs.Vec.{with_item, with_items}
use Rattle.std.proofs.lemmas.List.Elements.{All-set}
use denote.Ref.{Bor}
use Rattle.spell_shrink.specs.declared.spelled.Spelled.{Spelled}
use Rattle.spell_shrink.specs.inner.Spelled.{respelling_of}
use Rattle.spell_shrink.proofs.ChangedTexts.{offsets_long}
use Rattle.spell_shrink.proofs.Taking.{enough, moved_places, spelled_at, taken_print, with_word, within_both}
use Rattle.spell_shrink.proofs.spelled.Spelled.take.Goals as goal

pub index-requires : goal.index-requires
index-requires c =
    let s = c.args.self.now in
    let both = within_both s.kept.items s.words.items c.args.token c.requires.token in omega (arith, both.1, s.words.ok)

pub index_mut-requires : goal.index_mut-requires
index_mut-requires c =
    let s = c.args.self.now in
    let both = within_both s.kept.items s.words.items c.args.token c.requires.token in omega (arith, both.1, s.words.ok)

-- the spelling that is taken is shorter
pub overflow_sub-lost : goal.overflow_sub-lost
overflow_sub-lost c =
    let s = c.args.self.now in
    let both = within_both s.kept.items s.words.items c.args.token c.requires.token in
    let size = ap length (spelled_at s.kept.items s.words.items c.args.token c.index.result.now both.0 both.1) in
    let here = ap (λ (w : Bor (List ℕ)). length w.now) c.index.ensures in
    omega (arith, c.requires.shorter, size, here)

pub move_back-requires-clause-index : goal.move_back-requires-clause-index
move_back-requires-clause-index c =
    let s = c.args.self.now in
    ∥∥₁_elim c.requires.printed (hlevel props)
    (λ p.
    let long = offsets_long p.0 p.1 p.2 p.3 0 None (respelling_of s) in
    let same = ap (λ (l : List ℕ). length l) p.4.places_are in
    omega (arith, c.requires.token, long, same, ap (λ (l : List ℕ). length l) c.deref_mut.ensures.value))

-- the later tokens begin after what is lost
pub move_back-requires-clause-enough : goal.move_back-requires-clause-enough
move_back-requires-clause-enough c = λ k after less.
    let s = c.args.self.now in
    let both = within_both s.kept.items s.words.items c.args.token c.requires.token in
    let size = ap length (spelled_at s.kept.items s.words.items c.args.token c.index.result.now both.0 both.1) in
    let here = ap (λ (w : Bor (List ℕ)). length w.now) c.index.ensures in
    let lent = c.deref_mut.result.now in
    let same : lent ≡ s.places.items = c.deref_mut.ensures.value in
    let inside : k < length s.places.items = subst (λ (l : List ℕ). k < length l) same less in
    let at : slice_index lent k ≡ slice_index s.places.items k = ap (λ (l : List ℕ). slice_index l k) same in
    ∥∥₁_elim c.requires.printed (hlevel props)
    (λ p.
    let far =
    enough p.0 p.1 p.2 p.3 (respelling_of s) c.args.token c.args.word.now c.requires.shorter s.places.items p.4.places_are k after inside in
    omega (arith, far, at, size, here))

pub returns-clause-taken : goal.returns-clause-taken
returns-clause-taken c =
    let s = c.args.self.now in
    let both = within_both s.kept.items s.words.items c.args.token c.requires.token in
    with_word s.kept.items s.words.items c.args.token c.args.word both.0 both.1

pub returns-clause-print : goal.returns-clause-print
returns-clause-print c = λ skips start tokens style print text_of.
    let s = c.args.self.now in
    let both = within_both s.kept.items s.words.items c.args.token c.requires.token in
    let taken = with_word s.kept.items s.words.items c.args.token c.args.word both.0 both.1 in
    let size = ap length (spelled_at s.kept.items s.words.items c.args.token c.index.result.now both.0 both.1) in
    let here = ap (λ (w : Bor (List ℕ)). length w.now) c.index.ensures in
    let lent = c.deref_mut.result.now in
    let same : lent ≡ s.places.items = c.deref_mut.ensures.value in
    let at : (j : ℕ) → slice_index lent j ≡ slice_index s.places.items j = λ j. ap (λ (l : List ℕ). slice_index l j) same in
    let inside : (j : ℕ) → j < length s.places.items → j < length lent = λ j less. subst (λ (l : List ℕ). j < length l) (sym same) less in
    let places =
    moved_places skips start tokens style (respelling_of s) c.args.token c.args.word.now c.requires.shorter s.places.items print.places_are
    c.move_back.new.places (c.move_back.ensures.len ∙ ap (λ (l : List ℕ). length l) same)
    (λ j low less. c.move_back.ensures.before j low (inside j less) ∙ at j)
    (λ j after less. omega (arith, c.move_back.ensures.after j after (inside j less), at j, size, here)) in
    let moved = c.move_back.new.places in
    let many : s.places.len ≡ length moved = omega (arith, c.move_back.ensures.len, ap (λ (l : List ℕ). length l) same, s.places.ok) in
    let written : (with_items s.places moved).items ≡ moved =
    ap (λ n. take n (moved ++ drop (length moved) s.places.items)) many ∙ take-append_seam moved (drop (length moved) s.places.items) in
    let new : Spelled =
    record {
      alloc = s.alloc;
      kept = s.kept;
      words = with_item s.words c.args.token c.args.word;
      places = with_items s.places c.move_back.new.places;
      text = c.in_ok-self.field-0;
    } in
    taken_print c.args.lexer.now.grammar skips start tokens style s new c.args.token c.args.word (string_bytes c.args.text) c.args.keeps print text_of refl
    (length-set s.words.items c.args.token c.args.word)
    (All-set (λ (w : Bor (List ℕ)). IsUtf8 w.now) s.words.items c.args.token c.args.word c.utf8.word print.utf8) taken c.in_ok-self.ensures.text (written ∙ places)
    c.in_ok-self.ensures.cut c.in_ok-self.ensures.none
