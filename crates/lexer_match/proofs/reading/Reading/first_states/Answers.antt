use Rattle.std.proofs.Common.{List, ℕ, ◌∷◌, refl, sym, ◌∙◌, subst}
use Rattle.std.specs.List.{Contains}
use Rattle.lexer_match.specs.Nfa.{Reads}
use Rattle.lexer_match.proofs.Steps.{marked_inside, read_step}
use Rattle.lexer_match.proofs.reading.Reading.first_states.Goals as goal

pub returns-clause-inside : goal.returns-clause-inside
returns-clause-inside c n among =
    let P : List ℕ → Type 0 = λ x. Contains x n in
    marked_inside c.begin.new.self.states.items c.begin.new.self.marks.items _ n c.in_ok-begin.ensures.marked
    (c.in_ok-begin.ensures.size ∙ c.requires.ready.current_size) (subst P (c.in_ok-from_slice.ensures.items ∙ c.deref.ensures.value) among)

pub returns-clause-reads : goal.returns-clause-reads
returns-clause-reads c d w = (
  λ r.
      let (n, among, more) = (c.in_ok-begin.ensures.reads (d ∷ w)).1 r in
      let (next, (m, here, step), rest) = read_step c.args.nfa.now c.begin.new.self.states.items d w c.in_ok-begin.ensures.followed more refl among in
      let P : List ℕ → Type 0 = λ x. Contains x m in
      (m, next, subst P (sym (c.in_ok-from_slice.ensures.items ∙ c.deref.ensures.value)) here, step, rest),
  λ (n, next, among, (state, at, step), rest).
      let P : List ℕ → Type 0 = λ x. Contains x n in
      (c.in_ok-begin.ensures.reads (d ∷ w)).0 (
        n,
        subst P (c.in_ok-from_slice.ensures.items ∙ c.deref.ensures.value) among,
        Reads.by_char n next state d w at step rest,
      ),
)
