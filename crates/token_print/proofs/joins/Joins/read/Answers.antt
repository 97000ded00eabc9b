use Rattle.std.proofs.Common.{◌≡◌, ◌<◌, ℕ, true, false, refl, sym, ap, ◌∙◌, subst}
use Rattle.std.specs.Prelude.{MatchOption}
use Rattle.grammar_tree.specs.Lexes.{is_gap_kind}
use Rattle.lexer.specs.declared.piece.Piece.{Piece}
use Rattle.lexer.specs.Pieces.{HasNoPieceAt, IsPieceOf}
use Rattle.token_print.specs.declared.joins.Progress.{Progress}
use Rattle.token_print.specs.inner.Joins.{IsKeptFrom, IsPassed, ReadsFewFrom}
use Rattle.token_print.proofs.Going.{few_read, keeps_nothing}
use Rattle.token_print.proofs.Reading.{at_none, at_some, piece_slice, read_gap, read_token}
use Rattle.token_print.proofs.joins.Joins.read.Goals as goal

pub returns-in_err-found-clause-reads : goal.returns-in_err-found-clause-reads
returns-in_err-found-clause-reads g c =
    let j = c.args.self.now in
    let P : ℕ → Type 0 = λ n. ReadsFewFrom (g.R.PieceReader.grammar c.args.reader.now) j c.args.progress.at (g.R.PieceReader.reads c.args.reader.now) n in
    subst P (sym c.piece_at.ensures.reads)
    (few_read (g.R.PieceReader.grammar c.args.reader.now) j c.requires.of.text c.args.progress.at c.requires.starts c.requires.inside c.requires.uncarried
    (g.R.PieceReader.reads c.args.reader.now))

pub returns-in_default-clause-reads : goal.returns-in_default-clause-reads
returns-in_default-clause-reads g c =
    let j = c.args.self.now in
    let P : ℕ → Type 0 = λ n. ReadsFewFrom (g.R.PieceReader.grammar c.args.reader.now) j c.args.progress.at (g.R.PieceReader.reads c.args.reader.now) n in
    subst P (sym c.piece_at.ensures.reads)
    (few_read (g.R.PieceReader.grammar c.args.reader.now) j c.requires.of.text c.args.progress.at c.requires.starts c.requires.inside
    c.requires.uncarried (g.R.PieceReader.reads c.args.reader.now))

pub returns-in_default-clause-passed : goal.returns-in_default-clause-passed
returns-in_default-clause-passed g c =
    let j = c.args.self.now in
    let G = g.R.PieceReader.grammar c.args.reader.now in
    let at = c.args.progress.at in
    let none : HasNoPieceAt G j.text.now at =
    at_none c.in_ok-found.found (HasNoPieceAt G j.text.now at)
    (λ (p : Piece). (p.start ≡ at) × IsPieceOf G j.text.now p) c.in_default.is c.in_ok-found.ensures.piece in
    keeps_nothing G j c.requires.of.text at c.requires.starts c.requires.inside c.args.progress refl none

pub returns-then-is_gap-clause-reads : goal.returns-then-is_gap-clause-reads
returns-then-is_gap-clause-reads g c =
    let j = c.args.self.now in
    let P : ℕ → Type 0 = λ n. ReadsFewFrom (g.R.PieceReader.grammar c.args.reader.now) j c.args.progress.at (g.R.PieceReader.reads c.args.reader.now) n in
    subst P (sym c.piece_at.ensures.reads)
    (few_read (g.R.PieceReader.grammar c.args.reader.now) j c.requires.of.text c.args.progress.at c.requires.starts
    c.requires.inside c.requires.uncarried (g.R.PieceReader.reads c.args.reader.now))

pub returns-then-is_gap-clause-passed : goal.returns-then-is_gap-clause-passed
returns-then-is_gap-clause-passed g c =
    let j = c.args.self.now in
    let G = g.R.PieceReader.grammar c.args.reader.now in
    let reads = g.R.PieceReader.reads c.args.reader.now in
    let at = c.args.progress.at in
    let p = c.in-Some.piece in
    let (begins, is) =
    at_some c.in_ok-found.found p (HasNoPieceAt G j.text.now at)
    (λ (q : Piece). (q.start ≡ at) × IsPieceOf G j.text.now q) c.in-Some.is c.in_ok-found.ensures.piece in
    let gap : is_gap_kind G p.kind ≡ true = ap (λ H. is_gap_kind H p.kind) (sym c.piece_at.ensures.grammar) ∙ sym c.is_gap.ensures ∙ c.if-is_gap.true in
    let q : Progress = record { at = p.end; found = c.args.progress.found } in
    let P : ℕ → Type 0 = λ n. (at < p.end) × IsPassed G j c.args.progress q reads n in
    subst P (sym c.piece_at.ensures.reads)
    (read_gap G j c.requires.of c.args.progress c.requires.starts c.requires.found c.requires.uncarried reads p begins is gap)

pub take-requires-clause-slice : goal.take-requires-clause-slice
take-requires-clause-slice g c =
    let j = c.args.self.now in
    let G = g.R.PieceReader.grammar c.args.reader.now in
    let at = c.args.progress.at in
    let (begins, is) =
    at_some c.in_ok-found.found c.in-Some.piece (HasNoPieceAt G j.text.now at)
    (λ (q : Piece). (q.start ≡ at) × IsPieceOf G j.text.now q) c.in-Some.is c.in_ok-found.ensures.piece in
    piece_slice G j.text.now c.in-Some.piece c.requires.of.text is

pub returns-clause-reads : goal.returns-clause-reads
returns-clause-reads g c =
    let j = c.args.self.now in
    let P : ℕ → Type 0 = λ n. ReadsFewFrom (g.R.PieceReader.grammar c.args.reader.now) j c.args.progress.at (g.R.PieceReader.reads c.args.reader.now) n in
    subst P (sym c.piece_at.ensures.reads)
    (few_read (g.R.PieceReader.grammar c.args.reader.now) j c.requires.of.text c.args.progress.at
    c.requires.starts c.requires.inside c.requires.uncarried (g.R.PieceReader.reads c.args.reader.now))

pub returns-clause-passed : goal.returns-clause-passed
returns-clause-passed g c =
    let j = c.args.self.now in
    let G = g.R.PieceReader.grammar c.args.reader.now in
    let reads = g.R.PieceReader.reads c.args.reader.now in
    let at = c.args.progress.at in
    let p = c.in-Some.piece in
    let (begins, is) = at_some c.in_ok-found.found p (HasNoPieceAt G j.text.now at)
    (λ (q : Piece). (q.start ≡ at) × IsPieceOf G j.text.now q) c.in-Some.is c.in_ok-found.ensures.piece in
    let token : is_gap_kind G p.kind ≡ false =
    ap (λ H. is_gap_kind H p.kind) (sym c.piece_at.ensures.grammar) ∙ sym c.is_gap.ensures ∙ c.if-is_gap.false in
    let P : ℕ → Type 0 = λ n. MatchOption c.take.result (¬ IsKeptFrom G j c.args.progress) (λ q. (at < q.at) × IsPassed G j c.args.progress q reads n) in
    subst P (sym c.piece_at.ensures.reads)
    (read_token G j c.requires.of c.args.progress c.requires.starts c.requires.found c.requires.uncarried reads p begins is token c.take.result c.take.ensures)
