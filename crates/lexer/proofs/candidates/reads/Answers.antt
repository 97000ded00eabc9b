use Rattle.std.proofs.Common.{length, sym, ◌∙◌, refl, true≢false}
use Rattle.std.proofs.lemmas.Option.{slice_get_read}
use Rattle.lexer_match.proofs.Lent.{reads_none}
use Rattle.lexer.proofs.candidates.reads.Goals as goal

pub returns-in-Some : goal.returns-in-Some
returns-in-Some c = record { not = λ e next. absurd (true≢false e) }

pub returns-in-None : goal.returns-in-None
returns-in-None c = record {
  not = λ e next.
      let P = c.args.nfa.now in
      reads_none P c.args.state c.index-nfa-state.result c.args.c next
      (slice_get_read P (length P) c.args.state c.index-nfa-state.result refl c.requires.inside c.index-nfa-state.is) (sym c.after.ensures ∙ c.in-None.is);
}
