use Rattle.std.proofs.Common.{◌≡◌, ℕ, List, ◌++◌, None, Some, ◌∙◌, sym, ap}
use Rattle.std.proofs.lemmas.Bool.Decides.{Decides-eqb}
use Rattle.std.proofs.lemmas.Slice.Eq.{strip_prefix_is}
use Rattle.reduce_journal.specs.declared.head.Head.TheVariants.{Version1}
use Rattle.reduce_journal.specs.Journal.{head, head_text}
use Rattle.reduce_journal.proofs.Heads.{lacks_both, lacks_other}
use Rattle.reduce_journal.proofs.head.head_at.Goals as goal

pub returns-in_err-start-clause-none : goal.returns-in_err-start-clause-none
returns-in_err-start-clause-none c =
    rw c.from_residual.ensures
    (lacks_both c.args.bytes.now (strip_prefix_is Decides-eqb c.args.bytes.now (head_text Version1) None c.in_default.ensures.cases)
    (λ d rest p begins. let no = c.in_err-start.ensures.each d rest p begins in cc no))

pub returns-in_err-rest-clause-none : goal.returns-in_err-rest-clause-none
returns-in_err-rest-clause-none c =
    let text : c.as_slice.result.now ≡ head c.in_ok-start.start = c.as_slice.ensures.value ∙ c.head_of-head.ensures in
    rw c.from_residual-in_err-rest.ensures
    (lacks_other c.args.bytes.now c.in_ok-start.start (strip_prefix_is Decides-eqb c.args.bytes.now (head_text Version1) None c.in_default.ensures.cases)
    (λ d rest p begins. c.in_ok-start.ensures.each d rest p begins)
    (λ rest begins. strip_prefix_is Decides-eqb c.args.bytes.now c.as_slice.result.now None c.in_err-rest.ensures.cases rest
    (begins ∙ ap (λ (t : List ℕ). t ++ rest) (sym text))))

pub returns-clause-found : goal.returns-clause-found
returns-clause-found c =
    let text : c.as_slice.result.now ≡ head c.in_ok-start.start = c.as_slice.ensures.value ∙ c.head_of-head.ensures in
    let is = c.in_ok-rest.ensures.cases in (
      c.in_ok-start.ensures.digest,
      strip_prefix_is Decides-eqb c.args.bytes.now c.as_slice.result.now (Some c.in_ok-rest.rest) is
          ∙ ap (λ (t : List ℕ). t ++ c.in_ok-rest.rest.now) text,
    )
