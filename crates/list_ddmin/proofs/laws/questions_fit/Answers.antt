use Rattle.list_ddmin.proofs.Lengths as lemma
use Rattle.list_ddmin.proofs.laws.questions_fit.Goals as goal

pub returns : goal.returns
returns c = record {
  list_step = lemma.questions_fit;
  rest = lemma.rest_fits;
  asked = lemma.asks_as_kept;
  answered = lemma.keeps_length;
  started = lemma.starts_with_all;
}
