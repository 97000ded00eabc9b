use Rattle.normal_form.proofs.Joined as lemma
use Rattle.normal_form.proofs.span_laws.spans_join.Goals as goal

pub returns : goal.returns
returns c normal kinds = lemma.joined normal kinds
