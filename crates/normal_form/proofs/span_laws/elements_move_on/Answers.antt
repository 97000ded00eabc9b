use Rattle.normal_form.proofs.SpanElements as lemma
use Rattle.normal_form.proofs.span_laws.elements_move_on.Goals as goal

pub returns : goal.returns
returns c = lemma.elements_move_on c.elements_are_not_empty.ensures
