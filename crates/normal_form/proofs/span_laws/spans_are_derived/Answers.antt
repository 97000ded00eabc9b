use Rattle.normal_form.proofs.Derived as lemma
use Rattle.normal_form.proofs.span_laws.spans_are_derived.Goals as goal

pub returns : goal.returns
returns c normal kinds = lemma.derived normal kinds
