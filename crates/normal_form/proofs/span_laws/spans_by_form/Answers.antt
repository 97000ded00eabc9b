use Rattle.normal_form.proofs.SpansByForm as lemma
use Rattle.normal_form.proofs.span_laws.spans_by_form.Goals as goal

pub returns : goal.returns
returns c normal kinds = lemma.by_form normal kinds (c.normal_derives_by_form.ensures normal)
