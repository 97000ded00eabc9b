use Rattle.normal_form.proofs.VisibleKinds as lemma
use Rattle.normal_form.proofs.form_laws.parts_are_visible_kinds.Goals as goal

pub returns : goal.returns
returns c = lemma.parts_are_visible_kinds
