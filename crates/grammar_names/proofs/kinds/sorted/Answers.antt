use Rattle.std.proofs.Common.{ap, sym, ◌∙◌, subst}
use Rattle.std.specs.Prelude.{nat_eq}
use Rattle.std.specs.List.Sorted.{IsStrictlyIncreasing}
use Rattle.std.proofs.lemmas.List.Filters.{dedup_is}
use Rattle.std.proofs.lemmas.List.Sorted.{list_any-IsPermutation}
use Rattle.std.proofs.lemmas.Map.Keys.{IsStrictlyIncreasing-dedup}
use Rattle.std.proofs.Math.Dec.{eqb}
use Rattle.grammar_names.specs.KindLists.{is_in}
use Rattle.grammar_names.proofs.KindLists.{in_dedup}
use Rattle.grammar_names.proofs.kinds.sorted.Goals as goal

pub returns : goal.returns
returns c =
    let is = dedup_is eqb c.sort_unstable.new.self.items c.dedup.new.self.items c.dedup.ensures.filtered in
    record {
      rising = subst IsStrictlyIncreasing (sym is) (IsStrictlyIncreasing-dedup c.sort_unstable.new.self.items c.sort_unstable.ensures.sorted);
      same =
          λ k. ap (λ l. is_in l k) is ∙ in_dedup c.sort_unstable.new.self.items k
          ∙ sym (list_any-IsPermutation (λ other. nat_eq other k) c.args.numbers.items c.sort_unstable.new.self.items c.sort_unstable.ensures.permutation);
    }
