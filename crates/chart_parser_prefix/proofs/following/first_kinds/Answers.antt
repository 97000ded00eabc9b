use Rattle.std.proofs.Common.{List, length, subst, sym, ℕ, ◌<◌}
use Rattle.chart_parser_prefix.proofs.following.first_kinds.Goals as goal

pub returns : goal.returns
returns c =
    let all = c.in_ok-kinds.kinds.items in
    let same = c.deref.ensures.value in
    record {
      all = all;
      exact = c.in_ok-kinds.ensures;
      first = c.truncate.ensures.items;
      rest = (
        λ t. subst (λ (l : List ℕ). 8 < length l) same (c.is_longer-has_more.ensures.0 t),
        λ l. c.is_longer-has_more.ensures.1 (subst (λ (x : List ℕ). 8 < length x) (sym same) l),
      );
    }
