use Rattle.std.proofs.Common.{List, ℕ, sym, subst, ap, ◌∙◌, map}
use Rattle.std.specs.List.Sorted.{IsPermutation}
use Rattle.std.proofs.lemmas.Result.{IfOk-weaker}
use Rattle.std.proofs.lemmas.List.Sorted.{IsPermutation-map}
use Rattle.cell_chains.specs.Ordered.{element_index}
use Rattle.cell_chains.proofs.name_order.by_name.Goals as goal

pub returns : goal.returns
returns c =
    let moved = subst (λ (l : List ℕ). IsPermutation l (map element_index c.sort_by_name.new.named.items)) c.in_ok-named.ensures (IsPermutation-map element_index _ _ c.sort_by_name.ensures) in
    IfOk-weaker _ _ _ (λ made is. subst (λ (l : List ℕ). IsPermutation c.args.indices.now l) (sym (is ∙ ap (map element_index) c.deref.ensures.value)) moved) c.indices_of.ensures
