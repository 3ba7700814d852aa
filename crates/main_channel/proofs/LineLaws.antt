-- A line of a group stands among the predecode lines.
use Rattle.std.proofs.Common.{◌≡◌, inl, inr, ℕ, suc, ◌+◌, ◌<◌, Bool, cond, nat_eq, List, [], ◌∷◌, sym, ap, subst, ◌∙◌, arith}
use Rattle.std.specs.Prelude.{codes}
use Rattle.std.specs.List.{AllByRecursion}
use Rattle.row_laws.proofs.LookLaws.{IsOneOf, one_left, one_right}
use Rattle.sram_netlist.specs.Organization.{power_of_two, IsGroupSize}
use Rattle.sram_netlist.specs.Membership.{IsGroup}
use Rattle.sram_netlist.specs.Names.{LineKind, Group, line_kind_in, line_name, with_numbers}
use Rattle.sram_netlist.specs.InstanceList.{tabulate}
use Rattle.sram_netlist.proofs.Bounds.{size_small}
use Rattle.sram_netlist.proofs.ChoiceLaws.{nat_same, nat_other, above_from}
use Rattle.sram_deck.specs.Deck.{predecode_lines_from}
use Rattle.sram_rows.proofs.Segments.{one_tabulate}

pub group_line_there : (bs : List ℕ) (from g o b k : ℕ) → AllByRecursion IsGroupSize bs → IsGroup bs from o b → k < power_of_two b → IsOneOf (line_name (line_kind_in bs from g o) k) (predecode_lines_from bs g)
group_line_there [] from g o b k sizes h lt = absurd h
group_line_there (c ∷ cs) from g o b k sizes (inl e) lt =
    let is : line_kind_in (c ∷ cs) from g o ≡ Group g = ap (λ (t : Bool). cond t (Group g) (line_kind_in cs (from + c) (suc g) o)) (ap (λ (n : ℕ). nat_eq n from) e.0 ∙ nat_same from) in
    subst (λ (κ : LineKind). IsOneOf (line_name κ k) (predecode_lines_from (c ∷ cs) g)) (sym is)
    (one_left (with_numbers (codes "p") g k) (tabulate (power_of_two c) (with_numbers (codes "p") g)) (predecode_lines_from cs (suc g)) (one_tabulate (power_of_two c) (with_numbers (codes "p") g) k (subst (λ (n : ℕ). k < power_of_two n) e.1 lt)))
group_line_there (c ∷ cs) from g o b k sizes (inr h) lt =
    let above = above_from cs (from + c) o b h in
    let some = (size_small c sizes.0).0 in
    let is : line_kind_in (c ∷ cs) from g o ≡ line_kind_in cs (from + c) (suc g) o = ap (λ (t : Bool). cond t (Group g) (line_kind_in cs (from + c) (suc g) o)) (nat_other o from (λ e. omega (arith, above, some, e))) in
    subst (λ (κ : LineKind). IsOneOf (line_name κ k) (predecode_lines_from (c ∷ cs) g)) (sym is)
    (one_right (line_name (line_kind_in cs (from + c) (suc g) o) k) (tabulate (power_of_two c) (with_numbers (codes "p") g)) (predecode_lines_from cs (suc g)) (group_line_there cs (from + c) (suc g) o b k sizes.1 h lt))
