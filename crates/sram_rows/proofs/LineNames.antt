-- The names of a row's lines, seen from the top.
use Rattle.std.proofs.Common.{◌≡◌, ℕ, suc, ◌+◌, ◌≤◌, List, [], ◌∷◌, ◌++◌, map, Bool, cond, refl, ap, ◌∙◌, arith}
use Rattle.std.specs.Prelude.{codes}
use Rattle.std.specs.List.{AllByRecursion}
use Rattle.sram_netlist.specs.Organization.{Organization, IsBuildable, IsGroupSize}
use Rattle.sram_netlist.specs.Nets.{Line}
use Rattle.sram_netlist.specs.Netlist.{row_lines, low_bits, high_bits}
use Rattle.sram_netlist.specs.Names.{LineKind, Group, line_kind_in, line_kind, in_kind, line_name, with_numbers, full_name}
use Rattle.sram_netlist.proofs.Bounds.{size_small}
use Rattle.sram_netlist.proofs.ChoiceLaws.{nat_same, nat_other, behind}
use Rattle.sram_deck.specs.Deck.{row_lines_from}

lines_as : (plan : Organization) (bs : List ℕ) (from g r : ℕ) → AllByRecursion IsGroupSize bs → ((o : ℕ) → from ≤ o → line_kind plan o ≡ line_kind_in bs from g o) → map (full_name plan) (row_lines bs from r) ≡ row_lines_from bs g r
lines_as plan [] from g r sizes are = refl
lines_as plan (b ∷ bs) from g r sizes are =
    let own : line_kind plan from ≡ Group g = are from (omega arith) ∙ ap (λ (t : Bool). cond t (Group g) (line_kind_in bs (from + b) (suc g) from)) (nat_same from) in
    let some = (size_small b sizes.0).0 in
    let first : full_name plan (Line from b (low_bits b r)) ≡ with_numbers (codes "p") g (low_bits b r) = ap (λ (κ : LineKind). in_kind κ ++ line_name κ (low_bits b r)) own in
    let rest = lines_as plan bs (from + b) (suc g) (high_bits b r) sizes.1
    (λ o past. are o (omega arith) ∙ ap (λ (t : Bool). cond t (Group g) (line_kind_in bs (from + b) (suc g) o)) (nat_other o from (λ same. omega (arith, some, same)))) in
    λ i. first i ∷ rest i

pub lines_names : (plan : Organization) (r : ℕ) → IsBuildable plan → map (full_name plan) (row_lines plan.groups plan.col_bits r) ≡ row_lines_from plan.groups 0 r
lines_names plan r p = lines_as plan plan.groups plan.col_bits 0 r p.sizes (λ o past. behind plan.col_bits o plan.groups past)
