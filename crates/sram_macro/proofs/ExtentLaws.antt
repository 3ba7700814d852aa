-- The ends of a macro.
use Rattle.std.proofs.Common.{◌≡◌, ℕ, zero, suc, ◌<◌, ◌≤◌, ℤ, pos, ◌+ℤ◌, ◌*ℤ◌, ◌≤ℤ◌, ap, sym, subst, ◌∙◌, arith, w64, to_z, of_z}
use Rattle.std.proofs.lemmas.Int.{ints}
use Rattle.std.specs.Int.{int_max}
use Rattle.tech_rules.specs.declared.tech.Wire.{Wire}
use Rattle.sram_netlist.specs.Organization.{Organization, power_of_two, banks_of}
use Rattle.sram_netlist.specs.Numbers.{PlanNumbers, ArePlanNumbers}
use Rattle.port_lists.proofs.NumberLaws.{banks_are}
use Rattle.port_lists.proofs.TabulateLaws.{some_lines}
use Rattle.sram_netlist.specs.InstanceList.{logic_cells}
use Rattle.macro_layout.specs.LayoutKit.{LayoutKit}
use Rattle.macro_layout.specs.Places.{Floorplan, total_width}
use Rattle.macro_layout.specs.Wires.{trunk_x}
use Rattle.floorplan.specs.FloorplanNumbers.{IsUpTo}

-- so many widths
pub four_times : (n : ℕ) (w : ℤ) → n ≤ 4 → IsUpTo 33554432 w → IsUpTo 134217728 (pos n *ℤ w)
four_times zero w few is = record { above = omega (arith, ints); below = omega (arith, ints) }
four_times (suc zero) w few is = let low = is.above in let high = is.below in record { above = omega (arith, ints, low); below = omega (arith, ints, high) }
four_times (suc (suc zero)) w few is = let low = is.above in let high = is.below in record { above = omega (arith, ints, low); below = omega (arith, ints, high) }
four_times (suc (suc (suc zero))) w few is = let low = is.above in let high = is.below in record { above = omega (arith, ints, low); below = omega (arith, ints, high) }
four_times (suc (suc (suc (suc zero)))) w few is = let low = is.above in let high = is.below in record { above = omega (arith, ints, low); below = omega (arith, ints, high) }
four_times (suc (suc (suc (suc (suc n))))) w few is = absurd (omega (arith, few))

-- one width at least
pub first_width : (n : ℕ) (w : ℤ) → 0 < n → n ≤ 4 → pos 0 ≤ℤ w → w ≤ℤ (pos n *ℤ w)
first_width zero w some few low = absurd (omega (arith, some))
first_width (suc zero) w some few low = omega (arith, ints)
first_width (suc (suc zero)) w some few low = omega (arith, ints, low)
first_width (suc (suc (suc zero))) w some few low = omega (arith, ints, low)
first_width (suc (suc (suc (suc zero)))) w some few low = omega (arith, ints, low)
first_width (suc (suc (suc (suc (suc n))))) w some few low = absurd (omega (arith, few))

few_powers : (b : ℕ) → b ≤ 2 → power_of_two b ≤ 4
few_powers zero few = omega arith
few_powers (suc zero) few = omega arith
few_powers (suc (suc zero)) few = omega arith
few_powers (suc (suc (suc b))) few = absurd (omega (arith, few))

pub few_banks : (n : PlanNumbers) → ArePlanNumbers n → n.banks ≤ 4
few_banks n are = subst (λ (k : ℕ). k ≤ 4) (sym (banks_are n are)) (few_powers n.bank_bits are.plan.banks)

pub some_banks : (n : PlanNumbers) → ArePlanNumbers n → 0 < n.banks
some_banks n are = subst (λ (k : ℕ). 0 < k) (sym (banks_are n are)) (some_lines n.bank_bits)

-- as it is read
pub kept : {most : ℕ} (z : ℤ) → IsUpTo most z → most ≤ 2147483648 → to_z w64 (of_z w64 z) ≡ z
kept z is few = let low = is.above in let high = is.below in omega (arith, ints, low, high, few)

-- where the banks end, as it is read
pub bank_end_is : (b w : ℤ) (n : ℕ) → b ≡ pos n *ℤ to_z w64 (of_z w64 w) → IsUpTo 33554432 w → n ≤ 4 → b ≡ pos n *ℤ w
bank_end_is b w n is near few = is ∙ ap (λ (z : ℤ). pos n *ℤ z) (kept w near (omega arith))

pub bank_end_near : (b w : ℤ) (n : ℕ) → b ≡ pos n *ℤ w → IsUpTo 33554432 w → n ≤ 4 → IsUpTo 134217728 b
bank_end_near b w n is near few = subst (IsUpTo 134217728) (sym is) (four_times n w few near)

pub trunk_is : (plan : Organization) (kit : LayoutKit) (wire : Wire) (floorplan : Floorplan) (end banks logic : ℤ) (n k : ℕ) → end ≡ int_max banks logic → banks ≡ pos n *ℤ floorplan.bank_width → n ≡ banks_of plan
    → logic ≡ floorplan.logic_x +ℤ pos k → k ≡ total_width plan kit (logic_cells plan) → end +ℤ wire.space ≡ trunk_x plan kit wire floorplan
trunk_is plan kit wire floorplan end banks logic n k is left count right wide =
    ap (λ (z : ℤ). z +ℤ wire.space) (is ∙ (λ i. int_max ((left ∙ ap (λ (m : ℕ). pos m *ℤ floorplan.bank_width) count) i) ((right ∙ ap (λ (m : ℕ). floorplan.logic_x +ℤ pos m) wide) i)))

-- sizes of wires, as they are read
pub size_kept : (w : ℤ) → pos 1 ≤ℤ w → w ≤ℤ pos 65536 → to_z w64 (of_z w64 w) ≡ w
size_kept w some few = omega (arith, ints, some, few)

pub sum_kept : (w s : ℤ) → pos 1 ≤ℤ w → w ≤ℤ pos 65536 → pos 1 ≤ℤ s → s ≤ℤ pos 65536 → to_z w64 (of_z w64 (to_z w64 (of_z w64 w) +ℤ to_z w64 (of_z w64 s))) ≡ w +ℤ s
sum_kept w s some few more most = omega (arith, ints, some, few, more, most)
