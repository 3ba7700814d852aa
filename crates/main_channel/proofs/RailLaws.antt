-- The names on the rails of a bank are those of its nets.
use Rattle.std.proofs.Common.{◌≡◌, inl, inr, ℕ, zero, suc, ◌+◌, ◌<◌, ◌≤◌, List, [], ◌∷◌, ◌++◌, map, Bool, cond, refl, ap, sym, ◌∙◌, arith}
use Rattle.std.specs.Prelude.{codes}
use Rattle.std.specs.List.{AllByRecursion}
use Rattle.row_laws.proofs.LookLaws.{all_append}
use Rattle.sram_netlist.specs.Organization.{Organization, IsBuildable, IsGroupSize, power_of_two, banks_of}
use Rattle.sram_netlist.specs.Nets.{Clkb, Control, Line}
use Rattle.sram_netlist.specs.Netlist.{wlen_at, sen_at}
use Rattle.sram_netlist.specs.Membership.{IsGroup}
use Rattle.sram_netlist.specs.Names.{LineKind, Column, Group, line_kind_in, line_kind, line_name, with_number, with_numbers, net_name}
use Rattle.sram_netlist.specs.InstanceList.{tabulate}
use Rattle.sram_netlist.proofs.Bounds.{size_small}
use Rattle.sram_netlist.proofs.ChoiceLaws.{nat_same, nat_other, behind, column}
use Rattle.sram_deck.specs.Deck.{predecode_lines_from, column_choices}
use Rattle.sram_rows.proofs.Segments.{all_tabulate}
use Rattle.port_lists.proofs.TabulateLaws.{map_append}
use Rattle.macro_layout.specs.Pins.{line_nets, choice_nets, rail_nets}
use Rattle.main_channel.specs.Names.{rail_names}
use Rattle.main_channel.proofs.NameLaws.{IsChannelNet}
use Rattle.main_channel.proofs.TableLaws.{map_tabulated, tabulated_same}

lines_named : (plan : Organization) (bs : List ℕ) (from g : ℕ) → AllByRecursion IsGroupSize bs → ((o : ℕ) → from ≤ o → line_kind plan o ≡ line_kind_in bs from g o) → map (net_name plan) (line_nets bs from) ≡ predecode_lines_from bs g
lines_named plan [] from g sizes are = refl
lines_named plan (b ∷ bs) from g sizes are =
    let own : line_kind plan from ≡ Group g = are from (omega arith) ∙ ap (λ (t : Bool). cond t (Group g) (line_kind_in bs (from + b) (suc g) from)) (nat_same from) in
    let some = (size_small b sizes.0).0 in
    let first : map (net_name plan) (tabulate (power_of_two b) (Line from b)) ≡ tabulate (power_of_two b) (with_numbers (codes "p") g) =
    map_tabulated (net_name plan) (power_of_two b) (Line from b) ∙ tabulated_same (power_of_two b) (λ k. line_name (line_kind plan from) k) (with_numbers (codes "p") g) (λ k. ap (λ (κ : LineKind). line_name κ k) own) in
    let rest = lines_named plan bs (from + b) (suc g) sizes.1
    (λ o past. are o (omega arith) ∙ ap (λ (t : Bool). cond t (Group g) (line_kind_in bs (from + b) (suc g) o)) (nat_other o from (λ same. omega (arith, some, same)))) in
    map_append (net_name plan) (tabulate (power_of_two b) (Line from b)) (line_nets bs (from + b)) ∙ (λ i. first i ++ rest i)

choices_named : (plan : Organization) (m : ℕ) → plan.col_bits ≡ m → map (net_name plan) (choice_nets m) ≡ column_choices m
choices_named plan zero e = refl
choices_named plan (suc m) e =
    let own : line_kind plan 0 ≡ Column = column plan.col_bits 0 plan.groups refl (omega (arith, e)) in
    map_tabulated (net_name plan) (power_of_two (suc m)) (Line 0 (suc m)) ∙ tabulated_same (power_of_two (suc m)) (λ k. line_name (line_kind plan 0) k) (with_number (codes "sel")) (λ k. ap (λ (κ : LineKind). line_name κ k) own)

pub rails_named : (plan : Organization) (b : ℕ) → IsBuildable plan → map (net_name plan) (rail_nets plan b) ≡ rail_names plan b
rails_named plan b p =
    let others = wlen_at plan.bank_bits b ∷ sen_at plan.bank_bits b ∷ Control Clkb ∷ choice_nets plan.col_bits in
    map_append (net_name plan) (line_nets plan.groups plan.col_bits) others
    ∙ (λ i. lines_named plan plan.groups plan.col_bits 0 p.sizes (λ o past. behind plan.col_bits o plan.groups past) i
    ++ (net_name plan (wlen_at plan.bank_bits b) ∷ net_name plan (sen_at plan.bank_bits b) ∷ codes "clkb" ∷ choices_named plan plan.col_bits refl i))

-- Each is one that names tell.
lines_told : (plan : Organization) (bs : List ℕ) (from : ℕ) → ((o b : ℕ) → IsGroup bs from o b → IsGroup plan.groups plan.col_bits o b) → AllByRecursion (IsChannelNet plan) (line_nets bs from)
lines_told plan [] from are = tt
lines_told plan (b ∷ bs) from are =
    all_append (IsChannelNet plan) (tabulate (power_of_two b) (Line from b)) (line_nets bs (from + b))
    (all_tabulate (IsChannelNet plan) (power_of_two b) (Line from b) (λ k lt. inl ((inr (inl (are from b (inl (refl, refl)))), lt), tt))) (lines_told plan bs (from + b) (λ o c group. are o c (inr group)))

choices_told : (plan : Organization) (m : ℕ) → plan.col_bits ≡ m → AllByRecursion (IsChannelNet plan) (choice_nets m)
choices_told plan zero e = tt
choices_told plan (suc m) e = all_tabulate (IsChannelNet plan) (power_of_two (suc m)) (Line 0 (suc m)) (λ k lt. inl ((inl ((refl, sym e), omega arith), lt), tt))

wlen_told : (plan : Organization) (n b : ℕ) → plan.bank_bits ≡ n → b < banks_of plan → IsChannelNet plan (wlen_at n b)
wlen_told plan zero b e lt = inl (tt, tt)
wlen_told plan (suc n) b e lt = inl (lt, omega (arith, e))

sen_told : (plan : Organization) (n b : ℕ) → plan.bank_bits ≡ n → b < banks_of plan → IsChannelNet plan (sen_at n b)
sen_told plan zero b e lt = inl (tt, tt)
sen_told plan (suc n) b e lt = inl (lt, omega (arith, e))

pub rails_told : (plan : Organization) (b : ℕ) → b < banks_of plan → AllByRecursion (IsChannelNet plan) (rail_nets plan b)
rails_told plan b lt =
    all_append (IsChannelNet plan) (line_nets plan.groups plan.col_bits) (wlen_at plan.bank_bits b ∷ sen_at plan.bank_bits b ∷ Control Clkb ∷ choice_nets plan.col_bits) (lines_told plan plan.groups plan.col_bits (λ o c group. group))
    (wlen_told plan plan.bank_bits b refl lt, (sen_told plan plan.bank_bits b refl lt, (inl (tt, tt), choices_told plan plan.col_bits refl)))
