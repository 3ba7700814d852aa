-- Which nets rails carry, and which ports of the cells that taps end at are on such nets.
use Rattle.std.proofs.Common.{◌≡◌, inl, inr, ◌∙◌, ℕ, zero, suc, ◌+◌, List, [], ◌∷◌, map, Bool, true, false, refl, sym, ap}
use Rattle.std.specs.Prelude.{Contains, slice_get, Some}
use Rattle.std.proofs.lemmas.Option.{same_Some}
use Rattle.std.proofs.lemmas.List.Elements.{Contains-append_cases}
use Rattle.or_geom.proofs.ListLaws.{contains_none, contains_cases, contained_at}
use Rattle.sram_netlist.specs.Organization.{Organization, power_of_two}
use Rattle.sram_netlist.specs.Nets.{Net, Clkb, Control, Line, WlenAt, SenAt}
use Rattle.sram_netlist.specs.Instances.{PrechargeAt, SenseAt}
use Rattle.sram_netlist.specs.InstanceList.{numbers_from, tabulate}
use Rattle.sram_netlist.specs.Netlist.{ports, lo_net, ro_net, wlen_at, sen_at}
use Rattle.macro_layout.specs.Pins.{line_nets, choice_nets, rail_nets}
use Rattle.good_places.specs.Windows.{with_bits}

abbrev is_rail : Net → Bool
is_rail (Line o b k) = true
is_rail (Control signal) = true
is_rail (WlenAt bank) = true
is_rail (SenAt bank) = true
is_rail net = false

of_table : (o b : ℕ) (ks : List ℕ) (net : Net) → Contains (map (Line o b) ks) net → is_rail net ≡ true
of_table o b [] net has = absurd (contains_none net has)
of_table o b (k ∷ ks) net has = elim (contains_cases (Line o b k) (map (Line o b) ks) net has) [
  | inl e ↦ ap is_rail e
  | inr later ↦ of_table o b ks net later
]

of_lines : (bs : List ℕ) (o : ℕ) (net : Net) → Contains (line_nets bs o) net → is_rail net ≡ true
of_lines [] o net has = absurd (contains_none net has)
of_lines (b ∷ bs) o net has = elim (Contains-append_cases (tabulate (power_of_two b) (Line o b)) (line_nets bs (o + b)) net has) [
  | inl first ↦ of_table o b (numbers_from 0 (power_of_two b)) net first
  | inr later ↦ of_lines bs (o + b) net later
]

of_choices : (n : ℕ) (net : Net) → Contains (choice_nets n) net → is_rail net ≡ true
of_choices zero net has = absurd (contains_none net has)
of_choices (suc n) net has = of_table 0 (suc n) (numbers_from 0 (power_of_two (suc n))) net has

of_wlen : (n : ℕ) → is_rail (wlen_at n 0) ≡ true
of_wlen zero = refl
of_wlen (suc n) = refl

of_sen : (n : ℕ) → is_rail (sen_at n 0) ≡ true
of_sen zero = refl
of_sen (suc n) = refl

carried : (plan : Organization) (rail : ℕ) (net : Net) → slice_get (rail_nets plan 0) rail ≡ Some net → is_rail net ≡ true
carried plan rail net at = elim (Contains-append_cases (line_nets plan.groups plan.col_bits) (wlen_at plan.bank_bits 0 ∷ sen_at plan.bank_bits 0 ∷ Control Clkb ∷ choice_nets plan.col_bits) net (contained_at (rail_nets plan 0) rail net at)) [
  | inl lines ↦ of_lines plan.groups plan.col_bits net lines
  | inr rest ↦ elim (contains_cases (wlen_at plan.bank_bits 0) (sen_at plan.bank_bits 0 ∷ Control Clkb ∷ choice_nets plan.col_bits) net rest) [
    | inl e ↦ ap is_rail e ∙ of_wlen plan.bank_bits
    | inr more ↦ elim (contains_cases (sen_at plan.bank_bits 0) (Control Clkb ∷ choice_nets plan.col_bits) net more) [
      | inl e ↦ ap is_rail e ∙ of_sen plan.bank_bits
      | inr last ↦ elim (contains_cases (Control Clkb) (choice_nets plan.col_bits) net last) [
        | inl e ↦ ap is_rail e
        | inr choice ↦ of_choices plan.col_bits net choice
      ]
    ]
  ]
]

not_lo : (n i : ℕ) → is_rail (lo_net n 0 i) ≡ false
not_lo zero i = refl
not_lo (suc n) i = refl

not_ro : (n i : ℕ) → is_rail (ro_net n 0 i) ≡ false
not_ro zero i = refl
not_ro (suc n) i = refl

never : (net other : Net) → Some net ≡ Some other → is_rail net ≡ false → is_rail other ≡ true → ⊥
never net other e none carries = let t : true ≡ false = sym carries ∙ (ap is_rail (sym (same_Some net other e)) ∙ none) in cc

-- a precharge cell's port on a rail's net is on it in each column, and a sense cell's in each slice
module _ (base : Organization) (w1 r1 m1 w2 r2 m2 : ℕ) (rail : ℕ) (net : Net) (on : slice_get (rail_nets base 0) rail ≡ Some net) where
  pub same_precharge : (c d port : ℕ) → slice_get (ports (with_bits base w1 r1 m1) (PrechargeAt 0 c)) port ≡ Some net → slice_get (ports (with_bits base w2 r2 m2) (PrechargeAt 0 d)) port ≡ Some net
  same_precharge c d zero at = absurd (never _ net at refl (carried base rail net on))
  same_precharge c d (suc zero) at = absurd (never _ net at refl (carried base rail net on))
  same_precharge c d (suc (suc port)) at = at

  pub same_sense : (i j port : ℕ) → slice_get (ports (with_bits base w1 r1 m1) (SenseAt 0 i)) port ≡ Some net → slice_get (ports (with_bits base w2 r2 m2) (SenseAt 0 j)) port ≡ Some net
  same_sense i j zero at = absurd (never (lo_net base.col_bits 0 i) net at (not_lo base.col_bits i) (carried base rail net on))
  same_sense i j (suc zero) at = absurd (never (ro_net base.col_bits 0 i) net at (not_ro base.col_bits i) (carried base rail net on))
  same_sense i j (suc (suc zero)) at = absurd (never _ net at refl (carried base rail net on))
  same_sense i j (suc (suc (suc port))) at = at
