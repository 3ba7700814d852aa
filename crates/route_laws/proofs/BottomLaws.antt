-- The lower side of the main channel: where no two pins are too close in the model's, none are.
use Rattle.std.proofs.Common.{◌≡◌, ◌⊎◌, inl, inr, ℕ, zero, suc, ◌+◌, ◌-◌, ◌<◌, ◌≤◌, ℤ, pos, ◌+ℤ◌, ◌≤ℤ◌, ◌<ℤ◌, List, [], ◌∷◌, ◌++◌, map, flat_map, length, get_or, Option, None, Some, refl, sym, ap, subst, ◌∙◌, arith}
use Rattle.std.specs.Prelude.{slice_get, option_map}
use Rattle.std.specs.List.{AllByRecursion}
use Rattle.std.proofs.lemmas.Int.{ints, by_lt_z}
use Rattle.std.proofs.lemmas.List.{length-map}
use Rattle.std.proofs.lemmas.Option.{slice_get-map, get_or_from_slice_get}
use Rattle.cell_roles.specs.declared.role.Role.{Role}
use Rattle.cell_roles.specs.declared.role.Role.TheVariants.{Bitcell, Precharge, Mux, Tie, Sense, Write, RowNand2, RowNand3, Driver, Nand2, Nand3, Inv, Dff, Delay}
use Rattle.sram_netlist.proofs.InstanceLists.{to_map, of_map, place_in, to_cells}
use Rattle.channel_router.specs.declared.channel.ChannelPin.{ChannelPin}
use Rattle.channel_router.specs.Routed.{pin_xs}
use Rattle.leaf_shapes.specs.Demands.{role_demands}
use Rattle.sram_netlist.specs.Organization.{Organization, IsBuildable, IsWritten}
use Rattle.sram_netlist.specs.Nets.{Net}
use Rattle.sram_netlist.specs.Instances.{LogicCell, Clki, Csd, Wed, Csi, Wei, Wln, Wli, Wrn, Wri, Rdn, Rdi, Dlay, Senn, Seni, Ad, Ai, Dd, Dm, Pn, Pi, Ln, Li, Kn, Ki, Gn, Gi}
use Rattle.sram_netlist.specs.Netlist.{gate_of, logic_role, logic_cell_ports, enable_inputs}
use Rattle.sram_netlist.specs.Membership.{HasLogicCell, IsOneOf}
use Rattle.sram_netlist.specs.Names.{net_name}
use Rattle.sram_netlist.specs.InstanceList.{numbers_from, tabulate, tabulate_lists, logic_cells}
use Rattle.sram_deck.specs.Deck.{logic_cell}
use Rattle.sram_rows.proofs.LogicCells.{cells_in}
use Rattle.macro_layout.specs.LayoutKit.{LayoutKit}
use Rattle.macro_layout.specs.Places.{Floorplan}
use Rattle.macro_layout.specs.Pins.{main_nets}
use Rattle.main_channel.specs.Pins.{pin_of}
use Rattle.main_channel.specs.Row.{port_channel_pin, cell_channel_pins, row_pins}
use Rattle.main_channel.specs.Formula.{main_number, port_begin, main_bottom}
use Rattle.main_channel.proofs.LookLaws.{IsNumbering, numbering_is}
use Rattle.main_channel.proofs.RowLaws.{cell_fits}
use Rattle.spacing_laws.proofs.CloseLaws.{AreNear, HasClose}
use Rattle.spacing_laws.proofs.RepeatLaws.{IsInStep, AreInStep}
use Rattle.route_laws.proofs.ColumnLaws.{HasPinsInCells, xs_append, xs_flat}
use Rattle.spacing_laws.proofs.RowLaws.{moved, row_xs, IsWideCell, AreWideCells, HasCloseCell, HasClosePair, close_in_row, cell_in_row, pair_in_row}
use Rattle.spacing_laws.proofs.PathLaws.{PairIn, pair_related}
use Rattle.route_laws.proofs.KindLaws.{kinds, model, model_path}
use Rattle.route_laws.proofs.NumberLaws.{ports_main}
use Rattle.spacing_laws.proofs.PartLaws.{IsPart, part_same, part_none, part_append, part_lists, part_of_part}

-- where the pins of a role's cell begin, but for supplies
abbrev pub pin_count : Role → ℕ
pin_count role = length (role_demands role) - 2

abbrev pub bottom_offsets : LayoutKit → Role → List ℤ
bottom_offsets kit role = tabulate (pin_count role) (port_begin kit 1 role)

-- a pin is there or not; and it is where its net has a number
pub pin_part : (o : Option ℕ) (x : ℤ) → IsPart (pin_xs (pin_of o x)) (x ∷ [])
pin_part None x = part_none (x ∷ [])
pin_part (Some net) x = part_same (x ∷ []) (x ∷ []) refl

pub pin_there : (o : Option ℕ) (k : ℕ) (x : ℤ) → o ≡ Some k → (x ∷ []) ≡ pin_xs (pin_of o x)
pin_there o k x e = ap (λ (p : Option ℕ). pin_xs (pin_of p x)) (sym e)

singles_moved : (begin : ℕ → ℤ) (z : ℤ) (ns : List ℕ) → flat_map (λ q. (z +ℤ begin q) ∷ []) ns ≡ moved z (map begin ns)
singles_moved begin z [] = refl
singles_moved begin z (n ∷ ns) = ap (λ (l : List ℤ). (z +ℤ begin n) ∷ l) (singles_moved begin z ns)

-- the pins of a cell

ports_xs : (begin : ℕ → ℤ) (look : List ℕ → Option ℕ) (names : List (List ℕ)) (z : ℤ) (n : ℕ) → pin_xs (tabulate_lists n (port_channel_pin begin look names z)) ≡ tabulate_lists n (λ q. pin_xs (port_channel_pin begin look names z q))
ports_xs begin look names z n = xs_flat (port_channel_pin begin look names z) (numbers_from 0 n)

ports_part : (begin : ℕ → ℤ) (look : List ℕ → Option ℕ) (names : List (List ℕ)) (z : ℤ) (n m : ℕ) → n ≡ m → IsPart (pin_xs (tabulate_lists n (port_channel_pin begin look names z))) (moved z (tabulate m begin))
ports_part begin look names z n m e =
    let one = λ (q : ℕ). pin_xs (port_channel_pin begin look names z q) in
    let single = λ (q : ℕ). (z +ℤ begin q) ∷ [] in
    subst (λ (k : ℕ). IsPart (pin_xs (tabulate_lists n (port_channel_pin begin look names z))) (moved z (tabulate k begin))) e
    (part_of_part _ (tabulate_lists n one) _ (part_same _ _ (ports_xs begin look names z n))
    (part_of_part _ (tabulate_lists n single) _ (part_lists one single 0 n (λ q a b. pin_part (look (get_or names q [])) (z +ℤ begin q))) (part_same _ _ (singles_moved begin z (numbers_from 0 n)))))

part_ports : (begin : ℕ → ℤ) (look : List ℕ → Option ℕ) (names : List (List ℕ)) (z : ℤ) (n m : ℕ) → n ≡ m → ((q : ℕ) → q < n → (k : ℕ) × (look (get_or names q []) ≡ Some k)) → IsPart (moved z (tabulate m begin)) (pin_xs (tabulate_lists n (port_channel_pin begin look names z)))
part_ports begin look names z n m e numbered =
    let one = λ (q : ℕ). pin_xs (port_channel_pin begin look names z q) in
    let single = λ (q : ℕ). (z +ℤ begin q) ∷ [] in
    subst (λ (k : ℕ). IsPart (moved z (tabulate k begin)) (pin_xs (tabulate_lists n (port_channel_pin begin look names z)))) e
    (part_of_part _ (tabulate_lists n single) _ (part_same _ _ (sym (singles_moved begin z (numbers_from 0 n))))
    (part_of_part _ (tabulate_lists n one) _ (part_lists single one 0 n (λ q a b. let k = numbered q (omega (arith, b)) in part_same _ _ (pin_there (look (get_or names q [])) k.0 (z +ℤ begin q) k.1))) (part_same _ _ (sym (ports_xs begin look names z n)))))

-- the pins of the row

module _ (plan : Organization) (p : IsBuildable plan) (kit : LayoutKit) (look : List ℕ → Option ℕ) where
  pins_fit : (c : LogicCell) → HasLogicCell plan c → length (map (net_name plan) (logic_cell_ports plan c)) - 2 ≡ pin_count (logic_role plan c)
  pins_fit c has = ap (λ (n : ℕ). n - 2) (cell_fits plan c p has)

  abbrev row_of : List LogicCell → ℤ → List ChannelPin
  row_of cs z = row_pins (port_begin kit 1) kit.width look (map (logic_cell plan kit.cell) cs) (map (logic_role plan) cs) z

  abbrev cell_of : LogicCell → ℤ → List ChannelPin
  cell_of c z = cell_channel_pins (port_begin kit 1) look (logic_role plan c) (logic_cell plan kit.cell c) z

  abbrev places_of : List LogicCell → ℤ → List ℤ
  places_of cs z = row_xs kit.width (bottom_offsets kit) (map (logic_role plan) cs) z

  pub row_part : (cs : List LogicCell) (z : ℤ) → AllByRecursion (HasLogicCell plan) cs → IsPart (pin_xs (row_of cs z)) (places_of cs z)
  row_part [] z has = part_none []
  row_part (c ∷ cs) z has =
      part_of_part _ (pin_xs (cell_of c z) ++ pin_xs (row_of cs (z +ℤ pos (kit.width (logic_role plan c))))) _
      (part_same _ _ (xs_append (cell_of c z) (row_of cs (z +ℤ pos (kit.width (logic_role plan c))))))
      (part_append _ _ _ _ (ports_part (port_begin kit 1 (logic_role plan c)) look (map (net_name plan) (logic_cell_ports plan c)) z _ (pin_count (logic_role plan c)) (pins_fit c has.0))
      (row_part cs (z +ℤ pos (kit.width (logic_role plan c))) has.1))

  module _ (written : IsWritten plan) (numbering : IsNumbering plan look) where
    net_there : (l : List Net) (q : ℕ) → q + 2 < length l → (y : Net) × (slice_get l q ≡ Some y)
    net_there [] q less = absurd (omega (arith, less))
    net_there (x ∷ l) zero less = (x, refl)
    net_there (x ∷ l) (suc q) less = net_there l q (omega (arith, less))

    cell_numbered : (c : LogicCell) → HasLogicCell plan c → (q : ℕ) → q < length (map (net_name plan) (logic_cell_ports plan c)) - 2 → (k : ℕ) × (look (get_or (map (net_name plan) (logic_cell_ports plan c)) q []) ≡ Some k)
    cell_numbered c has q less =
        let ports = logic_cell_ports plan c in
        let long = length-map ports (net_name plan) in
        let y = net_there ports q (omega (arith, less, long)) in
        let at = place_in y.0 (main_nets plan) ((ports_main plan c written has).each q y.0 y.1 (omega (arith, less, long))) in
        let read : get_or (map (net_name plan) ports) q [] ≡ net_name plan y.0 = get_or_from_slice_get (map (net_name plan) ports) q (net_name plan y.0) [] (slice_get-map (net_name plan) ports q ∙ ap (option_map (net_name plan)) y.1) in
        (at.0, ap look read ∙ numbering.there y.0 at.0 at.1)

    pub part_row : (cs : List LogicCell) (z : ℤ) → AllByRecursion (HasLogicCell plan) cs → IsPart (places_of cs z) (pin_xs (row_of cs z))
    part_row [] z has = part_none []
    part_row (c ∷ cs) z has =
        part_of_part _ (pin_xs (cell_of c z) ++ pin_xs (row_of cs (z +ℤ pos (kit.width (logic_role plan c))))) _
        (part_append _ _ _ _ (part_ports (port_begin kit 1 (logic_role plan c)) look (map (net_name plan) (logic_cell_ports plan c)) z _ (pin_count (logic_role plan c)) (pins_fit c has.0) (cell_numbered c has.0))
        (part_row cs (z +ℤ pos (kit.width (logic_role plan c))) has.1))
        (part_same _ _ (sym (xs_append (cell_of c z) (row_of cs (z +ℤ pos (kit.width (logic_role plan c)))))))

-- no cell of the row is narrower than the pitch

not_far : (p a b : ℤ) (w : ℕ) → IsInStep w a → IsInStep w b → pos w <ℤ p → AreNear p (pos 0 +ℤ a) (pos 0 +ℤ b)
not_far p a b w in_a in_b less =
    let c = in_a.above in
    let d = in_a.below in
    let e = in_b.above in
    let f = in_b.below in
    by_lt_z {P = AreNear p (pos 0 +ℤ a) (pos 0 +ℤ b)} a b (λ lt. inl (omega (arith, ints, lt), omega (arith, ints, c, f, less))) (λ ge. inr (omega (arith, ints, ge), omega (arith, ints, d, e, less)))

wide_offsets : (p : ℤ) (w n : ℕ) (f : ℕ → ℤ) → 2 ≤ n → ((q : ℕ) → IsInStep w (f q)) → (HasClose p (moved (pos 0) (tabulate n f)) → ⊥) → p ≤ℤ pos w
wide_offsets p w zero f two inside apart = absurd (omega (arith, two))
wide_offsets p w (suc zero) f two inside apart = absurd (omega (arith, two))
wide_offsets p w (suc (suc n)) f two inside apart = by_lt_z {P = p ≤ℤ pos w} (pos w) p (λ less. absurd (apart (inl (inl (not_far p (f 0) (f 1) w (inside 0) (inside 1) less))))) (λ more. more)

two_pins : (role : Role) → 2 ≤ pin_count role
two_pins Bitcell = omega arith
two_pins Precharge = omega arith
two_pins Mux = omega arith
two_pins Tie = omega arith
two_pins Sense = omega arith
two_pins Write = omega arith
two_pins RowNand2 = omega arith
two_pins RowNand3 = omega arith
two_pins Driver = omega arith
two_pins Nand2 = omega arith
two_pins Nand3 = omega arith
two_pins Inv = omega arith
two_pins Dff = omega arith
two_pins Delay = omega arith

all_each : (w : ℕ) (f : ℕ → ℤ) (ns : List ℕ) → ((q : ℕ) → IsInStep w (f q)) → AreInStep w (map f ns)
all_each w f [] inside = tt
all_each w f (n ∷ ns) inside = (inside n, all_each w f ns inside)

wide_role : (kit : LayoutKit) (p : ℤ) (role : Role) → HasPinsInCells kit → (HasClose p (moved (pos 0) (bottom_offsets kit role)) → ⊥) → IsWideCell kit.width (bottom_offsets kit) p role
wide_role kit p role has apart = record {
  inside = all_each (kit.width role) (port_begin kit 1 role) (numbers_from 0 (pin_count role)) (λ q. has.begin role q 1);
  wide = wide_offsets p (kit.width role) (pin_count role) (port_begin kit 1 role) (two_pins role) (λ q. has.begin role q 1) apart;
}

-- The roles of a row stand in the model's.

listed_as : (plan : Organization) (c : LogicCell) → HasLogicCell plan c → IsOneOf (logic_role plan c) (kinds plan)
listed_as plan c has = to_map (logic_role plan) c (logic_cells plan) (to_cells plan c has)

gate_listed : (plan : Organization) (n : ℕ) → IsWritten plan → IsOneOf (gate_of n) (kinds plan)
gate_listed plan zero w = listed_as plan Clki tt
gate_listed plan (suc zero) w = listed_as plan Clki tt
gate_listed plan (suc (suc zero)) w = listed_as plan Wln tt
gate_listed plan (suc (suc (suc n))) w = listed_as plan Wrn w

kind_listed : (whose plan : Organization) (c : LogicCell) → IsWritten plan → IsOneOf (logic_role whose c) (kinds plan)
kind_listed whose plan Clki w = listed_as plan Clki tt
kind_listed whose plan Csd w = listed_as plan Csd tt
kind_listed whose plan Wed w = listed_as plan Csd tt
kind_listed whose plan Csi w = listed_as plan Clki tt
kind_listed whose plan Wei w = listed_as plan Clki tt
kind_listed whose plan Wln w = listed_as plan Wln tt
kind_listed whose plan Wli w = listed_as plan Clki tt
kind_listed whose plan Wrn w = listed_as plan Wrn w
kind_listed whose plan Wri w = listed_as plan Clki tt
kind_listed whose plan Rdn w = listed_as plan Wrn w
kind_listed whose plan Rdi w = listed_as plan Clki tt
kind_listed whose plan Dlay w = listed_as plan Dlay tt
kind_listed whose plan Senn w = listed_as plan Wln tt
kind_listed whose plan Seni w = listed_as plan Clki tt
kind_listed whose plan (Ad i) w = listed_as plan Csd tt
kind_listed whose plan (Ai i) w = listed_as plan Clki tt
kind_listed whose plan (Dd i) w = listed_as plan Csd tt
kind_listed whose plan (Dm m) w = listed_as plan Csd tt
kind_listed whose plan (Pn o b k) w = gate_listed plan b w
kind_listed whose plan (Pi o b k) w = listed_as plan Clki tt
kind_listed whose plan (Ln b) w = listed_as plan Wln tt
kind_listed whose plan (Li b) w = listed_as plan Clki tt
kind_listed whose plan (Kn b) w = listed_as plan Wln tt
kind_listed whose plan (Ki b) w = listed_as plan Clki tt
kind_listed whose plan (Gn b m) w = gate_listed plan (length (enable_inputs whose b m)) w
kind_listed whose plan (Gi b m) w = listed_as plan Clki tt

all_wide : (kit : LayoutKit) (p : ℤ) (plan : Organization) (cs : List LogicCell) → ((c : LogicCell) → IsWideCell kit.width (bottom_offsets kit) p (logic_role plan c)) → AreWideCells kit.width (bottom_offsets kit) p (map (logic_role plan) cs)
all_wide kit p plan [] each = tt
all_wide kit p plan (c ∷ cs) each = (each c, all_wide kit p plan cs each)

-- The lower side, at any floorplans.
pub bottom_apart : (plan : Organization) (kit : LayoutKit) (p : ℤ) (f g : Floorplan) → IsBuildable plan → IsBuildable (model plan) → IsWritten plan → IsWritten (model plan) → HasPinsInCells kit
    → (HasClose p (pin_xs (main_bottom (model plan) kit g)) → ⊥) → HasClose p (pin_xs (main_bottom plan kit f)) → ⊥
bottom_apart plan kit p f g built also written other has apart close = by (close_in_row width offsets p f.logic_x (kinds plan) (all_wide kit p plan (logic_cells plan) wide) ((row_part plan built kit (main_number plan) (logic_cells plan) f.logic_x (cells_in plan)).close p close))
  where
    width : Role → ℕ
    width = kit.width

    offsets : Role → List ℤ
    offsets = bottom_offsets kit

    free : HasClose p (row_xs kit.width (bottom_offsets kit) (kinds (model plan)) g.logic_x) → ⊥
    free h =
        let m = model plan in
        let numbering = numbering_is m also (map (net_name m) (main_nets m)) (main_number m) refl (λ name. refl) in
        apart ((part_row m also kit (main_number m) other numbering (logic_cells m) g.logic_x (cells_in m)).close p h)

    wide : (c : LogicCell) → IsWideCell kit.width (bottom_offsets kit) p (logic_role plan c)
    wide c = wide_role kit p (logic_role plan c) has (λ h. free (cell_in_row kit.width (bottom_offsets kit) p g.logic_x (logic_role plan c) (kinds (model plan)) (kind_listed plan (model plan) c other) h))

    by : HasCloseCell kit.width (bottom_offsets kit) p (kinds plan) ⊎ HasClosePair kit.width (bottom_offsets kit) p (kinds plan) → ⊥
    by (inl one) =
        let c = of_map (logic_role plan) one.kind (logic_cells plan) one.listed in
        free (cell_in_row kit.width (bottom_offsets kit) p g.logic_x one.kind (kinds (model plan)) (subst (λ (r : Role). IsOneOf r (kinds (model plan))) c.2 (kind_listed plan (model plan) c.0 other)) one.close)
    by (inr two) = free (pair_in_row kit.width (bottom_offsets kit) p g.logic_x two.first two.second (kinds (model plan)) (pair_related (PairIn (kinds (model plan))) two.first two.second (kinds plan) (model_path plan written built.words) two.listed) two.close)
