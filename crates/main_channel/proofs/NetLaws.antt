-- The nets of the main channel: names tell each from the others, and each stands once.
use Rattle.std.proofs.Common.{◌≡◌, inl, inr, ℕ, zero, suc, ◌+◌, ◌-◌, ◌≤◌, List, [], ◌∷◌, ◌++◌, map, length, Option, Some, None, Bool, true, false, refl, ap, sym, subst, ◌∙◌, length-append, arith}
use Rattle.std.specs.Prelude.{slice_get, option_map}
use Rattle.std.specs.List.{AllByRecursion}
use Rattle.std.proofs.lemmas.Option.{slice_get-map}
use Rattle.cell_roles.specs.declared.role.Role.{Role}
use Rattle.row_laws.proofs.LookLaws.{all_append, all_map}
use Rattle.sram_netlist.specs.Organization.{Organization, IsBuildable, written_bits, inputs_of, addr_bits}
use Rattle.sram_netlist.specs.Nets.{Net, Clk0, Csb0, Web0, Clkb, Csq, Weq, Cs, We, Wlb, Wlen, Wrb, Wen, Rdb, Rd, Dly, Seb, Sen, Vdd, Gnd, Control, Addr, Din, Dout, Wmask, A, Na, D, M, LineB, Line, WlenB, WlenAt, SenB, SenAt, WenB, WenAt}
use Rattle.sram_netlist.specs.Instances.{LogicCell, Clki, Csd, Wed, Csi, Wei, Wln, Wli, Wrn, Wri, Rdn, Rdi, Dlay, Senn, Seni, Ad, Ai, Dd, Dm, Pn, Pi, Ln, Li, Kn, Ki, Gn, Gi}
use Rattle.sram_netlist.specs.Netlist.{web_nets, picks, enable_inputs, supply_nets, logic_cell_ports}
use Rattle.sram_netlist.specs.Membership.{HasLogicCell}
use Rattle.sram_netlist.specs.InstanceList.{tabulate, logic_cells}
use Rattle.sram_netlist.specs.BitCells.{Alike}
use Rattle.sram_netlist.proofs.Bounds.{written_fits}
use Rattle.sram_deck.specs.Deck.{logic_cell, logic_instances}
use Rattle.sram_rows.proofs.DifferLaws.{all_follow}
use Rattle.sram_rows.proofs.InstancesDiffer.{name_of_instance, logic_instances_differ}
use Rattle.sram_rows.proofs.LogicCells.{IsGood, cells_in, ports_good}
use Rattle.sram_rows.proofs.Segments.{all_tabulate}
use Rattle.macro_layout.specs.Pins.{port_nets, before_supplies, output_of, main_nets}
use Rattle.main_channel.proofs.ListLaws.{split_at, in_table, all_at, differ_once}
use Rattle.main_channel.proofs.NameLaws.{IsChannelNet}
use Rattle.main_channel.proofs.TableLaws.{count_tabulated}

-- The output of a cell is the last of its ports before the supplies.
one_less : (n : Net) (rest : List Net) → 3 ≤ length rest → before_supplies (n ∷ rest) ≡ before_supplies rest
one_less n [] three = absurd (omega (arith, three))
one_less n (a ∷ []) three = absurd (omega (arith, three))
one_less n (a ∷ b ∷ []) three = absurd (omega (arith, three))
one_less n (a ∷ b ∷ c ∷ rs) three = refl

pub last_before : (xs : List Net) (z : Net) → before_supplies (xs ++ z ∷ supply_nets) ≡ z
last_before [] z = refl
last_before (x ∷ xs) z = let long = length-append xs (z ∷ supply_nets) in one_less x (xs ++ z ∷ supply_nets) (omega (arith, long)) ∙ last_before xs z

pub before_at : (xs : List Net) → 3 ≤ length xs → slice_get xs (length xs - 3) ≡ Some (before_supplies xs)
before_at [] three = absurd (omega (arith, three))
before_at (a ∷ []) three = absurd (omega (arith, three))
before_at (a ∷ b ∷ []) three = absurd (omega (arith, three))
before_at (a ∷ b ∷ c ∷ []) three = refl
before_at (a ∷ b ∷ c ∷ d ∷ rs) three =
    let e : length (a ∷ b ∷ c ∷ d ∷ rs) - 3 ≡ suc (length (b ∷ c ∷ d ∷ rs) - 3) = omega arith in
    ap (slice_get (a ∷ b ∷ c ∷ d ∷ rs)) e ∙ before_at (b ∷ c ∷ d ∷ rs) (omega arith)

-- An output tells its cell.
abbrev cell_of : Net → LogicCell
cell_of (Control Clkb) = Clki
cell_of (Control Csq) = Csd
cell_of (Control Weq) = Wed
cell_of (Control Cs) = Csi
cell_of (Control We) = Wei
cell_of (Control Wlb) = Wln
cell_of (Control Wlen) = Wli
cell_of (Control Wrb) = Wrn
cell_of (Control Wen) = Wri
cell_of (Control Rdb) = Rdn
cell_of (Control Rd) = Rdi
cell_of (Control Dly) = Dlay
cell_of (Control Seb) = Senn
cell_of (Control Sen) = Seni
cell_of (A i) = Ad i
cell_of (Na i) = Ai i
cell_of (D i) = Dd i
cell_of (M m) = Dm m
cell_of (LineB o b k) = Pn o b k
cell_of (Line o b k) = Pi o b k
cell_of (WlenB b) = Ln b
cell_of (WlenAt b) = Li b
cell_of (SenB b) = Kn b
cell_of (SenAt b) = Ki b
cell_of (WenB b m) = Gn b m
cell_of (WenAt b m) = Gi b m
cell_of net = Clki

its_cell : (plan : Organization) (c : LogicCell) → cell_of (output_of plan c) ≡ c
its_cell plan Clki = refl
its_cell plan Csd = refl
its_cell plan Wed = refl
its_cell plan Csi = refl
its_cell plan Wei = refl
its_cell plan Wln = refl
its_cell plan Wli = refl
its_cell plan Wrn = refl
its_cell plan Wri = refl
its_cell plan Rdn = refl
its_cell plan Rdi = refl
its_cell plan Dlay = refl
its_cell plan Senn = refl
its_cell plan Seni = refl
its_cell plan (Ad i) = refl
its_cell plan (Ai i) = refl
its_cell plan (Dd i) = refl
its_cell plan (Dm m) = refl
its_cell plan (Pn o b k) = ap cell_of (last_before (picks o b k) (LineB o b k))
its_cell plan (Pi o b k) = refl
its_cell plan (Ln b) = refl
its_cell plan (Li b) = refl
its_cell plan (Kn b) = refl
its_cell plan (Ki b) = refl
its_cell plan (Gn b m) = ap cell_of (last_before (enable_inputs plan b m) (WenB b m))
its_cell plan (Gi b m) = refl

-- No output is a port.
abbrev is_port : Net → Bool
is_port (Control Clk0) = true
is_port (Control Csb0) = true
is_port (Control Web0) = true
is_port (Wmask m) = true
is_port (Addr i) = true
is_port (Din i) = true
is_port (Dout i) = true
is_port net = false

never_port : (plan : Organization) (c : LogicCell) → is_port (output_of plan c) ≡ false
never_port plan Clki = refl
never_port plan Csd = refl
never_port plan Wed = refl
never_port plan Csi = refl
never_port plan Wei = refl
never_port plan Wln = refl
never_port plan Wli = refl
never_port plan Wrn = refl
never_port plan Wri = refl
never_port plan Rdn = refl
never_port plan Rdi = refl
never_port plan Dlay = refl
never_port plan Senn = refl
never_port plan Seni = refl
never_port plan (Ad i) = refl
never_port plan (Ai i) = refl
never_port plan (Dd i) = refl
never_port plan (Dm m) = refl
never_port plan (Pn o b k) = ap is_port (last_before (picks o b k) (LineB o b k))
never_port plan (Pi o b k) = refl
never_port plan (Ln b) = refl
never_port plan (Li b) = refl
never_port plan (Kn b) = refl
never_port plan (Ki b) = refl
never_port plan (Gn b m) = ap is_port (last_before (enable_inputs plan b m) (WenB b m))
never_port plan (Gi b m) = refl

-- Each port has its number.
abbrev behind_web : Organization → ℕ
behind_web plan = 2 + written_bits plan.write_size 1

abbrev port_number : Organization → Net → ℕ
port_number plan (Control Csb0) = 1
port_number plan (Control Web0) = 2
port_number plan (Wmask m) = behind_web plan + m
port_number plan (Addr i) = behind_web plan + plan.masks + i
port_number plan (Din i) = behind_web plan + plan.masks + addr_bits plan + i
port_number plan (Dout i) = behind_web plan + plan.masks + addr_bits plan + inputs_of plan + i
port_number plan net = 0

record IsPortAt (plan : Organization) (i : ℕ) (x : Net) : Type 0 where
  pub number : port_number plan x ≡ i
  pub is : is_port x ≡ true

port_as : (plan : Organization) (i : ℕ) (x y : Net) → x ≡ y → port_number plan y ≡ i → is_port y ≡ true → IsPortAt plan i x
port_as plan i x y e number is = record { number = ap (port_number plan) e ∙ number; is = ap is_port e ∙ is }

data_port : (plan : Organization) (i : ℕ) (x : Net) → slice_get (tabulate (inputs_of plan) Din ++ tabulate plan.word_size Dout) i ≡ Some x → IsPortAt plan (behind_web plan + plan.masks + addr_bits plan + i) x
data_port plan i x at = elim (split_at (tabulate (inputs_of plan) Din) (tabulate plan.word_size Dout) i x at) [
  | inl here ↦ port_as plan (behind_web plan + plan.masks + addr_bits plan + i) x (Din i) (in_table (inputs_of plan) Din i x here).0 refl refl
  | inr b ↦
      let long = count_tabulated (inputs_of plan) Din in
      let sum = b.sum in
      port_as plan (behind_web plan + plan.masks + addr_bits plan + i) x (Dout b.index) (in_table plan.word_size Dout b.index x b.at).0 (omega (arith, long, sum)) refl
]

address_port : (plan : Organization) (i : ℕ) (x : Net) → slice_get (tabulate (addr_bits plan) Addr ++ (tabulate (inputs_of plan) Din ++ tabulate plan.word_size Dout)) i ≡ Some x → IsPortAt plan (behind_web plan + plan.masks + i) x
address_port plan i x at = elim (split_at (tabulate (addr_bits plan) Addr) (tabulate (inputs_of plan) Din ++ tabulate plan.word_size Dout) i x at) [
  | inl here ↦ port_as plan (behind_web plan + plan.masks + i) x (Addr i) (in_table (addr_bits plan) Addr i x here).0 refl refl
  | inr b ↦
      let long = count_tabulated (addr_bits plan) Addr in
      let sum = b.sum in
      let e : behind_web plan + plan.masks + addr_bits plan + b.index ≡ behind_web plan + plan.masks + i = omega (arith, long, sum) in
      subst (λ (n : ℕ). IsPortAt plan n x) e (data_port plan b.index x b.at)
]

mask_port : (plan : Organization) (i : ℕ) (x : Net) → slice_get (tabulate plan.masks Wmask ++ (tabulate (addr_bits plan) Addr ++ (tabulate (inputs_of plan) Din ++ tabulate plan.word_size Dout))) i ≡ Some x → IsPortAt plan (behind_web plan + i) x
mask_port plan i x at = elim (split_at (tabulate plan.masks Wmask) (tabulate (addr_bits plan) Addr ++ (tabulate (inputs_of plan) Din ++ tabulate plan.word_size Dout)) i x at) [
  | inl here ↦ port_as plan (behind_web plan + i) x (Wmask i) (in_table plan.masks Wmask i x here).0 refl refl
  | inr b ↦
      let long = count_tabulated plan.masks Wmask in
      let sum = b.sum in
      let e : behind_web plan + plan.masks + b.index ≡ behind_web plan + i = omega (arith, long, sum) in
      subst (λ (n : ℕ). IsPortAt plan n x) e (address_port plan b.index x b.at)
]

-- web0 stands where something is written
web_is : (w i : ℕ) (x : Net) → slice_get (web_nets w) i ≡ Some x → (x ≡ Control Web0) × (i ≡ 0)
web_is zero i x at = absurd cc
web_is (suc w) zero x at = let e : Control Web0 ≡ x = cc in (sym e, refl)
web_is (suc w) (suc i) x at = absurd cc

pub web_counted : (w : ℕ) → length (web_nets w) ≡ written_bits w 1
web_counted zero = refl
web_counted (suc w) = refl

web_port : (plan : Organization) (i : ℕ) (x : Net)
    → slice_get (web_nets plan.write_size ++ (tabulate plan.masks Wmask ++ (tabulate (addr_bits plan) Addr ++ (tabulate (inputs_of plan) Din ++ tabulate plan.word_size Dout)))) i ≡ Some x → IsPortAt plan (2 + i) x
web_port plan i x at =
    elim (split_at (web_nets plan.write_size) (tabulate plan.masks Wmask ++ (tabulate (addr_bits plan) Addr ++ (tabulate (inputs_of plan) Din ++ tabulate plan.word_size Dout))) i x at) [
      | inl here ↦ let web = web_is plan.write_size i x here in let first = web.1 in port_as plan (2 + i) x (Control Web0) web.0 (omega (arith, first)) refl
      | inr b ↦
          let long = web_counted plan.write_size in
          let sum = b.sum in
          let e : behind_web plan + b.index ≡ 2 + i = omega (arith, long, sum) in
          subst (λ (n : ℕ). IsPortAt plan n x) e (mask_port plan b.index x b.at)
    ]

port_at : (plan : Organization) (i : ℕ) (x : Net) → slice_get (port_nets plan) i ≡ Some x → IsPortAt plan i x
port_at plan zero x at = let e : Control Clk0 ≡ x = cc in port_as plan 0 x (Control Clk0) (sym e) refl refl
port_at plan (suc zero) x at = let e : Control Csb0 ≡ x = cc in port_as plan 1 x (Control Csb0) (sym e) refl refl
port_at plan (suc (suc i)) x at =
    let e : 2 + i ≡ suc (suc i) = omega arith in
    subst (λ (n : ℕ). IsPortAt plan n x) e (web_port plan i x at)

-- Each output is a cell's.
pub record IsOutputAt (plan : Organization) (i : ℕ) (x : Net) : Type 0 where
  pub cell : LogicCell
  pub at : slice_get (logic_cells plan) i ≡ Some cell
  pub is : x ≡ output_of plan cell

abbrev net_or : Net → Option Net → Net
net_or d None = d
net_or d (Some x) = x

pub output_at : (plan : Organization) (i : ℕ) (x : Net) → slice_get (map (output_of plan) (logic_cells plan)) i ≡ Some x → IsOutputAt plan i x
output_at plan i x at = by (slice_get (logic_cells plan) i) refl (sym (slice_get-map (output_of plan) (logic_cells plan) i) ∙ at) where
  by : (o : Option LogicCell) → slice_get (logic_cells plan) i ≡ o → option_map (output_of plan) o ≡ Some x → IsOutputAt plan i x
  by None none e = absurd cc
  by (Some c) here e = record { cell = c; at = here; is = sym (ap (net_or x) e) }

pub has_output : (plan : Organization) (i : ℕ) (c : LogicCell) → slice_get (logic_cells plan) i ≡ Some c → slice_get (map (output_of plan) (logic_cells plan)) i ≡ Some (output_of plan c)
has_output plan i c at = slice_get-map (output_of plan) (logic_cells plan) i ∙ ap (option_map (output_of plan)) at

module _ (plan : Organization) (p : IsBuildable plan) where
  -- a cell stands once in the row
  pub one_cell : (i j : ℕ) (c : LogicCell) → slice_get (logic_cells plan) i ≡ Some c → slice_get (logic_cells plan) j ≡ Some c → i ≡ j
  one_cell i j c ati atj =
      let cell : Role → List ℕ = λ r. [] in
      differ_once name_of_instance (logic_instances plan cell) i j (logic_cell plan cell c) (logic_cell plan cell c) (logic_instances_differ plan p cell (Alike []) [])
      (slice_get-map (logic_cell plan cell) (logic_cells plan) i ∙ ap (option_map (logic_cell plan cell)) ati)
      (slice_get-map (logic_cell plan cell) (logic_cells plan) j ∙ ap (option_map (logic_cell plan cell)) atj) refl

  port_or_output : (i j : ℕ) (x : Net) → slice_get (port_nets plan) i ≡ Some x → slice_get (map (output_of plan) (logic_cells plan)) j ≡ Some x → ⊥
  port_or_output i j x port output =
      let o = output_at plan j x output in
      let yes = (port_at plan i x port).is in
      let no = ap is_port o.is ∙ never_port plan o.cell in
      cc

  -- a net stands once among those of the channel
  pub one_number : (i j : ℕ) (x : Net) → slice_get (main_nets plan) i ≡ Some x → slice_get (main_nets plan) j ≡ Some x → i ≡ j
  one_number i j x ati atj = elim (split_at (port_nets plan) (map (output_of plan) (logic_cells plan)) i x ati) [
    | inl a ↦ elim (split_at (port_nets plan) (map (output_of plan) (logic_cells plan)) j x atj) [
      | inl b ↦ sym (port_at plan i x a).number ∙ (port_at plan j x b).number
      | inr b ↦ absurd (port_or_output i b.index x a b.at)
    ]
    | inr a ↦ elim (split_at (port_nets plan) (map (output_of plan) (logic_cells plan)) j x atj) [
      | inl b ↦ absurd (port_or_output j a.index x b a.at)
      | inr b ↦
          let one = output_at plan a.index x a.at in
          let two = output_at plan b.index x b.at in
          let cells : one.cell ≡ two.cell = sym (its_cell plan one.cell) ∙ (ap cell_of (sym one.is ∙ two.is) ∙ its_cell plan two.cell) in
          let same : a.index ≡ b.index = one_cell a.index b.index two.cell (one.at ∙ ap (λ (c : LogicCell). Some c) cells) two.at in
          let first = a.sum in
          let second = b.sum in
          omega (arith, first, second, same)
    ]
  ]

-- Each is one that names tell.
before_good : (plan : Organization) (xs : List Net) → AllByRecursion (IsGood plan) xs → IsGood plan (before_supplies xs)
before_good plan [] all = record { has = tt; logic = tt }
before_good plan (n ∷ []) all = all.0
before_good plan (n ∷ m ∷ []) all = all.0
before_good plan (n ∷ vdd ∷ gnd ∷ []) all = all.0
before_good plan (n ∷ m ∷ k ∷ l ∷ ns) all = before_good plan (m ∷ k ∷ l ∷ ns) all.1

web_told : (plan : Organization) (w : ℕ) → plan.write_size ≡ w → AllByRecursion (IsChannelNet plan) (web_nets w)
web_told plan zero e = tt
web_told plan (suc w) e = (inl (tt, omega (arith, e)), tt)

ports_told : (plan : Organization) → AllByRecursion (IsChannelNet plan) (port_nets plan)
ports_told plan = (
  inl (tt, tt),
  (
    inl (tt, tt),
    all_append (IsChannelNet plan) (web_nets plan.write_size) (tabulate plan.masks Wmask ++ (tabulate (addr_bits plan) Addr ++ (tabulate (inputs_of plan) Din ++ tabulate plan.word_size Dout))) (web_told plan plan.write_size refl)
        (all_append (IsChannelNet plan) (tabulate plan.masks Wmask) (tabulate (addr_bits plan) Addr ++ (tabulate (inputs_of plan) Din ++ tabulate plan.word_size Dout)) (all_tabulate (IsChannelNet plan) plan.masks Wmask (λ j lt. inl (lt, tt)))
        (all_append (IsChannelNet plan) (tabulate (addr_bits plan) Addr) (tabulate (inputs_of plan) Din ++ tabulate plan.word_size Dout) (all_tabulate (IsChannelNet plan) (addr_bits plan) Addr (λ j lt. inl (lt, tt)))
        (all_append (IsChannelNet plan) (tabulate (inputs_of plan) Din) (tabulate plan.word_size Dout) (all_tabulate (IsChannelNet plan) (inputs_of plan) Din (λ j lt. inl (written_fits plan.write_size plan.word_size j lt, lt)))
        (all_tabulate (IsChannelNet plan) plan.word_size Dout (λ j lt. inr (j, lt, refl)))))),
  ),
)

outputs_told : (plan : Organization) → AllByRecursion (IsChannelNet plan) (map (output_of plan) (logic_cells plan))
outputs_told plan = all_map (IsChannelNet plan) (output_of plan) (logic_cells plan)
    (all_follow (HasLogicCell plan) (λ c. IsChannelNet plan (output_of plan c)) (logic_cells plan) (λ c has. let good = before_good plan (logic_cell_ports plan c) (ports_good plan c has) in inl (good.has, good.logic)) (cells_in plan))

pub main_net : (plan : Organization) (i : ℕ) (x : Net) → slice_get (main_nets plan) i ≡ Some x → IsChannelNet plan x
main_net plan i x at = all_at (IsChannelNet plan) (main_nets plan) i x (all_append (IsChannelNet plan) (port_nets plan) (map (output_of plan) (logic_cells plan)) (ports_told plan) (outputs_told plan)) at

-- No supply is among them.
never_main : (plan : Organization) (i : ℕ) (x : Net) → is_port x ≡ false → ((c : LogicCell) → output_of plan c ≡ x → ⊥) → slice_get (main_nets plan) i ≡ Some x → ⊥
never_main plan i x port output at = elim (split_at (port_nets plan) (map (output_of plan) (logic_cells plan)) i x at) [
  | inl a ↦ let yes = (port_at plan i x a).is in cc
  | inr b ↦ let o = output_at plan b.index x b.at in output o.cell (sym o.is)
]

clock_cell : (plan : Organization) (c : LogicCell) (x : Net) → cell_of x ≡ Clki → output_of plan c ≡ x → Control Clkb ≡ x
clock_cell plan c x none is = let e : c ≡ Clki = sym (its_cell plan c) ∙ (ap cell_of is ∙ none) in ap (output_of plan) (sym e) ∙ is

pub not_vdd : (plan : Organization) (i : ℕ) → slice_get (main_nets plan) i ≡ Some Vdd → ⊥
not_vdd plan i at = never_main plan i Vdd refl (λ c is. let e = clock_cell plan c Vdd refl is in cc) at

pub not_gnd : (plan : Organization) (i : ℕ) → slice_get (main_nets plan) i ≡ Some Gnd → ⊥
not_gnd plan i at = never_main plan i Gnd refl (λ c is. let e = clock_cell plan c Gnd refl is in cc) at
