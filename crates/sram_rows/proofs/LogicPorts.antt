-- The ports of the logic row: what holds of all, and which names are none of them.
use Rattle.std.proofs.Common.{◌≡◌, ◌⊎◌, inl, inr, ℕ, zero, suc, ◌<◌, ◌^◌, false, List, [], ◌∷◌, ◌++◌, refl, arith, ap, ◌∙◌}
use Rattle.std.specs.Prelude.{codes}
use Rattle.std.specs.List.{AllByRecursion}
use Rattle.std.specs.Fmt.{decimal}
use Rattle.spice_netlist.specs.Names.{same_name}
use Rattle.sram_netlist.specs.Organization.{Organization, IsWritten, inputs_of, banks_of, addr_bits, words_per_row, IsBuildable}
use Rattle.cell_roles.specs.Roles.{supplies}
use Rattle.sram_netlist.specs.Netlist.{wlen_at, sen_at, enable_at, enables_of}
use Rattle.sram_netlist.specs.Names.{with_number, with_numbers, with_index, net_name}
use Rattle.sram_netlist.specs.InstanceList.{tabulate_lists}
use Rattle.row_laws.proofs.LookLaws.{IsOneOf, AreOther, one_left, one_right, all_append}
use Rattle.sram_deck.specs.Deck.{web_ports, predecode_lines, column_choices, data_inputs, port_bits, bank_control_names, bank_enable, bank_enables, wlen_name, sen_name, logic_ports}
use Rattle.sram_rows.proofs.DigitLaws.{letter_digit, nil_digit}
use Rattle.sram_rows.proofs.PlainNetNames.{few_banks}
use Rattle.sram_rows.proofs.Segments.{all_tabulate, all_tabulate_lists, all_lines, all_choices, few_groups, one_tabulate, one_tabulate_lists, one_choice}
use Rattle.sram_netlist.proofs.NamesTell.{letters}
use Rattle.sram_rows.proofs.DifferLaws.{among, told_other}
use Rattle.sram_rows.proofs.NumberedNames.{number_letters, numbers_letters}
use Rattle.sram_rows.proofs.PortsDiffer.{logic_kinds, logic_told}

-- what holds of each port of the logic row
pub record OfPorts (plan : Organization) (P : List ℕ → Type 0) : Type 0 where
  pub clk0 : P (codes "clk0")
  pub csb0 : P (codes "csb0")
  pub web0 : IsWritten plan → P (codes "web0")
  pub wmask : (k : ℕ) → k < plan.masks → P (with_index (codes "wmask0") k)
  pub addr : (k : ℕ) → k < addr_bits plan → P (with_index (codes "addr0") k)
  pub din : (k : ℕ) → k < inputs_of plan → P (with_index (codes "din0") k)
  pub clkb : P (codes "clkb")
  pub wlen : (b : ℕ) → b < banks_of plan → P (wlen_name plan b)
  pub enable : (b m : ℕ) → b < banks_of plan → m < enables_of plan → P (bank_enable plan b m)
  pub sen : (b : ℕ) → b < banks_of plan → P (sen_name plan b)
  pub sel : (k : ℕ) → k < words_per_row plan → P (with_number (codes "sel") k)
  pub line : (h k : ℕ) → h < 3 → k < 8 → P (with_numbers (codes "p") h k)
  pub d : (i : ℕ) → i < inputs_of plan → P (with_number (codes "d") i)
  pub vdd : P (codes "vdd")
  pub gnd : P (codes "gnd")

-- the list from each of its parts on
abbrev pub ports7 : Organization → List (List ℕ)
ports7 plan = data_inputs plan ++ supplies

abbrev pub ports6 : Organization → List (List ℕ)
ports6 plan = predecode_lines plan ++ ports7 plan

abbrev pub ports5 : Organization → List (List ℕ)
ports5 plan = column_choices plan.col_bits ++ ports6 plan

abbrev pub ports4 : Organization → List (List ℕ)
ports4 plan = tabulate_lists (banks_of plan) (bank_control_names plan) ++ ports5 plan

abbrev pub ports3 : Organization → List (List ℕ)
ports3 plan = port_bits (inputs_of plan) (codes "din0") ++ (codes "clkb" ∷ ports4 plan)

abbrev pub ports2 : Organization → List (List ℕ)
ports2 plan = port_bits (addr_bits plan) (codes "addr0") ++ ports3 plan

abbrev pub ports1 : Organization → List (List ℕ)
ports1 plan = port_bits plan.masks (codes "wmask0") ++ ports2 plan

-- the port that tells reads from writes
pub all_web : (P : List ℕ → Type 0) (w : ℕ) → (0 < w → P (codes "web0")) → AllByRecursion P (web_ports w)
all_web P zero h = tt
all_web P (suc w) h = (h (omega arith), tt)

one_web : (w : ℕ) → 0 < w → IsOneOf (codes "web0") (web_ports w)
one_web zero some = absurd (omega arith)
one_web (suc w) some = inl refl

pub all_ports : (plan : Organization) (P : List ℕ → Type 0) → IsBuildable plan → OfPorts plan P → AllByRecursion P (logic_ports plan)
all_ports plan P p h = (
  h.clk0,
  (
    h.csb0,
    all_append P (web_ports plan.write_size) (ports1 plan) (all_web P plan.write_size h.web0)
        (all_append P (port_bits plan.masks (codes "wmask0")) (ports2 plan) (all_tabulate P plan.masks (with_index (codes "wmask0")) h.wmask)
        (all_append P (port_bits (addr_bits plan) (codes "addr0")) (ports3 plan) (all_tabulate P (addr_bits plan) (with_index (codes "addr0")) h.addr)
        (all_append P (port_bits (inputs_of plan) (codes "din0")) (codes "clkb" ∷ ports4 plan) (all_tabulate P (inputs_of plan) (with_index (codes "din0")) h.din) (
          h.clkb,
          all_append P (tabulate_lists (banks_of plan) (bank_control_names plan)) (ports5 plan)
              (all_tabulate_lists P (banks_of plan) (bank_control_names plan) (λ b lt. (h.wlen b lt, all_append P (bank_enables plan b) (sen_name plan b ∷ []) (all_tabulate P (enables_of plan) (bank_enable plan b) (λ m few. h.enable b m lt few)) (h.sen b lt, tt))))
              (all_append P (column_choices plan.col_bits) (ports6 plan) (all_choices P plan.col_bits h.sel)
              (all_append P (predecode_lines plan) (ports7 plan) (all_lines P plan.groups 0 p.sizes (λ g k lt few. h.line g k (let n = few_groups plan p in omega (arith, n)) few))
              (all_append P (data_inputs plan) supplies (all_tabulate P (inputs_of plan) (with_number (codes "d")) h.d) (h.vdd, (h.gnd, tt))))),
        )))),
  ),
)

-- what stands among them
in7 : (plan : Organization) (n : List ℕ) → IsOneOf n (ports7 plan) → IsOneOf n (ports6 plan)
in7 plan n h = one_right n (predecode_lines plan) (ports7 plan) h

in6 : (plan : Organization) (n : List ℕ) → IsOneOf n (ports6 plan) → IsOneOf n (ports5 plan)
in6 plan n h = one_right n (column_choices plan.col_bits) (ports6 plan) h

in5 : (plan : Organization) (n : List ℕ) → IsOneOf n (ports5 plan) → IsOneOf n (ports4 plan)
in5 plan n h = one_right n (tabulate_lists (banks_of plan) (bank_control_names plan)) (ports5 plan) h

in4 : (plan : Organization) (n : List ℕ) → IsOneOf n (codes "clkb" ∷ ports4 plan) → IsOneOf n (ports3 plan)
in4 plan n h = one_right n (port_bits (inputs_of plan) (codes "din0")) (codes "clkb" ∷ ports4 plan) h

in3 : (plan : Organization) (n : List ℕ) → IsOneOf n (ports3 plan) → IsOneOf n (ports2 plan)
in3 plan n h = one_right n (port_bits (addr_bits plan) (codes "addr0")) (ports3 plan) h

in2 : (plan : Organization) (n : List ℕ) → IsOneOf n (ports2 plan) → IsOneOf n (ports1 plan)
in2 plan n h = one_right n (port_bits plan.masks (codes "wmask0")) (ports2 plan) h

in1 : (plan : Organization) (n : List ℕ) → IsOneOf n (ports1 plan) → IsOneOf n (logic_ports plan)
in1 plan n h = inr (inr (one_right n (web_ports plan.write_size) (ports1 plan) h))

after_clkb : (plan : Organization) (n : List ℕ) → IsOneOf n (ports4 plan) → IsOneOf n (logic_ports plan)
after_clkb plan n h = in1 plan n (in2 plan n (in3 plan n (in4 plan n (inr h))))

pub port_web : (plan : Organization) → IsWritten plan → IsOneOf (codes "web0") (logic_ports plan)
port_web plan some = inr (inr (one_left (codes "web0") (web_ports plan.write_size) (ports1 plan) (one_web plan.write_size some)))

pub port_wmask : (plan : Organization) (k : ℕ) → k < plan.masks → IsOneOf (with_index (codes "wmask0") k) (logic_ports plan)
port_wmask plan k lt = in1 plan (with_index (codes "wmask0") k) (one_left (with_index (codes "wmask0") k) (port_bits plan.masks (codes "wmask0")) (ports2 plan) (one_tabulate plan.masks (with_index (codes "wmask0")) k lt))

pub port_addr : (plan : Organization) (k : ℕ) → k < addr_bits plan → IsOneOf (with_index (codes "addr0") k) (logic_ports plan)
port_addr plan k lt = in1 plan (with_index (codes "addr0") k) (in2 plan (with_index (codes "addr0") k) (one_left (with_index (codes "addr0") k) (port_bits (addr_bits plan) (codes "addr0")) (ports3 plan) (one_tabulate (addr_bits plan) (with_index (codes "addr0")) k lt)))

pub port_din : (plan : Organization) (k : ℕ) → k < inputs_of plan → IsOneOf (with_index (codes "din0") k) (logic_ports plan)
port_din plan k lt = let n = with_index (codes "din0") k in in1 plan n (in2 plan n (in3 plan n (one_left n (port_bits (inputs_of plan) (codes "din0")) (codes "clkb" ∷ ports4 plan) (one_tabulate (inputs_of plan) (with_index (codes "din0")) k lt))))

pub port_clkb : (plan : Organization) → IsOneOf (codes "clkb") (logic_ports plan)
port_clkb plan = let n = codes "clkb" in in1 plan n (in2 plan n (in3 plan n (in4 plan n (inl refl))))

pub port_control : (plan : Organization) (b : ℕ) (n : List ℕ) → b < banks_of plan → IsOneOf n (bank_control_names plan b) → IsOneOf n (logic_ports plan)
port_control plan b n lt h = after_clkb plan n (one_left n (tabulate_lists (banks_of plan) (bank_control_names plan)) (ports5 plan) (one_tabulate_lists (banks_of plan) (bank_control_names plan) b n lt h))

pub port_wlen : (plan : Organization) (b : ℕ) → b < banks_of plan → IsOneOf (wlen_name plan b) (logic_ports plan)
port_wlen plan b lt = port_control plan b (wlen_name plan b) lt (inl refl)

pub port_sen : (plan : Organization) (b : ℕ) → b < banks_of plan → IsOneOf (sen_name plan b) (logic_ports plan)
port_sen plan b lt = port_control plan b (sen_name plan b) lt (inr (one_right (sen_name plan b) (bank_enables plan b) (sen_name plan b ∷ []) (inl refl)))

pub port_enable : (plan : Organization) (b m : ℕ) → b < banks_of plan → m < enables_of plan → IsOneOf (bank_enable plan b m) (logic_ports plan)
port_enable plan b m lt few = port_control plan b (bank_enable plan b m) lt (inr (one_left (bank_enable plan b m) (bank_enables plan b) (sen_name plan b ∷ []) (one_tabulate (enables_of plan) (bank_enable plan b) m few)))

pub port_sel : (plan : Organization) (k : ℕ) → 0 < plan.col_bits → k < words_per_row plan → IsOneOf (with_number (codes "sel") k) (logic_ports plan)
port_sel plan k some lt = let n = with_number (codes "sel") k in after_clkb plan n (in5 plan n (one_left n (column_choices plan.col_bits) (ports6 plan) (one_choice plan.col_bits k some lt)))

pub port_line : (plan : Organization) (n : List ℕ) → IsOneOf n (predecode_lines plan) → IsOneOf n (logic_ports plan)
port_line plan n h = after_clkb plan n (in5 plan n (in6 plan n (one_left n (predecode_lines plan) (ports7 plan) h)))

pub port_d : (plan : Organization) (i : ℕ) → i < inputs_of plan → IsOneOf (with_number (codes "d") i) (logic_ports plan)
port_d plan i lt = let n = with_number (codes "d") i in after_clkb plan n (in5 plan n (in6 plan n (in7 plan n (one_left n (data_inputs plan) supplies (one_tabulate (inputs_of plan) (with_number (codes "d")) i lt)))))

pub port_supply : (plan : Organization) (n : List ℕ) → IsOneOf n supplies → IsOneOf n (logic_ports plan)
port_supply plan n h = after_clkb plan n (in5 plan n (in6 plan n (in7 plan n (one_right n (data_inputs plan) supplies h))))

-- enables by whether there are several
pub wlen_cases : (plan : Organization) (Q : List ℕ → Type 0) (n b : ℕ) → (n ≡ 0 → Q (codes "wlen")) → (0 < n → Q (with_number (codes "wlen") b)) → Q (net_name plan (wlen_at n b))
wlen_cases plan Q zero b one many = one refl
wlen_cases plan Q (suc n) b one many = many (omega arith)

pub sen_cases : (plan : Organization) (Q : List ℕ → Type 0) (n b : ℕ) → (n ≡ 0 → Q (codes "sen")) → (0 < n → Q (with_number (codes "sen") b)) → Q (net_name plan (sen_at n b))
sen_cases plan Q zero b one many = one refl
sen_cases plan Q (suc n) b one many = many (omega arith)

pub enable_cases : (plan : Organization) (Q : List ℕ → Type 0) (n masks b m : ℕ) → (n ≡ 0 → masks ≡ 0 → Q (codes "wen")) → Q (with_numbers (codes "we") b m) → Q (net_name plan (enable_at n masks b m))
enable_cases plan Q zero zero b m one many = one refl refl
enable_cases plan Q zero (suc k) b m one many = many
enable_cases plan Q (suc n) k b m one many = many

pub not_both : {n k : ℕ} {T : Type 0} → n ≡ 0 → k ≡ 0 → (0 < n) ⊎ (0 < k) → T
not_both e f (inl h) = absurd (omega (arith, e, h))
not_both e f (inr h) = absurd (omega (arith, f, h))

-- names that are none of the ports
module _ (plan : Organization) (p : IsBuildable plan) where
  -- by their letters
  pub word_other : (n : List ℕ) → among (logic_kinds plan p) (letters n) ≡ false → AreOther n (logic_ports plan)
  word_other n e = told_other (logic_ports plan) (logic_kinds plan p) (logic_told plan p) n e

  pub number_other : (ls : List ℕ) (k : ℕ) → k < 2 ^ 64 → among (logic_kinds plan p) (letters ls) ≡ false → AreOther (with_number ls k) (logic_ports plan)
  number_other ls k few e = word_other (with_number ls k) (ap (among (logic_kinds plan p)) (number_letters ls k few) ∙ e)

  pub numbers_other : (ls : List ℕ) (k m : ℕ) → k < 2 ^ 64 → m < 2 ^ 64 → among (logic_kinds plan p) (letters ls ++ (95 ∷ [])) ≡ false → AreOther (with_numbers ls k m) (logic_ports plan)
  numbers_other ls k m few few' e = word_other (with_numbers ls k m) (ap (among (logic_kinds plan p)) (numbers_letters ls k m few few') ∙ e)

  -- the enables for all banks, where each bank has its own
  pub wlen_other : (several : 0 < plan.bank_bits) → AreOther (codes "wlen") (logic_ports plan)
  wlen_other several = all_ports plan (λ (q : List ℕ). same_name (codes "wlen") q ≡ false) p (record {
    clk0 = refl;
    csb0 = refl;
    web0 = λ some. refl;
    wmask = λ k lt. refl;
    addr = λ k lt. refl;
    din = λ k lt. refl;
    clkb = refl;
    wlen = λ b lt. wlen_cases plan (λ (q : List ℕ). same_name (codes "wlen") q ≡ false) plan.bank_bits b (λ e. absurd (omega (arith, e, several))) (λ more. nil_digit b [] (few_banks plan p b lt));
    enable = λ b m lt few'. enable_cases plan (λ (q : List ℕ). same_name (codes "wlen") q ≡ false) plan.bank_bits plan.masks b m (λ e f. refl) (refl);
    sen = λ b lt. sen_cases plan (λ (q : List ℕ). same_name (codes "wlen") q ≡ false) plan.bank_bits b (λ e. refl) (λ more. refl);
    sel = λ k lt. refl;
    line = λ h k lt few'. refl;
    d = λ j lt. refl;
    vdd = refl;
    gnd = refl;
  })

  pub sen_other : (several : 0 < plan.bank_bits) → AreOther (codes "sen") (logic_ports plan)
  sen_other several = all_ports plan (λ (q : List ℕ). same_name (codes "sen") q ≡ false) p (record {
    clk0 = refl;
    csb0 = refl;
    web0 = λ some. refl;
    wmask = λ k lt. refl;
    addr = λ k lt. refl;
    din = λ k lt. refl;
    clkb = refl;
    wlen = λ b lt. wlen_cases plan (λ (q : List ℕ). same_name (codes "sen") q ≡ false) plan.bank_bits b (λ e. refl) (λ more. refl);
    enable = λ b m lt few'. enable_cases plan (λ (q : List ℕ). same_name (codes "sen") q ≡ false) plan.bank_bits plan.masks b m (λ e f. refl) (refl);
    sen = λ b lt. sen_cases plan (λ (q : List ℕ). same_name (codes "sen") q ≡ false) plan.bank_bits b (λ e. absurd (omega (arith, e, several))) (λ more. nil_digit b [] (few_banks plan p b lt));
    sel = λ k lt. refl;
    line = λ h k lt few'. refl;
    d = λ j lt. refl;
    vdd = refl;
    gnd = refl;
  })

  pub wen_other : (many : (0 < plan.bank_bits) ⊎ (0 < plan.masks)) → AreOther (codes "wen") (logic_ports plan)
  wen_other many = all_ports plan (λ (q : List ℕ). same_name (codes "wen") q ≡ false) p (record {
    clk0 = refl;
    csb0 = refl;
    web0 = λ some. refl;
    wmask = λ k lt. refl;
    addr = λ k lt. refl;
    din = λ k lt. refl;
    clkb = refl;
    wlen = λ b lt. wlen_cases plan (λ (q : List ℕ). same_name (codes "wen") q ≡ false) plan.bank_bits b (λ e. refl) (λ more. refl);
    enable = λ b m lt few'. enable_cases plan (λ (q : List ℕ). same_name (codes "wen") q ≡ false) plan.bank_bits plan.masks b m (λ e f. not_both e f many) (letter_digit 110 [] b (95 ∷ (decimal m ++ [])) (few_banks plan p b lt) refl);
    sen = λ b lt. sen_cases plan (λ (q : List ℕ). same_name (codes "wen") q ≡ false) plan.bank_bits b (λ e. refl) (λ more. refl);
    sel = λ k lt. refl;
    line = λ h k lt few'. refl;
    d = λ j lt. refl;
    vdd = refl;
    gnd = refl;
  })
