-- The ports of each written subcircuit have plain names.
use Rattle.std.proofs.Common.{ℕ, zero, suc, ◌<◌, [], ◌∷◌, ◌++◌, refl}
use Rattle.std.specs.Prelude.{codes}
use Rattle.std.specs.List.{AllByRecursion}
use Rattle.row_laws.proofs.LookLaws.{all_append}
use Rattle.sram_netlist.specs.Organization.{Organization, inputs_of, addr_bits, IsBuildable, banks_of}
use Rattle.sram_netlist.specs.Nets.{Addr, Din, Dout, Wmask, WlenAt, SenAt, WenAt}
use Rattle.cell_roles.specs.Roles.{supplies}
use Rattle.sram_netlist.specs.Names.{with_index, bank_name}
use Rattle.sram_deck.specs.Deck.{web_ports, predecode_lines, all_bit_lines, column_choices, data_inputs, write_enables, data_outputs, port_bits, row_inputs, row_ports, bank_ports, logic_ports, top_ports, wlen_name, sen_name, bank_enable, bank_enables}
use Rattle.sram_rows.proofs.DigitLaws.{IsPlain, plain_tail}
use Rattle.sram_rows.proofs.PlainNames.{inputs_within, enables_within, bit_lines_plain, choices_plain, data_bits_plain, enables_plain, outputs_plain, supplies_plain, d_plain, sel_plain}
use Rattle.sram_rows.proofs.PlainNetNames.{name_plain, few_banks}
use Rattle.sram_rows.proofs.LogicPorts.{all_web, all_ports, wlen_cases, sen_cases, enable_cases}
use Rattle.sram_rows.proofs.RowLevel.{inputs_plain}
use Rattle.sram_rows.proofs.Segments.{all_tabulate, line_plain, lines_plain}
use Rattle.sram_netlist.specs.Netlist.{enables_of}

module _ (plan : Organization) (p : IsBuildable plan) where
  pub row_plain : AllByRecursion IsPlain (row_ports plan)
  row_plain =
      all_append IsPlain (row_inputs 97 plan.groups) (codes "wlen" ∷ (all_bit_lines plan ++ supplies)) (inputs_plain plan.groups p.groups)
      (refl, all_append IsPlain (all_bit_lines plan) supplies (bit_lines_plain plan p) supplies_plain)

  pub bank_plain : AllByRecursion IsPlain (bank_ports plan)
  bank_plain =
      all_append IsPlain (predecode_lines plan) (codes "wlen" ∷ codes "sen" ∷ codes "clkb" ∷ (column_choices plan.col_bits ++ (data_inputs plan ++ (write_enables plan ++ (data_outputs plan ++ supplies))))) (lines_plain plan p) (
        refl,
        (
          refl,
          (
            refl,
            all_append IsPlain (column_choices plan.col_bits) (data_inputs plan ++ (write_enables plan ++ (data_outputs plan ++ supplies))) (choices_plain plan p)
                (all_append IsPlain (data_inputs plan) (write_enables plan ++ (data_outputs plan ++ supplies)) (data_bits_plain plan p)
                (all_append IsPlain (write_enables plan) (data_outputs plan ++ supplies) (enables_plain plan p) (all_append IsPlain (data_outputs plan) supplies (outputs_plain plan p) supplies_plain))),
          ),
        ),
      )

  pub logic_plain : AllByRecursion IsPlain (logic_ports plan)
  logic_plain = all_ports plan IsPlain p (record {
    clk0 = refl;
    csb0 = refl;
    web0 = λ some. refl;
    wmask = λ k lt. name_plain plan p (Wmask k) lt;
    addr = λ k lt. name_plain plan p (Addr k) lt;
    din = λ k lt. name_plain plan p (Din k) (inputs_within plan k lt);
    clkb = refl;
    wlen = λ b lt. wlen_cases plan IsPlain plan.bank_bits b (λ e. refl) (λ more. name_plain plan p (WlenAt b) lt);
    enable = λ b m lt few. enable_cases plan IsPlain plan.bank_bits plan.masks b m (λ e f. refl) (name_plain plan p (WenAt b m) (lt, enables_within plan m few));
    sen = λ b lt. sen_cases plan IsPlain plan.bank_bits b (λ e. refl) (λ more. name_plain plan p (SenAt b) lt);
    sel = sel_plain plan p;
    line = line_plain;
    d = λ i lt. d_plain plan p i (inputs_within plan i lt);
    vdd = refl;
    gnd = refl;
  })

  pub top_plain : AllByRecursion IsPlain (top_ports plan)
  top_plain = (
    refl,
    (
      refl,
      all_append IsPlain (web_ports plan.write_size) (port_bits plan.masks (codes "wmask0") ++ (port_bits (addr_bits plan) (codes "addr0") ++ (port_bits (inputs_of plan) (codes "din0") ++ (port_bits plan.word_size (codes "dout0") ++ supplies)))) (all_web IsPlain plan.write_size (λ some. refl))
          (all_append IsPlain (port_bits plan.masks (codes "wmask0")) (port_bits (addr_bits plan) (codes "addr0") ++ (port_bits (inputs_of plan) (codes "din0") ++ (port_bits plan.word_size (codes "dout0") ++ supplies)))
          (all_tabulate IsPlain plan.masks (with_index (codes "wmask0")) (λ k lt. name_plain plan p (Wmask k) lt))
          (all_append IsPlain (port_bits (addr_bits plan) (codes "addr0")) (port_bits (inputs_of plan) (codes "din0") ++ (port_bits plan.word_size (codes "dout0") ++ supplies))
          (all_tabulate IsPlain (addr_bits plan) (with_index (codes "addr0")) (λ k lt. name_plain plan p (Addr k) lt))
          (all_append IsPlain (port_bits (inputs_of plan) (codes "din0")) (port_bits plan.word_size (codes "dout0") ++ supplies)
          (all_tabulate IsPlain (inputs_of plan) (with_index (codes "din0")) (λ k lt. name_plain plan p (Din k) (inputs_within plan k lt)))
          (all_append IsPlain (port_bits plan.word_size (codes "dout0")) supplies (all_tabulate IsPlain plan.word_size (with_index (codes "dout0")) (λ k lt. name_plain plan p (Dout k) lt)) supplies_plain)))),
    ),
  )

  pub bank_name_plain : (n b : ℕ) → b < banks_of plan → IsPlain (bank_name n b)
  bank_name_plain zero b lt = refl
  bank_name_plain (suc n) b lt = plain_tail b (few_banks plan p b lt) [] refl

  -- the nodes of a bank, in turn from each of their parts on
  pub bank_nodes_plain : (b : ℕ) → b < banks_of plan
      → AllByRecursion IsPlain (predecode_lines plan ++ (wlen_name plan b ∷ sen_name plan b ∷ codes "clkb" ∷ (column_choices plan.col_bits ++ (data_inputs plan ++ (bank_enables plan b ++ (port_bits plan.word_size (codes "dout0") ++ supplies))))))
  bank_nodes_plain b lt =
      let douts = port_bits plan.word_size (codes "dout0") in
      let nodes3 = bank_enables plan b ++ (douts ++ supplies) in
      let nodes2 = data_inputs plan ++ nodes3 in
      let nodes1 = column_choices plan.col_bits ++ nodes2 in
      all_append IsPlain (predecode_lines plan) (wlen_name plan b ∷ sen_name plan b ∷ codes "clkb" ∷ nodes1) (lines_plain plan p) (
        wlen_cases plan IsPlain plan.bank_bits b (λ e. refl) (λ more. name_plain plan p (WlenAt b) lt),
        (
          sen_cases plan IsPlain plan.bank_bits b (λ e. refl) (λ more. name_plain plan p (SenAt b) lt),
          (
            refl,
            all_append IsPlain (column_choices plan.col_bits) nodes2 (choices_plain plan p)
                (all_append IsPlain (data_inputs plan) nodes3 (data_bits_plain plan p)
                (all_append IsPlain (bank_enables plan b) (douts ++ supplies) (all_tabulate IsPlain (enables_of plan) (bank_enable plan b) (λ m few. enable_cases plan IsPlain plan.bank_bits plan.masks b m (λ e f. refl) (name_plain plan p (WenAt b m) (lt, enables_within plan m few))))
                (all_append IsPlain douts supplies (all_tabulate IsPlain plan.word_size (with_index (codes "dout0")) (λ i few. name_plain plan p (Dout i) few)) supplies_plain))),
          ),
        ),
      )
