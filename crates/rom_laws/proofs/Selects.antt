-- What the nets say at each command of a read-only memory's run: what those of a read-write memory say of selecting and reading.
use Rattle.std.proofs.Common.{◌≡◌, ℕ, Bool, List, [], ◌∷◌, map, sym, subst, ◌∙◌}
use Rattle.sram_netlist.specs.Organization.{Organization}
use Rattle.sram_netlist.specs.Nets.{Net}
use Rattle.sram_netlist.specs.BitCells.{read_only}
use Rattle.memory_laws.specs.Laws.{SelectFacts}
use Rattle.memory_laws.specs.Phase.{State}
use Rattle.memory_laws.specs.Run.{MemoryCommand, IsStartState, IsCommandRun}
use Rattle.memory_laws.proofs.Circuits.{start_same, command_same}
use Rattle.memory_laws.proofs.Direct.{direct}
use Rattle.memory_laws.proofs.Facts.{facts}
use Rattle.memory_laws.proofs.Runs.{masks_fit, masks_reached, bank_fits}
use Rattle.rom_laws.specs.RomRun.{IsRomPlan, RomCommand, read_command, rom_circuit, HaveRomAddresses}
use Rattle.rom_laws.specs.Laws.{EachSelects, SelectsAddresses, HoldsWords, RomsHoldWords}
use Rattle.rom_laws.proofs.RomCircuit.{rom_direct, rom_same}
use Rattle.rom_laws.proofs.Mirror.{sen_kept}
use Rattle.rom_laws.proofs.Extended.{extended, extended_value, extended_start, value_kept}
use Rattle.rom_laws.proofs.RomRuns.{extended_cycle, rom_runs, rom_answers_with}

-- nets of selecting and reading are among those that a read-only memory has
selects_same : (p : Organization) (c : MemoryCommand) (first second last : Net → Bool) → SelectFacts p c (extended_value first) (extended_value second) (extended_value last) → SelectFacts (read_only p) c first second last
selects_same p c first second last f = record {
  choice = f.choice;
  charged = f.charged;
  rows = f.rows;
  sen = f.sen;
  sens = λ bank fits.
      let g = f.sens bank fits in
      let kept = sen_kept p.bank_bits bank in
      (sym (value_kept first _ kept) ∙ g.0, (sym (value_kept second _ kept) ∙ g.1.0, sym (value_kept last _ kept) ∙ g.1.1));
}

-- the command is one of a read-write memory, whose nets say so
each_selects : (p : Organization) (ok : IsRomPlan p) (words : List ℕ) (s : State) (cs : List RomCommand) (vs : List (Net → Bool)) (end : State) → IsStartState (direct p) (extended p words s) → HaveRomAddresses p cs
    → (run : IsCommandRun (rom_circuit (read_only p) words) s (map read_command cs) vs end) → EachSelects (read_only p) words s cs vs end run
each_selects p ok words s [] vs end start range run = tt
each_selects p ok words s (c ∷ cs) [] end start range run = tt
each_selects p ok words s (c ∷ cs) (v ∷ vs) end start range run =
    let cycle = extended_cycle p ok words c s v run.0 (command_same (rom_circuit (read_only p) words) (rom_direct p words) (rom_same p words ok) s (read_command c) v run.0 run.1) in
    let f = facts p (masks_fit p ok.buildable) (masks_reached p ok.buildable) (extended p words s) (read_command c) (extended_value v) (extended p words run.0) start (bank_fits p c.addr range.0) cycle in
    (selects_same p (read_command c) run.1.first run.1.second v f.1.select, each_selects p ok words run.0 cs vs end f.0 range.1 run.2)

pub rom_selects : (p : Organization) (words : List ℕ) → IsRomPlan p → SelectsAddresses (read_only p) words
rom_selects p words ok s cs vs end start range run = each_selects p ok words s cs vs end (extended_start p ok words s (start_same (rom_circuit (read_only p) words) (rom_direct p words) (rom_same p words ok) s start)) range run

-- nothing is written in it already
read_only_same : (p : Organization) → p.write_size ≡ 0 → read_only p ≡ p
read_only_same p e = λ j. record { word_size = p.word_size; write_size = sym e j; masks = p.masks; bank_bits = p.bank_bits; col_bits = p.col_bits; groups = p.groups }

pub roms_hold_words : RomsHoldWords
roms_hold_words p words ok are = subst (λ (q : Organization). HoldsWords q words) (read_only_same p ok.read_only) (record { runs = rom_runs p words ok; answers = rom_answers_with p words ok are; selects = rom_selects p words ok })
