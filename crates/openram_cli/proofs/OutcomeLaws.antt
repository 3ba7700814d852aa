-- Over files of bytes what a command reads has an outcome, and so has the work of any command but `kit`.
use Rattle.std.proofs.Common.{◌≡◌, ◌≢◌, ◌⊎◌, inl, inr, ℕ, ◌<◌, ◌≤◌, ◌^◌, List, [], ◌∷◌, ◌++◌, length, Option, Some, None, Result, Ok, Err, refl, sym, subst, ◌∙◌, lit<, arith}
use Rattle.std.specs.Prelude.{codes, MatchOption}
use Rattle.or_host.specs.Files.{Files}
use Rattle.gds_records.specs.Bytes.{AreBytes}
use Rattle.gds_library.specs.declared.fault.GdsFault.{GdsFault}
use Rattle.gds_library.specs.declared.library.Library.{Library}
use Rattle.gds_library.specs.FirstFault.{IsFaultOf}
use Rattle.gds_library.specs.Grammar.{Spells}
use Rattle.gds_library.specs.Writable.{IsWritable, LibrariesAreWritable}
use Rattle.library_answers.specs.LibraryAnswers.{HasLibraryAnswer}
use Rattle.library_answers.proofs.AnswerLaws.{library_answers_are_there}
use Rattle.tech_rules.specs.declared.tech.Device.{Device}
use Rattle.tech_rules.specs.declared.tech.Tech.{Tech}
use Rattle.tech_rules.specs.Facts.{IsTech}
use Rattle.tech_rules.proofs.TechFacts.{technology-IsTech}
use Rattle.netlist.specs.declared.deck.Deck.{Deck}
use Rattle.spice_text.specs.declared.fault.SpiceFault.{SpiceFault}
use Rattle.spice_text.specs.declared.fault.SpiceFault.TheVariants as spice
use Rattle.spice_text.specs.Deck.{deck}
use Rattle.kit_answers.proofs.TextAnswers.{deck_lasts}
use Rattle.leaf_tables.specs.declared.kit.Kit.{Kit}
use Rattle.tile_checker.specs.declared.violation.Violation.{Violation}
use Rattle.tile_checker.specs.OneReport.{ReportsAreThere}
use Rattle.device_lvs.specs.declared.difference.DeviceDiff.{DeviceDiff}
use Rattle.device_command.specs.DeviceLines.{device_reply}
use Rattle.device_answers.proofs.DeviceAnswerLaws.{devices_are_answered}
use Rattle.net_extractor.specs.declared.difference.NetDiff.{NetDiff}
use Rattle.reply_lines.specs.declared.refusal.Refusal.{Refusal}
use Rattle.reply_lines.specs.declared.refusal.Refusal.TheVariants as refusal_of
use Rattle.reply_lines.specs.declared.reply.Reply.{Reply}
use Rattle.reply_lines.specs.Differences.{comparison_reply}
use Rattle.reply_lines.specs.Reply.{refusal_reply, report_status}
use Rattle.command_steps.specs.File.{IsFile, IsTechnologyFile}
use Rattle.command_steps.specs.Once.{IsDecided, IsLow}
use Rattle.command_steps.specs.Outcome.{WithoutRefusal}
use Rattle.build_command.specs.Design.{IsKitUnder}
use Rattle.build_command.specs.OneDesign.{HoldBytes}
use Rattle.design_answers.specs.DesignAnswers.{HasOutcome}
use Rattle.design_answers.proofs.DesignLaws.{kit_names_answer}
use Rattle.design_answers.proofs.LowLaws.{gds_low}
use Rattle.design_answers.proofs.StepLaws.{answered_by, answered_file, answered_result, answered_tech_file, answered_then, answered_value}
use Rattle.openram_cli.specs.declared.inputs.Inputs.{Inputs}
use Rattle.openram_cli.specs.declared.inputs.Inputs.TheVariants as inputs
use Rattle.openram_cli.specs.declared.inputs.LayoutInput.{LayoutInput}
use Rattle.openram_cli.specs.declared.inputs.LeafCells.{LeafCells}
use Rattle.openram_cli.specs.Answer.{IsAnswer, IsCommandWork, IsReplyTo, IsUsage}
use Rattle.openram_cli.specs.Inspection.{Inspection, LayoutWords, inspection_of}
use Rattle.openram_cli.specs.Inspection.Inspection.{check, nets, compare, devices, kit}
use Rattle.openram_cli.specs.Inputs.{AreCellsOver, AreCellsWith, AreCompared, AreInputs, AreLeafCells, HasDevices, IsDeck, IsDeckFile, IsDeviceTechnology}
use Rattle.openram_cli.specs.Inputs.{IsLayout, IsLayoutWith, IsLibrary, IsLibraryFile, IsReadLayout}
use Rattle.openram_cli.specs.Outcomes.{InputsHaveOutcomes, IsNoKit, AnswersAreThere}
use Rattle.openram_cli.proofs.LayoutOutcomeLaws.{checks_have_outcomes, listings_have_outcomes, comparisons_have_outcomes}

answered_library : (bytes : List ℕ) → AreBytes bytes → length bytes ≤ 2 ^ 64 → HasOutcome (IsLibrary bytes)
answered_library bytes are short =
    answered_by (Spells bytes) (λ (fault : GdsFault). IsFaultOf fault bytes) refusal_of.Gds (by_library (library_answers_are_there bytes are short))
  where
    by_library : HasLibraryAnswer bytes → ((lib : Library) × Spells bytes lib) ⊎ ((fault : GdsFault) × IsLow (refusal_of.Gds fault) × IsFaultOf fault bytes)
    by_library (inl lib) = inl lib
    by_library (inr fault) = inr (fault.0, gds_low fault.0 fault.1, fault.2)

spice_low : (f : SpiceFault) → f ≢ spice.Memory → IsLow (refusal_of.Spice f)
spice_low spice.Memory some = absurd (some refl)
spice_low (spice.NotAscii at) some = lit< tt
spice_low (spice.OutsideSubckt line) some = lit< tt
spice_low (spice.Unclosed line) some = lit< tt
spice_low (spice.Duplicate line) some = lit< tt
spice_low (spice.Refused line) some = lit< tt
spice_low (spice.BadLine line) some = lit< tt

answered_deck : (bytes : List ℕ) → HasOutcome (IsDeck bytes)
answered_deck bytes =
    answered_result (deck bytes) refusal_of.Spice
    (λ f e. spice_low f (λ memory. deck_lasts bytes (subst (λ (g : SpiceFault). deck bytes ≡ Err g) memory e)))

answered_deck_file : (files : Files) (name : List ℕ) → HasOutcome (IsDeckFile files name)
answered_deck_file files name = answered_then (IsFile files name) IsDeck (answered_file files name) (λ bytes there. answered_deck bytes)

cons_some : {X : Type 0} {x : X} {xs : List X} → [] ≡ x ∷ xs → ⊥
cons_some e = absurd cc

-- a technology has kinds of transistors, or it has none
answered_devices : (tech : Tech) → HasOutcome (HasDevices tech)
answered_devices tech = by_kinds tech.devices refl
  where
    by_kinds : (kinds : List Device) → tech.devices ≡ kinds → HasOutcome (HasDevices tech)
    by_kinds [] e = (Err refusal_of.NoDevices, lit< tt, (refl, e))
    by_kinds (k ∷ ks) e = (Ok tech, tt, (refl, λ none. absurd (cons_some (sym none ∙ e))))

module _ (files : Files) (hold : HoldBytes files) where
  answered_library_file : (name : List ℕ) → HasOutcome (IsLibraryFile files name)
  answered_library_file name =
      answered_then (IsFile files name) IsLibrary (answered_file files name)
      (λ bytes there. answered_library bytes (hold name bytes there.holds) (let fits = there.fits in omega (arith, fits)))

  answered_layout_with : (words : LayoutWords) (tech : Tech) → HasOutcome (IsLayoutWith files words tech)
  answered_layout_with words tech =
      let made_of : Library → LayoutInput → Type 0 = λ lib layout. layout ≡ record { tech = tech; lib = lib; top = words.top } in
      answered_then (IsLibraryFile files words.gds) (λ lib. WithoutRefusal (made_of lib)) (answered_library_file words.gds)
      (λ lib made. answered_value (made_of lib) (record { tech = tech; lib = lib; top = words.top }) refl)

  answered_layout : (words : LayoutWords) → HasOutcome (IsLayout files words)
  answered_layout words =
      answered_then (IsTechnologyFile files words.tech) (IsLayoutWith files words) (answered_tech_file files words.tech)
      (λ tech made. answered_layout_with words tech)

  answered_compared : (netlist : List ℕ) (layout : LayoutInput) → HasOutcome (AreCompared files netlist layout)
  answered_compared netlist layout =
      let read_as : Deck → Inputs → Type 0 = λ d read. read ≡ inputs.Compare layout d in
      answered_then (IsDeckFile files netlist) (λ d. WithoutRefusal (read_as d)) (answered_deck_file files netlist)
      (λ d made. answered_value (read_as d) (inputs.Compare layout d) refl)

  answered_cells_over : (name : List ℕ) (tech : Tech) (lib : Library) → HasOutcome (AreCellsOver files name tech lib)
  answered_cells_over name tech lib =
      let file = name ++ codes ".sp" in
      let made_of : Deck → LeafCells → Type 0 = λ d cells. cells ≡ record { tech = tech; lib = lib; deck = d } in
      answered_then (IsDeckFile files file) (λ d. WithoutRefusal (made_of d)) (answered_deck_file files file)
      (λ d made. answered_value (made_of d) (record { tech = tech; lib = lib; deck = d }) refl)

  answered_cells_with : (name : List ℕ) (tech : Tech) → HasOutcome (AreCellsWith files name tech)
  answered_cells_with name tech =
      let file = name ++ codes ".gds" in
      answered_then (IsLibraryFile files file) (AreCellsOver files name tech) (answered_library_file file) (λ lib made. answered_cells_over name tech lib)

  answered_device_technology : (name : List ℕ) → HasOutcome (IsDeviceTechnology files name)
  answered_device_technology name =
      let file = name ++ codes ".toml" in
      answered_then (IsTechnologyFile files file) HasDevices (answered_tech_file files file) (λ tech made. answered_devices tech)

  answered_cells : (name : List ℕ) → HasOutcome (AreLeafCells files name)
  answered_cells name =
      answered_then (IsDeviceTechnology files name) (AreCellsWith files name) (answered_device_technology name) (λ tech made. answered_cells_with name tech)

  answered_inputs : (c : Inspection) → HasOutcome (AreInputs files c)
  answered_inputs (check words) =
      let read_as : LayoutInput → Inputs → Type 0 = λ layout read. read ≡ inputs.Check layout in
      answered_then (IsLayout files words) (λ layout. WithoutRefusal (read_as layout)) (answered_layout words)
      (λ layout made. answered_value (read_as layout) (inputs.Check layout) refl)
  answered_inputs (nets words) =
      let read_as : LayoutInput → Inputs → Type 0 = λ layout read. read ≡ inputs.Nets layout in
      answered_then (IsLayout files words) (λ layout. WithoutRefusal (read_as layout)) (answered_layout words)
      (λ layout made. answered_value (read_as layout) (inputs.Nets layout) refl)
  answered_inputs (compare words netlist) =
      answered_then (IsLayout files words) (AreCompared files netlist) (answered_layout words) (λ layout made. answered_compared netlist layout)
  answered_inputs (devices name) =
      let read_as : LeafCells → Inputs → Type 0 = λ cells read. read ≡ inputs.Devices cells in
      answered_then (AreLeafCells files name) (λ cells. WithoutRefusal (read_as cells)) (answered_cells name)
      (λ cells made. answered_value (read_as cells) (inputs.Devices cells) refl)
  answered_inputs (kit name) =
      let read_as : Kit → Inputs → Type 0 = λ made read. read ≡ inputs.Kit made in
      answered_then (IsKitUnder files name) (λ made. WithoutRefusal (read_as made)) (kit_names_answer files name hold)
      (λ made is. answered_value (read_as made) (inputs.Kit made) refl)

  -- a layout that was read can be written, and its technology is one
  sound_layout : LibrariesAreWritable → (words : LayoutWords) (layout : LayoutInput) → IsLayout files words (Ok layout) → IsReadLayout layout
  sound_layout writable words layout made =
      let tech = made.0 in
      let with = made.2 in
      let lib = with.0 in
      let bytes = with.1.0 in
      subst IsReadLayout (sym with.2) (record {
        tech = technology-IsTech made.1.0 tech made.1.2;
        writable = writable bytes lib (hold words.gds bytes with.1.1.holds) with.1.2;
      })

  -- and so can leaf cells that were read
  sound_cells : LibrariesAreWritable → (name : List ℕ) (cells : LeafCells) → AreLeafCells files name (Ok cells) → IsWritable cells.lib
  sound_cells writable name cells made =
      let with = made.2 in
      let bytes = with.1.0 in
      subst (λ (c : LeafCells). IsWritable c.lib) (sym with.2.2)
      (writable bytes with.0 (hold (name ++ codes ".gds") bytes with.1.1.holds) with.1.2)

  answered_work : ReportsAreThere → LibrariesAreWritable → (c : Inspection) → IsNoKit c → HasOutcome (IsCommandWork files c)
  answered_work reports writable (check words) one =
      answered_then (AreInputs files (check words)) IsReplyTo (answered_inputs (check words))
      (λ read made. subst (λ (r : Inputs). HasOutcome (IsReplyTo r)) (sym made.2) (checks_have_outcomes reports made.0 (sound_layout writable words made.0 made.1)))
  answered_work reports writable (nets words) one =
      answered_then (AreInputs files (nets words)) IsReplyTo (answered_inputs (nets words))
      (λ read made. subst (λ (r : Inputs). HasOutcome (IsReplyTo r)) (sym made.2) (listings_have_outcomes made.0 (sound_layout writable words made.0 made.1)))
  answered_work reports writable (compare words netlist) one =
      answered_then (AreInputs files (compare words netlist)) IsReplyTo (answered_inputs (compare words netlist))
      (λ read made. subst (λ (r : Inputs). HasOutcome (IsReplyTo r)) (sym made.2.2)
      (comparisons_have_outcomes made.0 made.2.0 (sound_layout writable words made.0 made.1)))
  answered_work reports writable (devices name) one =
      answered_then (AreInputs files (devices name)) IsReplyTo (answered_inputs (devices name))
      (λ read made. subst (λ (r : Inputs). HasOutcome (IsReplyTo r)) (sym made.2)
      (devices_are_answered made.0.tech made.0.lib made.0.deck (sound_cells writable name made.0 made.1).cells))
  answered_work reports writable (kit name) one = absurd one

pub inputs_have_outcomes : InputsHaveOutcomes
inputs_have_outcomes files c hold = answered_inputs files hold c

-- Statuses

report_low : (violations : List Violation) → report_status violations < 4
report_low [] = lit< tt
report_low (v ∷ vs) = lit< tt

comparison_low : (difference : Option NetDiff) → (comparison_reply difference).status < 4
comparison_low None = lit< tt
comparison_low (Some d) = lit< tt

device_low : (difference : Option DeviceDiff) → (device_reply difference).status < 4
device_low None = lit< tt
device_low (Some d) = lit< tt

-- the reply to any command but `kit` has a status below 4
reply_low : (c : Inspection) → IsNoKit c → (files : Files) (reply : Reply) → IsCommandWork files c (Ok reply) → reply.status < 4
reply_low (check words) one files reply work = by work.0 work.1.2 work.2
  where
    by : (read : Inputs) → read ≡ inputs.Check work.1.0 → IsReplyTo read (Ok reply) → reply.status < 4
    by read e is =
        let answer = subst (λ (r : Inputs). IsReplyTo r (Ok reply)) e is in
        let same = answer.2.2 in
        subst (λ (r : Reply). r.status < 4) (sym same) (report_low answer.2.0)
reply_low (nets words) one files reply work = by work.0 work.1.2 work.2
  where
    by : (read : Inputs) → read ≡ inputs.Nets work.1.0 → IsReplyTo read (Ok reply) → reply.status < 4
    by read e is =
        let answer = subst (λ (r : Inputs). IsReplyTo r (Ok reply)) e is in
        let same = answer.2.2 in
        subst (λ (r : Reply). r.status < 4) (sym same) (lit< tt)
reply_low (compare words netlist) one files reply work = by work.0 work.1.2.2 work.2
  where
    by : (read : Inputs) → read ≡ inputs.Compare work.1.0 work.1.2.0 → IsReplyTo read (Ok reply) → reply.status < 4
    by read e is =
        let answer = subst (λ (r : Inputs). IsReplyTo r (Ok reply)) e is in
        let compared = answer.2.2.2 in
        subst (λ (r : Reply). r.status < 4) (sym compared.2) (comparison_low compared.0)
reply_low (devices name) one files reply work = by work.0 work.1.2 work.2
  where
    by : (read : Inputs) → read ≡ inputs.Devices work.1.0 → IsReplyTo read (Ok reply) → reply.status < 4
    by read e is =
        let replied = subst (λ (r : Inputs). IsReplyTo r (Ok reply)) e is in
        subst (λ (r : Reply). r.status < 4) (sym replied.2) (device_low replied.0)
reply_low (kit name) one files reply work = absurd one

pub answers_are_there : ReportsAreThere → LibrariesAreWritable → AnswersAreThere
answers_are_there reports writable words files hold asked = by (inspection_of words) refl
  where
    of_command : (c : Inspection) → inspection_of words ≡ Some c → (result : Result Reply Refusal) → IsDecided result → IsCommandWork files c result
        → (reply : Reply) × IsAnswer words files reply
    of_command c e (Ok reply) decided work = (
      reply,
      record {
        result = Ok reply;
        work = subst (λ (o : Option Inspection). MatchOption o (IsUsage (Ok reply)) (λ d. IsCommandWork files d (Ok reply))) (sym e) work;
        is = refl;
        settled = reply_low c (asked c e) files reply work;
      },
    )
    of_command c e (Err refusal) decided work = (
      refusal_reply refusal,
      record {
        result = Err refusal;
        work = subst (λ (o : Option Inspection). MatchOption o (IsUsage (Err refusal)) (λ d. IsCommandWork files d (Err refusal))) (sym e) work;
        is = refl;
        settled = decided;
      },
    )

    by : (command : Option Inspection) → inspection_of words ≡ command → (reply : Reply) × IsAnswer words files reply
    by None e = (
      refusal_reply refusal_of.Usage,
      record {
        result = Err refusal_of.Usage;
        work = subst (λ (o : Option Inspection). MatchOption o (IsUsage (Err refusal_of.Usage)) (λ d. IsCommandWork files d (Err refusal_of.Usage))) (sym e) refl;
        is = refl;
        settled = lit< tt;
      },
    )
    by (Some c) e =
        let found = answered_work files hold reports writable c (asked c e) in
        of_command c e found.0 found.1 found.2
