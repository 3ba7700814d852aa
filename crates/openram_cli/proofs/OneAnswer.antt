-- The words and the files have one answer: at each step one thing follows from the bytes, or one refusal, and not both.
use Rattle.std.proofs.Common.{◌≡◌, ◌≢◌, ℕ, ◌<◌, ◌≤◌, List, length, Option, Some, None, Result, Ok, Err, refl, sym, ap, subst, ◌∙◌, arith}
use Rattle.std.specs.Prelude.{MatchOption, ◌++◌, codes}
use Rattle.std.specs.List.{AllByRecursion}
use Rattle.or_geom.specs.declared.shape.Shape.{Shape}
use Rattle.or_host.specs.Files.{Files}
use Rattle.gds_library.specs.declared.library.Library.{Library}
use Rattle.gds_library.specs.declared.fault.GdsFault.{GdsFault}
use Rattle.gds_library.specs.FirstFault.{IsFaultOf}
use Rattle.gds_library.specs.Grammar.{Spells}
use Rattle.gds_library.specs.ReadLibrary.{LibrariesAreUnique}
use Rattle.gds_library.specs.Writable.{IsWritable, IsWritableCell, LibrariesAreWritable}
use Rattle.gds_library.specs.OneFault.{FaultsAreUnique, FaultsExcludeLibraries}
use Rattle.gds_records.specs.Bytes.{AreBytes}
use Rattle.tech_rules.specs.declared.tech.Tech.{Tech}
use Rattle.cell_hierarchy.specs.declared.fault.FlattenFault.{FlattenFault}
use Rattle.cell_hierarchy.specs.declared.fault.FlattenFault.TheVariants as flatten_fault
use Rattle.cell_hierarchy.specs.Plain.{FlatLists}
use Rattle.cell_hierarchy.specs.FlatLists.{AreFlatShapes, AreFlatLists, IsFault}
use Rattle.cell_hierarchy.specs.OneAnswer.{FlatListsAreUnique, FlatShapesAreUnique, FlattenFaultsAreUnique, FlattenFaultsExcludeShapes, FlattenFaultsExcludeLists}
use Rattle.tile_checker.specs.OneReport.{ReportsAreUnique}
use Rattle.netlist.specs.declared.deck.Deck.{Deck}
use Rattle.netlist.specs.declared.rows.Rows.{Rows}
use Rattle.netlist.specs.declared.rows.RowPin.{RowPin}
use Rattle.spice_text.specs.Deck.{deck}
use Rattle.spice_netlist.specs.declared.fault.FlatFault.{FlatFault}
use Rattle.spice_netlist.specs.declared.fault.FlatFault.TheVariants as rows_fault
use Rattle.spice_netlist.specs.Faults.{AreFlatRows, IsFlatFault}
use Rattle.spice_netlist.specs.OneAnswer.{RowsAreUnique, FlatFaultsAreUnique, FlatFaultsExcludeRows}
use Rattle.net_extractor.specs.PlainNetLabel.{PlainNetLabel}
use Rattle.net_extractor.specs.declared.difference.NetDiff.{NetDiff}
use Rattle.net_extractor.specs.OneAnswer.{NetsAreUnique, DifferencesAreUnique, DifferencesExcludeAlike}
use Rattle.gds_library.proofs.LibraryLaws.{libraries_are_unique}
use Rattle.gds_library.proofs.WritableLaws.{libraries_are_writable}
use Rattle.gds_library.proofs.OneFaultLaws.{faults_are_unique, faults_exclude_libraries}
use Rattle.cell_hierarchy.proofs.TotalLaws.{one_total}
use Rattle.cell_hierarchy.proofs.OneListsLaws.{one_pair, one_set_of_shapes}
use Rattle.cell_hierarchy.proofs.OneFaultLaws.{one_fault, fault_or_shapes, fault_or_lists}
use Rattle.tile_checker.proofs.OneReportLaws.{one_report}
use Rattle.spice_netlist.proofs.OneRowLaws.{one_flat_rows}
use Rattle.spice_netlist.proofs.OneFaultLaws.{one_flat_fault, no_flat_rows}
use Rattle.net_extractor.proofs.OneNetLaws.{one_nets}
use Rattle.net_extractor.proofs.OneDifferenceLaws.{one_difference}
use Rattle.net_extractor.proofs.DifferenceLaws.{differs}
use Rattle.device_lvs.specs.OneAnswer.{DeviceAnswersAreUnique, DeviceFaultsAreUnique, DeviceFaultsExcludeAnswers}
use Rattle.device_lvs.specs.RoleSteps.{leaf_files}
use Rattle.device_lvs.proofs.OneAnswerLaws.{one_device_answer, one_device_fault, no_device_answer}
use Rattle.device_command.proofs.OneReplyLaws.{on_devices_answered}
use Rattle.kit_command.proofs.OneReplyLaws.{on_kit_answered}
use Rattle.reply_lines.specs.declared.refusal.Refusal.{Refusal}
use Rattle.reply_lines.specs.declared.refusal.Refusal.TheVariants as refusal_of
use Rattle.reply_lines.specs.declared.reply.Reply.{Reply}
use Rattle.reply_lines.specs.Reply.{report_reply}
use Rattle.reply_lines.specs.NetLines.{nets_reply}
use Rattle.reply_lines.specs.Differences.{comparison_reply}
use Rattle.openram_cli.specs.declared.inputs.Inputs.{Inputs}
use Rattle.openram_cli.specs.declared.inputs.Inputs.TheVariants as inputs
use Rattle.openram_cli.specs.declared.inputs.LayoutInput.{LayoutInput}
use Rattle.openram_cli.specs.declared.inputs.LeafCells.{LeafCells}
use Rattle.openram_cli.specs.Inspection.{Inspection, LayoutWords, inspection_of}
use Rattle.openram_cli.specs.Inspection.Inspection.{check, nets, compare, devices, kit}
use Rattle.build_command.specs.Design.{IsKitUnder}
use Rattle.build_command.specs.OneDesign.{HoldBytes}
use Rattle.build_command.proofs.OneDesignLaws.{on_kit_under}
use Rattle.command_steps.proofs.OnceLaws.{gds_lasts, on_fault, on_file, on_gives, on_tech_file, on_then, on_value}
use Rattle.command_steps.specs.Once.{IsDecided, IsLow, IsOnce}
use Rattle.command_steps.specs.Outcome.{WithoutRefusal, Then}
use Rattle.command_steps.specs.File.{limit, IsFile, IsTechnologyFile}
use Rattle.openram_cli.specs.Inputs.{IsLibrary, IsDeck, IsLibraryFile, IsDeckFile, IsLayoutWith, IsLayout, AreCompared, HasDevices, IsDeviceTechnology, AreCellsOver, AreCellsWith, AreLeafCells, AreInputs}
use Rattle.openram_cli.specs.Answer.{AreFlatShapesOf, AreFlat, leaves_of, AreLeafRows, IsReported, IsNetListing, IsDifference, IsCompared, IsCheckAnswer, IsNetsAnswer, IsCompareAnswer, IsReplyTo, IsUsage, IsCommandWork, reply_of}
use Rattle.openram_cli.specs.OneAnswer.{IsOnly, HaveOneAnswer}

reported : ReportsAreUnique → (tech : Tech) (shapes : List Shape) → IsOnly (IsReported tech shapes)
reported reports tech shapes a b p q = p.2 ∙ ap (report_reply tech.layers) (reports tech.rules shapes p.0 q.0 p.1 q.1) ∙ sym q.2

listed : NetsAreUnique → (tech : Tech) (lists : FlatLists) → IsOnly (IsNetListing tech lists)
listed unique tech lists a b p q = p.2 ∙ ap (nets_reply tech.layers) (unique tech lists.shapes lists.labels p.0 q.0 p.1 q.1) ∙ sym q.2

compared_once : DifferencesAreUnique → DifferencesExcludeAlike → (labels : List PlainNetLabel) (rows : List RowPin) (d e : Option NetDiff) → IsDifference labels rows d → IsDifference labels rows e → d ≡ e
compared_once one alike labels rows None None p q = refl
compared_once one alike labels rows None (Some e) p q = absurd (alike labels rows e q p)
compared_once one alike labels rows (Some d) None p q = absurd (alike labels rows d p q)
compared_once one alike labels rows (Some d) (Some e) p q = ap (λ (f : NetDiff). Some f) (one labels rows d e p q)

compared : NetsAreUnique → DifferencesAreUnique → DifferencesExcludeAlike → (tech : Tech) (lists : FlatLists) (rows : Rows) → IsOnly (IsCompared tech lists rows)
compared unique one alike tech lists rows a b p q =
    let labels : q.0 ≡ p.0 = unique tech lists.shapes lists.labels q.0 p.0 q.1 p.1 in
    let second = subst (λ (l : List PlainNetLabel). IsDifference l rows.pins q.2.0) labels q.2.1 in
    p.2.2 ∙ ap comparison_reply (compared_once one alike p.0 rows.pins p.2.0 q.2.0 p.2.1 second) ∙ sym q.2.2

-- what the crates below promise of their relations: each gives one thing
pub record AreLaws : Type 0 where
  pub libraries : LibrariesAreUnique
  pub writable : LibrariesAreWritable
  pub faults : FaultsAreUnique
  pub no_faults : FaultsExcludeLibraries
  pub shapes : FlatShapesAreUnique
  pub lists : FlatListsAreUnique
  pub refusals : FlattenFaultsAreUnique
  pub no_shapes : FlattenFaultsExcludeShapes
  pub no_lists : FlattenFaultsExcludeLists
  pub reports : ReportsAreUnique
  pub nets : NetsAreUnique
  pub differences : DifferencesAreUnique
  pub alike : DifferencesExcludeAlike
  pub rows : RowsAreUnique
  pub row_faults : FlatFaultsAreUnique
  pub no_row_faults : FlatFaultsExcludeRows
  pub devices : DeviceAnswersAreUnique
  pub device_faults : DeviceFaultsAreUnique
  pub no_device_faults : DeviceFaultsExcludeAnswers

all_laws : AreLaws
all_laws = record {
  libraries = libraries_are_unique;
  writable = libraries_are_writable;
  faults = faults_are_unique;
  no_faults = faults_exclude_libraries;
  shapes = one_set_of_shapes;
  lists = one_pair;
  refusals = one_fault one_total;
  no_shapes = fault_or_shapes one_total;
  no_lists = fault_or_lists one_total;
  reports = one_report;
  nets = one_nets;
  differences = one_difference;
  alike = differs;
  rows = one_flat_rows;
  row_faults = one_flat_fault;
  no_row_faults = no_flat_rows;
  devices = one_device_answer;
  device_faults = one_device_fault;
  no_device_faults = no_device_answer;
}

-- a refusal that is neither a failed read nor want of memory isn't the memory of a layer below
flatten_lasts : (f : FlattenFault) → IsLow (refusal_of.Flatten f) → f ≢ flatten_fault.Memory
flatten_lasts f low e = let five : 5 < 4 = subst (λ (g : FlattenFault). IsLow (refusal_of.Flatten g)) e low in omega (arith, five)

rows_lasts : (f : FlatFault) → IsLow (refusal_of.Rows f) → f ≢ rows_fault.Memory
rows_lasts f low e = let five : 5 < 4 = subst (λ (g : FlatFault). IsLow (refusal_of.Rows g)) e low in omega (arith, five)

-- a technology has kinds of transistors, or it has none
on_devices : (tech : Tech) → IsOnce (HasDevices tech)
on_devices tech (Ok a) (Ok b) s t p q = ap (λ (x : Tech). Ok x) (p.0 ∙ sym q.0)
on_devices tech (Ok a) (Err f) s t p q = absurd (p.1 q.1)
on_devices tech (Err e) (Ok b) s t p q = absurd (q.1 p.1)
on_devices tech (Err e) (Err f) s t p q = ap (λ (r : Refusal). Err r) (p.0 ∙ sym q.0)

on_device_technology : (files : Files) (name : List ℕ) → IsOnce (IsDeviceTechnology files name)
on_device_technology files name =
    on_then (IsTechnologyFile files (name ++ codes ".toml")) HasDevices (on_tech_file files (name ++ codes ".toml")) (λ tech made. on_devices tech)

module _ (l : AreLaws) where
  on_library : (bytes : List ℕ) → length bytes ≤ limit → AreBytes bytes → IsOnce (IsLibrary bytes)
  on_library bytes short are =
      on_fault (Spells bytes) (λ (f : GdsFault). IsFaultOf f bytes) refusal_of.Gds (λ x y p q. l.libraries bytes x y (omega (arith, short)) p q)
      (λ f g s t p q. l.faults bytes f g (gds_lasts f s) (gds_lasts g t) p q) (λ f x s p q. l.no_faults bytes x f (gds_lasts f s) p q)

  on_shapes : (layout : LayoutInput) → AllByRecursion IsWritableCell layout.lib.structs → IsOnce (AreFlatShapesOf layout)
  on_shapes layout writable =
      let layers = layout.tech.layers in
      let structs = layout.lib.structs in
      on_fault (AreFlatShapes layers structs layout.top) (IsFault layers structs layout.top) refusal_of.Flatten (λ x y p q. l.shapes layers structs layout.top x y p q)
      (λ f g s t p q. l.refusals layers structs layout.top f g writable (flatten_lasts f s) (flatten_lasts g t) p q)
      (λ f x s p q. l.no_shapes layers structs layout.top x f writable (flatten_lasts f s) p q)

  on_flat : (layout : LayoutInput) → AllByRecursion IsWritableCell layout.lib.structs → IsOnce (AreFlat layout)
  on_flat layout writable =
      let layers = layout.tech.layers in
      let structs = layout.lib.structs in
      on_fault (AreFlatLists layers structs layout.top) (IsFault layers structs layout.top) refusal_of.Flatten (λ x y p q. l.lists layers structs layout.top x y p q)
      (λ f g s t p q. l.refusals layers structs layout.top f g writable (flatten_lasts f s) (flatten_lasts g t) p q)
      (λ f x s p q. l.no_lists layers structs layout.top x f writable (flatten_lasts f s) p q)

  on_rows : (layout : LayoutInput) (d : Deck) → IsOnce (AreLeafRows layout d)
  on_rows layout d =
      let leaves = leaves_of layout.tech in
      on_fault (λ (rows : Rows). AreFlatRows d.subckts layout.top leaves rows.pins) (IsFlatFault d.subckts layout.top leaves) refusal_of.Rows
      (λ x y p q. ap (λ (pins : List RowPin). record { pins = pins }) (l.rows d.subckts layout.top leaves x.pins y.pins p q))
      (λ f g s t p q. l.row_faults d.subckts layout.top leaves f g (rows_lasts f s) (rows_lasts g t) p q)
      (λ f x s p q. l.no_row_faults d.subckts layout.top leaves f x.pins (rows_lasts f s) p q)

  on_library_file : (files : Files) (name : List ℕ) → HoldBytes files → IsOnce (IsLibraryFile files name)
  on_library_file files name hold = on_then (IsFile files name) IsLibrary (on_file files name) (λ bytes there. on_library bytes there.fits (hold name bytes there.holds))

  on_deck_file : (files : Files) (name : List ℕ) → IsOnce (IsDeckFile files name)
  on_deck_file files name = on_then (IsFile files name) IsDeck (on_file files name) (λ bytes there. on_value (deck bytes) refusal_of.Spice)

  on_layout : (files : Files) (words : LayoutWords) → HoldBytes files → IsOnce (IsLayout files words)
  on_layout files words hold =
      let last : Tech → Library → LayoutInput → Type 0 = λ tech lib layout. layout ≡ record { tech = tech; lib = lib; top = words.top } in
      on_then (IsTechnologyFile files words.tech) (IsLayoutWith files words) (on_tech_file files words.tech)
      (λ tech made. on_then (IsLibraryFile files words.gds) (λ lib. WithoutRefusal (last tech lib)) (on_library_file files words.gds hold) (λ lib spelled. on_gives (last tech lib) (λ x y p q. p ∙ sym q)))

  on_cells : (files : Files) (name : List ℕ) → HoldBytes files → IsOnce (AreLeafCells files name)
  on_cells files name hold =
      let last : Tech → Library → Deck → LeafCells → Type 0 = λ tech lib d cells. cells ≡ record { tech = tech; lib = lib; deck = d } in
      on_then (IsDeviceTechnology files name) (AreCellsWith files name) (on_device_technology files name)
      (λ tech made. on_then (IsLibraryFile files (name ++ codes ".gds")) (AreCellsOver files name tech) (on_library_file files (name ++ codes ".gds") hold)
      (λ lib spelled. on_then (IsDeckFile files (name ++ codes ".sp")) (λ d. WithoutRefusal (last tech lib d)) (on_deck_file files (name ++ codes ".sp")) (λ d read. on_gives (last tech lib d) (λ x y p q. p ∙ sym q))))

  on_inputs : (files : Files) (c : Inspection) → HoldBytes files → IsOnce (AreInputs files c)
  on_inputs files (check words) hold =
      on_then (IsLayout files words) (λ layout. WithoutRefusal (λ (read : Inputs). read ≡ inputs.Check layout)) (on_layout files words hold) (λ layout made. on_gives (λ (read : Inputs). read ≡ inputs.Check layout) (λ x y p q. p ∙ sym q))
  on_inputs files (nets words) hold =
      on_then (IsLayout files words) (λ layout. WithoutRefusal (λ (read : Inputs). read ≡ inputs.Nets layout)) (on_layout files words hold) (λ layout made. on_gives (λ (read : Inputs). read ≡ inputs.Nets layout) (λ x y p q. p ∙ sym q))
  on_inputs files (compare words netlist) hold =
      on_then (IsLayout files words) (AreCompared files netlist) (on_layout files words hold)
      (λ layout made. on_then (IsDeckFile files netlist) (λ d. WithoutRefusal (λ (read : Inputs). read ≡ inputs.Compare layout d)) (on_deck_file files netlist) (λ d read. on_gives (λ (read : Inputs). read ≡ inputs.Compare layout d) (λ x y p q. p ∙ sym q)))
  on_inputs files (devices name) hold =
      on_then (AreLeafCells files name) (λ cells. WithoutRefusal (λ (read : Inputs). read ≡ inputs.Devices cells)) (on_cells files name hold) (λ cells made. on_gives (λ (read : Inputs). read ≡ inputs.Devices cells) (λ x y p q. p ∙ sym q))
  on_inputs files (kit name) hold =
      on_then (IsKitUnder files name) (λ made. WithoutRefusal (λ (read : Inputs). read ≡ inputs.Kit made)) (on_kit_under files hold name) (λ made read_so. on_gives (λ (read : Inputs). read ≡ inputs.Kit made) (λ x y p q. p ∙ sym q))

  cells_writable : (files : Files) (name : List ℕ) (cells : LeafCells) → HoldBytes files → AreLeafCells files name (Ok cells) → AllByRecursion IsWritableCell cells.lib.structs
  cells_writable files name cells hold made =
      let lib = made.2.0 in
      let file = made.2.1 in
      let writable : IsWritable lib = l.writable file.0 lib (hold (name ++ codes ".gds") file.0 file.1.holds) file.2 in
      subst (λ (x : LeafCells). AllByRecursion IsWritableCell x.lib.structs) (sym made.2.2.2) writable.cells

  layout_writable : (files : Files) (words : LayoutWords) (layout : LayoutInput) → HoldBytes files → IsLayout files words (Ok layout) → AllByRecursion IsWritableCell layout.lib.structs
  layout_writable files words layout hold made =
      let lib = made.2.0 in
      let file = made.2.1 in
      let writable : IsWritable lib = l.writable file.0 lib (hold words.gds file.0 file.1.holds) file.2 in
      subst (λ (x : LayoutInput). AllByRecursion IsWritableCell x.lib.structs) (sym made.2.2) writable.cells

  on_check : (layout : LayoutInput) → AllByRecursion IsWritableCell layout.lib.structs → IsOnce (IsCheckAnswer layout)
  on_check layout w = on_then (AreFlatShapesOf layout) (λ shapes. WithoutRefusal (IsReported layout.tech shapes)) (on_shapes layout w) (λ shapes flat. on_gives (IsReported layout.tech shapes) (reported l.reports layout.tech shapes))

  on_nets : (layout : LayoutInput) → AllByRecursion IsWritableCell layout.lib.structs → IsOnce (IsNetsAnswer layout)
  on_nets layout w = on_then (AreFlat layout) (λ lists. WithoutRefusal (IsNetListing layout.tech lists)) (on_flat layout w) (λ lists flat. on_gives (IsNetListing layout.tech lists) (listed l.nets layout.tech lists))

  on_compare : (layout : LayoutInput) (d : Deck) → AllByRecursion IsWritableCell layout.lib.structs → IsOnce (IsCompareAnswer layout d)
  on_compare layout d w =
      let last : FlatLists → Rows → Reply → Type 0 = λ lists rows. IsCompared layout.tech lists rows in
      on_then (AreFlat layout) (λ lists. Then (AreLeafRows layout d) (λ rows. WithoutRefusal (last lists rows))) (on_flat layout w)
      (λ lists flat. on_then (AreLeafRows layout d) (λ rows. WithoutRefusal (last lists rows)) (on_rows layout d) (λ rows are. on_gives (last lists rows) (compared l.nets l.differences l.alike layout.tech lists rows)))

  on_reply : (files : Files) (c : Inspection) (read : Inputs) → HoldBytes files → AreInputs files c (Ok read) → IsOnce (IsReplyTo read)
  on_reply files (check words) read hold made = subst (λ (x : Inputs). IsOnce (IsReplyTo x)) (sym made.2) (on_check made.0 (layout_writable files words made.0 hold made.1))
  on_reply files (nets words) read hold made = subst (λ (x : Inputs). IsOnce (IsReplyTo x)) (sym made.2) (on_nets made.0 (layout_writable files words made.0 hold made.1))
  on_reply files (compare words netlist) read hold made =
      subst (λ (x : Inputs). IsOnce (IsReplyTo x)) (sym made.2.2) (on_compare made.0 made.2.0 (layout_writable files words made.0 hold made.1))
  on_reply files (devices name) read hold made =
      let cells = made.0 in
      subst (λ (x : Inputs). IsOnce (IsReplyTo x)) (sym made.2)
      (on_devices_answered l.devices l.device_faults l.no_device_faults (leaf_files cells.tech cells.lib cells.deck) (cells_writable files name cells hold made.1))
  on_reply files (kit name) read hold made = subst (λ (x : Inputs). IsOnce (IsReplyTo x)) (sym made.2) (on_kit_answered made.0)

  on_command : (files : Files) (c : Inspection) → HoldBytes files → IsOnce (IsCommandWork files c)
  on_command files c hold = on_then (AreInputs files c) IsReplyTo (on_inputs files c hold) (λ read made. on_reply files c read hold made)

  on_work : (files : Files) → HoldBytes files → (o : Option Inspection) → IsOnce (λ (result : Result Reply Refusal). MatchOption o (IsUsage result) (λ c. IsCommandWork files c result))
  on_work files hold None (Ok a) b s t p q = absurd p
  on_work files hold None (Err e) (Ok b) s t p q = absurd q
  on_work files hold None (Err e) (Err f) s t p q = ap (λ (r : Refusal). Err r) (p ∙ sym q)
  on_work files hold (Some c) a b s t p q = on_command files c hold a b s t p q

settled : (result : Result Reply Refusal) (reply : Reply) → reply ≡ reply_of result → reply.status < 4 → IsDecided result
settled (Ok x) reply is low = tt
settled (Err e) reply is low = subst (λ (r : Reply). r.status < 4) is low

pub one_answer : (words : List (List ℕ)) (files : Files) → HaveOneAnswer words files
one_answer words files none hold a b p q =
    p.is ∙ (ap reply_of (on_work all_laws files hold (inspection_of words) p.result q.result (settled p.result a p.is p.settled) (settled q.result b q.is q.settled) p.work q.work) ∙ sym q.is)
