-- A kit and a plan are built in one way, or refused in one way.
use Rattle.std.proofs.Common.{◌≡◌, ◌≢◌, ℕ, List, [], ◌∷◌, refl, sym, ap, subst, ◌∙◌}
use Rattle.std.specs.List.{AllByRecursion}
use Rattle.gds_library.specs.Writable.{IsWritableCell}
use Rattle.gds_stream.specs.Canonical.{canonical}
use Rattle.netlist.specs.declared.rows.RowPin.{RowPin}
use Rattle.spice_text.specs.Appended.{appended}
use Rattle.spice_netlist.specs.Faults.{AreFlatRows}
use Rattle.spice_netlist.proofs.OneRowLaws.{one_flat_rows}
use Rattle.cell_hierarchy.proofs.TotalLaws.{one_total}
use Rattle.cell_hierarchy.proofs.OneListsLaws.{one_pair}
use Rattle.cell_hierarchy.proofs.OneFaultLaws.{one_fault, fault_or_lists}
use Rattle.tile_checker.proofs.OneReportLaws.{one_report}
use Rattle.net_extractor.proofs.OneNetLaws.{one_nets}
use Rattle.net_extractor.proofs.OneDifferenceLaws.{one_difference}
use Rattle.net_extractor.proofs.DifferenceLaws.{differs}
use Rattle.cell_hierarchy.specs.FlatLists.{AreFlatLists, IsFault}
use Rattle.cell_hierarchy.specs.Plain.{FlatLists}
use Rattle.cell_hierarchy.specs.declared.fault.FlattenFault.{FlattenFault}
use Rattle.tile_checker.specs.declared.violation.Violation.{Violation}
use Rattle.tile_checker.specs.RuleReport.{IsReport}
use Rattle.net_extractor.specs.PlainNetLabel.{PlainNetLabel}
use Rattle.net_extractor.specs.declared.difference.NetDiff.{NetDiff}
use Rattle.net_extractor.specs.Extraction.{AreNets}
use Rattle.net_extractor.specs.Difference.{AreAlike}
use Rattle.net_extractor.specs.FirstDifference.{IsFirstDifference}
use Rattle.leaf_tables.specs.declared.kit.Kit.{Kit}
use Rattle.leaf_tables.specs.declared.part.PartFault.{PartFault}
use Rattle.leaf_tables.specs.Kits.{IsKit}
use Rattle.sram_plan.specs.declared.numbers.Plan.{Plan}
use Rattle.port_lists.specs.Held.{Held}
use Rattle.macro_views.specs.Lef.{lef_text}
use Rattle.sram_macro.specs.declared.assembly.Macro.{Macro}
use Rattle.sram_macro.specs.Leaves.{leaf_names}
use Rattle.sram_macro.specs.Macro.{IsMacro}
use Rattle.macro_build.specs.Built.{all_subckts, IsChecked, AreNetsAndRows, IsSoundMacro, IsBuilt, IsUnflat, BreaksFirst, DiffersFirst, IsBuildFault}
use Rattle.macro_build.specs.declared.built.Built.{Built}
use Rattle.macro_build.specs.declared.built.BuildFault.{BuildFault}
use Rattle.macro_build.specs.declared.built.BuildFault.TheVariants as build_fault
use Rattle.macro_laws.specs.OneBuild.{AreSameViews, BuildsAreUnique, BuildFaultsAreUnique, BuildFaultsExcludeBuilds}
use Rattle.macro_laws.proofs.OneMacroLaws.{one_macro}
use Rattle.macro_laws.proofs.OnePartLaws.{one_part_fault, no_part_fault}

-- a macro has one flat layout and one report
record IsOneCheck (m n : Macro) (v w : FlatLists) (r s : List Violation) : Type 0 where
  macro : m ≡ n
  lists : v ≡ w
  report : r ≡ s

no_head : {X : Type 0} (x : X) (xs : List X) → ◌≡◌ {A = List X} [] (x ∷ xs) → ⊥
no_head x xs e = cc

same_head : {X : Type 0} (x y : X) (xs ys : List X) → x ∷ xs ≡ y ∷ ys → x ≡ y
same_head {X} x y xs ys e = ap first e
  where
    first : List X → X
    first [] = x
    first (z ∷ zs) = z

module _ (kit : Kit) (plan : Plan) (held : Held) (name : List ℕ) (is : IsKit kit) where
  writable_cells : (m : Macro) → IsMacro kit plan held name m → AllByRecursion IsWritableCell m.lib.structs
  writable_cells m p = p.writable.cells

  one_check : (m n : Macro) (v w : FlatLists) (r s : List Violation) → IsChecked kit plan held name m v r → IsChecked kit plan held name n w s → IsOneCheck m n v w r s
  one_check m n v w r s p q =
      let macro = one_macro kit plan held name m n is p.is q.is in
      let lists = one_pair kit.tech.layers m.lib.structs name v w p.flat (subst (λ (x : Macro). AreFlatLists kit.tech.layers x.lib.structs name w) (sym macro) q.flat) in
      record { macro = macro; lists = lists; report = one_report kit.tech.rules v.shapes r s p.reported (subst (λ (x : FlatLists). IsReport kit.tech.rules x.shapes s) (sym lists) q.reported) }

  -- and so are its nets and rows
  record AreOneComparison (m n : Macro) (v w : FlatLists) (labels other : List PlainNetLabel) (rows more : List RowPin) : Type 0 where
    labels_are : labels ≡ other
    rows_are : rows ≡ more

  one_comparison : (m n : Macro) (v w : FlatLists) (labels other : List PlainNetLabel) (rows more : List RowPin) → m ≡ n → v ≡ w → AreNetsAndRows kit held name m v labels rows → AreNetsAndRows kit held name n w other more
      → AreOneComparison m n v w labels other rows more
  one_comparison m n v w labels other rows more macro lists p q = record {
    labels_are = one_nets kit.tech v.shapes v.labels labels other p.nets (subst (λ (x : FlatLists). AreNets kit.tech x.shapes x.labels other) (sym lists) q.nets);
    rows_are = one_flat_rows (all_subckts kit m) name (leaf_names kit held) rows more p.netlist (subst (λ (x : Macro). AreFlatRows (all_subckts kit x) name (leaf_names kit held) more) (sym macro) q.netlist);
  }

  -- views

  same_views : (a b : Built) → IsBuilt kit plan held name a → IsBuilt kit plan held name b → AreSameViews a b
  same_views a b p q =
      let macro = one_macro kit plan held name p.macro q.macro is p.sound.clean.is q.sound.clean.is in
      record {
        spice = p.spice ∙ (λ i. appended kit.deck kit.text (macro i).deck.subckts) ∙ sym q.spice;
        gds = p.gds ∙ (λ i. canonical (macro i).lib) ∙ sym q.gds;
        lef = p.lef ∙ (λ i. lef_text (macro i).view) ∙ sym q.lef;
        verilog = p.verilog ∙ sym q.verilog;
        tracks = p.tracks ∙ (λ i. (macro i).tracks) ∙ sym q.tracks;
        leaves = p.leaves ∙ sym q.leaves;
        width = p.width ∙ (λ i. (macro i).view.width) ∙ sym q.width;
        height = p.height ∙ (λ i. (macro i).view.height) ∙ sym q.height;
      }

  -- faults

  no_flat : (f : FlattenFault) (m : Macro) (v : FlatLists) (r : List Violation) → IsUnflat kit plan held name f → IsChecked kit plan held name m v r → ⊥
  no_flat f m v r p q =
      let macro = one_macro kit plan held name m p.macro is q.is p.is in
      fault_or_lists one_total kit.tech.layers p.macro.lib.structs name v f (writable_cells p.macro p.is) p.some p.unflat (subst (λ (x : Macro). AreFlatLists kit.tech.layers x.lib.structs name v) macro q.flat)

  one_unflat : (f g : FlattenFault) → IsUnflat kit plan held name f → IsUnflat kit plan held name g → f ≡ g
  one_unflat f g p q =
      let macro = one_macro kit plan held name p.macro q.macro is p.is q.is in
      one_fault one_total kit.tech.layers p.macro.lib.structs name f g (writable_cells p.macro p.is) p.some q.some p.unflat (subst (λ (x : Macro). IsFault kit.tech.layers x.lib.structs name g) (sym macro) q.unflat)

  one_broken : (v w : Violation) → BreaksFirst kit plan held name v → BreaksFirst kit plan held name w → v ≡ w
  one_broken v w p q = same_head v w p.more q.more (one_check p.macro q.macro p.lists q.lists (v ∷ p.more) (w ∷ q.more) p.checked q.checked).report

  unbroken : (v : Violation) (m : Macro) (lists : FlatLists) → BreaksFirst kit plan held name v → IsChecked kit plan held name m lists [] → ⊥
  unbroken v m lists p q = no_head v p.more (one_check m p.macro lists p.lists [] (v ∷ p.more) q p.checked).report

  one_differing : (d e : NetDiff) → DiffersFirst kit plan held name d → DiffersFirst kit plan held name e → d ≡ e
  one_differing d e p q =
      let check = one_check p.macro q.macro p.lists q.lists [] [] p.clean q.clean in
      let both = one_comparison p.macro q.macro p.lists q.lists p.labels q.labels p.rows q.rows check.macro check.lists p.are q.are in
      one_difference p.labels p.rows d e p.differ
      (subst (λ (l : List PlainNetLabel). IsFirstDifference l p.rows e) (sym both.labels_are) (subst (λ (r : List RowPin). IsFirstDifference q.labels r e) (sym both.rows_are) q.differ))

  not_alike : (d : NetDiff) (m : Macro) → DiffersFirst kit plan held name d → IsSoundMacro kit plan held name m → ⊥
  not_alike d m p q =
      let check = one_check p.macro m p.lists q.lists [] [] p.clean q.clean in
      let both = one_comparison p.macro m p.lists q.lists p.labels q.labels p.rows q.rows check.macro check.lists p.are q.are in
      differs p.labels p.rows d p.differ
      (subst (λ (l : List PlainNetLabel). AreAlike l p.rows) (sym both.labels_are) (subst (λ (r : List RowPin). AreAlike q.labels r) (sym both.rows_are) q.alike))

  build_fault_is_one : (f g : BuildFault) → f ≢ build_fault.Memory → g ≢ build_fault.Memory → IsBuildFault kit plan held name f → IsBuildFault kit plan held name g → f ≡ g
  build_fault_is_one build_fault.Memory g s t p q = absurd (s refl)
  build_fault_is_one f build_fault.Memory s t p q = absurd (t refl)
  build_fault_is_one (build_fault.Part x) (build_fault.Part y) s t p q = ap (λ (z : PartFault). build_fault.Part z) (one_part_fault kit plan held name x y is p.0 q.0 p.1 q.1)
  build_fault_is_one (build_fault.Part x) (build_fault.Flatten y) s t p q = absurd (no_part_fault kit plan held name x q.macro is p.0 p.1 q.is)
  build_fault_is_one (build_fault.Part x) (build_fault.RuleBroken y) s t p q = absurd (no_part_fault kit plan held name x q.macro is p.0 p.1 q.checked.is)
  build_fault_is_one (build_fault.Part x) (build_fault.NetsDiffer y) s t p q = absurd (no_part_fault kit plan held name x q.macro is p.0 p.1 q.clean.is)
  build_fault_is_one (build_fault.Flatten x) (build_fault.Part y) s t p q = absurd (no_part_fault kit plan held name y p.macro is q.0 q.1 p.is)
  build_fault_is_one (build_fault.Flatten x) (build_fault.Flatten y) s t p q = ap (λ (z : FlattenFault). build_fault.Flatten z) (one_unflat x y p q)
  build_fault_is_one (build_fault.Flatten x) (build_fault.RuleBroken y) s t p q = absurd (no_flat x q.macro q.lists (y ∷ q.more) p q.checked)
  build_fault_is_one (build_fault.Flatten x) (build_fault.NetsDiffer y) s t p q = absurd (no_flat x q.macro q.lists [] p q.clean)
  build_fault_is_one (build_fault.RuleBroken x) (build_fault.Part y) s t p q = absurd (no_part_fault kit plan held name y p.macro is q.0 q.1 p.checked.is)
  build_fault_is_one (build_fault.RuleBroken x) (build_fault.Flatten y) s t p q = absurd (no_flat y p.macro p.lists (x ∷ p.more) q p.checked)
  build_fault_is_one (build_fault.RuleBroken x) (build_fault.RuleBroken y) s t p q = ap (λ (z : Violation). build_fault.RuleBroken z) (one_broken x y p q)
  build_fault_is_one (build_fault.RuleBroken x) (build_fault.NetsDiffer y) s t p q = absurd (unbroken x q.macro q.lists p q.clean)
  build_fault_is_one (build_fault.NetsDiffer x) (build_fault.Part y) s t p q = absurd (no_part_fault kit plan held name y p.macro is q.0 q.1 p.clean.is)
  build_fault_is_one (build_fault.NetsDiffer x) (build_fault.Flatten y) s t p q = absurd (no_flat y p.macro p.lists [] q p.clean)
  build_fault_is_one (build_fault.NetsDiffer x) (build_fault.RuleBroken y) s t p q = absurd (unbroken y p.macro p.lists q p.clean)
  build_fault_is_one (build_fault.NetsDiffer x) (build_fault.NetsDiffer y) s t p q = ap (λ (z : NetDiff). build_fault.NetsDiffer z) (one_differing x y p q)

  no_build : (f : BuildFault) (built : Built) → f ≢ build_fault.Memory → IsBuildFault kit plan held name f → IsBuilt kit plan held name built → ⊥
  no_build build_fault.Memory built s p q = s refl
  no_build (build_fault.Part x) built s p q = no_part_fault kit plan held name x q.macro is p.0 p.1 q.sound.clean.is
  no_build (build_fault.Flatten x) built s p q = no_flat x q.macro q.sound.lists [] p q.sound.clean
  no_build (build_fault.RuleBroken x) built s p q = unbroken x q.macro q.sound.lists p q.sound.clean
  no_build (build_fault.NetsDiffer x) built s p q = not_alike x q.macro p q.sound

pub one_build : BuildsAreUnique
one_build kit plan held name a b is p q = same_views kit plan held name is a b p q

pub one_build_fault : BuildFaultsAreUnique
one_build_fault kit plan held name f g is s t p q = build_fault_is_one kit plan held name is f g s t p q

pub no_build_beside : BuildFaultsExcludeBuilds
no_build_beside kit plan held name f built is s p q = no_build kit plan held name is f built s p q
