-- Files are one kit, or have one fault.
use Rattle.std.proofs.Common.{◌≡◌, ◌≢◌, inl, inr, ℕ, ◌≤◌, ◌^◌, List, length, Option, Some, None, Result, Ok, Err, refl, sym, ap, subst, ◌∙◌}
use Rattle.std.specs.List.{AllByRecursion}
use Rattle.std.proofs.lemmas.Option.{same_Some}
use Rattle.gds_records.specs.Bytes.{AreBytes}
use Rattle.gds_library.specs.declared.fault.GdsFault.{GdsFault}
use Rattle.gds_library.specs.declared.fault.GdsFault.TheVariants as gds_fault
use Rattle.gds_library.specs.declared.library.Library.{Library}
use Rattle.gds_library.specs.declared.library.Structure.{Structure}
use Rattle.gds_library.specs.FirstFault.{IsFaultOf}
use Rattle.gds_library.specs.Writable.{IsWritableCell}
use Rattle.gds_library.proofs.LibraryLaws.{libraries_are_unique}
use Rattle.gds_library.proofs.WritableLaws.{libraries_are_writable}
use Rattle.gds_library.proofs.OneFaultLaws.{faults_are_unique, faults_exclude_libraries}
use Rattle.netlist.specs.declared.deck.Deck.{Deck}
use Rattle.spice_text.specs.declared.fault.SpiceFault.{SpiceFault}
use Rattle.spice_text.specs.declared.fault.SpiceFault.TheVariants as spice_fault
use Rattle.spice_text.specs.Deck.{deck}
use Rattle.spice_text.specs.Faults.{IsSpiceFault}
use Rattle.tech_rules.specs.declared.tech.Tech.{Tech}
use Rattle.tech_rules.specs.declared.tech.Wire.{Wire}
use Rattle.role_tables.specs.declared.fault.TableFault.{TableFault}
use Rattle.role_tables.specs.declared.fault.TableFault.TheVariants as table_fault
use Rattle.role_tables.specs.Fault.{IsTableFault}
use Rattle.role_tables.specs.Table.{HasTables}
use Rattle.role_tables.proofs.FaultLaws.{faults_one, faults_exclude}
use Rattle.leaf_tables.specs.declared.kit.Kit.{Kit}
use Rattle.leaf_tables.specs.declared.kit.Leaf.{Leaf}
use Rattle.leaf_tables.specs.declared.fault.KitFault.{KitFault}
use Rattle.leaf_tables.specs.declared.fault.KitFault.TheVariants as kit_fault
use Rattle.leaf_tables.specs.Alignment.{IsMisaligned}
use Rattle.leaf_tables.specs.Faults.{AreRead, HasWire, IsFaultBetweenLeaves, IsFaultOfLeaves, IsKitFault, IsSource, IsSpelled}
use Rattle.leaf_tables.specs.Kits.{IsKitOf, source_of}
use Rattle.leaf_tables.specs.Leaves.{AreLeaves, IsFirstLeafFault, LeafSource}
use Rattle.kit_laws.specs.OneKit.{KitFaultsAreUnique, KitFaultsExcludeKits, KitsAreUnique}
use Rattle.kit_laws.proofs.OneAlignmentLaws.{one_alignment_fault, no_alignment_fault}
use Rattle.kit_laws.proofs.OneLeafLaws.{AreWritable, one_list_of_leaves, one_first_fault, no_first_fault}
use Rattle.kit_laws.proofs.StageLaws.{AtMostOne, NeverBeside, Staged, ToldOf, one_staged, none_staged}

same_Ok : {X E : Type 0} (x y : X) → ◌≡◌ {A = Result X E} (Ok x) (Ok y) → x ≡ y
same_Ok x y e = cc

same_Err : {X E : Type 0} (x y : E) → ◌≡◌ {A = Result X E} (Err x) (Err y) → x ≡ y
same_Err x y e = cc

-- a text has one fault
given : {Y : Type 0} (f : SpiceFault) (answer : Result Y SpiceFault) → f ≢ spice_fault.Memory → IsSpiceFault f answer → answer ≡ Err f
given spice_fault.Memory answer some is = absurd (some refl)
given (spice_fault.NotAscii at) answer some is = is
given (spice_fault.OutsideSubckt line) answer some is = is
given (spice_fault.Unclosed line) answer some is = is
given (spice_fault.Duplicate line) answer some is = is
given (spice_fault.Refused line) answer some is = is
given (spice_fault.BadLine line) answer some is = is

-- the stages of reading
record IsBadLayout (gds : List ℕ) (fault : GdsFault) : Type 0 where
  pub some : fault ≢ gds_fault.Memory
  pub is : IsFaultOf fault gds

record IsBadText (sp : List ℕ) (fault : SpiceFault) : Type 0 where
  pub some : fault ≢ spice_fault.Memory
  pub is : IsSpiceFault fault (deck sp)

record IsBadTable (tech : Tech) (fault : TableFault) : Type 0 where
  pub some : fault ≢ table_fault.Memory
  pub is : IsTableFault tech fault

record IsLeafless (tech : Tech) (gds sp : List ℕ) (fault : KitFault) : Type 0 where
  pub some : fault ≢ kit_fault.Memory
  pub is : IsFaultOfLeaves tech gds sp fault

record IsUnaligned (tech : Tech) (gds sp : List ℕ) (fault : KitFault) : Type 0 where
  pub some : fault ≢ kit_fault.Memory
  pub is : IsFaultBetweenLeaves tech gds sp fault

record HaveLeaves (tech : Tech) (gds sp : List ℕ) : Type 0 where
  pub source : LeafSource
  pub of : IsSource tech gds sp source
  pub leaves : List Leaf
  pub are : AreLeaves source leaves

abbrev BadLayout : List ℕ → KitFault → Type 0
BadLayout gds = ToldOf (IsBadLayout gds) (λ x. kit_fault.Gds x)

abbrev BadText : List ℕ → KitFault → Type 0
BadText sp = ToldOf (IsBadText sp) (λ x. kit_fault.Spice x)

abbrev Wireless : Tech → KitFault → Type 0
Wireless tech f = (tech.wire ≡ None) × (f ≡ kit_fault.NoWire)

abbrev BadTable : Tech → KitFault → Type 0
BadTable tech = ToldOf (IsBadTable tech) (λ x. kit_fault.Table x)

abbrev AfterTables : Tech → List ℕ → List ℕ → KitFault → Type 0
AfterTables tech gds sp = Staged (IsLeafless tech gds sp) (HaveLeaves tech gds sp) (IsUnaligned tech gds sp)

abbrev AfterWire : Tech → List ℕ → List ℕ → KitFault → Type 0
AfterWire tech gds sp = Staged (BadTable tech) (HasTables tech) (AfterTables tech gds sp)

abbrev AfterText : Tech → List ℕ → List ℕ → KitFault → Type 0
AfterText tech gds sp = Staged (Wireless tech) (HasWire tech) (AfterWire tech gds sp)

abbrev AfterLibrary : Tech → List ℕ → List ℕ → KitFault → Type 0
AfterLibrary tech gds sp = Staged (BadText sp) (AreRead gds sp) (AfterText tech gds sp)

abbrev KitStages : Tech → List ℕ → List ℕ → KitFault → Type 0
KitStages tech gds sp = Staged (BadLayout gds) (IsSpelled gds) (AfterLibrary tech gds sp)

-- files are one source of leaves
one_source : (tech : Tech) (gds sp : List ℕ) (a b : LeafSource) → length gds ≤ 2 ^ 64 → IsSource tech gds sp a → IsSource tech gds sp b → a ≡ b
one_source tech gds sp a b short p q =
    let lib = libraries_are_unique gds p.lib q.lib short p.spelled q.spelled in
    let wire : a.wire ≡ b.wire = same_Some a.wire b.wire (sym p.wire ∙ q.wire) in
    let read : p.read ≡ q.read = same_Ok p.read q.read (sym p.text ∙ q.text) in
    λ i. record {
      tech = (p.of ∙ sym q.of) i;
      wire = wire i;
      structs = (p.structs ∙ ap (λ (l : Library). l.structs) lib ∙ sym q.structs) i;
      subckts = (p.subckts ∙ ap (λ (d : Deck). d.subckts) read ∙ sym q.subckts) i;
    }

writable_source : (tech : Tech) (gds sp : List ℕ) (a : LeafSource) → AreBytes gds → IsSource tech gds sp a → AreWritable a
writable_source tech gds sp a bytes p = subst (λ (s : List Structure). AllByRecursion IsWritableCell s) (sym p.structs) (libraries_are_writable gds p.lib bytes p.spelled).cells

-- a kit's source
abbrev source_is : (tech : Tech) (gds sp : List ℕ) (kit : Kit) (k : IsKitOf tech gds sp kit) → IsSource tech gds sp (source_of kit k.is.wire)
source_is tech gds sp kit k = record {
  of = k.of;
  wire = subst (λ (t : Tech). t.wire ≡ Some k.is.wire) k.of k.is.wired;
  lib = kit.lib;
  spelled = k.spelled;
  structs = refl;
  read = kit.deck;
  text = subst (λ (t : List ℕ). deck t ≡ Ok kit.deck) k.text k.is.text;
  subckts = refl;
  tables = subst HasTables k.of k.is.tables;
}

-- a technology and files are one kit
pub one_kit : KitsAreUnique
one_kit tech gds sp a b short p q =
    let from = source_is tech gds sp a p in
    let also = source_is tech gds sp b q in
    let source = one_source tech gds sp (source_of a p.is.wire) (source_of b q.is.wire) short from also in
    let leaves = one_list_of_leaves (source_of b q.is.wire) a.leaves b.leaves (subst (λ (s : LeafSource). AreLeaves s a.leaves) source p.is.leaves) q.is.leaves in
    λ i. record {
      tech = (p.of ∙ sym q.of) i;
      lib = libraries_are_unique gds a.lib b.lib short p.spelled q.spelled i;
      deck = same_Ok a.deck b.deck (sym from.text ∙ also.text) i;
      text = (p.text ∙ sym q.text) i;
      leaves = leaves i;
    }

-- each fault is that of a stage
module _ (tech : Tech) (gds sp : List ℕ) where
  past_library : (f : KitFault) → IsSpelled gds → AfterLibrary tech gds sp f → KitStages tech gds sp f
  past_library f spelled after = inr (spelled, after)

  past_text : (f : KitFault) → AreRead gds sp → AfterText tech gds sp f → KitStages tech gds sp f
  past_text f read after = past_library f read.0 (inr (read, after))

  past_tables : (f : KitFault) (source : LeafSource) → IsSource tech gds sp source → AfterTables tech gds sp f → KitStages tech gds sp f
  past_tables f source of after = past_text f ((of.lib, of.spelled), (of.read, of.text)) (inr ((source.wire, of.wire), inr (of.tables, after)))

  of_leaves : (f : KitFault) → f ≢ kit_fault.Memory → IsFaultOfLeaves tech gds sp f → KitStages tech gds sp f
  of_leaves f some is = past_tables f is.source is.of (inl (record { some = some; is = is }))

  between_leaves : (f : KitFault) → f ≢ kit_fault.Memory → IsFaultBetweenLeaves tech gds sp f → KitStages tech gds sp f
  between_leaves f some is = past_tables f is.source is.of (inr (record { source = is.source; of = is.of; leaves = is.leaves; are = is.are }, record { some = some; is = is }))

  kit_stages : (f : KitFault) → f ≢ kit_fault.Memory → IsKitFault tech gds sp f → KitStages tech gds sp f
  kit_stages (kit_fault.Gds x) some is = inl (x, record { some = is.0; is = is.1 }, refl)
  kit_stages (kit_fault.Spice x) some is = past_library (kit_fault.Spice x) is.1 (inl (x, record { some = is.0; is = is.2 }, refl))
  kit_stages kit_fault.NoWire some is = past_text kit_fault.NoWire is.0 (inl (is.1, refl))
  kit_stages (kit_fault.Table x) some is = past_text (kit_fault.Table x) is.1 (inr (is.2, inl (x, record { some = is.0; is = is.3 }, refl)))
  kit_stages (kit_fault.Flatten x) some is = of_leaves (kit_fault.Flatten x) some is
  kit_stages (kit_fault.Outline role) some is = of_leaves (kit_fault.Outline role) some is
  kit_stages (kit_fault.UnknownSubckt name) some is = of_leaves (kit_fault.UnknownSubckt name) some is
  kit_stages (kit_fault.PortsDiffer role) some is = of_leaves (kit_fault.PortsDiffer role) some is
  kit_stages (kit_fault.PinMissing role pin) some is = of_leaves (kit_fault.PinMissing role pin) some is
  kit_stages (kit_fault.PinLayer role pin) some is = of_leaves (kit_fault.PinLayer role pin) some is
  kit_stages (kit_fault.EdgePin role pin) some (inl is) = of_leaves (kit_fault.EdgePin role pin) some is
  kit_stages (kit_fault.EdgePin role pin) some (inr is) = between_leaves (kit_fault.EdgePin role pin) some is
  kit_stages (kit_fault.HeightDiffers role) some is = between_leaves (kit_fault.HeightDiffers role) some is
  kit_stages (kit_fault.WidthDiffers role) some is = between_leaves (kit_fault.WidthDiffers role) some is
  kit_stages kit_fault.Memory some is = absurd (some refl)

  same_layout : AtMostOne (BadLayout gds)
  same_layout f g a b = a.2 ∙ ap (λ (x : GdsFault). kit_fault.Gds x) (faults_are_unique gds a.0 b.0 a.1.some b.1.some a.1.is b.1.is) ∙ sym b.2

  layout_or_library : NeverBeside (BadLayout gds) (IsSpelled gds)
  layout_or_library f a s = faults_exclude_libraries gds s.0 a.0 a.1.some a.1.is s.1

  same_text : AtMostOne (BadText sp)
  same_text f g a b =
      let fault : a.0 ≡ b.0 = same_Err {X = Deck} a.0 b.0 (sym (given a.0 (deck sp) a.1.some a.1.is) ∙ given b.0 (deck sp) b.1.some b.1.is) in
      a.2 ∙ ap (λ (x : SpiceFault). kit_fault.Spice x) fault ∙ sym b.2

  text_or_deck : NeverBeside (BadText sp) (AreRead gds sp)
  text_or_deck f a r = let both : ◌≡◌ {A = Result Deck SpiceFault} (Err a.0) (Ok r.1.0) = sym (given a.0 (deck sp) a.1.some a.1.is) ∙ r.1.1 in cc

  same_wireless : AtMostOne (Wireless tech)
  same_wireless f g a b = a.1 ∙ sym b.1

  wireless_or_wired : NeverBeside (Wireless tech) (HasWire tech)
  wireless_or_wired f a w = let both : ◌≡◌ {A = Option Wire} None (Some w.0) = sym a.0 ∙ w.1 in cc

  same_table : AtMostOne (BadTable tech)
  same_table f g a b = a.2 ∙ ap (λ (x : TableFault). kit_fault.Table x) (faults_one tech a.0 b.0 a.1.some b.1.some a.1.is b.1.is) ∙ sym b.2

  table_or_tables : NeverBeside (BadTable tech) (HasTables tech)
  table_or_tables f a t = faults_exclude tech a.0 a.1.some a.1.is t

  same_leafless : AreBytes gds → length gds ≤ 2 ^ 64 → AtMostOne (IsLeafless tech gds sp)
  same_leafless bytes short f g a b =
      let source = one_source tech gds sp a.is.source b.is.source short a.is.of b.is.of in
      let first = subst (λ (s : LeafSource). IsFirstLeafFault s f) source a.is.is in
      one_first_fault b.is.source (writable_source tech gds sp b.is.source bytes b.is.of) f g a.some b.some first b.is.is

  leafless_or_leaves : AreBytes gds → length gds ≤ 2 ^ 64 → NeverBeside (IsLeafless tech gds sp) (HaveLeaves tech gds sp)
  leafless_or_leaves bytes short f a h =
      let source = one_source tech gds sp a.is.source h.source short a.is.of h.of in
      let first = subst (λ (s : LeafSource). IsFirstLeafFault s f) source a.is.is in
      no_first_fault h.source (writable_source tech gds sp h.source bytes h.of) f h.leaves a.some first h.are

  same_unaligned : length gds ≤ 2 ^ 64 → AtMostOne (IsUnaligned tech gds sp)
  same_unaligned short f g a b =
      let source = one_source tech gds sp a.is.source b.is.source short a.is.of b.is.of in
      let leaves = one_list_of_leaves b.is.source a.is.leaves b.is.leaves (subst (λ (s : LeafSource). AreLeaves s a.is.leaves) source a.is.are) b.is.are in
      one_alignment_fault b.is.leaves f g a.some b.some (subst (λ (l : List Leaf). IsMisaligned l f) leaves a.is.is) b.is.is

pub one_kit_fault : KitFaultsAreUnique
one_kit_fault tech gds sp f g bytes short some also p q =
    one_staged (BadLayout gds) (IsSpelled gds) (AfterLibrary tech gds sp) (same_layout tech gds sp) (layout_or_library tech gds sp)
    (one_staged (BadText sp) (AreRead gds sp) (AfterText tech gds sp) (same_text tech gds sp) (text_or_deck tech gds sp)
    (one_staged (Wireless tech) (HasWire tech) (AfterWire tech gds sp) (same_wireless tech gds sp) (wireless_or_wired tech gds sp)
    (one_staged (BadTable tech) (HasTables tech) (AfterTables tech gds sp) (same_table tech gds sp) (table_or_tables tech gds sp)
    (one_staged (IsLeafless tech gds sp) (HaveLeaves tech gds sp) (IsUnaligned tech gds sp) (same_leafless tech gds sp bytes short) (leafless_or_leaves tech gds sp bytes short)
    (same_unaligned tech gds sp short)))))
    f g (kit_stages tech gds sp f some p) (kit_stages tech gds sp g also q)

unaligned_or_kit : (tech : Tech) (gds sp : List ℕ) (kit : Kit) → length gds ≤ 2 ^ 64 → NeverBeside (IsUnaligned tech gds sp) (IsKitOf tech gds sp kit)
unaligned_or_kit tech gds sp kit short f a k =
    let source = one_source tech gds sp a.is.source (source_of kit k.is.wire) short a.is.of (source_is tech gds sp kit k) in
    let leaves = one_list_of_leaves (source_of kit k.is.wire) a.is.leaves kit.leaves (subst (λ (s : LeafSource). AreLeaves s a.is.leaves) source a.is.are) k.is.leaves in
    no_alignment_fault kit.leaves f a.some (subst (λ (l : List Leaf). IsMisaligned l f) leaves a.is.is) k.is.aligned

pub no_kit_beside : KitFaultsExcludeKits
no_kit_beside tech gds sp kit f bytes short some p k =
    let Done = IsKitOf tech gds sp kit in
    let of = source_is tech gds sp kit k in
    none_staged (BadLayout gds) (IsSpelled gds) (AfterLibrary tech gds sp) Done (λ x a d. layout_or_library tech gds sp x a (kit.lib, k.spelled))
    (none_staged (BadText sp) (AreRead gds sp) (AfterText tech gds sp) Done (λ x a d. text_or_deck tech gds sp x a ((kit.lib, k.spelled), (kit.deck, of.text)))
    (none_staged (Wireless tech) (HasWire tech) (AfterWire tech gds sp) Done (λ x a d. wireless_or_wired tech gds sp x a (k.is.wire, of.wire))
    (none_staged (BadTable tech) (HasTables tech) (AfterTables tech gds sp) Done (λ x a d. table_or_tables tech gds sp x a of.tables)
    (none_staged (IsLeafless tech gds sp) (HaveLeaves tech gds sp) (IsUnaligned tech gds sp) Done
    (λ x a d. leafless_or_leaves tech gds sp bytes short x a (record { source = source_of kit k.is.wire; of = of; leaves = kit.leaves; are = k.is.leaves }))
    (unaligned_or_kit tech gds sp kit short)))))
    f (kit_stages tech gds sp f some p) k
