-- A window is good, or has one fault.
use Rattle.std.proofs.Common.{◌≡◌, ◌≢◌, ◌⊎◌, inl, inr, ℕ, List, [], ◌∷◌, Option, None, Some, Result, Ok, Err, refl, sym, ap, subst, ◌∙◌}
use Rattle.std.specs.Prelude.{Contains}
use Rattle.std.specs.List.{AllByRecursion}
use Rattle.gds_library.specs.declared.library.Library.{Library}
use Rattle.gds_library.specs.Writable.{IsWritableCell}
use Rattle.netlist.specs.declared.deck.Deck.{Deck}
use Rattle.netlist.specs.declared.rows.RowPin.{RowPin}
use Rattle.spice_netlist.proofs.OneRowLaws.{one_flat_rows}
use Rattle.cell_hierarchy.proofs.TotalLaws.{one_total}
use Rattle.cell_hierarchy.proofs.OneListsLaws.{one_pair}
use Rattle.cell_hierarchy.proofs.OneFaultLaws.{one_fault, fault_or_lists}
use Rattle.cell_hierarchy.specs.FlatLists.{AreFlatLists, IsFault}
use Rattle.cell_hierarchy.specs.Plain.{FlatLists}
use Rattle.cell_hierarchy.specs.declared.fault.FlattenFault.{FlattenFault}
use Rattle.cell_hierarchy.specs.declared.fault.FlattenFault.TheVariants as flatten_fault
use Rattle.tile_checker.proofs.OneReportLaws.{one_report}
use Rattle.tile_checker.specs.declared.violation.Violation.{Violation}
use Rattle.tile_checker.specs.RuleReport.{IsReport}
use Rattle.net_extractor.proofs.OneNetLaws.{one_nets}
use Rattle.net_extractor.specs.PlainNetLabel.{PlainNetLabel}
use Rattle.net_extractor.specs.Difference.{AreAlike}
use Rattle.leaf_tables.specs.declared.kit.Kit.{Kit}
use Rattle.leaf_tables.specs.declared.part.PartFault.{PartFault}
use Rattle.leaf_tables.specs.declared.part.PartFault.TheVariants as part_fault
use Rattle.kit_check.specs.declared.window.Window.{Window}
use Rattle.kit_check.specs.Windows.{all_windows, plan_of}
use Rattle.kit_check.specs.FreeName.{IsFreeName}
use Rattle.kit_check.specs.Makers.{subckts_with, role_cells, IsGoodMaker, IsGoodAnswer}
use Rattle.kit_check.specs.Judged.{AreNetsAndRowsOf, TouchesOutside, IsFaultlessMacro, IsMacroFaultNumber, IsSoundAnswer, IsAnswerFaultNumber}
use Rattle.kit_check.specs.Good.{Answers, IsOneAnswer, IsWindowGood, HasWindowFault}

-- the number of a refusal
abbrev number_of : FlattenFault → ℕ
number_of (flatten_fault.UnknownStruct name) = 31
number_of (flatten_fault.Cycle name) = 32
number_of (flatten_fault.TooDeep depth) = 33
number_of (flatten_fault.TooMany shapes labels) = 34
number_of (flatten_fault.Far x y) = 35
number_of flatten_fault.Memory = 0

module _ (kit : Kit) (name : List ℕ) (lib : Library) (deck : Deck) where
  -- what the comparison and the contacts of a macro that breaks no rule say: a number, or None where nothing is wrong
  record IsCompared (lists : FlatLists) (found : Option ℕ) : Type 0 where
    labels : List PlainNetLabel
    rows : List RowPin
    are : AreNetsAndRowsOf kit name deck lists labels rows
    says : ((AreAlike labels rows → ⊥) × (found ≡ Some 82)) ⊎ (AreAlike labels rows × ((TouchesOutside kit name lib.structs × (found ≡ Some 83)) ⊎ ((TouchesOutside kit name lib.structs → ⊥) × (found ≡ None))))

  abbrev IsReported : FlatLists → List Violation → Option ℕ → Type 0
  IsReported lists [] found = IsCompared lists found
  IsReported lists (v ∷ more) found = found ≡ Some 81

  record IsUnflat (found : Option ℕ) : Type 0 where
    fault : FlattenFault
    some : fault ≢ flatten_fault.Memory
    is : IsFault kit.tech.layers lib.structs name fault
    number : found ≡ Some (number_of fault)

  record IsFlat (found : Option ℕ) : Type 0 where
    lists : FlatLists
    flat : AreFlatLists kit.tech.layers lib.structs name lists
    report : List Violation
    reported : IsReport kit.tech.rules lists.shapes report
    says : IsReported lists report found

  abbrev IsVerdict : Option ℕ → Type 0
  IsVerdict found = IsUnflat found ⊎ IsFlat found

  one_compared : (lists : FlatLists) (a b : Option ℕ) → IsCompared lists a → IsCompared lists b → a ≡ b
  one_compared lists a b p q =
      let labels : p.labels ≡ q.labels = one_nets kit.tech lists.shapes lists.labels p.labels q.labels p.are.nets q.are.nets in
      let rows : p.rows ≡ q.rows = one_flat_rows (subckts_with kit deck) name (role_cells kit) p.rows q.rows p.are.netlist q.are.netlist in
      let there : AreAlike p.labels p.rows → AreAlike q.labels q.rows = λ alike. subst (λ (r : List RowPin). AreAlike q.labels r) rows (subst (λ (l : List PlainNetLabel). AreAlike l p.rows) labels alike) in
      let back : AreAlike q.labels q.rows → AreAlike p.labels p.rows = λ alike. subst (λ (r : List RowPin). AreAlike p.labels r) (sym rows) (subst (λ (l : List PlainNetLabel). AreAlike l q.rows) (sym labels) alike) in
      elim p.says [
        | inl x ↦ elim q.says [ inl y ↦ x.1 ∙ sym y.1 | inr y ↦ absurd (x.0 (back y.0)) ]
        | inr x ↦ elim q.says [
          | inl y ↦ absurd (y.0 (there x.0))
          | inr y ↦ elim x.1 [
            | inl s ↦ elim y.1 [ inl t ↦ s.1 ∙ sym t.1 | inr t ↦ absurd (t.0 s.0) ]
            | inr s ↦ elim y.1 [ inl t ↦ absurd (s.0 t.0) | inr t ↦ s.1 ∙ sym t.1 ]
          ]
        ]
      ]

  one_reported : (lists : FlatLists) (report : List Violation) (a b : Option ℕ) → IsReported lists report a → IsReported lists report b → a ≡ b
  one_reported lists [] a b p q = one_compared lists a b p q
  one_reported lists (v ∷ more) a b p q = p ∙ sym q

  one_verdict : AllByRecursion IsWritableCell lib.structs → (a b : Option ℕ) → IsVerdict a → IsVerdict b → a ≡ b
  one_verdict cells a b (inl p) (inl q) = p.number ∙ (ap (λ (f : FlattenFault). Some (number_of f)) (one_fault one_total kit.tech.layers lib.structs name p.fault q.fault cells p.some q.some p.is q.is) ∙ sym q.number)
  one_verdict cells a b (inl p) (inr q) = absurd (fault_or_lists one_total kit.tech.layers lib.structs name q.lists p.fault cells p.some p.is q.flat)
  one_verdict cells a b (inr p) (inl q) = absurd (fault_or_lists one_total kit.tech.layers lib.structs name p.lists q.fault cells q.some q.is p.flat)
  one_verdict cells a b (inr p) (inr q) =
      let lists : q.lists ≡ p.lists = one_pair kit.tech.layers lib.structs name q.lists p.lists q.flat p.flat in
      let reported = subst (λ (l : FlatLists). IsReport kit.tech.rules l.shapes q.report) lists q.reported in
      let report : q.report ≡ p.report = one_report kit.tech.rules p.lists.shapes q.report p.report reported p.reported in
      let says = subst (λ (l : FlatLists). IsReported l q.report b) lists q.says in
      one_reported p.lists p.report a b p.says (subst (λ (r : List Violation). IsReported p.lists r b) report says)

  faultless_verdict : IsFaultlessMacro kit name lib deck → IsVerdict None
  faultless_verdict p =
      let m = p.matching in
      inr (record {
        lists = m.lists;
        flat = m.clean.flat;
        report = [];
        reported = m.clean.clean;
        says = record { labels = m.matching.labels; rows = m.matching.rows; are = m.matching.are; says = inr (m.matching.alike, inr (p.apart, refl)) };
      })

  number_verdict : (number : ℕ) → IsMacroFaultNumber kit name lib deck number → IsVerdict (Some number)
  number_verdict number (inl h) = inl (record { fault = flatten_fault.TooDeep h.1.0; some = λ e. cc; is = h.1.1; number = ap (λ (n : ℕ). Some n) h.0 })
  number_verdict number (inr (inl h)) = inl (record { fault = flatten_fault.TooMany h.1.0 h.1.1; some = λ e. cc; is = h.1.2; number = ap (λ (n : ℕ). Some n) h.0 })
  number_verdict number (inr (inr (inl h))) = inl (record { fault = flatten_fault.Far h.1.0 h.1.1; some = λ e. cc; is = h.1.2; number = ap (λ (n : ℕ). Some n) h.0 })
  number_verdict number (inr (inr (inr (inl h)))) =
      inr (record { lists = h.1.lists; flat = h.1.flat; report = h.1.broken.first ∷ h.1.broken.more; reported = h.1.broken.reported; says = ap (λ (n : ℕ). Some n) h.0 })
  number_verdict number (inr (inr (inr (inr (inl h))))) =
      let d = h.1 in
      inr (record {
        lists = d.lists;
        flat = d.clean.flat;
        report = [];
        reported = d.clean.clean;
        says = record { labels = d.differ.labels; rows = d.differ.rows; are = d.differ.are; says = inl (d.differ.differ, ap (λ (n : ℕ). Some n) h.0) };
      })
  number_verdict number (inr (inr (inr (inr (inr h))))) =
      let m = h.1 in
      inr (record {
        lists = m.lists;
        flat = m.clean.flat;
        report = [];
        reported = m.clean.clean;
        says = record { labels = m.matching.labels; rows = m.matching.rows; are = m.matching.are; says = inr (m.matching.alike, inl (h.2, ap (λ (n : ℕ). Some n) h.0)) };
      })

-- of an answer

abbrev IsAnswerVerdict : Kit → List ℕ → Result (Library × Deck) PartFault → Option ℕ → Type 0
IsAnswerVerdict kit name (Ok made) found = IsVerdict kit name made.0 made.1 found
IsAnswerVerdict kit name (Err (part_fault.Close side first second)) found = found ≡ Some 71
IsAnswerVerdict kit name (Err (part_fault.TapsClose first second)) found = found ≡ Some 72
IsAnswerVerdict kit name (Err (part_fault.SliceTooNarrow role)) found = found ≡ None
IsAnswerVerdict kit name (Err (part_fault.NameTaken taken)) found = ⊥
IsAnswerVerdict kit name (Err part_fault.Memory) found = ⊥

one_answer_verdict : (kit : Kit) (name : List ℕ) (answer : Result (Library × Deck) PartFault) (a b : Option ℕ) → IsGoodAnswer kit name answer → IsAnswerVerdict kit name answer a → IsAnswerVerdict kit name answer b → a ≡ b
one_answer_verdict kit name (Ok made) a b good p q = one_verdict kit name made.0 made.1 good.writable.cells a b p q
one_answer_verdict kit name (Err (part_fault.Close side first second)) a b good p q = p ∙ sym q
one_answer_verdict kit name (Err (part_fault.TapsClose first second)) a b good p q = p ∙ sym q
one_answer_verdict kit name (Err (part_fault.SliceTooNarrow role)) a b good p q = p ∙ sym q
one_answer_verdict kit name (Err (part_fault.NameTaken taken)) a b good p q = absurd p
one_answer_verdict kit name (Err part_fault.Memory) a b good p q = absurd p

sound_verdict : (kit : Kit) (name : List ℕ) (answer : Result (Library × Deck) PartFault) → IsSoundAnswer kit name answer → IsAnswerVerdict kit name answer None
sound_verdict kit name (Ok made) p = faultless_verdict kit name made.0 made.1 p
sound_verdict kit name (Err (part_fault.Close side first second)) p = absurd p
sound_verdict kit name (Err (part_fault.TapsClose first second)) p = absurd p
sound_verdict kit name (Err (part_fault.SliceTooNarrow role)) p = refl
sound_verdict kit name (Err (part_fault.NameTaken taken)) p = absurd p
sound_verdict kit name (Err part_fault.Memory) p = absurd p

faulty_verdict : (kit : Kit) (name : List ℕ) (answer : Result (Library × Deck) PartFault) (number : ℕ) → IsAnswerFaultNumber kit name answer number → IsAnswerVerdict kit name answer (Some number)
faulty_verdict kit name (Ok made) number p = number_verdict kit name made.0 made.1 number p
faulty_verdict kit name (Err (part_fault.Close side first second)) number p = ap (λ (n : ℕ). Some n) p
faulty_verdict kit name (Err (part_fault.TapsClose first second)) number p = ap (λ (n : ℕ). Some n) p
faulty_verdict kit name (Err (part_fault.SliceTooNarrow role)) number p = absurd p
faulty_verdict kit name (Err (part_fault.NameTaken taken)) number p = absurd p
faulty_verdict kit name (Err part_fault.Memory) number p = absurd p

-- of a window

no_number : (number : ℕ) → ◌≡◌ {A = Option ℕ} None (Some number) → ⊥
no_number number e = cc

same_number : (m n : ℕ) → ◌≡◌ {A = Option ℕ} (Some m) (Some n) → m ≡ n
same_number m n e = cc

module _ (answers : Answers) (kit : Kit) (name : List ℕ) (w : Window) (maker : IsGoodMaker answers kit) (one : IsOneAnswer answers kit) (listed : Contains all_windows w) (free : IsFreeName kit name) where
  same_verdict : (x y : Result (Library × Deck) PartFault) (a b : Option ℕ) → answers kit (plan_of w) name x → answers kit (plan_of w) name y → IsAnswerVerdict kit name x a → IsAnswerVerdict kit name y b → a ≡ b
  same_verdict x y a b p q s t =
      let same : y ≡ x = one (plan_of w) name y x q p in
      one_answer_verdict kit name x a b (maker w name x listed free p) s (subst (λ (z : Result (Library × Deck) PartFault). IsAnswerVerdict kit name z b) same t)

  pub not_both : (number : ℕ) → IsWindowGood answers kit name w → HasWindowFault answers kit name w number → ⊥
  not_both number p q = no_number number (same_verdict p.answer q.answer None (Some number) p.is q.is (sound_verdict kit name p.answer p.sound) (faulty_verdict kit name q.answer number q.faulty))

  pub one_number : (m n : ℕ) → HasWindowFault answers kit name w m → HasWindowFault answers kit name w n → m ≡ n
  one_number m n p q = same_number m n (same_verdict p.answer q.answer (Some m) (Some n) p.is q.is (faulty_verdict kit name p.answer m p.faulty) (faulty_verdict kit name q.answer n q.faulty))
