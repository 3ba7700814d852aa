-- A macro is flat, has a report, has nets and rows, and is sound where the report is empty and the nets are alike.
use Rattle.std.proofs.Common.{◌≡◌, ◌≢◌, ◌⊎◌, inl, inr, ℕ, List, [], ◌∷◌, refl, ◌∙◌}
use Rattle.std.specs.Prelude.{All}
use Rattle.tech_rules.specs.Facts.{IsRule}
use Rattle.tech_rules.specs.declared.tech.Layer.{Layer}
use Rattle.tech_rules.specs.declared.tech.Rule.{Rule}
use Rattle.tech_rules.specs.declared.tech.Rule.TheVariants.{Enclose, Space, Width}
use Rattle.cell_hierarchy.specs.FlatLists.{AreFlatLists}
use Rattle.cell_hierarchy.specs.Plain.{FlatLists}
use Rattle.cell_hierarchy.proofs.FlatNearLaws.{flat_near}
use Rattle.tile_checker.specs.Minimum.{HasMinimum}
use Rattle.tile_checker.specs.RuleReport.{IsReport}
use Rattle.tile_checker.specs.declared.violation.Violation.{Violation}
use Rattle.tile_checker.specs.OneReport.{ReportsAreThere}
use Rattle.sram_netlist.specs.Numbers.{ArePlanNumbers}
use Rattle.sram_plan.specs.declared.numbers.Plan.{Plan}
use Rattle.sram_plan.specs.PlanNumbers.{numbers_of}
use Rattle.sram_rows.specs.Rows.{RowsEqualNetlist}
use Rattle.port_lists.specs.Held.{Held}
use Rattle.leaf_tables.specs.declared.kit.Kit.{Kit}
use Rattle.leaf_tables.specs.Kits.{IsKit}
use Rattle.sram_macro.specs.declared.assembly.Macro.{Macro}
use Rattle.sram_macro.specs.Macro.{IsMacro}
use Rattle.sram_macro.proofs.MemoryLaws.{netlist_of}
use Rattle.macro_build.specs.declared.built.BuildFault.TheVariants as build_fault
use Rattle.macro_build.specs.Built.{IsChecked}
use Rattle.macro_answers.specs.Answers.{MacrosOrFaultsAreThere}
use Rattle.flat_answers.proofs.FlatAnswerLaws.{flat_lists_or_fault}
use Rattle.net_answers.specs.NetAnswers.{AlikeOrDifferent, NetsAreThere}
use Rattle.build_answers.specs.Answers.{HasSoundMacroOrFault, SoundMacrosOrFaultsAreThere}

-- the report of a flat macro
record HasReport (kit : Kit) (lists : FlatLists) : Type 0 where
  report : List Violation
  is : IsReport kit.tech.rules lists.shapes report

has_minimum : (layers : List Layer) (rule : Rule) → IsRule layers rule → HasMinimum rule
has_minimum layers (Width layer min) is = record { positive = is.min.from; bounded = is.min.to }
has_minimum layers (Space layer other min) is = record { positive = is.min.from; bounded = is.min.to }
has_minimum layers (Enclose layer by min) is = record { positive = is.min.from; bounded = is.min.to }

minimums : (layers : List Layer) (rules : List Rule) → All (IsRule layers) rules → All HasMinimum rules
minimums layers rules all k d lt = has_minimum layers _ (all k d lt)

report_there : ReportsAreThere → (kit : Kit) (m : Macro) (name : List ℕ) (lists : FlatLists) → IsKit kit
    → AreFlatLists kit.tech.layers m.lib.structs name lists → HasReport kit lists
report_there reports kit m name lists is flat =
    let found = reports kit.tech.rules lists.shapes (minimums kit.tech.layers kit.tech.rules is.tech.rules)
    (flat_near kit.tech.layers m.lib.structs name lists.shapes
    (record { sound = flat.sound; few = flat.few; near = flat.near; rise = flat.shapes_rise; exact = flat.shapes_exact })) in
    record { report = found.0; is = found.1 }

-- A macro with flat lists and an empty report is sound, or its nets differ from its netlist.
clean_macro : RowsEqualNetlist → NetsAreThere → AlikeOrDifferent → (kit : Kit) (plan : Plan) (held : Held) (name : List ℕ) (m : Macro) (lists : FlatLists)
    → ArePlanNumbers (numbers_of plan) → IsChecked kit plan held name m lists [] → HasSoundMacroOrFault kit plan held name
clean_macro equal nets alike kit plan held name m lists planned clean =
    let found = nets kit.tech lists.shapes lists.labels in
    let rows = (netlist_of equal kit plan held name m planned clean.is).some in
    elim (alike found.0 rows.0) [
      | inl same ↦ inl (
        m,
        record {
          lists = lists;
          clean = clean;
          labels = found.0;
          rows = rows.0;
          are = record { nets = found.1; netlist = rows.1 };
          alike = same;
        },
      )
      | inr differ ↦ inr (record {
        fault = build_fault.NetsDiffer differ.0;
        real = λ e. absurd cc;
        is = record {
          macro = m;
          lists = lists;
          clean = clean;
          labels = found.0;
          rows = rows.0;
          are = record { nets = found.1; netlist = rows.1 };
          differ = differ.1;
        };
      })
    ]

-- A macro is sound, or there is the first of what is wrong with it.
judged : ReportsAreThere → RowsEqualNetlist → NetsAreThere → AlikeOrDifferent → (kit : Kit) (plan : Plan) (held : Held) (name : List ℕ) (m : Macro)
    → IsKit kit → ArePlanNumbers (numbers_of plan) → IsMacro kit plan held name m → HasSoundMacroOrFault kit plan held name
judged reports equal nets alike kit plan held name m is planned made = elim (flat_lists_or_fault kit.tech.layers m.lib.structs name made.writable.cells) [
  | inr unflat ↦ inr (record {
    fault = build_fault.Flatten unflat.0;
    real = λ e. absurd cc;
    is = record { macro = m; is = made; unflat = unflat.2; some = unflat.1 };
  })
  | inl flat ↦ of_report flat.0 flat.1 (report_there reports kit m name flat.0 is flat.1)
]
  where
    of_report : (lists : FlatLists) → AreFlatLists kit.tech.layers m.lib.structs name lists → HasReport kit lists → HasSoundMacroOrFault kit plan held name
    of_report lists flat found = by found.report found.is
      where
        by : (report : List Violation) → IsReport kit.tech.rules lists.shapes report → HasSoundMacroOrFault kit plan held name
        by (v ∷ more) reported = inr (record {
          fault = build_fault.RuleBroken v;
          real = λ e. absurd cc;
          is = record { macro = m; lists = lists; more = more; checked = record { is = made; flat = flat; reported = reported } };
        })
        by [] reported = clean_macro equal nets alike kit plan held name m lists planned (record { is = made; flat = flat; reported = reported })

pub sound_macros_or_faults_are_there : MacrosOrFaultsAreThere → ReportsAreThere → RowsEqualNetlist → NetsAreThere → AlikeOrDifferent → SoundMacrosOrFaultsAreThere
sound_macros_or_faults_are_there macros reports equal nets alike alloc kit plan held name is planned holds named =
    elim (macros alloc kit plan held name is planned holds named) [
      | inl made ↦ judged reports equal nets alike kit plan held name made.0 is planned made.1
      | inr part ↦ inr (record { fault = build_fault.Part part.fault; real = λ e. absurd cc; is = (part.real, part.is) })
    ]
