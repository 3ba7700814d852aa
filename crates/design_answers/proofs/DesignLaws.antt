-- Files ask for a kit or a design, or are refused.
use Rattle.std.proofs.Common.{◌≡◌, ◌⊎◌, inl, inr, ℕ, ◌≤◌, ◌^◌, List, ◌++◌, length, Ok, refl, sym, subst, arith, lit<}
use Rattle.std.specs.Prelude.{codes}
use Rattle.gds_records.specs.Bytes.{AreBytes}
use Rattle.gds_library.specs.declared.fault.GdsFault.{GdsFault}
use Rattle.gds_library.specs.FirstFault.{IsFaultOf}
use Rattle.or_host.specs.Files.{Files}
use Rattle.sram_plan.specs.declared.config.Config.{Config}
use Rattle.sram_plan.specs.declared.numbers.Plan.{Plan}
use Rattle.sram_plan.specs.declared.numbers.PlanFault.{PlanFault}
use Rattle.sram_plan.specs.declared.numbers.PlanFault.TheVariants.{Shape}
use Rattle.sram_plan.specs.Config.{IsConfig}
use Rattle.sram_plan.specs.Configuration.{configuration}
use Rattle.sram_plan.specs.Plan.{IsPlanOf, IsWordsPerRow}
use Rattle.tech_rules.specs.declared.tech.Tech.{Tech}
use Rattle.tech_rules.specs.Facts.{IsTech}
use Rattle.tech_rules.proofs.TechFacts.{technology-IsTech}
use Rattle.leaf_tables.specs.declared.fault.KitFault.{KitFault}
use Rattle.leaf_tables.specs.declared.kit.Kit.{Kit}
use Rattle.leaf_tables.specs.Faults.{IsKitFault, IsSpelled}
use Rattle.leaf_tables.specs.Kits.{IsKitOf}
use Rattle.reply_lines.specs.declared.refusal.Refusal.TheVariants as refusal_of
use Rattle.command_steps.specs.File.{IsFile, IsTechnologyFile}
use Rattle.command_steps.specs.Once.{IsLow}
use Rattle.command_steps.specs.Outcome.{WithoutRefusal}
use Rattle.kit_answers.specs.KitAnswers.{KitOrFault}
use Rattle.library_answers.specs.LibraryAnswers.{HasLibraryAnswer}
use Rattle.library_answers.proofs.AnswerLaws.{library_answers_are_there}
use Rattle.kit_answers.proofs.KitLaws.{kits_answer}
use Rattle.plan_answers.proofs.PlanLaws.{plans_answer}
use Rattle.read_answers.proofs.ConfigLaws.{configurations_last}
use Rattle.read_answers.proofs.GoodLaws.{configurations_are_good}
use Rattle.build_command.specs.declared.design.Design.{Design}
use Rattle.build_command.specs.Design.{IsConfigFile, IsConfiguration, IsDesign, IsDesignOf, IsDesignWith, IsKitOrFault, IsKitOver, IsKitUnder}
use Rattle.build_command.specs.Design.{IsKitWith, IsLeafLayout, IsLeafLayoutFile, IsPlanned}
use Rattle.build_command.specs.OneDesign.{HoldBytes}
use Rattle.design_answers.specs.DesignAnswers.{DesignsAnswer, HasOutcome, KitNamesAnswer}
use Rattle.design_answers.proofs.LowLaws.{config_low, gds_low, kit_low}
use Rattle.design_answers.proofs.StepLaws.{answered_by, answered_file, answered_result, answered_tech_file, answered_then, answered_value}

-- the configuration that a file is
pub answered_config_file : (files : Files) (name : List ℕ) → HasOutcome (IsConfigFile files name)
answered_config_file files name =
    answered_then (IsFile files name) IsConfiguration (answered_file files name)
    (λ bytes there. answered_result (configuration bytes) refusal_of.Config (λ f e. config_low f (configurations_last bytes f e)))

-- a file's configuration is a good one
pub config_in_file : (files : Files) (name : List ℕ) (config : Config) → IsConfigFile files name (Ok config) → IsConfig config
config_in_file files name config made = configurations_are_good made.0 config made.2

answered_plan : (config : Config) → IsConfig config → HasOutcome (IsPlanned config)
answered_plan config is =
    answered_by (IsPlanOf config) (λ (fault : PlanFault). (wpr : ℕ) → ¬ IsWordsPerRow config wpr) refusal_of.Plan (by_plan (plans_answer config is))
  where
    by_plan : ((plan : Plan) × IsPlanOf config plan) ⊎ ((wpr : ℕ) → ¬ IsWordsPerRow config wpr)
        → ((plan : Plan) × IsPlanOf config plan) ⊎ ((fault : PlanFault) × IsLow (refusal_of.Plan fault) × ((wpr : ℕ) → ¬ IsWordsPerRow config wpr))
    by_plan (inl plan) = inl plan
    by_plan (inr none) = inr (Shape, lit< tt, none)

module _ (files : Files) (hold : HoldBytes files) where
  answered_layout : (bytes : List ℕ) → AreBytes bytes → length bytes ≤ 2 ^ 64 → HasOutcome (IsLeafLayout bytes)
  answered_layout bytes are short =
      answered_by (λ (same : List ℕ). (same ≡ bytes) × IsSpelled bytes) (λ (fault : GdsFault). IsFaultOf fault bytes) refusal_of.Gds
      (by_library (library_answers_are_there bytes are short))
    where
      by_library : HasLibraryAnswer bytes
          → ((same : List ℕ) × ((same ≡ bytes) × IsSpelled bytes)) ⊎ ((fault : GdsFault) × IsLow (refusal_of.Gds fault) × IsFaultOf fault bytes)
      by_library (inl lib) = inl (bytes, (refl, lib))
      by_library (inr fault) = inr (fault.0, gds_low fault.0 fault.1, fault.2)

  answered_layout_file : (name : List ℕ) → HasOutcome (IsLeafLayoutFile files name)
  answered_layout_file name =
      answered_then (IsFile files name) IsLeafLayout (answered_file files name)
      (λ bytes there. answered_layout bytes (hold name bytes there.holds) (let fits = there.fits in omega (arith, fits)))

  -- a layout that was read is bytes
  layout_bytes : (name gds : List ℕ) → IsLeafLayoutFile files name (Ok gds) → AreBytes gds
  layout_bytes name gds made = subst AreBytes (sym made.2.0) (hold name made.0 made.1.holds)

  -- and spells a library
  layout_spelled : (name gds : List ℕ) → IsLeafLayoutFile files name (Ok gds) → IsSpelled gds
  layout_spelled name gds made = subst IsSpelled (sym made.2.0) made.2.1

  answered_kit : (tech : Tech) (gds sp : List ℕ) → IsTech tech → AreBytes gds → IsSpelled gds → HasOutcome (IsKitOrFault tech gds sp)
  answered_kit tech gds sp good are spelled =
      answered_by (IsKitOf tech gds sp) (IsKitFault tech gds sp) refusal_of.Kit (by_kit (kits_answer tech gds sp good are spelled))
    where
      by_kit : KitOrFault tech gds sp
          → ((kit : Kit) × IsKitOf tech gds sp kit) ⊎ ((fault : KitFault) × IsLow (refusal_of.Kit fault) × IsKitFault tech gds sp fault)
      by_kit (inl kit) = inl kit
      by_kit (inr fault) = inr (fault.0, kit_low tech gds sp fault.0 fault.1 fault.2, fault.2)

  answered_kit_over : (name : List ℕ) (tech : Tech) (gds : List ℕ) → IsTech tech → AreBytes gds → IsSpelled gds
      → HasOutcome (IsKitOver files name tech gds)
  answered_kit_over name tech gds good are spelled =
      answered_then (IsFile files (name ++ codes ".sp")) (IsKitOrFault tech gds) (answered_file files (name ++ codes ".sp"))
      (λ sp there. answered_kit tech gds sp good are spelled)

  answered_kit_with : (name : List ℕ) (tech : Tech) → IsTech tech → HasOutcome (IsKitWith files name tech)
  answered_kit_with name tech good =
      let layout = name ++ codes ".gds" in
      answered_then (IsLeafLayoutFile files layout) (IsKitOver files name tech) (answered_layout_file layout)
      (λ gds made. answered_kit_over name tech gds good (layout_bytes layout gds made) (layout_spelled layout gds made))

  answered_kit_under : (name : List ℕ) → HasOutcome (IsKitUnder files name)
  answered_kit_under name =
      let file = name ++ codes ".toml" in
      answered_then (IsTechnologyFile files file) (IsKitWith files name) (answered_tech_file files file)
      (λ tech made. answered_kit_with name tech (technology-IsTech made.0 tech made.2))

  answered_design_with : (config : Config) (plan : Plan) → HasOutcome (IsDesignWith files config plan)
  answered_design_with config plan =
      let made_of : Kit → Design → Type 0 = λ kit design. design ≡ record { config = config; plan = plan; kit = kit } in
      answered_then (IsKitUnder files config.tech_name) (λ kit. WithoutRefusal (made_of kit)) (answered_kit_under config.tech_name)
      (λ kit made. answered_value (made_of kit) (record { config = config; plan = plan; kit = kit }) refl)

  pub answered_design_of : (config : Config) → IsConfig config → HasOutcome (IsDesignOf files config)
  answered_design_of config is =
      answered_then (IsPlanned config) (IsDesignWith files config) (answered_plan config is) (λ plan made. answered_design_with config plan)

  answered_design : (name : List ℕ) → HasOutcome (IsDesign files name)
  answered_design name =
      answered_then (IsConfigFile files name) (IsDesignOf files) (answered_config_file files name)
      (λ config made. answered_design_of config (config_in_file files name config made))

pub kit_names_answer : KitNamesAnswer
kit_names_answer files name hold = answered_kit_under files hold name

pub designs_answer : DesignsAnswer
designs_answer files name hold = answered_design files hold name
