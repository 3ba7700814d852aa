-- Files ask for one design, or are refused in one way.
use Rattle.std.proofs.Common.{◌≡◌, ◌≢◌, ℕ, ◌<◌, ◌≤◌, ◌^◌, List, ◌++◌, length, Ok, refl, sym, ap, subst, ◌∙◌, arith}
use Rattle.std.specs.Prelude.{codes}
use Rattle.gds_records.specs.Bytes.{AreBytes}
use Rattle.gds_library.specs.declared.fault.GdsFault.{GdsFault}
use Rattle.gds_library.specs.FirstFault.{IsFaultOf}
use Rattle.gds_library.proofs.OneFaultLaws.{faults_are_unique, faults_exclude_libraries}
use Rattle.or_host.specs.Files.{Files}
use Rattle.sram_plan.specs.declared.config.Config.{Config}
use Rattle.sram_plan.specs.declared.numbers.Plan.{Plan}
use Rattle.sram_plan.specs.declared.numbers.PlanFault.{PlanFault}
use Rattle.sram_plan.specs.declared.numbers.PlanFault.TheVariants.{Shape}
use Rattle.sram_plan.specs.Configuration.{configuration}
use Rattle.sram_plan.specs.Plan.{IsPlanOf, IsWordsPerRow}
use Rattle.sram_plan.proofs.OnePlan.{plans_are_one}
use Rattle.tech_rules.specs.declared.tech.Tech.{Tech}
use Rattle.leaf_tables.specs.declared.fault.KitFault.{KitFault}
use Rattle.leaf_tables.specs.declared.fault.KitFault.TheVariants as kit_fault
use Rattle.leaf_tables.specs.declared.kit.Kit.{Kit}
use Rattle.leaf_tables.specs.Faults.{IsKitFault, IsSpelled}
use Rattle.leaf_tables.specs.Kits.{IsKitOf}
use Rattle.kit_laws.proofs.OneKitLaws.{one_kit, one_kit_fault, no_kit_beside}
use Rattle.reply_lines.specs.declared.refusal.Refusal.TheVariants as refusal_of
use Rattle.command_steps.specs.File.{IsFile, IsTechnologyFile}
use Rattle.command_steps.specs.Once.{IsLow, IsOnce}
use Rattle.command_steps.specs.Outcome.{WithoutRefusal}
use Rattle.command_steps.proofs.OnceLaws.{gds_lasts, on_fault, on_file, on_gives, on_tech_file, on_then, on_value}
use Rattle.build_command.specs.declared.design.Design.{Design}
use Rattle.build_command.specs.Design.{IsConfigFile, IsConfiguration, IsDesign, IsDesignOf, IsDesignWith, IsKitOrFault, IsKitOver, IsKitUnder, IsKitWith, IsLeafLayout, IsLeafLayoutFile, IsPlanned}
use Rattle.build_command.specs.OneDesign.{DesignsAreOne, HoldBytes}

-- a refusal of a kit that is neither a failed read nor want of memory is no want of memory below
pub kit_lasts : (f : KitFault) → IsLow (refusal_of.Kit f) → f ≢ kit_fault.Memory
kit_lasts f low e = let five : 5 < 4 = subst (λ (g : KitFault). IsLow (refusal_of.Kit g)) e low in omega (arith, five)

one_plan_fault : (f g : PlanFault) → f ≡ g
one_plan_fault Shape Shape = refl

pub on_config_file : (files : Files) (name : List ℕ) → IsOnce (IsConfigFile files name)
on_config_file files name = on_then (IsFile files name) IsConfiguration (on_file files name) (λ bytes there. on_value (configuration bytes) refusal_of.Config)

on_plan : (config : Config) → IsOnce (IsPlanned config)
on_plan config =
    on_fault (IsPlanOf config) (λ (f : PlanFault). (wpr : ℕ) → ¬ IsWordsPerRow config wpr) refusal_of.Plan (λ p q a b. plans_are_one config p q a b)
    (λ f g s t a b. one_plan_fault f g) (λ f p s none is. none p.wpr is.chosen)

on_layout : (bytes : List ℕ) → IsOnce (IsLeafLayout bytes)
on_layout bytes =
    on_fault (λ (same : List ℕ). (same ≡ bytes) × IsSpelled bytes) (λ (f : GdsFault). IsFaultOf f bytes) refusal_of.Gds (λ x y p q. p.0 ∙ sym q.0)
    (λ f g s t p q. faults_are_unique bytes f g (gds_lasts f s) (gds_lasts g t) p q) (λ f x s p q. faults_exclude_libraries bytes q.1.0 f (gds_lasts f s) p q.1.1)

on_layout_file : (files : Files) (name : List ℕ) → IsOnce (IsLeafLayoutFile files name)
on_layout_file files name = on_then (IsFile files name) IsLeafLayout (on_file files name) (λ bytes there. on_layout bytes)

on_kit : (tech : Tech) (gds sp : List ℕ) → AreBytes gds → length gds ≤ 2 ^ 64 → IsOnce (IsKitOrFault tech gds sp)
on_kit tech gds sp bytes short =
    on_fault (IsKitOf tech gds sp) (IsKitFault tech gds sp) refusal_of.Kit (λ a b p q. one_kit tech gds sp a b short p q)
    (λ f g s t p q. one_kit_fault tech gds sp f g bytes short (kit_lasts f s) (kit_lasts g t) p q) (λ f kit s p q. no_kit_beside tech gds sp kit f bytes short (kit_lasts f s) p q)

on_kit_over : (files : Files) (name : List ℕ) (tech : Tech) (gds : List ℕ) → AreBytes gds → length gds ≤ 2 ^ 64 → IsOnce (IsKitOver files name tech gds)
on_kit_over files name tech gds bytes short =
    on_then (IsFile files (name ++ codes ".sp")) (IsKitOrFault tech gds) (on_file files (name ++ codes ".sp")) (λ sp there. on_kit tech gds sp bytes short)

module _ (files : Files) (hold : HoldBytes files) where
  -- a layout that was read is bytes, and short
  layout_bytes : (name gds : List ℕ) → IsLeafLayoutFile files name (Ok gds) → AreBytes gds
  layout_bytes name gds made = subst AreBytes (sym made.2.0) (hold name made.0 made.1.holds)

  layout_short : (name gds : List ℕ) → IsLeafLayoutFile files name (Ok gds) → length gds ≤ 2 ^ 64
  layout_short name gds made =
      let same = ap length made.2.0 in
      let fits = made.1.fits in
      omega (arith, same, fits)

  on_kit_with : (name : List ℕ) (tech : Tech) → IsOnce (IsKitWith files name tech)
  on_kit_with name tech =
      let layout = name ++ codes ".gds" in
      on_then (IsLeafLayoutFile files layout) (IsKitOver files name tech) (on_layout_file files layout) (λ gds made. on_kit_over files name tech gds (layout_bytes layout gds made) (layout_short layout gds made))

  pub on_kit_under : (name : List ℕ) → IsOnce (IsKitUnder files name)
  on_kit_under name =
      on_then (IsTechnologyFile files (name ++ codes ".toml")) (IsKitWith files name) (on_tech_file files (name ++ codes ".toml")) (λ tech made. on_kit_with name tech)

  on_design_with : (config : Config) (plan : Plan) → IsOnce (IsDesignWith files config plan)
  on_design_with config plan =
      let last : Kit → Design → Type 0 = λ kit design. design ≡ record { config = config; plan = plan; kit = kit } in
      on_then (IsKitUnder files config.tech_name) (λ kit. WithoutRefusal (last kit)) (on_kit_under config.tech_name) (λ kit made. on_gives (last kit) (λ x y p q. p ∙ sym q))

  pub on_design_of : (config : Config) → IsOnce (IsDesignOf files config)
  on_design_of config = on_then (IsPlanned config) (IsDesignWith files config) (on_plan config) (λ plan made. on_design_with config plan)

  on_design : (name : List ℕ) → IsOnce (IsDesign files name)
  on_design name = on_then (IsConfigFile files name) (IsDesignOf files) (on_config_file files name) (λ config made. on_design_of config)

pub designs_are_one : DesignsAreOne
designs_are_one files name hold = on_design files hold name
