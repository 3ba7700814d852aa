-- A kit of which nothing is said spares each build close pins, close taps, broken rules and nets that differ.
use Rattle.std.proofs.Common.{◌≡◌, inl, inr, ◌∙◌, ℕ, List, [], Option, None, Some, refl, sym, ap, subst, arith}
use Rattle.std.specs.Prelude.{Result, Ok, Err}
use Rattle.sram_plan.proofs.PlanLaws.{plan_numbers}
use Rattle.port_lists.specs.Held.Held.{Stored}
use Rattle.leaf_tables.specs.declared.kit.Kit.{Kit}
use Rattle.leaf_tables.specs.declared.part.PartFault.{PartFault}
use Rattle.leaf_tables.specs.declared.part.PartFault.TheVariants as part_fault
use Rattle.reply_lines.specs.declared.refusal.Refusal.{Refusal}
use Rattle.reply_lines.specs.declared.refusal.Refusal.TheVariants as refusal_of
use Rattle.reply_lines.specs.declared.reply.Reply.{Reply}
use Rattle.reply_lines.specs.Statuses.{refusal_status}
use Rattle.cell_hierarchy.specs.declared.fault.FlattenFault.{FlattenFault}
use Rattle.cell_hierarchy.specs.declared.fault.FlattenFault.TheVariants as flatten_fault
use Rattle.or_host.specs.Files.{Files}
use Rattle.command_steps.specs.Once.{IsLow}
use Rattle.command_steps.specs.Outside.{IfTold}
use Rattle.kit_check.specs.declared.weak.Weak.{Weak}
use Rattle.kit_check.specs.Good.{IsGoodKit, IsWeakness}
use Rattle.macro_maker.specs.Assembled.{IsAssembled}
use Rattle.kit_command.specs.WeakLines.{IsKitReplied, weak_reply}
use Rattle.macro_build.specs.declared.built.BuildFault.{BuildFault}
use Rattle.macro_build.specs.declared.built.BuildFault.TheVariants as build_fault
use Rattle.macro_build.specs.Built.{IsBuildFault, IsUnflat}
use Rattle.macro_facts.proofs.WholeLaws.{macros_are_whole}
use Rattle.build_command.specs.declared.design.Design.{Design}
use Rattle.build_command.specs.Design.{IsKitUnder, IsDesign, IsGoodDesign}
use Rattle.build_command.specs.Made.{IsWork, refusal_in}
use Rattle.build_command.specs.OneDesign.{HoldBytes}
use Rattle.build_command.proofs.OneDesignLaws.{on_kit_under, designs_are_one}
use Rattle.kit_routes.specs.Routes.{AreRoutesGood}
use Rattle.kit_routes.proofs.GoodLaws.{good_kits_route}
use Rattle.good_reports.specs.Reports.{BreaksNoRule}
use Rattle.good_reports.proofs.ReportLaws.{good_kits_break_no_rule}
use Rattle.good_matches.specs.Matches.{MatchesNetlist}
use Rattle.good_matches.proofs.MatchLaws.{good_kits_match}
use Rattle.good_kits.specs.Builds.{IsKitPassed, MayFlattenStillCome, MayStillCome, AreBuildsSpared, GoodKitsSpareBuilds, GoodKitsSpareRuns}
use Rattle.good_kits.proofs.ConfigLaws.{config_is_good}

told_map : (told : Option Files) (P Q : Files → Type 0) → ((files : Files) → P files → Q files) → IfTold told P → IfTold told Q
told_map None P Q each p = tt
told_map (Some files) P Q each p = each files p

-- A kit of which no line is answered is good.

none_found : (kit : Kit) (found : Option Weak) → IsWeakness IsAssembled kit found → ◌≡◌ {A = Reply} (record { status = 0; lines = [] }) (weak_reply found) → IsGoodKit IsAssembled kit
none_found kit None is same = is.none.0 refl
none_found kit (Some weak) is same = absurd (let e : 0 ≡ 1 = ap (λ (r : Reply). r.status) same in omega (arith, e))

is_good : (kit : Kit) → IsKitReplied kit (record { status = 0; lines = [] }) → IsGoodKit IsAssembled kit
is_good kit (found, is, same) = none_found kit found is same

-- What is known of a design that files ask for

good_design : (files : Files) (config_file : List ℕ) (design : Design) → IsDesign files config_file (Ok design) → IsGoodDesign design
good_design files config_file design (config, file, (plan, planned, (kit, under, same))) =
    let good = config_is_good file.0 config file.2 in
    subst IsGoodDesign (sym same) (record { config = good; planned = planned; numbers = plan_numbers config plan good planned; kit = under.2.2.2.is })

module _ (files : Files) (config_file : List ℕ) (design : Design) (hold : HoldBytes files) (is : IsDesign files config_file (Ok design)) (passed : IsKitPassed files design.config.tech_name) where
  known : IsGoodDesign design
  known = good_design files config_file design is

  -- its kit is the one that passed
  same_kit : passed.kit ≡ design.kit
  same_kit = by is where
    by : IsDesign files config_file (Ok design) → passed.kit ≡ design.kit
    by (config, file, (plan, planned, (kit, under, same))) =
        let named : config.tech_name ≡ design.config.tech_name = ap (λ (d : Design). d.config.tech_name) (sym same) in
        let one : ◌≡◌ {A = Result Kit Refusal} (Ok passed.kit) (Ok kit) = on_kit_under files hold design.config.tech_name (Ok passed.kit) (Ok kit) tt tt passed.is (subst (λ (n : List ℕ). IsKitUnder files n (Ok kit)) named under) in
        let e : passed.kit ≡ kit = cc in
        e ∙ ap (λ (d : Design). d.kit) (sym same)

  good : IsGoodKit IsAssembled design.kit
  good = subst (IsGoodKit IsAssembled) same_kit (is_good passed.kit passed.silent)

  routes : AreRoutesGood design.kit design.plan design.config.output_name
  routes = good_kits_route design.kit design.config design.plan design.config.output_name known.kit good known.config known.planned

  kept : BreaksNoRule design.kit design.plan design.config.output_name
  kept = good_kits_break_no_rule design.kit design.config design.plan design.config.output_name known.kit good known.config known.planned

  alike : MatchesNetlist design.kit design.plan design.config.output_name
  alike = good_kits_match design.kit design.config design.plan design.config.output_name known.kit good known.config known.planned

  -- a refusal of the work is a fault of the design's build
  record IsFaultOfBuild (refusal : Refusal) : Type 0 where
    fault : BuildFault
    faulty : IsBuildFault design.kit design.plan Stored design.config.output_name fault
    same : refusal ≡ refusal_in design.kit.tech.layers fault

  fault_of : (refusal : Refusal) → IsLow refusal → IsWork files config_file (Err refusal) → IsFaultOfBuild refusal
  fault_of refusal low (inl refused) = absurd (let e : ◌≡◌ {A = Result Design Refusal} (Ok design) (Err refusal) = designs_are_one files config_file hold (Ok design) (Err refusal) tt low is refused in cc)
  fault_of refusal low (inr (other, also, (fault, faulty, same))) =
      let e : ◌≡◌ {A = Result Design Refusal} (Ok other) (Ok design) = designs_are_one files config_file hold (Ok other) (Ok design) tt tt also is in
      let one : other ≡ design = cc in
      record {
        fault = fault;
        faulty = subst (λ (d : Design). IsBuildFault d.kit d.plan Stored d.config.output_name fault) one faulty;
        same = same ∙ ap (λ (d : Design). refusal_in d.kit.tech.layers fault) one;
      }

  -- a refused part is refused of the macro
  part_of : (part : PartFault) (fault : BuildFault) → IsBuildFault design.kit design.plan Stored design.config.output_name fault → refusal_of.Part part ≡ refusal_in design.kit.tech.layers fault → IsAssembled design.kit design.plan design.config.output_name (Err part)
  part_of part (build_fault.Part other) faulty same = let e : other ≡ part = cc in subst (λ (p : PartFault). IsAssembled design.kit design.plan design.config.output_name (Err p)) e faulty
  part_of part (build_fault.Flatten other) faulty same = absurd cc
  part_of part (build_fault.RuleBroken violation) faulty same = absurd cc
  part_of part (build_fault.NetsDiffer difference) faulty same = absurd cc
  part_of part build_fault.Memory faulty same = absurd cc

  -- all that a macro reaches is there, and nothing that it reaches reaches itself
  unflat : (fault : FlattenFault) → IsUnflat design.kit design.plan Stored design.config.output_name fault → MayFlattenStillCome fault
  unflat (flatten_fault.UnknownStruct name) u = (macros_are_whole design.kit design.plan Stored design.config.output_name u.macro known.kit known.numbers (record { fit = tt; cells = tt }) u.is).there name u.unflat.has
  unflat (flatten_fault.Cycle name) u = (macros_are_whole design.kit design.plan Stored design.config.output_name u.macro known.kit known.numbers (record { fit = tt; cells = tt }) u.is).acyclic name u.unflat.1.has
  unflat (flatten_fault.TooDeep depth) u = tt
  unflat (flatten_fault.TooMany shapes labels) u = tt
  unflat (flatten_fault.Far x y) u = tt
  unflat flatten_fault.Memory u = absurd (u.some refl)

  -- what is left of the faults of a build
  left : (fault : BuildFault) → IsBuildFault design.kit design.plan Stored design.config.output_name fault → IsLow (refusal_in design.kit.tech.layers fault) → MayStillCome (refusal_in design.kit.tech.layers fault)
  left (build_fault.Part (part_fault.Close side first second)) faulty low = routes.pins side first second faulty
  left (build_fault.Part (part_fault.TapsClose first second)) faulty low = routes.taps first second faulty
  left (build_fault.Part (part_fault.SliceTooNarrow role)) faulty low = tt
  left (build_fault.Part (part_fault.NameTaken name)) faulty low = tt
  left (build_fault.Part part_fault.Memory) faulty low = absurd (faulty.0 refl)
  left (build_fault.Flatten fault) faulty low = unflat fault faulty
  left (build_fault.RuleBroken violation) faulty low = kept.unrefused violation faulty
  left (build_fault.NetsDiffer difference) faulty low = alike.unrefused difference faulty
  left build_fault.Memory faulty low = absurd (omega (arith, low))

  refused : (refusal : Refusal) → IsLow refusal → IsWork files config_file (Err refusal) → MayStillCome refusal
  refused refusal low work = let f = fault_of refusal low work in subst MayStillCome (sym f.same) (left f.fault f.faulty (subst IsLow f.same low))

  -- as too narrow exactly by widths
  narrow_of : (role : List ℕ) → IsWork files config_file (Err (refusal_of.Part (part_fault.SliceTooNarrow role))) → IsAssembled design.kit design.plan design.config.output_name (Err (part_fault.SliceTooNarrow role))
  narrow_of role work = let f = fault_of (refusal_of.Part (part_fault.SliceTooNarrow role)) (omega arith) work in part_of (part_fault.SliceTooNarrow role) f.fault f.faulty f.same

  pub builds_spared : AreBuildsSpared files config_file design
  builds_spared = record {
    refused = refused;
    narrow = λ free.
        let n = routes.narrow (λ taken refused. free taken (inr (design, is, (build_fault.Part (part_fault.NameTaken taken), refused, refl)))) in (
          λ work. n.0 (work.0, narrow_of work.0 work.1),
          λ wide. (let r = n.1 wide in (r.0, inr (design, is, (build_fault.Part (part_fault.SliceTooNarrow r.0), r.1, refl)))),
        );
  }

pub good_kits_spare_builds : GoodKitsSpareBuilds
good_kits_spare_builds files config_file design hold is passed = builds_spared files config_file design hold is passed

is_low : (refusal : Refusal) → refusal_status refusal ≡ 3 → IsLow refusal
is_low refusal three = omega (arith, three)

pub good_kits_spare_runs : GoodKitsSpareRuns
good_kits_spare_runs config_file before now refused =
    told_map before.store.files (λ files. IsWork files config_file (Err refused.refusal)) (λ files. (design : Design) → HoldBytes files → IsDesign files config_file (Ok design) → IsKitPassed files design.config.tech_name → MayStillCome refused.refusal)
    (λ files work design hold is passed. (good_kits_spare_builds files config_file design hold is passed).refused refused.refusal (is_low refused.refusal refused.is_input) work) refused.work
