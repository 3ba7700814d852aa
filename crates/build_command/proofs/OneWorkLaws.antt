-- What files ask for is made in one way, or refused in one way; and a run that ends below 4 ends with it.
use Rattle.std.proofs.Common.{◌≡◌, ◌≢◌, inl, inr, ℕ, ◌<◌, List, [], ◌∷◌, ◌++◌, Result, Ok, Err, sym, subst, ◌∙◌, arith}
use Rattle.std.specs.Prelude.{codes}
use Rattle.std.specs.Fmt.{decimal, signed_decimal}
use Rattle.or_host.specs.FileList.{files_of}
use Rattle.or_host.specs.Files.{Files}
use Rattle.leaf_tables.specs.Kits.{IsKit}
use Rattle.tech_rules.specs.declared.tech.Layer.{Layer}
use Rattle.sram_plan.specs.declared.config.Config.{Config}
use Rattle.sram_plan.specs.declared.numbers.Plan.{Plan}
use Rattle.macro_build.specs.Built.{IsBuildFault}
use Rattle.macro_build.specs.declared.built.Built.{Built}
use Rattle.macro_build.specs.declared.built.BuildFault.{BuildFault}
use Rattle.macro_build.specs.declared.built.BuildFault.TheVariants as build_fault
use Rattle.macro_laws.specs.OneBuild.{AreSameViews}
use Rattle.macro_laws.proofs.OneBuildLaws.{one_build, one_build_fault, no_build_beside}
use Rattle.reply_lines.specs.Lines.{reply_line}
use Rattle.reply_lines.specs.declared.refusal.Refusal.{Refusal}
use Rattle.command_steps.proofs.OnceLaws.{on_fault, on_then}
use Rattle.command_steps.proofs.OutcomeLaws.{told_map}
use Rattle.command_steps.specs.Once.{IsDecided, IsLow, IsOnce}
use Rattle.command_steps.specs.Outside.{Outside}
use Rattle.build_command.specs.declared.design.Design.{Design}
use Rattle.build_command.specs.declared.made.Made.{Made}
use Rattle.build_command.specs.Design.{IsDesign}
use Rattle.build_command.specs.Demonstration.{demo_files}
use Rattle.build_command.specs.Made.{IsMadeOf, IsOrderMade, Ordered, count_words, made_of, order_of, order_of_rom, refusal_in, view_name}
use Rattle.build_command.specs.OneDesign.{BytesAsked, EndsWith, RomWorksAreOne, RunsEndAsWork, WorksAreOne}
use Rattle.build_command.specs.RomDesign.{IsRomDesign}
use Rattle.build_command.specs.Run.{IsMakingWork}
use Rattle.build_command.specs.Words.{Making}
use Rattle.build_command.specs.Words.Making.{build, demo, rom}
use Rattle.build_command.proofs.DemoByteLaws.{demo_files_hold_bytes}
use Rattle.build_command.proofs.OneDesignLaws.{designs_are_one}
use Rattle.build_command.proofs.OneRomLaws.{kit_of_design, on_rom, rom_kit}

-- the same views make the same files and line
made_as : (config : Config) (plan : Plan) (a b : Built) → AreSameViews a b → made_of config plan a ≡ made_of config plan b
made_as config plan a b same = λ i. record {
  views = record { name = view_name config ++ codes ".sp"; bytes = same.spice i }
      ∷ record { name = view_name config ++ codes ".gds"; bytes = same.gds i }
      ∷ record { name = view_name config ++ codes ".lef"; bytes = same.lef i }
      ∷ record { name = view_name config ++ codes ".v"; bytes = same.verilog i }
      ∷ [];
  reply = record {
    status = 0;
    lines = reply_line (config.output_name ∷ (count_words plan
        ++ ((codes "tracks" ∷ decimal (same.tracks i) ∷ codes "leaves" ∷ decimal (same.leaves i) ∷ [])
        ++ (codes "size" ∷ signed_decimal (same.width i) ∷ signed_decimal (same.height i) ∷ [])))) ∷ [];
  };
}

-- a refusal that is neither a failed read nor want of memory isn't the memory of a build
build_lasts : (layers : List Layer) (f : BuildFault) → IsLow (refusal_in layers f) → f ≢ build_fault.Memory
build_lasts layers f low e = let five : 5 < 4 = subst (λ (g : BuildFault). IsLow (refusal_in layers g)) e low in omega (arith, five)

on_made : (order : Ordered) → IsKit order.kit → IsOnce (IsOrderMade order)
on_made order kit =
    let layers = order.kit.tech.layers in
    let name = order.config.output_name in
    on_fault (IsMadeOf order) (IsBuildFault order.kit order.plan order.held name) (refusal_in layers)
    (λ a b p q. p.is ∙ made_as order.config order.plan p.built q.built (one_build order.kit order.plan order.held name p.built q.built kit p.is_built q.is_built) ∙ sym q.is)
    (λ f g s t p q. one_build_fault order.kit order.plan order.held name f g kit (build_lasts layers f s) (build_lasts layers g t) p q)
    (λ f made s p q. no_build_beside order.kit order.plan order.held name f q.built kit (build_lasts layers f s) p q.is_built)

-- a design that files ask for has a kit
has_kit : (files : Files) (name : List ℕ) (design : Design) → IsDesign files name (Ok design) → IsKit design.kit
has_kit files name design is = kit_of_design files is.0 design is.2

pub works_are_one : WorksAreOne
works_are_one files name hold =
    on_then (IsDesign files name) (λ design. IsOrderMade (order_of design)) (designs_are_one files name hold) (λ design is. on_made (order_of design) (has_kit files name design is))

pub rom_works_are_one : RomWorksAreOne
rom_works_are_one files name content hold =
    on_then (IsRomDesign files name content) (λ rom. IsOrderMade (order_of_rom rom)) (on_rom files content hold name) (λ rom is. on_made (order_of_rom rom) (rom_kit files name content rom is))

-- what a run ends with

making_once : (m : Making) (files : Files) → BytesAsked m files → IsOnce (IsMakingWork m files)
making_once (build config) files hold = works_are_one files config hold
making_once (demo n) files asked = works_are_one (files_of (demo_files n)) (codes "demo.toml") (demo_files_hold_bytes n)
making_once (rom config content) files hold = rom_works_are_one files config content hold

-- whatever the files ask for, the run ended with that
abbrev EndsSo : Making → ℕ → Outside → Outside → Result Made Refusal → Files → Type 0
EndsSo m status before now result files = BytesAsked m files → IsMakingWork m files result → EndsWith m status before now result

ends_so : (m : Making) (status : ℕ) (before now : Outside) (result other : Result Made Refusal) → IsDecided result → IsDecided other → EndsWith m status before now other → (files : Files) → IsMakingWork m files other → EndsSo m status before now result files
ends_so m status before now result other decided also ends files work asked wanted =
    subst (EndsWith m status before now) (making_once m files asked other result also decided work wanted) ends

pub runs_end_as_work : RunsEndAsWork
runs_end_as_work m status before now run result decided below = elim (run.kinds below) [
  | inl zero ↦
      let done = run.done zero in
      told_map before.store.files (λ files. IsMakingWork m files (Ok done.made)) (EndsSo m status before now result)
      (ends_so m status before now result (Ok done.made) decided tt (record { is = zero; files = done.files; printed = done.printed })) done.work
  | inr three ↦
      let refused = run.refused three in
      let input = refused.is_input in
      told_map before.store.files (λ files. IsMakingWork m files (Err refused.refusal)) (EndsSo m status before now result)
      (ends_so m status before now result (Err refused.refusal) decided (omega (arith, input)) (record { is = three; files = refused.files; printed = refused.printed })) refused.work
]
