-- A build with a good kit ends with no refusal that such a kit rules out.
use Rattle.std.proofs.Common.{◌≡◌, inl, inr, ◌∙◌, ℕ, Bool, true, false, List, [], ◌∷◌, Option, None, Some, refl, sym, ap, subst}
use Rattle.std.proofs.lemmas.Slice.Eq.{bytes_eq-Decides}
use Rattle.std.specs.Prelude.{Result, Ok, Err, MatchOption, if◌then◌else◌, ◌&&◌, codes}
use Rattle.std.specs.Str.{bytes_eq}
use Rattle.or_host.specs.Files.{Files}
use Rattle.reply_lines.specs.declared.refusal.Refusal.{Refusal}
use Rattle.reply_lines.specs.declared.reply.Reply.{Reply}
use Rattle.reply_lines.specs.Lines.{reply_line}
use Rattle.reply_lines.specs.Refusals.{refusal_words}
use Rattle.command_steps.specs.Outside.{Outside, IfTold}
use Rattle.command_steps.specs.Workers.{is_workers}
use Rattle.command_steps.proofs.OutcomeLaws.{told_map}
use Rattle.kit_command.specs.WeakLines.{IsKitReplied}
use Rattle.build_command.specs.declared.design.Design.{Design}
use Rattle.build_command.specs.Design.{IsDesign}
use Rattle.build_command.specs.OneDesign.{HoldBytes}
use Rattle.build_command.specs.Run.{IsMakingRefused, IsMakingRun}
use Rattle.build_command.specs.Words.{Making, IsMakingForm, build_form}
use Rattle.build_command.specs.Words.Making.{build, demo, rom}
use Rattle.good_kits.specs.Builds.{IsKitPassed, MayStillCome}
use Rattle.good_kits.proofs.BuildLaws.{good_kits_spare_runs}
use Rattle.openram_cli.specs.declared.inputs.Inputs.{Inputs}
use Rattle.openram_cli.specs.Answer.{IsCommandWork, IsReplyTo, IsUsage, reply_of}
use Rattle.openram_cli.specs.Inspection.Inspection.{kit}
use Rattle.openram_cli.specs.Run.{IsProgramRun}
use Rattle.openram_cli.specs.GoodKits.{IsFoundGood, EndsWithinGoodKit}

-- What `kit` answers of a kit is what the laws ask of it.

abbrev silent : Reply
silent = record { status = 0; lines = [] }

replied : (files : Files) (tech : List ℕ) (b : Bool) (result : Result Reply Refusal) → MatchOption (if b then Some (kit tech) else None) (IsUsage result) (λ c. IsCommandWork files c result) → silent ≡ reply_of result → IsKitPassed files tech
replied files tech b (Err refusal) work is = absurd (let e : ◌≡◌ {A = List (List ℕ)} [] (reply_line (refusal_words refusal) ∷ []) = ap (λ (r : Reply). r.lines) is in cc)
replied files tech false (Ok reply) work is = absurd work
replied files tech true (Ok reply) (read, (made, under, same), answered) is =
    let of_kit : IsKitReplied made reply = subst (λ (i : Inputs). IsReplyTo i (Ok reply)) same answered in
    record { kit = made; is = under; silent = subst (IsKitReplied made) (sym is) of_kit }

passed_of : (files : Files) (tech : List ℕ) → IsFoundGood files tech → IsKitPassed files tech
passed_of files tech (workers, answer) = replied files tech _ answer.result answer.work answer.is

-- The words of a build are those of nothing else.

build_words : (words : List (List ℕ)) (config : List ℕ) → build_form words ≡ Some config → (workers : List ℕ) × (words ≡ codes "build" ∷ (config ∷ (workers ∷ [])))
build_words [] config e = absurd cc
build_words (a ∷ []) config e = absurd cc
build_words (a ∷ (b ∷ [])) config e = absurd cc
build_words (a ∷ (b ∷ (c ∷ (d ∷ rest)))) config e = absurd cc
build_words (a ∷ (b ∷ (c ∷ []))) config e = by (bytes_eq a (codes "build")) refl (is_workers c) e where
  by : (named : Bool) → bytes_eq a (codes "build") ≡ named → (counted : Bool) → ◌≡◌ {A = Option (List ℕ)} (if named && counted then Some b else None) (Some config) → (workers : List ℕ) × ((a ∷ (b ∷ (c ∷ []))) ≡ codes "build" ∷ (config ∷ (workers ∷ [])))
  by false is counted e = absurd cc
  by true is false e = absurd cc
  by true is true e =
      let first : a ≡ codes "build" = (bytes_eq-Decides a (codes "build")).0 is in
      let second : b ≡ config = cc in
      (c, cc)

one_form : (words : List (List ℕ)) (config : List ℕ) (m : Making) → build_form words ≡ Some config → IsMakingForm words m → m ≡ build config
one_form words config (build other) e form = ap build (let same : other ≡ config = cc in same)
one_form words config (demo n) e form =
    let w = build_words words config e in
    absurd (let f = subst (λ (ws : List (List ℕ)). IsMakingForm ws (demo n)) w.1 form in let none = f.1 in cc)
one_form words config (rom c content) e form =
    let w = build_words words config e in
    absurd (let f = subst (λ (ws : List (List ℕ)). IsMakingForm ws (rom c content)) w.1 form in cc)

-- So it is of each run.

refused_ends : (config_file : List ℕ) (before now : Outside) → IsMakingRefused (build config_file) before now
    → IfTold before.store.files (λ files. (design : Design) → HoldBytes files → IsDesign files config_file (Ok design) → IsFoundGood files design.config.tech_name → (refused : IsMakingRefused (build config_file) before now) × MayStillCome refused.refusal)
refused_ends config_file before now refused =
    told_map before.store.files
    (λ files. (design : Design) → HoldBytes files → IsDesign files config_file (Ok design) → IsKitPassed files design.config.tech_name → MayStillCome refused.refusal)
    (λ files. (design : Design) → HoldBytes files → IsDesign files config_file (Ok design) → IsFoundGood files design.config.tech_name → (refused : IsMakingRefused (build config_file) before now) × MayStillCome refused.refusal)
    (λ files spared design hold is found. (refused, spared design hold is (passed_of files design.config.tech_name found)))
    (good_kits_spare_runs config_file before now refused)

pub ends_within_good_kit : (words : List (List ℕ)) (status : ℕ) (before now : Outside) → IsProgramRun words status before now → EndsWithinGoodKit words status before now
ends_within_good_kit words status before now (inr (none, run)) = λ config_file form three. absurd (none (build config_file) form)
ends_within_good_kit words status before now (inl (m, form, run)) = λ config_file asked three.
    let one = one_form words config_file m asked form in
    let same = subst (λ (k : Making). IsMakingRun k status before now) one run in
    refused_ends config_file before now (same.refused three)
