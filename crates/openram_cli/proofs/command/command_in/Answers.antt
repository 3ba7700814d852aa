use Rattle.std.proofs.Common.{◌∷◌, map, sym, ◌∙◌, refl, codes}
use Rattle.std.specs.Prelude.{string_bytes}
use Rattle.openram_cli.proofs.CommandLaws.{words_are, differs, no_making, no_question, only_check, only_nets, only_compare, only_devices, only_kit, made, answered}
use Rattle.openram_cli.proofs.command.command_in.Goals as goal

pub returns-in-build : goal.returns-in-build
returns-in-build c =
    let rest = map string_bytes c.in_ok-first.rest.now in
    let are = words_are string_bytes c.args.words.now c.in_ok-first.first.now c.in_ok-first.rest.now _ _ c.in_ok-first.ensures.cases.0 c.as_str.ensures.value c.in-build.is in
    rw are
    (made (codes "build" ∷ rest) c.build_in.result c.map.result (no_question (codes "build") rest refl refl refl refl refl) c.build_in.ensures.some c.build_in.ensures.none c.build_in.ensures.workers c.map.ensures.cases)

pub returns-in-demo : goal.returns-in-demo
returns-in-demo c =
    let rest = map string_bytes c.in_ok-first.rest.now in
    let are = words_are string_bytes c.args.words.now c.in_ok-first.first.now c.in_ok-first.rest.now _ _ c.in_ok-first.ensures.cases.0 c.as_str.ensures.value c.in-demo.is in
    rw are
    (made (codes "demo" ∷ rest) c.demo_in.result c.map-in-demo.result (no_question (codes "demo") rest refl refl refl refl refl) c.demo_in.ensures.some c.demo_in.ensures.none c.demo_in.ensures.workers c.map-in-demo.ensures.cases)

pub returns-in-rom : goal.returns-in-rom
returns-in-rom c =
    let rest = map string_bytes c.in_ok-first.rest.now in
    let are = words_are string_bytes c.args.words.now c.in_ok-first.first.now c.in_ok-first.rest.now _ _ c.in_ok-first.ensures.cases.0 c.as_str.ensures.value c.in-rom.is in
    rw are
    (made (codes "rom" ∷ rest) c.rom_in.result c.map-in-rom.result (no_question (codes "rom") rest refl refl refl refl refl) c.rom_in.ensures.some c.rom_in.ensures.none c.rom_in.ensures.workers c.map-in-rom.ensures.cases)

pub returns-in-check : goal.returns-in-check
returns-in-check c =
    let rest = map string_bytes c.in_ok-first.rest.now in
    let are = words_are string_bytes c.args.words.now c.in_ok-first.first.now c.in_ok-first.rest.now _ _ c.in_ok-first.ensures.cases.0 c.as_str.ensures.value c.in-check.is in
    rw are
    (answered (codes "check" ∷ rest) c.check_in.result c.map-in-check.result (no_making (codes "check") rest refl refl refl) (c.check_in.ensures.words ∙ sym (only_check rest)) c.check_in.ensures.workers c.map-in-check.ensures.cases)

pub returns-in-nets : goal.returns-in-nets
returns-in-nets c =
    let rest = map string_bytes c.in_ok-first.rest.now in
    let are = words_are string_bytes c.args.words.now c.in_ok-first.first.now c.in_ok-first.rest.now _ _ c.in_ok-first.ensures.cases.0 c.as_str.ensures.value c.in-nets.is in
    rw are
    (answered (codes "nets" ∷ rest) c.nets_in.result c.map-in-nets.result (no_making (codes "nets") rest refl refl refl) (c.nets_in.ensures.words ∙ sym (only_nets rest)) c.nets_in.ensures.workers c.map-in-nets.ensures.cases)

pub returns-in-compare : goal.returns-in-compare
returns-in-compare c =
    let rest = map string_bytes c.in_ok-first.rest.now in
    let are = words_are string_bytes c.args.words.now c.in_ok-first.first.now c.in_ok-first.rest.now _ _ c.in_ok-first.ensures.cases.0 c.as_str.ensures.value c.in-compare.is in
    rw are
    (answered (codes "compare" ∷ rest) c.compare_in.result c.map-in-compare.result (no_making (codes "compare") rest refl refl refl) (c.compare_in.ensures.words ∙ sym (only_compare rest)) c.compare_in.ensures.workers c.map-in-compare.ensures.cases)

pub returns-in-devices : goal.returns-in-devices
returns-in-devices c =
    let rest = map string_bytes c.in_ok-first.rest.now in
    let are = words_are string_bytes c.args.words.now c.in_ok-first.first.now c.in_ok-first.rest.now _ _ c.in_ok-first.ensures.cases.0 c.as_str.ensures.value c.in-devices.is in
    rw are
    (answered (codes "devices" ∷ rest) c.devices_in.result c.map-in-devices.result (no_making (codes "devices") rest refl refl refl) (c.devices_in.ensures.words ∙ sym (only_devices rest)) c.devices_in.ensures.workers c.map-in-devices.ensures.cases)

pub returns-in-kit : goal.returns-in-kit
returns-in-kit c =
    let rest = map string_bytes c.in_ok-first.rest.now in
    let are = words_are string_bytes c.args.words.now c.in_ok-first.first.now c.in_ok-first.rest.now _ _ c.in_ok-first.ensures.cases.0 c.as_str.ensures.value c.in-kit.is in
    rw are
    (answered (codes "kit" ∷ rest) c.kit_in.result c.map-in-kit.result (no_making (codes "kit") rest refl refl refl) (c.kit_in.ensures.words ∙ sym (only_kit rest)) c.kit_in.ensures.workers c.map-in-kit.ensures.cases)

pub returns-in_default : goal.returns-in_default
returns-in_default c =
    let first = c.as_str.result.now in
    let rest = map string_bytes c.in_ok-first.rest.now in
    let are = words_are string_bytes c.args.words.now c.in_ok-first.first.now c.in_ok-first.rest.now first first c.in_ok-first.ensures.cases.0 c.as_str.ensures.value refl in
    rw are (record {
      no_making = no_making first rest (differs _ _ c.in_default.not-build) (differs _ _ c.in_default.not-demo) (differs _ _ c.in_default.not-rom);
      no_form = no_question first rest (differs _ _ c.in_default.not-check) (differs _ _ c.in_default.not-nets) (differs _ _ c.in_default.not-compare) (differs _ _ c.in_default.not-devices) (differs _ _ c.in_default.not-kit);
    })
