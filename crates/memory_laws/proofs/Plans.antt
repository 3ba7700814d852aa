-- The laws for every plan, from those of its shape.
use Rattle.std.proofs.Common.{[], ◌∷◌, refl, sym, ◌∙◌}
use Rattle.memory_laws.specs.NetlistCircuit.{circuit}
use Rattle.memory_laws.specs.Run.{contents}
use Rattle.memory_laws.specs.Laws.{PhasesAgree, RunsAnswer, RunsExist, CommandsObey, RunsObey, PortsFit}
use Rattle.memory_laws.proofs.Circuits.{flipped, phase_same, command_same, start_same, run_same}
use Rattle.memory_laws.proofs.Direct.{direct, direct_same, place_same}
use Rattle.memory_laws.proofs.Unique.{is_value}
use Rattle.memory_laws.proofs.Runs.{masks_fit, masks_reached, answers, runs_exist, bank_fits}
use Rattle.memory_laws.proofs.Facts.{facts}

pub phases_agree : PhasesAgree
phases_agree p s i v u next other ok some a b x h =
    let same = direct_same p ok some in
    is_value p (masks_fit p ok) s i v next (phase_same (circuit p) (direct p) same s i v next a) x (same.knows x h) ∙ sym (is_value p (masks_fit p ok) s i u other (phase_same (circuit p) (direct p) same s i u other b) x (same.knows x h))

pub runs_answer : RunsAnswer
runs_answer p s cs vs end ok some start range run =
    let same = direct_same p ok some in
    answers p (masks_fit p ok) cs s (contents p s) vs end (start_same (circuit p) (direct p) same s start) range (λ a i x y. refl) (run_same (circuit p) (direct p) same s cs vs end run)

pub runs_exist_for : RunsExist
runs_exist_for p s cs ok some =
    let run = runs_exist p s cs in
    (run.0, run.1, run_same (direct p) (circuit p) (flipped (circuit p) (direct p) (direct_same p ok some)) s cs run.0 run.1 run.2)

pub commands_obey : CommandsObey
commands_obey p s c v end ok some start range run =
    let same = direct_same p ok some in
    let f = facts p (masks_fit p ok) (masks_reached p ok) s c v end (start_same (circuit p) (direct p) same s start) (bank_fits p c.addr range) (command_same (circuit p) (direct p) same s c v end run) in
    (start_same (direct p) (circuit p) (flipped (circuit p) (direct p) same) end f.0, f.1)

pub runs_obey : RunsObey
runs_obey p s [] vs end ok some start range run = tt
runs_obey p s (c ∷ cs) [] end ok some start range run = tt
runs_obey p s (c ∷ cs) (v ∷ vs) end ok some start range run =
    let f = commands_obey p s c v run.0 ok some start range.0 run.1 in
    (f.1, runs_obey p run.0 cs vs end ok some f.0 range.1 run.2)

pub ports_fit : PortsFit
ports_fit p leaf ok there = (place_same p leaf there ok).count
