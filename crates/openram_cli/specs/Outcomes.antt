-- That words and files have an answer, where memory lasts.
use Rattle.std.specs.Prelude.{◌≡◌, ℕ, List, Some}
use Rattle.or_host.specs.Files.{Files}
use Rattle.netlist.specs.declared.deck.Deck.{Deck}
use Rattle.reply_lines.specs.declared.reply.Reply.{Reply}
use Rattle.build_command.specs.OneDesign.{HoldBytes}
use Rattle.design_answers.specs.DesignAnswers.{HasOutcome}
use Rattle.openram_cli.specs.declared.inputs.LayoutInput.{LayoutInput}
use Rattle.openram_cli.specs.Answer.{IsAnswer, IsCheckAnswer, IsNetsAnswer, IsCompareAnswer}
use Rattle.openram_cli.specs.Inspection.{Inspection, inspection_of}
use Rattle.openram_cli.specs.Inspection.Inspection.{kit}
use Rattle.openram_cli.specs.Inputs.{AreInputs, IsReadLayout}

-- what the files of each command hold is read, or refused, over files of bytes
abbrev pub InputsHaveOutcomes : Type 0
InputsHaveOutcomes = (files : Files) (c : Inspection) → HoldBytes files → HasOutcome (AreInputs files c)

-- the work of `check`, `nets` and `compare` on each layout that is read has an outcome
abbrev pub ChecksHaveOutcomes : Type 0
ChecksHaveOutcomes = (layout : LayoutInput) → IsReadLayout layout → HasOutcome (IsCheckAnswer layout)

abbrev pub ListingsHaveOutcomes : Type 0
ListingsHaveOutcomes = (layout : LayoutInput) → IsReadLayout layout → HasOutcome (IsNetsAnswer layout)

abbrev pub ComparisonsHaveOutcomes : Type 0
ComparisonsHaveOutcomes = (layout : LayoutInput) (deck : Deck) → IsReadLayout layout → HasOutcome (IsCompareAnswer layout deck)

-- any command but `kit`
abbrev pub IsNoKit : Inspection → Type 0
IsNoKit (kit name) = ⊥
IsNoKit c = Unit {0}

-- over files of bytes, words that are such a command, or none, have an answer
abbrev pub AnswersAreThere : Type 0
AnswersAreThere = (words : List (List ℕ)) (files : Files) → HoldBytes files
    → ((c : Inspection) → inspection_of words ≡ Some c → IsNoKit c) → (reply : Reply) × IsAnswer words files reply
