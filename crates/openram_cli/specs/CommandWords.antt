-- What the words ask: a build or a question, and how many workers may do it.
use Rattle.std.specs.Prelude.{◌≡◌, ℕ, ◌<◌, ◌≤◌, List, Option, Some, None}
use Rattle.build_command.specs.declared.words.Making as making
use Rattle.build_command.specs.Words.{IsMakingForm, AreNoMaking, told_making, HasMakingWorkers}
use Rattle.openram_cli.specs.declared.command.Inspection as declared_inspection
use Rattle.openram_cli.specs.declared.command.Inspection.TheVariants as asked
use Rattle.openram_cli.specs.declared.command.Command as declared
use Rattle.openram_cli.specs.declared.command.Command.TheVariants as variant
use Rattle.openram_cli.specs.declared.command.LayoutWords as declared_words
use Rattle.openram_cli.specs.declared.command.Question.{Question}
use Rattle.openram_cli.specs.Inspection.{Inspection, LayoutWords, inspection_of}
use Rattle.openram_cli.specs.Inspection.Inspection.{check, nets, compare, devices, kit}

-- over plain data
abbrev pub told_layout : declared_words.LayoutWords → LayoutWords
told_layout words = record { tech = words.tech.now; gds = words.gds.now; top = words.top.now }

abbrev pub told_inspection : declared_inspection.Inspection → Inspection
told_inspection (asked.Check words) = check (told_layout words)
told_inspection (asked.Nets words) = nets (told_layout words)
told_inspection (asked.Compare words netlist) = compare (told_layout words) netlist.now
told_inspection (asked.Devices tech) = devices tech.now
told_inspection (asked.Kit tech) = kit tech.now

-- how many workers may do it is no part of what is asked
abbrev pub told_question : Question → Inspection
told_question question = told_inspection question.asked

-- 1 to 64 workers
abbrev pub HasWorkers : Question → Type 0
HasWorkers question = (0 < question.workers) × (question.workers ≤ 64)

-- the words are this build, this demonstration or this read-only memory
pub record AreMaking (words : List (List ℕ)) (built : making.Making) : Type 0 where
  pub form : IsMakingForm words (told_making built)
  pub workers : HasMakingWorkers built

-- they build nothing, and are this question
pub record AreQuestion (words : List (List ℕ)) (question : Question) : Type 0 where
  pub no_making : AreNoMaking words
  pub form : inspection_of words ≡ Some (told_question question)
  pub workers : HasWorkers question

-- they are none of these
pub record AreNoCommand (words : List (List ℕ)) : Type 0 where
  pub no_making : AreNoMaking words
  pub no_form : inspection_of words ≡ None

-- what the words ask, if they do
abbrev pub IsCommandIn : List (List ℕ) → Option declared.Command → Type 0
IsCommandIn words (Some (variant.Make built)) = AreMaking words built
IsCommandIn words (Some (variant.Answer question)) = AreQuestion words question
IsCommandIn words None = AreNoCommand words
