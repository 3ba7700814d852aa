-- The work on words that are a command.
use Rattle.std.specs.Prelude.{MatchOption}
use Rattle.std.proofs.Common.{◌≡◌, ℕ, List, Option, Some, Result, subst}
use Rattle.reply_lines.specs.declared.refusal.Refusal.{Refusal}
use Rattle.reply_lines.specs.declared.reply.Reply.{Reply}
use Rattle.openram_cli.specs.Answer.{IsUsage, IsCommandWork, IsWork}
use Rattle.openram_cli.specs.Inspection.{Inspection, inspection_of}
use Rattle.or_host.specs.State.{StoreState}
use Rattle.command_steps.specs.Reading.{HasRead}

-- the work on words that are a command
pub work_of : (words : List (List ℕ)) (c : Inspection) (result : Result Reply Refusal) (before now : StoreState) → Some c ≡ inspection_of words
    → HasRead (λ files. IsCommandWork files c) result before now → HasRead (IsWork words) result before now
work_of words c result before now is read =
    let on : Option Inspection → Type 0 = λ o. HasRead (λ files result. MatchOption o (IsUsage result) (λ c. IsCommandWork files c result)) result before now in
    subst on is read
