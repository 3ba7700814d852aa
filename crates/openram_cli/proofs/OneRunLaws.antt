-- A run ends as the one answer says.
use Rattle.std.proofs.Common.{◌≡◌, ℕ, List, inl, inr, ap, subst, ◌∙◌}
use Rattle.or_host.specs.Fault.{Rose}
use Rattle.or_host.specs.Files.{Files}
use Rattle.or_host.specs.Text.{Grows}
use Rattle.reply_lines.specs.Lines.{lines_text}
use Rattle.reply_lines.specs.declared.reply.Reply.{Reply}
use Rattle.build_command.specs.OneDesign.{HoldBytes}
use Rattle.command_steps.proofs.EndLaws.{followed, grows}
use Rattle.command_steps.proofs.OutcomeLaws.{told_map}
use Rattle.command_steps.specs.Finished.{AreSomeLines, IsCut, IsMemorySaid, IsStopped, memory_line}
use Rattle.command_steps.specs.Outside.{Outside}
use Rattle.command_steps.specs.Printed.{AreFirstLines, IsPrefixOf, IsWholeText}
use Rattle.openram_cli.specs.Answer.{IsAnswer}
use Rattle.openram_cli.specs.OneAnswer.{EndsAsAnswer, EndsAsReply}
use Rattle.openram_cli.specs.Run.{AreAnswerLines, IsAnswerRun, IsCutText, IsFaultEnd, IsMemoryEnd, IsMemoryText, IsRunEnd}
use Rattle.openram_cli.proofs.OneAnswer.{one_answer}

-- where each answer is this reply
module _ (words : List (List ℕ)) (files : Files) (reply : Reply) (one : (other : Reply) → IsAnswer words files other → other ≡ reply) where
  some_lines : (text : List ℕ) → AreAnswerLines words files text → AreSomeLines reply.lines text
  some_lines text (inl none) = inl none
  some_lines text (inr (other, is, first)) = inr (subst (λ (r : Reply). AreFirstLines r.lines text) (one other is) first)

  cut_text : (text : List ℕ) → IsCutText words files text → IsCut reply.lines text
  cut_text text (inl (other, is, prefix)) = inl (subst (λ (r : Reply). IsPrefixOf (lines_text r.lines) text) (one other is) prefix)
  cut_text text (inr after) = inr (followed (AreAnswerLines words files) (AreSomeLines reply.lines) (IsPrefixOf memory_line) some_lines text after)

  stopped_text : (text : List ℕ) → IsMemoryText words files text → IsStopped reply.lines text
  stopped_text = followed (AreAnswerLines words files) (AreSomeLines reply.lines) IsMemorySaid some_lines

  end_cut : (before now : Outside) → ¬ Rose before.store.faults now.store.faults → IsFaultEnd words files before now → Grows (IsCut reply.lines) before.sink.text now.sink.text
  end_cut before now kept (inl unread) = absurd (kept unread.0)
  end_cut before now kept (inr (inl unread)) = absurd (kept unread.0)
  end_cut before now kept (inr (inr cut)) = grows (IsCutText words files) (IsCut reply.lines) before.sink.text now.sink.text cut_text cut.2

  end_stopped : (before now : Outside) → ¬ Rose before.store.faults now.store.faults → IsMemoryEnd words files before now → Grows (IsStopped reply.lines) before.sink.text now.sink.text
  end_stopped before now kept (inl stopped) = grows (IsMemoryText words files) (IsStopped reply.lines) before.sink.text now.sink.text stopped_text stopped.1
  end_stopped before now kept (inr unread) = absurd (kept unread.0)

  ends_as_reply : (status : ℕ) (before now : Outside) → IsRunEnd words files status before now → EndsAsReply reply status before now
  ends_as_reply status before now end = record {
    is = λ below. let answered = end.answered below in answered.status_is ∙ ap (λ (r : Reply). r.status) (one answered.reply answered.is);
    whole = λ below.
        let answered = end.answered below in
        subst (λ (r : Reply). Grows (IsWholeText (lines_text r.lines)) before.sink.text now.sink.text) (one answered.reply answered.is) answered.printed;
    cut = λ four kept. end_cut before now kept (end.cut four);
    stopped = λ five kept. end_stopped before now kept (end.memory five);
  }

pub ends_as_answer : (words : List (List ℕ)) (status : ℕ) (before now : Outside) → IsAnswerRun words status before now → EndsAsAnswer words status before now
ends_as_answer words status before now run none =
    told_map before.store.files (λ files. IsRunEnd words files status before now) (λ files. HoldBytes files → (reply : Reply) → IsAnswer words files reply → EndsAsReply reply status before now)
    (λ files end hold reply is. ends_as_reply words files reply (λ other also. one_answer words files none hold other reply also is) status before now end) run.told
