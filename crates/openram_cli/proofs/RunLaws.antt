-- From the outcome of the work and the printing of it to what a run does.
use Rattle.std.proofs.Common.{◌≡◌, ◌<◌, ◌↔◌, ℕ, Bool, true, false, List, [], Option, Some, None, Ok, Err, refl, sym, ap, inl, inr, subst, ◌∙◌, arith}
use Rattle.std.proofs.lemmas.List.{append-nil}
use Rattle.std.specs.Prelude.{MatchOption, if◌then◌else◌}
use Rattle.std.specs.Option.{is_none}
use Rattle.or_host.specs.Fault.{Rose, IsNameTold}
use Rattle.or_host.specs.Files.{Files}
use Rattle.reply_lines.specs.declared.refusal.Refusal.{Refusal}
use Rattle.reply_lines.specs.declared.refusal.Refusal.TheVariants.{Usage, ReadFailed}
use Rattle.reply_lines.specs.declared.reply.Reply.{Reply}
use Rattle.reply_lines.specs.Lines.{reply_line, lines_text}
use Rattle.reply_lines.specs.Refusals.{refusal_words}
use Rattle.reply_lines.specs.Reply.{refusal_reply}
use Rattle.reply_lines.specs.Statuses.{is_memory, is_read_failure, is_usage, refusal_status}
use Rattle.openram_cli.specs.Answer.{IsWork, IsAnswer, IsRead, IsUsage, IsCommandWork}
use Rattle.openram_cli.specs.Inspection.{Inspection, inspection_of}
use Rattle.command_steps.specs.Finished.{AreSomeLines, IsCut, IsStopped, IsMemorySaid, IsFinished, IsOutOfMemory, IsFaultLinePrinted, IsRefusalPrinted, memory_line, unread_line}
use Rattle.command_steps.specs.Outcome.{UnlessMemory}
use Rattle.command_steps.specs.Outside.{Outside, IfTold}
use Rattle.command_steps.specs.Printed.{IsWholeText, IsPrefixOf}
use Rattle.command_steps.specs.Reading.{HasRead}
use Rattle.openram_cli.specs.Run.{IsRunEnd, IsAnswerRun, IsCutText, IsMemoryText, AreAnswerLines, IsReadText, IsNothingOf, usage_line}
use Rattle.command_steps.proofs.EndLaws.{grows, followed, alone}
use Rattle.command_steps.proofs.OutcomeLaws.{told_all, told_map}

-- the texts of the answer
answer_lines : (words : List (List ℕ)) (files : Files) (reply : Reply) → IsAnswer words files reply → (text : List ℕ) → AreSomeLines reply.lines text → AreAnswerLines words files text
answer_lines words files reply is text (inl none) = inl none
answer_lines words files reply is text (inr first) = inr (reply, is, first)

answer_cut : (words : List (List ℕ)) (files : Files) (reply : Reply) → IsAnswer words files reply → (text : List ℕ) → IsCut reply.lines text → IsCutText words files text
answer_cut words files reply is text (inl prefix) = inl (reply, is, prefix)
answer_cut words files reply is text (inr t) =
    inr (followed (AreSomeLines reply.lines) (AreAnswerLines words files) (IsPrefixOf memory_line) (answer_lines words files reply is) text t)

answer_stopped : (words : List (List ℕ)) (files : Files) (reply : Reply) → IsAnswer words files reply → (text : List ℕ) → IsStopped reply.lines text → IsMemoryText words files text
answer_stopped words files reply is text t = followed (AreSomeLines reply.lines) (AreAnswerLines words files) IsMemorySaid (answer_lines words files reply is) text t

-- the answer is printed
answer_end : (words : List (List ℕ)) (files : Files) (reply : Reply) (ended : ℕ) (before now : Outside) → IsAnswer words files reply → now.store.faults ≡ before.store.faults → IsFinished reply ended before.sink now.sink
    → IsRunEnd words files ended before now
answer_end words files reply ended before now is kept (inl whole) =
    let low = is.settled in
    record {
      answered = λ below. record { reply = reply; is = is; status_is = whole.is; printed = whole.text; puts = whole.puts };
      cut = λ four. absurd (omega (arith, low));
      memory = λ five. absurd (omega (arith, low));
    }
answer_end words files reply ended before now is kept (inr (inl cut)) = record {
  answered = λ below. absurd (omega arith);
  cut = λ four. inr (inr (kept, cut.rose, grows (IsCut reply.lines) (IsCutText words files) before.sink.text now.sink.text (answer_cut words files reply is) cut.text));
  memory = λ five. absurd (omega arith);
}
answer_end words files reply ended before now is kept (inr (inr stopped)) = record {
  answered = λ below. absurd (omega arith);
  cut = λ four. absurd (omega arith);
  memory = λ five. inl (kept, grows (IsStopped reply.lines) (IsMemoryText words files) before.sink.text now.sink.text (answer_stopped words files reply is) stopped.text);
}

-- memory ran out before there was an answer
memory_end : (words : List (List ℕ)) (files : Files) (ended : ℕ) (before now : Outside) → now.store.faults ≡ before.store.faults → IsOutOfMemory ended before.sink now.sink → IsRunEnd words files ended before now
memory_end words files ended before now kept (inl cut) = record {
  answered = λ below. absurd (omega arith);
  cut = λ four. inr (inr (
    kept,
    cut.rose,
    grows (IsPrefixOf memory_line) (IsCutText words files) before.sink.text now.sink.text (λ text prefix. inr (alone (AreAnswerLines words files) (IsPrefixOf memory_line) (inl refl) text prefix)) cut.text,
  ));
  memory = λ five. absurd (omega arith);
}
memory_end words files ended before now kept (inr said) = record {
  answered = λ below. absurd (omega arith);
  cut = λ four. absurd (omega arith);
  memory = λ five. inl (kept, grows IsMemorySaid (IsMemoryText words files) before.sink.text now.sink.text (alone (AreAnswerLines words files) IsMemorySaid (inl refl)) said.text);
}

-- a read failed
unread_end : (words : List (List ℕ)) (files : Files) (name : List ℕ) (ended : ℕ) (before now : Outside) → IsRead words files name → Rose before.store.faults now.store.faults → IsNameTold now.store.failed name
    → IsFaultLinePrinted (unread_line name) ended before.sink now.sink → IsRunEnd words files ended before now
unread_end words files name ended before now read rose named (inl whole) = record {
  answered = λ below. absurd (omega arith);
  cut = λ four. inl (
    rose,
    whole.kept,
    grows (IsWholeText (unread_line name)) (IsReadText words files now.store.failed IsWholeText) before.sink.text now.sink.text (λ text is. record { name = name; read = read; named = named; line = is }) whole.text,
  );
  memory = λ five. absurd (omega arith);
}
unread_end words files name ended before now read rose named (inr (inl cut)) = record {
  answered = λ below. absurd (omega arith);
  cut = λ four. inr (inl (
    rose,
    cut.rose,
    grows (IsPrefixOf (unread_line name)) (IsReadText words files now.store.failed IsPrefixOf) before.sink.text now.sink.text (λ text is. record { name = name; read = read; named = named; line = is }) cut.text,
  ));
  memory = λ five. absurd (omega arith);
}
unread_end words files name ended before now read rose named (inr (inr silent)) = record {
  answered = λ below. absurd (omega arith);
  cut = λ four. absurd (omega arith);
  memory = λ five. inr (
    rose,
    grows (λ text. text ≡ []) (IsReadText words files now.store.failed IsNothingOf) before.sink.text now.sink.text (λ text is. record { name = name; read = read; named = named; line = is }) silent.text,
  );
}

-- what is known of a reply to words, wherever the files are told
pub record IsFitting (words : List (List ℕ)) (reply : Reply) : Type 0 where
  pub low : reply.status < 4
  pub usage : (reply.status ≡ 2) ↔ (inspection_of words ≡ None)
  pub line : reply.status ≡ 2 → lines_text reply.lines ≡ usage_line

-- the run that prints it
finished_run : (words : List (List ℕ)) (reply : Reply) (ended : ℕ) (before now : Outside) → IsFitting words reply → IfTold before.store.files (λ files. IsAnswer words files reply)
    → (inspection_of words ≡ None → (files : Files) → IsAnswer words files reply) → now.store.files ≡ before.store.files → now.store.faults ≡ before.store.faults → IsFinished reply ended before.sink now.sink → IsAnswerRun words ended before now
finished_run words reply ended before now fits told free same kept (inl whole) =
    let low = fits.low in
    record {
      range = omega (arith, low);
      told = told_map before.store.files (λ files. IsAnswer words files reply) (λ files. IsRunEnd words files ended before now) (λ files is. answer_end words files reply ended before now is kept (inl whole)) told;
      no_form = λ none files. answer_end words files reply ended before now (free none files) kept (inl whole);
      clean = λ below. (kept, whole.kept);
      usage = λ below. (λ two. fits.usage.0 (sym whole.is ∙ two), λ none. whole.is ∙ fits.usage.1 none);
      usage_text = λ two. grows (IsWholeText (lines_text reply.lines)) (IsWholeText usage_line) before.sink.text now.sink.text (λ text is. is ∙ fits.line (sym whole.is ∙ two)) whole.text;
      fault = λ four. absurd (omega (arith, low));
      named = λ four. absurd (omega (arith, low));
      memory_clean = λ five. absurd (omega (arith, low));
      silent = λ five. inl kept;
      files = same;
    }
finished_run words reply ended before now fits told free same kept (inr (inl cut)) = record {
  range = omega arith;
  told = told_map before.store.files (λ files. IsAnswer words files reply) (λ files. IsRunEnd words files ended before now) (λ files is. answer_end words files reply ended before now is kept (inr (inl cut))) told;
  no_form = λ none files. answer_end words files reply ended before now (free none files) kept (inr (inl cut));
  clean = λ below. absurd (omega arith);
  usage = λ below. absurd (omega arith);
  usage_text = λ two. absurd (omega arith);
  fault = λ four. inr cut.rose;
  named = λ four. inl cut.rose;
  memory_clean = λ five. absurd (omega arith);
  silent = λ five. inl kept;
  files = same;
}
finished_run words reply ended before now fits told free same kept (inr (inr stopped)) = record {
  range = omega arith;
  told = told_map before.store.files (λ files. IsAnswer words files reply) (λ files. IsRunEnd words files ended before now) (λ files is. answer_end words files reply ended before now is kept (inr (inr stopped))) told;
  no_form = λ none files. answer_end words files reply ended before now (free none files) kept (inr (inr stopped));
  clean = λ below. absurd (omega arith);
  usage = λ below. absurd (omega arith);
  usage_text = λ two. absurd (omega arith);
  fault = λ four. absurd (omega arith);
  named = λ four. absurd (omega arith);
  memory_clean = λ five. stopped.kept;
  silent = λ five. inl kept;
  files = same;
}

-- the run where memory ran out before there was an answer
memory_run : (words : List (List ℕ)) (ended : ℕ) (before now : Outside) → now.store.files ≡ before.store.files → now.store.faults ≡ before.store.faults → IsOutOfMemory ended before.sink now.sink → IsAnswerRun words ended before now
memory_run words ended before now same kept (inl cut) = record {
  range = omega arith;
  told = told_all before.store.files (λ files. IsRunEnd words files ended before now) (λ files. memory_end words files ended before now kept (inl cut));
  no_form = λ none files. memory_end words files ended before now kept (inl cut);
  clean = λ below. absurd (omega arith);
  usage = λ below. absurd (omega arith);
  usage_text = λ two. absurd (omega arith);
  fault = λ four. inr cut.rose;
  named = λ four. inl cut.rose;
  memory_clean = λ five. absurd (omega arith);
  silent = λ five. inl kept;
  files = same;
}
memory_run words ended before now same kept (inr said) = record {
  range = omega arith;
  told = told_all before.store.files (λ files. IsRunEnd words files ended before now) (λ files. memory_end words files ended before now kept (inr said));
  no_form = λ none files. memory_end words files ended before now kept (inr said);
  clean = λ below. absurd (omega arith);
  usage = λ below. absurd (omega arith);
  usage_text = λ two. absurd (omega arith);
  fault = λ four. absurd (omega arith);
  named = λ four. absurd (omega arith);
  memory_clean = λ five. said.kept;
  silent = λ five. inl kept;
  files = same;
}

-- the run where a read failed; words that are no form read nothing
unread_run : (words : List (List ℕ)) (name : List ℕ) (ended : ℕ) (before now : Outside) → (inspection_of words ≡ None → ⊥) → IfTold before.store.files (λ files. IsRead words files name)
    → now.store.files ≡ before.store.files → Rose before.store.faults now.store.faults → IsNameTold now.store.failed name → IsFaultLinePrinted (unread_line name) ended before.sink now.sink → IsAnswerRun words ended before now
unread_run words name ended before now form told same rose named (inl whole) = record {
  range = omega arith;
  told = told_map before.store.files (λ files. IsRead words files name) (λ files. IsRunEnd words files ended before now) (λ files read. unread_end words files name ended before now read rose named (inl whole)) told;
  no_form = λ none files. absurd (form none);
  clean = λ below. absurd (omega arith);
  usage = λ below. absurd (omega arith);
  usage_text = λ two. absurd (omega arith);
  fault = λ four. inl rose;
  named = λ four. inr (record { name = name; rose = rose; named = named; printed = whole.text; put = whole.puts });
  memory_clean = λ five. absurd (omega arith);
  silent = λ five. absurd (omega arith);
  files = same;
}
unread_run words name ended before now form told same rose named (inr (inl cut)) = record {
  range = omega arith;
  told = told_map before.store.files (λ files. IsRead words files name) (λ files. IsRunEnd words files ended before now) (λ files read. unread_end words files name ended before now read rose named (inr (inl cut))) told;
  no_form = λ none files. absurd (form none);
  clean = λ below. absurd (omega arith);
  usage = λ below. absurd (omega arith);
  usage_text = λ two. absurd (omega arith);
  fault = λ four. inl rose;
  named = λ four. inl cut.rose;
  memory_clean = λ five. absurd (omega arith);
  silent = λ five. absurd (omega arith);
  files = same;
}
unread_run words name ended before now form told same rose named (inr (inr silent)) = record {
  range = omega arith;
  told = told_map before.store.files (λ files. IsRead words files name) (λ files. IsRunEnd words files ended before now) (λ files read. unread_end words files name ended before now read rose named (inr (inr silent))) told;
  no_form = λ none files. absurd (form none);
  clean = λ below. absurd (omega arith);
  usage = λ below. absurd (omega arith);
  usage_text = λ two. absurd (omega arith);
  fault = λ four. absurd (omega arith);
  named = λ four. absurd (omega arith);
  memory_clean = λ five. silent.kept;
  silent = λ five. inr (rose, silent.text);
  files = same;
}

-- words are a form where they aren't refused as none
formed : (o : Option Inspection) → false ≡ is_none o → o ≡ None → ⊥
formed None e none = absurd cc
formed (Some c) e none = absurd cc

usage_is : (refusal : Refusal) → is_usage refusal ≡ true → refusal ≡ Usage
usage_is Usage e = refl
usage_is other e = absurd cc

-- the words that are no form are refused, whatever the files are
usage_free : (words : List (List ℕ)) (files : Files) (refusal : Refusal) → is_usage refusal ≡ is_none (inspection_of words) → inspection_of words ≡ None → IsWork words files (Err refusal)
usage_free words files refusal e none =
    let is : refusal ≡ Usage = usage_is refusal (e ∙ subst (λ (o : Option Inspection). is_none o ≡ true) (sym none) refl) in
    subst (λ (o : Option Inspection). MatchOption o (IsUsage (Err refusal)) (λ c. IsCommandWork files c (Err refusal))) (sym none) is

-- a refusal's status
low_status : (a b c : Bool) → a ≡ false → b ≡ false → (if a then 5 else (if b then 4 else (if c then 2 else 3))) < 4
low_status true b c e f = absurd cc
low_status false true c e f = absurd cc
low_status false false true e f = omega arith
low_status false false false e f = omega arith

usage_status : (a b c : Bool) (o : Option Inspection) → a ≡ false → b ≡ false → c ≡ is_none o → (◌≡◌ {A = ℕ} (if a then 5 else (if b then 4 else (if c then 2 else 3))) 2) ↔ (o ≡ None)
usage_status true b c o e f g = absurd cc
usage_status false true c o e f g = absurd cc
usage_status false false true None e f g = (λ two. refl, λ none. refl)
usage_status false false true (Some c) e f g = absurd cc
usage_status false false false None e f g = absurd cc
usage_status false false false (Some c) e f g = (λ two. absurd (omega arith), λ none. absurd cc)

usage_at_two : (a b c : Bool) → ◌≡◌ {A = ℕ} (if a then 5 else (if b then 4 else (if c then 2 else 3))) 2 → c ≡ true
usage_at_two true b c e = absurd (omega arith)
usage_at_two false true c e = absurd (omega arith)
usage_at_two false false true e = refl
usage_at_two false false false e = absurd (omega arith)

usage_text : (refusal : Refusal) → refusal_status refusal ≡ 2 → lines_text (refusal_reply refusal).lines ≡ usage_line
usage_text refusal two =
    let is : refusal ≡ Usage = usage_is refusal (usage_at_two (is_memory refusal) (is_read_failure refusal) (is_usage refusal) two) in
    ap (λ (r : Refusal). lines_text (refusal_reply r).lines) is ∙ append-nil usage_line

-- the run of an answer
pub answer_run : (words : List (List ℕ)) (reply : Reply) (ended : ℕ) (before now : Outside) → HasRead (IsWork words) (Ok reply) before.store now.store → reply.status < 2 → false ≡ is_none (inspection_of words)
    → IsFinished reply ended before.sink now.sink → IsAnswerRun words ended before now
answer_run words reply ended before now read small form finished =
    let low : reply.status < 4 = omega arith in
    let is : (files : Files) → IsWork words files (Ok reply) → IsAnswer words files reply = λ files work. record { result = Ok reply; work = work; is = refl; settled = low } in
    let fits : IsFitting words reply = record { low = low; usage = (λ two. absurd (omega arith), λ none. absurd (formed (inspection_of words) form none)); line = λ two. absurd (omega arith) } in
    finished_run words reply ended before now fits (told_map before.store.files (λ files. IsWork words files (Ok reply)) (λ files. IsAnswer words files reply) is read.told)
    (λ none files. absurd (formed (inspection_of words) form none)) read.same (read.cause.kept refl) finished

-- the run of a refusal that is an answer
refused_run : (words : List (List ℕ)) (refusal : Refusal) (ended : ℕ) (before now : Outside) → HasRead (IsWork words) (Err refusal) before.store now.store → is_usage refusal ≡ is_none (inspection_of words)
    → is_memory refusal ≡ false → is_read_failure refusal ≡ false → IsFinished (refusal_reply refusal) ended before.sink now.sink → IsAnswerRun words ended before now
refused_run words refusal ended before now read usage lasts readable finished =
    let low : refusal_status refusal < 4 = low_status (is_memory refusal) (is_read_failure refusal) (is_usage refusal) lasts readable in
    let is : (files : Files) → IsWork words files (Err refusal) → IsAnswer words files (refusal_reply refusal) = λ files work. record { result = Err refusal; work = work; is = refl; settled = low } in
    let fits : IsFitting words (refusal_reply refusal) = record {
      low = low;
      usage = usage_status (is_memory refusal) (is_read_failure refusal) (is_usage refusal) (inspection_of words) lasts readable usage;
      line = usage_text refusal;
    } in
    finished_run words (refusal_reply refusal) ended before now fits
    (told_map before.store.files (λ files. UnlessMemory (IsWork words files) (Err refusal)) (λ files. IsAnswer words files (refusal_reply refusal)) (λ files work. is files (work lasts)) read.told)
    (λ none files. is files (usage_free words files refusal usage none)) read.same (read.cause.kept readable) finished

-- the run of a failed read
read_failed_run : (words : List (List ℕ)) (refusal : Refusal) (ended : ℕ) (before now : Outside) → HasRead (IsWork words) (Err refusal) before.store now.store → is_usage refusal ≡ is_none (inspection_of words)
    → is_read_failure refusal ≡ true → IsFaultLinePrinted (reply_line (refusal_words refusal)) ended before.sink now.sink → IsAnswerRun words ended before now
read_failed_run words (ReadFailed name) ended before now read usage failed printed =
    unread_run words name ended before now (formed (inspection_of words) usage)
    (told_map before.store.files (λ files. UnlessMemory (IsWork words files) (Err (ReadFailed name))) (λ files. IsRead words files name) (λ files work. work refl) read.told) read.same (read.cause.rose refl) read.named printed
read_failed_run words other ended before now read usage failed printed = absurd cc

readable : (refusal : Refusal) → is_memory refusal ≡ true → is_read_failure refusal ≡ false
readable (ReadFailed name) e = absurd cc
readable other e = refl

pub refusal_run : (words : List (List ℕ)) (refusal : Refusal) (ended : ℕ) (before now : Outside) → HasRead (IsWork words) (Err refusal) before.store now.store → is_usage refusal ≡ is_none (inspection_of words)
    → IsRefusalPrinted refusal ended before.sink now.sink → IsAnswerRun words ended before now
refusal_run words refusal ended before now read usage (inl out) = memory_run words ended before now read.same (read.cause.kept (readable refusal out.0)) out.1
refusal_run words refusal ended before now read usage (inr (inl unread)) = read_failed_run words refusal ended before now read usage unread.0 unread.1
refusal_run words refusal ended before now read usage (inr (inr finished)) = refused_run words refusal ended before now read usage finished.0 finished.1 finished.2
