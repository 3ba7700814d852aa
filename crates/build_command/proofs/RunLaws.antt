-- From how the work and the writing end to what a run does that builds a memory.
use Rattle.std.proofs.Common.{◌≡◌, ◌⊎◌, ℕ, ◌<◌, ◌≤◌, Bool, true, false, List, [], ◌∷◌, ◌++◌, Option, Ok, Err, refl, sym, inl, inr, subst, ◌∙◌, arith}
use Rattle.std.proofs.lemmas.List.{append-nil}
use Rattle.std.specs.Prelude.{codes, if◌then◌else◌}
use Rattle.or_host.specs.Fault.{Rose, HasCause, NamesLast, IsNameTold, name_if}
use Rattle.or_host.specs.FileList.{files_of}
use Rattle.or_host.specs.Files.{Files, Told}
use Rattle.or_host.specs.declared.file.MemFile.{MemFile}
use Rattle.or_host.specs.declared.store.WriteFail.{WriteFail}
use Rattle.or_host.specs.declared.store.WriteFail.TheVariants as write
use Rattle.reply_lines.specs.Lines.{reply_line, lines_text}
use Rattle.reply_lines.specs.Refusals.{refusal_words}
use Rattle.reply_lines.specs.Statuses.{is_memory, is_read_failure, is_usage}
use Rattle.reply_lines.specs.declared.refusal.Refusal.{Refusal}
use Rattle.reply_lines.specs.declared.refusal.Refusal.TheVariants.{ReadFailed}
use Rattle.command_steps.proofs.EndLaws.{grows}
use Rattle.command_steps.proofs.OutcomeLaws.{told_all, told_map, no_name, names_on}
use Rattle.command_steps.specs.Finished.{IsFinished, IsOutOfMemory, IsFaultLinePrinted, IsUnwrittenPrinted, IsRefusalPrinted, IsFaultPrinted, unread_line, unwritten_line}
use Rattle.command_steps.specs.Outcome.{UnlessMemory, unread_name}
use Rattle.or_host.specs.State.{StoreState, SinkState}
use Rattle.command_steps.specs.Outside.{Outside, outside_at}
use Rattle.command_steps.specs.Printed.{IsWholeText}
use Rattle.command_steps.specs.Reading.{HasRead}
use Rattle.command_steps.specs.Writing.{AreWritten, EndsAt, is_write_failure}
use Rattle.build_command.specs.declared.made.Made.{Made}
use Rattle.build_command.specs.Demonstration.{demo_files}
use Rattle.build_command.specs.Made.{IsWork}
use Rattle.build_command.specs.Held.{first_files}
use Rattle.build_command.specs.Run.{IsMakingWork, IsWriteCut, IsPutOut, IsDemoBuilt, IsDemoWritten, IsWorkRefused, IsViewCut, IsPut, IsMakingEnd, IsMakingFaultPrinted, IsMakingRun, ReadsFilesOnly}
use Rattle.build_command.specs.Words.{Making}
use Rattle.build_command.specs.Words.Making.{demo}
use Rattle.build_command.proofs.HeldLaws.{told_held}
use Rattle.build_command.proofs.StepLaws.{kept_cause}
use Rattle.build_command.proofs.WriteLaws.{told_same, told_then, told_cut}

-- status 4, where a fault rose, or 5
pub record IsHighEnd (status : ℕ) (before now : Outside) : Type 0 where
  pub high : 4 ≤ status
  pub range : status < 6
  pub fault : status ≡ 4 → Rose before.store.faults now.store.faults ⊎ Rose before.sink.faults now.sink.faults
  pub named : status ≡ 4 → IsMakingFaultPrinted before now
  pub memory_clean : status ≡ 5 → now.sink.faults ≡ before.sink.faults

four_end : (status : ℕ) (before now : Outside) → status ≡ 4 → Rose before.store.faults now.store.faults ⊎ Rose before.sink.faults now.sink.faults → IsMakingFaultPrinted before now → IsHighEnd status before now
four_end status before now is rose named = record { high = omega (arith, is); range = omega (arith, is); fault = λ four. rose; named = λ four. named; memory_clean = λ five. absurd (omega (arith, is, five)) }

five_end : (status : ℕ) (before now : Outside) → status ≡ 5 → now.sink.faults ≡ before.sink.faults → IsHighEnd status before now
five_end status before now is kept = record { high = omega (arith, is); range = omega (arith, is); fault = λ four. absurd (omega (arith, is, four)); named = λ four. absurd (omega (arith, is, four)); memory_clean = λ five. kept }

out_end : (status : ℕ) (before now : Outside) → IsOutOfMemory status before.sink now.sink → IsHighEnd status before now
out_end status before now (inl cut) = four_end status before now cut.is (inr cut.rose) (inl cut.rose)
out_end status before now (inr said) = five_end status before now said.is said.kept

-- a call of this name failed, and its line is printed, or part of it
module _ (line_of : List ℕ → List ℕ) (before now : Outside) (kind : IsFaultPrinted line_of before now → IsMakingFaultPrinted before now) where
  fault_end : (name : List ℕ) (status : ℕ) → Rose before.store.faults now.store.faults → IsNameTold now.store.failed name → IsFaultLinePrinted (line_of name) status before.sink now.sink → IsHighEnd status before now
  fault_end name status rose named (inl whole) = four_end status before now whole.is (inl rose) (kind (record { name = name; rose = rose; named = named; printed = whole.text; put = whole.puts }))
  fault_end name status rose named (inr (inl cut)) = four_end status before now cut.is (inl rose) (inl cut.rose)
  fault_end name status rose named (inr (inr silent)) = five_end status before now silent.is silent.kept

unread_end : (refusal : Refusal) (status : ℕ) (before now : Outside) → is_read_failure refusal ≡ true → Rose before.store.faults now.store.faults
    → NamesLast (unread_name refusal) before.store.failed now.store.failed → IsFaultLinePrinted (reply_line (refusal_words refusal)) status before.sink now.sink → IsHighEnd status before now
unread_end (ReadFailed name) status before now failed rose named printed = fault_end unread_line before now (λ is. inr (inl is)) name status rose named printed
unread_end other status before now failed rose named printed = absurd cc

unwritten_end : (name : List ℕ) (fail : WriteFail) (status : ℕ) (before now : Outside) → HasCause before.store.faults now.store.faults (is_write_failure fail)
    → NamesLast (name_if (is_write_failure fail) name) before.store.failed now.store.failed → IsUnwrittenPrinted name fail status before.sink now.sink → IsHighEnd status before now
unwritten_end name write.Failed status before now cause named printed = fault_end unwritten_line before now (λ is. inr (inr is)) name status (cause.rose refl) named printed
unwritten_end name write.Memory status before now cause named printed = out_end status before now printed

cut_end : (list : List MemFile) (status : ℕ) (before now : Outside) → IsWriteCut list status before now → IsHighEnd status before now
cut_end list status before now cut = unwritten_end cut.file.name cut.fail status before now cut.cause cut.named cut.printed

-- a run that ends so
high_run : (m : Making) (status : ℕ) (before now : Outside) → IsHighEnd status before now → IsMakingEnd m status before now → IsMakingRun m status before now
high_run m status before now h end =
    let high = h.high in
    record {
      range = h.range;
      kinds = λ below. absurd (omega (arith, high, below));
      clean = λ below. absurd (omega (arith, high, below));
      done = λ zero. absurd (omega (arith, high, zero));
      held = λ zero. absurd (omega (arith, high, zero));
      refused = λ three. absurd (omega (arith, high, three));
      fault = h.fault;
      named = h.named;
      memory_clean = h.memory_clean;
      end = end;
    }

pub three : (a b c : Bool) → a ≡ false → b ≡ false → c ≡ false → ◌≡◌ {A = ℕ} (if a then 5 else (if b then 4 else (if c then 2 else 3))) 3
three true b c e f g = absurd cc
three false true c e f g = absurd cc
three false false true e f g = absurd cc
three false false false e f g = refl

refused_end : (m : Making) (status : ℕ) (before now : Outside) (r : IsWorkRefused m status before now) → IsRefusalPrinted r.refusal status before.sink now.sink → IsMakingRun m status before now
refused_end m status before now r (inl memory) = high_run m status before now (out_end status before now memory.1) (inr (inr (inl r)))
refused_end m status before now r (inr (inl unread)) = high_run m status before now (unread_end r.refusal status before now unread.0 (r.cause.rose unread.0) r.named unread.1) (inr (inr (inl r)))
refused_end m status before now r (inr (inr (some, read, inl whole))) =
    let is : status ≡ 3 = whole.is ∙ three (is_memory r.refusal) (is_read_failure r.refusal) (is_usage r.refusal) some read r.no_usage in
    let line = reply_line (refusal_words r.refusal) in
    record {
      range = omega (arith, is);
      kinds = λ below. inr is;
      clean = λ below. (r.cause.kept read, whole.kept);
      done = λ zero. absurd (omega (arith, is, zero));
      held = λ zero. absurd (omega (arith, is, zero));
      refused = λ at. record {
        refusal = r.refusal;
        is_input = three (is_memory r.refusal) (is_read_failure r.refusal) (is_usage r.refusal) some read r.no_usage;
        work = told_map before.store.files (λ files. UnlessMemory (IsMakingWork m files) (Err r.refusal)) (λ files. IsMakingWork m files (Err r.refusal)) (λ files work. work some) r.work;
        files = r.files;
        printed = grows (IsWholeText (lines_text (line ∷ []))) (IsWholeText line) before.sink.text now.sink.text (λ text same. same ∙ append-nil line) whole.text;
        put = whole.puts;
      };
      fault = λ four. absurd (omega (arith, is, four));
      named = λ four. absurd (omega (arith, is, four));
      memory_clean = λ five. whole.kept;
      end = inr (inr (inl r));
    }
refused_end m status before now r (inr (inr (some, read, inr (inl cut)))) = high_run m status before now (four_end status before now cut.is (inr cut.rose) (inl cut.rose)) (inr (inr (inl r)))
refused_end m status before now r (inr (inr (some, read, inr (inr stopped)))) = high_run m status before now (five_end status before now stopped.is stopped.kept) (inr (inr (inl r)))

refused_run : (m : Making) (status : ℕ) (before now : Outside) → IsWorkRefused m status before now → IsMakingRun m status before now
refused_run m status before now r = refused_end m status before now r r.printed

put_end : (m : Making) (status : ℕ) (before now : Outside) (p : IsPut m status before now) → IsFinished p.made.reply status before.sink now.sink → IsMakingRun m status before now
put_end m status before now p (inl whole) =
    let is : status ≡ 0 = whole.is ∙ p.success in
    record {
      range = omega (arith, is);
      kinds = λ below. inl is;
      clean = λ below. (p.kept, whole.kept);
      done = λ zero. record { made = p.made; work = p.work; files = p.files; printed = whole.text; puts = whole.puts };
      held = λ zero. told_held m p.made before.store.files now.store.files p.work p.files;
      refused = λ three. absurd (omega (arith, is, three));
      fault = λ four. absurd (omega (arith, is, four));
      named = λ four. absurd (omega (arith, is, four));
      memory_clean = λ five. whole.kept;
      end = inr (inr (inr (inr p)));
    }
put_end m status before now p (inr (inl cut)) = high_run m status before now (four_end status before now cut.is (inr cut.rose) (inl cut.rose)) (inr (inr (inr (inr p))))
put_end m status before now p (inr (inr stopped)) = high_run m status before now (five_end status before now stopped.is stopped.kept) (inr (inr (inr (inr p))))

put_run : (m : Making) (status : ℕ) (before now : Outside) → IsPut m status before now → IsMakingRun m status before now
put_run m status before now p = put_end m status before now p p.printed

view_run : (m : Making) (status : ℕ) (before now : Outside) → IsViewCut m status before now → IsMakingRun m status before now
view_run m status before now v = high_run m status before now (cut_end _ status before now v.cut) (inr (inr (inr (inl v))))

-- memory ran out before anything was written
pub unstarted_run : (m : Making) (status : ℕ) (store : StoreState) (before now : SinkState) → IsOutOfMemory status before now → IsMakingRun m status (outside_at store before) (outside_at store now)
unstarted_run m status store before now printed =
    high_run m status (outside_at store before) (outside_at store now) (out_end status (outside_at store before) (outside_at store now) printed) (inl (record { same = refl; printed = printed }))

-- one of the first files couldn't be written
pub first_run : (m : Making) (status : ℕ) (before now : Outside) → IsWriteCut (first_files m) status before now → IsMakingRun m status before now
first_run m status before now cut = high_run m status before now (cut_end (first_files m) status before now cut) (inr (inl cut))

-- a run that writes nothing before the work, which ended with a refusal
pub work_refused : (m : Making) → first_files m ≡ [] → (refusal : Refusal) (status : ℕ) (before now : StoreState) (start end : SinkState) → ReadsFilesOnly m refusal
    → HasRead (λ files. IsMakingWork m files) (Err refusal) before now → is_usage refusal ≡ false → IsRefusalPrinted refusal status start end
    → IsMakingRun m status (outside_at before start) (outside_at now end)
work_refused m none refusal status before now start end reads read usage printed =
    refused_run m status (outside_at before start) (outside_at now end) (record {
      refusal = refusal;
      no_usage = usage;
      reads = reads;
      work = read.told;
      files = subst (λ (list : List MemFile). Told (AreWritten list) before.files now.files) (sym none) (told_same before.files now.files read.same);
      cause = read.cause;
      named = read.named;
      printed = printed;
    })

-- such a run whose work made views
pub work_put : (m : Making) → first_files m ≡ [] → (made : Made) (status : ℕ) (before mid : StoreState) (start : SinkState) (now : Outside)
    → HasRead (λ files. IsMakingWork m files) (Ok made) before mid → made.reply.status ≡ 0 → IsPutOut made status (outside_at mid start) now
    → IsMakingRun m status (outside_at before start) now
work_put m none made status before mid start now read success (inl cut) =
    view_run m status (outside_at before start) now (record {
      made = made;
      work = read.told;
      cut = subst (λ (list : List MemFile). IsWriteCut (list ++ made.views) status (outside_at before start) now) (sym none) (record {
        file = cut.file;
        fail = cut.fail;
        files = subst (λ (o : Option Files). Told (EndsAt made.views cut.file cut.fail) o now.store.files) read.same cut.files;
        cause = subst (λ (n : ℕ). HasCause n now.store.faults (is_write_failure cut.fail)) (read.cause.kept refl) cut.cause;
        named = names_on (name_if (is_write_failure cut.fail) cut.file.name) before.failed mid.failed now.store.failed read.named cut.named;
        printed = cut.printed;
      });
    })
work_put m none made status before mid start now read success (inr all) =
    put_run m status (outside_at before start) now (record {
      made = made;
      success = success;
      work = read.told;
      files =
          subst (λ (list : List MemFile). Told (AreWritten (list ++ made.views)) before.files now.store.files) (sym none)
          (subst (λ (o : Option Files). Told (AreWritten made.views) o now.store.files) read.same all.files);
      kept = all.kept ∙ read.cause.kept refl;
      unnamed = all.unnamed ∙ read.named;
      printed = all.printed;
    })

demo_put : (n : ℕ) (status : ℕ) (before mid : StoreState) (start : SinkState) (now : Outside)
    → Told (AreWritten (demo_files n)) before.files mid.files → mid.faults ≡ before.faults → mid.failed ≡ before.failed → (made : Made) → made.reply.status ≡ 0
    → IsWork (files_of (demo_files n)) (codes "demo.toml") (Ok made) → IsPutOut made status (outside_at mid start) now
    → IsMakingRun (demo n) status (outside_at before start) now
demo_put n status before mid start now written kept unnamed made success work (inl cut) =
    view_run (demo n) status (outside_at before start) now (record {
      made = made;
      work = told_all before.files (λ files. IsMakingWork (demo n) files (Ok made)) (λ files. work);
      cut = record {
        file = cut.file;
        fail = cut.fail;
        files = told_cut (demo_files n) made.views cut.file cut.fail before.files mid.files now.store.files written cut.files;
        cause = subst (λ (k : ℕ). HasCause k now.store.faults (is_write_failure cut.fail)) kept cut.cause;
        named = names_on (name_if (is_write_failure cut.fail) cut.file.name) before.failed mid.failed now.store.failed unnamed cut.named;
        printed = cut.printed;
      };
    })
demo_put n status before mid start now written kept unnamed made success work (inr all) =
    put_run (demo n) status (outside_at before start) now (record {
      made = made;
      success = success;
      work = told_all before.files (λ files. IsMakingWork (demo n) files (Ok made)) (λ files. work);
      files = told_then (demo_files n) made.views before.files mid.files now.store.files written all.files;
      kept = all.kept ∙ kept;
      unnamed = all.unnamed ∙ unnamed;
      printed = all.printed;
    })

-- a demonstration whose files are written
pub demo_built : (n : ℕ) (status : ℕ) (before mid : StoreState) (start : SinkState) (now : Outside)
    → Told (AreWritten (demo_files n)) before.files mid.files → mid.faults ≡ before.faults → mid.failed ≡ before.failed → IsDemoBuilt (demo_files n) status (outside_at mid start) now
    → IsMakingRun (demo n) status (outside_at before start) now
demo_built n status before mid start now written kept unnamed (inl made) = demo_put n status before mid start now written kept unnamed made.made made.success made.work made.out
demo_built n status before mid start now written kept unnamed (inr r) =
    let store = r.same in
    refused_run (demo n) status (outside_at before start) now (record {
      refusal = r.refusal;
      no_usage = r.no_usage;
      reads = r.no_read;
      work = told_all before.files (λ files. UnlessMemory (IsMakingWork (demo n) files) (Err r.refusal)) (λ files. r.work);
      files = subst (λ (s : StoreState). Told (AreWritten (demo_files n)) before.files s.files) (sym store) written;
      cause = subst (λ (s : StoreState). HasCause before.faults s.faults (is_read_failure r.refusal)) (sym store) (kept_cause before.faults mid.faults (is_read_failure r.refusal) kept r.no_read);
      named = subst (λ (s : StoreState). NamesLast (unread_name r.refusal) before.failed s.failed) (sym store)
          (subst (λ (name : Option (List ℕ)). NamesLast name before.failed mid.failed) (sym (no_name r.refusal r.no_read)) unnamed);
      printed = r.printed;
    })

-- a demonstration whose files are made
pub demo_run : (n : ℕ) (status : ℕ) (before : StoreState) (start : SinkState) (now : Outside) → IsDemoWritten (demo_files n) status (outside_at before start) now
    → IsMakingRun (demo n) status (outside_at before start) now
demo_run n status before start now (inl after) = demo_built n status before after.mid start now after.written after.kept after.unnamed after.built
demo_run n status before start now (inr cut) = first_run (demo n) status (outside_at before start) now cut
