-- Files written in two turns.
use Rattle.std.proofs.Common.{◌≡◌, List, [], ◌∷◌, ◌++◌, Option, Some, None, sym, ap, ◌∙◌, append_assoc}
use Rattle.std.proofs.lemmas.Option.{same_Some}
use Rattle.or_host.specs.Files.{Files, Told}
use Rattle.or_host.specs.declared.file.MemFile.{MemFile}
use Rattle.or_host.specs.declared.store.WriteFail.{WriteFail}
use Rattle.or_host.specs.declared.store.WriteFail.TheVariants as write
use Rattle.command_steps.specs.Writing.{AreWritten, EndsAt}
use Rattle.command_steps.proofs.WriteLaws.{written_both}

-- nothing is written
pub told_same : (before now : Option Files) → now ≡ before → Told (AreWritten []) before now
told_same None now e = tt
told_same (Some b) None e = absurd cc
told_same (Some b) (Some n) e = same_Some n b e

pub told_then : (first second : List MemFile) (before mid now : Option Files) → Told (AreWritten first) before mid → Told (AreWritten second) mid now → Told (AreWritten (first ++ second)) before now
told_then first second None mid now f g = tt
told_then first second (Some b) None now f g = absurd f
told_then first second (Some b) (Some m) None f g = absurd g
told_then first second (Some b) (Some m) (Some n) f g = written_both first second b m n f g

pub told_cut : (first second : List MemFile) (file : MemFile) (fail : WriteFail) (before mid now : Option Files)
    → Told (AreWritten first) before mid → Told (EndsAt second file fail) mid now → Told (EndsAt (first ++ second) file fail) before now
told_cut first second file fail None mid now f g = tt
told_cut first second file fail (Some b) None now f g = absurd f
told_cut first second file fail (Some b) (Some m) None f g = absurd g
told_cut first second file write.Failed (Some b) (Some m) (Some n) f g = record {
  whole = first ++ g.whole;
  untouched = g.untouched;
  parts = ap (λ (l : List MemFile). first ++ l) g.parts ∙ sym (append_assoc first g.whole (file ∷ g.untouched));
  mid = g.mid;
  written = written_both first g.whole b m g.mid f g.written;
  part = g.part;
}
told_cut first second file write.Memory (Some b) (Some m) (Some n) f g = record {
  whole = first ++ g.whole;
  untouched = g.untouched;
  parts = ap (λ (l : List MemFile). first ++ l) g.parts ∙ sym (append_assoc first g.whole (file ∷ g.untouched));
  written = written_both first g.whole b m n f g.written;
}
