-- Files written one after another.
use Rattle.std.proofs.Common.{◌≡◌, ℕ, ◌+◌, ◌<◌, List, [], ◌∷◌, ◌++◌, length, get_or, drop, take, Option, Some, None, Ok, Err, refl, sym, ap, subst, ◌∙◌, take-append-drop}
use Rattle.or_geom.proofs.ListLaws.{rest_at}
use Rattle.spice_netlist.proofs.ListLaws.{front_at}
use Rattle.or_host.specs.Fault.{NamesLast, IsNameTold, name_if}
use Rattle.or_host.specs.Files.{Files, Holds, HoldsPart, Told, Writes, write_failed}
use Rattle.or_host.specs.declared.file.MemFile.{MemFile}
use Rattle.or_host.specs.declared.store.WriteFail.{WriteFail}
use Rattle.or_host.specs.declared.store.WriteFail.TheVariants as write
use Rattle.command_steps.specs.Writing.{AreWritten, AreWrittenBefore, EndsAt, is_write_failure}

-- one file more
pub written_on : (files : List MemFile) (file : MemFile) (before mid now : Files) → AreWritten files before mid → Holds mid now file.name file.bytes → AreWritten (files ++ file ∷ []) before now
written_on [] file before mid now are holds = (now, subst (λ (m : Files). Holds m now file.name file.bytes) are holds, refl)
written_on (f ∷ fs) file before mid now are holds = (are.0, are.1, written_on fs file are.0 mid now are.2 holds)

-- and then all of another list
pub written_both : (first second : List MemFile) (before mid now : Files) → AreWritten first before mid → AreWritten second mid now → AreWritten (first ++ second) before now
written_both [] second before mid now are more = subst (λ (m : Files). AreWritten second m now) are more
written_both (f ∷ fs) second before mid now are more = (are.0, are.1, written_both fs second are.0 mid now are.2 more)

pub told_on : (files : List MemFile) (i : ℕ) (file : MemFile) (name bytes : List ℕ) (before mid now : Option Files) → i < length files → file ≡ get_or files i file → name ≡ file.name → bytes ≡ file.bytes
    → Told (AreWritten (take i files)) before mid → Writes mid now name bytes (Ok tt) → Told (AreWritten (take (i + 1) files)) before now
told_on files i file name bytes None mid now lt is named held are writes = tt
told_on files i file name bytes (Some b) None now lt is named held are writes = absurd are
told_on files i file name bytes (Some b) (Some m) None lt is named held are writes = absurd writes
told_on files i file name bytes (Some b) (Some m) (Some n) lt is named held are writes =
    let here : Holds m n file.name file.bytes = subst (λ (x : List ℕ). Holds m n x file.bytes) named (subst (λ (x : List ℕ). Holds m n name x) held writes) in
    subst (λ (l : List MemFile). AreWritten l b n) (sym (front_at files i file lt is)) (written_on (take i files) file b m n are here)

-- the files before one, it, and those after it
split_at : (files : List MemFile) (i : ℕ) (file : MemFile) → i < length files → file ≡ get_or files i file → files ≡ take i files ++ file ∷ drop (i + 1) files
split_at files i file lt is = sym (take-append-drop i files) ∙ ap (λ (l : List MemFile). take i files ++ l) (rest_at files i file lt is)

pub told_end : (files : List MemFile) (i : ℕ) (file : MemFile) (name bytes : List ℕ) (fail : WriteFail) (before mid now : Option Files) → i < length files → file ≡ get_or files i file → name ≡ file.name → bytes ≡ file.bytes
    → Told (AreWritten (take i files)) before mid → Writes mid now name bytes (Err fail) → Told (EndsAt files file fail) before now
told_end files i file name bytes fail None mid now lt is named held are writes = tt
told_end files i file name bytes fail (Some b) None now lt is named held are writes = absurd are
told_end files i file name bytes write.Failed (Some b) (Some m) None lt is named held are writes = absurd writes
told_end files i file name bytes write.Failed (Some b) (Some m) (Some n) lt is named held are writes =
    let part : HoldsPart m n file.name file.bytes = subst (λ (x : List ℕ). HoldsPart m n x file.bytes) named (subst (λ (x : List ℕ). HoldsPart m n name x) held writes) in
    record { whole = take i files; untouched = drop (i + 1) files; parts = split_at files i file lt is; mid = m; written = are; part = part }
told_end files i file name bytes write.Memory (Some b) (Some m) now lt is named held are writes =
    subst (λ (o : Option Files). Told (AreWrittenBefore files file) (Some b) o) (sym writes)
    (record { whole = take i files; untouched = drop (i + 1) files; parts = split_at files i file lt is; written = are })

-- the last call that failed, where writing ended
pub named_end : (fail : WriteFail) (text name : List ℕ) (before mid now : Option (List ℕ)) → text ≡ name → mid ≡ before → NamesLast (name_if (write_failed (Err fail)) text) mid now → NamesLast (name_if (is_write_failure fail) name) before now
named_end write.Failed text name before mid now is kept named = subst (λ (n : List ℕ). IsNameTold now n) is named
named_end write.Memory text name before mid now is kept named = named ∙ kept
