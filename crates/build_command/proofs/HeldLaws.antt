-- Where all is written, the files hold the views.
use Rattle.std.proofs.Common.{◌≡◌, ◌≢◌, ℕ, Bool, true, false, List, [], ◌∷◌, ◌++◌, Option, Some, None, Ok, refl, sym, ap, subst, ◌∙◌}
use Rattle.std.proofs.lemmas.List.{append_cancel_left}
use Rattle.std.specs.Prelude.{codes, nat_eq, slice_index_or}
use Rattle.std.specs.List.{AllByRecursion}
use Rattle.or_host.specs.Files.{Files, Told}
use Rattle.or_host.specs.declared.file.MemFile.{MemFile}
use Rattle.macro_build.specs.declared.built.Built.{Built}
use Rattle.sram_plan.specs.declared.config.Config.{Config}
use Rattle.command_steps.specs.Outside.{IfTold}
use Rattle.command_steps.specs.Writing.{AreWritten}
use Rattle.build_command.specs.declared.made.Made.{Made}
use Rattle.build_command.specs.Held.{first_files, HoldViews, IsMemoryHeld, IsOrdered}
use Rattle.build_command.specs.Made.{IsMadeOf, Ordered, order_of, order_of_rom, view_name, views}
use Rattle.build_command.specs.Run.{IsMakingWork}
use Rattle.build_command.specs.Words.{Making}
use Rattle.build_command.specs.Words.Making.{build, demo, rom}

-- a name of none of the files holds what it held
other_kept : (files : List MemFile) (name : List ℕ) (before now : Files) → AllByRecursion (λ (file : MemFile). name ≢ file.name) files → AreWritten files before now → now name ≡ before name
other_kept [] name before now none same = ap (λ (f : Files). f name) same
other_kept (file ∷ files) name before now none written = other_kept files name written.0 now none.1 written.2 ∙ written.1.others name none.0

-- the last file of a name is what the name holds
last_held : (file : MemFile) (files : List MemFile) (before now : Files) → AllByRecursion (λ (other : MemFile). file.name ≢ other.name) files → AreWritten (file ∷ files) before now
    → now file.name ≡ Some file.bytes
last_held file files before now none written = other_kept files file.name written.0 now none written.2 ∙ written.1.here

-- the files that are written later
later_written : (first second : List MemFile) (before now : Files) → AreWritten (first ++ second) before now → (mid : Files) × AreWritten second mid now
later_written [] second before now written = (before, written)
later_written (file ∷ first) second before now written = later_written first second written.0 now written.2

-- names differ whose endings have other letters behind the dot
letters_differ : (one other : List ℕ) (letter : ℕ) → nat_eq (slice_index_or one 1 0) letter ≡ true → nat_eq (slice_index_or other 1 0) letter ≡ false → one ≢ other
letters_differ one other letter here there same =
    let both : ◌≡◌ {A = Bool} true false = sym here ∙ ap (λ (l : List ℕ). nat_eq (slice_index_or l 1 0) letter) same ∙ there in absurd cc

endings_differ : (name one other : List ℕ) (letter : ℕ) → nat_eq (slice_index_or one 1 0) letter ≡ true → nat_eq (slice_index_or other 1 0) letter ≡ false → (name ++ one) ≢ (name ++ other)
endings_differ name one other letter here there same = letters_differ one other letter here there (append_cancel_left name one other same)

views_held : (config : Config) (built : Built) (before now : Files) → AreWritten (views config built) before now → HoldViews (view_name config) built now
views_held config built before now written =
    let name = view_name config in
    let differ = endings_differ name in
    let sp : MemFile = record { name = name ++ codes ".sp"; bytes = built.spice.items } in
    let gds : MemFile = record { name = name ++ codes ".gds"; bytes = built.gds.items } in
    let lef : MemFile = record { name = name ++ codes ".lef"; bytes = built.lef.items } in
    let v : MemFile = record { name = name ++ codes ".v"; bytes = built.verilog.items } in
    let after_sp : AllByRecursion (λ (other : MemFile). sp.name ≢ other.name) (gds ∷ lef ∷ v ∷ []) =
    (differ (codes ".sp") (codes ".gds") 115 refl refl, (differ (codes ".sp") (codes ".lef") 115 refl refl, (differ (codes ".sp") (codes ".v") 115 refl refl, tt))) in
    let after_gds : AllByRecursion (λ (other : MemFile). gds.name ≢ other.name) (lef ∷ v ∷ []) =
    (differ (codes ".gds") (codes ".lef") 103 refl refl, (differ (codes ".gds") (codes ".v") 103 refl refl, tt)) in
    let after_lef : AllByRecursion (λ (other : MemFile). lef.name ≢ other.name) (v ∷ []) = (differ (codes ".lef") (codes ".v") 108 refl refl, tt) in
    record {
      netlist = last_held sp (gds ∷ lef ∷ v ∷ []) before now after_sp written;
      layout = last_held gds (lef ∷ v ∷ []) written.0 now after_gds written.2;
      abstract = last_held lef (v ∷ []) written.2.0 now after_lef written.2.2;
      behaviour = last_held v [] written.2.2.0 now tt written.2.2.2;
    }

-- what the files ask for, and what is made of it
pub record IsMadeFor (m : Making) (made : Made) (before : Files) : Type 0 where
  pub order : Ordered
  pub is_ordered : IsOrdered m before order
  pub made_of : IsMadeOf order made

made_for : (m : Making) (made : Made) (before : Files) → IsMakingWork m before (Ok made) → IsMadeFor m made before
made_for (build config) made before work = record { order = order_of work.0; is_ordered = (work.0, work.1, refl); made_of = work.2 }
made_for (demo n) made before work = record { order = order_of work.0; is_ordered = (work.0, work.1, refl); made_of = work.2 }
made_for (rom config content) made before work = record { order = order_of_rom work.0; is_ordered = (work.0, work.1, refl); made_of = work.2 }

held_for : (m : Making) (made : Made) (before now : Files) → IsMadeFor m made before → AreWritten (first_files m ++ made.views) before now → IsMemoryHeld m before now
held_for m made before now is written =
    let order = is.order in
    let built = is.made_of.built in
    let same : made.views ≡ views order.config built = ap (λ (it : Made). it.views) is.made_of.is in
    let later = later_written (first_files m) made.views before now written in
    record {
      order = order;
      is_ordered = is.is_ordered;
      built = built;
      is_built = is.made_of.is_built;
      held = views_held order.config built later.0 now (subst (λ (list : List MemFile). AreWritten list later.0 now) same later.1);
    }

held_by : (m : Making) (made : Made) (before now : Files) → IsMakingWork m before (Ok made) → AreWritten (first_files m ++ made.views) before now → IsMemoryHeld m before now
held_by m made before now work written = held_for m made before now (made_for m made before work) written

pub told_held : (m : Making) (made : Made) (before now : Option Files) → IfTold before (λ files. IsMakingWork m files (Ok made)) → Told (AreWritten (first_files m ++ made.views)) before now
    → Told (IsMemoryHeld m) before now
told_held m made None now work written = tt
told_held m made (Some b) None work written = absurd written
told_held m made (Some b) (Some n) work written = held_by m made b n work written
