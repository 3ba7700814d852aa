-- One step of the work after another.
use Rattle.std.proofs.Common.{◌≡◌, ℕ, List, Bool, false, Option, Some, None, Result, Ok, Err, refl, sym, ap, inr, inl, subst, ◌∙◌}
use Rattle.std.specs.Prelude.{IfOk, IfErr, IsErrAnd, MatchResult}
use Rattle.or_host.specs.Fault.{HasCause, NamesLast}
use Rattle.or_host.specs.Files.{Files}
use Rattle.reply_lines.specs.declared.refusal.Refusal.{Refusal}
use Rattle.reply_lines.specs.declared.refusal.Refusal.TheVariants.{ReadFailed}
use Rattle.reply_lines.specs.Statuses.{is_read_failure}
use Rattle.command_steps.specs.Outcome.{ValueOrFault, Then, UnlessMemory, is_read_failed, unread_name, unread_in}
use Rattle.or_host.specs.State.{StoreState}
use Rattle.command_steps.specs.Outside.{IfTold}
use Rattle.command_steps.specs.Reading.{HasRead}

-- what holds of any files holds of those that are told
pub told_all : (told : Option Files) (P : Files → Type 0) → ((files : Files) → P files) → IfTold told P
told_all None P all = tt
told_all (Some files) P all = all files

-- one thing leads to another
pub told_map : (told : Option Files) (P Q : Files → Type 0) → ((files : Files) → P files → Q files) → IfTold told P → IfTold told Q
told_map None P Q f p = tt
told_map (Some files) P Q f p = f files p

told_both : (told : Option Files) (P Q R : Files → Type 0) → ((files : Files) → P files → Q files → R files) → IfTold told P → IfTold told Q → IfTold told R
told_both None P Q R f p q = tt
told_both (Some files) P Q R f p q = f files p q

pub then_on : {X Y : Type 0} (P : Result X Refusal → Type 0) (Q : X → Result Y Refusal → Type 0) (x : X) (result : Result Y Refusal) → P (Ok x) → UnlessMemory (Q x) result → UnlessMemory (Then P Q) result
then_on P Q x (Ok y) p q = (x, p, q)
then_on P Q x (Err refusal) p q = λ lasts. inr (x, p, q lasts)

pub then_ends : {X Y : Type 0} (P : Result X Refusal → Type 0) (Q : X → Result Y Refusal → Type 0) (refusal : Refusal) → UnlessMemory P (Err refusal) → UnlessMemory (Then P Q) (Err refusal)
then_ends P Q refusal p = λ lasts. inl (p lasts)

-- no failed read, no name of one
pub no_name : (refusal : Refusal) → is_read_failure refusal ≡ false → unread_name refusal ≡ None
no_name (ReadFailed name) e = absurd cc
no_name other e = refl

no_name_in : {X : Type 0} (result : Result X Refusal) → is_read_failed result ≡ false → unread_in result ≡ None
no_name_in (Ok x) e = refl
no_name_in (Err refusal) e = no_name refusal e

-- a call that doesn't fail, and then another
pub names_on : (name before mid now : Option (List ℕ)) → mid ≡ before → NamesLast name mid now → NamesLast name before now
names_on name before mid now kept named = subst (λ (o : Option (List ℕ)). NamesLast name o now) kept named

-- reads, one after another
pub read_on : {X Y : Type 0} (P : Files → Result X Refusal → Type 0) (Q : Files → X → Result Y Refusal → Type 0) (x : X) (result : Result Y Refusal) (before mid now : StoreState)
    → HasRead P (Ok x) before mid → HasRead (λ files. Q files x) result mid now → HasRead (λ files. Then (P files) (Q files)) result before now
read_on {X} {Y} P Q x result before mid now p q = record {
  told =
      told_both before.files (λ files. P files (Ok x)) (λ files. UnlessMemory (Q files x) result) (λ files. UnlessMemory (Then (P files) (Q files)) result) (λ files. then_on (P files) (Q files) x result) p.told
      (subst (λ (told : Option Files). IfTold told (λ files. UnlessMemory (Q files x) result)) p.same q.told);
  same = q.same ∙ p.same;
  cause = subst (λ (n : ℕ). HasCause n now.faults (is_read_failed result)) (p.cause.kept refl) q.cause;
  named = names_on (unread_in result) before.failed mid.failed now.failed p.named q.named;
}

-- a read, and then a step that reads nothing
pub read_then : {X Y : Type 0} (P : Files → Result X Refusal → Type 0) (Q : X → Result Y Refusal → Type 0) (x : X) (result : Result Y Refusal) (before now : StoreState)
    → HasRead P (Ok x) before now → UnlessMemory (Q x) result → is_read_failed result ≡ false → HasRead (λ files. Then (P files) Q) result before now
read_then {X} {Y} P Q x result before now p q pure = record {
  told = told_map before.files (λ files. P files (Ok x)) (λ files. UnlessMemory (Then (P files) Q) result) (λ files at. then_on (P files) Q x result at q) p.told;
  same = p.same;
  cause = subst (λ (failed : Bool). HasCause before.faults now.faults failed) (sym pure) p.cause;
  named = subst (λ (name : Option (List ℕ)). NamesLast name before.failed now.failed) (sym (no_name_in result pure)) p.named;
}

-- a read that ends the work
pub read_ends : {X Y : Type 0} (P : Files → Result X Refusal → Type 0) (Q : Files → X → Result Y Refusal → Type 0) (refusal : Refusal) (before now : StoreState)
    → HasRead P (Err refusal) before now → HasRead (λ files. Then (P files) (Q files)) (Err refusal) before now
read_ends {X} {Y} P Q refusal before now p = record {
  told = told_map before.files (λ files. UnlessMemory (P files) (Err refusal)) (λ files. UnlessMemory (Then (P files) (Q files)) (Err refusal)) (λ files. then_ends (P files) (Q files) refusal) p.told;
  same = p.same;
  cause = p.cause;
  named = p.named;
}

-- what `map_err` makes of a value or a fault
abbrev pub Said : {X F : Type 0} → (F → Refusal) → Result X F → Result X Refusal → Type 0
Said say value result = MatchResult value (λ x. result ≡ Ok x) (λ fault. IsErrAnd result (λ refusal. refusal ≡ say fault))

pub said_value : {X F : Type 0} (Q : X → Type 0) (say : F → Refusal) (value : Result X F) (result : Result X Refusal) → IfOk value Q → Said say value result → IfOk result Q
said_value {X} {F} Q say (Ok x) result good said = subst (λ (r : Result X Refusal). IfOk r Q) (sym said) good
said_value Q say (Err fault) (Ok x) good said = absurd said
said_value Q say (Err fault) (Err refusal) good said = tt

pub said_fault : {X F : Type 0} (P : F → Type 0) (say : F → Refusal) (value : Result X F) (refusal : Refusal) → IfErr value P → Said say value (Err refusal) → (fault : F) × P fault × (refusal ≡ say fault)
said_fault P say (Ok x) refusal bad said = absurd cc
said_fault P say (Err fault) refusal bad said = (fault, bad, said)

pub said_outcome : {X F : Type 0} (Q : X → Type 0) (P : F → Type 0) (say : F → Refusal) (value : Result X F) (result : Result X Refusal)
    → IfOk value Q → IfErr value P → Said say value result → UnlessMemory (ValueOrFault Q P say) result
said_outcome Q P say value (Ok x) good bad said = said_value Q say value (Ok x) good said
said_outcome Q P say value (Err refusal) good bad said = λ lasts. said_fault P say value refusal bad said

-- a read, and then a step that reads nothing, whose fault is refused
pub read_said : {X Y F : Type 0} (P : Files → Result X Refusal → Type 0) (Q : X → Y → Type 0) (R : X → F → Type 0) (say : F → Refusal) (x : X) (value : Result Y F) (result : Result Y Refusal)
    (before now : StoreState)
    → ((fault : F) → is_read_failure (say fault) ≡ false) → HasRead P (Ok x) before now → IfOk value (Q x) → IfErr value (R x) → Said say value result
    → HasRead (λ files. Then (P files) (λ y. ValueOrFault (Q y) (R y) say)) result before now
read_said P Q R say x value (Ok y) before now pure read good bad said =
    read_then P (λ y. ValueOrFault (Q y) (R y) say) x (Ok y) before now read (said_value (Q x) say value (Ok y) good said) refl
read_said P Q R say x value (Err refusal) before now pure read good bad said =
    let told = said_fault (R x) say value refusal bad said in
    read_then P (λ y. ValueOrFault (Q y) (R y) say) x (Err refusal) before now read (λ lasts. told) (ap is_read_failure told.2 ∙ pure told.0)
