-- Steps that read nothing, before or after those that read.
use Rattle.std.proofs.Common.{◌≡◌, ℕ, List, Bool, true, false, Option, Result, Ok, Err, ◌<◌, refl, sym, ap, subst, inl, ◌∙◌, arith}
use Rattle.or_host.specs.Fault.{HasCause, NamesLast}
use Rattle.or_host.specs.Files.{Files}
use Rattle.reply_lines.specs.Statuses.{is_memory, is_read_failure, is_usage}
use Rattle.reply_lines.specs.declared.refusal.Refusal.{Refusal}
use Rattle.reply_lines.specs.declared.refusal.Refusal.TheVariants.{Memory}
use Rattle.command_steps.proofs.OutcomeLaws.{told_all, told_map, then_on, no_name}
use Rattle.command_steps.specs.Outcome.{Then, UnlessMemory}
use Rattle.or_host.specs.State.{StoreState}
use Rattle.command_steps.specs.Reading.{HasRead}

-- a step that reads nothing, and then one that reads
pub step_on : {X Y : Type 0} (P : Result X Refusal → Type 0) (Q : Files → X → Result Y Refusal → Type 0) (x : X) (result : Result Y Refusal) (before now : StoreState)
    → P (Ok x) → HasRead (λ files. Q files x) result before now → HasRead (λ files. Then P (Q files)) result before now
step_on {X} {Y} P Q x result before now p q = record {
  told = told_map before.files (λ files. UnlessMemory (Q files x) result) (λ files. UnlessMemory (Then P (Q files)) result) (λ files is. then_on P (Q files) x result p is) q.told;
  same = q.same;
  cause = q.cause;
  named = q.named;
}

-- no fault
pub kept_cause : (before now : ℕ) (failed : Bool) → now ≡ before → failed ≡ false → HasCause before now failed
kept_cause before now failed kept none = record {
  later = omega (arith, kept);
  rose = λ yes. let both : ◌≡◌ {A = Bool} true false = sym yes ∙ none in absurd cc;
  kept = λ yes. kept;
  fits = λ fits. omega (arith, kept, fits);
}

-- a step that reads nothing and ends the work
pub step_ends : {X Y : Type 0} (P : Result X Refusal → Type 0) (Q : Files → X → Result Y Refusal → Type 0) (refusal : Refusal) (store : StoreState)
    → UnlessMemory P (Err refusal) → is_read_failure refusal ≡ false → HasRead (λ files. Then P (Q files)) (Err refusal) store store
step_ends {X} {Y} P Q refusal store p none = record {
  told = told_all store.files (λ files. UnlessMemory (Then P (Q files)) (Err refusal)) (λ files lasts. inl (p lasts));
  same = refl;
  cause = kept_cause store.faults store.faults (is_read_failure refusal) refl none;
  named = subst (λ (name : Option (List ℕ)). NamesLast name store.failed store.failed) (sym (no_name refusal none)) refl;
}

-- a store that counts no faults fails no read
pub no_failure : (failed : Bool) → HasCause 0 0 failed → failed ≡ false
no_failure true cause = let none : 0 < 0 = cause.rose refl (omega arith) in absurd (omega (arith, none))
no_failure false cause = refl

-- want of memory may come in place of each outcome; it is no failed read, and the words are a form
pub memory_instead : {X : Type 0} (P : Result X Refusal → Type 0) (refusal : Refusal) → refusal ≡ Memory → UnlessMemory P (Err refusal)
memory_instead P refusal is lasts = let both : ◌≡◌ {A = Bool} true false = sym (ap is_memory is) ∙ lasts in absurd cc

pub memory_reads : (refusal : Refusal) → refusal ≡ Memory → is_read_failure refusal ≡ false
memory_reads refusal is = ap is_read_failure is

pub memory_words : (refusal : Refusal) → refusal ≡ Memory → is_usage refusal ≡ false
memory_words refusal is = ap is_usage is
